-- The kind of an operation by its word.
use Rattle.std.proofs.Common.{◌≡◌, ◌≢◌, ℕ, true, false, Bool, List, [], ◌∷◌, Some, None, refl, sym, ap, ◌∙◌}
use Rattle.std.specs.Cmp.Lexicographic.{same_text}
use Rattle.rbd_kinds.specs.declared.operation_kind.OpKind.{OpKind}
use Rattle.rbd_kinds.specs.declared.operation_kind.OpKind.TheVariants as kind
use Rattle.rbd_kinds.specs.Operation.{op_word}
use Rattle.rbd_script.specs.Token.{is}
use Rattle.rbd_script.specs.Word.{all_kinds, with_word}

-- a word that none of some things has
none_with_word : {X : Type 0} (word : X → List ℕ) (xs : List X) (token : List ℕ) → ((x : X) → word x ≢ token) → with_word word xs token ≡ None
none_with_word word [] token none = refl
none_with_word {X = X} word (x ∷ xs) token none = go (is (word x) token) refl (none_with_word word xs token none)
  where
    go : (t : Bool) → is (word x) token ≡ t → with_word word xs token ≡ None → with_word word (x ∷ xs) token ≡ None
    go true told rest = absurd (none x (sym (same_text token (word x) (sym told))))
    go false told rest = rw told rest

-- each kind is the one of its word
pub kind_with_word : (k : OpKind) → with_word op_word all_kinds (op_word k) ≡ Some k
kind_with_word kind.DirFind = refl
kind_with_word kind.DirAdd = refl
kind_with_word kind.DirRemove = refl
kind_with_word kind.DirRename = refl
kind_with_word kind.DirList = refl
kind_with_word kind.ChildAdd = refl
kind_with_word kind.ChildRemove = refl
kind_with_word kind.ChildList = refl
kind_with_word kind.BlockAdd = refl
kind_with_word kind.HeaderCreate = refl
kind_with_word kind.HeaderGet = refl
kind_with_word kind.HeaderSetSize = refl
kind_with_word kind.HeaderSnapAdd = refl
kind_with_word kind.HeaderSnapRemove = refl
kind_with_word kind.HeaderSnapStatus = refl
kind_with_word kind.HeaderDetach = refl
kind_with_word kind.HeaderRole = refl
kind_with_word kind.HeaderMirror = refl
kind_with_word kind.HeaderSynced = refl
kind_with_word kind.HeaderRemove = refl
kind_with_word kind.LockTake = refl
kind_with_word kind.LockDrop = refl
kind_with_word kind.LockBreak = refl
kind_with_word kind.Watch = refl
kind_with_word kind.Unwatch = refl
kind_with_word kind.WatchersGet = refl
kind_with_word kind.Notify = refl
kind_with_word kind.DataRead = refl
kind_with_word kind.DataWrite = refl
kind_with_word kind.DataWriteFull = refl
kind_with_word kind.DataZero = refl
kind_with_word kind.DataEmpty = refl
kind_with_word kind.DataRemove = refl
kind_with_word kind.DataCopyUp = refl
kind_with_word kind.MapResize = refl
kind_with_word kind.MapGet = refl
kind_with_word kind.MapPut = refl
kind_with_word kind.MapSet = refl
kind_with_word kind.MapRemove = refl
kind_with_word kind.JournalCreate = refl
kind_with_word kind.JournalTag = refl
kind_with_word kind.JournalAppend = refl
kind_with_word kind.JournalRead = refl
kind_with_word kind.JournalSpans = refl
kind_with_word kind.JournalRegister = refl
kind_with_word kind.JournalCommit = refl
kind_with_word kind.JournalRemove = refl

pub some_kind : (k : OpKind) (token : List ℕ) → op_word k ≡ token → with_word op_word all_kinds token ≡ Some k
some_kind k token has = ap (with_word op_word all_kinds) (sym has) ∙ kind_with_word k

pub no_kind : (token : List ℕ) → ((k : OpKind) → op_word k ≢ token) → with_word op_word all_kinds token ≡ None
no_kind token none = none_with_word op_word all_kinds token none
