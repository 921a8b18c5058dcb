-- The numbers of the tags that a journal draws rise, whatever is called between.
use Rattle.std.proofs.Common.{◌≡◌, ◌≢◌, ℕ, ◌+◌, ◌<◌, List, [], ◌∷◌, ap, refl, arith}
use Rattle.std.specs.Prelude.{All, AllPairs}
use Rattle.std.proofs.lemmas.List.Elements.{All-nil, All-cons}
use Rattle.std.proofs.lemmas.List.Kept.{AllPairs-cons}
use Rattle.rbd_kinds.specs.declared.journal.JournalClient.{JournalClient}
use Rattle.rbd_kinds.specs.declared.journal.JournalClient.TheVariants.{Local, Mirror}
use Rattle.rbd_kinds.specs.declared.journal.Tag.{Tag}
use Rattle.rbd_journal.specs.Records.{JournalRecords, committed, tag_drawn}
use Rattle.rbd_journal.specs.Calls.{Call, Append, Commit, Register, Trim, Draw, called, next_tag, tags_drawn}

abbrev IsNew : JournalRecords → Tag → Type 0
IsNew j t = j.drawn < t.no

same_drawn : (client : JournalClient) (seq : ℕ) (j : JournalRecords) → (committed client seq j).drawn ≡ j.drawn
same_drawn Local seq j = refl
same_drawn Mirror seq j = refl

pub drawn_new : (calls : List Call) (j : JournalRecords) → All (IsNew j) (tags_drawn calls j)
drawn_new [] j = All-nil (IsNew j)
drawn_new (Append p frame ∷ calls) j = drawn_new calls (called (Append p frame) j)
drawn_new (Commit client seq ∷ calls) j = λ k d less.
    let same : (committed client seq j).drawn ≡ j.drawn = same_drawn client seq j in
    let later : (committed client seq j).drawn < _ = drawn_new calls (committed client seq j) k d less in
    omega arith
drawn_new (Register ∷ calls) j = drawn_new calls (called Register j)
drawn_new (Trim ∷ calls) j = drawn_new calls (called Trim j)
drawn_new (Draw site image ∷ calls) j =
    All-cons (IsNew j) (next_tag site image j) (tags_drawn calls (tag_drawn j)) (omega arith)
    (λ k d less. let later : j.drawn + 1 < _ = drawn_new calls (tag_drawn j) k d less in omega arith)

pub drawn_rising : (calls : List Call) (j : JournalRecords) → AllPairs (λ t u. t.no < u.no) (tags_drawn calls j)
drawn_rising [] j = λ i k d before less. omega arith
drawn_rising (Append p frame ∷ calls) j = drawn_rising calls (called (Append p frame) j)
drawn_rising (Commit client seq ∷ calls) j = drawn_rising calls (called (Commit client seq) j)
drawn_rising (Register ∷ calls) j = drawn_rising calls (called Register j)
drawn_rising (Trim ∷ calls) j = drawn_rising calls (called Trim j)
drawn_rising (Draw site image ∷ calls) j =
    AllPairs-cons (λ t u. t.no < u.no) (next_tag site image j) (tags_drawn calls (tag_drawn j))
    (drawn_new calls (tag_drawn j)) (drawn_rising calls (tag_drawn j))

pub drawn_once : (calls : List Call) (j : JournalRecords) → AllPairs (λ t u. t ≢ u) (tags_drawn calls j)
drawn_once calls j = λ i k d before less same.
    let rising = drawn_rising calls j i k d before less in
    let alike = ap (λ (t : Tag). t.no) same in
    omega arith
