-- What is read as a command spells it.
use Rattle.std.proofs.Common.{◌≡◌, ℕ, ◌<◌, ◌^◌, cond, Bool, true, false, List, [], ◌∷◌, ◌++◌, Option, Some, None, Result, Ok, refl, sym, ap, ◌∙◌, subst, arith}
use Rattle.std.specs.Prelude.{codes, decimal}
use Rattle.std.proofs.lemmas.List.{append-nil}
use Rattle.std.specs.Cmp.Lexicographic.{same_text}
use Rattle.hex.specs.Hex.{encode_lower}
use Rattle.rbd_values.specs.Name.{IsAskedName}
use Rattle.rbd_commands.specs.declared.command.Command.{Command}
use Rattle.rbd_commands.specs.declared.command.Command.TheVariants as command
use Rattle.rbd_script.specs.declared.fault.LineCause.{LineCause}
use Rattle.rbd_script.specs.declared.verb.Verb.{Verb}
use Rattle.rbd_script.specs.declared.verb.Verb.TheVariants as verb
use Rattle.rbd_script.specs.declared.verb.ImageVerb.{ImageVerb}
use Rattle.rbd_script.specs.declared.verb.ImageVerb.TheVariants as image
use Rattle.rbd_script.specs.declared.snap.SnapVerb.{SnapVerb}
use Rattle.rbd_script.specs.declared.snap.SnapVerb.TheVariants as snap
use Rattle.rbd_script.specs.declared.snap.OfSnap.TheVariants as of_snap
use Rattle.rbd_script.specs.declared.mirror.MirrorVerb.{MirrorVerb}
use Rattle.rbd_script.specs.declared.mirror.MirrorVerb.TheVariants as mirror
use Rattle.rbd_script.specs.declared.mirror.OfMirrored.TheVariants as of_mirror
use Rattle.rbd_script.specs.Command.{command_form, command_of_tokens, mirror_command, mirror_form, shape, shape_parts, snap_command, snap_form}
use Rattle.rbd_script.specs.Form.{and_then}
use Rattle.rbd_script.specs.Number.{greatest}
use Rattle.rbd_script.specs.Part.{part_of, place}
use Rattle.rbd_script.specs.Part.Part.{Byte, Flag, Hex, Image, Number, Optional, Snap, Target}
use Rattle.rbd_script.specs.Spelling.{flag_tokens, option_tokens, snap_token, Spells, target_token}
use Rattle.rbd_script.specs.Verbs.{all_verbs, image_command, image_word, verb_of, verb_word}
use Rattle.rbd_script.specs.Word.{mirror_verb_of, mirror_word, snap_verb_of, snap_word, all_snap_verbs, all_mirror_verbs, with_word}
use Rattle.rbd_script.specs.Session.{known}
use Rattle.rbd_script.specs.Token.{is as same}
use Rattle.rbd_script.proofs.PartSpelling.{and_then_ok, form_says, IsForm, place_ok}
use Rattle.rbd_script.proofs.TokenSpelling.{ok_is}

abbrev Tokens : Type 0
Tokens = List (List ℕ)

-- words
pub found_word : {X : Type 0} (word : X → List ℕ) (xs : List X) (t : List ℕ) (x : X) → with_word word xs t ≡ Some x → t ≡ word x
found_word word [] t x found = cc
found_word {X = X} word (y ∷ xs) t x found = go (same (word y) t) refl found (found_word word xs t x)
  where
    go : (b : Bool) → same (word y) t ≡ b → cond b (Some y) (with_word word xs t) ≡ Some x → (with_word word xs t ≡ Some x → t ≡ word x) → t ≡ word x
    go true told found rest = let same : y ≡ x = cc in same_text t (word y) (sym told) ∙ ap word same
    go false told found rest = rest found

pub known_ok : {X : Type 0} (o : Option X) (x : X) → known o ≡ Ok x → o ≡ Some x
known_ok (Some y) x is = ap Some (ok_is {E = LineCause} y x is)
known_ok None x is = cc

verb_said : (t : List ℕ) (v : Verb) → verb_of t ≡ Ok v → t ≡ verb_word v
unfolding verb_of
verb_said t v is = found_word verb_word all_verbs t v (known_ok (with_word verb_word all_verbs t) v is)

snap_verb_said : (t : List ℕ) (v : SnapVerb) → snap_verb_of t ≡ Ok v → t ≡ snap_word v
unfolding snap_verb_of
snap_verb_said t v is = found_word snap_word all_snap_verbs t v (known_ok (with_word snap_word all_snap_verbs t) v is)

mirror_verb_said : (t : List ℕ) (v : MirrorVerb) → mirror_verb_of t ≡ Ok v → t ≡ mirror_word v
unfolding mirror_verb_of
mirror_verb_said t v is = found_word mirror_word all_mirror_verbs t v (known_ok (with_word mirror_word all_mirror_verbs t) v is)

-- What is read spells it.
on : (t : List ℕ) (ts us : Tokens) → ts ≡ us → t ∷ ts ≡ t ∷ us
on t ts us is = ap (λ x. t ∷ x) is

big : greatest < 2 ^ 64
big = omega arith

create_said : (ts : Tokens) (c : Command) → IsForm (Image ∷ Number greatest ∷ Optional (codes "object") greatest ∷ Optional (codes "unit") greatest ∷ Optional (codes "count") 4294967295 ∷ Flag (codes "journal") ∷ []) (λ i size object unit count journal. command.Create i size (shape object unit count journal)) ts c → Spells (codes "create" ∷ ts) c
create_said ts c f0 =
    let f1 = f0.3 in
    let s1 = f1.2 big in
    let f2 = f1.3 in
    let s2 = f2.2 big in
    let f3 = f2.3 in
    let s3 = f3.2 big in
    let f4 = f3.3 in
    let s4 = f4.2 (omega arith) in
    let f5 = f4.3 in
    let f6 = f5.3 in
    subst (λ (x : Command). Spells (codes "create" ∷ ts) x) f6.1 ((ap (λ (x : Tokens). codes "create" ∷ x) (f0.2.0 ∙ ap (λ (x : Tokens). f0.0 ∷ x) (s1.0 ∙ ap (λ (x : Tokens). decimal f1.0 ∷ x) (s2.0 ∙ ap (λ (x : Tokens). option_tokens (codes "object") f2.0 ++ x) (s3.0 ∙ ap (λ (x : Tokens). option_tokens (codes "unit") f3.0 ++ x) (s4.0 ∙ ap (λ (x : Tokens). option_tokens (codes "count") f4.0 ++ x) (f5.2 ∙ ap (λ (x : Tokens). flag_tokens (codes "journal") f5.0 ++ x) f6.0 ∙ append-nil (flag_tokens (codes "journal") f5.0)))))))), (f0.2.1, s1.1, record { object = s2.1; unit = s3.1; count = s4.1 }))

clone_said : (ts : Tokens) (c : Command) → IsForm (Snap ∷ Image ∷ Optional (codes "object") greatest ∷ Optional (codes "unit") greatest ∷ Optional (codes "count") 4294967295 ∷ Flag (codes "journal") ∷ []) (λ s i object unit count journal. command.Clone s.0 s.1 i (shape object unit count journal)) ts c → Spells (codes "clone" ∷ ts) c
clone_said ts c f0 =
    let f1 = f0.3 in
    let f2 = f1.3 in
    let s2 = f2.2 big in
    let f3 = f2.3 in
    let s3 = f3.2 big in
    let f4 = f3.3 in
    let s4 = f4.2 (omega arith) in
    let f5 = f4.3 in
    let f6 = f5.3 in
    subst (λ (x : Command). Spells (codes "clone" ∷ ts) x) f6.1 ((ap (λ (x : Tokens). codes "clone" ∷ x) (f0.2.0 ∙ ap (λ (x : Tokens). snap_token f0.0.0 f0.0.1 ∷ x) (f1.2.0 ∙ ap (λ (x : Tokens). f1.0 ∷ x) (s2.0 ∙ ap (λ (x : Tokens). option_tokens (codes "object") f2.0 ++ x) (s3.0 ∙ ap (λ (x : Tokens). option_tokens (codes "unit") f3.0 ++ x) (s4.0 ∙ ap (λ (x : Tokens). option_tokens (codes "count") f4.0 ++ x) (f5.2 ∙ ap (λ (x : Tokens). flag_tokens (codes "journal") f5.0 ++ x) f6.0 ∙ append-nil (flag_tokens (codes "journal") f5.0)))))))), ((f0.2.1, f0.2.2), f1.2.1, record { object = s2.1; unit = s3.1; count = s4.1 }))

write_said : (ts : Tokens) (c : Command) → IsForm (Image ∷ Number greatest ∷ Hex ∷ []) command.Write ts c → Spells (codes "write" ∷ ts) c
write_said ts c f0 =
    let f1 = f0.3 in
    let s1 = f1.2 big in
    let f2 = f1.3 in
    let f3 = f2.3 in
    subst (λ (x : Command). Spells (codes "write" ∷ ts) x) f3.1 ((ap (λ (x : Tokens). codes "write" ∷ x) (f0.2.0 ∙ ap (λ (x : Tokens). f0.0 ∷ x) (s1.0 ∙ ap (λ (x : Tokens). decimal f1.0 ∷ x) (f2.2.0 ∙ ap (λ (x : Tokens). encode_lower f2.0 ∷ x) f3.0)))), (f0.2.1, s1.1, f2.2.1))

fill_said : (ts : Tokens) (c : Command) → IsForm (Image ∷ Number greatest ∷ Number 1048576 ∷ Byte ∷ []) command.Fill ts c → Spells (codes "fill" ∷ ts) c
fill_said ts c f0 =
    let f1 = f0.3 in
    let s1 = f1.2 big in
    let f2 = f1.3 in
    let s2 = f2.2 (omega arith) in
    let f3 = f2.3 in
    let f4 = f3.3 in
    subst (λ (x : Command). Spells (codes "fill" ∷ ts) x) f4.1 ((ap (λ (x : Tokens). codes "fill" ∷ x) (f0.2.0 ∙ ap (λ (x : Tokens). f0.0 ∷ x) (s1.0 ∙ ap (λ (x : Tokens). decimal f1.0 ∷ x) (s2.0 ∙ ap (λ (x : Tokens). decimal f2.0 ∷ x) (f3.2.0 ∙ ap (λ (x : Tokens). encode_lower (f3.0 ∷ []) ∷ x) f4.0))))), (f0.2.1, s1.1, s2.1, f3.2.1))

discard_said : (ts : Tokens) (c : Command) → IsForm (Image ∷ Number greatest ∷ Number greatest ∷ []) command.Discard ts c → Spells (codes "discard" ∷ ts) c
discard_said ts c f0 =
    let f1 = f0.3 in
    let s1 = f1.2 big in
    let f2 = f1.3 in
    let s2 = f2.2 big in
    let f3 = f2.3 in
    subst (λ (x : Command). Spells (codes "discard" ∷ ts) x) f3.1 ((ap (λ (x : Tokens). codes "discard" ∷ x) (f0.2.0 ∙ ap (λ (x : Tokens). f0.0 ∷ x) (s1.0 ∙ ap (λ (x : Tokens). decimal f1.0 ∷ x) (s2.0 ∙ ap (λ (x : Tokens). decimal f2.0 ∷ x) f3.0)))), (f0.2.1, s1.1, s2.1))

read_said : (ts : Tokens) (c : Command) → IsForm (Target ∷ Number greatest ∷ Number 65536 ∷ []) (λ t at len. command.Read t.0 t.1 at len) ts c → Spells (codes "read" ∷ ts) c
read_said ts c f0 =
    let f1 = f0.3 in
    let s1 = f1.2 big in
    let f2 = f1.3 in
    let s2 = f2.2 (omega arith) in
    let f3 = f2.3 in
    subst (λ (x : Command). Spells (codes "read" ∷ ts) x) f3.1 ((ap (λ (x : Tokens). codes "read" ∷ x) (f0.2.0 ∙ ap (λ (x : Tokens). target_token f0.0.0 f0.0.1 ∷ x) (s1.0 ∙ ap (λ (x : Tokens). decimal f1.0 ∷ x) (s2.0 ∙ ap (λ (x : Tokens). decimal f2.0 ∷ x) f3.0)))), ((f0.2.1, f0.2.2), s1.1, s2.1))

resize_said : (ts : Tokens) (c : Command) → IsForm (Image ∷ Number greatest ∷ []) command.Resize ts c → Spells (codes "resize" ∷ ts) c
resize_said ts c f0 =
    let f1 = f0.3 in
    let s1 = f1.2 big in
    let f2 = f1.3 in
    subst (λ (x : Command). Spells (codes "resize" ∷ ts) x) f2.1 ((ap (λ (x : Tokens). codes "resize" ∷ x) (f0.2.0 ∙ ap (λ (x : Tokens). f0.0 ∷ x) (s1.0 ∙ ap (λ (x : Tokens). decimal f1.0 ∷ x) f2.0))), (f0.2.1, s1.1))

rename_said : (ts : Tokens) (c : Command) → IsForm (Image ∷ Image ∷ []) command.Rename ts c → Spells (codes "rename" ∷ ts) c
rename_said ts c f0 =
    let f1 = f0.3 in
    let f2 = f1.3 in
    subst (λ (x : Command). Spells (codes "rename" ∷ ts) x) f2.1 ((ap (λ (x : Tokens). codes "rename" ∷ x) (f0.2.0 ∙ ap (λ (x : Tokens). f0.0 ∷ x) (f1.2.0 ∙ ap (λ (x : Tokens). f1.0 ∷ x) f2.0))), (f0.2.1, f1.2.1))

list_said : (ts : Tokens) (c : Command) → IsForm [] command.List ts c → Spells (codes "ls" ∷ ts) c
list_said ts c f0 =
    subst (λ (x : Command). Spells (codes "ls" ∷ ts) x) f0.1 ((ap (λ (x : Tokens). codes "ls" ∷ x) f0.0), tt)

children_said : (ts : Tokens) (c : Command) → IsForm (Snap ∷ []) (λ s. command.Children s.0 s.1) ts c → Spells (codes "children" ∷ ts) c
children_said ts c f0 =
    let f1 = f0.3 in
    subst (λ (x : Command). Spells (codes "children" ∷ ts) x) f1.1 ((ap (λ (x : Tokens). codes "children" ∷ x) (f0.2.0 ∙ ap (λ (x : Tokens). snap_token f0.0.0 f0.0.1 ∷ x) f1.0)), (f0.2.1, f0.2.2))

tell_said : (ts : Tokens) (c : Command) → IsForm (Image ∷ Hex ∷ []) command.Tell ts c → Spells (codes "tell" ∷ ts) c
tell_said ts c f0 =
    let f1 = f0.3 in
    let f2 = f1.3 in
    subst (λ (x : Command). Spells (codes "tell" ∷ ts) x) f2.1 ((ap (λ (x : Tokens). codes "tell" ∷ x) (f0.2.0 ∙ ap (λ (x : Tokens). f0.0 ∷ x) (f1.2.0 ∙ ap (λ (x : Tokens). encode_lower f1.0 ∷ x) f2.0))), (f0.2.1, f1.2.1))

snap_list_said : (ts : Tokens) (c : Command) → IsForm (Image ∷ []) command.SnapList ts c → Spells (codes "snap" ∷ codes "ls" ∷ ts) c
snap_list_said ts c f0 =
    let f1 = f0.3 in
    subst (λ (x : Command). Spells (codes "snap" ∷ codes "ls" ∷ ts) x) f1.1 ((ap (λ (x : Tokens). codes "snap" ∷ x) (ap (λ (x : Tokens). codes "ls" ∷ x) (f0.2.0 ∙ ap (λ (x : Tokens). f0.0 ∷ x) f1.0))), f0.2.1)

promote_said : (ts : Tokens) (c : Command) → IsForm (Image ∷ Flag (codes "force") ∷ []) command.MirrorPromote ts c → Spells (codes "mirror" ∷ codes "promote" ∷ ts) c
promote_said ts c f0 =
    let f1 = f0.3 in
    let f2 = f1.3 in
    subst (λ (x : Command). Spells (codes "mirror" ∷ codes "promote" ∷ ts) x) f2.1 ((ap (λ (x : Tokens). codes "mirror" ∷ x) (ap (λ (x : Tokens). codes "promote" ∷ x) (f0.2.0 ∙ ap (λ (x : Tokens). f0.0 ∷ x) (f1.2 ∙ ap (λ (x : Tokens). flag_tokens (codes "force") f1.0 ++ x) f2.0 ∙ append-nil (flag_tokens (codes "force") f1.0))))), f0.2.1)

image_spells : (v : ImageVerb) (i : List ℕ) (ts : Tokens) → ts ≡ i ∷ [] → IsAskedName i → Spells (image_word v ∷ ts) (image_command v i)
image_spells image.Remove i ts are named = (ap (λ (x : Tokens). image_word image.Remove ∷ x) are, named)
image_spells v i ts are named = (ap (λ (x : Tokens). image_word v ∷ x) are, named)

word_said : (v : ImageVerb) (ts : Tokens) (c : Command) → IsForm (Image ∷ []) (image_command v) ts c → Spells (image_word v ∷ ts) c
word_said v ts c f0 =
    let f1 = f0.3 in
    subst (λ (x : Command). Spells (image_word v ∷ ts) x) f1.1 (image_spells v f0.0 ts (f0.2.0 ∙ ap (λ (x : Tokens). f0.0 ∷ x) f1.0) f0.2.1)

snap_create_said : (ts : Tokens) (c : Command) → IsForm (Snap ∷ []) (snap_command of_snap.Create) ts c → Spells (codes "snap" ∷ codes "create" ∷ ts) c
snap_create_said ts c f0 =
    let f1 = f0.3 in
    subst (λ (x : Command). Spells (codes "snap" ∷ codes "create" ∷ ts) x) f1.1 ((ap (λ (x : Tokens). codes "snap" ∷ x) (ap (λ (x : Tokens). codes "create" ∷ x) (f0.2.0 ∙ ap (λ (x : Tokens). snap_token f0.0.0 f0.0.1 ∷ x) f1.0))), (f0.2.1, f0.2.2))

snap_remove_said : (ts : Tokens) (c : Command) → IsForm (Snap ∷ []) (snap_command of_snap.Remove) ts c → Spells (codes "snap" ∷ codes "rm" ∷ ts) c
snap_remove_said ts c f0 =
    let f1 = f0.3 in
    subst (λ (x : Command). Spells (codes "snap" ∷ codes "rm" ∷ ts) x) f1.1 ((ap (λ (x : Tokens). codes "snap" ∷ x) (ap (λ (x : Tokens). codes "rm" ∷ x) (f0.2.0 ∙ ap (λ (x : Tokens). snap_token f0.0.0 f0.0.1 ∷ x) f1.0))), (f0.2.1, f0.2.2))

snap_protect_said : (ts : Tokens) (c : Command) → IsForm (Snap ∷ []) (snap_command of_snap.Protect) ts c → Spells (codes "snap" ∷ codes "protect" ∷ ts) c
snap_protect_said ts c f0 =
    let f1 = f0.3 in
    subst (λ (x : Command). Spells (codes "snap" ∷ codes "protect" ∷ ts) x) f1.1 ((ap (λ (x : Tokens). codes "snap" ∷ x) (ap (λ (x : Tokens). codes "protect" ∷ x) (f0.2.0 ∙ ap (λ (x : Tokens). snap_token f0.0.0 f0.0.1 ∷ x) f1.0))), (f0.2.1, f0.2.2))

snap_unprotect_said : (ts : Tokens) (c : Command) → IsForm (Snap ∷ []) (snap_command of_snap.Unprotect) ts c → Spells (codes "snap" ∷ codes "unprotect" ∷ ts) c
snap_unprotect_said ts c f0 =
    let f1 = f0.3 in
    subst (λ (x : Command). Spells (codes "snap" ∷ codes "unprotect" ∷ ts) x) f1.1 ((ap (λ (x : Tokens). codes "snap" ∷ x) (ap (λ (x : Tokens). codes "unprotect" ∷ x) (f0.2.0 ∙ ap (λ (x : Tokens). snap_token f0.0.0 f0.0.1 ∷ x) f1.0))), (f0.2.1, f0.2.2))

snap_rollback_said : (ts : Tokens) (c : Command) → IsForm (Snap ∷ []) (snap_command of_snap.Rollback) ts c → Spells (codes "snap" ∷ codes "rollback" ∷ ts) c
snap_rollback_said ts c f0 =
    let f1 = f0.3 in
    subst (λ (x : Command). Spells (codes "snap" ∷ codes "rollback" ∷ ts) x) f1.1 ((ap (λ (x : Tokens). codes "snap" ∷ x) (ap (λ (x : Tokens). codes "rollback" ∷ x) (f0.2.0 ∙ ap (λ (x : Tokens). snap_token f0.0.0 f0.0.1 ∷ x) f1.0))), (f0.2.1, f0.2.2))

enable_said : (ts : Tokens) (c : Command) → IsForm (Image ∷ []) (mirror_command of_mirror.Enable) ts c → Spells (codes "mirror" ∷ codes "enable" ∷ ts) c
enable_said ts c f0 =
    let f1 = f0.3 in
    subst (λ (x : Command). Spells (codes "mirror" ∷ codes "enable" ∷ ts) x) f1.1 ((ap (λ (x : Tokens). codes "mirror" ∷ x) (ap (λ (x : Tokens). codes "enable" ∷ x) (f0.2.0 ∙ ap (λ (x : Tokens). f0.0 ∷ x) f1.0))), f0.2.1)

demote_said : (ts : Tokens) (c : Command) → IsForm (Image ∷ []) (mirror_command of_mirror.Demote) ts c → Spells (codes "mirror" ∷ codes "demote" ∷ ts) c
demote_said ts c f0 =
    let f1 = f0.3 in
    subst (λ (x : Command). Spells (codes "mirror" ∷ codes "demote" ∷ ts) x) f1.1 ((ap (λ (x : Tokens). codes "mirror" ∷ x) (ap (λ (x : Tokens). codes "demote" ∷ x) (f0.2.0 ∙ ap (λ (x : Tokens). f0.0 ∷ x) f1.0))), f0.2.1)

resync_said : (ts : Tokens) (c : Command) → IsForm (Image ∷ []) (mirror_command of_mirror.Resync) ts c → Spells (codes "mirror" ∷ codes "resync" ∷ ts) c
resync_said ts c f0 =
    let f1 = f0.3 in
    subst (λ (x : Command). Spells (codes "mirror" ∷ codes "resync" ∷ ts) x) f1.1 ((ap (λ (x : Tokens). codes "mirror" ∷ x) (ap (λ (x : Tokens). codes "resync" ∷ x) (f0.2.0 ∙ ap (λ (x : Tokens). f0.0 ∷ x) f1.0))), f0.2.1)

status_said : (ts : Tokens) (c : Command) → IsForm (Image ∷ []) (mirror_command of_mirror.Status) ts c → Spells (codes "mirror" ∷ codes "status" ∷ ts) c
status_said ts c f0 =
    let f1 = f0.3 in
    subst (λ (x : Command). Spells (codes "mirror" ∷ codes "status" ∷ ts) x) f1.1 ((ap (λ (x : Tokens). codes "mirror" ∷ x) (ap (λ (x : Tokens). codes "status" ∷ x) (f0.2.0 ∙ ap (λ (x : Tokens). f0.0 ∷ x) f1.0))), f0.2.1)

follow_said : (ts : Tokens) (c : Command) → IsForm (Image ∷ []) (mirror_command of_mirror.Follow) ts c → Spells (codes "mirror" ∷ codes "follow" ∷ ts) c
follow_said ts c f0 =
    let f1 = f0.3 in
    subst (λ (x : Command). Spells (codes "mirror" ∷ codes "follow" ∷ ts) x) f1.1 ((ap (λ (x : Tokens). codes "mirror" ∷ x) (ap (λ (x : Tokens). codes "follow" ∷ x) (f0.2.0 ∙ ap (λ (x : Tokens). f0.0 ∷ x) f1.0))), f0.2.1)

snap_form_said : (v : SnapVerb) (ts : Tokens) (c : Command) → snap_form v ts ≡ Ok c → Spells (codes "snap" ∷ snap_word v ∷ ts) c
snap_form_said (snap.Of of_snap.Create) ts c is = snap_create_said ts c (form_says (Snap ∷ []) (snap_command of_snap.Create) ts c is)
snap_form_said (snap.Of of_snap.Remove) ts c is = snap_remove_said ts c (form_says (Snap ∷ []) (snap_command of_snap.Remove) ts c is)
snap_form_said (snap.Of of_snap.Protect) ts c is = snap_protect_said ts c (form_says (Snap ∷ []) (snap_command of_snap.Protect) ts c is)
snap_form_said (snap.Of of_snap.Unprotect) ts c is = snap_unprotect_said ts c (form_says (Snap ∷ []) (snap_command of_snap.Unprotect) ts c is)
snap_form_said (snap.Of of_snap.Rollback) ts c is = snap_rollback_said ts c (form_says (Snap ∷ []) (snap_command of_snap.Rollback) ts c is)
snap_form_said snap.List ts c is = snap_list_said ts c (form_says (Image ∷ []) command.SnapList ts c is)

mirror_form_said : (v : MirrorVerb) (ts : Tokens) (c : Command) → mirror_form v ts ≡ Ok c → Spells (codes "mirror" ∷ mirror_word v ∷ ts) c
mirror_form_said (mirror.Of of_mirror.Enable) ts c is = enable_said ts c (form_says (Image ∷ []) (mirror_command of_mirror.Enable) ts c is)
mirror_form_said (mirror.Of of_mirror.Demote) ts c is = demote_said ts c (form_says (Image ∷ []) (mirror_command of_mirror.Demote) ts c is)
mirror_form_said (mirror.Of of_mirror.Resync) ts c is = resync_said ts c (form_says (Image ∷ []) (mirror_command of_mirror.Resync) ts c is)
mirror_form_said (mirror.Of of_mirror.Status) ts c is = status_said ts c (form_says (Image ∷ []) (mirror_command of_mirror.Status) ts c is)
mirror_form_said (mirror.Of of_mirror.Follow) ts c is = follow_said ts c (form_says (Image ∷ []) (mirror_command of_mirror.Follow) ts c is)
mirror_form_said mirror.Promote ts c is = promote_said ts c (form_says (Image ∷ Flag (codes "force") ∷ []) command.MirrorPromote ts c is)

-- a word and what follows it
pub word_ok : {X A : Type 0} (f : List ℕ → Result X LineCause) (word : X → List ℕ) (next : X → Tokens → Result A LineCause) (ts : Tokens) (c : A)
    → ((t : List ℕ) (x : X) → f t ≡ Ok x → t ≡ word x) → and_then (place f ts) next ≡ Ok c
    → (x : X) × (rest : Tokens) × (ts ≡ word x ∷ rest) × (next x rest ≡ Ok c)
word_ok f word next ts c told is =
    let step = and_then_ok (place f ts) next c is in
    let p = place_ok f ts step.1 step.0 step.2 in
    (step.0, step.1, p.1 ∙ ap (λ t. t ∷ step.1) (told p.0 step.0 p.2), step.3)

command_form_said : (v : Verb) (ts : Tokens) (c : Command) → command_form v ts ≡ Ok c → Spells (verb_word v ∷ ts) c
unfolding part_of
command_form_said verb.Create ts c is = create_said ts c (form_says (Image ∷ Number greatest ∷ shape_parts) (λ i size object unit count journal. command.Create i size (shape object unit count journal)) ts c is)
command_form_said verb.Clone ts c is = clone_said ts c (form_says (Snap ∷ Image ∷ shape_parts) (λ s i object unit count journal. command.Clone s.0 s.1 i (shape object unit count journal)) ts c is)
command_form_said verb.Write ts c is = write_said ts c (form_says (Image ∷ Number greatest ∷ Hex ∷ []) command.Write ts c is)
command_form_said verb.Fill ts c is = fill_said ts c (form_says (Image ∷ Number greatest ∷ Number 1048576 ∷ Byte ∷ []) command.Fill ts c is)
command_form_said verb.Discard ts c is = discard_said ts c (form_says (Image ∷ Number greatest ∷ Number greatest ∷ []) command.Discard ts c is)
command_form_said verb.Read ts c is = read_said ts c (form_says (Target ∷ Number greatest ∷ Number 65536 ∷ []) (λ t at len. command.Read t.0 t.1 at len) ts c is)
command_form_said verb.Resize ts c is = resize_said ts c (form_says (Image ∷ Number greatest ∷ []) command.Resize ts c is)
command_form_said verb.Rename ts c is = rename_said ts c (form_says (Image ∷ Image ∷ []) command.Rename ts c is)
command_form_said verb.List ts c is = list_said ts c (form_says [] command.List ts c is)
command_form_said verb.Children ts c is = children_said ts c (form_says (Snap ∷ []) (λ s. command.Children s.0 s.1) ts c is)
command_form_said verb.Tell ts c is = tell_said ts c (form_says (Image ∷ Hex ∷ []) command.Tell ts c is)
command_form_said (verb.Image v) ts c is = word_said v ts c (form_says (Image ∷ []) (image_command v) ts c is)
command_form_said verb.Snap ts c is =
    let w = word_ok snap_verb_of snap_word snap_form ts c snap_verb_said is in
    subst (λ (x : Tokens). Spells (codes "snap" ∷ x) c) (sym w.2) (snap_form_said w.0 w.1 c w.3)
command_form_said verb.Mirror ts c is =
    let w = word_ok mirror_verb_of mirror_word mirror_form ts c mirror_verb_said is in
    subst (λ (x : Tokens). Spells (codes "mirror" ∷ x) c) (sym w.2) (mirror_form_said w.0 w.1 c w.3)

-- what is read as a command spells it
pub command_said : (ts : Tokens) (c : Command) → command_of_tokens ts ≡ Ok c → Spells ts c
unfolding command_of_tokens part_of
command_said ts c is =
    let w = word_ok verb_of verb_word command_form ts c verb_said is in
    subst (λ (x : Tokens). Spells x c) (sym w.2) (command_form_said w.0 w.1 c w.3)
