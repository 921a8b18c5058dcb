-- Lines that a table has under its keys, and the tracks of requests.
use Rattle.std.proofs.Common.{◌≡◌, ℕ, cond, Bool, true, false, List, [], ◌∷◌, ◌++◌, Option, Some, None, is_some, refl, sym, ap, ◌∙◌, subst}
use Rattle.std.proofs.Math.Path.{fun_ext}
use Rattle.std.proofs.lemmas.Bool.{true≢false}
use Rattle.rbd_kinds.specs.declared.sharing.Sharing.{Sharing}
use Rattle.rbd_queue.specs.Line.{Member, changed_member, new_member}
use Rattle.rbd_machine.specs.Wait as wait
use Rattle.rbd_kinds.specs.declared.image_at.ImageAt.{ImageAt}
use Rattle.rbd_slots.specs.declared.running.Running.{Running}
use Rattle.rbd_slots.specs.Advance.{objects_or_none, track_with}
use Rattle.rbd_kinds.specs.Images.{key_of}
use Rattle.rbd_slots.specs.Lines.{LinesView, members_at, lines_of, is_key}
use Rattle.rbd_slots.specs.Track.{line_changed_at, done_with, waited_by}
use Rattle.rbd_slots.proofs.Entering.{changed_none}
use Rattle.rbd_kinds.proofs.Images.{same_key}

-- a change that changes nobody
pub unchanged_at : (b : Bool) (slot : ℕ) (f : Member → Member) → ((m : Member) → f m ≡ m) → (members : List Member) → members ≡ cond b (changed_member slot f members) members
unchanged_at true slot f same members = sym (changed_none slot f same members)
unchanged_at false slot f same members = refl

pub no_turn : (turn : Option ℕ) → is_some turn ≡ false → (m : Member) → done_with turn m ≡ m
no_turn None none m = refl
no_turn (Some object) none m = absurd (true≢false none)

-- ---- the lines of all images at once

pub changes_lines : (place : Option ImageAt) (change : List Member → List Member) (old new : LinesView)
    → ((key : ℕ) → members_at key new ≡ cond (is_key place key) (change (members_at key old)) (members_at key old)) → lines_of new ≡ line_changed_at place change (lines_of old)
changes_lines None change old new changes = fun_ext (λ s. fun_ext (λ i. changes (key_of s i)))
changes_lines (Some p) change old new changes =
    fun_ext (λ s. fun_ext (λ i.
    changes (key_of s i) ∙ ap (λ b. cond b (change (lines_of old s i)) (lines_of old s i)) (same_key p.site p.image s i)))

pub same_lines : (old new : LinesView) → ((key : ℕ) → members_at key new ≡ members_at key old) → lines_of new ≡ lines_of old
same_lines old new same = fun_ext (λ s. fun_ext (λ i. same (key_of s i)))

-- a request that joined a line
pub joined_track : {R : Type 0} (slot : ℕ) (due : Option (List ℕ)) (old new : Running R) (before after : LinesView) (p : ImageAt) (sharing : Sharing) → new ≡ record old { place = Some p }
    → lines_of after ≡ line_changed_at (Some p) (λ members. members ++ new_member slot sharing ∷ []) (lines_of before)
    → track_with due new after ≡ waited_by slot (track_with due old before) (wait.Join p.site p.image sharing)
joined_track slot due old new before after p sharing is lines =
    subst (λ r. track_with due r after ≡ waited_by slot (track_with due old before) (wait.Join p.site p.image sharing)) (sym is)
    (ap (λ ls. record { place = Some p; turn = old.turn; due = objects_or_none due; lines = ls }) lines)
