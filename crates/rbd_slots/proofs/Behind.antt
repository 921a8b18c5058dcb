-- Who stands behind a member, and what a member holds.
use Rattle.std.proofs.Common.{◌≡◌, ℕ, ◌==◌, ◌&&◌, cond, not, Bool, true, false, List, [], ◌∷◌, Some, refl, ap, ◌∙◌, subst}
use Rattle.std.specs.List.{list_all}
use Rattle.rbd_queue.specs.Line.{Member, member_of, members_behind, changed_member, passed, is_past, none_past_behind, IsFairLine}
use Rattle.rbd_queue.specs.Steady.{IsSteady}
use Rattle.rbd_queue.proofs.Passing.{found_at, in_order, none_yet, none_behind_changed, passed_is_steady}
use Rattle.rbd_slots.proofs.Members.{at_own_slot}

abbrev pub KeepsPast : (Member → Member) → Type 0
KeepsPast f = (m : Member) → is_past (f m).stage ≡ is_past m.stage

abbrev pub is_not_past : Member → Bool
is_not_past m = not (is_past m.stage)

behind_changed : (f : Member → Member) → IsSteady f → (slot : ℕ) (members : List Member) → members_behind slot (changed_member slot f members) ≡ changed_member slot f (members_behind slot members)
behind_changed f keeps slot [] = refl
behind_changed f keeps slot (m ∷ members) = go (m.slot == slot) refl (behind_changed f keeps slot members)
  where
    go : (b : Bool) → (m.slot == slot) ≡ b → members_behind slot (changed_member slot f members) ≡ changed_member slot f (members_behind slot members)
        → members_behind slot (changed_member slot f (m ∷ members)) ≡ changed_member slot f (members_behind slot (m ∷ members))
    go true is rest = rw is (rw (ap (λ s. s == slot) (keeps.slot m) ∙ is) refl)
    go false is rest = rw is (rw is rest)

past_changed : (f : Member → Member) → KeepsPast f → (slot : ℕ) (members : List Member) → list_all is_not_past (changed_member slot f members) ≡ list_all is_not_past members
past_changed f keeps slot [] = refl
past_changed f keeps slot (m ∷ members) = go (m.slot == slot) (past_changed f keeps slot members)
  where
    go : (b : Bool) → list_all is_not_past (changed_member slot f members) ≡ list_all is_not_past members
        → (is_not_past (cond b (f m) m) && list_all is_not_past (changed_member slot f members)) ≡ (is_not_past m && list_all is_not_past members)
    go true rest = rw (keeps m) (ap (λ all. is_not_past m && all) rest)
    go false rest = ap (λ all. is_not_past m && all) rest

-- a change that lets nobody go past
pub none_past_changed : (f : Member → Member) → IsSteady f → KeepsPast f → (slot : ℕ) (members : List Member)
    → none_past_behind slot (changed_member slot f members) ≡ none_past_behind slot members
none_past_changed f keeps keeps_past slot members =
    ap (list_all is_not_past) (behind_changed f keeps slot members) ∙ past_changed f keeps_past slot (members_behind slot members)

-- ---- in a fair line

-- who isn't past its look under the lock holds no ticket
pub holds_none : (slot : ℕ) (members : List Member) (m : Member) → IsFairLine members → member_of slot members ≡ Some m → is_past m.stage ≡ false → m.objects ≡ []
holds_none slot members m fair is not_past = none_yet members m fair (at_own_slot slot members m is) not_past

-- behind who isn't past its look under the lock nobody is
pub none_past_after : (slot : ℕ) (members : List Member) (m : Member) → IsFairLine members → member_of slot members ≡ Some m → is_past m.stage ≡ false
    → none_past_behind slot (changed_member slot passed members) ≡ true
none_past_after slot members m fair is not_past =
    none_behind_changed members slot passed passed_is_steady fair
    ∙ subst (λ s. none_past_behind s members ≡ true) (found_at members slot m is) (in_order members m fair (at_own_slot slot members m is) not_past)
