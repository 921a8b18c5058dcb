-- Who is left where one instance is taken out.
use Rattle.std.proofs.Common.{◌≡◌, Bool, true, false, cond, ◌||◌, List, [], ◌∷◌, refl, sym, ap, ◌∙◌}
use Rattle.std.specs.Prelude.{not, ◌≢◌}
use Rattle.std.proofs.lemmas.Bool.{false_from_ne_true}
use Rattle.rbd_kinds.specs.declared.id.Instance.{Instance}
use Rattle.rbd_kinds.specs.Instances.{same_instance}
use Rattle.rbd_kinds.proofs.Instances.{same_instance_is}
use Rattle.rbd_watch.specs.Watching.{watches, without}

differ : (a b : Instance) → a ≢ b → same_instance a b ≡ false
differ a b other = false_from_ne_true (same_instance a b) (λ e. other (same_instance_is a b e))

pub sender_left_out : (sender : Instance) (watchers : List Instance) → watches sender (without sender watchers) ≡ false
sender_left_out sender [] = refl
sender_left_out sender (w ∷ watchers) = by (same_instance sender w) refl (sender_left_out sender watchers)
  where
    by : (b : Bool) → same_instance sender w ≡ b → watches sender (without sender watchers) ≡ false
        → watches sender (cond (not b) (w ∷ without sender watchers) (without sender watchers)) ≡ false
    by true e rest = rest
    by false e rest = ap (λ c. c || watches sender (without sender watchers)) e ∙ rest

pub others_stay : (sender other : Instance) (watchers : List Instance) → other ≢ sender → watches other (without sender watchers) ≡ watches other watchers
others_stay sender other [] differs = refl
others_stay sender other (w ∷ watchers) differs = by (same_instance sender w) refl (others_stay sender other watchers differs)
  where
    by : (b : Bool) → same_instance sender w ≡ b → watches other (without sender watchers) ≡ watches other watchers
        → watches other (cond (not b) (w ∷ without sender watchers) (without sender watchers)) ≡ (same_instance other w || watches other watchers)
    by true e rest = rest ∙ sym (ap (λ c. c || watches other watchers) (differ other w (λ h. differs (h ∙ sym (same_instance_is sender w e)))))
    by false e rest = ap (λ c. same_instance other w || c) rest
