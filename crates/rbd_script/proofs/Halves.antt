-- A token without `@` is no image with a snapshot.
use Rattle.std.proofs.Common.{◌≡◌, ℕ, Bool, true, false, List, [], Err, refl}
use Rattle.std.specs.List.{after_first, before_first}
use Rattle.rbd_script.specs.declared.fault.LineCause.TheVariants.{BadName}
use Rattle.rbd_script.specs.Name.{both, is_at_sign, is_asked_name, name_of_token, snap_of_token}

no_second : (token : List ℕ) → both (name_of_token token) (name_of_token []) ≡ Err BadName
unfolding name_of_token
no_second token = go (is_asked_name token) refl
  where
    go : (t : Bool) → is_asked_name token ≡ t → both (name_of_token token) (name_of_token []) ≡ Err BadName
    go true is = rw is refl
    go false is = rw is refl

pub no_halves : (token : List ℕ) → after_first is_at_sign token ≡ [] → snap_of_token token ≡ Err BadName
unfolding snap_of_token
no_halves token none = rw none (no_second (before_first is_at_sign token))
