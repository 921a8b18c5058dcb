-- What holds of a site's headers, their watchers and the object maps at every moment.
use Rattle.std.specs.Prelude.{◌≡◌, ℕ, ◌^◌, ◌≤◌, List, [], length, Option, Some, None}
use Rattle.std.specs.List.{IsDistinct}
use Rattle.rbd_kinds.specs.declared.header.HeaderView.{HeaderView}
use Rattle.rbd_kinds.specs.Form.{IsHeaderInForm}
use Rattle.rbd_kinds.specs.Instances.{same_instance}
use Rattle.rbd_map.specs.States.{AreStates}
use Rattle.rbd_site.specs.Records.{Records}

-- A map holds no state 3, and has at most 2^20 objects.
pub record IsMapInForm (states : List ℕ) : Type 0 where
  pub are : AreStates states
  pub few : length states ≤ 2 ^ 20

-- Each header is in form, and was changed at most so many times. Nobody watches a header that isn't
-- there, and nobody watches one twice. Each map is in form.
pub record AreInForm (r : Records) (most : ℕ) : Type 0 where
  pub form : (image : ℕ) (h : HeaderView) → r.headers image ≡ Some h → IsHeaderInForm h
  pub generation : (image : ℕ) (h : HeaderView) → r.headers image ≡ Some h → h.generation ≤ most
  pub unwatched : (image : ℕ) → r.headers image ≡ None → r.watchers image ≡ []
  pub distinct : (image : ℕ) → IsDistinct same_instance (r.watchers image)
  pub maps : (image : ℕ) (view : Option ℕ) (states : List ℕ) → r.maps image view ≡ Some states → IsMapInForm states
