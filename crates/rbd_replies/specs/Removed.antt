-- What an `rm` that is done did: the name goes, and the image with it.
use Rattle.std.specs.Prelude.{◌≡◌, ℕ, ◌==◌, Bool, true, false, List, [], ◌∷◌, Some}
use Rattle.std.specs.FinMap as finmap
use Rattle.std.specs.List.{list_any}
use Rattle.rbd_flat.specs.Flat.{Flat, id_of, image_at}
use Rattle.rbd_flat.specs.declared.effect.Effect.{Effect}
use Rattle.rbd_flat.specs.declared.effect.Effect.TheVariants as effect
use Rattle.rbd_kinds.specs.declared.header.HeaderView.{HeaderView}
use Rattle.rbd_stands.specs.Reading.{TellsFlatImage}
use Rattle.rbd_replies.specs.Places.{LooksAt, Placed, effects_of, flat_at}

-- some name leads to the image
abbrev pub is_named : (image : ℕ) → Flat → Bool
is_named image f = list_any (λ e. e.1 == image) (finmap.entries f.names)

-- Where a name still leads to the image, that name goes, and then the image.
abbrev pub removal_effects : (image : ℕ) → (named : Bool) → List Effect
removal_effects image true = effect.NameFree image ∷ effect.Gone image ∷ []
removal_effects image false = effect.Gone image ∷ []

-- The image that the name had at one place went, and with it the name that still leads to it where
-- it is freed; nothing else was done. The header that the look under the lock was told tells the
-- flat image there, which has no snapshot.
pub record RemovesAll (name : List ℕ) (places : List Placed) : Type 0 where
  pub found : Placed
  pub first : Placed
  pub asked : Placed
  pub own : Placed
  pub again : Placed
  pub told : Placed
  pub naming : Placed
  pub rest : List Placed
  pub are : places ≡ found ∷ first ∷ asked ∷ own ∷ again ∷ told ∷ naming ∷ rest
  pub image : ℕ
  pub named : id_of (flat_at found) name ≡ Some image
  pub header : HeaderView
  pub looked : LooksAt image header own
  pub tells : TellsFlatImage header (image_at (flat_at own) image)
  pub no_snaps : header.snaps ≡ []
  pub effects : effects_of places ≡ removal_effects image (is_named image (flat_at naming))
