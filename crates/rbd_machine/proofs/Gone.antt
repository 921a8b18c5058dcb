-- What is known of an image whose header was removed.
use Rattle.std.proofs.Common.{◌≡◌, ℕ, cond, true, is_some, sym, ap, ◌∙◌}
use Rattle.std.specs.Prelude.{IsSome}
use Rattle.std.proofs.lemmas.Bool.{true≢false}
use Rattle.rbd_kinds.specs.declared.id.SiteId.{SiteId}
use Rattle.rbd_kinds.proofs.Images.{at_itself}
use Rattle.rbd_machine.specs.Knowledge.{Knowledge, is_gone, maps_of, maps_told, only_there, removed_header, unmapped}

pub gone_is_known : (k : Knowledge) (s : SiteId) (image : ℕ) → is_gone (removed_header s image k).gone s image ≡ true
gone_is_known k s image = ap (λ b. cond b true (is_gone k.gone s image)) (at_itself s image)

pub map_is_there : (k : Knowledge) (s : SiteId) (image : ℕ) → maps_of (removed_header s image k).maps s image ≡ only_there
map_is_there k s image = ap (λ b. cond b only_there (maps_of k.maps s image)) (at_itself s image)

-- once its map was removed it isn't known to be there
pub map_goes_once : (k : Knowledge) (s : SiteId) (image : ℕ) → IsSome (maps_of (maps_told s image unmapped k.maps) s image).count → ⊥
map_goes_once k s image some = true≢false (sym some ∙ ap (λ b. is_some (cond b unmapped (maps_of k.maps s image)).count) (at_itself s image))
