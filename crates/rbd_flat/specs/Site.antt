-- A flat site as the code keeps it, in lists of entries, and how a value of it is told apart.
use Rattle.std.specs.Prelude.{Bool, true, false, ◌≡◌, ℕ, zero, suc, List, refl}
use Rattle.std.specs.Ordering.{nat_cmp}
use Rattle.std.specs.Cmp.Lexicographic.{slice_cmp}
use Rattle.std.specs.Coded.{Coded, code_by, coded×, coded_ℕ, coded_list}
use Rattle.std.specs.FinMap as finmap
use Rattle.std.specs.FinSet as finset
use Rattle.rbd_kinds.specs.declared.header.Role.{Role}
use Rattle.rbd_kinds.specs.declared.header.Role.TheVariants.{Plain, Primary, Secondary}
use Rattle.rbd_kinds.specs.declared.header.SnapStatus.{SnapStatus}
use Rattle.rbd_kinds.specs.declared.header.SnapStatus.TheVariants.{Unprotected, Unprotecting, Protected}
use Rattle.rbd_flat.specs.declared.effect.Effect.{Effect}
use Rattle.rbd_flat.specs.declared.effect.Effect.TheVariants as effect
use Rattle.rbd_flat.specs.Flat.{Flat, FlatImage, FlatSnap, Link, link_cmp}

-- the flat site of these names, images and links
abbrev pub site_of : List (List ℕ × ℕ) → List (ℕ × FlatImage) → List Link → Flat
site_of names images links = record {
  names = finmap.from_entries names;
  images = finmap.from_entries images;
  links = finset.from_list links;
}

-- whether a step may want memory: it adds something, or makes something longer
abbrev pub wants_memory : Effect → Bool
wants_memory (effect.Name name image) = true
wants_memory (effect.Rename from to) = true
wants_memory (effect.Create image size role) = true
wants_memory (effect.Clone image parent snap) = true
wants_memory (effect.Size image size) = true
wants_memory (effect.Snap image snap name) = true
wants_memory (effect.Link parent snap child) = true
wants_memory _ = false

-- ---- codes, by which a proof tells values apart

abbrev role_number : Role → ℕ
role_number Plain = 0
role_number Primary = 1
role_number Secondary = 2

abbrev role_of : ℕ → Role
role_of zero = Plain
role_of (suc zero) = Primary
role_of (suc (suc _)) = Secondary

abbrev role_again : (r : Role) → role_of (role_number r) ≡ r
role_again Plain = refl
role_again Primary = refl
role_again Secondary = refl

abbrev pub role_code : Coded Role
role_code = code_by ℕ coded_ℕ role_number role_of role_again

abbrev status_number : SnapStatus → ℕ
status_number Unprotected = 0
status_number Unprotecting = 1
status_number Protected = 2

abbrev status_of : ℕ → SnapStatus
status_of zero = Unprotected
status_of (suc zero) = Unprotecting
status_of (suc (suc _)) = Protected

abbrev status_again : (s : SnapStatus) → status_of (status_number s) ≡ s
status_again Unprotected = refl
status_again Unprotecting = refl
status_again Protected = refl

abbrev pub status_code : Coded SnapStatus
status_code = code_by ℕ coded_ℕ status_number status_of status_again

abbrev pub snap_code : Coded FlatSnap
snap_code =
    code_by (ℕ × (List ℕ × (List ℕ × SnapStatus)))
    (coded× coded_ℕ (coded× (coded_list coded_ℕ) (coded× (coded_list coded_ℕ) status_code)))
    (λ s. (s.id, (s.name, (s.bytes, s.status))))
    (λ p. record { id = p.0; name = p.1.0; bytes = p.1.1.0; status = p.1.1.1 }) (λ _. refl)

abbrev pub image_code : Coded FlatImage
image_code =
    code_by (List ℕ × (List FlatSnap × Role)) (coded× (coded_list coded_ℕ) (coded× (coded_list snap_code) role_code))
    (λ i. (i.bytes, (i.snaps, i.role))) (λ p. record { bytes = p.0; snaps = p.1.0; role = p.1.1 }) (λ _. refl)

abbrev pub link_code : Coded Link
link_code =
    code_by (ℕ × (ℕ × ℕ)) (coded× coded_ℕ (coded× coded_ℕ coded_ℕ))
    (λ l. (l.parent, (l.snap, l.child))) (λ p. record { parent = p.0; snap = p.1.0; child = p.1.1 }) (λ _. refl)

abbrev pub flat_code : Coded Flat
flat_code =
    code_by (finmap.FinMap (slice_cmp nat_cmp) ℕ × (finmap.FinMap nat_cmp FlatImage × finset.FinSet link_cmp))
    (coded× (finmap.code (coded_list coded_ℕ) coded_ℕ)
    (coded× (finmap.code coded_ℕ image_code) (finset.code link_code)))
    (λ f. (f.names, (f.images, f.links))) (λ p. record { names = p.0; images = p.1.0; links = p.1.1 }) (λ _. refl)
