-- Sites and images are the same as themselves alone; the keys of images tell them apart, and so
-- does their order.
use Rattle.std.proofs.Common.{◌≡◌, ℕ, ◌+◌, ◌*◌, nat_eq, eqb, Bool, true, false, ◌&&◌, refl, sym, ap, ◌∙◌, arith}
use Rattle.std.proofs.lemmas.Bool.{eq-eqb, ne_eqb, eqb-true, eqb-false, true≢false}
use Rattle.std.specs.BTreeMap.{is_at as is_tied}
use Rattle.std.specs.Cmp.{unsigned_tied}
use Rattle.rbd_kinds.specs.contracts.image_at.ImageAtOrd.TheImpl as ord
use Rattle.rbd_kinds.specs.declared.id.SiteId.{SiteId}
use Rattle.rbd_kinds.specs.declared.id.SiteId.TheVariants as site
use Rattle.rbd_kinds.specs.Images.{image_cmp, is_at, key_of, same_site}
use Rattle.rbd_kinds.proofs.Plain.{eqb_flip}

pub same_site_itself : (s : SiteId) → same_site s s ≡ true
same_site_itself site.A = refl
same_site_itself site.B = refl

pub same_site_is : (a b : SiteId) → same_site a b ≡ true → a ≡ b
same_site_is site.A site.A same = refl
same_site_is site.B site.B same = refl
same_site_is site.A site.B same = absurd (true≢false (sym same))
same_site_is site.B site.A same = absurd (true≢false (sym same))

pub at_itself : (s : SiteId) (image : ℕ) → is_at s image s image ≡ true
at_itself s image = ap (λ b. b && eqb image image) (same_site_itself s) ∙ eq-eqb image image refl

-- ---- the keys

twice : (a b : ℕ) → nat_eq (a * 2) (b * 2) ≡ nat_eq b a
twice a b = go (nat_eq b a) refl
  where
    go : (c : Bool) → nat_eq b a ≡ c → nat_eq (a * 2) (b * 2) ≡ c
    go true is = let same = eqb-true b a is in eq-eqb (a * 2) (b * 2) (omega (arith, same))
    go false is = let other = eqb-false b a is in ne_eqb (a * 2) (b * 2) (λ same. other (omega (arith, same)))

twice_more : (a b : ℕ) → nat_eq (a * 2 + 1) (b * 2 + 1) ≡ nat_eq b a
twice_more a b = go (nat_eq b a) refl
  where
    go : (c : Bool) → nat_eq b a ≡ c → nat_eq (a * 2 + 1) (b * 2 + 1) ≡ c
    go true is = let same = eqb-true b a is in eq-eqb (a * 2 + 1) (b * 2 + 1) (omega (arith, same))
    go false is = let other = eqb-false b a is in ne_eqb (a * 2 + 1) (b * 2 + 1) (λ same. other (omega (arith, same)))

-- two images have one key only where they are one
pub same_key : (s : SiteId) (i : ℕ) (t : SiteId) (j : ℕ) → nat_eq (key_of s i) (key_of t j) ≡ is_at s i t j
same_key site.A i site.A j = twice i j
same_key site.B i site.B j = twice_more i j
same_key site.A i site.B j = ne_eqb (i * 2) (j * 2 + 1) (λ same. omega (arith, same))
same_key site.B i site.A j = ne_eqb (i * 2 + 1) (j * 2) (λ same. omega (arith, same))

-- ---- the order

-- the derived order of images is this one
pub in_order : (s : SiteId) (i : ℕ) (t : SiteId) (j : ℕ) → ord.cmp-value.it (record { site = s; image = i }) (record { site = t; image = j }) ≡ image_cmp (record { site = s; image = i }) (record { site = t; image = j })
in_order site.A i site.A j = refl
in_order site.B i site.B j = refl
in_order site.A i site.B j = refl
in_order site.B i site.A j = refl

-- what the order doesn't tell apart is one image
pub tied_images : (s : SiteId) (i : ℕ) (t : SiteId) (j : ℕ) → is_tied (ord.cmp-value.it (record { site = s; image = i })) (record { site = t; image = j }) ≡ is_at s i t j
tied_images site.A i site.A j = unsigned_tied i j ∙ eqb_flip i j
tied_images site.B i site.B j = unsigned_tied i j ∙ eqb_flip i j
tied_images site.A i site.B j = refl
tied_images site.B i site.A j = refl
