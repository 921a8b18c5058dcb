-- Two lists of images in order that have the same images are one.
use Rattle.std.proofs.Common.{◌≡◌, ℕ, Bool, true, false, ◌||◌, List, [], ◌∷◌, refl, sym, ap, subst, ◌∙◌}
use Rattle.std.proofs.lemmas.Bool.{true≢false}
use Rattle.std.proofs.lemmas.Map.Keys.{sorted_head, sorted_tail}
use Rattle.std.specs.Ordering.{is_lt}
use Rattle.std.specs.declared.cmp.Ordering.TheVariants.{Less}
use Rattle.std.specs.Prelude.{IsTrue}
use Rattle.rbd_kinds.specs.declared.id.SiteId.{SiteId}
use Rattle.rbd_kinds.specs.declared.image_at.ImageAt.{ImageAt}
use Rattle.rbd_kinds.specs.Images.{image_cmp, is_at}
use Rattle.rbd_kinds.proofs.Images.{at_itself}
use Rattle.rbd_lock.specs.Locks.{AreImagesInOrder}
use Rattle.rbd_lock.specs.Places.{is_among}
use Rattle.rbd_lock.proofs.Keys.{where_same}
use Rattle.rbd_lock.proofs.Least.{later, not_below_first, not_below_itself, split}

abbrev HaveTheSame : (xs ys : List ImageAt) → Type 0
HaveTheSame xs ys = (site : SiteId) (image : ℕ) → is_among site image xs ≡ is_among site image ys

-- what is at one place is one image
one : (x y : ImageAt) → IsTrue (is_at x.site x.image y.site y.image) → x ≡ y
one x y same = where_same (λ s i. x ≡ record { site = s; image = i }) x.site x.image y.site y.image same refl

-- the first is among those that begin with it
pub first_is_among : (x : ImageAt) (xs : List ImageAt) → IsTrue (is_among x.site x.image (x ∷ xs))
first_is_among x xs = ap (λ b. b || is_among x.site x.image xs) (at_itself x.site x.image)

-- the first isn't among the others
not_among : (x : ImageAt) (xs : List ImageAt) → AreImagesInOrder (x ∷ xs) → (site : SiteId) (image : ℕ) → is_at site image x.site x.image ≡ true → is_among site image xs ≡ false
not_among x xs order site image is = go (is_among site image xs) refl
  where
    go : (b : Bool) → is_among site image xs ≡ b → is_among site image xs ≡ false
    go false none = none
    go true some =
        let below = later x (record { site = site; image = image }) xs (sorted_head image_cmp x xs order) some in
        let itself = where_same (λ s i. image_cmp x (record { site = s; image = i }) ≡ Less) site image x.site x.image is below in
        absurd (true≢false (sym (ap is_lt itself) ∙ not_below_itself x))

-- each is the first of both
one_first : (x y : ImageAt) (xs ys : List ImageAt) → AreImagesInOrder (x ∷ xs) → AreImagesInOrder (y ∷ ys) → HaveTheSame (x ∷ xs) (y ∷ ys) → x ≡ y
one_first x y xs ys order ordered same =
    split y x ys (sym (same x.site x.image) ∙ first_is_among x xs)
    (λ here. one x y here)
    (λ behind.
    split x y xs (same y.site y.image ∙ first_is_among y ys)
    (λ here. sym (one y x here))
    (λ before.
    absurd (true≢false (sym (ap is_lt (later x y xs (sorted_head image_cmp x xs order) before)) ∙ not_below_first y x (later y x ys (sorted_head image_cmp y ys ordered) behind)))))

same_rest : (x : ImageAt) (xs ys : List ImageAt) → AreImagesInOrder (x ∷ xs) → AreImagesInOrder (x ∷ ys) → HaveTheSame (x ∷ xs) (x ∷ ys) → HaveTheSame xs ys
same_rest x xs ys order ordered same site image = go (is_at site image x.site x.image) refl (same site image)
  where
    go : (b : Bool) → is_at site image x.site x.image ≡ b → (b || is_among site image xs) ≡ (b || is_among site image ys) → is_among site image xs ≡ is_among site image ys
    go true is both = not_among x xs order site image is ∙ sym (not_among x ys ordered site image is)
    go false is both = both

pub one_in_order : (xs ys : List ImageAt) → AreImagesInOrder xs → AreImagesInOrder ys → ((site : SiteId) (image : ℕ) → is_among site image xs ≡ is_among site image ys) → xs ≡ ys
one_in_order [] [] order ordered same = refl
one_in_order [] (y ∷ ys) order ordered same = absurd (true≢false (sym (same y.site y.image ∙ first_is_among y ys)))
one_in_order (x ∷ xs) [] order ordered same = absurd (true≢false (sym (first_is_among x xs) ∙ same x.site x.image))
one_in_order (x ∷ xs) (y ∷ ys) order ordered same = go (one_first x y xs ys order ordered same) (one_in_order xs ys)
  where
    go : x ≡ y → (AreImagesInOrder xs → AreImagesInOrder ys → HaveTheSame xs ys → xs ≡ ys) → x ∷ xs ≡ y ∷ ys
    go first rest =
        let again : AreImagesInOrder (x ∷ ys) = subst (λ z. AreImagesInOrder (z ∷ ys)) (sym first) ordered in
        let alike : HaveTheSame (x ∷ xs) (x ∷ ys) = subst (λ z. HaveTheSame (x ∷ xs) (z ∷ ys)) (sym first) same in
        let others = rest (sorted_tail image_cmp x xs order) (sorted_tail image_cmp y ys ordered) (same_rest x xs ys order again alike) in
        (λ j. first j ∷ others j)
