-- The ids that a request drew, once one of them has its header.
use Rattle.std.proofs.Common.{◌≡◌, ◌≢◌, ℕ, ◌==◌, ◌&&◌, cond, not, Bool, true, false, List, [], ◌∷◌, filter, refl, sym, ap, ◌∙◌}
use Rattle.std.proofs.lemmas.Bool.{true≢false, eqb-true, ne_eqb, and_parts}
use Rattle.rbd_kinds.specs.declared.id.SiteId.{SiteId}
use Rattle.rbd_machine.specs.Knowledge.{ImagePlace, is_at, is_drawn, same_site}

-- a place is that of at most one image
at_one : (site : SiteId) (image other : ℕ) (there : SiteId) (place : ℕ) → image ≢ other → is_at site image there place ≡ true → is_at site other there place ≡ false
at_one site image other there place differ is =
    let parts = and_parts (same_site there site) (place == image) is in
    ap (λ b. b && (place == other)) parts.0 ∙ ne_eqb place other (λ e. differ (sym (eqb-true place image parts.1) ∙ e))

-- an id that is left behind is another than the one that got its header
pub drawn_left : (site : SiteId) (image i : ℕ) (drawn : List ImagePlace) → is_drawn (filter (λ d. not (is_at site image d.site d.image)) drawn) site i ≡ true
    → (is_drawn drawn site i ≡ true) × (i ≢ image)
drawn_left site image i [] is = absurd (true≢false (sym is))
drawn_left site image i (d ∷ drawn) is = by (is_at site image d.site d.image) refl (is_at site i d.site d.image) refl is (drawn_left site image i drawn)
  where
    rest : List ImagePlace
    rest = filter (λ d. not (is_at site image d.site d.image)) drawn

    by : (a : Bool) → is_at site image d.site d.image ≡ a → (b : Bool) → is_at site i d.site d.image ≡ b
        → is_drawn (cond (not a) (d ∷ rest) rest) site i ≡ true
        → (is_drawn rest site i ≡ true → (is_drawn drawn site i ≡ true) × (i ≢ image))
        → (cond b true (is_drawn drawn site i) ≡ true) × (i ≢ image)
    by true here true there is more = (refl, (more is).1)
    by true here false there is more = more is
    by false here true there is more = (refl, λ same. true≢false (sym there ∙ ap (λ n. is_at site n d.site d.image) same ∙ here))
    by false here false there is more = more (sym (ap (λ b. cond b true (is_drawn rest site i)) there) ∙ is)

-- another one is left behind if it was drawn
pub drawn_elsewhere : (site : SiteId) (image i : ℕ) → i ≢ image → (drawn : List ImagePlace) → is_drawn (filter (λ d. not (is_at site image d.site d.image)) drawn) site i ≡ is_drawn drawn site i
drawn_elsewhere site image i other [] = refl
drawn_elsewhere site image i other (d ∷ drawn) = by (is_at site image d.site d.image) refl (drawn_elsewhere site image i other drawn)
  where
    rest : List ImagePlace
    rest = filter (λ d. not (is_at site image d.site d.image)) drawn

    by : (b : Bool) → is_at site image d.site d.image ≡ b → is_drawn rest site i ≡ is_drawn drawn site i
        → is_drawn (cond (not b) (d ∷ rest) rest) site i ≡ cond (is_at site i d.site d.image) true (is_drawn drawn site i)
    by true here more = more ∙ sym (ap (λ c. cond c true (is_drawn drawn site i)) (at_one site image i d.site d.image (λ same. other (sym same)) here))
    by false there more = ap (λ c. cond (is_at site i d.site d.image) true c) more
