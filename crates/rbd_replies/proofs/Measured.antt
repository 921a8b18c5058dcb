-- Where the header of an image has a known layout, size and snapshots, changes of its objects have
-- known effects.
use Rattle.std.proofs.Common.{◌≡◌, ℕ, Bool, List, [], ◌∷◌, ◌++◌, Option, Some, None, refl, sym, ap, ◌∙◌, subst}
use Rattle.std.proofs.lemmas.List.Elements.{All-weaker}
use Rattle.rbd_kinds.specs.declared.answer.Answer.TheVariants as answer
use Rattle.rbd_kinds.specs.declared.header.HeaderView.{HeaderView}
use Rattle.rbd_kinds.specs.declared.header.SnapContext.{SnapContext}
use Rattle.rbd_kinds.specs.declared.id.SiteId.{SiteId}
use Rattle.rbd_kinds.specs.declared.layout.Layout.{Layout}
use Rattle.rbd_kinds.specs.declared.layout.Part.{Part}
use Rattle.rbd_kinds.specs.Striping.{IsLayout}
use Rattle.rbd_layout.specs.Pieces.{IsPart, IsPartsOf}
use Rattle.rbd_layout.specs.declared.types.Piece.{Piece}
use Rattle.rbd_stands.specs.Condition.{ArePartsBelow, AreWhole, IsPartBelow, extents_of}
use Rattle.rbd_stands.specs.Effect.{effect_of_op}
use Rattle.rbd_stands.proofs.EffectLemmas as effects
use Rattle.rbd_flat.specs.declared.effect.Effect.{Effect}
use Rattle.rbd_flat.specs.declared.effect.Effect.TheVariants as effect
use Rattle.rbd_pieces.specs.Operations.{data_empty, data_remove, data_write_full, data_zero, done}
use Rattle.rbd_replies.specs.Places.{Placed, effects_of, with_effect}
use Rattle.rbd_replies.specs.Zeroed.{zero_effect}
use Rattle.rbd_replies.proofs.PlacedRight.{IsPlacedRight}
use Rattle.rbd_replies.proofs.Places.{step_at}
use Rattle.rbd_replies.proofs.PlacesTold.{effect_there, records_at}

-- ---- a header that is there

-- it is there, with the layout, the size and the snapshots of another one
pub record IsLike (h : HeaderView) (there : Option HeaderView) : Type 0 where
  pub view : HeaderView
  pub is : there ≡ Some view
  pub layout : view.layout ≡ h.layout
  pub size : view.size ≡ h.size
  pub snaps : view.snaps ≡ h.snaps

-- so it is at each place
abbrev pub AllLike : (image : ℕ) → HeaderView → List Placed → Type 0
AllLike image h [] = Unit {0}
AllLike image h (p ∷ places) = IsLike h ((records_at p).headers image) × AllLike image h places

pub like_front : (image : ℕ) (h : HeaderView) (front back : List Placed) → AllLike image h (front ++ back) → AllLike image h front
like_front image h [] back like = tt
like_front image h (p ∷ front) back like = (like.0, like_front image h front back like.1)

pub like_back : (image : ℕ) (h : HeaderView) (front back : List Placed) → AllLike image h (front ++ back) → AllLike image h back
like_back image h [] back like = like
like_back image h (p ∷ front) back like = like_back image h front back like.1

-- ---- effects, one after another

pub effects_append : (front back : List Placed) → effects_of (front ++ back) ≡ effects_of front ++ effects_of back
effects_append [] back = refl
effects_append (p ∷ front) back = ap (with_effect p.done.effect) (effects_append front back) ∙ by p.done.effect
  where
    by : (e : Option Effect) → with_effect e (effects_of front ++ effects_of back) ≡ with_effect e (effects_of front) ++ effects_of back
    by None = refl
    by (Some one) = refl

-- ---- effects of changes of objects

module _ (homes : ℕ → SiteId) (home : SiteId) (image : ℕ) (h : HeaderView) (p : Placed) (right : IsPlacedRight homes p) (like : IsLike h ((records_at p).headers image)) where
  laid : IsLayout like.view.layout
  laid = (right.standing.form.form image like.view like.is).layout

  pub laid_there : IsLayout h.layout
  laid_there = subst IsLayout like.layout laid

  -- parts lie below its size, too
  pub below_there : (size number : ℕ) (parts : List Part) → ArePartsBelow h size number parts → ArePartsBelow like.view size number parts
  below_there size number parts below =
      All-weaker (IsPartBelow h size number) (IsPartBelow like.view size number)
      (λ q lies. record { part = subst (λ (l : Layout). IsPart l number q) (sym like.layout) lies.part; below = lies.below }) parts below

  whole_there : (piece : Piece) → AreWhole h piece.object piece.parts → AreWhole like.view piece.object piece.parts
  whole_there piece whole =
      subst (λ size. IsPartsOf like.view.layout (record { at = 0; len = size }) piece.object piece.parts) (sym like.size)
      (subst (λ (l : Layout). IsPartsOf l (record { at = 0; len = h.size }) piece.object piece.parts) (sym like.layout) whole)

  module _ (context : SnapContext) (piece : Piece) where
    pub zero_there : (must : Bool) → ArePartsBelow h h.size piece.object piece.parts → step_at p ≡ done home (data_zero image context must piece) → p.done.effect ≡ Some (zero_effect image piece)
    zero_there must below is =
        effect_there homes p right (done home (data_zero image context must piece)) is
        ∙ ap (λ there. effect_of_op there (data_zero image context must piece) answer.Done) like.is
        ∙ effects.zero_effect like.view image piece.object context must piece.parts laid
        (subst (λ size. ArePartsBelow like.view size piece.object piece.parts) (sym like.size) (below_there h.size piece.object piece.parts below))

    pub empty_there : AreWhole h piece.object piece.parts → step_at p ≡ done home (data_empty image context piece.object) → p.done.effect ≡ Some (zero_effect image piece)
    empty_there whole is =
        effect_there homes p right (done home (data_empty image context piece.object)) is
        ∙ ap (λ there. effect_of_op there (data_empty image context piece.object) answer.Done) like.is
        ∙ effects.empty_effect like.view image piece.object context piece.parts laid (whole_there piece whole)

    pub remove_there : AreWhole h piece.object piece.parts → step_at p ≡ done home (data_remove image context piece.object) → p.done.effect ≡ Some (zero_effect image piece)
    remove_there whole is =
        effect_there homes p right (done home (data_remove image context piece.object)) is
        ∙ ap (λ there. effect_of_op there (data_remove image context piece.object) answer.Done) like.is
        ∙ effects.remove_effect like.view image piece.object context piece.parts laid (whole_there piece whole)

    pub replace_there : (bytes : List ℕ) → AreWhole h piece.object piece.parts → step_at p ≡ done home (data_write_full image context piece.object bytes)
        → p.done.effect ≡ Some (effect.Piece image (extents_of piece.parts) bytes)
    replace_there bytes whole is =
        effect_there homes p right (done home (data_write_full image context piece.object bytes)) is
        ∙ ap (λ there. effect_of_op there (data_write_full image context piece.object bytes) answer.Done) like.is
        ∙ effects.replace_effect like.view image piece.object context bytes piece.parts laid (whole_there piece whole)
