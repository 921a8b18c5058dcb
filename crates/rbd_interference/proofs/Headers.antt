-- A header that is known is there.
use Rattle.std.proofs.Common.{◌≡◌, inl, ℕ, Option, Some, None, refl, sym, ap, ◌∙◌, subst, true≢false}
use Rattle.std.proofs.lemmas.Option.{none-some}
use Rattle.std.specs.Prelude.{IsFalse, IsSome}
use Rattle.rbd_kinds.specs.declared.header.HeaderView.{HeaderView}
use Rattle.rbd_kinds.specs.declared.id.Instance.{Instance}
use Rattle.rbd_kinds.specs.declared.id.SiteId.{SiteId}
use Rattle.rbd_kinds.specs.declared.sharing.Sharing.{Sharing}
use Rattle.rbd_kinds.specs.Striping.{IsLayout}
use Rattle.rbd_machine.specs.Knowledge.{Knowledge, own_of}
use Rattle.rbd_machine.specs.Permits.{OwnsBy}
use Rattle.rbd_machine.specs.Possible.{IsStillAs}
use Rattle.rbd_site.specs.Records.{Records}
use Rattle.rbd_site.specs.Step.{is_fenced}
use Rattle.rbd_interference.specs.Truth.{IsTrueAt, IsStill, header_of_own, known_header, sharing_on, IsStillOwn}

-- the header that is there, where one is known
pub record IsThere (sharing : Sharing) (known : HeaderView) (there : Option HeaderView) : Type 0 where
  pub view : HeaderView
  pub is : there ≡ Some view
  pub still : IsStillAs sharing known view

-- one that is the same but for its owner still is as it was
pub still_exactly : (sharing : Sharing) (known there : HeaderView) → there ≡ record known { owner = there.owner } → IsStillAs sharing known there
still_exactly sharing known there exact = record {
  same =
      let generation : there.generation ≡ known.generation = ap (λ (h : HeaderView). h.generation) exact in
      let parent : there.parent ≡ known.parent = ap (λ (h : HeaderView). h.parent) exact in
      exact
      ∙ ap (λ n. record known { owner = there.owner; generation = n }) (sym generation)
      ∙ ap (λ p. record known { owner = there.owner; generation = there.generation; parent = p }) (sym parent);
  parent = inl (ap (λ (h : HeaderView). h.parent) exact);
  exact = λ either. exact;
}

pub same_layout : (sharing : Sharing) (h v : HeaderView) → IsStillAs sharing h v → IsLayout v.layout → IsLayout h.layout
same_layout sharing h v still laid = subst IsLayout (ap (λ (w : HeaderView). w.layout) still.same) laid

there_of : (sharing : Sharing) (h : HeaderView) (there : Option HeaderView) → IsStill sharing (Some h) there → IsThere sharing h there
there_of sharing h None still = elim still [ ]
there_of sharing h (Some t) still = record { view = t; is = refl; still = still }

pub find_there : (sharing : Sharing) (known there : Option HeaderView) (h : HeaderView) → known ≡ Some h → IsStill sharing known there → IsThere sharing h there
find_there sharing known there h is still = there_of sharing h there (subst (λ o. IsStill sharing o there) is still)

pub own_known : (k : Knowledge) (site : SiteId) (image : ℕ) (condition : Sharing → HeaderView → Type 0) (owns : OwnsBy k site image condition)
    → known_header k site image ≡ Some owns.header
own_known k site image condition owns = ap header_of_own owns.is

-- the header of an image that it owns
pub owned_there : (site : SiteId) (r : Records) (me : Instance) (k : Knowledge) (image : ℕ) (condition : Sharing → HeaderView → Type 0) → IsTrueAt site r me k → IsFalse (is_fenced r me)
    → (owns : OwnsBy k site image condition) → IsThere owns.sharing owns.header (r.headers image)
owned_there site r me k image condition t free owns =
    there_of owns.sharing owns.header (r.headers image) (subst (λ own. IsStillOwn own (r.headers image)) owns.is (t.owned free image))

-- an image that somebody owns isn't one that waits for its header
pub not_waiting : (site : SiteId) (r : Records) (me : Instance) (k : Knowledge) (image : ℕ) (condition : Sharing → HeaderView → Type 0) → IsTrueAt site r me k → IsFalse (is_fenced r me)
    → OwnsBy k site image condition → r.headers image ≡ None → ⊥
not_waiting site r me k image condition t free owns none =
    let there = owned_there site r me k image condition t free owns in
    none-some there.view (sym none ∙ there.is)

pub unknown_of_none : (sharing : Sharing) (known there : Option HeaderView) → IsStill sharing known None → IsStill sharing known there
unknown_of_none sharing None there still = tt
unknown_of_none sharing (Some h) there still = elim still [ ]

-- who knows a header knows none of an id that waits for one
pub unknown_while_waiting : (site : SiteId) (r : Records) (me : Instance) (k : Knowledge) (image : ℕ) → IsTrueAt site r me k → IsFalse (is_fenced r me) → IsSome (known_header k site image)
    → r.headers image ≡ None → ⊥
unknown_while_waiting site r me k image t free some none = by (known_header k site image) refl some
  where
    by : (known : Option HeaderView) → known_header k site image ≡ known → IsSome known → ⊥
    by None is some = true≢false (sym some)
    by (Some h) is some =
        subst (λ known. IsStill (sharing_on k site image) known None) is (subst (IsStillOwn (own_of k.owns site image)) none (t.owned free image))
