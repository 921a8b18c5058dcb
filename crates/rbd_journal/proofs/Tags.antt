-- The tag of a number: what an extension by the next position makes of it.
use Rattle.std.proofs.Common.{◌≡◌, ◌≢◌, ℕ, zero, suc, ◌+◌, ◌<◌, ◌≤◌, Bool, true, false, ◌&&◌, cond, List, [], ◌∷◌, Option, Some, None, sym, ap, subst, ◌∙◌, arith, inl, inr}
use Rattle.std.specs.Prelude.{nat_le, slice_get, ◌==◌}
use Rattle.std.proofs.lemmas.Bool.{and_from, and_left, and_parts, and_right, cases_Bool, cases_order, cond-true, cond-false, eqb-true, le-leb, lt-leb}
use Rattle.std.proofs.lemmas.Option.{same_Some}
use Rattle.rbd_kinds.specs.declared.id.SiteId.{SiteId}
use Rattle.rbd_kinds.specs.declared.journal.Position.{Position}
use Rattle.rbd_kinds.specs.declared.journal.Span.{Span}
use Rattle.rbd_kinds.specs.declared.journal.Tag.{Tag}
use Rattle.rbd_kinds.specs.Spans.{RunFrom, end_after}
use Rattle.rbd_kinds.specs.Images.{same_site}
use Rattle.rbd_kinds.proofs.Images.{same_site_is}
use Rattle.rbd_journal.specs.Records.{extended, extended_from, has, same_tag, span_at, tag_of}

tag_is : (a b : Tag) → same_tag a b ≡ true → a ≡ b
tag_is a b e =
    let parts = and_parts (same_site a.site b.site && (a.image == b.image)) (a.no == b.no) e in
    let first = and_parts (same_site a.site b.site) (a.image == b.image) parts.0 in
    ap (λ (s : SiteId). record a { site = s }) (same_site_is a.site b.site first.0)
    ∙ ap (λ (n : ℕ). record a { site = b.site; image = n }) (eqb-true a.image b.image first.1)
    ∙ ap (λ (n : ℕ). record b { no = n }) (eqb-true a.no b.no parts.1)

within : (s : Span) (seq : ℕ) → s.first ≤ seq → seq ≤ s.last → has s seq ≡ true
within s seq from to = and_from (nat_le s.first seq) (nat_le seq s.last) (le-leb s.first seq from) (le-leb seq s.last to)

behind : (s : Span) (seq : ℕ) → s.last < seq → has s seq ≡ false
behind s seq lt = and_right (nat_le s.first seq) (nat_le seq s.last) (lt-leb seq s.last lt)

before : (s : Span) (seq : ℕ) → seq < s.first → has s seq ≡ false
before s seq lt = and_left (nat_le s.first seq) (nat_le seq s.last) (lt-leb s.first seq lt)

alone : (p : Position) (seq : ℕ) → seq ≢ p.seq → has (span_at p) seq ≡ false
alone p seq other =
    elim (cases_order seq p.seq) [
      | inl e ↦ absurd (other e)
      | inr (inl lt) ↦ before (span_at p) seq lt
      | inr (inr lt) ↦ behind (span_at p) seq lt
    ]

-- a number further, a span has one number more
longer : (s : Span) (last seq : ℕ) → last ≡ s.last + 1 → seq ≢ last → has (record s { last = last }) seq ≡ has s seq
longer s last seq next other =
    elim (cases_order seq last) [
      | inl e ↦ absurd (other e)
      | inr (inl lt) ↦ ap (λ (b : Bool). nat_le s.first seq && b) (le-leb seq last (omega (arith, lt)) ∙ sym (le-leb seq s.last (omega (arith, lt, next))))
      | inr (inr lt) ↦ behind (record s { last = last }) seq lt ∙ sym (behind s seq (omega (arith, lt, next)))
    ]

ends_behind : (last : ℕ) (spans : List Span) → RunFrom (last + 1) spans → last ≤ end_after last spans
ends_behind last [] run = omega arith
ends_behind last (s ∷ spans) run = let rest : s.last ≤ end_after s.last spans = ends_behind s.last spans run.2 in omega (arith, run.0, run.1, rest)

-- what an extension of one span is, by whether it bears the tag
abbrev made_of : Position → Span → Bool → List Span
made_of p s same = cond same (record s { last = p.seq } ∷ []) (s ∷ span_at p ∷ [])

here_from : (p : Position) (last next : ℕ) (s : Span) (spans : List Span) → RunFrom next (s ∷ spans) → p.seq ≡ end_after last (s ∷ spans) + 1
    → tag_of (extended_from p s spans) p.seq ≡ Some p.tag
here_from p last next s [] run at_end =
    elim (cases_Bool (same_tag s.tag p.tag)) [
      | inl e ↦
          ap (λ (b : Bool). tag_of (made_of p s b) p.seq) e
          ∙ cond-true (has (record s { last = p.seq }) p.seq) (Some s.tag) None (within (record s { last = p.seq }) p.seq (omega (arith, run.1, at_end)) (omega arith))
          ∙ ap Some (tag_is s.tag p.tag e)
      | inr e ↦
          ap (λ (b : Bool). tag_of (made_of p s b) p.seq) e
          ∙ cond-false (has s p.seq) (Some s.tag) (tag_of (span_at p ∷ []) p.seq) (behind s p.seq (omega (arith, at_end)))
          ∙ cond-true (has (span_at p) p.seq) (Some p.tag) None (within (span_at p) p.seq (omega arith) (omega arith))
    ]
here_from p last next s (t ∷ spans) run at_end =
    let ends : s.last ≤ end_after s.last (t ∷ spans) = ends_behind s.last (t ∷ spans) run.2 in
    cond-false (has s p.seq) (Some s.tag) (tag_of (extended_from p t spans) p.seq) (behind s p.seq (omega (arith, at_end, ends)))
    ∙ here_from p s.last (s.last + 1) t spans run.2 at_end

pub tag_here : (p : Position) (spans : List Span) → RunFrom 1 spans → p.seq ≡ end_after 0 spans + 1 → tag_of (extended p spans) p.seq ≡ Some p.tag
tag_here p [] run at_end = cond-true (has (span_at p) p.seq) (Some p.tag) None (within (span_at p) p.seq (omega arith) (omega arith))
tag_here p (s ∷ spans) run at_end = here_from p 0 1 s spans run at_end

elsewhere_from : (p : Position) (last : ℕ) (s : Span) (spans : List Span) (seq : ℕ) → p.seq ≡ end_after last (s ∷ spans) + 1 → seq ≢ p.seq
    → tag_of (extended_from p s spans) seq ≡ tag_of (s ∷ spans) seq
elsewhere_from p last s [] seq at_end other =
    elim (cases_Bool (same_tag s.tag p.tag)) [
      | inl e ↦
          ap (λ (b : Bool). tag_of (made_of p s b) seq) e
          ∙ ap (λ (b : Bool). cond b (Some s.tag) None) (longer s p.seq seq at_end other)
      | inr e ↦
          ap (λ (b : Bool). tag_of (made_of p s b) seq) e
          ∙ ap (λ (b : Bool). cond (has s seq) (Some s.tag) (cond b (Some p.tag) None)) (alone p seq other)
    ]
elsewhere_from p last s (t ∷ spans) seq at_end other =
    ap (λ (o : Option Tag). cond (has s seq) (Some s.tag) o) (elsewhere_from p s.last t spans seq at_end other)

pub tag_elsewhere : (p : Position) (spans : List Span) (seq : ℕ) → p.seq ≡ end_after 0 spans + 1 → seq ≢ p.seq → tag_of (extended p spans) seq ≡ tag_of spans seq
tag_elsewhere p [] seq at_end other = cond-false (has (span_at p) seq) (Some p.tag) None (alone p seq other)
tag_elsewhere p (s ∷ spans) seq at_end other = elsewhere_from p 0 s spans seq at_end other

-- ---- spans that run on have no number twice

-- each span of a run begins where the run does, or behind that
first_from : (next : ℕ) (spans : List Span) (s : Span) (k : ℕ) → RunFrom next spans → slice_get spans k ≡ Some s → next ≤ s.first
first_from next [] s k run at = absurd cc
first_from next (t ∷ spans) s zero run at = let same : t.first ≡ s.first = ap (λ (x : Span). x.first) (same_Some t s at) in omega (arith, run.0, same)
first_from next (t ∷ spans) s (suc k) run at =
    let later : t.last + 1 ≤ s.first = first_from (t.last + 1) spans s k run.2 at in
    omega (arith, run.0, run.1, later)

pub only_tag : (next : ℕ) (spans : List Span) (s : Span) (k seq : ℕ) → RunFrom next spans → slice_get spans k ≡ Some s → s.first ≤ seq → seq ≤ s.last
    → tag_of spans seq ≡ Some s.tag
only_tag next [] s k seq run at from to = absurd cc
only_tag next (t ∷ spans) s zero seq run at from to =
    let same : t ≡ s = same_Some t s at in
    subst (λ (x : Span). tag_of (x ∷ spans) seq ≡ Some s.tag) (sym same) (cond-true (has s seq) (Some s.tag) (tag_of spans seq) (within s seq from to))
only_tag next (t ∷ spans) s (suc k) seq run at from to =
    let later : t.last + 1 ≤ s.first = first_from (t.last + 1) spans s k run.2 at in
    cond-false (has t seq) (Some t.tag) (tag_of spans seq) (behind t seq (omega (arith, later, from)))
    ∙ only_tag (t.last + 1) spans s k seq run.2 at from to
