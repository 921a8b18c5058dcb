-- The newest span of a list: where it ends, what it bears, and what an extension makes of it.
use Rattle.std.proofs.Common.{◌≡◌, ℕ, suc, ◌+◌, ◌-◌, ◌≤◌, Bool, true, false, cond, List, [], ◌∷◌, ◌++◌, length, set, Some, refl, sym, ap, subst, ◌∙◌, arith}
use Rattle.std.specs.Prelude.{slice_get}
use Rattle.std.proofs.lemmas.Option.{same_Some}
use Rattle.rbd_kinds.specs.declared.journal.Position.{Position}
use Rattle.rbd_kinds.specs.declared.journal.Span.{Span}
use Rattle.rbd_kinds.specs.declared.journal.Tag.{Tag}
use Rattle.rbd_kinds.specs.Spans.{RunFrom, end_after}
use Rattle.rbd_journal.specs.Records.{bears_from, extended, extended_from, newest_bears, same_tag, span_at}

end_from : (before : ℕ) (s : Span) (spans : List Span) (x : Span) → slice_get (s ∷ spans) (length spans) ≡ Some x → end_after before (s ∷ spans) ≡ x.last
end_from before s [] x e = ap (λ (y : Span). y.last) (same_Some s x e)
end_from before s (t ∷ spans) x e = end_from s.last t spans x e

bears_newest : (tag : Tag) (s : Span) (spans : List Span) (x : Span) → slice_get (s ∷ spans) (length spans) ≡ Some x → bears_from tag s spans ≡ same_tag x.tag tag
bears_newest tag s [] x e = ap (λ (y : Span). same_tag y.tag tag) (same_Some s x e)
bears_newest tag s (t ∷ spans) x e = bears_newest tag t spans x e

one_less : (n : ℕ) → suc n - 1 ≡ n
one_less n = omega arith

pub end_is : (spans : List Span) (x : Span) → Some x ≡ slice_get spans (length spans - 1) → x.last ≡ end_after 0 spans
end_is [] x e = absurd cc
end_is (s ∷ spans) x e = sym (end_from 0 s spans x (sym (e ∙ ap (slice_get (s ∷ spans)) (one_less (length spans)))))

pub bears_is : (tag : Tag) (spans : List Span) (x : Span) → Some x ≡ slice_get spans (length spans - 1) → same_tag x.tag tag ≡ newest_bears tag spans
bears_is tag [] x e = absurd cc
bears_is tag (s ∷ spans) x e = sym (bears_newest tag s spans x (sym (e ∙ ap (slice_get (s ∷ spans)) (one_less (length spans)))))

pub some_span : (tag : Tag) (spans : List Span) → newest_bears tag spans ≡ true → 1 ≤ length spans
some_span tag [] e = absurd cc
some_span tag (s ∷ spans) e = omega arith

goes_on_from : (p : Position) (s : Span) (spans : List Span) (x : Span) → bears_from p.tag s spans ≡ true → slice_get (s ∷ spans) (length spans) ≡ Some x
    → extended_from p s spans ≡ set (s ∷ spans) (length spans) (record x { last = p.seq })
goes_on_from p s [] x bears e =
    ap (λ (b : Bool). cond b (record s { last = p.seq } ∷ []) (s ∷ span_at p ∷ [])) bears
    ∙ ap (λ (y : Span). record y { last = p.seq } ∷ []) (same_Some s x e)
goes_on_from p s (t ∷ spans) x bears e = ap (λ (ys : List Span). s ∷ ys) (goes_on_from p t spans x bears e)

pub goes_on : (p : Position) (spans : List Span) (n : ℕ) (x : Span) → newest_bears p.tag spans ≡ true → n ≡ length spans - 1 → slice_get spans n ≡ Some x
    → extended p spans ≡ set spans n (record x { last = p.seq })
goes_on p [] n x bears n-is e = absurd cc
goes_on p (s ∷ spans) n x bears n-is e =
    let k : n ≡ length spans = n-is ∙ one_less (length spans) in
    subst (λ (m : ℕ). extended p (s ∷ spans) ≡ set (s ∷ spans) m (record x { last = p.seq })) (sym k)
    (goes_on_from p s spans x bears (sym (ap (slice_get (s ∷ spans)) k) ∙ e))

begins_from : (p : Position) (s : Span) (spans : List Span) → bears_from p.tag s spans ≡ false → extended_from p s spans ≡ (s ∷ spans) ++ span_at p ∷ []
begins_from p s [] other = ap (λ (b : Bool). cond b (record s { last = p.seq } ∷ []) (s ∷ span_at p ∷ [])) other
begins_from p s (t ∷ spans) other = ap (λ (ys : List Span). s ∷ ys) (begins_from p t spans other)

pub begins : (p : Position) (spans : List Span) → newest_bears p.tag spans ≡ false → extended p spans ≡ spans ++ span_at p ∷ []
begins p [] other = refl
begins p (s ∷ spans) other = begins_from p s spans other

-- ---- an extension by the next position keeps the run

run_from : (p : Position) (before next : ℕ) (s : Span) (spans : List Span) → RunFrom next (s ∷ spans) → p.seq ≡ end_after before (s ∷ spans) + 1 → RunFrom next (extended_from p s spans)
run_from p before next s [] run at_end =
    elim (same_tag s.tag p.tag) as (λ b. RunFrom next (cond b (record s { last = p.seq } ∷ []) (s ∷ span_at p ∷ []))) [
      | true ↦ (run.0, omega (arith, run.1, at_end), tt)
      | false ↦ (run.0, run.1, (at_end, omega arith, tt))
    ]
run_from p before next s (t ∷ spans) run at_end = (run.0, run.1, run_from p s.last (s.last + 1) t spans run.2 at_end)

pub still_runs : (p : Position) (spans : List Span) → RunFrom 1 spans → p.seq ≡ end_after 0 spans + 1 → RunFrom 1 (extended p spans)
still_runs p [] run at_end = (at_end, omega arith, tt)
still_runs p (s ∷ spans) run at_end = run_from p 0 1 s spans run at_end

ends_from : (p : Position) (before : ℕ) (s : Span) (spans : List Span) → end_after before (extended_from p s spans) ≡ p.seq
ends_from p before s [] =
    elim (same_tag s.tag p.tag) as (λ b. end_after before (cond b (record s { last = p.seq } ∷ []) (s ∷ span_at p ∷ [])) ≡ p.seq) [ true ↦ refl | false ↦ refl ]
ends_from p before s (t ∷ spans) = ends_from p s.last t spans

pub ends_there : (p : Position) (spans : List Span) → end_after 0 (extended p spans) ≡ p.seq
ends_there p [] = refl
ends_there p (s ∷ spans) = ends_from p 0 s spans
