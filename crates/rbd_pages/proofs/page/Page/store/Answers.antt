use Rattle.std.proofs.Common.{◌≡◌, ℕ, zero, suc, List, [], replicate, slice_index, refl, sym, ap, ◌∙◌}
use Rattle.std.proofs.lemmas.Bool.{eqb-true}
use Rattle.std.proofs.lemmas.List.{nil_from_length}
use Rattle.rbd_pages.specs.Sheets.{Sheet}
use Rattle.rbd_pages.proofs.page.Page.store.Goals as goal

zero_bytes : (n k : ℕ) → slice_index (replicate n 0) k ≡ 0
zero_bytes zero k = refl
zero_bytes (suc n) zero = refl
zero_bytes (suc n) (suc k) = zero_bytes n k

pub returns-in_ok-self-inside-clause-bytes : goal.returns-in_ok-self-inside-clause-bytes
returns-in_ok-self-inside-clause-bytes c = λ k.
    let none : c.args.self.now.bytes ≡ [] =
    ap (λ (p : Sheet). p.bytes) (sym c.self.view_is) ∙ nil_from_length c.self.inside.bytes.items (sym c.self.inside.bytes.ok.0 ∙ eqb-true _ _ (sym c.is_empty.ensures ∙ c.if-is_empty.true)) in
    ap (λ (xs : List ℕ). slice_index xs k) c.in_ok-self-inside.ensures.items ∙ zero_bytes 4096 k ∙ sym (ap (λ (xs : List ℕ). slice_index xs k) none)
