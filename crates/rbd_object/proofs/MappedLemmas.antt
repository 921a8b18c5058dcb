-- A value and the versioned object that it stands for.
use Rattle.std.proofs.Common.{◌≡◌, ℕ, cond, List, Option, Some, None, max, refl, ap, ◌∙◌}
use Rattle.std.proofs.Math.Path.{fun_ext}
use Rattle.std.specs.Ordering.{nat_cmp}
use Rattle.std.specs.FinMap.{FinMap, get, get-empty}
use Rattle.rbd_kinds.specs.declared.header.SnapContext.{SnapContext}
use Rattle.rbd_object.specs.Versioned.{is_version_due, blank_object, change, trim, keeps_head_for}
use Rattle.rbd_object.specs.Mapped.{Mapped, versioned, keep_head, due_snaps, mapped_blank, mapped_change, mapped_trim}
use Rattle.rbd_object.proofs.KeptLemmas.{get-keep_each, is_listed-filter, get-live}

pub looked-mapped_blank : versioned mapped_blank ≡ blank_object
looked-mapped_blank = ap (λ kept. record { head = None; seq = 0; kept = kept }) (fun_ext (get-empty nat_cmp))

get-keep_head : (c : SnapContext) (seq : ℕ) (head : Option (List ℕ)) (kept : FinMap nat_cmp (List ℕ)) (snap : ℕ)
    → get (keep_head head (due_snaps c seq) kept) snap
    ≡ cond (keeps_head_for c (record { head = head; seq = seq; kept = get kept }) snap) head (get kept snap)
get-keep_head c seq None kept snap = refl
get-keep_head c seq (Some bytes) kept snap =
    get-keep_each bytes (due_snaps c seq) kept snap
    ∙ ap (λ b. cond b (Some bytes) (get kept snap)) (is_listed-filter (is_version_due seq c.seq) c.snaps snap)

pub looked-mapped_change : (c : SnapContext) (new : Option (List ℕ)) (o : Mapped) → versioned (mapped_change c new o) ≡ change c new (versioned o)
looked-mapped_change c new o =
    ap (λ kept. record { head = new; seq = max o.seq c.seq; kept = kept }) (fun_ext (get-keep_head c o.seq o.head o.kept))

pub looked-mapped_trim : (live : List ℕ) (o : Mapped) → versioned (mapped_trim live o) ≡ trim live (versioned o)
looked-mapped_trim live o = ap (λ kept. record { head = o.head; seq = o.seq; kept = kept }) (fun_ext (get-live live o.kept))
