-- Instances in order, and how one is told from another.
use Rattle.std.specs.Prelude.{ℕ, refl}
use Rattle.std.specs.Ordering.{nat_cmp, ordering_then}
use Rattle.std.specs.declared.cmp.Ordering.{Ordering}
use Rattle.std.specs.Coded.{Coded, code_by, coded×, coded_ℕ}
use Rattle.rbd_kinds.specs.declared.id.Instance.{Instance}

-- by session, then by life
abbrev pub instance_cmp : Instance → Instance → Ordering
instance_cmp a b = ordering_then (nat_cmp a.session b.session) (nat_cmp a.life b.life)

abbrev pub instance_code : Coded Instance
instance_code = code_by (ℕ × ℕ) (coded× coded_ℕ coded_ℕ) (λ i. (i.session, i.life))
    (λ p. record { session = p.0; life = p.1 }) (λ _. refl)
