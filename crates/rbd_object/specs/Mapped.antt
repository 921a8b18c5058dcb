-- The versioned object as a value, which contracts see an `Object` as.
use Rattle.std.specs.Prelude.{ℕ, List, filter, max, Option, Some, None, unwrap_or, refl}
use Rattle.std.specs.Coded.{Coded, code_by, coded×, coded_ℕ, coded_list, coded_option}
use Rattle.std.specs.Ordering.{nat_cmp}
use Rattle.std.specs.FinMap as map
use Rattle.rbd_kinds.specs.declared.header.SnapContext.{SnapContext}
use Rattle.rbd_object.specs.Kept.{Kept, AreNewest, AreUsed, is_listed, keep_each, kept_by}
use Rattle.rbd_object.specs.Versioned.{Versioned, IsTidy, is_version_due}

pub record Mapped : Type 0 where
  pub head : Option (List ℕ)
  pub seq : ℕ
  pub kept : map.FinMap nat_cmp (List ℕ)

abbrev pub mapped_code : Coded Mapped
mapped_code =
    code_by (Option (List ℕ) × (ℕ × map.FinMap nat_cmp (List ℕ)))
    (coded× (coded_option (coded_list coded_ℕ)) (coded× coded_ℕ (map.code coded_ℕ (coded_list coded_ℕ))))
    (λ o. (o.head, (o.seq, o.kept)))
    (λ p. record { head = p.0; seq = p.1.0; kept = p.1.1 })
    (λ _. refl)

-- the value of an object with these versions, newest first
abbrev pub value_of : (head : Option (List ℕ)) → (seq : ℕ) → (versions : List Kept) → Mapped
value_of head seq versions = record { head = head; seq = seq; kept = kept_by versions }

-- the versioned object that a value stands for
abbrev pub versioned : Mapped → Versioned
versioned o = record { head = o.head; seq = o.seq; kept = map.get o.kept }

abbrev pub mapped_blank : Mapped
mapped_blank = record { head = None; seq = 0; kept = map.empty }

-- the map with a head kept for these snapshots, unless it is absent
abbrev pub keep_head : Option (List ℕ) → (snaps : List ℕ) → map.FinMap nat_cmp (List ℕ) → map.FinMap nat_cmp (List ℕ)
keep_head None snaps kept = kept
keep_head (Some bytes) snaps kept = keep_each bytes snaps kept

-- the listed snapshots for which a change is the first
abbrev pub due_snaps : SnapContext → (seq : ℕ) → List ℕ
due_snaps c seq = filter (is_version_due seq c.seq) c.snaps

abbrev pub mapped_change : SnapContext → (new : Option (List ℕ)) → Mapped → Mapped
mapped_change c new o = record {
  head = new;
  seq = max o.seq c.seq;
  kept = keep_head o.head (due_snaps c o.seq) o.kept;
}

abbrev pub mapped_copy_up : (bytes : List ℕ) → Mapped → Mapped
mapped_copy_up bytes o = record o { head = Some (unwrap_or o.head bytes) }

abbrev pub mapped_trim : (live : List ℕ) → Mapped → Mapped
mapped_trim live o = record o { kept = map.retain_keys o.kept (is_listed live) }

-- What holds of an object's versions at every moment: nothing is kept above `seq`, no version is
-- left that no snapshot needs, and each is the newest for its snapshots.
pub record IsSound (seq : ℕ) (versions : List Kept) : Type 0 where
  pub tidy : IsTidy (versioned (value_of None seq versions))
  pub used : AreUsed versions
  pub newest : AreNewest versions
