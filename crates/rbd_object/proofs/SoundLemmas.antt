-- Changes of the list of versions, and what holds of it after them.
use Rattle.std.proofs.Common.{◌≡◌, ℕ, ◌≤◌, true, ◌&&◌, List, [], ◌∷◌, ◌++◌, filter, Option, Some, None, option_to_list, max, refl, sym, ap, ◌∙◌, subst, arith}
use Rattle.std.specs.Ordering.{nat_cmp}
use Rattle.std.specs.FinMap.{get-empty, retain_keys}
use Rattle.rbd_kinds.specs.declared.header.SnapContext.{SnapContext}
use Rattle.rbd_object.specs.Kept.{AreNewest, AreUsed, Kept, is_listed, kept_by, new_version}
use Rattle.rbd_object.specs.Versioned.{Versioned, IsTidy, is_version_due, change, trim}
use Rattle.rbd_object.specs.Mapped.{IsSound, Mapped, value_of, versioned, keep_head, due_snaps, mapped_change}
use Rattle.rbd_object.proofs.KeptLemmas.{is_listed-filter}
use Rattle.rbd_object.proofs.MappedLemmas.{looked-mapped_change, looked-mapped_trim}

pub due_snaps_past : (c : SnapContext) (seq : ℕ) → c.seq ≤ seq → due_snaps c seq ≡ []
due_snaps_past c seq past = go c.snaps where
  go : (snaps : List ℕ) → filter (is_version_due seq c.seq) snaps ≡ []
  go [] = refl
  go (s ∷ snaps) = grind (arith, go snaps)

pub kept_by-new_version : (head : Option (List ℕ)) (snaps : List ℕ) (versions : List Kept)
    → kept_by (option_to_list (new_version head snaps) ++ versions) ≡ keep_head head snaps (kept_by versions)
kept_by-new_version None snaps versions = refl
kept_by-new_version (Some bytes) [] versions = refl
kept_by-new_version (Some bytes) (s ∷ snaps) versions = refl

pub tidy_change : (c : SnapContext) (new : Option (List ℕ)) (o : Versioned) → IsTidy o → IsTidy (change c new o)
tidy_change c new o tidy = record { above = λ snap h. grind (arith, tidy.above snap) }

pub tidy_trim : (live : List ℕ) (o : Versioned) → IsTidy o → IsTidy (trim live o)
tidy_trim live o tidy = record { above = λ snap h. grind (arith, tidy.above snap) }

pub sound_blank : (versions : List Kept) → versions ≡ [] → IsSound 0 versions
sound_blank versions e = rw e (record { tidy = record { above = λ snap h. get-empty nat_cmp snap }; used = refl; newest = tt })

-- what a change makes of the fields
pub changed_value : (c : SnapContext) (head new : Option (List ℕ)) (seq next : ℕ) (versions : List Kept) (version : Option Kept)
    → version ≡ new_version head (due_snaps c seq) → next ≡ max seq c.seq
    → value_of new next (option_to_list version ++ versions) ≡ mapped_change c new (value_of head seq versions)
changed_value c head new seq next versions version v n =
    rw (v, n) (ap (λ kept. record { head = new; seq = max seq c.seq; kept = kept }) (kept_by-new_version head (due_snaps c seq) versions))

tidy_changed : (c : SnapContext) (head : Option (List ℕ)) (seq next : ℕ) (versions : List Kept) (version : Option Kept)
    → version ≡ new_version head (due_snaps c seq) → next ≡ max seq c.seq
    → IsTidy (versioned (value_of None seq versions)) → IsTidy (versioned (value_of None next (option_to_list version ++ versions)))
tidy_changed c head seq next versions version v n tidy =
    subst IsTidy
    (sym (ap versioned (changed_value c head None seq next versions version v n) ∙ looked-mapped_change c None (value_of head seq versions)))
    (tidy_change c None (versioned (value_of head seq versions)) (record { above = tidy.above }))

used_changed : (head : Option (List ℕ)) (snaps : List ℕ) (versions : List Kept)
    → AreUsed versions → AreUsed (option_to_list (new_version head snaps) ++ versions)
used_changed None snaps versions used = used
used_changed (Some bytes) [] versions used = used
used_changed (Some bytes) (s ∷ snaps) versions used = used

-- the snapshots for which a change is the first have nothing kept
newest_changed : (c : SnapContext) (head : Option (List ℕ)) (seq : ℕ) (versions : List Kept) → IsTidy (versioned (value_of None seq versions))
    → AreNewest versions → AreNewest (option_to_list (new_version head (due_snaps c seq)) ++ versions)
newest_changed c None seq versions tidy newest = newest
newest_changed c (Some bytes) seq versions tidy newest = go (due_snaps c seq) refl where
  go : (snaps : List ℕ) → snaps ≡ due_snaps c seq → AreNewest (option_to_list (new_version (Some bytes) snaps) ++ versions)
  go [] e = newest
  go (s ∷ snaps) e = (
    λ snap listed.
        let due : (is_version_due seq c.seq snap && is_listed c.snaps snap) ≡ true =
        sym (is_listed-filter (is_version_due seq c.seq) c.snaps snap) ∙ ap (λ xs. is_listed xs snap) (sym e) ∙ listed in
        tidy.above snap (grind arith),
    newest,
  )

pub sound_trimmed : (live : List ℕ) (seq : ℕ) (old new : List Kept)
    → kept_by new ≡ retain_keys (kept_by old) (is_listed live) → AreUsed new → AreNewest new → IsSound seq old → IsSound seq new
sound_trimmed live seq old new kept used newest sound = record {
  tidy =
      subst IsTidy
      (sym (ap (λ k. versioned (record { head = None; seq = seq; kept = k })) kept ∙ looked-mapped_trim live (value_of None seq old)))
      (tidy_trim live (versioned (value_of None seq old)) sound.tidy);
  used = used;
  newest = newest;
}

-- A change in the steps of the code: o is the value before, `snaps` were picked, `version` was made
-- of the head, `room` are the versions after memory was taken, and `items` those at the end.
pub sound_step : (c : SnapContext) (o : Mapped) (head : Option (List ℕ)) (seq next : ℕ) (snaps : List ℕ)
    (version : Option Kept) (versions room items : List Kept)
    → value_of head seq versions ≡ o → new_version o.head snaps ≡ new_version o.head (due_snaps c o.seq)
    → version ≡ new_version head snaps → room ≡ versions → items ≡ option_to_list version ++ room → next ≡ max seq c.seq
    → IsSound seq versions → IsSound next items
sound_step c o head seq next snaps version versions room items is picked made same added n sound =
    let due : new_version head snaps ≡ new_version head (due_snaps c seq) =
    subst (λ (x : Mapped). new_version x.head snaps ≡ new_version x.head (due_snaps c x.seq)) (sym is) picked in
    rw (added, same) (record {
      tidy = tidy_changed c head seq next versions version (made ∙ due) n sound.tidy;
      used = rw made (used_changed head snaps versions sound.used);
      newest = rw (made ∙ due) (newest_changed c head seq versions sound.tidy sound.newest);
    })
