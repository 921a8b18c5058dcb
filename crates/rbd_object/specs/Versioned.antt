-- The versioned object (Ceph: RADOS objects with self-managed snapshots). The laws speak of it.
use Rattle.std.specs.Prelude.{◌≡◌, ℕ, ◌<◌, Bool, true, ◌&&◌, nat_lt, nat_le, max, if◌then◌else◌, List, [], ◌∷◌, Option, Some, None, is_some, unwrap_or}
use Rattle.rbd_kinds.specs.declared.header.SnapContext.{SnapContext}
use Rattle.rbd_object.specs.Kept.{is_listed}

-- The head and what is kept for a snapshot are absent (None), or bytes.
pub record Versioned : Type 0 where
  pub head : Option (List ℕ)
  pub seq : ℕ
  pub kept : ℕ → Option (List ℕ)

-- an object that nothing was done to
abbrev pub blank_object : Versioned
blank_object = record { head = None; seq = 0; kept = λ _. None }

-- what is read of the head (None), or of a snapshot
abbrev pub view : Versioned → Option ℕ → Option (List ℕ)
view o None = o.head
view o (Some snap) = if nat_lt o.seq snap then o.head else o.kept snap

-- whether a change under a context with number `number` is the first for a snapshot of an object at
-- `seq`
abbrev pub is_version_due : (seq number snap : ℕ) → Bool
is_version_due seq number snap = nat_lt seq snap && nat_le snap number

-- whether a change under this context keeps the head for a snapshot
abbrev pub keeps_head_for : SnapContext → Versioned → ℕ → Bool
keeps_head_for c o snap = is_some o.head && is_version_due o.seq c.seq snap && is_listed c.snaps snap

-- The head as it was is kept for the listed snapshots that are due, `seq` rises to the context's
-- number, and then the head is the new one.
abbrev pub change : SnapContext → (new : Option (List ℕ)) → Versioned → Versioned
change c new o = record {
  head = new;
  seq = max o.seq c.seq;
  kept = λ snap. if keeps_head_for c o snap then o.head else o.kept snap;
}

-- An absent head becomes these bytes.
abbrev pub copy_up : (bytes : List ℕ) → Versioned → Versioned
copy_up bytes o = record o { head = Some (unwrap_or o.head bytes) }

-- What is kept for snapshots that aren't live is dropped.
abbrev pub trim : (live : List ℕ) → Versioned → Versioned
trim live o = record o { kept = λ snap. if is_listed live snap then o.kept snap else None }

-- nothing is kept for a snapshot above `seq`
pub record IsTidy (o : Versioned) : Type 0 where
  pub above : (snap : ℕ) → o.seq < snap → o.kept snap ≡ None

-- one step in an object's life
pub data Step : Type 0 where
  Change : (c : SnapContext) (new : Option (List ℕ)) → Step
  CopyUp : (bytes : List ℕ) → Step
  Trim : (live : List ℕ) → Step

abbrev pub after_step : Step → Versioned → Versioned
after_step (Change c new) o = change c new o
after_step (CopyUp bytes) o = copy_up bytes o
after_step (Trim live) o = trim live o

-- the object after these steps, in order
abbrev pub after_steps : List Step → Versioned → Versioned
after_steps [] o = o
after_steps (step ∷ steps) o = after_steps steps (after_step step o)

-- whether a step isn't a trim for which this snapshot is not live
abbrev pub spares : (snap : ℕ) → Step → Bool
spares snap (Change c new) = true
spares snap (CopyUp bytes) = true
spares snap (Trim live) = is_listed live snap
