-- The order in which the writes of one instance change an image: of two, the one that found the
-- image first writes each of its objects first. A write is here whatever changes an extent piece by
-- piece: a `write`, a `fill` or a `discard`.
use Rattle.std.specs.Prelude.{◌≡◌, ◌⊎◌, ℕ, ◌==◌, ◌&&◌, ◌||◌, not, Bool, true, false, List, [], ◌∷◌, Option, Some, None, IsSome}
use Rattle.rbd_kinds.specs.declared.answer.Answer.{Answer}
use Rattle.rbd_kinds.specs.declared.answer.Answer.TheVariants as answer
use Rattle.rbd_kinds.specs.declared.data_op.DataOp.TheVariants as data_op
use Rattle.rbd_kinds.specs.declared.directory_op.DirectoryOp.TheVariants as directory
use Rattle.rbd_kinds.specs.declared.id.Instance.{Instance}
use Rattle.rbd_kinds.specs.declared.id.SiteId.{SiteId}
use Rattle.rbd_kinds.specs.declared.operation.Op.{Op}
use Rattle.rbd_kinds.specs.declared.operation.Op.TheVariants as op
use Rattle.rbd_queue.specs.Line.{ahead, is_member}
use Rattle.rbd_machine.specs.Knowledge.{same_site}
use Rattle.rbd_machine.specs.Label.{Label}
use Rattle.rbd_machine.specs.Plan.{Standing}
use Rattle.rbd_catalog.specs.InLine.{ChangesInLine, KeepsTo, LabelsKeepTo}
use Rattle.rbd_catalog.specs.Profile.{changed_extent}
use Rattle.rbd_slots.specs.declared.running.Running.{Running}
use Rattle.rbd_slots.specs.Lines.{lines_of}
use Rattle.rbd_slots.specs.Session.{SessionView, running_at}
use Rattle.rbd_slots.specs.Track.{place_of_image}
use Rattle.rbd_world.specs.InLine.{IsPastWithout}
use Rattle.rbd_world.specs.Run.{Asked, Happening, Did, asked_by, is_own}

-- ---- what a line has done

-- the look-up of a name was answered by this image
abbrev pub tells_image : (image : ℕ) → Op → Answer → Bool
tells_image image (op.Directory (directory.Find name)) (answer.Id found) = found == image
tells_image image o a = false

-- an object of an image is changed: bytes are written to it, or become zeros, or it goes
abbrev pub writes_object : (image number : ℕ) → Op → Bool
writes_object image number (op.Data i n (data_op.Read snap parts)) = false
writes_object image number (op.Data i n o) = i == image && n == number
writes_object image number o = false

abbrev pub finds_in : (line : ℕ) → SiteId → (image : ℕ) → Happening → Bool
finds_in line s image (Did o reply) = is_own line o.by && (same_site o.site s && tells_image image o.op o.answer)
finds_in line s image h = false

abbrev pub writes_in : (line : ℕ) → SiteId → (image number : ℕ) → Happening → Bool
writes_in line s image number (Did o reply) =
    is_own line o.by && (same_site o.site s && writes_object image number o.op)
writes_in line s image number h = false

-- the line has found the image by its name
abbrev pub has_found : (line : ℕ) → SiteId → (image : ℕ) → List Happening → Bool
has_found line s image [] = false
has_found line s image (h ∷ run) = finds_in line s image h || has_found line s image run

-- the line has written the object
abbrev pub has_written : (line : ℕ) → SiteId → (image number : ℕ) → List Happening → Bool
has_written line s image number [] = false
has_written line s image number (h ∷ run) = writes_in line s image number h || has_written line s image number run

-- One line had found the image when the other hadn't.
abbrev pub found_before : (one other : ℕ) → SiteId → (image : ℕ) → List Happening → Bool
found_before one other s image [] = false
found_before one other s image (h ∷ run) =
    (has_found one s image (h ∷ run) && not (has_found other s image (h ∷ run))) || found_before one other s image run

-- ---- the order

-- the line is a write of the instance: it changes an extent
pub record IsWriterOf (who : Instance) (line : ℕ) (run : List Happening) : Type 0 where
  pub asked : Asked
  pub is : asked_by line run ≡ Some asked
  pub mine : asked.who ≡ who
  pub writes : IsSome (changed_extent asked.command)

-- The line has found the image, and no other write of its instance that found it later has written
-- the object.
pub record IsFirstToWrite (who : Instance) (line : ℕ) (s : SiteId) (image number : ℕ)
    (run : List Happening) : Type 0 where
  pub found : has_found line s image run ≡ true
  pub first : (other : ℕ) → IsWriterOf who other run → found_before line other s image run ≡ true
      → has_written other s image number run ≡ false

-- a write that writes an object is the first one to write it
abbrev pub IsInTurn : Happening → (before : List Happening) → Type 0
IsInTurn (Did o reply) before =
    (who : Instance) (line image number : ℕ) → is_own line o.by ≡ true → IsWriterOf who line before
    → writes_object image number o.op ≡ true
    → IsFirstToWrite who line o.site image number before
IsInTurn h before = Unit {0}

-- so it is at each place of the run
abbrev pub KeepsOrder : List Happening → Type 0
KeepsOrder [] = Unit {0}
KeepsOrder (h ∷ run) = IsInTurn h run × KeepsOrder run

-- Where the one line writes the object, the other hasn't written it yet: so each write of the
-- object by the one comes before each by the other.
abbrev pub WritesFirst : (one other : ℕ) → SiteId → (image number : ℕ) → List Happening → Type 0
WritesFirst one other s image number [] = Unit {0}
WritesFirst one other s image number (h ∷ run) =
    (writes_in one s image number h ≡ true → has_written other s image number run ≡ false)
    × WritesFirst one other s image number run

-- ---- where the writes of an instance stand

-- The request has found no image yet, and is in no line.
pub record IsBeforeFinding {R : Type 0} (stands : R → Standing) (home : SiteId) (run : List Happening)
    (r : Running R) : Type 0 where
  pub changes : ChangesInLine home (stands r.request)
  pub place : r.place ≡ None
  pub unfound : (s : SiteId) (image : ℕ) → has_found r.line s image run ≡ false

-- The request has found its image and no other, and is in the line of that image. It keeps to the
-- line, however often it begins a piece again.
pub record IsBehindFinding {R : Type 0} (stands : R → Standing) (run : List Happening) (r : Running R) : Type 0 where
  pub site : SiteId
  pub image : ℕ
  pub place : r.place ≡ Some (place_of_image site image)
  pub found : has_found r.line site image run ≡ true
  pub only : (s : SiteId) (i : ℕ) → has_found r.line s i run ≡ true → (s ≡ site) × (i ≡ image)
  pub turn_at : Label → Option ℕ
  pub keeps : KeepsTo site image turn_at r.turn (stands r.request).plan
  pub labels : LabelsKeepTo site image turn_at (stands r.request).labels

-- Of the writes in a line, the one that found the image earlier stands ahead. Where one that found
-- it later has written an object, whether it has ended or not, the earlier one has no ticket for
-- that object.
pub record AreWritesInOrder {R : Type 0} (stands : R → Standing) (home : SiteId) (who : Instance) (run : List Happening)
    (c : SessionView R) : Type 0 where
  pub extents : (x : ℕ) (r : Running R) → running_at x c ≡ Some r → (asked : Asked) → asked_by r.line run ≡ Some asked
      → r.extent ≡ changed_extent asked.command
  pub comes : (x : ℕ) (r : Running R) → running_at x c ≡ Some r → IsSome r.extent → (IsBeforeFinding stands home run r)
      ⊎ (IsBehindFinding stands run r)
  pub in_line : (x y : ℕ) (r q : Running R) → running_at x c ≡ Some r → running_at y c ≡ Some q → IsSome r.extent
      → IsSome q.extent
      → (s : SiteId) (image : ℕ) → found_before r.line q.line s image run ≡ true
      → is_member y (lines_of c.lines s image) ≡ true → is_member x (ahead y (lines_of c.lines s image)) ≡ true
  pub past : (x : ℕ) (r : Running R) → running_at x c ≡ Some r → IsSome r.extent → (other : ℕ)
      → IsWriterOf who other run
      → (s : SiteId) (image number : ℕ) → found_before r.line other s image run ≡ true
      → has_written other s image number run ≡ true
      → IsPastWithout x number (lines_of c.lines s image)
