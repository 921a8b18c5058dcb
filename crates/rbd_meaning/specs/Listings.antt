-- `ls`, `info`, `snap ls` and `du`: what is shown of what was told, and what their replies mean;
-- and what those of `rename` mean.
use Rattle.std.specs.Prelude.{◌≡◌, ℕ, nat_lt, List, [], ◌∷◌, filter, length}
use Rattle.rbd_kinds.specs.declared.answer.Answer.TheVariants as answer
use Rattle.rbd_kinds.specs.declared.directory_op.DirectoryOp.TheVariants as directory
use Rattle.rbd_kinds.specs.declared.header.HeaderView.{HeaderView}
use Rattle.rbd_kinds.specs.declared.id.SiteId.{SiteId}
use Rattle.rbd_kinds.specs.declared.operation.Op.TheVariants as op
use Rattle.rbd_kinds.specs.declared.reply.Reply.{Reply}
use Rattle.rbd_kinds.specs.declared.reply.Reply.TheVariants as reply
use Rattle.rbd_kinds.specs.Striping.{IsObjectCount}
use Rattle.rbd_machine.specs.About.{look_up}
use Rattle.rbd_machine.specs.Path.{Answered, found, looked_at}
use Rattle.rbd_machine.specs.Refused.{refuses_none, never, IsRefused}
use Rattle.rbd_meaning.specs.Removals.{used_objects}
use Rattle.rbd_meaning.specs.Snaps.{map_told}

-- The site told the names.
abbrev pub names_told : SiteId → (names : List (List ℕ)) → Answered
names_told site names = record { site = site; op = op.Directory directory.List; answer = answer.Names names }

abbrev pub shown_snaps : HeaderView → Reply
shown_snaps h = reply.Snaps h.snaps

-- The image of the name was found, and its header shows this.
pub record ShowsHeader (site : SiteId) (name : List ℕ) (shown : HeaderView → Reply) (reply : Reply)
    (steps : List Answered) : Type 0 where
  pub image : ℕ
  pub header : HeaderView
  pub are : steps ≡ found site name image ∷ looked_at site image header ∷ []
  pub shows : reply ≡ shown header

abbrev pub ListMeans : SiteId → List Answered → Reply → Type 0
ListMeans site steps (reply.Names names) = steps ≡ names_told site names ∷ []
ListMeans site steps (reply.Refused x) = IsRefused site (op.Directory directory.List) refuses_none never steps x
ListMeans site steps _ = ⊥

abbrev pub InfoMeans : SiteId → (image : List ℕ) → List Answered → Reply → Type 0
InfoMeans site image steps (reply.Info h) = ShowsHeader site image reply.Info (reply.Info h) steps
InfoMeans site image steps (reply.Refused x) = IsRefused site (look_up image) refuses_none never steps x
InfoMeans site image steps _ = ⊥

abbrev pub SnapListMeans : SiteId → (image : List ℕ) → List Answered → Reply → Type 0
SnapListMeans site image steps (reply.Snaps snaps) = ShowsHeader site image shown_snaps (reply.Snaps snaps) steps
SnapListMeans site image steps (reply.Refused x) = IsRefused site (look_up image) refuses_none never steps x
SnapListMeans site image steps _ = ⊥

-- ---- du

-- how many of the first objects are in use by the bits of a map: those whose state isn't 0
abbrev pub used_among : (count : ℕ) → (bits : List ℕ) → ℕ
used_among count bits = length (filter (λ object. nat_lt object count) (used_objects bits))

-- The image of the name was found, its header told a size, and its head's map the states: so many
-- of the objects of the size are in use.
pub record ShowsUsed (site : SiteId) (name : List ℕ) (used of : ℕ) (steps : List Answered) : Type 0 where
  pub image : ℕ
  pub header : HeaderView
  pub bits : List ℕ
  pub are : steps ≡ found site name image ∷ looked_at site image header ∷ map_told site image bits ∷ []
  pub of_is : IsObjectCount header.layout header.size of
  pub used_is : used ≡ used_among of bits

abbrev pub UsedMeans : SiteId → (image : List ℕ) → List Answered → Reply → Type 0
UsedMeans site image steps (reply.Used used of) = ShowsUsed site image used of steps
UsedMeans site image steps (reply.Refused x) = IsRefused site (look_up image) refuses_none never steps x
UsedMeans site image steps _ = ⊥

-- ---- rename

-- the name of an image became another
abbrev pub renamed_to : SiteId → (from to : List ℕ) → Answered
renamed_to site from to = record { site = site; op = op.Directory (directory.Rename from to); answer = answer.Done }

abbrev pub RenameMeans : SiteId → (from to : List ℕ) → List Answered → Reply → Type 0
RenameMeans site from to steps reply.Done = steps ≡ renamed_to site from to ∷ []
RenameMeans site from to steps (reply.Refused x) =
    IsRefused site (op.Directory (directory.Rename from to)) refuses_none never steps x
RenameMeans site from to steps _ = ⊥
