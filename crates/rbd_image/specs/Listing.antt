-- `ls`, `info`, `snap ls` and `du`: plans that show what a site has, and change nothing; and that
-- of `rename`, which changes a name alone.
use Rattle.std.specs.Prelude.{◌≡◌, ℕ, List, Bool, true, false, Option, Some, None}
use Rattle.rbd_image.specs.declared.listing.ListRequest.{ListRequest}
use Rattle.rbd_image.specs.declared.listing.Shown.{Shown}
use Rattle.rbd_image.specs.declared.listing.Shown.TheVariants as shown
use Rattle.rbd_image.specs.declared.listing.Stage.{Stage}
use Rattle.rbd_image.specs.declared.listing.Stage.TheVariants as stage
use Rattle.rbd_kinds.specs.declared.answer.Answer.{Answer}
use Rattle.rbd_kinds.specs.declared.answer.Answer.TheVariants as answer
use Rattle.rbd_commands.specs.declared.command.Command.{Command}
use Rattle.rbd_commands.specs.declared.command.Command.TheVariants as command
use Rattle.rbd_kinds.specs.declared.directory_op.DirectoryOp.TheVariants as directory
use Rattle.rbd_kinds.specs.declared.header.HeaderView.{HeaderView}
use Rattle.rbd_kinds.specs.declared.id.SiteId.{SiteId}
use Rattle.rbd_kinds.specs.declared.map_op.MapOp.TheVariants as states
use Rattle.rbd_kinds.specs.declared.operation.Op.TheVariants as op
use Rattle.rbd_commands.specs.declared.refusal.Refusal.TheVariants as refusal
use Rattle.rbd_kinds.specs.declared.reply.Reply.{Reply}
use Rattle.rbd_kinds.specs.declared.reply.Reply.TheVariants as reply
use Rattle.rbd_machine.specs.Plan.{Plan, Return}
use Rattle.rbd_machine.specs.Steps.{own, refused, not_there, find, look, on_bits, EndsIt}
use Rattle.rbd_meaning.specs.Count.{object_count}
use Rattle.rbd_meaning.specs.Listings.{shown_snaps, used_among}

-- the commands that it serves
abbrev pub is_listing : Command → Bool
is_listing command.List = true
is_listing (command.Info image) = true
is_listing (command.SnapList image) = true
is_listing (command.Used image) = true
is_listing (command.Rename from to) = true
is_listing _ = false

-- ---- ls, info, snap ls

abbrev pub on_names : (List (List ℕ) → Plan) → Answer → Plan
on_names next (answer.Names names) = next names
on_names next a = not_there a

abbrev pub TellsNames : Answer → Type 0
TellsNames (answer.Names names) = Unit {0}
TellsNames a = EndsIt a

-- the names of all images
abbrev pub list_names : SiteId → Plan
list_names site = own site (op.Directory directory.List) (on_names (λ names. Return (reply.Names names)))

-- what an image's header tells
abbrev pub showing : SiteId → (HeaderView → Reply) → (image : ℕ) → Plan
showing site shown image = look site image (λ h. Return (shown h))

abbrev pub show_header : SiteId → (name : List ℕ) → (HeaderView → Reply) → Plan
show_header site name shown = find site name (showing site shown)

-- ---- du

-- how many of so many objects the head's map has in use
abbrev pub counting : SiteId → (image of : ℕ) → Plan
counting site image of =
    own site (op.Map image (states.Get None)) (on_bits (λ bits. Return (reply.Used (used_among of bits) of)))

-- the objects of the size that the image's header tells
abbrev pub measuring : SiteId → (image : ℕ) → Plan
measuring site image = look site image (λ h. counting site image (object_count h.layout h.size))

abbrev pub show_used : SiteId → (name : List ℕ) → Plan
show_used site name = find site name (measuring site)

-- ---- rename

-- the name is another, or why it isn't: there is no image of the name, or the other is held
abbrev pub on_renamed : Answer → Plan
on_renamed answer.Done = Return reply.Done
on_renamed answer.Exists = refused refusal.ImageExists
on_renamed a = not_there a

abbrev pub TellsRenamed : Answer → Type 0
TellsRenamed answer.Done = Unit {0}
TellsRenamed answer.Exists = Unit {0}
TellsRenamed a = EndsIt a

abbrev pub rename : SiteId → (from to : List ℕ) → Plan
rename site from to = own site (op.Directory (directory.Rename from to)) on_renamed

-- ---- all of them

abbrev pub listing_plan : SiteId → Command → Plan
listing_plan site command.List = list_names site
listing_plan site (command.Info image) = show_header site image reply.Info
listing_plan site (command.SnapList image) = show_header site image shown_snaps
listing_plan site (command.Used image) = show_used site image
listing_plan site (command.Rename from to) = rename site from to
listing_plan site _ = refused refusal.NoImage

-- ---- where a request stands

-- what it does with the header of an image
abbrev pub plan_with_header : Shown → SiteId → (image : ℕ) → HeaderView → Plan
plan_with_header shown.Header site image = λ h. Return (reply.Info h)
plan_with_header shown.Snaps site image = λ h. Return (shown_snaps h)
plan_with_header shown.Used site image = λ h. counting site image (object_count h.layout h.size)

abbrev pub looking : SiteId → Shown → (image : ℕ) → Plan
looking site shown image = look site image (plan_with_header shown site image)

abbrev pub rest_at : Stage → SiteId → Plan
rest_at stage.Listing site = list_names site
rest_at (stage.Finding name shown) site = find site name (looking site shown)
rest_at (stage.Looking image shown) site = looking site shown image
rest_at (stage.Counting image of) site = counting site image of
rest_at (stage.Renaming from to) site = rename site from to

-- what is left of one
abbrev pub rest_of_list : ListRequest → Plan
rest_of_list r = rest_at r.stage r.site

-- the reply that shows something of a header, where that is all that is to be shown
abbrev pub shows : Shown → HeaderView → Option Reply
shows shown.Header h = Some (reply.Info h)
shows shown.Snaps h = Some (shown_snaps h)
shows shown.Used h = None

-- The reply to the last answer is made, where it needs memory.
abbrev pub IsReplyReadied : Stage → Option Reply → Answer → Type 0
IsReplyReadied stage.Listing readied (answer.Names names) = readied ≡ Some (reply.Names names)
IsReplyReadied (stage.Looking image shown) readied (answer.Header h) = readied ≡ shows shown h
IsReplyReadied _ readied a = Unit {0}

abbrev pub HasReply : ListRequest → Answer → Type 0
HasReply r a = IsReplyReadied r.stage r.readied a
