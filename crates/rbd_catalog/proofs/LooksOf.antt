-- Where a command that isn't a read looks at a header: each plan, step by step.
use Rattle.std.proofs.Common.{◌⊎◌, inl, inr, ℕ, List, [], ◌∷◌, replicate, Option, Some, None, refl, sym, subst}
use Rattle.rbd_kinds.specs.declared.sharing.Sharing.TheVariants as sharing
use Rattle.rbd_kinds.specs.declared.answer.Answer.{Answer}
use Rattle.rbd_kinds.specs.declared.answer.Answer.TheVariants as answer
use Rattle.rbd_commands.specs.declared.command.Command.{Command}
use Rattle.rbd_commands.specs.declared.command.Command.TheVariants as command
use Rattle.rbd_commands.specs.declared.command.Shape.{Shape}
use Rattle.rbd_kinds.specs.declared.header.HeaderView.{HeaderView}
use Rattle.rbd_kinds.specs.declared.header.SnapView.{SnapView}
use Rattle.rbd_kinds.specs.declared.header_op.HeaderOp.TheVariants as header
use Rattle.rbd_kinds.specs.declared.id.SiteId.{SiteId}
use Rattle.rbd_kinds.specs.declared.operation.Op.TheVariants as op
use Rattle.rbd_commands.specs.declared.refusal.Refusal.{Refusal}
use Rattle.rbd_kinds.specs.declared.reply.Reply.{Reply}
use Rattle.rbd_kinds.specs.declared.reply.Reply.TheVariants as reply
use Rattle.rbd_kinds.specs.Header.{snap_named}
use Rattle.rbd_layout.specs.Asked.{layout_of, KeepsLimits}
use Rattle.rbd_layout.specs.Pieces.{pieces_of}
use Rattle.rbd_layout.specs.declared.types.Piece.{Piece}
use Rattle.rbd_header.specs.Header.{new_header}
use Rattle.rbd_machine.specs.Plan.{Plan, Return}
use Rattle.rbd_machine.specs.Refused.{refuses_none}
use Rattle.rbd_machine.specs.Steps.{unless, not_there, on_header, change_plan, joining as change_joining, looked, holding, owned, applied}
use Rattle.rbd_meaning.specs.Listings.{shown_snaps, used_among}
use Rattle.rbd_meaning.specs.Range.{extent_at}
use Rattle.rbd_meaning.specs.Snaps.{create_refuses, remove_refuses}
use Rattle.rbd_meaning.specs.Straight.{Straight, straight_of}
use Rattle.rbd_meaning.specs.Writes.{write_refuses}
use Rattle.rbd_data.specs.Write.{put_plan, write, write_pieces, write_plan}
use Rattle.rbd_image.specs.Create.{IsCreate, IsCreatePlan, mapping, making, drawing}
use Rattle.rbd_image.specs.Listing.{counting, list_names, listing_plan, measuring, rename, show_header, show_used, showing}
use Rattle.rbd_snap.specs.Snap.{taking_snap, unmapping, take, remove_listed, remove_snap_plan, snap_plan}
use Rattle.rbd_image.proofs.Decided.{limits_or_not}
use Rattle.rbd_session.specs.Close.{replies_done, unwatching, on_dropped, joining, close, quiesced, straight, straight_plan, telling, close_plan}
use Rattle.rbd_data.specs.Discard.{discard_plan, zero}
use Rattle.rbd_kinds.specs.declared.layout.Extent.{Extent}
use Rattle.rbd_meaning.specs.Count.{object_count}
use Rattle.rbd_meaning.specs.Removals.{image_removal_refuses, removal, watchers_refuse}
use Rattle.rbd_meaning.specs.Resizes.{resize_refuses}
use Rattle.rbd_meaning.specs.Rollbacks.{rollback_refuses}
use Rattle.rbd_image.specs.Remove as of_remove
use Rattle.rbd_image.specs.Remove.{holding_it, joining_its_line, looked_at_it, on_watchers, remove_each, remove_owned, remove_plan, unless_watched}
use Rattle.rbd_image.specs.Resize.{resize_plan, set_size}
use Rattle.rbd_snap.specs.Rollback.{roll_back_to, rollback_plan}
use Rattle.rbd_catalog.specs.NoLooks.{removal_has_none}
use Rattle.rbd_catalog.specs.Looking.{Holds, HoldsNext, Looked, LookedIf, LooksNoMore}
use Rattle.rbd_catalog.proofs.LooksNone.{ActsOnly, acts_end, looked_last, looks_none, none_ends, none_each, none_listed, none_resize, none_zeroed}
use Rattle.rbd_catalog.proofs.LooksWell.{LooksWell, at_none, header_ends}
use Rattle.rbd_catalog.proofs.PlanSteps.{at_watchers, at_not_there, at_done, at_unless, at_header, at_id, at_bits, at_drawn, at_names, at_renamed, at_snap, at_gone}

-- ---- steps

well_ends : (r : Reply) → LooksWell (Return r)
well_ends r = tt

-- who acts only looks at none
at_acts : (p : Plan) → ActsOnly p → LooksWell p
at_acts p acts = at_none p (looks_none p acts)

-- ---- a change

module _ (site : SiteId) (refuses : HeaderView → Option Refusal) (act : ℕ → HeaderView → Plan) (acts : (image : ℕ) (h : HeaderView) → ActsOnly (act image h)) (image : ℕ) where
  none_owned : (a : Answer) → ActsOnly (on_header (owned refuses act image) a)
  none_owned = at_header ActsOnly acts_end (owned refuses act image) (λ h. at_unless ActsOnly acts_end (refuses h) (act image h) (acts image h))

  well_held : LooksWell (holding site refuses act image)
  well_held = ((refl, refl), (header_ends (owned refuses act image), λ a. (looked_last site image (on_header (owned refuses act image) a) (none_owned a), at_acts (on_header (owned refuses act image) a) (none_owned a))))

  looked_so : (r : Option Refusal) → Looked site image (unless r (holding site refuses act image))
  looked_so None = Holds tt
  looked_so (Some r) = looked_last site image (unless (Some r) (holding site refuses act image)) tt

  looked_then : (a : Answer) → Looked site image (on_header (looked site refuses act image) a)
  looked_then (answer.Header h) = looked_so (refuses h)
  looked_then a = looked_last site image (not_there a) (at_not_there ActsOnly acts_end a)

  well_so : (r : Option Refusal) → LooksWell (unless r (holding site refuses act image))
  well_so None = well_held
  well_so (Some r) = tt

  well_joining : (a : Answer) → LookedIf site (op.Header image header.Get) (on_header (looked site refuses act image) a) × LooksWell (on_header (looked site refuses act image) a)
  well_joining a = (looked_then a, at_header LooksWell well_ends (looked site refuses act image) (λ h. well_so (refuses h)) a)

at_change : (site : SiteId) (name : List ℕ) (sharing : _) (refuses : HeaderView → Option Refusal) (act : ℕ → HeaderView → Plan)
    → ((image : ℕ) (h : HeaderView) → ActsOnly (act image h)) → LooksWell (change_plan site name sharing refuses act)
at_change site name sharing refuses act acts = (tt, λ a. (tt, at_id LooksWell well_ends (change_joining site sharing refuses act) (λ image. (header_ends (looked site refuses act image), well_joining site refuses act acts image)) a))

-- ---- write, fill

none_pieces : (pieces : List Piece) (site : SiteId) (image : ℕ) (h : HeaderView) (from : ℕ) (bytes : List ℕ) → ActsOnly (write_pieces site image h from bytes pieces (applied site image))
none_pieces [] site image h from bytes = tt
none_pieces (p ∷ pieces) site image h from bytes =
    (tt, at_done ActsOnly acts_end _ (tt, at_done ActsOnly acts_end (write_pieces site image h from bytes pieces (applied site image)) (none_pieces pieces site image h from bytes)))

at_write : (site : SiteId) (name : List ℕ) (from : ℕ) (bytes : List ℕ) → LooksWell (write site name from bytes)
at_write site name from bytes =
    at_change site name sharing.Shared (write_refuses (extent_at from bytes)) (put_plan site from bytes)
    (λ image h. none_pieces (pieces_of h.layout (extent_at from bytes)) site image h from bytes)

pub at_write_plan : (site : SiteId) (c : Command) → LooksWell (write_plan site c)
at_write_plan site (command.Write image from bytes) = at_write site image from bytes
at_write_plan site (command.Fill image from len byte) = at_write site image from (replicate len byte)
at_write_plan site _ = tt

-- ---- discard

pub at_discard_plan : (site : SiteId) (c : Command) → LooksWell (discard_plan site c)
at_discard_plan site (command.Discard image at len) =
    let e : Extent = record { at = at; len = len } in
    at_change site image sharing.Discard (write_refuses e) (zero site e) (λ i h. none_zeroed (pieces_of h.layout e) site i h)
at_discard_plan site _ = tt

-- ---- create

none_drawing : (site : SiteId) (name : List ℕ) (objects : ℕ) (h : HeaderView) → ActsOnly (drawing site name objects h)
none_drawing site name objects h =
    (tt, at_drawn ActsOnly acts_end (mapping site objects h) (λ image. (tt, at_done ActsOnly acts_end (making site h image) (tt, at_done ActsOnly acts_end (Return reply.Done) tt))))

at_is_create : (site : SiteId) (name : List ℕ) (size : ℕ) (shape : Shape) (plan : Plan) → IsCreate site name size shape plan → LooksWell plan
at_is_create site name size shape plan is = go (limits_or_not (layout_of shape) size)
  where
    go : KeepsLimits (layout_of shape) size ⊎ (KeepsLimits (layout_of shape) size → ⊥) → LooksWell plan
    go (inl keeps) = subst LooksWell (sym (is.within keeps)) (at_acts (drawing site name is.objects (new_header (layout_of shape) size)) (none_drawing site name is.objects (new_header (layout_of shape) size)))
    go (inr fails) = subst LooksWell (sym (is.outside fails)) tt

pub at_create : (site : SiteId) (c : Command) (plan : Plan) → IsCreatePlan site c plan → LooksWell plan
at_create site (command.Create image size shape) plan is = at_is_create site image size shape plan is
at_create site _ plan is = absurd is

-- ---- ls, info, snap ls, du, rename

at_show_header : (site : SiteId) (name : List ℕ) (shows : HeaderView → Reply) → LooksWell (show_header site name shows)
at_show_header site name shows = (
  tt,
  λ a. (
    tt,
    at_id LooksWell well_ends (showing site shows) (λ image. (
      header_ends (λ h. Return (shows h)),
      λ b. let none = at_header ActsOnly acts_end (λ h. Return (shows h)) (λ h. tt) b in (looked_last site image (on_header (λ h. Return (shows h)) b) none, at_acts (on_header (λ h. Return (shows h)) b) none),
    )) a,
  ),
)

at_show_used : (site : SiteId) (name : List ℕ) → LooksWell (show_used site name)
at_show_used site name = (tt, λ a. (tt, at_id LooksWell well_ends (measuring site) (λ i. (header_ends (counted i), λ b. (looked_last site i (on_header (counted i) b) (none_counted i b), at_acts (on_header (counted i) b) (none_counted i b)))) a))
  where
    counted : (i : ℕ) → HeaderView → Plan
    counted i h = counting site i (object_count h.layout h.size)

    none_counted : (i : ℕ) (b : Answer) → ActsOnly (on_header (counted i) b)
    none_counted i =
        at_header ActsOnly acts_end (counted i) (λ h. (tt, at_bits ActsOnly acts_end (λ bits. Return (reply.Used (used_among (object_count h.layout h.size) bits) (object_count h.layout h.size))) (λ bits. tt)))

pub at_listing : (site : SiteId) (c : Command) → LooksWell (listing_plan site c)
at_listing site command.List = at_acts (list_names site) (tt, at_names ActsOnly acts_end (λ names. Return (reply.Names names)) (λ names. tt))
at_listing site (command.Info image) = at_show_header site image reply.Info
at_listing site (command.SnapList image) = at_show_header site image shown_snaps
at_listing site (command.Used image) = at_show_used site image
at_listing site (command.Rename from to) = at_acts (rename site from to) (tt, at_renamed ActsOnly acts_end)
at_listing site _ = tt

-- ---- snap create, snap rm

none_removal : (site : SiteId) (snap : List ℕ) (image : ℕ) (listed : Option SnapView) → ActsOnly (remove_listed site snap image listed)
none_removal site snap image None = tt
none_removal site snap image (Some listed) = (tt, at_done ActsOnly acts_end (unmapping site image listed.id (applied site image)) (tt, at_gone ActsOnly acts_end (applied site image) tt))

pub at_snap_plan : (site : SiteId) (c : Command) → LooksWell (snap_plan site c)
at_snap_plan site (command.SnapCreate image snap) =
    at_change site image sharing.Alone (create_refuses snap) (take site snap)
    (λ i h. (tt, at_bits ActsOnly acts_end _ (λ bits. (tt, at_done ActsOnly acts_end (taking_snap site snap i (applied site i)) (tt, at_snap ActsOnly acts_end (applied site i) tt)))))
at_snap_plan site (command.SnapRemove image snap) =
    at_change site image sharing.Alone (remove_refuses snap) (remove_snap_plan site snap) (λ i h. none_removal site snap i (snap_named h.snaps snap))
at_snap_plan site _ = tt

-- ---- resize, snap rollback

pub at_resize_plan : (site : SiteId) (c : Command) → LooksWell (resize_plan site c)
at_resize_plan site (command.Resize image size) =
    at_change site image sharing.Alone (resize_refuses size) (set_size site size) (λ i h. none_resize site i h size (object_count h.layout size) (applied site i) tt)
at_resize_plan site _ = tt

pub at_rollback_plan : (site : SiteId) (c : Command) → LooksWell (rollback_plan site c)
at_rollback_plan site (command.SnapRollback image snap) =
    at_change site image sharing.Alone (rollback_refuses snap) (roll_back_to site snap) (λ i h. none_listed site snap i h (snap_named h.snaps snap))
at_rollback_plan site _ = tt

-- ---- rm

none_unwatched : (site : SiteId) (session image : ℕ) (next : Plan) → ActsOnly next → ActsOnly (unless_watched site session image next)
none_unwatched site session image next none = (tt, at_watchers ActsOnly acts_end session next none)

module _ (site : SiteId) (session image : ℕ) where
  none_removing : (h : HeaderView) → ActsOnly (remove_owned site session image h)
  none_removing h =
      none_unwatched site session image (of_remove.removal_plan site image h (Return reply.Done))
      (tt, at_bits ActsOnly acts_end (λ bits. remove_each site (removal image h bits) (Return reply.Done)) (λ bits. none_each site (removal image h bits) (removal_has_none image h bits)))

  none_removed_owned : (a : Answer) → ActsOnly (on_header (owned image_removal_refuses (remove_owned site session) image) a)
  none_removed_owned = at_header ActsOnly acts_end (owned image_removal_refuses (remove_owned site session) image) (λ h. at_unless ActsOnly acts_end (image_removal_refuses h) (remove_owned site session image h) (none_removing h))

  well_removing : LooksWell (holding_it site session image)
  well_removing =
      let own = owned image_removal_refuses (remove_owned site session) image in
      ((refl, refl), (header_ends own, λ a. (looked_last site image (on_header own a) (none_removed_owned a), at_acts (on_header own a) (none_removed_owned a))))

  -- whoever watches, it isn't refused where nobody does
  holds_unwatched : HoldsNext (unless_watched site session image (holding_it site session image))
  holds_unwatched = (answer.Instances [], (record { word = refl; form = tt }, tt))

  well_unwatched : LooksWell (unless_watched site session image (holding_it site session image))
  well_unwatched = (tt, λ a. (tt, on a))
    where
      of : (r : Option Refusal) → LooksWell (unless r (holding_it site session image))
      of None = well_removing
      of (Some r) = tt

      on : (a : Answer) → LooksWell (on_watchers session (holding_it site session image) a)
      on (answer.Instances watchers) = of (watchers_refuse session watchers)
      on a = at_not_there LooksWell well_ends a

  removal_looked : (a : Answer) → Looked site image (on_header (looked_at_it site session image) a)
  removal_looked (answer.Header h) = by (image_removal_refuses h)
    where
      by : (r : Option Refusal) → Looked site image (unless r (unless_watched site session image (holding_it site session image)))
      by None = Holds holds_unwatched
      by (Some r) = looked_last site image (unless (Some r) (unless_watched site session image (holding_it site session image))) tt
  removal_looked a = looked_last site image (not_there a) (at_not_there ActsOnly acts_end a)

  well_joined : LooksWell (joining_its_line site session image)
  well_joined = (header_ends (looked_at_it site session image), λ a. (removal_looked a, at_header LooksWell well_ends (looked_at_it site session image) (λ h. by (image_removal_refuses h)) a))
    where
      by : (r : Option Refusal) → LooksWell (unless r (unless_watched site session image (holding_it site session image)))
      by None = well_unwatched
      by (Some r) = tt

pub at_remove_plan : (site : SiteId) (session : ℕ) (c : Command) → LooksWell (remove_plan site session c)
at_remove_plan site session (command.Remove image) = (tt, λ a. (tt, at_id LooksWell well_ends (joining_its_line site session) (λ i. well_joined site session i) a))
at_remove_plan site session _ = tt

-- ---- close, quiesce, straight commands

none_dropped : (site : SiteId) (image : ℕ) (a : Answer) → LooksNoMore (on_dropped site image a)
none_dropped site image answer.Done = (tt, at_done LooksNoMore none_ends (unwatching site image) (tt, at_done LooksNoMore none_ends replies_done tt))
none_dropped site image answer.Changed = (tt, at_done LooksNoMore none_ends replies_done tt)
none_dropped site image a = at_not_there LooksNoMore none_ends a

none_telling : (site : SiteId) (o : Option (List ℕ)) (image : ℕ) → LooksNoMore (telling site o image)
none_telling site None image = tt
none_telling site (Some bytes) image = (tt, at_done LooksNoMore none_ends replies_done tt)

at_straight : (site : SiteId) (o : Option Straight) → LooksWell (straight_plan site o)
at_straight site None = tt
at_straight site (Some s) = at_none (straight site s) (tt, at_id LooksNoMore none_ends (telling site s.tells) (none_telling site s.tells))

pub at_close_plan : (site : SiteId) (c : Command) → LooksWell (close_plan site c)
at_close_plan site (command.Close image) = at_none (close site image) (tt, at_id LooksNoMore none_ends (joining site) (λ i. (tt, none_dropped site i)))
at_close_plan site (command.Quiesce image) = at_change site image sharing.Alone refuses_none quiesced (λ i h. tt)
at_close_plan site c = at_straight site (straight_of c)
