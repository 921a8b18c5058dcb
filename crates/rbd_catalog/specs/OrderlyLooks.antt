-- Requests that are in no line: lemmas that the laws of an `impl` cite. They define nothing.
use Rattle.std.proofs.Common.{◌⊎◌, inl, inr, ℕ, List, [], Bool, true, false, cond, eqb, Option, Some, None, refl, sym, subst}
use Rattle.rbd_commands.specs.declared.command.Command.{Command}
use Rattle.rbd_commands.specs.declared.command.Command.TheVariants as command
use Rattle.rbd_commands.specs.declared.command.Shape.{Shape}
use Rattle.rbd_kinds.specs.declared.answer.Answer.{Answer}
use Rattle.rbd_kinds.specs.declared.answer.Answer.TheVariants as answer
use Rattle.rbd_kinds.specs.declared.header.HeaderView.{HeaderView}
use Rattle.rbd_kinds.specs.declared.header_op.HeaderOp.TheVariants as header
use Rattle.rbd_kinds.specs.declared.id.SiteId.{SiteId}
use Rattle.rbd_kinds.specs.declared.layout.Extent.{Extent}
use Rattle.rbd_kinds.specs.declared.operation.Op.TheVariants as op
use Rattle.rbd_kinds.specs.declared.reply.Reply.{Reply}
use Rattle.rbd_kinds.specs.declared.reply.Reply.TheVariants as reply
use Rattle.rbd_layout.specs.Asked.{layout_of, KeepsLimits}
use Rattle.rbd_layout.specs.Pieces.{pieces_of}
use Rattle.rbd_header.specs.Header.{new_header, view_of}
use Rattle.rbd_header.specs.declared.view.View.{View}
use Rattle.rbd_machine.specs.Label as label
use Rattle.rbd_machine.specs.Plan.{Plan, Return, Goto, Standing}
use Rattle.rbd_machine.specs.Course.{answered, beginning}
use Rattle.rbd_machine.specs.Orderly.{IsOrderly, IsOrderlyFrom}
use Rattle.rbd_machine.proofs.CourseSteps.{orderly_not_there, orderly_on_id, orderly_on_header, orderly_on_done, orderly_unless}
use Rattle.rbd_meaning.specs.Count.{object_count}
use Rattle.rbd_meaning.specs.Listings.{shown_snaps, used_among}
use Rattle.rbd_meaning.specs.Range.{out_of_range}
use Rattle.rbd_data.specs.Read.{IsReadOf, pass, read_labels, looking, read_by_header, viewing, gathering, closing, on_closing}
use Rattle.rbd_data.specs.Seen.{Seen, seen_at, shown_bytes}
use Rattle.rbd_data.proofs.Closed.{closed_pass}
use Rattle.rbd_image.specs.Create.{IsCreate, IsCreatePlan, on_drawn, making, mapping, drawing}
use Rattle.rbd_image.specs.Listing.{counting, listing_plan, measuring, on_names, on_renamed, show_header, show_used, showing}
use Rattle.rbd_image.proofs.Decided.{limits_or_not}
use Rattle.rbd_catalog.specs.OrderlyParts.{orderly_gather, orderly_on_bits, begins_in_no_line}

-- ---- read

module _ (e : Option Extent) where
  orderly_closing : (site : SiteId) (image : ℕ) (seen : Seen) (read : List ℕ) (a : Answer)
      → IsOrderly e begins_in_no_line true (answered e beginning site (op.Header image header.Get) a)
      (on_closing seen read a)
  orderly_closing site image seen read (answer.Header h) = go (eqb h.generation seen.generation)
    where
      go : (b : Bool) → IsOrderly e begins_in_no_line true beginning
          (cond b (Return (reply.Bytes (shown_bytes seen read))) (Goto label.Begin))
      go true = tt
      go false = refl
  orderly_closing site image seen read answer.Absent = refl
  orderly_closing site image seen read a =
      orderly_not_there e begins_in_no_line (answered e beginning site (op.Header image header.Get) a) a

  orderly_viewing : (site : SiteId) (image : ℕ) (h : HeaderView) (extent : Extent) (view : Option View)
      → IsOrderly e begins_in_no_line true beginning (viewing site image h extent view)
  orderly_viewing site image h extent None = tt
  orderly_viewing site image h extent (Some view) =
      orderly_unless e begins_in_no_line beginning (out_of_range extent view.size) (gathering site image h extent view)
      (λ fits.
      orderly_gather e beginning refl (pieces_of h.layout extent) site image view.snap []
      (closing site image (seen_at h extent))
      (λ read. (refl, λ a can. orderly_closing site image (seen_at h extent) read a)))

  orderly_pass : (site : SiteId) (name : List ℕ) (snap : Option (List ℕ)) (extent : Extent)
      → IsOrderly e begins_in_no_line true beginning (pass site name snap extent)
  orderly_pass site name snap extent = (
    refl,
    λ found can.
        orderly_on_id e begins_in_no_line beginning (looking site snap extent) (λ image. (
          refl,
          orderly_on_header e begins_in_no_line image (answered e beginning site (op.Header image header.Get))
              (read_by_header site snap extent image) (λ h form.
              orderly_viewing site image h extent (view_of h snap)),
        )) found,
  )

  read_is_orderly : (site : SiteId) (name : List ℕ) (snap : Option (List ℕ)) (extent : Extent)
      → IsOrderlyFrom e true beginning
      (record { labels = read_labels site name snap extent; plan = pass site name snap extent })
  read_is_orderly site name snap extent = record {
    at = begins_in_no_line;
    orderly = orderly_pass site name snap extent;
    closed = closed_pass site name snap extent;
    labels = λ label asks. (orderly_pass site name snap extent, closed_pass site name snap extent);
  }

pub orderly_read : (site : SiteId) (c : Command) (s : Standing) → IsReadOf site c s
    → IsOrderlyFrom None true beginning s
orderly_read site (command.Read image snap from len) s is =
    subst (IsOrderlyFrom None true beginning) (sym is)
    (read_is_orderly None site image snap (record { at = from; len = len }))
orderly_read site _ s is = absurd is

-- ---- create, and what shows something or renames an image

module _ (e : Option Extent) where
  orderly_on_drawn : (next : ℕ → Plan) → ((image : ℕ) → IsOrderly e begins_in_no_line true beginning (next image))
      → (a : Answer) → IsOrderly e begins_in_no_line true beginning (on_drawn next a)
  orderly_on_drawn next orderly (answer.Id image) = orderly image
  orderly_on_drawn next orderly answer.Exists = tt
  orderly_on_drawn next orderly answer.Full = tt
  orderly_on_drawn next orderly a = orderly_not_there e begins_in_no_line beginning a

  orderly_drawing : (site : SiteId) (name : List ℕ) (objects : ℕ) (h : HeaderView)
      → IsOrderly e begins_in_no_line true beginning (drawing site name objects h)
  orderly_drawing site name objects h = (
    refl,
    λ drawn can.
        orderly_on_drawn (mapping site objects h) (λ image. (
          refl,
          λ mapped can.
              orderly_on_done e begins_in_no_line beginning (making site h image)
              (refl, λ a can. orderly_on_done e begins_in_no_line beginning (Return reply.Done) tt a) mapped,
        )) drawn,
  )

  orderly_is_create : (site : SiteId) (name : List ℕ) (size : ℕ) (shape : Shape) (plan : Plan)
      → IsCreate site name size shape plan → IsOrderly e begins_in_no_line true beginning plan
  orderly_is_create site name size shape plan is = go (limits_or_not (layout_of shape) size)
    where
      go : KeepsLimits (layout_of shape) size ⊎ (KeepsLimits (layout_of shape) size → ⊥)
          → IsOrderly e begins_in_no_line true beginning plan
      go (inl keeps) = subst (IsOrderly e begins_in_no_line true beginning) (sym (is.within keeps))
          (orderly_drawing site name is.objects (new_header (layout_of shape) size))
      go (inr fails) = subst (IsOrderly e begins_in_no_line true beginning) (sym (is.outside fails)) tt

  orderly_on_names : (next : List (List ℕ) → Plan)
      → ((names : List (List ℕ)) → IsOrderly e begins_in_no_line true beginning (next names)) → (a : Answer)
      → IsOrderly e begins_in_no_line true beginning (on_names next a)
  orderly_on_names next orderly (answer.Names names) = orderly names
  orderly_on_names next orderly a = orderly_not_there e begins_in_no_line beginning a

  orderly_show_header : (site : SiteId) (name : List ℕ) (shown : HeaderView → Reply)
      → IsOrderly e begins_in_no_line true beginning (show_header site name shown)
  orderly_show_header site name shown = (
    refl,
    λ found can.
        orderly_on_id e begins_in_no_line beginning (showing site shown) (λ image. (
          refl,
          orderly_on_header e begins_in_no_line image (answered e beginning site (op.Header image header.Get))
              (λ h. Return (shown h)) (λ h form. tt),
        )) found,
  )

  orderly_show_used : (site : SiteId) (name : List ℕ)
      → IsOrderly e begins_in_no_line true beginning (show_used site name)
  orderly_show_used site name = (
    refl,
    λ found can.
        orderly_on_id e begins_in_no_line beginning (measuring site) (λ image. (
          refl,
          orderly_on_header e begins_in_no_line image (answered e beginning site (op.Header image header.Get))
              (λ h. counting site image (object_count h.layout h.size)) (λ h form. (
                refl,
                λ told can. orderly_on_bits e beginning refl
                    (λ bits. Return (reply.Used (used_among (object_count h.layout h.size) bits)
                    (object_count h.layout h.size))) (λ bits. tt) told,
              )),
        )) found,
  )

  orderly_on_renamed : (a : Answer) → IsOrderly e begins_in_no_line true beginning (on_renamed a)
  orderly_on_renamed answer.Done = tt
  orderly_on_renamed answer.Exists = tt
  orderly_on_renamed a = orderly_not_there e begins_in_no_line beginning a

  pub orderly_listing : (site : SiteId) (c : Command)
      → IsOrderly e begins_in_no_line true beginning (listing_plan site c)
  orderly_listing site command.List =
      (refl, λ a can. orderly_on_names (λ names. Return (reply.Names names)) (λ names. tt) a)
  orderly_listing site (command.Info image) = orderly_show_header site image reply.Info
  orderly_listing site (command.SnapList image) = orderly_show_header site image shown_snaps
  orderly_listing site (command.Used image) = orderly_show_used site image
  orderly_listing site (command.Rename from to) = (refl, λ a can. orderly_on_renamed a)
  orderly_listing site _ = tt

pub orderly_create : (site : SiteId) (c : Command) (plan : Plan) → IsCreatePlan site c plan
    → IsOrderly None begins_in_no_line true beginning plan
orderly_create site (command.Create image size shape) plan is = orderly_is_create None site image size shape plan is
orderly_create site _ plan is = absurd is
