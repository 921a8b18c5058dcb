-- The plans go to no label.
use Rattle.std.proofs.Common.{ℕ, List, sym, subst}
use Rattle.rbd_kinds.specs.declared.answer.Answer.{Answer}
use Rattle.rbd_kinds.specs.declared.answer.Answer.TheVariants as answer
use Rattle.rbd_commands.specs.declared.command.Command.{Command}
use Rattle.rbd_commands.specs.declared.command.Command.TheVariants as command
use Rattle.rbd_commands.specs.declared.command.Shape.{Shape}
use Rattle.rbd_kinds.specs.declared.header.HeaderView.{HeaderView}
use Rattle.rbd_kinds.specs.declared.id.SiteId.{SiteId}
use Rattle.rbd_kinds.specs.declared.reply.Reply.{Reply}
use Rattle.rbd_kinds.specs.declared.reply.Reply.TheVariants as reply
use Rattle.rbd_header.specs.Header.{new_header}
use Rattle.rbd_layout.specs.Asked.{layout_of, KeepsLimits}
use Rattle.rbd_machine.specs.Label.{Label}
use Rattle.rbd_machine.specs.Plan.{Plan, Ask, Await, Note, Return, Goto, IsClosed}
use Rattle.rbd_machine.specs.Steps.{on_bits}
use Rattle.rbd_machine.proofs.Closed.{closed_not_there, closed_on_id, closed_on_header, closed_on_done}
use Rattle.rbd_meaning.specs.Listings.{shown_snaps}
use Rattle.rbd_image.specs.Create.{IsCreate, IsCreatePlan, on_drawn, making, mapping, drawing}
use Rattle.rbd_image.specs.Listing.{measuring, on_names, on_renamed, showing, show_header, show_used, listing_plan}

-- ---- create

closed_on_drawn : (next : ℕ → Plan) → ((image : ℕ) → IsClosed Goto (next image)) → (a : Answer) → IsClosed Goto (on_drawn next a)
closed_on_drawn next closed (answer.Id image) = closed image
closed_on_drawn next closed answer.Exists = tt
closed_on_drawn next closed answer.Full = tt
closed_on_drawn next closed a = closed_not_there Goto a

closed_drawing : (site : SiteId) (name : List ℕ) (objects : ℕ) (h : HeaderView) → IsClosed Goto (drawing site name objects h)
closed_drawing site name objects h = closed_on_drawn (mapping site objects h) (λ image. closed_on_done Goto (making site h image) (closed_on_done Goto (Return reply.Done) tt))

-- what doesn't fail holds
closed_stable : (plan : Plan) → ((IsClosed Goto plan → ⊥) → ⊥) → IsClosed Goto plan
closed_stable (Ask site why op next) fails = λ a. closed_stable (next a) (λ open_there. fails (λ c. open_there (c a)))
closed_stable (Await wait next) fails = closed_stable next fails
closed_stable (Note site image event next) fails = closed_stable next fails
closed_stable (Return reply) fails = tt
closed_stable (Goto label) fails = absurd (fails (λ c. c))

closed_is_create : (site : SiteId) (name : List ℕ) (size : ℕ) (shape : Shape) (plan : Plan) → IsCreate site name size shape plan → IsClosed Goto plan
closed_is_create site name size shape plan is =
    closed_stable plan (λ opened.
    let outside : KeepsLimits (layout_of shape) size → ⊥ =
    λ keeps. opened (subst (IsClosed Goto) (sym (is.within keeps)) (closed_drawing site name is.objects (new_header (layout_of shape) size))) in
    opened (subst (IsClosed Goto) (sym (is.outside outside)) tt))

pub closed_create : (site : SiteId) (c : Command) (plan : Plan) → IsCreatePlan site c plan → IsClosed Goto plan
closed_create site (command.Create image size shape) plan is = closed_is_create site image size shape plan is
closed_create site _ plan is = absurd is

-- ---- ls, info, snap ls

closed_on_names : (next : List (List ℕ) → Plan) → ((names : List (List ℕ)) → IsClosed Goto (next names)) → (a : Answer) → IsClosed Goto (on_names next a)
closed_on_names next closed (answer.Names names) = closed names
closed_on_names next closed a = closed_not_there Goto a

closed_show_header : (site : SiteId) (name : List ℕ) (shown : HeaderView → Reply) → IsClosed Goto (show_header site name shown)
closed_show_header site name shown = closed_on_id Goto (showing site shown) (λ image. closed_on_header Goto _ (λ h. tt))

-- ---- du, rename

pub closed_on_bits : (labels : Label → Plan) (next : List ℕ → Plan) → ((bits : List ℕ) → IsClosed labels (next bits)) → (a : Answer) → IsClosed labels (on_bits next a)
closed_on_bits labels next closed (answer.Bits bits) = closed bits
closed_on_bits labels next closed a = closed_not_there labels a

closed_show_used : (site : SiteId) (name : List ℕ) → IsClosed Goto (show_used site name)
closed_show_used site name = closed_on_id Goto (measuring site) (λ image. closed_on_header Goto _ (λ h. closed_on_bits Goto _ (λ bits. tt)))

closed_on_renamed : (a : Answer) → IsClosed Goto (on_renamed a)
closed_on_renamed answer.Done = tt
closed_on_renamed answer.Exists = tt
closed_on_renamed a = closed_not_there Goto a

-- ---- all of these

pub closed_listing : (site : SiteId) (c : Command) → IsClosed Goto (listing_plan site c)
closed_listing site command.List = closed_on_names _ (λ names. tt)
closed_listing site (command.Info image) = closed_show_header site image _
closed_listing site (command.SnapList image) = closed_show_header site image shown_snaps
closed_listing site (command.Used image) = closed_show_used site image
closed_listing site (command.Rename from to) = closed_on_renamed
closed_listing site _ = tt
