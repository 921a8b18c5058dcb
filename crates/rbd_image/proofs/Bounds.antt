-- Bounds of the plans.
use Rattle.std.proofs.Common.{ℕ, zero, suc, List, sym, subst, arith}
use Rattle.rbd_kinds.specs.declared.answer.Answer.{Answer}
use Rattle.rbd_kinds.specs.declared.answer.Answer.TheVariants as answer
use Rattle.rbd_commands.specs.declared.command.Command.{Command}
use Rattle.rbd_commands.specs.declared.command.Command.TheVariants as command
use Rattle.rbd_commands.specs.declared.command.Shape.{Shape}
use Rattle.rbd_kinds.specs.declared.header.HeaderView.{HeaderView}
use Rattle.rbd_kinds.specs.declared.id.SiteId.{SiteId}
use Rattle.rbd_kinds.specs.declared.reply.Reply.{Reply}
use Rattle.rbd_kinds.specs.declared.reply.Reply.TheVariants as reply
use Rattle.rbd_layout.specs.Asked.{layout_of, KeepsLimits}
use Rattle.rbd_machine.specs.Plan.{Plan, Ask, Await, Note, Return, Goto}
use Rattle.rbd_machine.specs.Path.{IsBounded}
use Rattle.rbd_machine.proofs.Bounds.{bounded_not_there, bounded_on_id, bounded_on_header, bounded_on_done, bounded_more}
use Rattle.rbd_image.specs.Create.{IsCreate, IsCreatePlan, on_drawn, making, mapping, drawing}
use Rattle.rbd_header.specs.Header.{new_header}
use Rattle.rbd_image.specs.Listing.{counting, measuring, on_names, on_renamed, list_names, rename, showing, show_header, show_used, listing_plan}
use Rattle.rbd_machine.specs.Steps.{on_bits}
use Rattle.rbd_meaning.specs.Count.{object_count}
use Rattle.rbd_meaning.specs.Listings.{shown_snaps}

-- ---- create

bounded_on_drawn : (next : ℕ → Plan) (n : ℕ) → ((image : ℕ) → IsBounded (next image) n) → (a : Answer) → IsBounded (on_drawn next a) n
bounded_on_drawn next n b (answer.Id image) = b image
bounded_on_drawn next n b answer.Exists = tt
bounded_on_drawn next n b answer.Full = tt
bounded_on_drawn next n b answer.Fenced = tt
bounded_on_drawn next n b _ = tt

bounded_making : (site : SiteId) (h : HeaderView) (image : ℕ) → IsBounded (making site h image) 1
bounded_making site h image = bounded_on_done _ 0 tt

bounded_mapping : (site : SiteId) (objects : ℕ) (h : HeaderView) (image : ℕ) → IsBounded (mapping site objects h image) 2
bounded_mapping site objects h image = bounded_on_done (making site h image) 1 (bounded_making site h image)

bounded_drawing : (site : SiteId) (name : List ℕ) (objects : ℕ) (h : HeaderView) → IsBounded (drawing site name objects h) 3
bounded_drawing site name objects h = bounded_on_drawn (mapping site objects h) 2 (bounded_mapping site objects h)

-- a bound that doesn't fail holds
bounded_stable : (plan : Plan) (n : ℕ) → ((IsBounded plan n → ⊥) → ⊥) → IsBounded plan n
bounded_stable (Ask site why op next) zero fails = absurd (fails (λ b. b))
bounded_stable (Ask site why op next) (suc n) fails = λ a. bounded_stable (next a) n (λ unbounded. fails (λ b. unbounded (b a)))
bounded_stable (Await wait next) n fails = bounded_stable next n fails
bounded_stable (Note site image event next) n fails = bounded_stable next n fails
bounded_stable (Return reply) n fails = tt
bounded_stable (Goto label) n fails = tt

bounded_is_create : (site : SiteId) (name : List ℕ) (size : ℕ) (shape : Shape) (plan : Plan) → IsCreate site name size shape plan → IsBounded plan 3
bounded_is_create site name size shape plan is =
    bounded_stable plan 3 (λ unbounded.
    let outside : KeepsLimits (layout_of shape) size → ⊥ =
    λ keeps. unbounded (subst (λ p. IsBounded p 3) (sym (is.within keeps)) (bounded_drawing site name is.objects (new_header (layout_of shape) size))) in
    unbounded (subst (λ p. IsBounded p 3) (sym (is.outside outside)) tt))

pub bounded_create : (site : SiteId) (c : Command) (plan : Plan) → IsCreatePlan site c plan → IsBounded plan 3
bounded_create site (command.Create image size shape) plan is = bounded_is_create site image size shape plan is
bounded_create site _ plan is = absurd is

-- ---- ls, info, snap ls

bounded_on_names : (next : List (List ℕ) → Plan) (n : ℕ) → ((names : List (List ℕ)) → IsBounded (next names) n) → (a : Answer) → IsBounded (on_names next a) n
bounded_on_names next n b (answer.Names names) = b names
bounded_on_names next n b answer.Fenced = tt
bounded_on_names next n b _ = tt

pub bounded_names : (site : SiteId) (n : ℕ) → IsBounded (list_names site) (suc n)
bounded_names site n = bounded_on_names _ n (λ names. tt)

bounded_showing : (site : SiteId) (shown : HeaderView → Reply) (image : ℕ) → IsBounded (showing site shown image) 1
bounded_showing site shown image = bounded_on_header _ 0 (λ h. tt)

pub bounded_show_header : (site : SiteId) (name : List ℕ) (shown : HeaderView → Reply) → IsBounded (show_header site name shown) 2
bounded_show_header site name shown = bounded_on_id (showing site shown) 1 (bounded_showing site shown)

-- ---- du, rename

pub bounded_on_bits : (next : List ℕ → Plan) (n : ℕ) → ((bits : List ℕ) → IsBounded (next bits) n) → (a : Answer) → IsBounded (on_bits next a) n
bounded_on_bits next n b (answer.Bits bits) = b bits
bounded_on_bits next n b a = bounded_not_there a n

bounded_counting : (site : SiteId) (image of : ℕ) → IsBounded (counting site image of) 1
bounded_counting site image of = bounded_on_bits _ 0 (λ bits. tt)

bounded_measuring : (site : SiteId) (image : ℕ) → IsBounded (measuring site image) 2
bounded_measuring site image = bounded_on_header _ 1 (λ h. bounded_counting site image (object_count h.layout h.size))

bounded_show_used : (site : SiteId) (name : List ℕ) → IsBounded (show_used site name) 3
bounded_show_used site name = bounded_on_id (measuring site) 2 (bounded_measuring site)

bounded_on_renamed : (n : ℕ) (a : Answer) → IsBounded (on_renamed a) n
bounded_on_renamed n answer.Done = tt
bounded_on_renamed n answer.Exists = tt
bounded_on_renamed n a = bounded_not_there a n

pub bounded_rename : (site : SiteId) (from to : List ℕ) (n : ℕ) → IsBounded (rename site from to) (suc n)
bounded_rename site from to n = bounded_on_renamed n

-- ---- all of these

pub bounded_listing : (site : SiteId) (c : Command) → IsBounded (listing_plan site c) 3
bounded_listing site command.List = bounded_names site 2
bounded_listing site (command.Info image) = bounded_more (show_header site image reply.Info) 2 3 (omega arith) (bounded_show_header site image reply.Info)
bounded_listing site (command.SnapList image) = bounded_more (show_header site image shown_snaps) 2 3 (omega arith) (bounded_show_header site image shown_snaps)
bounded_listing site (command.Used image) = bounded_show_used site image
bounded_listing site (command.Rename from to) = bounded_rename site from to 2
bounded_listing site _ = tt
