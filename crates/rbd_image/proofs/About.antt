-- The operations of requests are their own.
use Rattle.std.proofs.Common.{ℕ, List, refl}
use Rattle.rbd_kinds.specs.declared.answer.Answer.{Answer}
use Rattle.rbd_kinds.specs.declared.answer.Answer.TheVariants as answer
use Rattle.rbd_kinds.specs.declared.directory_op.DirectoryOp.TheVariants as directory
use Rattle.rbd_kinds.specs.declared.header.HeaderView.{HeaderView}
use Rattle.rbd_kinds.specs.declared.id.SiteId.{SiteId}
use Rattle.rbd_kinds.specs.declared.machine.Fed.{Fed}
use Rattle.rbd_kinds.specs.declared.operation.Op.TheVariants as op
use Rattle.rbd_kinds.specs.declared.reply.Reply.{Reply}
use Rattle.rbd_kinds.specs.declared.reply.Reply.TheVariants as reply
use Rattle.rbd_machine.specs.About.{AreOwn, look_up}
use Rattle.rbd_machine.specs.Path.{Answered, IsWalk}
use Rattle.rbd_machine.specs.Plan.{Plan, Return, Goto}
use Rattle.rbd_machine.specs.Steps.{on_id, on_bits}
use Rattle.rbd_machine.proofs.About.{IsOfImage, GoesByImage, of_not_there, of_on_header, of_on_done, by_on_id, are_own}
use Rattle.rbd_meaning.specs.Count.{object_count}
use Rattle.rbd_meaning.specs.Listings.{used_among}
use Rattle.rbd_image.specs.Create.{on_drawn, making, mapping, drawing}
use Rattle.rbd_image.specs.Listing.{counting, on_names, on_renamed, list_names, measuring, rename, showing, show_header, show_used}

module _ (site : SiteId) where
  -- ---- create

  by_drawn : (objects : ℕ) (h : HeaderView) (a : Answer) → GoesByImage site a (on_drawn (mapping site objects h) a)
  by_drawn objects h (answer.Id image) = (refl, refl, of_on_done site image (making site h image) (refl, refl, of_on_done site image (Return reply.Done) tt))
  by_drawn objects h answer.Exists = tt
  by_drawn objects h answer.Full = tt
  by_drawn objects h answer.Fenced = tt
  by_drawn objects h _ = tt

  pub create_is_own : (name : List ℕ) (objects : ℕ) (h : HeaderView) (feds : List Fed) (steps : List Answered) (last : Plan)
      → IsWalk Goto (drawing site name objects h) feds steps last → AreOwn site (op.Directory (directory.Add name)) steps
  create_is_own name objects h feds steps last walk = are_own site (op.Directory (directory.Add name)) (on_drawn (mapping site objects h)) (by_drawn objects h) feds steps last walk

  -- ---- ls, info, snap ls

  by_names : (a : Answer) → GoesByImage site a (on_names (λ names. Return (reply.Names names)) a)
  by_names (answer.Names names) = tt
  by_names (answer.Id image) = tt
  by_names answer.Fenced = tt
  by_names _ = tt

  pub list_is_own : (feds : List Fed) (steps : List Answered) (last : Plan) → IsWalk Goto (list_names site) feds steps last → AreOwn site (op.Directory directory.List) steps
  list_is_own feds steps last walk = are_own site (op.Directory directory.List) (on_names (λ names. Return (reply.Names names))) by_names feds steps last walk

  pub listing_is_own : (name : List ℕ) (shown : HeaderView → Reply) (feds : List Fed) (steps : List Answered) (last : Plan) → IsWalk Goto (show_header site name shown) feds steps last → AreOwn site (look_up name) steps
  listing_is_own name shown feds steps last walk =
      are_own site (look_up name) (on_id (showing site shown)) (by_on_id site (showing site shown) (λ image. (refl, refl, of_on_header site image (λ h. Return (shown h)) (λ h. tt)))) feds steps last walk

  -- ---- du, rename

  pub of_on_bits : (image : ℕ) (next : List ℕ → Plan) → ((bits : List ℕ) → IsOfImage site image (next bits)) → (a : Answer) → IsOfImage site image (on_bits next a)
  of_on_bits image next of (answer.Bits bits) = of bits
  of_on_bits image next of a = of_not_there site image a

  of_counting : (image objects : ℕ) → IsOfImage site image (counting site image objects)
  of_counting image objects = (refl, refl, of_on_bits image (λ bits. Return (reply.Used (used_among objects bits) objects)) (λ bits. tt))

  pub used_is_own : (name : List ℕ) (feds : List Fed) (steps : List Answered) (last : Plan) → IsWalk Goto (show_used site name) feds steps last → AreOwn site (look_up name) steps
  used_is_own name feds steps last walk =
      are_own site (look_up name) (on_id (measuring site))
      (by_on_id site (measuring site) (λ image. (refl, refl, of_on_header site image (λ h. counting site image (object_count h.layout h.size)) (λ h. of_counting image (object_count h.layout h.size)))))
      feds steps last walk

  by_renamed : (a : Answer) → GoesByImage site a (on_renamed a)
  by_renamed answer.Done = tt
  by_renamed answer.Exists = tt
  by_renamed (answer.Id image) = tt
  by_renamed answer.Fenced = tt
  by_renamed _ = tt

  pub rename_is_own : (from to : List ℕ) (feds : List Fed) (steps : List Answered) (last : Plan) → IsWalk Goto (rename site from to) feds steps last → AreOwn site (op.Directory (directory.Rename from to)) steps
  rename_is_own from to feds steps last walk = are_own site (op.Directory (directory.Rename from to)) on_renamed by_renamed feds steps last walk
