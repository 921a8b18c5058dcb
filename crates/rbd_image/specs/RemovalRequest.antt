-- Where the request of an `rm` stands.
use Rattle.std.specs.Prelude.{◌≡◌, ℕ, Option, Some, None}
use Rattle.rbd_kinds.specs.declared.answer.Answer.{Answer}
use Rattle.rbd_kinds.specs.declared.answer.Answer.TheVariants as answer
use Rattle.rbd_kinds.specs.declared.header.HeaderView.{HeaderView}
use Rattle.rbd_kinds.specs.declared.id.SiteId.{SiteId}
use Rattle.rbd_kinds.specs.declared.reply.Reply.TheVariants as reply
use Rattle.rbd_machine.specs.Approach.{rest_between, under_lock_at}
use Rattle.rbd_machine.specs.Plan.{Plan, Return}
use Rattle.rbd_meaning.specs.Removals.{image_removal_refuses}
use Rattle.rbd_image.specs.RemovalPart.{rest_of_removal, IsReady}
use Rattle.rbd_image.specs.Remove.{removal_plan, remove_owned, unless_watched}
use Rattle.rbd_image.specs.declared.remove.Remove.{Remove}
use Rattle.rbd_image.specs.declared.remove_request.RemoveRequest.{RemoveRequest}
use Rattle.rbd_image.specs.declared.remove_request.Stage.{Stage}
use Rattle.rbd_image.specs.declared.remove_request.Stage.TheVariants as stage

-- what is left with its removal, and nothing without one
abbrev pub rest_with : Option Remove → (Plan → Plan) → Plan
rest_with None before = Return reply.Done
rest_with (Some removal) before = before (rest_of_removal removal (Return reply.Done))

-- what is left of its way to its look under the lock: between the two looks it asks who watches
abbrev pub rest_of_way : RemoveRequest → Plan
rest_of_way r = rest_between r.way image_removal_refuses (unless_watched r.site r.session) (remove_owned r.site r.session)

abbrev pub rest_at : Stage → RemoveRequest → Plan
rest_at stage.Approaching r = rest_of_way r
rest_at (stage.Asking image) r = unless_watched r.site r.session image (rest_of_way r)
rest_at (stage.AskingAgain image) r = rest_with r.removal (unless_watched r.site r.session image)
rest_at stage.Removing r = rest_with r.removal (λ rest. rest)

-- what is left of one
abbrev pub rest_of_request : RemoveRequest → Plan
rest_of_request r = rest_at r.stage r

-- it asks who watches
abbrev pub IsAskingWho : Stage → Type 0
IsAskingWho (stage.Asking image) = Unit {0}
IsAskingWho (stage.AskingAgain image) = Unit {0}
IsAskingWho _ = ⊥

-- ---- the memory that an answer needs

-- there is the removal of an image by a header
abbrev pub IsRemovalBy : SiteId → (image : ℕ) → HeaderView → Option Remove → Type 0
IsRemovalBy site image h None = ⊥
IsRemovalBy site image h (Some removal) = (next : Plan) → rest_of_removal removal next ≡ removal_plan site image h next

abbrev pub IsReadyIn : Option Remove → Answer → Type 0
IsReadyIn None a = Unit {0}
IsReadyIn (Some removal) a = IsReady removal a

-- at its look under the lock the removal by a header that refuses nothing, and behind it what that
-- needs
abbrev pub HasRemoval : RemoveRequest → HeaderView → Type 0
HasRemoval r h = (image : ℕ) → under_lock_at r.way.stage ≡ Some image → image_removal_refuses h ≡ None
    → IsRemovalBy r.site image h r.removal

abbrev pub IsReadyAt : Stage → RemoveRequest → Answer → Type 0
IsReadyAt stage.Approaching r (answer.Header h) = HasRemoval r h
IsReadyAt stage.Removing r a = IsReadyIn r.removal a
IsReadyAt _ r a = Unit {0}

abbrev pub IsReadyToGo : RemoveRequest → Answer → Type 0
IsReadyToGo r a = IsReadyAt r.stage r a
