-- Where a request goes from its stages.
use Rattle.std.proofs.Common.{◌≡◌, ℕ, Option, Some, None, ap, sym, subst}
use Rattle.rbd_commands.specs.declared.refusal.Refusal.{Refusal}
use Rattle.rbd_kinds.specs.declared.answer.Answer.{Answer}
use Rattle.rbd_kinds.specs.declared.answer.Answer.TheVariants as answer
use Rattle.rbd_kinds.specs.declared.header.HeaderView.{HeaderView}
use Rattle.rbd_kinds.specs.declared.id.SiteId.{SiteId}
use Rattle.rbd_kinds.specs.declared.machine.Fed.{Fed}
use Rattle.rbd_kinds.specs.declared.machine.Fed.TheVariants as fed
use Rattle.rbd_kinds.specs.declared.machine.Flow.TheVariants as flow
use Rattle.rbd_kinds.specs.declared.reply.Reply.TheVariants as reply
use Rattle.rbd_machine.specs.Answers.{CanBeFed}
use Rattle.rbd_machine.specs.Approach.{rest_between, under_lock_at, IsBetween, OwnedBy}
use Rattle.rbd_machine.specs.Plan.{Plan, Return, Goto, GoesOn, IsLive, plan_after, without_labels}
use Rattle.rbd_machine.specs.Ready.{IsReadyFor}
use Rattle.rbd_machine.specs.Steps.{refused}
use Rattle.rbd_machine.specs.declared.approach.Approach.{Approach}
use Rattle.rbd_machine.proofs.Approached.{approach_lives}
use Rattle.rbd_machine.proofs.Settled.{goes_more}
use Rattle.rbd_meaning.specs.Removals.{image_removal_refuses}
use Rattle.rbd_image.specs.RemovalPart.{rest_from, rest_of_removal}
use Rattle.rbd_image.specs.RemovalRequest.{rest_with, IsReadyAt, IsRemovalBy}
use Rattle.rbd_image.specs.Remove.{on_watchers, remove_owned, unless_watched}
use Rattle.rbd_image.specs.declared.remove.Remove.{Remove}
use Rattle.rbd_image.specs.declared.remove.Stage.{Stage}
use Rattle.rbd_image.specs.declared.remove.Stage.TheVariants as stage
use Rattle.rbd_image.specs.declared.remove_request.RemoveRequest.{RemoveRequest}
use Rattle.rbd_image.specs.declared.remove_request.Stage.TheVariants as at

removal_lives : (s : Stage) (r : Remove) (next : Plan) → IsLive (rest_from s r next)
removal_lives (stage.Looking outline) r next = tt
removal_lives (stage.Removing first) r next = tt

module _ (site : SiteId) (session image : ℕ) where
  -- behind its first look
  pub goes_to_ask : (to left : Plan) → IsBetween (unless_watched site session) image to left
      → GoesOn Goto to flow.More (without_labels (unless_watched site session image left))
  goes_to_ask to left between = goes_more to (unless_watched site session image left) tt between.is

  -- behind its look under the lock, with the removal that was made for it
  pub goes_to_ask_again : (h : HeaderView) (removal : Option Remove) → IsRemovalBy site image h removal
      → GoesOn Goto (remove_owned site session image h) flow.More (without_labels (rest_with removal (unless_watched site session image)))
  goes_to_ask_again h None is = absurd is
  goes_to_ask_again h (Some r) is =
      goes_more (remove_owned site session image h) (unless_watched site session image (rest_of_removal r (Return reply.Done))) tt
      (ap (unless_watched site session image) (is (Return reply.Done)))

  -- nobody else watches: it goes on with its way
  pub goes_on_its_way : (way : Approach) (a : Answer) → ((next : Plan) → on_watchers session next a ≡ next)
      → GoesOn Goto (on_watchers session (rest_between way image_removal_refuses (unless_watched site session) (remove_owned site session)) a) flow.More
      (without_labels (rest_between way image_removal_refuses (unless_watched site session) (remove_owned site session)))
  goes_on_its_way way a free =
      let rest = rest_between way image_removal_refuses (unless_watched site session) (remove_owned site session) in
      goes_more (on_watchers session rest a) rest (approach_lives way image_removal_refuses (unless_watched site session) (remove_owned site session) way.stage) (sym (free rest))

  -- nor behind its look under the lock: it removes the image
  pub goes_to_remove : (removal : Option Remove) (a : Answer) → CanBeFed (rest_with removal (unless_watched site session image)) (fed.Answer a)
      → ((next : Plan) → on_watchers session next a ≡ next)
      → GoesOn Goto (plan_after (rest_with removal (unless_watched site session image)) (fed.Answer a)) flow.More (without_labels (rest_with removal (λ rest. rest)))
  goes_to_remove None a can free = absurd can
  goes_to_remove (Some r) a can free =
      let rest = rest_of_removal r (Return reply.Done) in
      goes_more (on_watchers session rest a) rest (removal_lives r.stage r (Return reply.Done)) (sym (free rest))

  -- somebody else watches
  pub ends_watched : (removal : Option Remove) (a : Answer) (x : Refusal) → CanBeFed (rest_with removal (unless_watched site session image)) (fed.Answer a)
      → ((next : Plan) → on_watchers session next a ≡ refused x) → plan_after (rest_with removal (unless_watched site session image)) (fed.Answer a) ≡ refused x
  ends_watched None a x can watched = absurd can
  ends_watched (Some r) a x can watched = watched (rest_of_removal r (Return reply.Done))

-- behind its look under the lock, which told a header that refuses nothing
pub goes_behind_look : (r : RemoveRequest) (image : ℕ) (f : Fed) (to : Plan) → IsReadyFor (IsReadyAt at.Approaching r) f
    → OwnedBy image_removal_refuses (remove_owned r.site r.session) image f to r.way
    → GoesOn Goto to flow.More (without_labels (rest_with r.removal (unless_watched r.site r.session image)))
goes_behind_look r image (fed.Answer (answer.Header h)) to ready owned =
    subst (λ plan. GoesOn Goto plan flow.More (without_labels (rest_with r.removal (unless_watched r.site r.session image)))) (sym owned.acts)
    (goes_to_ask_again r.site r.session image h r.removal (ready image (ap under_lock_at owned.stage) owned.may))
goes_behind_look r image _ to ready owned = absurd owned
