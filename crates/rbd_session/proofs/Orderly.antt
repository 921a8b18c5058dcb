-- The plans keep to their line.
use Rattle.std.proofs.Common.{ℕ, List, true, Option, Some, None, refl}
use Rattle.rbd_kinds.specs.declared.sharing.Sharing.TheVariants as sharing
use Rattle.rbd_machine.specs.Course.{Course, beginning}
use Rattle.rbd_machine.specs.Orderly.{IsOrderly, IsOrderlyFrom}
use Rattle.rbd_machine.specs.declared.stage.Stage.TheVariants as stage
use Rattle.rbd_machine.proofs.CourseSteps.{course_at, orderly_not_there, orderly_on_id, orderly_on_done, orderly_change}
use Rattle.rbd_kinds.specs.declared.answer.Answer.{Answer}
use Rattle.rbd_kinds.specs.declared.answer.Answer.TheVariants as answer
use Rattle.rbd_commands.specs.declared.command.Command.{Command}
use Rattle.rbd_commands.specs.declared.command.Command.TheVariants as command
use Rattle.rbd_kinds.specs.declared.id.SiteId.{SiteId}
use Rattle.rbd_kinds.proofs.Images.{at_itself}
use Rattle.rbd_machine.specs.Label.{Label}
use Rattle.rbd_machine.specs.Plan.{without_labels}
use Rattle.rbd_machine.specs.Refused.{refuses_none}
use Rattle.rbd_meaning.specs.Straight.{Straight, straight_of}
use Rattle.rbd_session.specs.Close.{replies_done, unwatching, on_dropped, joining, close, quiesced, straight_plan, telling, close_plan}
use Rattle.rbd_session.proofs.Labels.{closed_plan}

abbrev starts : Label → Course
starts label = beginning

module _ (site : SiteId) (image : ℕ) where
  -- where a close waits, and does what it does
  abbrev waiting : Course
  waiting = course_at sharing.Alone site image stage.Waiting

  orderly_unwatching : IsOrderly None starts true waiting (unwatching site image)
  orderly_unwatching = (refl, λ a can. orderly_on_done None starts waiting replies_done tt a)

  orderly_on_dropped : (a : Answer) → IsOrderly None starts true waiting (on_dropped site image a)
  orderly_on_dropped answer.Done = (refl, λ a can. orderly_on_done None starts waiting (unwatching site image) orderly_unwatching a)
  orderly_on_dropped answer.Changed = orderly_unwatching
  orderly_on_dropped a = orderly_not_there None starts waiting a

orderly_close : (site : SiteId) (name : List ℕ) → IsOrderly None starts true beginning (close site name)
orderly_close site name = (
  refl,
  λ found can.
      orderly_on_id None starts beginning (joining site) (λ image.
      ((refl, refl), ((at_itself site image, refl), (refl, λ a can. orderly_on_dropped site image a)))) found,
)

orderly_telling : (site : SiteId) (o : Option (List ℕ)) (image : ℕ) → IsOrderly None starts true beginning (telling site o image)
orderly_telling site None image = tt
orderly_telling site (Some bytes) image = (refl, λ a can. orderly_on_done None starts beginning replies_done tt a)

orderly_straight : (site : SiteId) (o : Option Straight) → IsOrderly None starts true beginning (straight_plan site o)
orderly_straight site None = tt
orderly_straight site (Some s) = (refl, λ found can. orderly_on_id None starts beginning (telling site s.tells) (orderly_telling site s.tells) found)

orderly_plan : (site : SiteId) (c : Command) → IsOrderly None starts true beginning (close_plan site c)
orderly_plan site (command.Close image) = orderly_close site image
orderly_plan site (command.Quiesce image) = orderly_change None starts site image sharing.Alone refuses_none quiesced (λ i h form may. tt)
orderly_plan site c = orderly_straight site (straight_of c)

pub orderly_from : (site : SiteId) (c : Command) → IsOrderlyFrom None true beginning (without_labels (close_plan site c))
orderly_from site c = record { at = starts; orderly = orderly_plan site c; closed = closed_plan site c; labels = λ label asks. absurd asks }
