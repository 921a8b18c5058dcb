-- The plans do what they may.
use Rattle.std.proofs.Common.{ℕ, List, cond, Option, Some, None, ap}
use Rattle.rbd_kinds.specs.declared.sharing.Sharing.TheVariants as sharing
use Rattle.rbd_kinds.specs.declared.answer.Answer.{Answer}
use Rattle.rbd_kinds.specs.declared.answer.Answer.TheVariants as answer
use Rattle.rbd_commands.specs.declared.command.Command.{Command}
use Rattle.rbd_commands.specs.declared.command.Command.TheVariants as command
use Rattle.rbd_kinds.specs.declared.id.SiteId.{SiteId}
use Rattle.rbd_kinds.proofs.Images.{at_itself}
use Rattle.rbd_machine.specs.About.{look_up}
use Rattle.rbd_machine.specs.Knowledge.{Knowledge, nothing_known, learned}
use Rattle.rbd_machine.specs.Label.{Label}
use Rattle.rbd_machine.specs.Lawful.{IsLawful, IsLawfulRequest}
use Rattle.rbd_machine.specs.Permits.{HoldsUnlooked}
use Rattle.rbd_machine.specs.Plan.{without_labels}
use Rattle.rbd_machine.specs.Refused.{refuses_none}
use Rattle.rbd_machine.proofs.AtLeast.{jump_lawful}
use Rattle.rbd_machine.proofs.Lawful.{holding_known, lawful_not_there, lawful_on_id, lawful_on_done, lawful_change}
use Rattle.rbd_meaning.specs.Straight.{Straight, straight_of}
use Rattle.rbd_session.specs.Close.{close, close_plan, replies_done, dropping, joining, on_dropped, quiesced, straight_plan, telling, unwatching}

abbrev known_nowhere : Label → Knowledge
known_nowhere label = nothing_known

module _ (site : SiteId) (image : ℕ) where
  -- what a close knows once it may drop the lock
  abbrev waited : Knowledge
  waited = holding_known sharing.Alone site image

  holds_unlooked : HoldsUnlooked waited site image
  holds_unlooked = record { is = ap (λ b. cond b (Some (record { site = site; image = image; sharing = sharing.Alone; header = None })) None) (at_itself site image) }

  lawful_unwatching : IsLawful known_nowhere waited (unwatching site image)
  lawful_unwatching = (tt, λ a can. lawful_on_done known_nowhere (λ answered. waited) replies_done tt a)

  lawful_on_dropped : (a : Answer) → IsLawful known_nowhere waited (on_dropped site image a)
  lawful_on_dropped answer.Done = (tt, λ a can. lawful_on_done known_nowhere (λ answered. waited) (unwatching site image) lawful_unwatching a)
  lawful_on_dropped answer.Changed = lawful_unwatching
  lawful_on_dropped a = lawful_not_there known_nowhere waited a

  lawful_dropping : IsLawful known_nowhere waited (dropping site image)
  lawful_dropping = (holds_unlooked, λ a can. lawful_on_dropped a)

lawful_close : (site : SiteId) (name : List ℕ) → IsLawful known_nowhere nothing_known (close site name)
lawful_close site name = (tt, λ found can. lawful_on_id known_nowhere (learned nothing_known site (look_up name)) (joining site) (λ image. lawful_dropping site image) found)

lawful_telling : (site : SiteId) (o : Option (List ℕ)) (image : ℕ) → IsLawful known_nowhere nothing_known (telling site o image)
lawful_telling site None image = tt
lawful_telling site (Some bytes) image = (tt, λ a can. lawful_on_done known_nowhere (λ answered. nothing_known) replies_done tt a)

lawful_straight : (site : SiteId) (o : Option Straight) → IsLawful known_nowhere nothing_known (straight_plan site o)
lawful_straight site None = tt
lawful_straight site (Some s) = (tt, λ found can. lawful_on_id known_nowhere (learned nothing_known site (look_up s.name)) (telling site s.tells) (lawful_telling site s.tells) found)

lawful_plan : (site : SiteId) (c : Command) → IsLawful known_nowhere nothing_known (close_plan site c)
lawful_plan site (command.Close image) = lawful_close site image
lawful_plan site (command.Quiesce image) = lawful_change known_nowhere site image sharing.Alone refuses_none quiesced (λ i h form may. tt)
lawful_plan site c = lawful_straight site (straight_of c)

pub lawful_request : (site : SiteId) (c : Command) → IsLawfulRequest (without_labels (close_plan site c))
lawful_request site c = record { known_at = known_nowhere; plan = lawful_plan site c; labels = jump_lawful known_nowhere }
