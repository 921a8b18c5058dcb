-- Who joins no line waits for nothing.
use Rattle.std.proofs.Common.{◌≡◌, false, sym, ap, ◌∙◌}
use Rattle.std.specs.Prelude.{is_some}
use Rattle.std.proofs.lemmas.Bool.{true≢false}
use Rattle.rbd_commands.specs.declared.command.Command.{Command}
use Rattle.rbd_machine.specs.Plan.{Plan, Ask, Await, Note, Return, Goto, Standing}
use Rattle.rbd_machine.specs.Wait as wait
use Rattle.rbd_machine.specs.declared.seat.Seat.{Seat}
use Rattle.rbd_catalog.specs.Follows.{Follows, FollowsFrom, Outside}
use Rattle.rbd_catalog.specs.Plans.{IsPlanFor}
use Rattle.rbd_catalog.specs.Profile.{Profile, joins_a_line, profile}
use Rattle.rbd_catalog.proofs.FollowsAll.{command_follows}
use Rattle.rbd_knowledge.specs.Calm.{IsCalm, IsCalmRequest}

module _ (p : Profile) (apart : joins_a_line p ≡ false) where
  calm : (plan : Plan) → Follows p Outside plan → IsCalm plan
  calm (Ask site why op next) (may, follows) = λ a. calm (next a) (follows a)
  calm (Await (wait.Join site image sharing) next) ((at, joins), follows) = absurd (true≢false (sym (ap is_some joins) ∙ apart))
  calm (Await (wait.Hold site image) next) (at, follows) = cc
  calm (Await (wait.Turn object) next) ((at, beside), follows) = cc
  calm (Await (wait.Applied site image) next) (at, follows) = cc
  calm (Await (wait.Leave site image) next) (at, follows) = absurd at
  calm (Note site image event next) (at, is, follows) = cc
  calm (Return reply) follows = tt
  calm (Goto label) follows = tt

  calm_from : (s : Standing) → FollowsFrom p s → IsCalmRequest s
  calm_from s from = record { plan = calm s.plan from.plan; labels = λ label. calm (s.labels label) (from.labels label) }

pub look_is_calm : (seat : Seat) (c : Command) (s : Standing) → joins_a_line (profile c) ≡ false → IsPlanFor seat c s → IsCalmRequest s
look_is_calm seat c s apart is = calm_from (profile c) apart s (command_follows seat c s is)
