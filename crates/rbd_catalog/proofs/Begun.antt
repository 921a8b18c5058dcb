-- What comes of making the request of a `create`: it has one plan, and where that is refused each
-- request of it is.
use Rattle.std.proofs.Common.{◌≡◌, ℕ, List, None, Some, ap, sym, ◌∙◌, cond}
use Rattle.std.specs.Prelude.{unwrap_or}
use Rattle.rbd_commands.specs.declared.command.Command.{Command}
use Rattle.rbd_commands.specs.declared.command.Command.TheVariants as command
use Rattle.rbd_commands.specs.declared.command.Shape.{Shape}
use Rattle.rbd_commands.specs.declared.refusal.Refusal.{Refusal}
use Rattle.rbd_kinds.specs.declared.reply.Reply.TheVariants as reply
use Rattle.rbd_layout.specs.Asked.{layout_of}
use Rattle.rbd_machine.specs.Plan.{Plan, Return, Standing, without_labels}
use Rattle.rbd_machine.specs.declared.seat.Seat.{Seat}
use Rattle.rbd_machine.specs.Steps.{refused}
use Rattle.rbd_image.specs.Create.{IsCreate, IsCreatePlan, refusal_at}
use Rattle.rbd_catalog.specs.EachRequest.{one_create, same_some}
use Rattle.rbd_catalog.specs.Plans.{IsPlanFor, create_at, planned}

created : (seat : Seat) (name : List ℕ) (size : ℕ) (shape : Shape) (plan : Plan) → IsCreate seat.home name size shape plan → IsPlanFor seat (command.Create name size shape) (without_labels plan)
created seat name size shape plan is =
    ap (λ b. cond b None (planned (create_at seat.home name size (layout_of shape)))) is.plain ∙ ap planned (sym (one_create seat.home name size shape plan is))

pub create_is_planned : (seat : Seat) (c : Command) (plan : Plan) → IsCreatePlan seat.home c plan → IsPlanFor seat c (without_labels plan)
create_is_planned seat (command.Create name size shape) plan is = created seat name size shape plan is
create_is_planned seat _ plan is = absurd is

refused_by : (plan : Plan) (r : Refusal) → refusal_at plan ≡ Some r → plan ≡ refused r
refused_by (Return (reply.Refused x)) r is = ap (λ o. refused (unwrap_or o r)) is
refused_by _ r is = cc

pub create_is_refused : (seat : Seat) (c : Command) (made : Plan) (r : Refusal) → IsCreatePlan seat.home c made → refusal_at made ≡ Some r
    → (s : Standing) → IsPlanFor seat c s → s.plan ≡ refused r
create_is_refused seat c made r creates refuses s is =
    ap (λ (at : Standing). at.plan) (same_some s (without_labels made) (sym is ∙ create_is_planned seat c made creates)) ∙ refused_by made r refuses
