-- How a machine without labels goes on.
use Rattle.std.proofs.Common.{◌≡◌, refl, sym, ap, ◌∙◌}
use Rattle.rbd_kinds.specs.declared.machine.Flow.TheVariants as flow
use Rattle.rbd_machine.specs.Plan.{Plan, Ask, Await, Note, Return, Goto, past_label, without_labels, GoesOn, IsLive}

pub settled_goto : (plan : Plan) → past_label Goto plan ≡ plan
settled_goto (Ask site why op next) = refl
settled_goto (Await wait next) = refl
settled_goto (Note site image event next) = refl
settled_goto (Return reply) = refl
settled_goto (Goto label) = refl

-- it stands where it was to go on
pub goes_more : (to plan : Plan) → IsLive plan → plan ≡ to → GoesOn Goto to flow.More (without_labels plan)
goes_more to plan live is = record { live = live; stands = ap without_labels (is ∙ sym (settled_goto to)) }
