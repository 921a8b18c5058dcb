use Rattle.std.proofs.Common.{◌≡◌, sym, subst}
use Rattle.rbd_kinds.specs.declared.machine.Fed.TheVariants as fed
use Rattle.rbd_machine.specs.Answers.{CanBeFed}
use Rattle.rbd_machine.specs.Plan.{Plan, plan_after}
use Rattle.rbd_machine.specs.Steps.{refused}
use Rattle.rbd_image.specs.RemovalRequest.{rest_at, rest_of_way}
use Rattle.rbd_image.specs.Remove.{on_watchers}
use Rattle.rbd_image.specs.declared.remove_request.RemoveRequest.{RemoveRequest}
use Rattle.rbd_image.proofs.RemovalStages.{ends_watched}
use Rattle.rbd_image.proofs.remove_request.RemoveRequest.asked.Goals as goal
use Rattle.rbd_image.proofs.remove_request.RemoveRequest.asked.Goals.{in-Asking, in-AskingAgain}

pub returns-in-Err : goal.returns-in-Err
returns-in-Err c =
    let old = c.args.self.now in
    let a = c.args.answer.now in
    let x = c.in-Err.refusal in
    elim c.match-self.branch [
      | in-Asking w ↦ subst (λ s. plan_after (rest_at s old) (fed.Answer a) ≡ refused x) (sym w.in-Asking.is)
          (subst (λ (r : RemoveRequest). (next : Plan) → on_watchers r.session next a ≡ refused x) w.self-is c.in-Err.ensures (rest_of_way old))
      | in-AskingAgain w ↦
          subst (λ s. plan_after (rest_at s old) (fed.Answer a) ≡ refused x) (sym w.in-AskingAgain.is)
          (ends_watched old.site old.session w.in-AskingAgain.field-0 old.removal a x
          (subst (λ s. CanBeFed (rest_at s old) (fed.Answer a)) w.in-AskingAgain.is c.requires.can)
          (subst (λ (r : RemoveRequest). (next : Plan) → on_watchers r.session next a ≡ refused x) w.self-is c.in-Err.ensures))
    ]
