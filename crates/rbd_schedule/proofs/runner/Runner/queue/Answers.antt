use Rattle.std.proofs.Common.{◌≡◌, ◌||◌, Some, not, [], ◌∷◌, ◌++◌, slice_get, slice_set, sym, ap, ◌∙◌, refl}
use Rattle.std.proofs.lemmas.Option.{slice_get_read, slice_get_within}
use Rattle.std.proofs.lemmas.Result.{on_ok_weaker}
use Rattle.std.specs.Vec.{vec_len, with_item}
use Rattle.rbd_schedule.specs.Given.{given_by, given_or_none, of_session}
use Rattle.rbd_schedule.specs.declared.given.Given.{Given}
use Rattle.rbd_schedule.specs.Playing.{commands_in, given_to}
use Rattle.rbd_schedule.proofs.Goes.{keeps_more, one_given}
use Rattle.rbd_schedule.proofs.Queues.{commands_more}
use Rattle.rbd_schedule.proofs.runner.Runner.queue.Goals as goal

-- the queue of the command's session
number : (c : goal.After-self-in-Some-get_mut-1) → c.given.inside.0.0.0 ≡ c.in-Some.given.session
number c = ap (λ (x : Given). x.session) c.given.view_is

there : (c : goal.After-self-in-Some-get_mut-1) → slice_get c.args.self.now.queues.items c.in-Some.given.session ≡ Some c.in-Some-get_mut.queue.now
there c =
    ap (slice_get c.args.self.now.queues.items) (sym (number c))
    ∙ slice_get_read c.args.self.now.queues.items (vec_len c.args.self.now.queues) c.given.inside.0.0.0 c.in-Some-get_mut.queue.now c.args.self.now.queues.ok.0
    (c.in-Some-get_mut.ensures.variant.0 refl) c.in-Some-get_mut.ensures.value

told : (c : goal.After-self-in-Some-get_mut-1) → c.in-Some.given ∷ [] ≡ given_by c.args.line.now.number c.args.line.now.said
told c = sym (ap given_or_none c.in-Some.is) ∙ c.in_ok-given.ensures

pub returns-in-Some-get_mut-clause-keeps : goal.returns-in-Some-get_mut-clause-keeps
returns-in-Some-get_mut-clause-keeps c =
    on_ok_weaker c.push.result (λ commands played keeps.
    keeps_more c.args.self.now (record c.args.self.now { queues = with_item c.args.self.now.queues c.given.inside.0.0.0 c.push.new.self; is_due = c.is_due_behind-self.result })
    c.in-Some.given c.in-Some-get_mut.queue.now c.push.new.self keeps (there c) refl
    (ap (λ n. slice_set c.args.self.now.queues.items n c.push.new.self) (number c))
    (c.is_due_behind-self.ensures ∙ ap (λ b. c.args.self.now.is_due || not b) c.holds_back-is_held.ensures) commands c.push.ensures.front c.push.ensures.next
    (one_given c.args.line.now.number c.args.line.now.said c.in-Some.given (told c) played)) c.push.ensures.commands

pub returns-in-Some-get_mut-clause-given : goal.returns-in-Some-get_mut-clause-given
returns-in-Some-get_mut-clause-given c =
    on_ok_weaker c.push.result (λ commands session below.
    ap (λ n. commands_in (slice_get (slice_set c.args.self.now.queues.items n c.push.new.self) session)) (number c)
    ∙ commands_more c.args.self.now.queues.items c.in-Some.given c.push.new.self (slice_get_within c.args.self.now.queues.items c.in-Some.given.session c.in-Some-get_mut.queue.now (there c))
    (commands ∙ ap (λ o. commands_in o ++ c.in-Some.given ∷ []) (sym (there c))) session
    ∙ ap (λ cs. given_to c.args.self.now session ++ of_session session cs) (told c)) c.push.ensures.commands
