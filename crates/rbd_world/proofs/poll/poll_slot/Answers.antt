use Rattle.std.proofs.Common.{rules, ◌≡◌, ◌==◌, false, None, IfOk, ap, ◌∙◌, subst}
use Rattle.std.proofs.lemmas.Result.{IfOk-weaker}
use Rattle.rbd_client.specs.Actor.{actor_at, op_wanted}
use Rattle.rbd_client.specs.Client.{ClientView}
use Rattle.rbd_slots.specs.Session.{held_in, refusal_in, reply_of}
use Rattle.rbd_world.specs.Sending.{ActsAt, doer_at, doer_of}
use Rattle.rbd_world.specs.Step.{polled_in}
use Rattle.rbd_world.proofs.Polling.{IsPolled, not_zero, polled_so}
use Rattle.rbd_world.proofs.poll.poll_slot.Goals as goal

polled_there : (g : _) (c : goal.After-operate-2 g)
    → IfOk c.operate-2.result (IsPolled g.R.Machine.stands c.args.sites.now c.operate-2.new.sites c.args.slot c.args.client.now c.operate-2.new.client c.args.history.now.items c.operate-2.new.history.items (polled_in g.R.Machine.stands c.args.sites.now c.args.client.now c.args.slot (held_in c.args.slot c.args.client.now.session.slots)))
polled_there g c =
    let before = c.args.client.now in
    let by = doer_of c.sender_of-by.result in
    let stays : c.refuse.new.self ≡ before = search rules in
    let unrefused : None ≡ reply_of (refusal_in (held_in c.args.slot before.session.slots)) = search rules in
    let place : (c.args.slot == 0) ≡ false = not_zero c.args.slot (λ e. c.if-slot-eq0.false (c.slot.view_is ∙ e)) in
    IfOk-weaker c.operate-2.result (ActsAt g.R.Machine.stands c.args.slot by (op_wanted g.R.Machine.stands c.args.slot before) c.args.sites.now c.operate-2.new.sites before c.operate-2.new.client c.args.history.now.items c.operate-2.new.history.items) _
    (λ o acts. polled_so g.R.Machine.stands c.args.slot c.args.sites.now c.operate-2.new.sites before c.operate-2.new.client c.args.history.now.items c.operate-2.new.history.items o
    c.in-Some.line by place c.in-Some.ensures.line unrefused
    (c.sender_of-by.ensures ∙ ap (doer_at c.in-Some.line) c.actor-actor-2.ensures.actor ∙ ap (λ (x : ClientView _). doer_at c.in-Some.line (actor_at g.R.Machine.stands c.args.slot x)) stays) c.in-Some.ensures.sound acts)
    (subst (λ (x : ClientView _). IfOk c.operate-2.result (ActsAt g.R.Machine.stands c.args.slot by (op_wanted g.R.Machine.stands c.args.slot x) c.args.sites.now c.operate-2.new.sites x c.operate-2.new.client c.args.history.now.items c.operate-2.new.history.items)) stays c.operate-2.ensures.acts)

pub returns-clause-outcome : goal.returns-clause-outcome
returns-clause-outcome g c = IfOk-weaker c.operate-2.result _ _ (λ o is. is.outcome) (polled_there g c)

pub returns-clause-history : goal.returns-clause-history
returns-clause-history g c = IfOk-weaker c.operate-2.result _ _ (λ o is. is.noted) (polled_there g c)

pub returns-clause-sites : goal.returns-clause-sites
returns-clause-sites g c = IfOk-weaker c.operate-2.result _ _ (λ o is. is.sites) (polled_there g c)

pub returns-clause-becomes : goal.returns-clause-becomes
returns-clause-becomes g c = IfOk-weaker c.operate-2.result _ _ (λ o is. is.becomes) (polled_there g c)
