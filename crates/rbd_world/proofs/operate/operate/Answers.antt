use Rattle.std.proofs.Common.{◌≡◌, ◌∷◌, ◌++◌, ℕ, Bool, Some, sym, ap, ◌∙◌, subst}
use Rattle.rbd_client.specs.Actor.{actor_at, op_wanted}
use Rattle.rbd_client.specs.Feeding.{CanGet, DropsAtRest}
use Rattle.rbd_client.proofs.Alike.{actor_alike}
use Rattle.rbd_client.proofs.Wanted.{can_get, wanted_alike}
use Rattle.rbd_flat.specs.declared.entry.Entry.{Entry}
use Rattle.rbd_kinds.specs.OperationKind.{kind_of}
use Rattle.rbd_kinds.specs.declared.id.Instance.{Instance}
use Rattle.rbd_kinds.specs.declared.machine.Fed.TheVariants as of_fed
use Rattle.rbd_kinds.specs.declared.operation.Op.{Op}
use Rattle.rbd_lock.specs.Waiting.{asks_for_lock}
use Rattle.rbd_site.specs.Step.{MayDo, answer_to}
use Rattle.rbd_world.specs.declared.event.Outcome.TheVariants as outcome
use Rattle.rbd_world.specs.Operate.{IsLogged}
use Rattle.rbd_world.specs.Run.{ending_entries, entry_of, reason_of}
use Rattle.rbd_world.specs.Sending.{ActsAt, doer_of}
use Rattle.rbd_world.specs.Step.{IsPermitted, next_number, operation_at}
use Rattle.rbd_world.specs.World.{records_in, site_in}
use Rattle.rbd_world.proofs.FedAlike.{drops_still, goes_alike}
use Rattle.rbd_world.proofs.Latest.{same_op}
use Rattle.rbd_world.proofs.operate.operate.Goals as goal

pub foresee-requires : goal.foresee-requires
foresee-requires g c = record {
  permitted =
      subst (λ (who : Instance). IsPermitted c.args.sites.now who c.in-Some.site c.in-Some.op) (sym c.instance-who.ensures)
      (c.requires.wants c.in-Some.site c.in-Some.op (sym c.in-Ok.ensures.op ∙ c.in-Some.is));
}

pub ready-requires-clause-can : goal.ready-requires-clause-can
ready-requires-clause-can g c =
    let site = c.in-Some.site in
    let op = c.in-Some.op in
    let told = answer_to (records_in site c.args.sites.now) c.args.client.now.session.instance op in
    let wanted : op_wanted g.R.Machine.stands c.args.acting.now.slot c.args.client.now ≡ Some (site, op) = sym c.in-Ok.ensures.op ∙ c.in-Some.is in
    subst (λ f. CanGet g.R.Machine.stands c.args.acting.now.slot c.args.client.now.session f (actor_at g.R.Machine.stands c.args.acting.now.slot c.args.client.now))
    (sym (c.in-Ok-foresee.ensures.fed ∙ ap (λ (who : Instance). of_fed.Answer (answer_to (records_in site c.args.sites.now) who op)) c.instance-who.ensures))
    (can_get g.R.Machine.stands c.args.acting.now.slot c.args.client.now site op told wanted (c.requires.wants site op wanted).gives)

pub apply-requires : goal.apply-requires
apply-requires g c = record {
  may =
      subst (λ (who : Instance). MayDo (records_in c.in-Some.site c.args.sites.now) who c.in-Some.op) (sym c.instance-who.ensures)
      (c.requires.wants c.in-Some.site c.in-Some.op (sym c.in-Ok.ensures.op ∙ c.in-Some.is)).may;
  fed = c.in-Ok-foresee.ensures.fed;
}

pub feed-reply-requires-clause-actor : goal.feed-reply-requires-clause-actor
feed-reply-requires-clause-actor g c = c.requires.actor ∙ sym (actor_alike g.R.Machine.stands c.args.acting.now.slot c.args.client.now c.ready.new.self c.ready.ensures.alike)

-- the last line of the log has the operation
done_is : (g : _) (c : goal.After-feed-arg-3-1 g) → c.in-Some.op ≡ c.in-Some-latest.done.now
done_is g c =
    let site = c.in-Some.site in
    same_op (site_in site c.args.sites.now) (site_in site c.apply.new.sites) c.at.result.now (next_number (site_in site c.args.sites.now)) c.instance-who.result c.in-Some.op
    (answer_to (records_in site c.args.sites.now) c.instance-who.result c.in-Some.op) c.log.result.now c.in-Some-latest.done.now c.in-Ok-apply.ensures.logged.log c.at.ensures c.log.ensures.log c.in-Some-latest.ensures

pub feed-reply-requires-clause-op : goal.feed-reply-requires-clause-op
feed-reply-requires-clause-op g c =
    wanted_alike g.R.Machine.stands c.args.acting.now.slot c.args.client.now c.ready.new.self c.ready.ensures.alike
    ∙ sym c.in-Ok.ensures.op ∙ c.in-Some.is ∙ ap (λ (o : Op). Some (c.in-Some.site, o)) (done_is g c)

pub feed-reply-requires-clause-rest : goal.feed-reply-requires-clause-rest
feed-reply-requires-clause-rest g c =
    subst (λ (o : Op). DropsAtRest (actor_at g.R.Machine.stands c.args.acting.now.slot c.ready.new.self) c.in-Some.site o c.ready.new.self) (done_is g c)
    (drops_still g.R.Machine.stands c.args.acting.now.slot c.in-Some.site c.in-Some.op c.args.client.now c.ready.new.self c.ready.ensures.alike
    (c.requires.rest c.in-Some.site c.in-Some.op (sym c.in-Ok.ensures.op ∙ c.in-Some.is)))

pub returns-clause-acts : goal.returns-clause-acts
returns-clause-acts g c =
    let site = c.in-Some.site in
    let op = c.in-Some.op in
    let before = site_in site c.args.sites.now in
    let me = c.args.client.now.session.instance in
    let who_is = c.instance-who.ensures in
    let reply = c.feed-reply.result in
    let by = doer_of c.args.by in
    let foreseen = c.in-Ok-foresee.ensures in
    let readied = c.ready.ensures in
    subst (λ w. ActsAt g.R.Machine.stands c.args.acting.now.slot by w c.args.sites.now c.apply.new.sites c.args.client.now c.feed-reply.new.self c.args.history.now.items c.note.new.history.items c.outcome-outcome.result)
    (sym (sym c.in-Ok.ensures.op ∙ c.in-Some.is))
    (record {
      here = record {
        reply = reply;
        logged = subst (λ (who : Instance). IsLogged who op before (site_in site c.apply.new.sites) c.args.sites.now.mail c.apply.new.sites.mail) who_is c.in-Ok-apply.ensures.logged;
        goes =
            goes_alike g.R.Machine.stands c.args.acting.now.slot by site op c.in-Some-latest.done.now before c.in-Ok-foresee.foreseen.fed reply c.args.client.now c.ready.new.self c.feed-reply.new.self
            (same_op before (site_in site c.apply.new.sites) c.at.result.now (next_number before) c.instance-who.result op
            (answer_to (records_in site c.args.sites.now) c.instance-who.result op) c.log.result.now c.in-Some-latest.done.now c.in-Ok-apply.ensures.logged.log c.at.ensures c.log.ensures.log c.in-Some-latest.ensures)
            (foreseen.fed ∙ ap (λ (who : Instance). of_fed.Answer (answer_to (records_in site c.args.sites.now) who op)) who_is)
            readied.alike readied.stays readied.others c.feed-reply.ensures.fed c.feed-reply.ensures.slots c.feed-reply.ensures.others c.feed-reply.ensures.who;
        noted = record {
          history =
              c.note.ensures
              ∙ ap (λ (e : Entry). c.args.history.now.items ++ e ∷ ending_entries by reply) (foreseen.entry ∙ ap (λ (who : Instance). entry_of (operation_at before who by site op)) who_is);
          outcome =
              c.outcome-outcome.ensures
              ∙ ap (λ (n : ℕ). outcome.Step site n c.in-Ok-foresee.foreseen.waiting c.is_some.result) foreseen.number
              ∙ ap (λ (w : Bool). outcome.Step site (next_number before) w c.is_some.result)
              (foreseen.waiting ∙ ap (λ (who : Instance). asks_for_lock (reason_of by) (kind_of op) (answer_to (records_in site c.args.sites.now) who op)) who_is)
              ∙ ap (outcome.Step site (next_number before) (asks_for_lock (reason_of by) (kind_of op) (answer_to (records_in site c.args.sites.now) me op))) c.is_some.ensures;
        };
      };
      elsewhere = c.in-Ok-apply.ensures.elsewhere;
    })
