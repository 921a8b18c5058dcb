use Rattle.std.proofs.Common.{[], ◌∷◌, ◌++◌, length-set, slice_get, refl, sym, ap, ◌∙◌}
use Rattle.std.proofs.lemmas.Option.{slice_get_read}
use Rattle.std.specs.Vec.{vec_len, with_item}
use Rattle.rbd_schedule.specs.Playing.{numbers_in}
use Rattle.rbd_schedule.proofs.Queues.{set_other, set_there}
use Rattle.rbd_schedule.proofs.notices.put.Goals as goal

pub returns-clause-count : goal.returns-clause-count
returns-clause-count c = length-set c.args.inboxes.now.items c.session.inside.0 c.push_back.new.self

pub returns-clause-here : goal.returns-clause-here
returns-clause-here c = λ within.
    ap (λ n. numbers_in (slice_get (with_item c.args.inboxes.now n c.push_back.new.self).items c.args.session)) c.session.view_is
    ∙ ap numbers_in (set_there c.args.inboxes.now.items c.args.session c.push_back.new.self within)
    ∙ c.in_ok-push_back.ensures.items
    ∙ ap (λ o. numbers_in o ++ c.args.number ∷ [])
    (sym (ap (slice_get c.args.inboxes.now.items) (sym c.session.view_is)
    ∙ slice_get_read c.args.inboxes.now.items (vec_len c.args.inboxes.now) c.session.inside.0 c.in-Some.inbox.now c.args.inboxes.now.ok.0 (c.in-Some.ensures.variant.0 refl) c.in-Some.ensures.value))

pub returns-clause-others : goal.returns-clause-others
returns-clause-others c = λ other away.
    ap numbers_in (set_other c.args.inboxes.now.items c.session.inside.0 other c.push_back.new.self (λ same. away (same ∙ c.session.view_is)))
