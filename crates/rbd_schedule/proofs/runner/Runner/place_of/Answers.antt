use Rattle.std.proofs.Common.{◌≡◌, Some, slice_get, refl, sym, ap, ◌∙◌}
use Rattle.std.proofs.lemmas.Option.{slice_get_read}
use Rattle.std.specs.Vec.{vec_len, with_item}
use Rattle.rbd_schedule.proofs.Goes.{goes_by_look, kept_queue, place_found, within_given}
use Rattle.rbd_schedule.proofs.runner.Runner.place_of.Goals as goal

pub earliest-requires : goal.earliest-requires
earliest-requires c =
    kept_queue c.args.self.now c.requires c.session.inside.0 c.in_ok-queue.queue.now
    (slice_get_read c.args.self.now.queues.items (vec_len c.args.self.now.queues) c.session.inside.0 c.in_ok-queue.queue.now c.args.self.now.queues.ok.0
    (c.in_ok-queue.ensures.variant.0 refl) c.in_ok-queue.ensures.value)

there : (c : goal.After-self-2-1) → slice_get c.args.self.now.queues.items c.args.session ≡ Some c.in_ok-queue.queue.now
there c =
    ap (slice_get c.args.self.now.queues.items) (sym c.session.view_is)
    ∙ slice_get_read c.args.self.now.queues.items (vec_len c.args.self.now.queues) c.session.inside.0 c.in_ok-queue.queue.now c.args.self.now.queues.ok.0
    (c.in_ok-queue.ensures.variant.0 refl) c.in_ok-queue.ensures.value

pub returns-clause-place : goal.returns-clause-place
returns-clause-place c =
    place_found c.args.self.now c.requires c.args.session c.in_ok-queue.queue.now c.earliest.result c.in_ok-free.field-0 (there c) (sym c.free.ensures.free ∙ c.in_ok-free.was) c.earliest.ensures.earliest

pub returns-clause-within : goal.returns-clause-within
returns-clause-within c = within_given c.args.self.now c.args.session c.in_ok-queue.queue.now c.earliest.result (there c) c.earliest.ensures.place

pub returns-clause-goes : goal.returns-clause-goes
returns-clause-goes c =
    goes_by_look c.args.self.now (record c.args.self.now { queues = with_item c.args.self.now.queues c.session.inside.0 c.earliest.new.self })
    c.requires c.session.inside.0 c.in_ok-queue.queue.now c.earliest.new.self
    (ap (slice_get c.args.self.now.queues.items) c.session.view_is ∙ there c) refl refl c.earliest.ensures.commands c.earliest.ensures.queue
