use mathlib.Core.Path.{fun_ext}
use Rattle.std.proofs.Common.{◌≡◌, ℕ, ◌+◌, ◌<◌, Bool, true, Some, length-set, slice_get, refl, sym, ap, ◌∙◌, subst}
use Rattle.std.proofs.lemmas.Option.{slice_get_read, slice_get_within}
use Rattle.std.specs.Vec.{vec_len, with_item}
use Rattle.rbd_client.specs.Seen.{as_is}
use Rattle.rbd_watch.specs.Posting.{notice_numbered}
use Rattle.rbd_world.specs.Seen.{seen}
use Rattle.rbd_schedule.specs.Playing.{HoldsBut, IsPassed, has_mark, has_number, is_dealt_with, lost_in, numbers_in}
use Rattle.rbd_schedule.proofs.Goes.{goes_by_pass}
use Rattle.rbd_schedule.proofs.Passing.{passed_not_due, settled_passed}
use Rattle.rbd_schedule.proofs.Queues.{set_other, set_there}
use Rattle.rbd_schedule.proofs.Sorted.{all_passed, but_without}
use Rattle.rbd_schedule.proofs.runner.Runner.pass.Goals as goal

there : (c : goal.After-self-2-1) → slice_get c.args.self.now.inboxes.items c.args.session ≡ Some c.in-Some-get_mut.inbox.now
there c =
    ap (slice_get c.args.self.now.inboxes.items) (sym c.session.view_is)
    ∙ slice_get_read c.args.self.now.inboxes.items (vec_len c.args.self.now.inboxes) c.session.inside.0 c.in-Some-get_mut.inbox.now c.args.self.now.inboxes.ok.0
    (c.in-Some-get_mut.ensures.variant.0 refl) c.in-Some-get_mut.ensures.value

-- the session is past all that aren't left
left : (c : goal.After-self-2-1) → HoldsBut (λ number. IsPassed (lost_in c.args.self.now) c.args.session number (seen c.args.self.now.world)) 0 c.pass_settled.new.inbox.items c.args.self.now.sorted
left c =
    but_without (λ number. IsPassed (lost_in c.args.self.now) c.args.session number (seen c.args.self.now.world))
    (λ number. is_dealt_with (λ n. has_mark n c.args.self.now.heard) (λ n. has_number n c.args.self.now.lost) c.in-Some.who number (notice_numbered number (seen c.args.self.now.world).sites.mail) ≡ true)
    (λ number settled.
    settled_passed as_is (lost_in c.args.self.now) (seen c.args.self.now.world) c.in-Some.who c.args.session number c.requires.sound (sym c.running.ensures.running ∙ c.in-Some.is)
    (subst (λ (heard : ℕ → Bool). is_dealt_with heard (lost_in c.args.self.now) c.in-Some.who number (notice_numbered number (seen c.args.self.now.world).sites.mail) ≡ true)
    (fun_ext c.requires.heard) settled))
    0 c.in-Some-get_mut.inbox.now.items c.pass_settled.new.inbox.items c.args.self.now.sorted c.pass_settled.ensures
    (subst (λ numbers. HoldsBut (λ number. IsPassed (lost_in c.args.self.now) c.args.session number (seen c.args.self.now.world)) 0 numbers c.args.self.now.sorted) (ap numbers_in (there c))
    (c.requires.sorted c.args.session (slice_get_within c.args.self.now.inboxes.items c.args.session c.in-Some-get_mut.inbox.now (there c))))

pub returns-clause-none : goal.returns-clause-none
returns-clause-none c = λ k below.
    passed_not_due as_is (lost_in c.args.self.now) (seen c.args.self.now.world) c.requires.sound c.args.session (k + 1)
    (all_passed (λ number. IsPassed (lost_in c.args.self.now) c.args.session number (seen c.args.self.now.world)) c.pass_settled.new.inbox.items c.args.self.now.sorted (left c) k
    (subst (λ n. k < n) c.passed_by.ensures below))

pub returns-clause-goes : goal.returns-clause-goes
returns-clause-goes c =
    goes_by_pass c.args.self.now (record c.args.self.now { inboxes = with_item c.args.self.now.inboxes c.session.inside.0 c.pass_settled.new.inbox }) c.args.session refl
    (length-set c.args.self.now.inboxes.items c.session.inside.0 c.pass_settled.new.inbox)
    (λ s other. ap numbers_in (set_other c.args.self.now.inboxes.items c.session.inside.0 s c.pass_settled.new.inbox (λ same. other (same ∙ c.session.view_is))))
    (λ keeps within.
    subst (λ numbers. HoldsBut (λ number. IsPassed (lost_in c.args.self.now) c.args.session number (seen c.args.self.now.world)) 0 numbers c.args.self.now.sorted)
    (sym (ap (λ n. numbers_in (slice_get (with_item c.args.self.now.inboxes n c.pass_settled.new.inbox).items c.args.session)) c.session.view_is
    ∙ ap numbers_in (set_there c.args.self.now.inboxes.items c.args.session c.pass_settled.new.inbox within)))
    (left c))
