-- The runner goes on: one part after another.
use mathlib.Core.Path.{fun_ext}
use Rattle.std.proofs.Common.{◌≡◌, ◌≢◌, ℕ, zero, suc, ◌+◌, ◌++◌, drop, take, ◌<◌, ◌≤◌, ◌||◌, ◌&&◌, ◌∷◌, ◌⊎◌, inl, inr, not, cond, Bool, true, false, List, All, length, slice_set, slice_get, is_some, IfSome, length-set, get_or, option_map, arith, [], Option, Some, None, refl, sym, ap, ◌∙◌, subst}
use Rattle.std.proofs.lemmas.Bool.{and_parts, cases_eq, false≢true, or_left, or_parts}
use Rattle.std.proofs.lemmas.List.Elements.{All-get_or, All-head, All-nil, All-same, All-tail}
use Rattle.std.proofs.lemmas.Option.{IfSome_then, get_or_from_slice_get, none-some, same_Some, slice_get_past, slice_get_read, slice_get_within}
use Rattle.std.proofs.Math.Bool.{or-false}
use Rattle.rbd_flat.specs.declared.entry.Entry.{Entry}
use Rattle.rbd_kinds.specs.declared.id.Instance.{Instance}
use Rattle.rbd_kinds.specs.declared.notice.Notice.{Notice}
use Rattle.rbd_machine.specs.Plan.{Standing}
use Rattle.rbd_catalog.specs.declared.request.SessionRequest.{SessionRequest}
use Rattle.rbd_script.specs.declared.script.Said.{Said}
use Rattle.rbd_script.specs.declared.script.Said.TheVariants as said
use Rattle.rbd_slots.specs.Session.{held_in, script_line}
use Rattle.rbd_watch.specs.Posting.{notice_numbered}
use Rattle.rbd_client.specs.Seen.{as_is}
use Rattle.rbd_world.specs.Seen.{seen}
use Rattle.rbd_world.specs.declared.event.Event.{Event}
use Rattle.rbd_world.specs.declared.event.Event.TheVariants as event
use Rattle.rbd_world.specs.declared.event.Outcome.{Outcome}
use Rattle.rbd_world.specs.Sound.{IsNewWorld, IsSoundWorld, held_of}
use Rattle.rbd_world.specs.Step.{IsBuiltEvent, IsWorldStep, happening, is_begun}
use Rattle.rbd_world.specs.World.{LivesView, WorldView, client_in, free_in, lives_in, running_of, session_of_client}
use Rattle.rbd_schedule.specs.declared.given.Given.{Given}
use Rattle.rbd_schedule.specs.declared.queue.Queue.{Queue}
use Rattle.rbd_schedule.specs.declared.runner.Runner.{Runner}
use Rattle.rbd_schedule.specs.Notices.{delivers, is_heard, was_heard}
use Rattle.rbd_schedule.specs.Playing.{RunnerGoesOn, IsEmptyQueue, IsGivenCommand, IsNoStart, IsPassed, IsPlayedLine, IsQueue, IsQueueIn, KeepsUp, at_place, commands_in, given_to, has_line, has_mark, has_number, highest_after, may_start_beside, inbox_of, is_held_back, is_one_of, is_open, is_over, lets_start, lost_in, numbers_in, delivered_by, HoldsBut}
use Rattle.rbd_schedule.specs.Given.{given_by}
use Rattle.rbd_schedule.specs.Schedule.{Comes, Starts, StartsAll, Submits, is_held}
use Rattle.rbd_schedule.specs.Starts.{IsIdle, IsQuiet, earliest, is_ended, to_start}
use Rattle.rbd_schedule.proofs.Above.{event_above, submit_above, submit_most, submitted_then}
use Rattle.rbd_schedule.proofs.Earliest.{held_back}
use Rattle.rbd_schedule.proofs.Entries.{begun_stays, ended_by_step, ended_stays, start_is_earliest, starting_begins, submit_ends}
use Rattle.rbd_schedule.proofs.Keeping.{queue_in_stays, queue_more}
use Rattle.rbd_schedule.proofs.Left.{left_in, one_fewer, one_fewer_in}
use Rattle.rbd_schedule.proofs.Passing.{heard_then, others_passed, passed_more, passed_stays}
use Rattle.rbd_schedule.proofs.Queues.{commands_with, each_with, set_other, set_there}
use Rattle.rbd_schedule.proofs.Quiet.{line_held, quiet_event}
use Rattle.rbd_schedule.proofs.Slots.{world_counted}
use Rattle.rbd_schedule.proofs.Sorted.{but_listed, but_more, but_weaker}

told_delivers : (number : ℕ) (e : Event) → is_one_of number (delivered_by e) ≡ delivers number e
told_delivers number (event.Deliver other) = refl
told_delivers number _ = refl

pub goes_same : (old : Runner) → RunnerGoesOn old old
goes_same old = record { keeps = λ keeps. keeps; given = refl; queues = refl; lost = refl }

pub goes_then : (old between new : Runner) → RunnerGoesOn old between → RunnerGoesOn between new → RunnerGoesOn old new
goes_then old between new first second = record {
  keeps = λ keeps. second.keeps (first.keeps keeps);
  given = second.given ∙ first.given;
  queues = second.queues ∙ first.queues;
  lost = second.lost ∙ first.lost;
}

-- the world took a step, and what the runner keeps beside it is true of it again
goes_by_step : (e : Event) (old new : Runner) (result : Outcome) → IsWorldStep as_is e (seen old.world) result (seen new.world) → IsSoundWorld as_is (seen new.world)
    → new.queues ≡ old.queues → new.lost ≡ old.lost → new.sorted ≡ old.sorted → new.inboxes ≡ old.inboxes
    → (KeepsUp old → (line : ℕ) → has_line line new.over ≡ is_ended line (seen new.world).history)
    → (KeepsUp old → (number : ℕ) → has_mark number new.heard ≡ was_heard number (seen new.world).calls)
    → (KeepsUp old → new.is_due ≡ false → IsQuiet (given_to old) (seen new.world)) → (KeepsUp old → new.highest ≤ 64)
    → (KeepsUp old → (s slot : ℕ) → new.highest < slot → is_held s slot (seen new.world) ≡ false)
    → RunnerGoesOn old new
goes_by_step e old new result step sound queues lost sorted inboxes over heard quiet most above = record {
  keeps = λ keeps. record {
    sound = sound;
    quiet = λ due. subst (λ given. IsQuiet given (seen new.world)) (sym given) (quiet keeps due);
    most = most keeps;
    above = above keeps;
    few = subst (λ qs. length qs.items ≤ 32) (sym queues) keeps.few;
    queues = λ session q is.
        queue_in_stays (seen old.world).history (seen new.world).history session q (begun_stays as_is e (happening as_is e (seen old.world)) (seen old.world) (seen new.world) step.1)
        (ended_stays as_is e (happening as_is e (seen old.world)) (seen old.world) (seen new.world) step.1) (keeps.queues session q (ap (λ qs. slice_get qs.items session) (sym queues) ∙ is));
    over = over keeps;
    heard = heard keeps;
    sorted = λ session below.
        subst (λ (l : (number : ℕ) → Bool). HoldsBut (λ number. IsPassed l session number (seen new.world)) 0 (inbox_of new session) new.sorted) (sym same)
        (subst (λ n. HoldsBut (λ number. IsPassed (lost_in old) session number (seen new.world)) 0 (inbox_of new session) n) (sym sorted)
        (subst (λ bs. HoldsBut (λ number. IsPassed (lost_in old) session number (seen new.world)) 0 (numbers_in (slice_get bs.items session)) old.sorted) (sym inboxes)
        (but_weaker (λ number. IsPassed (lost_in old) session number (seen old.world)) (λ number. IsPassed (lost_in old) session number (seen new.world))
        (λ number. passed_stays as_is (lost_in old) e result (seen old.world) (seen new.world) step keeps.sound session number) 0 (inbox_of old session) old.sorted
        (keeps.sorted session (subst (λ bs. session < length bs.items) inboxes below)))));
  };
  given = given;
  queues = ap (λ qs. length qs.items) queues;
  lost = same;
}
  where
    given : given_to new ≡ given_to old
    given = fun_ext (λ session. ap (λ qs. commands_in (slice_get qs.items session)) queues)

    same : lost_in new ≡ lost_in old
    same = fun_ext (λ number. ap (has_number number) lost)

-- ---- an event that begins no command

goes_by_event : (e : Event) (old new : Runner) (result : Outcome) → IsNoStart e → IsWorldStep as_is e (seen old.world) result (seen new.world) → IsSoundWorld as_is (seen new.world)
    → new.queues ≡ old.queues → new.lost ≡ old.lost → new.sorted ≡ old.sorted → new.inboxes ≡ old.inboxes → new.highest ≡ old.highest
    → ((line : ℕ) → has_line line new.over ≡ (has_line line old.over || is_ended line (drop (length (seen old.world).history) (seen new.world).history)))
    → ((number : ℕ) → has_mark number new.heard ≡ (has_mark number old.heard || (is_one_of number (delivered_by e) && is_heard result)))
    → new.is_due ≡ (old.is_due || lets_start result) → RunnerGoesOn old new
goes_by_event e old new result plain step sound queues lost sorted inboxes highest over heard due =
    goes_by_step e old new result step sound queues lost sorted inboxes
    (λ keeps line. over line ∙ ap (λ b. b || is_ended line (drop (length (seen old.world).history) (seen new.world).history)) (keeps.over line)
    ∙ sym (ended_by_step as_is e (happening as_is e (seen old.world)) (seen old.world) (seen new.world) step.1 line))
    (λ keeps number. heard number ∙ ap (λ b. b || (is_one_of number (delivered_by e) && is_heard result)) (keeps.heard number)
    ∙ ap (λ b. was_heard number (seen old.world).calls || (b && is_heard result)) (told_delivers number e) ∙ sym (heard_then as_is e result (seen old.world) (seen new.world) step number))
    (λ keeps none.
    let parts = or_parts old.is_due (lets_start result) (sym due ∙ none) in
    quiet_event as_is (given_to old) e (seen old.world) result (seen new.world) plain step keeps.sound sound parts.1 (keeps.quiet parts.0))
    (λ keeps. subst (λ n. n ≤ 64) (sym highest) keeps.most)
    (λ keeps s slot more. event_above as_is e (seen old.world) result (seen new.world) plain keeps.sound step s slot (keeps.above s slot (subst (λ n. n < slot) highest more)))

-- its step, and then what was noted of it
pub goes_by_note : (e : Event) (old between new : Runner) (from : ℕ) (told : Option ℕ) (result : Outcome) → IsNoStart e → from ≡ length (seen old.world).history → told ≡ delivered_by e
    → IsWorldStep as_is e (seen old.world) result (seen between.world) → IsSoundWorld as_is (seen between.world) → between ≡ record old { world = between.world }
    → new ≡ record between { over = new.over; heard = new.heard; is_due = new.is_due }
    → ((line : ℕ) → has_line line new.over ≡ (has_line line between.over || is_ended line (drop from (seen between.world).history)))
    → ((number : ℕ) → has_mark number new.heard ≡ (has_mark number between.heard || (is_one_of number told && is_heard result)))
    → new.is_due ≡ (between.is_due || lets_start result) → RunnerGoesOn old new
goes_by_note e old between new from told result plain len is_told step sound first rest over heard due =
    subst (RunnerGoesOn old) (sym all)
    (goes_by_event e old (record old { world = between.world; over = new.over; heard = new.heard; is_due = new.is_due }) result plain step sound refl refl refl refl refl
    (λ line. over line ∙ ap (λ (r : Runner). has_line line r.over || is_ended line (drop from (seen between.world).history)) first
    ∙ ap (λ n. has_line line old.over || is_ended line (drop n (seen between.world).history)) len)
    (λ number. heard number ∙ ap (λ (r : Runner). has_mark number r.heard || (is_one_of number told && is_heard result)) first
    ∙ ap (λ t. has_mark number old.heard || (is_one_of number t && is_heard result)) is_told)
    (due ∙ ap (λ (r : Runner). r.is_due || lets_start result) first))
  where
    all : new ≡ record old { world = between.world; over = new.over; heard = new.heard; is_due = new.is_due }
    all = rest ∙ ap (λ (r : Runner). record r { over = new.over; heard = new.heard; is_due = new.is_due }) first

-- nothing may start, and so none is looked for
pub goes_quiet : (old : Runner) → IsQuiet (given_to old) (seen old.world) → RunnerGoesOn old (record old { is_due = false })
goes_quiet old quiet = record {
  keeps = λ keeps. record {
    sound = keeps.sound;
    quiet = λ due. quiet;
    most = keeps.most;
    above = keeps.above;
    few = keeps.few;
    queues = keeps.queues;
    over = keeps.over;
    heard = keeps.heard;
    sorted = keeps.sorted;
  };
  given = refl;
  queues = refl;
  lost = refl;
}

-- ---- the queue of a session

abbrev is_over_now : Runner → (line : ℕ) → Bool
is_over_now r line = is_ended line (seen r.world).history

abbrev noted_in : Runner → (line : ℕ) → Bool
noted_in r line = has_line line r.over

same_ends : (r : Runner) → KeepsUp r → is_over_now r ≡ noted_in r
same_ends r keeps = fun_ext (λ line. sym (keeps.over line))

pub kept_queue : (r : Runner) → KeepsUp r → (session : ℕ) (q : Queue) → slice_get r.queues.items session ≡ Some q
    → IsQueue (λ line. is_begun line (seen r.world).history) (λ line. has_line line r.over) q
kept_queue r keeps session q is = subst (λ a. IsQueue (λ line. is_begun line (seen r.world).history) a q) (same_ends r keeps) (keeps.queues session q is).queue

-- the place that a queue tells is that of the command that may start
pub place_found : (r : Runner) → KeepsUp r → (session : ℕ) (q : Queue) (result : Option ℕ) (slot : ℕ) → slice_get r.queues.items session ≡ Some q
    → free_in (client_in session (seen r.world).lives) ≡ Some slot
    → at_place q.commands.items result ≡ earliest (λ line. is_begun line (seen r.world).history) (λ line. has_line line r.over) true q.commands.items
    → at_place (given_to r session) result ≡ to_start (given_to r session) (seen r.world) session
place_found r keeps session q result slot is room found =
    ap (λ o. at_place (commands_in o) result) is ∙ found
    ∙ ap (λ a. earliest (λ line. is_begun line (seen r.world).history) a true q.commands.items) (sym (same_ends r keeps))
    ∙ ap (λ o. earliest (λ line. is_begun line (seen r.world).history) (λ line. is_ended line (seen r.world).history) true (commands_in o)) (sym is)
    ∙ ap (λ o. cond (is_some o) (earliest (λ line. is_begun line (seen r.world).history) (λ line. is_ended line (seen r.world).history) true (given_to r session)) None) (sym room)

pub within_given : (r : Runner) (session : ℕ) (q : Queue) (result : Option ℕ) → slice_get r.queues.items session ≡ Some q
    → IfSome result (λ place. place < length q.commands.items) → IfSome result (λ place. place < length (given_to r session))
within_given r session q result is within = IfSome_then result within (λ place below. subst (λ o. place < length (commands_in o)) (sym is) below)

-- a queue looked, and goes on from there
pub goes_by_look : (old new : Runner) → KeepsUp old → (session : ℕ) (q q' : Queue) → slice_get old.queues.items session ≡ Some q
    → new ≡ record old { queues = new.queues } → new.queues.items ≡ slice_set old.queues.items session q' → q'.commands ≡ q.commands
    → IsQueue (λ line. is_begun line (seen old.world).history) (λ line. has_line line old.over) q' → RunnerGoesOn old new
goes_by_look old new has session q q' is rest items commands queue =
    subst (RunnerGoesOn old) (sym rest) (record {
      keeps = λ keeps.
          let q_is : IsQueueIn (seen old.world).history session q' = record {
            queue = subst (λ a. IsQueue (λ line. is_begun line (seen old.world).history) a q') (sym (same_ends old has)) queue;
            given = subst (λ cs. All (IsGivenCommand session) cs.items) (sym commands) (keeps.queues session q is).given;
          } in
          let all : (s : ℕ) (x : Queue) → slice_get (slice_set old.queues.items session q') s ≡ Some x → IsQueueIn (seen old.world).history s x
          = each_with (λ s x. IsQueueIn (seen old.world).history s x) old.queues.items session q' (slice_get_within old.queues.items session q is) keeps.queues q_is in
          record {
            sound = keeps.sound;
            quiet = λ none. subst (λ given. IsQuiet given (seen old.world)) (sym same) (keeps.quiet none);
            most = keeps.most;
            above = keeps.above;
            few = subst (λ n. n ≤ 32) (sym (ap length items ∙ length-set old.queues.items session q')) keeps.few;
            queues = λ s x found. all s x (ap (λ qs. slice_get qs s) (sym items) ∙ found);
            over = keeps.over;
            heard = keeps.heard;
            sorted = keeps.sorted;
          };
      given = same;
      queues = ap length items ∙ length-set old.queues.items session q';
      lost = refl;
    })
  where
    same : given_to new ≡ given_to old
    same = fun_ext (λ s. ap (λ qs. commands_in (slice_get qs s)) items
        ∙ commands_with old.queues.items session q' (slice_get_within old.queues.items session q is) (ap (λ cs. cs.items) commands ∙ sym (ap commands_in is)) s)

-- ---- the notices that are sorted

-- other inboxes, and more or fewer notices in them
pub goes_by_boxes : (old new : Runner) → new ≡ record old { sorted = new.sorted; inboxes = new.inboxes }
    → (KeepsUp old → (session : ℕ) → session < length new.inboxes.items → HoldsBut (λ number. IsPassed (lost_in old) session number (seen old.world)) 0 (inbox_of new session) new.sorted) → RunnerGoesOn old new
goes_by_boxes old new rest sorted =
    subst (RunnerGoesOn old) (sym rest) (record {
      keeps = λ keeps. record {
        sound = keeps.sound;
        quiet = keeps.quiet;
        most = keeps.most;
        above = keeps.above;
        few = keeps.few;
        queues = keeps.queues;
        over = keeps.over;
        heard = keeps.heard;
        sorted = sorted keeps;
      };
      given = refl;
      queues = refl;
      lost = refl;
    })

-- an inbox lost some first ones, that its session is past
pub goes_by_pass : (old new : Runner) (session : ℕ) → new ≡ record old { inboxes = new.inboxes } → length new.inboxes.items ≡ length old.inboxes.items
    → ((s : ℕ) → s ≢ session → inbox_of new s ≡ inbox_of old s)
    → (KeepsUp old → session < length old.inboxes.items → HoldsBut (λ number. IsPassed (lost_in old) session number (seen old.world)) 0 (inbox_of new session) old.sorted) → RunnerGoesOn old new
goes_by_pass old new session rest count others here =
    goes_by_boxes old new (rest ∙ ap (λ n. record old { sorted = n; inboxes = new.inboxes }) (sym same)) (λ keeps s below.
    subst (λ n. HoldsBut (λ number. IsPassed (lost_in old) s number (seen old.world)) 0 (inbox_of new s) n) (sym same) (by keeps s (cases_eq s session) (subst (λ n. s < n) count below)))
  where
    same : new.sorted ≡ old.sorted
    same = ap (λ (r : Runner). r.sorted) rest

    by : KeepsUp old → (s : ℕ) → (s ≡ session) ⊎ (s ≡ session → ⊥) → s < length old.inboxes.items → HoldsBut (λ number. IsPassed (lost_in old) s number (seen old.world)) 0 (inbox_of new s) old.sorted
    by keeps s (inl at) below =
        subst (λ n. HoldsBut (λ number. IsPassed (lost_in old) n number (seen old.world)) 0 (inbox_of new n) old.sorted) (sym at) (here keeps (subst (λ n. n < length old.inboxes.items) at below))
    by keeps s (inr other) below =
        subst (λ numbers. HoldsBut (λ number. IsPassed (lost_in old) s number (seen old.world)) 0 numbers old.sorted) (sym (others s other)) (keeps.sorted s below)

-- one more notice is sorted into the inbox of its session
pub goes_by_put : (old new : Runner) (to : Instance) → new ≡ record old { sorted = new.sorted; inboxes = new.inboxes } → new.sorted ≡ old.sorted + 1
    → option_map (λ (n : Notice). n.to) (notice_numbered (old.sorted + 1) (seen old.world).sites.mail) ≡ Some to → length new.inboxes.items ≡ length old.inboxes.items
    → (to.session < length old.inboxes.items → inbox_of new to.session ≡ inbox_of old to.session ++ (old.sorted + 1) ∷ [])
    → ((s : ℕ) → s ≢ to.session → inbox_of new s ≡ inbox_of old s) → RunnerGoesOn old new
goes_by_put old new to rest sorted told count here others =
    goes_by_boxes old new rest (λ keeps s below.
    subst (λ n. HoldsBut (λ number. IsPassed (lost_in old) s number (seen old.world)) 0 (inbox_of new s) n) (sym sorted) (by keeps s (cases_eq s to.session) (subst (λ n. s < n) count below)))
  where
    by : KeepsUp old → (s : ℕ) → (s ≡ to.session) ⊎ (s ≡ to.session → ⊥) → s < length old.inboxes.items → HoldsBut (λ number. IsPassed (lost_in old) s number (seen old.world)) 0 (inbox_of new s) (old.sorted + 1)
    by keeps s (inl at) below =
        subst (λ numbers. HoldsBut (λ number. IsPassed (lost_in old) s number (seen old.world)) 0 numbers (old.sorted + 1))
        (sym (ap (inbox_of new) at ∙ here (subst (λ n. n < length old.inboxes.items) at below) ∙ ap (λ n. inbox_of old n ++ (old.sorted + 1) ∷ []) (sym at)))
        (but_listed (λ number. IsPassed (lost_in old) s number (seen old.world)) 0 (inbox_of old s) old.sorted (keeps.sorted s below))
    by keeps s (inr other) below =
        subst (λ numbers. HoldsBut (λ number. IsPassed (lost_in old) s number (seen old.world)) 0 numbers (old.sorted + 1)) (sym (others s other))
        (but_more (λ number. IsPassed (lost_in old) s number (seen old.world)) 0 (inbox_of old s) old.sorted (keeps.sorted s below)
        (others_passed as_is (lost_in old) (seen old.world) keeps.sound s (old.sorted + 1) to told other))

-- ---- a command of a queue

pub given_there : (r : Runner) → KeepsUp r → (session place : ℕ) (c : Given) → slice_get (given_to r session) place ≡ Some c → IsGivenCommand session c
given_there r keeps session place c is = by (slice_get r.queues.items session) refl is
  where
    by : (o : Option Queue) → slice_get r.queues.items session ≡ o → slice_get (commands_in o) place ≡ Some c → IsGivenCommand session c
    by None e is = absurd (none-some c is)
    by (Some q) e is =
        subst (IsGivenCommand session) (get_or_from_slice_get q.commands.items place c c is)
        (All-get_or (IsGivenCommand session) q.commands.items place c (slice_get_within q.commands.items place c is) (keeps.queues session q e).given)

-- it is one that is built
pub built_there : (r : Runner) → KeepsUp r → (session place : ℕ) (c : Given) → slice_get (given_to r session) place ≡ Some c → IsBuiltEvent c.submission
built_there r keeps session place c is = let it = given_there r keeps session place c is in subst IsBuiltEvent (sym it.submission) it.built

-- it is submitted
pub goes_by_start : (session place : ℕ) (c : Given) (old : Runner) (w : WorldView SessionRequest) (highest : ℕ) (result : Outcome) → KeepsUp old
    → slice_get (given_to old session) place ≡ Some c → to_start (given_to old session) (seen old.world) session ≡ slice_get (given_to old session) place
    → IsWorldStep as_is c.submission (seen old.world) result (seen w) → IsSoundWorld as_is (seen w) → highest ≡ highest_after old.highest result → RunnerGoesOn old (record old { world = w; highest = highest })
goes_by_start session place c old w highest result has is may step sound high =
    let it = given_there old has session place c is in
    let step' : IsWorldStep as_is (event.Submit session c.line it.command) (seen old.world) result (seen w) = subst (λ e. IsWorldStep as_is e (seen old.world) result (seen w)) it.submission step in
    goes_by_step (event.Submit session c.line it.command) old (record old { world = w; highest = highest }) result step' sound refl refl refl refl
    (λ keeps line. keeps.over line ∙ sym (submit_ends as_is session c.line it.command (seen old.world) result (seen w) step' line))
    (λ keeps number. keeps.heard number ∙ sym (heard_then as_is (event.Submit session c.line it.command) result (seen old.world) (seen w) step' number ∙ or-false (was_heard number (seen old.world).calls)))
    (λ keeps due. absurd (none-some c (sym (keeps.quiet due session) ∙ may ∙ is)))
    (λ keeps. subst (λ n. n ≤ 64) (sym high) (submit_most as_is session c.line it.command (seen old.world) result (seen w) old.highest step' keeps.most))
    (λ keeps s slot more. submit_above as_is session c.line it.command (seen old.world) result (seen w) old.highest step' keeps.above s slot (subst (λ n. n < slot) high more))

-- a session that isn't there has no command that may start
none_starts : {R : Type 0} (w : WorldView R) (session : ℕ) → to_start [] w session ≡ None
none_starts w session = by (is_some (free_in (client_in session w.lives)))
  where
    by : (b : Bool) → ◌≡◌ {A = Option Given} (cond b None None) None
    by true = refl
    by false = refl

-- what stands at a place of the commands of a session
pub command_at : (r : Runner) (session place : ℕ) (q : Queue) (c : Given) → place < length (given_to r session) → q ≡ get_or r.queues.items session q → c ≡ get_or q.commands.items place c
    → slice_get (given_to r session) place ≡ Some c
command_at r session place q c below queue command = by (slice_get r.queues.items session) refl below
  where
    by : (o : Option Queue) → slice_get r.queues.items session ≡ o → place < length (commands_in o) → slice_get (commands_in o) place ≡ Some c
    by None e below = absurd (omega (arith, below))
    by (Some x) e below =
        let same : x ≡ q = sym (get_or_from_slice_get r.queues.items session x q e) ∙ sym queue in
        subst (λ (y : Queue). slice_get y.commands.items place ≡ Some c) (sym same)
        (slice_get_read q.commands.items (length q.commands.items) place c refl (subst (λ (y : Queue). place < length y.commands.items) same below) command)

pub nobody_starts : {R : Type 0} (r : Runner) (w : WorldView R) (session : ℕ) → length r.queues.items ≤ session → to_start (given_to r session) w session ≡ None
nobody_starts r w session past =
    ap (λ o. to_start (commands_in o) w session) (slice_get_past r.queues.items session past) ∙ none_starts w session

-- a command that may start is one that its session was given
pub earliest_is_given : (P : Given → Type 0) (b a : (line : ℕ) → Bool) (before : Bool) (given : List Given) (c : Given) → All P given → earliest b a before given ≡ Some c → P c
earliest_is_given P b a before [] c all is = absurd (none-some c is)
earliest_is_given P b a before (x ∷ given) c all is =
    by (not (b x.line) && (x.beside || before)) (earliest_is_given P b a (before && a x.line) given c (All-tail P x given all)) (All-head P x given all) is
  where
    by : (q : Bool) → (earliest b a (before && a x.line) given ≡ Some c → P c) → P x → cond q (Some x) (earliest b a (before && a x.line) given) ≡ Some c → P c
    by true rest it is = subst P (same_Some x c is) it
    by false rest it is = rest is

start_is_given : (r : Runner) → KeepsUp r → (session : ℕ) (c : Given)
    → earliest (λ line. is_begun line (seen r.world).history) (λ line. is_ended line (seen r.world).history) true (given_to r session) ≡ Some c → (session < length r.queues.items) × IsGivenCommand session c
start_is_given r has session c is = by (slice_get r.queues.items session) refl is
  where
    by : (o : Option Queue) → slice_get r.queues.items session ≡ o → earliest (λ line. is_begun line (seen r.world).history) (λ line. is_ended line (seen r.world).history) true (commands_in o) ≡ Some c
        → (session < length r.queues.items) × IsGivenCommand session c
    by None e is = absurd (none-some c is)
    by (Some q) e is = (
      slice_get_within r.queues.items session q e,
      earliest_is_given (IsGivenCommand session) (λ line. is_begun line (seen r.world).history) (λ line. is_ended line (seen r.world).history) true q.commands.items c (has.queues session q e).given is,
    )

-- a command that is started is one fewer that is left
pub starts_one : (r : Runner) → KeepsUp r → (new : WorldView Standing) → Starts as_is (given_to r) (seen r.world) new
    → left_in (λ line. is_begun line new.history) (given_to r) (length r.queues.items) < left_in (λ line. is_begun line (seen r.world).history) (given_to r) (length r.queues.items)
starts_one r has new starts =
    let c = starts.submits.command in
    let found = start_is_earliest (given_to r starts.session) (seen r.world) starts.session c starts.submits.may in
    let it = start_is_given r has starts.session c found in
    let begun = starting_begins as_is (given_to r starts.session) starts.session c it.1.command (seen r.world) starts.submits.result new starts.submits.may
    (subst (λ e. IsWorldStep as_is e (seen r.world) starts.submits.result new) it.1.submission starts.submits.step) in
    let later = begun_stays as_is c.submission (happening as_is c.submission (seen r.world)) (seen r.world) new starts.submits.step.1 in
    one_fewer_in (λ line. is_begun line (seen r.world).history) (λ line. is_begun line new.history) later (given_to r) (length r.queues.items) starts.session it.0
    (one_fewer (λ line. is_begun line (seen r.world).history) (λ line. is_begun line new.history) later (λ line. is_ended line (seen r.world).history) true (given_to r starts.session) c found begun.1)

-- where more were begun none may start that might not
none_sooner : (b b' a : (line : ℕ) → Bool) → ((line : ℕ) → b line ≡ true → b' line ≡ true) → (before : Bool) (given : List Given) → earliest b a before given ≡ None → earliest b' a before given ≡ None
none_sooner b b' a later before [] none = refl
none_sooner b b' a later before (c ∷ given) none =
    by (b c.line) (b' c.line) (later c.line) (c.beside || before) (none_sooner b b' a later (before && a c.line) given) none
  where
    by : (p p' : Bool) → (p ≡ true → p' ≡ true) → (q : Bool) → (earliest b a (before && a c.line) given ≡ None → earliest b' a (before && a c.line) given ≡ None)
        → cond (not p && q) (Some c) (earliest b a (before && a c.line) given) ≡ None → cond (not p' && q) (Some c) (earliest b' a (before && a c.line) given) ≡ None
    by true true goes q rest is = rest is
    by true false goes q rest is = absurd (false≢true (goes refl))
    by false p' goes true rest is = absurd (none-some c (sym is))
    by false true goes false rest is = rest is
    by false false goes false rest is = rest is

-- a start lets no command of another session start
pub others_idle : (r : Runner) → KeepsUp r → (w : WorldView Standing) (session other : ℕ) → Submits as_is (given_to r) session (seen r.world) w → (other ≡ session → ⊥)
    → IsIdle (given_to r) (seen r.world) other → IsIdle (given_to r) w other
others_idle r keeps w session other submits away idle =
    ap (λ o. cond (is_some (free_in o)) (earliest (λ line. is_begun line w.history) (λ line. is_ended line w.history) true (given_to r other)) None) client
    ∙ ap (λ a. cond (is_some (free_in (client_in other (seen r.world).lives))) (earliest (λ line. is_begun line w.history) a true (given_to r other)) None)
    (fun_ext (λ line. submit_ends as_is session submits.command.line it.1.command (seen r.world) submits.result w step line))
    ∙ by (is_some (free_in (client_in other (seen r.world).lives))) idle
  where
    it : (session < length r.queues.items) × IsGivenCommand session submits.command
    it = start_is_given r keeps session submits.command (start_is_earliest (given_to r session) (seen r.world) session submits.command submits.may)

    step : IsWorldStep as_is (event.Submit session submits.command.line it.1.command) (seen r.world) submits.result w
    step = subst (λ e. IsWorldStep as_is e (seen r.world) submits.result w) it.1.submission submits.step

    client : client_in other w.lives ≡ client_in other (seen r.world).lives
    client = same (submitted_then as_is session submits.command.line it.1.command (seen r.world) w submits.result step other)
      where
        same : {B : Type 0} → (client_in other w.lives ≡ client_in other (seen r.world).lives) ⊎ ((other ≡ session) × B) → client_in other w.lives ≡ client_in other (seen r.world).lives
        same (inl is) = is
        same (inr (at, becomes)) = absurd (away at)

    by : (q : Bool) → cond q (earliest (λ line. is_begun line (seen r.world).history) (λ line. is_ended line (seen r.world).history) true (given_to r other)) None ≡ None
        → cond q (earliest (λ line. is_begun line w.history) (λ line. is_ended line (seen r.world).history) true (given_to r other)) None ≡ None
    by true none =
        none_sooner (λ line. is_begun line (seen r.world).history) (λ line. is_begun line w.history) (λ line. is_ended line (seen r.world).history)
        (begun_stays as_is submits.command.submission (happening as_is submits.command.submission (seen r.world)) (seen r.world) w submits.step.1) true (given_to r other) none
    by false none = refl

pub left_again : (old new : Runner) → RunnerGoesOn old new
    → left_in (λ line. is_begun line (seen new.world).history) (given_to old) (length old.queues.items) < left_in (λ line. is_begun line (seen old.world).history) (given_to old) (length old.queues.items)
    → left_in (λ line. is_begun line (seen new.world).history) (given_to new) (length new.queues.items) < left_in (λ line. is_begun line (seen old.world).history) (given_to old) (length old.queues.items)
left_again old new goes less =
    subst (λ n. left_in (λ line. is_begun line (seen new.world).history) (given_to new) n < left_in (λ line. is_begun line (seen old.world).history) (given_to old) (length old.queues.items)) (sym goes.queues)
    (subst (λ given. left_in (λ line. is_begun line (seen new.world).history) given (length old.queues.items) < left_in (λ line. is_begun line (seen old.world).history) (given_to old) (length old.queues.items)) (sym goes.given) less)

-- an event, and then all that may start
pub comes_then : {R : Type 0} (stands : R → Standing) (e : Event) (result : Outcome) (old between new : WorldView R) (given given' : (session : ℕ) → List Given) → given' ≡ given
    → IsWorldStep stands e old result between → IsSoundWorld stands between → StartsAll stands given' between new → Comes stands given e result old new
comes_then stands e result old between new given given' same step sound starts =
    record { between = between; step = step; counted = world_counted stands between sound; starts = subst (λ h. StartsAll stands h between new) same starts }

-- ---- a command that a line gives

not_given : (c : Given) → c ∷ [] ≡ [] → ⊥
not_given c is = let one = ap length is in absurd (omega (arith, one))

queue_new : (history : List Entry) (s : ℕ) (q : Queue) → IsEmptyQueue q → IsQueueIn history s q
queue_new history s q is = record {
  queue = record {
    front = let front = is.front in omega (arith, front);
    over = none_in (λ c. is_over (λ line. is_begun line history) (λ line. is_ended line history) c ≡ true) (take q.front q.commands.items) (take_none q.front q.commands.items is.commands);
    next = let next = is.next in omega (arith, next);
    passed = none_in (λ c. may_start_beside (λ line. is_begun line history) c ≡ false) (take q.next q.commands.items) (take_none q.next q.commands.items is.commands);
  };
  given = none_in (IsGivenCommand s) q.commands.items is.commands;
}
  where
    take_none : (n : ℕ) (xs : List Given) → xs ≡ [] → take n xs ≡ []
    take_none zero [] none = refl
    take_none (suc n) [] none = refl
    take_none zero (x ∷ xs) none = refl
    take_none (suc n) (x ∷ xs) none = let one = ap length none in absurd (omega (arith, one))

    none_in : (P : Given → Type 0) (xs : List Given) → xs ≡ [] → All P xs
    none_in P xs none = All-same P xs [] none (All-nil P)

pub one_given : (number : ℕ) (s : Said) (c : Given) → c ∷ [] ≡ given_by number s → IsPlayedLine s → IsGivenCommand c.session c
one_given number (said.Command session beside command) c is played =
    let same : c ≡ record { session = session; line = number; beside = beside; submission = event.Submit session number command } = ap (λ (xs : List Given). get_or xs 0 c) is in
    subst (λ (x : Given). IsGivenCommand x.session x) (sym same) (record { mine = refl; command = command; submission = refl; built = played })
one_given number (said.Poll session slot times) c is played = absurd (not_given c is)
one_given number (said.Until session slot kind) c is played = absurd (not_given c is)
one_given number (said.Settle rounds) c is played = absurd (not_given c is)
one_given number (said.Deliver n) c is played = absurd (not_given c is)
one_given number (said.Lose n) c is played = absurd (not_given c is)
one_given number (said.Expire session site image) c is played = absurd (not_given c is)
one_given number (said.Stop session) c is played = absurd (not_given c is)
one_given number (said.Restart session) c is played = absurd (not_given c is)
one_given number (said.Late session slot) c is played = absurd (not_given c is)
one_given number (said.Trim site image object) c is played = absurd (not_given c is)

was_not : (p : Bool) → not p ≡ true → p ≡ false
was_not true is = absurd (false≢true is)
was_not false is = refl

was_held : (p : Bool) → not p ≡ false → p ≡ true
was_held true is = refl
was_held false is = absurd (false≢true (sym is))

-- one that waits for an open one before it doesn't start
held_then : {R : Type 0} (w : WorldView R) (session : ℕ) (given : List Given) (c : Given) (place : ℕ) → is_held_back (λ line. is_ended line w.history) place given c ≡ true
    → to_start given w session ≡ None → to_start (given ++ c ∷ []) w session ≡ None
held_then w session given c place held none = by (is_some (free_in (client_in session w.lives))) none
  where
    parts : (not c.beside ≡ true) × (is_open (λ line. is_ended line w.history) (slice_get given place) ≡ true)
    parts = and_parts (not c.beside) (is_open (λ line. is_ended line w.history) (slice_get given place)) held

    by : (q : Bool) → cond q (earliest (λ line. is_begun line w.history) (λ line. is_ended line w.history) true given) None ≡ None
        → cond q (earliest (λ line. is_begun line w.history) (λ line. is_ended line w.history) true (given ++ c ∷ [])) None ≡ None
    by true is = held_back (λ line. is_begun line w.history) (λ line. is_ended line w.history) true given c place (was_not c.beside parts.0) parts.1 is
    by false is = refl

-- a session has it behind the others
pub keeps_more : (old new : Runner) (c : Given) (q q' : Queue) → KeepsUp old → slice_get old.queues.items c.session ≡ Some q
    → new ≡ record old { queues = new.queues; is_due = new.is_due } → new.queues.items ≡ slice_set old.queues.items c.session q'
    → new.is_due ≡ (old.is_due || not (is_held_back (λ line. has_line line old.over) q.front q.commands.items c))
    → q'.commands.items ≡ q.commands.items ++ c ∷ [] → q'.front ≡ q.front → q'.next ≡ q.next → IsGivenCommand c.session c → KeepsUp new
keeps_more old new c q q' keeps is rest items due commands front next given =
    let it = queue_more (seen old.world).history c.session q q' c (keeps.queues c.session q is) commands front next given in
    let all : (s : ℕ) (x : Queue) → slice_get (slice_set old.queues.items c.session q') s ≡ Some x → IsQueueIn (seen old.world).history s x
    = each_with (λ s x. IsQueueIn (seen old.world).history s x) old.queues.items c.session q' (slice_get_within old.queues.items c.session q is) keeps.queues it in
    subst (KeepsUp) (sym rest) (record {
      sound = keeps.sound;
      quiet = λ none session. quiet none session (cases_eq session c.session);
      most = keeps.most;
      above = keeps.above;
      few = subst (λ n. n ≤ 32) (sym (ap length items ∙ length-set old.queues.items c.session q')) keeps.few;
      queues = λ s x found. all s x (ap (λ qs. slice_get qs s) (sym items) ∙ found);
      over = keeps.over;
      heard = keeps.heard;
      sorted = keeps.sorted;
    })
  where
    quiet : new.is_due ≡ false → (session : ℕ) → (session ≡ c.session) ⊎ (session ≡ c.session → ⊥) → to_start (given_to new session) (seen old.world) session ≡ None
    quiet none session (inl same) =
        let parts = or_parts old.is_due (not (is_held_back (λ line. has_line line old.over) q.front q.commands.items c)) (sym due ∙ none) in
        let held : is_held_back (λ line. is_ended line (seen old.world).history) q.front q.commands.items c ≡ true
        = ap (λ a. is_held_back a q.front q.commands.items c) (same_ends old keeps) ∙ was_held (is_held_back (λ line. has_line line old.over) q.front q.commands.items c) parts.1 in
        ap (λ given. to_start given (seen old.world) session)
        (ap (λ qs. commands_in (slice_get qs session)) items ∙ ap (λ n. commands_in (slice_get (slice_set old.queues.items c.session q') n)) same
        ∙ ap commands_in (set_there old.queues.items c.session q' (slice_get_within old.queues.items c.session q is)) ∙ commands)
        ∙ held_then (seen old.world) session q.commands.items c q.front held
        (ap (λ given. to_start given (seen old.world) session) (sym (ap (λ n. commands_in (slice_get old.queues.items n)) same ∙ ap commands_in is)) ∙ keeps.quiet parts.0 session)
    quiet none session (inr other) =
        let parts = or_parts old.is_due (not (is_held_back (λ line. has_line line old.over) q.front q.commands.items c)) (sym due ∙ none) in
        ap (λ given. to_start given (seen old.world) session)
        (ap (λ qs. commands_in (slice_get qs session)) items ∙ ap commands_in (set_other old.queues.items c.session session q' other))
        ∙ keeps.quiet parts.0 session

-- one more notice is lost
pub keeps_lost : (old new : Runner) (more : (number : ℕ) → Bool) → KeepsUp old → new ≡ record old { lost = new.lost }
    → ((number : ℕ) → lost_in new number ≡ (lost_in old number || more number)) → KeepsUp new
keeps_lost old new more keeps rest lost =
    subst (KeepsUp) (sym rest) (record {
      sound = keeps.sound;
      quiet = keeps.quiet;
      most = keeps.most;
      above = keeps.above;
      few = keeps.few;
      queues = keeps.queues;
      over = keeps.over;
      heard = keeps.heard;
      sorted = λ session below.
          but_weaker (λ number. IsPassed (lost_in old) session number (seen old.world)) (λ number. IsPassed (lost_in new) session number (seen old.world))
          (λ number. passed_more as_is (lost_in old) (lost_in new) (seen old.world) session number (λ n is. lost n ∙ or_left (lost_in old n) (more n) is)) 0 (inbox_of old session) old.sorted
          (keeps.sorted session below);
    })

pub given_none : (r : Runner) → All IsEmptyQueue r.queues.items → (s : ℕ) → given_to r s ≡ []
given_none r empty s = by (slice_get r.queues.items s) refl
  where
    by : (o : Option Queue) → slice_get r.queues.items s ≡ o → commands_in o ≡ []
    by None e = refl
    by (Some q) e = (subst IsEmptyQueue (get_or_from_slice_get r.queues.items s q q e) (All-get_or IsEmptyQueue r.queues.items s q (slice_get_within r.queues.items s q e) empty)).commands

-- a new runner
pub keeps_new : (r : Runner) → IsSoundWorld as_is (seen r.world) → length r.queues.items ≤ 32 → All IsEmptyQueue r.queues.items → IsNewWorld (seen r.world)
    → ((line : ℕ) → has_line line r.over ≡ false) → ((number : ℕ) → has_mark number r.heard ≡ false) → r.highest ≡ 0 → r.sorted ≡ 0 → ((session : ℕ) → inbox_of r session ≡ []) → KeepsUp r
keeps_new r sound few empty new over heard highest sorted inboxes = record {
  sound = sound;
  quiet = λ due session. ap (λ given. to_start given (seen r.world) session) (given_none r empty session) ∙ none_starts (seen r.world) session;
  most = omega (arith, highest);
  above = λ session slot more. nobody session (lives_in session (seen r.world).lives) refl slot;
  few = few;
  queues = λ s q is. queue_new (seen r.world).history s q (subst IsEmptyQueue (get_or_from_slice_get r.queues.items s q q is) (All-get_or IsEmptyQueue r.queues.items s q (slice_get_within r.queues.items s q is) empty));
  over = λ line. over line ∙ sym (ap (is_ended line) new.history);
  heard = λ number. heard number ∙ sym (ap (was_heard number) new.calls);
  sorted = λ session below.
      subst (λ numbers. HoldsBut (λ number. IsPassed (lost_in r) session number (seen r.world)) 0 numbers r.sorted) (sym (inboxes session))
      (omega arith, (λ k least most. absurd (omega (arith, most, sorted))));
}
  where
    nobody : (session : ℕ) (l : Option (LivesView Standing)) → lives_in session (seen r.world).lives ≡ l → (slot : ℕ) → is_some (script_line (held_of slot (session_of_client (running_of l)))) ≡ false
    nobody session None is slot = refl
    nobody session (Some l) is slot =
        let first = new.lives session l is in
        ap (λ o. is_some (script_line (held_of slot (session_of_client o)))) first.runs ∙ line_held (held_in slot first.client.session.slots) ∙ ap is_some (first.fresh.slots slot)
