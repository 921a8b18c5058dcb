-- A schedule leads twins to twins.
use Rattle.std.proofs.Common.{◌≡◌, ℕ, ◌+◌, ◌<◌, ◌≤◌, ◌||◌, ◌⊎◌, inl, inr, if◌then◌else◌, Bool, true, false, List, length, take, refl, sym, ap, ◌∙◌, subst, arith}
use Rattle.std.proofs.lemmas.Bool.{cases_lt}
use Rattle.std.proofs.lemmas.Option.{none-some, same_Some}
use Rattle.rbd_kinds.specs.declared.operation_kind.OpKind.{OpKind}
use Rattle.rbd_machine.specs.Plan.{Standing}
use Rattle.rbd_script.specs.declared.script.Line.{Line}
use Rattle.rbd_script.specs.declared.script.Said.{Said}
use Rattle.rbd_script.specs.declared.script.Said.TheVariants as said
use Rattle.rbd_script.specs.declared.script.Script.{Script}
use Rattle.rbd_world.specs.declared.event.Event.{Event}
use Rattle.rbd_world.specs.declared.event.Event.TheVariants as event
use Rattle.rbd_world.specs.declared.event.Outcome.{Outcome}
use Rattle.rbd_world.specs.Step.{IsBuiltEvent, IsWorldStep}
use Rattle.rbd_world.specs.World.{WorldView}
use Rattle.rbd_schedule.specs.declared.given.Given.{Given}
use Rattle.rbd_schedule.specs.Deeds.{Deeds}
use Rattle.rbd_schedule.specs.Given.{commands_of, given_in, is_lost_by}
use Rattle.rbd_schedule.specs.Notices.{is_notice_due, runs}
use Rattle.rbd_schedule.specs.Schedule.{Calm, Comes, DeliversWhere, Happens, Pace, Plays, PlaysLine, PlaysScript, Polls, PollsAll, PollsBefore, PollsIn, PollsUntil, PollsWhere, Round, RoundsOn, Settles, Starts, StartsAll, Submits, SessionTurn, TurnOf, TurnWhere, WantsKind, closing_rounds, goes_on, is_held, most_idle, most_polls}
use Rattle.rbd_schedule.specs.Slots.{AreClientsCounted}
use Rattle.rbd_schedule.specs.Starts.{IsIdle, IsQuiet}
use Rattle.rbd_plays.proofs.ScheduleLooks.{LooksAlike}
use Rattle.rbd_plays.proofs.ScheduleLoops.{alike_behind, alike_behind_loops}

past_most : (most k m : ℕ) → k ≡ most → k < m → m ≤ most → ⊥
past_most most k m last less within = omega (arith, last, less, within)

past_few : (most a b : ℕ) → a ≡ b → a ≡ most → b < most → ⊥
past_few most a b same last few = omega (arith, same, last, few)

-- `Twins` are worlds that show a schedule the same. A step of both by the same event leads to such
-- again, with the same outcome, where it leaves clients that are counted.
module _ {R : Type 0} (stands : R → Standing) (Twins : (v w : WorldView R) → Type 0) (looks : (v w : WorldView R) → Twins v w → LooksAlike stands v w)
    (steps : (e : Event) (v w v' w' : WorldView R) (a b : Outcome) → IsBuiltEvent e → Twins v w → IsWorldStep stands e v a v' → IsWorldStep stands e w b w' → AreClientsCounted v' → AreClientsCounted w' → (a ≡ b) × Twins v' w') where
  -- a world in a round, and one between two
  record TwinPaces (p q : Pace R) : Type 0 where
    world : Twins p.world q.world
    went_on : p.went_on ≡ q.went_on

  record TwinCalms (c d : Calm R) : Type 0 where
    world : Twins c.world d.world
    idle : c.idle ≡ d.idle

  -- the slot of the one wants what that of the other wants
  wants_here : (session slot : ℕ) (kind : OpKind) (v w : WorldView R) → Twins v w → WantsKind stands session slot kind w → WantsKind stands session slot kind v
  wants_here session slot kind v w twins it = record { site = it.site; wants = (looks v w twins).kinds session slot ∙ it.wants }

  wants_there : (session slot : ℕ) (kind : OpKind) (v w : WorldView R) → Twins v w → WantsKind stands session slot kind v → WantsKind stands session slot kind w
  wants_there session slot kind v w twins it = record { site = it.site; wants = sym ((looks v w twins).kinds session slot) ∙ it.wants }

  module _ (given : (session : ℕ) → List Given) where
    -- ---- starts

    idle_here : (v w : WorldView R) → Twins v w → (session : ℕ) → IsIdle given w session → IsIdle given v session
    idle_here v w twins session idle = (looks v w twins).starts (given session) session ∙ idle

    idle_there : (v w : WorldView R) → Twins v w → (session : ℕ) → IsIdle given v session → IsIdle given w session
    idle_there v w twins session idle = sym ((looks v w twins).starts (given session) session) ∙ idle

    -- where none of a session may start, none of it does
    starts_not : (session : ℕ) (old new : WorldView R) → IsIdle given old session → Submits stands given session old new → ⊥
    starts_not session old new idle submits = none-some submits.command (sym idle ∙ submits.may)

    submitted_alike : (session : ℕ) (v w v' w' : WorldView R) → Twins v w → Submits stands given session v v' → Submits stands given session w w' → Twins v' w'
    submitted_alike session v w v' w' twins one other =
        let same : one.command ≡ other.command = same_Some one.command other.command (sym one.may ∙ (looks v w twins).starts (given session) session ∙ other.may) in
        (steps one.command.submission v w v' w' one.result other.result one.built twins one.step
        (subst (λ (c : Given). IsWorldStep stands c.submission w other.result w') (sym same) other.step) one.counted other.counted).1

    -- the command that starts next is of the same session
    started_alike : (k : ℕ) (v w v' w' : WorldView R) → Twins v w → Starts stands given v v' → Starts stands given w w' → Twins v' w'
    started_alike k v w v' w' twins one other = by (cases_lt one.session other.session) (cases_lt other.session one.session)
      where
        by : (one.session < other.session) ⊎ (other.session ≤ one.session) → (other.session < one.session) ⊎ (one.session ≤ other.session) → Twins v' w'
        by (inl less) past = absurd (starts_not one.session v v' (idle_here v w twins one.session (other.before one.session less)) one.submits)
        by (inr past) (inl less) = absurd (starts_not other.session w w' (idle_there v w twins other.session (one.before other.session less)) other.submits)
        by (inr past) (inr past') =
            let same : other.session ≡ one.session = omega (arith, past, past') in
            submitted_alike one.session v w v' w' twins one.submits (subst (λ session. Submits stands given session w w') same other.submits)

    all_started_alike : (v w v' w' : WorldView R) → Twins v w → StartsAll stands given v v' → StartsAll stands given w w' → Twins v' w'
    all_started_alike v w v' w' twins one other =
        alike_behind_loops Twins (λ k. Starts stands given) started_alike (λ count. Unit {0}) (λ count w. IsQuiet given w)
        (λ k m a b a' alike less may quiet starts. starts_not starts.session a a' (idle_here a b alike starts.session (quiet starts.session)) starts.submits)
        (λ k m a b b' alike less may quiet starts. starts_not starts.session b b' (idle_there a b alike starts.session (quiet starts.session)) starts.submits)
        one.count other.count v w v' w' twins tt tt one.starts other.starts one.quiet other.quiet

    -- ---- events

    come_alike : (e : Event) (a b : Outcome) (v w v' w' : WorldView R) → IsBuiltEvent e → Twins v w → Comes stands given e a v v' → Comes stands given e b w w' → (a ≡ b) × Twins v' w'
    come_alike e a b v w v' w' built twins one other =
        let it = steps e v w one.between other.between a b built twins one.step other.step one.counted other.counted in
        (it.0, all_started_alike one.between other.between v' w' it.1 one.starts other.starts)

    happened_alike : (e : Event) (v w v' w' : WorldView R) → IsBuiltEvent e → Twins v w → Happens stands given e v v' → Happens stands given e w w' → Twins v' w'
    happened_alike e v w v' w' built twins one other = (come_alike e one.result other.result v w v' w' built twins one.comes other.comes).1

    -- ---- polls

    polled_until_alike : (session slot : ℕ) (kind : OpKind) (v w v' w' : WorldView R) → Twins v w → PollsUntil stands given session slot kind v v' → PollsUntil stands given session slot kind w w' → Twins v' w'
    polled_until_alike session slot kind v w v' w' twins one other =
        alike_behind_loops Twins (λ k. PollsBefore stands given session slot kind) (λ k a b a' b' alike x y. happened_alike (event.Poll session slot) a b a' b' tt alike x.polls y.polls)
        (λ count. count ≤ most_polls) (λ count w. (count ≡ most_polls) ⊎ WantsKind stands session slot kind w)
        (λ k m a b a' alike less within ended polls. over k m a less within (λ wants. wants_here session slot kind a b alike wants) ended polls.not_yet)
        (λ k m a b b' alike less within ended polls. over k m b less within (λ wants. wants_there session slot kind a b alike wants) ended polls.not_yet)
        one.count other.count v w v' w' twins one.most other.most one.polls other.polls one.ends other.ends
      where
        over : (k m : ℕ) (here : WorldView R) {there : WorldView R} → k < m → m ≤ most_polls → (WantsKind stands session slot kind there → WantsKind stands session slot kind here)
            → (k ≡ most_polls) ⊎ WantsKind stands session slot kind there → (WantsKind stands session slot kind here → ⊥) → ⊥
        over k m here less within carried (inl last) not_yet = past_most most_polls k m last less within
        over k m here less within carried (inr wants) not_yet = not_yet (carried wants)

    polled_in_alike : (session slot : ℕ) (p q p' q' : Pace R) → TwinPaces p q → PollsIn stands given session slot p p' → PollsIn stands given session slot q q' → TwinPaces p' q'
    polled_in_alike session slot p q p' q' twins one other =
        let it = come_alike (event.Poll session slot) one.result other.result p.world q.world p'.world q'.world tt twins.world one.comes other.comes in
        record {
          world = it.1;
          went_on = one.pace ∙ ap (λ b. b || goes_on one.result) twins.went_on ∙ ap (λ result. q.went_on || goes_on result) it.0 ∙ sym other.pace;
        }

    polled_where_alike : (held : Bool) (session slot : ℕ) (p q p' q' : Pace R) → TwinPaces p q → PollsWhere stands given held session slot p p' → PollsWhere stands given held session slot q q' → TwinPaces p' q'
    polled_where_alike true session slot p q p' q' twins one other = polled_in_alike session slot p q p' q' twins one other
    polled_where_alike false session slot p q p' q' twins one other = subst (λ x. TwinPaces x q') (sym one) (subst (λ y. TwinPaces p y) (sym other) twins)

    all_polled_alike : (session : ℕ) (p q p' q' : Pace R) → TwinPaces p q → PollsAll stands given session p p' → PollsAll stands given session q q' → TwinPaces p' q'
    all_polled_alike session p q p' q' twins one other =
        let points = polled_in_alike session 0 p q one.point other.point twins one.slot_0 other.slot_0 in
        alike_behind TwinPaces (λ k. PollsWhere stands given (is_held session (k + 1) one.point.world) session (k + 1)) (λ k. PollsWhere stands given (is_held session (k + 1) other.point.world) session (k + 1))
        (λ k a b a' b' alike x y.
        polled_where_alike (is_held session (k + 1) one.point.world) session (k + 1) a b a' b' alike x
        (subst (λ held. PollsWhere stands given held session (k + 1) b b') (sym ((looks one.point.world other.point.world points.world).held session (k + 1))) y))
        64 one.point other.point p' q' points one.held other.held

    delivered_where_alike : (due : Bool) (number : ℕ) (v w v' w' : WorldView R) → Twins v w → DeliversWhere stands given due number v v' → DeliversWhere stands given due number w w' → Twins v' w'
    delivered_where_alike true number v w v' w' twins one other = happened_alike (event.Deliver number) v w v' w' tt twins one other
    delivered_where_alike false number v w v' w' twins one other = subst (λ x. Twins x w') (sym one) (subst (λ y. Twins v y) (sym other) twins)

    -- ---- rounds

    module _ (lost : (number : ℕ) → Bool) where
      turned_alike : (session : ℕ) (p q p' q' : Pace R) → TwinPaces p q → SessionTurn stands given lost session p p' → SessionTurn stands given lost session q q' → TwinPaces p' q'
      turned_alike session p q p' q' twins one other =
          all_polled_alike session (record { world = one.told; went_on = p.went_on }) (record { world = other.told; went_on = q.went_on }) p' q' (record { world = told; went_on = twins.went_on }) one.polls other.polls
        where
          told : Twins one.told other.told
          told =
              alike_behind Twins (λ k. DeliversWhere stands given (is_notice_due lost session (k + 1) p.world) (k + 1)) (λ k. DeliversWhere stands given (is_notice_due lost session (k + 1) q.world) (k + 1))
              (λ k a b a' b' alike x y.
              delivered_where_alike (is_notice_due lost session (k + 1) p.world) (k + 1) a b a' b' alike x
              (subst (λ due. DeliversWhere stands given due (k + 1) b b') (sym ((looks p.world q.world twins.world).due lost session (k + 1))) y))
              (length p.world.sites.mail) p.world q.world one.told other.told twins.world one.notices
              (subst (λ n. Deeds (λ k. DeliversWhere stands given (is_notice_due lost session (k + 1) q.world) (k + 1)) n q.world other.told) (sym (looks p.world q.world twins.world).mail) other.notices)

      turned_where_alike : (running : Bool) (session : ℕ) (p q p' q' : Pace R) → TwinPaces p q → TurnWhere stands given lost running session p p' → TurnWhere stands given lost running session q q' → TwinPaces p' q'
      turned_where_alike true session p q p' q' twins one other = turned_alike session p q p' q' twins one other
      turned_where_alike false session p q p' q' twins one other = subst (λ x. TwinPaces x q') (sym one) (subst (λ y. TwinPaces p y) (sym other) twins)

      round_alike : (sessions : ℕ) (on on' : Bool) (v w v' w' : WorldView R) → Twins v w → Round stands given lost sessions on v v' → Round stands given lost sessions on' w w' → (on ≡ on') × Twins v' w'
      round_alike sessions on on' v w v' w' twins one other =
          let it = alike_behind TwinPaces (TurnOf stands given lost) (TurnOf stands given lost)
          (λ session p q p' q' alike x y.
          turned_where_alike (runs session p.world) session p q p' q' alike x
          (subst (λ running. TurnWhere stands given lost running session q q') (sym ((looks p.world q.world alike.world).running session)) y))
          sessions (record { world = v; went_on = false }) (record { world = w; went_on = false }) (record { world = v'; went_on = on }) (record { world = w'; went_on = on' }) (record { world = twins; went_on = refl }) one other in
          (it.went_on, it.world)

      rounds_alike : (sessions k : ℕ) (c d c' d' : Calm R) → TwinCalms c d → RoundsOn stands given lost sessions c c' → RoundsOn stands given lost sessions d d' → TwinCalms c' d'
      rounds_alike sessions k c d c' d' twins one other =
          let it = round_alike sessions one.went_on other.went_on c.world d.world c'.world d'.world twins.world one.round other.round in
          record {
            world = it.1;
            idle = one.idle ∙ ap (λ on. if on then 0 else c.idle + 1) it.0 ∙ ap (λ n. if other.went_on then 0 else n + 1) twins.idle ∙ sym other.idle;
          }

      settled_alike : (sessions rounds : ℕ) (v w v' w' : WorldView R) → Twins v w → Settles stands given lost sessions rounds v v' → Settles stands given lost sessions rounds w w' → Twins v' w'
      settled_alike sessions rounds v w v' w' twins one other =
          (alike_behind_loops TwinCalms (λ k. RoundsOn stands given lost sessions) (rounds_alike sessions) (λ count. count ≤ rounds) (λ count c. (count ≡ rounds) ⊎ (c.idle ≡ most_idle))
          (λ k m c d c' alike less within ended on. over k m d.idle c.idle (sym alike.idle) less within ended on.few)
          (λ k m c d d' alike less within ended on. over k m c.idle d.idle alike.idle less within ended on.few)
          one.count other.count (record { world = v; idle = 0 }) (record { world = w; idle = 0 }) (record { world = v'; idle = one.idle }) (record { world = w'; idle = other.idle })
          (record { world = twins; idle = refl }) one.most other.most one.on other.on one.ends other.ends).world
        where
          over : (k m there here : ℕ) → there ≡ here → k < m → m ≤ rounds → (k ≡ rounds) ⊎ (there ≡ most_idle) → here < most_idle → ⊥
          over k m there here same less within (inl last) few = past_most rounds k m last less within
          over k m there here same less within (inr eight) few = past_few most_idle there here same eight few

      -- ---- lines

      line_alike : (sessions : ℕ) (s : Said) (v w v' w' : WorldView R) → Twins v w → Plays stands given lost sessions s v v' → Plays stands given lost sessions s w w' → Twins v' w'
      line_alike sessions (said.Command session beside command) v w v' w' twins one other = all_started_alike v w v' w' twins one other
      line_alike sessions (said.Poll session slot times) v w v' w' twins one other =
          alike_behind Twins (λ k. Polls stands given session slot) (λ k. Polls stands given session slot) (λ k a b a' b' alike x y. happened_alike (event.Poll session slot) a b a' b' tt alike x y) times v w v' w' twins one other
      line_alike sessions (said.Until session slot kind) v w v' w' twins one other = polled_until_alike session slot kind v w v' w' twins one other
      line_alike sessions (said.Settle rounds) v w v' w' twins one other = settled_alike sessions rounds v w v' w' twins one other
      line_alike sessions (said.Deliver number) v w v' w' twins one other = happened_alike (event.Deliver number) v w v' w' tt twins one other
      line_alike sessions (said.Lose number) v w v' w' twins one other = subst (λ x. Twins x w') (sym one) (subst (λ y. Twins v y) (sym other) twins)
      line_alike sessions (said.Expire session site image) v w v' w' twins one other = happened_alike (event.Expire session site image) v w v' w' tt twins one other
      line_alike sessions (said.Stop session) v w v' w' twins one other = happened_alike (event.Stop session) v w v' w' tt twins one other
      line_alike sessions (said.Restart session) v w v' w' twins one other = happened_alike (event.Restart session) v w v' w' tt twins one other
      line_alike sessions (said.Late session slot) v w v' w' twins one other = happened_alike (event.Late session slot) v w v' w' tt twins one other
      line_alike sessions (said.Trim site image object) v w v' w' twins one other = happened_alike (event.Trim site image object) v w v' w' tt twins one other

  -- ---- a script

  line_at_alike : (script : Script) (k : ℕ) (v w v' w' : WorldView R) → Twins v w → PlaysLine stands script k v v' → PlaysLine stands script k w w' → Twins v' w'
  line_at_alike script k v w v' w' twins one other =
      let same : one.line ≡ other.line = same_Some one.line other.line (sym one.is ∙ other.is) in
      line_alike (given_in (take (k + 1) script.lines)) (is_lost_by (take (k + 1) script.lines)) (length script.sessions) one.line.said v w v' w' twins one.plays
      (subst (λ (line : Line). Plays stands (given_in (take (k + 1) script.lines)) (is_lost_by (take (k + 1) script.lines)) (length script.sessions) line.said w w') (sym same) other.plays)

  pub played_alike : (script : Script) (v w v' w' : WorldView R) → Twins v w → PlaysScript stands script v v' → PlaysScript stands script w w' → Twins v' w'
  played_alike script v w v' w' twins one other =
      settled_alike (given_in script.lines) (is_lost_by script.lines) (length script.sessions) (closing_rounds (length (commands_of script.lines))) one.between other.between v' w'
      (alike_behind Twins (PlaysLine stands script) (PlaysLine stands script) (line_at_alike script) (length script.lines) v w one.between other.between twins one.lines other.lines)
      one.closing other.closing
