-- The turn of a session leaves the clients of all others; so what slot 0 left in its own turn is
-- there at the end of the round.
use Rattle.std.proofs.Common.{◌≡◌, ◌≢◌, ℕ, zero, suc, ◌+◌, ◌<◌, ◌==◌, cond, Bool, true, false, List, length, is_some, Option, Some, None, refl, sym, ap, ◌∙◌, subst, arith}
use Rattle.std.proofs.lemmas.Bool.{and_parts, false≢true, ne_eqb, true≢false}
use Rattle.std.proofs.lemmas.Option.{none-some, same_Some}
use Rattle.rbd_client.specs.Client.{ClientView}
use Rattle.rbd_kinds.specs.Instances.{same_instance}
use Rattle.rbd_kinds.specs.declared.id.Instance.{Instance}
use Rattle.rbd_kinds.specs.declared.notice.Notice.{Notice}
use Rattle.rbd_kinds.proofs.Instances.{same_instance_is}
use Rattle.rbd_machine.specs.Plan.{Standing}
use Rattle.rbd_slots.specs.Session.{SessionView}
use Rattle.rbd_watch.specs.Posting.{notice_numbered}
use Rattle.rbd_world.specs.declared.sites.Sites.{Sites}
use Rattle.rbd_world.specs.Run.{Heard, Nothing}
use Rattle.rbd_world.specs.Step.{delivered, heard_by, hears_in, mail_then}
use Rattle.rbd_world.specs.World.{LivesView, WorldView, client_in, running_of, session_of_client}
use Rattle.rbd_schedule.specs.declared.given.Given.{Given}
use Rattle.rbd_schedule.specs.Deeds.{Deeds}
use Rattle.rbd_schedule.specs.Notices.{is_notice_due, is_to, runs}
use Rattle.rbd_schedule.specs.Schedule.{DeliversWhere, Pace, PollsAll, PollsIn, PollsWhere, Round, Starts, TurnOf, TurnWhere, is_held}
use Rattle.rbd_schedule.specs.Starts.{IsQuiet}
use Rattle.rbd_schedule.proofs.Ended.{AreSoundSessions, HeldPolls, before_polls, before_turn, before_where, either_way, keeps_dues, keeps_poll, keeps_polls, keeps_turns, no_starts, not_zero, sounds_step, step_of}
use Rattle.rbd_schedule.proofs.Idle.{Asked, IsIdleStep, Told, same_sessions, stays_quiet}
use Rattle.rbd_schedule.proofs.LetGo.{KeepsIn, keeps_by_house, keeps_by_poll}

module _ {R : Type 0} (stands : R → Standing) (given : (session : ℕ) → List Given) where
  -- ---- one event and what starts behind it

  pub settled : (old between new : WorldView R) → IsIdleStep stands old between → (count : ℕ) → Deeds (λ k. Starts stands given) count between new → IsQuiet given old → new ≡ between
  settled old between new step count starts quiet = no_starts stands given count between new starts (stays_quiet stands given old between step quiet)

  -- a poll leaves the clients of other sessions
  poll_apart : (session slot : ℕ) (old new : Pace R) → PollsIn stands given session slot old new → new.went_on ≡ false → IsQuiet given old.world → (s : ℕ) → s ≢ session → client_in s new.world.lives ≡ client_in s old.world.lives
  poll_apart session slot old new polls still quiet s away =
      let comes = polls.comes in
      let none = step_of stands given session slot old new polls still in
      let same = settled old.world comes.between new.world (Asked session slot polls.result none comes.step) comes.starts.count comes.starts.starts quiet in
      ap (λ (w : WorldView R). client_in s w.lives) same ∙ ap running_of (comes.step.1.others s (ne_eqb session s (λ is. away (sym is))))

  where_apart : (held : Bool) (session slot : ℕ) (old new : Pace R) → PollsWhere stands given held session slot old new → new.went_on ≡ false → IsQuiet given old.world → (s : ℕ) → s ≢ session
      → client_in s new.world.lives ≡ client_in s old.world.lives
  where_apart true session slot old new polls still quiet s away = poll_apart session slot old new polls still quiet s away
  where_apart false session slot old new same still quiet s away = ap (λ (p : Pace R). client_in s p.world.lives) same

  -- none may start behind any of them
  abbrev Any : WorldView R → Type 0
  Any w = Unit {0}

  any_step : (a b : WorldView R) → IsIdleStep stands a b → Any a → Any b
  any_step a b step is = tt

  polls_apart : (session : ℕ) (point : Pace R) (n : ℕ) (old new : Pace R) → Deeds (HeldPolls stands given session point) n old new → new.went_on ≡ false → IsQuiet given old.world → (s : ℕ) → s ≢ session
      → client_in s new.world.lives ≡ client_in s old.world.lives
  unfolding Deeds
  polls_apart session point zero old new done still quiet s away = ap (λ (p : Pace R). client_in s p.world.lives) done
  polls_apart session point (suc n) old new (between, first, it) still quiet s away =
      let held = is_held session (n + 1) point.world in
      let before = before_where stands given held session (n + 1) between new it still in
      let then = keeps_polls stands given Any any_step session point n old between first before (tt, quiet) in
      where_apart held session (n + 1) between new it still then.1 s away ∙ polls_apart session point n old between first before quiet s away

  -- ---- notices

  told_mail : (sites : Sites) (o : Option Notice) (lives : List (LivesView R)) → mail_then (delivered o lives) sites ≡ sites.mail
  told_mail sites None lives = refl
  told_mail sites (Some n) lives = by (client_in n.to.session lives)
    where
      by : (c : Option (ClientView R)) → mail_then (heard_by n c) sites ≡ sites.mail
      by None = refl
      by (Some c) = go (same_instance c.session.instance n.to)
        where
          go : (b : Bool) → mail_then (cond b (Heard n) Nothing) sites ≡ sites.mail
          go true = refl
          go false = refl

  -- nobody hears it but the session that it is to
  heard_elsewhere : (n : Notice) (o : Option (ClientView R)) (s : ℕ) → (n.to.session == s) ≡ false → hears_in (heard_by n o) s ≡ false
  heard_elsewhere n None s other = refl
  heard_elsewhere n (Some c) s other = go (same_instance c.session.instance n.to)
    where
      go : (b : Bool) → hears_in (cond b (Heard n) Nothing) s ≡ false
      go true = other
      go false = refl

  -- a client is of its session
  abbrev pub AreOfSessions : WorldView R → Type 0
  AreOfSessions w = (s : ℕ) (c : ClientView R) → client_in s w.lives ≡ Some c → c.session.instance.session ≡ s

  due_elsewhere : (lost : (number : ℕ) → Bool) (session number : ℕ) (start old : WorldView R) → AreOfSessions start → old.sites.mail ≡ start.sites.mail → is_notice_due lost session number start ≡ true → (s : ℕ) → s ≢ session
      → hears_in (delivered (notice_numbered number old.sites.mail) old.lives) s ≡ false
  due_elsewhere lost session number start old own mail due s away =
      ap (λ m. hears_in (delivered (notice_numbered number m) old.lives) s) mail
      ∙ by (client_in session start.lives) refl (notice_numbered number start.sites.mail) (and_parts (is_to (client_in session start.lives) (notice_numbered number start.sites.mail)) _ due).0
    where
      by : (o : Option (ClientView R)) → client_in session start.lives ≡ o → (n : Option Notice) → is_to o n ≡ true → hears_in (delivered n old.lives) s ≡ false
      by o at None to = refl
      by None at (Some n) to = absurd (false≢true to)
      by (Some c) at (Some n) to =
          let whose : n.to.session ≡ session = sym (ap (λ (i : Instance). i.session) (same_instance_is c.session.instance n.to to)) ∙ own session c at in
          heard_elsewhere n (client_in n.to.session old.lives) s (ne_eqb n.to.session s (λ is. away (sym is ∙ whose)))

  due_apart : (lost : (number : ℕ) → Bool) (session number : ℕ) (start old new : WorldView R) → AreOfSessions start → old.sites.mail ≡ start.sites.mail → (due : Bool) → is_notice_due lost session number start ≡ due
      → DeliversWhere stands given due number old new → IsQuiet given old → (s : ℕ) → s ≢ session → (client_in s new.lives ≡ client_in s old.lives) × (new.sites.mail ≡ start.sites.mail)
  due_apart lost session number start old new own mail false due same quiet s away = (ap (λ (w : WorldView R). client_in s w.lives) same, ap (λ (w : WorldView R). w.sites.mail) same ∙ mail)
  due_apart lost session number start old new own mail true due happens quiet s away =
      let comes = happens.comes in
      let same = settled old comes.between new (Told number happens.result comes.step) comes.starts.count comes.starts.starts quiet in (
        ap (λ (w : WorldView R). client_in s w.lives) same ∙ ap running_of (comes.step.1.others s (due_elsewhere lost session number start old own mail due s away)),
        ap (λ (w : WorldView R). w.sites.mail) same ∙ comes.step.1.mail ∙ told_mail old.sites (notice_numbered number old.sites.mail) old.lives ∙ mail,
      )

  dues_apart : (lost : (number : ℕ) → Bool) (session : ℕ) (start : WorldView R) (n : ℕ) (new : WorldView R) → AreOfSessions start
      → Deeds (λ k. DeliversWhere stands given (is_notice_due lost session (k + 1) start) (k + 1)) n start new → IsQuiet given start → (s : ℕ) → s ≢ session
      → (client_in s new.lives ≡ client_in s start.lives) × (new.sites.mail ≡ start.sites.mail)
  unfolding Deeds
  dues_apart lost session start zero new own done quiet s away = (ap (λ (w : WorldView R). client_in s w.lives) done, ap (λ (w : WorldView R). w.sites.mail) done)
  dues_apart lost session start (suc n) new own (between, first, it) quiet s away =
      let before = dues_apart lost session start n between own first quiet s away in
      let then = keeps_dues stands given Any any_step (λ k. is_notice_due lost session (k + 1) start) n start between first (tt, quiet) in
      let last = due_apart lost session (n + 1) start between new own before.1 (is_notice_due lost session (n + 1) start) refl it then.1 s away in
      (last.0 ∙ before.0, last.1)

  -- ---- a turn

  all_apart : (session : ℕ) (old new : Pace R) → PollsAll stands given session old new → new.went_on ≡ false → IsQuiet given old.world → (s : ℕ) → s ≢ session → client_in s new.world.lives ≡ client_in s old.world.lives
  all_apart session old new polls still quiet s away =
      let before = before_polls stands given session polls.point 64 polls.point new polls.held still in
      let then = keeps_poll stands given Any any_step session 0 old polls.point polls.slot_0 before (tt, quiet) in
      polls_apart session polls.point 64 polls.point new polls.held still then.1 s away ∙ poll_apart session 0 old polls.point polls.slot_0 before quiet s away

  pub turn_apart : (lost : (number : ℕ) → Bool) (running : Bool) (session : ℕ) (old new : Pace R) → TurnWhere stands given lost running session old new → new.went_on ≡ false → IsQuiet given old.world → AreOfSessions old.world
      → (s : ℕ) → s ≢ session → client_in s new.world.lives ≡ client_in s old.world.lives
  turn_apart lost true session old new turn still quiet own s away =
      let then = keeps_dues stands given Any any_step (λ k. is_notice_due lost session (k + 1) old.world) (length old.world.sites.mail) old.world turn.told turn.notices (tt, quiet) in
      all_apart session (record { world = turn.told; went_on = old.went_on }) new turn.polls still then.1 s away
      ∙ (dues_apart lost session old.world (length old.world.sites.mail) turn.told own turn.notices quiet s away).0
  turn_apart lost false session old new same still quiet own s away = ap (λ (p : Pace R). client_in s p.world.lives) same

  -- ---- what slot 0 leaves

  keeps_poll_in : (held : Bool) (session k : ℕ) (old new : Pace R) → PollsWhere stands given held session (k + 1) old new → new.went_on ≡ false → IsQuiet given old.world → KeepsIn stands session old.world → KeepsIn stands session new.world
  keeps_poll_in false session k old new same still quiet keeps = subst (λ (p : Pace R). KeepsIn stands session p.world) (sym same) keeps
  keeps_poll_in true session k old new polls still quiet keeps =
      let comes = polls.comes in
      let none = step_of stands given session (k + 1) old new polls still in
      let same = settled old.world comes.between new.world (Asked session (k + 1) polls.result none comes.step) comes.starts.count comes.starts.starts quiet in
      subst (KeepsIn stands session) (sym same) (keeps_by_poll stands session (k + 1) (not_zero stands given k) old.world comes.between polls.result comes.step none keeps)

  keeps_polls_in : (session : ℕ) (point : Pace R) (n : ℕ) (old new : Pace R) → Deeds (HeldPolls stands given session point) n old new → new.went_on ≡ false → IsQuiet given old.world → KeepsIn stands session old.world → KeepsIn stands session new.world
  unfolding Deeds
  keeps_polls_in session point zero old new done still quiet keeps = subst (λ (p : Pace R). KeepsIn stands session p.world) (sym done) keeps
  keeps_polls_in session point (suc n) old new (between, first, it) still quiet keeps =
      let held = is_held session (n + 1) point.world in
      let before = before_where stands given held session (n + 1) between new it still in
      let then = keeps_polls stands given Any any_step session point n old between first before (tt, quiet) in
      keeps_poll_in held session n between new it still then.1 (keeps_polls_in session point n old between first before quiet keeps)

  turn_keeps : (lost : (number : ℕ) → Bool) (running : Bool) (session : ℕ) (old new : Pace R) → runs session old.world ≡ running → TurnWhere stands given lost running session old new → new.went_on ≡ false → IsQuiet given old.world
      → AreSoundSessions stands given old.world → KeepsIn stands session new.world
  turn_keeps lost false session old new at same still quiet sound = λ c there. absurd (true≢false (sym (ap is_some there) ∙ subst (λ (p : Pace R). runs session p.world ≡ false) (sym same) at))
  turn_keeps lost true session old new at turn still quiet sound =
      let polls = turn.polls in
      let before = before_polls stands given session polls.point 64 polls.point new polls.held still in
      let told = keeps_dues stands given (AreSoundSessions stands given) (sounds_step stands given) (λ k. is_notice_due lost session (k + 1) old.world) (length old.world.sites.mail) old.world turn.told turn.notices (sound, quiet) in
      let comes = polls.slot_0.comes in
      let none = step_of stands given session 0 (record { world = turn.told; went_on = old.went_on }) polls.point polls.slot_0 before in
      let same = settled turn.told comes.between polls.point.world (Asked session 0 polls.slot_0.result none comes.step) comes.starts.count comes.starts.starts told.1 in
      let house = subst (KeepsIn stands session) (sym same) (keeps_by_house stands session turn.told comes.between polls.slot_0.result comes.step none told.0) in
      let point = keeps_poll stands given Any any_step session 0 (record { world = turn.told; went_on = old.went_on }) polls.point polls.slot_0 before (tt, told.1) in
      keeps_polls_in session polls.point 64 polls.point new polls.held still point.1 house

  -- ---- a round

  -- what is needed of a world in it
  record IsRightIn (w : WorldView R) : Type 0 where
    sound : AreSoundSessions stands given w
    own : AreOfSessions w

  own_step : (a b : WorldView R) → IsIdleStep stands a b → AreOfSessions a → AreOfSessions b
  own_step a b step own s c there = by (client_in s a.lives) refl
    where
      by : (o : Option (ClientView R)) → client_in s a.lives ≡ o → c.session.instance.session ≡ s
      by None at = absurd (none-some c.session (sym (ap session_of_client at) ∙ sym (same_sessions stands a b step s) ∙ ap session_of_client there))
      by (Some x) at =
          let same : c.session ≡ x.session = same_Some c.session x.session (sym (ap session_of_client there) ∙ same_sessions stands a b step s ∙ ap session_of_client at) in
          ap (λ (y : SessionView R). y.instance.session) same ∙ own s x at

  right_step : (a b : WorldView R) → IsIdleStep stands a b → IsRightIn a → IsRightIn b
  right_step a b step is = record { sound = sounds_step stands given a b step is.sound; own = own_step a b step is.own }

  turns_keep : (lost : (number : ℕ) → Bool) (n : ℕ) (old new : Pace R) → Deeds (TurnOf stands given lost) n old new → new.went_on ≡ false → IsQuiet given old.world → IsRightIn old.world → (session : ℕ) → session < n → KeepsIn stands session new.world
  unfolding Deeds
  turns_keep lost zero old new done still quiet right session below = absurd (omega (arith, below))
  turns_keep lost (suc n) old new (between, first, it) still quiet right session below =
      let running = runs n between.world in
      let before = before_turn stands given lost running n between new it still in
      let then = keeps_turns stands given IsRightIn right_step lost n old between first before (right, quiet) in
      either_way session n
      (λ less c there.
      turns_keep lost n old between first before quiet right session less c
      (sym (turn_apart lost running n between new it still then.1 then.0.own session (λ is. absurd (omega (arith, less, is)))) ∙ there))
      (λ more. let same : session ≡ n = omega (arith, below, more) in subst (λ s. KeepsIn stands s new.world) (sym same) (turn_keeps lost running n between new refl it still then.1 then.0.sound))

  pub round_keeps : (lost : (number : ℕ) → Bool) (n : ℕ) (old new : WorldView R) → Round stands given lost n false old new → IsQuiet given old → AreSoundSessions stands given old → AreOfSessions old
      → (session : ℕ) → session < n → KeepsIn stands session new
  round_keeps lost n old new round quiet sound own session below =
      turns_keep lost n (record { world = old; went_on = false }) (record { world = new; went_on = false }) round refl quiet (record { sound = sound; own = own }) session below
