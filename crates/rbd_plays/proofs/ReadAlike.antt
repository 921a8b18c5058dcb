-- What a schedule reads of a world is the same of twins.
use Rattle.std.proofs.Common.{◌≡◌, ◌&&◌, ℕ, not, cond, Bool, true, false, List, length, Option, Some, None, is_some, refl, sym, ap, ◌∙◌}
use Rattle.std.proofs.lemmas.Option.{none-some}
use Rattle.rbd_client.proofs.Alike.{actor_alike}
use Rattle.rbd_client.specs.Actor.{actor_at, kind_by}
use Rattle.rbd_client.specs.Client.{ClientView}
use Rattle.rbd_client.specs.declared.actor.Actor.{Actor}
use Rattle.rbd_client.specs.declared.actor.Actor.TheVariants as actor
use Rattle.rbd_flat.specs.declared.entry.Entry.{Entry}
use Rattle.rbd_kinds.specs.Instances.{same_instance}
use Rattle.rbd_kinds.specs.declared.id.Instance.{Instance}
use Rattle.rbd_kinds.specs.declared.notice.Notice.{Notice}
use Rattle.rbd_kinds.specs.declared.operation_kind.OpKind.{OpKind}
use Rattle.rbd_machine.specs.Plan.{Standing}
use Rattle.rbd_schedule.specs.Notices.{is_notice_due, is_to, runs, was_heard}
use Rattle.rbd_schedule.specs.Schedule.{WantsKind, is_held}
use Rattle.rbd_schedule.specs.Starts.{earliest, is_ended, to_start}
use Rattle.rbd_schedule.specs.declared.given.Given.{Given}
use Rattle.rbd_slots.proofs.Readied.{same_track}
use Rattle.rbd_slots.specs.Advance.{IsSameStand, track_of}
use Rattle.rbd_slots.specs.Lines.{LinesView, lines_of}
use Rattle.rbd_slots.specs.Session.{IsAlike, IsAlikeIn, SessionView, free_slot, going_in, held_in, kind_asked, of_going, running_in, script_line}
use Rattle.rbd_slots.specs.Waits.{waits}
use Rattle.rbd_slots.specs.declared.running.Occupant.{Occupant}
use Rattle.rbd_slots.specs.declared.running.Occupant.TheVariants as occupant
use Rattle.rbd_slots.specs.declared.running.Running.{Running}
use Rattle.rbd_watch.specs.Posting.{notice_numbered}
use Rattle.rbd_world.specs.Sound.{held_of, line_at}
use Rattle.rbd_world.specs.Step.{IsClientAlikeIf, is_begun}
use Rattle.rbd_world.specs.World.{WorldView, client_in, free_in, kind_in, session_of_client}
use Rattle.rbd_world.specs.declared.event.Call.{Call}
use Rattle.rbd_world.specs.declared.sites.Sites.{Sites}
use Rattle.rbd_plays.proofs.Happening.{client_alike, same_line}
use Rattle.rbd_plays.specs.Twins.{AreTwins}

module _ {R : Type 0} (stands : R → Standing) where
  -- ---- the kind that a slot wants

  going_alike : (slot : ℕ) (r q : Running R) (old new : LinesView) → IsSameStand stands r q → lines_of new ≡ lines_of old
      → of_going stands kind_asked (going_in slot (Some (occupant.Running q)) new) ≡ of_going stands kind_asked (going_in slot (Some (occupant.Running r)) old)
  going_alike slot r q old new same lines =
      ap (λ b. of_going stands kind_asked (cond b None (Some q))) (ap (waits slot) (same_track stands r q old new same lines))
      ∙ by (waits slot (track_of r old))
    where
      by : (b : Bool) → of_going stands kind_asked (cond b None (Some q)) ≡ of_going stands kind_asked (cond b None (Some r))
      by true = refl
      by false = ap (λ (s : Standing). kind_asked s.plan) same.same

  held_kinds : (slot : ℕ) (o n : Option (Occupant R)) (old new : LinesView) → IsAlikeIn stands o n → lines_of new ≡ lines_of old
      → of_going stands kind_asked (going_in slot n new) ≡ of_going stands kind_asked (going_in slot o old)
  held_kinds slot (Some (occupant.Running r)) (Some (occupant.Running q)) old new same lines = going_alike slot r q old new same lines
  held_kinds slot (Some (occupant.Running r)) (Some (occupant.Refused line x)) old new same lines = absurd (none-some r (ap running_in same))
  held_kinds slot (Some (occupant.Running r)) None old new same lines = absurd (none-some r (ap running_in same))
  held_kinds slot (Some (occupant.Refused line x)) n old new same lines = ap (λ o. of_going stands kind_asked (going_in slot o new)) same
  held_kinds slot None n old new same lines = ap (λ o. of_going stands kind_asked (going_in slot o new)) same

  kind_by_alike : (slot : ℕ) (old new : SessionView R) → IsAlike stands old new → (who : Actor) → kind_by stands slot new who ≡ kind_by stands slot old who
  kind_by_alike slot old new alike actor.Nobody = refl
  kind_by_alike slot old new alike actor.Request = held_kinds slot (held_in slot old.slots) (held_in slot new.slots) old.lines new.lines (alike.slots slot) alike.lines
  kind_by_alike slot old new alike (actor.Way a) = refl
  kind_by_alike slot old new alike (actor.Release r) = refl

  kinds_alike : (slot : ℕ) (o n : Option (ClientView R)) → IsClientAlikeIf stands o n → kind_in stands slot n ≡ kind_in stands slot o
  kinds_alike slot None n alike = ap (kind_in stands slot) alike
  kinds_alike slot (Some c) None alike = absurd alike
  kinds_alike slot (Some c) (Some d) alike =
      ap (kind_by stands slot d.session) (actor_alike stands slot c d alike) ∙ kind_by_alike slot c.session d.session alike.session (actor_at stands slot c)

  -- ---- a client

  free_alike : (o n : Option (ClientView R)) → IsClientAlikeIf stands o n → free_in n ≡ free_in o
  free_alike None n alike = ap free_in alike
  free_alike (Some c) None alike = absurd alike
  free_alike (Some c) (Some d) alike = ap free_slot alike.session.lowest

  runs_alike : (o n : Option (ClientView R)) → IsClientAlikeIf stands o n → is_some n ≡ is_some o
  runs_alike None n alike = ap is_some alike
  runs_alike (Some c) None alike = absurd alike
  runs_alike (Some c) (Some d) alike = refl

  lines_alike : (slot : ℕ) (o n : Option (ClientView R)) → IsClientAlikeIf stands o n → script_line (held_of slot (session_of_client n)) ≡ script_line (held_of slot (session_of_client o))
  lines_alike slot None n alike = ap (λ c. script_line (held_of slot (session_of_client c))) alike
  lines_alike slot (Some c) None alike = absurd alike
  lines_alike slot (Some c) (Some d) alike = same_line stands (held_in slot c.session.slots) (held_in slot d.session.slots) (alike.session.slots slot)

  told_alike : (m : Option Notice) (o n : Option (ClientView R)) → IsClientAlikeIf stands o n → is_to n m ≡ is_to o m
  told_alike m None n alike = ap (λ c. is_to c m) alike
  told_alike m (Some c) None alike = absurd alike
  told_alike None (Some c) (Some d) alike = refl
  told_alike (Some m) (Some c) (Some d) alike = ap (λ (i : Instance). same_instance i m.to) alike.session.instance

  -- ---- in a world

  module _ (v w : WorldView R) (twins : AreTwins stands v w) where
    client : (session : ℕ) → IsClientAlikeIf stands (client_in session v.lives) (client_in session w.lives)
    client session = client_alike stands v w twins session

    pub starts_alike : (given : List Given) (session : ℕ) → to_start given w session ≡ to_start given v session
    starts_alike given session =
        ap (λ f. cond (is_some f) (earliest (λ line. is_begun line w.history) (λ line. is_ended line w.history) true given) None)
        (free_alike (client_in session v.lives) (client_in session w.lives) (client session))
        ∙ ap (λ (h : List Entry). cond (is_some (free_in (client_in session v.lives))) (earliest (λ line. is_begun line h) (λ line. is_ended line h) true given) None) twins.history

    pub kind_alike : (session slot : ℕ) → kind_in stands slot (client_in session w.lives) ≡ kind_in stands slot (client_in session v.lives)
    kind_alike session slot = kinds_alike slot (client_in session v.lives) (client_in session w.lives) (client session)

    pub wants_alike : (session slot : ℕ) (kind : OpKind) → WantsKind stands session slot kind v → WantsKind stands session slot kind w
    wants_alike session slot kind wants = record { site = wants.site; wants = kind_alike session slot ∙ wants.wants }

    pub wanted_alike : (session slot : ℕ) (kind : OpKind) → WantsKind stands session slot kind w → WantsKind stands session slot kind v
    wanted_alike session slot kind wants = record { site = wants.site; wants = sym (kind_alike session slot) ∙ wants.wants }

    pub line_alike : (session slot : ℕ) → line_at session slot w.lives ≡ line_at session slot v.lives
    line_alike session slot = lines_alike slot (client_in session v.lives) (client_in session w.lives) (client session)

    pub held_alike : (session slot : ℕ) → is_held session slot w ≡ is_held session slot v
    held_alike session slot = ap is_some (line_alike session slot)

    pub run_alike : (session : ℕ) → runs session w ≡ runs session v
    run_alike session = runs_alike (client_in session v.lives) (client_in session w.lives) (client session)

    pub mail_alike : w.sites.mail ≡ v.sites.mail
    mail_alike = ap (λ (s : Sites). s.mail) twins.sites

    pub due_alike : (lost : (number : ℕ) → Bool) (session number : ℕ) → is_notice_due lost session number w ≡ is_notice_due lost session number v
    due_alike lost session number =
        ap (λ (mail : List Notice). is_to (client_in session w.lives) (notice_numbered number mail) && (not (was_heard number w.calls) && not (lost number))) mail_alike
        ∙ ap (λ b. b && (not (was_heard number w.calls) && not (lost number))) (told_alike (notice_numbered number v.sites.mail) (client_in session v.lives) (client_in session w.lives) (client session))
        ∙ ap (λ (calls : List Call). is_to (client_in session v.lives) (notice_numbered number v.sites.mail) && (not (was_heard number calls) && not (lost number))) twins.calls

    pub mail_length_alike : length w.sites.mail ≡ length v.sites.mail
    mail_length_alike = ap length mail_alike
