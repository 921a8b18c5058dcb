-- An event does the same to twins.
use Rattle.std.proofs.Common.{◌≡◌, ◌||◌, ℕ, nat_lt, cond, Bool, List, map, Option, Some, None, refl, ap, ◌∙◌}
use Rattle.std.proofs.Math.Path.{fun_ext}
use Rattle.std.specs.List.{flat_map}
use Rattle.rbd_client.proofs.Wanted.{wanted_alike}
use Rattle.rbd_client.specs.Client.{ClientView}
use Rattle.rbd_client.specs.Feeding.{IsClientAlike}
use Rattle.rbd_commands.specs.declared.command.Command.{Command}
use Rattle.rbd_flat.specs.declared.entry.Entry.{Entry}
use Rattle.rbd_kinds.specs.Instances.{same_instance}
use Rattle.rbd_kinds.specs.declared.id.Instance.{Instance}
use Rattle.rbd_kinds.specs.declared.id.SiteId.{SiteId}
use Rattle.rbd_kinds.specs.declared.notice.Notice.{Notice}
use Rattle.rbd_kinds.specs.declared.operation.Op.{Op}
use Rattle.rbd_machine.specs.Plan.{Standing}
use Rattle.rbd_slots.specs.Session.{IsAlikeIn, held_in, script_line}
use Rattle.rbd_slots.specs.declared.running.Occupant.{Occupant}
use Rattle.rbd_slots.specs.declared.running.Occupant.TheVariants as occupant
use Rattle.rbd_watch.specs.Posting.{notice_numbered}
use Rattle.rbd_world.specs.Run.{Began, Heard, Nothing, Stopped}
use Rattle.rbd_world.specs.Step.{IsAlikeOf, IsClientAlikeIf, all_slots, ascending, begins_of, come, delivered, expired_at, happening, heard_by, is_begun, line_or_none, lost_by, polled, restarted, restarted_of, stopped, submitted, trimmed_at, wanted_in_slots}
use Rattle.rbd_world.specs.World.{LivesView, WorldView, client_in, late_at, late_of, lives_in, running_of, sent_in}
use Rattle.rbd_world.specs.declared.event.Event.{Event}
use Rattle.rbd_world.specs.declared.event.Event.TheVariants as event
use Rattle.rbd_world.specs.declared.sites.Sites.{Sites}
use Rattle.rbd_plays.proofs.Polled.{polled_alike}
use Rattle.rbd_plays.specs.Twins.{AreTwins}

module _ {R : Type 0} (stands : R → Standing) where
  -- ---- lives that stand alike

  pub clients_alike : (o n : Option (LivesView R)) → IsAlikeOf stands o n → IsClientAlikeIf stands (running_of o) (running_of n)
  clients_alike None n alike = ap running_of alike
  clients_alike (Some l) None alike = absurd alike
  clients_alike (Some l) (Some m) alike = alike.running

  pub same_late : (o n : Option (LivesView R)) → IsAlikeOf stands o n → late_of n ≡ late_of o
  same_late None n alike = ap late_of alike
  same_late (Some l) None alike = absurd alike
  same_late (Some l) (Some m) alike = alike.late

  pub same_line : (o n : Option (Occupant R)) → IsAlikeIn stands o n → script_line n ≡ script_line o
  same_line (Some (occupant.Running r)) (Some (occupant.Running q)) alike = ap Some alike.line
  same_line (Some (occupant.Running r)) (Some (occupant.Refused line refusal)) alike = ap script_line alike
  same_line (Some (occupant.Running r)) None alike = ap script_line alike
  same_line (Some (occupant.Refused line refusal)) n alike = ap script_line alike
  same_line None n alike = ap script_line alike

  -- ---- what an event does

  submitted_alike : (begun : Bool) (line : ℕ) (c : Command) (o n : Option (ClientView R)) → IsClientAlikeIf stands o n → submitted begun line c n ≡ submitted begun line c o
  submitted_alike begun line c None n alike = ap (submitted begun line c) alike
  submitted_alike begun line c (Some a) None alike = absurd alike
  submitted_alike begun line c (Some a) (Some b) alike =
      ap (λ lowest. cond (begun || nat_lt 64 lowest) Nothing (Began (begins_of b.session.instance line c) lowest)) alike.session.lowest
      ∙ ap (λ (i : Instance). cond (begun || nat_lt 64 a.session.lowest) Nothing (Began (begins_of i line c) a.session.lowest)) alike.session.instance

  heard_alike : (notice : Notice) (o n : Option (ClientView R)) → IsClientAlikeIf stands o n → heard_by notice n ≡ heard_by notice o
  heard_alike notice None n alike = ap (heard_by notice) alike
  heard_alike notice (Some a) None alike = absurd alike
  heard_alike notice (Some a) (Some b) alike = ap (λ (i : Instance). cond (same_instance i notice.to) (Heard notice) Nothing) alike.session.instance

  wants_alike : (a b : ClientView R) → IsClientAlike stands a b → wanted_in_slots stands b ≡ wanted_in_slots stands a
  wants_alike a b alike = ap (λ (f : ℕ → Option (SiteId × Op)). map f all_slots) (fun_ext (λ slot. wanted_alike stands slot a b alike))

  loses_alike : (a b : ClientView R) → IsClientAlike stands a b → lost_by stands b ≡ lost_by stands a
  loses_alike a b alike =
      ap (λ (f : ℕ → List ℕ). ascending (flat_map f all_slots))
      (fun_ext (λ slot. ap line_or_none (same_line (held_in slot a.session.slots) (held_in slot b.session.slots) (alike.session.slots slot))))

  stopped_alike : (o n : Option (ClientView R)) → IsClientAlikeIf stands o n → stopped stands n ≡ stopped stands o
  stopped_alike None n alike = ap (stopped stands) alike
  stopped_alike (Some a) None alike = absurd alike
  stopped_alike (Some a) (Some b) alike =
      ap (λ (i : Instance). Stopped i (wanted_in_slots stands b) (lost_by stands b)) alike.session.instance
      ∙ ap (λ wanted. Stopped a.session.instance wanted (lost_by stands b)) (wants_alike a b alike)
      ∙ ap (λ lost. Stopped a.session.instance (wanted_in_slots stands a) lost) (loses_alike a b alike)

  restarts_alike : (latest : Instance) (o n : Option (ClientView R)) → IsClientAlikeIf stands o n → restarted_of latest n ≡ restarted_of latest o
  restarts_alike latest None n alike = ap (restarted_of latest) alike
  restarts_alike latest (Some a) None alike = absurd alike
  restarts_alike latest (Some a) (Some b) alike = refl

  restarted_alike : (o n : Option (LivesView R)) → IsAlikeOf stands o n → restarted n ≡ restarted o
  restarted_alike None n alike = ap restarted alike
  restarted_alike (Some l) None alike = absurd alike
  restarted_alike (Some l) (Some m) alike = ap (λ (i : Instance). restarted_of i m.running) alike.latest ∙ restarts_alike l.latest l.running m.running alike.running

  -- ---- in a world

  module _ (v w : WorldView R) (twins : AreTwins stands v w) where
    pub client_alike : (session : ℕ) → IsClientAlikeIf stands (client_in session v.lives) (client_in session w.lives)
    client_alike session = clients_alike (lives_in session v.lives) (lives_in session w.lives) (twins.lives session)

    pub late_alike : (session slot : ℕ) → late_at session slot w.lives ≡ late_at session slot v.lives
    late_alike session slot = ap (sent_in slot) (same_late (lives_in session v.lives) (lives_in session w.lives) (twins.lives session))

    delivered_alike : (n : Option Notice) → delivered n w.lives ≡ delivered n v.lives
    delivered_alike None = refl
    delivered_alike (Some notice) = heard_alike notice (client_in notice.to.session v.lives) (client_in notice.to.session w.lives) (client_alike notice.to.session)

    pub happening_alike : (e : Event) → happening stands e w ≡ happening stands e v
    happening_alike (event.Submit session line c) =
        ap (λ (h : List Entry). submitted (is_begun line h) line c (client_in session w.lives)) twins.history
        ∙ submitted_alike (is_begun line v.history) line c (client_in session v.lives) (client_in session w.lives) (client_alike session)
    happening_alike (event.Poll session slot) =
        ap (λ (s : Sites). polled stands s slot (client_in session w.lives)) twins.sites
        ∙ polled_alike stands v.sites slot (client_in session v.lives) (client_in session w.lives) (client_alike session)
    happening_alike (event.Deliver number) = ap (λ (s : Sites). delivered (notice_numbered number s.mail) w.lives) twins.sites ∙ delivered_alike (notice_numbered number v.sites.mail)
    happening_alike (event.Expire session s image) = ap (λ (x : Sites). expired_at x session s image) twins.sites
    happening_alike (event.Stop session) = stopped_alike (client_in session v.lives) (client_in session w.lives) (client_alike session)
    happening_alike (event.Late session slot) =
        ap (λ (s : Sites). come s slot (late_at session slot w.lives)) twins.sites ∙ ap (come v.sites slot) (late_alike session slot)
    happening_alike (event.Restart session) = restarted_alike (lives_in session v.lives) (lives_in session w.lives) (twins.lives session)
    happening_alike (event.Trim s image object) = ap (λ (x : Sites). trimmed_at x s image object) twins.sites
