-- A poll of clients that stand alike does the same.
use Rattle.std.proofs.Common.{◌≡◌, ◌==◌, ℕ, cond, Option, Some, None, refl, sym, ap, ◌∙◌}
use Rattle.std.proofs.lemmas.Option.{none-some}
use Rattle.rbd_client.proofs.Alike.{actor_alike}
use Rattle.rbd_client.specs.Actor.{actor_at}
use Rattle.rbd_client.specs.Client.{ClientView}
use Rattle.rbd_client.specs.Feeding.{IsClientAlike}
use Rattle.rbd_client.specs.declared.actor.Actor.{Actor}
use Rattle.rbd_client.specs.declared.actor.Actor.TheVariants as actor
use Rattle.rbd_kinds.specs.declared.id.Instance.{Instance}
use Rattle.rbd_kinds.specs.declared.id.SiteId.{SiteId}
use Rattle.rbd_kinds.specs.declared.reply.Reply.TheVariants as reply
use Rattle.rbd_machine.specs.Plan.{Standing}
use Rattle.rbd_slots.proofs.Readied.{same_track}
use Rattle.rbd_slots.specs.Advance.{IsSameStand, track_of}
use Rattle.rbd_slots.specs.Session.{IsAlikeIn, held_in, running_in}
use Rattle.rbd_slots.specs.Track.{Track}
use Rattle.rbd_slots.specs.Waits.{waits}
use Rattle.rbd_slots.specs.declared.running.Occupant.{Occupant}
use Rattle.rbd_slots.specs.declared.running.Occupant.TheVariants as occupant
use Rattle.rbd_slots.specs.declared.running.Running.{Running}
use Rattle.rbd_world.specs.Run.{Nothing, Refused, Waited}
use Rattle.rbd_world.specs.Step.{IsClientAlikeIf, done_by, goes_on_by, gone_by, polled, polled_in, releases}
use Rattle.rbd_world.specs.declared.sites.Sites.{Sites}

module _ {R : Type 0} (stands : R → Standing) (sites : Sites) (slot : ℕ) (c d : ClientView R) (alike : IsClientAlike stands c d) where
  -- ---- who acts in a slot with a request

  requests_do : (r q : Running R) → IsSameStand stands r q → goes_on_by stands sites d slot q actor.Request ≡ goes_on_by stands sites c slot r actor.Request
  requests_do r q same =
      ap (λ (t : Track). cond (waits slot t) Waited (done_by sites d.session.instance q.line (stands q.request).labels (stands q.request).plan)) (same_track stands r q c.session.lines d.session.lines same alike.session.lines)
      ∙ ap (λ (i : Instance). cond (waits slot (track_of r c.session.lines)) Waited (done_by sites i q.line (stands q.request).labels (stands q.request).plan)) alike.session.instance
      ∙ ap (λ line. cond (waits slot (track_of r c.session.lines)) Waited (done_by sites c.session.instance line (stands q.request).labels (stands q.request).plan)) same.line
      ∙ ap (λ (s : Standing). cond (waits slot (track_of r c.session.lines)) Waited (done_by sites c.session.instance r.line s.labels s.plan)) same.same

  act_alike : (r q : Running R) → IsSameStand stands r q → (who : Actor) → goes_on_by stands sites d slot q who ≡ goes_on_by stands sites c slot r who
  act_alike r q same actor.Nobody = refl
  act_alike r q same actor.Request = requests_do r q same
  act_alike r q same (actor.Way a) = ap (λ (i : Instance). gone_by sites i q.line a) alike.session.instance ∙ ap (λ line. gone_by sites c.session.instance line a) same.line
  act_alike r q same (actor.Release x) = refl

  run_alike : (r q : Running R) → IsSameStand stands r q → polled_in stands sites d slot (Some (occupant.Running q)) ≡ polled_in stands sites c slot (Some (occupant.Running r))
  run_alike r q same = ap (goes_on_by stands sites d slot q) (actor_alike stands slot c d alike) ∙ act_alike r q same (actor_at stands slot c)

  -- ---- any slot

  -- with the same in it
  same_held : (o : Option (Occupant R)) → running_in o ≡ None → polled_in stands sites d slot o ≡ polled_in stands sites c slot o
  same_held None free =
      ap (λ who. cond (slot == 0) (releases sites d.session.instance who) Nothing) (actor_alike stands slot c d alike)
      ∙ ap (λ (i : Instance). cond (slot == 0) (releases sites i (actor_at stands slot c)) Nothing) alike.session.instance
  same_held (Some (occupant.Refused line refusal)) free = ap (λ (s : SiteId). Refused s line (reply.Refused refusal)) alike.session.home
  same_held (Some (occupant.Running r)) free = absurd (none-some r (sym free))

  held_alike : (o n : Option (Occupant R)) → IsAlikeIn stands o n → polled_in stands sites d slot n ≡ polled_in stands sites c slot o
  held_alike (Some (occupant.Running r)) (Some (occupant.Running q)) same = run_alike r q same
  held_alike (Some (occupant.Running r)) (Some (occupant.Refused line x)) same = absurd (none-some r (ap running_in same))
  held_alike (Some (occupant.Running r)) None same = absurd (none-some r (ap running_in same))
  held_alike (Some (occupant.Refused line x)) n same = ap (polled_in stands sites d slot) same ∙ same_held (Some (occupant.Refused line x)) refl
  held_alike None n same = ap (polled_in stands sites d slot) same ∙ same_held None refl

  polled_client : polled stands sites slot (Some d) ≡ polled stands sites slot (Some c)
  polled_client = held_alike (held_in slot c.session.slots) (held_in slot d.session.slots) (alike.session.slots slot)

-- of clients that are there, or of none
pub polled_alike : {R : Type 0} (stands : R → Standing) (sites : Sites) (slot : ℕ) (o n : Option (ClientView R)) → IsClientAlikeIf stands o n
    → polled stands sites slot n ≡ polled stands sites slot o
polled_alike stands sites slot None n alike = ap (polled stands sites slot) alike
polled_alike stands sites slot (Some c) None alike = absurd alike
polled_alike stands sites slot (Some c) (Some d) alike = polled_client stands sites slot c d alike
