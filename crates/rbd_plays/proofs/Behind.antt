-- Clients that stand alike stand alike behind what an event does to both.
use Rattle.std.proofs.Common.{◌≡◌, ◌≢◌, ◌⊎◌, inl, inr, ℕ, true, Option, sym, ap, ◌∙◌, subst}
use Rattle.std.proofs.lemmas.Bool.{cases_eq}
use Rattle.rbd_client.proofs.Alike.{actor_alike}
use Rattle.rbd_client.specs.Actor.{actor_at}
use Rattle.rbd_client.specs.Client.{ClientView, heard_with, newcomer, slot_state}
use Rattle.rbd_client.specs.Feeding.{IsClientAlike, IsFedBy}
use Rattle.rbd_commands.specs.Quiescing.{quiescing_of}
use Rattle.rbd_commands.specs.declared.command.Command.{Command}
use Rattle.rbd_kinds.specs.declared.machine.Fed.TheVariants as fed
use Rattle.rbd_kinds.specs.declared.notice.Notice.{Notice}
use Rattle.rbd_kinds.specs.declared.reply.Reply.{Reply}
use Rattle.rbd_lock.specs.Locks.{heard, lock_state_at}
use Rattle.rbd_machine.specs.Plan.{Standing}
use Rattle.rbd_machine.specs.declared.seat.Seat.{Seat}
use Rattle.rbd_catalog.specs.Plans.{IsPlanFor, is_built}
use Rattle.rbd_catalog.specs.Profile.{changed_extent}
use Rattle.rbd_slots.specs.Lines.{lines_of}
use Rattle.rbd_slots.specs.Session.{IsAlikeIn, IsNewcomer, SessionView, held_in, seat_of}
use Rattle.rbd_world.specs.Run.{Operation}
use Rattle.rbd_world.specs.Step.{AreSlotsBut, AreStatesBut, BeginsIn, Goes, Hears, IsSameClient, Serves}
use Rattle.rbd_schedule.specs.Slots.{IsCounted}
use Rattle.rbd_plays.proofs.FedAlike.{EndsAlike, RunsOnWay, acts_alike}
use Rattle.rbd_plays.proofs.Newcomers.{newcomers_alike}
use Rattle.rbd_plays.proofs.Seen.{counted_and_alike}

module _ {R : Type 0} (stands : R → Standing) where
  -- nothing but a slot changes
  pub record ChangesAt (slot : ℕ) (old new : ClientView R) : Type 0 where
    pub slots : AreSlotsBut slot old.session new.session
    pub states : AreStatesBut slot old new
    pub client : IsSameClient old.session new.session

  module _ (c d x y : ClientView R) (alike : IsClientAlike stands c d) (counted : IsCounted x) (also : IsCounted y) where
    -- ---- one slot

    other_held : (slot : ℕ) → ChangesAt slot c x → ChangesAt slot d y → (other : ℕ) → other ≢ slot → IsAlikeIn stands (held_in other x.session.slots) (held_in other y.session.slots)
    other_held slot at there other differ =
        subst (λ o. IsAlikeIn stands o (held_in other y.session.slots)) (sym (at.slots other differ))
        (subst (IsAlikeIn stands (held_in other c.session.slots)) (sym (there.slots other differ)) (alike.session.slots other))

    at_slot : (slot : ℕ) → ChangesAt slot c x → ChangesAt slot d y → y.heard ≡ x.heard → EndsAlike stands slot x y → IsClientAlike stands x y
    at_slot slot at there heard ends =
        counted_and_alike stands x y counted also (
        record {
          instance = there.client.instance ∙ alike.session.instance ∙ sym at.client.instance;
          home = there.client.home ∙ alike.session.home ∙ sym at.client.home;
          held = λ n. held n (cases_eq n slot);
          lines = ends.lines;
          locks = ends.locks;
          states = λ n. states n (cases_eq n slot);
          release = ends.release;
          heard = heard;
        }
        )
      where
        held : (n : ℕ) → (n ≡ slot) ⊎ (n ≢ slot) → IsAlikeIn stands (held_in n x.session.slots) (held_in n y.session.slots)
        held n (inl same) = subst (λ k. IsAlikeIn stands (held_in k x.session.slots) (held_in k y.session.slots)) (sym same) ends.held
        held n (inr differ) = other_held slot at there n differ

        states : (n : ℕ) → (n ≡ slot) ⊎ (n ≢ slot) → slot_state n y.slots ≡ slot_state n x.slots
        states n (inl same) = subst (λ k. slot_state k y.slots ≡ slot_state k x.slots) (sym same) ends.state
        states n (inr differ) = there.states n differ ∙ ap (λ (ss : _). slot_state n ss) alike.slots ∙ sym (at.states n differ)

    -- ---- a command begins

    begin_held : (line : ℕ) (k : Command) → is_built k ≡ true → BeginsIn stands line k c x → BeginsIn stands line k d y
        → IsAlikeIn stands (held_in c.session.lowest x.session.slots) (held_in c.session.lowest y.session.slots)
    begin_held line k built is other =
        newcomers_alike stands (seat_of c.session) line k built (held_in c.session.lowest x.session.slots) (held_in c.session.lowest y.session.slots) is.begins.held
        (subst (λ n. IsNewcomer stands IsPlanFor changed_extent (seat_of c.session) line k (held_in n y.session.slots)) alike.session.lowest
        (subst (λ (seat : Seat). IsNewcomer stands IsPlanFor changed_extent seat line k (held_in d.session.lowest y.session.slots)) same_seat other.begins.held))
      where
        same_seat : seat_of d.session ≡ seat_of c.session
        same_seat =
            ap (λ i. record { session = i.session; home = d.session.home }) alike.session.instance
            ∙ ap (λ h. record { session = c.session.instance.session; home = h }) alike.session.home

    pub begins_alike : (line : ℕ) (k : Command) → is_built k ≡ true → BeginsIn stands line k c x → BeginsIn stands line k d y → IsClientAlike stands x y
    begins_alike line k built is other =
        at_slot c.session.lowest (record { slots = is.begins.slots; states = is.states; client = is.begins.client })
        (subst (λ n. ChangesAt n d y) alike.session.lowest (record { slots = other.begins.slots; states = other.states; client = other.begins.client }))
        (other.house.heard ∙ alike.heard ∙ sym is.house.heard) (
        record {
          held = begin_held line k built is other;
          lines = ap lines_of other.begins.lines ∙ alike.session.lines ∙ sym (ap lines_of is.begins.lines);
          locks = λ s image. ap (lock_state_at s image) other.house.locks ∙ alike.locks s image ∙ sym (ap (lock_state_at s image) is.house.locks);
          state = subst (λ n. slot_state n y.slots ≡ newcomer (quiescing_of k)) alike.session.lowest other.state ∙ sym is.state;
          release = other.house.release ∙ alike.release ∙ sym is.house.release;
        }
        )

    -- ---- a slot goes on

    pub goes_alike : (slot : ℕ) (o : Operation) (reply : Option Reply) → RunsOnWay slot c (actor_at stands slot c)
        → Goes stands slot o reply c x → Goes stands slot o reply d y → IsClientAlike stands x y
    goes_alike slot o reply runs is other =
        at_slot slot (record { slots = is.slots; states = is.states; client = is.client }) (record { slots = other.slots; states = other.states; client = other.client })
        (other.heard ∙ alike.heard ∙ sym is.heard)
        (acts_alike stands slot c d x y alike o.site o.op (fed.Answer o.answer) reply (actor_at stands slot c) runs is.fed
        (subst (IsFedBy stands slot o.site o.op (fed.Answer o.answer) reply d y) (actor_alike stands slot c d alike) other.fed))

    -- ---- one that is refused at once has its reply

    pub serves_alike : (slot : ℕ) → Serves stands slot c x → Serves stands slot d y → IsClientAlike stands x y
    serves_alike slot is other =
        at_slot slot (record { slots = is.slots; states = is.states; client = is.client }) (record { slots = other.slots; states = other.states; client = other.client })
        (other.house.heard ∙ alike.heard ∙ sym is.house.heard) (
        record {
          held = subst (λ o. IsAlikeIn stands o (held_in slot y.session.slots)) (sym is.held) other.held;
          lines = ap lines_of other.lines ∙ alike.session.lines ∙ sym (ap lines_of is.lines);
          locks = λ s image. ap (lock_state_at s image) other.house.locks ∙ alike.locks s image ∙ sym (ap (lock_state_at s image) is.house.locks);
          state = also.free slot other.held ∙ sym (counted.free slot is.held);
          release = other.house.release ∙ alike.release ∙ sym is.house.release;
        }
        )

    -- ---- a notice is heard

    pub hears_alike : (notice : Notice) → Hears stands notice c x → Hears stands notice d y → IsClientAlike stands x y
    hears_alike notice is other =
        counted_and_alike stands x y counted also (
        record {
          instance = ap (λ (s : SessionView R). s.instance) other.session ∙ alike.session.instance ∙ sym (ap (λ (s : SessionView R). s.instance) is.session);
          home = ap (λ (s : SessionView R). s.home) other.session ∙ alike.session.home ∙ sym (ap (λ (s : SessionView R). s.home) is.session);
          held = λ n.
              subst (λ (s : SessionView R). IsAlikeIn stands (held_in n s.slots) (held_in n y.session.slots)) (sym is.session)
              (subst (λ (s : SessionView R). IsAlikeIn stands (held_in n c.session.slots) (held_in n s.slots)) (sym other.session) (alike.session.slots n));
          lines = ap (λ (s : SessionView R). lines_of s.lines) other.session ∙ alike.session.lines ∙ sym (ap (λ (s : SessionView R). lines_of s.lines) is.session);
          locks = λ s image. other.locks s image ∙ ap (heard notice s image) (alike.locks s image) ∙ sym (is.locks s image);
          states = λ n. ap (slot_state n) (other.slots ∙ alike.slots ∙ sym is.slots);
          release = other.release ∙ alike.release ∙ sym is.release;
          heard = other.told ∙ ap (heard_with notice) alike.heard ∙ sym is.told;
        }
        )

    -- ---- nothing happens to it

    pub stays_alike : x ≡ c → y ≡ d → IsClientAlike stands x y
    stays_alike same other = subst (λ z. IsClientAlike stands z y) (sym same) (subst (λ z. IsClientAlike stands c z) (sym other) alike)
