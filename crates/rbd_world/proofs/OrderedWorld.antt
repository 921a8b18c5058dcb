-- The clients of a world keep their writes in order, where one of them changes, or none.
use Rattle.std.proofs.Common.{◌≡◌, ◌≢◌, ◌⊎◌, inl, inr, ℕ, false, List, [], ◌∷◌, Option, Some, None, refl, sym, ap, ◌∙◌, subst}
use Rattle.std.proofs.lemmas.Bool.{true≢false}
use Rattle.std.specs.Prelude.{IsSome}
use Rattle.std.proofs.lemmas.Option.{none-some, same_Some}
use Rattle.rbd_client.specs.Client.{ClientView}
use Rattle.rbd_client.specs.Feeding.{IsGivenUp}
use Rattle.rbd_kinds.specs.declared.id.Instance.{Instance}
use Rattle.rbd_kinds.specs.declared.id.SiteId.{SiteId}
use Rattle.rbd_kinds.specs.declared.reply.Reply.{Reply}
use Rattle.rbd_queue.specs.Line.{Member, member_of}
use Rattle.rbd_machine.specs.Plan.{Standing}
use Rattle.rbd_slots.specs.declared.running.Occupant.{Occupant}
use Rattle.rbd_slots.specs.declared.running.Occupant.TheVariants as occupant
use Rattle.rbd_slots.specs.declared.running.Running.{Running}
use Rattle.rbd_slots.specs.Advance.{IsSameStand, track_of}
use Rattle.rbd_slots.specs.Lines.{LinesView, lines_of}
use Rattle.rbd_slots.specs.OnTrack.{LeavesOthers}
use Rattle.rbd_slots.specs.Session.{SessionView, IsAlike, IsAlikeIn, held_in, running_at, running_in, script_line}
use Rattle.rbd_slots.specs.Track.{ended_by}
use Rattle.rbd_slots.proofs.Others.{ended_leaves}
use Rattle.rbd_world.specs.Order.{AreWritesInOrder, IsInTurn, IsWriterOf}
use Rattle.rbd_world.specs.Run.{Asked, Did, Happening, Operation, asked_by, is_own, or_asked, steps_in}
use Rattle.rbd_world.specs.Seats.{seat_at}
use Rattle.rbd_machine.specs.declared.seat.Seat.{Seat}
use Rattle.rbd_world.specs.Sound.{IsDue, IsHeldRightly, IsSoundWorld, IsUnderWay}
use Rattle.rbd_world.specs.Step.{AreSlotsBut, IsClientAlikeIf}
use Rattle.rbd_world.specs.World.{WorldView, client_in}
use Rattle.rbd_world.proofs.Changed.{same_or_other}
use Rattle.rbd_world.proofs.KeptAhead.{KeepsAhead, ended_keeps, member_left_alone}
use Rattle.rbd_world.proofs.Orderly.{WasThere, quiet_order, same_order, still_order}
use Rattle.rbd_world.proofs.Quiet.{IsQuiet}

-- ---- an operation that no command does itself is no write

pub no_turn : (o : Operation) (reply : Option Reply) (run : List Happening) → ((line : ℕ) → is_own line o.by ≡ false) → IsInTurn (Did o reply) run
no_turn o reply run none who line image number own writer writes = absurd (true≢false (sym own ∙ none line))

module _ {R : Type 0} (stands : R → Standing) where
  pub running_line : (o : Option (Occupant R)) (q : Running R) → running_in o ≡ Some q → script_line o ≡ Some q.line
  running_line None q is = absurd (none-some q is)
  running_line (Some (occupant.Refused line refusal)) q is = absurd (none-some q is)
  running_line (Some (occupant.Running r)) q is = ap (λ (p : Running R). Some p.line) (same_Some r q is)

  same_itself : (r : Running R) → IsSameStand stands r r
  same_itself r = record { same = refl; line = refl; extent = refl; place = refl; turn = refl }

  module _ (home : SiteId) (who : Instance) (run : List Happening) where
    -- ---- a session without requests

    pub none_in_order : (c : SessionView R) → ((x : ℕ) → running_at x c ≡ None) → AreWritesInOrder stands home who run c
    none_in_order c none = record {
      extents = λ x r runs. absurd (none-some r (sym (none x) ∙ runs));
      comes = λ x r runs. absurd (none-some r (sym (none x) ∙ runs));
      in_line = λ x y r q runs. absurd (none-some r (sym (none x) ∙ runs));
      past = λ x r runs. absurd (none-some r (sym (none x) ∙ runs));
    }

    -- ---- a slot whose request doesn't run any more

    -- who runs then ran before, in another slot
    pub ran_elsewhere : (slot : ℕ) (c d : SessionView R) → AreSlotsBut slot c d → running_at slot d ≡ None → (x : ℕ) (q : Running R) → running_at x d ≡ Some q → (x ≢ slot) × (running_at x c ≡ Some q)
    ran_elsewhere slot c d slots none x q runs = by (same_or_other x slot)
      where
        by : (x ≡ slot) ⊎ (x ≢ slot) → (x ≢ slot) × (running_at x c ≡ Some q)
        by (inl same) = absurd (none-some q (sym none ∙ sym (ap (λ i. running_at i d) same) ∙ runs))
        by (inr differ) = (differ, sym (ap running_in (slots x differ)) ∙ runs)

    pub freed_order : (slot : ℕ) (c d : SessionView R) → AreSlotsBut slot c d → d.lines ≡ c.lines → running_at slot d ≡ None → AreWritesInOrder stands home who run c → AreWritesInOrder stands home who run d
    freed_order slot c d slots lines none =
        same_order stands home who run c d
        (λ x q runs. record { was = q; there = (ran_elsewhere slot c d slots none x q runs).1; same = same_itself q })
        (λ s image. ap (λ (ls : LinesView). lines_of ls s image) lines)

    -- so it is where it left its line
    pub left_order : (slot : ℕ) (c d : SessionView R) → AreSlotsBut slot c d → LeavesOthers slot (lines_of c.lines) (lines_of d.lines) → KeepsAhead slot (lines_of c.lines) (lines_of d.lines)
        → running_at slot d ≡ None → AreWritesInOrder stands home who run c → AreWritesInOrder stands home who run d
    left_order slot c d slots leaves keeps none old = record {
      extents = λ x q runs. old.extents x q (was x q runs).1;
      comes = λ x q runs. old.comes x q (was x q runs).1;
      in_line = λ x y q p runs also writes other_writes s image earlier member.
          let one = was x q runs in
          let two = was y p also in
          let there = sym (member_left_alone y (lines_of c.lines s image) (lines_of d.lines s image) (leaves y two.0 s image)) ∙ member in
          keeps x y one.0 two.0 s image there (old.in_line x y q p one.1 two.1 writes other_writes s image earlier there);
      past = λ x q runs writes other writer s image number earlier written m found.
          let one = was x q runs in
          old.past x q one.1 writes other writer s image number earlier written m (sym (leaves x one.0 s image) ∙ found);
    }
      where
        was : (x : ℕ) (q : Running R) → running_at x d ≡ Some q → (x ≢ slot) × (running_at x c ≡ Some q)
        was = ran_elsewhere slot c d slots none

    -- a request that was refused on its way
    pub given_up_order : (slot : ℕ) (c d : SessionView R) (r : Running R) → running_at slot c ≡ Some r → IsGivenUp slot c d → AreSlotsBut slot c d → AreWritesInOrder stands home who run c → AreWritesInOrder stands home who run d
    given_up_order slot c d r runs given slots =
        left_order slot c d slots
        (λ other differ s image. ap (λ (ls : SiteId → ℕ → List Member). member_of other (ls s image)) left ∙ ended_leaves slot (track_of r c.lines) other differ s image)
        (subst (KeepsAhead slot (lines_of c.lines)) (sym left) (ended_keeps slot (track_of r c.lines)))
        (ap running_in (given.free (subst IsSome (sym runs) refl)))
      where
        left : lines_of d.lines ≡ (ended_by slot (track_of r c.lines)).lines
        left = given.left r runs

    -- ---- a session that is the same but for what it is ready for

    record WasIn (o : Option (Occupant R)) (q : Running R) : Type 0 where
      was : Running R
      there : running_in o ≡ Some was
      same : IsSameStand stands was q

    alike_in : (o p : Option (Occupant R)) (q : Running R) → IsAlikeIn stands o p → running_in p ≡ Some q → WasIn o q
    alike_in (Some (occupant.Running r)) (Some (occupant.Running p)) q alike is = record { was = r; there = refl; same = subst (IsSameStand stands r) (same_Some p q is) alike }
    alike_in (Some (occupant.Running r)) (Some (occupant.Refused line refusal)) q alike is = absurd (none-some q is)
    alike_in (Some (occupant.Running r)) None q alike is = absurd (none-some q is)
    alike_in (Some (occupant.Refused line refusal)) p q alike is = absurd (none-some q (sym (ap running_in alike) ∙ is))
    alike_in None p q alike is = absurd (none-some q (sym (ap running_in alike) ∙ is))

    pub alike_order : (c d : SessionView R) → IsAlike stands c d → AreWritesInOrder stands home who run c → AreWritesInOrder stands home who run d
    alike_order c d alike =
        same_order stands home who run c d
        (λ x q runs. by x q (alike_in (held_in x c.slots) (held_in x d.slots) q (alike.slots x) runs))
        (λ s image. ap (λ (ls : SiteId → ℕ → List Member). ls s image) alike.lines)
      where
        by : (x : ℕ) (q : Running R) → WasIn (held_in x c.slots) q → WasThere stands home who run x c q
        by x q w = record { was = w.was; there = w.there; same = w.same }

  -- a client that is the same but for that
  pub alike_order_if : (home : SiteId) (run : List Happening) (o n : Option (ClientView R)) → IsClientAlikeIf stands o n
      → ((c : ClientView R) → o ≡ Some c → AreWritesInOrder stands home c.session.instance run c.session) → (d : ClientView R) → n ≡ Some d → AreWritesInOrder stands home d.session.instance run d.session
  alike_order_if home run None n alike old d is = absurd (none-some d (sym alike ∙ is))
  alike_order_if home run (Some c) None alike old d is = elim alike [ ]
  alike_order_if home run (Some c) (Some e) alike old d is =
      subst (λ (v : ClientView R). AreWritesInOrder stands home v.session.instance run v.session) (same_Some e d is)
      (subst (λ i. AreWritesInOrder stands home i run e.session) (sym alike.session.instance)
      (alike_order home c.session.instance run c.session e.session alike.session (old c refl)))

  -- the request that a slot holds is under way
  held_under_way : (seat : Seat) (who : Instance) (run : List Happening) (o : Option (Occupant R)) (r : Running R) → running_in o ≡ Some r → IsHeldRightly stands seat who run o
      → IsUnderWay stands seat who run r
  held_under_way seat who run None r is held = absurd (none-some r is)
  held_under_way seat who run (Some (occupant.Refused line refusal)) r is held = absurd (none-some r is)
  held_under_way seat who run (Some (occupant.Running q)) r is held = subst (IsUnderWay stands seat who run) (same_Some q r is) held

  -- ---- a world where something happened

  module _ (old new : WorldView R) (w : IsSoundWorld stands old) (h : Happening) (due : IsDue w.told.homes h w.told.run) where
    -- a client for whose requests it is nothing
    pub order_on : (m : ℕ) (q : ClientView R) → client_in m old.lives ≡ Some q → ((x line : ℕ) → script_line (held_in x q.session.slots) ≡ Some line → IsQuiet line h)
        → ((other : ℕ) → IsWriterOf q.session.instance other (h ∷ w.told.run) → steps_in other h ≡ []) → AreWritesInOrder stands (w.told.homes m) q.session.instance (h ∷ w.told.run) q.session
    order_on m q there quiet foreign =
        quiet_order stands w.told.homes (w.told.homes m) q.session.instance h w.told.run q.session due w.told.right foreign
        (λ x r runs. quiet x r.line (running_line (held_in x q.session.slots) r runs)) (w.in_order m q there)

    -- one whose requests stay, where it is no operation of a write itself: on the way to a lock, of
    -- its house, or none
    pub still_in_order : (m : ℕ) (c d : ClientView R) → client_in m old.lives ≡ Some c → d.session ≡ c.session → ((line : ℕ) (before : Option Asked) → or_asked line h before ≡ before)
        → ((other : ℕ) → IsWriterOf c.session.instance other (h ∷ w.told.run) → steps_in other h ≡ []) → AreWritesInOrder stands (w.told.homes m) d.session.instance (h ∷ w.told.run) d.session
    still_in_order m c d there same asks foreign =
        subst (λ (v : SessionView R). AreWritesInOrder stands (w.told.homes m) v.instance (h ∷ w.told.run) v) (sym same)
        (still_order stands w.told.homes (w.told.homes m) c.session.instance h w.told.run c.session due w.told.right foreign
        (λ x r runs. asks r.line (asked_by r.line w.told.run)) (λ x r runs writes. foreign r.line (writer x r runs writes)) in_order)
      where
        in_order : AreWritesInOrder stands (w.told.homes m) c.session.instance w.told.run c.session
        in_order = w.in_order m c there

        writer : (x : ℕ) (r : Running R) → running_at x c.session ≡ Some r → IsSome r.extent → IsWriterOf c.session.instance r.line (h ∷ w.told.run)
        writer x r runs writes =
            let way = held_under_way (seat_at w.told.homes m) c.session.instance w.told.run (held_in x c.session.slots) r runs ((w.clients m c there).held x) in
            record {
              asked = way.begun.asked;
              is = asks r.line (asked_by r.line w.told.run) ∙ way.begun.is;
              mine = way.mine;
              writes = subst IsSome (in_order.extents x r runs way.begun.asked way.begun.is) writes;
            }

    -- a session itself, where its slot's request doesn't run
    pub order_beside : (home : SiteId) (who : Instance) (slot : ℕ) (c : SessionView R) → ((x line : ℕ) → x ≢ slot → script_line (held_in x c.slots) ≡ Some line → IsQuiet line h)
        → running_at slot c ≡ None → ((other : ℕ) → IsWriterOf who other (h ∷ w.told.run) → steps_in other h ≡ []) → AreWritesInOrder stands home who w.told.run c → AreWritesInOrder stands home who (h ∷ w.told.run) c
    order_beside home who slot c quiet none foreign =
        quiet_order stands w.told.homes home who h w.told.run c due w.told.right foreign
        (λ x r runs. quiet x r.line (λ same. none-some r (sym none ∙ sym (ap (λ i. running_at i c) same) ∙ runs)) (running_line (held_in x c.slots) r runs))

    -- all clients, where all but one stay
    pub orders_of : (session : ℕ) → ((m : ℕ) → m ≢ session → client_in m new.lives ≡ client_in m old.lives)
        → ((m : ℕ) (q : ClientView R) → m ≢ session → client_in m old.lives ≡ Some q → (x line : ℕ) → script_line (held_in x q.session.slots) ≡ Some line → IsQuiet line h)
        → ((m : ℕ) (q : ClientView R) → m ≢ session → client_in m old.lives ≡ Some q → (other : ℕ) → IsWriterOf q.session.instance other (h ∷ w.told.run) → steps_in other h ≡ [])
        → ((d : ClientView R) → client_in session new.lives ≡ Some d → AreWritesInOrder stands (w.told.homes session) d.session.instance (h ∷ w.told.run) d.session)
        → (m : ℕ) (q : ClientView R) → client_in m new.lives ≡ Some q → AreWritesInOrder stands (w.told.homes m) q.session.instance (h ∷ w.told.run) q.session
    orders_of session others quiet foreign own m q is = by (same_or_other m session)
      where
        by : (m ≡ session) ⊎ (m ≢ session) → AreWritesInOrder stands (w.told.homes m) q.session.instance (h ∷ w.told.run) q.session
        by (inl here) =
            subst (λ i. AreWritesInOrder stands (w.told.homes i) q.session.instance (h ∷ w.told.run) q.session) (sym here)
            (own q (ap (λ i. client_in i new.lives) (sym here) ∙ is))
        by (inr differ) =
            let before = sym (others m differ) ∙ is in
            order_on m q before (quiet m q differ before) (foreign m q differ before)
