-- Where an instance is stopped: what each of its slots wanted then is what it may still send, by
-- what who acted there knew; and its lines that have no reply are lost.
use Rattle.std.specs.List.{range_with_len}
use Rattle.std.proofs.Common.{◌≡◌, ◌≢◌, ◌⊎◌, inl, inr, ℕ, ◌≤◌, ◌<◌, ◌==◌, cond, Bool, true, false, List, [], ◌∷◌, map, is_some, Option, Some, None, refl, sym, ap, ◌∙◌, subst, arith}
use Rattle.std.proofs.lemmas.Bool.{cases_lt, eq-eqb, true≢false, ne_eqb}
use Rattle.std.proofs.lemmas.List.{get_or_past}
use Rattle.std.proofs.lemmas.List.FromFn.{get_or-map-range_with_len, length-map-range_with_len}
use Rattle.std.proofs.lemmas.Option.{none-some, same_Some}
use Rattle.rbd_client.specs.declared.actor.Actor.{Actor}
use Rattle.rbd_client.specs.declared.actor.Actor.TheVariants as actor
use Rattle.rbd_client.specs.Actor.{actor_at, op_wanted}
use Rattle.rbd_client.specs.Client.{ClientView}
use Rattle.rbd_knowledge.specs.ClientsKnowing.{known_on_way, known_to, known_to_release}
use Rattle.rbd_knowledge.specs.Truth.{IsTrueOf}
use Rattle.rbd_knowledge.proofs.Acts.{acts_beside_own}
use Rattle.rbd_knowledge.proofs.HeadersOwned.{knows_by_lock}
use Rattle.rbd_knowledge.proofs.Permitted.{does_what_it_may, knows_truly}
use Rattle.rbd_knowledge.proofs.Releases.{beside_release, release_knows_no_header}
use Rattle.rbd_knowledge.proofs.Ways.{beside_way, way_knows_no_header}
use Rattle.rbd_kinds.specs.declared.id.Instance.{Instance}
use Rattle.rbd_kinds.specs.declared.id.SiteId.{SiteId}
use Rattle.rbd_kinds.specs.declared.operation.Op.{Op}
use Rattle.rbd_machine.specs.Knowledge.{Knowledge, nothing_known, is_drawn}
use Rattle.rbd_machine.specs.Plan.{Standing}
use Rattle.rbd_machine.specs.Refused.{AreGiven}
use Rattle.rbd_interference.specs.Ancestors.{HasReadTruly}
use Rattle.rbd_interference.specs.Beside.{AreBeside, MayAct}
use Rattle.rbd_interference.specs.Locks.{KnowsByLock}
use Rattle.rbd_interference.proofs.Nothing.{nothing_is_beside, nothing_is_read}
use Rattle.rbd_interference.proofs.Together.{beside_mutual}
use Rattle.rbd_slots.specs.declared.running.Occupant.{Occupant}
use Rattle.rbd_slots.specs.declared.running.Occupant.TheVariants as occupant
use Rattle.rbd_slots.specs.Session.{held_in, script_line}
use Rattle.rbd_site.specs.Records.{Records}
use Rattle.rbd_world.specs.declared.event.Event.TheVariants as event
use Rattle.rbd_world.specs.Order.{AreWritesInOrder}
use Rattle.rbd_world.specs.Run.{Asked, Happening, Life, Sent, Stopped, asked_by, flat_after, is_line_among, life_after, life_behind, records_after, sent_after, sent_of, steps_of}
use Rattle.rbd_machine.specs.Standalone.{TellAllStandalone}
use Rattle.rbd_machine.specs.declared.seat.Seat.{Seat}
use Rattle.rbd_world.specs.Seats.{seat_at}
use Rattle.rbd_world.specs.Past.{HadNoHeader}
use Rattle.rbd_world.specs.Sound.{AreLivesOf, AreStrangers, Holder, InSlot, Sending, IsHeldRightly, IsInSlot, IsLedTo, IsLiving, IsLostOf, IsOpen, IsSoundWorld, IsStop, MayStillCome, held_of, known_in, line_at, SendsRightly, TakesAlone, WasLeft}
use Rattle.rbd_world.specs.Step.{Does, DoesAtSites, LivesOnIf, lost_by, stopped, wanted_in_slots}
use Rattle.rbd_world.specs.World.{LateView, LivesView, WorldView, client_in, late_at, late_of, lives_in, records_in, running_of, sent_in, session_of_client}
use Rattle.rbd_world.proofs.ReadTruly.{acted_reads}
use Rattle.rbd_world.proofs.Unborn.{acted_drawn}
use Rattle.rbd_world.proofs.Acting.{by_no_lock}
use Rattle.rbd_world.proofs.Carried.{IsCarried, whole_in}
use Rattle.rbd_world.proofs.Changed.{lives_there, same_or_other}
use Rattle.rbd_world.proofs.Elsewhere.{beside_as, known_but, known_there, lives_still, living_still, nothing_beside, unknown_looks}
use Rattle.rbd_world.proofs.LetGo.{other_instance}
use Rattle.rbd_lock.specs.Acquire.{op_of}
use Rattle.rbd_lock.specs.declared.acquire.Acquire.{Acquire}
use Rattle.rbd_slots.specs.declared.running.Running.{Running}
use Rattle.rbd_world.proofs.OnWay.{takes_alone}
use Rattle.rbd_world.proofs.Left.{left_on}
use Rattle.rbd_world.proofs.LeftWanted.{for_whom, left_of, recalls_of, whose_slot}
use Rattle.rbd_world.proofs.Lost.{among_ascending, are_distinct, ascending_increases, found_from, is_found, lines_in}
use Rattle.rbd_world.proofs.OrderedWorld.{order_on}
use Rattle.rbd_world.proofs.Quiet.{IsQuiet, quiet_stopped}
use Rattle.rbd_world.proofs.Rest.{StaysTrue, same_true, still_may_come, where_standing}
use Rattle.rbd_world.proofs.Slots.{not_open, open_back}
use Rattle.rbd_world.proofs.TakesNone.{wanted_behind_watch}
use Rattle.rbd_world.proofs.Unowned.{open_unowned}
use Rattle.rbd_session.specs.Close.{unwatch}
use Rattle.rbd_lock.specs.Steps.{lock_take}
use Rattle.rbd_world.proofs.Closing.{none_takes_beside, who_unwatches}
use Rattle.rbd_world.proofs.OwnersWatch.{owner_of}

-- ---- what each slot wanted

wanted_at : {T : Type 0} (f : ℕ → Option T) (count x : ℕ) (p : T) → held_in x (map f (range_with_len 0 count)) ≡ Some p → f x ≡ Some p
wanted_at f count x p is = by (cases_lt x count)
  where
    by : (x < count) ⊎ (count ≤ x) → f x ≡ Some p
    by (inl less) = sym (get_or-map-range_with_len f 0 count x x None less (omega arith)) ∙ is
    by (inr past) =
        let long = length-map-range_with_len f 0 count in
        absurd (none-some p (sym (get_or_past (map f (range_with_len 0 count)) x None (omega (arith, long, past))) ∙ is))

-- who sends nothing goes by nothing
abbrev sends_by : Option (SiteId × Op) → Knowledge → Knowledge
sends_by None k = nothing_known
sends_by (Some p) k = k

unless_sent : (P : Knowledge → Type 0) (o : Option (SiteId × Op)) (k : Knowledge) → P nothing_known → P k → P (sends_by o k)
unless_sent P None k nothing goes = nothing
unless_sent P (Some p) k nothing goes = goes

-- whoever acts is beside whom the request is beside
acting_beside : (s : SiteId) (r : Records) (me you : Instance) (k j : Knowledge) → AreBeside s r me you k j → (a : Actor) → AreBeside s r me you (known_to k a) j
acting_beside s r me you k j beside actor.Nobody = nothing_is_beside s r me you j
acting_beside s r me you k j beside actor.Request = beside
acting_beside s r me you k j beside (actor.Way a) = beside_mutual s r you me j (known_on_way a) (beside_way s r you me j a)
acting_beside s r me you k j beside (actor.Release x) = beside_mutual s r you me j (known_to_release x) (beside_release s r you me j x)

-- ---- a line in a slot

module _ {R : Type 0} (stands : R → Standing) where
  lost_of : (homes : ℕ → SiteId) (seat : Seat) (who : Instance) (run : List Happening) (o : Option (Occupant R)) (line : ℕ) → seat_at homes who.session ≡ seat → script_line o ≡ Some line
      → IsHeldRightly stands seat who run o → IsLostOf homes who line run
  lost_of homes seat who run None line same is held = absurd (none-some line is)
  lost_of homes seat who run (Some (occupant.Refused number refusal)) line same is held =
      subst (λ n. IsLostOf homes who n run) (same_Some number line is)
      (record {
        begun = held.begun;
        mine = held.mine;
        plan = held.start.plan;
        led =
            subst (λ (i : Instance). IsLedTo (seat_at homes i.session) held.begun.asked.command (steps_of number run) held.start.plan) (sym held.mine)
            (subst (λ h. IsLedTo h held.begun.asked.command (steps_of number run) held.start.plan) (sym same)
            (record { start = held.start; plan = held.plan; feds = []; walk = (held.none, refl); given = subst AreGiven (sym held.none) tt; standalone = subst TellAllStandalone (sym held.none) tt }));
      })
  lost_of homes seat who run (Some (occupant.Running r)) line same is held =
      subst (λ n. IsLostOf homes who n run) (same_Some r.line line is)
      (record {
        begun = held.begun;
        mine = held.mine;
        plan = (stands r.request).plan;
        led =
            subst (λ (i : Instance). IsLedTo (seat_at homes i.session) held.begun.asked.command (steps_of r.line run) (stands r.request).plan) (sym held.mine)
            (subst (λ h. IsLedTo h held.begun.asked.command (steps_of r.line run) (stands r.request).plan) (sym same)
            (record { start = held.start; plan = held.plan; feds = held.feds; walk = held.walk; given = held.given; standalone = held.standalone }));
      })

-- the life of the session that was stopped
pub record IsGone {R : Type 0} (new : WorldView R) (session : ℕ) (l : LivesView R) (late : LateView) : Type 0 where
  pub behind : LivesView R
  pub is : lives_in session new.lives ≡ Some behind
  pub home : behind.home ≡ l.home
  pub latest : behind.latest ≡ l.latest
  pub runs : behind.running ≡ None
  pub sends : behind.late ≡ Some late

module _ {R : Type 0} (stands : R → Standing) (old new : WorldView R) (w : IsSoundWorld stands old) (session : ℕ) (c : ClientView R) (there : client_in session old.lives ≡ Some c)
    (others : (m : ℕ) → m ≢ session → lives_in m new.lives ≡ lives_in m old.lives) (at_sites : DoesAtSites (stopped stands (Some c)) old.sites new.sites) (l : LivesView R)
    (was_there : lives_in session old.lives ≡ Some l) (ran : l.running ≡ Some c) (gone : IsGone new session l (record { instance = c.session.instance; wanted = wanted_in_slots stands c })) where
  abbrev who : Instance
  who = c.session.instance

  abbrev lost : List ℕ
  lost = lost_by stands c

  abbrev h : Happening
  h = Stopped who (wanted_in_slots stands c) lost

  abbrev knew : ℕ → Knowledge
  knew = known_in w.knows session

  living : IsLiving stands (w.told.homes session) session w.told.run knew c
  living = w.clients session c there

  mine : AreLivesOf w.told.run (w.told.homes session) session l
  mine = w.told.lives session l was_there

  stays : (s : SiteId) → StaysTrue stands old new w s (records_in s new.sites)
  stays s = same_true stands old new w s (records_in s new.sites) (at_sites.records s)

  -- ---- its lines

  abbrev line_of : ℕ → Option ℕ
  line_of x = script_line (held_in x c.session.slots)

  at_session : (x : ℕ) → line_at session x old.lives ≡ line_of x
  at_session x = ap (λ o. script_line (held_of x (session_of_client o))) there

  is_lost : (x line : ℕ) → line_of x ≡ Some line → is_line_among line lost ≡ true
  is_lost x line is = by (cases_lt x 65)
    where
      by : (x < 65) ⊎ (65 ≤ x) → is_line_among line lost ≡ true
      by (inl less) = among_ascending line (lines_in line_of (range_with_len 0 65)) ∙ is_found line_of 0 65 x line (omega arith) (omega (arith, less)) is
      by (inr past) =
          let long = living.sound.session.slots in
          absurd (none-some line (sym (ap script_line (get_or_past c.session.slots x None (omega (arith, long, past)))) ∙ is))

  in_slot : (line : ℕ) → is_line_among line lost ≡ true → (x : ℕ) × (line_of x ≡ Some line)
  in_slot line is =
      let found = found_from line_of 0 65 line (sym (among_ascending line (lines_in line_of (range_with_len 0 65))) ∙ is) in (found.slot, found.is)

  lost_in : (m x line : ℕ) (q : ClientView R) → client_in m old.lives ≡ Some q → script_line (held_in x q.session.slots) ≡ Some line → IsLostOf w.told.homes q.session.instance line w.told.run
  lost_in m x line q is at =
      let lives = w.clients m q is in
      lost_of stands w.told.homes (seat_at w.told.homes m) q.session.instance w.told.run (held_in x q.session.slots) line (ap (seat_at w.told.homes) lives.whose) at (lives.held x)

  -- whoever began a line is in its slot's session
  whose_line : (m x line : ℕ) (asked : Asked) → line_at m x old.lives ≡ Some line → asked_by line w.told.run ≡ Some asked → asked.who.session ≡ m
  whose_line m x line asked at is = by (client_in m old.lives) refl at
    where
      by : (o : Option (ClientView R)) → client_in m old.lives ≡ o → script_line (held_of x (session_of_client o)) ≡ Some line → asked.who.session ≡ m
      by None none at = absurd (none-some line at)
      by (Some q) runs at =
          let theirs = lost_in m x line q runs at in
          ap (λ (a : Asked). a.who.session) (same_Some asked theirs.begun.asked (sym is ∙ theirs.begun.is)) ∙ ap (λ (i : Instance). i.session) theirs.mine
          ∙ (w.clients m q runs).whose

  in_one : (line x y : ℕ) → line_of x ≡ Some line → line_of y ≡ Some line → x ≡ y
  in_one line x y one two = (w.apart line session x session y (at_session x ∙ one) (at_session y ∙ two)).1

  -- what its slots want
  wants_it : (slot : ℕ) (s : SiteId) (o : Op) → held_in slot (wanted_in_slots stands c) ≡ Some (s, o) → op_wanted stands slot c ≡ Some (s, o)
  wants_it slot s o is = wanted_at (λ x. op_wanted stands x c) 65 slot (s, o) is

  sends : SendsRightly who (wanted_in_slots stands c) w.told.run
  sends = record {
    takes = λ slot s o is. wanted_behind_watch stands (seat_at w.told.homes session) slot c who w.told.run living.watches (living.held slot) s o (wants_it slot s o is);
    unowned = λ slot s image is lock.
        let u = who_unwatches stands c living.sound (seat_at w.told.homes session) who w.told.run living.held living.first slot s image (wants_it slot s (unwatch image) is) in
        let way = subst (IsHeldRightly stands (seat_at w.told.homes session) who w.told.run) u.is (living.held slot) in
        open_unowned w.told.homes u.request.line s image w.told.run w.told.right way.begun u.gone (ap owner_of lock.there ∙ lock.owner ∙ ap Some (sym way.mine));
    lone = λ slot there s image ends takes.
        none_takes_beside stands c living.sound (seat_at w.told.homes session) who w.told.run living.held living.first slot there s image (wants_it slot s (unwatch image) ends)
        (wants_it there s (lock_take image) takes);
  }

  alone : (x : ℕ) (r : Running R) → held_in x c.session.slots ≡ Some (occupant.Running r) → (a : Acquire) → actor_at stands x c ≡ actor.Way a → TakesAlone who a.site (op_of a) w.told.run
  alone x r holds a acts = takes_alone stands old new w session x c there r holds a acts

  due : IsStop w.told.homes who (wanted_in_slots stands c) lost w.told.run
  due = record {
    runs = living.runs;
    each = λ line is. let (x, at) = in_slot line is in lost_in session x line c there at;
    all = λ line begun own.
        let found = w.slots line begun in
        let same : found.session ≡ session = sym (whose_line found.session found.slot line begun.asked found.is begun.is) ∙ ap (λ (i : Instance). i.session) own ∙ living.whose in
        is_lost found.slot line (sym (at_session found.slot) ∙ ap (λ i. line_at i found.slot old.lives) (sym same) ∙ found.is);
    ascends = ascending_increases (lines_in line_of (range_with_len 0 65))
        (are_distinct line_of (λ x y line one two. in_one line x y one two) 0 65);
    by = for_whom stands w.told.homes session w.told.run knew c living lost is_lost alone;
    left = λ x p is. left_of stands w.told.homes session w.told.run knew c living lost is_lost alone x p (wanted_at (λ slot. op_wanted stands slot c) 65 x p is);
    apart = λ line x y one two.
        in_one line x y (whose_slot stands w.told.homes session w.told.run knew c living lost is_lost alone line x one) (whose_slot stands w.told.homes session w.told.run knew c living lost is_lost alone line y two);
    sends = sends;
  }

  -- ---- who is elsewhere

  client_gone : client_in session new.lives ≡ None
  client_gone = ap running_of gone.is ∙ gone.runs

  was : (m : ℕ) (q : ClientView R) → m ≢ session → client_in m new.lives ≡ Some q → client_in m old.lives ≡ Some q
  was m q differ is = sym (ap running_of (others m differ)) ∙ is

  not_here : (m : ℕ) (q : ClientView R) → client_in m new.lives ≡ Some q → m ≡ session → ⊥
  not_here m q is same = none-some q (sym client_gone ∙ ap (λ i. client_in i new.lives) (sym same) ∙ is)

  elsewhere : (m : ℕ) (q : ClientView R) → client_in m new.lives ≡ Some q → m ≢ session
  elsewhere m q is same = not_here m q is same

  line_elsewhere : (m x : ℕ) → m ≢ session → line_at m x new.lives ≡ line_at m x old.lives
  line_elsewhere m x differ = ap (λ o. script_line (held_of x (session_of_client (running_of o)))) (others m differ)

  line_was : (m x line : ℕ) → line_at m x new.lives ≡ Some line → line_at m x old.lives ≡ Some line
  line_was m x line is = by (same_or_other m session)
    where
      by : (m ≡ session) ⊎ (m ≢ session) → line_at m x old.lives ≡ Some line
      by (inr differ) = sym (line_elsewhere m x differ) ∙ is
      by (inl same) =
          absurd (none-some line (sym (ap (λ i. line_at i x new.lives) same ∙ ap (λ o. script_line (held_of x (session_of_client o))) client_gone) ∙ is))

  quiet_at : (m x line : ℕ) → m ≢ session → line_at m x old.lives ≡ Some line → IsQuiet line h
  quiet_at m x line differ at = quiet_stopped line who (wanted_in_slots stands c) lost (by (is_line_among line lost) refl)
    where
      by : (b : Bool) → is_line_among line lost ≡ b → b ≡ false
      by false is = refl
      by true is = let (y, own) = in_slot line is in absurd (differ (w.apart line m x session y at (at_session y ∙ own)).0)

  quiet_of : (m : ℕ) (q : ClientView R) → m ≢ session → client_in m old.lives ≡ Some q → (x line : ℕ) → script_line (held_in x q.session.slots) ≡ Some line → IsQuiet line h
  quiet_of m q differ is x line at = quiet_at m x line differ (ap (λ o. script_line (held_of x (session_of_client o))) is ∙ at)

  slots_now : (line : ℕ) → IsOpen line (h ∷ w.told.run) → IsInSlot line new.lives
  slots_now line begun = by (is_line_among line lost) refl
    where
      by : (b : Bool) → is_line_among line lost ≡ b → IsInSlot line new.lives
      by true is = absurd (not_open line h w.told.run is begun)
      by false is =
          let found = w.slots line (open_back line h w.told.run (quiet_stopped line who (wanted_in_slots stands c) lost is) begun) in
          go found (same_or_other found.session session)
        where
          go : (found : IsInSlot line old.lives) → (found.session ≡ session) ⊎ (found.session ≢ session) → IsInSlot line new.lives
          go found (inr differ) = record { session = found.session; slot = found.slot; is = line_elsewhere found.session found.slot differ ∙ found.is }
          go found (inl same) =
              absurd
              (not_open line h w.told.run (is_lost found.slot line (sym (at_session found.slot) ∙ ap (λ i. line_at i found.slot old.lives) (sym same) ∙ found.is)) begun)

  -- ---- lives

  still_elsewhere : (m : ℕ) → m ≢ session → (x : Life) → life_behind m h x ≡ x
  still_elsewhere m differ x =
      ap (λ b. cond b (record { number = x.number; runs = false }) x) (ne_eqb who.session m (λ same. differ (sym same ∙ living.whose)))

  lives_now : (m : ℕ) (k : LivesView R) → lives_in m new.lives ≡ Some k → AreLivesOf (h ∷ w.told.run) (w.told.homes m) m k
  lives_now m k is = by (same_or_other m session)
    where
      here : AreLivesOf (h ∷ w.told.run) (w.told.homes session) session gone.behind
      here = record {
        home_is = gone.home ∙ mine.home_is;
        whose = ap (λ (i : Instance). i.session) gone.latest ∙ mine.whose;
        life =
            ap (λ b. cond b (record { number = (life_after session w.told.run).number; runs = false }) (life_after session w.told.run)) (eq-eqb who.session session living.whose)
            ∙ ap (λ (x : Life). record { number = x.number; runs = false }) mine.life ∙ ap (λ (i : Instance). record { number = i.life; runs = false }) (sym gone.latest)
            ∙ ap (λ o. record { number = gone.behind.latest.life; runs = is_some o }) (sym gone.runs);
        latest = λ q runs. absurd (none-some q (sym gone.runs ∙ runs));
        most = λ v late.
            let same : v.instance ≡ gone.behind.latest = ap (λ (z : LateView). z.instance) (same_Some v _ (sym late ∙ gone.sends)) ∙ mine.latest c ran ∙ sym gone.latest in
            let life = ap (λ (i : Instance). i.life) same in
            omega (arith, life);
        older = λ v late q runs. absurd (none-some q (sym gone.runs ∙ runs));
      }

      by : (m ≡ session) ⊎ (m ≢ session) → AreLivesOf (h ∷ w.told.run) (w.told.homes m) m k
      by (inr differ) = lives_still stands (w.told.homes m) m h w.told.run (still_elsewhere m differ) k (w.told.lives m k (sym (others m differ) ∙ is))
      by (inl same) =
          subst (λ i. AreLivesOf (h ∷ w.told.run) (w.told.homes i) i k) (sym same)
          (subst (AreLivesOf (h ∷ w.told.run) (w.told.homes session) session) (same_Some gone.behind k (sym gone.is ∙ ap (λ i. lives_in i new.lives) (sym same) ∙ is)) here)

  -- ---- what is known then

  abbrev wanted : ℕ → Option (SiteId × Op)
  wanted x = held_in x (wanted_in_slots stands c)

  -- what who acted at a slot knew
  abbrev knew_at : ℕ → Knowledge
  knew_at x = known_to (knew x) (actor_at stands x c)

  abbrev knows_sent : ℕ → Knowledge
  knows_sent x = sends_by (wanted x) (knew_at x)

  abbrev who_then : Holder → Instance
  who_then (InSlot m x) = w.who (InSlot m x)
  who_then (Sending m x) = cond (m == session) who (w.who (Sending m x))

  abbrev knows_then : Holder → Knowledge
  knows_then (InSlot m x) = known_but w.knows session m x
  knows_then (Sending m x) = cond (m == session) (knows_sent x) (w.knows (Sending m x))

  who_here : (m x : ℕ) → m ≡ session → who_then (Sending m x) ≡ who
  who_here m x same = ap (λ b. cond b who (w.who (Sending m x))) (eq-eqb m session same)

  knows_here : (m x : ℕ) → m ≡ session → knows_then (Sending m x) ≡ knows_sent x
  knows_here m x same = ap (λ b. cond b (knows_sent x) (w.knows (Sending m x))) (eq-eqb m session same)

  who_elsewhere : (m x : ℕ) → m ≢ session → who_then (Sending m x) ≡ w.who (Sending m x)
  who_elsewhere m x differ = ap (λ b. cond b who (w.who (Sending m x))) (ne_eqb m session differ)

  knows_elsewhere : (m x : ℕ) → m ≢ session → knows_then (Sending m x) ≡ w.knows (Sending m x)
  knows_elsewhere m x differ = ap (λ b. cond b (knows_sent x) (w.knows (Sending m x))) (ne_eqb m session differ)

  -- ---- what may still come

  late_here : (x : ℕ) → late_at session x new.lives ≡ sent_of who (wanted x)
  late_here x = ap (λ o. sent_in x (late_of o)) gone.is ∙ ap (sent_in x) gone.sends

  late_elsewhere : (m x : ℕ) → m ≢ session → late_at m x new.lives ≡ late_at m x old.lives
  late_elsewhere m x differ = ap (λ o. sent_in x (late_of o)) (others m differ)

  late_at_it : (m x : ℕ) → m ≡ session → late_at m x new.lives ≡ sent_of who (wanted x)
  late_at_it m x same = ap (λ i. late_at i x new.lives) same ∙ late_here x

  late_now : (m x : ℕ) → late_at m x new.lives ≡ sent_after m x (h ∷ w.told.run)
  late_now m x = by (same_or_other m session)
    where
      by : (m ≡ session) ⊎ (m ≢ session) → late_at m x new.lives ≡ sent_after m x (h ∷ w.told.run)
      by (inl same) = late_at_it m x same ∙ sym (ap (λ b. cond b (sent_of who (wanted x)) (sent_after m x w.told.run)) (eq-eqb who.session m (living.whose ∙ sym same)))
      by (inr differ) =
          late_elsewhere m x differ ∙ w.late m x
          ∙ sym (ap (λ b. cond b (sent_of who (wanted x)) (sent_after m x w.told.run)) (ne_eqb who.session m (λ same. differ (sym same ∙ living.whose))))

  -- who goes by a header has its lock
  locks_by : (x : ℕ) (s : SiteId) (a : Actor) → KnowsByLock s (records_in s old.sites) who (known_to (knew x) a)
  locks_by x s actor.Nobody = by_no_lock s (records_in s old.sites) who nothing_known (λ image. refl)
  locks_by x s actor.Request = knows_by_lock c knew x s (records_in s old.sites) who (w.truth session c there s)
  locks_by x s (actor.Way a) = by_no_lock s (records_in s old.sites) who (known_on_way a) (λ image. way_knows_no_header a s image)
  locks_by x s (actor.Release r) = by_no_lock s (records_in s old.sites) who (known_to_release r) (λ image. release_knows_no_header r s image)

  sent_before : (x : ℕ) (p : SiteId × Op) → wanted x ≡ Some p → MayStillCome session (λ s. records_in s old.sites) (record { instance = who; site = p.0; op = p.1 }) (knew_at x)
  sent_before x p is = record {
    whose = living.whose;
    permits = does_what_it_may stands x c knew p.0 p.1 living.know (wanted_at (λ slot. op_wanted stands slot c) 65 x p is);
    truth = λ s. knows_truly stands x c knew s (records_in s old.sites) who (w.truth session c there s);
    locks = λ s. locks_by x s (actor_at stands x c);
  }

  sent_now : (x : ℕ) (y : Sent) (o : Option (SiteId × Op)) → wanted x ≡ o → sent_of who o ≡ Some y
      → (who ≡ y.instance) × MayStillCome session (λ s. records_in s new.sites) y (sends_by o (knew_at x))
  sent_now x y None is sent = absurd (none-some y sent)
  sent_now x y (Some p) is sent =
      let same = same_Some _ y sent in (
        ap (λ (z : Sent). z.instance) same,
        subst (λ (z : Sent). MayStillCome session (λ s. records_in s new.sites) z (knew_at x)) same
            (still_may_come stands old new w (λ s. records_in s new.sites) stays session (record { instance = who; site = p.0; op = p.1 }) (knew_at x) (sent_before x p is)),
      )

  sending_now : (m x : ℕ) (y : Sent) → late_at m x new.lives ≡ Some y → (m ≡ session) ⊎ (m ≢ session)
      → (who_then (Sending m x) ≡ y.instance) × MayStillCome m (λ s. records_in s new.sites) y (knows_then (Sending m x))
  sending_now m x y is (inl same) =
      let sent = sent_now x y (wanted x) refl (sym (late_at_it m x same) ∙ is) in (
        who_here m x same ∙ sent.0,
        subst (MayStillCome m (λ s. records_in s new.sites) y) (sym (knows_here m x same))
            (subst (λ i. MayStillCome i (λ s. records_in s new.sites) y (knows_sent x)) (sym same) sent.1),
      )
  sending_now m x y is (inr differ) =
      let before = w.sending m x y (sym (late_elsewhere m x differ) ∙ is) in (
        who_elsewhere m x differ ∙ before.0,
        subst (MayStillCome m (λ s. records_in s new.sites) y) (sym (knows_elsewhere m x differ)) (still_may_come stands old new w (λ s. records_in s new.sites) stays m y _ before.1),
      )

  left_by : (x : ℕ) (y : Sent) (o : Option (SiteId × Op)) → wanted x ≡ o → sent_of who o ≡ Some y
      → WasLeft w.told.homes x y.instance y.site y.op (sends_by o (knew_at x)) (h ∷ w.told.run)
  left_by x y None is sent = absurd (none-some y sent)
  left_by x y (Some p) is sent =
      subst (λ (z : Sent). WasLeft w.told.homes x z.instance z.site z.op (knew_at x) (h ∷ w.told.run)) (same_Some _ y sent)
      (record {
        wanted = wanted_in_slots stands c;
        lost = lost;
        until = w.told.run;
        since = [];
        are = refl;
        last = refl;
        by = for_whom stands w.told.homes session w.told.run knew c living lost is_lost alone x;
        left = left_of stands w.told.homes session w.told.run knew c living lost is_lost alone x p (wanted_at (λ slot. op_wanted stands slot c) 65 x p is);
        recalls = recalls_of stands w.told.homes session w.told.run knew c living lost is_lost alone x p (wanted_at (λ slot. op_wanted stands slot c) 65 x p is);
      })

  left_now : (m x : ℕ) (y : Sent) → late_at m x new.lives ≡ Some y → (m ≡ session) ⊎ (m ≢ session)
      → WasLeft w.told.homes x y.instance y.site y.op (knows_then (Sending m x)) (h ∷ w.told.run)
  left_now m x y is (inl same) =
      subst (λ k. WasLeft w.told.homes x y.instance y.site y.op k (h ∷ w.told.run)) (sym (knows_here m x same)) (left_by x y (wanted x) refl (sym (late_at_it m x same) ∙ is))
  left_now m x y is (inr differ) =
      let before = sym (late_elsewhere m x differ) ∙ is in
      subst (λ k. WasLeft w.told.homes x y.instance y.site y.op k (h ∷ w.told.run)) (sym (knows_elsewhere m x differ))
      (left_on w.told.homes x y.instance y.site y.op (w.knows (Sending m x)) h w.told.run
      (ne_eqb who.session y.instance.session (λ same. differ (sym (w.sending m x y before).1.whose ∙ sym same ∙ living.whose))) (w.was_left m x y before))

  none_sent : (o : Option (SiteId × Op)) (k : Knowledge) → sent_of who o ≡ None → sends_by o k ≡ nothing_known
  none_sent None k is = refl
  none_sent (Some p) k is = absurd (none-some _ (sym is))

  unsent_now : (m x : ℕ) → late_at m x new.lives ≡ None → (m ≡ session) ⊎ (m ≢ session) → knows_then (Sending m x) ≡ nothing_known
  unsent_now m x is (inl same) = knows_here m x same ∙ none_sent (wanted x) (knew_at x) (sym (late_at_it m x same) ∙ is)
  unsent_now m x is (inr differ) = knows_elsewhere m x differ ∙ w.unsent m x (sym (late_elsewhere m x differ) ∙ is)

  -- ---- who may look

  looks_by : (x y : ℕ) (s : SiteId) (o : Op) → x ≢ y → op_wanted stands x c ≡ Some (s, o) → (r : Records) (a : Actor) → MayAct s r who who (knew_at x) (known_to (knew y) a) o
  looks_by x y s o differ is r actor.Nobody = unknown_looks s r who who (knew_at x) nothing_known (λ image. refl) o
  looks_by x y s o differ is r actor.Request = acts_beside_own stands c knew living.sound living.know r who who x y s o differ is
  looks_by x y s o differ is r (actor.Way a) = unknown_looks s r who who (knew_at x) (known_on_way a) (λ image. way_knows_no_header a s image) o
  looks_by x y s o differ is r (actor.Release z) = unknown_looks s r who who (knew_at x) (known_to_release z) (λ image. release_knows_no_header z s image) o

  looks_sent : (x y : ℕ) → x ≢ y → (z : Sent) (o : Option (SiteId × Op)) → wanted x ≡ o → sent_of who o ≡ Some z → (r : Records)
      → MayAct z.site r who who (sends_by o (knew_at x)) (knows_sent y) z.op
  looks_sent x y differ z None is sent r = absurd (none-some z sent)
  looks_sent x y differ z (Some p) is sent r =
      subst (λ (v : Sent). MayAct v.site r who who (knew_at x) (knows_sent y) v.op) (same_Some _ z sent)
      (unless_sent (λ j. MayAct p.0 r who who (knew_at x) j p.1) (wanted y) (knew_at y) (unknown_looks p.0 r who who (knew_at x) nothing_known (λ image. refl) p.1)
      (looks_by x y p.0 p.1 differ (wanted_at (λ slot. op_wanted stands slot c) 65 x p is) r (actor_at stands y c)))

  looks_as : (s : SiteId) (r : Records) (o : Op) (me you : Instance) (k j : Knowledge) (i v : Instance) (q p : Knowledge) → me ≡ i → you ≡ v → k ≡ q → j ≡ p → MayAct s r i v q p o
      → MayAct s r me you k j o
  looks_as s r o me you k j i v q p one two three four may =
      subst (λ a. MayAct s r a you k j o) (sym one)
      (subst (λ a. MayAct s r i a k j o) (sym two) (subst (λ a. MayAct s r i v a j o) (sym three) (subst (λ a. MayAct s r i v q a o) (sym four) may)))

  drops_now : (m x y : ℕ) (z : Sent) → x ≢ y → late_at m x new.lives ≡ Some z → (r : Records) → (m ≡ session) ⊎ (m ≢ session)
      → MayAct z.site r (who_then (Sending m x)) (who_then (Sending m y)) (knows_then (Sending m x)) (knows_then (Sending m y)) z.op
  drops_now m x y z differ is r (inl same) =
      looks_as z.site r z.op (who_then (Sending m x)) (who_then (Sending m y)) (knows_then (Sending m x)) (knows_then (Sending m y)) who who (knows_sent x) (knows_sent y)
      (who_here m x same) (who_here m y same) (knows_here m x same) (knows_here m y same)
      (looks_sent x y differ z (wanted x) refl (sym (late_at_it m x same) ∙ is) r)
  drops_now m x y z differ is r (inr apart) =
      looks_as z.site r z.op (who_then (Sending m x)) (who_then (Sending m y)) (knows_then (Sending m x)) (knows_then (Sending m y)) (w.who (Sending m x)) (w.who (Sending m y)) (w.knows (Sending m x))
      (w.knows (Sending m y)) (who_elsewhere m x apart) (who_elsewhere m y apart) (knows_elsewhere m x apart) (knows_elsewhere m y apart)
      (w.drops m x y z differ (sym (late_elsewhere m x apart) ∙ is) r)

  -- ---- who is beside whom

  -- who knows: nobody any more, what the instance sends, or somebody of another session
  data Whose (g : Holder) : Type 0 where
    Silent : knows_then g ≡ nothing_known → Whose g
    Mine : (x : ℕ) → g ≡ Sending session x → Whose g
    Theirs : who_then g ≡ w.who g → knows_then g ≡ w.knows g → ((x : ℕ) → AreStrangers (InSlot session x) g) → Whose g

  whose : (g : Holder) → Whose g
  whose (InSlot m x) = by (same_or_other m session)
    where
      by : (m ≡ session) ⊎ (m ≢ session) → Whose (InSlot m x)
      by (inl same) = Silent (ap (λ b. cond b nothing_known (w.knows (InSlot m x))) (eq-eqb m session same))
      by (inr differ) = Theirs refl (ap (λ b. cond b nothing_known (w.knows (InSlot m x))) (ne_eqb m session differ)) (λ y same. differ (sym same))
  whose (Sending m x) = by (same_or_other m session)
    where
      by : (m ≡ session) ⊎ (m ≢ session) → Whose (Sending m x)
      by (inl same) = Mine x (ap (λ i. Sending i x) same)
      by (inr differ) = Theirs (who_elsewhere m x differ) (knows_elsewhere m x differ) (λ y. tt)

  -- what the request in a slot knew, and what its slot sends
  sent_beside : (s : SiteId) (you : Instance) (j : Knowledge) (x : ℕ) → AreBeside s (records_in s new.sites) who you (knew x) j → AreBeside s (records_in s new.sites) who you (knows_sent x) j
  sent_beside s you j x beside =
      unless_sent (λ k. AreBeside s (records_in s new.sites) who you k j) (wanted x) (knew_at x) (nothing_is_beside s (records_in s new.sites) who you j)
      (acting_beside s (records_in s new.sites) who you (knew x) j beside (actor_at stands x c))

  -- beside somebody of another session
  beside_theirs : (s : SiteId) (x : ℕ) (g : Holder) → AreStrangers (InSlot session x) g → AreBeside s (records_in s new.sites) who (w.who g) (knows_sent x) (w.knows g)
  beside_theirs s x g apart =
      sent_beside s (w.who g) (w.knows g) x
      ((stays s).beside who (w.who g) (knew x) (w.knows g)
      (subst (λ i. AreBeside s (records_in s old.sites) i (w.who g) (knew x) (w.knows g)) (w.in_slots session x c there) (w.beside (InSlot session x) g apart s)))

  -- beside another slot of its own
  beside_mine : (s : SiteId) (x y : ℕ) → x ≢ y → AreBeside s (records_in s new.sites) who who (knows_sent x) (knows_sent y)
  beside_mine s x y differ =
      sent_beside s who (knows_sent y) x
      (beside_mutual s (records_in s new.sites) who who (knows_sent y) (knew x)
      (sent_beside s who (knew x) y
      ((stays s).beside who who (knew y) (knew x) ((w.truth session c there s).beside y x (λ same. differ (sym same))))))

  mine_beside : (s : SiteId) (x : ℕ) (g : Holder) → who_then g ≡ w.who g → knows_then g ≡ w.knows g → AreStrangers (InSlot session x) g
      → AreBeside s (records_in s new.sites) (who_then (Sending session x)) (who_then g) (knows_then (Sending session x)) (knows_then g)
  mine_beside s x g same also apart =
      beside_as s (records_in s new.sites) who (who_then (Sending session x)) (w.who g) (who_then g) (knows_sent x) (knows_then (Sending session x)) (w.knows g) (knows_then g)
      (who_here session x refl) same (knows_here session x refl) also (beside_theirs s x g apart)

  beside_now : (a g : Holder) → AreStrangers a g → (s : SiteId) → AreBeside s (records_in s new.sites) (who_then a) (who_then g) (knows_then a) (knows_then g)
  beside_now a g apart s = by (whose a) (whose g)
    where
      slots_differ : (x y : ℕ) → a ≡ Sending session x → g ≡ Sending session y → x ≢ y
      slots_differ x y one two same = go (subst (λ v. AreStrangers v (Sending session y)) one (subst (AreStrangers a) two apart))
        where
          go : (session ≢ session) ⊎ (x ≢ y) → ⊥
          go (inl differ) = differ refl
          go (inr differ) = differ same

      by : Whose a → Whose g → AreBeside s (records_in s new.sites) (who_then a) (who_then g) (knows_then a) (knows_then g)
      by (Silent none) other =
          subst (λ k. AreBeside s (records_in s new.sites) (who_then a) (who_then g) k (knows_then g)) (sym none) (nothing_is_beside s (records_in s new.sites) (who_then a) (who_then g) (knows_then g))
      by (Mine x one) (Silent none) =
          subst (AreBeside s (records_in s new.sites) (who_then a) (who_then g) (knows_then a)) (sym none) (nothing_beside s (records_in s new.sites) (who_then a) (who_then g) (knows_then a))
      by (Theirs one same strange) (Silent none) =
          subst (AreBeside s (records_in s new.sites) (who_then a) (who_then g) (knows_then a)) (sym none) (nothing_beside s (records_in s new.sites) (who_then a) (who_then g) (knows_then a))
      by (Mine x one) (Mine y two) =
          subst (λ v. AreBeside s (records_in s new.sites) (who_then v) (who_then g) (knows_then v) (knows_then g)) (sym one)
          (subst (λ v. AreBeside s (records_in s new.sites) (who_then (Sending session x)) (who_then v) (knows_then (Sending session x)) (knows_then v)) (sym two)
          (beside_as s (records_in s new.sites) who (who_then (Sending session x)) who (who_then (Sending session y)) (knows_sent x) (knows_then (Sending session x)) (knows_sent y)
          (knows_then (Sending session y)) (who_here session x refl) (who_here session y refl) (knows_here session x refl) (knows_here session y refl)
          (beside_mine s x y (slots_differ x y one two))))
      by (Mine x one) (Theirs two also strange) =
          subst (λ v. AreBeside s (records_in s new.sites) (who_then v) (who_then g) (knows_then v) (knows_then g)) (sym one) (mine_beside s x g two also (strange x))
      by (Theirs one same strange) (Mine y two) =
          subst (λ v. AreBeside s (records_in s new.sites) (who_then a) (who_then v) (knows_then a) (knows_then v)) (sym two)
          (beside_mutual s (records_in s new.sites) (who_then (Sending session y)) (who_then a) (knows_then (Sending session y)) (knows_then a) (mine_beside s y a one same (strange y)))
      by (Theirs one same strange) (Theirs two also strange_too) =
          beside_as s (records_in s new.sites) (w.who a) (who_then a) (w.who g) (who_then g) (w.knows a) (knows_then a) (w.knows g) (knows_then g) one two same also
          ((stays s).beside (w.who a) (w.who g) (w.knows a) (w.knows g) (w.beside a g apart s))

  -- ---- all of it

  clients_now : (m : ℕ) (q : ClientView R) → client_in m new.lives ≡ Some q → IsLiving stands (w.told.homes m) m (h ∷ w.told.run) (known_but w.knows session m) q
  clients_now m q is =
      let differ = elsewhere m q is in
      let before = was m q differ is in
      subst (λ k. IsLiving stands (w.told.homes m) m (h ∷ w.told.run) k q) (sym (known_there w.knows session m differ))
      (living_still stands (w.told.homes m) m h w.told.run (still_elsewhere m differ) (known_in w.knows m) q (quiet_of m q differ before)
      (other_instance who q.session.instance (λ same. differ (sym (w.clients m q before).whose ∙ sym same ∙ living.whose)), λ s image. refl) (w.clients m q before))

  truth_now : (m : ℕ) (q : ClientView R) → client_in m new.lives ≡ Some q → (s : SiteId) → IsTrueOf s (records_in s new.sites) q.session.instance (known_but w.knows session m) q
  truth_now m q is s =
      let differ = elsewhere m q is in
      subst (λ k. IsTrueOf s (records_in s new.sites) q.session.instance k q) (sym (known_there w.knows session m differ))
      ((stays s).clients q.session.instance (known_in w.knows m) q (w.truth m q (was m q differ is) s))

  nobody_now : (m : ℕ) → client_in m new.lives ≡ None → (x : ℕ) → (m ≡ session) ⊎ (m ≢ session) → knows_then (InSlot m x) ≡ nothing_known
  nobody_now m is x (inl same) = ap (λ b. cond b nothing_known (w.knows (InSlot m x))) (eq-eqb m session same)
  nobody_now m is x (inr differ) =
      ap (λ b. cond b nothing_known (w.knows (InSlot m x))) (ne_eqb m session differ) ∙ w.nobody m (sym (ap running_of (others m differ)) ∙ is) x

  order_now : (m : ℕ) (q : ClientView R) → client_in m new.lives ≡ Some q → AreWritesInOrder stands (w.told.homes m) q.session.instance (h ∷ w.told.run) q.session
  order_now m q is =
      let differ = elsewhere m q is in
      let before = was m q differ is in
      order_on stands old new w h due m q before (quiet_of m q differ before) (λ other writer. refl)

  -- ---- ids that are known to be drawn

  sent_drawn : (x : ℕ) (s : SiteId) (image : ℕ) → is_drawn (knows_sent x).drawn s image ≡ true → is_drawn (knew x).drawn s image ≡ true
  sent_drawn x s image = by (wanted x)
    where
      by : (o : Option (SiteId × Op)) → is_drawn (sends_by o (knew_at x)).drawn s image ≡ true → is_drawn (knew x).drawn s image ≡ true
      by None drawn = absurd (true≢false (sym drawn))
      by (Some p) drawn = acted_drawn (knew x) (actor_at stands x c) s image drawn

  new_now : (g : Holder) (s : SiteId) (image : ℕ) → is_drawn (knows_then g).drawn s image ≡ true → HadNoHeader s image w.told.run
  new_now g s image drawn = by (whose g)
    where
      by : Whose g → HadNoHeader s image w.told.run
      by (Silent none) = absurd (true≢false (sym drawn ∙ ap (λ (k : Knowledge). is_drawn k.drawn s image) none))
      by (Mine x one) =
          w.new (InSlot session x) s image
          (sent_drawn x s image (subst (λ (k : Knowledge). is_drawn k.drawn s image ≡ true) (knows_here session x refl) (subst (λ v. is_drawn (knows_then v).drawn s image ≡ true) one drawn)))
      by (Theirs one same strange) = w.new g s image (subst (λ (k : Knowledge). is_drawn k.drawn s image ≡ true) same drawn)

  -- ---- what was read of snapshots

  abbrev Reads : SiteId → Knowledge → Type 0
  Reads s k = HasReadTruly s (records_after s w.told.run) (flat_after s w.told.run) k

  nothing_reads : (s : SiteId) → Reads s nothing_known
  nothing_reads s = nothing_is_read s (records_after s w.told.run) (flat_after s w.told.run)

  sent_reads : (x : ℕ) (s : SiteId) → Reads s (knows_sent x)
  sent_reads x s =
      unless_sent (Reads s) (wanted x) (knew_at x) (nothing_reads s)
      (acted_reads s (records_after s w.told.run) (flat_after s w.told.run) (knew x) (actor_at stands x c) (w.reads (InSlot session x) s))

  reads_then : (g : Holder) (s : SiteId) → Reads s (knows_then g)
  reads_then g s = by (whose g)
    where
      by : Whose g → Reads s (knows_then g)
      by (Silent none) = subst (Reads s) (sym none) (nothing_reads s)
      by (Mine x one) = subst (Reads s) (sym (ap knows_then one ∙ knows_here session x refl)) (sent_reads x s)
      by (Theirs one same strange) = subst (Reads s) (sym same) (w.reads g s)

  stopping_keeps : IsCarried stands old new w h
  stopping_keeps = record {
    who = who_then;
    knows = knows_then;
    carries = record {
      standing = where_standing w.told.homes w.told.run w.told.right;
      due = due;
      whole = λ s. (stays s).whole (whole_in stands old w s);
      lives = lives_now;
      clients = clients_now;
      in_slots = λ m x q is. w.in_slots m x q (was m q (elsewhere m q is) is);
      nobody = λ m is x. nobody_now m is x (same_or_other m session);
      apart = λ line m x other y one two. w.apart line m x other y (line_was m x line one) (line_was other y line two);
      slots = slots_now;
      truth = truth_now;
      late = late_now;
      sending = λ m x y is. sending_now m x y is (same_or_other m session);
      was_left = λ m x y is. left_now m x y is (same_or_other m session);
      unsent = λ m x is. unsent_now m x is (same_or_other m session);
      drops = λ m x y z differ is r. drops_now m x y z differ is r (same_or_other m session);
      beside = beside_now;
      none_yet = new_now;
      reads = reads_then;
      owes = tt;
      turn = tt;
      in_order = order_now;
    };
  }

module _ {R : Type 0} (stands : R → Standing) where
  is_gone : (old new : WorldView R) (session : ℕ) (c : ClientView R) (l : LivesView R) → lives_in session old.lives ≡ Some l
      → Does stands (event.Stop session) (stopped stands (Some c)) old new → IsGone new session l (record { instance = c.session.instance; wanted = wanted_in_slots stands c })
  is_gone old new session c l there does =
      by (lives_in session new.lives) refl
      (subst (λ o. LivesOnIf stands (event.Stop session) (stopped stands (Some c)) o (lives_in session new.lives)) there (does.named session (eq-eqb session session refl)))
    where
      by : (o : Option (LivesView R)) → lives_in session new.lives ≡ o → LivesOnIf stands (event.Stop session) (stopped stands (Some c)) (Some l) o
          → IsGone new session l (record { instance = c.session.instance; wanted = wanted_in_slots stands c })
      by None is on = absurd on
      by (Some m) is on = record { behind = m; is = is; home = on.home; latest = on.latest; runs = on.running; sends = on.late }

  pub stopped_keeps : (old new : WorldView R) (w : IsSoundWorld stands old) (session : ℕ) (c : ClientView R) → client_in session old.lives ≡ Some c
      → Does stands (event.Stop session) (stopped stands (Some c)) old new → DoesAtSites (stopped stands (Some c)) old.sites new.sites → IsCarried stands old new w (stopped stands (Some c))
  stopped_keeps old new w session c there does at_sites =
      let has = lives_there session old.lives c there in
      stopping_keeps stands old new w session c there (λ m differ. does.others m (ne_eqb session m (λ same. differ (sym same)))) at_sites has.lives_are has.there has.runs
      (is_gone old new session c has.lives_are has.there does)
