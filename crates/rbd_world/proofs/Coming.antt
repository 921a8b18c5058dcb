-- Where an operation comes that a stopped life had sent: it goes by what its slot knew at the stop,
-- and the slot knows nothing then.
use Rattle.std.proofs.Common.{◌≡◌, ◌≢◌, ◌⊎◌, inl, inr, ℕ, ◌≤◌, ◌<◌, ◌==◌, ◌&&◌, cond, Bool, true, false, List, ◌∷◌, length, slice_set, is_some, Option, Some, None, refl, sym, ap, ◌∙◌, subst, arith}
use Rattle.std.specs.Prelude.{IsFalse, IsSome}
use Rattle.std.proofs.lemmas.Bool.{true≢false, cases_lt, eq-eqb, eqb-true, ne_eqb}
use Rattle.std.proofs.Math.Bool.{and-false}
use Rattle.std.proofs.Math.Nat.{lt_irrefl}
use Rattle.std.proofs.lemmas.List.{length-set, get_or-set_same, get_or-set_other, get_or_past}
use Rattle.std.proofs.lemmas.Option.{none-some, same_Some}
use Rattle.rbd_client.specs.Client.{ClientView}
use Rattle.rbd_knowledge.specs.Truth.{IsTrueOf}
use Rattle.rbd_knowledge.proofs.HeadersOwned.{knows_by_lock}
use Rattle.rbd_kinds.specs.declared.header_op.HeaderOp.TheVariants as header
use Rattle.rbd_kinds.specs.declared.map_op.MapOp.TheVariants as states
use Rattle.rbd_kinds.specs.declared.id.Instance.{Instance}
use Rattle.rbd_kinds.specs.declared.id.SiteId.{SiteId}
use Rattle.rbd_kinds.specs.declared.operation.Op.{Op}
use Rattle.rbd_kinds.specs.declared.operation.Op.TheVariants as op
use Rattle.rbd_kinds.proofs.Plain.{eqb_flip}
use Rattle.rbd_machine.specs.Knowledge.{Knowledge, nothing_known, is_drawn}
use Rattle.rbd_machine.specs.Permits.{Permits}
use Rattle.rbd_machine.specs.Plan.{Standing}
use Rattle.rbd_interference.specs.Ancestors.{DrewNoneOf, HasReadTruly}
use Rattle.rbd_interference.specs.Beside.{AreBeside, Breaks, Lowers, MayAct}
use Rattle.rbd_interference.specs.Locks.{KnowsByLock, gives_up}
use Rattle.rbd_interference.specs.Truth.{IsTrueAt, known_header}
use Rattle.rbd_interference.proofs.Locks.{breaks_by_lock, shares_by_lock}
use Rattle.rbd_interference.proofs.Nothing.{nothing_is_beside, nothing_is_read, nothing_is_true}
use Rattle.rbd_interference.proofs.Together.{alone_knows, beside_mutual, nobody_knows}
use Rattle.rbd_slots.specs.Session.{held_in, script_line}
use Rattle.rbd_site.specs.Records.{Records}
use Rattle.rbd_site.specs.Step.{is_fenced}
use Rattle.rbd_world.specs.declared.event.Event.{Event}
use Rattle.rbd_world.specs.declared.event.Event.TheVariants as event
use Rattle.rbd_world.specs.Run.{AfterStop, Happening, Sent, flat_after, records_after, sent_after, sent_of}
use Rattle.rbd_world.specs.Past.{HadNoHeader}
use Rattle.rbd_world.specs.Sound.{AreLivesOf, AreStrangers, Holder, InSlot, Sending, IsRightlyDone, IsSoundWorld, KnewTruly, MayStillCome, WasLeft, held_of, known_in, line_at}
use Rattle.rbd_world.specs.Step.{BecomesOf, Does, DoesAtSites, LivesOnIf, come, operation_at, without_sent}
use Rattle.rbd_world.specs.World.{LateView, LivesView, WorldView, client_in, late_at, late_of, lives_in, records_in, running_of, sent_in, session_of_client, site_in}
use Rattle.rbd_world.proofs.AtSites.{beside_then, is_done, known_then, locks_then, others_true, reads_kept, sending_then, stands_then, whole_then}
use Rattle.rbd_world.proofs.Carried.{IsCarried}
use Rattle.rbd_world.proofs.Changed.{IsElsewhere, here_or_elsewhere, lives_there, living_on, same_or_other}
use Rattle.rbd_world.proofs.Debts.{none_sent}
use Rattle.rbd_world.proofs.Elsewhere.{IsAs, Same, Silent, all_still, beside_still, unknown_looks, new_still}
use Rattle.rbd_world.proofs.Left.{left_on}
use Rattle.rbd_world.proofs.OrderedWorld.{no_turn, order_on}
use Rattle.rbd_world.proofs.Quiet.{IsQuiet, quiet_did}
use Rattle.rbd_world.proofs.Watching.{EndsNone, others_end_none}
use Rattle.rbd_world.proofs.Slots.{open_back, same_slots}

-- ---- slots that are let go

pub held_set_same : {T : Type 0} (slot : ℕ) (xs : List (Option T)) → held_in slot (slice_set xs slot None) ≡ None
held_set_same {T} slot xs = by (cases_lt slot (length xs))
  where
    by : (slot < length xs) ⊎ (length xs ≤ slot) → held_in slot (slice_set xs slot None) ≡ None
    by (inl less) = get_or-set_same xs slot None None less
    by (inr past) = let long = length-set xs slot None in get_or_past (slice_set xs slot None) slot None (omega (arith, long, past))

sent_set_same : (slot : ℕ) (late : Option LateView) → sent_in slot (without_sent slot late) ≡ None
sent_set_same slot None = refl
sent_set_same slot (Some v) = ap (sent_of v.instance) (held_set_same slot v.wanted)

sent_set_other : (slot x : ℕ) (late : Option LateView) → x ≢ slot → sent_in x (without_sent slot late) ≡ sent_in x late
sent_set_other slot x None differ = refl
sent_set_other slot x (Some v) differ = ap (sent_of v.instance) (get_or-set_other v.wanted slot x None None differ)

-- a life that was stopped stays the one that it was
without_is : (slot : ℕ) (late : Option LateView) (v : LateView) → without_sent slot late ≡ Some v → (P : Instance → Type 0) → ((u : LateView) → late ≡ Some u → P u.instance) → P v.instance
without_is slot None v is P each = absurd (none-some v is)
without_is slot (Some u) v is P each = subst (λ (z : LateView). P z.instance) (same_Some _ v is) (each u refl)

-- ---- who sent it

pub record HasLate {R : Type 0} (session slot : ℕ) (lives : List (LivesView R)) (x : Sent) : Type 0 where
  pub lives_are : LivesView R
  pub there : lives_in session lives ≡ Some lives_are
  pub late : LateView
  pub is : lives_are.late ≡ Some late
  pub instance : late.instance ≡ x.instance

pub late_there : {R : Type 0} (session slot : ℕ) (lives : List (LivesView R)) (x : Sent) → late_at session slot lives ≡ Some x → HasLate session slot lives x
late_there {R} session slot lives x is = by (lives_in session lives) refl is
  where
    by : (o : Option (LivesView R)) → lives_in session lives ≡ o → sent_in slot (late_of o) ≡ Some x → HasLate session slot lives x
    by None at is = absurd (none-some x is)
    by (Some l) at is = go l.late refl is
      where
        go : (o : Option LateView) → l.late ≡ o → sent_in slot o ≡ Some x → HasLate session slot lives x
        go None late is = absurd (none-some x is)
        go (Some v) late is = of (held_in slot v.wanted) is
          where
            of : (h : Option (SiteId × Op)) → sent_of v.instance h ≡ Some x → HasLate session slot lives x
            of None is = absurd (none-some x is)
            of (Some p) is = record { lives_are = l; there = at; late = v; is = late; instance = ap (λ (z : Sent). z.instance) (same_Some _ x is) }

module _ {R : Type 0} (stands : R → Standing) (old : WorldView R) (w : IsSoundWorld stands old) (session slot : ℕ) (x : Sent) (sent : late_at session slot old.lives ≡ Some x) where
  whose : x.instance.session ≡ session
  whose = (w.sending session slot x sent).1.whose

  -- of another instance than any that runs
  pub sent_by_another : (m : ℕ) (q : ClientView R) → client_in m old.lives ≡ Some q → x.instance ≢ q.session.instance
  sent_by_another m q is same = by (same_or_other m session)
    where
      by : (m ≡ session) ⊎ (m ≢ session) → ⊥
      by (inr differ) = differ (sym (w.clients m q is).whose ∙ sym (ap (λ (i : Instance). i.session) same) ∙ whose)
      by (inl here) =
          let has = late_there session slot old.lives x sent in
          let runs = lives_there session old.lives q (ap (λ i. client_in i old.lives) (sym here) ∙ is) in
          let one : runs.lives_are ≡ has.lives_are = same_Some runs.lives_are has.lives_are (sym runs.there ∙ has.there) in
          let lives : AreLivesOf w.told.run (w.told.homes session) session has.lives_are = w.told.lives session has.lives_are has.there in
          let ran : has.lives_are.running ≡ Some q = ap (λ (l : LivesView R). l.running) (sym one) ∙ runs.runs in
          let less : has.late.instance.life < has.lives_are.latest.life = lives.older has.late has.is q ran in
          let mine : has.late.instance ≡ has.lives_are.latest = has.instance ∙ same ∙ lives.latest q ran in
          lt_irrefl has.lives_are.latest.life (subst (λ (i : Instance). i.life < has.lives_are.latest.life) mine less)

  -- and than what other sessions may still send
  pub sent_by_other : (m y : ℕ) (z : Sent) → m ≢ session → late_at m y old.lives ≡ Some z → x.instance ≢ z.instance
  sent_by_other m y z differ is same = differ (sym (w.sending m y z is).1.whose ∙ sym (ap (λ (i : Instance). i.session) same) ∙ whose)

-- ---- a lock that is dropped

-- Whoever knows a header keeps its lock where another of its instance drops one, or removes a
-- header.
keeps_lock : (s : SiteId) (r : Records) (me : Instance) (k j : Knowledge) (o : Op) → Permits k s o → MayAct s r me me k j o → AreBeside s r me me k j → KnowsByLock s r me j
    → (image : ℕ) → IsSome (known_header j s image) → IsFalse (is_fenced r me) → gives_up image o ≡ false
keeps_lock s r me k j (op.Header other header.LockDrop) permits may beside locks image known free = by (image == other) refl
  where
    by : (b : Bool) → (image == other) ≡ b → b ≡ false
    by false differ = refl
    by true same =
        let told : IsSome (known_header j s other) = subst (λ n. IsSome (known_header j s n)) (eqb-true image other same) known in
        absurd (true≢false (sym told ∙ ap is_some (nobody_knows s r me me k j other (free, free) permits (may (locks other told free)))))
keeps_lock s r me k j (op.Header other header.Remove) permits may beside locks image known free = by (image == other) refl
  where
    by : (b : Bool) → (image == other) ≡ b → b ≡ false
    by false differ = refl
    by true same =
        let told : IsSome (known_header j s other) = subst (λ n. IsSome (known_header j s n)) (eqb-true image other same) known in
        absurd (true≢false (sym told ∙ ap is_some (alone_knows s r me me k j other _ (free, free) beside permits)))
keeps_lock s r me k j (op.Header other _) permits may beside locks image known free = refl
keeps_lock s r me k j _ permits may beside locks image known free = refl

-- ---- what it goes by

-- a look at a header goes by nothing, since nobody hears what it is told
abbrev unless_look : Op → Knowledge → Knowledge
unless_look (op.Header image header.Get) k = nothing_known
unless_look o k = k

less_by : (P : Knowledge → Type 0) (o : Op) (k : Knowledge) → P nothing_known → P k → P (unless_look o k)
less_by P (op.Header image header.Get) k nothing known = nothing
less_by P o k nothing known = known

less_drawn : (o : Op) (k : Knowledge) (s : SiteId) (image : ℕ) → is_drawn (unless_look o k).drawn s image ≡ true → is_drawn k.drawn s image ≡ true
less_drawn (op.Header i header.Get) k s image drawn = absurd (true≢false (sym drawn))
less_drawn o k s image drawn = drawn

less_permits : (s : SiteId) (o : Op) (k : Knowledge) → Permits k s o → Permits (unless_look o k) s o
less_permits s (op.Header image header.Get) k permits = tt
less_permits s o k permits = permits

-- it may do what it does beside whoever is another instance and knows headers by its locks
less_acts_by_locks : (s : SiteId) (r : Records) (me you : Instance) (k j : Knowledge) (o : Op) → me ≢ you → KnowsByLock s r me k → KnowsByLock s r you j → MayAct s r me you (unless_look o k) j o
less_acts_by_locks s r me you k j (op.Header image header.Get) differ mine yours = λ free some told. absurd (true≢false (sym some))
less_acts_by_locks s r me you k j (op.Header image header.LockDrop) differ mine yours = λ lock. shares_by_lock s r me you k j image differ (λ free. lock) yours
less_acts_by_locks s r me you k j (op.Data image number o) differ mine yours = breaks_by_lock s r me you k j image (Breaks o j s image number) differ mine yours
less_acts_by_locks s r me you k j (op.Map image (states.Set None number state)) differ mine yours = breaks_by_lock s r me you k j image (Lowers state j s image number) differ mine yours
less_acts_by_locks s r me you k j _ differ mine yours = tt

-- and beside whom it may act as it stands
less_acts : (s : SiteId) (r : Records) (me you : Instance) (k j : Knowledge) (o : Op) → MayAct s r me you k j o → MayAct s r me you (unless_look o k) j o
less_acts s r me you k j (op.Header image header.Get) may = λ free some told. absurd (true≢false (sym some))
less_acts s r me you k j o may = may

-- the life of its session that goes on without it
pub record GoesWithout {R : Type 0} (new : WorldView R) (session slot : ℕ) (l : LivesView R) : Type 0 where
  pub behind : LivesView R
  pub is : lives_in session new.lives ≡ Some behind
  pub home : behind.home ≡ l.home
  pub latest : behind.latest ≡ l.latest
  pub runs : behind.running ≡ l.running
  pub late : behind.late ≡ without_sent slot l.late

module _ {R : Type 0} (stands : R → Standing) (old new : WorldView R) (w : IsSoundWorld stands old) (session slot : ℕ) (x : Sent) (sent : late_at session slot old.lives ≡ Some x)
    (others : (m : ℕ) → m ≢ session → lives_in m new.lives ≡ lives_in m old.lives) (at_sites : DoesAtSites (come old.sites slot (Some x)) old.sites new.sites)
    (l : LivesView R) (there : lives_in session old.lives ≡ Some l) (goes : GoesWithout new session slot l) where
  abbrev h : Happening
  h = come old.sites slot (Some x)

  abbrev k : Knowledge
  k = w.knows (Sending session slot)

  may : MayStillCome session (λ s. records_in s old.sites) x k
  may = (w.sending session slot x sent).1

  abbrev goes_by : Knowledge
  goes_by = unless_look x.op k

  known : (s : SiteId) → IsTrueAt s (records_in s old.sites) x.instance goes_by
  known s = less_by (IsTrueAt s (records_in s old.sites) x.instance) x.op k (nothing_is_true s (records_in s old.sites) x.instance) (may.truth s)

  permits : Permits goes_by x.site x.op
  permits = less_permits x.site x.op k may.permits

  locked : KnowsByLock x.site (records_in x.site old.sites) x.instance goes_by
  locked = less_by (KnowsByLock x.site (records_in x.site old.sites) x.instance) x.op k (λ image some. absurd (true≢false (sym some))) (may.locks x.site)

  who_is : w.who (Sending session slot) ≡ x.instance
  who_is = (w.sending session slot x sent).0

  quiet : (line : ℕ) → IsQuiet line h
  quiet line = quiet_did line (operation_at (site_in x.site old.sites) x.instance (AfterStop slot) x.site x.op) None refl

  due : IsRightlyDone (operation_at (site_in x.site old.sites) x.instance (AfterStop slot) x.site x.op) w.told.run
  due =
      is_done stands old new w x.instance (AfterStop slot) x.site x.op None goes_by known permits locked at_sites
      (λ image drawn. w.new (Sending session slot) x.site image (less_drawn x.op k x.site image drawn)) tt
      (ap (λ i. sent_after i slot w.told.run) may.whose ∙ sym (w.late session slot) ∙ sent) tt

  -- what its slot knew at the stop permits it, and is true here
  truly : KnewTruly w.told.homes slot (operation_at (site_in x.site old.sites) x.instance (AfterStop slot) x.site x.op) w.told.run
  truly = record {
    knew = k;
    left = w.was_left session slot x sent;
    permits = may.permits;
    truth = subst (λ r. IsTrueAt x.site r x.instance k) (w.told.records x.site) (may.truth x.site);
  }

  -- ---- who is where

  client_same : (m : ℕ) → client_in m new.lives ≡ client_in m old.lives
  client_same m = by (same_or_other m session)
    where
      by : (m ≡ session) ⊎ (m ≢ session) → client_in m new.lives ≡ client_in m old.lives
      by (inr differ) = ap running_of (others m differ)
      by (inl same) =
          subst (λ i. client_in i new.lives ≡ client_in i old.lives) (sym same) (ap running_of goes.is ∙ goes.runs ∙ sym (ap running_of there))

  was : (m : ℕ) (q : ClientView R) → client_in m new.lives ≡ Some q → client_in m old.lives ≡ Some q
  was m q is = sym (client_same m) ∙ is

  line_same : (m y : ℕ) → line_at m y new.lives ≡ line_at m y old.lives
  line_same m y = ap (λ o. script_line (held_of y (session_of_client o))) (client_same m)

  late_here : late_at session slot new.lives ≡ None
  late_here = ap (λ o. sent_in slot (late_of o)) goes.is ∙ ap (sent_in slot) goes.late ∙ sent_set_same slot l.late

  late_elsewhere : (m y : ℕ) → IsElsewhere session slot m y → late_at m y new.lives ≡ late_at m y old.lives
  late_elsewhere m y apart = by (same_or_other m session) apart
    where
      by : (m ≡ session) ⊎ (m ≢ session) → IsElsewhere session slot m y → late_at m y new.lives ≡ late_at m y old.lives
      by (inr differ) apart = ap (λ o. sent_in y (late_of o)) (others m differ)
      by (inl same) (inl differ) = absurd (differ same)
      by (inl same) (inr differ) =
          subst (λ i. late_at i y new.lives ≡ late_at i y old.lives) (sym same)
          (ap (λ o. sent_in y (late_of o)) goes.is ∙ ap (sent_in y) goes.late ∙ sent_set_other slot y l.late differ ∙ sym (ap (λ o. sent_in y (late_of o)) there))

  lives_now : (m : ℕ) (v : LivesView R) → lives_in m new.lives ≡ Some v → AreLivesOf (h ∷ w.told.run) (w.told.homes m) m v
  lives_now m v is = by (same_or_other m session)
    where
      mine : AreLivesOf w.told.run (w.told.homes session) session l
      mine = w.told.lives session l there

      on : AreLivesOf w.told.run (w.told.homes m) m v → AreLivesOf (h ∷ w.told.run) (w.told.homes m) m v
      on a = record { home_is = a.home_is; whose = a.whose; life = a.life; latest = a.latest; most = a.most; older = a.older }

      here : AreLivesOf (h ∷ w.told.run) (w.told.homes session) session goes.behind
      here = record {
        home_is = goes.home ∙ mine.home_is;
        whose = ap (λ (i : Instance). i.session) goes.latest ∙ mine.whose;
        life =
            mine.life ∙ ap (λ (i : Instance). record { number = i.life; runs = is_some l.running }) (sym goes.latest)
            ∙ ap (λ o. record { number = goes.behind.latest.life; runs = is_some o }) (sym goes.runs);
        latest = λ q runs. mine.latest q (sym goes.runs ∙ runs) ∙ sym goes.latest;
        most = λ u late.
            subst (λ (i : Instance). u.instance.life ≤ i.life) (sym goes.latest)
            (without_is slot l.late u (sym goes.late ∙ late) (λ (i : Instance). i.life ≤ l.latest.life) mine.most);
        older = λ u late q runs.
            subst (λ (i : Instance). u.instance.life < i.life) (sym goes.latest)
            (without_is slot l.late u (sym goes.late ∙ late) (λ (i : Instance). i.life < l.latest.life) (λ z at. mine.older z at q (sym goes.runs ∙ runs)));
      }

      by : (m ≡ session) ⊎ (m ≢ session) → AreLivesOf (h ∷ w.told.run) (w.told.homes m) m v
      by (inr differ) = on (w.told.lives m v (sym (others m differ) ∙ is))
      by (inl same) =
          subst (λ i. AreLivesOf (h ∷ w.told.run) (w.told.homes i) i v) (sym same)
          (subst (AreLivesOf (h ∷ w.told.run) (w.told.homes session) session) (same_Some goes.behind v (sym goes.is ∙ ap (λ i. lives_in i new.lives) (sym same) ∙ is)) here)

  -- it ends no watch of a life that runs
  ends_none : (m : ℕ) (q : ClientView R) → client_in m old.lives ≡ Some q → EndsNone q.session.instance h
  ends_none m q is s image =
      others_end_none q.session.instance (operation_at (site_in x.site old.sites) x.instance (AfterStop slot) x.site x.op) None s image (sent_by_another stands old w session slot x sent m q is)

  -- ---- what is known then

  abbrev knows_then : Holder → Knowledge
  knows_then (InSlot m y) = w.knows (InSlot m y)
  knows_then (Sending m y) = cond (m == session && y == slot) nothing_known (w.knows (Sending m y))

  it_is : (m y : ℕ) → m ≡ session → y ≡ slot → (m == session && y == slot) ≡ true
  it_is m y one two = ap (λ b. b && y == slot) (eq-eqb m session one) ∙ eq-eqb y slot two

  it_isnt : (m y : ℕ) → IsElsewhere session slot m y → (m == session && y == slot) ≡ false
  it_isnt m y (inl differ) = ap (λ b. b && y == slot) (ne_eqb m session differ)
  it_isnt m y (inr differ) = ap (λ b. m == session && b) (ne_eqb y slot differ) ∙ and-false (m == session)

  knows_there : (m y : ℕ) → IsElsewhere session slot m y → knows_then (Sending m y) ≡ w.knows (Sending m y)
  knows_there m y apart = ap (λ b. cond b nothing_known (w.knows (Sending m y))) (it_isnt m y apart)

  knows_here : (m y : ℕ) → m ≡ session → y ≡ slot → knows_then (Sending m y) ≡ nothing_known
  knows_here m y one two = ap (λ b. cond b nothing_known (w.knows (Sending m y))) (it_is m y one two)

  each_is : (g : Holder) → IsAs w.who w.who w.knows knows_then g
  each_is (InSlot m y) = Same refl refl
  each_is (Sending m y) = by (here_or_elsewhere session slot m y)
    where
      by : ((m ≡ session) × (y ≡ slot)) ⊎ IsElsewhere session slot m y → IsAs w.who w.who w.knows knows_then (Sending m y)
      by (inl (one, two)) = Silent (knows_here m y one two)
      by (inr apart) = Same refl (knows_there m y apart)

  beside_it : (g : Holder) (you : Instance) → AreStrangers g (Sending session slot) → w.who g ≡ you → (s : SiteId) → AreBeside s (records_in s old.sites) you x.instance (w.knows g) k
  beside_it g you apart is s =
      subst (λ i. AreBeside s (records_in s old.sites) i x.instance (w.knows g) k) is
      (subst (λ i. AreBeside s (records_in s old.sites) (w.who g) i (w.knows g) k) who_is (w.beside g (Sending session slot) apart s))

  beside_goes : (g : Holder) (you : Instance) → AreStrangers g (Sending session slot) → w.who g ≡ you → (s : SiteId) → AreBeside s (records_in s old.sites) you x.instance (w.knows g) goes_by
  beside_goes g you apart is s =
      less_by (AreBeside s (records_in s old.sites) you x.instance (w.knows g)) x.op k
      (beside_mutual s (records_in s old.sites) x.instance you nothing_known (w.knows g) (nothing_is_beside s (records_in s old.sites) x.instance you (w.knows g)))
      (beside_it g you apart is s)

  acts_apart : (you : Instance) (j : Knowledge) → x.instance ≢ you → KnowsByLock x.site (records_in x.site old.sites) you j → MayAct x.site (records_in x.site old.sites) x.instance you goes_by j x.op
  acts_apart you j differ theirs = less_acts_by_locks x.site (records_in x.site old.sites) x.instance you k j x.op differ (may.locks x.site) theirs

  truth_now : (m : ℕ) (q : ClientView R) → client_in m old.lives ≡ Some q → (s : SiteId) → IsTrueOf s (records_in s new.sites) q.session.instance (known_in w.knows m) q
  truth_now m q is =
      others_true stands old new w x.instance (AfterStop slot) x.site x.op None goes_by known permits locked at_sites q.session.instance (known_in w.knows m) q
      (sent_by_another stands old w session slot x sent m q is) (w.truth m q is) (λ y s. beside_goes (InSlot m y) q.session.instance tt (w.in_slots m y q is) s)
      (λ y.
      acts_apart q.session.instance (known_in w.knows m y) (sent_by_another stands old w session slot x sent m q is)
      (knows_by_lock q (known_in w.knows m) y x.site (records_in x.site old.sites) q.session.instance (w.truth m q is x.site)))

  -- ---- what may still come

  elsewhere : (m y : ℕ) (z : Sent) → late_at m y new.lives ≡ Some z → IsElsewhere session slot m y
  elsewhere m y z is = by (here_or_elsewhere session slot m y)
    where
      by : ((m ≡ session) × (y ≡ slot)) ⊎ IsElsewhere session slot m y → IsElsewhere session slot m y
      by (inr apart) = apart
      by (inl (one, two)) =
          absurd (none-some z (sym late_here ∙ sym (ap (λ i. late_at i y new.lives) one ∙ ap (λ i. late_at session i new.lives) two) ∙ is))

  -- of the same life: it knows no header whose lock is dropped by it
  beside_own : (y : ℕ) (z : Sent) → y ≢ slot → late_at session y old.lives ≡ Some z → x.instance ≡ z.instance → MayStillCome session (λ s. records_in s new.sites) z (w.knows (Sending session y))
  beside_own y z differ is same = record {
    whose = theirs.whose;
    permits = theirs.permits;
    truth = known_then stands old new w x.instance (AfterStop slot) x.site x.op None goes_by known permits locked at_sites z.instance (w.knows (Sending session y)) theirs.truth (beside_goes (Sending session y) z.instance (inr differ) (w.sending session y z is).0)
        (less_acts x.site (records_in x.site old.sites) x.instance z.instance k (w.knows (Sending session y)) x.op acts);
    locks = locks_then stands old new w x.instance (AfterStop slot) x.site x.op None goes_by known permits locked at_sites z.instance (w.knows (Sending session y)) theirs.locks
        (λ image me known free. keeps_lock x.site (records_in x.site old.sites) z.instance k (w.knows (Sending session y)) x.op may.permits (subst (λ i. MayAct x.site (records_in x.site old.sites) i z.instance k (w.knows (Sending session y)) x.op) same acts) beside (theirs.locks x.site) image known free);
  }
    where
      theirs : MayStillCome session (λ s. records_in s old.sites) z (w.knows (Sending session y))
      theirs = (w.sending session y z is).1

      acts : MayAct x.site (records_in x.site old.sites) x.instance z.instance k (w.knows (Sending session y)) x.op
      acts =
          subst (λ i. MayAct x.site (records_in x.site old.sites) i z.instance k (w.knows (Sending session y)) x.op) who_is
          (subst (λ i. MayAct x.site (records_in x.site old.sites) (w.who (Sending session slot)) i k (w.knows (Sending session y)) x.op) (w.sending session y z is).0
          (w.drops session slot y x (λ e. differ (sym e)) sent (records_in x.site old.sites)))

      beside : AreBeside x.site (records_in x.site old.sites) z.instance z.instance k (w.knows (Sending session y))
      beside =
          subst (λ i. AreBeside x.site (records_in x.site old.sites) i z.instance k (w.knows (Sending session y))) same
          (beside_mutual x.site (records_in x.site old.sites) z.instance x.instance (w.knows (Sending session y)) k
          (beside_it (Sending session y) z.instance (inr differ) (w.sending session y z is).0 x.site))

  same_life : (y : ℕ) (z : Sent) → late_at session y old.lives ≡ Some z → x.instance ≡ z.instance
  same_life y z is =
      let one = late_there session slot old.lives x sent in
      let two = late_there session y old.lives z is in
      let lives_same : one.lives_are ≡ two.lives_are = same_Some one.lives_are two.lives_are (sym one.there ∙ two.there) in
      sym one.instance ∙ ap (λ (v : LateView). v.instance) (same_Some one.late two.late (sym one.is ∙ ap (λ (v : LivesView R). v.late) lives_same ∙ two.is)) ∙ two.instance

  sending_before : (m y : ℕ) (z : Sent) → IsElsewhere session slot m y → late_at m y old.lives ≡ Some z → MayStillCome m (λ s. records_in s new.sites) z (w.knows (Sending m y))
  sending_before m y z apart is = by (same_or_other m session) apart
    where
      by : (m ≡ session) ⊎ (m ≢ session) → IsElsewhere session slot m y → MayStillCome m (λ s. records_in s new.sites) z (w.knows (Sending m y))
      by (inl same) (inl differ) = absurd (differ same)
      by (inl same) (inr differ) =
          let here = ap (λ i. late_at i y old.lives) (sym same) ∙ is in
          subst (λ i. MayStillCome i (λ s. records_in s new.sites) z (w.knows (Sending i y))) (sym same) (beside_own y z differ here (same_life y z here))
      by (inr differ) apart =
          sending_then stands old new w x.instance (AfterStop slot) x.site x.op None goes_by known permits locked at_sites m z (w.knows (Sending m y))
          (sent_by_other stands old w session slot x sent m y z differ is) (beside_goes (Sending m y) z.instance (inl differ) (w.sending m y z is).0)
          (acts_apart z.instance (w.knows (Sending m y)) (sent_by_other stands old w session slot x sent m y z differ is) ((w.sending m y z is).1.locks x.site)) (w.sending m y z is).1

  sending_now : (m y : ℕ) (z : Sent) → late_at m y new.lives ≡ Some z → (w.who (Sending m y) ≡ z.instance) × MayStillCome m (λ s. records_in s new.sites) z (knows_then (Sending m y))
  sending_now m y z is =
      let apart = elsewhere m y z is in
      let before = sym (late_elsewhere m y apart) ∙ is in
      ((w.sending m y z before).0, subst (MayStillCome m (λ s. records_in s new.sites) z) (sym (knows_there m y apart)) (sending_before m y z apart before))

  left_now : (m y : ℕ) (z : Sent) → late_at m y new.lives ≡ Some z → WasLeft w.told.homes y z.instance z.site z.op (knows_then (Sending m y)) (h ∷ w.told.run)
  left_now m y z is =
      let apart = elsewhere m y z is in
      subst (λ j. WasLeft w.told.homes y z.instance z.site z.op j (h ∷ w.told.run)) (sym (knows_there m y apart))
      (left_on w.told.homes y z.instance z.site z.op (w.knows (Sending m y)) h w.told.run refl (w.was_left m y z (sym (late_elsewhere m y apart) ∙ is)))

  unsent_now : (m y : ℕ) → late_at m y new.lives ≡ None → knows_then (Sending m y) ≡ nothing_known
  unsent_now m y is = by (here_or_elsewhere session slot m y)
    where
      by : ((m ≡ session) × (y ≡ slot)) ⊎ IsElsewhere session slot m y → knows_then (Sending m y) ≡ nothing_known
      by (inl (one, two)) = knows_here m y one two
      by (inr apart) = knows_there m y apart ∙ w.unsent m y (sym (late_elsewhere m y apart) ∙ is)

  drops_now : (m y at : ℕ) (z : Sent) → y ≢ at → late_at m y new.lives ≡ Some z → (r : Records)
      → MayAct z.site r (w.who (Sending m y)) (w.who (Sending m at)) (knows_then (Sending m y)) (knows_then (Sending m at)) z.op
  drops_now m y at z differ is r =
      let apart = elsewhere m y z is in
      subst (λ q. MayAct z.site r (w.who (Sending m y)) (w.who (Sending m at)) q (knows_then (Sending m at)) z.op) (sym (knows_there m y apart))
      (by (here_or_elsewhere session slot m at) (sym (late_elsewhere m y apart) ∙ is))
    where
      by : ((m ≡ session) × (at ≡ slot)) ⊎ IsElsewhere session slot m at → late_at m y old.lives ≡ Some z
          → MayAct z.site r (w.who (Sending m y)) (w.who (Sending m at)) (w.knows (Sending m y)) (knows_then (Sending m at)) z.op
      by (inl (one, two)) before =
          subst (λ q. MayAct z.site r (w.who (Sending m y)) (w.who (Sending m at)) (w.knows (Sending m y)) q z.op) (sym (knows_here m at one two))
          (unknown_looks z.site r (w.who (Sending m y)) (w.who (Sending m at)) (w.knows (Sending m y)) nothing_known (λ image. refl) z.op)
      by (inr elsewhere) before =
          subst (λ q. MayAct z.site r (w.who (Sending m y)) (w.who (Sending m at)) (w.knows (Sending m y)) q z.op) (sym (knows_there m at elsewhere)) (w.drops m y at z differ before r)

  late_now : (m y : ℕ) → late_at m y new.lives ≡ sent_after m y (h ∷ w.told.run)
  late_now m y = by (here_or_elsewhere session slot m y)
    where
      -- it comes from here
      from : (b : Bool) → (m == session && y == slot) ≡ b → (x.instance.session == m && slot == y) ≡ b
      from b is = ap (λ i. i == m && slot == y) may.whose ∙ flipped ∙ is
        where
          flipped : (session == m && slot == y) ≡ (m == session && y == slot)
          flipped = ap (λ c. c && slot == y) (eqb_flip session m) ∙ ap (λ c. m == session && c) (eqb_flip slot y)

      by : ((m ≡ session) × (y ≡ slot)) ⊎ IsElsewhere session slot m y → late_at m y new.lives ≡ sent_after m y (h ∷ w.told.run)
      by (inl (one, two)) =
          ap (λ i. late_at i y new.lives) one ∙ ap (λ i. late_at session i new.lives) two ∙ late_here
          ∙ sym (ap (λ b. cond b None (sent_after m y w.told.run)) (from true (it_is m y one two)))
      by (inr apart) =
          late_elsewhere m y apart ∙ w.late m y ∙ sym (ap (λ b. cond b None (sent_after m y w.told.run)) (from false (it_isnt m y apart)))

  -- ---- what was read of snapshots

  -- it drew no id of an image whose header anybody was told
  strange_there : (g : Holder) → DrewNoneOf x.site (w.knows g).seen goes_by
  strange_there (InSlot m y) = (beside_goes (InSlot m y) (w.who (InSlot m y)) tt refl x.site).unseen
  strange_there (Sending m y) = by (here_or_elsewhere session slot m y)
    where
      by : ((m ≡ session) × (y ≡ slot)) ⊎ IsElsewhere session slot m y → DrewNoneOf x.site (w.knows (Sending m y)).seen goes_by
      by (inr apart) = (beside_goes (Sending m y) (w.who (Sending m y)) apart refl x.site).unseen
      by (inl (one, two)) =
          subst (λ i. DrewNoneOf x.site (w.knows (Sending i y)).seen goes_by) (sym one)
          (subst (λ i. DrewNoneOf x.site (w.knows (Sending session i)).seen goes_by) (sym two)
          (less_by (DrewNoneOf x.site k.seen) x.op k (λ image saw. refl) (may.truth x.site).strange))

  reads_then : (g : Holder) (s : SiteId) → HasReadTruly s (records_after s (h ∷ w.told.run)) (flat_after s (h ∷ w.told.run)) (w.knows g)
  reads_then g = reads_kept stands old new w x.instance (AfterStop slot) x.site x.op None goes_by known permits locked at_sites (w.knows g) (strange_there g) (w.reads g)

  -- ---- all of it

  coming_keeps : IsCarried stands old new w h
  coming_keeps = record {
    who = w.who;
    knows = knows_then;
    carries = record {
      standing = stands_then stands old new w x.instance (AfterStop slot) x.site x.op None goes_by known permits locked at_sites;
      due = (due, truly);
      whole = whole_then stands old new w x.instance (AfterStop slot) x.site x.op None goes_by known permits locked at_sites;
      lives = lives_now;
      clients = λ m q is. living_on stands (w.told.homes m) m h w.told.run (λ n life. refl) (known_in w.knows m) q (λ y line at. quiet line) (refl, ends_none m q (was m q is)) (w.clients m q (was m q is));
      in_slots = λ m y q is. w.in_slots m y q (was m q is);
      nobody = λ m is y. w.nobody m (sym (client_same m) ∙ is) y;
      apart = λ line m y other there one two. w.apart line m y other there (sym (line_same m y) ∙ one) (sym (line_same other there) ∙ two);
      slots = λ line begun. same_slots old.lives new.lives line_same line (w.slots line (open_back line h w.told.run (quiet line) begun));
      truth = λ m q is s. truth_now m q (was m q is) s;
      late = late_now;
      sending = sending_now;
      was_left = left_now;
      unsent = unsent_now;
      drops = drops_now;
      beside = beside_still w.who w.who w.knows knows_then (λ s. records_in s new.sites)
          (λ a g apart s.
          beside_then stands old new w x.instance (AfterStop slot) x.site x.op None goes_by known permits locked at_sites (w.who a) (w.who g) (w.knows a) (w.knows g) (w.beside a g apart) s)
          each_is;
      none_yet = new_still w.who w.who w.knows knows_then (λ s image. HadNoHeader s image w.told.run) w.new each_is;
      reads = all_still w.who w.who w.knows knows_then (λ s. HasReadTruly s (records_after s (h ∷ w.told.run)) (flat_after s (h ∷ w.told.run))) (λ s. nothing_is_read s (records_after s (h ∷ w.told.run)) (flat_after s (h ∷ w.told.run))) reads_then each_is;
      owes = λ calm. absurd (none-some x (sym (none_sent session slot w.told.run calm.1) ∙ sym (w.late session slot) ∙ sent));
      turn = no_turn (operation_at (site_in x.site old.sites) x.instance (AfterStop slot) x.site x.op) None w.told.run (λ line. refl);
      in_order = λ m q is. order_on stands old new w h (due, truly) m q (was m q is) (λ y line at. quiet line) (λ other writer. refl);
    };
  }

module _ {R : Type 0} (stands : R → Standing) where
  same_running : (e : Event) (h : Happening) → ((a b : ClientView R) → BecomesOf stands e h (Some a) (Some b) → b ≡ a) → (o n : Option (ClientView R)) → BecomesOf stands e h o n → n ≡ o
  same_running e h same None n is = is
  same_running e h same (Some c) None is = absurd is
  same_running e h same (Some c) (Some d) is = ap Some (same c d is)

  goes_without : (old new : WorldView R) (session slot : ℕ) (x : Sent) (l : LivesView R) → lives_in session old.lives ≡ Some l
      → Does stands (event.Late session slot) (come old.sites slot (Some x)) old new → GoesWithout new session slot l
  goes_without old new session slot x l there does =
      by (lives_in session new.lives) refl
      (subst (λ o. LivesOnIf stands (event.Late session slot) (come old.sites slot (Some x)) o (lives_in session new.lives)) there (does.named session (eq-eqb session session refl)))
    where
      by : (o : Option (LivesView R)) → lives_in session new.lives ≡ o → LivesOnIf stands (event.Late session slot) (come old.sites slot (Some x)) (Some l) o → GoesWithout new session slot l
      by None is on = absurd on
      by (Some m) is on = record {
        behind = m;
        is = is;
        home = on.home;
        latest = on.latest;
        runs = same_running (event.Late session slot) (come old.sites slot (Some x)) (λ a b same. same) l.running m.running on.running;
        late = on.late;
      }

  pub came_keeps : (old new : WorldView R) (w : IsSoundWorld stands old) (session slot : ℕ) (x : Sent) → late_at session slot old.lives ≡ Some x
      → Does stands (event.Late session slot) (come old.sites slot (Some x)) old new → DoesAtSites (come old.sites slot (Some x)) old.sites new.sites
      → IsCarried stands old new w (come old.sites slot (Some x))
  came_keeps old new w session slot x sent does at_sites =
      let has = late_there session slot old.lives x sent in
      coming_keeps stands old new w session slot x sent (λ m differ. does.others m (ne_eqb session m (λ same. differ (sym same)))) at_sites has.lives_are has.there
      (goes_without old new session slot x has.lives_are has.there does)
