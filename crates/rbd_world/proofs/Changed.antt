-- Where the client of one session goes on: the other sessions stay, and so do all lives.
use Rattle.std.proofs.Common.{◌≡◌, ◌≢◌, ◌⊎◌, inl, inr, ℕ, ◌==◌, ◌<◌, ◌≤◌, Bool, true, false, List, ◌∷◌, is_some, Option, Some, None, refl, sym, ap, ◌∙◌, subst}
use Rattle.std.proofs.lemmas.Bool.{true≢false, eq-eqb, eqb-true, ne_eqb}
use Rattle.std.proofs.lemmas.Option.{none-some, same_Some}
use Rattle.rbd_client.specs.declared.slot_state.SlotState.{SlotState}
use Rattle.rbd_client.specs.Client.{ClientView, slot_state}
use Rattle.rbd_client.specs.Sound.{IsSoundClient}
use Rattle.rbd_kinds.specs.declared.id.Instance.{Instance}
use Rattle.rbd_kinds.specs.declared.id.SiteId.{SiteId}
use Rattle.rbd_knowledge.specs.Knowing.{AllKnow, KnowsIn}
use Rattle.rbd_machine.specs.Knowledge.{Knowledge}
use Rattle.rbd_machine.specs.Plan.{Standing}
use Rattle.rbd_slots.specs.declared.running.Occupant.{Occupant}
use Rattle.rbd_slots.specs.declared.running.Occupant.TheVariants as occupant
use Rattle.rbd_slots.specs.Session.{SessionView, held_in, running_at, running_in, script_line}
use Rattle.rbd_slots.specs.Lines.{lines_of}
use Rattle.rbd_slots.specs.OnTrack.{LeavesOthers}
use Rattle.rbd_world.specs.declared.event.Event.{Event}
use Rattle.rbd_world.specs.Closes.{StandsFirst, StandsFirstIf}
use Rattle.rbd_world.specs.LetGo.{moves_house, release_of}
use Rattle.rbd_world.specs.Run.{Happening, Life, Sent, life_after, life_behind, sent_behind}
use Rattle.rbd_world.specs.Seats.{seat_at, seat_of_home}
use Rattle.rbd_machine.specs.declared.seat.Seat.{Seat}
use Rattle.rbd_world.specs.Sound.{HasLearnedIf, AreLinesApart, AreLivesOf, IsHeldRightly, IsLiving, IsOpen, IsRunning, IsSoundWorld, KeepsToItsWay, held_of, line_at}
use Rattle.rbd_world.specs.Step.{AreSlotsBut, AreStatesBut, Becomes, BecomesOf, Does, IsSameClient, LivesOnIf, RunsOn, late_behind, latest_behind, names_session}
use Rattle.rbd_world.specs.Watched.{CountsItsWatches}
use Rattle.rbd_world.specs.World.{LateView, LivesView, WorldView, client_in, late_at, late_of, lives_in, running_of, sent_in, session_of_client}
use Rattle.rbd_world.proofs.LetGo.{still_releases}
use Rattle.rbd_world.proofs.Quiet.{IsQuiet, held_on, learned_on}
use Rattle.rbd_world.proofs.StaysFirst.{first_on}
use Rattle.rbd_world.proofs.Watching.{EndsNone, counts_on}
use Rattle.rbd_world.proofs.Ways.{ways_in, ways_on}

-- ---- this slot, or another one

pub same_or_other : (m n : ℕ) → (m ≡ n) ⊎ (m ≢ n)
same_or_other m n = by (m == n) refl
  where
    by : (b : Bool) → (m == n) ≡ b → (m ≡ n) ⊎ (m ≢ n)
    by true is = inl (eqb-true m n is)
    by false is = inr (λ same. true≢false (sym (eq-eqb m n same) ∙ is))

abbrev pub IsElsewhere : (session slot m x : ℕ) → Type 0
IsElsewhere session slot m x = (m ≢ session) ⊎ (x ≢ slot)

pub here_or_elsewhere : (session slot m x : ℕ) → ((m ≡ session) × (x ≡ slot)) ⊎ IsElsewhere session slot m x
here_or_elsewhere session slot m x = by (same_or_other m session) (same_or_other x slot)
  where
    by : (m ≡ session) ⊎ (m ≢ session) → (x ≡ slot) ⊎ (x ≢ slot) → ((m ≡ session) × (x ≡ slot)) ⊎ IsElsewhere session slot m x
    by (inl one) (inl two) = inl (one, two)
    by (inl one) (inr two) = inr (inr two)
    by (inr one) two = inr (inl one)

-- ---- whose lives it leaves

-- it begins and ends no life
abbrev pub IsLifeless : Happening → Type 0
IsLifeless h = (m : ℕ) (l : Life) → life_behind m h l ≡ l

-- nothing that a stopped life sent comes by it, and no life is stopped
abbrev pub SendsNothing : Happening → Type 0
SendsNothing h = (m x : ℕ) (o : Option Sent) → sent_behind m x h o ≡ o

pub running_on : (who : Instance) (h : Happening) (run : List Happening) → IsLifeless h → IsRunning who run → IsRunning who (h ∷ run)
running_on who h run lifeless runs = lifeless who.session (life_after who.session run) ∙ runs

-- ---- a session that goes on in its life

pub record GoesOnAs {R : Type 0} (old new : WorldView R) (session : ℕ) (c d : ClientView R) : Type 0 where
  pub before : LivesView R
  pub was : lives_in session old.lives ≡ Some before
  pub ran : before.running ≡ Some c
  pub behind : LivesView R
  pub is : lives_in session new.lives ≡ Some behind
  pub runs : behind.running ≡ Some d
  pub home : behind.home ≡ before.home
  pub latest : behind.latest ≡ before.latest
  pub late : behind.late ≡ before.late
  pub others : (m : ℕ) → m ≢ session → lives_in m new.lives ≡ lives_in m old.lives

-- the client that is found by a session's number is that of its lives
pub record HasLives {R : Type 0} (session : ℕ) (lives : List (LivesView R)) (c : ClientView R) : Type 0 where
  pub lives_are : LivesView R
  pub there : lives_in session lives ≡ Some lives_are
  pub runs : lives_are.running ≡ Some c

pub lives_there : {R : Type 0} (session : ℕ) (lives : List (LivesView R)) (c : ClientView R) → client_in session lives ≡ Some c → HasLives session lives c
lives_there {R} session lives c is = by (lives_in session lives) refl is
  where
    by : (o : Option (LivesView R)) → lives_in session lives ≡ o → running_of o ≡ Some c → HasLives session lives c
    by None at is = absurd (none-some c is)
    by (Some l) at is = record { lives_are = l; there = at; runs = is }

module _ {R : Type 0} (stands : R → Standing) where
  pub record HasBecome (e : Event) (h : Happening) (old new : WorldView R) (session : ℕ) (c : ClientView R) : Type 0 where
    pub after : ClientView R
    pub goes : GoesOnAs old new session c after
    pub becomes : Becomes stands e h c after

  pub has_become : (e : Event) (h : Happening) (old new : WorldView R) (session : ℕ) (c : ClientView R) → client_in session old.lives ≡ Some c
      → ((m : ℕ) → names_session e h m ≡ (session == m)) → ((home : SiteId) (o n : Option (ClientView R)) → RunsOn stands e h home o n → BecomesOf stands e h o n)
      → ((l : Instance) → latest_behind h l ≡ l) → ((l : Option LateView) → late_behind e h l ≡ l)
      → Does stands e h old new → HasBecome e h old new session c
  has_become e h old new session c there names runs_on latest late does = at (lives_there session old.lives c there)
    where
      others : (m : ℕ) → m ≢ session → lives_in m new.lives ≡ lives_in m old.lives
      others m differ = does.others m (names m ∙ ne_eqb session m (λ same. differ (sym same)))

      named : LivesOnIf stands e h (lives_in session old.lives) (lives_in session new.lives)
      named = does.named session (names session ∙ eq-eqb session session refl)

      at : HasLives session old.lives c → HasBecome e h old new session c
      at has = by (lives_in session new.lives) refl (subst (λ o. LivesOnIf stands e h o (lives_in session new.lives)) has.there named)
        where
          by : (o : Option (LivesView R)) → lives_in session new.lives ≡ o → LivesOnIf stands e h (Some has.lives_are) o → HasBecome e h old new session c
          by None is on = absurd on
          by (Some l) is on = go l.running refl (subst (λ o. BecomesOf stands e h o l.running) has.runs (runs_on has.lives_are.home has.lives_are.running l.running on.running))
            where
              go : (o : Option (ClientView R)) → l.running ≡ o → BecomesOf stands e h (Some c) o → HasBecome e h old new session c
              go None none becomes = absurd becomes
              go (Some d) runs becomes = record {
                after = d;
                goes = record {
                  before = has.lives_are;
                  was = has.there;
                  ran = has.runs;
                  behind = l;
                  is = is;
                  runs = runs;
                  home = on.home;
                  latest = on.latest ∙ latest has.lives_are.latest;
                  late = on.late ∙ late has.lives_are.late;
                  others = others;
                };
                becomes = becomes;
              }

module _ {R : Type 0} (old new : WorldView R) (session : ℕ) (c d : ClientView R) (goes : GoesOnAs old new session c d) where
  -- ---- who is where

  pub client_was : client_in session old.lives ≡ Some c
  client_was = ap running_of goes.was ∙ goes.ran

  pub client_is : client_in session new.lives ≡ Some d
  client_is = ap running_of goes.is ∙ goes.runs

  pub clients_stay : (m : ℕ) → m ≢ session → client_in m new.lives ≡ client_in m old.lives
  clients_stay m differ = ap running_of (goes.others m differ)

  pub late_stays : (m x : ℕ) → late_at m x new.lives ≡ late_at m x old.lives
  late_stays m x = by (same_or_other m session)
    where
      by : (m ≡ session) ⊎ (m ≢ session) → late_at m x new.lives ≡ late_at m x old.lives
      by (inr differ) = ap (λ o. sent_in x (late_of o)) (goes.others m differ)
      by (inl same) =
          subst (λ i. late_at i x new.lives ≡ late_at i x old.lives) (sym same)
          (ap (λ o. sent_in x (late_of o)) goes.is ∙ ap (sent_in x) goes.late ∙ sym (ap (λ o. sent_in x (late_of o)) goes.was))

  -- ---- lines

  line_was : (x : ℕ) → line_at session x old.lives ≡ script_line (held_in x c.session.slots)
  line_was x = ap (λ o. script_line (held_of x (session_of_client o))) client_was

  pub line_is : (x : ℕ) → line_at session x new.lives ≡ script_line (held_in x d.session.slots)
  line_is x = ap (λ o. script_line (held_of x (session_of_client o))) client_is

  module _ (slot : ℕ) (slots : AreSlotsBut slot c.session d.session) where
    pub line_elsewhere : (m x : ℕ) → IsElsewhere session slot m x → line_at m x new.lives ≡ line_at m x old.lives
    line_elsewhere m x where_else = by (same_or_other m session) where_else
      where
        by : (m ≡ session) ⊎ (m ≢ session) → IsElsewhere session slot m x → line_at m x new.lives ≡ line_at m x old.lives
        by (inr differ) either = ap (λ o. script_line (held_of x (session_of_client o))) (clients_stay m differ)
        by (inl same) (inl differ) = absurd (differ same)
        by (inl same) (inr differ) =
            subst (λ i. line_at i x new.lives ≡ line_at i x old.lives) (sym same) (line_is x ∙ ap script_line (slots x differ) ∙ sym (line_was x))

    -- another slot has another line
    pub line_apart : AreLinesApart old.lives → (line : ℕ) → script_line (held_in slot c.session.slots) ≡ Some line → (m x other : ℕ) → IsElsewhere session slot m x → line_at m x old.lives ≡ Some other
        → (line == other) ≡ false
    line_apart apart line own m x other where_else is = ne_eqb line other (λ same. by (apart other session slot m x (line_was slot ∙ own ∙ ap Some same) is) where_else)
      where
        by : (session ≡ m) × (slot ≡ x) → IsElsewhere session slot m x → ⊥
        by both (inl differ) = differ (sym both.0)
        by both (inr differ) = differ (sym both.1)

    pub apart_of : AreLinesApart old.lives → ((line : ℕ) → script_line (held_in slot d.session.slots) ≡ Some line → script_line (held_in slot c.session.slots) ≡ Some line) → AreLinesApart new.lives
    apart_of apart before line m x other there one two = apart line m x other there (by m x one) (by other there two)
      where
        by : (m x : ℕ) → line_at m x new.lives ≡ Some line → line_at m x old.lives ≡ Some line
        by m x is = go (here_or_elsewhere session slot m x)
          where
            go : ((m ≡ session) × (x ≡ slot)) ⊎ IsElsewhere session slot m x → line_at m x old.lives ≡ Some line
            go (inr where_else) = sym (line_elsewhere m x where_else) ∙ is
            go (inl (one, two)) =
                ap (λ i. line_at i x old.lives) one ∙ ap (λ i. line_at session i old.lives) two ∙ line_was slot
                ∙ before line (sym (line_is slot) ∙ sym (ap (λ i. line_at i x new.lives) one ∙ ap (λ i. line_at session i new.lives) two) ∙ is)

  -- ---- lives

  module _ (stands : R → Standing) (w : IsSoundWorld stands old) (h : Happening) (lifeless : IsLifeless h) where
    pub lives_go_on : d.session.instance ≡ c.session.instance → (m : ℕ) (l : LivesView R) → lives_in m new.lives ≡ Some l → AreLivesOf (h ∷ w.told.run) (w.told.homes m) m l
    lives_go_on instance m l is = by (same_or_other m session)
      where
        on : (m : ℕ) (l : LivesView R) → AreLivesOf w.told.run (w.told.homes m) m l → AreLivesOf (h ∷ w.told.run) (w.told.homes m) m l
        on m l a = record {
          home_is = a.home_is;
          whose = a.whose;
          life = lifeless m (life_after m w.told.run) ∙ a.life;
          latest = a.latest;
          most = a.most;
          older = a.older;
        }

        mine : AreLivesOf w.told.run (w.told.homes session) session goes.before
        mine = w.told.lives session goes.before goes.was

        there : AreLivesOf w.told.run (w.told.homes session) session goes.behind
        there = record {
          home_is = goes.home ∙ mine.home_is;
          whose = ap (λ (i : Instance). i.session) goes.latest ∙ mine.whose;
          life =
              mine.life ∙ ap (λ o. record { number = goes.before.latest.life; runs = is_some o }) (goes.ran)
              ∙ sym (ap (λ o. record { number = goes.before.latest.life; runs = is_some o }) (goes.runs))
              ∙ sym (ap (λ (i : Instance). record { number = i.life; runs = is_some goes.behind.running }) goes.latest);
          latest = λ q runs. ap (λ (v : ClientView R). v.session.instance) (sym (same_Some d q (sym goes.runs ∙ runs))) ∙ instance ∙ mine.latest c goes.ran ∙ sym goes.latest;
          most = λ v late. subst (λ (i : Instance). v.instance.life ≤ i.life) (sym goes.latest) (mine.most v (sym goes.late ∙ late));
          older = λ v late q runs. subst (λ (i : Instance). v.instance.life < i.life) (sym goes.latest) (mine.older v (sym goes.late ∙ late) c goes.ran);
        }

        by : (m ≡ session) ⊎ (m ≢ session) → AreLivesOf (h ∷ w.told.run) (w.told.homes m) m l
        by (inr differ) = on m l (w.told.lives m l (sym (goes.others m differ) ∙ is))
        by (inl same) =
            subst (λ i. AreLivesOf (h ∷ w.told.run) (w.told.homes i) i l) (sym same)
            (subst (AreLivesOf (h ∷ w.told.run) (w.told.homes session) session) (same_Some goes.behind l (sym goes.is ∙ ap (λ i. lives_in i new.lives) (sym same) ∙ is)) (on session goes.behind there))

-- ---- what is held is open

module _ {R : Type 0} (stands : R → Standing) where
  held_open : (seat : Seat) (who : Instance) (run : List Happening) (o : Option (Occupant R)) (line : ℕ) → script_line o ≡ Some line → IsHeldRightly stands seat who run o → IsOpen line run
  held_open seat who run None line is held = absurd (none-some line is)
  held_open seat who run (Some (occupant.Refused number refusal)) line is held = subst (λ l. IsOpen l run) (same_Some number line is) held.begun
  held_open seat who run (Some (occupant.Running r)) line is held = subst (λ l. IsOpen l run) (same_Some r.line line is) held.begun

  pub open_there : (old : WorldView R) (w : IsSoundWorld stands old) (m x line : ℕ) → line_at m x old.lives ≡ Some line → IsOpen line w.told.run
  open_there old w m x line = by (client_in m old.lives) refl
    where
      by : (o : Option (ClientView R)) → client_in m old.lives ≡ o → script_line (held_of x (session_of_client o)) ≡ Some line → IsOpen line w.told.run
      by None there is = absurd (none-some line is)
      by (Some c) there is = let living = w.clients m c there in held_open (seat_at w.told.homes m) c.session.instance w.told.run (held_in x c.session.slots) line is (living.held x)

  -- ---- a client that goes on

  -- what the requests of a session know, where its lines stay
  pub all_but : (knows : (x : ℕ) → Knowledge) (slot : ℕ) (c d : SessionView R) → AreSlotsBut slot c d → d.lines ≡ c.lines → AllKnow stands knows c
      → KnowsIn stands slot (running_at slot d) d.lines (knows slot) → AllKnow stands knows d
  all_but knows slot c d slots lines all own x = by (same_or_other x slot)
    where
      by : (x ≡ slot) ⊎ (x ≢ slot) → KnowsIn stands x (running_at x d) d.lines (knows x)
      by (inl here) = subst (λ i. KnowsIn stands i (running_at i d) d.lines (knows i)) (sym here) own
      by (inr differ) =
          subst (λ o. KnowsIn stands x (running_in o) d.lines (knows x)) (sym (slots x differ))
          (subst (λ ls. KnowsIn stands x (running_at x c) ls (knows x)) (sym lines) (all x))

  module _ (home : SiteId) (session : ℕ) (h : Happening) (run : List Happening) (lifeless : IsLifeless h) where
    -- one for which it is nothing
    pub living_on : (knows : (x : ℕ) → Knowledge) (c : ClientView R) → ((x line : ℕ) → script_line (held_in x c.session.slots) ≡ Some line → IsQuiet line h)
        → (moves_house c.session.instance h ≡ false) × EndsNone c.session.instance h → IsLiving stands home session run knows c → IsLiving stands home session (h ∷ run) knows c
    living_on knows c quiet still living = record {
      whose = living.whose;
      runs = running_on c.session.instance h run lifeless living.runs;
      at_home = living.at_home;
      sound = living.sound;
      know = living.know;
      held = λ x. held_on stands (seat_of_home session home) c.session.instance h run (held_in x c.session.slots) (quiet x) (living.held x);
      ways = λ x. ways_on stands h run x c.session.lines (slot_state x c.slots).way (held_in x c.session.slots) (quiet x) (living.ways x);
      learned = λ x. learned_on stands (seat_of_home session home) c.session.instance h run (held_in x c.session.slots) (knows x) (quiet x) (living.learned x);
      releases = living.releases ∙ sym (still_releases c.session.instance h run still.0);
      watches = counts_on c.session.instance h run c still.1 living.watches;
      first = λ x. first_on h run x c.session.lines c.session.lines (held_in x c.session.slots) (quiet x) (λ s image first. first) (living.first x);
    }

    -- one of which a slot changed
    pub living_of : (knows knows' : (x : ℕ) → Knowledge) (slot : ℕ) (c d : ClientView R) → IsLiving stands home session run knows c
        → AreSlotsBut slot c.session d.session → AreStatesBut slot c d → IsSameClient c.session d.session
        → ((x line : ℕ) → x ≢ slot → script_line (held_in x c.session.slots) ≡ Some line → IsQuiet line h)
        → IsSoundClient stands d → AllKnow stands knows' d.session → IsHeldRightly stands (seat_of_home session home) c.session.instance (h ∷ run) (held_in slot d.session.slots)
        → KeepsToItsWay stands (h ∷ run) slot d.session.lines (slot_state slot d.slots).way (running_at slot d.session)
        → ((x : ℕ) → x ≢ slot → knows' x ≡ knows x) → HasLearnedIf stands (h ∷ run) (running_at slot d.session) (knows' slot) → d.release ≡ release_of c.session.instance (h ∷ run)
        → CountsItsWatches c.session.instance (h ∷ run) d → StandsFirstIf (h ∷ run) slot d.session.lines (running_at slot d.session)
        → ((x : ℕ) → x ≢ slot → (s : SiteId) (image : ℕ) → StandsFirst x (lines_of c.session.lines s image) → StandsFirst x (lines_of d.session.lines s image))
        → LeavesOthers slot (lines_of c.session.lines) (lines_of d.session.lines) → IsLiving stands home session (h ∷ run) knows' d
    living_of knows knows' slot c d living slots states client quiet sound know own keeps others learns release watches first stay_first leaves = record {
      whose = ap (λ (i : Instance). i.session) client.instance ∙ living.whose;
      runs = subst (λ i. IsRunning i (h ∷ run)) (sym client.instance) (running_on c.session.instance h run lifeless living.runs);
      at_home = client.home ∙ living.at_home;
      sound = sound;
      know = know;
      held = λ x. subst (λ i. IsHeldRightly stands (seat_of_home session home) i (h ∷ run) (held_in x d.session.slots)) (sym client.instance) (by x (same_or_other x slot));
      ways = λ x. way_by x (same_or_other x slot);
      learned = λ x. learned_by x (same_or_other x slot);
      releases = release ∙ ap (λ i. release_of i (h ∷ run)) (sym client.instance);
      watches = subst (λ i. CountsItsWatches i (h ∷ run) d) (sym client.instance) watches;
      first = λ x. first_by x (same_or_other x slot);
    }
      where
        first_by : (x : ℕ) → (x ≡ slot) ⊎ (x ≢ slot) → StandsFirstIf (h ∷ run) x d.session.lines (running_at x d.session)
        first_by x (inl here) = subst (λ i. StandsFirstIf (h ∷ run) i d.session.lines (running_at i d.session)) (sym here) first
        first_by x (inr differ) =
            subst (λ o. StandsFirstIf (h ∷ run) x d.session.lines (running_in o)) (sym (slots x differ))
            (first_on h run x c.session.lines d.session.lines (held_in x c.session.slots) (λ line is. quiet x line differ is) (stay_first x differ) (living.first x))

        learned_by : (x : ℕ) → (x ≡ slot) ⊎ (x ≢ slot) → HasLearnedIf stands (h ∷ run) (running_at x d.session) (knows' x)
        learned_by x (inl here) = subst (λ i. HasLearnedIf stands (h ∷ run) (running_at i d.session) (knows' i)) (sym here) learns
        learned_by x (inr differ) =
            subst (λ o. HasLearnedIf stands (h ∷ run) (running_in o) (knows' x)) (sym (slots x differ))
            (subst (HasLearnedIf stands (h ∷ run) (running_at x c.session)) (sym (others x differ))
            (learned_on stands (seat_of_home session home) c.session.instance h run (held_in x c.session.slots) (knows x) (λ line is. quiet x line differ is) (living.learned x)))

        way_by : (x : ℕ) → (x ≡ slot) ⊎ (x ≢ slot) → KeepsToItsWay stands (h ∷ run) x d.session.lines (slot_state x d.slots).way (running_at x d.session)
        way_by x (inl here) = subst (λ i. KeepsToItsWay stands (h ∷ run) i d.session.lines (slot_state i d.slots).way (running_at i d.session)) (sym here) keeps
        way_by x (inr differ) =
            subst (λ o. KeepsToItsWay stands (h ∷ run) x d.session.lines (slot_state x d.slots).way (running_in o)) (sym (slots x differ))
            (subst (λ (s : SlotState). KeepsToItsWay stands (h ∷ run) x d.session.lines s.way (running_at x c.session)) (sym (states x differ))
            (ways_in stands (h ∷ run) x c.session.lines d.session.lines (leaves x differ) (slot_state x c.slots).way (held_in x c.session.slots)
            (ways_on stands h run x c.session.lines (slot_state x c.slots).way (held_in x c.session.slots) (λ line is. quiet x line differ is) (living.ways x))))

        by : (x : ℕ) → (x ≡ slot) ⊎ (x ≢ slot) → IsHeldRightly stands (seat_of_home session home) c.session.instance (h ∷ run) (held_in x d.session.slots)
        by x (inl here) = subst (λ i. IsHeldRightly stands (seat_of_home session home) c.session.instance (h ∷ run) (held_in i d.session.slots)) (sym here) own
        by x (inr differ) =
            subst (IsHeldRightly stands (seat_of_home session home) c.session.instance (h ∷ run)) (sym (slots x differ))
            (held_on stands (seat_of_home session home) c.session.instance h run (held_in x c.session.slots) (λ line is. quiet x line differ is) (living.held x))
