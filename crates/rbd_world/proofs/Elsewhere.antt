-- What begins or ends a life of one session leaves the other sessions as they are.
use Rattle.std.proofs.Common.{◌≡◌, ◌≢◌, ℕ, ◌==◌, cond, List, ◌∷◌, is_some, None, Some, refl, sym, ap, ◌∙◌, subst, true, false}
use Rattle.std.proofs.lemmas.Bool.{true≢false, eq-eqb, ne_eqb}
use Rattle.rbd_client.specs.Client.{ClientView, slot_state}
use Rattle.rbd_kinds.specs.declared.header_op.HeaderOp.TheVariants as header
use Rattle.rbd_kinds.specs.declared.map_op.MapOp.TheVariants as states
use Rattle.rbd_kinds.specs.declared.id.Instance.{Instance}
use Rattle.rbd_kinds.specs.declared.id.SiteId.{SiteId}
use Rattle.rbd_kinds.specs.declared.operation.Op.{Op}
use Rattle.rbd_kinds.specs.declared.operation.Op.TheVariants as op
use Rattle.rbd_machine.specs.Knowledge.{Knowledge, nothing_known, is_drawn}
use Rattle.rbd_machine.specs.Plan.{Standing}
use Rattle.rbd_interference.specs.Beside.{AreBeside, MayAct}
use Rattle.rbd_interference.specs.Truth.{known_header}
use Rattle.rbd_interference.proofs.Nothing.{nothing_is_beside}
use Rattle.rbd_interference.proofs.Together.{beside_mutual}
use Rattle.rbd_slots.specs.Session.{held_in, script_line}
use Rattle.rbd_site.specs.Records.{Records}
use Rattle.rbd_world.specs.LetGo.{moves_house}
use Rattle.rbd_world.specs.Run.{Happening, Life, life_after, life_behind}
use Rattle.rbd_world.specs.Seats.{seat_of_home}
use Rattle.rbd_world.specs.Sound.{AreLivesOf, AreStrangers, Holder, InSlot, IsLiving, known_in}
use Rattle.rbd_world.specs.World.{LivesView}
use Rattle.rbd_world.proofs.LetGo.{still_releases}
use Rattle.rbd_world.proofs.Quiet.{IsQuiet, held_on, learned_on}
use Rattle.rbd_world.proofs.StaysFirst.{first_on}
use Rattle.rbd_world.proofs.Watching.{EndsNone, counts_on}
use Rattle.rbd_world.proofs.Ways.{ways_on}

-- ---- lives

module _ {R : Type 0} (stands : R → Standing) (home : SiteId) (session : ℕ) (h : Happening) (run : List Happening) (still : (l : Life) → life_behind session h l ≡ l) where
  pub living_still : (knows : (x : ℕ) → Knowledge) (c : ClientView R) → ((x line : ℕ) → script_line (held_in x c.session.slots) ≡ Some line → IsQuiet line h)
      → (moves_house c.session.instance h ≡ false) × EndsNone c.session.instance h → IsLiving stands home session run knows c → IsLiving stands home session (h ∷ run) knows c
  living_still knows c quiet unmoved living = record {
    whose = living.whose;
    runs =
        ap (λ i. life_behind i h (life_after i run)) living.whose ∙ still (life_after session run) ∙ ap (λ i. life_after i run) (sym living.whose)
        ∙ living.runs;
    at_home = living.at_home;
    sound = living.sound;
    know = living.know;
    held = λ x. held_on stands (seat_of_home session home) c.session.instance h run (held_in x c.session.slots) (quiet x) (living.held x);
    ways = λ x. ways_on stands h run x c.session.lines (slot_state x c.slots).way (held_in x c.session.slots) (quiet x) (living.ways x);
    learned = λ x. learned_on stands (seat_of_home session home) c.session.instance h run (held_in x c.session.slots) (knows x) (quiet x) (living.learned x);
    releases = living.releases ∙ sym (still_releases c.session.instance h run unmoved.0);
    watches = counts_on c.session.instance h run c unmoved.1 living.watches;
    first = λ x. first_on h run x c.session.lines c.session.lines (held_in x c.session.slots) (quiet x) (λ s image first. first) (living.first x);
  }

  pub lives_still : (l : LivesView R) → AreLivesOf run home session l → AreLivesOf (h ∷ run) home session l
  lives_still l lives = record {
    home_is = lives.home_is;
    whose = lives.whose;
    life = still (life_after session run) ∙ lives.life;
    latest = lives.latest;
    most = lives.most;
    older = lives.older;
  }

-- ---- what is known, where the requests of one session know nothing

abbrev pub known_but : (knows : Holder → Knowledge) (session m x : ℕ) → Knowledge
known_but knows session m x = cond (m == session) nothing_known (knows (InSlot m x))

pub nothing_here : (knows : Holder → Knowledge) (session : ℕ) → known_but knows session session ≡ (λ x. nothing_known)
nothing_here knows session = ap (λ b x. cond b nothing_known (knows (InSlot session x))) (eq-eqb session session refl)

pub known_there : (knows : Holder → Knowledge) (session m : ℕ) → m ≢ session → known_but knows session m ≡ known_in knows m
known_there knows session m differ = ap (λ b x. cond b nothing_known (knows (InSlot m x))) (ne_eqb m session differ)

-- ---- who is beside whom

pub beside_as : (s : SiteId) (r : Records) (me i you y : Instance) (k q j p : Knowledge) → i ≡ me → y ≡ you → q ≡ k → p ≡ j → AreBeside s r me you k j → AreBeside s r i y q p
beside_as s r me i you y k q j p one two three four beside =
    subst (λ z. AreBeside s r z y q p) (sym one)
    (subst (λ z. AreBeside s r me z q p) (sym two) (subst (λ z. AreBeside s r me you z p) (sym three) (subst (AreBeside s r me you k) (sym four) beside)))

pub nothing_beside : (s : SiteId) (r : Records) (me you : Instance) (k : Knowledge) → AreBeside s r me you k nothing_known
nothing_beside s r me you k = beside_mutual s r you me nothing_known k (nothing_is_beside s r you me k)

-- beside one who knows no header anybody may look, drop a lock, and change an object
pub unknown_looks : (s : SiteId) (r : Records) (me you : Instance) (k j : Knowledge) → ((image : ℕ) → known_header j s image ≡ None) → (o : Op) → MayAct s r me you k j o
unknown_looks s r me you k j none (op.Header image header.Get) = λ free some told. absurd (true≢false (sym told ∙ ap is_some (none image)))
unknown_looks s r me you k j none (op.Header image header.LockDrop) = λ lock free some told. absurd (true≢false (sym told ∙ ap is_some (none image)))
unknown_looks s r me you k j none (op.Data image number o) = λ free mine told knows. absurd (true≢false (sym told ∙ ap is_some (none image)))
unknown_looks s r me you k j none (op.Map image (states.Set None number state)) = λ free mine told knows. absurd (true≢false (sym told ∙ ap is_some (none image)))
unknown_looks s r me you k j none _ = tt

module _ (who who_now : Holder → Instance) (knows knows_now : Holder → Knowledge) where
  -- who knows nothing any more, or knows what he knew
  pub data IsAs (g : Holder) : Type 0 where
    Silent : knows_now g ≡ nothing_known → IsAs g
    Same : who_now g ≡ who g → knows_now g ≡ knows g → IsAs g

  -- what is known to be drawn by whoever knows it then was known so
  pub new_still : (Holds : SiteId → (image : ℕ) → Type 0) → ((g : Holder) (s : SiteId) (image : ℕ) → is_drawn (knows g).drawn s image ≡ true → Holds s image) → ((g : Holder) → IsAs g)
      → (g : Holder) (s : SiteId) (image : ℕ) → is_drawn (knows_now g).drawn s image ≡ true → Holds s image
  new_still Holds new each g s image drawn = by (each g)
    where
      by : IsAs g → Holds s image
      by (Silent none) = absurd (true≢false (sym drawn ∙ ap (λ (k : Knowledge). is_drawn k.drawn s image) none))
      by (Same one two) = new g s image (subst (λ (k : Knowledge). is_drawn k.drawn s image ≡ true) two drawn)

  -- so what holds of all that was known holds then
  pub all_still : (P : SiteId → Knowledge → Type 0) → ((s : SiteId) → P s nothing_known) → ((g : Holder) (s : SiteId) → P s (knows g)) → ((g : Holder) → IsAs g)
      → (g : Holder) (s : SiteId) → P s (knows_now g)
  all_still P nothing all each g s = by (each g)
    where
      by : IsAs g → P s (knows_now g)
      by (Silent none) = subst (P s) (sym none) (nothing s)
      by (Same one two) = subst (P s) (sym two) (all g s)

  pub beside_still : (r : SiteId → Records) → ((a g : Holder) → AreStrangers a g → (s : SiteId) → AreBeside s (r s) (who a) (who g) (knows a) (knows g)) → ((g : Holder) → IsAs g)
      → (a g : Holder) → AreStrangers a g → (s : SiteId) → AreBeside s (r s) (who_now a) (who_now g) (knows_now a) (knows_now g)
  beside_still r beside each a g apart s = by (each a) (each g)
    where
      by : IsAs a → IsAs g → AreBeside s (r s) (who_now a) (who_now g) (knows_now a) (knows_now g)
      by (Silent none) other = subst (λ k. AreBeside s (r s) (who_now a) (who_now g) k (knows_now g)) (sym none) (nothing_is_beside s (r s) (who_now a) (who_now g) (knows_now g))
      by (Same one same) (Silent none) = subst (AreBeside s (r s) (who_now a) (who_now g) (knows_now a)) (sym none) (nothing_beside s (r s) (who_now a) (who_now g) (knows_now a))
      by (Same one same) (Same two also) =
          beside_as s (r s) (who a) (who_now a) (who g) (who_now g) (knows a) (knows_now a) (knows g) (knows_now g) one two same also (beside a g apart s)
