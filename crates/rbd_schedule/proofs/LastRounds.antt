-- The last rounds of those that close a script, which were idle; and what they show of each way to
-- a lock.
use Rattle.std.proofs.Common.{◌≡◌, ℕ, zero, suc, ◌+◌, ◌<◌, ◌≤◌, ◌==◌, ◌⊎◌, inl, inr, cond, Bool, true, false, List, Option, Some, None, refl, sym, ap, ◌∙◌, subst, arith}
use Rattle.std.proofs.lemmas.Option.{none-some}
use Rattle.rbd_client.specs.declared.actor.Actor.TheVariants as actor
use Rattle.rbd_client.specs.Actor.{actor_at}
use Rattle.rbd_client.specs.Client.{ClientView}
use Rattle.rbd_kinds.specs.declared.id.SiteId.{SiteId}
use Rattle.rbd_kinds.specs.declared.notice.Notice.{Notice}
use Rattle.rbd_machine.specs.Plan.{Standing}
use Rattle.rbd_lock.specs.Steps.{is_instance_among}
use Rattle.rbd_lock.specs.declared.acquire.Acquire.{Acquire}
use Rattle.rbd_slots.specs.Session.{running_at}
use Rattle.rbd_slots.specs.declared.running.Running.{Running}
use Rattle.rbd_site.specs.Records.{Records}
use Rattle.rbd_world.specs.World.{WorldView, client_in, records_in, session_in, session_of_client}
use Rattle.rbd_schedule.specs.declared.given.Given.{Given}
use Rattle.rbd_schedule.specs.Deeds.{Deeds}
use Rattle.rbd_schedule.specs.Ends.{IsAnothers}
use Rattle.rbd_schedule.specs.Schedule.{Calm, Round, RoundsOn}
use Rattle.rbd_schedule.specs.Starts.{IsQuiet}
use Rattle.rbd_schedule.proofs.Ended.{AreSoundSessions, HasRequestsOf, keeps_turns, requests_step, sound_again}
use Rattle.rbd_schedule.proofs.Nearing.{nears_first, nears_none}
use Rattle.rbd_schedule.proofs.Mailed.{IsMailed}
use Rattle.rbd_schedule.proofs.Posting.{AllPost, HasBeenAsked, IsPosted, IsPostedTo, first_posts, posted_in, posted_step, rounds_post}
use Rattle.rbd_schedule.proofs.Stuck.{IsAsked}
use Rattle.rbd_schedule.proofs.Undelivered.{HadWay, had_way, round_asks}
use Rattle.rbd_schedule.proofs.Showing.{AllShow, rounds_show}
use Rattle.rbd_schedule.proofs.Unchanged.{as_itself}

module _ {R : Type 0} (stands : R → Standing) (given : (session : ℕ) → List Given) (lost : (number : ℕ) → Bool) (n : ℕ) where
  -- so many idle rounds, one after another
  abbrev pub IdleRounds : (count : ℕ) → (old new : WorldView R) → Type 0
  IdleRounds count old new = Deeds (λ i. Round stands given lost n false) count old new

  -- the last rounds of some, and that there was one more before them
  pub record AreLastRounds (count : ℕ) (old : Calm R) (w : WorldView R) : Type 0 where
    pub before : Calm R
    pub made : ℕ
    pub first : Deeds (λ i. RoundsOn stands given lost n) made old before
    pub some : 1 ≤ before.idle
    pub rounds : IdleRounds count before.world w

  pub last_rounds : (count made : ℕ) (old new : Calm R) → Deeds (λ i. RoundsOn stands given lost n) made old new → old.idle ≡ 0 → count + 1 ≤ new.idle → AreLastRounds count old new.world
  unfolding Deeds
  last_rounds zero made old new done none many = record { before = new; made = made; first = done; some = omega (arith, many); rounds = refl }
  last_rounds (suc count) zero old new done none many =
      let no : new.idle ≡ 0 = ap (λ (c : Calm R). c.idle) done ∙ none in absurd (omega (arith, no, many))
  last_rounds (suc count) (suc made) old new (between, before, it) none many = by (λ many. last_rounds count made old between before none many) it.went_on it.idle it.round
    where
      by : (count + 1 ≤ between.idle → AreLastRounds count old between.world) → (b : Bool) → new.idle ≡ cond b 0 (between.idle + 1) → Round stands given lost n b between.world new.world
          → AreLastRounds (suc count) old new.world
      by rest true idle round = absurd (omega (arith, idle, many))
      by rest false idle round =
          let them = rest (omega (arith, idle, many)) in
          record { before = them.before; made = them.made; first = them.first; some = them.some; rounds = (between.world, them.rounds, round) }

  -- requests are those of the first of them
  pub requests_kept : (count : ℕ) (old new : WorldView R) → IdleRounds count old new → IsQuiet given old → HasRequestsOf stands given old new × IsQuiet given new
  unfolding Deeds
  requests_kept zero old new done quiet = ((λ s. ap (λ (w : WorldView R). session_in s w.lives) done), subst (IsQuiet given) (sym done) quiet)
  requests_kept (suc count) old new (between, first, last) quiet =
      let so = requests_kept count old between first quiet in
      keeps_turns stands given (HasRequestsOf stands given old) (requests_step stands given old) lost n (record { world = between; went_on = false }) (record { world = new; went_on = false }) last refl so

  none_of : (o : Option (ClientView R)) → session_of_client o ≡ None → o ≡ None
  none_of None is = refl
  none_of (Some c) is = absurd (none-some c.session (sym is))

  -- behind seven of them each way has shown whose its lock is, and its owner was asked
  module _ (old before w : WorldView R) (first : IdleRounds 6 old before) (last : Round stands given lost n false before w) (quiet : IsQuiet given old) (mailed : IsMailed old) (sound : AreSoundSessions stands given w)
      (below : (s : ℕ) (c : ClientView R) → client_in s w.lives ≡ Some c → s < n) (none : (s : ℕ) → n ≤ s → client_in s w.lives ≡ None) where
    abbrev base : SiteId → Records
    base s = records_in s old.sites

    all_of : IdleRounds 7 old w
    unfolding Deeds
    all_of = (before, first, last)

    same : (s : ℕ) → session_in s w.lives ≡ session_in s old.lives
    same = (requests_kept 7 old w all_of quiet).0

    sound_first : AreSoundSessions stands given old
    sound_first = sound_again stands given w old (λ s. sym (same s)) sound

    none_first : (s : ℕ) → n ≤ s → client_in s old.lives ≡ None
    none_first s past = none_of (client_in s old.lives) (sym (same s) ∙ ap session_of_client (none s past))

    shown : AllShow stands base 0 n w
    shown = (rounds_show stands base given lost n 7 0 old w all_of quiet (record {
      alike = λ s. as_itself (base s);
      sound = sound_first;
      none = none_first;
      shows = λ session slot some c there r runs a acts. nears_first (base a.site) c.session.instance a.image 7 a.stage (omega arith);
    })).0

    posts : AllPost stands base 0 n before × IsQuiet given before
    posts = rounds_post stands base given lost n 6 0 old before first quiet (first_posts stands base given lost n 6 old (omega arith) (λ s. as_itself (base s)) mailed sound_first none_first)

    module _ (session slot : ℕ) (some : (slot == 0) ≡ false) (c : ClientView R) (there : client_in session w.lives ≡ Some c) (r : Running R) (runs : running_at slot c.session ≡ Some r) (a : Acquire) (acts : actor_at stands slot c ≡ actor.Way a) where
      was : IsAnothers (base a.site) a.image c.session.instance
      was = nears_none (base a.site) c.session.instance a.image a.stage (shown.shows session slot some c there r runs a acts)

      lock : IsAnothers (records_in a.site w.sites) a.image c.session.instance
      lock = record {
        header = was.header;
        there = (shown.alike a.site).0 a.image ∙ was.there;
        owner = was.owner;
        has = was.has;
        other = was.other;
        watches = subst (λ ws. is_instance_among ws was.owner ≡ true) (sym ((shown.alike a.site).1 a.image)) was.watches;
      }

      had : HadWay stands given lost before session slot c.session.instance a.site a.image
      had = had_way stands given lost n before w last posts.1 session slot some c there r runs a acts

      -- the notice was there before the last round
      posted : IsPostedTo before was.owner a.site a.image
      posted = by had.mine had.site_is had.image_is was
        where
          by : had.client.session.instance ≡ c.session.instance → had.on.site ≡ a.site → had.on.image ≡ a.image → (lock : IsAnothers (base a.site) a.image c.session.instance) → IsPostedTo before lock.owner a.site a.image
          by mine site image =
              subst (λ me. (lock : IsAnothers (base a.site) a.image me) → IsPostedTo before lock.owner a.site a.image) mine
              (subst (λ s. (lock : IsAnothers (base s) a.image had.client.session.instance) → IsPostedTo before lock.owner s a.image) site
              (subst (λ i. (lock : IsAnothers (base had.on.site) i had.client.session.instance) → IsPostedTo before lock.owner had.on.site i) image
              (posted_in stands base given lost n session slot before (posts.0.posts session slot some) had.client had.there had.request had.runs had.on had.acts)))

      -- so the owner heard it in that round, or it is lost
      asked : IsAsked lost w was.owner a.site a.image
      asked = by posted
        where
          heard : (number : ℕ) (x : Notice) → IsPosted before was.owner a.site a.image number x → (b : Bool) → lost number ≡ b → (lost number ≡ true) ⊎ HasBeenAsked w was.owner a.site a.image
          heard number x it true is = inl is
          heard number x it false is = inr (λ d at me owned.
              round_asks stands given lost was.owner a.site a.image number x is n before w last posts.1 posts.0.mailed it (below was.owner.session d at) d at me owned)

          by : IsPostedTo before was.owner a.site a.image → IsAsked lost w was.owner a.site a.image
          by (number, x, it) =
              let now = keeps_turns stands given (λ v. IsPosted v was.owner a.site a.image number x) (λ p q step is. posted_step stands p q step was.owner a.site a.image number x is) lost n
              (record { world = before; went_on = false }) (record { world = w; went_on = false }) last refl (it, posts.1) in
              (number, x, now.0, heard number x it (lost number) refl)

    pub ways_show : (session slot : ℕ) → (slot == 0) ≡ false → (c : ClientView R) → client_in session w.lives ≡ Some c → (r : Running R) → running_at slot c.session ≡ Some r
        → (a : Acquire) → actor_at stands slot c ≡ actor.Way a → (lock : IsAnothers (records_in a.site w.sites) a.image c.session.instance) × IsAsked lost w lock.owner a.site a.image
    unfolding lock was
    ways_show session slot some c there r runs a acts = (lock session slot some c there r runs a acts, asked session slot some c there r runs a acts)
