-- A world in which nobody has to wait for a lock, and what each event leaves of that: one session's
-- clients alone take locks, nobody is stopped, and no image is quiesced.
use Rattle.std.proofs.Common.{◌≡◌, ◌⊎◌, inl, inr, ℕ, ◌==◌, ◌&&◌, ◌||◌, cond, Bool, true, false, [], ◌∷◌, append-nil, is_some, Option, Some, None, refl, sym, ap, ◌∙◌, subst}
use Rattle.std.proofs.lemmas.Bool.{and_right, cases_eq, eq-eqb, eqb-true, false≢true, ne_eqb, true≢false}
use Rattle.std.proofs.lemmas.Option.{none-some, same_Some}
use Rattle.std.proofs.lemmas.List.Folds.{list_any-append}
use Rattle.rbd_client.specs.Client.{ClientView}
use Rattle.rbd_client.specs.Sound.{IsOwned}
use Rattle.rbd_kinds.specs.Images.{same_site as is_there}
use Rattle.rbd_kinds.specs.declared.id.Instance.{Instance}
use Rattle.rbd_kinds.specs.declared.id.SiteId.{SiteId}
use Rattle.rbd_kinds.specs.declared.id.SiteId.TheVariants as site_is
use Rattle.rbd_kinds.specs.declared.operation.Op.{Op}
use Rattle.rbd_kinds.specs.declared.reply.Reply.{Reply}
use Rattle.rbd_kinds.proofs.Images.{same_site_itself}
use Rattle.rbd_machine.specs.Knowledge.{same_site}
use Rattle.rbd_machine.specs.Plan.{Standing}
use Rattle.rbd_site.specs.Log.{SiteLog, after_all, expire_line, expired, log_line, records_of, trim_line, trimmed}
use Rattle.rbd_site.specs.Records.{Records, no_records}
use Rattle.rbd_site.specs.Step.{after, after_served, is_fenced}
use Rattle.rbd_site.specs.declared.done.Done.{Done}
use Rattle.rbd_site.proofs.LogLemmas.{after_all-more}
use Rattle.rbd_world.specs.declared.event.Event.{Event}
use Rattle.rbd_world.specs.declared.event.Event.TheVariants as event
use Rattle.rbd_world.specs.declared.sites.Sites.{Sites}
use Rattle.rbd_world.specs.Run.{Began, Did, Doer, Expired, Happening, Heard, Nothing, Operation, Refused, Restarted, Stopped, Trimmed, Waited, entries_of, lines_at, records_behind}
use Rattle.rbd_world.specs.Step.{Becomes, BecomesOf, Does, Goes, LivesOnIf, RunsOn, late_behind, mail_then, names_session, operation_at, with_log_lines}
use Rattle.rbd_world.specs.World.{LivesView, WorldView, client_in, lives_in, records_in, running_of, site_in}
use Rattle.rbd_world.proofs.BothSites.{this_or_other}
use Rattle.rbd_schedule.specs.Starts.{is_end_of, is_ended}
use Rattle.rbd_plays.specs.OneChanger.{is_replied, is_reply_of}
use Rattle.rbd_plays.proofs.Counts.{gives_up_at}
use Rattle.rbd_plays.proofs.Owners.{AsksNobody, IsNoFence, IsNoRequest, Keeps, RefusesNobody, asks_nobody, gives_up, owner_at, refuses_nobody, serves}
use Rattle.rbd_plays.proofs.Replied.{GoesOnRunning, ends_by_replies}
use Rattle.rbd_plays.proofs.Tame.{IsTame}

-- ---- the records behind what happened

lines_leave : (x : SiteLog) → records_of (with_log_lines [] x) ≡ records_of x
lines_leave x = ap (after_all no_records) (append-nil x.log)

line_more : (b : Bool) (x : SiteLog) (d : Done) (r : Records) → records_of (with_log_lines (d ∷ []) x) ≡ r → records_of (with_log_lines (cond b (d ∷ []) []) x) ≡ cond b r (records_of x)
line_more true x d r is = is
line_more false x d r is = lines_leave x

records_then : (s : SiteId) (h : Happening) (x : SiteLog) → records_of (with_log_lines (lines_at s h) x) ≡ records_behind s (records_of x) h
records_then s Nothing x = lines_leave x
records_then s Waited x = lines_leave x
records_then s (Began asked slot) x = lines_leave x
records_then s (Did o reply) x =
    line_more (same_site o.site s) x (log_line o.number o.instance o.op o.answer) (after (records_of x) o.instance o.op) (after_all-more no_records x.log (log_line o.number o.instance o.op o.answer))
records_then s (Refused home line reply) x = lines_leave x
records_then s (Trimmed site number image object) x =
    line_more (same_site site s) x (trim_line number image object) (trimmed image object (records_of x)) (after_all-more no_records x.log (trim_line number image object))
records_then s (Expired site number image who) x =
    line_more (same_site site s) x (expire_line number image who) (expired image who (records_of x)) (after_all-more no_records x.log (expire_line number image who))
records_then s (Heard notice) x = lines_leave x
records_then s (Stopped who wanted lost) x = lines_leave x
records_then s (Restarted who) x = lines_leave x

-- no operation of an instance, no stop and no restart
abbrev pub IsPlain : Happening → Type 0
IsPlain (Did o reply) = ⊥
IsPlain (Stopped who wanted lost) = ⊥
IsPlain (Restarted who) = ⊥
IsPlain h = Unit {0}

plain_goes : (h : Happening) → IsPlain h → GoesOnRunning h
plain_goes (Did o reply) plain = tt
plain_goes (Stopped who wanted lost) plain = plain
plain_goes (Restarted who) plain = plain
plain_goes h plain = tt

either : {T : Type 0} (f : Records → T) (b : Bool) (x r : Records) → f x ≡ f r → f (cond b x r) ≡ f r
either f true x r same = same
either f false x r same = refl

plain_owner : (s : SiteId) (h : Happening) (r : Records) (image : ℕ) → IsPlain h → owner_at (records_behind s r h) image ≡ owner_at r image
plain_owner s (Did o reply) r image plain = absurd plain
plain_owner s (Trimmed site number on object) r image plain = either (λ x. owner_at x image) (same_site site s) (trimmed on object r) r refl
plain_owner s (Expired site number on who) r image plain = either (λ x. owner_at x image) (same_site site s) (expired on who r) r refl
plain_owner s h r image plain = refl

plain_fence : (s : SiteId) (h : Happening) (r : Records) (i : Instance) → IsPlain h → is_fenced (records_behind s r h) i ≡ is_fenced r i
plain_fence s (Did o reply) r i plain = absurd plain
plain_fence s (Trimmed site number on object) r i plain = either (λ x. is_fenced x i) (same_site site s) (trimmed on object r) r refl
plain_fence s (Expired site number on who) r i plain = either (λ x. is_fenced x i) (same_site site s) (expired on who r) r refl
plain_fence s h r i plain = refl

plain_mail : (h : Happening) (sites : Sites) → IsPlain h → mail_then h sites ≡ sites.mail
plain_mail (Did o reply) sites plain = absurd plain
plain_mail h sites plain = refl

sites_differ : (s at : SiteId) → same_site s at ≡ false → is_there at s ≡ false
sites_differ site_is.A site_is.A other = absurd (true≢false other)
sites_differ site_is.A site_is.B other = refl
sites_differ site_is.B site_is.A other = refl
sites_differ site_is.B site_is.B other = absurd (true≢false other)

-- what becomes of a client where no operation was done
module _ {R : Type 0} (stands : R → Standing) where
  pub record GoesOnWell (changes : Bool) (c d : ClientView R) : Type 0 where
    pub instance : d.session.instance ≡ c.session.instance
    pub owned : (s : SiteId) (image : ℕ) → IsOwned s image c.locks → IsOwned s image d.locks
    pub tame : IsTame stands changes c → IsTame stands changes d

  same_well : (changes : Bool) (c d : ClientView R) → d ≡ c → GoesOnWell changes c d
  same_well changes c d same = record {
    instance = ap (λ (x : ClientView R). x.session.instance) same;
    owned = λ s image is. subst (λ (x : ClientView R). IsOwned s image x.locks) (sym same) is;
    tame = λ is. subst (IsTame stands changes) (sym same) is;
  }

module _ {R : Type 0} (stands : R → Standing) (changer : ℕ) where
  -- ---- the worlds

  -- The lock of an image counts as its own at the changer's client, which is this instance.
  pub record HasIt (w : WorldView R) (s : SiteId) (image : ℕ) (who : Instance) : Type 0 where
    pub client : ClientView R
    pub runs : client_in changer w.lives ≡ Some client
    pub is : client.session.instance ≡ who
    pub owned : IsOwned s image client.locks

  pub record IsUnhindered (w : WorldView R) : Type 0 where
    pub late : (session : ℕ) (l : LivesView R) → lives_in session w.lives ≡ Some l → l.late ≡ None
    pub runs : (session : ℕ) (l : LivesView R) → lives_in session w.lives ≡ Some l → is_some l.running ≡ true
    pub tame : (session : ℕ) (c : ClientView R) → client_in session w.lives ≡ Some c → IsTame stands (session == changer) c
    pub sites : (s : SiteId) → RefusesNobody (records_in s w.sites)
    pub owners : (s : SiteId) (image : ℕ) (who : Instance) → owner_at (records_in s w.sites) image ≡ Some who → HasIt w s image who
    pub mail : AsksNobody w.sites.mail
    pub replies : (line : ℕ) → is_ended line w.history ≡ is_replied line w.history

  -- ---- what happens but for stops and restarts

  late_none : (e : Event) (h : Happening) → GoesOnRunning h → late_behind e h None ≡ None
  late_none (event.Late session slot) (Did o reply) goes = refl
  late_none (event.Late session slot) (Stopped who wanted lost) goes = absurd goes
  late_none (event.Late session slot) h goes = refl
  late_none e (Stopped who wanted lost) goes = absurd goes
  late_none e (Did o reply) goes = refl
  late_none e h goes = refl

  runs_becomes : (e : Event) (h : Happening) (home : SiteId) (old new : Option (ClientView R)) → GoesOnRunning h → RunsOn stands e h home old new → BecomesOf stands e h old new
  runs_becomes e Nothing home old new goes runs = runs
  runs_becomes e Waited home old new goes runs = runs
  runs_becomes e (Began asked slot) home old new goes runs = runs
  runs_becomes e (Did o reply) home old new goes runs = runs
  runs_becomes e (Refused s line reply) home old new goes runs = runs
  runs_becomes e (Trimmed s number image object) home old new goes runs = runs
  runs_becomes e (Expired s number image who) home old new goes runs = runs
  runs_becomes e (Heard notice) home old new goes runs = runs
  runs_becomes e (Stopped who wanted lost) home old new goes runs = absurd goes
  runs_becomes e (Restarted who) home old new goes runs = absurd goes

  module _ (e : Event) (h : Happening) (old new : WorldView R) (does : Does stands e h old new) (goes : GoesOnRunning h) where
    -- a client that is there goes on
    record IsThen (session : ℕ) (c : ClientView R) : Type 0 where
      client : ClientView R
      runs : client_in session new.lives ≡ Some client
      becomes : (names_session e h session ≡ false × (client ≡ c)) ⊎ (names_session e h session ≡ true × Becomes stands e h c client)

    becomes_some : (session : ℕ) (c : ClientView R) (n : Option (ClientView R)) → client_in session new.lives ≡ n → names_session e h session ≡ true → BecomesOf stands e h (Some c) n → IsThen session c
    becomes_some session c None is named becomes = absurd becomes
    becomes_some session c (Some d) is named becomes = record { client = d; runs = is; becomes = inr (named, becomes) }

    then_of : (session : ℕ) (c : ClientView R) → client_in session old.lives ≡ Some c → IsThen session c
    then_of session c there = by (names_session e h session) refl
      where
        of : (a b : Option (LivesView R)) → lives_in session old.lives ≡ a → lives_in session new.lives ≡ b → names_session e h session ≡ true → LivesOnIf stands e h a b → IsThen session c
        of None b was is named on = absurd (none-some c (sym (ap running_of was) ∙ there))
        of (Some a) None was is named on = absurd on
        of (Some a) (Some b) was is named on =
            becomes_some session c b.running (ap running_of is) named
            (subst (λ o. BecomesOf stands e h o b.running) (sym (ap running_of was) ∙ there) (runs_becomes e h a.home a.running b.running goes on.running))

        by : (b : Bool) → names_session e h session ≡ b → IsThen session c
        by true named = of (lives_in session old.lives) (lives_in session new.lives) refl refl named (does.named session named)
        by false other = record { client = c; runs = ap running_of (does.others session other) ∙ there; becomes = inl (other, refl) }

    module _ (was : IsUnhindered old) where
      -- and each was there before
      record IsBefore (session : ℕ) (d : ClientView R) : Type 0 where
        client : ClientView R
        runs : client_in session old.lives ≡ Some client
        next : IsThen session client
        same : next.client ≡ d

      before_of : (session : ℕ) (d : ClientView R) → client_in session new.lives ≡ Some d → IsBefore session d
      before_of session d there = by (client_in session old.lives) refl
        where
          lost : client_in session old.lives ≡ None → IsBefore session d
          lost none = of (lives_in session old.lives) (lives_in session new.lives) refl refl
            where
              named : (b : Option (LivesView R)) → lives_in session old.lives ≡ None → lives_in session new.lives ≡ b → (n : Bool) → names_session e h session ≡ n → IsBefore session d
              named b past is true at = absurd (none-some d (sym (ap running_of (subst (λ a. LivesOnIf stands e h a (lives_in session new.lives)) past (does.named session at))) ∙ there))
              named b past is false other = absurd (none-some d (sym (ap running_of (does.others session other ∙ past)) ∙ there))

              of : (a b : Option (LivesView R)) → lives_in session old.lives ≡ a → lives_in session new.lives ≡ b → IsBefore session d
              of None b past is = named b past is (names_session e h session) refl
              of (Some a) b past is = absurd (true≢false (sym (was.runs session a past) ∙ ap is_some (sym (ap running_of past) ∙ none)))

          by : (o : Option (ClientView R)) → client_in session old.lives ≡ o → IsBefore session d
          by None is = lost is
          by (Some c) is = let next = then_of session c is in record { client = c; runs = is; next = next; same = same_Some next.client d (sym next.runs ∙ there) }

      -- no life comes, and none goes
      lives_then : (session : ℕ) (l : LivesView R) → lives_in session new.lives ≡ Some l → (l.late ≡ None) × (is_some l.running ≡ true)
      lives_then session l there = by (names_session e h session) refl
        where
          of : (a : Option (LivesView R)) → lives_in session old.lives ≡ a → LivesOnIf stands e h a (Some l) → (l.late ≡ None) × (is_some l.running ≡ true)
          of None past on = absurd (none-some l (sym on))
          of (Some a) past on =
              (on.late ∙ ap (late_behind e h) (was.late session a past) ∙ late_none e h goes, go a.running l.running (was.runs session a past) (runs_becomes e h a.home a.running l.running goes on.running))
            where
              go : (c d : Option (ClientView R)) → is_some c ≡ true → BecomesOf stands e h c d → is_some d ≡ true
              go None d some becomes = absurd (false≢true some)
              go (Some c) None some becomes = absurd becomes
              go (Some c) (Some d) some becomes = refl

          by : (b : Bool) → names_session e h session ≡ b → (l.late ≡ None) × (is_some l.running ≡ true)
          by true named = of (lives_in session old.lives) refl (subst (LivesOnIf stands e h (lives_in session old.lives)) there (does.named session named))
          by false other = let past = sym (does.others session other) ∙ there in (was.late session l past, was.runs session l past)

      replies_then : (line : ℕ) → is_ended line new.history ≡ is_replied line new.history
      replies_then line =
          ap (is_ended line) does.history ∙ list_any-append (is_end_of line) old.history (entries_of h)
          ∙ ap (λ b. b || is_ended line (entries_of h)) (was.replies line)
          ∙ ap (λ b. is_replied line old.history || b) (ends_by_replies line h goes)
          ∙ sym (list_any-append (is_reply_of line) old.history (entries_of h)) ∙ sym (ap (is_replied line) does.history)

      records_now : (s : SiteId) → records_in s new.sites ≡ records_behind s (records_in s old.sites) h
      records_now s = ap records_of (does.sites s) ∙ records_then s h (site_in s old.sites)

      -- ---- where no operation of an instance was done

      module _ (plain : IsPlain h) (well : (session : ℕ) (c d : ClientView R) → client_in session old.lives ≡ Some c → names_session e h session ≡ true → Becomes stands e h c d → GoesOnWell stands (session == changer) c d) where
        then_well : (session : ℕ) (c : ClientView R) → client_in session old.lives ≡ Some c → (next : IsThen session c) → GoesOnWell stands (session == changer) c next.client
        then_well session c there next = by next.becomes
          where
            by : (names_session e h session ≡ false × (next.client ≡ c)) ⊎ (names_session e h session ≡ true × Becomes stands e h c next.client) → GoesOnWell stands (session == changer) c next.client
            by (inl (other, same)) = same_well stands (session == changer) c next.client same
            by (inr (named, becomes)) = well session c next.client there named becomes

        pub keeps_quietly : IsUnhindered new
        keeps_quietly = record {
          late = λ session l there. (lives_then session l there).0;
          runs = λ session l there. (lives_then session l there).1;
          tame = λ session d there.
              let before = before_of session d there in
              subst (IsTame stands (session == changer)) before.same ((then_well session before.client before.runs before.next).tame (was.tame session before.client before.runs));
          sites = λ s i. ap (λ r. is_fenced r i) (records_now s) ∙ plain_fence s h (records_in s old.sites) i plain ∙ was.sites s i;
          owners = λ s image who has.
              let had = was.owners s image who (sym (plain_owner s h (records_in s old.sites) image plain) ∙ sym (ap (λ r. owner_at r image) (records_now s)) ∙ has) in
              let next = then_of changer had.client had.runs in
              let goes_well = then_well changer had.client had.runs next in
              record { client = next.client; runs = next.runs; is = goes_well.instance ∙ had.is; owned = goes_well.owned s image had.owned };
          mail = subst AsksNobody (sym (does.mail ∙ plain_mail h old.sites plain)) was.mail;
          replies = replies_then;
        }

      -- so it is where clients stay as they are
      pub keeps_still : IsPlain h → ((c d : ClientView R) → Becomes stands e h c d → d ≡ c) → IsUnhindered new
      keeps_still plain still = keeps_quietly plain (λ session c d there named becomes. same_well stands (session == changer) c d (still c d becomes))

  -- ---- where an operation was done

  module _ (old new : WorldView R) (session slot : ℕ) (c : ClientView R) (there : client_in session old.lives ≡ Some c) (by : Doer) (s : SiteId) (o : Op) (reply : Option Reply) where
    abbrev pub done : Operation
    done = operation_at (site_in s old.sites) c.session.instance by s o

    abbrev polls : Event
    polls = event.Poll session slot

    -- what becomes of the client that did it
    pub record Moves (d : ClientView R) : Type 0 where
      pub owned : (at : SiteId) (image : ℕ) → gives_up_at s o at image ≡ false → IsOwned at image c.locks → IsOwned at image d.locks
      pub tame : IsTame stands (session == changer) d

    -- Who has a lock had it before, or took it.
    abbrev pub HasOrTook : (image : ℕ) → (who : Instance) → Type 0
    HasOrTook image who =
        Keeps c.session.instance (gives_up image o) (owner_at (records_in s old.sites) image) who
        ⊎ ((session ≡ changer) × (who ≡ c.session.instance) × ((d : ClientView R) → Goes stands slot done reply c d → IsOwned s image d.locks))

    module _ (does : Does stands (event.Poll session slot) (Did done reply) old new) (was : IsUnhindered old) (moves : (d : ClientView R) → Goes stands slot done reply c d → Moves d)
        (fences_none : IsNoFence o) (asks_none : IsNoRequest o)
        (has : (image : ℕ) (who : Instance) → owner_at (after_served (records_in s old.sites) c.session.instance o) image ≡ Some who → HasOrTook image who) where
      next : IsThen polls (Did done reply) old new does tt session c
      next = then_of polls (Did done reply) old new does tt session c there

      goes : Goes stands slot done reply c next.client
      goes = go next.becomes
        where
          go : (((session == session) ≡ false) × (next.client ≡ c)) ⊎ (((session == session) ≡ true) × Goes stands slot done reply c next.client) → Goes stands slot done reply c next.client
          go (inl (other, same)) = absurd (true≢false (sym (eq-eqb session session refl) ∙ other))
          go (inr (named, becomes)) = becomes

      moved : Moves next.client
      moved = moves next.client goes

      -- the clients of other sessions stay
      other_stays : (n : ℕ) (x : ClientView R) → (session == n) ≡ false → (then : IsThen polls (Did done reply) old new does tt n x) → then.client ≡ x
      other_stays n x differ then = go then.becomes
        where
          go : (((session == n) ≡ false) × (then.client ≡ x)) ⊎ (((session == n) ≡ true) × Goes stands slot done reply x then.client) → then.client ≡ x
          go (inl (other, same)) = same
          go (inr (named, becomes)) = absurd (true≢false (sym named ∙ differ))

      tame_then : (n : ℕ) (d : ClientView R) → client_in n new.lives ≡ Some d → IsTame stands (n == changer) d
      tame_then n d at = go (session == n) refl
        where
          go : (b : Bool) → (session == n) ≡ b → IsTame stands (n == changer) d
          go true named =
              let same : session ≡ n = eqb-true session n named in
              let is : next.client ≡ d = same_Some next.client d (sym next.runs ∙ subst (λ m. client_in m new.lives ≡ Some d) (sym same) at) in
              subst (λ m. IsTame stands (m == changer) d) same (subst (IsTame stands (session == changer)) is moved.tame)
          go false differ =
              let before = before_of polls (Did done reply) old new does tt was n d at in
              subst (IsTame stands (n == changer)) (sym (other_stays n before.client differ before.next) ∙ before.same) (was.tame n before.client before.runs)

      -- who had a lock has it still, where it wasn't let go
      hand_on : (at : SiteId) (image : ℕ) (who : Instance) → HasIt old at image who → (c.session.instance ≡ who → gives_up_at s o at image ≡ false) → HasIt new at image who
      hand_on at image who had keeps = go (cases_eq session changer)
        where
          go : (session ≡ changer) ⊎ (session ≡ changer → ⊥) → HasIt new at image who
          go (inl same) =
              let is : c ≡ had.client = same_Some c had.client (sym there ∙ ap (λ n. client_in n old.lives) same ∙ had.runs) in
              let mine : c.session.instance ≡ who = ap (λ (x : ClientView R). x.session.instance) is ∙ had.is in
              record {
                client = next.client;
                runs = subst (λ n. client_in n new.lives ≡ Some next.client) same next.runs;
                is = goes.client.instance ∙ mine;
                owned = moved.owned at image (keeps mine) (subst (λ (x : ClientView R). IsOwned at image x.locks) (sym is) had.owned);
              }
          go (inr differ) =
              let then = then_of polls (Did done reply) old new does tt changer had.client had.runs in
              let same = other_stays changer had.client (ne_eqb session changer differ) then in
              record { client = had.client; runs = then.runs ∙ ap Some same; is = had.is; owned = had.owned }

      records_at : (at : SiteId) → records_in at new.sites ≡ cond (same_site s at) (after (records_in at old.sites) c.session.instance o) (records_in at old.sites)
      records_at at = records_now polls (Did done reply) old new does tt was at

      owners_then : (at : SiteId) (image : ℕ) (who : Instance) → owner_at (records_in at new.sites) image ≡ Some who → HasIt new at image who
      owners_then at image who is = go (this_or_other s at)
        where
          here : gives_up image o ≡ false → gives_up_at s o s image ≡ false
          here no_more = ap (λ b. is_there s s && b) no_more ∙ and_right (is_there s s) false refl

          kept : Keeps c.session.instance (gives_up image o) (owner_at (records_in s old.sites) image) who → c.session.instance ≡ who → gives_up_at s o s image ≡ false
          kept keeps mine = here (of (gives_up image o) keeps.kept)
            where
              of : (b : Bool) → (b ≡ true → who ≡ c.session.instance → ⊥) → b ≡ false
              of true never = absurd (never refl (sym mine))
              of false never = refl

          either_way : HasOrTook image who → HasIt new s image who
          either_way (inl keeps) = hand_on s image who (was.owners s image who keeps.had) (kept keeps)
          either_way (inr (mine, same, owned)) = record {
            client = next.client;
            runs = subst (λ n. client_in n new.lives ≡ Some next.client) mine next.runs;
            is = goes.client.instance ∙ sym same;
            owned = owned next.client goes;
          }

          go : (at ≡ s) ⊎ (same_site s at ≡ false) → HasIt new at image who
          go (inl same) =
              subst (λ q. HasIt new q image who) (sym same)
              (either_way (has image who
              (sym (ap (λ r. owner_at r image) (serves (records_in s old.sites) c.session.instance o (was.sites s)))
              ∙ sym (ap (λ b. owner_at (cond b (after (records_in s old.sites) c.session.instance o) (records_in s old.sites)) image) (same_site_itself s))
              ∙ sym (ap (λ r. owner_at r image) (records_at s)) ∙ subst (λ q. owner_at (records_in q new.sites) image ≡ Some who) same is)))
          go (inr other) =
              hand_on at image who
              (was.owners at image who
              (sym (ap (λ b. owner_at (cond b (after (records_in at old.sites) c.session.instance o) (records_in at old.sites)) image) other) ∙ sym (ap (λ r. owner_at r image) (records_at at)) ∙ is))
              (λ mine. ap (λ b. b && gives_up image o) (sites_differ s at other))

      fences_then : (at : SiteId) → RefusesNobody (records_in at new.sites)
      fences_then at = subst RefusesNobody (sym (records_at at)) (go (same_site s at))
        where
          go : (b : Bool) → RefusesNobody (cond b (after (records_in at old.sites) c.session.instance o) (records_in at old.sites))
          go true = subst RefusesNobody (sym (serves (records_in at old.sites) c.session.instance o (was.sites at))) (refuses_nobody (records_in at old.sites) c.session.instance o fences_none (was.sites at))
          go false = was.sites at

      pub keeps_doing : IsUnhindered new
      keeps_doing = record {
        late = λ n l at. (lives_then polls (Did done reply) old new does tt was n l at).0;
        runs = λ n l at. (lives_then polls (Did done reply) old new does tt was n l at).1;
        tame = tame_then;
        sites = fences_then;
        owners = owners_then;
        mail = subst AsksNobody (sym does.mail) (asks_nobody (site_in s old.sites).id (records_in s old.sites) c.session.instance o old.sites.mail asks_none was.mail);
        replies = replies_then polls (Did done reply) old new does tt was;
      }
