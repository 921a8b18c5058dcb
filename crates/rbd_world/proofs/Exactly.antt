-- What each operation does to what is owed: with it maps that are exact, but for that, stay so.
use Rattle.std.proofs.Common.{◌≡◌, ◌≢◌, ◌⊎◌, inl, inr, ℕ, cond, Bool, true, false, List, [], ◌∷◌, length, Option, Some, refl, sym, ap, ◌∙◌, subst}
use Rattle.std.proofs.lemmas.Bool.{true≢false}
use Rattle.rbd_interference.specs.Exact.{KeepsWhatIsOwed, IsExactBut, IsOwed, makes_object, removes_object, sets_state, takes_snap}
use Rattle.rbd_interference.proofs.Exactly.{exact_more}
use Rattle.rbd_interference.proofs.ExactlyKept.{exact_expired, exact_stays, exact_trimmed}
use Rattle.rbd_kinds.specs.declared.header.HeaderView.{HeaderView}
use Rattle.rbd_kinds.specs.declared.id.Instance.{Instance}
use Rattle.rbd_kinds.specs.declared.id.SiteId.{SiteId}
use Rattle.rbd_kinds.specs.declared.reply.Reply.{Reply}
use Rattle.rbd_kinds.proofs.Images.{same_site_itself}
use Rattle.rbd_machine.specs.Knowledge.{same_site}
use Rattle.rbd_machine.specs.Plan.{Standing}
use Rattle.rbd_interference.specs.Truth.{IsTrueAt}
use Rattle.rbd_site.specs.Log.{expired, trimmed}
use Rattle.rbd_site.specs.Records.{Records, object_at}
use Rattle.rbd_site.specs.Step.{after, is_fenced}
use Rattle.rbd_stands.specs.Site.{StandsFor}
use Rattle.rbd_world.specs.Owing.{HasNoHindrance, owed_in}
use Rattle.rbd_world.specs.Run.{Happening, Did, Trimmed, Expired, Stopped, Operation, flat_after, records_after, steps_in}
use Rattle.rbd_world.specs.Sound.{IsRightlyDone, IsDue, IsSoundWorld}
use Rattle.rbd_world.specs.Step.{DoesAtSites}
use Rattle.rbd_world.specs.World.{WorldView, records_in, site_in}
use Rattle.rbd_world.proofs.BothSites.{this_or_other}
use Rattle.rbd_world.proofs.Debts.{no_steps_owe, none_fenced}
use Rattle.rbd_world.proofs.Runs.{done_of, standing_at}

-- Who sets another state than 0 owes the object, what is owed stays so until it is paid, an object
-- of an image that has a header is removed only by who owes that, and no object of an image is owed
-- when its snapshot is taken.
pub record OwesAsItGoes (o : Operation) (reply : Option Reply) (run : List Happening) : Type 0 where
  pub made : (t : SiteId) (image number : ℕ) → IsOwed (owed_in run) t image number 1
      → IsOwed (owed_in (Did o reply ∷ run)) t image number 1 ⊎ ((same_site o.site t ≡ true) × (makes_object image number o.op ≡ true))
  pub lowered : (t : SiteId) (image number : ℕ) → IsOwed (owed_in run) t image number 2
      → IsOwed (owed_in (Did o reply ∷ run)) t image number 2 ⊎ ((same_site o.site t ≡ true) × (sets_state image number 0 o.op ≡ true))
  pub new : (image number state : ℕ) → sets_state image number state o.op ≡ true → state ≢ 0 → IsOwed (owed_in (Did o reply ∷ run)) o.site image number state
  pub gone : (image number : ℕ) (h : HeaderView) → removes_object image number o.op ≡ true → (records_after o.site run).headers image ≡ Some h
      → IsOwed (owed_in (Did o reply ∷ run)) o.site image number 2
  pub free : (image number state : ℕ) → takes_snap image o.op ≡ true → IsOwed (owed_in run) o.site image number state → ⊥

-- so it is where nobody was stopped or fenced
abbrev pub IsOwedFor : Happening → (before : List Happening) → Type 0
IsOwedFor (Did o reply) run = HasNoHindrance (Did o reply ∷ run) → OwesAsItGoes o reply run
IsOwedFor h run = Unit {0}

module _ {R : Type 0} (stands : R → Standing) (old new : WorldView R) (w : IsSoundWorld stands old) where
  -- an operation, at its site and at the other
  module _ (o : Operation) (reply : Option Reply) (at_sites : DoesAtSites (Did o reply) old.sites new.sites) (done : IsRightlyDone o w.told.run) (calm : HasNoHindrance w.told.run) (owes : OwesAsItGoes o reply w.told.run) where
    here_now : records_in o.site new.sites ≡ after (records_in o.site old.sites) o.instance o.op
    here_now = at_sites.records o.site ∙ ap (λ b. cond b (after (records_in o.site old.sites) o.instance o.op) (records_in o.site old.sites)) (same_site_itself o.site)

    abbrev now : SiteId → (image number state : ℕ) → Type 0
    now t = IsOwed (owed_in (Did o reply ∷ w.told.run)) t

    abbrev was : SiteId → (image number state : ℕ) → Type 0
    was t = IsOwed (owed_in w.told.run) t

    goes : KeepsWhatIsOwed (records_in o.site old.sites).headers o.op (was o.site) (now o.site)
    goes = record {
      made = λ image number is. paid (owes.made o.site image number is);
      lowered = λ image number is. paid (owes.lowered o.site image number is);
      new = owes.new;
      gone = λ image number h removes is. owes.gone image number h removes (ap (λ (r : Records). r.headers image) (sym (w.told.records o.site)) ∙ is);
      free = owes.free;
    }
      where
        paid : {A B C : Type 0} → A ⊎ (B × C) → A ⊎ C
        paid (inl still) = inl still
        paid (inr done) = inr done.1

    exact_here : IsExactBut (now o.site) (records_in o.site new.sites)
    exact_here =
        subst (IsExactBut (now o.site)) (sym here_now)
        (exact_stays o.site (records_in o.site old.sites) (flat_after o.site w.told.run) done.knows o.instance o.op (length (site_in o.site old.sites).log) (was o.site) (now o.site)
        (subst (λ r. StandsFor [] r (flat_after o.site w.told.run)) (sym (w.told.records o.site)) (standing_at w.told.homes w.told.run w.told.right o.site).stands)
        (w.form o.site) (w.mapped o.site) (subst (λ r. IsTrueAt o.site r o.instance done.knows) (sym (w.told.records o.site)) done.truth) done.permits
        (ap (λ r. is_fenced r o.instance) (w.told.records o.site) ∙ none_fenced w.told.homes w.told.run w.told.right calm o.site o.instance)
        goes (w.told.exact calm o.site))

    exact_elsewhere : (t : SiteId) → same_site o.site t ≡ false → IsExactBut (now t) (records_in t new.sites)
    exact_elsewhere t differ =
        subst (IsExactBut (now t))
        (sym (at_sites.records t ∙ ap (λ b. cond b (after (records_in t old.sites) o.instance o.op) (records_in t old.sites)) differ))
        (record {
          images = λ image h is.
              exact_more (was t image) (now t image) h ((records_in t old.sites).maps image) (object_at (records_in t old.sites) image)
              (λ number. record { made = λ is. more (owes.made t image number is); lowered = λ is. more (owes.lowered t image number is) }) ((w.told.exact calm t).images image h is);
        })
      where
        more : {A B : Type 0} → A ⊎ ((same_site o.site t ≡ true) × B) → A
        more (inl still) = still
        more (inr done) = absurd (true≢false (sym done.0 ∙ differ))

    exact_did : (t : SiteId) → IsExactBut (now t) (records_in t new.sites)
    exact_did t = by (this_or_other o.site t)
      where
        by : (t ≡ o.site) ⊎ (same_site o.site t ≡ false) → IsExactBut (now t) (records_in t new.sites)
        by (inl same) = subst (λ q. IsExactBut (now q) (records_in q new.sites)) (sym same) exact_here
        by (inr differ) = exact_elsewhere t differ

  -- the others leave what is owed
  same_owed : (h : Happening) → ((line : ℕ) → steps_in line h ≡ []) → (s : SiteId) (image number state : ℕ) → IsOwed (owed_in w.told.run) s image number state
      → IsOwed (owed_in (h ∷ w.told.run)) s image number state
  same_owed h none s image number state is = record { who = is.who; due = is.due; owes = no_steps_owe is.who h w.told.run (none is.who) ∙ is.owes; is = is.is }

  exact_then_too : (h : Happening) → ((line : ℕ) → steps_in line h ≡ []) → (s : SiteId) (r : Records) → IsExactBut (IsOwed (owed_in w.told.run) s) r → IsExactBut (IsOwed (owed_in (h ∷ w.told.run)) s) r
  exact_then_too h none s r exact = record {
    images = λ image at is.
        exact_more (IsOwed (owed_in w.told.run) s image) (IsOwed (owed_in (h ∷ w.told.run)) s image) at (r.maps image) (object_at r image)
        (λ number. record { made = same_owed h none s image number 1; lowered = same_owed h none s image number 2 }) (exact.images image at is);
  }

  trimmed_exact : (s : SiteId) (b : Bool) (image object : ℕ) → IsExactBut (IsOwed (owed_in w.told.run) s) (records_in s old.sites)
      → IsExactBut (IsOwed (owed_in w.told.run) s) (cond b (trimmed image object (records_in s old.sites)) (records_in s old.sites))
  trimmed_exact s true image object exact = exact_trimmed (records_in s old.sites) image object (IsOwed (owed_in w.told.run) s) exact
  trimmed_exact s false image object exact = exact

  expired_exact : (s : SiteId) (b : Bool) (image : ℕ) (who : Instance) → IsExactBut (IsOwed (owed_in w.told.run) s) (records_in s old.sites)
      → IsExactBut (IsOwed (owed_in w.told.run) s) (cond b (expired image who (records_in s old.sites)) (records_in s old.sites))
  expired_exact s true image who exact = exact_expired (records_in s old.sites) image who (IsOwed (owed_in w.told.run) s) exact
  expired_exact s false image who exact = exact

  pub exact_then : (h : Happening) → DoesAtSites h old.sites new.sites → IsDue w.told.homes h w.told.run → IsOwedFor h w.told.run → HasNoHindrance (h ∷ w.told.run)
      → (s : SiteId) → IsExactBut (IsOwed (owed_in (h ∷ w.told.run)) s) (records_in s new.sites)
  exact_then (Did o reply) at_sites due owed calm s = exact_did o reply at_sites (done_of w.told.homes o reply w.told.run due) calm.1 (owed calm) s
  exact_then (Trimmed site number image object) at_sites due owed calm s =
      let h : Happening = Trimmed site number image object in
      exact_then_too h (λ line. refl) s (records_in s new.sites)
      (subst (IsExactBut (IsOwed (owed_in w.told.run) s)) (sym (at_sites.records s)) (trimmed_exact s (same_site site s) image object (w.told.exact calm.1 s)))
  exact_then (Expired site number image who) at_sites due owed calm s =
      let h : Happening = Expired site number image who in
      exact_then_too h (λ line. refl) s (records_in s new.sites)
      (subst (IsExactBut (IsOwed (owed_in w.told.run) s)) (sym (at_sites.records s)) (expired_exact s (same_site site s) image who (w.told.exact calm.1 s)))
  exact_then (Stopped who wanted lost) at_sites due owed calm s = absurd (true≢false calm.0)
  exact_then h at_sites due owed calm s = exact_then_too h (λ line. refl) s (records_in s new.sites) (subst (IsExactBut (IsOwed (owed_in w.told.run) s)) (sym (at_sites.records s)) (w.told.exact calm.1 s))
