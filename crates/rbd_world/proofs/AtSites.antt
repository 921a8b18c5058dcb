-- What an operation that is permitted does to both sites: they stand, and what others know stays
-- true.
use Rattle.std.specs.Prelude.{IsFalse, IsSome}
use Rattle.std.proofs.Common.{◌≡◌, ◌≢◌, ℕ, cond, false, [], ◌∷◌, length, ◌+◌, Option, refl, sym, ap, ◌∙◌, subst, true}
use Rattle.rbd_client.specs.Client.{ClientView}
use Rattle.rbd_knowledge.specs.Truth.{IsTrueOf}
use Rattle.rbd_knowledge.proofs.Others.{others_leave_it_true}
use Rattle.rbd_kinds.specs.declared.answer.Answer.{Answer}
use Rattle.rbd_kinds.specs.declared.id.Instance.{Instance}
use Rattle.rbd_kinds.specs.declared.id.SiteId.{SiteId}
use Rattle.rbd_kinds.specs.declared.id.SiteId.TheVariants as site
use Rattle.rbd_kinds.specs.declared.operation.Op.{Op}
use Rattle.rbd_kinds.specs.declared.reply.Reply.{Reply}
use Rattle.rbd_kinds.proofs.Images.{same_site_itself}
use Rattle.rbd_machine.specs.Knowledge.{Knowledge, learned, same_site, is_drawn}
use Rattle.rbd_machine.specs.Permits.{Permits}
use Rattle.rbd_machine.specs.Plan.{Standing}
use Rattle.rbd_machine.specs.Refused.{IsGiven}
use Rattle.rbd_machine.specs.Standalone.{TellsStandalone}
use Rattle.rbd_interference.specs.Ancestors.{DrewNoneOf, HasReadTruly}
use Rattle.rbd_interference.specs.Beside.{AreBeside, MayAct}
use Rattle.rbd_interference.specs.Locks.{KnowsByLock, gives_up}
use Rattle.rbd_interference.specs.Truth.{IsTrueAt, changed_by, known_header}
use Rattle.rbd_interference.proofs.AncestorsKept.{reads_elsewhere, told_kept, told_learned}
use Rattle.rbd_interference.proofs.Fenced.{was_free}
use Rattle.rbd_interference.proofs.Done.{gives_it}
use Rattle.rbd_interference.proofs.Effects.{has_its_effect}
use Rattle.rbd_interference.proofs.Kept.{others_keep}
use Rattle.rbd_interference.proofs.Locks.{lock_lasts}
use Rattle.rbd_interference.proofs.Maps.{mapped_stays}
use Rattle.rbd_interference.proofs.Ranked.{ranked_behind}
use Rattle.rbd_interference.proofs.Standalone.{standalone_stays, told_standalone}
use Rattle.rbd_interference.proofs.Together.{beside_stays}
use Rattle.rbd_site.specs.Records.{Records}
use Rattle.rbd_site.specs.Step.{after, answer_to, is_fenced}
use Rattle.rbd_site.specs.declared.done.DoneOp.TheVariants as done
use Rattle.rbd_stands.specs.Effect.{effect_of}
use Rattle.rbd_stands.specs.Owned.{IsOwnedStep}
use Rattle.rbd_stands.specs.Site.{StandsFor}
use Rattle.rbd_world.specs.Run.{Doer, Happening, Did, Operation, Sent, flat_after, records_after}
use Rattle.rbd_world.specs.Past.{HadNoHeader}
use Rattle.rbd_world.specs.Sound.{IsRightlyDone, IsNextOf, IsOf, IsSoundWorld, MayStillCome, RecallsBy}
use Rattle.rbd_world.specs.Step.{DoesAtSites, operation_at}
use Rattle.rbd_world.specs.World.{WorldView, records_in, site_in}
use Rattle.rbd_world.proofs.Carried.{HasWholeImages, StandFlat, whole_in}
use Rattle.rbd_world.proofs.Owned.{is_owned}
use Rattle.rbd_world.proofs.Rest.{where_standing}

-- a site is this one or the other
pub at_either : (s : SiteId) (P : SiteId → Type 0) → P s → ((t : SiteId) → same_site s t ≡ false → P t) → (t : SiteId) → P t
at_either site.A P here other site.A = here
at_either site.A P here other site.B = other site.B refl
at_either site.B P here other site.A = other site.A refl
at_either site.B P here other site.B = here

-- `who` does the operation `o` at the site `s` for `by`, by what it knows: `k`
module _ {R : Type 0} (stands : R → Standing) (old new : WorldView R) (w : IsSoundWorld stands old) (who : Instance) (by : Doer) (s : SiteId) (o : Op) (result : Option Reply) (k : Knowledge)
    (known : (t : SiteId) → IsTrueAt t (records_in t old.sites) who k) (permits : Permits k s o) (locked : KnowsByLock s (records_in s old.sites) who k)
    (at_sites : DoesAtSites (Did (operation_at (site_in s old.sites) who by s o) result) old.sites new.sites) where
  abbrev pub operation : Operation
  operation = operation_at (site_in s old.sites) who by s o

  abbrev pub does_it : Happening
  does_it = Did operation result

  abbrev pub answered : Answer
  answered = answer_to (records_in s old.sites) who o

  pub here_now : records_in s new.sites ≡ after (records_in s old.sites) who o
  here_now = at_sites.records s ∙ ap (λ b. cond b (after (records_in s old.sites) who o) (records_in s old.sites)) (same_site_itself s)

  pub elsewhere_now : (t : SiteId) → same_site s t ≡ false → records_in t new.sites ≡ records_in t old.sites
  elsewhere_now t differ = at_sites.records t ∙ ap (λ b. cond b (after (records_in t old.sites) who o) (records_in t old.sites)) differ

  -- ---- the sites

  stood : (t : SiteId) → StandsFor [] (records_after t w.told.run) (flat_after t w.told.run)
  stood = where_standing w.told.homes w.told.run w.told.right

  pub stands_in : (t : SiteId) → StandsFor [] (records_in t old.sites) (flat_after t w.told.run)
  stands_in t = subst (λ r. StandsFor [] r (flat_after t w.told.run)) (sym (w.told.records t)) (stood t)

  pub stands_then : StandFlat (does_it ∷ w.told.run)
  stands_then = at_either s (λ t. StandsFor [] (records_after t (does_it ∷ w.told.run)) (flat_after t (does_it ∷ w.told.run))) here elsewhere
    where
      effected : StandsFor [] (after (records_in s old.sites) who o) (changed_by (flat_after s w.told.run) operation.effect)
      effected = has_its_effect s (records_in s old.sites) (flat_after s w.told.run) k who (length (site_in s old.sites).log) (stands_in s) (w.form s) (w.standalone s) (w.mapped s) (known s) o permits

      here : StandsFor [] (records_after s (does_it ∷ w.told.run)) (flat_after s (does_it ∷ w.told.run))
      here =
          subst (λ b. StandsFor [] (cond b (after (records_after s w.told.run) who o) (records_after s w.told.run)) (cond b (changed_by (flat_after s w.told.run) operation.effect) (flat_after s w.told.run))) (sym (same_site_itself s))
          (subst (λ r. StandsFor [] (after r who o) (changed_by (flat_after s w.told.run) operation.effect)) (w.told.records s) effected)

      elsewhere : (t : SiteId) → same_site s t ≡ false → StandsFor [] (records_after t (does_it ∷ w.told.run)) (flat_after t (does_it ∷ w.told.run))
      elsewhere t differ =
          subst (λ b. StandsFor [] (cond b (after (records_after t w.told.run) who o) (records_after t w.told.run)) (cond b (changed_by (flat_after t w.told.run) operation.effect) (flat_after t w.told.run))) (sym differ) (stood t)

  pub whole_then : (t : SiteId) → HasWholeImages (records_in t new.sites)
  whole_then =
      at_either s (λ t. HasWholeImages (records_in t new.sites)) (subst HasWholeImages (sym here_now) here)
      (λ t differ. subst HasWholeImages (sym (elsewhere_now t differ)) (whole_in stands old w t))
    where
      here : HasWholeImages (after (records_in s old.sites) who o)
      here = record {
        standalone = standalone_stays s (records_in s old.sites) k who o (w.standalone s) permits;
        mapped = mapped_stays s (records_in s old.sites) (flat_after s w.told.run) k who o (length (site_in s old.sites).log) (stands_in s) (w.form s) (w.mapped s) (known s) permits;
        ranked = ranked_behind s (records_in s old.sites) (flat_after s w.told.run) k who (stands_in s) (w.ranked s) o permits;
      }

  pub can_give : IsGiven o answered
  can_give = gives_it s (records_in s old.sites) who k (length (site_in s old.sites).log) (w.form s) (w.mapped s) (known s) o permits

  -- no header that is told has a parent or a journal
  pub tells_alone : TellsStandalone answered
  tells_alone = told_standalone (records_in s old.sites) who (w.standalone s) o can_give

  -- it is the one that its site does there
  pub is_done : ((image : ℕ) → is_drawn k.drawn s image ≡ true → HadNoHeader s image w.told.run) → RecallsBy by s o k w.told.run → IsOf by who s o w.told.run → IsNextOf by who s o w.told.run → IsRightlyDone operation w.told.run
  is_done new recalls whose next = record {
    whose = whose;
    next = next;
    number = ap (λ ds. length ds + 1) (w.told.logs s);
    answer = ap (λ (x : Records). answer_to x who o) (w.told.records s);
    effect = ap (λ (x : Records). effect_of x (done.Op o) answered) (w.told.records s);
    knows = k;
    truth = subst (λ r. IsTrueAt s r who k) (w.told.records s) (known s);
    permits = permits;
    new = new;
    recalls = recalls;
    owned = subst (λ r. IsOwnedStep r who o answered) (w.told.records s) (is_owned s (records_in s old.sites) who k (known s) locked o permits);
  }

  -- ---- what was read of snapshots

  abbrev pub HasReadThen : SiteId → Knowledge → Type 0
  HasReadThen t j = HasReadTruly t (records_after t (does_it ∷ w.told.run)) (flat_after t (does_it ∷ w.told.run)) j

  abbrev pub HadRead : SiteId → Knowledge → Type 0
  HadRead t j = HasReadTruly t (records_after t w.told.run) (flat_after t w.told.run) j

  had_read : (j : Knowledge) → HadRead s j → HasReadTruly s (records_in s old.sites) (flat_after s w.told.run) j
  had_read j was = subst (λ r. HasReadTruly s r (flat_after s w.told.run) j) (sym (w.told.records s)) was

  reads_at : (j : Knowledge) → HasReadTruly s (after (records_in s old.sites) who o) (changed_by (flat_after s w.told.run) operation.effect) j
      → ((t : SiteId) → same_site s t ≡ false → HadRead t j) → (t : SiteId) → HasReadThen t j
  reads_at j here there = at_either s (λ t. HasReadThen t j) its_own elsewhere
    where
      its_own : HasReadThen s j
      its_own =
          subst (λ b. HasReadTruly s (cond b (after (records_after s w.told.run) who o) (records_after s w.told.run)) (cond b (changed_by (flat_after s w.told.run) operation.effect) (flat_after s w.told.run)) j) (sym (same_site_itself s))
          (subst (λ r. HasReadTruly s (after r who o) (changed_by (flat_after s w.told.run) operation.effect) j) (w.told.records s) here)

      elsewhere : (t : SiteId) → same_site s t ≡ false → HasReadThen t j
      elsewhere t differ =
          subst (λ b. HasReadTruly t (cond b (after (records_after t w.told.run) who o) (records_after t w.told.run)) (cond b (changed_by (flat_after t w.told.run) operation.effect) (flat_after t w.told.run)) j) (sym differ) (there t differ)

  -- by anybody of whose images' ids it drew none
  pub reads_kept : (j : Knowledge) → DrewNoneOf s j.seen k → ((t : SiteId) → HadRead t j) → (t : SiteId) → HasReadThen t j
  reads_kept j strange was =
      reads_at j
      (told_kept s (records_in s old.sites) (flat_after s w.told.run) who k o (length (site_in s old.sites).log) (stands_in s) (w.form s) (w.standalone s) (w.mapped s) (known s) permits j.seen j.told strange (had_read j (was s)))
      (λ t differ. was t)

  -- and by who does it, with what it learns
  pub reads_learned : ((t : SiteId) → HadRead t k) → (t : SiteId) → HasReadThen t (learned k s o answered)
  reads_learned was =
      reads_at (learned k s o answered)
      (told_learned s (records_in s old.sites) (flat_after s w.told.run) k who o (length (site_in s old.sites).log) (stands_in s) (w.form s) (w.standalone s) (w.mapped s) (known s) permits (had_read k (was s)))
      (λ t differ. reads_elsewhere s t differ (records_after t w.told.run) (flat_after t w.told.run) k o answered (was t))

  -- ---- what others know

  -- a client of another instance, whose requests go beside it
  pub others_true : (me : Instance) (knows : ℕ → Knowledge) (c : ClientView R) → who ≢ me → ((t : SiteId) → IsTrueOf t (records_in t old.sites) me knows c)
      → ((slot : ℕ) (t : SiteId) → AreBeside t (records_in t old.sites) me who (knows slot) k) → ((slot : ℕ) → MayAct s (records_in s old.sites) who me k (knows slot) o)
      → (t : SiteId) → IsTrueOf t (records_in t new.sites) me knows c
  others_true me knows c differ is_true beside may =
      at_either s (λ t. IsTrueOf t (records_in t new.sites) me knows c)
      (subst (λ r. IsTrueOf s r me knows c) (sym here_now) (others_leave_it_true s (records_in s old.sites) me knows c (is_true s) who k o differ (known s) locked permits (λ slot. beside slot s) may))
      (λ t apart. subst (λ r. IsTrueOf t r me knows c) (sym (elsewhere_now t apart)) (is_true t))

  -- what any instance knows
  pub known_then : (me : Instance) (j : Knowledge) → ((t : SiteId) → IsTrueAt t (records_in t old.sites) me j) → ((t : SiteId) → AreBeside t (records_in t old.sites) me who j k)
      → MayAct s (records_in s old.sites) who me k j o → (t : SiteId) → IsTrueAt t (records_in t new.sites) me j
  known_then me j is_true beside may =
      at_either s (λ t. IsTrueAt t (records_in t new.sites) me j)
      (subst (λ r. IsTrueAt s r me j) (sym here_now) (others_keep s (records_in s old.sites) j k me who o (is_true s) (known s) (beside s) permits may))
      (λ t apart. subst (λ r. IsTrueAt t r me j) (sym (elsewhere_now t apart)) (is_true t))

  -- who knows headers by its locks goes on to, unless it gives such a lock up itself
  pub locks_then : (me : Instance) (j : Knowledge) → ((t : SiteId) → KnowsByLock t (records_in t old.sites) me j)
      → ((image : ℕ) → who ≡ me → IsSome (known_header j s image) → IsFalse (is_fenced (records_in s old.sites) me) → gives_up image o ≡ false) → (t : SiteId) → KnowsByLock t (records_in t new.sites) me j
  locks_then me j locks keeps =
      at_either s (λ t. KnowsByLock t (records_in t new.sites) me j)
      (subst (λ r. KnowsByLock s r me j) (sym here_now)
      (λ image is free.
      let was : IsFalse (is_fenced (records_in s old.sites) me) = was_free (records_in s old.sites) who me o free in
      lock_lasts s (records_in s old.sites) me who k image o (known s) locked permits (λ same. keeps image same is was) (locks s image is) free))
      (λ t apart. subst (λ r. KnowsByLock t r me j) (sym (elsewhere_now t apart)) (locks t))

  -- two others stay beside each other
  pub beside_then : (me you : Instance) (j i : Knowledge) → ((t : SiteId) → AreBeside t (records_in t old.sites) me you j i) → (t : SiteId) → AreBeside t (records_in t new.sites) me you j i
  beside_then me you j i beside =
      at_either s (λ t. AreBeside t (records_in t new.sites) me you j i)
      (subst (λ r. AreBeside s r me you j i) (sym here_now) (beside_stays s (records_in s old.sites) who me you j i o (beside s)))
      (λ t apart. subst (λ r. AreBeside t r me you j i) (sym (elsewhere_now t apart)) (beside t))

  -- what a stopped life of another instance may still send
  pub sending_then : (m : ℕ) (x : Sent) (j : Knowledge) → who ≢ x.instance → ((t : SiteId) → AreBeside t (records_in t old.sites) x.instance who j k)
      → MayAct s (records_in s old.sites) who x.instance k j o → MayStillCome m (λ t. records_in t old.sites) x j → MayStillCome m (λ t. records_in t new.sites) x j
  sending_then m x j differ beside acts may = record {
    whose = may.whose;
    permits = may.permits;
    truth = known_then x.instance j may.truth beside acts;
    locks = locks_then x.instance j may.locks (λ image same. absurd (differ same));
  }
