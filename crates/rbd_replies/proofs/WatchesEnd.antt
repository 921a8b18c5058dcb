-- Who watches an image watches it on, whatever happens, until its watch is ended; and who removes
-- its header is its owner.
use Rattle.std.proofs.Common.{◌≡◌, ◌⊎◌, inl, inr, ℕ, ◌==◌, ◌&&◌, cond, Bool, true, false, List, ◌∷◌, Option, Some, None, refl, sym, ap, ◌∙◌, subst}
use Rattle.std.proofs.lemmas.Bool.{true≢false, and_parts, eq-eqb}
use Rattle.rbd_kinds.specs.declared.answer.Answer.{Answer}
use Rattle.rbd_kinds.specs.declared.answer.Answer.TheVariants as answer
use Rattle.rbd_kinds.specs.declared.header.HeaderView.{HeaderView}
use Rattle.rbd_kinds.specs.declared.header_op.HeaderOp.TheVariants as header
use Rattle.rbd_kinds.specs.declared.id.Instance.{Instance}
use Rattle.rbd_kinds.specs.declared.id.SiteId.{SiteId}
use Rattle.rbd_kinds.specs.declared.notice.NoticeKind.{NoticeKind}
use Rattle.rbd_kinds.specs.declared.operation.Op.TheVariants as op
use Rattle.rbd_kinds.specs.declared.reply.Reply.{Reply}
use Rattle.rbd_kinds.proofs.Images.{same_site_is}
use Rattle.rbd_machine.specs.Knowledge.{same_site}
use Rattle.rbd_interference.specs.Truth.{changed_by}
use Rattle.rbd_site.proofs.GenerationLemmas.{looked_at}
use Rattle.rbd_site.specs.Laws.{is_look}
use Rattle.rbd_site.specs.HeaderStep.{header_answer}
use Rattle.rbd_site.specs.Records.{Records}
use Rattle.rbd_site.specs.Step.{after, answer_served, answer_to, is_fenced}
use Rattle.rbd_stands.proofs.NoEffect.{look_none}
use Rattle.rbd_stands.specs.Owned.{HasLock, IsOwner, changes_image, was_done}
use Rattle.rbd_world.specs.Run.{Happening, Did, Operation, flat_after, records_after}
use Rattle.rbd_world.specs.Sound.{IsRightlyDone, IsDue, IsRight}
use Rattle.rbd_world.specs.Watched.{ends_it, ends_watch}
use Rattle.rbd_world.proofs.Runs.{done_of}
use Rattle.rbd_world.proofs.StillWatching.{stays_or_ends}
use Rattle.rbd_replies.specs.Watched.{IsAnnouncement, is_watching}

-- ---- an operation that ends a watch, and removes a header

record Removes (there : SiteId) (a : Answer) (s : SiteId) : Type 0 where
  here : there ≡ s
  done : a ≡ answer.Done

removal_is : (who : Instance) (there : SiteId) (me : Instance) (image : ℕ) (a : Answer) (s : SiteId) → ends_it who there me (op.Header image header.Remove) a s image ≡ true → Removes there a s
removal_is who there me image answer.Done s ends = record { here = sym (same_site_is s there (and_parts (same_site s there) (image == image) ends).0); done = refl }
removal_is who there me image a s ends = absurd (true≢false (sym ends))

module _ (homes : ℕ → SiteId) (who : Instance) (s : SiteId) (image : ℕ) (run : List Happening) (watching : is_watching who s image run ≡ true) where
  -- who watches does so on, unless that ends its watch
  pub watch_ends : (h : Happening) → IsDue homes h run → is_watching who s image (h ∷ run) ≡ false → ends_watch who s image h ≡ true
  watch_ends h due ended = by (stays_or_ends homes who s image h run due watching)
    where
      by : (is_watching who s image (h ∷ run) ≡ true) ⊎ (ends_watch who s image h ≡ true) → ends_watch who s image h ≡ true
      by (inl still) = absurd (true≢false (sym still ∙ ended))
      by (inr ends) = ends

  -- who removed the header was the image's owner
  pub removed_by_owner : (o : Operation) (reply : Option Reply) → IsDue homes (Did o reply) run → is_watching who s image (Did o reply ∷ run) ≡ false → o.op ≡ op.Header image header.Remove
      → HasLock image o.instance (records_after s run)
  removed_by_owner o reply due ended removes =
      subst (λ t. HasLock image o.instance (records_after t run)) removal.here (has_lock ((records_after o.site run).headers image) refl)
    where
      is : IsRightlyDone o run
      is = done_of homes o reply run due

      removal : Removes o.site o.answer s
      removal = removal_is who o.site o.instance image o.answer s (subst (λ x. ends_it who o.site o.instance x o.answer s image ≡ true) removes (watch_ends (Did o reply) due ended))

      -- a removal that is done finds the header
      found : (r : Records) (me : Instance) → r.headers image ≡ None → answer_to r me (op.Header image header.Remove) ≡ answer.Done → ⊥
      found r me none = by (is_fenced r me)
        where
          absent : answer.Absent ≡ answer.Done → ⊥
          absent e = cc

          fenced : answer.Fenced ≡ answer.Done → ⊥
          fenced e = cc

          by : (b : Bool) → cond b answer.Fenced (answer_served r me (op.Header image header.Remove)) ≡ answer.Done → ⊥
          by true told = fenced told
          by false told = absent (sym (ap (λ g. header_answer me g (r.watchers image) header.Remove) none) ∙ told)

      has_lock : (g : Option HeaderView) → (records_after o.site run).headers image ≡ g → HasLock image o.instance (records_after o.site run)
      has_lock None none = absurd (found (records_after o.site run) o.instance none (sym (is.answer ∙ ap (answer_to (records_after o.site run) o.instance) removes) ∙ removal.done))
      has_lock (Some h) there = record {
        header = h;
        there = there;
        owner = subst (λ g. IsOwner g o.instance) there
            (is.owned.change image (ap (changes_image image) removes ∙ ap (λ b. b && true) (eq-eqb image image refl)) (ap was_done removal.done));
      }

-- ---- what is told

module _ (homes : ℕ → SiteId) (run : List Happening) (o : Operation) (reply : Option Reply) (image : ℕ) (kind : NoticeKind) (right : IsRight homes (Did o reply ∷ run))
    (tells : o.op ≡ op.Header image (header.Notify kind)) where
  is_a_look : is_look o.op ≡ true
  is_a_look = ap is_look tells

  no_effect : o.effect ≡ None
  no_effect = (done_of homes o reply run right.1).effect ∙ look_none (records_after o.site run) o.op o.answer is_a_look

  pub telling_changes_none : IsAnnouncement o reply run
  telling_changes_none = record { records = records_stay; flat = flat_stays }
    where
      records_stay : (s : SiteId) → records_after s (Did o reply ∷ run) ≡ records_after s run
      records_stay s = by (same_site o.site s)
        where
          by : (b : Bool) → cond b (after (records_after s run) o.instance o.op) (records_after s run) ≡ records_after s run
          by true = looked_at (records_after s run) o.instance o.op is_a_look
          by false = refl

      flat_stays : (s : SiteId) → flat_after s (Did o reply ∷ run) ≡ flat_after s run
      flat_stays s = by (same_site o.site s)
        where
          by : (b : Bool) → cond b (changed_by (flat_after s run) o.effect) (flat_after s run) ≡ flat_after s run
          by true = ap (changed_by (flat_after s run)) no_effect
          by false = refl
