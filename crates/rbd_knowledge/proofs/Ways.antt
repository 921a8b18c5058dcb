-- What a way to a lock knows: it may do what it does by that, it is true, and it goes beside all.
use Rattle.std.proofs.Common.{◌≡◌, inl, inr, ℕ, ◌&&◌, cond, Bool, true, false, [], Option, Some, None, refl, sym, ap, ◌∙◌, subst, true≢false}
use Rattle.std.specs.Prelude.{is_some}
use Rattle.std.proofs.lemmas.Bool.{and_parts}
use Rattle.std.proofs.lemmas.Option.{none-some, same_Some}
use Rattle.rbd_client.specs.Feeding.{GoesOnItsWay}
use Rattle.rbd_knowledge.specs.ClientsKnowing.{known_at_stage, known_on_way}
use Rattle.rbd_kinds.specs.declared.answer.Answer.{Answer}
use Rattle.rbd_kinds.specs.declared.answer.Answer.TheVariants as answer
use Rattle.rbd_kinds.specs.declared.header_op.HeaderOp.TheVariants as header
use Rattle.rbd_kinds.specs.declared.id.Instance.{Instance}
use Rattle.rbd_kinds.specs.declared.id.SiteId.{SiteId}
use Rattle.rbd_kinds.specs.declared.machine.Fed.TheVariants as fed
use Rattle.rbd_kinds.specs.declared.operation.Op.{Op}
use Rattle.rbd_kinds.specs.declared.operation.Op.TheVariants as op
use Rattle.rbd_kinds.specs.declared.reply.Reply.TheVariants as reply
use Rattle.rbd_kinds.specs.Instances.{same_instance}
use Rattle.rbd_kinds.proofs.Instances.{same_instance_is}
use Rattle.rbd_machine.specs.Ancestors.{IsAmong, has_seen}
use Rattle.rbd_machine.specs.Knowledge.{Knowledge, is_drawn, is_fenced_by, is_gone, nothing_known, own_of, same_site}
use Rattle.rbd_machine.specs.Permits.{Permits}
use Rattle.rbd_machine.specs.Plan.{Plan, Ask, Return, plan_after, past_label}
use Rattle.rbd_machine.proofs.Fences.{fence_is_known}
use Rattle.rbd_lock.specs.Acquire.{first_stage, lock_labels, op_at_stage, op_of, rest_at}
use Rattle.rbd_lock.specs.Steps.{is_instance_among}
use Rattle.rbd_lock.specs.declared.acquire.Acquire.{Acquire}
use Rattle.rbd_lock.specs.declared.acquire.Stage.{Stage}
use Rattle.rbd_lock.specs.declared.acquire.Stage.TheVariants as stage
use Rattle.rbd_interference.specs.Beside.{AreBeside, MayAct}
use Rattle.rbd_interference.specs.Truth.{IsStillOwn, IsTrueAt, KnowsNoHeader, header_of_own, known_header}
use Rattle.rbd_interference.proofs.Children.{no_bases, no_children, none_childless}
use Rattle.rbd_site.specs.Records.{Records}
use Rattle.rbd_site.specs.Step.{after, answer_to, is_fenced}
use Rattle.rbd_site.proofs.FenceLemmas.{fence_stays, lists_it}

-- ---- it may

permits_at : (s : Stage) (site : SiteId) (image : ℕ) → Permits (known_at_stage s site) site (op_at_stage s image)
permits_at stage.Watching site image = tt
permits_at stage.Taking site image = tt
permits_at (stage.Looking owner) site image = tt
permits_at stage.Asking site image = tt
permits_at (stage.Fencing owner) site image = tt
permits_at (stage.Breaking owner) site image = fence_is_known nothing_known site owner

pub way_permits : (a : Acquire) → Permits (known_on_way a) a.site (op_of a)
way_permits a = permits_at a.stage a.site a.image

acts_at : (site : SiteId) (r : Records) (me you : Instance) (k j : Knowledge) (s : Stage) (image : ℕ) → MayAct site r me you k j (op_at_stage s image)
acts_at site r me you k j stage.Watching image = tt
acts_at site r me you k j stage.Taking image = tt
acts_at site r me you k j (stage.Looking owner) image = tt
acts_at site r me you k j stage.Asking image = tt
acts_at site r me you k j (stage.Fencing owner) image = tt
acts_at site r me you k j (stage.Breaking owner) image = tt

pub way_acts : (site : SiteId) (r : Records) (me you : Instance) (k j : Knowledge) (a : Acquire) → MayAct site r me you k j (op_of a)
way_acts site r me you k j a = acts_at site r me you k j a.stage a.image

-- ---- it owns nothing, and drew nothing

owns_nothing : (s : Stage) (site there : SiteId) (image : ℕ) → own_of (known_at_stage s site).owns there image ≡ None
owns_nothing (stage.Breaking owner) site there image = refl
owns_nothing _ site there image = refl

pub way_knows_no_header : (a : Acquire) (there : SiteId) (image : ℕ) → known_header (known_on_way a) there image ≡ None
way_knows_no_header a there image = ap header_of_own (owns_nothing a.stage a.site there image)

drew_nothing : (s : Stage) (site there : SiteId) (image : ℕ) → is_drawn (known_at_stage s site).drawn there image ≡ false
drew_nothing (stage.Breaking owner) site there image = refl
drew_nothing _ site there image = refl

removed_nothing : (s : Stage) (site there : SiteId) (image : ℕ) → is_gone (known_at_stage s site).gone there image ≡ false
removed_nothing (stage.Breaking owner) site there image = refl
removed_nothing _ site there image = refl

-- nor was it told any header
sees_none : (s : Stage) (site : SiteId) → (known_at_stage s site).seen ≡ []
sees_none (stage.Breaking owner) site = refl
sees_none _ site = refl

saw_nothing : (s : Stage) (site there : SiteId) (image : ℕ) → has_seen (known_at_stage s site).seen there image ≡ false
saw_nothing s site there image = ap (λ seen. has_seen seen there image) (sees_none s site)

-- nor does it know of children
knows_links : (s : Stage) (site : SiteId) → (known_at_stage s site).linked ≡ []
knows_links (stage.Breaking owner) site = refl
knows_links _ site = refl

knows_bases : (s : Stage) (site : SiteId) → (known_at_stage s site).based ≡ []
knows_bases (stage.Breaking owner) site = refl
knows_bases _ site = refl

knows_childless : (s : Stage) (site : SiteId) → (known_at_stage s site).childless ≡ []
knows_childless (stage.Breaking owner) site = refl
knows_childless _ site = refl

-- it knows of no image that has no header
without_none : (s : Stage) (site there : SiteId) (image : ℕ) → KnowsNoHeader (known_at_stage s site) there image → ⊥
without_none s site there image (inl drawn) = true≢false (sym drawn ∙ drew_nothing s site there image)
without_none s site there image (inr gone) = true≢false (sym gone ∙ removed_nothing s site there image)

pub beside_way : (there : SiteId) (r : Records) (me you : Instance) (k : Knowledge) (a : Acquire) → AreBeside there r me you k (known_on_way a)
beside_way there r me you k a = record {
  shared = λ free image mine others. absurd (true≢false (sym others ∙ ap (λ o. is_some (header_of_own o)) (owns_nothing a.stage a.site there image)));
  apart = λ image drawn. drew_nothing a.stage a.site there image;
  gone = λ image gone. drew_nothing a.stage a.site there image;
  gone_there = λ image gone. absurd (true≢false (sym gone ∙ removed_nothing a.stage a.site there image));
  removed = λ image gone. removed_nothing a.stage a.site there image;
  unseen = λ image saw. drew_nothing a.stage a.site there image;
  unseen_there = λ image saw. absurd (true≢false (sym saw ∙ saw_nothing a.stage a.site there image));
  unbased = λ free. none_childless there k (known_on_way a) (knows_childless a.stage a.site);
  unbased_there = λ free. no_bases there (known_on_way a) k (knows_bases a.stage a.site);
}

-- ---- it is true where its fence is up

pub fences_are_true : (there : SiteId) (r : Records) (me : Instance) (s : Stage) (site : SiteId)
    → ((i : Instance) → is_fenced_by (known_at_stage s site).fenced there i ≡ true → is_fenced r i ≡ true) → IsTrueAt there r me (known_at_stage s site)
fences_are_true there r me s site fences = record {
  owned = λ free image. subst (λ own. IsStillOwn own (r.headers image)) (sym (owns_nothing s site there image)) tt;
  drawn = λ image drawn. absurd (true≢false (sym drawn ∙ drew_nothing s site there image));
  fenced = fences;
  mapped = λ free image known. absurd (true≢false (sym known ∙ ap (λ o. is_some (header_of_own o)) (owns_nothing s site there image)));
  objects = λ free image h known. absurd (none-some h (sym (ap header_of_own (owns_nothing s site there image)) ∙ known));
  gone = λ image gone. absurd (true≢false (sym gone ∙ removed_nothing s site there image));
  apart = λ image gone. drew_nothing s site there image;
  counted = λ image without. absurd (without_none s site there image without);
  seen = λ image h among. absurd (subst (IsAmong (record { site = there; image = image; header = h })) (sees_none s site) among);
  strange = λ image saw. drew_nothing s site there image;
  children = no_children there r me (known_at_stage s site) (knows_links s site) (knows_bases s site) (knows_childless s site);
}

pub way_stays_true : (there : SiteId) (r : Records) (me you : Instance) (a : Acquire) (o : Op) → IsTrueAt there r me (known_on_way a) → IsTrueAt there (after r you o) me (known_on_way a)
way_stays_true there r me you a o t = fences_are_true there (after r you o) me a.stage a.site (λ i known. fence_stays r you i o (t.fenced i known))

-- a way that begins knows nothing
pub begins_with_nothing : (watched : Bool) (site : SiteId) → known_at_stage (first_stage watched) site ≡ nothing_known
begins_with_nothing true site = refl
begins_with_nothing false site = refl

-- ---- so is the next one, behind an answer

-- the operation of a plan that breaks a lock tells whose
abbrev breaks : Op → Option Instance
breaks (op.Header image (header.LockBreak owner)) = Some owner
breaks o = None

abbrev owner_broken : Plan → Option Instance
owner_broken (Ask site why o next) = breaks o
owner_broken plan = None

record CameTo (s : Stage) (a : Answer) (owner : Instance) : Type 0 where
  pub fencing : s ≡ stage.Fencing owner
  pub done : a ≡ answer.Done

-- a lock is broken next only where its owner was just fenced
came_to : (site : SiteId) (image : ℕ) (owner : Instance) (s : Stage) (a : Answer)
    → Some owner ≡ owner_broken (past_label (lock_labels site image) (plan_after (rest_at s site image (Return reply.Done)) (fed.Answer a))) → CameTo s a owner
came_to site image owner stage.Watching answer.Done is = absurd (none-some owner (sym is))
came_to site image owner stage.Watching answer.Fenced is = absurd (none-some owner (sym is))
came_to site image owner stage.Watching _ is = absurd (none-some owner (sym is))
came_to site image owner stage.Taking answer.Done is = absurd (none-some owner (sym is))
came_to site image owner stage.Taking (answer.Held other) is = absurd (none-some owner (sym is))
came_to site image owner stage.Taking answer.Fenced is = absurd (none-some owner (sym is))
came_to site image owner stage.Taking _ is = absurd (none-some owner (sym is))
came_to site image owner (stage.Looking other) (answer.Instances watchers) is = by (is_instance_among watchers other) is
  where
    by : (b : Bool) → Some owner ≡ owner_broken (past_label (lock_labels site image) (cond b (rest_at stage.Asking site image (Return reply.Done)) (rest_at (stage.Fencing other) site image (Return reply.Done))))
        → CameTo (stage.Looking other) (answer.Instances watchers) owner
    by true is = absurd (none-some owner (sym is))
    by false is = absurd (none-some owner (sym is))
came_to site image owner (stage.Looking other) answer.Fenced is = absurd (none-some owner (sym is))
came_to site image owner (stage.Looking other) _ is = absurd (none-some owner (sym is))
came_to site image owner stage.Asking answer.Done is = absurd (none-some owner (sym is))
came_to site image owner stage.Asking answer.Fenced is = absurd (none-some owner (sym is))
came_to site image owner stage.Asking _ is = absurd (none-some owner (sym is))
came_to site image owner (stage.Fencing other) answer.Done is = record { fencing = ap stage.Fencing (sym (same_Some owner other is)); done = refl }
came_to site image owner (stage.Fencing other) answer.Fenced is = absurd (none-some owner (sym is))
came_to site image owner (stage.Fencing other) _ is = absurd (none-some owner (sym is))
came_to site image owner (stage.Breaking other) answer.Done is = absurd (none-some owner (sym is))
came_to site image owner (stage.Breaking other) answer.Changed is = absurd (none-some owner (sym is))
came_to site image owner (stage.Breaking other) answer.Fenced is = absurd (none-some owner (sym is))
came_to site image owner (stage.Breaking other) _ is = absurd (none-some owner (sym is))

-- a fence that is answered so is up
put_up : (r : Records) (me owner : Instance) → answer_to r me (op.BlockAdd owner) ≡ answer.Done → is_fenced (after r me (op.BlockAdd owner)) owner ≡ true
put_up r me owner = by (is_fenced r me) refl
  where
    by : (b : Bool) → is_fenced r me ≡ b → answer_to r me (op.BlockAdd owner) ≡ answer.Done → is_fenced (after r me (op.BlockAdd owner)) owner ≡ true
    by false free done = lists_it r me owner free
    by true fenced done = absurd (never (sym (ap (λ b. cond b answer.Fenced answer.Done) fenced) ∙ done))
      where
        never : answer.Fenced ≡ answer.Done → ⊥
        never e = cc

module _ (r : Records) (me : Instance) (a b : Acquire) (goes : GoesOnItsWay a (fed.Answer (answer_to r me (op_of a))) b) where
  -- where it breaks a lock next, its owner was fenced by that very operation
  fenced_now : (owner : Instance) → b.stage ≡ stage.Breaking owner → is_fenced (after r me (op_of a)) owner ≡ true
  fenced_now owner breaking =
      let left = goes.goes (lock_labels a.site a.image) (Return reply.Done) refl in
      let told : Some owner ≡ owner_broken (past_label (lock_labels a.site a.image) (plan_after (rest_at a.stage a.site a.image (Return reply.Done)) (fed.Answer (answer_to r me (op_of a))))) =
      sym (ap (λ s. owner_broken (rest_at s b.site b.image (Return reply.Done))) breaking) ∙ ap owner_broken left.is in
      let came = came_to a.site a.image owner a.stage (answer_to r me (op_of a)) told in
      let fence : op_of a ≡ op.BlockAdd owner = ap (λ s. op_at_stage s a.image) came.fencing in
      ap (λ o. is_fenced (after r me o) owner) fence ∙ put_up r me owner (sym (ap (answer_to r me) fence) ∙ came.done)

  fences_now : (there : SiteId) (s : Stage) → b.stage ≡ s → (i : Instance) → is_fenced_by (known_at_stage s b.site).fenced there i ≡ true → is_fenced (after r me (op_of a)) i ≡ true
  fences_now there (stage.Breaking owner) is i known = by (same_site b.site there && same_instance owner i) refl known
    where
      by : (t : Bool) → (same_site b.site there && same_instance owner i) ≡ t → cond t true false ≡ true → is_fenced (after r me (op_of a)) i ≡ true
      by true same known = subst (λ x. is_fenced (after r me (op_of a)) x ≡ true) (same_instance_is owner i (and_parts (same_site b.site there) (same_instance owner i) same).1) (fenced_now owner is)
      by false differ known = absurd (true≢false (sym known))
  fences_now there _ is i known = absurd (true≢false (sym known))

  pub next_is_true : (there : SiteId) → IsTrueAt there (after r me (op_of a)) me (known_on_way b)
  next_is_true there = fences_are_true there (after r me (op_of a)) me b.stage b.site (λ i known. fences_now there b.stage refl i known)

-- at the other site its fence says nothing
pub true_elsewhere_on_way : (there : SiteId) (r : Records) (me : Instance) (b : Acquire) → same_site b.site there ≡ false → IsTrueAt there r me (known_on_way b)
true_elsewhere_on_way there r me b differ = fences_are_true there r me b.stage b.site (λ i known. by b.stage i known)
  where
    by : (s : Stage) (i : Instance) → is_fenced_by (known_at_stage s b.site).fenced there i ≡ true → is_fenced r i ≡ true
    by (stage.Breaking owner) i known = absurd (true≢false (sym known ∙ ap (λ t. cond (t && same_instance owner i) true false) differ))
    by _ i known = absurd (true≢false (sym known))
