-- What a change that is refused has done, and what the replies of a resize mean.
use Rattle.std.proofs.Common.{◌≡◌, ◌⊎◌, inl, inr, ℕ, false, List, [], ◌∷◌, ◌++◌, Option, None, refl, ap, sym, subst, ◌∙◌}
use Rattle.rbd_kinds.specs.declared.sharing.Sharing.TheVariants as sharing
use Rattle.rbd_kinds.specs.declared.header.HeaderView.{HeaderView}
use Rattle.rbd_kinds.specs.declared.id.SiteId.{SiteId}
use Rattle.rbd_kinds.specs.declared.machine.Fed.{Fed}
use Rattle.rbd_kinds.specs.declared.reply.Reply.{Reply}
use Rattle.rbd_kinds.specs.declared.reply.Reply.TheVariants as reply
use Rattle.rbd_kinds.specs.Form.{IsHeaderInForm}
use Rattle.rbd_kinds.proofs.Results.{same_refusal}
use Rattle.rbd_commands.specs.declared.refusal.Refusal.{Refusal}
use Rattle.rbd_machine.specs.Path.{Answered, IsWalk, found, looked_at}
use Rattle.rbd_machine.specs.Plan.{Plan, Return, Goto}
use Rattle.rbd_machine.specs.Refused.{by_fence, AreGiven, AreLooks, IsRefusedBy, IsRefusedWith}
use Rattle.rbd_machine.specs.Steps.{applied, change_plan}
use Rattle.rbd_machine.proofs.Refused.{EndsBy, IsRefusing, ends_by, only_image}
use Rattle.rbd_machine.proofs.Walked.{Changed}
use Rattle.rbd_meaning.specs.Parentless.{AreParentless}
use Rattle.rbd_meaning.specs.Partly.{IsFrontOf}
use Rattle.rbd_meaning.specs.Resizes.{ResizeMeans, ResizesWhole, resize_refuses}
use Rattle.rbd_meaning.proofs.Ends.{same_front}
use Rattle.rbd_meaning.specs.Count.{object_count}
use Rattle.rbd_image.specs.Resize.{set_size, size_change}
use Rattle.rbd_image.proofs.Built.{built_resize}
use Rattle.rbd_meaning.proofs.ChangeEnds.{IsEarly, change_ends, refused_early}
use Rattle.rbd_image.proofs.Hopes.{Hopes, IsCutOff, IsHopeful, cut_off, hopes_rules}
use Rattle.rbd_image.proofs.ResizesOwn.{resize_is_own}
use Rattle.rbd_image.proofs.ResizesRefusing.{IsDone, IsDoneOrFenced, IsOutside, Refusing, outside, refusing_rules}
use Rattle.rbd_image.proofs.ResizesWhole.{own_in_form, resize_is_whole, set_size_did, sized_whole}

-- ---- a change that is refused

-- By its look under the lock, behind which it goes on by a plan that is refused by its last answer
-- alone, and of which each walk that was cut off is the front of a whole one.
module _ (site : SiteId) (name : List ℕ) (refuses : HeaderView → Option Refusal) (act : ℕ → HeaderView → Plan) (IsWhole : List Answered → Type 0) where
  -- it was refused so, and this had been done
  pub record IsRefusedSo (steps : List Answered) (x : Refusal) : Type 0 where
    pub by : IsRefusedBy refuses by_fence steps x
    pub so_far : AreLooks by.before ⊎ IsFrontOf IsWhole by.before

  -- on its way
  early_so : (steps : List Answered) (x : Refusal) → AreGiven steps → IsEarly refuses steps (reply.Refused x) → IsRefusedSo steps x
  early_so steps x given e = record {
    by = refused_early refuses by_fence steps x given e;
    so_far = inl e.looks;
  }

  module _ (image : ℕ) (first own : HeaderView) (may_wait : refuses first ≡ None) (may : refuses own ≡ None) where
    abbrev looks : List Answered → List Answered
    looks rest = found site name image ∷ looked_at site image first ∷ looked_at site image own ∷ rest

    -- behind its looks
    late_so : (rest : List Answered) (x : Refusal) → IsRefusedWith (only_image site image) refuses by_fence rest x → IsCutOff (act image own) rest
        → ((feds : List Fed) (rest : List Answered) → IsWalk Goto (act image own) feds rest (Return reply.Done) → IsWhole (looks rest)) → IsRefusedSo (looks rest) x
    late_so rest x by cut whole = record {
      by = record {
        before = looks by.before;
        last = by.last;
        are = ap looks by.are;
        own = by.own;
        refused = by.refused;
        allowed = (λ own. refl, (λ own. may_wait, (λ own. may, by.allowed)));
        unchanged = λ late. (refl, (refl, (refl, by.unchanged late)));
      };
      so_far = inr (record {
        rest = cut.rest;
        whole = subst (λ before. IsWhole (looks (before ++ cut.rest))) (same_front cut.before by.before cut.last by.last (sym cut.are ∙ by.are)) (whole cut.feds (cut.before ++ cut.rest) cut.walk);
      });
    }

    no_steps : (rest : List Answered) (x : Refusal) → rest ≡ [] → IsRefusedWith (only_image site image) refuses by_fence rest x → ⊥
    no_steps rest x none by = go by.before (sym none ∙ by.are)
      where
        go : (before : List Answered) → [] ≡ before ++ by.last ∷ [] → ⊥
        go [] same = cc
        go (s ∷ before) same = cc

    own_so : (feds : List Fed) (rest : List Answered) (x : Refusal) → AreGiven rest → IsRefusing refuses by_fence IsDone (only_image site image) false (act image own) → IsHopeful (act image own)
        → ((feds : List Fed) (rest : List Answered) → IsWalk Goto (act image own) feds rest (Return reply.Done) → IsWhole (looks rest))
        → IsWalk Goto (act image own) feds rest (Return (reply.Refused x)) → IsRefusedSo (looks rest) x
    own_so feds rest x given refusing hopeful whole walk = go (ends_by refuses by_fence IsDone feds (only_image site image) false (act image own) rest (reply.Refused x) refusing given walk) (cut_off x (act image own) feds rest hopeful walk)
      where
        go : EndsBy refuses by_fence IsDone (only_image site image) false rest (reply.Refused x) → (rest ≡ []) ⊎ IsCutOff (act image own) rest → IsRefusedSo (looks rest) x
        go (inl granted) cut = absurd granted
        go (inr (y, same, from)) (inl none) = absurd (no_steps rest y none from.by)
        go (inr (y, same, from)) (inr cut) = late_so rest x (subst (IsRefusedWith (only_image site image) refuses by_fence rest) (same_refusal x y same) from.by) cut whole

  -- what the act owes
  pub record IsAct (image : ℕ) (own : HeaderView) : Type 0 where
    pub refusing : IsRefusing refuses by_fence IsDone (only_image site image) false (act image own)
    pub hopeful : IsHopeful (act image own)

  module _ (feds : List Fed) (steps : List Answered) (given : AreGiven steps) (parentless : AreParentless steps)
      (acts : (image : ℕ) (own : HeaderView) → own.parent ≡ None → refuses own ≡ None → IsAct image own)
      (whole : (image : ℕ) (first own : HeaderView) (feds : List Fed) (rest : List Answered) → refuses first ≡ None → refuses own ≡ None → IsHeaderInForm own
      → IsWalk Goto (act image own) feds rest (Return reply.Done) → IsWhole (found site name image ∷ looked_at site image first ∷ looked_at site image own ∷ rest)) where
    no_parent : (image : ℕ) (first own : HeaderView) (rest : List Answered) → steps ≡ found site name image ∷ looked_at site image first ∷ looked_at site image own ∷ rest → own.parent ≡ None
    no_parent image first own rest are = let there = subst AreParentless are parentless in there.1.1.0

    given_rest : (image : ℕ) (first own : HeaderView) (rest : List Answered) → steps ≡ found site name image ∷ looked_at site image first ∷ looked_at site image own ∷ rest → AreGiven rest
    given_rest image first own rest are = let there = subst AreGiven are given in there.1.1.1

    pub refused_so : (x : Refusal) → IsWalk Goto (change_plan site name sharing.Alone refuses act) feds steps (Return (reply.Refused x)) → IsRefusedSo steps x
    refused_so x walk = go (change_ends (reply.Refused x) site name sharing.Alone refuses act steps feds walk)
      where
        go : Changed (Return (reply.Refused x)) site name refuses act steps ⊎ IsEarly refuses steps (reply.Refused x) → IsRefusedSo steps x
        go (inl c) =
            let a = acts c.image c.own (no_parent c.image c.first c.own c.rest c.are) c.may in
            let form = own_in_form site name c.image c.first c.own c.rest steps c.are given in
            subst (λ s. IsRefusedSo s x) (sym c.are)
            (own_so c.image c.first c.own c.may_wait c.may c.more c.rest x (given_rest c.image c.first c.own c.rest c.are) a.refusing a.hopeful
            (λ feds rest walk. whole c.image c.first c.own feds rest c.may_wait c.may form walk) c.walk)
        go (inr e) = early_so steps x given e

    -- no other reply comes
    pub done_or_refused : (r : Reply) → IsWalk Goto (change_plan site name sharing.Alone refuses act) feds steps (Return r) → IsDone r ⊎ ((x : Refusal) × (r ≡ reply.Refused x))
    done_or_refused r walk = go (change_ends r site name sharing.Alone refuses act steps feds walk)
      where
        at_end : (image : ℕ) (rest : List Answered) → EndsBy refuses by_fence IsDone (only_image site image) false rest r → IsDone r ⊎ ((x : Refusal) × (r ≡ reply.Refused x))
        at_end image rest (inl granted) = inl granted
        at_end image rest (inr (y, same, from)) = inr (y, same)

        go : Changed (Return r) site name refuses act steps ⊎ IsEarly refuses steps r → IsDone r ⊎ ((x : Refusal) × (r ≡ reply.Refused x))
        go (inl c) =
            let a = acts c.image c.own (no_parent c.image c.first c.own c.rest c.are) c.may in
            at_end c.image c.rest (ends_by refuses by_fence IsDone c.more (only_image site c.image) false (act c.image c.own) c.rest r a.refusing (given_rest c.image c.first c.own c.rest c.are) c.walk)
        go (inr e) = inr (e.why, e.is)

-- ---- resize

set_size_acts : (site : SiteId) (name : List ℕ) (to : ℕ) (image : ℕ) (own : HeaderView) → own.parent ≡ None → resize_refuses to own ≡ None → IsAct site name (resize_refuses to) (set_size site to) (ResizesWhole site name to) image own
set_size_acts site name to image own none may =
    let refuses = resize_refuses to in
    let objects = object_count own.layout to in
    let hopes = built_resize (λ k p. Hopes k) (λ k p. Hopes k) (λ o. Unit {0}) (λ inside. Unit {0}) site image (hopes_rules site image) own (λ number. tt) to objects (applied site image) (applied site image) (record { can = tt; hopeful = tt }) in
    record {
      refusing =
          built_resize (λ k p. Refusing refuses site image k) (λ k p. IsRefusing refuses by_fence IsDone (only_image site image) false k) (IsDoneOrFenced refuses) IsOutside site image (refusing_rules refuses site image) own (outside own none) to objects
          (applied site image) (applied site image) (λ changed. tt);
      hopeful = hopes.hopeful;
    }

pub resize_means : (site : SiteId) (name : List ℕ) (to : ℕ) (feds : List Fed) (steps : List Answered) (r : Reply) → AreGiven steps → AreParentless steps
    → IsWalk Goto (size_change site name to) feds steps (Return r) → ResizeMeans site name to steps r
resize_means site name to feds steps r given parentless walk = go r walk (done_or_refused site name (resize_refuses to) (set_size site to) (ResizesWhole site name to) feds steps given parentless (set_size_acts site name to) whole r walk)
  where
    whole : (image : ℕ) (first own : HeaderView) (feds : List Fed) (rest : List Answered) → resize_refuses to first ≡ None → resize_refuses to own ≡ None → IsHeaderInForm own
        → IsWalk Goto (set_size site to image own) feds rest (Return reply.Done) → ResizesWhole site name to (found site name image ∷ looked_at site image first ∷ looked_at site image own ∷ rest)
    whole image first own feds rest may_wait may form walk = sized_whole site name to image first own rest may_wait may form (set_size_did site to image own feds rest walk)

    go : (r : Reply) → IsWalk Goto (size_change site name to) feds steps (Return r) → IsDone r ⊎ ((x : Refusal) × (r ≡ reply.Refused x)) → ResizeMeans site name to steps r
    go reply.Done walk ends = resize_is_whole site name to feds steps given walk
    go (reply.Refused x) walk ends =
        let so = refused_so site name (resize_refuses to) (set_size site to) (ResizesWhole site name to) feds steps given parentless (set_size_acts site name to) whole x walk in
        record { refused = record { own = resize_is_own site name to feds steps (Return (reply.Refused x)) walk; by = so.by }; so_far = so.so_far }
    go _ walk (inl granted) = absurd granted
    go _ walk (inr (x, same)) = cc
