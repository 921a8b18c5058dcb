-- Walks of a plan that goes on behind a part, taken apart there.
use Rattle.std.proofs.Common.{◌≡◌, ◌⊎◌, inl, inr, ℕ, List, [], ◌∷◌, ◌++◌, refl, sym, ap, ◌∙◌, subst}
use Rattle.rbd_kinds.specs.declared.answer.Answer.{Answer}
use Rattle.rbd_kinds.specs.declared.answer.Answer.TheVariants as answer
use Rattle.rbd_kinds.specs.declared.id.SiteId.{SiteId}
use Rattle.rbd_kinds.specs.declared.layout.Part.{Part}
use Rattle.rbd_kinds.specs.declared.machine.Fed.{Fed}
use Rattle.rbd_kinds.specs.declared.machine.Fed.TheVariants as fed
use Rattle.rbd_kinds.specs.declared.operation.Op.{Op}
use Rattle.rbd_kinds.specs.declared.reply.Reply.{Reply}
use Rattle.rbd_kinds.specs.declared.reply.Reply.TheVariants as reply
use Rattle.rbd_machine.specs.Path.{Answered, IsWalk}
use Rattle.rbd_machine.specs.Plan.{Plan, Ask, Await, Note, Return, Goto}
use Rattle.rbd_machine.specs.Steps.{not_there, on_bits, on_done}
use Rattle.rbd_machine.proofs.Settled.{settled_goto}
use Rattle.rbd_pieces.specs.Gather.{on_bytes}
use Rattle.rbd_image.proofs.Built.{Rules}

module _ (next : Plan) where
  -- the second is the first, with what comes next where the first is done
  abbrev pub Follows : (part whole : Plan) → Type 0
  Follows (Ask site why o k) p = (go : Answer → Plan) × (p ≡ Ask site why o go) × ((a : Answer) → Follows (k a) (go a))
  Follows (Await wait k) p = (go : Plan) × (p ≡ Await wait go) × Follows k go
  Follows (Note site image event k) p = (go : Plan) × (p ≡ Note site image event go) × Follows k go
  Follows (Return reply.Done) p = p ≡ next
  Follows (Return r) p = p ≡ Return r
  Follows (Goto label) p = p ≡ Goto label

  -- the part was walked to its end, and then what comes next
  pub record Splits (part : Plan) (steps : List Answered) (r : Reply) : Type 0 where
    pub first : List Answered
    pub rest : List Answered
    pub feds : List Fed
    pub more : List Fed
    pub are : steps ≡ first ++ rest
    pub walk : IsWalk Goto part feds first (Return reply.Done)
    pub later : IsWalk Goto next more rest (Return r)

  -- the part ended otherwise
  pub record Stays (part : Plan) (steps : List Answered) (r : Reply) : Type 0 where
    pub feds : List Fed
    pub walk : IsWalk Goto part feds steps (Return r)
    pub other : r ≡ reply.Done → ⊥

  ended_other : (q r : Reply) (p : Plan) (feds : List Fed) (steps : List Answered) → p ≡ Return q → (q ≡ reply.Done → ⊥) → IsWalk Goto p feds steps (Return r) → Stays (Return q) steps r
  ended_other q r p feds steps is other walk =
      let there : IsWalk Goto (Return q) feds steps (Return r) = subst (λ p. IsWalk Goto p feds steps (Return r)) is walk in
      record { feds = feds; walk = there; other = subst (λ r. r ≡ reply.Done → ⊥) (same feds there) other }
    where
      same : (feds : List Fed) → IsWalk Goto (Return q) feds steps (Return r) → q ≡ r
      same [] w = let one : Return r ≡ Return q = w.1 in cc
      same (f ∷ more) w = absurd w

  with_step : (site : SiteId) (o : Op) (a : Answer) (k : Answer → Plan) (why : _) (rest steps : List Answered) (r : Reply) → steps ≡ record { site = site; op = o; answer = a } ∷ rest
      → Splits (k a) rest r ⊎ Stays (k a) rest r → Splits (Ask site why o k) steps r ⊎ Stays (Ask site why o k) steps r
  with_step site o a k why rest steps r are (inl s) = inl (record {
    first = record { site = site; op = o; answer = a } ∷ s.first;
    rest = s.rest;
    feds = fed.Answer a ∷ s.feds;
    more = s.more;
    are = are ∙ ap (λ rest. record { site = site; op = o; answer = a } ∷ rest) s.are;
    walk = (record { rest = s.first; is = refl }, subst (λ p. IsWalk Goto p s.feds s.first (Return reply.Done)) (sym (settled_goto (k a))) s.walk);
    later = s.later;
  })
  with_step site o a k why rest steps r are (inr s) = inr (record {
    feds = fed.Answer a ∷ s.feds;
    walk = (record { rest = rest; is = are }, subst (λ p. IsWalk Goto p s.feds rest (Return r)) (sym (settled_goto (k a))) s.walk);
    other = s.other;
  })

  with_wait : (w : _) (k : Plan) (steps : List Answered) (r : Reply) → Splits k steps r ⊎ Stays k steps r → Splits (Await w k) steps r ⊎ Stays (Await w k) steps r
  with_wait w k steps r (inl s) = inl (record {
    first = s.first;
    rest = s.rest;
    feds = fed.Passed ∷ s.feds;
    more = s.more;
    are = s.are;
    walk = subst (λ p. IsWalk Goto p s.feds s.first (Return reply.Done)) (sym (settled_goto k)) s.walk;
    later = s.later;
  })
  with_wait w k steps r (inr s) = inr (record { feds = fed.Passed ∷ s.feds; walk = subst (λ p. IsWalk Goto p s.feds steps (Return r)) (sym (settled_goto k)) s.walk; other = s.other })

  with_note : (site : SiteId) (image : ℕ) (event : _) (k : Plan) (steps : List Answered) (r : Reply) → Splits k steps r ⊎ Stays k steps r → Splits (Note site image event k) steps r ⊎ Stays (Note site image event k) steps r
  with_note site image event k steps r (inl s) = inl (record {
    first = s.first;
    rest = s.rest;
    feds = fed.Passed ∷ s.feds;
    more = s.more;
    are = s.are;
    walk = subst (λ p. IsWalk Goto p s.feds s.first (Return reply.Done)) (sym (settled_goto k)) s.walk;
    later = s.later;
  })
  with_note site image event k steps r (inr s) = inr (record { feds = fed.Passed ∷ s.feds; walk = subst (λ p. IsWalk Goto p s.feds steps (Return r)) (sym (settled_goto k)) s.walk; other = s.other })

  pub splits : (part p : Plan) (feds : List Fed) (steps : List Answered) (r : Reply) → Follows part p → IsWalk Goto p feds steps (Return r) → Splits part steps r ⊎ Stays part steps r
  splits (Return reply.Done) p feds steps r is walk = inl (record {
    first = [];
    rest = steps;
    feds = [];
    more = feds;
    are = refl;
    walk = (refl, refl);
    later = subst (λ p. IsWalk Goto p feds steps (Return r)) is walk;
  })
  splits (Return q) p feds steps r is walk = inr (ended_other q r p feds steps is (λ same. cc) walk)
  splits (Goto label) p feds steps r is walk = absurd (go feds (subst (λ p. IsWalk Goto p feds steps (Return r)) is walk))
    where
      go : (feds : List Fed) → IsWalk Goto (Goto label) feds steps (Return r) → ⊥
      go [] w = let one = w.1 in cc
      go (f ∷ more) w = absurd w
  splits (Ask site why o k) p feds steps r (go, is, follows) walk = at feds (subst (λ p. IsWalk Goto p feds steps (Return r)) is walk) (λ a more rest w. splits (k a) (go a) more rest r (follows a) w)
    where
      at : (feds : List Fed) → IsWalk Goto (Ask site why o go) feds steps (Return r)
          → ((a : Answer) (more : List Fed) (rest : List Answered) → IsWalk Goto (go a) more rest (Return r) → Splits (k a) rest r ⊎ Stays (k a) rest r) → Splits (Ask site why o k) steps r ⊎ Stays (Ask site why o k) steps r
      at [] w on = let one = w.1 in cc
      at (fed.Passed ∷ more) w on = absurd w
      at (fed.Answer a ∷ more) (first, w) on = with_step site o a k why first.rest steps r first.is (on a more first.rest (subst (λ p. IsWalk Goto p more first.rest (Return r)) (settled_goto (go a)) w))
  splits (Await w k) p feds steps r (go, is, follows) walk = at feds (subst (λ p. IsWalk Goto p feds steps (Return r)) is walk) (λ more there. splits k go more steps r follows there)
    where
      at : (feds : List Fed) → IsWalk Goto (Await w go) feds steps (Return r) → ((more : List Fed) → IsWalk Goto go more steps (Return r) → Splits k steps r ⊎ Stays k steps r) → Splits (Await w k) steps r ⊎ Stays (Await w k) steps r
      at [] there on = let one = there.1 in cc
      at (fed.Answer a ∷ more) there on = absurd there
      at (fed.Passed ∷ more) there on = with_wait w k steps r (on more (subst (λ p. IsWalk Goto p more steps (Return r)) (settled_goto go) there))
  splits (Note site image event k) p feds steps r (go, is, follows) walk = at feds (subst (λ p. IsWalk Goto p feds steps (Return r)) is walk) (λ more there. splits k go more steps r follows there)
    where
      at : (feds : List Fed) → IsWalk Goto (Note site image event go) feds steps (Return r) → ((more : List Fed) → IsWalk Goto go more steps (Return r) → Splits k steps r ⊎ Stays k steps r)
          → Splits (Note site image event k) steps r ⊎ Stays (Note site image event k) steps r
      at [] there on = let one = there.1 in cc
      at (fed.Answer a ∷ more) there on = absurd there
      at (fed.Passed ∷ more) there on = with_note site image event k steps r (on more (subst (λ p. IsWalk Goto p more steps (Return r)) (settled_goto go) there))

  -- ---- steps

  follows_not_there : (a : Answer) → Follows (not_there a) (not_there a)
  follows_not_there answer.Fenced = refl
  follows_not_there _ = refl

  follows_on_done : (k p : Plan) → Follows k p → (a : Answer) → Follows (on_done k a) (on_done p a)
  follows_on_done k p follows answer.Done = follows
  follows_on_done k p follows a = follows_not_there a

  follows_on_bits : (k p : List ℕ → Plan) → ((bits : List ℕ) → Follows (k bits) (p bits)) → (a : Answer) → Follows (on_bits k a) (on_bits p a)
  follows_on_bits k p follows (answer.Bits bits) = follows bits
  follows_on_bits k p follows a = follows_not_there a

  follows_on_bytes : (parts : List Part) (k p : List ℕ → Plan) → ((bytes : List ℕ) → Follows (k bytes) (p bytes)) → (a : Answer) → Follows (on_bytes parts k a) (on_bytes parts p a)
  follows_on_bytes parts k p follows (answer.Bytes bytes) = follows bytes
  follows_on_bytes parts k p follows answer.Absent = follows _
  follows_on_bytes parts k p follows answer.Fenced = refl
  follows_on_bytes parts k p follows _ = refl

  pub follows_rules : (site : SiteId) (image : ℕ) → Rules Follows Follows (λ o. Unit {0}) (λ inside. Unit {0}) site image
  follows_rules site image = record {
    done = λ o k p fine follows. (on_done p, refl, follows_on_done k p follows);
    read = λ snap piece k p follows. (on_bytes piece.parts p, refl, follows_on_bytes piece.parts k p follows);
    bits = λ k p follows. (on_bits p, refl, follows_on_bits k p follows);
    first = λ k p follows. follows;
    set = λ number state. tt;
    zero = λ context piece. tt;
    must = λ may context piece. tt;
    empty = λ context number. tt;
    remove = λ context number. tt;
    full = λ context number bytes. tt;
    room = λ objects. tt;
    size = λ to. tt;
  }
