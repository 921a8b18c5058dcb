-- Walks that were cut off by a refusal, gone on with as if nothing had refused.
use Rattle.std.proofs.Common.{◌≡◌, ◌⊎◌, inl, inr, ℕ, List, [], ◌∷◌, ◌++◌, refl, sym, ap, ◌∙◌, subst}
use Rattle.rbd_kinds.specs.declared.answer.Answer.{Answer}
use Rattle.rbd_kinds.specs.declared.answer.Answer.TheVariants as answer
use Rattle.rbd_kinds.specs.declared.id.SiteId.{SiteId}
use Rattle.rbd_kinds.specs.declared.layout.Part.{Part}
use Rattle.rbd_kinds.specs.declared.machine.Fed.{Fed}
use Rattle.rbd_kinds.specs.declared.machine.Fed.TheVariants as fed
use Rattle.rbd_kinds.specs.declared.operation.Op.{Op}
use Rattle.rbd_kinds.specs.declared.reply.Reply.TheVariants as reply
use Rattle.rbd_commands.specs.declared.refusal.Refusal.{Refusal}
use Rattle.rbd_machine.specs.Path.{Answered, IsWalk}
use Rattle.rbd_machine.specs.Plan.{Plan, Ask, Await, Note, Return, Goto, past_label}
use Rattle.rbd_machine.specs.Steps.{not_there, on_bits, on_done}
use Rattle.rbd_machine.specs.declared.reason.Reason.{Reason}
use Rattle.rbd_machine.proofs.Settled.{settled_goto}
use Rattle.rbd_pieces.specs.Gather.{on_bytes}
use Rattle.rbd_image.proofs.Built.{Rules}

-- some answers lead to the end
abbrev pub CanEnd : Plan → Type 0
CanEnd (Ask site why o k) = (a : Answer) × CanEnd (k a)
CanEnd (Await wait k) = CanEnd k
CanEnd (Note site image event k) = CanEnd k
CanEnd (Return reply.Done) = Unit {0}
CanEnd (Return r) = ⊥
CanEnd (Goto label) = ⊥

-- so it is at each operation
abbrev pub IsHopeful : Plan → Type 0
IsHopeful (Ask site why o k) = ((a : Answer) × CanEnd (k a)) × ((a : Answer) → IsHopeful (k a))
IsHopeful (Await wait k) = IsHopeful k
IsHopeful (Note site image event k) = IsHopeful k
IsHopeful (Return r) = Unit {0}
IsHopeful (Goto label) = Unit {0}

-- ---- to the end

record Ends (p : Plan) : Type 0 where
  steps : List Answered
  feds : List Fed
  walk : IsWalk Goto p feds steps (Return reply.Done)

from_settled : (p : Plan) (feds : List Fed) (steps : List Answered) (last : Plan) → IsWalk Goto p feds steps last → IsWalk Goto (past_label Goto p) feds steps last
from_settled p feds steps last walk = subst (λ p. IsWalk Goto p feds steps last) (sym (settled_goto p)) walk

ends : (p : Plan) → CanEnd p → Ends p
ends (Ask site why o k) (a, can) =
    let e = ends (k a) can in
    record {
      steps = record { site = site; op = o; answer = a } ∷ e.steps;
      feds = fed.Answer a ∷ e.feds;
      walk = (record { rest = e.steps; is = refl }, from_settled (k a) e.feds e.steps (Return reply.Done) e.walk);
    }
ends (Await wait k) can = let e = ends k can in record { steps = e.steps; feds = fed.Passed ∷ e.feds; walk = from_settled k e.feds e.steps (Return reply.Done) e.walk }
ends (Note site image event k) can = let e = ends k can in record { steps = e.steps; feds = fed.Passed ∷ e.feds; walk = from_settled k e.feds e.steps (Return reply.Done) e.walk }
ends (Return reply.Done) can = record { steps = []; feds = []; walk = (refl, refl) }
ends (Return r) can = absurd can
ends (Goto label) can = absurd can

-- ---- what was cut off

-- Up to a last operation the steps are those of a walk to the end.
pub record IsCutOff (p : Plan) (steps : List Answered) : Type 0 where
  pub before : List Answered
  pub last : Answered
  pub are : steps ≡ before ++ last ∷ []
  pub rest : List Answered
  pub feds : List Fed
  pub walk : IsWalk Goto p feds (before ++ rest) (Return reply.Done)

module _ (x : Refusal) where
  abbrev Refused : Plan
  Refused = Return (reply.Refused x)

  after_first : (site : SiteId) (why : Reason) (o : Op) (k : Answer → Plan) (a : Answer) (rest steps : List Answered) → (b : Answer) × CanEnd (k b) → steps ≡ record { site = site; op = o; answer = a } ∷ rest
      → (rest ≡ []) ⊎ IsCutOff (k a) rest → IsCutOff (Ask site why o k) steps
  after_first site why o k a rest steps can are (inl none) =
      let e = ends (Ask site why o k) can in
      record {
        before = [];
        last = record { site = site; op = o; answer = a };
        are = are ∙ ap (λ rest. record { site = site; op = o; answer = a } ∷ rest) none;
        rest = e.steps;
        feds = e.feds;
        walk = e.walk;
      }
  after_first site why o k a rest steps can are (inr cut) = record {
    before = record { site = site; op = o; answer = a } ∷ cut.before;
    last = cut.last;
    are = are ∙ ap (λ rest. record { site = site; op = o; answer = a } ∷ rest) cut.are;
    rest = cut.rest;
    feds = fed.Answer a ∷ cut.feds;
    walk = (record { rest = cut.before ++ cut.rest; is = refl }, from_settled (k a) cut.feds (cut.before ++ cut.rest) (Return reply.Done) cut.walk);
  }

  -- what it waits for is passed over
  behind_wait : (p k : Plan) (steps : List Answered) → ((feds : List Fed) (steps : List Answered) → IsWalk Goto (past_label Goto k) feds steps (Return reply.Done) → IsWalk Goto p (fed.Passed ∷ feds) steps (Return reply.Done))
      → (steps ≡ []) ⊎ IsCutOff k steps → (steps ≡ []) ⊎ IsCutOff p steps
  behind_wait p k steps goes_on (inl none) = inl none
  behind_wait p k steps goes_on (inr cut) = inr (record {
    before = cut.before;
    last = cut.last;
    are = cut.are;
    rest = cut.rest;
    feds = fed.Passed ∷ cut.feds;
    walk = goes_on cut.feds (cut.before ++ cut.rest) (from_settled k cut.feds (cut.before ++ cut.rest) (Return reply.Done) cut.walk);
  })

  pub cut_off : (p : Plan) (feds : List Fed) (steps : List Answered) → IsHopeful p → IsWalk Goto p feds steps Refused → (steps ≡ []) ⊎ IsCutOff p steps
  cut_off p [] steps hopeful walk = inl walk.0
  cut_off (Ask site why o k) (fed.Passed ∷ more) steps hopeful walk = absurd walk
  cut_off (Ask site why o k) (fed.Answer a ∷ more) steps (can, hopeful) (first, walk) =
      inr (after_first site why o k a first.rest steps can first.is (cut_off (k a) more first.rest (hopeful a) (subst (λ p. IsWalk Goto p more first.rest Refused) (settled_goto (k a)) walk)))
  cut_off (Await wait k) (fed.Answer a ∷ more) steps hopeful walk = absurd walk
  cut_off (Await wait k) (fed.Passed ∷ more) steps hopeful walk =
      behind_wait (Await wait k) k steps (λ feds steps goes. goes) (cut_off k more steps hopeful (subst (λ p. IsWalk Goto p more steps Refused) (settled_goto k) walk))
  cut_off (Note site image event k) (fed.Answer a ∷ more) steps hopeful walk = absurd walk
  cut_off (Note site image event k) (fed.Passed ∷ more) steps hopeful walk =
      behind_wait (Note site image event k) k steps (λ feds steps goes. goes) (cut_off k more steps hopeful (subst (λ p. IsWalk Goto p more steps Refused) (settled_goto k) walk))
  cut_off (Return r) (f ∷ more) steps hopeful walk = absurd walk
  cut_off (Goto label) (f ∷ more) steps hopeful walk = absurd walk

-- ---- steps

pub record Hopes (p : Plan) : Type 0 where
  pub can : CanEnd p
  pub hopeful : IsHopeful p

hopeful_not_there : (a : Answer) → IsHopeful (not_there a)
hopeful_not_there answer.Fenced = tt
hopeful_not_there _ = tt

hopeful_on_done : (k : Plan) → IsHopeful k → (a : Answer) → IsHopeful (on_done k a)
hopeful_on_done k hopeful answer.Done = hopeful
hopeful_on_done k hopeful a = hopeful_not_there a

hopeful_on_bits : (k : List ℕ → Plan) → ((bits : List ℕ) → IsHopeful (k bits)) → (a : Answer) → IsHopeful (on_bits k a)
hopeful_on_bits k hopeful (answer.Bits bits) = hopeful bits
hopeful_on_bits k hopeful a = hopeful_not_there a

hopeful_on_bytes : (parts : List Part) (k : List ℕ → Plan) → ((bytes : List ℕ) → IsHopeful (k bytes)) → (a : Answer) → IsHopeful (on_bytes parts k a)
hopeful_on_bytes parts k hopeful (answer.Bytes bytes) = hopeful bytes
hopeful_on_bytes parts k hopeful answer.Absent = hopeful _
hopeful_on_bytes parts k hopeful answer.Fenced = tt
hopeful_on_bytes parts k hopeful _ = tt

pub hopes_rules : (site : SiteId) (image : ℕ) → Rules (λ k p. Hopes k) (λ k p. Hopes k) (λ o. Unit {0}) (λ inside. Unit {0}) site image
hopes_rules site image = record {
  done = λ o k p fine h. record { can = (answer.Done, h.can); hopeful = ((answer.Done, h.can), hopeful_on_done k h.hopeful) };
  read = λ snap piece k p h. record { can = (answer.Bytes [], (h []).can); hopeful = ((answer.Bytes [], (h []).can), hopeful_on_bytes piece.parts k (λ bytes. (h bytes).hopeful)) };
  bits = λ k p h. record { can = (answer.Bits [], (h []).can); hopeful = ((answer.Bits [], (h []).can), hopeful_on_bits k (λ states. (h states).hopeful)) };
  first = λ k p h. h;
  set = λ number state. tt;
  zero = λ context piece. tt;
  must = λ may context piece. tt;
  empty = λ context number. tt;
  remove = λ context number. tt;
  full = λ context number bytes. tt;
  room = λ objects. tt;
  size = λ to. tt;
}
