-- Looks above aren't counted, and all else is.
use Rattle.std.proofs.Common.{◌≡◌, ◌⊎◌, inl, inr, ℕ, zero, suc, ◌≤◌, ◌==◌, cond, not, Bool, true, false, List, [], ◌∷◌, length, Some, refl, sym, ap, ◌∙◌, subst, arith}
use Rattle.std.proofs.lemmas.Bool.{and_parts, eqb-true, true≢false}
use Rattle.rbd_kinds.specs.declared.answer.Answer.{Answer}
use Rattle.rbd_kinds.specs.declared.data_op.DataOp.TheVariants as object
use Rattle.rbd_kinds.specs.declared.header_op.HeaderOp.TheVariants as header
use Rattle.rbd_kinds.specs.declared.id.SiteId.{SiteId}
use Rattle.rbd_kinds.specs.declared.machine.Fed.{Fed}
use Rattle.rbd_kinds.specs.declared.machine.Fed.TheVariants as fed
use Rattle.rbd_kinds.specs.declared.operation.Op.{Op}
use Rattle.rbd_kinds.specs.declared.operation.Op.TheVariants as op
use Rattle.rbd_kinds.proofs.Images.{at_itself, same_site_is}
use Rattle.rbd_machine.specs.About.{IsLookAbove, IsOwnOp, owned_after}
use Rattle.rbd_machine.specs.Ancestors.{IsAmong}
use Rattle.rbd_machine.specs.Knowledge.{ImagePlace, is_at, same_site}
use Rattle.rbd_machine.specs.OwnSteps.{AsksOwnAtMost, is_own, looks_above, own_steps}
use Rattle.rbd_machine.specs.Path.{Answered, IsWalk}
use Rattle.rbd_machine.specs.Plan.{Plan, Ask, Await, Note, Return, Goto, past_label}
use Rattle.rbd_machine.specs.Refused.{AreGiven}
use Rattle.rbd_machine.proofs.Settled.{settled_goto}

-- ---- which images are own

own_is_among : (images : List ImagePlace) (site : SiteId) (image : ℕ) → is_own images site image ≡ true → IsAmong (record { site = site; image = image }) images
own_is_among [] site image own = absurd (true≢false (sym own))
own_is_among (p ∷ images) site image own = by (is_at site image p.site p.image) refl own (own_is_among images site image)
  where
    by : (b : Bool) → is_at site image p.site p.image ≡ b → cond b true (is_own images site image) ≡ true
        → (is_own images site image ≡ true → IsAmong (record { site = site; image = image }) images) → IsAmong (record { site = site; image = image }) (p ∷ images)
    by true here own more =
        let at = and_parts (same_site p.site site) (p.image == image) here in
        inl (ap (λ (t : SiteId). record { site = t; image = p.image }) (same_site_is p.site site at.0) ∙ ap (λ i. record { site = site; image = i }) (eqb-true p.image image at.1))
    by false other own more = inr (more own)

isnt_own : (images : List ImagePlace) (site : SiteId) (image : ℕ) → (IsAmong (record { site = site; image = image }) images → ⊥) → not (is_own images site image) ≡ true
isnt_own images site image other = by (is_own images site image) refl
  where
    by : (b : Bool) → is_own images site image ≡ b → not b ≡ true
    by true own = absurd (other (own_is_among images site image own))
    by false own = refl

above_is_told : (images : List ImagePlace) (site : SiteId) (o : Op) → IsLookAbove o → (IsOwnOp images site o → ⊥) → looks_above images site o ≡ true
above_is_told images site (op.Header image header.Get) look other = isnt_own images site image other
above_is_told images site (op.Data image number (object.Read (Some snap) parts)) look other = isnt_own images site image other
above_is_told images site o look other = absurd look

own_is_told : (images : List ImagePlace) (site : SiteId) (image : ℕ) → IsAmong (record { site = site; image = image }) images → is_own images site image ≡ true
own_is_told [] site image among = absurd among
own_is_told (p ∷ images) site image (inl same) =
    ap (λ b. cond b true (is_own images site image)) (subst (λ (e : ImagePlace). is_at site image e.site e.image ≡ true) (sym same) (at_itself site image))
own_is_told (p ∷ images) site image (inr among) = by (is_at site image p.site p.image) (own_is_told images site image among)
  where
    by : (b : Bool) → is_own images site image ≡ true → cond b true (is_own images site image) ≡ true
    by true more = refl
    by false more = more

own_is_counted : (images : List ImagePlace) (site : SiteId) (o : Op) → IsOwnOp images site o → looks_above images site o ≡ false
own_is_counted images site (op.Header image header.Get) own = ap not (own_is_told images site image own)
own_is_counted images site (op.Data image number (object.Read (Some snap) parts)) own = ap not (own_is_told images site image own)
own_is_counted images site o own = refl

other_is_counted : (images : List ImagePlace) (site : SiteId) (o : Op) → (IsLookAbove o → ⊥) → looks_above images site o ≡ false
other_is_counted images site (op.Header image header.Get) other = absurd (other tt)
other_is_counted images site (op.Data image number (object.Read (Some snap) parts)) other = absurd (other tt)
other_is_counted images site o other = refl

-- a look tells of no own image
owns_no_more : (images : List ImagePlace) (site : SiteId) (o : Op) (a : Answer) → IsLookAbove o → owned_after images site o a ≡ images
owns_no_more images site (op.Header image header.Get) a look = refl
owns_no_more images site (op.Data image number (object.Read (Some snap) parts)) a look = refl
owns_no_more images site o a look = absurd look

-- ---- one step more

module _ (images : List ImagePlace) (site : SiteId) (o : Op) (a : Answer) (rest : List Answered) where
  abbrev step : Answered
  step = record { site = site; op = o; answer = a }

  abbrev left : List Answered
  left = own_steps (owned_after images site o a) rest

  counted : (n : ℕ) → length left ≤ n → length (own_steps images (step ∷ rest)) ≤ suc n
  counted n short = by (looks_above images site o) short
    where
      by : (b : Bool) → length left ≤ n → length (cond b left (step ∷ left)) ≤ suc n
      by true short = let fewer : length left ≤ suc n = omega (arith, short) in fewer
      by false short = let one_more : suc (length left) ≤ suc n = omega (arith, short) in one_more

  passed_over : (n : ℕ) → IsLookAbove o → (IsOwnOp images site o → ⊥) → length left ≤ n → length (own_steps images (step ∷ rest)) ≤ n
  passed_over n look other short = subst (λ b. length (cond b left (step ∷ left)) ≤ n) (sym (above_is_told images site o look other)) short

pub others_are_left : (images : List ImagePlace) (step : Answered) (steps : List Answered) → IsLookAbove step.op → (IsOwnOp images step.site step.op → ⊥)
    → own_steps images (step ∷ steps) ≡ own_steps images steps
others_are_left images s steps look other =
    let left = own_steps (owned_after images s.site s.op s.answer) steps in
    ap (λ b. cond b left (s ∷ left)) (above_is_told images s.site s.op look other) ∙ ap (λ owned. own_steps owned steps) (owns_no_more images s.site s.op s.answer look)

pub own_are_left : (images : List ImagePlace) (step : Answered) (steps : List Answered) → IsOwnOp images step.site step.op ⊎ (IsLookAbove step.op → ⊥)
    → own_steps images (step ∷ steps) ≡ step ∷ own_steps (owned_after images step.site step.op step.answer) steps
own_are_left images s steps which = ap (λ b. cond b left (s ∷ left)) (counts which)
  where
    left : List Answered
    left = own_steps (owned_after images s.site s.op s.answer) steps

    counts : IsOwnOp images s.site s.op ⊎ (IsLookAbove s.op → ⊥) → looks_above images s.site s.op ≡ false
    counts (inl own) = own_is_counted images s.site s.op own
    counts (inr other) = other_is_counted images s.site s.op other

-- no more than all
pub own_are_fewer : (images : List ImagePlace) (steps : List Answered) → length (own_steps images steps) ≤ length steps
own_are_fewer images [] = omega arith
own_are_fewer images (s ∷ steps) = counted images s.site s.op s.answer steps (length steps) (own_are_fewer (owned_after images s.site s.op s.answer) steps)

-- ---- along a pass

settled : (images : List ImagePlace) (plan : Plan) (n : ℕ) → AsksOwnAtMost images plan n → AsksOwnAtMost images (past_label Goto plan) n
settled images plan n few = subst (λ p. AsksOwnAtMost images p n) (sym (settled_goto plan)) few

pub pass_keeps_own : (feds : List Fed) (images : List ImagePlace) (plan : Plan) (n : ℕ) (steps : List Answered) (last : Plan)
    → AsksOwnAtMost images plan n → AreGiven steps → IsWalk Goto plan feds steps last → length (own_steps images steps) ≤ n
pass_keeps_own [] images plan n steps last few given walk = subst (λ s. length (own_steps images s) ≤ n) (sym walk.0) (omega arith)
pass_keeps_own (fed.Answer a ∷ more) images (Ask site why o next) zero steps last (above, few) given (first, walk) =
    let given' : AreGiven (record { site = site; op = o; answer = a } ∷ first.rest) = subst AreGiven first.is given in
    let owned = owned_after images site o a in
    subst (λ s. length (own_steps images s) ≤ zero) (sym first.is)
    (passed_over images site o a first.rest zero above.0 above.1
    (pass_keeps_own more owned (past_label Goto (next a)) zero first.rest last (settled owned (next a) zero (few a given'.0.can)) given'.1 walk))
pass_keeps_own (fed.Answer a ∷ more) images (Ask site why o next) (suc n) steps last (inl few) given (first, walk) =
    let given' : AreGiven (record { site = site; op = o; answer = a } ∷ first.rest) = subst AreGiven first.is given in
    let owned = owned_after images site o a in
    subst (λ s. length (own_steps images s) ≤ suc n) (sym first.is)
    (counted images site o a first.rest n
    (pass_keeps_own more owned (past_label Goto (next a)) n first.rest last (settled owned (next a) n (few a given'.0.can)) given'.1 walk))
pass_keeps_own (fed.Answer a ∷ more) images (Ask site why o next) (suc n) steps last (inr (above, few)) given (first, walk) =
    let given' : AreGiven (record { site = site; op = o; answer = a } ∷ first.rest) = subst AreGiven first.is given in
    let owned = owned_after images site o a in
    subst (λ s. length (own_steps images s) ≤ suc n) (sym first.is)
    (passed_over images site o a first.rest (suc n) above.0 above.1
    (pass_keeps_own more owned (past_label Goto (next a)) (suc n) first.rest last (settled owned (next a) (suc n) (few a given'.0.can)) given'.1 walk))
pass_keeps_own (fed.Passed ∷ more) images (Ask site why o next) n steps last few given walk = absurd walk
pass_keeps_own (fed.Passed ∷ more) images (Await wait next) n steps last few given walk =
    pass_keeps_own more images (past_label Goto next) n steps last (settled images next n few) given walk
pass_keeps_own (fed.Answer a ∷ more) images (Await wait next) n steps last few given walk = absurd walk
pass_keeps_own (fed.Passed ∷ more) images (Note site image event next) n steps last few given walk =
    pass_keeps_own more images (past_label Goto next) n steps last (settled images next n few) given walk
pass_keeps_own (fed.Answer a ∷ more) images (Note site image event next) n steps last few given walk = absurd walk
pass_keeps_own (f ∷ more) images (Return reply) n steps last few given walk = absurd walk
pass_keeps_own (f ∷ more) images (Goto label) n steps last few given walk = absurd walk
