-- Requests that were told of no parent: each of their operations is of their own image, and no answer
-- before the last refused them.
use Rattle.std.proofs.Common.{◌≡◌, ◌⊎◌, inl, inr, ℕ, List, [], ◌∷◌, ◌++◌, Option, Some, None, refl, sym, ap, subst}
use Rattle.rbd_commands.specs.declared.refusal.Refusal.{Refusal}
use Rattle.rbd_kinds.specs.declared.answer.Answer.{Answer}
use Rattle.rbd_kinds.specs.declared.answer.Answer.TheVariants as answer
use Rattle.rbd_kinds.specs.declared.directory_op.DirectoryOp.TheVariants as directory
use Rattle.rbd_kinds.specs.declared.header.HeaderView.{HeaderView}
use Rattle.rbd_kinds.specs.declared.header.ParentLink.{ParentLink}
use Rattle.rbd_kinds.specs.declared.header_op.HeaderOp.TheVariants as header
use Rattle.rbd_kinds.specs.declared.id.SiteId.{SiteId}
use Rattle.rbd_kinds.specs.declared.operation.Op.{Op}
use Rattle.rbd_kinds.specs.declared.operation.Op.TheVariants as op
use Rattle.rbd_machine.specs.About.{AreOfImage, AreOwn, GoByImage, IsLookAbove, IsOfOwn, IsOfParent, IsOwnOp, NamesNoParent, NamesParent, image_of, look_up, owned_after}
use Rattle.rbd_machine.specs.Ancestors.{HeaderSeen, IsAmong, seen_by}
use Rattle.rbd_machine.specs.Knowledge.{ImagePlace}
use Rattle.rbd_machine.specs.Path.{Answered, looked_at}
use Rattle.rbd_machine.specs.Refused.{AreAllowed, IsRefused, refusal_by}

-- ---- lists

among_front : (step : Answered) (front back : List Answered) → IsAmong step front → IsAmong step (front ++ back)
among_front step [] back among = absurd among
among_front step (s ∷ front) back (inl is) = inl is
among_front step (s ∷ front) back (inr later) = inr (among_front step front back later)

-- ---- whose the operations are

module _ (site : SiteId) where
  -- the headers that were seen name no parent
  abbrev NoneNamed : List HeaderSeen → Type 0
  NoneNamed seen = (image : ℕ) (h : HeaderView) (link : ParentLink) → IsAmong (record { site = site; image = image; header = h }) seen → NamesParent h link → ⊥

  nobody : (seen : List HeaderSeen) (o : Option ℕ) → NoneNamed seen → IsOfParent seen site o → ⊥
  nobody seen None none of = absurd of
  nobody seen (Some image) none of = none of.clone of.header of.link of.saw of.names

  none_more : (seen : List HeaderSeen) (s : SiteId) (o : Op) (a : Answer) → NoneNamed seen
      → ((image : ℕ) (h : HeaderView) (link : ParentLink) → record { site = s; op = o; answer = a } ≡ looked_at site image h → NamesParent h link → ⊥) → NoneNamed (seen_by seen s o a)
  none_more seen s (op.Header image header.Get) (answer.Header h) none told i g link (inl is) =
      told i g link (ap (λ (x : HeaderSeen). looked_at x.site x.image x.header) is)
  none_more seen s (op.Header image header.Get) (answer.Header h) none told i g link (inr among) = none i g link among
  none_more seen s _ _ none told i g link among = none i g link among

  own_alone : (image : ℕ) (seen : List HeaderSeen) (steps : List Answered) → NoneNamed seen → NamesNoParent site steps → AreOfImage seen site image steps
      → (step : Answered) → IsAmong step steps → (step.site ≡ site) × (image_of step.op ≡ Some image)
  own_alone image seen [] none named are step among = absurd among
  own_alone image seen (s ∷ steps) none named (at, of, are) step (inl is) =
      subst (λ (t : Answered). (t.site ≡ site) × (image_of t.op ≡ Some image)) is (at, by of)
    where
      by : (image_of s.op ≡ Some image) ⊎ (IsLookAbove s.op × IsOfParent seen site (image_of s.op)) → image_of s.op ≡ Some image
      by (inl own) = own
      by (inr (look, parent)) = absurd (nobody seen (image_of s.op) none parent)
  own_alone image seen (s ∷ steps) none named (at, of, are) step (inr later) =
      own_alone image (seen_by seen s.site s.op s.answer) steps
      (none_more seen s.site s.op s.answer none (λ i h link is. named i h link (inl is)))
      (λ i h link among. named i h link (inr among)) are step later

  pub go_alone : (ask : Op) (first : Answered) (others : List Answered) (by : GoByImage site ask first others) → NamesNoParent site others
      → (step : Answered) → IsAmong step others → (step.site ≡ site) × (image_of step.op ≡ Some by.image)
  go_alone ask first others by named step among = own_alone by.image [] others (λ i h link none. absurd none) named by.are step among

-- ---- what they refuse

owned_stays : (images : List ImagePlace) (site : SiteId) (o : Op) (a : Answer) (place : ImagePlace) → IsAmong place images → IsAmong place (owned_after images site o a)
owned_stays images site (op.Directory (directory.Find name)) (answer.Id image) place among = inr among
owned_stays images site (op.Directory (directory.Add name)) (answer.Id image) place among = inr among
owned_stays images site _ _ place among = among

module _ (refuses : HeaderView → Option Refusal) where
  -- of steps that are all of one own image
  none_refuses : (site : SiteId) (image : ℕ) (images : List ImagePlace) (steps : List Answered) → IsAmong (record { site = site; image = image }) images
      → ((step : Answered) → IsAmong step steps → (step.site ≡ site) × (image_of step.op ≡ Some image)) → AreAllowed refuses images steps
      → (step : Answered) → IsAmong step steps → refusal_by refuses step.op step.answer ≡ None
  none_refuses site image images [] has own allowed step among = absurd among
  none_refuses site image images (s ∷ steps) has own allowed step (inl is) =
      subst (λ (t : Answered). refusal_by refuses t.op t.answer ≡ None) is (allowed.0 (inr (its_own (own s (inl refl)))))
    where
      its_own : (s.site ≡ site) × (image_of s.op ≡ Some image) → IsOwnOp images s.site s.op
      its_own (at, of) = subst (λ there. IsOfOwn images there (image_of s.op)) (sym at) (subst (IsOfOwn images site) (sym of) has)
  none_refuses site image images (s ∷ steps) has own allowed step (inr later) =
      none_refuses site image (owned_after images s.site s.op s.answer) steps (owned_stays images s.site s.op s.answer _ has) (λ step among. own step (inr among)) allowed.1 step later

  -- a request that had operations before the one that refused it goes by its image
  goes_by : (site : SiteId) (ask : Op) (first : Answered) (others : List Answered) (last : Answered) → AreOwn site ask (first ∷ (others ++ last ∷ [])) → GoByImage site ask first (others ++ last ∷ [])
  goes_by site ask first [] last own = own
  goes_by site ask first (next ∷ others) last own = own

  before_allowed : (site : SiteId) (name : List ℕ) (before : List Answered) (last : Answered) → AreOwn site (look_up name) (before ++ last ∷ []) → NamesNoParent site (before ++ last ∷ [])
      → AreAllowed refuses [] before → (step : Answered) → IsAmong step before → refusal_by refuses step.op step.answer ≡ None
  before_allowed site name [] last own named allowed step among = absurd among
  before_allowed site name (first ∷ others) last own named allowed step among =
      let by = goes_by site (look_up name) first others last own in
      go by (subst (λ f. AreAllowed refuses [] (f ∷ others)) by.told allowed) (subst (λ f. IsAmong step (f ∷ others)) by.told among)
    where
      go : (by : GoByImage site (look_up name) first (others ++ last ∷ [])) → AreAllowed refuses [] (record { site = site; op = look_up name; answer = answer.Id by.image } ∷ others)
          → IsAmong step (record { site = site; op = look_up name; answer = answer.Id by.image } ∷ others) → refusal_by refuses step.op step.answer ≡ None
      go by allowed (inl is) = subst (λ (t : Answered). refusal_by refuses t.op t.answer ≡ None) is refl
      go by allowed (inr later) =
          none_refuses site by.image (record { site = site; image = by.image } ∷ []) others (inl refl)
          (λ s among. go_alone site (look_up name) first (others ++ last ∷ []) by (λ i h link told. named i h link (inr told)) s (among_front s others (last ∷ []) among)) allowed.1 step later

  pub refused_alone : (late : Refusal → Type 0) (site : SiteId) (name : List ℕ) (steps : List Answered) (x : Refusal) (is : IsRefused site (look_up name) refuses late steps x) → NamesNoParent site steps
      → (step : Answered) → IsAmong step is.by.before → refusal_by refuses step.op step.answer ≡ None
  refused_alone late site name steps x is named step among =
      before_allowed site name is.by.before is.by.last (subst (AreOwn site (look_up name)) is.by.are is.own) (subst (NamesNoParent site) is.by.are named) is.by.allowed step among
