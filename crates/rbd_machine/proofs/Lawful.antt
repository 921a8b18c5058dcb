-- Plans that are lawful, step by step.
use Rattle.std.proofs.Common.{◌≡◌, ◌⊎◌, inl, inr, ℕ, List, [], ◌∷◌, Bool, true, false, cond, not, Option, Some, None, refl, ap, ◌∙◌, subst, sym}
use Rattle.std.specs.Prelude.{unwrap_or}
use Rattle.std.proofs.lemmas.Bool.{true≢false}
use Rattle.rbd_kinds.specs.declared.sharing.Sharing.{Sharing}
use Rattle.rbd_kinds.specs.declared.answer.Answer.{Answer}
use Rattle.rbd_kinds.specs.declared.answer.Answer.TheVariants as answer
use Rattle.rbd_kinds.specs.declared.directory_op.DirectoryOp.TheVariants as directory
use Rattle.rbd_kinds.specs.declared.header.HeaderView.{HeaderView}
use Rattle.rbd_kinds.specs.declared.header_op.HeaderOp.TheVariants as header
use Rattle.rbd_kinds.specs.declared.id.SiteId.{SiteId}
use Rattle.rbd_kinds.specs.declared.id.SiteId.TheVariants as site
use Rattle.rbd_kinds.specs.declared.machine.Fed.{Fed}
use Rattle.rbd_kinds.specs.declared.machine.Fed.TheVariants as fed
use Rattle.rbd_kinds.specs.declared.operation.Op.{Op}
use Rattle.rbd_kinds.specs.declared.operation.Op.TheVariants as op
use Rattle.rbd_commands.specs.declared.refusal.Refusal.{Refusal}
use Rattle.rbd_kinds.specs.Form.{IsHeaderInForm}
use Rattle.rbd_kinds.proofs.Images.{at_itself}
use Rattle.rbd_machine.specs.Answers.{CanGive, CanBeFed}
use Rattle.rbd_machine.specs.Knowledge.{Knowledge, Own, nothing_known, is_at, is_gone, own_of, header_told, first_told, owns_without, looked_under_lock, learned, learned_own, known_after_wait, maps_told, unmapped, ImageMaps, MapsKnown, maps_of}
use Rattle.rbd_machine.specs.Label.{Label, IsFit}
use Rattle.rbd_machine.specs.Lawful.{CanTell, IsLawful, known_after}
use Rattle.rbd_machine.specs.Permits.{IsLeftOver, OwnsBy}
use Rattle.rbd_machine.specs.Possible.{IsFedPossible, IsPossible}
use Rattle.rbd_machine.specs.Plan.{Plan, Ask, Await, Note, Return, Goto, past_label, plan_after}
use Rattle.rbd_machine.specs.Standalone.{IsFedStandalone, IsStandalone, TellsStandalone}
use Rattle.rbd_machine.specs.Steps.{or_else, unless, not_there, on_id, on_header, on_done, change_plan, looked, holding, owned, joining}
use Rattle.rbd_machine.specs.Wait as wait
use Rattle.rbd_machine.proofs.AtLeast.{lawful_by_more, learned_at_least}

-- ---- places

-- what was told of an image's maps last is what is known of them
pub told_first : (s : SiteId) (image : ℕ) (m : MapsKnown) (maps : List ImageMaps) → maps_of (maps_told s image m maps) s image ≡ m
told_first s image m maps = ap (λ b. cond b m (maps_of maps s image)) (at_itself s image)

-- it owns nothing more of an image that it left
pub left_here : (s : SiteId) (image : ℕ) (owns : List Own) → own_of (owns_without s image owns) s image ≡ None
left_here s image [] = refl
left_here s image (o ∷ owns) = by (is_at s image o.site o.image) refl (left_here s image owns)
  where
    by : (b : Bool) → is_at s image o.site o.image ≡ b → own_of (owns_without s image owns) s image ≡ None → own_of (cond (not b) (o ∷ owns_without s image owns) (owns_without s image owns)) s image ≡ None
    by true is rest = rest
    by false is rest = ap (λ b. cond b (Some o) (own_of (owns_without s image owns) s image)) is ∙ rest

-- ---- a change at its look under the lock: it owns its image, by the header that this look told

abbrev pub own_at : (sharing : Sharing) → SiteId → (image : ℕ) → HeaderView → Own
own_at sharing s image h = record { site = s; image = image; sharing = sharing; header = Some h }

abbrev pub unlooked : (sharing : Sharing) → SiteId → (image : ℕ) → Own
unlooked sharing s image = record { site = s; image = image; sharing = sharing; header = None }

abbrev pub under_lock_known : (sharing : Sharing) → (turn : Option ℕ) → SiteId → (image : ℕ) → HeaderView → Knowledge
under_lock_known sharing turn s image h = record { sharing = sharing; owns = own_at sharing s image h ∷ []; turn = turn; drawn = []; fenced = []; maps = maps_told s image unmapped []; objects = []; gone = []; seen = []; told = []; linked = []; based = []; childless = [] }

abbrev pub holding_known : (sharing : Sharing) → SiteId → (image : ℕ) → Knowledge
holding_known sharing s image = record { sharing = sharing; owns = unlooked sharing s image ∷ []; turn = None; drawn = []; fenced = []; maps = []; objects = []; gone = []; seen = []; told = []; linked = []; based = []; childless = [] }

own_told : (sharing : Sharing) (s : SiteId) (image : ℕ) (h : HeaderView) → under_lock_known sharing None s image h ≡ learned_own (holding_known sharing s image) s (op.Header image header.Get) (answer.Header h)
own_told sharing s image h =
    ap (λ b. record {
      sharing = sharing;
      owns = cond b (own_at sharing s image h) (unlooked sharing s image) ∷ [];
      turn = None;
      drawn = [];
      fenced = [];
      maps = maps_told s image unmapped [];
      objects = [];
      gone = [];
      seen = [];
      told = [];
      linked = [];
      based = [];
      childless = [];
    }) (sym (at_itself s image)) ∙ ap (λ b. header_told s image (first_told h) (looked_under_lock (cond b (Some (unlooked sharing s image)) None) s image (holding_known sharing s image))) (sym (at_itself s image))

pub own_is_found : (sharing : Sharing) (turn : Option ℕ) (s : SiteId) (image : ℕ) (h : HeaderView)
    → own_of (under_lock_known sharing turn s image h).owns s image ≡ Some (own_at sharing s image h)
own_is_found sharing turn s image h = ap (λ b. cond b (Some (own_at sharing s image h)) None) (at_itself s image)

-- where neither refusal holds, the second doesn't
pub or_else_none : (r later : Option Refusal) → or_else r later ≡ None → later ≡ None
or_else_none None later none = none
or_else_none (Some r) later none = cc

-- ---- steps

module _ (at : Label → Knowledge) where
  pub lawful_not_there : (k : Knowledge) (a : Answer) → IsLawful at k (not_there a)
  lawful_not_there k answer.Fenced = tt
  lawful_not_there k _ = tt

  pub lawful_on_id : (known : Answer → Knowledge) (next : ℕ → Plan) → ((image : ℕ) → IsLawful at (known (answer.Id image)) (next image)) → (a : Answer) → IsLawful at (known a) (on_id next a)
  lawful_on_id known next lawful (answer.Id image) = lawful image
  lawful_on_id known next lawful a = lawful_not_there (known a) a

  pub lawful_on_header : (k : Knowledge) (s : SiteId) (image : ℕ) (known : Answer → Knowledge) (next : HeaderView → Plan)
      → ((h : HeaderView) → IsHeaderInForm h → IsStandalone h → IsLawful at (known (answer.Header h)) (next h))
      → (a : Answer) → CanTell k s (op.Header image header.Get) a → IsLawful at (known a) (on_header next a)
  lawful_on_header k s image known next lawful (answer.Header h) can = lawful h can.form can.standalone
  lawful_on_header k s image known next lawful a can = lawful_not_there (known a) a

  -- a look of which nothing is needed but what it tells of an own image
  pub lawful_look : (s : SiteId) (image : ℕ) (k : Knowledge) (next : HeaderView → Plan)
      → ((h : HeaderView) → IsHeaderInForm h → IsStandalone h → IsLawful at (learned_own k s (op.Header image header.Get) (answer.Header h)) (next h))
      → (a : Answer) → CanTell k s (op.Header image header.Get) a → IsLawful at (learned k s (op.Header image header.Get) a) (on_header next a)
  lawful_look s image k next lawful a can =
      lawful_by_more at (on_header next a) (learned k s (op.Header image header.Get) a) (learned_own k s (op.Header image header.Get) a) (learned_at_least k s (op.Header image header.Get) a refl)
      (lawful_on_header k s image (learned_own k s (op.Header image header.Get)) next lawful a can)

  pub lawful_on_done : (known : Answer → Knowledge) (next : Plan) → IsLawful at (known answer.Done) next → (a : Answer) → IsLawful at (known a) (on_done next a)
  lawful_on_done known next lawful answer.Done = lawful
  lawful_on_done known next lawful a = lawful_not_there (known a) a

  pub lawful_unless : (k : Knowledge) (r : Option Refusal) (next : Plan) → (r ≡ None → IsLawful at k next) → IsLawful at k (unless r next)
  lawful_unless k None next lawful = lawful refl
  lawful_unless k (Some r) next lawful = tt

  pub lawful_change : (s : SiteId) (name : List ℕ) (sharing : Sharing) (refuses : HeaderView → Option Refusal) (act : ℕ → HeaderView → Plan)
      → ((image : ℕ) (h : HeaderView) → IsHeaderInForm h → refuses h ≡ None → IsLawful at (under_lock_known sharing None s image h) (act image h))
      → IsLawful at nothing_known (change_plan s name sharing refuses act)
  lawful_change s name sharing refuses act acts = (
    tt,
    λ found can.
        lawful_on_id (learned nothing_known s (op.Directory (directory.Find name))) (joining s sharing refuses act) (λ image. (
          tt,
          lawful_look s image (known_after_wait nothing_known (wait.Join s image sharing)) (looked s refuses act image) (λ h form standalone.
              lawful_unless (record nothing_known { sharing = sharing }) (refuses h) (holding s refuses act image) (λ may_wait. (
                tt,
                lawful_look s image (holding_known sharing s image) (owned refuses act image) (λ own form standalone.
                    lawful_unless (learned_own (holding_known sharing s image) s (op.Header image header.Get) (answer.Header own)) (refuses own) (act image own) (λ may.
                    subst (λ k. IsLawful at k (act image own)) (own_told sharing s image own) (acts image own form may))),
              ))),
        )) found,
  )

-- ---- what isn't owned

pub not_owned : (k : Knowledge) (s : SiteId) (image : ℕ) (condition : Sharing → HeaderView → Type 0) → own_of k.owns s image ≡ None → OwnsBy k s image condition → ⊥
not_owned k s image condition none owns = let is = owns.is in cc

-- an object of an image that isn't gone
pub object_not_owned : (k : Knowledge) (s : SiteId) (image : ℕ) (condition : Sharing → HeaderView → Type 0) → own_of k.owns s image ≡ None → is_gone k.gone s image ≡ false
    → IsLeftOver k s image ⊎ OwnsBy k s image condition → ⊥
object_not_owned k s image condition none remains (inl over) = true≢false (sym over.gone ∙ remains)
object_not_owned k s image condition none remains (inr owns) = not_owned k s image condition none owns

-- what is owned is owned by one header
abbrev pub header_of : Option Own → HeaderView → HeaderView
header_of None other = other
header_of (Some o) other = unwrap_or o.header other

pub one_header : (k : Knowledge) (s : SiteId) (image : ℕ) (sharing : Sharing) (h : HeaderView) (condition : Sharing → HeaderView → Type 0)
    → own_of k.owns s image ≡ Some (own_at sharing s image h) → (owns : OwnsBy k s image condition) → owns.header ≡ h
one_header k s image sharing h condition is owns = ap (λ o. header_of o h) (sym owns.is ∙ is)

-- ---- a lawful request that is fed stays lawful

pub told_alone : (k : Knowledge) (s : SiteId) {o : Op} {a : Answer} → CanGive o a → TellsStandalone a → IsPossible k s o a → CanTell k s o a
told_alone k s can alone possible = record { word = can.word; form = can.form; standalone = alone; possible = possible }

module _ (labels : Label → Plan) (at : Label → Knowledge) (lawful_there : (label : Label) → IsFit label → IsLawful at (at label) (labels label)) where
  pub lawful_settled : (k : Knowledge) (plan : Plan) → IsLawful at k plan → IsLawful at k (past_label labels plan)
  lawful_settled k (Ask site why op next) lawful = lawful
  lawful_settled k (Await wait next) lawful = lawful
  lawful_settled k (Note site image event next) lawful = lawful
  lawful_settled k (Return reply) lawful = lawful
  lawful_settled k (Goto label) knows = lawful_by_more at (labels label) k (at label) knows.1 (lawful_there label knows.0)

  pub stays_lawful : (k : Knowledge) (plan : Plan) (f : Fed) → CanBeFed plan f → IsFedStandalone f → IsFedPossible k plan f → IsLawful at k plan → IsLawful at (known_after k plan f) (past_label labels (plan_after plan f))
  stays_lawful k (Ask site why op next) (fed.Answer a) can alone possible lawful = lawful_settled (learned k site op a) (next a) (lawful.1 a (told_alone k site can alone possible))
  stays_lawful k (Ask site why op next) fed.Passed can alone possible lawful = absurd can
  stays_lawful k (Await wait next) (fed.Answer a) can alone possible lawful = absurd can
  stays_lawful k (Await wait next) fed.Passed can alone possible lawful = lawful_settled (known_after_wait k wait) next lawful
  stays_lawful k (Note site image event next) (fed.Answer a) can alone possible lawful = absurd can
  stays_lawful k (Note site image event next) fed.Passed can alone possible lawful = lawful_settled k next lawful
  stays_lawful k (Return reply) f can alone possible lawful = absurd can
  stays_lawful k (Goto label) f can alone possible lawful = absurd can
