-- The header at each place of a change behind its look under the lock: what this told, with its own
-- changes.
use Rattle.std.proofs.Common.{◌≡◌, ℕ, ◌==◌, cond, Bool, true, false, List, [], ◌∷◌, ◌++◌, map, Option, Some, None, refl, sym, ap, ◌∙◌, subst}
use Rattle.std.specs.Prelude.{IsFalse}
use Rattle.std.proofs.lemmas.Bool.{eqb-true}
use Rattle.std.proofs.lemmas.Option.{none-some, same_Some}
use Rattle.rbd_kinds.specs.declared.sharing.Sharing.{Sharing}
use Rattle.rbd_commands.specs.declared.command.Command.{Command}
use Rattle.rbd_commands.specs.declared.refusal.Refusal.{Refusal}
use Rattle.rbd_kinds.specs.declared.header.HeaderView.{HeaderView}
use Rattle.rbd_kinds.specs.declared.id.SiteId.{SiteId}
use Rattle.rbd_kinds.specs.declared.machine.Fed.{Fed}
use Rattle.rbd_kinds.specs.declared.machine.Fed.TheVariants as fed
use Rattle.rbd_kinds.specs.declared.operation.Op.{Op}
use Rattle.rbd_machine.specs.Knowledge.{Knowledge, nothing_known}
use Rattle.rbd_machine.specs.Path.{Answered, IsWalk, found, looked_at}
use Rattle.rbd_machine.specs.Plan.{Plan, Ask, Goto, Standing, without_labels}
use Rattle.rbd_machine.specs.Steps.{change_plan}
use Rattle.rbd_machine.specs.declared.seat.Seat.{Seat}
use Rattle.rbd_interference.proofs.Headers.{IsThere, find_there}
use Rattle.rbd_interference.specs.Truth.{known_header, sharing_on}
use Rattle.rbd_catalog.specs.Plans.{plan_of, planned, IsPlanFor}
use Rattle.rbd_site.specs.Step.{is_fenced}
use Rattle.rbd_stands.proofs.Served.{is_served}
use Rattle.rbd_world.specs.Run.{Asked, Doer, Itself, OnWay, House, AfterStop, Happening, Nothing, Waited, Began, Did, Refused, Trimmed, Expired, Heard, Stopped, Restarted, asked_by, is_own, steps_of}
use Rattle.rbd_world.specs.Past.{known_along}
use Rattle.rbd_world.specs.Sound.{IsDue, IsRight, Recalls, RecallsBy}
use Rattle.rbd_replies.specs.Home.{AreDoneAt}
use Rattle.rbd_replies.specs.Places.{Placed}
use Rattle.rbd_replies.proofs.InLine.{AreInLine}
use Rattle.rbd_replies.proofs.KeepsOwn.{KeepsOwn}
use Rattle.rbd_replies.proofs.Measured.{AllLike, IsLike}
use Rattle.rbd_replies.proofs.OwnKnown.{change_knows, sized, sized_by}
use Rattle.rbd_replies.proofs.PlacedRight.{ArePlacedRight, IsPlacedRight}
use Rattle.rbd_replies.proofs.Places.{step_at}
use Rattle.rbd_replies.proofs.PlacesTold.{records_at, unfenced_there}
use Rattle.rbd_replies.proofs.ReadOrder.{AreIn, GoesOn, IsBehind, goes_on}

-- ---- a line is begun once

asked_still : (homes : ℕ → SiteId) (line : ℕ) (since run : List Happening) → IsRight homes (since ++ run) → (asked : Asked) → asked_by line run ≡ Some asked → asked_by line (since ++ run) ≡ Some asked
asked_still homes line [] run right asked is = is
asked_still homes line (h ∷ since) run right asked is = by h right.1 (asked_still homes line since run right.2 asked is)
  where
    by : (h : Happening) → IsDue homes h (since ++ run) → asked_by line (since ++ run) ≡ Some asked → asked_by line (h ∷ (since ++ run)) ≡ Some asked
    by (Began other slot) due was = go (other.line == line) refl
      where
        go : (b : Bool) → (other.line == line) ≡ b → cond b (Some other) (asked_by line (since ++ run)) ≡ Some asked
        go false differ = was
        go true same = absurd (none-some asked (sym due.new ∙ ap (λ l. asked_by l (since ++ run)) (eqb-true other.line line same) ∙ was))
    by Nothing due was = was
    by Waited due was = was
    by (Did o reply) due was = was
    by (Refused s other reply) due was = was
    by (Trimmed s number image object) due was = was
    by (Expired s number image who) due was = was
    by (Heard notice) due was = was
    by (Stopped who wanted lost) due was = was
    by (Restarted who) due was = was

-- ---- what is known

pub own_line : (line : ℕ) (doer : Doer) (s : SiteId) (o : Op) (k : Knowledge) (before : List Happening) → is_own line doer ≡ true → RecallsBy doer s o k before → Recalls line s o k before
own_line line (Itself other) s o k before mine recalls = subst (λ l. Recalls l s o k before) (eqb-true other line mine) recalls
own_line line (OnWay other) s o k before mine recalls = cc
own_line line House s o k before mine recalls = cc
own_line line (AfterStop slot) s o k before mine recalls = cc

-- the first step tells where its plan is at home
home_of : (site home : SiteId) (name : List ℕ) (image : ℕ) (sharing : Sharing) (refuses : HeaderView → Option Refusal) (act : ℕ → HeaderView → Plan) (feds : List Fed) (steps : List Answered) (last : Plan)
    → IsWalk Goto (change_plan site name sharing refuses act) feds (found home name image ∷ steps) last → site ≡ home
home_of site home name image sharing refuses act [] steps last (none, same) = absurd (cc)
home_of site home name image sharing refuses act (fed.Passed ∷ more) steps last walk = absurd walk
home_of site home name image sharing refuses act (fed.Answer a ∷ more) steps last (first, walk) = sym (head_site (found home name image) steps _ first.rest first.is)
  where
    head_site : (one : Answered) (steps : List Answered) (other : Answered) (rest : List Answered) → one ∷ steps ≡ other ∷ rest → one.site ≡ other.site
    head_site one steps other rest same = let head : one ≡ other = cc in ap (λ (x : Answered). x.site) head

sized_more : (image : ℕ) (steps : List Answered) (step : Answered) (known : Option HeaderView) → sized image (steps ++ step ∷ []) known ≡ sized_by image step.op step.answer (sized image steps known)
sized_more image [] step known = refl
sized_more image (first ∷ steps) step known = sized_more image steps step (sized_by image first.op first.answer known)

-- it was served, and sets no size
pub record IsPlain (image : ℕ) (step : Answered) : Type 0 where
  pub served : is_served step.answer ≡ true
  pub unsized : (known : Option HeaderView) → sized_by image step.op step.answer known ≡ known

-- so is each of them, but for the last, which was served
abbrev pub ArePlain : (image : ℕ) → List Answered → Type 0
ArePlain image [] = Unit {0}
ArePlain image (step ∷ steps) = IsPlain image step × ArePlain image steps

abbrev pub ArePlainBut : (image : ℕ) → List Answered → Type 0
ArePlainBut image [] = Unit {0}
ArePlainBut image (step ∷ []) = is_served step.answer ≡ true
ArePlainBut image (step ∷ next ∷ steps) = IsPlain image step × ArePlainBut image (next ∷ steps)

pub plain_but : (image : ℕ) (steps : List Answered) → ArePlain image steps → ArePlainBut image steps
plain_but image [] plain = tt
plain_but image (step ∷ []) plain = plain.0.served
plain_but image (step ∷ next ∷ steps) plain = (plain.0, plain_but image (next ∷ steps) plain.1)

pub plain_then : (image : ℕ) (steps : List Answered) (last : Answered) → ArePlain image steps → is_served last.answer ≡ true → ArePlainBut image (steps ++ last ∷ [])
plain_then image [] last plain served = served
plain_then image (step ∷ []) last plain served = (plain.0, served)
plain_then image (step ∷ next ∷ steps) last plain served = (plain.0, plain_then image (next ∷ steps) last plain.1 served)

pub plain_both : (image : ℕ) (one two : List Answered) → ArePlain image one → ArePlain image two → ArePlain image (one ++ two)
plain_both image [] two plain also = also
plain_both image (step ∷ one) two plain also = (plain.0, plain_both image one two plain.1 also)

-- ---- a command that is such a change

pub record IsChangeBy (home : SiteId) (c : Command) (name : List ℕ) (image : ℕ) (first own : HeaderView) : Type 0 where
  pub sharing : Sharing
  pub refuses : HeaderView → Option Refusal
  pub act : SiteId → ℕ → HeaderView → Plan
  pub plan : (seat : Seat) → plan_of seat c ≡ planned (change_plan seat.home name sharing refuses (act seat.home))
  pub may_wait : refuses first ≡ None
  pub may : refuses own ≡ None
  pub keeps : KeepsOwn home image (act home image own)

module _ (homes : ℕ → SiteId) (home : SiteId) (line : ℕ) (run : List Happening) (right_run : IsRight homes run) (asked : Asked) (asks : asked_by line run ≡ Some asked)
    (name : List ℕ) (image : ℕ) (first own : HeaderView) (changes : IsChangeBy home asked.command name image first own) where
  abbrev pub way : List Answered → List Answered
  way steps = found home name image ∷ looked_at home image first ∷ looked_at home image own ∷ steps

  same_command : (before : List Happening) → GoesOn run before → (other : Asked) → asked_by line before ≡ Some other → other.command ≡ asked.command
  same_command before goes other is =
      ap (λ (a : Asked). a.command)
      (same_Some other asked (sym (asked_still homes line goes.since before (subst (IsRight homes) goes.is right_run) other is) ∙ ap (asked_by line) (sym goes.is) ∙ asks))

  knows_at : (s : SiteId) (o : Op) (k : Knowledge) (before : List Happening) → GoesOn run before → (steps : List Answered) → Recalls line s o k before → steps_of line before ≡ way steps
      → known_header k home image ≡ sized image steps (Some own)
  knows_at s o k before goes steps r are =
      let plan : IsPlanFor r.seat asked.command r.start = subst (λ c. IsPlanFor r.seat c r.start) (same_command before goes r.begun.asked r.begun.is) r.plan in
      let at_plan = same_Some r.start (without_labels (change_plan r.seat.home name changes.sharing changes.refuses (changes.act r.seat.home))) (sym plan ∙ changes.plan r.seat) in
      let walk : IsWalk Goto (change_plan r.seat.home name changes.sharing changes.refuses (changes.act r.seat.home)) r.feds (way steps) (Ask s r.why o r.next) =
      subst (λ (xs : List Answered). IsWalk Goto (change_plan r.seat.home name changes.sharing changes.refuses (changes.act r.seat.home)) r.feds xs (Ask s r.why o r.next)) are
      (subst (λ (st : Standing). IsWalk st.labels st.plan r.feds (steps_of line before) (Ask s r.why o r.next)) at_plan r.walk) in
      let here = home_of r.seat.home home name image changes.sharing changes.refuses (changes.act r.seat.home) r.feds _ _ walk in
      let walk_here : IsWalk Goto (change_plan home name changes.sharing changes.refuses (changes.act home)) r.feds (way steps) (Ask s r.why o r.next) =
      subst (λ site. IsWalk Goto (change_plan site name changes.sharing changes.refuses (changes.act site)) r.feds (way steps) (Ask s r.why o r.next)) here walk in
      ap (λ (x : Knowledge). known_header x home image)
      (r.known ∙ ap (λ (st : Standing). known_along st.labels nothing_known st.plan r.feds) at_plan
      ∙ ap (λ site. known_along Goto nothing_known (change_plan site name changes.sharing changes.refuses (changes.act site)) r.feds) here)
      ∙ change_knows home name changes.sharing changes.refuses (changes.act home) r.feds image first own steps (Ask s r.why o r.next) changes.may_wait changes.may changes.keeps walk_here

  -- ---- the header there

  like_there : (sharing : Sharing) (h : HeaderView) (there : Option HeaderView) → IsThere sharing h there → IsLike h there
  like_there sharing h there is = record {
    view = is.view;
    is = is.is;
    layout = ap (λ (x : HeaderView). x.layout) is.still.same;
    size = ap (λ (x : HeaderView). x.size) is.still.same;
    snaps = ap (λ (x : HeaderView). x.snaps) is.still.same;
  }

  like_at : (p : Placed) → IsPlacedRight homes p → p.done.site ≡ home → is_served p.done.answer ≡ true → IsBehind run p → is_own line p.done.by ≡ true
      → (steps : List Answered) → steps_of line p.before ≡ way steps → (h : HeaderView) → sized image steps (Some own) ≡ Some h → IsLike h ((records_at p).headers image)
  like_at p right here served behind mine steps are h told =
      let free : IsFalse (is_fenced (records_at p) p.done.instance) = unfenced_there homes p right (step_at p) refl served in
      let k = right.is.knows in
      let recalls = own_line line p.done.by p.done.site p.done.op k p.before mine right.is.recalls in
      let known : known_header k home image ≡ Some h = knows_at p.done.site p.done.op k p.before (goes_on run p behind) steps recalls are ∙ told in
      like_there (sharing_on k p.done.site image) h ((records_at p).headers image)
      (find_there (sharing_on k p.done.site image) (known_header k p.done.site image) ((records_at p).headers image) h (ap (λ s. known_header k s image) here ∙ known) (right.is.truth.owned free image))

  pub all_like : (rest : List Placed) (steps : List Answered) (h : HeaderView) → sized image steps (Some own) ≡ Some h → AreInLine line (way steps) rest → ArePlacedRight homes rest
      → AreDoneAt home rest → AreIn run rest → ArePlainBut image (map step_at rest) → AllLike image h rest
  all_like [] steps h told in_line right here behind plain = tt
  all_like (p ∷ []) steps h told in_line right here behind plain = (like_at p right.0 here.0 plain behind.0 in_line.0 steps in_line.1 h told, tt)
  all_like (p ∷ q ∷ rest) steps h told in_line right here behind plain = (
    like_at p right.0 here.0 plain.0.served behind.0 in_line.0 steps in_line.1 h told,
    all_like (q ∷ rest) (steps ++ step_at p ∷ []) h (sized_more image steps (step_at p) (Some own) ∙ plain.0.unsized (sized image steps (Some own)) ∙ told) in_line.2 right.1 here.1 behind.1 plain.1,
  )
