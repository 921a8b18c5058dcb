-- What a change knows at each of its operations behind its look under the lock: the header that
-- this told, with its own changes since.
use Rattle.std.proofs.Common.{◌≡◌, ℕ, cond, Bool, true, false, List, [], ◌∷◌, map, Option, Some, None, option_map, refl, sym, ap, ◌∙◌, subst}
use Rattle.rbd_kinds.specs.declared.sharing.Sharing.{Sharing}
use Rattle.rbd_commands.specs.declared.refusal.Refusal.{Refusal}
use Rattle.rbd_header.specs.Header.{with_size}
use Rattle.rbd_kinds.specs.declared.answer.Answer.{Answer}
use Rattle.rbd_kinds.specs.declared.answer.Answer.TheVariants as answer
use Rattle.rbd_kinds.specs.declared.data_op.DataOp.{DataOp}
use Rattle.rbd_kinds.specs.declared.data_op.DataOp.TheVariants as object
use Rattle.rbd_kinds.specs.declared.directory_op.DirectoryOp.TheVariants as directory
use Rattle.rbd_kinds.specs.declared.header.HeaderView.{HeaderView}
use Rattle.rbd_kinds.specs.declared.header_op.HeaderOp.TheVariants as header
use Rattle.rbd_kinds.specs.declared.id.SiteId.{SiteId}
use Rattle.rbd_kinds.specs.declared.machine.Fed.{Fed}
use Rattle.rbd_kinds.specs.declared.machine.Fed.TheVariants as fed
use Rattle.rbd_kinds.specs.declared.map_op.MapOp.{MapOp}
use Rattle.rbd_kinds.specs.declared.map_op.MapOp.TheVariants as states
use Rattle.rbd_kinds.specs.declared.operation.Op.{Op}
use Rattle.rbd_kinds.specs.declared.operation.Op.TheVariants as op
use Rattle.rbd_kinds.proofs.Images.{at_itself}
use Rattle.rbd_machine.proofs.Lawful.{holding_known}
use Rattle.rbd_machine.proofs.Settled.{settled_goto}
use Rattle.rbd_machine.specs.Ancestors.{HeaderSeen}
use Rattle.rbd_machine.specs.Knowledge.{Knowledge, Own, first_told, header_told, is_at, learned, learned_of_map, learned_of_object, looked_under_lock, nothing_known, own_of, known_after_wait, told_of, with_header}
use Rattle.rbd_machine.specs.Path.{Answered, IsWalk, found, looked_at}
use Rattle.rbd_machine.specs.Plan.{Plan, Ask, Await, Note, Return, Goto, past_label}
use Rattle.rbd_machine.specs.Steps.{change_plan, holding, joining, looked, looking, on_header, on_id, owned, under_lock, unless}
use Rattle.rbd_machine.specs.Wait.{Wait}
use Rattle.rbd_machine.specs.Wait as wait
use Rattle.rbd_machine.specs.declared.reason.Reason.{Reason}
use Rattle.rbd_machine.specs.declared.reason.Reason.TheVariants as reason
use Rattle.rbd_interference.specs.Truth.{header_of_own, known_header}
use Rattle.rbd_world.specs.Past.{known_along}
use Rattle.rbd_replies.proofs.KeepsOwn.{IsOnImage, KeepsOwn, StaysInLine}

-- ---- what the steps behind the look under the lock changed of the header

-- a size that was set
abbrev pub sized_by : (image : ℕ) → Op → Answer → Option HeaderView → Option HeaderView
sized_by image (op.Header i (header.SetSize to)) answer.Done known = option_map (with_size to) known
sized_by image o a known = known

abbrev pub sized : (image : ℕ) → List Answered → Option HeaderView → Option HeaderView
sized image [] known = known
sized image (step ∷ steps) known = sized image steps (sized_by image step.op step.answer known)

-- ---- what is learned of the header

map_leaves : (k : Knowledge) (site : SiteId) (image : ℕ) (o : MapOp) (a : Answer) → (learned_of_map k site image o a).owns ≡ k.owns
map_leaves k site image (states.Resize count) answer.Done = refl
map_leaves k site image (states.Get None) (answer.Bits bits) = refl
map_leaves k site image (states.Put (Some snap) bits) answer.Done = refl
map_leaves k site image (states.Set view object state) answer.Done = refl
map_leaves k site image (states.Remove view) answer.Done = refl
map_leaves k site image o a = refl

object_leaves : (k : Knowledge) (site : SiteId) (image number : ℕ) (o : DataOp) (a : Answer) → (learned_of_object k site image number o a).owns ≡ k.owns
object_leaves k site image number (object.Write context must parts bytes) answer.Done = refl
object_leaves k site image number (object.WriteFull context bytes) answer.Done = refl
object_leaves k site image number (object.Read snap parts) a = refl
object_leaves k site image number (object.CopyUp bytes) answer.Done = refl
object_leaves k site image number (object.CopyUp bytes) answer.Exists = refl
object_leaves k site image number (object.Zero context must parts) answer.Done = refl
object_leaves k site image number (object.Empty context) answer.Done = refl
object_leaves k site image number (object.Remove context) answer.Done = refl
object_leaves k site image number o a = refl

module _ (home : SiteId) (image : ℕ) where
  told_there : (f : HeaderView → HeaderView) (owns : List Own) → header_of_own (own_of (map (told_of home image (option_map f)) owns) home image) ≡ option_map f (header_of_own (own_of owns home image))
  told_there f [] = refl
  told_there f (o ∷ owns) = by (is_at home image o.site o.image) refl (told_there f owns)
    where
      by : (b : Bool) → is_at home image o.site o.image ≡ b
          → header_of_own (own_of (map (told_of home image (option_map f)) owns) home image) ≡ option_map f (header_of_own (own_of owns home image))
          → header_of_own (own_of (cond b (with_header (option_map f) o) o ∷ map (told_of home image (option_map f)) owns) home image) ≡ option_map f (header_of_own (cond b (Some o) (own_of owns home image)))
      by true is rest = ap (λ b. header_of_own (cond b (Some (with_header (option_map f) o)) (own_of (map (told_of home image (option_map f)) owns) home image))) is
      by false is rest = ap (λ b. header_of_own (cond b (Some o) (own_of (map (told_of home image (option_map f)) owns) home image))) is ∙ rest

  learned_there : (k : Knowledge) (s : SiteId) (o : Op) (a : Answer) → s ≡ home → IsOnImage image o → known_header (learned k s o a) home image ≡ sized_by image o a (known_header k home image)
  learned_there k s (op.Data i number o) a here on = ap (λ owns. header_of_own (own_of owns home image)) (object_leaves k s i number o a)
  learned_there k s (op.Map i o) a here on = ap (λ owns. header_of_own (own_of owns home image)) (map_leaves k s i o a)
  learned_there k s (op.Header i (header.SetSize to)) answer.Done here on =
      ap (λ t. known_header (header_told t i (option_map (with_size to)) k) home image) here
      ∙ ap (λ n. known_header (header_told home n (option_map (with_size to)) k) home image) on
      ∙ told_there (with_size to) k.owns
  learned_there k s (op.Header i (header.SetSize to)) a here on = refl
  learned_there k s _ a here on = elim on [ ]

  waited_there : (k : Knowledge) (w : Wait) → StaysInLine w → known_header (known_after_wait k w) home image ≡ known_header k home image
  waited_there k (wait.Join site i sharing) stays = refl
  waited_there k (wait.Turn number) stays = refl
  waited_there k (wait.Applied site i) stays = refl
  waited_there k _ stays = elim stays [ ]

  -- along what is left of it
  pub known_behind : (feds : List Fed) (plan : Plan) (steps : List Answered) (last : Plan) (k : Knowledge) → KeepsOwn home image plan → IsWalk Goto plan feds steps last
      → known_header (known_along Goto k plan feds) home image ≡ sized image steps (known_header k home image)
  known_behind [] plan steps last k keeps (none, same) = ap (λ (xs : List Answered). sized image xs (known_header k home image)) (sym none)
  known_behind (fed.Answer a ∷ more) (Ask s why o next) steps last k keeps (first, walk) =
      known_behind more (past_label Goto (next a)) first.rest last (learned k s o a) (subst (KeepsOwn home image) (sym (settled_goto (next a))) (keeps.1 a)) walk
      ∙ ap (sized image first.rest) (learned_there k s o a keeps.0.0 keeps.0.1)
      ∙ ap (λ xs. sized image xs (known_header k home image)) (sym first.is)
  known_behind (fed.Passed ∷ more) (Ask s why o next) steps last k keeps walk = absurd walk
  known_behind (fed.Passed ∷ more) (Await w next) steps last k keeps walk =
      known_behind more (past_label Goto next) steps last (known_after_wait k w) (subst (KeepsOwn home image) (sym (settled_goto next)) keeps.1) walk
      ∙ ap (sized image steps) (waited_there k w keeps.0)
  known_behind (fed.Answer a ∷ more) (Await w next) steps last k keeps walk = absurd walk
  known_behind (fed.Passed ∷ more) (Note s i event next) steps last k keeps walk =
      known_behind more (past_label Goto next) steps last k (subst (KeepsOwn home image) (sym (settled_goto next)) keeps) walk
  known_behind (fed.Answer a ∷ more) (Note s i event next) steps last k keeps walk = absurd walk
  known_behind (f ∷ more) (Return r) steps last k keeps walk = absurd walk
  known_behind (f ∷ more) (Goto label) steps last k keeps walk = absurd walk

-- ---- up to its look under the lock

record OneStep (labels_next : Answer → Plan) (step : Answered) (rest : List Answered) (feds : List Fed) (last : Plan) : Type 0 where
  more : List Fed
  are : feds ≡ fed.Answer step.answer ∷ more
  walk : IsWalk Goto (past_label Goto (labels_next step.answer)) more rest last

one_step : (s : SiteId) (why : Reason) (o : Op) (next : Answer → Plan) (feds : List Fed) (step : Answered) (rest : List Answered) (last : Plan)
    → IsWalk Goto (Ask s why o next) feds (step ∷ rest) last → OneStep next step rest feds last
one_step s why o next [] step rest last (none, same) = absurd (cc)
one_step s why o next (fed.Passed ∷ more) step rest last walk = absurd walk
one_step s why o next (fed.Answer a ∷ more) step rest last (first, walk) =
    let is : step ∷ rest ≡ record { site = s; op = o; answer = a } ∷ first.rest = first.is in
    let head : step ≡ record { site = s; op = o; answer = a } = cc in
    let tail : first.rest ≡ rest = cc in
    let told : step.answer ≡ a = ap (λ (x : Answered). x.answer) head in
    record {
      more = more;
      are = ap (λ b. fed.Answer b ∷ more) (sym told);
      walk = subst (λ b. IsWalk Goto (past_label Goto (next b)) more rest last) (sym told) (subst (λ xs. IsWalk Goto (past_label Goto (next a)) more xs last) tail walk);
    }

record OneWait (next : Plan) (steps : List Answered) (feds : List Fed) (last : Plan) : Type 0 where
  more : List Fed
  are : feds ≡ fed.Passed ∷ more
  walk : IsWalk Goto (past_label Goto next) more steps last

one_wait : (w : Wait) (next : Plan) (feds : List Fed) (step : Answered) (rest : List Answered) (last : Plan) → IsWalk Goto (Await w next) feds (step ∷ rest) last → OneWait next (step ∷ rest) feds last
one_wait w next [] step rest last (none, same) = absurd (cc)
one_wait w next (fed.Answer a ∷ more) step rest last walk = absurd walk
one_wait w next (fed.Passed ∷ more) step rest last walk = record { more = more; are = refl; walk = walk }

-- what is known behind the wait for the lock, with the headers that were told before
abbrev held_known : (sharing : Sharing) → SiteId → (image : ℕ) → List HeaderSeen → Knowledge
held_known sharing home image seen = record (holding_known sharing home image) { seen = seen }

-- the look under the lock tells the header that is known
own_is_told : (home : SiteId) (image : ℕ) (sharing : Sharing) (own : HeaderView) (seen : List HeaderSeen)
    → known_header (learned (held_known sharing home image seen) home (op.Header image header.Get) (answer.Header own)) home image ≡ Some own
own_is_told home image sharing own seen =
    ap (λ owns. header_of_own (own_of (map (told_of home image (first_told own)) owns) home image)) (still_owns (is_at home image home image)) ∙ told (is_at home image home image) refl (at_itself home image)
  where
    u : Own
    u = record { site = home; image = image; sharing = sharing; header = None }

    still_owns : (b : Bool) → (looked_under_lock (cond b (Some (record { site = home; image = image; sharing = sharing; header = None })) None) home image (held_known sharing home image seen)).owns
        ≡ record { site = home; image = image; sharing = sharing; header = None } ∷ []
    still_owns true = refl
    still_owns false = refl

    told : (b : Bool) → is_at home image home image ≡ b → b ≡ true
        → header_of_own (own_of (cond b (record { site = home; image = image; sharing = sharing; header = Some own }) (record { site = home; image = image; sharing = sharing; header = None }) ∷ []) home image) ≡ Some own
    told true is at = ap (λ b. header_of_own (cond b (Some (record { site = home; image = image; sharing = sharing; header = Some own })) None)) is
    told false is at = absurd (cc)

module _ (home : SiteId) (name : List ℕ) (sharing : Sharing) (refuses : HeaderView → Option Refusal) (act : ℕ → HeaderView → Plan) where
  -- what is known behind its look under the lock and these steps
  pub change_knows : (feds : List Fed) (image : ℕ) (first own : HeaderView) (steps : List Answered) (last : Plan) → refuses first ≡ None → refuses own ≡ None → KeepsOwn home image (act image own)
      → IsWalk Goto (change_plan home name sharing refuses act) feds (found home name image ∷ looked_at home image first ∷ looked_at home image own ∷ steps) last
      → known_header (known_along Goto nothing_known (change_plan home name sharing refuses act) feds) home image ≡ sized image steps (Some own)
  change_knows feds image first own steps last may_wait may keeps walk =
      let look : Answered = looked_at home image first in
      let again : Answered = looked_at home image own in
      let one = one_step home reason.Own (op.Directory (directory.Find name)) (on_id (joining home sharing refuses act)) feds (found home name image) (look ∷ again ∷ steps) last walk in
      let two = one_wait (wait.Join home image sharing) (looking home refuses act image) one.more look (again ∷ steps) last one.walk in
      let three = one_step home reason.Own (op.Header image header.Get) (on_header (looked home refuses act image)) two.more look (again ∷ steps) last two.walk in
      let goes_on : IsWalk Goto (holding home refuses act image) three.more (again ∷ steps) last =
      subst (λ r. IsWalk Goto (past_label Goto (unless r (holding home refuses act image))) three.more (again ∷ steps) last) may_wait three.walk in
      let four = one_wait (wait.Hold home image) (under_lock home refuses act image) three.more again steps last goes_on in
      let five = one_step home reason.Own (op.Header image header.Get) (on_header (owned refuses act image)) four.more again steps last four.walk in
      let acts : IsWalk Goto (past_label Goto (act image own)) five.more steps last = subst (λ r. IsWalk Goto (past_label Goto (unless r (act image own))) five.more steps last) may five.walk in
      let seen : List HeaderSeen = record { site = home; image = image; header = first } ∷ [] in
      let joined : Knowledge = record (known_after_wait nothing_known (wait.Join home image sharing)) { seen = seen } in
      let k : Knowledge = learned (held_known sharing home image seen) home (op.Header image header.Get) (answer.Header own) in
      let known : known_along Goto nothing_known (change_plan home name sharing refuses act) feds ≡ known_along Goto k (past_label Goto (act image own)) five.more =
      ap (known_along Goto nothing_known (change_plan home name sharing refuses act)) one.are
      ∙ ap (known_along Goto nothing_known (joining home sharing refuses act image)) two.are
      ∙ ap (known_along Goto (known_after_wait nothing_known (wait.Join home image sharing)) (looking home refuses act image)) three.are
      ∙ ap (λ r. known_along Goto joined (past_label Goto (unless r (holding home refuses act image))) three.more) may_wait
      ∙ ap (known_along Goto joined (holding home refuses act image)) four.are
      ∙ ap (known_along Goto (held_known sharing home image seen) (under_lock home refuses act image)) five.are
      ∙ ap (λ r. known_along Goto k (past_label Goto (unless r (act image own))) five.more) may in
      ap (λ (x : Knowledge). known_header x home image) known
      ∙ known_behind home image five.more (past_label Goto (act image own)) steps last k (subst (KeepsOwn home image) (sym (settled_goto (act image own))) keeps) acts
      ∙ ap (sized image steps) (own_is_told home image sharing own seen)
