-- What the log of a site says of locks and of fenced instances.
use Rattle.std.proofs.Common.{◌≡◌, ◌≢◌, ℕ, ◌==◌, ◌&&◌, ◌⊎◌, inl, inr, Bool, true, false, List, [], ◌∷◌, ◌++◌, Option, Some, None, refl, sym, ap, ◌∙◌, subst}
use Rattle.std.specs.Prelude.{IsFalse, IsTrue}
use Rattle.std.specs.FinSet as finset
use Rattle.std.proofs.lemmas.Bool.{true≢false, and_parts, eq-eqb}
use Rattle.std.proofs.lemmas.Option.{none-some, same_Some}
use Rattle.rbd_kinds.specs.declared.answer.Answer.{Answer}
use Rattle.rbd_kinds.specs.declared.answer.Answer.TheVariants as answer
use Rattle.rbd_kinds.specs.declared.data_op.DataOp.{DataOp}
use Rattle.rbd_kinds.specs.declared.data_op.DataOp.TheVariants as object
use Rattle.rbd_kinds.specs.declared.header.HeaderView.{HeaderView}
use Rattle.rbd_kinds.specs.declared.header_op.HeaderOp.{HeaderOp}
use Rattle.rbd_kinds.specs.declared.header_op.HeaderOp.TheVariants as header
use Rattle.rbd_kinds.specs.declared.id.Instance.{Instance}
use Rattle.rbd_kinds.specs.declared.map_op.MapOp.{MapOp}
use Rattle.rbd_kinds.specs.declared.map_op.MapOp.TheVariants as states
use Rattle.rbd_kinds.specs.declared.operation.Op.{Op}
use Rattle.rbd_kinds.specs.declared.operation.Op.TheVariants as on
use Rattle.rbd_kinds.specs.Instances.{same_instance}
use Rattle.rbd_kinds.proofs.Instances.{same_instance_is, same_instance_itself}
use Rattle.rbd_site.specs.declared.done.Done.{Done}
use Rattle.rbd_site.specs.declared.done.DoneOp.{DoneOp}
use Rattle.rbd_site.specs.declared.done.DoneOp.TheVariants as done
use Rattle.rbd_site.specs.Laws.{is_look}
use Rattle.rbd_site.specs.Log.{AreAnswered, IsAnswer, after_all, after_op}
use Rattle.rbd_site.specs.Records.{Records, no_records}
use Rattle.rbd_site.specs.Step.{after, answer_to, is_fenced}
use Rattle.rbd_site.proofs.FenceLemmas.{fence_stays, lists_no_other}
use Rattle.rbd_site.proofs.StepLemmas.{other_blocklist}
use Rattle.rbd_stands.specs.Effect.{effect_of}
use Rattle.rbd_stands.specs.Owned.{AreOwned, DoesNothing, HasLock, IsDoneBy, IsDoneBySome, IsLetGo, IsNothing, IsOwnedLine, IsOwnedStep, IsOwner, IsTakenAway, SomeLine, changes_image, was_done}
use Rattle.rbd_stands.proofs.Locks.{EndsLock, IsLoss, line_keeps}
use Rattle.rbd_stands.proofs.NoEffect.{fenced_none}
use Rattle.rbd_stands.proofs.Served.{fenced_after, fenced_answer, free_answer}

-- ---- what is owned

pub owned_more : (r : Records) (log : List Done) (d : Done) → AreOwned r log → IsOwnedLine (after_all r log) d.instance d.op d.answer → AreOwned r (log ++ d ∷ [])
owned_more r [] d owned is = (is, tt)
owned_more r (e ∷ log) d owned is = (owned.0, owned_more (after_op r e.instance e.op) log d owned.1 is)

pub owned_at : (r : Records) (before rest : List Done) (d : Done) → AreOwned r (before ++ d ∷ rest) → IsOwnedLine (after_all r before) d.instance d.op d.answer
owned_at r [] rest d owned = owned.0
owned_at r (e ∷ before) rest d owned = owned_at (after_op r e.instance e.op) before rest d owned.1

answered_before : (r : Records) (before rest : List Done) → AreAnswered r (before ++ rest) → AreAnswered r before
answered_before r [] rest answered = tt
answered_before r (e ∷ before) rest answered = (answered.0, answered_before (after_op r e.instance e.op) before rest answered.1)

header_looks : (image other : ℕ) (o : HeaderOp) → is_look (on.Header other o) ≡ true → changes_image image (on.Header other o) ≡ true → ⊥
header_looks image other header.Get look changes = true≢false (sym (and_parts (image == other) false changes).1)
header_looks image other header.WatchersGet look changes = true≢false (sym (and_parts (image == other) false changes).1)
header_looks image other (header.Notify kind) look changes = true≢false (sym (and_parts (image == other) false changes).1)
header_looks image other o look changes = true≢false (sym look)

object_looks : (image other number : ℕ) (o : DataOp) → is_look (on.Data other number o) ≡ true → changes_image image (on.Data other number o) ≡ true → ⊥
object_looks image other number (object.Read snap parts) look changes = true≢false (sym (and_parts (image == other) false changes).1)
object_looks image other number o look changes = true≢false (sym look)

map_looks : (image other : ℕ) (o : MapOp) → is_look (on.Map other o) ≡ true → changes_image image (on.Map other o) ≡ true → ⊥
map_looks image other (states.Get snap) look changes = true≢false (sym (and_parts (image == other) false changes).1)
map_looks image other o look changes = true≢false (sym look)

-- a look changes no image
looks_change_none : (image : ℕ) (op : Op) → is_look op ≡ true → changes_image image op ≡ true → ⊥
looks_change_none image (on.Header other o) look changes = header_looks image other o look changes
looks_change_none image (on.Data other number o) look changes = object_looks image other number o look changes
looks_change_none image (on.Map other o) look changes = map_looks image other o look changes
looks_change_none image (on.Journal other o) look changes = true≢false (sym look)
looks_change_none image op look changes = true≢false (sym changes)

pub look_owned : (r : Records) (me : Instance) (op : Op) (a : Answer) → IsTrue (is_look op) → IsOwnedStep r me op a
look_owned r me op a look = record {
  change = λ image changes done. absurd (looks_change_none image op look changes);
  broken = λ image owner is done. absurd (true≢false (sym look ∙ ap is_look is));
}

pub refused_owned : (r : Records) (me : Instance) (op : Op) (a : Answer) → IsFalse (was_done a) → IsOwnedStep r me op a
refused_owned r me op a refused = record {
  change = λ image changes done. absurd (true≢false (sym done ∙ refused));
  broken = λ image owner is done. absurd (true≢false (sym (ap was_done done) ∙ refused));
}

pub fenced_owned : (r : Records) (me : Instance) (op : Op) → IsTrue (is_fenced r me) → IsOwnedStep r me op (answer_to r me op)
fenced_owned r me op fenced = refused_owned r me op (answer_to r me op) (ap was_done (fenced_answer r me op fenced))

-- ---- who is listed

line_listed : (r : Records) (me : Instance) (i : Option Instance) (x : DoneOp) → is_fenced r me ≡ true → is_fenced (after_op r i x) me ≡ true
line_listed r me (Some who) (done.Op op) listed = fence_stays r who me op listed
line_listed r me None (done.Op op) listed = listed
line_listed r me None (done.Trim image number) listed = listed
line_listed r me (Some who) (done.Trim image number) listed = listed
line_listed r me None (done.Expire image w) listed = listed
line_listed r me (Some who) (done.Expire image w) listed = listed

pub still_listed : (r : Records) (log : List Done) (me : Instance) → IsTrue (is_fenced r me) → IsTrue (is_fenced (after_all r log) me)
still_listed r [] me listed = listed
still_listed r (d ∷ log) me listed = still_listed (after_op r d.instance d.op) log me (line_listed r me d.instance d.op listed)

line_nothing : (r : Records) (d : Done) (me : Instance) → IsAnswer r d.instance d.op d.answer → is_fenced r me ≡ true → d.instance ≡ Some me → IsNothing r d
line_nothing r d me answered fenced mine = go d.op refl (subst (λ i. IsAnswer r i d.op d.answer) mine answered)
  where
    go : (x : DoneOp) → d.op ≡ x → IsAnswer r (Some me) x d.answer → IsNothing r d
    go (done.Op op) what is =
        let told = is ∙ fenced_answer r me op fenced in
        record {
          answered = told;
          records = ap (λ i. after_op r i d.op) mine ∙ ap (after_op r (Some me)) what ∙ fenced_after r me op fenced;
          effect = ap (λ x. effect_of r x d.answer) what ∙ ap (effect_of r (done.Op op)) told ∙ fenced_none r op;
        }
    go (done.Trim image number) what is = absurd (none-some me (sym is.0))
    go (done.Expire image w) what is = absurd (none-some me (sym is.0))

pub does_nothing : (r : Records) (log : List Done) (me : Instance) → AreAnswered r log → IsTrue (is_fenced r me) → DoesNothing me r log
does_nothing r [] me answered fenced = tt
does_nothing r (d ∷ log) me answered fenced =
    (line_nothing r d me answered.0 fenced, does_nothing (after_op r d.instance d.op) log me answered.1 (line_listed r me d.instance d.op fenced))

-- ---- a lock of one that is listed

-- a fenced instance has done nothing
not_by_fenced : (r : Records) (d : Done) (me : Instance) → IsAnswer r d.instance d.op d.answer → is_fenced r me ≡ true → d.instance ≡ Some me → d.answer ≡ answer.Done → ⊥
not_by_fenced r d me answered fenced mine done = let e = sym (line_nothing r d me answered fenced mine).answered ∙ done in true≢false (sym (ap was_done e))

taken_away : (r : Records) (image : ℕ) (me : Instance) (d : Done) → IsAnswer r d.instance d.op d.answer → is_fenced r me ≡ true → IsLoss image me d → IsTakenAway image me d
taken_away r image me d answered fenced loss = go loss.o loss.line loss.ends
  where
    go : (o : HeaderOp) → IsDoneBy d loss.who (on.Header image o) → EndsLock loss.who me o → IsTakenAway image me d
    go header.LockDrop line ends = absurd (not_by_fenced r d me answered fenced (line.by ∙ ap Some ends) line.answered)
    go (header.LockBreak owner) line ends = inl (record { who = loss.who; line = subst (λ o. IsDoneBy d loss.who (on.Header image (header.LockBreak o))) ends line })
    go header.Remove line ends = inr (record { who = loss.who; line = line })
    go o line ends = absurd ends

pub lock_stays : (r : Records) (log : List Done) (image : ℕ) (me : Instance) → AreAnswered r log → IsTrue (is_fenced r me) → HasLock image me r
    → HasLock image me (after_all r log) ⊎ SomeLine (IsTakenAway image me) log
lock_stays r [] image me answered fenced lock = inl lock
lock_stays r (d ∷ log) image me answered fenced lock = elim (line_keeps r image me d answered.0 lock) [
  | inl kept ↦ elim (lock_stays (after_op r d.instance d.op) log image me answered.1 (line_listed r me d.instance d.op fenced) kept) [
    | inl still ↦ inl still
    | inr later ↦ inr (inr later)
  ]
  | inr loss ↦ inr (inl (taken_away r image me d answered.0 fenced loss))
]

-- ---- only a block-add lists an instance

abbrev IsListedBy : Records → Done → Instance → Type 0
IsListedBy r d me = (is_fenced r me ≡ true) ⊎ IsDoneBySome d (on.BlockAdd me)

line_added : (r : Records) (d : Done) (me : Instance) → IsAnswer r d.instance d.op d.answer → is_fenced (after_op r d.instance d.op) me ≡ true → IsListedBy r d me
line_added r d me answered listed = go d.instance d.op refl refl answered listed
  where
    added : (who i : Instance) → d.instance ≡ Some who → d.op ≡ done.Op (on.BlockAdd i) → d.answer ≡ answer_to r who (on.BlockAdd i) → is_fenced (after r who (on.BlockAdd i)) me ≡ true
        → (b : Bool) → is_fenced r who ≡ b → (c : Bool) → same_instance me i ≡ c → IsListedBy r d me
    added who i by what is now true fenced c same = inl (sym (ap (λ s. is_fenced s me) (fenced_after r who (on.BlockAdd i) fenced)) ∙ now)
    added who i by what is now false free true same = inr (record {
      who = who;
      line = record {
        by = by;
        what = what ∙ ap (λ j. done.Op (on.BlockAdd j)) (sym (same_instance_is me i same));
        answered = is ∙ sym (free_answer r who (on.BlockAdd i) free);
      };
    })
    added who i by what is now false free false other =
        inl (sym (lists_no_other r who i me (λ e. true≢false (sym (same_instance_itself me) ∙ ap (same_instance me) e ∙ other))) ∙ now)

    operation : (who : Instance) (op : Op) → d.instance ≡ Some who → d.op ≡ done.Op op → d.answer ≡ answer_to r who op → is_fenced (after r who op) me ≡ true → IsListedBy r d me
    operation who (on.BlockAdd i) by what is now = added who i by what is now (is_fenced r who) refl (same_instance me i) refl
    operation who op by what is now = inl (sym (ap (λ b. finset.contains b me) (other_blocklist r who op refl)) ∙ now)

    go : (i : Option Instance) (x : DoneOp) → d.instance ≡ i → d.op ≡ x → IsAnswer r i x d.answer → is_fenced (after_op r i x) me ≡ true → IsListedBy r d me
    go (Some who) (done.Op op) by what is now = operation who op by what is now
    go None (done.Op op) by what is now = inl now
    go None (done.Trim image number) by what is now = inl now
    go (Some who) (done.Trim image number) by what is now = inl now
    go None (done.Expire image w) by what is now = inl now
    go (Some who) (done.Expire image w) by what is now = inl now

added_since : (r : Records) (log : List Done) (me : Instance) → AreAnswered r log → is_fenced (after_all r log) me ≡ true → (is_fenced r me ≡ true) ⊎ SomeLine (λ d. IsDoneBySome d (on.BlockAdd me)) log
added_since r [] me answered listed = inl listed
added_since r (d ∷ log) me answered listed = elim (added_since (after_op r d.instance d.op) log me answered.1 listed) [
  | inl now ↦ elim (line_added r d me answered.0 now) [
    | inl before ↦ inl before
    | inr here ↦ inr (inl here)
  ]
  | inr later ↦ inr (inr later)
]

pub was_added : (log : List Done) (me : Instance) → AreAnswered no_records log → IsTrue (is_fenced (after_all no_records log) me) → SomeLine (λ d. IsDoneBySome d (on.BlockAdd me)) log
was_added log me answered listed = elim (added_since no_records log me answered listed) [
  | inl first ↦ absurd (true≢false (sym first ∙ finset.contains-empty _ me))
  | inr since ↦ since
]

-- ---- the owner's claim

abbrev Claims : (r : Records) (log : List Done) (image : ℕ) → Instance → Type 0
Claims r log image me = SomeLine (IsLetGo image me) log ⊎ IsTrue (is_fenced (after_all r log) me)

step_of : (r : Records) (d : Done) (who : Instance) (op : Op) → IsOwnedLine r d.instance d.op d.answer → IsDoneBy d who op → IsOwnedStep r who op answer.Done
step_of r d who op owned line =
    subst (IsOwnedStep r who op) line.answered
    (subst (λ x. IsOwnedLine r (Some who) x d.answer) line.what (subst (λ i. IsOwnedLine r i d.op d.answer) line.by owned))

loss_claims : (r : Records) (d : Done) (log : List Done) (image : ℕ) (me : Instance) → IsOwnedLine r d.instance d.op d.answer → HasLock image me r → IsLoss image me d → Claims r (d ∷ log) image me
loss_claims r d log image me owned lock loss = go loss.o loss.line loss.ends
  where
    go : (o : HeaderOp) → IsDoneBy d loss.who (on.Header image o) → EndsLock loss.who me o → Claims r (d ∷ log) image me
    go header.LockDrop line ends = inl (inl (inl (subst (λ i. IsDoneBy d i (on.Header image header.LockDrop)) ends line)))
    go (header.LockBreak owner) line ends =
        let broken = (step_of r d loss.who (on.Header image (header.LockBreak owner)) owned line).broken image owner refl refl in
        inr (still_listed r (d ∷ log) me (subst (λ i. is_fenced r i ≡ true) ends broken))
    go header.Remove line ends =
        let step = step_of r d loss.who (on.Header image header.Remove) owned line in
        let by_owner : IsOwner (r.headers image) loss.who = step.change image (ap (λ b. b && true) (eq-eqb image image refl)) refl in
        let mine : loss.who ≡ me = same_Some loss.who me (sym (subst (λ h. IsOwner h loss.who) lock.there by_owner) ∙ lock.owner) in
        inl (inl (inr (subst (λ i. IsDoneBy d i (on.Header image header.Remove)) mine line)))
    go o line ends = absurd ends

pub lock_claim : (r : Records) (log : List Done) (image : ℕ) (me : Instance) → AreAnswered r log → AreOwned r log → HasLock image me r
    → HasLock image me (after_all r log) ⊎ Claims r log image me
lock_claim r [] image me answered owned lock = inl lock
lock_claim r (d ∷ log) image me answered owned lock = elim (line_keeps r image me d answered.0 lock) [
  | inl kept ↦ elim (lock_claim (after_op r d.instance d.op) log image me answered.1 owned.1 kept) [
    | inl still ↦ inl still
    | inr claims ↦ elim claims [
      | inl later ↦ inr (inl (inr later))
      | inr listed ↦ inr (inr listed)
    ]
  ]
  | inr loss ↦ inr (loss_claims r d log image me owned.0 lock loss)
]

pub another_claim : (r : Records) (log : List Done) (image : ℕ) (me : Instance) (h : HeaderView) → AreAnswered r log → AreOwned r log → HasLock image me r
    → (after_all r log).headers image ≡ Some h → h.owner ≢ Some me → Claims r log image me
another_claim r log image me h answered owned lock there other = elim (lock_claim r log image me answered owned lock) [
  | inl still ↦ absurd (other (ap (λ (g : HeaderView). g.owner) (same_Some h still.header (sym there ∙ still.there)) ∙ still.owner))
  | inr claims ↦ claims
]

pub broken_behind : (before rest : List Done) (d : Done) (image : ℕ) (owner : Instance) → AreAnswered no_records (before ++ d ∷ rest) → AreOwned no_records (before ++ d ∷ rest)
    → IsDoneBySome d (on.Header image (header.LockBreak owner)) → SomeLine (λ e. IsDoneBySome e (on.BlockAdd owner)) before
broken_behind before rest d image owner answered owned some =
    let step = step_of (after_all no_records before) d some.who (on.Header image (header.LockBreak owner)) (owned_at no_records before rest d owned) some.line in
    was_added before owner (answered_before no_records before (d ∷ rest) answered) (step.broken image owner refl refl)
