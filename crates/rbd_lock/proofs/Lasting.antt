-- What lasts of what is counted of one image, whatever comes.
use Rattle.std.proofs.Common.{◌≡◌, ℕ, Bool, true, false, cond, ◌||◌, List, [], ◌∷◌, refl, sym, ap, subst, ◌∙◌}
use Rattle.std.proofs.lemmas.Bool.{true≢false}
use Rattle.std.specs.List.{list_any}
use Rattle.std.specs.Prelude.{IsTrue}
use Rattle.rbd_kinds.specs.declared.answer.Answer.{Answer}
use Rattle.rbd_kinds.specs.declared.answer.Answer.TheVariants as answer
use Rattle.rbd_kinds.specs.declared.header_op.HeaderOp.{HeaderOp}
use Rattle.rbd_kinds.specs.declared.header_op.HeaderOp.TheVariants as header
use Rattle.rbd_kinds.specs.declared.id.SiteId.{SiteId}
use Rattle.rbd_kinds.specs.declared.id.SiteId.TheVariants as site
use Rattle.rbd_kinds.specs.declared.notice.Notice.{Notice}
use Rattle.rbd_kinds.specs.declared.notice.NoticeKind.{NoticeKind}
use Rattle.rbd_kinds.specs.declared.notice.NoticeKind.TheVariants as notice
use Rattle.rbd_kinds.specs.declared.operation.Op.TheVariants as op
use Rattle.rbd_lock.specs.declared.lock_state.LockState.{LockState}
use Rattle.rbd_lock.specs.Comings.{Coming, ByAnswer, ByNotice, ByQuiesce, ByResume, after_all, after_one, is_end, is_of, is_take, owned_since, owns_after}
use Rattle.rbd_kinds.specs.Images.{is_at}
use Rattle.rbd_kinds.proofs.Images.{at_itself}
use Rattle.rbd_kinds.proofs.Plain.{cond_same}
use Rattle.rbd_lock.specs.States.{answered, quieted, resumed, told_state}

not_first : (a b : Bool) → (a || b) ≡ false → a ≡ false
not_first true b is = is
not_first false b is = refl

not_second : (a b : Bool) → (a || b) ≡ false → b ≡ false
not_second true b is = absurd (true≢false is)
not_second false b is = is

-- ---- whether the lock counts as owned

chosen_owned : (b : Bool) (x s : LockState) → (cond b x s).owned ≡ cond b x.owned s.owned
chosen_owned true x s = refl
chosen_owned false x s = refl

answered_owned : (on : ℕ) (o : HeaderOp) (a : Answer) (s : LockState) → (answered o a s).owned ≡ owns_after s.owned (op.Header on o) a
answered_owned on header.LockTake answer.Done s = refl
answered_owned on header.LockDrop a s = refl
answered_owned on header.Remove answer.Done s = refl
answered_owned on header.Watch answer.Done s = refl
answered_owned on header.Unwatch a s = refl
answered_owned on o a s = refl

pub told_owned : (k : NoticeKind) (s : LockState) → (told_state k s).owned ≡ s.owned
told_owned notice.RequestLock s = refl
told_owned k s = refl

module _ (site : SiteId) (image : ℕ) where
  -- what leaves the ownership as it is
  left_alone : (b : Bool) (x s : LockState) → x.owned ≡ s.owned → (cond b x s).owned ≡ s.owned
  left_alone true x s is = is
  left_alone false x s is = refl

  pub owned_is : (comings : List Coming) (s : LockState) → (after_all comings site image s).owned ≡ owned_since site image s.owned comings
  owned_is [] s = refl
  owned_is (ByAnswer there (op.Header on o) a ∷ comings) s =
      let here = is_at there on site image in
      owned_is comings (cond here (answered o a s) s)
      ∙ ap (λ owned. owned_since site image owned comings)
      (chosen_owned here (answered o a s) s ∙ ap (λ owned. cond here owned s.owned) (answered_owned on o a s))
  owned_is (ByAnswer there o a ∷ comings) s = owned_is comings s
  owned_is (ByNotice n ∷ comings) s =
      owned_is comings (after_one (ByNotice n) site image s)
      ∙ ap (λ owned. owned_since site image owned comings) (left_alone (is_at n.site n.image site image) (told_state n.kind s) s (told_owned n.kind s))
  owned_is (ByQuiesce there on ∷ comings) s =
      owned_is comings (after_one (ByQuiesce there on) site image s)
      ∙ ap (λ owned. owned_since site image owned comings) (left_alone (is_at there on site image) _ s refl)
  owned_is (ByResume there on ∷ comings) s =
      owned_is comings (after_one (ByResume there on) site image s)
      ∙ ap (λ owned. owned_since site image owned comings) (left_alone (is_at there on site image) _ s refl)

  keeps_owned : (there : SiteId) (on : ℕ) (o : HeaderOp) (a : Answer) → is_end site image (ByAnswer there (op.Header on o) a) ≡ false
      → cond (is_at there on site image) (owns_after true (op.Header on o) a) true ≡ true
  keeps_owned there on header.LockDrop a none = ap (λ b. cond b false true) none
  keeps_owned there on header.Remove answer.Done none = ap (λ b. cond b false true) none
  keeps_owned there on header.LockTake answer.Done none = cond_same (is_at there on site image) true
  keeps_owned there on o a none = cond_same (is_at there on site image) true

  stays_owned : (comings : List Coming) → list_any (is_end site image) comings ≡ false → owned_since site image true comings ≡ true
  stays_owned [] none = refl
  stays_owned (ByAnswer there (op.Header on o) a ∷ comings) none =
      let first = is_end site image (ByAnswer there (op.Header on o) a) in
      let rest = list_any (is_end site image) comings in
      ap (λ owned. owned_since site image owned comings) (keeps_owned there on o a (not_first first rest none))
      ∙ stays_owned comings (not_second first rest none)
  stays_owned (ByAnswer there o a ∷ comings) none = stays_owned comings none
  stays_owned (ByNotice n ∷ comings) none = stays_owned comings none
  stays_owned (ByQuiesce there on ∷ comings) none = stays_owned comings none
  stays_owned (ByResume there on ∷ comings) none = stays_owned comings none

  keeps_free : (there : SiteId) (on : ℕ) (o : HeaderOp) (a : Answer) → is_take site image (ByAnswer there (op.Header on o) a) ≡ false
      → cond (is_at there on site image) (owns_after false (op.Header on o) a) false ≡ false
  keeps_free there on header.LockTake answer.Done none = ap (λ b. cond b true false) none
  keeps_free there on header.LockDrop a none = cond_same (is_at there on site image) false
  keeps_free there on header.Remove answer.Done none = cond_same (is_at there on site image) false
  keeps_free there on o a none = cond_same (is_at there on site image) false

  stays_free : (comings : List Coming) → list_any (is_take site image) comings ≡ false → owned_since site image false comings ≡ false
  stays_free [] none = refl
  stays_free (ByAnswer there (op.Header on o) a ∷ comings) none =
      let first = is_take site image (ByAnswer there (op.Header on o) a) in
      let rest = list_any (is_take site image) comings in
      ap (λ owned. owned_since site image owned comings) (keeps_free there on o a (not_first first rest none))
      ∙ stays_free comings (not_second first rest none)
  stays_free (ByAnswer there o a ∷ comings) none = stays_free comings none
  stays_free (ByNotice n ∷ comings) none = stays_free comings none
  stays_free (ByQuiesce there on ∷ comings) none = stays_free comings none
  stays_free (ByResume there on ∷ comings) none = stays_free comings none

  pub taken_stays : (s : LockState) (between : List Coming) → list_any (is_end site image) between ≡ false
      → (after_all (ByAnswer site (op.Header image header.LockTake) answer.Done ∷ between) site image s).owned ≡ true
  taken_stays s between none =
      owned_is (ByAnswer site (op.Header image header.LockTake) answer.Done ∷ between) s
      ∙ ap (λ b. owned_since site image (cond b true s.owned) between) (at_itself site image)
      ∙ stays_owned between none

  pub dropped_stays : (s : LockState) (a : Answer) (between : List Coming) → list_any (is_take site image) between ≡ false
      → (after_all (ByAnswer site (op.Header image header.LockDrop) a ∷ between) site image s).owned ≡ false
  dropped_stays s a between none =
      owned_is (ByAnswer site (op.Header image header.LockDrop) a ∷ between) s
      ∙ ap (λ b. owned_since site image (cond b false s.owned) between) (at_itself site image)
      ∙ stays_free between none

  pub removed_stays : (s : LockState) (between : List Coming) → list_any (is_take site image) between ≡ false
      → (after_all (ByAnswer site (op.Header image header.Remove) answer.Done ∷ between) site image s).owned ≡ false
  removed_stays s between none =
      owned_is (ByAnswer site (op.Header image header.Remove) answer.Done ∷ between) s
      ∙ ap (λ b. owned_since site image (cond b false s.owned) between) (at_itself site image)
      ∙ stays_free between none

-- ---- whether it was asked for

abbrev IsAskedOwned : LockState → Type 0
IsAskedOwned s = IsTrue s.asked → IsTrue s.owned

chosen : (P : LockState → Type 0) (b : Bool) (x s : LockState) → P x → P s → P (cond b x s)
chosen P true x s of_x of_s = of_x
chosen P false x s of_x of_s = of_s

answered_asked : (o : HeaderOp) (a : Answer) (s : LockState) → IsAskedOwned s → IsAskedOwned (answered o a s)
answered_asked header.LockTake answer.Done s holds = λ is. refl
answered_asked header.LockDrop a s holds = λ is. absurd (true≢false (sym is))
answered_asked header.Remove answer.Done s holds = λ is. absurd (true≢false (sym is))
answered_asked header.Watch answer.Done s holds = holds
answered_asked header.Unwatch a s holds = holds
answered_asked o a s holds = holds

owned_if_asked : (owned asked : Bool) → (asked ≡ true → owned ≡ true) → cond owned true asked ≡ true → owned ≡ true
owned_if_asked true asked holds is = refl
owned_if_asked false asked holds is = holds is

told_asked : (k : NoticeKind) (s : LockState) → IsAskedOwned s → IsAskedOwned (told_state k s)
told_asked notice.RequestLock s holds = owned_if_asked s.owned s.asked holds
told_asked k s holds = holds

asked_if_told : (k : NoticeKind) (s : LockState) → IsTrue s.asked → IsTrue (told_state k s).asked
asked_if_told notice.RequestLock s is = ap (λ asked. cond s.owned true asked) is ∙ cond_same s.owned true
asked_if_told k s is = is

passed_over : (k : NoticeKind) (s : LockState) → s.owned ≡ false → told_state k s ≡ s
passed_over notice.RequestLock s none = λ j. record { owned = s.owned; watched = s.watched; asked = cond (none j) true s.asked; quiesced = s.quiesced }
passed_over k s none = refl

pub missed : (n : Notice) (s : LockState) (site : SiteId) (image : ℕ) → s.owned ≡ false → after_one (ByNotice n) site image s ≡ s
missed n s site image none = ap (λ x. cond (is_at n.site n.image site image) x s) (passed_over n.kind s none) ∙ cond_same (is_at n.site n.image site image) s

module _ (site : SiteId) (image : ℕ) where
  one_asked : (c : Coming) (s : LockState) → IsAskedOwned s → IsAskedOwned (after_one c site image s)
  one_asked (ByAnswer there (op.Header on o) a) s holds = chosen IsAskedOwned (is_at there on site image) (answered o a s) s (answered_asked o a s holds) holds
  one_asked (ByAnswer there o a) s holds = holds
  one_asked (ByNotice n) s holds = chosen IsAskedOwned (is_at n.site n.image site image) (told_state n.kind s) s (told_asked n.kind s holds) holds
  one_asked (ByQuiesce there on) s holds = chosen IsAskedOwned (is_at there on site image) _ s holds holds
  one_asked (ByResume there on) s holds = chosen IsAskedOwned (is_at there on site image) _ s holds holds

  pub asked_is_owned : (comings : List Coming) (s : LockState) → (IsTrue s.asked → IsTrue s.owned)
      → IsTrue (after_all comings site image s).asked → IsTrue (after_all comings site image s).owned
  asked_is_owned [] s holds = holds
  asked_is_owned (c ∷ comings) s holds = asked_is_owned comings (after_one c site image s) (one_asked c s holds)

  abbrev IsAsked : LockState → Type 0
  IsAsked s = IsTrue s.asked

  answer_keeps : (there : SiteId) (on : ℕ) (o : HeaderOp) (a : Answer) (s : LockState)
      → is_take site image (ByAnswer there (op.Header on o) a) ≡ false → is_end site image (ByAnswer there (op.Header on o) a) ≡ false
      → IsTrue s.asked → IsTrue (cond (is_at there on site image) (answered o a s) s).asked
  answer_keeps there on header.LockTake answer.Done s no_take no_end is = subst (λ b. IsTrue (cond b (answered header.LockTake answer.Done s) s).asked) (sym no_take) is
  answer_keeps there on header.LockDrop a s no_take no_end is = subst (λ b. IsTrue (cond b (answered header.LockDrop a s) s).asked) (sym no_end) is
  answer_keeps there on header.Remove answer.Done s no_take no_end is = subst (λ b. IsTrue (cond b (answered header.Remove answer.Done s) s).asked) (sym no_end) is
  answer_keeps there on header.Watch answer.Done s no_take no_end is = chosen IsAsked (is_at there on site image) _ s is is
  answer_keeps there on header.Unwatch a s no_take no_end is = chosen IsAsked (is_at there on site image) _ s is is
  answer_keeps there on o a s no_take no_end is = chosen IsAsked (is_at there on site image) _ s is is

  stays_asked_by : (c : Coming) (s : LockState) → is_take site image c ≡ false → is_end site image c ≡ false → IsTrue s.asked → IsTrue (after_one c site image s).asked
  stays_asked_by (ByAnswer there (op.Header on o) a) s no_take no_end is = answer_keeps there on o a s no_take no_end is
  stays_asked_by (ByAnswer there o a) s no_take no_end is = is
  stays_asked_by (ByNotice n) s no_take no_end is = chosen IsAsked (is_at n.site n.image site image) (told_state n.kind s) s (asked_if_told n.kind s is) is
  stays_asked_by (ByQuiesce there on) s no_take no_end is = chosen IsAsked (is_at there on site image) _ s is is
  stays_asked_by (ByResume there on) s no_take no_end is = chosen IsAsked (is_at there on site image) _ s is is

  pub stays_asked : (comings : List Coming) (s : LockState) → list_any (is_take site image) comings ≡ false → list_any (is_end site image) comings ≡ false
      → IsTrue s.asked → IsTrue (after_all comings site image s).asked
  stays_asked [] s no_take no_end is = is
  stays_asked (c ∷ comings) s no_take no_end is =
      let takes = list_any (is_take site image) comings in
      let ends = list_any (is_end site image) comings in
      stays_asked comings (after_one c site image s) (not_second (is_take site image c) takes no_take) (not_second (is_end site image c) ends no_end)
      (stays_asked_by c s (not_first (is_take site image c) takes no_take) (not_first (is_end site image c) ends no_end) is)

pub heard_stays : (n : Notice) (s : LockState) (between : List Coming) → n.kind ≡ notice.RequestLock → IsTrue s.owned
    → list_any (is_take n.site n.image) between ≡ false → list_any (is_end n.site n.image) between ≡ false
    → IsTrue (after_all (ByNotice n ∷ between) n.site n.image s).asked
heard_stays n s between kind owned no_take no_end =
    stays_asked n.site n.image between (after_one (ByNotice n) n.site n.image s) no_take no_end
    (ap (λ b. (cond b (told_state n.kind s) s).asked) (at_itself n.site n.image) ∙ ap (λ k. (told_state k s).asked) kind ∙ ap (λ b. cond b true s.asked) owned)

-- ---- other images

module _ (site : SiteId) (image : ℕ) where
  passes_by : (c : Coming) (s : LockState) → is_of site image c ≡ false → after_one c site image s ≡ s
  passes_by (ByAnswer there (op.Header on o) a) s none = ap (λ b. cond b (answered o a s) s) none
  passes_by (ByAnswer there o a) s none = refl
  passes_by (ByNotice n) s none = ap (λ b. cond b (told_state n.kind s) s) none
  passes_by (ByQuiesce there on) s none = ap (λ b. cond b (quieted s) s) none
  passes_by (ByResume there on) s none = ap (λ b. cond b (resumed s) s) none

  pub others_stay : (comings : List Coming) (s : LockState) → list_any (is_of site image) comings ≡ false → after_all comings site image s ≡ s
  others_stay [] s none = refl
  others_stay (c ∷ comings) s none =
      let rest = list_any (is_of site image) comings in
      ap (λ x. after_all comings site image x) (passes_by c s (not_first (is_of site image c) rest none))
      ∙ others_stay comings s (not_second (is_of site image c) rest none)
