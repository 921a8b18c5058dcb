-- What leaves the records of its site leaves all as it was. Who is fenced at a site is answered so
-- there, whatever he does, and stays fenced; and a fence is put up by who isn't.
use Rattle.std.proofs.Common.{◌≡◌, ℕ, cond, Bool, true, false, List, [], ◌∷◌, ◌++◌, Option, Some, None, refl, sym, ap, ◌∙◌, subst}
use Rattle.std.proofs.lemmas.Option.{same_Some}
use Rattle.rbd_kinds.specs.declared.answer.Answer.{Answer}
use Rattle.rbd_kinds.specs.declared.answer.Answer.TheVariants as answer
use Rattle.rbd_kinds.specs.declared.id.Instance.{Instance}
use Rattle.rbd_kinds.specs.declared.id.SiteId.{SiteId}
use Rattle.rbd_kinds.specs.declared.id.SiteId.TheVariants as site
use Rattle.rbd_kinds.specs.declared.operation.Op.{Op}
use Rattle.rbd_kinds.specs.declared.operation.Op.TheVariants as op
use Rattle.rbd_kinds.specs.declared.reply.Reply.{Reply}
use Rattle.rbd_kinds.proofs.Images.{same_site_itself, same_site_is}
use Rattle.rbd_machine.specs.Knowledge.{same_site}
use Rattle.rbd_interference.specs.Truth.{changed_by}
use Rattle.rbd_site.proofs.FenceLemmas.{fence_stays, lists_it}
use Rattle.rbd_site.specs.Log.{expired, trimmed}
use Rattle.rbd_site.specs.Records.{Records}
use Rattle.rbd_site.specs.Step.{after, answer_served, answer_to, is_fenced, mail_after, mail_served}
use Rattle.rbd_site.specs.declared.done.DoneOp.TheVariants as done
use Rattle.rbd_stands.proofs.NoEffect.{fenced_none}
use Rattle.rbd_stands.proofs.Served.{fenced_after, fenced_answer}
use Rattle.rbd_stands.specs.Effect.{effect_of}
use Rattle.rbd_world.specs.Run.{Happening, Nothing, Waited, Began, Did, Refused, Trimmed, Expired, Heard, Stopped, Restarted, Operation, fence_of, flat_after, mail_of, records_after, records_behind}
use Rattle.rbd_world.specs.Sound.{IsRightlyDone, IsRight}
use Rattle.rbd_world.proofs.Runs.{done_of}
use Rattle.rbd_replies.specs.Fenced.{IsWithoutEffect, LeavesAll}

-- ---- what leaves the records of its site

module _ (o : Operation) (reply : Option Reply) (run : List Happening) (silent : o.effect ≡ None) (still : after (records_after o.site run) o.instance o.op ≡ records_after o.site run)
    (untold : mail_after o.site (records_after o.site run) o.instance o.op (mail_of run) ≡ mail_of run) where
  flat_stays : (s : SiteId) → flat_after s (Did o reply ∷ run) ≡ flat_after s run
  flat_stays s = by (same_site o.site s)
    where
      by : (b : Bool) → cond b (changed_by (flat_after s run) o.effect) (flat_after s run) ≡ flat_after s run
      by true = ap (changed_by (flat_after s run)) silent
      by false = refl

  records_stay : (s : SiteId) → records_after s (Did o reply ∷ run) ≡ records_after s run
  records_stay s = by (same_site o.site s) refl
    where
      by : (b : Bool) → same_site o.site s ≡ b → cond b (after (records_after s run) o.instance o.op) (records_after s run) ≡ records_after s run
      by true here = subst (λ t. after (records_after t run) o.instance o.op ≡ records_after t run) (same_site_is o.site s here) still
      by false elsewhere = refl

  pub leaves_all : LeavesAll o reply run
  leaves_all = record { silent = silent; flat = flat_stays; records = records_stay; mail = untold }

-- ---- what a fenced instance does

module _ (o : Operation) (reply : Option Reply) (run : List Happening) (is : IsRightlyDone o run) (fenced : is_fenced (records_after o.site run) o.instance ≡ true) where
  told : o.answer ≡ answer.Fenced
  told = is.answer ∙ fenced_answer (records_after o.site run) o.instance o.op fenced

  no_effect : o.effect ≡ None
  no_effect = is.effect ∙ ap (λ a. effect_of (records_after o.site run) (done.Op o.op) a) told ∙ fenced_none (records_after o.site run) o.op

  fenced_changes_nothing : IsWithoutEffect o reply run
  fenced_changes_nothing = record {
    answered = told;
    leaves =
        leaves_all o reply run no_effect (fenced_after (records_after o.site run) o.instance o.op fenced)
        (ap (λ b. cond b (mail_of run) (mail_served o.site (records_after o.site run) o.instance o.op (mail_of run))) fenced);
  }

pub fenced_here : (homes : ℕ → SiteId) (run : List Happening) (o : Operation) (reply : Option Reply) → IsRight homes (Did o reply ∷ run)
    → is_fenced (records_after o.site run) o.instance ≡ true → IsWithoutEffect o reply run
fenced_here homes run o reply right fenced = fenced_changes_nothing o reply run (done_of homes o reply run right.1) fenced

-- ---- a fence stays

module _ (s : SiteId) (i : Instance) where
  fence_lasts_behind : (h : Happening) (r : Records) → is_fenced r i ≡ true → is_fenced (records_behind s r h) i ≡ true
  fence_lasts_behind (Did o reply) r fenced = by (same_site o.site s)
    where
      by : (b : Bool) → is_fenced (cond b (after r o.instance o.op) r) i ≡ true
      by true = fence_stays r o.instance i o.op fenced
      by false = fenced
  fence_lasts_behind (Trimmed t number image object) r fenced = by (same_site t s)
    where
      by : (b : Bool) → is_fenced (cond b (trimmed image object r) r) i ≡ true
      by true = fenced
      by false = fenced
  fence_lasts_behind (Expired t number image who) r fenced = by (same_site t s)
    where
      by : (b : Bool) → is_fenced (cond b (expired image who r) r) i ≡ true
      by true = fenced
      by false = fenced
  fence_lasts_behind Nothing r fenced = fenced
  fence_lasts_behind Waited r fenced = fenced
  fence_lasts_behind (Began asked slot) r fenced = fenced
  fence_lasts_behind (Refused t line reply) r fenced = fenced
  fence_lasts_behind (Heard notice) r fenced = fenced
  fence_lasts_behind (Stopped who wanted lost) r fenced = fenced
  fence_lasts_behind (Restarted who) r fenced = fenced

  pub fence_lasts : (later run : List Happening) → is_fenced (records_after s run) i ≡ true → is_fenced (records_after s (later ++ run)) i ≡ true
  fence_lasts [] run fenced = fenced
  fence_lasts (h ∷ later) run fenced = fence_lasts_behind h (records_after s (later ++ run)) (fence_lasts later run fenced)

-- ---- a fence is put up

-- the operation that puts it up was done
record PutsUp (o : Op) (a : Answer) (i : Instance) : Type 0 where
  what : o ≡ op.BlockAdd i
  answered : a ≡ answer.Done

puts_up : (o : Op) (a : Answer) (i : Instance) → fence_of o a ≡ Some i → PutsUp o a i
puts_up (op.BlockAdd j) answer.Done i is = record { what = ap op.BlockAdd (same_Some j i is); answered = refl }
puts_up o a i is = cc

-- who was answered done isn't fenced
free_by_done : (r : Records) (me : Instance) (o : Op) → answer_to r me o ≡ answer.Done → is_fenced r me ≡ false
free_by_done r me o told = by (is_fenced r me) told
  where
    by : (b : Bool) → cond b answer.Fenced (answer_served r me o) ≡ answer.Done → b ≡ false
    by true told = cc
    by false told = refl

pub fence_is_told : (homes : ℕ → SiteId) (run : List Happening) (o : Operation) (reply : Option Reply) (i : Instance) → IsRight homes (Did o reply ∷ run)
    → fence_of o.op o.answer ≡ Some i → is_fenced (records_after o.site (Did o reply ∷ run)) i ≡ true
fence_is_told homes run o reply i right is =
    let r = records_after o.site run in
    let it = done_of homes o reply run right.1 in
    let puts = puts_up o.op o.answer i is in
    let free = free_by_done r o.instance o.op (sym it.answer ∙ puts.answered) in
    ap (λ b. is_fenced (cond b (after r o.instance o.op) r) i) (same_site_itself o.site)
    ∙ ap (λ what. is_fenced (after r o.instance what) i) puts.what
    ∙ lists_it r o.instance i free

-- ---- all of it

right_before : (homes : ℕ → SiteId) (later run : List Happening) → IsRight homes (later ++ run) → IsRight homes run
right_before homes [] run right = right
right_before homes (h ∷ later) run right = right_before homes later run right.2

-- whoever was fenced before changes nothing at that site
pub fenced_later : (homes : ℕ → SiteId) (run later : List Happening) (b o : Operation) (was reply : Option Reply) → IsRight homes (Did o reply ∷ (later ++ (Did b was ∷ run)))
    → fence_of b.op b.answer ≡ Some o.instance → o.site ≡ b.site → IsWithoutEffect o reply (later ++ (Did b was ∷ run))
fenced_later homes run later b o was reply right is here =
    fenced_here homes (later ++ (Did b was ∷ run)) o reply right
    (fence_lasts o.site o.instance later (Did b was ∷ run)
    (subst (λ s. is_fenced (records_after s (Did b was ∷ run)) o.instance ≡ true) (sym here)
    (fence_is_told homes run b was o.instance (right_before homes later (Did b was ∷ run) right.2) is)))
