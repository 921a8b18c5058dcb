-- What each event keeps of the mail: its notices are numbered from 1 on, and nobody has heard one
-- that isn't there.
use Rattle.std.proofs.Common.{◌≡◌, ℕ, zero, suc, ◌+◌, ◌<◌, ◌≤◌, ◌==◌, ◌⊎◌, inl, inr, cond, Bool, true, false, List, [], ◌∷◌, length, length-append, slice_get, Option, Some, None, refl, sym, ap, ◌∙◌, subst, arith}
use Rattle.std.proofs.lemmas.Bool.{and_parts, eqb-true, false≢true, or_cases}
use Rattle.std.proofs.lemmas.Option.{none-some}
use Rattle.rbd_kinds.specs.declared.header_op.HeaderOp.{HeaderOp}
use Rattle.rbd_kinds.specs.declared.header_op.HeaderOp.TheVariants as header
use Rattle.rbd_kinds.specs.declared.id.Instance.{Instance}
use Rattle.rbd_kinds.specs.declared.id.SiteId.{SiteId}
use Rattle.rbd_kinds.specs.declared.notice.Notice.{Notice}
use Rattle.rbd_kinds.specs.declared.operation.Op.{Op}
use Rattle.rbd_kinds.specs.declared.operation.Op.TheVariants as op
use Rattle.rbd_machine.specs.Plan.{Standing}
use Rattle.rbd_site.specs.Log.{SiteLog}
use Rattle.rbd_site.specs.Records.{Records}
use Rattle.rbd_site.specs.Step.{is_fenced, mail_after, mail_served}
use Rattle.rbd_site.specs.WatchStep.{notified}
use Rattle.rbd_watch.specs.Posting.{AreNumberedFrom, notices, notice_numbered}
use Rattle.rbd_watch.proofs.Numbers.{at_place, below, notices_numbered, numbered_append}
use Rattle.rbd_world.specs.declared.event.Event.{Event}
use Rattle.rbd_world.specs.declared.event.Event.TheVariants as event
use Rattle.rbd_world.specs.declared.event.Outcome.{Outcome}
use Rattle.rbd_world.specs.declared.sites.Sites.{Sites}
use Rattle.rbd_world.specs.Run.{Did, Happening, outcome_of}
use Rattle.rbd_world.specs.Sound.{IsNewWorld}
use Rattle.rbd_world.specs.Step.{IsWorldStep, delivered, happening, mail_then}
use Rattle.rbd_world.specs.World.{WorldView, records_in, site_in}
use Rattle.rbd_schedule.specs.Notices.{hears, is_heard, was_heard}
use Rattle.rbd_schedule.proofs.Passing.{StaysIn, heard_then, then_stays}

pub record IsMailed {R : Type 0} (w : WorldView R) : Type 0 where
  pub ids : (s : SiteId) → (site_in s w.sites).id ≡ s
  pub numbers : AreNumberedFrom 1 w.sites.mail
  pub heard : (number : ℕ) → was_heard number w.calls ≡ true → number ≤ length w.sites.mail

-- ---- numbers

notified_numbers : (s : SiteId) (who : Instance) (image : ℕ) (to : List Instance) (o : HeaderOp) (mail : List Notice) → AreNumberedFrom 1 mail → AreNumberedFrom 1 (notified s who image to o mail)
notified_numbers s who image to (header.Notify kind) mail are =
    let first = length mail + 1 in
    let start : first ≡ 1 + length mail = omega arith in
    numbered_append 1 mail (notices first s image who to kind) are (subst (λ n. AreNumberedFrom n (notices first s image who to kind)) start (notices_numbered s image who kind first to))
notified_numbers s who image to _ mail are = are

served_numbers : (s : SiteId) (r : Records) (who : Instance) (o : Op) (mail : List Notice) → AreNumberedFrom 1 mail → AreNumberedFrom 1 (mail_served s r who o mail)
served_numbers s r who (op.Header image o) mail are = notified_numbers s who image _ o mail are
served_numbers s r who _ mail are = are

after_numbers : (s : SiteId) (r : Records) (who : Instance) (o : Op) (mail : List Notice) → AreNumberedFrom 1 mail → AreNumberedFrom 1 (mail_after s r who o mail)
after_numbers s r who o mail are = by (is_fenced r who)
  where
    by : (b : Bool) → AreNumberedFrom 1 (cond b mail (mail_served s r who o mail))
    by true = are
    by false = served_numbers s r who o mail are

then_numbers : (h : Happening) (sites : Sites) → AreNumberedFrom 1 sites.mail → AreNumberedFrom 1 (mail_then h sites)
then_numbers (Did o reply) sites are = after_numbers _ (records_in o.site sites) o.instance o.op sites.mail are
then_numbers _ sites are = are

got_below : (mail : List Notice) (i : ℕ) (n : Notice) → slice_get mail i ≡ Some n → i < length mail
got_below [] i n is = absurd (none-some n is)
got_below (x ∷ mail) zero n is = omega arith
got_below (x ∷ mail) (suc i) n is = let less = got_below mail i n is in omega (arith, less)

-- a notice that is there has one of these numbers
pub there_below : (number : ℕ) (mail : List Notice) (n : Notice) → AreNumberedFrom 1 mail → notice_numbered number mail ≡ Some n → (1 ≤ number) × (number ≤ length mail)
there_below zero mail n are is = absurd (none-some n (sym (below 1 0 mail are (omega arith)) ∙ is))
there_below (suc i) mail n are is =
    let next : suc i ≡ 1 + i = omega arith in
    let less = got_below mail i n (sym (at_place 1 i mail are) ∙ subst (λ k. notice_numbered k mail ≡ Some n) next is) in
    (omega arith, omega (arith, less))

-- ---- what was heard

stays_longer : (mail now : List Notice) → StaysIn mail now → length mail ≤ length now
stays_longer mail now (more, are) = let sum : length now ≡ length mail + length more = ap length are ∙ length-append mail more in omega (arith, sum)

module _ {R : Type 0} (stands : R → Standing) where
  -- what is heard is there
  hears_there : (e : Event) (result : Outcome) (old : WorldView R) → result ≡ outcome_of (happening stands e old) → AreNumberedFrom 1 old.sites.mail → (number : ℕ) → hears number e result ≡ true → number ≤ length old.sites.mail
  hears_there (event.Deliver k) result old is are number hears =
      let parts = and_parts (k == number) (is_heard result) hears in
      subst (λ n. n ≤ length old.sites.mail) (eqb-true k number parts.0) (by (notice_numbered k old.sites.mail) refl (sym (ap is_heard is) ∙ parts.1))
    where
      by : (o : Option Notice) → notice_numbered k old.sites.mail ≡ o → is_heard (outcome_of (delivered (notice_numbered k old.sites.mail) old.lives)) ≡ true → k ≤ length old.sites.mail
      by None at heard = absurd (false≢true (sym (ap (λ o. is_heard (outcome_of (delivered o old.lives))) at) ∙ heard))
      by (Some n) at heard = (there_below k old.sites.mail n are at).1
  hears_there (event.Submit session line c) result old is are number hears = absurd (false≢true hears)
  hears_there (event.Poll session slot) result old is are number hears = absurd (false≢true hears)
  hears_there (event.Expire session s image) result old is are number hears = absurd (false≢true hears)
  hears_there (event.Stop session) result old is are number hears = absurd (false≢true hears)
  hears_there (event.Late session slot) result old is are number hears = absurd (false≢true hears)
  hears_there (event.Restart session) result old is are number hears = absurd (false≢true hears)
  hears_there (event.Trim s image object) result old is are number hears = absurd (false≢true hears)

  pub mailed_step : (e : Event) (result : Outcome) (old new : WorldView R) → IsWorldStep stands e old result new → IsMailed old → IsMailed new
  mailed_step e result old new step was = record {
    ids = λ s. ap (λ (x : SiteLog). x.id) (step.1.sites s) ∙ was.ids s;
    numbers = subst (AreNumberedFrom 1) (sym step.1.mail) (then_numbers (happening stands e old) old.sites was.numbers);
    heard = λ number heard. by number (or_cases (was_heard number old.calls) (hears number e result) (sym (heard_then stands e result old new step number) ∙ heard));
  }
    where
      longer : length old.sites.mail ≤ length new.sites.mail
      longer = subst (λ mail. length old.sites.mail ≤ length mail) (sym step.1.mail) (stays_longer old.sites.mail (mail_then (happening stands e old) old.sites) (then_stays (happening stands e old) old.sites))

      by : (number : ℕ) → (was_heard number old.calls ≡ true) ⊎ (hears number e result ≡ true) → number ≤ length new.sites.mail
      by number (inl before) = let less = was.heard number before in omega (arith, less, longer)
      by number (inr now) = let less = hears_there e result old step.0 was.numbers number now in omega (arith, less, longer)

  pub mailed_first : (w : WorldView R) → IsNewWorld w → IsMailed w
  mailed_first w new = record {
    ids = new.ids;
    numbers = subst (AreNumberedFrom 1) (sym new.mail) tt;
    heard = λ number heard. absurd (false≢true (sym (ap (was_heard number) new.calls) ∙ heard));
  }
