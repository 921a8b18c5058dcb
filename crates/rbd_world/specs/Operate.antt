-- One operation at a site, and for whom it is done.
use Rattle.std.specs.Prelude.{◌≡◌, ℕ, ◌+◌, ◌∷◌, ◌++◌, List, [], false, length, Option, Some, None}
use Rattle.rbd_client.specs.Client.{ClientView}
use Rattle.rbd_flat.specs.declared.entry.Entry.{Entry}
use Rattle.rbd_kinds.specs.declared.id.Instance.{Instance}
use Rattle.rbd_kinds.specs.declared.id.SiteId.{SiteId}
use Rattle.rbd_kinds.specs.declared.notice.Notice.{Notice}
use Rattle.rbd_kinds.specs.declared.operation.Op.{Op}
use Rattle.rbd_kinds.specs.declared.operation.Op.TheVariants as op
use Rattle.rbd_kinds.specs.declared.reply.Reply.{Reply}
use Rattle.rbd_machine.specs.Knowledge.{same_site}
use Rattle.rbd_machine.specs.Plan.{Standing}
use Rattle.rbd_site.specs.InForm.{AreInForm}
use Rattle.rbd_site.specs.Log.{SiteLog, log_line, records_of}
use Rattle.rbd_site.specs.Step.{after, answer_to, mail_after}
use Rattle.rbd_world.specs.declared.event.Outcome.{Outcome}
use Rattle.rbd_world.specs.declared.sites.Sites.{Sites}
use Rattle.rbd_world.specs.Run.{Doer, Did, entries_of, outcome_of}
use Rattle.rbd_world.specs.Step.{Goes, operation_at, with_log_lines}
use Rattle.rbd_world.specs.World.{site_in}

-- the image whose header says what effect an operation has
abbrev pub image_of_op : Op → Option ℕ
image_of_op (op.Header image o) = Some image
image_of_op (op.Data image number o) = Some image
image_of_op o = None

-- the site did the operation and nothing else, and posted its notices
pub record IsLogged (who : Instance) (o : Op) (old new : SiteLog) (mail_before mail_now : List Notice) : Type 0 where
  pub log : new ≡ with_log_lines (log_line (length old.log + 1) who o (answer_to (records_of old) who o) ∷ []) old
  pub records : records_of new ≡ after (records_of old) who o
  pub form : AreInForm (records_of new) (length new.log)
  pub mail : mail_now ≡ mail_after old.id (records_of old) who o mail_before

-- the history and the outcome of the operation, by whom it was done for
pub record IsNoted (who : Instance) (by : Doer) (s : SiteId) (o : Op) (before : SiteLog) (reply : Option Reply)
    (earlier later : List Entry) (result : Outcome) : Type 0 where
  pub history : later ≡ earlier ++ entries_of (Did (operation_at before who by s o) reply)
  pub outcome : result ≡ outcome_of (Did (operation_at before who by s o) reply)

-- the other site is as it was
abbrev pub IsSameElsewhere : SiteId → (before behind : Sites) → Type 0
IsSameElsewhere s before behind = (other : SiteId) → same_site s other ≡ false
    → site_in other behind ≡ site_in other before

module _ {R : Type 0} (stands : R → Standing) where
  -- the operation that was wanted at a slot of a client was done at its site, and who acted there
  -- was fed the answer
  pub record IsOperated (slot : ℕ) (by : Doer) (s : SiteId) (o : Op) (before behind : SiteLog)
      (mail_before mail_now : List Notice) (old new : ClientView R) (earlier later : List Entry)
      (result : Outcome) : Type 0 where
    pub reply : Option Reply
    pub logged : IsLogged old.session.instance o before behind mail_before mail_now
    pub goes : Goes stands slot (operation_at before old.session.instance by s o) reply old new
    pub noted : IsNoted old.session.instance by s o before reply earlier later result

  -- at its site, and at no other
  pub record IsOperatedAt (slot : ℕ) (by : Doer) (s : SiteId) (o : Op) (before behind : Sites) (old new : ClientView R)
      (earlier later : List Entry) (result : Outcome) : Type 0 where
    pub here : IsOperated slot by s o (site_in s before)
        (site_in s behind) before.mail behind.mail old new earlier later result
    pub elsewhere : IsSameElsewhere s before behind

-- An operation of an instance that was stopped was done at its site.
pub record HasCome (who : Instance) (by : Doer) (s : SiteId) (o : Op) (before behind : SiteLog)
    (mail_before mail_now : List Notice) (earlier later : List Entry) (result : Outcome) : Type 0 where
  pub logged : IsLogged who o before behind mail_before mail_now
  pub noted : IsNoted who by s o before None earlier later result

pub record HasComeAt (who : Instance) (by : Doer) (s : SiteId) (o : Op) (before behind : Sites)
    (earlier later : List Entry) (result : Outcome) : Type 0 where
  pub here : HasCome who by s o (site_in s before) (site_in s behind) before.mail behind.mail earlier later result
  pub elsewhere : IsSameElsewhere s before behind
