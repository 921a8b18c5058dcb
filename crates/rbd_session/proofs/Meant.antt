-- What replies mean, command by command.
use Rattle.std.proofs.Common.{◌≡◌, inl, inr, ℕ, List, [], Bool, true, false, Option, Some, None, is_some, refl, subst}
use Rattle.rbd_kinds.specs.declared.sharing.Sharing.TheVariants as sharing
use Rattle.rbd_kinds.specs.declared.answer.Answer.{Answer}
use Rattle.rbd_kinds.specs.declared.answer.Answer.TheVariants as answer
use Rattle.rbd_commands.specs.declared.command.Command.{Command}
use Rattle.rbd_commands.specs.declared.command.Command.TheVariants as command
use Rattle.rbd_kinds.specs.declared.id.SiteId.{SiteId}
use Rattle.rbd_kinds.specs.declared.machine.Fed.{Fed}
use Rattle.rbd_kinds.specs.declared.notice.NoticeKind.{NoticeKind}
use Rattle.rbd_kinds.specs.declared.notice.NoticeKind.TheVariants as notice
use Rattle.rbd_commands.specs.declared.refusal.Refusal.{Refusal}
use Rattle.rbd_commands.specs.declared.refusal.Refusal.TheVariants as refusal
use Rattle.rbd_kinds.proofs.Results.{same_refusal}
use Rattle.rbd_kinds.specs.declared.reply.Reply.{Reply}
use Rattle.rbd_kinds.specs.declared.reply.Reply.TheVariants as reply
use Rattle.rbd_machine.specs.About.{look_up, AreOwn}
use Rattle.rbd_machine.specs.Path.{Answered, IsWalk}
use Rattle.rbd_machine.specs.Plan.{Plan, Return, Goto}
use Rattle.rbd_machine.specs.Refused.{refuses_none, never, AreGiven, IsGiven, IsRefused, IsRefusedBy}
use Rattle.rbd_machine.specs.Steps.{on_done}
use Rattle.rbd_machine.specs.declared.seat.Seat.{Seat}
use Rattle.rbd_machine.proofs.Refused.{IsRefusing, Answers, EndsBy, ends_by, only_image, refusing_find, refusing_change}
use Rattle.rbd_meaning.specs.Closes.{gone_or_fenced, CloseMeans, QuiesceMeans}
use Rattle.rbd_meaning.specs.Meant.{IsMeantBy, MeantBy}
use Rattle.rbd_lock.specs.Steps.{lock_drop}
use Rattle.rbd_meaning.specs.Straight.{Straight, straight_of, StraightMeans}
use Rattle.rbd_session.specs.Close.{is_close, replies_done, notify, unwatch, unwatching, on_dropped, joining, close, quiesced, quiesce, straight, straight_plan, telling, close_plan}
use Rattle.rbd_session.proofs.About.{close_is_own, quiesce_is_own, straight_is_own}
use Rattle.rbd_session.proofs.Ended.{closes, goes_straight, looks_twice}

abbrev IsDone : Reply → Type 0
IsDone reply.Done = Unit {0}
IsDone _ = ⊥

-- ---- an operation that is done, or isn't since the image is gone or the instance is fenced

module _ (late : Refusal → Type 0) (changed : Bool) (gone : changed ≡ true → late refusal.NoImage) (fenced : changed ≡ true → late refusal.Fenced)
    (site : SiteId) (image : ℕ) (next : Plan) (goes_on : IsRefusing refuses_none late IsDone (only_image site image) true next) where
  refusing_notify : (kind : NoticeKind) (a : Answer) → IsGiven (notify image kind) a → Answers refuses_none late IsDone (only_image site image) changed site (notify image kind) a (on_done next a)
  refusing_notify kind answer.Done can = inr (λ live may. refl, goes_on)
  refusing_notify kind answer.Absent can = inl (record { why = refusal.NoImage; own = inr (inl refl); is = refl; ends = refl; comes = gone })
  refusing_notify kind answer.Fenced can = inl (record { why = refusal.Fenced; own = inl refl; is = refl; ends = refl; comes = fenced })
  refusing_notify kind _ can = let no = can.can.word in cc

  refusing_unwatch : (a : Answer) → IsGiven (unwatch image) a → Answers refuses_none late IsDone (only_image site image) changed site (unwatch image) a (on_done next a)
  refusing_unwatch answer.Done can = inr (λ live may. refl, goes_on)
  refusing_unwatch answer.Absent can = inl (record { why = refusal.NoImage; own = inr (inl refl); is = refl; ends = refl; comes = gone })
  refusing_unwatch answer.Fenced can = inl (record { why = refusal.Fenced; own = inl refl; is = refl; ends = refl; comes = fenced })
  refusing_unwatch _ can = let no = can.can.word in cc

module _ (site : SiteId) where
  -- ---- close

  refusing_unwatching : (image : ℕ) → IsRefusing refuses_none gone_or_fenced IsDone (only_image site image) true (unwatching site image)
  refusing_unwatching image = refusing_unwatch gone_or_fenced true (λ was. tt) (λ was. tt) site image replies_done tt

  refusing_dropped : (image : ℕ) (a : Answer) → IsGiven (lock_drop image) a → Answers refuses_none gone_or_fenced IsDone (only_image site image) false site (lock_drop image) a (on_dropped site image a)
  refusing_dropped image answer.Done can =
      inr (λ live may. refl, refusing_notify gone_or_fenced true (λ was. tt) (λ was. tt) site image (unwatching site image) (refusing_unwatching image) notice.ReleasedLock)
  refusing_dropped image answer.Changed can = inr (λ live may. refl, refusing_unwatching image)
  refusing_dropped image answer.Absent can = inl (record { why = refusal.NoImage; own = inr (inl refl); is = refl; ends = refl; comes = λ was. tt })
  refusing_dropped image answer.Fenced can = inl (record { why = refusal.Fenced; own = inl refl; is = refl; ends = refl; comes = λ was. tt })
  refusing_dropped image _ can = let no = can.can.word in cc

  refusing_close : (name : List ℕ) → IsRefusing refuses_none gone_or_fenced IsDone [] false (close site name)
  refusing_close name = refusing_find refuses_none gone_or_fenced IsDone site name (joining site) refusing_dropped

  -- ---- the others change nothing before their last operation

  refusing_quiesce : (name : List ℕ) → IsRefusing refuses_none never IsDone [] false (quiesce site name)
  refusing_quiesce name = refusing_change refuses_none never IsDone site name sharing.Alone quiesced (λ i h may. tt)

  refusing_telling : (o : Option (List ℕ)) (image : ℕ) → IsRefusing refuses_none never IsDone (only_image site image) false (telling site o image)
  refusing_telling None image = tt
  refusing_telling (Some bytes) image = refusing_notify never false (λ was. cc) (λ was. cc) site image replies_done tt (notice.Custom bytes)

  refusing_straight : (s : Straight) → IsRefusing refuses_none never IsDone [] false (straight site s)
  refusing_straight s = refusing_find refuses_none never IsDone site s.name (telling site s.tells) (refusing_telling s.tells)

-- ---- replies

module _ (late : Refusal → Type 0) (site : SiteId) (name : List ℕ) (steps : List Answered) where
  -- how a request may end: done, or refused by its last answer
  abbrev EndsSo : Reply → Type 0
  EndsSo r = EndsBy refuses_none late IsDone [] false steps r

  is_refused : (x y : Refusal) → AreOwn site (look_up name) steps → reply.Refused x ≡ reply.Refused y → IsRefusedBy refuses_none late steps y → IsRefused site (look_up name) refuses_none late steps x
  is_refused x y own same by = record { own = own; by = subst (IsRefusedBy refuses_none late steps) (same_refusal x y same) by }

module _ (site : SiteId) (name : List ℕ) (feds : List Fed) (steps : List Answered) where
  close_means : (r : Reply) → EndsSo gone_or_fenced site name steps r → IsWalk Goto (close site name) feds steps (Return r) → CloseMeans site name steps r
  close_means reply.Done ends walk = closes site name feds steps walk
  close_means (reply.Refused x) (inl granted) walk = absurd granted
  close_means (reply.Refused x) (inr (y, same, from)) walk = is_refused gone_or_fenced site name steps x y (close_is_own site name feds steps (Return (reply.Refused x)) walk) same from.by
  close_means _ (inl granted) walk = absurd granted
  close_means _ (inr (y, same, from)) walk = cc

  quiesce_means : (r : Reply) → EndsSo never site name steps r → IsWalk Goto (quiesce site name) feds steps (Return r) → QuiesceMeans site name steps r
  quiesce_means reply.Done ends walk = looks_twice site name feds steps walk
  quiesce_means (reply.Refused x) (inl granted) walk = absurd granted
  quiesce_means (reply.Refused x) (inr (y, same, from)) walk = is_refused never site name steps x y (quiesce_is_own site name feds steps (Return (reply.Refused x)) walk) same from.by
  quiesce_means _ (inl granted) walk = absurd granted
  quiesce_means _ (inr (y, same, from)) walk = cc

module _ (site : SiteId) (s : Straight) (feds : List Fed) (steps : List Answered) where
  straight_means : (r : Reply) → EndsSo never site s.name steps r → IsWalk Goto (straight site s) feds steps (Return r) → StraightMeans site s steps r
  straight_means reply.Done ends walk = goes_straight site s feds steps walk
  straight_means (reply.Refused x) (inl granted) walk = absurd granted
  straight_means (reply.Refused x) (inr (y, same, from)) walk = is_refused never site s.name steps x y (straight_is_own site s feds steps (Return (reply.Refused x)) walk) same from.by
  straight_means _ (inl granted) walk = absurd granted
  straight_means _ (inr (y, same, from)) walk = cc

means_straight : (seat : Seat) (c : Command) (o : Option Straight) (feds : List Fed) (steps : List Answered) (r : Reply) → is_some o ≡ true → AreGiven steps
    → IsWalk Goto (straight_plan seat.home o) feds steps (Return r) → MeantBy o seat c steps r
means_straight seat c None feds steps r is given walk = cc
means_straight seat c (Some s) feds steps r is given walk =
    straight_means seat.home s feds steps r (ends_by refuses_none never IsDone feds [] false (straight seat.home s) steps r (refusing_straight seat.home s) given walk) walk

pub means : (seat : Seat) (c : Command) (feds : List Fed) (steps : List Answered) (r : Reply) → is_close c ≡ true → AreGiven steps
    → IsWalk Goto (close_plan seat.home c) feds steps (Return r) → IsMeantBy seat c steps r
means seat (command.Close image) feds steps r is given walk =
    close_means seat.home image feds steps r (ends_by refuses_none gone_or_fenced IsDone feds [] false (close seat.home image) steps r (refusing_close seat.home image) given walk) walk
means seat (command.Quiesce image) feds steps r is given walk =
    quiesce_means seat.home image feds steps r (ends_by refuses_none never IsDone feds [] false (quiesce seat.home image) steps r (refusing_quiesce seat.home image) given walk) walk
means seat c feds steps r is given walk = means_straight seat c (straight_of c) feds steps r is given walk
