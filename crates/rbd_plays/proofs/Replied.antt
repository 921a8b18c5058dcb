-- Where nobody is stopped, each line that has ended has its reply.
use Rattle.std.proofs.Common.{◌≡◌, ℕ, ◌||◌, false, Option, Some, None, refl, sym, ap, ◌∙◌}
use Rattle.rbd_flat.specs.declared.effect.Effect.{Effect}
use Rattle.rbd_flat.specs.declared.entry.Cause.{Cause}
use Rattle.rbd_kinds.specs.declared.id.Instance.{Instance}
use Rattle.rbd_kinds.specs.declared.id.SiteId.{SiteId}
use Rattle.rbd_kinds.specs.declared.reply.Reply.{Reply}
use Rattle.rbd_world.specs.Run.{AfterStop, Began, Did, Doer, Expired, Happening, Heard, House, Itself, Nothing, OnWay, Refused, Restarted, Stopped, Trimmed, Waited, cause_of, ending_entries, entries_of, entry_by, entry_unfenced, fence_of}
use Rattle.rbd_schedule.specs.Starts.{is_ended}
use Rattle.rbd_schedule.proofs.Quiet.{no_end}
use Rattle.rbd_plays.specs.OneChanger.{is_replied, is_reply_of}

-- neither a stop nor a restart
abbrev pub GoesOnRunning : Happening → Type 0
GoesOnRunning (Stopped who wanted lost) = ⊥
GoesOnRunning (Restarted who) = ⊥
GoesOnRunning h = Unit {0}

unfenced_is_no_reply : (line : ℕ) (c : Cause) (s : SiteId) (number : ℕ) (e : Option Effect) → is_reply_of line (entry_unfenced c s number e) ≡ false
unfenced_is_no_reply line c s number None = refl
unfenced_is_no_reply line c s number (Some e) = refl

pub no_reply : (line : ℕ) (c : Cause) (s : SiteId) (number : ℕ) (fence : Option Instance) (e : Option Effect) → is_reply_of line (entry_by c s number fence e) ≡ false
no_reply line c s number None e = unfenced_is_no_reply line c s number e
no_reply line c s number (Some who) e = refl

endings_reply : (line : ℕ) (by : Doer) (reply : Option Reply) → is_ended line (ending_entries by reply) ≡ is_replied line (ending_entries by reply)
endings_reply line (Itself other) None = refl
endings_reply line (Itself other) (Some reply) = refl
endings_reply line (OnWay other) None = refl
endings_reply line (OnWay other) (Some reply) = refl
endings_reply line House reply = refl
endings_reply line (AfterStop slot) reply = refl

pub ends_by_replies : (line : ℕ) (h : Happening) → GoesOnRunning h → is_ended line (entries_of h) ≡ is_replied line (entries_of h)
ends_by_replies line Nothing goes = refl
ends_by_replies line Waited goes = refl
ends_by_replies line (Began asked slot) goes = refl
ends_by_replies line (Did o reply) goes =
    ap (λ b. b || is_ended line (ending_entries o.by reply)) (no_end line (cause_of o.instance o.by) o.site o.number (fence_of o.op o.answer) o.effect)
    ∙ endings_reply line o.by reply
    ∙ sym (ap (λ b. b || is_replied line (ending_entries o.by reply)) (no_reply line (cause_of o.instance o.by) o.site o.number (fence_of o.op o.answer) o.effect))
ends_by_replies line (Refused s other reply) goes = refl
ends_by_replies line (Trimmed s number image object) goes = refl
ends_by_replies line (Expired s number image who) goes = refl
ends_by_replies line (Heard notice) goes = refl
ends_by_replies line (Stopped who wanted lost) goes = absurd goes
ends_by_replies line (Restarted who) goes = absurd goes
