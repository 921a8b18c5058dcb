-- What comes behind a stop was wanted at the last one, by its slot, and nothing of the slot came
-- since.
use Rattle.std.proofs.Common.{◌≡◌, ℕ, ◌==◌, ◌||◌, cond, Bool, true, false, List, [], ◌∷◌, ◌++◌, Option, Some, None, refl, ap, ◌∙◌, subst}
use Rattle.std.proofs.lemmas.Option.{none-some, same_Some}
use Rattle.rbd_kinds.specs.declared.id.Instance.{Instance}
use Rattle.rbd_kinds.specs.declared.id.SiteId.{SiteId}
use Rattle.rbd_kinds.specs.declared.operation.Op.{Op}
use Rattle.rbd_kinds.specs.declared.reply.Reply.{Reply}
use Rattle.rbd_slots.specs.Session.{held_in}
use Rattle.rbd_world.specs.Late.{comes_among, comes_in, is_stopped_among, stops_in}
use Rattle.rbd_world.specs.Run.{Doer, Itself, OnWay, House, AfterStop, Happening, Nothing, Waited, Began, Did, Refused, Trimmed, Expired, Heard, Stopped, Restarted, Operation, Sent, comes_of, sent_after, sent_of}
use Rattle.rbd_world.specs.Sound.{EndsItsLine, IsDue, IsOf, IsRight, IsStop}
use Rattle.rbd_world.proofs.Runs.{done_of}
use Rattle.rbd_replies.specs.Sent.{ComesOnce, WasSent, WasSentBy}

-- the last stop of a session left it, and nothing of the slot came since
record IsLeftBy (session slot : ℕ) (x : Sent) (run : List Happening) : Type 0 where
  wanted : List (Option (SiteId × Op))
  lost : List ℕ
  until : List Happening
  since : List Happening
  are : run ≡ since ++ Stopped x.instance wanted lost ∷ until
  is : held_in slot wanted ≡ Some (x.site, x.op)
  last : is_stopped_among session since ≡ false
  new : comes_among session slot since ≡ false

module _ (session slot : ℕ) (x : Sent) where
  one_more : (h : Happening) (run : List Happening) → stops_in session h ≡ false → comes_in session slot h ≡ false → IsLeftBy session slot x run → IsLeftBy session slot x (h ∷ run)
  one_more h run stays still left = record {
    wanted = left.wanted;
    lost = left.lost;
    until = left.until;
    since = h ∷ left.since;
    are = ap (λ r. h ∷ r) left.are;
    is = left.is;
    last = ap (λ b. b || is_stopped_among session left.since) stays ∙ left.last;
    new = ap (λ b. b || comes_among session slot left.since) still ∙ left.new;
  }

  -- by the stop itself
  stop_left : (who : Instance) (wanted : List (Option (SiteId × Op))) (lost : List ℕ) (run : List Happening) (slot_wanted : Option (SiteId × Op)) → held_in slot wanted ≡ slot_wanted
      → sent_of who slot_wanted ≡ Some x → IsLeftBy session slot x (Stopped who wanted lost ∷ run)
  stop_left who wanted lost run None held is = absurd (none-some x is)
  stop_left who wanted lost run (Some w) held is =
      subst (λ y. IsLeftBy session slot y (Stopped who wanted lost ∷ run)) (same_Some (record { instance = who; site = w.0; op = w.1 }) x is)
      (record { wanted = wanted; lost = lost; until = run; since = []; are = refl; is = held; last = refl; new = refl })

  left_by : (run : List Happening) → sent_after session slot run ≡ Some x → IsLeftBy session slot x run
  left_by [] is = absurd (none-some x is)
  left_by (Stopped who wanted lost ∷ run) is = go (who.session == session) refl is (left_by run)
    where
      go : (b : Bool) → (who.session == session) ≡ b → cond b (sent_of who (held_in slot wanted)) (sent_after session slot run) ≡ Some x
          → (sent_after session slot run ≡ Some x → IsLeftBy session slot x run) → IsLeftBy session slot x (Stopped who wanted lost ∷ run)
      go true own is before = stop_left who wanted lost run (held_in slot wanted) refl is
      go false other is before = one_more (Stopped who wanted lost) run other refl (before is)
  left_by (Did o reply ∷ run) is = go (comes_of session slot o.instance o.by) refl is (left_by run)
    where
      go : (b : Bool) → comes_of session slot o.instance o.by ≡ b → cond b None (sent_after session slot run) ≡ Some x
          → (sent_after session slot run ≡ Some x → IsLeftBy session slot x run) → IsLeftBy session slot x (Did o reply ∷ run)
      go true comes is before = absurd (none-some x is)
      go false stays is before = one_more (Did o reply) run refl stays (before is)
  left_by (Nothing ∷ run) is = one_more Nothing run refl refl (left_by run is)
  left_by (Waited ∷ run) is = one_more Waited run refl refl (left_by run is)
  left_by (Began asked at ∷ run) is = one_more (Began asked at) run refl refl (left_by run is)
  left_by (Refused s line reply ∷ run) is = one_more (Refused s line reply) run refl refl (left_by run is)
  left_by (Trimmed s number image object ∷ run) is = one_more (Trimmed s number image object) run refl refl (left_by run is)
  left_by (Expired s number image who ∷ run) is = one_more (Expired s number image who) run refl refl (left_by run is)
  left_by (Heard notice ∷ run) is = one_more (Heard notice) run refl refl (left_by run is)
  left_by (Restarted who ∷ run) is = one_more (Restarted who) run refl refl (left_by run is)

-- ---- of a run that is right

pub right_until : (homes : ℕ → SiteId) (since until : List Happening) → IsRight homes (since ++ until) → IsRight homes until
right_until homes [] until right = right
right_until homes (h ∷ since) until right = right_until homes since until right.2

module _ (homes : ℕ → SiteId) (run : List Happening) (o : Operation) where
  -- it ends no line
  ends_none : (reply : Option Reply) (slot : ℕ) → IsDue homes (Did o reply) run → o.by ≡ AfterStop slot → reply ≡ None
  ends_none None slot due is = refl
  ends_none (Some told) slot due is = absurd (subst (EndsItsLine homes o told run) is due.1)

  pub was_sent : (reply : Option Reply) (slot : ℕ) → IsRight homes (Did o reply ∷ run) → o.by ≡ AfterStop slot → WasSent homes slot o reply run
  was_sent reply slot right is =
      let whose : IsOf (AfterStop slot) o.instance o.site o.op run = subst (λ d. IsOf d o.instance o.site o.op run) is (done_of homes o reply run right.1).whose in
      let left = left_by o.instance.session slot (record { instance = o.instance; site = o.site; op = o.op }) run whose in
      let stop : IsStop homes o.instance left.wanted left.lost left.until
      = (right_until homes left.since (Stopped o.instance left.wanted left.lost ∷ left.until) (subst (IsRight homes) left.are right.2)).1 in
      record {
        wanted = left.wanted;
        lost = left.lost;
        until = left.until;
        since = left.since;
        are = left.are;
        is = left.is;
        stop = stop;
        left = stop.left slot (o.site, o.op) left.is;
        last = left.last;
        new = left.new;
        silent = ends_none reply slot right.1 is;
      }

  pub comes_once : (reply : Option Reply) → IsRight homes (Did o reply ∷ run) → ComesOnce homes o reply run
  comes_once reply right = by o.by refl
    where
      by : (doer : Doer) → o.by ≡ doer → WasSentBy homes doer o reply run
      by (Itself line) is = tt
      by (OnWay line) is = tt
      by House is = tt
      by (AfterStop slot) is = was_sent reply slot right is
