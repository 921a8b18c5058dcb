-- What has been done when a request has ended.
use Rattle.std.proofs.Common.{◌≡◌, inl, inr, ℕ, List, [], ◌∷◌, Option, Some, None, ap, ◌∙◌}
use Rattle.rbd_kinds.specs.declared.sharing.Sharing.TheVariants as sharing
use Rattle.rbd_kinds.specs.declared.answer.Answer.{Answer}
use Rattle.rbd_kinds.specs.declared.answer.Answer.TheVariants as answer
use Rattle.rbd_kinds.specs.declared.id.SiteId.{SiteId}
use Rattle.rbd_kinds.specs.declared.machine.Fed.{Fed}
use Rattle.rbd_kinds.specs.declared.operation.Op.{Op}
use Rattle.rbd_kinds.specs.declared.reply.Reply.{Reply}
use Rattle.rbd_kinds.specs.declared.reply.Reply.TheVariants as reply
use Rattle.rbd_machine.specs.About.{look_up}
use Rattle.rbd_machine.specs.Path.{Answered, IsWalk, found, looked_at}
use Rattle.rbd_machine.specs.Plan.{Plan, Return, Goto}
use Rattle.rbd_machine.specs.Refused.{refuses_none}
use Rattle.rbd_machine.specs.Steps.{own, on_id, on_done}
use Rattle.rbd_machine.specs.Wait as wait
use Rattle.rbd_machine.specs.declared.reason.Reason.TheVariants as reason
use Rattle.rbd_machine.proofs.Walked.{ended, absent_ends, asked_to, awaited_to, went_on, awaited, told_image, told_done, changed, nothing_ends_otherwise}
use Rattle.rbd_meaning.specs.Closes.{ClosesBy, Closes, LooksTwice}
use Rattle.rbd_lock.specs.Steps.{lock_drop, released_lock}
use Rattle.rbd_meaning.specs.Straight.{all_told, GoesStraight, Straight}
use Rattle.rbd_session.specs.Close.{replies_done, unwatch, custom, unwatching, on_dropped, dropping, holding, joining, close, quiesced, quiesce, straight, telling}
use Rattle.rbd_session.specs.Meaning.{answered_with, EndsWatch, EndsWatchOnceTold, GoesOnBehind, Ends}

-- ---- to any end

module _ (site : SiteId) (r : Reply) where
  -- behind the last operation nothing is done
  nothing_behind : (a : Answer) (feds : List Fed) (steps : List Answered) → IsWalk Goto (on_done replies_done a) feds steps (Return r) → steps ≡ []
  nothing_behind answer.Done feds steps walk = (ended reply.Done feds steps (Return r) walk).0
  nothing_behind a feds steps walk = absent_ends a feds steps (Return r) walk

  module _ (image : ℕ) where
    ends_watch : (feds : List Fed) (steps : List Answered) → IsWalk Goto (unwatching site image) feds steps (Return r) → EndsWatch site image steps
    ends_watch feds steps walk =
        let w = asked_to r site reason.Own (unwatch image) (on_done replies_done) feds steps walk in
        (w.answer, w.are ∙ ap (λ s. answered_with site (unwatch image) w.answer ∷ s) (nothing_behind w.answer w.more w.rest w.walk))

    ends_once_told : (told : Answer) (feds : List Fed) (steps : List Answered) → IsWalk Goto (on_done (unwatching site image) told) feds steps (Return r) → EndsWatchOnceTold site image told steps
    ends_once_told answer.Done feds steps walk = ends_watch feds steps walk
    ends_once_told a feds steps walk = absent_ends a feds steps (Return r) walk

    goes_on_behind : (dropped : Answer) (feds : List Fed) (steps : List Answered) → IsWalk Goto (on_dropped site image dropped) feds steps (Return r) → GoesOnBehind site image dropped steps
    goes_on_behind answer.Done feds steps walk =
        let w = asked_to r site reason.Own (released_lock image) (on_done (unwatching site image)) feds steps walk in
        record { told = w.answer; rest = w.rest; are = w.are; ends_watch = ends_once_told w.answer w.more w.rest w.walk }
    goes_on_behind answer.Changed feds steps walk = ends_watch feds steps walk
    goes_on_behind a feds steps walk = absent_ends a feds steps (Return r) walk

  ends_behind : (name : List ℕ) (a : Answer) (feds : List Fed) (steps rest : List Answered) → steps ≡ answered_with site (look_up name) a ∷ rest
      → IsWalk Goto (on_id (joining site) a) feds rest (Return r) → Ends site name steps
  ends_behind name (answer.Id image) feds steps rest are walk =
      let j = awaited_to r (wait.Join site image sharing.Alone) (holding site image) feds rest walk in
      let h = awaited_to r (wait.Hold site image) (dropping site image) j.more rest j.walk in
      let d = asked_to r site reason.Own (lock_drop image) (on_dropped site image) h.more rest h.walk in
      inl (record {
        image = image;
        dropped = d.answer;
        behind = d.rest;
        are = are ∙ ap (λ s. found site name image ∷ s) d.are;
        goes_on = goes_on_behind image d.answer d.more d.rest d.walk;
      })
  ends_behind name a feds steps rest are walk =
      inr (record { told = a; are = are ∙ ap (λ s. answered_with site (look_up name) a ∷ s) (absent_ends a feds rest (Return r) walk) })

  pub close_ends : (name : List ℕ) (feds : List Fed) (steps : List Answered) → IsWalk Goto (close site name) feds steps (Return r) → Ends site name steps
  close_ends name feds steps walk =
      let w = asked_to r site reason.Own (look_up name) (on_id (joining site)) feds steps walk in
      ends_behind name w.answer w.more steps w.rest w.are w.walk

-- ---- done

-- the image was found first
found_then : (site : SiteId) (name : List ℕ) (image : ℕ) (a : Answer) (steps rest behind : List Answered)
    → steps ≡ answered_with site (look_up name) a ∷ rest → a ≡ answer.Id image → rest ≡ behind → steps ≡ found site name image ∷ behind
found_then site name image a steps rest behind are is then =
    are ∙ ap (λ b. answered_with site (look_up name) b ∷ rest) is ∙ ap (λ s. found site name image ∷ s) then

abbrev is_done : Plan
is_done = Return reply.Done

-- an operation that was done, and what came then
record WasDone (site : SiteId) (o : Op) (next : Plan) (steps : List Answered) : Type 0 where
  pub more : List Fed
  pub rest : List Answered
  pub are : steps ≡ answered_with site o answer.Done ∷ rest
  pub walk : IsWalk Goto next more rest is_done

module _ (site : SiteId) where
  was_done : (o : Op) (next : Plan) (feds : List Fed) (steps : List Answered)
      → IsWalk Goto (own site o (on_done next)) feds steps is_done → WasDone site o next steps
  was_done o next feds steps walk =
      let w = went_on is_done tt site reason.Own o (on_done next) feds steps walk in
      let d = told_done is_done tt next w.answer w.more w.rest w.walk in
      record { more = w.more; rest = w.rest; are = w.are ∙ ap (λ a. answered_with site o a ∷ w.rest) d.is; walk = d.walk }

  -- the last operation was done
  last_done : (o : Op) (feds : List Fed) (steps : List Answered) → IsWalk Goto (own site o (on_done replies_done)) feds steps is_done → steps ≡ answered_with site o answer.Done ∷ []
  last_done o feds steps walk =
      let w = was_done o replies_done feds steps walk in
      w.are ∙ ap (λ s. answered_with site o answer.Done ∷ s) (ended reply.Done w.more w.rest is_done w.walk).0

  closes_by : (image : ℕ) (dropped : Answer) (feds : List Fed) (steps : List Answered) → IsWalk Goto (on_dropped site image dropped) feds steps is_done → ClosesBy site image dropped steps
  closes_by image answer.Done feds steps walk =
      let w = was_done (released_lock image) (unwatching site image) feds steps walk in
      w.are ∙ ap (λ s. answered_with site (released_lock image) answer.Done ∷ s) (last_done (unwatch image) w.more w.rest w.walk)
  closes_by image answer.Changed feds steps walk = last_done (unwatch image) feds steps walk
  closes_by image a feds steps walk = nothing_ends_otherwise is_done tt a feds steps walk

  pub closes : (name : List ℕ) (feds : List Fed) (steps : List Answered) → IsWalk Goto (close site name) feds steps is_done → Closes site name steps
  closes name feds steps walk =
      let w = went_on is_done tt site reason.Own (look_up name) (on_id (joining site)) feds steps walk in
      let i = told_image is_done tt (joining site) w.answer w.more w.rest w.walk in
      let j = awaited is_done tt (wait.Join site i.image sharing.Alone) (holding site i.image) w.more w.rest i.walk in
      let h = awaited is_done tt (wait.Hold site i.image) (dropping site i.image) j.more w.rest j.walk in
      let d = went_on is_done tt site reason.Own (lock_drop i.image) (on_dropped site i.image) h.more w.rest h.walk in
      record {
        image = i.image;
        dropped = d.answer;
        behind = d.rest;
        are = found_then site name i.image w.answer steps w.rest (answered_with site (lock_drop i.image) d.answer ∷ d.rest) w.are i.is d.are;
        closes = closes_by i.image d.answer d.more d.rest d.walk;
      }

  pub looks_twice : (name : List ℕ) (feds : List Fed) (steps : List Answered) → IsWalk Goto (quiesce site name) feds steps is_done → LooksTwice site name steps
  looks_twice name feds steps walk =
      let c = changed is_done tt site name sharing.Alone refuses_none quiesced feds steps walk in
      record {
        image = c.image;
        first = c.first;
        own = c.own;
        are =
            c.are ∙ ap (λ s. found site name c.image ∷ looked_at site c.image c.first ∷ looked_at site c.image c.own ∷ s)
            (ended reply.Done c.more c.rest is_done c.walk).0;
      }

  told_all : (image : ℕ) (o : Option (List ℕ)) (feds : List Fed) (steps : List Answered) → IsWalk Goto (telling site o image) feds steps is_done → steps ≡ all_told site image o
  told_all image None feds steps walk = (ended reply.Done feds steps is_done walk).0
  told_all image (Some bytes) feds steps walk = last_done (custom image bytes) feds steps walk

  pub goes_straight : (s : Straight) (feds : List Fed) (steps : List Answered) → IsWalk Goto (straight site s) feds steps is_done → GoesStraight site s steps
  goes_straight s feds steps walk =
      let w = went_on is_done tt site reason.Own (look_up s.name) (on_id (telling site s.tells)) feds steps walk in
      let i = told_image is_done tt (telling site s.tells) w.answer w.more w.rest w.walk in
      record {
        image = i.image;
        are = found_then site s.name i.image w.answer steps w.rest (all_told site i.image s.tells) w.are i.is (told_all i.image s.tells w.more w.rest i.walk);
      }
