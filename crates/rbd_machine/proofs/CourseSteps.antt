-- Plans that keep to their line, step by step.
use Rattle.std.proofs.Common.{◌≡◌, ℕ, List, [], true, false, cond, Option, Some, None, refl, ap, sym, subst}
use Rattle.std.specs.Prelude.{◌&&◌}
use Rattle.rbd_kinds.specs.declared.sharing.Sharing.{Sharing}
use Rattle.rbd_machine.specs.Course.{Course, PlaceInLine, answered, beginning, due_of, course_past_look, objects_asked}
use Rattle.rbd_machine.specs.Orderly.{IsOrderly}
use Rattle.rbd_machine.specs.declared.stage.Stage.{Stage}
use Rattle.rbd_machine.specs.declared.stage.Stage.TheVariants as stage
use Rattle.rbd_kinds.specs.declared.answer.Answer.{Answer}
use Rattle.rbd_kinds.specs.declared.answer.Answer.TheVariants as answer
use Rattle.rbd_kinds.specs.declared.header.HeaderView.{HeaderView}
use Rattle.rbd_kinds.specs.declared.header_op.HeaderOp.TheVariants as header
use Rattle.rbd_kinds.specs.declared.id.SiteId.{SiteId}
use Rattle.rbd_kinds.specs.declared.layout.Extent.{Extent}
use Rattle.rbd_kinds.specs.declared.operation.Op.TheVariants as op
use Rattle.rbd_commands.specs.declared.refusal.Refusal.{Refusal}
use Rattle.rbd_kinds.specs.Form.{IsHeaderInForm}
use Rattle.rbd_kinds.proofs.Images.{at_itself}
use Rattle.rbd_machine.specs.Answers.{CanGive}
use Rattle.rbd_machine.specs.Label.{Label}
use Rattle.rbd_machine.specs.Plan.{Plan}
use Rattle.rbd_machine.specs.Steps as steps
use Rattle.rbd_machine.specs.Steps.{not_there, on_id, on_header, on_done, unless, change_plan}

-- ---- a change on its way to its look under the lock

-- its place, and its course up to that look
abbrev pub place_at : (sharing : Sharing) → SiteId → (image : ℕ) → Stage → PlaceInLine
place_at sharing s image stage = record { site = s; image = image; sharing = sharing; stage = stage }

abbrev pub course_at : (sharing : Sharing) → SiteId → (image : ℕ) → Stage → Course
course_at sharing s image stage = record { place = Some (place_at sharing s image stage); turn = None; due = []; objects = [] }

-- its course behind that look
abbrev pub own_course : Option Extent → (sharing : Sharing) → SiteId → (image : ℕ) → HeaderView → Course
own_course e sharing s image h = record {
  place = Some (place_at sharing s image stage.Past);
  turn = None;
  due = due_of (Some (place_at sharing s image stage.Waiting)) (objects_asked h e);
  objects = [];
}

-- a look before the lock is nobody's own
first_told : (e : Option Extent) (sharing : Sharing) (s : SiteId) (image : ℕ) (h : HeaderView)
    → answered e (course_at sharing s image stage.Joined) s (op.Header image header.Get) (answer.Header h) ≡ course_at sharing s image stage.Joined
first_told e sharing s image h =
    ap (λ b. cond (b && false) (course_past_look e h (course_at sharing s image stage.Joined)) (course_at sharing s image stage.Joined)) (at_itself s image)

own_told : (e : Option Extent) (sharing : Sharing) (s : SiteId) (image : ℕ) (h : HeaderView)
    → answered e (course_at sharing s image stage.Waiting) s (op.Header image header.Get) (answer.Header h) ≡ own_course e sharing s image h
own_told e sharing s image h =
    ap (λ b. cond (b && true) (course_past_look e h (course_at sharing s image stage.Waiting)) (course_at sharing s image stage.Waiting)) (at_itself s image)

-- ---- steps

module _ (e : Option Extent) (at : Label → Course) where
  pub orderly_not_there : (c : Course) (a : Answer) → IsOrderly e at true c (not_there a)
  orderly_not_there c answer.Fenced = tt
  orderly_not_there c _ = tt

  pub orderly_on_id : (c : Course) (next : ℕ → Plan) → ((image : ℕ) → IsOrderly e at true c (next image)) → (a : Answer) → IsOrderly e at true c (on_id next a)
  orderly_on_id c next orderly (answer.Id image) = orderly image
  orderly_on_id c next orderly a = orderly_not_there c a

  pub orderly_on_header : (image : ℕ) (course : Answer → Course) (next : HeaderView → Plan)
      → ((h : HeaderView) → IsHeaderInForm h → IsOrderly e at true (course (answer.Header h)) (next h))
      → (a : Answer) → CanGive (op.Header image header.Get) a → IsOrderly e at true (course a) (on_header next a)
  orderly_on_header image course next orderly (answer.Header h) can = orderly h can.form
  orderly_on_header image course next orderly a can = orderly_not_there (course a) a

  pub orderly_on_done : (c : Course) (next : Plan) → IsOrderly e at true c next → (a : Answer) → IsOrderly e at true c (on_done next a)
  orderly_on_done c next orderly answer.Done = orderly
  orderly_on_done c next orderly a = orderly_not_there c a

  pub orderly_unless : (c : Course) (r : Option Refusal) (next : Plan) → (r ≡ None → IsOrderly e at true c next) → IsOrderly e at true c (unless r next)
  orderly_unless c None next orderly = orderly refl
  orderly_unless c (Some r) next orderly = tt

  -- a change, whatever it does behind its look under the lock
  pub orderly_change : (s : SiteId) (name : List ℕ) (sharing : Sharing) (refuses : HeaderView → Option Refusal) (act : ℕ → HeaderView → Plan)
      → ((image : ℕ) (h : HeaderView) → IsHeaderInForm h → refuses h ≡ None → IsOrderly e at true (own_course e sharing s image h) (act image h))
      → IsOrderly e at true beginning (change_plan s name sharing refuses act)
  orderly_change s name sharing refuses act acts = (
    refl,
    λ found can.
        orderly_on_id beginning (steps.joining s sharing refuses act) (λ image. (
          (refl, refl),
          (
            refl,
            orderly_on_header image (answered e (course_at sharing s image stage.Joined) s (op.Header image header.Get)) (steps.looked s refuses act image) (λ h form.
                subst (λ c. IsOrderly e at true c (steps.looked s refuses act image h)) (sym (first_told e sharing s image h))
                (orderly_unless (course_at sharing s image stage.Joined) (refuses h) (steps.holding s refuses act image) (λ may_wait. (
                  (at_itself s image, refl),
                  (
                    refl,
                    orderly_on_header image (answered e (course_at sharing s image stage.Waiting) s (op.Header image header.Get)) (steps.owned refuses act image) (λ own form.
                        subst (λ c. IsOrderly e at true c (steps.owned refuses act image own)) (sym (own_told e sharing s image own))
                        (orderly_unless (own_course e sharing s image own) (refuses own) (act image own) (acts image own form))),
                  ),
                )))),
          ),
        ))
        found,
  )
