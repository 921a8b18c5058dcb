-- The operations of a removal are its image's.
use Rattle.std.proofs.Common.{◌≡◌, ℕ, Bool, true, false, cond, List, [], ◌∷◌, ◌++◌, map, Option, Some, None, refl}
use Rattle.rbd_commands.specs.declared.refusal.Refusal.TheVariants as refusal
use Rattle.rbd_kinds.specs.declared.answer.Answer.{Answer}
use Rattle.rbd_kinds.specs.declared.answer.Answer.TheVariants as answer
use Rattle.rbd_kinds.specs.declared.header.HeaderView.{HeaderView}
use Rattle.rbd_kinds.specs.declared.header.ParentLink.{ParentLink}
use Rattle.rbd_kinds.specs.declared.header.SnapView.{SnapView}
use Rattle.rbd_kinds.specs.declared.id.SiteId.{SiteId}
use Rattle.rbd_kinds.specs.declared.machine.Fed.{Fed}
use Rattle.rbd_kinds.specs.declared.operation.Op.{Op}
use Rattle.rbd_kinds.specs.declared.reply.Reply.TheVariants as reply
use Rattle.rbd_machine.specs.About.{AreOwn, image_of, look_up}
use Rattle.rbd_machine.specs.Path.{Answered, IsWalk}
use Rattle.rbd_machine.specs.Plan.{Plan, Goto, Return}
use Rattle.rbd_machine.specs.Steps.{on_bits, on_id, owned, refused}
use Rattle.rbd_machine.proofs.About.{IsOfImage, are_own, by_on_id, of_not_there, of_on_header, of_unless}
use Rattle.rbd_meaning.specs.Removals.{image_removal_refuses, link_of, may_be_gone, removal, removing_journal, removing_map_of, removing_object, unlinking, used_objects, watchers_refuse}
use Rattle.rbd_image.specs.Remove.{holding_it, joining_its_line, looked_at_it, on_gone, on_watchers, removal_plan, remove_each, remove_image, remove_owned, unless_watched}

-- each operation is of the image
abbrev AreOf : (image : ℕ) → List Op → Type 0
AreOf image [] = Unit {0}
AreOf image (o ∷ ops) = (image_of o ≡ Some image) × AreOf image ops

module _ (image : ℕ) where
  both_of : (one two : List Op) → AreOf image one → AreOf image two → AreOf image (one ++ two)
  both_of [] two of others = others
  both_of (o ∷ one) two (first, of) others = (first, both_of one two of others)

  links_of : (link : Option ParentLink) → AreOf image (unlinking image link)
  links_of None = tt
  links_of (Some link) = (refl, tt)

  objects_of : (objects : List ℕ) → AreOf image (map (removing_object image) objects)
  objects_of [] = tt
  objects_of (o ∷ objects) = (refl, objects_of objects)

  maps_of : (snaps : List SnapView) → AreOf image (map (removing_map_of image) snaps)
  maps_of [] = tt
  maps_of (s ∷ snaps) = (refl, maps_of snaps)

  journals_of : (journal : Bool) → AreOf image (removing_journal image journal)
  journals_of false = tt
  journals_of true = (refl, tt)

  removal_of : (h : HeaderView) (bits : List ℕ) → AreOf image (removal image h bits)
  removal_of h bits = (
    refl,
    (
      refl,
      both_of (unlinking image (link_of h)) _ (links_of (link_of h))
          (both_of (map (removing_object image) (used_objects bits)) _ (objects_of (used_objects bits))
          (refl, both_of (map (removing_map_of image) h.snaps) (removing_journal image h.journal) (maps_of h.snaps) (journals_of h.journal))),
    ),
  )

  module _ (site : SiteId) where
    of_on_gone : (o : Op) (next : Plan) → IsOfImage site image next → (a : Answer) → IsOfImage site image (on_gone o next a)
    of_on_gone o next of answer.Done = of
    of_on_gone o next of answer.Absent = go (may_be_gone o)
      where
        go : (b : Bool) → IsOfImage site image (cond b next (refused refusal.NoImage))
        go true = of
        go false = tt
    of_on_gone o next of a = of_not_there site image a

    of_on_bits : (next : List ℕ → Plan) → ((bits : List ℕ) → IsOfImage site image (next bits)) → (a : Answer) → IsOfImage site image (on_bits next a)
    of_on_bits next of (answer.Bits bits) = of bits
    of_on_bits next of a = of_not_there site image a

    of_on_watchers : (session : ℕ) (next : Plan) → IsOfImage site image next → (a : Answer) → IsOfImage site image (on_watchers session next a)
    of_on_watchers session next of (answer.Instances watchers) = of_unless site image (watchers_refuse session watchers) next of
    of_on_watchers session next of a = of_not_there site image a

    of_each : (ops : List Op) (next : Plan) → AreOf image ops → IsOfImage site image next → IsOfImage site image (remove_each site ops next)
    of_each [] next are of = of
    of_each (o ∷ ops) next (first, are) of = (refl, first, of_on_gone o (remove_each site ops next) (of_each ops next are of))

    of_remove : (h : HeaderView) (next : Plan) → IsOfImage site image next → IsOfImage site image (removal_plan site image h next)
    of_remove h next of =
        (refl, refl, of_on_bits (λ bits. remove_each site (removal image h bits) next) (λ bits. of_each (removal image h bits) next (removal_of h bits) of))

    of_watched : (session : ℕ) (next : Plan) → IsOfImage site image next → IsOfImage site image (unless_watched site session image next)
    of_watched session next of = (refl, refl, of_on_watchers session next of)

    of_joining : (session : ℕ) → IsOfImage site image (joining_its_line site session image)
    of_joining session = (
      refl,
      refl,
      of_on_header site image (looked_at_it site session image) (λ h.
          of_unless site image (image_removal_refuses h) (unless_watched site session image (holding_it site session image))
          (of_watched session (holding_it site session image) (
            refl,
            refl,
            of_on_header site image (owned image_removal_refuses (remove_owned site session) image) (λ own.
                of_unless site image (image_removal_refuses own) (remove_owned site session image own)
                (of_watched session (removal_plan site image own (Return reply.Done)) (of_remove own (Return reply.Done) tt))),
          ))),
    )

pub removal_is_own : (site : SiteId) (session : ℕ) (name : List ℕ) (feds : List Fed) (steps : List Answered) (last : Plan) → IsWalk Goto (remove_image site session name) feds steps last → AreOwn site (look_up name) steps
removal_is_own site session name feds steps last walk =
    are_own site (look_up name) (on_id (joining_its_line site session)) (by_on_id site (joining_its_line site session) (λ image. of_joining image site session)) feds steps last walk
