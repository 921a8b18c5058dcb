-- The operations of a resize are its own.
use Rattle.std.proofs.Common.{◌≡◌, ℕ, List, Some, refl}
use Rattle.rbd_kinds.specs.declared.sharing.Sharing.TheVariants as sharing
use Rattle.rbd_kinds.specs.declared.answer.Answer.{Answer}
use Rattle.rbd_kinds.specs.declared.answer.Answer.TheVariants as answer
use Rattle.rbd_kinds.specs.declared.header.HeaderView.{HeaderView}
use Rattle.rbd_kinds.specs.declared.id.SiteId.{SiteId}
use Rattle.rbd_kinds.specs.declared.layout.Part.{Part}
use Rattle.rbd_kinds.specs.declared.machine.Fed.{Fed}
use Rattle.rbd_machine.specs.About.{AreOwn, image_of, look_up}
use Rattle.rbd_machine.specs.Path.{Answered, IsWalk}
use Rattle.rbd_machine.specs.Plan.{Plan, Goto}
use Rattle.rbd_machine.specs.Steps.{applied, joining, on_bits, on_id}
use Rattle.rbd_machine.proofs.About.{IsOfImage, are_own, by_on_id, of_joining, of_not_there, of_on_done}
use Rattle.rbd_meaning.specs.Resizes.{resize_refuses}
use Rattle.rbd_pieces.specs.Gather.{on_bytes}
use Rattle.rbd_meaning.specs.Count.{object_count}
use Rattle.rbd_image.specs.Resize.{set_size, size_change}
use Rattle.rbd_image.proofs.Built.{Rules, built_resize}

module _ (site : SiteId) (image : ℕ) where
  of_on_bits : (k : List ℕ → Plan) → ((bits : List ℕ) → IsOfImage site image (k bits)) → (a : Answer) → IsOfImage site image (on_bits k a)
  of_on_bits k of (answer.Bits bits) = of bits
  of_on_bits k of a = of_not_there site image a

  of_on_bytes : (parts : List Part) (k : List ℕ → Plan) → ((bytes : List ℕ) → IsOfImage site image (k bytes)) → (a : Answer) → IsOfImage site image (on_bytes parts k a)
  of_on_bytes parts k of (answer.Bytes bytes) = of bytes
  of_on_bytes parts k of answer.Absent = of _
  of_on_bytes parts k of answer.Fenced = tt
  of_on_bytes parts k of _ = tt

  pub of_rules : Rules (λ k p. IsOfImage site image k) (λ k p. IsOfImage site image k) (λ o. image_of o ≡ Some image) (λ inside. Unit {0}) site image
  of_rules = record {
    done = λ o k p fine of. (refl, fine, of_on_done site image k of);
    read = λ snap piece k p of. (refl, refl, of_on_bytes piece.parts k of);
    bits = λ k p of. (refl, refl, of_on_bits k of);
    first = λ k p of. of;
    set = λ number state. refl;
    zero = λ context piece. refl;
    must = λ may context piece. refl;
    empty = λ context number. refl;
    remove = λ context number. refl;
    full = λ context number bytes. refl;
    room = λ objects. refl;
    size = λ to. refl;
  }

  of_set_size : (to : ℕ) (h : HeaderView) → IsOfImage site image (set_size site to image h)
  of_set_size to h =
      built_resize (λ k p. IsOfImage site image k) (λ k p. IsOfImage site image k) (λ o. image_of o ≡ Some image) (λ inside. Unit {0}) site image of_rules h (λ number. tt) to (object_count h.layout to)
      (applied site image) (applied site image) tt

pub resize_is_own : (site : SiteId) (name : List ℕ) (to : ℕ) (feds : List Fed) (steps : List Answered) (last : Plan) → IsWalk Goto (size_change site name to) feds steps last → AreOwn site (look_up name) steps
resize_is_own site name to feds steps last walk =
    let way = joining site sharing.Alone (resize_refuses to) (set_size site to) in
    are_own site (look_up name) (on_id way) (by_on_id site way (λ image. of_joining site image sharing.Alone (resize_refuses to) (set_size site to) (of_set_size site image to))) feds steps last walk
