-- The operations of each request are its own.
use Rattle.std.proofs.Common.{ℕ, List, Option, Some, None, refl}
use Rattle.rbd_kinds.specs.declared.sharing.Sharing.TheVariants as sharing
use Rattle.rbd_kinds.specs.declared.answer.Answer.{Answer}
use Rattle.rbd_kinds.specs.declared.answer.Answer.TheVariants as answer
use Rattle.rbd_kinds.specs.declared.id.SiteId.{SiteId}
use Rattle.rbd_kinds.specs.declared.machine.Fed.{Fed}
use Rattle.rbd_machine.specs.About.{look_up, AreOwn}
use Rattle.rbd_machine.specs.Path.{Answered, IsWalk}
use Rattle.rbd_machine.specs.Plan.{Plan, Goto}
use Rattle.rbd_machine.specs.Refused.{refuses_none}
use Rattle.rbd_machine.specs.Steps.{on_id, joining as change_joining}
use Rattle.rbd_machine.proofs.About.{IsOfImage, of_not_there, of_on_done, of_joining, by_on_id, are_own}
use Rattle.rbd_meaning.specs.Straight.{Straight}
use Rattle.rbd_session.specs.Close.{replies_done, unwatching, on_dropped, joining, close, quiesced, quiesce, straight, telling}

module _ (site : SiteId) where
  of_unwatching : (image : ℕ) → IsOfImage site image (unwatching site image)
  of_unwatching image = (refl, refl, of_on_done site image replies_done tt)

  of_on_dropped : (image : ℕ) (a : Answer) → IsOfImage site image (on_dropped site image a)
  of_on_dropped image answer.Done = (refl, refl, of_on_done site image (unwatching site image) (of_unwatching image))
  of_on_dropped image answer.Changed = of_unwatching image
  of_on_dropped image a = of_not_there site image a

  pub close_is_own : (name : List ℕ) (feds : List Fed) (steps : List Answered) (last : Plan) → IsWalk Goto (close site name) feds steps last → AreOwn site (look_up name) steps
  close_is_own name feds steps last walk =
      are_own site (look_up name) (on_id (joining site)) (by_on_id site (joining site) (λ image. (refl, refl, of_on_dropped image))) feds steps last walk

  pub quiesce_is_own : (name : List ℕ) (feds : List Fed) (steps : List Answered) (last : Plan) → IsWalk Goto (quiesce site name) feds steps last → AreOwn site (look_up name) steps
  quiesce_is_own name feds steps last walk =
      let way = change_joining site sharing.Alone refuses_none quiesced in
      are_own site (look_up name) (on_id way) (by_on_id site way (λ image. of_joining site image sharing.Alone refuses_none quiesced (λ h. tt))) feds steps last walk

  of_telling : (o : Option (List ℕ)) (image : ℕ) → IsOfImage site image (telling site o image)
  of_telling None image = tt
  of_telling (Some bytes) image = (refl, refl, of_on_done site image replies_done tt)

  pub straight_is_own : (s : Straight) (feds : List Fed) (steps : List Answered) (last : Plan) → IsWalk Goto (straight site s) feds steps last → AreOwn site (look_up s.name) steps
  straight_is_own s feds steps last walk = are_own site (look_up s.name) (on_id (telling site s.tells)) (by_on_id site (telling site s.tells) (of_telling s.tells)) feds steps last walk
