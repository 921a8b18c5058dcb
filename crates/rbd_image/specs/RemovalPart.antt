-- Where the removal of an image stands.
use Rattle.std.specs.Prelude.{◌≡◌, ℕ, List, ◌∷◌, None}
use Rattle.rbd_kinds.specs.declared.answer.Answer.{Answer}
use Rattle.rbd_kinds.specs.declared.answer.Answer.TheVariants as answer
use Rattle.rbd_kinds.specs.declared.header.HeaderView.{HeaderView}
use Rattle.rbd_kinds.specs.declared.id.SiteId.{SiteId}
use Rattle.rbd_kinds.specs.declared.map_op.MapOp.TheVariants as states
use Rattle.rbd_kinds.specs.declared.operation.Op.TheVariants as op
use Rattle.rbd_machine.specs.Plan.{Plan}
use Rattle.rbd_machine.specs.Steps.{on_bits, own, TellsBits, TellsDone}
use Rattle.rbd_machine.specs.Path.{Answered}
use Rattle.rbd_meaning.specs.Removals.{link_of, removal, AreRemovals}
use Rattle.rbd_meaning.specs.Snaps.{map_told}
use Rattle.rbd_image.specs.Remnants.{ops_of, remnants}
use Rattle.rbd_image.specs.Remove.{remove_each}
use Rattle.rbd_image.specs.declared.outline.Outline.{Outline}
use Rattle.rbd_image.specs.declared.remove.Remove.{Remove}
use Rattle.rbd_image.specs.declared.remove.Stage.{Stage}
use Rattle.rbd_image.specs.declared.remove.Stage.TheVariants as stage

-- what a header tells of what is removed
pub record IsOutlineOf (h : HeaderView) (o : Outline) : Type 0 where
  pub link : o.link ≡ link_of h
  pub snaps : o.snaps ≡ h.snaps
  pub journal : o.journal ≡ h.journal

-- by the states of the head's map
abbrev pub looking_at_map : SiteId → (image : ℕ) → Outline → (next : Plan) → Plan
looking_at_map site image o next =
    own site (op.Map image (states.Get None))
    (on_bits (λ bits. remove_each site (ops_of image (remnants o.link o.snaps o.journal bits)) next))

abbrev pub rest_from : Stage → Remove → (next : Plan) → Plan
rest_from (stage.Looking outline) r next = looking_at_map r.site r.image outline next
rest_from (stage.Removing first) r next = remove_each r.site (ops_of r.image (first ∷ r.later.items)) next

-- what is left of one
abbrev pub rest_of_removal : Remove → (next : Plan) → Plan
rest_of_removal r next = rest_from r.stage r next

-- what its operation may be answered
abbrev pub Tells : Stage → Answer → Type 0
Tells (stage.Looking outline) = TellsBits
Tells (stage.Removing first) = TellsDone

-- the memory that an answer needs: where the states are told, that of all that is removed
abbrev pub IsReadyAt : Stage → Remove → Answer → Type 0
IsReadyAt (stage.Looking outline) r (answer.Bits bits) =
    r.later.items ≡ remnants outline.link outline.snaps outline.journal bits
IsReadyAt _ r _ = Unit {0}

abbrev pub IsReady : Remove → Answer → Type 0
IsReady r a = IsReadyAt r.stage r a

-- ---- what it has done when it ends

-- by some states that the head's map told
pub record IsRemoved (site : SiteId) (image : ℕ) (h : HeaderView) (steps : List Answered) : Type 0 where
  pub bits : List ℕ
  pub removed : List Answered
  pub are_removed : AreRemovals site (removal image h bits) removed
  pub are : steps ≡ map_told site image bits ∷ removed
