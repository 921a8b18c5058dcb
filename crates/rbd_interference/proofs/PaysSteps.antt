-- Steps that requests share pay what they owe, where what comes next does.
use Rattle.std.proofs.Common.{◌≡◌, ℕ, true, List, [], ◌∷◌, ◌++◌, Option, Some, None, refl, sym, subst}
use Rattle.std.proofs.lemmas.Bool.{true≢false}
use Rattle.rbd_kinds.specs.declared.sharing.Sharing.{Sharing}
use Rattle.rbd_commands.specs.declared.refusal.Refusal.{Refusal}
use Rattle.rbd_kinds.specs.declared.answer.Answer.{Answer}
use Rattle.rbd_kinds.specs.declared.answer.Answer.TheVariants as answer
use Rattle.rbd_kinds.specs.declared.data_op.DataOp.{DataOp}
use Rattle.rbd_kinds.specs.declared.data_op.DataOp.TheVariants as object
use Rattle.rbd_kinds.specs.declared.header.HeaderView.{HeaderView}
use Rattle.rbd_kinds.specs.declared.id.SiteId.{SiteId}
use Rattle.rbd_kinds.specs.declared.map_op.MapOp.TheVariants as states
use Rattle.rbd_kinds.specs.declared.operation.Op.TheVariants as op
use Rattle.rbd_kinds.specs.declared.reply.Reply.{Reply}
use Rattle.rbd_layout.specs.declared.types.Piece.{Piece}
use Rattle.rbd_machine.specs.Plan.{Plan, Return}
use Rattle.rbd_machine.specs.Refused.{IsGiven}
use Rattle.rbd_machine.specs.Standalone.{IsStandalone, TellsStandalone}
use Rattle.rbd_machine.specs.Steps.{change_plan, find, holding, joining, look, looked, on_done, on_header, own, owned}
use Rattle.rbd_pieces.specs.Gather.{gather}
use Rattle.rbd_interference.specs.Owed.{Made, PaysItsStates, Spot, due_by, makes, owed_at, owed_by}
use Rattle.rbd_catalog.proofs.PlanSteps.{at_bytes, at_done, at_id, at_not_there, at_unless}

-- it pays, and owes nothing yet
abbrev pub Pays : Plan → Type 0
Pays plan = PaysItsStates None plan

-- a reply owes nothing
pub pays_ends : (r : Reply) → Pays (Return r)
pays_ends r = tt

pub pays_on_header : (next : HeaderView → Plan) → ((h : HeaderView) → IsStandalone h → Pays (next h)) → (a : Answer) → TellsStandalone a → Pays (on_header next a)
pays_on_header next pays (answer.Header h) told = pays h told
pays_on_header next pays a told = at_not_there Pays pays_ends a

pub pays_find : (site : SiteId) (name : List ℕ) (next : ℕ → Plan) → ((image : ℕ) → Pays (next image)) → Pays (find site name next)
pays_find site name next pays = (tt, λ a given told. at_id Pays pays_ends next pays a)

pub pays_look : (site : SiteId) (image : ℕ) (next : HeaderView → Plan) → ((h : HeaderView) → IsStandalone h → Pays (next h)) → Pays (look site image next)
pays_look site image next pays = (tt, λ a given told. pays_on_header next pays a told)

-- behind its wait for the lock
pub pays_holding : (site : SiteId) (refuses : HeaderView → Option Refusal) (act : ℕ → HeaderView → Plan) (image : ℕ)
    → ((h : HeaderView) → IsStandalone h → Pays (act image h)) → Pays (holding site refuses act image)
pays_holding site refuses act image acts =
    pays_look site image (owned refuses act image) (λ h standalone. at_unless Pays pays_ends (refuses h) (act image h) (acts h standalone))

pub pays_change : (site : SiteId) (name : List ℕ) (sharing : Sharing) (refuses : HeaderView → Option Refusal) (act : ℕ → HeaderView → Plan)
    → ((image : ℕ) (h : HeaderView) → IsStandalone h → Pays (act image h)) → Pays (change_plan site name sharing refuses act)
pays_change site name sharing refuses act acts =
    pays_find site name (joining site sharing refuses act) (λ image.
    pays_look site image (looked site refuses act image) (λ h standalone.
    at_unless Pays pays_ends (refuses h) (holding site refuses act image) (pays_holding site refuses act image (acts image))))

-- the pieces of a view are read, one after another
pub pays_gather : (pieces : List Piece) (site : SiteId) (image : ℕ) (snap : Option ℕ) (read : List ℕ) (next : List ℕ → Plan) → ((bytes : List ℕ) → Pays (next bytes))
    → Pays (gather site image snap pieces read next)
pays_gather [] site image snap read next pays = pays read
pays_gather (p ∷ pieces) site image snap read next pays = (
  tt,
  λ a given told.
      at_bytes Pays pays_ends p.parts (λ bytes. gather site image snap pieces (read ++ bytes) next) (λ bytes. pays_gather pieces site image snap (read ++ bytes) next pays) a,
)

-- ---- a state is set, and what is owed by that is done next

module _ (site : SiteId) (image number : ℕ) where
  pub pays_set : (owed : Option Spot) (state : ℕ) (next : Plan) → PaysItsStates (owed_at site image number (due_by state)) next → (a : Answer)
      → PaysItsStates (owed_by owed site (op.Map image (states.Set None number state)) a) (on_done next a)
  pays_set owed state next pays answer.Done = pays
  pays_set owed state next pays a = at_not_there Pays pays_ends a

  abbrev made_next : Spot
  made_next = record { site = site; image = image; object = number; due = Made }

  -- who makes an object owes nothing behind it
  owes_no_more : (p : Spot) (o : DataOp) → makes o ≡ true → (a : Answer) → owed_by (Some p) site (op.Data image number o) a ≡ None
  owes_no_more p (object.Remove context) is a = absurd (true≢false (sym is))
  owes_no_more p o is a = refl

  -- state 1, and directly behind it the object is made
  pub pays_making : (o : DataOp) (next : Plan) → makes o ≡ true → Pays next
      → Pays (own site (op.Map image (states.Set None number 1)) (on_done (own site (op.Data image number o) (on_done next))))
  pays_making o next is pays = (tt, λ a given told. pays_set None 1 (own site (op.Data image number o) (on_done next)) ((is, (refl, refl, refl)), made) a)
    where
      made : (a : Answer) → IsGiven (op.Data image number o) a → TellsStandalone a → PaysItsStates (owed_by (Some made_next) site (op.Data image number o) a) (on_done next a)
      made a given told = subst (λ owed. PaysItsStates owed (on_done next a)) (sym (owes_no_more made_next o is a)) (at_done Pays pays_ends next pays a)
