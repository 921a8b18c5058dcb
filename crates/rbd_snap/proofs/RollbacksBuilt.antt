-- What holds of a rollback, if it is kept by each of its steps.
use Rattle.std.proofs.Common.{ℕ, List, [], ◌∷◌, Bool, Some}
use Rattle.rbd_kinds.specs.declared.header.HeaderView.{HeaderView}
use Rattle.rbd_kinds.specs.declared.header.SnapView.{SnapView}
use Rattle.rbd_kinds.specs.declared.id.SiteId.{SiteId}
use Rattle.rbd_kinds.specs.declared.operation.Op.{Op}
use Rattle.rbd_layout.specs.declared.types.Piece.{Piece}
use Rattle.rbd_layout.specs.Pieces.{pieces_of}
use Rattle.rbd_machine.specs.Plan.{Plan}
use Rattle.rbd_meaning.specs.Rollbacks.{at_size}
use Rattle.rbd_pieces.specs.Full.{full_piece}
use Rattle.rbd_pieces.specs.Zero.{head_of, is_inside}
use Rattle.rbd_meaning.specs.Count.{object_count}
use Rattle.rbd_snap.specs.Rollback.{restore_all, restore_pieces, roll_back}
use Rattle.rbd_image.proofs.Built.{Rules, built_full, built_resize}

module _ (Holds First : Plan → Plan → Type 0) (Fine : Op → Type 0) (May : Bool → Type 0) (site : SiteId) (image : ℕ) (rules : Rules Holds First Fine May site image) where
  module _ (h : HeaderView) where
    pub built_restore : (pieces : List Piece) (snap : ℕ) (k p : Plan) → Holds k p → Holds (restore_pieces site image h snap pieces k) (restore_pieces site image h snap pieces p)
    built_restore [] snap k p holds = holds
    built_restore (q ∷ pieces) snap k p holds =
        let later = restore_pieces site image h snap pieces in
        rules.read (Some snap) q (λ bytes. full_piece site image h q bytes (later k)) (λ bytes. full_piece site image h q bytes (later p))
        (λ bytes. built_full Holds First Fine May site image rules h q bytes (later k) (later p) (built_restore pieces snap k p holds))

  pub built_roll_back : (h : HeaderView) → ((number : ℕ) → May (is_inside h number)) → (listed : SnapView) (k p : Plan) → Holds k p → First (roll_back site image h listed k) (roll_back site image h listed p)
  built_roll_back h may listed k p holds =
      let head = at_size listed.size h in
      built_resize Holds First Fine May site image rules h may listed.size (object_count h.layout listed.size) (restore_all site image head listed.id k) (restore_all site image head listed.id p)
      (built_restore head (pieces_of h.layout (head_of head)) listed.id k p holds)
