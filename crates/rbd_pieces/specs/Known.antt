-- What a request knows where a part begins, and where it ends.
use Rattle.std.specs.Prelude.{◌≡◌, ℕ, true, List, [], ◌∷◌, All, Some}
use Rattle.rbd_kinds.specs.declared.header.HeaderView.{HeaderView}
use Rattle.rbd_kinds.specs.declared.id.SiteId.{SiteId}
use Rattle.rbd_kinds.specs.declared.sharing.Sharing.{Sharing}
use Rattle.rbd_kinds.specs.Sharing.{is_alone}
use Rattle.rbd_layout.specs.declared.types.Piece.{Piece}
use Rattle.rbd_machine.specs.Knowledge.{Knowledge, learned, own_of}
use Rattle.rbd_machine.specs.Path.{Answered}
use Rattle.rbd_machine.specs.Permits.{HasTurn, IsObjectOf, LiesBelow, makes_zeros}

-- behind operations that were done
abbrev pub known_behind : Knowledge → List Answered → Knowledge
known_behind k [] = k
known_behind k (a ∷ steps) = known_behind (learned k a.site a.op a.answer) steps

-- It owns the image by this header.
abbrev pub OwnsByHeader : Knowledge → SiteId → (image : ℕ) → Sharing → HeaderView → Type 0
OwnsByHeader k site image sharing h =
    own_of k.owns site image ≡ Some (record { site = site; image = image; sharing = sharing; header = Some h })

-- It owns the image by this header, alone, or at its turn at the object, and is one that makes
-- zeros.
pub record OwnsObject (k : Knowledge) (site : SiteId) (image : ℕ) (h : HeaderView) (number : ℕ) : Type 0 where
  pub sharing : Sharing
  pub owns : OwnsByHeader k site image sharing h
  pub turn : HasTurn (is_alone sharing) k.turn number
  pub zeros : makes_zeros sharing ≡ true

-- The piece is one of the head: its parts lie in its object, and end within the size.
pub record IsPieceOf (h : HeaderView) (p : Piece) : Type 0 where
  pub object : IsObjectOf h p.object
  pub parts : All (LiesBelow h p.object) p.parts
