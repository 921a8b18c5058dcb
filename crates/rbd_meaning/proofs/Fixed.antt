-- Where one list of steps alone is that of a piece, one alone is that of several.
use Rattle.std.proofs.Common.{◌≡◌, ◌↔◌, ◌⊎◌, inl, inr, ℕ, List, [], ◌∷◌, ◌++◌, map, Option, refl, ap, ◌∙◌}
use Rattle.rbd_kinds.specs.declared.header.HeaderView.{HeaderView}
use Rattle.rbd_kinds.specs.declared.id.SiteId.{SiteId}
use Rattle.rbd_layout.specs.declared.types.Piece.{Piece}
use Rattle.rbd_machine.specs.Objects.{data_read}
use Rattle.rbd_machine.specs.Path.{Answered}
use Rattle.rbd_meaning.specs.Partly.{IsBeginningOf}
use Rattle.rbd_meaning.specs.Reads.{AreRead}
use Rattle.rbd_meaning.specs.Writes.{AreWritten, IsPieceBegun, IsWritten, piece_written, pieces_written, state_raised}

module _ (site : SiteId) (image : ℕ) (h : HeaderView) (at : ℕ) (bytes : List ℕ) where
  written_is : (pieces : List Piece) (steps : List Answered) → AreWritten site image h at bytes pieces steps → steps ≡ pieces_written site image h at bytes pieces
  written_is [] steps are = are
  written_is (p ∷ pieces) steps are =
      are.are ∙ ap (λ first. first ++ are.others) are.is_first
      ∙ ap (λ others. state_raised site image p ∷ piece_written site image h at bytes p ∷ others) (written_is pieces are.others are.are_others)

  is_written : (pieces : List Piece) (steps : List Answered) → steps ≡ pieces_written site image h at bytes pieces → AreWritten site image h at bytes pieces steps
  is_written [] steps is = is
  is_written (p ∷ pieces) steps is = record {
    first = state_raised site image p ∷ piece_written site image h at bytes p ∷ [];
    others = pieces_written site image h at bytes pieces;
    is_first = refl;
    are_others = is_written pieces (pieces_written site image h at bytes pieces) refl;
    are = is;
  }

pub written_so : (site : SiteId) (image : ℕ) (h : HeaderView) (at : ℕ) (bytes : List ℕ) (pieces : List Piece) (steps : List Answered)
    → AreWritten site image h at bytes pieces steps ↔ (steps ≡ pieces_written site image h at bytes pieces)
written_so site image h at bytes pieces steps = (written_is site image h at bytes pieces steps, is_written site image h at bytes pieces steps)

-- ---- a piece that was begun

some_left : (steps : List Answered) (next : Answered) (rest : List Answered) → steps ++ next ∷ rest ≡ [] → ⊥
some_left [] next rest none = cc
some_left (s ∷ steps) next rest none = cc

module _ (site : SiteId) (image : ℕ) (h : HeaderView) (at : ℕ) (bytes : List ℕ) (p : Piece) where
  abbrev raised : Answered
  raised = state_raised site image p

  abbrev put : Answered
  put = piece_written site image h at bytes p

  abbrev RaisedAtMost : List Answered → Type 0
  RaisedAtMost steps = (steps ≡ []) ⊎ (steps ≡ raised ∷ [])

  begun_is : (steps : List Answered) → IsBeginningOf (IsWritten site image h at bytes p) steps → RaisedAtMost steps
  begun_is [] is = inl refl
  begun_is (s ∷ []) is =
      let all : s ∷ is.next ∷ is.rest ≡ raised ∷ put ∷ [] = is.whole in
      let same : s ∷ [] ≡ raised ∷ [] = cc in
      inr same
  begun_is (s ∷ t ∷ steps) is =
      let all : s ∷ t ∷ (steps ++ is.next ∷ is.rest) ≡ raised ∷ put ∷ [] = is.whole in
      let none : steps ++ is.next ∷ is.rest ≡ [] = cc in
      absurd (some_left steps is.next is.rest none)

  is_begun : (steps : List Answered) → RaisedAtMost steps → IsBeginningOf (IsWritten site image h at bytes p) steps
  is_begun steps (inl none) = record { next = raised; rest = put ∷ []; whole = ap (λ s. s ++ raised ∷ put ∷ []) none }
  is_begun steps (inr is) = record { next = put; rest = []; whole = ap (λ s. s ++ put ∷ []) is }

pub begun_so : (site : SiteId) (image : ℕ) (h : HeaderView) (at : ℕ) (bytes : List ℕ) (p : Piece) (left : List Piece) (steps : List Answered)
    → IsPieceBegun site image h at bytes (p ∷ left) steps ↔ ((steps ≡ []) ⊎ (steps ≡ state_raised site image p ∷ []))
begun_so site image h at bytes p left steps = (begun_is site image h at bytes p steps, is_begun site image h at bytes p steps)

-- ---- pieces that were read

ops_read : (site : SiteId) (image : ℕ) (snap : Option ℕ) (pieces : List Piece) (steps : List Answered) → AreRead site image snap pieces steps
    → map (λ (s : Answered). s.op) steps ≡ map (data_read image snap) pieces
ops_read site image snap [] steps none = ap (map (λ (s : Answered). s.op)) none
ops_read site image snap (p ∷ pieces) steps read =
    ap (map (λ (s : Answered). s.op)) (read.are ∙ ap (λ first. first ++ read.others) read.is_first.are)
    ∙ ap (λ ops. data_read image snap p ∷ ops) (ops_read site image snap pieces read.others read.are_others)

sites_read : (site : SiteId) (image : ℕ) (snap : Option ℕ) (pieces : List Piece) (steps : List Answered) → AreRead site image snap pieces steps
    → map (λ (s : Answered). s.site) steps ≡ map (λ p. site) pieces
sites_read site image snap [] steps none = ap (map (λ (s : Answered). s.site)) none
sites_read site image snap (p ∷ pieces) steps read =
    ap (map (λ (s : Answered). s.site)) (read.are ∙ ap (λ first. first ++ read.others) read.is_first.are)
    ∙ ap (λ sites. site ∷ sites) (sites_read site image snap pieces read.others read.are_others)

pub read_by : (site : SiteId) (image : ℕ) (snap : Option ℕ) (pieces : List Piece) (steps : List Answered) → AreRead site image snap pieces steps
    → (map (λ (s : Answered). s.op) steps ≡ map (data_read image snap) pieces) × (map (λ (s : Answered). s.site) steps ≡ map (λ p. site) pieces)
read_by site image snap pieces steps read = (ops_read site image snap pieces steps read, sites_read site image snap pieces steps read)
