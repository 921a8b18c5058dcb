-- Bytes that were read object by object, in the order of the image.
use Rattle.std.specs.Prelude.{ℕ, ◌-◌, List, [], ◌∷◌, drop, replicate}
use Rattle.rbd_kinds.specs.declared.layout.Extent.{Extent}
use Rattle.rbd_kinds.specs.declared.layout.Layout.{Layout}
use Rattle.rbd_kinds.specs.declared.layout.Part.{Part}
use Rattle.rbd_layout.specs.Pieces.{pieces_of}
use Rattle.rbd_layout.specs.declared.types.Piece.{Piece}
use Rattle.rbd_parts.specs.Contents.{window, overwritten}

-- the bytes of the parts, one part after another, put into bytes that begin at the image byte
-- `from`
abbrev pub put_parts : (from : ℕ) → List Part → (read into : List ℕ) → List ℕ
put_parts from [] read into = into
put_parts from (p ∷ parts) read into =
    put_parts from parts (drop p.len read) (overwritten into (p.at - from) (window read 0 p.len))

-- what is left behind the bytes of the parts
abbrev pub behind_parts : List Part → (read : List ℕ) → List ℕ
behind_parts [] read = read
behind_parts (p ∷ parts) read = behind_parts parts (drop p.len read)

-- the bytes of the pieces, one piece after another
abbrev pub arranged : (from : ℕ) → List Piece → (read into : List ℕ) → List ℕ
arranged from [] read into = into
arranged from (p ∷ pieces) read into = arranged from pieces (behind_parts p.parts read)
    (put_parts from p.parts read into)

-- the bytes of an extent, out of those of its pieces
abbrev pub bytes_of_extent : Layout → Extent → (read : List ℕ) → List ℕ
bytes_of_extent layout e read = arranged e.at (pieces_of layout e) read (replicate e.len 0)
