-- The pieces of an extent that ends within the size are pieces of the head.
use Rattle.std.proofs.Common.{◌≡◌, ℕ, ◌+◌, ◌<◌, ◌≤◌, List, [], ◌∷◌, All, length, get_or, ap, sym, ◌∙◌, arith}
use Rattle.std.proofs.lemmas.List.Elements.{All-head}
use Rattle.rbd_kinds.specs.declared.header.HeaderView.{HeaderView}
use Rattle.rbd_kinds.specs.declared.layout.Extent.{Extent}
use Rattle.rbd_kinds.specs.declared.layout.Part.{Part}
use Rattle.rbd_kinds.specs.Striping.{IsLayout, object_of}
use Rattle.rbd_layout.specs.Pieces.{pieces_of}
use Rattle.rbd_layout.proofs.Listed.{pieces_listed}
use Rattle.rbd_layout.proofs.Within.{lies_in}
use Rattle.rbd_machine.specs.Permits.{IsObjectOf, LiesBelow}
use Rattle.rbd_pieces.specs.Known.{IsPieceOf}

first_byte : (h : HeaderView) (object : ℕ) (parts : List Part) → 0 < length parts → All (LiesBelow h object) parts → IsObjectOf h object
first_byte h object [] some below = absurd (omega arith)
first_byte h object (p ∷ parts) some below =
    let lies = All-head (LiesBelow h object) p parts below in
    let long : 0 < p.len = lies.part.some in
    let ends : p.at + p.len ≤ h.size = lies.below in
    let begins : p.at + 0 ≡ p.at = omega arith in
    (p.at, (let less : p.at < h.size = omega arith in less), ap (object_of h.layout) (sym begins) ∙ (lies.part.lies 0 long).0)

pub pieces_below : (h : HeaderView) (e : Extent) → IsLayout h.layout → e.at + e.len ≤ h.size → All (IsPieceOf h) (pieces_of h.layout e)
pieces_below h e is ends =
    let are = pieces_listed h.layout is e in
    λ k d below.
    let p = get_or (pieces_of h.layout e) k d in
    let parts : All (LiesBelow h p.object) p.parts = λ k' d' below'. record {
      part = (are.parts k d below).each k' d' below';
      below = (
          let last : (get_or p.parts k' d').at + (get_or p.parts k' d').len ≤ e.at + e.len = (lies_in h.layout e p.object p.parts (are.parts k d below) k' d' below').before in
          omega (arith, last, ends)
          );
    } in
    record { object = first_byte h p.object p.parts (are.touched k d below) parts; parts = parts }
