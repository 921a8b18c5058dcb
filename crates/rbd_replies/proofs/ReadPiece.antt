-- A piece that was read shows the flat view's bytes at its place; where the object is absent, these
-- are zeros.
use Rattle.std.proofs.Common.{◌≡◌, ℕ, suc, ◌+◌, ◌<◌, ◌≤◌, List, [], ◌∷◌, ◌++◌, get_or, replicate, Option, Some, None, unwrap_or, refl, sym, ap, ◌∙◌, subst, arith}
use Rattle.std.specs.Prelude.{IsSome}
use Rattle.std.proofs.lemmas.Bool.{false≢true}
use Rattle.std.proofs.lemmas.List.{length-replicate, get_or-replicate, replicate-append-replicate}
use Rattle.std.proofs.lemmas.List.FromFn.{fill_by_all}
use Rattle.rbd_kinds.specs.declared.answer.Answer.{Answer}
use Rattle.rbd_kinds.specs.declared.answer.Answer.TheVariants as answer
use Rattle.rbd_kinds.specs.declared.header.HeaderView.{HeaderView}
use Rattle.rbd_kinds.specs.declared.header.ParentLink.{ParentLink}
use Rattle.rbd_kinds.specs.declared.id.SiteId.{SiteId}
use Rattle.rbd_kinds.specs.declared.layout.Part.{Part}
use Rattle.rbd_kinds.specs.Parts.{parts_len}
use Rattle.rbd_layout.specs.declared.types.Piece.{Piece}
use Rattle.rbd_machine.specs.Objects.{data_read}
use Rattle.rbd_meaning.specs.Reads.{bytes_shown}
use Rattle.rbd_parts.specs.Contents.{window}
use Rattle.rbd_stands.specs.Condition.{ArePartsBelow}
use Rattle.rbd_stands.specs.Reading.{IsAt, bytes_at_parts}
use Rattle.rbd_stands.specs.Shown.{IsInOverlap}
use Rattle.rbd_stands.proofs.Telling.{absence_told, bytes_told}
use Rattle.rbd_header.specs.declared.view.View.{View}
use Rattle.rbd_replies.specs.Places.{Placed, flat_at}
use Rattle.rbd_replies.specs.Reads.{TellsFlatPiece}
use Rattle.rbd_replies.proofs.PlacedRight.{IsPlacedRight}
use Rattle.rbd_replies.proofs.Places.{step_at}
use Rattle.rbd_replies.proofs.PlacesTold.{answer_there, records_at}
use Rattle.rbd_replies.proofs.ReadNames.{IsViewOf}

-- ---- zeros

at_first : (p : Part) (parts : List Part) (x : ℕ) → p.at ≤ x → x < p.at + p.len → IsAt (p ∷ parts) x
at_first p parts x low high = (0, p, omega arith, refl, (low, high))

at_later : (p : Part) (parts : List Part) (x : ℕ) → IsAt parts x → IsAt (p ∷ parts) x
at_later p parts x (k, q, below, is, holds) = (suc k, q, omega arith, is, holds)

zeros_at_parts : (parts : List Part) (flat : List ℕ) → ((x : ℕ) → IsAt parts x → get_or flat x 0 ≡ 0) → replicate (parts_len parts) 0 ≡ bytes_at_parts parts flat
zeros_at_parts [] flat zero_there = refl
zeros_at_parts (p ∷ parts) flat zero_there =
    let here : replicate p.len 0 ≡ window flat p.at p.len =
    fill_by_all (λ k. get_or flat (p.at + k) 0) (replicate p.len 0) p.len 0 (length-replicate p.len 0)
    (λ k less. get_or-replicate p.len k 0 0 less ∙ sym (zero_there (p.at + k) (at_first p parts (p.at + k) (omega arith) (omega arith)))) in
    sym (replicate-append-replicate p.len (parts_len parts) 0)
    ∙ ap (λ front. front ++ replicate (parts_len parts) 0) here
    ∙ ap (λ back. window flat p.at p.len ++ back) (zeros_at_parts parts flat (λ x there. zero_there x (at_later p parts x there)))

not_covered : (parent : Option ParentLink) (x : ℕ) → parent ≡ None → IsInOverlap parent x → ⊥
not_covered parent x none covered = subst (λ (o : Option ParentLink). IsInOverlap o x) none covered

-- ---- a piece

module _ (homes : ℕ → SiteId) (home : SiteId) (image : ℕ) (h : HeaderView) (view : View) (viewed : IsViewOf h view) where
  pub piece_shown : (p : Placed) (piece : Piece) → IsPlacedRight homes p → (records_at p).headers image ≡ Some h → ArePartsBelow h view.size piece.object piece.parts
      → (step_at p).op ≡ data_read image view.snap piece → IsSome (bytes_shown piece.parts p.done.answer)
      → TellsFlatPiece image view.snap piece (unwrap_or (bytes_shown piece.parts p.done.answer) []) p
  piece_shown p piece right is below op_is some = by p.done.answer refl some
    where
      lie : ArePartsBelow h viewed.shape.size piece.object piece.parts
      lie = subst (λ size. ArePartsBelow h size piece.object piece.parts) (sym viewed.size) below

      by : (a : Answer) → p.done.answer ≡ a → IsSome (bytes_shown piece.parts a) → TellsFlatPiece image view.snap piece (unwrap_or (bytes_shown piece.parts a) []) p
      by (answer.Bytes bytes) answered some =
          let told = bytes_told [] (records_at p) (flat_at p) p.done.instance image piece.object h view.snap viewed.shape piece.parts bytes right.standing.stands is viewed.is lie
          (answer_there homes p right (record { site = p.done.site; op = data_read image view.snap piece; answer = answer.Bytes bytes }) (λ i. record { site = p.done.site; op = op_is i; answer = answered i })) in
          record { flat = told.flat; is = told.is; same = told.same }
      by answer.Absent answered some =
          let told = absence_told [] (records_at p) (flat_at p) p.done.instance image piece.object h view.snap viewed.shape piece.parts right.standing.stands is viewed.is lie
          (answer_there homes p right (record { site = p.done.site; op = data_read image view.snap piece; answer = answer.Absent }) (λ i. record { site = p.done.site; op = op_is i; answer = answered i })) in
          record {
            flat = told.flat;
            is = told.is;
            same = zeros_at_parts piece.parts told.flat (λ x there. told.zeros x there (not_covered viewed.shape.parent x viewed.no_parent));
          }
      by _ answered some = absurd (false≢true some)
