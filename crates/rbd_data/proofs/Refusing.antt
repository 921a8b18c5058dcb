-- Behind its look under the lock a discard is refused by the fence alone, where the image has no
-- parent.
use Rattle.std.proofs.Common.{◌≡◌, inl, inr, ℕ, Bool, true, false, List, [], ◌∷◌, Option, None, refl, ap, sym, subst}
use Rattle.rbd_kinds.specs.declared.answer.Answer.{Answer}
use Rattle.rbd_kinds.specs.declared.answer.Answer.TheVariants as answer
use Rattle.rbd_kinds.specs.declared.header.HeaderView.{HeaderView}
use Rattle.rbd_kinds.specs.declared.header.SnapContext.{SnapContext}
use Rattle.rbd_kinds.specs.declared.id.SiteId.{SiteId}
use Rattle.rbd_commands.specs.declared.refusal.Refusal.{Refusal}
use Rattle.rbd_commands.specs.declared.refusal.Refusal.TheVariants as refusal
use Rattle.rbd_kinds.specs.declared.reply.Reply.{Reply}
use Rattle.rbd_kinds.specs.declared.reply.Reply.TheVariants as reply
use Rattle.rbd_kinds.specs.Striping.{byte_at}
use Rattle.rbd_layout.specs.declared.types.Piece.{Piece}
use Rattle.rbd_header.specs.Header.{context_of}
use Rattle.rbd_machine.specs.Plan.{Plan}
use Rattle.rbd_machine.specs.Knowledge.{ImagePlace}
use Rattle.rbd_machine.specs.Refused.{by_fence, IsGiven}
use Rattle.rbd_machine.specs.Steps.{on_done, applied}
use Rattle.rbd_machine.proofs.Refused.{IsRefusing, Answers}
use Rattle.rbd_pieces.specs.Operations.{data_remove, data_zero, map_set}
use Rattle.rbd_pieces.specs.Zero.{is_below, is_inside, is_whole, removing, setting, zero_by}
use Rattle.rbd_data.specs.Discard.{zero_in_turns}

abbrev pub IsDone : Reply → Type 0
IsDone reply.Done = Unit {0}
IsDone _ = ⊥

-- an object of an image without a parent lies in no overlap
outside : (h : HeaderView) (number : ℕ) → h.parent ≡ None → is_inside h number ≡ false
outside h number none = ap (λ parent. is_below parent (byte_at h.layout number 0)) none

module _ (refuses : HeaderView → Option Refusal) (images : List ImagePlace) where
  refusing_set : (changed : Bool) (site : SiteId) (image number state : ℕ) (next : Plan) → IsRefusing refuses by_fence IsDone images changed next
      → (a : Answer) → IsGiven (map_set image number state) a → Answers refuses by_fence IsDone images changed site (map_set image number state) a (on_done next a)
  refusing_set changed site image number state next goes_on answer.Done given = inr (λ live may. refl, goes_on)
  refusing_set changed site image number state next goes_on answer.Absent given = let no = given.finds in cc
  refusing_set changed site image number state next goes_on answer.Fenced given = inl (record { why = refusal.Fenced; own = inl refl; is = refl; ends = refl; comes = λ was. refl })
  refusing_set changed site image number state next goes_on _ given = let no = given.can.word in cc

  refusing_some : (changed : Bool) (site : SiteId) (image : ℕ) (context : SnapContext) (p : Piece) (next : Plan) → IsRefusing refuses by_fence IsDone images true next
      → (a : Answer) → IsGiven (data_zero image context false p) a → Answers refuses by_fence IsDone images changed site (data_zero image context false p) a (on_done next a)
  refusing_some changed site image context p next goes_on answer.Done given = inr (λ live may. refl, goes_on)
  refusing_some changed site image context p next goes_on answer.Fenced given = inl (record { why = refusal.Fenced; own = inl refl; is = refl; ends = refl; comes = λ was. refl })
  refusing_some changed site image context p next goes_on _ given = let no = given.can.word in cc

  refusing_remove : (changed : Bool) (site : SiteId) (image : ℕ) (context : SnapContext) (number : ℕ) (next : Plan) → IsRefusing refuses by_fence IsDone images true next
      → (a : Answer) → IsGiven (data_remove image context number) a → Answers refuses by_fence IsDone images changed site (data_remove image context number) a (on_done next a)
  refusing_remove changed site image context number next goes_on answer.Done given = inr (λ live may. refl, goes_on)
  refusing_remove changed site image context number next goes_on answer.Fenced given = inl (record { why = refusal.Fenced; own = inl refl; is = refl; ends = refl; comes = λ was. refl })
  refusing_remove changed site image context number next goes_on _ given = let no = given.can.word in cc

  refusing_piece : (whole : Bool) (changed : Bool) (site : SiteId) (image : ℕ) (context : SnapContext) (p : Piece) (next : Plan)
      → IsRefusing refuses by_fence IsDone images true next → IsRefusing refuses by_fence IsDone images changed (zero_by site image context p whole false next)
  refusing_piece false changed site image context p next goes_on = refusing_some changed site image context p next goes_on
  refusing_piece true changed site image context p next goes_on =
      let lowering = setting site image context p 0 next in
      refusing_set changed site image p.object 2 (removing site image context p lowering)
      (refusing_remove changed site image context p.object lowering (refusing_set true site image p.object 0 next goes_on))

  pub refusing_pieces : (pieces : List Piece) (changed : Bool) (site : SiteId) (image : ℕ) (h : HeaderView) → h.parent ≡ None
      → IsRefusing refuses by_fence IsDone images changed (zero_in_turns site image h pieces (applied site image))
  refusing_pieces [] changed site image h none = tt
  refusing_pieces (p ∷ pieces) changed site image h none =
      let next = zero_in_turns site image h pieces (applied site image) in
      subst (λ inside. IsRefusing refuses by_fence IsDone images changed (zero_by site image (context_of h) p (is_whole h p) inside next)) (sym (outside h p.object none))
      (refusing_piece (is_whole h p) changed site image (context_of h) p next (refusing_pieces pieces true site image h none))
