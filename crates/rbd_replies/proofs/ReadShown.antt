-- A read that shows bytes shows those of the flat view, each piece's at its place, between two
-- looks at one header.
use Rattle.std.proofs.Common.{◌≡◌, ℕ, ◌+◌, ◌≤◌, true, List, [], ◌∷◌, ◌++◌, map, Option, Some, None, unwrap_or, refl, sym, ap, ◌∙◌, subst, arith}
use Rattle.std.specs.Prelude.{All, IsSome}
use Rattle.std.proofs.lemmas.Bool.Decides.{nat_tests}
use Rattle.std.proofs.lemmas.List.Elements.{All-head, All-tail}
use Rattle.rbd_kinds.specs.declared.answer.Answer.{Answer}
use Rattle.rbd_kinds.specs.declared.answer.Answer.TheVariants as answer
use Rattle.rbd_kinds.specs.declared.header.HeaderView.{HeaderView}
use Rattle.rbd_kinds.specs.declared.header_op.HeaderOp.TheVariants as header
use Rattle.rbd_kinds.specs.declared.id.Instance.{Instance}
use Rattle.rbd_kinds.specs.declared.id.SiteId.{SiteId}
use Rattle.rbd_kinds.specs.declared.layout.Extent.{Extent}
use Rattle.rbd_kinds.specs.Extents.{fits}
use Rattle.rbd_header.specs.declared.view.View.{View}
use Rattle.rbd_layout.specs.Pieces.{IsPartsOf}
use Rattle.rbd_layout.specs.declared.types.Piece.{Piece}
use Rattle.rbd_layout.proofs.Within.{lies_in}
use Rattle.rbd_machine.specs.Objects.{data_read}
use Rattle.rbd_machine.specs.Path.{Answered, looked_at}
use Rattle.rbd_meaning.specs.Reads.{AreRead, IsShown, bytes_read, bytes_shown}
use Rattle.rbd_site.specs.HeaderStep.{header_answer}
use Rattle.rbd_stands.specs.Condition.{ArePartsBelow}
use Rattle.rbd_stands.specs.View.{shape_of}
use Rattle.rbd_world.specs.Run.{records_after}
use Rattle.rbd_replies.specs.Places.{Placed}
use Rattle.rbd_replies.specs.Reads.{ArePiecesAt, TellsFlatPiece}
use Rattle.rbd_replies.proofs.PlacedRight.{ArePlacedRight, IsPlacedRight}
use Rattle.rbd_replies.proofs.Places.{step_at}
use Rattle.rbd_replies.proofs.ReadKept.{header_between}
use Rattle.rbd_replies.proofs.PlacesTaken.{begin_with, none_taken}
use Rattle.rbd_replies.proofs.PlacesTold.{records_at, served_there}
use Rattle.rbd_replies.proofs.ReadNames.{IsViewOf}
use Rattle.rbd_replies.proofs.ReadOrder.{AreBehind, AreOrdered, behind_last, goes_on}
use Rattle.rbd_replies.proofs.ReadPiece.{piece_shown}

-- ---- lists of steps, taken apart

pub record Divides (front_steps back_steps : List Answered) (places : List Placed) : Type 0 where
  pub front : List Placed
  pub back : List Placed
  pub are : places ≡ front ++ back
  pub front_is : map step_at front ≡ front_steps
  pub back_is : map step_at back ≡ back_steps

pub divide : (some others : List Answered) (places : List Placed) → map step_at places ≡ some ++ others → Divides some others places
divide [] others places are = record { front = []; back = places; are = refl; front_is = refl; back_is = are }
divide (step ∷ some) others places are =
    let first = begin_with step (some ++ others) places are in
    let more = divide some others first.rest first.others in
    record {
      front = first.place ∷ more.front;
      back = more.back;
      are = first.are ∙ ap (λ rest. first.place ∷ rest) more.are;
      front_is = ap (λ s. s ∷ map step_at more.front) first.is ∙ ap (λ rest. step ∷ rest) more.front_is;
      back_is = more.back_is;
    }

-- ---- a look tells the header that is there

got : (me : Instance) (there : Option HeaderView) (watchers : List Instance) (h : HeaderView) → header_answer me there watchers header.Get ≡ answer.Header h → there ≡ Some h
got me None watchers h answered = cc
got me (Some other) watchers h answered = cc

pub there_at : (homes : ℕ → SiteId) (p : Placed) (right : IsPlacedRight homes p) (home : SiteId) (image : ℕ) (h : HeaderView) → step_at p ≡ looked_at home image h → (records_at p).headers image ≡ Some h
there_at homes p right home image h is =
    got p.done.instance ((records_at p).headers image) ((records_at p).watchers image) h (served_there homes p right (looked_at home image h) is refl)

-- ---- the pieces lie within the view

pub within_size : (e : Extent) (size : ℕ) → fits e size ≡ true → e.at + e.len ≤ size
within_size e size is = grind (arith, nat_tests)

pub parts_within : (h : HeaderView) (e : Extent) (size object : ℕ) (piece : Piece) → e.at + e.len ≤ size → IsPartsOf h.layout e piece.object piece.parts → ArePartsBelow h size piece.object piece.parts
parts_within h e size object piece within are =
    λ k d below.
    let lies = lies_in h.layout e piece.object piece.parts are k d below in
    let ends = lies.before in
    record { part = are.each k d below; below = omega arith }

-- ---- piece by piece

-- who owns the lock is no part of what a view tells
owned_shape : (h : HeaderView) (owner : Option Instance) (snap : Option ℕ) → shape_of (record h { owner = owner }) snap ≡ shape_of h snap
owned_shape h owner None = refl
owned_shape h owner (Some s) = refl

owned_view : (h : HeaderView) (owner : Option Instance) (view : View) → IsViewOf h view → IsViewOf (record h { owner = owner }) view
owned_view h owner view viewed = record { shape = viewed.shape; is = owned_shape h owner view.snap ∙ viewed.is; size = viewed.size; no_parent = viewed.no_parent }

-- a piece that was shown at its place
abbrev pub shown_there : (p : Placed) (image : ℕ) (snap : Option ℕ) (piece : Piece) (a : Answer) (bytes : List ℕ) → bytes_shown piece.parts a ≡ Some bytes
    → (home : SiteId) → step_at p ≡ record { site = home; op = data_read image snap piece; answer = a } → IsShown p.done.site image snap piece (step_at p ∷ [])
shown_there p image snap piece a bytes shown home is = record {
  answer = a;
  bytes = bytes;
  shown = shown;
  are = ap (λ s. s ∷ []) (is ∙ ap (λ there. record { site = there; op = data_read image snap piece; answer = a }) (sym (ap (λ (s : Answered). s.site) is)));
}

module _ (homes : ℕ → SiteId) (home : SiteId) (image : ℕ) (h : HeaderView) (e : Extent) (view : View) (viewed : IsViewOf h view) (within : e.at + e.len ≤ view.size) (first last : Placed)
    (first_home : first.done.site ≡ home) (last_home : last.done.site ≡ home) (last_right : IsPlacedRight homes last) (new : HeaderView)
    (was : (records_after home first.before).headers image ≡ Some h) (is : (records_after home last.before).headers image ≡ Some new) (generation : new.generation ≡ h.generation) where
  pub pieces_shown : (pieces : List Piece) (places : List Placed) → All (λ (p : Piece). IsPartsOf h.layout e p.object p.parts) pieces → ArePlacedRight homes places
      → AreBehind first (places ++ last ∷ []) → AreOrdered (places ++ last ∷ []) → (steps : List Answered) → map step_at places ≡ steps → (read : AreRead home image view.snap pieces steps)
      → ArePiecesAt image view.snap pieces (bytes_read home image view.snap pieces steps read) places
  pieces_shown [] places parts right behind ordered steps are none = (refl, none_taken places (are ∙ none))
  pieces_shown (piece ∷ pieces) [] parts right behind ordered steps are read =
      let f = read.is_first in
      let all : [] ≡ record { site = home; op = data_read image view.snap piece; answer = f.answer } ∷ read.others = are ∙ read.are ∙ ap (λ first. first ++ read.others) f.are in
      absurd (cc)
  pieces_shown (piece ∷ pieces) (p ∷ places) parts right behind ordered steps are read =
      let f = read.is_first in
      let step : Answered = record { site = home; op = data_read image view.snap piece; answer = f.answer } in
      let all : step_at p ∷ map step_at places ≡ step ∷ read.others = are ∙ read.are ∙ ap (λ first. first ++ read.others) f.are in
      let asked : step_at p ≡ step = cc in
      let others : map step_at places ≡ read.others = cc in
      let at_home : p.done.site ≡ home = ap (λ (s : Answered). s.site) asked in
      let some : bytes_shown piece.parts p.done.answer ≡ Some f.bytes = ap (λ (s : Answered). bytes_shown piece.parts s.answer) asked ∙ f.shown in
      let there =
      header_between homes home image last.before p.before first.before (goes_on last.before p (behind_last p last places ordered.0)) (goes_on p.before first behind.0) last_right.right right.0.right h new was is generation in
      let v = there.view in
      let here : (records_at p).headers image ≡ Some v = subst (λ s. (records_after s p.before).headers image ≡ Some v) (sym at_home) there.is in
      let viewed_there : IsViewOf v view = subst (λ w. IsViewOf w view) (sym there.same) (owned_view h v.owner view viewed) in
      let below : ArePartsBelow v view.size piece.object piece.parts =
      subst (λ w. ArePartsBelow w view.size piece.object piece.parts) (sym there.same)
      (parts_within (record h { owner = v.owner }) e view.size piece.object piece within (All-head (λ (q : Piece). IsPartsOf h.layout e q.object q.parts) piece pieces parts)) in
      let tells = piece_shown homes home image v view viewed_there p piece right.0 here below (ap (λ (s : Answered). s.op) asked) (subst IsSome (sym some) refl) in
      record {
        reading = p ∷ [];
        others = places;
        are = refl;
        front = f.bytes;
        rest = bytes_read home image view.snap pieces read.others read.are_others;
        bytes_are = refl;
        is_first = record {
          own = p;
          above = [];
          are = refl;
          shown = shown_there p image view.snap piece f.answer f.bytes f.shown home asked;
          shows = refl;
          tells = subst (λ b. TellsFlatPiece image view.snap piece b p) (ap (λ o. unwrap_or o []) some) tells;
        };
        are_others = pieces_shown pieces places (All-tail (λ (q : Piece). IsPartsOf h.layout e q.object q.parts) piece pieces parts) right.1 behind.1 ordered.1 read.others others read.are_others;
      }
