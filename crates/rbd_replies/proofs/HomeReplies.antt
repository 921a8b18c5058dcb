-- A reply in a run that is right comes of operations at the home of the session that began its
-- line.
use Rattle.std.proofs.Common.{◌≡◌, ◌⊎◌, inl, inr, ℕ, true, List, [], ◌∷◌, ◌++◌, Some, sym, subst, ◌∙◌}
use Rattle.std.proofs.lemmas.Option.{same_Some}
use Rattle.rbd_kinds.specs.declared.id.SiteId.{SiteId}
use Rattle.rbd_kinds.specs.declared.reply.Reply.{Reply}
use Rattle.rbd_machine.specs.Path.{Answered}
use Rattle.rbd_meaning.specs.Meant.{IsMeantBy}
use Rattle.rbd_world.specs.Run.{Asked, Happening, Did, Operation, asked_by, is_for}
use Rattle.rbd_world.specs.Seats.{seat_at}
use Rattle.rbd_world.specs.Sound.{IsRefusedOnWay, IsReplyMeant, IsRight, look_answered}
use Rattle.rbd_replies.proofs.HomeSteps.{meant_at_places, meant_before_places}
use Rattle.rbd_replies.proofs.OnWay.{EndsOnWay, ends_so, places_on_way}
use Rattle.rbd_replies.proofs.Places.{steps_at_places}
use Rattle.rbd_replies.specs.Home.{AreDoneAt}
use Rattle.rbd_replies.specs.Places.{placed_of}

pub replied_at_home : (homes : ℕ → SiteId) (line : ℕ) (r : Reply) (before run : List Happening) (asked : Asked)
    → IsReplyMeant homes line r before run → asked_by line before ≡ Some asked → AreDoneAt (homes asked.who.session) (placed_of line run)
replied_at_home homes line r before run asked is asks =
    subst (λ (a : Asked). AreDoneAt (homes a.who.session) (placed_of line run)) (same_Some is.begun.asked asked (sym is.begun.is ∙ asks))
    (meant_at_places (seat_at homes is.begun.asked.who.session) is.begun.asked.command (placed_of line run) r
    (subst (λ steps. IsMeantBy (seat_at homes is.begun.asked.who.session) is.begun.asked.command steps r) (sym (steps_at_places line run)) is.meant))

refused_at_home : (homes : ℕ → SiteId) (line : ℕ) (o : Operation) (r : Reply) (run : List Happening) (asked : Asked)
    → IsRefusedOnWay homes line r o run → asked_by line run ≡ Some asked → AreDoneAt (homes asked.who.session) (placed_of line run)
refused_at_home homes line o r run asked is asks =
    let look : List Answered = look_answered o.site is.image o.answer ∷ [] in
    subst (λ (a : Asked). AreDoneAt (homes a.who.session) (placed_of line run)) (same_Some is.begun.asked asked (sym is.begun.is ∙ asks))
    (meant_before_places (seat_at homes is.begun.asked.who.session) is.begun.asked.command (placed_of line run) look r
    (subst (λ steps. IsMeantBy (seat_at homes is.begun.asked.who.session) is.begun.asked.command (steps ++ look) r) (sym (steps_at_places line run)) is.meant))

pub home_behind : (homes : ℕ → SiteId) (line : ℕ) (o : Operation) (r : Reply) (run : List Happening) (asked : Asked) → IsRight homes (Did o (Some r) ∷ run)
    → is_for line o.by ≡ true → asked_by line run ≡ Some asked → AreDoneAt (homes asked.who.session) (placed_of line (Did o (Some r) ∷ run))
home_behind homes line o r run asked right mine asks = by (ends_so homes line o r run mine right.1.1)
  where
    by : (IsReplyMeant homes line r run (Did o (Some r) ∷ run)) ⊎ (EndsOnWay homes line r o run o.by) → AreDoneAt (homes asked.who.session) (placed_of line (Did o (Some r) ∷ run))
    by (inl is) = replied_at_home homes line r run (Did o (Some r) ∷ run) asked is asks
    by (inr way) = subst (AreDoneAt (homes asked.who.session)) (sym (places_on_way line o (Some r) run way.apart)) (refused_at_home homes line o r run asked way.is asks)
