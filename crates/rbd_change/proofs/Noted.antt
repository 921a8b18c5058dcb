-- A change goes on with its event, or without one.
use Rattle.std.proofs.Common.{◌≡◌, ℕ, true, false, Option, Some, None, is_some, refl, sym, subst}
use Rattle.std.proofs.lemmas.Bool.{true≢false}
use Rattle.rbd_kinds.specs.declared.id.SiteId.{SiteId}
use Rattle.rbd_kinds.specs.declared.journal.JournalEvent.{JournalEvent}
use Rattle.rbd_kinds.specs.declared.machine.Flow.{Flow}
use Rattle.rbd_kinds.specs.declared.machine.Flow.TheVariants as flow
use Rattle.rbd_machine.specs.Plan.{Plan, Goto, GoesOn, Note, Standing, without_labels}
use Rattle.rbd_machine.proofs.Settled.{goes_more}
use Rattle.rbd_change.specs.Event.{ending, event_or_any, noting}

module _ (site : SiteId) (image : ℕ) (act : (next : Plan) → Plan) where
  with_event : (noted : Option JournalEvent) → is_some noted ≡ true → Note site image (event_or_any noted) (act (ending site image true)) ≡ noting site image noted act
  with_event None some = absurd (true≢false (sym some))
  with_event (Some e) some = refl

  without_event : (noted : Option JournalEvent) → is_some noted ≡ false → act (ending site image false) ≡ noting site image noted act
  without_event None none = refl
  without_event (Some e) none = absurd (true≢false none)

  -- it stands at its note
  pub goes_to_note : (noted : Option JournalEvent) → is_some noted ≡ true → GoesOn Goto (noting site image noted act) flow.More (without_labels (Note site image (event_or_any noted) (act (ending site image true))))
  goes_to_note noted some = goes_more (noting site image noted act) (Note site image (event_or_any noted) (act (ending site image true))) tt (with_event noted some)

  -- it goes on where it has none
  pub goes_without_note : (noted : Option JournalEvent) (result : Flow) (new : Standing) → is_some noted ≡ false → GoesOn Goto (act (ending site image false)) result new → GoesOn Goto (noting site image noted act) result new
  goes_without_note noted result new none goes = subst (λ to. GoesOn Goto to result new) (without_event noted none) goes
