-- The replies to commands are meant: lemmas that the laws of an `impl` cite. They define nothing.
use Rattle.std.proofs.Common.{◌≡◌, List, [], ◌∷◌, true}
use Rattle.rbd_commands.specs.declared.command.Command.{Command}
use Rattle.rbd_commands.specs.declared.command.Command.TheVariants as command
use Rattle.rbd_kinds.specs.declared.answer.Answer.{Answer}
use Rattle.rbd_kinds.specs.declared.answer.Answer.TheVariants as answer
use Rattle.rbd_kinds.specs.declared.machine.Fed.{Fed}
use Rattle.rbd_kinds.specs.declared.reply.Reply.{Reply}
use Rattle.rbd_machine.specs.Path.{Answered, IsWalk}
use Rattle.rbd_machine.specs.Plan.{Standing, Goto, Return}
use Rattle.rbd_machine.specs.Refused.{AreGiven}
use Rattle.rbd_machine.specs.Standalone.{TellAllStandalone, TellsStandalone}
use Rattle.rbd_machine.specs.declared.seat.Seat.{Seat}
use Rattle.rbd_meaning.specs.Meant.{IsMeantBy}
use Rattle.rbd_meaning.specs.Parentless.{AreParentless, TellsNoParent}
use Rattle.rbd_data.proofs.Meant.{write_plan_means, read_plan_means}
use Rattle.rbd_image.proofs.Meant.{create_means, listing_means}
use Rattle.rbd_snap.proofs.Meant.{snap_means}
use Rattle.rbd_session.proofs.Meant.{means as close_means}
use Rattle.rbd_data.proofs.DiscardsMeant.{discard_means}
use Rattle.rbd_data.specs.Discard.{is_discard, discard_plan}
use Rattle.rbd_image.proofs.RemovalsMeant.{remove_means_without}
use Rattle.rbd_image.specs.Remove.{is_remove, remove_plan}
use Rattle.rbd_image.specs.Told.{AreJournalless, TellsNoJournal}
use Rattle.rbd_image.proofs.ResizesMeant.{resize_means}
use Rattle.rbd_snap.proofs.RollbacksMeant.{rollback_means}
use Rattle.rbd_image.specs.Resize.{is_resize, resize_plan}
use Rattle.rbd_snap.specs.Rollback.{is_rollback, rollback_plan}
use Rattle.rbd_catalog.specs.EachRequest.{HoldsOfEach, of_command}
use Rattle.rbd_catalog.specs.Plans.{IsPlanFor}

-- ---- images that stand alone have no parent, and no journal

no_parent : (a : Answer) → TellsStandalone a → TellsNoParent a
no_parent (answer.Header h) is = is.no_parent
no_parent _ is = tt

parentless : (steps : List Answered) → TellAllStandalone steps → AreParentless steps
parentless [] are = tt
parentless (step ∷ steps) (is, are) = (no_parent step.answer is, parentless steps are)

no_journal : (a : Answer) → TellsStandalone a → TellsNoJournal a
no_journal (answer.Header h) is = is.no_journal
no_journal _ is = tt

journalless : (steps : List Answered) → TellAllStandalone steps → AreJournalless steps
journalless [] are = tt
journalless (step ∷ steps) (is, are) = (no_journal step.answer is, journalless steps are)

-- ---- the commands whose replies are meant of such images

module _ (seat : Seat) (feds : List Fed) (steps : List Answered) (r : Reply) (given : AreGiven steps)
    (standalone : TellAllStandalone steps) where
  discard_plan_means : (c : Command) → is_discard c ≡ true
      → IsWalk Goto (discard_plan seat.home c) feds steps (Return r) → IsMeantBy seat c steps r
  discard_plan_means (command.Discard image at len) is walk = discard_means seat.home image at len feds steps r given
      (parentless steps standalone) walk
  discard_plan_means _ is walk = cc

  resize_plan_means : (c : Command) → is_resize c ≡ true → IsWalk Goto (resize_plan seat.home c) feds steps (Return r)
      → IsMeantBy seat c steps r
  resize_plan_means (command.Resize image size) is walk = resize_means seat.home image size feds steps r given
      (parentless steps standalone) walk
  resize_plan_means _ is walk = cc

  rollback_plan_means : (c : Command) → is_rollback c ≡ true
      → IsWalk Goto (rollback_plan seat.home c) feds steps (Return r) → IsMeantBy seat c steps r
  rollback_plan_means (command.SnapRollback image snap) is walk = rollback_means seat.home image snap feds steps r given
      (parentless steps standalone) walk
  rollback_plan_means _ is walk = cc

  remove_plan_means : (c : Command) → is_remove c ≡ true → IsWalk Goto (remove_plan seat.home seat.session c) feds steps
      (Return r) → IsMeantBy seat c steps r
  remove_plan_means (command.Remove image) is walk =
      remove_means_without seat.home seat.session image feds steps r given (journalless steps standalone) walk
  remove_plan_means _ is walk = cc

  -- ---- all of them

  each_is_meant : HoldsOfEach seat (λ c s. IsWalk s.labels s.plan feds steps (Return r) → IsMeantBy seat c steps r)
  each_is_meant = record {
    writes = λ c is walk. write_plan_means seat c feds steps r is given walk;
    discards = discard_plan_means;
    reads = λ c s is walk. read_plan_means seat c s feds steps r is given walk;
    creates = λ c plan is walk. create_means seat c plan feds steps r is given walk;
    lists = λ c is walk. listing_means seat c feds steps r is given walk;
    snaps = λ c is walk. snap_means seat c feds steps r is given walk;
    resizes = resize_plan_means;
    rollbacks = rollback_plan_means;
    removes = remove_plan_means;
    closes = λ c is walk. close_means seat c feds steps r is given walk;
  }

pub command_is_meant : (seat : Seat) (c : Command) (s : Standing) (feds : List Fed) (steps : List Answered) (r : Reply)
    → IsPlanFor seat c s → AreGiven steps → TellAllStandalone steps → IsWalk s.labels s.plan feds steps (Return r)
    → IsMeantBy seat c steps r
command_is_meant seat c s feds steps r is given standalone walk =
    of_command seat (λ (of : Command) (at : Standing). IsWalk at.labels at.plan feds steps (Return r)
    → IsMeantBy seat of steps r) (each_is_meant seat feds steps r given standalone) c s is walk
