-- What the replies of an `rm` mean.
use Rattle.std.proofs.Common.{◌≡◌, ℕ, List}
use Rattle.rbd_kinds.specs.declared.id.SiteId.{SiteId}
use Rattle.rbd_kinds.specs.declared.machine.Fed.{Fed}
use Rattle.rbd_kinds.specs.declared.reply.Reply.{Reply}
use Rattle.rbd_kinds.specs.declared.reply.Reply.TheVariants as reply
use Rattle.rbd_machine.specs.Path.{Answered, IsWalk}
use Rattle.rbd_machine.specs.Plan.{Goto, Return}
use Rattle.rbd_machine.specs.Refused.{AreGiven}
use Rattle.rbd_machine.proofs.Walked.{EndsUnrefused}
use Rattle.rbd_meaning.specs.Removals.{RemoveMeans}
use Rattle.rbd_image.specs.Remove.{remove_image}
use Rattle.rbd_image.specs.Told.{AreJournalless, FindJournals}
use Rattle.rbd_image.proofs.RemovalsOwn.{removal_is_own}
use Rattle.rbd_image.proofs.Journals.{journals_are_found}
use Rattle.rbd_image.proofs.RemovalsRefused.{refusal_is_meant}
use Rattle.rbd_image.proofs.RemovalsWalked.{removed_whole}

module _ (site : SiteId) (session : ℕ) (name : List ℕ) (feds : List Fed) (steps : List Answered) where
  done_alone : (r : Reply) → EndsUnrefused (Return r) → IsWalk Goto (remove_image site session name) feds steps (Return r) → r ≡ reply.Done
  done_alone r kind walk = let same : Return r ≡ Return reply.Done = (removed_whole (Return r) kind site session name feds steps walk).0 in cc

  pub remove_means : (r : Reply) → AreGiven steps → FindJournals steps → IsWalk Goto (remove_image site session name) feds steps (Return r) → RemoveMeans site session name steps r
  remove_means reply.Done given finds walk = (removed_whole (Return reply.Done) tt site session name feds steps walk).1
  remove_means (reply.Refused x) given finds walk =
      refusal_is_meant x site session name steps (removal_is_own site session name feds steps (Return (reply.Refused x)) walk) given finds feds walk
  remove_means r given finds walk = let same = done_alone r tt walk in cc

  pub remove_means_without : (r : Reply) → AreGiven steps → AreJournalless steps → IsWalk Goto (remove_image site session name) feds steps (Return r) → RemoveMeans site session name steps r
  remove_means_without r given journalless walk = remove_means r given (journals_are_found site session name feds steps (Return r) journalless walk) walk
