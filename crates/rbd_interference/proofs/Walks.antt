-- Wherever a walk leads, what its operations left is owed there, and is paid next.
use Rattle.std.proofs.Common.{List, [], ◌∷◌, Option, Some, None, sym, subst}
use Rattle.rbd_kinds.specs.declared.answer.Answer.{Answer}
use Rattle.rbd_kinds.specs.declared.id.SiteId.{SiteId}
use Rattle.rbd_kinds.specs.declared.machine.Fed.{Fed}
use Rattle.rbd_kinds.specs.declared.machine.Fed.TheVariants as fed
use Rattle.rbd_kinds.specs.declared.operation.Op.{Op}
use Rattle.rbd_machine.specs.Label.{Label}
use Rattle.rbd_machine.specs.Path.{Answered, IsWalk}
use Rattle.rbd_machine.specs.Plan.{Plan, Ask, Await, Note, Return, Goto, Standing, past_label}
use Rattle.rbd_machine.specs.Refused.{AreGiven, IsGiven}
use Rattle.rbd_machine.specs.Standalone.{TellAllStandalone, TellsStandalone}
use Rattle.rbd_machine.specs.declared.reason.Reason.{Reason}
use Rattle.rbd_interference.specs.Owed.{PaysFrom, PaysItsStates, Spot, owed_after, owed_behind, owed_by}

module _ (labels : Label → Plan) (pay : (label : Label) → PaysItsStates None (labels label)) where
  pays_settled : (owed : Option Spot) (plan : Plan) → PaysItsStates owed plan → PaysItsStates owed (past_label labels plan)
  pays_settled owed (Ask site why op next) pays = pays
  pays_settled owed (Await wait next) pays = pays
  pays_settled owed (Note site image event next) pays = pays
  pays_settled owed (Return reply) pays = pays
  pays_settled None (Goto label) pays = pay label
  pays_settled (Some p) (Goto label) pays = absurd pays

  -- how it goes on behind an answer
  pays_answered : (owed : Option Spot) (site : SiteId) (why : Reason) (o : Op) (next : Answer → Plan) (a : Answer) → IsGiven o a → TellsStandalone a → PaysItsStates owed (Ask site why o next)
      → PaysItsStates (owed_by owed site o a) (next a)
  pays_answered None site why o next a given told pays = pays.1 a given told
  pays_answered (Some p) site why o next a given told pays = pays.1 a given told

  walked : (feds : List Fed) (owed : Option Spot) (plan : Plan) (steps : List Answered) (last : Plan) → PaysItsStates owed plan → AreGiven steps → TellAllStandalone steps → IsWalk labels plan feds steps last
      → PaysItsStates (owed_after owed steps) last
  walked [] owed plan steps last pays given told (none, same) =
      subst (λ done. PaysItsStates (owed_after owed done) last) (sym none) (subst (PaysItsStates owed) (sym same) pays)
  walked (fed.Answer a ∷ more) owed (Ask site why o next) steps last pays given told (first, walk) =
      let all = subst AreGiven first.is given in
      let tells = subst TellAllStandalone first.is told in
      subst (λ done. PaysItsStates (owed_after owed done) last) (sym first.is)
      (walked more (owed_by owed site o a) (past_label labels (next a)) first.rest last
      (pays_settled (owed_by owed site o a) (next a) (pays_answered owed site why o next a all.0 tells.0 pays)) all.1 tells.1 walk)
  walked (fed.Passed ∷ more) owed (Ask site why o next) steps last pays given told walk = absurd walk
  walked (fed.Passed ∷ more) None (Await wait next) steps last pays given told walk =
      walked more None (past_label labels next) steps last (pays_settled None next pays) given told walk
  walked (fed.Passed ∷ more) (Some p) (Await wait next) steps last pays given told walk = absurd pays
  walked (fed.Answer a ∷ more) owed (Await wait next) steps last pays given told walk = absurd walk
  walked (fed.Passed ∷ more) None (Note site image event next) steps last pays given told walk =
      walked more None (past_label labels next) steps last (pays_settled None next pays) given told walk
  walked (fed.Passed ∷ more) (Some p) (Note site image event next) steps last pays given told walk = absurd pays
  walked (fed.Answer a ∷ more) owed (Note site image event next) steps last pays given told walk = absurd walk
  walked (f ∷ more) owed (Return reply) steps last pays given told walk = absurd walk
  walked (f ∷ more) owed (Goto label) steps last pays given told walk = absurd walk

pub walk_pays : (s : Standing) (feds : List Fed) (steps : List Answered) (last : Plan) → PaysFrom None s → AreGiven steps → TellAllStandalone steps → IsWalk s.labels s.plan feds steps last
    → PaysItsStates (owed_behind steps) last
walk_pays s feds steps last pays given told walk = walked s.labels pays.labels feds None s.plan steps last pays.plan given told walk
