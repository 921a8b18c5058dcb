-- What the replies of a rollback mean.
use Rattle.std.proofs.Common.{◌≡◌, ◌⊎◌, inl, inr, ℕ, false, List, ◌∷◌, Option, Some, None, refl, subst}
use Rattle.rbd_kinds.specs.declared.header.HeaderView.{HeaderView}
use Rattle.rbd_kinds.specs.declared.header.SnapView.{SnapView}
use Rattle.rbd_kinds.specs.declared.id.SiteId.{SiteId}
use Rattle.rbd_kinds.specs.declared.machine.Fed.{Fed}
use Rattle.rbd_kinds.specs.declared.reply.Reply.{Reply}
use Rattle.rbd_kinds.specs.declared.reply.Reply.TheVariants as reply
use Rattle.rbd_kinds.specs.Form.{IsHeaderInForm}
use Rattle.rbd_kinds.specs.Header.{snap_named}
use Rattle.rbd_commands.specs.declared.refusal.Refusal.{Refusal}
use Rattle.rbd_machine.specs.Path.{Answered, IsWalk, found, looked_at}
use Rattle.rbd_machine.specs.Plan.{Plan, Return, Goto}
use Rattle.rbd_machine.specs.Refused.{by_fence, AreGiven}
use Rattle.rbd_machine.specs.Steps.{applied, non_primary}
use Rattle.rbd_machine.proofs.Lawful.{or_else_none}
use Rattle.rbd_machine.proofs.Refused.{IsRefusing, only_image}
use Rattle.rbd_meaning.specs.Parentless.{AreParentless}
use Rattle.rbd_meaning.specs.Rollbacks.{RollbackMeans, RollsBack, listing_refusal, rollback_refuses}
use Rattle.rbd_snap.specs.Rollback.{roll_back_listed, roll_back_to, rollback}
use Rattle.rbd_snap.proofs.RollbacksBuilt.{built_roll_back}
use Rattle.rbd_image.proofs.Hopes.{Hopes, IsHopeful, hopes_rules}
use Rattle.rbd_snap.proofs.RollbacksOwn.{rollback_is_own}
use Rattle.rbd_image.proofs.ResizesRefusing.{IsDone, IsDoneOrFenced, IsOutside, Refusing, outside, refusing_rules}
use Rattle.rbd_snap.proofs.RollbacksWhole.{listed_did, rollback_is_whole, rolled_whole}
use Rattle.rbd_image.proofs.ResizesMeant.{IsAct, done_or_refused, refused_so}

module _ (site : SiteId) (name snap : List ℕ) (image : ℕ) (own : HeaderView) (none : own.parent ≡ None) (may : rollback_refuses snap own ≡ None) where
  abbrev IsThisAct : Plan → Type 0
  IsThisAct p = IsRefusing (rollback_refuses snap) by_fence IsDone (only_image site image) false p × IsHopeful p

  listed_acts : (listed : Option SnapView) → snap_named own.snaps snap ≡ listed → IsThisAct (roll_back_listed site snap image own listed)
  listed_acts None is =
      let refused : listing_refusal (snap_named own.snaps snap) ≡ None = or_else_none (non_primary own.role) (listing_refusal (snap_named own.snaps snap)) may in
      let there : listing_refusal None ≡ None = subst (λ listed. listing_refusal listed ≡ None) is refused in
      cc
  listed_acts (Some listed) is =
      let refuses = rollback_refuses snap in
      let refusing =
      built_roll_back (λ k p. Refusing refuses site image k) (λ k p. IsRefusing refuses by_fence IsDone (only_image site image) false k) (IsDoneOrFenced refuses) IsOutside site image (refusing_rules refuses site image) own (outside own none) listed
      (applied site image) (applied site image) (λ changed. tt) in
      let hopes =
      built_roll_back (λ k p. Hopes k) (λ k p. Hopes k) (λ o. Unit {0}) (λ inside. Unit {0}) site image (hopes_rules site image) own (λ number. tt) listed (applied site image) (applied site image) (record { can = tt; hopeful = tt }) in
      (refusing, hopes.hopeful)

  pub rollback_acts : IsAct site name (rollback_refuses snap) (roll_back_to site snap) (RollsBack site name snap) image own
  rollback_acts = let acts = listed_acts (snap_named own.snaps snap) refl in record { refusing = acts.0; hopeful = acts.1 }

pub rollback_means : (site : SiteId) (name snap : List ℕ) (feds : List Fed) (steps : List Answered) (r : Reply) → AreGiven steps → AreParentless steps
    → IsWalk Goto (rollback site name snap) feds steps (Return r) → RollbackMeans site name snap steps r
rollback_means site name snap feds steps r given parentless walk =
    go r walk (done_or_refused site name (rollback_refuses snap) (roll_back_to site snap) (RollsBack site name snap) feds steps given parentless (rollback_acts site name snap) whole r walk)
  where
    whole : (image : ℕ) (first own : HeaderView) (feds : List Fed) (rest : List Answered) → rollback_refuses snap first ≡ None → rollback_refuses snap own ≡ None → IsHeaderInForm own
        → IsWalk Goto (roll_back_to site snap image own) feds rest (Return reply.Done) → RollsBack site name snap (found site name image ∷ looked_at site image first ∷ looked_at site image own ∷ rest)
    whole image first own feds rest may_wait may form walk = rolled_whole site name snap image first own rest may_wait may form (listed_did site snap image own feds rest walk)

    go : (r : Reply) → IsWalk Goto (rollback site name snap) feds steps (Return r) → IsDone r ⊎ ((x : Refusal) × (r ≡ reply.Refused x)) → RollbackMeans site name snap steps r
    go reply.Done walk ends = rollback_is_whole site name snap feds steps given walk
    go (reply.Refused x) walk ends =
        let so = refused_so site name (rollback_refuses snap) (roll_back_to site snap) (RollsBack site name snap) feds steps given parentless (rollback_acts site name snap) whole x walk in
        record { refused = record { own = rollback_is_own site name snap feds steps (Return (reply.Refused x)) walk; by = so.by }; so_far = so.so_far }
    go _ walk (inl granted) = absurd granted
    go _ walk (inr (x, same)) = cc
