-- What snapshots show of an object, after an operation.
use Rattle.std.proofs.Common.{◌≡◌, ℕ, ◌≤◌, Bool, true, false, cond, eqb, List, [], ◌∷◌, Option, Some, refl, sym, ap, ◌∙◌, subst}
use Rattle.std.proofs.lemmas.Bool.{eqb-true}
use Rattle.rbd_kinds.specs.declared.answer.Answer.{Answer}
use Rattle.rbd_kinds.specs.declared.answer.Answer.TheVariants as answer
use Rattle.rbd_kinds.specs.declared.data_op.DataOp.{DataOp}
use Rattle.rbd_kinds.specs.declared.data_op.DataOp.TheVariants.{Read, Write, WriteFull, Zero, Empty, Remove, CopyUp}
use Rattle.rbd_kinds.specs.declared.header.SnapContext.{SnapContext}
use Rattle.rbd_kinds.specs.declared.id.Instance.{Instance}
use Rattle.rbd_kinds.specs.declared.operation.Op.{Op}
use Rattle.rbd_kinds.specs.declared.operation.Op.TheVariants as on
use Rattle.rbd_object.specs.Mapped.{Mapped, versioned, mapped_change}
use Rattle.rbd_object.specs.Versioned.{view, Change, CopyUp as CopiedUp}
use Rattle.rbd_object.proofs.MappedLemmas.{looked-mapped_change}
use Rattle.rbd_object.proofs.StepLemmas.{view-after_steps}
use Rattle.rbd_site.specs.DataStep.{blank_answer, data_change, where_object_done, data_after}
use Rattle.rbd_site.specs.Records.{Records, or_blank, object_at, put}
use Rattle.rbd_site.specs.Step.{after, after_served}
use Rattle.rbd_site.proofs.StepLemmas.{where_fenced}

change_stays : (c : SnapContext) (new : Option (List ℕ)) (o : Mapped) (snap : ℕ) → snap ≤ o.seq
    → view (versioned (mapped_change c new o)) (Some snap) ≡ view (versioned o) (Some snap)
change_stays c new o snap below = ap (λ v. view v (Some snap)) (looked-mapped_change c new o) ∙ view-after_steps snap (Change c new ∷ []) (versioned o) below refl

changed_stays : (o : Mapped) (op : DataOp) (snap : ℕ) → snap ≤ o.seq → view (versioned (data_change o op)) (Some snap) ≡ view (versioned o) (Some snap)
changed_stays o (Read s parts) snap below = refl
changed_stays o (Write c must parts bytes) snap below = change_stays c _ o snap below
changed_stays o (WriteFull c bytes) snap below = change_stays c _ o snap below
changed_stays o (Zero c must parts) snap below = change_stays c _ o snap below
changed_stays o (Empty c) snap below = change_stays c _ o snap below
changed_stays o (Remove c) snap below = change_stays c _ o snap below
changed_stays o (CopyUp bytes) snap below = view-after_steps snap (CopiedUp bytes ∷ []) (versioned o) below refl

data_stays : (o : Option Mapped) (op : DataOp) (snap : ℕ) → snap ≤ (or_blank o).seq
    → view (versioned (or_blank (data_after o op))) (Some snap) ≡ view (versioned (or_blank o)) (Some snap)
data_stays o op snap below = go (blank_answer (or_blank o) op)
  where
    go : (a : Answer) → view (versioned (or_blank (where_object_done a (data_change (or_blank o) op) o))) (Some snap) ≡ view (versioned (or_blank o)) (Some snap)
    go answer.Done = changed_stays (or_blank o) op snap below
    go a = refl

served_stay : (r : Records) (me : Instance) (op : Op) (image number snap : ℕ) → snap ≤ (object_at r image number).seq
    → view (versioned (object_at (after_served r me op) image number)) (Some snap) ≡ view (versioned (object_at r image number)) (Some snap)
served_stay r me (on.Data image number op) i n snap below = go (eqb i image) refl
  where
    changed : Option Mapped
    changed = data_after (r.objects image number) op

    shown : Option Mapped → Option (List ℕ)
    shown o = view (versioned (or_blank o)) (Some snap)

    same : (i ≡ image) → (n ≡ number) → r.objects i n ≡ r.objects image number
    same a b = λ j. r.objects (a j) (b j)

    at_number : (t : Bool) → i ≡ image → eqb n number ≡ t → shown (cond t changed (r.objects image n)) ≡ shown (r.objects i n)
    at_number true a b =
        let is = same a (eqb-true n number b) in
        data_stays (r.objects image number) op snap (subst (λ o. snap ≤ (or_blank o).seq) is below) ∙ ap shown (sym is)
    at_number false a b = ap (λ image. shown (r.objects image n)) (sym a)

    go : (s : Bool) → eqb i image ≡ s → shown (cond s (put (r.objects image) number changed) (r.objects i) n) ≡ shown (r.objects i n)
    go true a = at_number (eqb n number) (eqb-true i image a) refl
    go false a = refl
served_stay r me op i n snap below = refl

pub snapshots_stay : (r : Records) (me : Instance) (op : Op) (image number snap : ℕ) → snap ≤ (object_at r image number).seq
    → view (versioned (object_at (after r me op) image number)) (Some snap) ≡ view (versioned (object_at r image number)) (Some snap)
snapshots_stay r me op image number snap below =
    where_fenced (λ s. view (versioned (object_at s image number)) (Some snap) ≡ view (versioned (object_at r image number)) (Some snap)) r me op refl
    (served_stay r me op image number snap below)
