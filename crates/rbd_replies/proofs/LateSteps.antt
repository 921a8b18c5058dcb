-- What comes behind a stop and changes an image is what a lost line's command wanted there, by what
-- it had learned, which is still true: so it drew the id of an image whose map it makes before
-- there is a header, and removed the header of one of which it removes what is left.
use Rattle.std.proofs.Common.{◌≡◌, ◌⊎◌, inl, inr, ℕ, ◌==◌, true, List, ◌∷◌, Option, Some, None, sym, ap, ◌∙◌, subst}
use Rattle.std.specs.Prelude.{IsFalse}
use Rattle.std.proofs.lemmas.Bool.{true≢false, eqb-true}
use Rattle.rbd_kinds.specs.declared.data_op.DataOp.TheVariants as object
use Rattle.rbd_kinds.specs.declared.header.HeaderView.{HeaderView}
use Rattle.rbd_kinds.specs.declared.id.Instance.{Instance}
use Rattle.rbd_kinds.specs.declared.id.SiteId.{SiteId}
use Rattle.rbd_kinds.specs.declared.map_op.MapOp.TheVariants as states
use Rattle.rbd_kinds.specs.declared.operation.Op.{Op}
use Rattle.rbd_kinds.specs.declared.operation.Op.TheVariants as op
use Rattle.rbd_kinds.specs.declared.reply.Reply.{Reply}
use Rattle.rbd_kinds.specs.declared.sharing.Sharing.{Sharing}
use Rattle.rbd_machine.specs.Knowledge.{Knowledge, is_gone}
use Rattle.rbd_machine.specs.Path.{Answered}
use Rattle.rbd_machine.specs.Permits.{IsLeftOver, MayLengthen, OwnsBy, Permits}
use Rattle.rbd_interference.proofs.Headers.{not_waiting}
use Rattle.rbd_interference.specs.Truth.{IsTrueAt}
use Rattle.rbd_site.specs.Records.{Records}
use Rattle.rbd_site.specs.Step.{is_fenced}
use Rattle.rbd_stands.specs.Owned.{changes_image}
use Rattle.rbd_world.proofs.LetGo.{of_next}
use Rattle.rbd_world.specs.Run.{Doer, Itself, OnWay, House, AfterStop, Happening, Did, Operation, records_after, steps_of, way_of}
use Rattle.rbd_world.specs.Sound.{EndsItsLine, EndsNoLine, IsDue, IsRight, IsStillSent, KnewTruly, Recalls, RecallsBy}
use Rattle.rbd_world.specs.LetGo.{release_of}
use Rattle.rbd_replies.specs.Fenced.{DidBeforeStop, DrewId, RemovedHeader, SomeStep, removes_part}
use Rattle.rbd_replies.proofs.OnWaysOnly.{release_leaves_images, way_leaves_images}
use Rattle.rbd_replies.proofs.Taught.{drew_by, removed_by}

-- ---- where a line's command stood at an operation, by what it had learned: that permits it

module _ (line : ℕ) (s : SiteId) (o : Op) (k : Knowledge) (until : List Happening) (recalls : Recalls line s o k until) (permitted : Permits k s o) where
  -- where it is still true, and the image has no header
  module _ (r : Records) (me : Instance) (truth : IsTrueAt s r me k) (free : IsFalse (is_fenced r me)) (image : ℕ) (headless : r.headers image ≡ None) where
    drew : (count : ℕ) → MayLengthen k s image count → SomeStep (DrewId s image) (steps_of line until)
    drew count (inl makes) = drew_by line s o k until recalls image makes.drawn
    drew count (inr owns) = absurd (not_waiting s r me k image _ truth free owns headless)

    pub drew_id : (count : ℕ) → o ≡ op.Map image (states.Resize count) → SomeStep (DrewId s image) (steps_of line until)
    drew_id count is = drew count (subst (Permits k s) is permitted)

    removed : (i : ℕ) → (i == image) ≡ true → IsLeftOver k s i → SomeStep (RemovedHeader s image) (steps_of line until)
    removed i same left = removed_by line s o k until recalls image (subst (λ n. is_gone k.gone s n ≡ true) (eqb-true i image same) left.gone)

    -- nobody owns it
    let_go : (i : ℕ) (condition : Sharing → HeaderView → Type 0) → (i == image) ≡ true → IsLeftOver k s i ⊎ OwnsBy k s i condition → SomeStep (RemovedHeader s image) (steps_of line until)
    let_go i condition same (inl left) = removed i same left
    let_go i condition same (inr owns) = absurd (not_waiting s r me k i condition truth free owns (ap r.headers (eqb-true i image same) ∙ headless))

    by_permit : (q : Op) → removes_part image q ≡ true → Permits k s q → SomeStep (RemovedHeader s image) (steps_of line until)
    by_permit (op.Data i number (object.Remove context)) same permits = let_go i _ same permits
    by_permit (op.Map i (states.Remove (Some snap))) same permits = let_go i _ same permits
    by_permit (op.Map i (states.Remove None)) same (left, there) = removed i same left
    by_permit _ same permits = absurd (true≢false (sym same))

    pub let_it_go : removes_part image o ≡ true → SomeStep (RemovedHeader s image) (steps_of line until)
    let_it_go same = by_permit o same permitted

-- ---- in a run

module _ (homes : ℕ → SiteId) (run : List Happening) (o : Operation) (reply : Option Reply) (image slot : ℕ) (right : IsRight homes (Did o reply ∷ run))
    (changes : changes_image image o.op ≡ true) (late : o.by ≡ AfterStop slot) (free : IsFalse (is_fenced (records_after o.site run) o.instance))
    (headless : (records_after o.site run).headers image ≡ None) where
  truly : KnewTruly homes slot o run
  truly = by reply right.1
    where
      by : (x : Option Reply) → IsDue homes (Did o x) run → KnewTruly homes slot o run
      by None due = subst (λ d. EndsNoLine homes o d run) late due.1
      by (Some told) due = absurd (subst (EndsItsLine homes o told run) late due.1)

  -- it was wanted for a line, since a way and a house change no image
  by_line : (P : Answered → Type 0)
      → ((line : ℕ) → Recalls line o.site o.op truly.knew truly.left.until → SomeStep P (steps_of line truly.left.until))
      → DidBeforeStop homes P o run
  by_line P shown = of truly.left.by truly.left.left truly.left.recalls
    where
      of : (doer : Doer) → IsStillSent homes o.instance truly.left.lost slot o.site o.op doer truly.left.until → RecallsBy doer o.site o.op truly.knew truly.left.until
          → DidBeforeStop homes P o run
      of (Itself line) left recalls = record {
        wanted = truly.left.wanted;
        lost = truly.left.lost;
        until = truly.left.until;
        since = truly.left.since;
        are = truly.left.are;
        last = truly.left.last;
        line = line;
        among = left.wanted.0;
        stands = left.wanted.1;
        mine = sym (left.whose left.wanted.1.begun.asked left.wanted.1.begun.is);
        did = shown line recalls;
      }
      of (OnWay line) left recalls = absurd (true≢false (sym changes ∙ way_leaves_images o.site o.op (way_of line truly.left.until) left.next.0 image))
      of House left recalls = absurd (true≢false (sym changes ∙ release_leaves_images o.op (of_next (release_of o.instance truly.left.until) o.site o.op left.next) image))
      of (AfterStop there) left recalls = absurd left.wanted

  pub drew_before_stop : (count : ℕ) → o.op ≡ op.Map image (states.Resize count) → DidBeforeStop homes (DrewId o.site image) o run
  drew_before_stop count is =
      by_line (DrewId o.site image)
      (λ line recalls.
      drew_id line o.site o.op truly.knew truly.left.until recalls truly.permits (records_after o.site run) o.instance truly.truth free image headless count is)

  pub let_go_before_stop : removes_part image o.op ≡ true → DidBeforeStop homes (RemovedHeader o.site image) o run
  let_go_before_stop part =
      by_line (RemovedHeader o.site image)
      (λ line recalls.
      let_it_go line o.site o.op truly.knew truly.left.until recalls truly.permits (records_after o.site run) o.instance truly.truth free image headless part)
