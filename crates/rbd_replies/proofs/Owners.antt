-- What was done to an image was its owner's: who knows its header may change it, and the header
-- that is known is there. An image's map is made before its header, by who drew its id, and what is
-- left of an image goes behind its header, by who removed that.
use Rattle.std.proofs.Common.{◌≡◌, ◌⊎◌, inl, inr, ℕ, ◌==◌, ◌&&◌, cond, Bool, true, false, List, ◌∷◌, Option, Some, None, refl, sym, ap, ◌∙◌, subst, arith}
use Rattle.std.specs.Prelude.{IsFalse}
use Rattle.std.proofs.lemmas.Bool.{true≢false, and_parts, eqb-true}
use Rattle.std.proofs.lemmas.Bool.Decides.{nat_tests}
use Rattle.rbd_kinds.specs.declared.answer.Answer.TheVariants as answer
use Rattle.rbd_kinds.specs.declared.data_op.DataOp.{DataOp}
use Rattle.rbd_kinds.specs.declared.data_op.DataOp.TheVariants as object
use Rattle.rbd_kinds.specs.declared.header.HeaderView.{HeaderView}
use Rattle.rbd_kinds.specs.declared.header_op.HeaderOp.{HeaderOp}
use Rattle.rbd_kinds.specs.declared.header_op.HeaderOp.TheVariants as header
use Rattle.rbd_kinds.specs.declared.id.Instance.{Instance}
use Rattle.rbd_kinds.specs.declared.id.SiteId.{SiteId}
use Rattle.rbd_kinds.specs.declared.map_op.MapOp.{MapOp}
use Rattle.rbd_kinds.specs.declared.map_op.MapOp.TheVariants as states
use Rattle.rbd_kinds.specs.declared.operation.Op.{Op}
use Rattle.rbd_kinds.specs.declared.operation.Op.TheVariants as op
use Rattle.rbd_kinds.specs.declared.reply.Reply.{Reply}
use Rattle.rbd_kinds.specs.declared.sharing.Sharing.{Sharing}
use Rattle.rbd_machine.specs.Knowledge.{Knowledge, is_drawn, is_gone}
use Rattle.rbd_machine.specs.Path.{Answered}
use Rattle.rbd_machine.specs.Permits.{IsLeftOver, MayMakeMap, OwnsBy, Permits, PermitsOnHeader, PermitsOnMap, PermitsOnObject}
use Rattle.rbd_interference.proofs.Headers.{owned_there}
use Rattle.rbd_interference.specs.Truth.{IsTrueAt}
use Rattle.rbd_site.specs.Records.{Records}
use Rattle.rbd_site.specs.Step.{answer_served, answer_to, is_fenced}
use Rattle.rbd_stands.specs.Owned.{IsOwner, changes_data, changes_header, changes_image, changes_map, was_done}
use Rattle.rbd_world.specs.Run.{Doer, Itself, OnWay, House, AfterStop, Happening, Did, Operation, records_after, steps_of, way_of}
use Rattle.rbd_world.specs.Sound.{IsRightlyDone, IsRight, Recalls, RecallsBy}
use Rattle.rbd_world.proofs.Runs.{done_of}
use Rattle.rbd_world.proofs.WaysOfLines.{asked_on_way, lets_go}
use Rattle.rbd_replies.specs.Fenced.{DidBefore, DidBeforeStop, DrewId, OwnsOrNone, RemovedHeader, SomeStep, removes_part}
use Rattle.rbd_replies.proofs.LateSteps.{drew_before_stop, let_go_before_stop}
use Rattle.rbd_replies.proofs.OnWaysOnly.{release_leaves_images, way_leaves_images}
use Rattle.rbd_replies.proofs.Taught.{drew_by, removed_by}

-- ---- the header is there

record IsHere (there : Option HeaderView) : Type 0 where
  view : HeaderView
  is : there ≡ Some view

-- ---- or the image has none

-- it may make the map of an image whose id it knows as drawn
record MakesIt (k : Knowledge) (s : SiteId) (image : ℕ) (o : Op) : Type 0 where
  count : ℕ
  is : o ≡ op.Map image (states.Resize count)
  drawn : is_drawn k.drawn s image ≡ true

-- and remove what is left of one whose header it knows to be gone
record ClearsIt (k : Knowledge) (s : SiteId) (image : ℕ) (o : Op) : Type 0 where
  is : removes_part image o ≡ true
  gone : is_gone k.gone s image ≡ true

-- ---- by what is permitted

turned : (i image : ℕ) → (i == image) ≡ true → (image == i) ≡ true
turned i image same = grind (arith, nat_tests)

module _ (s : SiteId) (r : Records) (me : Instance) (k : Knowledge) (truth : IsTrueAt s r me k) (free : IsFalse (is_fenced r me)) where
  owned_here : (image : ℕ) (condition : Sharing → HeaderView → Type 0) → OwnsBy k s image condition → IsHere (r.headers image)
  owned_here image condition owns = let there = owned_there s r me k image condition truth free owns in record { view = there.view; is = there.is }

  header_here : (image : ℕ) (o : HeaderOp) → PermitsOnHeader k s image o → changes_header o ≡ true → IsHere (r.headers image)
  header_here image (header.SetSize to) permits changes = owned_here image _ permits
  header_here image header.Remove permits changes = owned_here image _ permits
  header_here image (header.SnapAdd name) permits changes = owned_here image _ permits
  header_here image (header.SnapRemove snap) permits changes = owned_here image _ permits
  header_here image (header.SnapStatus snap status) permits changes = owned_here image _ permits
  header_here image header.Get permits changes = cc
  header_here image (header.Create view) permits changes = cc
  header_here image header.LockTake permits changes = cc
  header_here image header.LockDrop permits changes = cc
  header_here image (header.LockBreak owner) permits changes = cc
  header_here image header.Watch permits changes = cc
  header_here image header.Unwatch permits changes = cc
  header_here image header.WatchersGet permits changes = cc
  header_here image (header.Notify kind) permits changes = cc
  header_here image _ permits changes = elim permits [ ]

  at_image : (i image : ℕ) (changes : Bool) → ((i == image) && changes) ≡ true → (changes ≡ true → IsHere (r.headers image)) → IsHere (r.headers i)
  at_image i image changes both here =
      let parts = and_parts (i == image) changes both in
      subst (λ n. IsHere (r.headers n)) (sym (eqb-true i image parts.0)) (here parts.1)

  abbrev IsHereOrNot : (image : ℕ) → Op → Type 0
  IsHereOrNot image o = IsHere (r.headers image) ⊎ (MakesIt k s image o ⊎ ClearsIt k s image o)

  rest_goes : (i image : ℕ) (o : Op) → (i == image) ≡ true → removes_part i o ≡ true → IsLeftOver k s image → ClearsIt k s i o
  rest_goes i image o same is left = record { is = is; gone = subst (λ n. is_gone k.gone s n ≡ true) (sym (eqb-true i image same)) left.gone }

  object_here : (i image number : ℕ) (o : DataOp) → PermitsOnObject k s image number o → ((i == image) && changes_data o) ≡ true → IsHereOrNot i (op.Data image number o)
  object_here i image number (object.Read snap parts) permits changes = absurd (true≢false (sym (and_parts (i == image) false changes).1))
  object_here i image number (object.Write context must parts bytes) permits changes = inl (at_image i image true changes (λ changed. owned_here image _ permits))
  object_here i image number (object.WriteFull context bytes) permits changes = inl (at_image i image true changes (λ changed. owned_here image _ permits))
  object_here i image number (object.Zero context must parts) permits changes = inl (at_image i image true changes (λ changed. owned_here image _ permits))
  object_here i image number (object.Empty context) permits changes = inl (at_image i image true changes (λ changed. owned_here image _ permits))
  object_here i image number (object.Remove context) (inl left) changes =
      let same = (and_parts (i == image) true changes).0 in
      inr (inr (rest_goes i image (op.Data image number (object.Remove context)) same (turned i image same) left))
  object_here i image number (object.Remove context) (inr owns) changes = inl (at_image i image true changes (λ changed. owned_here image _ owns))
  object_here i image number _ permits changes = elim permits [ ]

  map_made : (i image count : ℕ) → (i == image) ≡ true → MayMakeMap k s image count → MakesIt k s i (op.Map image (states.Resize count))
  map_made i image count same makes =
      subst (λ n. MakesIt k s n (op.Map image (states.Resize count))) (sym (eqb-true i image same)) (record { count = count; is = refl; drawn = makes.drawn })

  map_here : (i image : ℕ) (o : MapOp) → PermitsOnMap k s image o → ((i == image) && changes_map o) ≡ true → IsHereOrNot i (op.Map image o)
  map_here i image (states.Resize count) (inl makes) changes = inr (inl (map_made i image count (and_parts (i == image) true changes).0 makes))
  map_here i image (states.Resize count) (inr owns) changes = inl (at_image i image true changes (λ changed. owned_here image _ owns))
  map_here i image (states.Get view) permits changes = absurd (true≢false (sym (and_parts (i == image) false changes).1))
  map_here i image (states.Put (Some snap) bits) permits changes = inl (at_image i image true changes (λ changed. owned_here image _ permits))
  map_here i image (states.Set None number state) permits changes = inl (at_image i image true changes (λ changed. owned_here image _ permits))
  map_here i image (states.Remove None) (left, there) changes =
      let same = (and_parts (i == image) true changes).0 in
      inr (inr (rest_goes i image (op.Map image (states.Remove None)) same (turned i image same) left))
  map_here i image (states.Remove (Some snap)) (inl left) changes =
      let same = (and_parts (i == image) true changes).0 in
      inr (inr (rest_goes i image (op.Map image (states.Remove (Some snap))) same (turned i image same) left))
  map_here i image (states.Remove (Some snap)) (inr owns) changes = inl (at_image i image true changes (λ changed. owned_here image _ owns))
  map_here i image _ permits changes = elim permits [ ]

  image_here : (i : ℕ) (o : Op) → Permits k s o → changes_image i o ≡ true → IsHereOrNot i o
  image_here i (op.Header image o) permits changes = inl (at_image i image (changes_header o) changes (header_here image o permits))
  image_here i (op.Data image number o) permits changes = object_here i image number o permits changes
  image_here i (op.Map image o) permits changes = map_here i image o permits changes
  image_here i (op.Directory o) permits changes = cc
  image_here i (op.Children o) permits changes = cc
  image_here i (op.BlockAdd instance) permits changes = cc
  image_here i _ permits changes = elim permits [ ]

-- who did something isn't fenced
free_by_change : (r : Records) (me : Instance) (o : Op) → was_done (answer_to r me o) ≡ true → is_fenced r me ≡ false
free_by_change r me o was = by (is_fenced r me) was
  where
    by : (b : Bool) → was_done (cond b answer.Fenced (answer_served r me o)) ≡ true → b ≡ false
    by true was = cc
    by false was = refl

-- ---- in a run

module _ (homes : ℕ → SiteId) (run : List Happening) (o : Operation) (reply : Option Reply) (image : ℕ) (right : IsRight homes (Did o reply ∷ run)) where
  it : IsRightlyDone o run
  it = done_of homes o reply run right.1

  abbrev there : Records
  there = records_after o.site run

  -- what it knows its command did, where it is a change; and what one did that was lost
  module _ (changes : changes_image image o.op ≡ true) (P : Answered → Type 0) (late : (slot : ℕ) → o.by ≡ AfterStop slot → DidBeforeStop homes P o run) where
    by_its_command : (doer : Doer) → o.by ≡ doer → RecallsBy doer o.site o.op it.knows run → ((line : ℕ) → Recalls line o.site o.op it.knows run → SomeStep P (steps_of line run))
        → DidBefore homes P doer o run
    by_its_command (Itself line) is recalls taught = taught line recalls
    by_its_command (OnWay line) is recalls taught =
        absurd (true≢false (sym changes ∙ way_leaves_images o.site o.op (way_of line run) (asked_on_way homes line o reply run right is) image))
    by_its_command House is recalls taught = absurd (true≢false (sym changes ∙ release_leaves_images o.op (lets_go homes 0 o reply run right is) image))
    by_its_command (AfterStop slot) is recalls taught = late slot is

  pub owner_changes : changes_image image o.op ≡ true → was_done o.answer ≡ true → OwnsOrNone homes image o run
  owner_changes changes was =
      let free = free_by_change there o.instance o.op (sym (ap was_done it.answer) ∙ was) in
      by free (image_here o.site there o.instance it.knows it.truth free image o.op it.permits changes)
    where
      by : IsFalse (is_fenced there o.instance) → IsHere (there.headers image) ⊎ (MakesIt it.knows o.site image o.op ⊎ ClearsIt it.knows o.site image o.op) → OwnsOrNone homes image o run
      by free (inl here) =
          inl (record { header = here.view; there = here.is; owner = subst (λ there. IsOwner there o.instance) here.is (it.owned.change image changes was) })
      by free (inr (inl makes)) =
          let headless = (it.truth.drawn image makes.drawn).header in
          inr (inl (record {
            count = makes.count;
            is = makes.is;
            headless = headless;
            new = it.new image makes.drawn;
            drew = by_its_command changes (DrewId o.site image)
                (λ slot late. drew_before_stop homes run o reply image slot right changes late free headless makes.count makes.is)
                o.by refl it.recalls (λ line recalls. drew_by line o.site o.op it.knows run recalls image makes.drawn);
          }))
      by free (inr (inr clears)) =
          let headless = (it.truth.gone image clears.gone).header in
          inr (inr (record {
            is = clears.is;
            headless = headless;
            removed = by_its_command changes (RemovedHeader o.site image)
                (λ slot late. let_go_before_stop homes run o reply image slot right changes late free headless clears.is)
                o.by refl it.recalls (λ line recalls. removed_by line o.site o.op it.knows run recalls image clears.gone);
          }))

  pub owner_was_fenced : (owner : Instance) → o.op ≡ op.Header image (header.LockBreak owner) → o.answer ≡ answer.Done → is_fenced (records_after o.site run) owner ≡ true
  owner_was_fenced owner breaks was = it.owned.broken image owner breaks was
