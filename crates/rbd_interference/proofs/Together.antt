-- Two requests stay beside each other.
use Rattle.std.proofs.Common.{◌≡◌, ℕ, ◌==◌, ◌+◌, cond, Bool, true, false, List, ◌∷◌, Option, Some, None, option_map, refl, sym, ap, ◌∙◌, subst, arith}
use Rattle.std.specs.Prelude.{IsFalse, IsSome, is_some}
use Rattle.std.proofs.lemmas.Bool.{true≢false, eqb-true, eq-eqb, and_parts}
use Rattle.std.proofs.lemmas.Option.{none-some}
use Rattle.rbd_kinds.specs.declared.answer.Answer.{Answer}
use Rattle.rbd_kinds.specs.declared.answer.Answer.TheVariants as answer
use Rattle.rbd_kinds.specs.declared.data_op.DataOp.{DataOp}
use Rattle.rbd_kinds.specs.declared.data_op.DataOp.TheVariants as object
use Rattle.rbd_kinds.specs.declared.directory_op.DirectoryOp.{DirectoryOp}
use Rattle.rbd_kinds.specs.declared.directory_op.DirectoryOp.TheVariants as directory
use Rattle.rbd_kinds.specs.declared.header.HeaderView.{HeaderView}
use Rattle.rbd_kinds.specs.declared.header_op.HeaderOp.{HeaderOp}
use Rattle.rbd_kinds.specs.declared.header_op.HeaderOp.TheVariants as header
use Rattle.rbd_kinds.specs.declared.id.Instance.{Instance}
use Rattle.rbd_kinds.specs.declared.id.SiteId.{SiteId}
use Rattle.rbd_kinds.specs.declared.map_op.MapOp.{MapOp}
use Rattle.rbd_kinds.specs.declared.map_op.MapOp.TheVariants as states
use Rattle.rbd_kinds.specs.declared.operation.Op.{Op}
use Rattle.rbd_kinds.specs.declared.operation.Op.TheVariants as op
use Rattle.rbd_kinds.specs.declared.sharing.Sharing.TheVariants.{Alone}
use Rattle.rbd_kinds.specs.Sharing.{go_together}
use Rattle.rbd_header.specs.Header.{with_size, with_snap, without_snap, with_status}
use Rattle.rbd_machine.specs.Ancestors.{has_seen}
use Rattle.rbd_machine.specs.Knowledge.{Fence, ImageMaps, ImageObjects, Knowledge, Own, afresh, first_told, found, header_told, is_at, is_drawn, is_gone, knows_head, learned, learned_of_directory, learned_of_header, learned_of_listing, learned_of_map, learned_of_object, learned_own, owns_without, looked_behind, looked_by, looked_under_lock, maps_told, only_there, own_of, known_after_wait, removed_header, same_site, unfenced, with_drawn, with_objects_where, without_drawn}
use Rattle.rbd_machine.specs.Permits.{Permits, PermitsOnHeader, HoldsUnlooked, OwnsAlone}
use Rattle.rbd_machine.specs.Wait.{Wait}
use Rattle.rbd_registry.specs.Directory.{id_of}
use Rattle.rbd_registry.specs.Directory as listing
use Rattle.rbd_site.specs.DirectoryStep.{name_added}
use Rattle.rbd_site.specs.HeaderStep.{header_answer}
use Rattle.rbd_site.specs.Records.{Records}
use Rattle.rbd_site.specs.Step.{after, answer_to, is_fenced}
use Rattle.rbd_stands.proofs.Served.{where_either}
use Rattle.rbd_interference.specs.Beside.{AreBeside, AreUnfenced, GoTogether, MayAct, SharesLock}
use Rattle.rbd_interference.specs.Truth.{IsTrueAt, header_of_own, known_header, sharing_of_own, sharing_on}
use Rattle.rbd_interference.proofs.Fenced.{was_free}
use Rattle.rbd_interference.proofs.Headers.{own_known}
use Rattle.rbd_interference.proofs.Children.{same_bases}
use Rattle.rbd_interference.proofs.ChildrenLearned.{based_elsewhere, childless_elsewhere}
use Rattle.rbd_interference.proofs.Drawn.{drawn_left}
use Rattle.rbd_interference.proofs.Learned.{strange_taught, told_there}
use Rattle.rbd_interference.proofs.MapsLearned.{at_no_other}
use Rattle.rbd_interference.proofs.Told.{header_changed, told_sharing, told_apart, told_here}
use Rattle.rbd_interference.proofs.Less.{known_beside, left_own, less_beside, telling_beside, told_then, waited_less}
use Rattle.rbd_interference.proofs.Seen.{same_seen, seen_drawn}
use Rattle.rbd_interference.proofs.Sharing.{alone_beside_none, together_turned}

module _ (site : SiteId) (r : Records) (me you : Instance) (k j : Knowledge) (beside : AreBeside site r me you k j) where
  pub told_beside : (image : ℕ) (change : Option HeaderView → Option HeaderView)
      → (AreUnfenced r me you → IsSome (header_changed change (own_of k.owns site image)) → IsSome (known_header j site image) → GoTogether site image k j)
      → AreBeside site r me you (header_told site image change k) j
  told_beside image change here = record {
    shared = λ free i mine others. alike i (by free i (i == image) refl mine others);
    gone = beside.gone;
    gone_there = beside.gone_there;
    removed = beside.removed;
    apart = beside.apart;
    unseen = beside.unseen;
    unseen_there = beside.unseen_there;
    unbased = beside.unbased;
    unbased_there = beside.unbased_there;
  }
    where
      told : Knowledge
      told = header_told site image change k

      alike : (i : ℕ) → GoTogether site i k j → GoTogether site i told j
      alike i both = ap (λ sharing. go_together sharing (sharing_on j site i)) (told_sharing site site image i change k.owns) ∙ both

      by : AreUnfenced r me you → (i : ℕ) (b : Bool) → (i == image) ≡ b → IsSome (known_header told site i) → IsSome (known_header j site i) → GoTogether site i k j
      by free i true same mine others =
          let at = eqb-true i image same in
          subst (λ n. GoTogether site n k j) (sym at)
          (here free (sym (ap is_some (told_here site image change k.owns)) ∙ ap (λ n. is_some (known_header told site n)) (sym at) ∙ mine)
          (ap (λ n. is_some (known_header j site n)) (sym at) ∙ others))
      by free i false other mine others =
          let elsewhere = told_apart site site image i change (at_no_other site image i (λ e. true≢false (sym (eq-eqb i image e) ∙ other))) k.owns in
          beside.shared free i (sym (ap (λ o. is_some (header_of_own o)) elsewhere) ∙ mine) others

  -- who knew the header before knew it with its change
  edited_beside : (image : ℕ) (edit : HeaderView → HeaderView) → AreBeside site r me you (header_told site image (option_map edit) k) j
  edited_beside image edit = told_beside image (option_map edit) (λ free mine others. beside.shared free image (by (own_of k.owns site image) mine) others)
    where
      of : (h : Option HeaderView) → IsSome (option_map edit h) → IsSome h
      of None some = some
      of (Some h) some = refl

      by : (o : Option Own) → IsSome (header_changed (option_map edit) o) → IsSome (header_of_own o)
      by None some = some
      by (Some o) some = of o.header some

  made_beside : (image : ℕ) → AreBeside site r me you (without_drawn site image k) j
  made_beside image = known_beside site r me you (without_drawn site image k) k j (λ i some. refl) (λ i drawn. (drawn_left site image i k.drawn drawn).0) (λ i gone. gone) (same_seen site k.seen) (same_bases site _ k refl refl) beside

  drawn_beside : IsTrueAt site r you j → AreBeside site r me you (with_drawn site (r.directory.drawn + 1) k) j
  drawn_beside u = record {
    shared = beside.shared;
    gone = beside.gone;
    gone_there = λ i gone. unlisted i (is_at site i site (r.directory.drawn + 1)) refl gone;
    removed = beside.removed;
    apart = λ i drawn. by i (is_at site i site (r.directory.drawn + 1)) refl (is_drawn j.drawn site i) refl drawn;
    unseen = beside.unseen;
    unseen_there = λ i saw. undrawn i (is_at site i site (r.directory.drawn + 1)) refl saw;
    unbased = beside.unbased;
    unbased_there = beside.unbased_there;
  }
    where
      is_fresh : (i : ℕ) → is_at site i site (r.directory.drawn + 1) ≡ true → r.directory.drawn + 1 ≡ i
      is_fresh i is = eqb-true (r.directory.drawn + 1) i (and_parts (same_site site site) ((r.directory.drawn + 1) == i) is).1

      unlisted : (i : ℕ) (b : Bool) → is_at site i site (r.directory.drawn + 1) ≡ b → is_gone j.gone site i ≡ true → cond b true (is_drawn k.drawn site i) ≡ false
      unlisted i false is gone = beside.gone_there i gone
      unlisted i true is gone =
          let new = is_fresh i is in
          let before = (u.gone i gone).drawn in
          absurd (omega (arith, new, before))

      -- no header was told of an image whose id is drawn only now
      undrawn : (i : ℕ) (b : Bool) → is_at site i site (r.directory.drawn + 1) ≡ b → has_seen j.seen site i ≡ true → cond b true (is_drawn k.drawn site i) ≡ false
      undrawn i false is saw = beside.unseen_there i saw
      undrawn i true is saw =
          let new = is_fresh i is in
          let before = seen_drawn site r j.seen u.seen i saw in
          absurd (omega (arith, new, before))

      by : (i : ℕ) (b : Bool) → is_at site i site (r.directory.drawn + 1) ≡ b → (c : Bool) → is_drawn j.drawn site i ≡ c → cond b true (is_drawn k.drawn site i) ≡ true → c ≡ false
      by i b is false others drawn = refl
      by i true is true others drawn =
          let new = is_fresh i is in
          let before = (u.drawn i others).drawn in
          absurd (omega (arith, new, before))
      by i false is true others drawn = absurd (true≢false (sym others ∙ beside.apart i drawn))

  directory_beside : (o : DirectoryOp) → IsTrueAt site r you j → AreBeside site r me you (learned_of_directory k site o (answer_to r me (op.Directory o))) j
  directory_beside (directory.Find name) u = beside
  directory_beside directory.List u = beside
  directory_beside (directory.Rename from to) u = beside
  directory_beside (directory.Remove image) u = beside
  directory_beside (directory.Add name) u =
      where_either (λ a s. AreBeside site r me you (learned_of_directory k site (directory.Add name) a) j) r me (op.Directory (directory.Add name)) beside
      (by (id_of r.directory name) (listing.is_full r.directory))
    where
      by : (held : Option ℕ) (full : Bool) → AreBeside site r me you (learned_of_directory k site (directory.Add name) (name_added held full (r.directory.drawn + 1))) j
      by (Some image) full = beside
      by None true = beside
      by None false = drawn_beside u

  -- whatever it knows of fences
  fence_beside : (fenced : List Fence) → AreBeside site r me you (record k { fenced = fenced }) j
  fence_beside fenced = known_beside site r me you (record k { fenced = fenced }) k j (λ i some. refl) (λ i drawn. drawn) (λ i gone. gone) (same_seen site k.seen) (same_bases site _ k refl refl) beside

  -- whatever it knows of maps and objects
  maps_beside : (maps : List ImageMaps) → AreBeside site r me you (record k { maps = maps }) j
  maps_beside maps = known_beside site r me you (record k { maps = maps }) k j (λ i some. refl) (λ i drawn. drawn) (λ i gone. gone) (same_seen site k.seen) (same_bases site _ k refl refl) beside

  objects_beside : (objects : List ImageObjects) → AreBeside site r me you (record k { objects = objects }) j
  objects_beside objects = known_beside site r me you (record k { objects = objects }) k j (λ i some. refl) (λ i drawn. drawn) (λ i gone. gone) (same_seen site k.seen) (same_bases site _ k refl refl) beside

  map_beside : (image : ℕ) (o : MapOp) (a : Answer) → AreBeside site r me you (learned_of_map k site image o a) j
  map_beside image (states.Resize count) answer.Done = maps_beside _
  map_beside image (states.Get None) (answer.Bits bits) = maps_beside _
  map_beside image (states.Put (Some snap) bits) answer.Done = maps_beside _
  map_beside image (states.Set view object state) answer.Done = maps_beside _
  map_beside image (states.Remove view) answer.Done = maps_beside _
  map_beside image _ _ = beside

  object_beside : (image number : ℕ) (o : DataOp) (a : Answer) → AreBeside site r me you (learned_of_object k site image number o a) j
  object_beside image number (object.Write context must parts bytes) answer.Done = objects_beside _
  object_beside image number (object.WriteFull context bytes) answer.Done = objects_beside _
  object_beside image number (object.Read snap parts) a = by (knows_head k site image number snap a)
    where
      by : (counts : Bool) → AreBeside site r me you (with_objects_where counts site image (found number) k) j
      by true = objects_beside _
      by false = beside
  object_beside image number (object.CopyUp bytes) answer.Done = objects_beside _
  object_beside image number (object.CopyUp bytes) answer.Exists = objects_beside _
  object_beside image number (object.Zero context must parts) answer.Done = objects_beside _
  object_beside image number (object.Empty context) answer.Done = objects_beside _
  object_beside image number (object.Remove context) answer.Done = objects_beside _
  object_beside image number _ _ = beside

  -- The id of a header that it removed was nobody's that waited, nor gone.
  gone_beside : IsTrueAt site r you j → (image : ℕ) (h : HeaderView) → r.headers image ≡ Some h → AreBeside site r me you (removed_header site image k) j
  gone_beside u image h is = record {
    shared = less.shared;
    gone = λ i gone. undrawn i (is_at site i site image) refl gone (is_drawn j.drawn site i) refl;
    gone_there = less.gone_there;
    removed = λ i gone. remains i (is_at site i site image) refl gone (is_gone j.gone site i) refl;
    apart = less.apart;
    unseen = less.unseen;
    unseen_there = less.unseen_there;
    unbased = less.unbased;
    unbased_there = less.unbased_there;
  }
    where
      there : Knowledge
      there = record k { owns = owns_without site image k.owns; maps = maps_told site image only_there k.maps }

      less : AreBeside site r me you there j
      less = known_beside site r me you there k j (λ i some. left_own site site i image k.owns some) (λ i drawn. drawn) (λ i gone. gone) (same_seen site k.seen) (same_bases site _ k refl refl) beside

      header_there : (i : ℕ) → is_at site i site image ≡ true → r.headers i ≡ None → ⊥
      header_there i at none = none-some h (sym (ap r.headers (eqb-true image i (and_parts (same_site site site) (image == i) at).1) ∙ none) ∙ is)

      undrawn : (i : ℕ) (b : Bool) → is_at site i site image ≡ b → cond b true (is_gone k.gone site i) ≡ true → (c : Bool) → is_drawn j.drawn site i ≡ c → c ≡ false
      undrawn i b at gone false d = refl
      undrawn i true at gone true d = absurd (header_there i at (u.drawn i d).header)
      undrawn i false at gone true d = absurd (true≢false (sym d ∙ beside.gone i gone))

      remains : (i : ℕ) (b : Bool) → is_at site i site image ≡ b → cond b true (is_gone k.gone site i) ≡ true → (c : Bool) → is_gone j.gone site i ≡ c → c ≡ false
      remains i b at gone false g = refl
      remains i true at gone true g = absurd (header_there i at (u.gone i g).header)
      remains i false at gone true g = absurd (true≢false (sym g ∙ beside.removed i gone))

  removal_beside : IsTrueAt site r you j → (image : ℕ) → AreBeside site r me you (learned_of_header k site image header.Remove (answer_to r me (op.Header image header.Remove))) j
  removal_beside u image =
      where_either (λ a s. AreBeside site r me you (learned_of_header k site image header.Remove a) j) r me (op.Header image header.Remove) beside (by (r.headers image) refl)
    where
      by : (there : Option HeaderView) → r.headers image ≡ there → AreBeside site r me you (learned_of_header k site image header.Remove (header_answer me there (r.watchers image) header.Remove)) j
      by None is = beside
      by (Some h) is = gone_beside u image h is

-- a look at the header: the one under the lock, or one more
looked_beside : (site : SiteId) (r : Records) (me you : Instance) (k j : Knowledge) → AreBeside site r me you k j → (image : ℕ) (h : HeaderView) → SharesLock site image r me you k j
    → AreBeside site r me you (header_told site image (first_told h) (looked_behind site image k)) j
looked_beside site r me you k j beside image h may = by (own_of k.owns site image) refl
  where
    first : (o : Own) → own_of k.owns site image ≡ Some o → AreBeside site r me you (header_told site image (first_told h) (afresh site image k)) j
    first o at =
        told_beside site r me you (afresh site image k) j
        (known_beside site r me you (afresh site image k) k j (λ i some. refl) (λ i drawn. drawn) (λ i gone. gone) (same_seen site k.seen) (same_bases site _ k refl refl) beside)
        image (first_told h) (λ free mine others. may free (ap is_some at) others)

    again : (o : Own) (own : HeaderView) → o.header ≡ Some own → own_of k.owns site image ≡ Some o → AreBeside site r me you (header_told site image (first_told h) k) j
    again o own had at =
        let before : IsSome (known_header k site image) = ap (λ q. is_some (header_of_own q)) at ∙ ap is_some had in
        told_beside site r me you k j beside image (first_told h) (λ free mine others. beside.shared free image before others)

    owning : (o : Own) (header : Option HeaderView) → o.header ≡ header → own_of k.owns site image ≡ Some o → AreBeside site r me you (header_told site image (first_told h) (looked_by header site image k)) j
    owning o None unknown at = first o at
    owning o (Some own) had at = again o own had at

    by : (o : Option Own) → own_of k.owns site image ≡ o → AreBeside site r me you (header_told site image (first_told h) (looked_under_lock o site image k)) j
    by None at = told_beside site r me you k j beside image (first_told h) (λ free mine others. absurd (true≢false (sym mine ∙ ap (λ q. is_some (header_changed (first_told h) q)) at)))
    by (Some o) at = owning o o.header refl at

module _ (site : SiteId) (r : Records) (me you : Instance) (k j : Knowledge) (beside : AreBeside site r me you k j) where
  header_beside : (image : ℕ) (o : HeaderOp) (a : Answer) → PermitsOnHeader k site image o → MayAct site r me you k j (op.Header image o)
      → (o ≡ header.Remove → AreBeside site r me you (learned_of_header k site image header.Remove a) j) → AreBeside site r me you (learned_of_header k site image o a) j
  header_beside image header.Get (answer.Header h) permits may removal = looked_beside site r me you k j beside image h may
  header_beside image (header.Create view) answer.Done permits may removal = made_beside site r me you k j beside image
  header_beside image (header.SetSize to) answer.Done permits may removal = edited_beside site r me you k j beside image (with_size to)
  header_beside image (header.SnapAdd name) (answer.Snap snap) permits may removal = edited_beside site r me you k j beside image (with_snap name)
  header_beside image (header.SnapRemove snap) answer.Done permits may removal = edited_beside site r me you k j beside image (without_snap snap)
  header_beside image (header.SnapStatus snap status) answer.Done permits may removal = edited_beside site r me you k j beside image (with_status snap status)
  header_beside image header.Remove a permits may removal = removal refl
  header_beside image header.Get _ permits may removal = beside
  header_beside image (header.Create view) _ permits may removal = beside
  header_beside image (header.SetSize to) _ permits may removal = beside
  header_beside image (header.SnapAdd name) _ permits may removal = beside
  header_beside image (header.SnapRemove snap) _ permits may removal = beside
  header_beside image (header.SnapStatus snap status) _ permits may removal = beside
  header_beside image (header.LockBreak owner) answer.Done permits may removal = fence_beside site r me you k j beside (unfenced site owner k.fenced)
  header_beside image (header.LockBreak owner) answer.Changed permits may removal = fence_beside site r me you k j beside (unfenced site owner k.fenced)
  header_beside image (header.LockBreak owner) _ permits may removal = beside
  header_beside image header.LockTake a permits may removal = beside
  header_beside image header.LockDrop a permits may removal = beside
  header_beside image header.Watch a permits may removal = beside
  header_beside image header.Unwatch a permits may removal = beside
  header_beside image header.WatchersGet a permits may removal = beside
  header_beside image (header.Notify kind) a permits may removal = beside
  header_beside image _ a permits may removal = elim permits [ ]

  listing_beside : (i : Instance) (a : Answer) → AreBeside site r me you (learned_of_listing k site i a) j
  listing_beside i answer.Done = fence_beside site r me you k j beside (record { site = site; instance = i } ∷ k.fenced)
  listing_beside i _ = beside

  own_beside : (o : Op) → IsTrueAt site r you j → Permits k site o → MayAct site r me you k j o → AreBeside site r me you (learned_own k site o (answer_to r me o)) j
  own_beside (op.Directory o) u permits may = directory_beside site r me you k j beside o u
  own_beside (op.Children o) u permits may = beside
  own_beside (op.BlockAdd i) u permits may = listing_beside i (answer_to r me (op.BlockAdd i))
  own_beside (op.Header image o) u permits may =
      header_beside image o (answer_to r me (op.Header image o)) permits may
      (λ is. subst (λ p. AreBeside site r me you (learned_of_header k site image header.Remove (answer_to r me (op.Header image p))) j) (sym is) (removal_beside site r me you k j beside u image))
  own_beside (op.Data image number o) u permits may = object_beside site r me you k j beside image number o (answer_to r me (op.Data image number o))
  own_beside (op.Map image o) u permits may = map_beside site r me you k j beside image o (answer_to r me (op.Map image o))
  own_beside _ u permits may = elim permits [ ]

  -- ---- waits

  pub waited_beside : (w : Wait) → AreBeside site r me you (known_after_wait k w) j
  waited_beside w = less_beside site r me you (known_after_wait k w) k j (waited_less site k w) beside

-- ---- whatever is done meanwhile

-- Where no fence is taken away, it doesn't depend on the records.
pub still_beside : (site : SiteId) (r new : Records) (me you : Instance) (k j : Knowledge) → ((i : Instance) → IsFalse (is_fenced new i) → IsFalse (is_fenced r i)) → AreBeside site r me you k j
    → AreBeside site new me you k j
still_beside site r new me you k j stays beside = record {
  shared = λ free. beside.shared (stays me free.0, stays you free.1);
  gone = beside.gone;
  gone_there = beside.gone_there;
  removed = beside.removed;
  apart = beside.apart;
  unseen = beside.unseen;
  unseen_there = beside.unseen_there;
  unbased = λ free. beside.unbased (stays you free);
  unbased_there = λ free. beside.unbased_there (stays me free);
}

pub beside_stays : (site : SiteId) (r : Records) (him me you : Instance) (k j : Knowledge) (o : Op) → AreBeside site r me you k j → AreBeside site (after r him o) me you k j
beside_stays site r him me you k j o beside = still_beside site r (after r him o) me you k j (λ i. was_free r him i o) beside

-- Behind its own operation it is beside the other with what it learned: an image whose header was
-- told is none whose id the other drew, and that waits for a header.
pub learned_beside : (site : SiteId) (r : Records) (me you : Instance) (k j : Knowledge) → AreBeside site r me you k j → (o : Op) → IsTrueAt site r you j → Permits k site o
    → MayAct site r me you k j o → AreBeside site (after r me o) me you (learned k site o (answer_to r me o)) j
learned_beside site r me you k j beside o u permits may =
    let a = answer_to r me o in
    let own : Knowledge = learned_own k site o a in
    let now = beside_stays site r me me you own j o (own_beside site r me you k j beside o u permits may) in
    telling_beside site (after r me o) me you own j (told_then k site o a)
    (strange_taught site r k.seen j o a (told_there r me o a refl) (λ image drawn. (u.drawn image drawn).header) beside.unseen)
    (λ free child link. let before = was_free r me you o free in based_elsewhere site r me you k j o a refl u before (beside.unbased before) child link)
    (λ free child link. childless_elsewhere site r me you k j o a refl u (beside.unbased_there (was_free r me me o free)) child link) now

-- ---- a lock that is given up

-- Who may give up a lock is alone on the image. So nobody else that goes beside knows the header.
pub nobody_knows : (site : SiteId) (r : Records) (me you : Instance) (k j : Knowledge) (image : ℕ) → AreUnfenced r me you → HoldsUnlooked k site image
    → SharesLock site image r me you k j → known_header j site image ≡ None
nobody_knows site r me you k j image free holds may = by (known_header j site image) refl
  where
    by : (there : Option HeaderView) → known_header j site image ≡ there → there ≡ None
    by None is = refl
    by (Some h) is =
        absurd (alone_beside_none (sharing_on j site image) (sharing_on k site image) (ap sharing_of_own holds.is)
        (together_turned (sharing_on k site image) (sharing_on j site image) (may free (ap is_some holds.is) (ap is_some is))))

-- Nor does anybody where it is alone on the image itself.
pub alone_knows : (site : SiteId) (r : Records) (me you : Instance) (k j : Knowledge) (image : ℕ) (condition : HeaderView → Type 0) → AreUnfenced r me you → AreBeside site r me you k j
    → OwnsAlone k site image condition → known_header j site image ≡ None
alone_knows site r me you k j image condition free beside owns = by (known_header j site image) refl
  where
    by : (there : Option HeaderView) → known_header j site image ≡ there → there ≡ None
    by None is = refl
    by (Some h) is =
        absurd (alone_beside_none (sharing_on j site image) (sharing_on k site image) (ap sharing_of_own owns.is ∙ owns.meets.0)
        (together_turned (sharing_on k site image) (sharing_on j site image)
        (beside.shared free image (ap is_some (own_known k site image (λ sharing h. (sharing ≡ Alone) × condition h) owns)) (ap is_some is))))

-- ---- each beside the other

pub beside_mutual : (t : SiteId) (r : Records) (me you : Instance) (k j : Knowledge) → AreBeside t r me you k j → AreBeside t r you me j k
beside_mutual t r me you k j beside = record {
  shared = λ free image mine others. together_turned (sharing_on k t image) (sharing_on j t image) (beside.shared (free.1, free.0) image others mine);
  gone = beside.gone_there;
  gone_there = beside.gone;
  removed = λ image gone. unremoved image gone (is_gone k.gone t image) refl;
  apart = λ image drawn. by image drawn (is_drawn k.drawn t image) refl;
  unseen = beside.unseen_there;
  unseen_there = beside.unseen;
  unbased = beside.unbased_there;
  unbased_there = beside.unbased;
}
  where
    unremoved : (image : ℕ) → is_gone j.gone t image ≡ true → (b : Bool) → is_gone k.gone t image ≡ b → is_gone k.gone t image ≡ false
    unremoved image gone true is = absurd (true≢false (sym gone ∙ beside.removed image is))
    unremoved image gone false is = is

    by : (image : ℕ) → is_drawn j.drawn t image ≡ true → (b : Bool) → is_drawn k.drawn t image ≡ b → is_drawn k.drawn t image ≡ false
    by image drawn true is = absurd (true≢false (sym drawn ∙ beside.apart image is))
    by image drawn false is = is
