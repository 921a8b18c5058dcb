-- What is known stays true under what is permitted to others, and under the store's own steps.
use Rattle.std.proofs.Common.{◌≡◌, inl, inr, ℕ, ◌==◌, cond, Bool, true, false, List, Option, Some, None, option_map, refl, sym, ap, ◌∙◌, subst, arith}
use Rattle.std.proofs.lemmas.Bool.{true≢false, eqb-true, ne_eqb}
use Rattle.std.specs.FinMap as finmap
use Rattle.std.specs.Ordering.{nat_cmp}
use Rattle.std.specs.Prelude.{IsFalse, IsSome, is_some}
use Rattle.rbd_kinds.specs.declared.data_op.DataOp.{DataOp}
use Rattle.rbd_kinds.specs.declared.data_op.DataOp.TheVariants as object
use Rattle.rbd_kinds.specs.declared.header.HeaderView.{HeaderView}
use Rattle.rbd_kinds.specs.declared.header.SnapContext.{SnapContext}
use Rattle.rbd_kinds.specs.declared.header_op.HeaderOp.{HeaderOp}
use Rattle.rbd_kinds.specs.declared.header_op.HeaderOp.TheVariants as header
use Rattle.rbd_kinds.specs.declared.id.Instance.{Instance}
use Rattle.rbd_kinds.specs.declared.id.SiteId.{SiteId}
use Rattle.rbd_kinds.specs.declared.map_op.MapOp.{MapOp}
use Rattle.rbd_kinds.specs.declared.operation.Op.{Op}
use Rattle.rbd_kinds.specs.declared.operation.Op.TheVariants as op
use Rattle.rbd_kinds.specs.declared.sharing.Sharing.{Sharing}
use Rattle.rbd_kinds.specs.declared.sharing.Sharing.TheVariants.{Alone}
use Rattle.rbd_object.specs.Mapped.{Mapped, mapped_blank, mapped_trim}
use Rattle.rbd_machine.specs.Ancestors.{HeaderSeen}
use Rattle.rbd_machine.specs.Knowledge.{Knowledge, is_drawn, is_gone, maps_of, objects_known_of, own_of}
use Rattle.rbd_machine.specs.Permits.{Permits, PermitsOnHeader, PermitsOnMap, PermitsOnObject, OwnsBy}
use Rattle.rbd_machine.specs.Possible.{IsStillAs}
use Rattle.rbd_site.specs.HeaderStep.{header_after, is_owner}
use Rattle.rbd_site.specs.Laws.{is_look}
use Rattle.rbd_site.specs.Log.{expired, live_in, trimmed}
use Rattle.rbd_site.specs.Records.{Records, put, or_blank, object_at}
use Rattle.rbd_site.specs.Step.{is_fenced, after, after_served}
use Rattle.rbd_site.proofs.FenceLemmas.{fence_stays}
use Rattle.rbd_site.proofs.StepLemmas.{where_fenced}
use Rattle.rbd_site.proofs.GenerationLemmas.{looked_at}
use Rattle.rbd_stands.specs.Site.{IsUntouched}
use Rattle.rbd_stands.specs.Unseen.{is_about}
use Rattle.rbd_stands.proofs.EditSteps.{untouched_served, drawn_served}
use Rattle.rbd_stands.proofs.StoreSteps.{blank_trimmed}
use Rattle.rbd_flat.specs.Flat.{no_images}
use Rattle.rbd_interference.specs.Ancestors.{AreSeenTrue, DrewNoneOf}
use Rattle.rbd_interference.specs.Beside.{AreBeside, GoTogether, MayAct}
use Rattle.rbd_interference.specs.Truth.{AreMapsTrue, AreObjectsTrue, HasNoStates, is_alone_on, IsCountTrue, IsGoneAt, IsStill, IsTrueAt, IsWaiting, known_header, sharing_of_own, sharing_on, IsStillOwn}
use Rattle.rbd_interference.proofs.Each.{alike_true, objects_alike, of_all}
use Rattle.rbd_interference.proofs.Children.{children_beside_locks, children_kept, children_there, keeps_header, none_behind}
use Rattle.rbd_interference.proofs.Fenced.{after_free, was_free}
use Rattle.rbd_interference.proofs.Headers.{not_waiting, own_known, unknown_of_none}
use Rattle.rbd_interference.proofs.MapsKept.{counted_kept, mapped_kept}
use Rattle.rbd_interference.proofs.NoStates.{none_raised, none_there}
use Rattle.rbd_interference.proofs.ObjectsKept.{objects_kept}
use Rattle.rbd_interference.proofs.Seen.{among_seen, seen_after}
use Rattle.rbd_interference.proofs.Sharing.{alone_beside_none}

-- where both know the header of an image, they go together on it
abbrev AreBothShared : SiteId → (k j : Knowledge) → Type 0
AreBothShared site k j = (image : ℕ) → IsSome (known_header k site image) → IsSome (known_header j site image) → GoTogether site image k j

-- who is alone on an image isn't beside one that knows its header
pub alone_beside : (site : SiteId) (k j : Knowledge) (image : ℕ) (condition : HeaderView → Type 0) → AreBothShared site k j
    → OwnsBy j site image (λ sharing h. (sharing ≡ Alone) × condition h) → (there : Option HeaderView) → IsStillOwn (own_of k.owns site image) there
alone_beside site k j image condition shared owns there = go (known_header k site image) refl
  where
    go : (known : Option HeaderView) → known_header k site image ≡ known → IsStill (sharing_on k site image) known there
    go None is = tt
    go (Some h) is =
        let mine : IsSome (known_header k site image) = ap is_some is in
        let others : IsSome (known_header j site image) = ap is_some (own_known j site image (λ sharing h. (sharing ≡ Alone) × condition h) owns) in
        absurd (alone_beside_none (sharing_on k site image) (sharing_on j site image) (ap sharing_of_own owns.is ∙ owns.meets.0) (shared image mine others))

-- ---- what leaves a header but for its owner

module _ (sharing : Sharing) where
  either_still : (known : HeaderView) (b : Bool) (one other : HeaderView) → IsStillAs sharing known one → IsStillAs sharing known other → IsStillAs sharing known (cond b one other)
  either_still known true one other first second = first
  either_still known false one other first second = second

  -- it is still what it was with another owner
  owned_else : (known there : HeaderView) (owner : Option Instance) → IsStillAs sharing known there → IsStillAs sharing known (record there { owner = owner })
  owned_else known there owner still = record {
    same = ap (λ (h : HeaderView). record h { owner = owner }) still.same;
    parent = still.parent;
    exact = λ either. ap (λ (h : HeaderView). record h { owner = owner }) (still.exact either);
  }

  left_still : (known there : HeaderView) (b : Bool) → IsStillAs sharing known there → IsStillAs sharing known (cond b (record there { owner = None }) there)
  left_still known there b still = either_still known b (record there { owner = None }) there (owned_else known there None still) still

  still_behind : (you : Instance) (o : HeaderOp) → keeps_header o ≡ true → (known there : Option HeaderView) → IsStill sharing known there → IsStill sharing known (header_after you there o)
  still_behind you o keeps None there still = tt
  still_behind you o keeps (Some known) None still = elim still [ ]
  still_behind you header.LockTake keeps (Some known) (Some h) still = owned_else known h (cond (is_some h.owner) h.owner (Some you)) still
  still_behind you header.LockDrop keeps (Some known) (Some h) still = left_still known h (is_owner you h.owner) still
  still_behind you (header.LockBreak owner) keeps (Some known) (Some h) still = left_still known h (is_owner owner h.owner) still
  still_behind you header.Watch keeps (Some known) (Some h) still = still
  still_behind you header.Unwatch keeps (Some known) (Some h) still = still
  still_behind you header.WatchersGet keeps (Some known) (Some h) still = still
  still_behind you (header.Notify kind) keeps (Some known) (Some h) still = still
  still_behind you o keeps (Some known) (Some h) still = absurd (true≢false (sym keeps))

-- an id that waits still does
waits_by : (r : Records) (you : Instance) (other : ℕ) (o : HeaderOp) → keeps_header o ≡ true → (image : ℕ) → IsWaiting r image → IsWaiting (after r you (op.Header other o)) image
waits_by r you other o keeps image w =
    where_fenced (λ s. IsWaiting s image) r you (op.Header other o) w (record { drawn = w.drawn; header = by (image == other) refl; blank = w.blank; unraised = w.unraised })
  where
    by : (b : Bool) → (image == other) ≡ b → cond b (header_after you (r.headers other) o) (r.headers image) ≡ None
    by true same = ap (λ h. header_after you h o) (ap r.headers (sym (eqb-true image other same)) ∙ w.header) ∙ none_behind you o keeps
    by false differ = w.header

-- and an image that is gone stays so
gone_by : (r : Records) (you : Instance) (other : ℕ) (o : HeaderOp) → keeps_header o ≡ true → (image : ℕ) → IsGoneAt r image → IsGoneAt (after r you (op.Header other o)) image
gone_by r you other o keeps image g =
    where_fenced (λ s. IsGoneAt s image) r you (op.Header other o) g (record { drawn = g.drawn; header = by (image == other) refl })
  where
    by : (b : Bool) → (image == other) ≡ b → cond b (header_after you (r.headers other) o) (r.headers image) ≡ None
    by true same = ap (λ h. header_after you h o) (ap r.headers (sym (eqb-true image other same)) ∙ g.header) ∙ none_behind you o keeps
    by false differ = g.header

-- So whoever does it, what anybody knows stays true.
pub kept_by : (site : SiteId) (r : Records) (me you : Instance) (k : Knowledge) (other : ℕ) (o : HeaderOp) → keeps_header o ≡ true → IsTrueAt site r me k
    → IsTrueAt site (after r you (op.Header other o)) me k
kept_by site r me you k other o keeps t = record {
  owned = λ free image.
      let still = t.owned (was_free r you me (op.Header other o) free) in
      where_fenced (λ s. IsStillOwn (own_of k.owns site image) (s.headers image)) r you (op.Header other o) (still image) (by image (image == other) refl still);
  drawn = λ image drawn. waits_by r you other o keeps image (t.drawn image drawn);
  fenced = λ i known. fence_stays r you i (op.Header other o) (t.fenced i known);
  mapped = λ free image known.
      let was = t.mapped (was_free r you me (op.Header other o) free) image known in
      where_fenced (λ s. AreMapsTrue (is_alone_on k site image) (s.maps image) (maps_of k.maps site image)) r you (op.Header other o) was was;
  objects = λ free image h known.
      let was = t.objects (was_free r you me (op.Header other o) free) image h known in
      where_fenced (λ s. AreObjectsTrue (is_alone_on k site image) h.layout (object_at s image) (objects_known_of k.objects site image)) r you (op.Header other o) was was;
  gone = λ image gone. gone_by r you other o keeps image (t.gone image gone);
  apart = t.apart;
  counted = λ image without.
      let was = t.counted image without in
      where_fenced (λ s. IsCountTrue (maps_of k.maps site image).count (s.maps image None)) r you (op.Header other o) was was;
  seen = λ image h among.
      let was = t.seen image h among in
      seen_after r you (op.Header other o) image h (λ none. (gone_by r you other o keeps image (record { drawn = was.drawn; header = none })).header) was;
  strange = t.strange;
  children = children_beside_locks site r me you k other o keeps t.children;
}
  where
    by : (image : ℕ) (b : Bool) → (image == other) ≡ b → ((i : ℕ) → IsStillOwn (own_of k.owns site i) (r.headers i)) → IsStillOwn (own_of k.owns site image) (cond b (header_after you (r.headers other) o) (r.headers image))
    by image true same still =
        subst (λ i. IsStillOwn (own_of k.owns site i) (header_after you (r.headers other) o)) (sym (eqb-true image other same))
        (still_behind (sharing_on k site other) you o keeps (known_header k site other) (r.headers other) (still other))
    by image false differ still = still image

-- ---- others

get_same : (you : Instance) (h : Option HeaderView) → header_after you h header.Get ≡ h
get_same you None = refl
get_same you (Some h) = refl

-- What isn't fenced on either side: one knows the headers, and another changes them.
module _ (site : SiteId) (r : Records) (k j : Knowledge) (you : Instance) (still : (image : ℕ) → IsStillOwn (own_of k.owns site image) (r.headers image)) (u : IsTrueAt site r you j)
    (shared : AreBothShared site k j) where
  header_kept : (image : ℕ) (o : HeaderOp) → PermitsOnHeader j site image o → IsStillOwn (own_of k.owns site image) (header_after you (r.headers image) o)
  header_kept image header.Get permits = subst (IsStillOwn (own_of k.owns site image)) (sym (get_same you (r.headers image))) (still image)
  header_kept image (header.Create view) permits =
      unknown_of_none (sharing_on k site image) (known_header k site image) (header_after you (r.headers image) (header.Create view))
      (subst (IsStillOwn (own_of k.owns site image)) (u.drawn image permits.drawn).header (still image))
  header_kept image (header.SetSize to) permits = alone_beside site k j image _ shared permits (header_after you (r.headers image) (header.SetSize to))
  header_kept image header.Remove permits = alone_beside site k j image _ shared permits (header_after you (r.headers image) header.Remove)
  header_kept image (header.SnapAdd name) permits = alone_beside site k j image _ shared permits (header_after you (r.headers image) (header.SnapAdd name))
  header_kept image (header.SnapRemove snap) permits = alone_beside site k j image _ shared permits (header_after you (r.headers image) (header.SnapRemove snap))
  header_kept image (header.SnapStatus snap status) permits = alone_beside site k j image _ shared permits (header_after you (r.headers image) (header.SnapStatus snap status))
  header_kept image header.LockTake permits = still_behind (sharing_on k site image) you header.LockTake refl (known_header k site image) (r.headers image) (still image)
  header_kept image header.LockDrop permits = still_behind (sharing_on k site image) you header.LockDrop refl (known_header k site image) (r.headers image) (still image)
  header_kept image (header.LockBreak owner) permits = still_behind (sharing_on k site image) you (header.LockBreak owner) refl (known_header k site image) (r.headers image) (still image)
  header_kept image header.Watch permits = still_behind (sharing_on k site image) you header.Watch refl (known_header k site image) (r.headers image) (still image)
  header_kept image header.Unwatch permits = still_behind (sharing_on k site image) you header.Unwatch refl (known_header k site image) (r.headers image) (still image)
  header_kept image header.WatchersGet permits = still_behind (sharing_on k site image) you header.WatchersGet refl (known_header k site image) (r.headers image) (still image)
  header_kept image (header.Notify kind) permits = still_behind (sharing_on k site image) you (header.Notify kind) refl (known_header k site image) (r.headers image) (still image)
  header_kept image _ permits = elim permits [ ]

  owned_served : (o : Op) → Permits j site o → (image : ℕ) → IsStillOwn (own_of k.owns site image) ((after_served r you o).headers image)
  owned_served (op.Directory o) permits image = still image
  owned_served (op.Children o) permits image = still image
  owned_served (op.BlockAdd i) permits image = still image
  owned_served (op.Data other number o) permits image = still image
  owned_served (op.Map other o) permits image = still image
  owned_served (op.Header other o) permits image = go (image == other) refl
    where
      go : (b : Bool) → (image == other) ≡ b → IsStillOwn (own_of k.owns site image) (cond b (header_after you (r.headers other) o) (r.headers image))
      go true same = subst (λ i. IsStillOwn (own_of k.owns site i) (header_after you (r.headers other) o)) (sym (eqb-true image other same)) (header_kept other o permits)
      go false differ = still image
  owned_served _ permits image = elim permits [ ]

-- One that is fenced changes nothing.
owned_kept : (site : SiteId) (r : Records) (k j : Knowledge) (me you : Instance) (o : Op) → ((image : ℕ) → IsStillOwn (own_of k.owns site image) (r.headers image)) → IsTrueAt site r you j
    → IsFalse (is_fenced r me) → AreBeside site r me you k j → Permits j site o → (image : ℕ) → IsStillOwn (own_of k.owns site image) ((after r you o).headers image)
owned_kept site r k j me you o still u free beside permits image =
    after_free (λ s. IsStillOwn (own_of k.owns site image) (s.headers image)) r you o (still image)
    (λ served. owned_served site r k j you still u (beside.shared (free, served)) o permits image)

-- an id that waits still does, where the operation isn't about it
pub waits_served : (r : Records) (you : Instance) (o : Op) (image : ℕ) → is_about image o ≡ false → HasNoStates ((after_served r you o).maps image None) → IsWaiting r image
    → IsWaiting (after_served r you o) image
waits_served r you o image other unraised w =
    let untouched : IsUntouched r no_images image = record { header = w.header; flat = finmap.get-empty nat_cmp image; blank = w.blank } in
    let stays = untouched_served r no_images no_images you o image untouched other refl in
    record { drawn = drawn_served r you o image w.drawn; header = stays.header; blank = stays.blank; unraised = unraised }

waits_on : (r : Records) (you : Instance) (o : Op) (image : ℕ) → is_about image o ≡ false → HasNoStates ((after_served r you o).maps image None) → IsWaiting r image
    → IsWaiting (after r you o) image
waits_on r you o image other unraised w = where_fenced (λ s. IsWaiting s image) r you o w (waits_served r you o image other unraised w)

waits_behind_look : (r : Records) (you : Instance) (o : Op) (image : ℕ) → is_look o ≡ true → IsWaiting r image → IsWaiting (after r you o) image
waits_behind_look r you o image look w = subst (λ s. IsWaiting s image) (sym (looked_at r you o look)) w

-- two numbers that can't be one
pub other_than : (other image : ℕ) → ((other ≡ image) → ⊥) → (other == image) ≡ false
other_than other image differ = ne_eqb other image differ

-- an object of an image that somebody owns is none of an id that waits for its header
pub owned_is_other : (site : SiteId) (r : Records) (me : Instance) (k : Knowledge) (other image : ℕ) (condition : Sharing → HeaderView → Type 0) → IsTrueAt site r me k
    → IsFalse (is_fenced r me) → OwnsBy k site other condition → IsWaiting r image → (other == image) ≡ false
owned_is_other site r me k other image condition t free owns w =
    other_than other image (λ same. not_waiting site r me k other condition t free owns (ap r.headers same ∙ w.header))

module _ (site : SiteId) (r : Records) (j : Knowledge) (you : Instance) (u : IsTrueAt site r you j) (image : ℕ) (w : IsWaiting r image) where
  -- What an owner does: it owns the image where it isn't fenced, and else does nothing.
  waits_owned : (o : Op) → (IsFalse (is_fenced r you) → is_about image o ≡ false) → HasNoStates ((after_served r you o).maps image None) → IsWaiting (after r you o) image
  waits_owned o other unraised = after_free (λ s. IsWaiting s image) r you o w (λ free. waits_served r you o image (other free) unraised w)

  -- while nobody else makes its header
  waits_header : (other : ℕ) (o : HeaderOp) → PermitsOnHeader j site other o → (is_drawn j.drawn site image ≡ false) → IsWaiting (after r you (op.Header other o)) image
  waits_header other header.Get permits apart = waits_behind_look r you (op.Header other header.Get) image refl w
  waits_header other (header.Create view) permits apart =
      waits_on r you (op.Header other (header.Create view)) image
      (other_than other image (λ same. true≢false (sym permits.drawn ∙ ap (λ i. is_drawn j.drawn site i) same ∙ apart))) w.unraised w
  waits_header other (header.SetSize to) permits apart = waits_owned (op.Header other (header.SetSize to)) (λ free. owned_is_other site r you j other image _ u free permits w) w.unraised
  waits_header other header.Remove permits apart = waits_owned (op.Header other header.Remove) (λ free. owned_is_other site r you j other image _ u free permits w) w.unraised
  waits_header other (header.SnapAdd name) permits apart = waits_owned (op.Header other (header.SnapAdd name)) (λ free. owned_is_other site r you j other image _ u free permits w) w.unraised
  waits_header other (header.SnapRemove snap) permits apart = waits_owned (op.Header other (header.SnapRemove snap)) (λ free. owned_is_other site r you j other image _ u free permits w) w.unraised
  waits_header other (header.SnapStatus snap status) permits apart =
      waits_owned (op.Header other (header.SnapStatus snap status)) (λ free. owned_is_other site r you j other image _ u free permits w) w.unraised
  waits_header other header.LockTake permits apart = waits_by r you other header.LockTake refl image w
  waits_header other header.LockDrop permits apart = waits_by r you other header.LockDrop refl image w
  waits_header other (header.LockBreak owner) permits apart = waits_by r you other (header.LockBreak owner) refl image w
  waits_header other header.Watch permits apart = waits_by r you other header.Watch refl image w
  waits_header other header.Unwatch permits apart = waits_by r you other header.Unwatch refl image w
  waits_header other header.WatchersGet permits apart = waits_by r you other header.WatchersGet refl image w
  waits_header other (header.Notify kind) permits apart = waits_by r you other (header.Notify kind) refl image w
  waits_header other _ permits apart = elim permits [ ]

  -- nor removes what is left of it
  waits_owned_object : (other number : ℕ) (o : DataOp) (condition : Sharing → HeaderView → Type 0) → OwnsBy j site other condition → IsWaiting (after r you (op.Data other number o)) image
  waits_owned_object other number o condition owns = waits_owned (op.Data other number o) (λ free. owned_is_other site r you j other image condition u free owns w) w.unraised

  waits_removal : (other number : ℕ) (context : SnapContext) → PermitsOnObject j site other number (object.Remove context) → (is_gone j.gone site image ≡ false)
      → IsWaiting (after r you (op.Data other number (object.Remove context))) image
  waits_removal other number context (inl left) remains =
      waits_on r you (op.Data other number (object.Remove context)) image (other_than other image (λ same. true≢false (sym left.gone ∙ ap (λ i. is_gone j.gone site i) same ∙ remains))) w.unraised w
  waits_removal other number context (inr owns) remains = waits_owned_object other number (object.Remove context) _ owns

  waits_object : (other number : ℕ) (o : DataOp) → PermitsOnObject j site other number o → (is_gone j.gone site image ≡ false) → IsWaiting (after r you (op.Data other number o)) image
  waits_object other number (object.Read snap parts) permits remains = waits_behind_look r you (op.Data other number (object.Read snap parts)) image refl w
  waits_object other number (object.Write context must parts bytes) permits remains = waits_owned_object other number (object.Write context must parts bytes) _ permits
  waits_object other number (object.WriteFull context bytes) permits remains = waits_owned_object other number (object.WriteFull context bytes) _ permits
  waits_object other number (object.Zero context must parts) permits remains = waits_owned_object other number (object.Zero context must parts) _ permits
  waits_object other number (object.Empty context) permits remains = waits_owned_object other number (object.Empty context) _ permits
  waits_object other number (object.Remove context) permits remains = waits_removal other number context permits remains
  waits_object other number _ permits remains = elim permits [ ]

  -- nor raises a state
  waits_map : (other : ℕ) (o : MapOp) → PermitsOnMap j site other o → IsWaiting (after r you (op.Map other o)) image
  waits_map other o permits =
      after_free (λ s. IsWaiting s image) r you (op.Map other o) w (λ free.
      waits_served r you (op.Map other o) image refl
      (none_there r you other o image w.unraised (λ same.
      none_raised site r j you u free other o permits (ap r.headers (sym same) ∙ w.header) (subst (λ i. HasNoStates (r.maps i None)) same w.unraised)))
      w)

  pub waits_still : (o : Op) → Permits j site o → is_drawn j.drawn site image ≡ false → is_gone j.gone site image ≡ false → IsWaiting (after r you o) image
  waits_still (op.Directory o) permits apart remains = waits_on r you (op.Directory o) image refl w.unraised w
  waits_still (op.Children o) permits apart remains = waits_on r you (op.Children o) image refl w.unraised w
  waits_still (op.BlockAdd i) permits apart remains = waits_on r you (op.BlockAdd i) image refl w.unraised w
  waits_still (op.Header other o) permits apart remains = waits_header other o permits apart
  waits_still (op.Data other number o) permits apart remains = waits_object other number o permits remains
  waits_still (op.Map other o) permits apart remains = waits_map other o permits
  waits_still _ permits apart remains = elim permits [ ]

-- an image that is gone gets no header, but by who drew its id
module _ (site : SiteId) (j : Knowledge) (image : ℕ) (undrawn : is_drawn j.drawn site image ≡ false) where
  makes_none : (you : Instance) (o : HeaderOp) → PermitsOnHeader j site image o → header_after you None o ≡ None
  makes_none you (header.Create view) permits = absurd (true≢false (sym permits.drawn ∙ undrawn))
  makes_none you _ permits = refl

  pub still_none : (r : Records) (you : Instance) (o : Op) → Permits j site o → r.headers image ≡ None → (after_served r you o).headers image ≡ None
  still_none r you (op.Directory o) permits none = none
  still_none r you (op.Children o) permits none = none
  still_none r you (op.BlockAdd i) permits none = none
  still_none r you (op.Data other number o) permits none = none
  still_none r you (op.Map other o) permits none = none
  still_none r you (op.Header other o) permits none = by (image == other) refl
    where
      by : (b : Bool) → (image == other) ≡ b → cond b (header_after you (r.headers other) o) (r.headers image) ≡ None
      by true same =
          let at = eqb-true image other same in
          ap (λ i. header_after you (r.headers i) o) (sym at) ∙ ap (λ h. header_after you h o) none ∙ makes_none you o (subst (λ i. PermitsOnHeader j site i o) (sym at) permits)
      by false differ = none
  still_none r you _ permits none = elim permits [ ]

  -- so it is whoever is fenced
  pub none_still : (r : Records) (you : Instance) (o : Op) → Permits j site o → r.headers image ≡ None → (after r you o).headers image ≡ None
  none_still r you o permits none = where_fenced (λ (s : Records). s.headers image ≡ None) r you o none (still_none r you o permits none)

  gone_still : (r : Records) (you : Instance) (o : Op) → Permits j site o → IsGoneAt r image → IsGoneAt (after r you o) image
  gone_still r you o permits g =
      where_fenced (λ s. IsGoneAt s image) r you o g (record { drawn = drawn_served r you o image g.drawn; header = still_none r you o permits g.header })

-- headers that were told
pub seen_kept : (site : SiteId) (r : Records) (you : Instance) (j : Knowledge) (o : Op) → Permits j site o → (seen : List HeaderSeen) → DrewNoneOf site seen j → AreSeenTrue site r seen
    → AreSeenTrue site (after r you o) seen
seen_kept site r you j o permits seen drew was image h among =
    seen_after r you o image h (none_still site j image (drew image (among_seen site image h seen among)) r you o permits) (was image h among)

not_gone_there : (site : SiteId) (r : Records) (me you : Instance) (k j : Knowledge) → AreBeside site r me you k j → (image : ℕ) → is_drawn k.drawn site image ≡ true → is_gone j.gone site image ≡ false
not_gone_there site r me you k j beside image drawn = by (is_gone j.gone site image) refl
  where
    by : (b : Bool) → is_gone j.gone site image ≡ b → b ≡ false
    by false is = refl
    by true is = absurd (true≢false (sym drawn ∙ beside.gone_there image is))

pub others_keep : (site : SiteId) (r : Records) (k j : Knowledge) (me you : Instance) (o : Op) → IsTrueAt site r me k → IsTrueAt site r you j → AreBeside site r me you k j → Permits j site o
    → MayAct site r you me j k o → IsTrueAt site (after r you o) me k
others_keep site r k j me you o t u beside permits may = record {
  owned = λ free. let before = was_free r you me o free in owned_kept site r k j me you o (t.owned before) u before beside permits;
  drawn = λ image drawn. waits_still site r j you u image (t.drawn image drawn) o permits (beside.apart image drawn) (not_gone_there site r me you k j beside image drawn);
  fenced = λ i known. fence_stays r you i o (t.fenced i known);
  mapped = λ free. mapped_kept site r k j me you t u beside (was_free r you me o free) o permits may;
  objects = λ free. objects_kept site r k j me you t u beside (was_free r you me o free) o permits may;
  gone = λ image gone. gone_still site j image (beside.gone image gone) r you o permits (t.gone image gone);
  apart = t.apart;
  counted = counted_kept site r k j me you t u beside o permits;
  seen = seen_kept site r you j o permits k.seen beside.unseen t.seen;
  strange = t.strange;
  children = children_kept site r k j me you t u beside.apart beside.gone_there beside.unbased o permits;
}

-- ---- the store

pub seen_trimmed : (site : SiteId) (r : Records) (seen : List HeaderSeen) (image number : ℕ) → AreSeenTrue site r seen → AreSeenTrue site (trimmed image number r) seen
seen_trimmed site r seen image number was i h among = let it = was i h among in record { drawn = it.drawn; later = it.later; numbered = it.numbered }

blank_in : (live : List ℕ) (object : Option Mapped) → or_blank object ≡ mapped_blank → or_blank (option_map (mapped_trim live) object) ≡ mapped_blank
blank_in live None blank = refl
blank_in live (Some o) blank = ap (mapped_trim live) blank ∙ blank_trimmed live

trim_waits : (r : Records) (other number image : ℕ) → IsWaiting r image → IsWaiting (trimmed other number r) image
trim_waits r other number image w = record {
  drawn = w.drawn;
  header = w.header;
  blank = λ n. by n (image == other) refl (n == number) refl;
  unraised = w.unraised;
}
  where
    live : List ℕ
    live = live_in (r.headers other)

    now : Option Mapped
    now = option_map (mapped_trim live) (r.objects other number)

    was : (n : ℕ) → (image == other) ≡ true → object_at r other n ≡ mapped_blank
    was n same = ap (λ i. object_at r i n) (sym (eqb-true image other same)) ∙ w.blank n

    by : (n : ℕ) (a : Bool) → (image == other) ≡ a → (b : Bool) → (n == number) ≡ b → or_blank (cond a (put (r.objects other) number now) (r.objects image) n) ≡ mapped_blank
    by n false differ b e = w.blank n
    by n true same true there = ap (λ b. or_blank (cond b now (r.objects other n))) there ∙ blank_in live (r.objects other number) (was number same)
    by n true same false elsewhere = ap (λ b. or_blank (cond b now (r.objects other n))) elsewhere ∙ was n same

-- a trim leaves each head
head_trimmed : (r : Records) (other number image n : ℕ) → (object_at (trimmed other number r) image n).head ≡ (object_at r image n).head
head_trimmed r other number image n = by (image == other) refl (n == number) refl
  where
    live : List ℕ
    live = live_in (r.headers other)

    now : Option Mapped
    now = option_map (mapped_trim live) (r.objects other number)

    kept : (o : Option Mapped) → (or_blank (option_map (mapped_trim live) o)).head ≡ (or_blank o).head
    kept None = refl
    kept (Some o) = refl

    head_of : Option Mapped → Option (List ℕ)
    head_of o = (or_blank o).head

    at : (m : ℕ) (b : Bool) → (m == number) ≡ b → head_of (cond b now (r.objects other m)) ≡ head_of (r.objects other m)
    at m true there = kept (r.objects other number) ∙ ap (λ i. head_of (r.objects other i)) (sym (eqb-true m number there))
    at m false elsewhere = refl

    by : (a : Bool) → (image == other) ≡ a → (b : Bool) → (n == number) ≡ b → head_of (cond a (put (r.objects other) number now) (r.objects image) n) ≡ head_of (r.objects image n)
    by false differ b e = refl
    by true same b e = at n (n == number) refl ∙ ap (λ i. head_of (r.objects i n)) (sym (eqb-true image other same))

pub trims_keep : (site : SiteId) (r : Records) (me : Instance) (k : Knowledge) (image number : ℕ) → IsTrueAt site r me k → IsTrueAt site (trimmed image number r) me k
trims_keep site r me k image number t = record {
  owned = t.owned;
  drawn = λ i drawn. trim_waits r image number i (t.drawn i drawn);
  fenced = t.fenced;
  mapped = t.mapped;
  objects = λ free i h known.
      objects_alike (is_alone_on k site i) h.layout (object_at r i) (object_at (trimmed image number r) i) (objects_known_of k.objects site i) (head_trimmed r image number i) (t.objects free i h known);
  gone = λ i gone. let g = t.gone i gone in record { drawn = g.drawn; header = g.header };
  apart = t.apart;
  counted = t.counted;
  seen = seen_trimmed site r k.seen image number t.seen;
  strange = t.strange;
  children = children_there site r (trimmed image number r) me k (record { children = refl; headers = λ i. refl }) (λ free. free) t.children;
}

pub expiries_keep : (site : SiteId) (r : Records) (me : Instance) (k : Knowledge) (image : ℕ) (i : Instance) → IsTrueAt site r me k → IsTrueAt site (expired image i r) me k
expiries_keep site r me k image i t =
    of_all site (expired image i r) me k
    (alike_true site r (expired image i r) me k t (λ f. f) t.fenced (λ n. record { header = refl; maps = refl; objects = λ m. refl; drawn = omega arith }))
    (children_there site r (expired image i r) me k (record { children = refl; headers = λ n. refl }) (λ free. free) t.children)
