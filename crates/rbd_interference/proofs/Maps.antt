-- Each image goes on to have its object maps, which cover its objects.
use Rattle.std.proofs.Common.{◌≡◌, ◌≢◌, ◌⊎◌, inl, inr, ℕ, ◌+◌, ◌*◌, ◌<◌, ◌≤◌, ◌==◌, cond, eqb, Bool, true, false, List, [], length, length-append, set, unwrap_or, Option, Some, None, option_map, is_some, refl, sym, ap, ◌∙◌, subst, arith, true≢false}
use Rattle.std.specs.Prelude.{IsFalse, IsSome}
use Rattle.std.proofs.lemmas.Bool.{cases_lt, eqb-true}
use Rattle.std.proofs.lemmas.List.{length-set}
use Rattle.std.proofs.lemmas.Option.{none-some, same_Some}
use Rattle.rbd_kinds.specs.declared.data_op.DataOp.{DataOp}
use Rattle.rbd_kinds.specs.declared.data_op.DataOp.TheVariants as object
use Rattle.rbd_kinds.specs.declared.header.HeaderView.{HeaderView}
use Rattle.rbd_kinds.specs.declared.header.ParentLink.{ParentLink}
use Rattle.rbd_kinds.specs.declared.header.SnapContext.{SnapContext}
use Rattle.rbd_kinds.specs.declared.header.SnapView.{SnapView}
use Rattle.rbd_kinds.specs.declared.header_op.HeaderOp.{HeaderOp}
use Rattle.rbd_kinds.specs.declared.header_op.HeaderOp.TheVariants as header
use Rattle.rbd_kinds.specs.declared.id.Instance.{Instance}
use Rattle.rbd_kinds.specs.declared.id.SiteId.{SiteId}
use Rattle.rbd_kinds.specs.declared.map_op.MapOp.{MapOp}
use Rattle.rbd_kinds.specs.declared.map_op.MapOp.TheVariants as states
use Rattle.rbd_kinds.specs.declared.operation.Op.{Op}
use Rattle.rbd_kinds.specs.declared.operation.Op.TheVariants as op
use Rattle.rbd_kinds.specs.declared.sharing.Sharing.{Sharing}
use Rattle.rbd_kinds.specs.Sharing.{is_alone}
use Rattle.rbd_kinds.specs.Form.{IsOverlapWithin}
use Rattle.rbd_kinds.specs.Header.{snap_named}
use Rattle.rbd_kinds.specs.Striping.{object_of}
use Rattle.rbd_header.specs.Header.{context_of, cut, is_full, snap_in, with_size, with_snap, with_status, without_snap}
use Rattle.rbd_header.proofs.Changed.{cut_within}
use Rattle.rbd_machine.specs.Knowledge.{Knowledge, maps_of, objects_known_of}
use Rattle.rbd_machine.specs.Permits.{HasRoomFor, HasState, IsLeftOver, Permits, PermitsOnHeader, PermitsOnMap, PermitsOnObject, OwnsAlone, OwnsBy, MayMake, MayPut, MaySet, MaySize, MayTakeSnap}
use Rattle.rbd_map.specs.States.{states_of}
use Rattle.rbd_flat.specs.Flat.{Flat, image_at}
use Rattle.rbd_site.specs.HeaderStep.{header_after, is_owner}
use Rattle.rbd_site.specs.InForm.{AreInForm}
use Rattle.rbd_site.specs.Log.{expired, trimmed}
use Rattle.rbd_site.specs.MapStep.{lengthened}
use Rattle.rbd_site.specs.Records.{Records, no_records, object_at}
use Rattle.rbd_site.specs.Step.{is_fenced, after, after_served}
use Rattle.rbd_site.proofs.StepLemmas.{where_fenced}
use Rattle.rbd_stands.specs.Condition.{IsContextOf}
use Rattle.rbd_stands.specs.Covering.{IsCovered, IsRaised, KeepsCover, KeepsDataCover, KeepsHeaderCover, KeepsMapCover, Maps, MapsCover, exists_at}
use Rattle.rbd_stands.specs.Shown.{links_of, snapshots_of}
use Rattle.rbd_stands.specs.Site.{StandsFor}
use Rattle.rbd_stands.specs.View.{EachView, shape_of_snap}
use Rattle.rbd_stands.proofs.Contexts.{reversed_context}
use Rattle.rbd_stands.proofs.EditSteps.{drawn_served}
use Rattle.rbd_stands.proofs.Lookups.{a_value}
use Rattle.rbd_stands.proofs.MapSteps.{cover_after, cover_trimmed}
use Rattle.rbd_stands.proofs.SiteSteps.{here}
use Rattle.rbd_stands.proofs.Views.{each_added, each_marked, each_removed}
use Rattle.rbd_interference.specs.Truth.{AreMapped, HasAtLeast, HasNoStates, IsCountTrue, IsPutAs, IsTrueAt, is_own_alone, map_len, map_state_in}
use Rattle.rbd_interference.proofs.Done.{may_do}
use Rattle.rbd_interference.proofs.Fenced.{after_free}
use Rattle.rbd_interference.proofs.Headers.{own_known, owned_there}
use Rattle.rbd_interference.proofs.MapsBehind.{each_image, maps_behind, same_again, with_view}
use Rattle.rbd_interference.proofs.NoStates.{none_raised, none_there}
use Rattle.rbd_interference.proofs.Sharing.{alone_unshared}

-- ---- one map

-- a map with the head's states covers what the head's does
put_covered : (put head : Option (List ℕ)) (exists : ℕ → Bool) → IsPutAs put head → IsSome head → IsCovered head exists → IsCovered put exists
put_covered put None exists p there covers = absurd (true≢false (sym there))
put_covered put (Some states) exists p there covers = subst (λ map. IsCovered map exists) (sym p.is) (record { absent = λ n none. covers.absent n (sym (p.same n) ∙ none) })

raised_map : (map : Option (List ℕ)) (number : ℕ) → map_state_in map number ≢ 0 → IsRaised map number
raised_map None number raised = tt
raised_map (Some states) number raised = raised

set_some : (map : Option (List ℕ)) (object state : ℕ) → IsSome map → IsSome (option_map (λ states. set states object state) map)
set_some None object state there = there
set_some (Some states) object state there = refl

set_len : (map : Option (List ℕ)) (object state : ℕ) → map_len (option_map (λ states. set states object state) map) ≡ map_len map
set_len None object state = refl
set_len (Some states) object state = length-set states object state

-- ---- the maps of one image

-- a map is there at each view, with all objects of its size
record HasViews (h : HeaderView) (maps : Maps) : Type 0 where
  pub there : EachView h (λ v shape. IsSome (maps v))
  pub room : EachView h (λ v shape. HasRoomFor h.layout shape.size (map_len (maps v)))
  pub within : EachView h (λ v shape. IsOverlapWithin shape.size h.parent)

either_views : (maps : Maps) (b : Bool) (one other : HeaderView) → HasViews one maps → HasViews other maps → HasViews (cond b one other) maps
either_views maps true one other p q = p
either_views maps false one other p q = q

-- whoever owns it
owner_views : (maps : Maps) (h : HeaderView) (owner : Option Instance) → HasViews h maps → HasViews (record h { owner = owner }) maps
owner_views maps h owner all = record {
  there = record { head = all.there.head; snap = all.there.snap };
  room = record { head = all.room.head; snap = all.room.snap };
  within = record { head = all.within.head; snap = all.within.snap };
}

told_views : (maps : Maps) (f g : HeaderView) → Some f ≡ Some g → HasViews f maps → HasViews g maps
told_views maps f g same all = subst (λ h. HasViews h maps) (same_Some f g same) all

views_again : (maps now : Maps) (h : HeaderView) → ((v : Option ℕ) → now v ≡ maps v) → HasViews h maps → HasViews h now
views_again maps now h same all = record {
  there = record { head = ap is_some (same None) ∙ all.there.head; snap = λ t s at. ap is_some (same (Some t)) ∙ all.there.snap t s at };
  room = record {
    head = subst (λ map. HasRoomFor h.layout h.size (map_len map)) (sym (same None)) all.room.head;
    snap = λ t s at. subst (λ map. HasRoomFor h.layout s.size (map_len map)) (sym (same (Some t))) (all.room.snap t s at);
  };
  within = all.within;
}

-- the map of a snapshot that isn't listed is put, or removed
views_apart : (maps : Maps) (h : HeaderView) (snap : ℕ) (map : Option (List ℕ)) → snap_in h.snaps snap ≡ None → HasViews h maps → HasViews h (with_view maps (Some snap) map)
views_apart maps h snap map unlisted all = record {
  there = record { head = all.there.head; snap = λ t s at. by (λ m. IsSome m) t s at (eqb t snap) refl (all.there.snap t s at) };
  room = record { head = all.room.head; snap = λ t s at. by (λ m. HasRoomFor h.layout s.size (map_len m)) t s at (eqb t snap) refl (all.room.snap t s at) };
  within = all.within;
}
  where
    by : (P : Option (List ℕ) → Type 0) (t : ℕ) (s : SnapView) → snap_in h.snaps t ≡ Some s → (b : Bool) → eqb t snap ≡ b → P (maps (Some t)) → P (cond b map (maps (Some t)))
    by P t s at true same was = absurd (none-some s (sym unlisted ∙ ap (snap_in h.snaps) (sym (eqb-true t snap same)) ∙ at))
    by P t s at false other was = was

-- the head's map becomes longer
views_lengthened : (maps : Maps) (h : HeaderView) (count : ℕ) → HasViews h maps → HasViews h (maps_behind maps (states.Resize count))
views_lengthened maps h count all = record {
  there = record { head = refl; snap = all.there.snap };
  room = record { head = λ x inside. let below = all.room.head x inside in let more = longer (maps None) in omega (arith, below, more); snap = all.room.snap };
  within = all.within;
}
  where
    longer : (map : Option (List ℕ)) → map_len map ≤ length (lengthened count (unwrap_or map []))
    longer None = omega arith
    longer (Some states) = rw length-append (omega arith)

views_set : (maps : Maps) (h : HeaderView) (object state : ℕ) → HasViews h maps → HasViews h (maps_behind maps (states.Set None object state))
views_set maps h object state all = record {
  there = record { head = set_some (maps None) object state all.there.head; snap = all.there.snap };
  room = record { head = subst (HasRoomFor h.layout h.size) (sym (set_len (maps None) object state)) all.room.head; snap = all.room.snap };
  within = all.within;
}

-- a snapshot's map that was put has as much room as the head's
room_put : (maps : Maps) (h : HeaderView) → IsPutAs (maps (Some (h.snap_seq + 1))) (maps None) → HasRoomFor h.layout h.size (map_len (maps None))
    → HasRoomFor h.layout h.size (map_len (maps (Some (h.snap_seq + 1))))
room_put maps h put room x inside =
    let below = room x inside in
    let long = put.long in
    let len : map_len (maps (Some (h.snap_seq + 1))) ≡ length put.there = ap map_len put.is in
    omega (arith, below, long, len)

-- an overlap that is cut ends where it ended, or before
cut_stays : (to size : ℕ) (parent : Option ParentLink) → IsOverlapWithin size parent → IsOverlapWithin size (cut to parent)
cut_stays to size None within = tt
cut_stays to size (Some link) within = let ends : link.overlap ≤ size = within in omega (arith, ends)

-- ---- what is permitted

module _ (site : SiteId) (r : Records) (f : Flat) (k : Knowledge) (you : Instance) (most : ℕ) (stands : StandsFor [] r f) (form : AreInForm r most) (mapped : AreMapped r) (t : IsTrueAt site r you k) where
  covers : MapsCover r
  covers image h is = (mapped.images image h is).covered

  views : (image : ℕ) (h : HeaderView) → r.headers image ≡ Some h → HasViews h (r.maps image)
  views image h is = let all = mapped.images image h is in record { there = all.there; room = all.room; within = all.within }

  module _ (free : IsFalse (is_fenced r you)) (image : ℕ) where
    -- ---- and covers the objects

    -- the next snapshot's map has the head's states
    put_next : (name : List ℕ) → OwnsAlone k site image (MayTakeSnap (maps_of k.maps site image) name) → (h : HeaderView) → r.headers image ≡ Some h
        → IsPutAs (r.maps image (Some (h.snap_seq + 1))) (r.maps image None)
    put_next name owns h is =
        let there = owned_there site r you k image _ t free owns in
        let same : h ≡ there.view = same_Some h there.view (sym is ∙ there.is) in
        let seq : h.snap_seq ≡ owns.header.snap_seq = ap (λ (v : HeaderView). v.snap_seq) (same ∙ there.still.same) in
        subst (λ n. IsPutAs (r.maps image (Some (n + 1))) (r.maps image None)) (sym seq)
        ((t.mapped free image (ap is_some (own_known k site image _ owns))).put (ap is_own_alone owns.is ∙ ap is_alone owns.meets.0) (owns.header.snap_seq + 1) owns.meets.1.put)

    header_covers : (o : HeaderOp) → PermitsOnHeader k site image o → (there : Option HeaderView) → r.headers image ≡ there → KeepsHeaderCover there (r.maps image) (object_at r image) o
    header_covers (header.Create view) permits None is = (t.drawn image permits.drawn).blank
    header_covers o permits None is = tt
    header_covers (header.SnapAdd name) permits (Some h) is =
        put_covered (r.maps image (Some (h.snap_seq + 1))) (r.maps image None) (exists_at (object_at r image) None) (put_next name permits h is) (views image h is).there.head (covers image h is).head
    header_covers o permits (Some h) is = tt

    -- a context that is the own header's, and a state that it set
    under_own : (condition : Sharing → HeaderView → Type 0) (owns : OwnsBy k site image condition) (context : SnapContext) → context ≡ context_of owns.header
        → (h : HeaderView) → r.headers image ≡ Some h → IsContextOf h context
    under_own condition owns context at h is =
        let there = owned_there site r you k image condition t free owns in
        let same : h ≡ there.view = same_Some h there.view (sym is ∙ there.is) in
        subst (IsContextOf h) (ap context_of (same ∙ there.still.same) ∙ sym at) (reversed_context h)

    raised_own : (condition : Sharing → HeaderView → Type 0) → OwnsBy k site image condition → (number : ℕ) → HasState (maps_of k.maps site image) number → IsRaised (r.maps image None) number
    raised_own condition owns number raised = raised_map (r.maps image None) number ((t.mapped free image (ap is_some (own_known k site image condition owns))).raised None number raised)

    -- who removed the header finds none
    never_left : IsLeftOver k site image → (h : HeaderView) → r.headers image ≡ Some h → ⊥
    never_left left h is = none-some h (sym (t.gone image left.gone).header ∙ is)

    removal_covers : (number : ℕ) (context : SnapContext) → PermitsOnObject k site image number (object.Remove context) → (h : HeaderView) → r.headers image ≡ Some h
        → KeepsDataCover h (r.maps image) number (object_at r image number) (object.Remove context)
    removal_covers number context (inl gone) h is = absurd (never_left gone h is)
    removal_covers number context (inr owns) h is = under_own _ owns context owns.meets.under h is

    object_covers : (number : ℕ) (o : DataOp) → PermitsOnObject k site image number o → (h : HeaderView) → r.headers image ≡ Some h
        → KeepsDataCover h (r.maps image) number (object_at r image number) o
    object_covers number (object.Read snap parts) permits h is = tt
    object_covers number (object.Write context must parts bytes) permits h is = (under_own _ permits context permits.meets.under h is, raised_own _ permits number permits.meets.raised)
    object_covers number (object.WriteFull context bytes) permits h is = (under_own _ permits context permits.meets.under h is, raised_own _ permits number permits.meets.raised)
    object_covers number (object.Zero context must parts) permits h is = under_own _ permits context permits.meets.under h is
    object_covers number (object.Empty context) permits h is = (under_own _ permits context permits.meets.under h is, raised_own _ permits number permits.meets.raised)
    object_covers number (object.Remove context) permits h is = removal_covers number context permits h is
    object_covers number _ permits h is = elim permits [ ]

    -- a snapshot that comes next isn't listed yet
    put_unlisted : (snap : ℕ) (bits : List ℕ) → OwnsAlone k site image (MayPut (maps_of k.maps site image) snap bits) → (h : HeaderView) → r.headers image ≡ Some h → (s : SnapView)
        → snap_in h.snaps snap ≡ Some s → ⊥
    put_unlisted snap bits owns h is s at =
        let there = owned_there site r you k image _ t free owns in
        let same : h ≡ there.view = same_Some h there.view (sym is ∙ there.is) in
        let seq : h.snap_seq ≡ owns.header.snap_seq = ap (λ (v : HeaderView). v.snap_seq) (same ∙ there.still.same) in
        let numbered = ((here (snapshots_of f) (links_of f image) (r.headers image) (object_at r image) (image_at f image) h is (stands.images image)).stands.numbered.snap snap s at).1 in
        let next = owns.meets.1.next in
        omega (arith, numbered, next, seq)

    -- An object whose state becomes 0 isn't there.
    lowered : (number state : ℕ) → (owns : OwnsBy k site image (MaySet (objects_known_of k.objects site image) k.turn number state)) → state ≡ 0 → IsFalse (exists_at (object_at r image) None number)
    lowered number state owns zeroed =
        ap is_some ((t.objects free image owns.header (own_known k site image _ owns)).absent number (owns.meets.lowers zeroed))

    map_covers : (o : MapOp) → PermitsOnMap k site image o → (there : Option HeaderView) → r.headers image ≡ there → KeepsMapCover there (r.maps image) (object_at r image) o
    map_covers o permits None is = tt
    map_covers (states.Resize count) permits (Some h) is = λ none. absurd (true≢false (sym (views image h is).there.head ∙ ap is_some none))
    map_covers (states.Get view) permits (Some h) is = tt
    map_covers (states.Put (Some snap) bits) permits (Some h) is = λ shape at. let found = a_value shape_of_snap (snap_in h.snaps snap) shape at in absurd (put_unlisted snap bits permits h is found.0 found.1)
    map_covers (states.Set None object state) permits (Some h) is = lowered object state permits
    map_covers (states.Remove None) permits (Some h) is = tt
    map_covers (states.Remove (Some snap)) permits (Some h) is = tt
    map_covers _ permits (Some h) is = elim permits [ ]

    -- ---- and leaves each view a map

    made_views : (view : HeaderView) → MayMake k site image view → HasViews view (r.maps image)
    made_views view may =
        let count = may.mapped.count in
        let has : HasAtLeast count (r.maps image None) = subst (λ c. IsCountTrue c (r.maps image None)) may.mapped.known (t.counted image (inl may.drawn)) in
        record {
          there = record { head = ap is_some has.is; snap = λ n s at. absurd (none-some s (ap (λ snaps. snap_in snaps n) (sym may.new.snaps) ∙ at)) };
          room = record {
            head = λ x inside. let below = may.mapped.room x inside in let long = has.long in let len : map_len (r.maps image None) ≡ length has.there = ap map_len has.is in omega (arith, below, long, len);
            snap = λ n s at. absurd (none-some s (ap (λ snaps. snap_in snaps n) (sym may.new.snaps) ∙ at));
          };
          within = record { head = may.new.form.overlap; snap = λ n s at. absurd (none-some s (ap (λ snaps. snap_in snaps n) (sym may.new.snaps) ∙ at)) };
        }

    -- The head's map has the objects of a greater size before the size is set.
    sized_views : (to : ℕ) → OwnsAlone k site image (MaySize (maps_of k.maps site image) (objects_known_of k.objects site image) to) → (h : HeaderView) → r.headers image ≡ Some h
        → HasViews (with_size to h) (r.maps image)
    sized_views to owns h is = record {
      there = record { head = all.there.head; snap = all.there.snap };
      room = record { head = λ x inside. by x inside (cases_lt x h.size); snap = all.room.snap };
      within = record { head = cut_within to h.parent; snap = λ t s at. cut_stays to s.size h.parent (all.within.snap t s at) };
    }
      where
        all : HasViews h (r.maps image)
        all = views image h is

        same : h ≡ record owns.header { owner = h.owner }
        same =
            let there = owned_there site r you k image _ t free owns in
            let at : h ≡ there.view = same_Some h there.view (sym is ∙ there.is) in
            at ∙ there.still.exact (inl (alone_unshared owns.sharing owns.meets.0)) ∙ ap (λ (v : HeaderView). record owns.header { owner = v.owner }) (sym at)

        grown : (x : ℕ) → x < to → owns.header.size < to → object_of owns.header.layout x < map_len (r.maps image None)
        grown x inside more =
            let may = owns.meets.1.mapped more in
            let known = t.mapped free image (ap is_some (own_known k site image _ owns)) in
            let has : HasAtLeast may.count (r.maps image None) = subst (λ c. IsCountTrue c (r.maps image None)) may.known (known.count (ap is_own_alone owns.is ∙ ap is_alone owns.meets.0)) in
            let below = may.room x inside in
            let long = has.long in
            let len : map_len (r.maps image None) ≡ length has.there = ap map_len has.is in
            omega (arith, below, long, len)

        by : (x : ℕ) → x < to → (x < h.size) ⊎ (h.size ≤ x) → object_of h.layout x < map_len (r.maps image None)
        by x inside (inl within) = all.room.head x within
        by x inside (inr past) =
            let size : h.size ≡ owns.header.size = ap (λ (v : HeaderView). v.size) same in
            subst (λ (v : HeaderView). object_of v.layout x < map_len (r.maps image None)) (sym same) (grown x inside (omega (arith, inside, past, size)))

    header_views : (o : HeaderOp) → PermitsOnHeader k site image o → (there : Option HeaderView) → r.headers image ≡ there → (g : HeaderView) → header_after you there o ≡ Some g → HasViews g (r.maps image)
    header_views (header.Create view) permits None is g at = told_views (r.maps image) view g at (made_views view permits)
    header_views o permits None is g at = absurd (none-some g at)
    header_views header.Get permits (Some h) is g at = told_views (r.maps image) h g at (views image h is)
    header_views (header.Create view) permits (Some h) is g at = told_views (r.maps image) h g at (views image h is)
    header_views (header.SetSize to) permits (Some h) is g at = told_views (r.maps image) (with_size to h) g at (sized_views to permits h is)
    header_views header.Remove permits (Some h) is g at = absurd (none-some g at)
    header_views (header.SnapAdd name) permits (Some h) is g at =
        let all = views image h is in
        told_views (r.maps image) (cond (is_some (snap_named h.snaps name)) h (cond (is_full h) h (with_snap name h))) g at
        (either_views (r.maps image) (is_some (snap_named h.snaps name)) h (cond (is_full h) h (with_snap name h)) all
        (either_views (r.maps image) (is_full h) h (with_snap name h) all
        (record {
          there = each_added name h (λ p. p) (λ t s at p. p) (λ p. ap is_some (put_next name permits h is).is) all.there;
          room = each_added name h (λ p. p) (λ t s at p. p) (room_put (r.maps image) h (put_next name permits h is)) all.room;
          within = each_added name h (λ p. p) (λ t s at p. p) (λ p. p) all.within;
        })))
    header_views (header.SnapRemove snap) permits (Some h) is g at =
        let all = views image h is in
        told_views (r.maps image) (cond (is_some (snap_in h.snaps snap)) (without_snap snap h) h) g at
        (either_views (r.maps image) (is_some (snap_in h.snaps snap)) (without_snap snap h) h
        (record {
          there = each_removed snap h (λ p. p) (λ t s at other p. p) all.there;
          room = each_removed snap h (λ p. p) (λ t s at other p. p) all.room;
          within = each_removed snap h (λ p. p) (λ t s at other p. p) all.within;
        }) all)
    header_views (header.SnapStatus snap status) permits (Some h) is g at =
        let all = views image h is in
        told_views (r.maps image) (cond (is_some (snap_in h.snaps snap)) (with_status snap status h) h) g at
        (either_views (r.maps image) (is_some (snap_in h.snaps snap)) (with_status snap status h) h
        (record {
          there = each_marked snap status h (λ p. p) (λ t s at p. p) all.there;
          room = each_marked snap status h (λ p. p) (λ t s at p. p) all.room;
          within = each_marked snap status h (λ p. p) (λ t s at p. p) all.within;
        }) all)
    header_views header.LockTake permits (Some h) is g at =
        told_views (r.maps image) (record h { owner = cond (is_some h.owner) h.owner (Some you) }) g at (owner_views (r.maps image) h (cond (is_some h.owner) h.owner (Some you)) (views image h is))
    header_views header.LockDrop permits (Some h) is g at =
        let all = views image h is in
        told_views (r.maps image) (cond (is_owner you h.owner) (record h { owner = None }) h) g at
        (either_views (r.maps image) (is_owner you h.owner) (record h { owner = None }) h (owner_views (r.maps image) h None all) all)
    header_views (header.LockBreak owner) permits (Some h) is g at =
        let all = views image h is in
        told_views (r.maps image) (cond (is_owner owner h.owner) (record h { owner = None }) h) g at
        (either_views (r.maps image) (is_owner owner h.owner) (record h { owner = None }) h (owner_views (r.maps image) h None all) all)
    header_views header.Watch permits (Some h) is g at = told_views (r.maps image) h g at (views image h is)
    header_views header.Unwatch permits (Some h) is g at = told_views (r.maps image) h g at (views image h is)
    header_views header.WatchersGet permits (Some h) is g at = told_views (r.maps image) h g at (views image h is)
    header_views (header.Notify kind) permits (Some h) is g at = told_views (r.maps image) h g at (views image h is)
    header_views _ permits (Some h) is g at = elim permits [ ]

    left_views : (snap : ℕ) → PermitsOnMap k site image (states.Remove (Some snap)) → (h : HeaderView) → r.headers image ≡ Some h → HasViews h (maps_behind (r.maps image) (states.Remove (Some snap)))
    left_views snap (inl gone) h is = absurd (never_left gone h is)
    left_views snap (inr owns) h is =
        let there = owned_there site r you k image _ t free owns in
        let same : h ≡ there.view = same_Some h there.view (sym is ∙ there.is) in
        views_apart (r.maps image) h snap None (ap (λ (v : HeaderView). snap_in v.snaps snap) (same ∙ there.still.same) ∙ owns.meets.1) (views image h is)

    map_views : (o : MapOp) → PermitsOnMap k site image o → (h : HeaderView) → r.headers image ≡ Some h → HasViews h (maps_behind (r.maps image) o)
    map_views (states.Resize count) permits h is = views_lengthened (r.maps image) h count (views image h is)
    map_views (states.Get view) permits h is = views_again (r.maps image) (maps_behind (r.maps image) (states.Get view)) h (same_again (r.maps image) view) (views image h is)
    map_views (states.Put (Some snap) bits) permits h is =
        views_apart (r.maps image) h snap (Some (states_of bits (4 * length bits))) (unlisted (snap_in h.snaps snap) (put_unlisted snap bits permits h is)) (views image h is)
      where
        unlisted : (found : Option SnapView) → ((s : SnapView) → found ≡ Some s → ⊥) → found ≡ None
        unlisted None never = refl
        unlisted (Some s) never = absurd (never s refl)
    map_views (states.Set None object state) permits h is = views_set (r.maps image) h object state (views image h is)
    map_views (states.Remove None) permits h is = absurd (never_left permits.0 h is)
    map_views (states.Remove (Some snap)) permits h is = left_views snap permits h is
    map_views _ permits h is = elim permits [ ]

  keeps_cover : (o : Op) → Permits k site o → IsFalse (is_fenced r you) → KeepsCover r o
  keeps_cover (op.Directory o) permits free = tt
  keeps_cover (op.Children o) permits free = tt
  keeps_cover (op.BlockAdd i) permits free = tt
  keeps_cover (op.Header image o) permits free = header_covers free image o permits (r.headers image) refl
  keeps_cover (op.Data image number o) permits free = object_covers free image number o permits
  keeps_cover (op.Map image o) permits free = map_covers free image o permits (r.headers image) refl
  keeps_cover _ permits free = elim permits [ ]

  abbrev AllHaveViews : Records → Type 0
  AllHaveViews s = (image : ℕ) (h : HeaderView) → s.headers image ≡ Some h → HasViews h (s.maps image)

  served_views : IsFalse (is_fenced r you) → (o : Op) → Permits k site o → AllHaveViews (after_served r you o)
  served_views free (op.Directory o) permits = views
  served_views free (op.Children o) permits = views
  served_views free (op.BlockAdd i) permits = views
  served_views free (op.Data image number o) permits = views
  served_views free (op.Map image o) permits =
      each_image (λ i maps. (h : HeaderView) → r.headers i ≡ Some h → HasViews h maps) r you image o (map_views free image o permits) views
  served_views free (op.Header image o) permits = λ i g at. by i g (i == image) refl at
    where
      by : (i : ℕ) (g : HeaderView) (b : Bool) → (i == image) ≡ b → cond b (header_after you (r.headers image) o) (r.headers i) ≡ Some g → HasViews g (r.maps i)
      by i g true same at = subst (λ n. HasViews g (r.maps n)) (sym (eqb-true i image same)) (header_views free image o permits (r.headers image) refl g at)
      by i g false other at = views i g at
  served_views free _ permits = elim permits [ ]

  -- what is kept of an id that wasn't drawn has no state
  served_fresh : IsFalse (is_fenced r you) → (o : Op) → Permits k site o → (image : ℕ) → r.directory.drawn < image → HasNoStates ((after_served r you o).maps image None)
  served_fresh free (op.Directory o) permits image past = mapped.fresh image past
  served_fresh free (op.Children o) permits image past = mapped.fresh image past
  served_fresh free (op.BlockAdd i) permits image past = mapped.fresh image past
  served_fresh free (op.Header other o) permits image past = mapped.fresh image past
  served_fresh free (op.Data other number o) permits image past = mapped.fresh image past
  served_fresh free (op.Map other o) permits image past =
      none_there r you other o image (mapped.fresh image past) (λ same.
      none_raised site r k you t free other o permits (ap r.headers (sym same) ∙ (stands.fresh image past).header) (subst (λ i. HasNoStates (r.maps i None)) same (mapped.fresh image past)))
  served_fresh free _ permits image past = elim permits [ ]

  stays_fresh : (o : Op) → Permits k site o → (image : ℕ) → (after r you o).directory.drawn < image → HasNoStates ((after r you o).maps image None)
  stays_fresh o permits image past =
      let before : r.directory.drawn ≤ (after r you o).directory.drawn = where_fenced (λ s. r.directory.drawn ≤ s.directory.drawn) r you o (omega arith) (drawn_served r you o r.directory.drawn (omega arith)) in
      after_free (λ s. HasNoStates (s.maps image None)) r you o (mapped.fresh image (omega (arith, past, before))) (λ free. served_fresh free o permits image (omega (arith, past, before)))

  stays_mapped : (o : Op) → Permits k site o → AreMapped (after r you o)
  stays_mapped o permits = record {
    images = λ image h is.
        let all = after_free AllHaveViews r you o views (λ free. served_views free o permits) image h is in
        record {
          covered = cover_after [] r f you o stands covers (may_do site r you k most form mapped t o permits) (keeps_cover o permits) image h is;
          there = all.there;
          room = all.room;
          within = all.within;
        };
    fresh = λ image past. stays_fresh o permits image past;
  }

pub mapped_stays : (site : SiteId) (r : Records) (f : Flat) (k : Knowledge) (you : Instance) (o : Op) (most : ℕ) → StandsFor [] r f → AreInForm r most → AreMapped r → IsTrueAt site r you k
    → Permits k site o → AreMapped (after r you o)
mapped_stays site r f k you o most stands form mapped t permits = stays_mapped site r f k you most stands form mapped t o permits

-- ---- an empty site

pub none_mapped : AreMapped no_records
none_mapped = record { images = λ image h is. cc; fresh = λ image past object. refl }

-- ---- the store

pub mapped_trimmed : (r : Records) (image number : ℕ) → AreMapped r → AreMapped (trimmed image number r)
mapped_trimmed r image number mapped = record {
  images = λ i h is.
      let all = mapped.images i h is in
      record { covered = cover_trimmed r image number (λ n g at. (mapped.images n g at).covered) i h is; there = all.there; room = all.room; within = all.within };
  fresh = mapped.fresh;
}

pub mapped_expired : (r : Records) (image : ℕ) (i : Instance) → AreMapped r → AreMapped (expired image i r)
mapped_expired r image i mapped = record {
  images = λ n h is. let all = mapped.images n h is in record { covered = all.covered; there = all.there; room = all.room; within = all.within };
  fresh = mapped.fresh;
}
