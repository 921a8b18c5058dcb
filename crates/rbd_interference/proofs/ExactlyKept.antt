-- Maps that are exact but for what is owed stay so, by what is permitted.
use Rattle.std.proofs.Common.{◌≡◌, ◌≢◌, ◌⊎◌, inl, inr, ℕ, ◌+◌, ◌*◌, ◌≤◌, ◌==◌, ◌&&◌, cond, Bool, true, false, List, [], length, Option, Some, None, option_map, is_some, refl, sym, ap, ◌∙◌, subst, arith, true≢false}
use Rattle.std.specs.Prelude.{IsFalse}
use Rattle.std.proofs.lemmas.Bool.{and_from, eq-eqb, eqb-true, ne_eqb, and_right}
use Rattle.std.proofs.lemmas.Option.{none-some, same_Some}
use Rattle.rbd_kinds.specs.declared.answer.Answer.{Answer}
use Rattle.rbd_kinds.specs.declared.answer.Answer.TheVariants as answer
use Rattle.rbd_kinds.specs.declared.data_op.DataOp.{DataOp}
use Rattle.rbd_kinds.specs.declared.data_op.DataOp.TheVariants as object
use Rattle.rbd_kinds.specs.declared.header.HeaderView.{HeaderView}
use Rattle.rbd_kinds.specs.declared.header.SnapContext.{SnapContext}
use Rattle.rbd_kinds.specs.declared.header.SnapView.{SnapView}
use Rattle.rbd_kinds.specs.declared.header_op.HeaderOp.{HeaderOp}
use Rattle.rbd_kinds.specs.declared.header_op.HeaderOp.TheVariants as header
use Rattle.rbd_kinds.specs.declared.id.Instance.{Instance}
use Rattle.rbd_kinds.specs.declared.id.SiteId.{SiteId}
use Rattle.rbd_kinds.specs.declared.map_op.MapOp.{MapOp}
use Rattle.rbd_kinds.specs.declared.map_op.MapOp.TheVariants as states
use Rattle.rbd_kinds.specs.declared.operation.Op.{Op}
use Rattle.rbd_kinds.specs.declared.operation.Op.TheVariants as op
use Rattle.rbd_kinds.specs.declared.sharing.Sharing.{Sharing}
use Rattle.rbd_kinds.specs.Sharing.{is_alone}
use Rattle.rbd_kinds.specs.Header.{snap_named}
use Rattle.rbd_header.specs.Header.{context_of, is_full, snap_in, with_size, with_snap, with_status, without_snap}
use Rattle.rbd_machine.specs.Knowledge.{Knowledge, is_gone, maps_of, objects_known_of}
use Rattle.rbd_machine.specs.Permits.{HasState, Permits, PermitsOnHeader, PermitsOnMap, PermitsOnObject, OwnsAlone, OwnsBy, MayPut, MaySet, MayTakeSnap}
use Rattle.rbd_map.specs.States.{states_of}
use Rattle.rbd_object.specs.Mapped.{Mapped, versioned, mapped_change, mapped_trim}
use Rattle.rbd_object.specs.Kept.{is_listed}
use Rattle.rbd_object.specs.Versioned.{view}
use Rattle.rbd_flat.specs.Flat.{Flat, image_at}
use Rattle.rbd_site.specs.DataStep.{data_after, data_change, finds, parts_read, where_object_done}
use Rattle.rbd_site.specs.Found.{done_where}
use Rattle.rbd_site.specs.HeaderStep.{header_after, is_owner}
use Rattle.rbd_site.specs.InForm.{AreInForm}
use Rattle.rbd_site.specs.Log.{expired, live_in, trimmed}
use Rattle.rbd_site.specs.Records.{Records, no_records, object_at, or_blank, put, with_object}
use Rattle.rbd_site.specs.Step.{is_fenced, after, after_served}
use Rattle.rbd_stands.specs.Condition.{IsContextOf}
use Rattle.rbd_stands.specs.Covering.{exists_at}
use Rattle.rbd_stands.specs.Shown.{links_of, snapshots_of}
use Rattle.rbd_stands.specs.Site.{StandsFor}
use Rattle.rbd_stands.proofs.Contexts.{reversed_context}
use Rattle.rbd_stands.proofs.ObjectSteps.{put_both}
use Rattle.rbd_stands.proofs.SiteSteps.{Here, here}
use Rattle.rbd_stands.proofs.StoreSteps.{listed_by_id, view_trimmed}
use Rattle.rbd_interference.specs.Truth.{AreMapped, IsPutAs, IsTrueAt, is_own_alone, map_state_in}
use Rattle.rbd_interference.proofs.Headers.{own_known, owned_there}
use Rattle.rbd_interference.proofs.MapsBehind.{at_each, maps_behind, maps_here, maps_there, same_again}
use Rattle.rbd_interference.proofs.MapsLearned.{within_map}
use Rattle.rbd_interference.proofs.States.{lengthened_state}
use Rattle.rbd_interference.specs.Exact.{AreExactBut, KeepsWhatIsOwed, IsExactBut, makes_object, sets_state}
use Rattle.rbd_interference.specs.Owed.{makes}
use Rattle.rbd_interference.proofs.Exactly.{AreMore, exact_added, exact_again, exact_changed, exact_either, exact_head, exact_made, exact_marked, exact_more, exact_next, exact_owned, exact_removed, exact_set, exact_shown, exact_sized, exact_still, exact_told, exact_unlisted, exact_written}

-- ---- an empty site

pub none_exact : (owed : (image number state : ℕ) → Type 0) → IsExactBut owed no_records
none_exact owed = record { images = λ image h is. cc }

-- ---- an object is changed

pub same_owed : (owed : ℕ → Type 0) → AreMore owed owed
same_owed owed = record { made = λ is. is; lowered = λ is. is }

-- What is owed of the other images stays so.
one_object : (r : Records) (owed later : (image number state : ℕ) → Type 0) (image number : ℕ) (object : Option Mapped)
    → ((i n : ℕ) → i ≢ image → AreMore (owed i n) (later i n))
    → ((h : HeaderView) → r.headers image ≡ Some h → AreExactBut (later image) h (r.maps image) (λ n. or_blank (put (r.objects image) number object n)))
    → IsExactBut owed r → IsExactBut later (with_object image number object r)
one_object r owed later image number object more here exact = record {
  images = put_both (λ i (objects : ℕ → Option Mapped). (h : HeaderView) → r.headers i ≡ Some h → AreExactBut (later i) h (r.maps i) (λ n. or_blank (objects n)))
      r.objects image (put (r.objects image) number object) here
      (λ i other h is. exact_more (owed i) (later i) h (r.maps i) (object_at r i) (λ n. more i n other) (exact.images i h is));
}

-- ---- the store

pub exact_trimmed : (r : Records) (image number : ℕ) (owed : (image number state : ℕ) → Type 0) → IsExactBut owed r → IsExactBut owed (trimmed image number r)
exact_trimmed r image number owed exact =
    one_object r owed owed image number (option_map (mapped_trim (live_in (r.headers image))) (r.objects image number)) (λ i n other. same_owed (owed i n))
    (λ h is. exact_shown (owed image) (owed image) h (r.maps image) (r.objects image) number (option_map (mapped_trim (live_in (r.headers image))) (r.objects image number))
    (same_head (r.objects image number)) (λ t s at. same_view h is t s at (r.objects image number)) (λ n. same_owed (owed image n)) (exact.images image h is))
    exact
  where
    same_head : (o : Option Mapped) → is_some (or_blank (option_map (mapped_trim (live_in (r.headers image))) o)).head ≡ is_some (or_blank o).head
    same_head None = refl
    same_head (Some o) = refl

    same_view : (h : HeaderView) → r.headers image ≡ Some h → (t : ℕ) (s : SnapView) → snap_in h.snaps t ≡ Some s → (o : Option Mapped)
        → view (versioned (or_blank (option_map (mapped_trim (live_in (r.headers image))) o))) (Some t) ≡ view (versioned (or_blank o)) (Some t)
    same_view h is t s at None = refl
    same_view h is t s at (Some o) = view_trimmed (live_in (r.headers image)) t o (ap (λ header. is_listed (live_in header) t) is ∙ listed_by_id h.snaps t s at)

pub exact_expired : (r : Records) (image : ℕ) (i : Instance) (owed : (image number state : ℕ) → Type 0) → IsExactBut owed r → IsExactBut owed (expired image i r)
exact_expired r image i owed exact = record { images = exact.images }

-- ---- what an operation doesn't do

-- it is another number
differs : (n other : ℕ) → other ≢ n → (n == other) ≡ false
differs n other apart = ne_eqb n other (λ same. apart (sym same))

-- an object is made of one image, and is one object
unmade_there : (image number i n : ℕ) (o : DataOp) → i ≢ image → makes_object i n (op.Data image number o) ≡ false
unmade_there image number i n o apart = and_right (makes o) ((image == i) && (number == n)) (ap (λ b. b && (number == n)) (differs image i apart))

unmade_beside : (image number n : ℕ) (o : DataOp) → n ≢ number → makes_object image n (op.Data image number o) ≡ false
unmade_beside image number n o apart = and_right (makes o) ((image == image) && (number == n)) (and_right (image == image) (number == n) (differs number n apart))

-- and so with a state
unset_there : (image i n : ℕ) (o : MapOp) → i ≢ image → sets_state i n 0 (op.Map image o) ≡ false
unset_there image i n (states.Set None object state) apart = ap (λ b. b && ((object == n) && (state == 0))) (differs image i apart)
unset_there image i n (states.Set (Some snap) object state) apart = refl
unset_there image i n o apart = refl

unset_beside : (image object state n : ℕ) → n ≢ object → sets_state image n 0 (op.Map image (states.Set None object state)) ≡ false
unset_beside image object state n apart = and_right (image == image) ((object == n) && (state == 0)) (ap (λ b. b && (state == 0)) (differs object n apart))

itself : (n : ℕ) → (n == n) ≡ true
itself n = eq-eqb n n refl

-- ---- what is permitted

module _ (site : SiteId) (r : Records) (f : Flat) (k : Knowledge) (you : Instance) (most : ℕ) (owed later : (image number state : ℕ) → Type 0)
    (stands : StandsFor [] r f) (form : AreInForm r most) (mapped : AreMapped r) (t : IsTrueAt site r you k) (free : IsFalse (is_fenced r you)) (exact : IsExactBut owed r) where
  -- what is owed of an object stays so, where it isn't made and its state isn't set to 0
  still_owed : (o : Op) → KeepsWhatIsOwed r.headers o owed later → (image number : ℕ) → makes_object image number o ≡ false → sets_state image number 0 o ≡ false
      → AreMore (owed image number) (later image number)
  still_owed o goes image number unmade unset = record { made = λ was. by (makes_object image number o) unmade (goes.made image number was); lowered = λ was. by (sets_state image number 0 o) unset (goes.lowered image number was) }
    where
      by : {A : Type 0} (b : Bool) → b ≡ false → A ⊎ (b ≡ true) → A
      by b other (inl stays) = stays
      by b other (inr does) = absurd (true≢false (sym does ∙ other))

  still : (o : Op) → KeepsWhatIsOwed r.headers o owed later → ((image number : ℕ) → makes_object image number o ≡ false) → ((image number : ℕ) → sets_state image number 0 o ≡ false) → IsExactBut later r
  still o goes unmade unset = record {
    images = λ i h is. exact_more (owed i) (later i) h (r.maps i) (object_at r i) (λ n. still_owed o goes i n (unmade i n) (unset i n)) (exact.images i h is);
  }

  module _ (image : ℕ) where
    there : (h : HeaderView) → r.headers image ≡ Some h → Here (snapshots_of f) (links_of f image) h (object_at r image) (image_at f image)
    there h is = here (snapshots_of f) (links_of f image) (r.headers image) (object_at r image) (image_at f image) h is (stands.images image)

    -- the header is the own one, but for the owner, and for what a flatten changes
    own_header : (condition : Sharing → HeaderView → Type 0) (owns : OwnsBy k site image condition) (h : HeaderView) → r.headers image ≡ Some h → h ≡ record owns.header { owner = h.owner; generation = h.generation; parent = h.parent }
    own_header condition owns h is =
        let found = owned_there site r you k image condition t free owns in
        subst (λ (v : HeaderView). v ≡ record owns.header { owner = v.owner; generation = v.generation; parent = v.parent })
        (sym (same_Some h found.view (sym is ∙ found.is))) found.still.same

    -- ---- a header is changed

    put_next : (name : List ℕ) → OwnsAlone k site image (MayTakeSnap (maps_of k.maps site image) name) → (h : HeaderView) → r.headers image ≡ Some h
        → IsPutAs (r.maps image (Some (h.snap_seq + 1))) (r.maps image None)
    put_next name owns h is =
        subst (λ n. IsPutAs (r.maps image (Some (n + 1))) (r.maps image None)) (sym (ap (λ (v : HeaderView). v.snap_seq) (own_header _ owns h is)))
        ((t.mapped free image (ap is_some (own_known k site image _ owns))).put (ap is_own_alone owns.is ∙ ap is_alone owns.meets.0) (owns.header.snap_seq + 1) owns.meets.1.put)

    next_taken : (name : List ℕ) → OwnsAlone k site image (MayTakeSnap (maps_of k.maps site image) name) → ((n state : ℕ) → owed image n state → ⊥) → IsExactBut later r
        → (h : HeaderView) → r.headers image ≡ Some h → AreExactBut (later image) (with_snap name h) (r.maps image) (object_at r image)
    next_taken name owns unowed s h is =
        exact_added (later image) (r.maps image) (object_at r image) name h
        (exact_next h (r.maps image) (object_at r image) (there h is).stands.seen (put_next name owns h is)
        (exact_head (owed image) h (r.maps image) (object_at r image) unowed (exact.images image h is)))
        (s.images image h is)

    module _ (s : IsExactBut later r) (h : HeaderView) (is : r.headers image ≡ Some h) (g : HeaderView) where
      unchanged : Some h ≡ Some g → AreExactBut (later image) g (r.maps image) (object_at r image)
      unchanged at = exact_told (later image) (r.maps image) (object_at r image) h g at (s.images image h is)

      unowned : (left : Bool) → Some (cond left (record h { owner = None }) h) ≡ Some g → AreExactBut (later image) g (r.maps image) (object_at r image)
      unowned left at =
          let all = s.images image h is in
          exact_told (later image) (r.maps image) (object_at r image) (cond left (record h { owner = None }) h) g at
          (exact_either (later image) (r.maps image) (object_at r image) left (record h { owner = None }) h (exact_owned (later image) (r.maps image) (object_at r image) h None all) all)

    header_exact : (o : HeaderOp) → PermitsOnHeader k site image o → KeepsWhatIsOwed r.headers (op.Header image o) owed later → IsExactBut later r
        → (there : Option HeaderView) → r.headers image ≡ there → (g : HeaderView) → header_after you there o ≡ Some g → AreExactBut (later image) g (r.maps image) (object_at r image)
    header_exact (header.Create made) permits goes s None is g at =
        exact_told (later image) (r.maps image) (object_at r image) made g at
        (exact_made (later image) (r.maps image) (object_at r image) made permits.new.snaps (t.drawn image permits.drawn).blank (t.drawn image permits.drawn).unraised)
    header_exact o permits goes s None is g at = absurd (none-some g at)
    header_exact (header.SnapAdd name) permits goes s (Some h) is g at =
        let all = s.images image h is in
        exact_told (later image) (r.maps image) (object_at r image) (cond (is_some (snap_named h.snaps name)) h (cond (is_full h) h (with_snap name h))) g at
        (exact_either (later image) (r.maps image) (object_at r image) (is_some (snap_named h.snaps name)) h (cond (is_full h) h (with_snap name h)) all
        (exact_either (later image) (r.maps image) (object_at r image) (is_full h) h (with_snap name h) all
        (next_taken name permits (λ n state. goes.free image n state (itself image)) s h is)))
    header_exact (header.SnapRemove snap) permits goes s (Some h) is g at =
        let all = s.images image h is in
        exact_told (later image) (r.maps image) (object_at r image) (cond (is_some (snap_in h.snaps snap)) (without_snap snap h) h) g at
        (exact_either (later image) (r.maps image) (object_at r image) (is_some (snap_in h.snaps snap)) (without_snap snap h) h
        (exact_removed (later image) (r.maps image) (object_at r image) snap h all) all)
    header_exact (header.SnapStatus snap status) permits goes s (Some h) is g at =
        let all = s.images image h is in
        exact_told (later image) (r.maps image) (object_at r image) (cond (is_some (snap_in h.snaps snap)) (with_status snap status h) h) g at
        (exact_either (later image) (r.maps image) (object_at r image) (is_some (snap_in h.snaps snap)) (with_status snap status h) h
        (exact_marked (later image) (r.maps image) (object_at r image) snap status h all) all)
    header_exact (header.SetSize to) permits goes s (Some h) is g at =
        exact_told (later image) (r.maps image) (object_at r image) (with_size to h) g at (exact_sized (later image) (r.maps image) (object_at r image) to h (s.images image h is))
    header_exact header.Remove permits goes s (Some h) is g at = absurd (none-some g at)
    header_exact header.LockTake permits goes s (Some h) is g at =
        exact_told (later image) (r.maps image) (object_at r image) (record h { owner = cond (is_some h.owner) h.owner (Some you) }) g at
        (exact_owned (later image) (r.maps image) (object_at r image) h (cond (is_some h.owner) h.owner (Some you)) (s.images image h is))
    header_exact header.LockDrop permits goes s (Some h) is g at = unowned s h is g (is_owner you h.owner) at
    header_exact (header.LockBreak owner) permits goes s (Some h) is g at = unowned s h is g (is_owner owner h.owner) at
    header_exact header.Get permits goes s (Some h) is g at = unchanged s h is g at
    header_exact (header.Create made) permits goes s (Some h) is g at = unchanged s h is g at
    header_exact header.Watch permits goes s (Some h) is g at = unchanged s h is g at
    header_exact header.Unwatch permits goes s (Some h) is g at = unchanged s h is g at
    header_exact header.WatchersGet permits goes s (Some h) is g at = unchanged s h is g at
    header_exact (header.Notify kind) permits goes s (Some h) is g at = unchanged s h is g at
    header_exact _ permits goes s (Some h) is g at = elim permits [ ]

    -- ---- an object is changed

    -- whoever removed the header of an image knows that it has none
    unheaded : {A : Type 0} → is_gone k.gone site image ≡ true → (h : HeaderView) → r.headers image ≡ Some h → A
    unheaded gone h is = absurd (none-some h (sym (t.gone image gone).header ∙ is))

    module _ (number : ℕ) where
      unread : (a : Answer) (o : Option Mapped) → or_blank (where_object_done a (or_blank o) o) ≡ or_blank o
      unread answer.Done o = refl
      unread a o = refl

      -- of the other images it stays as it is
      elsewhere : (o : DataOp) → KeepsWhatIsOwed r.headers (op.Data image number o) owed later → (i n : ℕ) → i ≢ image → AreMore (owed i n) (later i n)
      elsewhere o goes i n apart = still_owed (op.Data image number o) goes i n (unmade_there image number i n o apart) refl

      -- and of the other objects
      beside : (o : DataOp) → KeepsWhatIsOwed r.headers (op.Data image number o) owed later → (n : ℕ) → n ≢ number → AreMore (owed image n) (later image n)
      beside o goes n apart = still_owed (op.Data image number o) goes image n (unmade_beside image number n o apart) refl

      -- where it makes none, of all
      unmade : (o : DataOp) → makes o ≡ false → KeepsWhatIsOwed r.headers (op.Data image number o) owed later → (n : ℕ) → AreMore (owed image n) (later image n)
      unmade o none goes n = still_owed (op.Data image number o) goes image n (ap (λ b. b && ((image == image) && (number == n))) none) refl

      goes_still : (o : DataOp) → KeepsWhatIsOwed r.headers (op.Data image number o) owed later → owed image number 2 → later image number 2
      goes_still o goes was = by (goes.lowered image number was)
        where
          by : later image number 2 ⊎ (false ≡ true) → later image number 2
          by (inl stays) = stays
          by (inr does) = absurd (true≢false (sym does))

      -- what an owner changes under its own header
      module _ (condition : Sharing → HeaderView → Type 0) (owns : OwnsBy k site image condition) (context : SnapContext) (under : context ≡ context_of owns.header)
          (h : HeaderView) (is : r.headers image ≡ Some h) where
        context_is : IsContextOf h context
        context_is = subst (IsContextOf h) (ap context_of (own_header condition owns h is) ∙ sym under) (reversed_context h)

        raised_is : HasState (maps_of k.maps site image) number → map_state_in (r.maps image None) number ≢ 0
        raised_is has = (t.mapped free image (ap is_some (own_known k site image condition owns))).raised None number has

        numbered_is : (n : ℕ) (s : SnapView) → snap_in h.snaps n ≡ Some s → n ≤ h.snap_seq
        numbered_is n s at = ((there h is).stands.numbered.snap n s at).1

        abbrev behind : Option (List ℕ) → Type 0
        behind new = AreExactBut (later image) h (r.maps image) (λ n. or_blank (put (r.objects image) number (Some (mapped_change context new (object_at r image number))) n))

        made_exact : (o : DataOp) (bytes : List ℕ) → KeepsWhatIsOwed r.headers (op.Data image number o) owed later → HasState (maps_of k.maps site image) number → behind (Some bytes)
        made_exact o bytes goes has =
            exact_written (owed image) (later image) h (r.maps image) (r.objects image) number context bytes
            ((there h is).stands.tidy number) numbered_is context_is (raised_is has) (goes_still o goes) (beside o goes) (exact.images image h is)

        still_exact : (o : DataOp) (new : Option (List ℕ)) → makes o ≡ false → KeepsWhatIsOwed r.headers (op.Data image number o) owed later → is_some new ≡ is_some (object_at r image number).head → behind new
        still_exact o new none goes same =
            exact_still (owed image) (later image) h (r.maps image) (r.objects image) number context new
            ((there h is).stands.tidy number) numbered_is context_is (exact.images image h is) same (unmade o none goes)

        gone_exact : KeepsWhatIsOwed r.headers (op.Data image number (object.Remove context)) owed later → behind None
        gone_exact goes =
            exact_changed (owed image) (later image) h (r.maps image) (r.objects image) number context None
            ((there h is).stands.tidy number) numbered_is context_is (exact.images image h is)
            (inr (inr (goes.gone image number h (and_from (image == image) (number == number) (itself image) (itself number)) is))) (beside (object.Remove context) goes)

      -- where a change has to find the object
      found_exact : (o : DataOp) → makes o ≡ false → KeepsWhatIsOwed r.headers (op.Data image number o) owed later → (changed : Mapped) (h : HeaderView) → r.headers image ≡ Some h
          → AreExactBut (later image) h (r.maps image) (λ n. or_blank (put (r.objects image) number (Some changed) n)) → (found : Bool)
          → AreExactBut (later image) h (r.maps image) (λ n. or_blank (put (r.objects image) number (where_object_done (done_where found) changed (r.objects image number)) n))
      found_exact o none goes changed h is done true = done
      found_exact o none goes changed h is done false =
          exact_shown (owed image) (later image) h (r.maps image) (r.objects image) number (r.objects image number) refl (λ t s at. refl) (unmade o none goes) (exact.images image h is)

      same_there : (change : List ℕ → List ℕ) (head : Option (List ℕ)) → is_some (option_map change head) ≡ is_some head
      same_there change None = refl
      same_there change (Some bytes) = refl

      object_exact : (o : DataOp) → PermitsOnObject k site image number o → KeepsWhatIsOwed r.headers (op.Data image number o) owed later → (h : HeaderView) → r.headers image ≡ Some h
          → AreExactBut (later image) h (r.maps image) (λ n. or_blank (put (r.objects image) number (data_after (r.objects image number) o) n))
      object_exact (object.Read snap parts) permits goes h is =
          let same = unread (parts_read parts (view (versioned (object_at r image number)) snap)) (r.objects image number) in
          exact_shown (owed image) (later image) h (r.maps image) (r.objects image) number (data_after (r.objects image number) (object.Read snap parts))
          (ap (λ (o : Mapped). is_some o.head) same) (λ t s at. ap (λ o. view (versioned o) (Some t)) same) (unmade (object.Read snap parts) refl goes) (exact.images image h is)
      object_exact (object.Write context false parts bytes) permits goes h is =
          made_exact _ permits context permits.meets.under h is (object.Write context false parts bytes) _ goes permits.meets.raised
      object_exact (object.Write context true parts bytes) permits goes h is =
          by (object_at r image number).head refl
        where
          o : DataOp
          o = object.Write context true parts bytes

          changed : Mapped
          changed = data_change (object_at r image number) o

          by : (head : Option (List ℕ)) → (object_at r image number).head ≡ head
              → AreExactBut (later image) h (r.maps image) (λ n. or_blank (put (r.objects image) number (where_object_done (done_where (is_some head)) changed (r.objects image number)) n))
          by (Some there) at = still_exact _ permits context permits.meets.under h is o _ refl goes (sym (ap is_some at))
          by None at =
              exact_shown (owed image) (later image) h (r.maps image) (r.objects image) number (r.objects image number) refl (λ t s at. refl) (unmade o refl goes) (exact.images image h is)
      object_exact (object.WriteFull context bytes) permits goes h is = made_exact _ permits context permits.meets.under h is (object.WriteFull context bytes) bytes goes permits.meets.raised
      object_exact (object.Zero context must parts) permits goes h is =
          found_exact (object.Zero context must parts) refl goes (data_change (object_at r image number) (object.Zero context must parts)) h is
          (still_exact _ permits context permits.meets.under h is (object.Zero context must parts) _ refl goes (same_there _ (object_at r image number).head))
          (finds must (object_at r image number))
      object_exact (object.Empty context) permits goes h is = made_exact _ permits context permits.meets.under h is (object.Empty context) [] goes permits.meets.raised
      object_exact (object.Remove context) (inl left) goes h is = unheaded left.gone h is
      object_exact (object.Remove context) (inr owns) goes h is = gone_exact _ owns context owns.meets.under h is goes
      object_exact _ permits goes h is = elim permits [ ]

    -- ---- a map is changed

    -- a snapshot that comes next isn't listed yet
    put_unlisted : (snap : ℕ) (bits : List ℕ) → OwnsAlone k site image (MayPut (maps_of k.maps site image) snap bits) → (h : HeaderView) → r.headers image ≡ Some h
        → (s : SnapView) → snap_in h.snaps snap ≡ Some s → ⊥
    put_unlisted snap bits owns h is s at =
        let seq : h.snap_seq ≡ owns.header.snap_seq = ap (λ (v : HeaderView). v.snap_seq) (own_header _ owns h is) in
        let numbered = ((there h is).stands.numbered.snap snap s at).1 in
        let next = owns.meets.1.next in
        omega (arith, numbered, next, seq)

    -- what is set to 0 isn't there
    absent_is : (number state : ℕ) → OwnsBy k site image (MaySet (objects_known_of k.objects site image) k.turn number state) → state ≡ 0 → exists_at (object_at r image) None number ≡ false
    absent_is number state owns zeroed =
        ap is_some ((t.objects free image owns.header (own_known k site image _ owns)).absent number (owns.meets.lowers zeroed))

    set_exact : (number state : ℕ) → OwnsBy k site image (MaySet (objects_known_of k.objects site image) k.turn number state) → KeepsWhatIsOwed r.headers (op.Map image (states.Set None number state)) owed later
        → (h : HeaderView) → r.headers image ≡ Some h → AreExactBut (later image) h (maps_behind (r.maps image) (states.Set None number state)) (object_at r image)
    set_exact number state owns goes h is =
        exact_set (owed image) (later image) h (r.maps image) (object_at r image) number state
        (within_map site r you k most form mapped t free image number state owns (r.maps image None) refl) owns.meets.is_state (absent_is number state owns)
        (λ some. goes.new image number state
        (and_from (image == image) ((number == number) && (state == state)) (itself image) (and_from (number == number) (state == state) (itself number) (itself state))) some)
        (λ n apart. still_owed (op.Map image (states.Set None number state)) goes image n refl (unset_beside image number state n apart))
        (exact.images image h is)

    -- where no state is set
    unset_exact : (o : MapOp) → KeepsWhatIsOwed r.headers (op.Map image o) owed later → ((n : ℕ) → sets_state image n 0 (op.Map image o) ≡ false) → (h : HeaderView) → r.headers image ≡ Some h
        → AreExactBut (later image) h (r.maps image) (object_at r image)
    unset_exact o goes unset h is =
        exact_more (owed image) (later image) h (r.maps image) (object_at r image) (λ n. still_owed (op.Map image o) goes image n refl (unset n)) (exact.images image h is)

    lengthened_alike : (count : ℕ) (v : Option ℕ) (n : ℕ) → map_state_in (maps_behind (r.maps image) (states.Resize count) v) n ≡ map_state_in (r.maps image v) n
    lengthened_alike count None n = lengthened_state (r.maps image None) count n
    lengthened_alike count (Some t) n = refl

    map_exact : (o : MapOp) → PermitsOnMap k site image o → KeepsWhatIsOwed r.headers (op.Map image o) owed later → (h : HeaderView) → r.headers image ≡ Some h
        → AreExactBut (later image) h (maps_behind (r.maps image) o) (object_at r image)
    map_exact (states.Resize count) permits goes h is =
        exact_again (later image) (r.maps image) (object_at r image) h (maps_behind (r.maps image) (states.Resize count)) (lengthened_alike count) (unset_exact (states.Resize count) goes (λ n. refl) h is)
    map_exact (states.Get view) permits goes h is =
        exact_again (later image) (r.maps image) (object_at r image) h (maps_behind (r.maps image) (states.Get view)) (λ v n. ap (λ map. map_state_in map n) (same_again (r.maps image) view v))
        (unset_exact (states.Get view) goes (λ n. refl) h is)
    map_exact (states.Put (Some snap) bits) permits goes h is =
        exact_unlisted (later image) (r.maps image) (object_at r image) h snap (Some (states_of bits (4 * length bits))) (put_unlisted snap bits permits h is)
        (unset_exact (states.Put (Some snap) bits) goes (λ n. refl) h is)
    map_exact (states.Set None object state) permits goes h is = set_exact object state permits goes h is
    map_exact (states.Remove None) permits goes h is = unheaded permits.0.gone h is
    map_exact (states.Remove (Some snap)) (inl left) goes h is = unheaded left.gone h is
    map_exact (states.Remove (Some snap)) (inr owns) goes h is =
        exact_unlisted (later image) (r.maps image) (object_at r image) h snap None
        (λ v at. none-some v (sym (ap (λ (w : HeaderView). snap_in w.snaps snap) (own_header _ owns h is) ∙ owns.meets.1) ∙ at))
        (unset_exact (states.Remove (Some snap)) goes (λ n. refl) h is)
    map_exact _ permits goes h is = elim permits [ ]

  -- ---- any operation

  served_exact : (o : Op) → Permits k site o → KeepsWhatIsOwed r.headers o owed later → IsExactBut later (after_served r you o)
  served_exact (op.Directory o) permits goes = let s = still (op.Directory o) goes (λ i n. refl) (λ i n. refl) in record { images = s.images }
  served_exact (op.Children o) permits goes = let s = still (op.Children o) goes (λ i n. refl) (λ i n. refl) in record { images = s.images }
  served_exact (op.BlockAdd i) permits goes = let s = still (op.BlockAdd i) goes (λ i n. refl) (λ i n. refl) in record { images = s.images }
  served_exact (op.Header image o) permits goes = record { images = λ i g at. by i g (i == image) refl at }
    where
      s : IsExactBut later r
      s = still (op.Header image o) goes (λ i n. refl) (λ i n. refl)

      by : (i : ℕ) (g : HeaderView) (b : Bool) → (i == image) ≡ b → cond b (header_after you (r.headers image) o) (r.headers i) ≡ Some g → AreExactBut (later i) g (r.maps i) (object_at r i)
      by i g true same at = subst (λ n. AreExactBut (later n) g (r.maps n) (object_at r n)) (sym (eqb-true i image same)) (header_exact image o permits goes s (r.headers image) refl g at)
      by i g false other at = s.images i g at
  served_exact (op.Data image number o) permits goes =
      one_object r owed later image number (data_after (r.objects image number) o) (elsewhere image number o goes) (object_exact image number o permits goes) exact
  served_exact (op.Map image o) permits goes = record {
    images = at_each (λ i. (h : HeaderView) → r.headers i ≡ Some h → AreExactBut (later i) h ((after_served r you (op.Map image o)).maps i) (object_at r i)) image
        (λ h is. subst (λ maps. AreExactBut (later image) h maps (object_at r image)) (sym (maps_here r you image o)) (map_exact image o permits goes h is))
        (λ i apart h is.
        subst (λ maps. AreExactBut (later i) h maps (object_at r i)) (sym (maps_there r you image o i apart))
        (exact_more (owed i) (later i) h (r.maps i) (object_at r i) (λ n. still_owed (op.Map image o) goes i n refl (unset_there image i n o apart)) (exact.images i h is)));
  }
  served_exact _ permits goes = elim permits [ ]

pub exact_stays : (site : SiteId) (r : Records) (f : Flat) (k : Knowledge) (you : Instance) (o : Op) (most : ℕ) (owed later : (image number state : ℕ) → Type 0)
    → StandsFor [] r f → AreInForm r most → AreMapped r → IsTrueAt site r you k → Permits k site o → IsFalse (is_fenced r you)
    → KeepsWhatIsOwed r.headers o owed later → IsExactBut owed r → IsExactBut later (after r you o)
exact_stays site r f k you o most owed later stands form mapped t permits free goes exact =
    subst (λ b. IsExactBut later (cond b r (after_served r you o))) (sym free) (served_exact site r f k you most owed later stands form mapped t free exact o permits goes)
