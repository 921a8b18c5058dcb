-- Maps of one image that cover its objects, after a change of an object, of the header or of a map.
use Rattle.std.proofs.Common.{◌≡◌, ℕ, ◌+◌, ◌*◌, ◌<◌, ◌≤◌, Bool, true, false, cond, ltb, ◌⊎◌, inl, inr, List, [], length, get_or, set, Option, Some, None, option_map, is_some, unwrap_or, refl, sym, ◌∙◌, ap, subst, arith, true≢false}
use Rattle.std.proofs.lemmas.Bool.{cases_eq, cases_lt, lt-ltb}
use Rattle.std.proofs.lemmas.List.{get_or_past, get_or_append_left, get_or-set_same, get_or-set_other}
use Rattle.std.proofs.lemmas.Option.{none-some, same_Some}
use Rattle.std.specs.FinMap as finmap
use Rattle.std.specs.Ordering.{nat_cmp}
use Rattle.rbd_kinds.specs.declared.data_op.DataOp.{DataOp}
use Rattle.rbd_kinds.specs.declared.data_op.DataOp.TheVariants as data_op
use Rattle.rbd_kinds.specs.declared.header.HeaderView.{HeaderView}
use Rattle.rbd_kinds.specs.declared.header.SnapContext.{SnapContext}
use Rattle.rbd_kinds.specs.declared.header.SnapView.{SnapView}
use Rattle.rbd_kinds.specs.declared.header_op.HeaderOp.{HeaderOp}
use Rattle.rbd_kinds.specs.declared.header_op.HeaderOp.TheVariants as header_op
use Rattle.rbd_kinds.specs.declared.id.Instance.{Instance}
use Rattle.rbd_kinds.specs.declared.map_op.MapOp.{MapOp}
use Rattle.rbd_kinds.specs.declared.map_op.MapOp.TheVariants as map_op
use Rattle.rbd_kinds.specs.Header.{snap_named}
use Rattle.rbd_map.specs.Covers.{Covers}
use Rattle.rbd_map.specs.States.{states_of}
use Rattle.rbd_header.specs.Header.{is_full, snap_in, with_size, with_snap, with_status, without_snap}
use Rattle.rbd_object.specs.Mapped.{Mapped, versioned, mapped_blank, mapped_change, mapped_copy_up}
use Rattle.rbd_parts.specs.Parts.{parts_written, parts_zeroed}
use Rattle.rbd_object.specs.Versioned.{IsTidy, view}
use Rattle.rbd_object.proofs.MappedLemmas.{looked-mapped_change}
use Rattle.rbd_object.proofs.StepLemmas.{view-change}
use Rattle.rbd_site.specs.DataStep.{data_change}
use Rattle.rbd_site.specs.HeaderStep.{header_after, is_owner, there_after, where_made}
use Rattle.rbd_kinds.specs.Maps.{map_snap}
use Rattle.rbd_site.specs.MapStep.{MayDoOnMap, lengthened, map_after}
use Rattle.rbd_stands.specs.Condition.{IsContextOf}
use Rattle.rbd_stands.specs.Covering.{AreCovered, IsCovered, IsRaised, KeepsDataCover, KeepsHeaderCover, KeepsMapCover, Maps, exists_at}
use Rattle.rbd_stands.specs.View.{EachView, Shape, shape_of, shape_of_head, shape_of_snap}
use Rattle.rbd_stands.proofs.Lookups.{a_value}
use Rattle.rbd_stands.proofs.Views.{each_added, each_marked, each_removed}

-- ---- one map

-- An object that is there afterwards was there before, or its state was raised.
pub covered_later : (held : Option (List ℕ)) (exists later : ℕ → Bool) → IsCovered held exists
    → ((n : ℕ) → later n ≡ true → IsRaised held n ⊎ (exists n ≡ true)) → IsCovered held later
covered_later None exists later covers each = tt
covered_later (Some states) exists later covers each = record { absent = λ n none. go n none (later n) refl }
  where
    go : (n : ℕ) → get_or states n 0 ≡ 0 → (b : Bool) → later n ≡ b → later n ≡ false
    go n none false is = is
    go n none true is = elim (each n is) [
      | inl raised ↦ absurd (raised none)
      | inr was ↦ absurd (true≢false (sym was ∙ covers.absent n none))
    ]

pub covers_none : (held : Option (List ℕ)) (exists : ℕ → Bool) → ((n : ℕ) → exists n ≡ false) → IsCovered held exists
covers_none None exists absent = tt
covers_none (Some states) exists absent = record { absent = λ n none. absent n }

grown : (count : ℕ) (states : List ℕ) (exists : ℕ → Bool) → Covers states exists → Covers (lengthened count states) exists
grown count states exists covers = record {
  absent = λ n none. elim (cases_lt n (length states)) [
    | inl within ↦ covers.absent n (sym (get_or_append_left states _ 0 n within) ∙ none)
    | inr past ↦ covers.absent n (get_or_past states n 0 past)
  ];
}

state_set : (states : List ℕ) (exists : ℕ → Bool) (object state : ℕ) → object < length states → (state ≡ 0 → exists object ≡ false) → Covers states exists
    → Covers (set states object state) exists
state_set states exists object state within absent covers = record {
  absent = λ n none. elim (cases_eq n object) [
    | inl same ↦ ap exists same ∙ absent (sym (get_or-set_same states object state 0 within) ∙ sym (ap (λ k. get_or (set states object state) k 0) same) ∙ none)
    | inr other ↦ covers.absent n (sym (get_or-set_other states object n state 0 other) ∙ none)
  ];
}

-- ---- views

pub to_views : (h : HeaderView) (P : Option ℕ → Type 0) → ((v : Option ℕ) (shape : Shape) → shape_of h v ≡ Some shape → P v) → EachView h (λ v shape. P v)
to_views h P each = record {
  head = each None (shape_of_head h) refl;
  snap = λ t s is. each (Some t) (shape_of_snap s) (ap (option_map shape_of_snap) is);
}

pub from_views : (h : HeaderView) (P : Option ℕ → Type 0) → EachView h (λ v shape. P v) → (v : Option ℕ) (shape : Shape) → shape_of h v ≡ Some shape → P v
from_views h P all None shape is = all.head
from_views h P all (Some t) shape is = let found = a_value shape_of_snap (snap_in h.snaps t) shape is in all.snap t found.0 found.1

-- ---- a map is changed

pub map_covered : (h : HeaderView) (maps : Maps) (objects : ℕ → Mapped) (o : MapOp) (v : Option ℕ) (shape : Shape) → shape_of h v ≡ Some shape
    → v ≡ map_snap o → MayDoOnMap (maps v) o → KeepsMapCover (Some h) maps objects o → IsCovered (maps v) (exists_at objects v) → IsCovered (map_after (maps v) o) (exists_at objects v)
map_covered h maps objects (map_op.Resize count) v shape is at may keeps covered = go (maps v) refl covered
  where
    head : (n : ℕ) → maps v ≡ None → exists_at objects v n ≡ false
    head n none = ap (λ w. exists_at objects w n) at ∙ keeps (ap maps (sym at) ∙ none) n

    go : (held : Option (List ℕ)) → maps v ≡ held → IsCovered held (exists_at objects v) → Covers (lengthened count (unwrap_or held [])) (exists_at objects v)
    go None none covered = record { absent = λ n zero_there. head n none }
    go (Some states) there covered = grown count states (exists_at objects v) covered
map_covered h maps objects (map_op.Get snap) v shape is at may keeps covered = covered
map_covered h maps objects (map_op.Put snap bits) v shape is at may keeps covered = subst (λ w. Covers (states_of bits (4 * length bits)) (exists_at objects w)) (sym at) (keeps shape (ap (shape_of h) (sym at) ∙ is))
map_covered h maps objects (map_op.Set snap object state) v shape is at may keeps covered = go (maps v) may covered
  where
    go : (held : Option (List ℕ)) → MayDoOnMap held (map_op.Set snap object state) → IsCovered held (exists_at objects v)
        → IsCovered (option_map (λ states. set states object state) held) (exists_at objects v)
    go None may covered = tt
    go (Some states) may covered = state_set states (exists_at objects v) object state may.0 (λ none. ap (λ w. exists_at objects w object) at ∙ keeps none) covered
map_covered h maps objects (map_op.Remove snap) v shape is at may keeps covered = tt

-- ---- an object is changed

-- where an object exists at a view afterwards, its state was raised or it existed there before
abbrev pub IsRaisedOrWas : (map : Option (List ℕ)) (number : ℕ) (old new : Mapped) → Option ℕ → Type 0
IsRaisedOrWas map number old new v = is_some (view (versioned new) v) ≡ true → IsRaised map number ⊎ (is_some (view (versioned old) v) ≡ true)

module _ (h : HeaderView) (maps : Maps) (number : ℕ) (o : Mapped) (tidy : IsTidy (versioned o)) (numbered : (t : ℕ) (s : SnapView) → snap_in h.snaps t ≡ Some s → t ≤ h.snap_seq) where
  -- a listed snapshot keeps its view
  snap_kept : (c : SnapContext) → IsContextOf h c → (new : Option (List ℕ)) (t : ℕ) (s : SnapView) → snap_in h.snaps t ≡ Some s
      → view (versioned (mapped_change c new o)) (Some t) ≡ view (versioned o) (Some t)
  snap_kept c context new t s is =
      ap (λ x. view x (Some t)) (looked-mapped_change c new o)
      ∙ view-change t c new (versioned o) tidy (let k = numbered t s is in omega (arith, k, context.seq)) (context.lists t s is)

  changed : (c : SnapContext) → IsContextOf h c → (new : Option (List ℕ)) → IsRaisedOrWas (maps None) number o (mapped_change c new o) None
      → EachView h (λ v shape. IsRaisedOrWas (maps v) number o (mapped_change c new o) v)
  changed c context new head = record { head = head; snap = λ t s is there. inr (sym (ap is_some (snap_kept c context new t s is)) ∙ there) }

  zeroed : (f : List ℕ → List ℕ) (head : Option (List ℕ)) → is_some (option_map f head) ≡ true → is_some head ≡ true
  zeroed f None there = there
  zeroed f (Some bytes) there = refl

  -- what a copy-up finds is there as before
  copied_view : (bytes b : List ℕ) (v : Option ℕ) → o.head ≡ Some b → view (versioned (mapped_copy_up bytes o)) v ≡ view (versioned o) v
  copied_view bytes b v is =
      ap (λ (head : Option (List ℕ)). view (record { head = head; seq = o.seq; kept = (versioned o).kept }) v) (ap (λ (head : Option (List ℕ)). Some (unwrap_or head bytes)) is ∙ sym is)

  copied : (bytes : List ℕ) → (o.head ≡ None → EachView h (λ v shape. IsRaised (maps v) number))
      → EachView h (λ v shape. IsRaisedOrWas (maps v) number o (mapped_copy_up bytes o) v)
  copied bytes raised = go o.head refl
    where
      go : (head : Option (List ℕ)) → o.head ≡ head → EachView h (λ v shape. IsRaisedOrWas (maps v) number o (mapped_copy_up bytes o) v)
      go None is = record { head = λ there. inl (raised is).head; snap = λ t s at there. inl ((raised is).snap t s at) }
      go (Some b) is = record {
        head = λ there. inr (sym (ap is_some (copied_view bytes b None is)) ∙ there);
        snap = λ t s at there. inr (sym (ap is_some (copied_view bytes b (Some t) is)) ∙ there);
      }

  pub data_raised : (op : DataOp) → KeepsDataCover h maps number o op → EachView h (λ v shape. IsRaisedOrWas (maps v) number o (data_change o op) v)
  data_raised (data_op.Read snap parts) keeps = record { head = λ there. inr there; snap = λ t s is there. inr there }
  data_raised (data_op.Write context must parts bytes) keeps = changed context keeps.0 (Some (parts_written parts bytes (unwrap_or o.head []))) (λ there. inl keeps.1)
  data_raised (data_op.WriteFull context bytes) keeps = changed context keeps.0 (Some bytes) (λ there. inl keeps.1)
  data_raised (data_op.Zero context must parts) keeps = changed context keeps (option_map (parts_zeroed parts) o.head) (λ there. inr (zeroed (parts_zeroed parts) o.head there))
  data_raised (data_op.Empty context) keeps = changed context keeps.0 (Some []) (λ there. inl keeps.1)
  data_raised (data_op.Remove context) keeps = changed context keeps None (λ there. absurd (true≢false (sym there)))
  data_raised (data_op.CopyUp bytes) keeps = copied bytes keeps

-- ---- a header is changed

-- nothing was done to an object: it exists at no view
pub blank_exists : (v : Option ℕ) → is_some (view (versioned mapped_blank) v) ≡ false
blank_exists None = refl
blank_exists (Some t) = ap (λ (kept : Option (List ℕ)). is_some (cond (ltb 0 t) None kept)) (finmap.get-empty nat_cmp t) ∙ both (ltb 0 t)
  where
    both : (b : Bool) → is_some {T = List ℕ} (cond b None None) ≡ false
    both true = refl
    both false = refl

module _ (h : HeaderView) (maps : Maps) (objects : ℕ → Mapped) (seen : (n : ℕ) → (objects n).seq ≤ h.snap_seq) (all : AreCovered h maps objects) where
  -- the next snapshot's view of an object is the head
  new_view : (n : ℕ) → exists_at objects (Some (h.snap_seq + 1)) n ≡ exists_at objects None n
  new_view n = ap (λ b. is_some (cond b (objects n).head ((versioned (objects n)).kept (h.snap_seq + 1)))) (lt-ltb (objects n).seq (h.snap_seq + 1) (let e = seen n in omega arith))

  renamed_exists : (held : Option (List ℕ)) → IsCovered held (exists_at objects None) → IsCovered held (exists_at objects (Some (h.snap_seq + 1)))
  renamed_exists held covers = covered_later held (exists_at objects None) (exists_at objects (Some (h.snap_seq + 1))) covers (λ n there. inr (sym (new_view n) ∙ there))

  either : (b : Bool) (f g : HeaderView) → AreCovered f maps objects → AreCovered g maps objects → AreCovered (cond b f g) maps objects
  either true f g p q = p
  either false f g p q = q

  -- what lists the same snapshots has the same views
  relisted : (g : HeaderView) → g.snaps ≡ h.snaps → AreCovered g maps objects
  relisted g same = record { head = all.head; snap = λ t s is. all.snap t s (sym (ap (λ snaps. snap_in snaps t) same) ∙ is) }

  told : (f g : HeaderView) → Some f ≡ Some g → AreCovered f maps objects → AreCovered g maps objects
  told f g e covered = subst (λ x. AreCovered x maps objects) (same_Some f g e) covered

  pub there_covered : (me : Instance) (o : HeaderOp) → KeepsHeaderCover (Some h) maps objects o → (g : HeaderView) → there_after me h o ≡ Some g → AreCovered g maps objects
  there_covered me (header_op.SnapAdd name) keeps g is =
      told (where_made (is_some (snap_named h.snaps name)) (is_full h) (with_snap name h) h) g is
      (either (is_some (snap_named h.snaps name)) h (cond (is_full h) h (with_snap name h)) all
      (either (is_full h) h (with_snap name h) all
      (each_added name h (λ p. p) (λ t s at p. p) (λ p. renamed_exists (maps (Some (h.snap_seq + 1))) keeps) all)))
  there_covered me (header_op.SnapRemove snap) keeps g is =
      told (cond (is_some (snap_in h.snaps snap)) (without_snap snap h) h) g is
      (either (is_some (snap_in h.snaps snap)) (without_snap snap h) h (each_removed snap h (λ p. p) (λ t s at other p. p) all) all)
  there_covered me (header_op.SnapStatus snap status) keeps g is =
      told (cond (is_some (snap_in h.snaps snap)) (with_status snap status h) h) g is
      (either (is_some (snap_in h.snaps snap)) (with_status snap status h) h (each_marked snap status h (λ p. p) (λ t s at p. p) all) all)
  there_covered me header_op.LockDrop keeps g is =
      told (cond (is_owner me h.owner) (record h { owner = None }) h) g is (either (is_owner me h.owner) (record h { owner = None }) h (relisted (record h { owner = None }) refl) all)
  there_covered me (header_op.LockBreak owner) keeps g is =
      told (cond (is_owner owner h.owner) (record h { owner = None }) h) g is (either (is_owner owner h.owner) (record h { owner = None }) h (relisted (record h { owner = None }) refl) all)
  there_covered me header_op.Remove keeps g is = absurd (none-some g is)
  there_covered me (header_op.Create view) keeps g is = told h g is all
  there_covered me header_op.Get keeps g is = told h g is all
  there_covered me (header_op.SetSize size) keeps g is = told (with_size size h) g is (relisted (with_size size h) refl)
  there_covered me header_op.Detach keeps g is = relisted g (ap (λ (x : Option HeaderView). (unwrap_or x h).snaps) (sym is))
  there_covered me (header_op.Role role) keeps g is = relisted g (ap (λ (x : Option HeaderView). (unwrap_or x h).snaps) (sym is))
  there_covered me header_op.Mirror keeps g is = told h g is all
  there_covered me header_op.Synced keeps g is = relisted g (ap (λ (x : Option HeaderView). (unwrap_or x h).snaps) (sym is))
  there_covered me header_op.LockTake keeps g is = relisted g (ap (λ (x : Option HeaderView). (unwrap_or x h).snaps) (sym is))
  there_covered me header_op.Watch keeps g is = told h g is all
  there_covered me header_op.Unwatch keeps g is = told h g is all
  there_covered me header_op.WatchersGet keeps g is = told h g is all
  there_covered me (header_op.Notify kind) keeps g is = told h g is all

-- a header is made
pub made_covered : (maps : Maps) (objects : ℕ → Mapped) (me : Instance) (o : HeaderOp) → KeepsHeaderCover None maps objects o → (g : HeaderView) → header_after me None o ≡ Some g → AreCovered g maps objects
made_covered maps objects me (header_op.Create made) blank g is =
    to_views g (λ v. IsCovered (maps v) (exists_at objects v))
    (λ v shape at. covers_none (maps v) (exists_at objects v) (λ n. ap (λ o. is_some (view (versioned o) v)) (blank n) ∙ blank_exists v))
made_covered maps objects me o blank g is = absurd (none-some g is)
