-- A change of one object's head, and what the image then stands for.
use Rattle.std.proofs.Common.{◌≡◌, ◌≢◌, ℕ, ◌<◌, ◌≤◌, cond, ◌⊎◌, inl, inr, List, [], get_or, Option, Some, unwrap_or, refl, sym, ◌∙◌, ap, subst, arith, None, is_some}
use Rattle.std.proofs.lemmas.Bool.{cases_eq, eq-eqb, ne_eqb}
use Rattle.std.proofs.lemmas.Bool.{true≢false}
use Rattle.rbd_kinds.specs.declared.header.HeaderView.{HeaderView}
use Rattle.rbd_kinds.specs.declared.header.SnapContext.{SnapContext}
use Rattle.rbd_kinds.specs.declared.header.SnapView.{SnapView}
use Rattle.rbd_kinds.specs.Striping.{object_of, offset_of}
use Rattle.rbd_header.specs.Header.{snap_in}
use Rattle.rbd_object.specs.Mapped.{Mapped, versioned, mapped_change, mapped_blank}
use Rattle.rbd_object.specs.Versioned.{IsTidy, view}
use Rattle.rbd_object.proofs.MappedLemmas.{looked-mapped_change}
use Rattle.rbd_object.proofs.StepLemmas.{view-change}
use Rattle.rbd_flat.specs.Flat.{FlatImage}
use Rattle.rbd_site.specs.Records.{put}
use Rattle.rbd_stands.specs.Shown.{Snapshots, shown, Links, inherited}
use Rattle.rbd_stands.specs.Image.{ImageStands, IsInside}
use Rattle.rbd_stands.specs.Condition.{IsContextOf, ChangesObject}
use Rattle.rbd_object.proofs.SoundLemmas.{tidy_change}

-- ---- a function with another value at one place

pub put_there : {T : Type 0} (f : ℕ → T) (n : ℕ) (a : T) → put f n a n ≡ a
put_there f n a = ap (λ b. cond b a (f n)) (eq-eqb n n refl)

pub put_elsewhere : {T : Type 0} (f : ℕ → T) (n : ℕ) (a : T) (m : ℕ) → m ≢ n → put f n a m ≡ f m
put_elsewhere f n a m other = ap (λ b. cond b a (f m)) (ne_eqb m n other)

pub put_both : {T : Type 0} (P : ℕ → T → Type 0) (f : ℕ → T) (n : ℕ) (a : T) → P n a → ((m : ℕ) → m ≢ n → P m (f m)) → (m : ℕ) → P m (put f n a m)
put_both P f n a here there m = go (cases_eq m n)
  where
    go : (m ≡ n) ⊎ (m ≢ n) → P m (put f n a m)
    go (inl same) = subst (λ k. P k (put f n a k)) (sym same) (subst (P n) (sym (put_there f n a)) here)
    go (inr other) = subst (P m) (sym (put_elsewhere f n a m other)) (there m other)

-- ---- a change under the header's context

module _ (below : Snapshots) (linked : Links) (h : HeaderView) (objects : ℕ → Mapped) (i : FlatImage) (stands : ImageStands below linked h objects i) (c : SnapContext) (context : IsContextOf h c)
    (n : ℕ) (new : Option (List ℕ)) (bytes : List ℕ) (changed : ChangesObject below h n new i.bytes bytes) where
  abbrev now : ℕ → Mapped
  now = put objects n (mapped_change c new (objects n))

  -- a listed snapshot keeps its view of the object
  view_kept : (t : ℕ) (s : SnapView) → snap_in h.snaps t ≡ Some s → (m : ℕ) → view (versioned (now m)) (Some t) ≡ view (versioned (objects m)) (Some t)
  view_kept t s is = put_both (λ m o. view (versioned o) (Some t) ≡ view (versioned (objects m)) (Some t)) objects n (mapped_change c new (objects n))
      (ap (λ o. view o (Some t)) (looked-mapped_change c new (objects n))
      ∙ view-change t c new (versioned (objects n)) (stands.tidy n) (let k = stands.numbered.snap t s is in omega (arith, k.1, context.seq)) (context.lists t s is))
      (λ m other. refl)

  head_bytes : (x : ℕ) → x < h.size → (m : ℕ) → object_of h.layout x ≡ m → get_or bytes x 0 ≡ shown below h.parent (now m).head (offset_of h.layout x) x
  head_bytes x within = put_both (λ m o. object_of h.layout x ≡ m → get_or bytes x 0 ≡ shown below h.parent o.head (offset_of h.layout x) x) objects n (mapped_change c new (objects n))
      (λ same. changed.here x within same)
      (λ m other same. changed.elsewhere x within (λ e. other (sym same ∙ e)) ∙ stands.bytes.head x within
      ∙ ap (λ k. shown below h.parent (objects k).head (offset_of h.layout x) x) same)

  pub object_changed : ImageStands below linked h now (record i { bytes = bytes })
  object_changed = record {
    same = stands.same;
    role = stands.role;
    long = record { head = changed.long ∙ stands.long.head; snap = stands.long.snap };
    bytes = record {
      head = λ x within. head_bytes x within (object_of h.layout x) refl;
      snap = λ t s is x within. stands.bytes.snap t s is x within
          ∙ ap (λ content. shown below s.parent content (offset_of h.layout x) x) (sym (view_kept t s is (object_of h.layout x)));
    };
    parents = stands.parents;
    within = stands.within;
    untouched = put_both (λ m o. IsInside h m → o.head ≡ None → o ≡ mapped_blank) objects n (mapped_change c new (objects n))
        (λ inside absent. absurd (true≢false (sym (changed.there inside) ∙ ap is_some absent)))
        (λ m other. stands.untouched m);
    alike = record {
      head = λ x inside absent. refl;
      snap = λ t s is x inside absent. put_both (λ m o. IsInside h m → o.head ≡ None → object_of h.layout x ≡ m → inherited below s.parent x ≡ inherited below h.parent x) objects n (mapped_change c new (objects n))
          (λ inside absent same. absurd (true≢false (sym (changed.there inside) ∙ ap is_some absent)))
          (λ m other inside absent same. stands.alike.snap t s is x (subst (IsInside h) (sym same) inside) (ap (λ k. (objects k).head) same ∙ absent))
          (object_of h.layout x) inside absent refl;
    };
    clear = λ x past. put_both (λ m o. object_of h.layout x ≡ m → get_or (unwrap_or o.head []) (offset_of h.layout x) 0 ≡ 0) objects n (mapped_change c new (objects n))
        (λ same. changed.clear x past same)
        (λ m other same. ap (λ k. get_or (unwrap_or (objects k).head []) (offset_of h.layout x) 0) (sym same) ∙ stands.clear x past)
        (object_of h.layout x) refl;
    tidy = put_both (λ m o. IsTidy (versioned o)) objects n (mapped_change c new (objects n))
        (subst IsTidy (sym (looked-mapped_change c new (objects n))) (tidy_change c new (versioned (objects n)) (stands.tidy n)))
        (λ m other. stands.tidy m);
    seen = put_both (λ m o. o.seq ≤ h.snap_seq) objects n (mapped_change c new (objects n))
        (let e = stands.seen n in omega (arith, context.seq))
        (λ m other. stands.seen m);
    numbered = stands.numbered;
    laid = stands.laid;
  }
