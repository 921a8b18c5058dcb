-- What a read answers, by whether there is an image and a view of it.
use Rattle.std.proofs.Common.{◌≡◌, ℕ, false, List, length, Option, Some, None, refl, sym, ◌∙◌, ap, subst}
use Rattle.std.specs.Prelude.{◌↔◌, Result, Ok, Err, IfOk, IsOk, IsErrOf, IsSome}
use Rattle.rbd_kinds.specs.declared.layout.Extent.{Extent}
use Rattle.rbd_flat.specs.declared.fault.FlatFault.{FlatFault}
use Rattle.rbd_flat.specs.declared.fault.FlatFault.TheVariants.{NoImage, NoSnap, BadRange, NoMemory}
use Rattle.rbd_flat.specs.Flat.{FlatImage, FlatSnap, snap_in, snap_of}
use Rattle.rbd_kinds.specs.Extents.{fits}
use Rattle.rbd_flat.specs.Read.{read_image, read_view, view_at, image_view}
use Rattle.std.proofs.lemmas.Option.{same_Some, none-some}
use Rattle.std.proofs.lemmas.Bool.{false≢true}
use Rattle.std.specs.Option.{option_map}

-- the answer r to a read
pub record Answers (o : Option FlatImage) (snap : Option ℕ) (e : Extent) (r : Result (List ℕ) FlatFault) : Type 0 where
  pub bytes : IfOk r (λ bs. read_image o snap e ≡ Ok bs)
  pub no_image : IsErrOf r NoImage ↔ (o ≡ None)
  pub no_snap : IsErrOf r NoSnap ↔ (IsSome o × ((t : ℕ) × (snap ≡ Some t) × (snap_of o t ≡ None)))
  pub bad_range : IsErrOf r BadRange ↔ ((bs : List ℕ) × (view_at o snap ≡ Some bs) × (fits e (length bs) ≡ false))
  pub no_memory : IsErrOf r NoMemory → IsOk (read_image o snap e)

-- the answer to the read of a view's bytes
pub record ViewAnswers (bs : List ℕ) (e : Extent) (r : Result (List ℕ) FlatFault) : Type 0 where
  pub bytes : IfOk r (λ read. read_view (Some bs) e ≡ Ok read)
  pub bad_range : IsErrOf r BadRange ↔ (fits e (length bs) ≡ false)
  pub no_memory : IsErrOf r NoMemory → IsOk (read_view (Some bs) e)
  pub no_image : IsErrOf r NoImage → ⊥
  pub no_snap : IsErrOf r NoSnap → ⊥

pub without_image : (snap : Option ℕ) (e : Extent) → Answers None snap e (Err NoImage)
without_image snap e = record {
  bytes = tt;
  no_image = (λ _. refl, λ _. refl);
  no_snap = (λ h. absurd (cc), λ h. absurd (false≢true h.0));
  bad_range = (λ h. absurd (cc), λ h. let k = h.1 in absurd (cc));
  no_memory = λ h. absurd (cc);
}

no_bytes : (o : Option FlatSnap) → option_map {T = FlatSnap} (λ s. s.bytes) o ≡ None → o ≡ None
no_bytes None e = refl
no_bytes (Some s) e = absurd (none-some s.bytes (sym e))

-- what isn't seen isn't listed, and what isn't listed isn't seen
unlisted : (i : FlatImage) (snap : Option ℕ) → image_view i snap ≡ None → (t : ℕ) × (snap ≡ Some t) × (snap_of (Some i) t ≡ None)
unlisted i None e = absurd (none-some i.bytes (sym e))
unlisted i (Some t) e = (t, refl, no_bytes (snap_in i.snaps t) e)

nothing_seen : (i : FlatImage) (t : ℕ) → snap_of (Some i) t ≡ None → image_view i (Some t) ≡ None
nothing_seen i t e = ap (option_map {T = FlatSnap} (λ s. s.bytes)) e

pub without_snap : (i : FlatImage) (snap : Option ℕ) (e : Extent) → image_view i snap ≡ None → Answers (Some i) snap e (Err NoSnap)
without_snap i snap e none = record {
  bytes = tt;
  no_image = (λ h. absurd (cc), λ h. absurd (cc));
  no_snap = (λ _. (refl, unlisted i snap none), λ _. refl);
  bad_range = (λ h. absurd (cc), λ h. let k = h.1 in absurd (cc));
  no_memory = λ h. absurd (cc);
}

pub with_view : (i : FlatImage) (bs : List ℕ) (snap : Option ℕ) (e : Extent) (r : Result (List ℕ) FlatFault) → image_view i snap ≡ Some bs → ViewAnswers bs e r → Answers (Some i) snap e r
with_view i bs snap e r is v = record {
  bytes = subst (λ (o : Option (List ℕ)). IfOk r (λ read. read_view o e ≡ Ok read)) (sym is) v.bytes;
  no_image = (λ h. absurd (v.no_image h), λ h. absurd (cc));
  no_snap = (λ h. absurd (v.no_snap h), λ h. absurd (none-some bs (sym (nothing_seen i h.1.0 h.1.2) ∙ sym (ap (image_view i) h.1.1) ∙ is)));
  bad_range = (λ h. (bs, is, v.bad_range.0 h), λ h. v.bad_range.1 (ap (λ (cs : List ℕ). fits e (length cs)) (same_Some bs h.0 (sym is ∙ h.1)) ∙ h.2));
  no_memory = λ h. subst (λ (o : Option (List ℕ)). IsOk (read_view o e)) (sym is) (v.no_memory h);
}

-- the same, of the image that is found
pub at_image : (o p : Option FlatImage) (snap : Option ℕ) (e : Extent) (r : Result (List ℕ) FlatFault) → p ≡ o → Answers o snap e r → Answers p snap e r
at_image o p snap e r is a = subst (λ (q : Option FlatImage). Answers q snap e r) (sym is) a
