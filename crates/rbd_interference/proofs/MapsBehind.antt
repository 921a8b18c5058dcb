-- The maps of one image behind an operation.
use Rattle.std.proofs.Common.{◌≡◌, ◌≢◌, ◌⊎◌, inl, inr, ℕ, cond, eqb, Bool, true, false, List, Option, Some, None, refl, sym, ap, ◌∙◌, subst}
use Rattle.std.proofs.lemmas.Bool.{cases_eq}
use Rattle.std.specs.Option.{option_eq}
use Rattle.rbd_kinds.specs.declared.id.Instance.{Instance}
use Rattle.rbd_kinds.specs.declared.map_op.MapOp.{MapOp}
use Rattle.rbd_kinds.specs.declared.operation.Op.TheVariants as op
use Rattle.rbd_machine.specs.Knowledge.{MapsKnown, unmapped}
use Rattle.rbd_kinds.specs.Maps.{map_snap}
use Rattle.rbd_site.specs.MapStep.{map_after}
use Rattle.rbd_site.specs.Records.{Records}
use Rattle.rbd_site.specs.Step.{after_served}
use Rattle.rbd_site.proofs.MapLemmas.{same_view}
use Rattle.rbd_stands.specs.Covering.{Maps}
use Rattle.rbd_stands.proofs.ObjectSteps.{put_there, put_elsewhere}
use Rattle.rbd_interference.specs.Truth.{AreMapsTrue, AreStatesOf, IsCountTrue, IsPutAs, map_state_in}

-- ---- of one number, and of the others

pub at_each : (P : ℕ → Type 0) (place : ℕ) → P place → ((i : ℕ) → i ≢ place → P i) → (i : ℕ) → P i
at_each P place here there i = by (cases_eq i place)
  where
    by : (i ≡ place) ⊎ (i ≢ place) → P i
    by (inl same) = subst P (sym same) here
    by (inr other) = there i other

-- ---- with another map at a view

abbrev pub with_view : Maps → (view : Option ℕ) → Option (List ℕ) → Maps
with_view maps view map v = cond (option_eq eqb v view) map (maps v)

abbrev pub maps_behind : Maps → MapOp → Maps
maps_behind maps o = with_view maps (map_snap o) (map_after (maps (map_snap o)) o)

pub maps_here : (r : Records) (you : Instance) (image : ℕ) (o : MapOp) → (after_served r you (op.Map image o)).maps image ≡ maps_behind (r.maps image) o
maps_here r you image o = put_there r.maps image (maps_behind (r.maps image) o)

pub maps_there : (r : Records) (you : Instance) (image : ℕ) (o : MapOp) (i : ℕ) → i ≢ image → (after_served r you (op.Map image o)).maps i ≡ r.maps i
maps_there r you image o i other = put_elsewhere r.maps image (maps_behind (r.maps image) o) i other

-- What holds of an image's maps does behind an operation, if it holds of those that it changed.
pub each_image : (P : (image : ℕ) → Maps → Type 0) (r : Records) (you : Instance) (image : ℕ) (o : MapOp) → P image (maps_behind (r.maps image) o) → ((i : ℕ) → P i (r.maps i))
    → (i : ℕ) → P i ((after_served r you (op.Map image o)).maps i)
each_image P r you image o here there =
    at_each (λ i. P i ((after_served r you (op.Map image o)).maps i)) image (subst (P image) (sym (maps_here r you image o)) here)
    (λ i other. subst (P i) (sym (maps_there r you image o i other)) (there i))

-- the map that was there
pub same_again : (maps : Maps) (view v : Option ℕ) → with_view maps view (maps view) v ≡ maps v
same_again maps view v = by (option_eq eqb v view) refl
  where
    by : (b : Bool) → option_eq eqb v view ≡ b → cond b (maps view) (maps v) ≡ maps v
    by true same = ap maps (sym (same_view v view same))
    by false other = refl

-- ---- what is known of them

pub nothing_mapped : (alone : Bool) (maps : Maps) → AreMapsTrue alone maps unmapped
nothing_mapped alone maps = record { raised = λ view object marked. cc; states = λ a states is. cc; count = λ a. tt; put = λ a snap is. cc }

-- of maps that are the same
pub true_of : (alone : Bool) (old new : Maps) (m : MapsKnown) → ((v : Option ℕ) → new v ≡ old v) → AreMapsTrue alone old m → AreMapsTrue alone new m
true_of alone old new m same t = record {
  raised = λ view object marked zeroed. t.raised view object marked (ap (λ map. map_state_in map object) (sym (same view)) ∙ zeroed);
  states = λ a states is. subst (AreStatesOf states) (sym (same None)) (t.states a states is);
  count = λ a. subst (IsCountTrue m.count) (sym (same None)) (t.count a);
  put = λ a snap is. subst (IsPutAs (new (Some snap))) (sym (same None)) (subst (λ map. IsPutAs map (old None)) (sym (same (Some snap))) (t.put a snap is));
}
