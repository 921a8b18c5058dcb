-- A map without states stays so, where its image has no header.
use Rattle.std.proofs.Common.{◌≡◌, ◌≢◌, ◌⊎◌, inl, inr, ℕ, Some, None, refl, sym, ap, ◌∙◌, subst}
use Rattle.std.specs.Prelude.{IsFalse}
use Rattle.std.proofs.lemmas.Bool.{cases_eq}
use Rattle.rbd_kinds.specs.declared.id.Instance.{Instance}
use Rattle.rbd_kinds.specs.declared.id.SiteId.{SiteId}
use Rattle.rbd_kinds.specs.declared.map_op.MapOp.{MapOp}
use Rattle.rbd_kinds.specs.declared.map_op.MapOp.TheVariants as states
use Rattle.rbd_kinds.specs.declared.operation.Op.TheVariants as op
use Rattle.rbd_machine.specs.Knowledge.{Knowledge}
use Rattle.rbd_machine.specs.Permits.{PermitsOnMap}
use Rattle.rbd_site.specs.Records.{Records}
use Rattle.rbd_site.specs.Step.{is_fenced, after_served}
use Rattle.rbd_stands.specs.Covering.{Maps}
use Rattle.rbd_interference.specs.Truth.{HasNoStates, IsTrueAt, map_state_in}
use Rattle.rbd_interference.proofs.Headers.{not_waiting}
use Rattle.rbd_interference.proofs.MapsBehind.{maps_behind, maps_here, maps_there, same_again}
use Rattle.rbd_interference.proofs.States.{lengthened_state}

-- ---- what is permitted

-- who isn't fenced sets no state where there is no header
pub none_raised : (site : SiteId) (r : Records) (k : Knowledge) (me : Instance) (t : IsTrueAt site r me k) → IsFalse (is_fenced r me) → (image : ℕ) (o : MapOp) → PermitsOnMap k site image o
    → r.headers image ≡ None → HasNoStates (r.maps image None) → HasNoStates (maps_behind (r.maps image) o None)
none_raised site r k me t free image (states.Resize count) permits none blank n = lengthened_state (r.maps image None) count n ∙ blank n
none_raised site r k me t free image (states.Get view) permits none blank n = ap (λ map. map_state_in map n) (same_again (r.maps image) view None) ∙ blank n
none_raised site r k me t free image (states.Put (Some snap) bits) permits none blank n = blank n
none_raised site r k me t free image (states.Set None object state) permits none blank n = absurd (not_waiting site r me k image _ t free permits none)
none_raised site r k me t free image (states.Remove None) permits none blank n = refl
none_raised site r k me t free image (states.Remove (Some snap)) permits none blank n = blank n
none_raised site r k me t free image _ permits none blank n = elim permits [ ]

-- behind an operation on an image's maps
pub none_there : (r : Records) (you : Instance) (other : ℕ) (o : MapOp) (image : ℕ) → HasNoStates (r.maps image None) → (image ≡ other → HasNoStates (maps_behind (r.maps other) o None))
    → HasNoStates ((after_served r you (op.Map other o)).maps image None)
none_there r you other o image blank here = by (cases_eq image other)
  where
    by : (image ≡ other) ⊎ (image ≢ other) → HasNoStates ((after_served r you (op.Map other o)).maps image None)
    by (inl same) = subst (λ i. HasNoStates ((after_served r you (op.Map other o)).maps i None)) (sym same) (subst (λ (maps : Maps). HasNoStates (maps None)) (sym (maps_here r you other o)) (here same))
    by (inr differ) = subst (λ (maps : Maps). HasNoStates (maps None)) (sym (maps_there r you other o image differ)) blank
