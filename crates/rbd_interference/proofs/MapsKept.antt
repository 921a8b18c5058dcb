-- What is known of object maps stays true under what is permitted to others.
use Rattle.std.proofs.Common.{◌≡◌, ◌≢◌, inl, inr, ℕ, zero, suc, true, Some, None, sym, ap, ◌∙◌, subst, true≢false, Option}
use Rattle.std.specs.Prelude.{IsFalse, IsSome, is_some}
use Rattle.rbd_kinds.specs.declared.header.HeaderView.{HeaderView}
use Rattle.rbd_kinds.specs.declared.id.Instance.{Instance}
use Rattle.rbd_kinds.specs.declared.id.SiteId.{SiteId}
use Rattle.rbd_kinds.specs.declared.map_op.MapOp.{MapOp}
use Rattle.rbd_kinds.specs.declared.map_op.MapOp.TheVariants as states
use Rattle.rbd_kinds.specs.declared.operation.Op.{Op}
use Rattle.rbd_kinds.specs.declared.operation.Op.TheVariants as op
use Rattle.rbd_kinds.specs.declared.sharing.Sharing.{Sharing}
use Rattle.rbd_kinds.specs.declared.sharing.Sharing.TheVariants.{Alone}
use Rattle.rbd_machine.specs.Knowledge.{Knowledge, is_drawn, is_gone, maps_of, objects_known_of, is_raised}
use Rattle.rbd_machine.specs.Permits.{Permits, PermitsOnMap, IsLeftOver, MayLengthen, MaySet, OwnsBy}
use Rattle.rbd_machine.proofs.Together.{shared_both}
use Rattle.rbd_site.specs.Records.{Records}
use Rattle.rbd_site.specs.Step.{is_fenced, after, after_served}
use Rattle.rbd_stands.specs.Covering.{Maps}
use Rattle.rbd_interference.specs.Beside.{AreBeside, BreaksNothing, GoTogether, Lowers, MayAct}
use Rattle.rbd_interference.specs.Truth.{AreMapsTrue, IsCountTrue, IsTrueAt, KnowsNoHeader, is_alone_on, known_header, map_state_in, sharing_of_own, sharing_on}
use Rattle.rbd_interference.specs.Turns.{KnowsRaised}
use Rattle.rbd_interference.proofs.Fenced.{after_free}
use Rattle.rbd_interference.proofs.Headers.{not_waiting, own_known, unknown_while_waiting}
use Rattle.rbd_interference.proofs.MapsBehind.{each_image, maps_behind, same_again, true_of}
use Rattle.rbd_interference.proofs.States.{set_above, set_elsewhere}
use Rattle.rbd_interference.proofs.Sharing.{alone_beside_none}

module _ (site : SiteId) (r : Records) (k j : Knowledge) (me you : Instance) (t : IsTrueAt site r me k) (u : IsTrueAt site r you j) (beside : AreBeside site r me you k j) where
  -- ---- of an image whose header it knows

  abbrev IsMapped : (image : ℕ) → Maps → Type 0
  IsMapped image maps = IsSome (known_header k site image) → AreMapsTrue (is_alone_on k site image) maps (maps_of k.maps site image)

  module _ (free : IsFalse (is_fenced r me)) (served : IsFalse (is_fenced r you)) (image : ℕ) where
    -- where another owns it too, they go together
    pub both_shared : (condition : Sharing → HeaderView → Type 0) → OwnsBy j site image condition → IsSome (known_header k site image) → GoTogether site image k j
    both_shared condition owns known = beside.shared (free, served) image known (ap is_some (own_known j site image condition owns))

    never_alone : (condition : HeaderView → Type 0) → OwnsBy j site image (λ sharing h. (sharing ≡ Alone) × condition h) → IsSome (known_header k site image) → ⊥
    never_alone condition owns known =
        alone_beside_none (sharing_on k site image) (sharing_on j site image) (ap sharing_of_own owns.is ∙ owns.meets.0)
        (both_shared (λ sharing h. (sharing ≡ Alone) × condition h) owns known)

    -- What another may break is none of what is known.
    pub known_apart : (condition : Sharing → HeaderView → Type 0) → OwnsBy j site image condition → (object : ℕ) (knows : ℕ → Type 0) → BreaksNothing site image r you me j k (knows object)
        → IsSome (known_header k site image) → (n : ℕ) → knows n → n ≢ object
    known_apart condition owns object knows may known n it same = may (served, free) (ap is_some (own_known j site image condition owns)) known (subst knows same it)

    -- A state that is set leaves what is raised: it isn't 0, or was set of another object.
    still_raised : (object state : ℕ) → OwnsBy j site image (MaySet (objects_known_of j.objects site image) j.turn object state)
        → BreaksNothing site image r you me j k (Lowers state k site image object) → IsSome (known_header k site image) → (n : ℕ) → KnowsRaised k site image n → map_state_in (r.maps image None) n ≢ 0
        → map_state_in (maps_behind (r.maps image) (states.Set None object state) None) n ≢ 0
    still_raised object zero owns may known n raised was = set_elsewhere (r.maps image None) object 0 n (known_apart _ owns object (KnowsRaised k site image) may known n raised) was
    still_raised object (suc state) owns may known n raised was = set_above (r.maps image None) object state n was

    set_beside : (object state : ℕ) → OwnsBy j site image (MaySet (objects_known_of j.objects site image) j.turn object state)
        → BreaksNothing site image r you me j k (Lowers state k site image object) → IsMapped image (maps_behind (r.maps image) (states.Set None object state))
    set_beside object state owns may known =
        let was = t.mapped free image known in
        let shared = (shared_both (sharing_on k site image) (sharing_on j site image) (both_shared _ owns known)).0 in
        record {
          raised = λ view n marked. still view n marked (was.raised view n marked);
          states = λ alone. absurd (true≢false (sym alone ∙ shared));
          count = λ alone. absurd (true≢false (sym alone ∙ shared));
          put = λ alone. absurd (true≢false (sym alone ∙ shared));
        }
      where
        still : (view : Option ℕ) (n : ℕ) → is_raised view n (maps_of k.maps site image).raised ≡ true → map_state_in (r.maps image view) n ≢ 0
            → map_state_in (maps_behind (r.maps image) (states.Set None object state) view) n ≢ 0
        still None n marked was = still_raised object state owns may known n marked was
        still (Some snap) n marked was = was

    -- who removed the header of an image meets nobody who knows it
    never_left : IsLeftOver j site image → IsSome (known_header k site image) → ⊥
    never_left left known = unknown_while_waiting site r me k image t free known (u.gone image left.gone).header

    resized_beside : (count : ℕ) → MayLengthen j site image count → IsMapped image (maps_behind (r.maps image) (states.Resize count))
    resized_beside count (inl makes) known = absurd (unknown_while_waiting site r me k image t free known (u.drawn image makes.drawn).header)
    resized_beside count (inr owns) known = absurd (never_alone _ owns known)

    removed_beside : (snap : ℕ) → PermitsOnMap j site image (states.Remove (Some snap)) → IsMapped image (maps_behind (r.maps image) (states.Remove (Some snap)))
    removed_beside snap (inl gone) known = absurd (never_left gone known)
    removed_beside snap (inr owns) known = absurd (never_alone _ owns known)

    mapped_beside : (o : MapOp) → PermitsOnMap j site image o → MayAct site r you me j k (op.Map image o) → IsMapped image (maps_behind (r.maps image) o)
    mapped_beside (states.Resize count) permits may = resized_beside count permits
    mapped_beside (states.Get view) permits may = λ known.
        true_of (is_alone_on k site image) (r.maps image) (maps_behind (r.maps image) (states.Get view)) (maps_of k.maps site image) (same_again (r.maps image) view) (t.mapped free image known)
    mapped_beside (states.Put (Some snap) bits) permits may = λ known. absurd (never_alone _ permits known)
    mapped_beside (states.Set None object state) permits may = set_beside object state permits may
    mapped_beside (states.Remove None) permits may = λ known. absurd (never_left permits.0 known)
    mapped_beside (states.Remove (Some snap)) permits may = removed_beside snap permits
    mapped_beside _ permits may = elim permits [ ]

  mapped_served : IsFalse (is_fenced r me) → IsFalse (is_fenced r you) → (o : Op) → Permits j site o → MayAct site r you me j k o → (image : ℕ) → IsMapped image ((after_served r you o).maps image)
  mapped_served free served (op.Directory o) permits may image = t.mapped free image
  mapped_served free served (op.Children o) permits may image = t.mapped free image
  mapped_served free served (op.BlockAdd i) permits may image = t.mapped free image
  mapped_served free served (op.Header other o) permits may image = t.mapped free image
  mapped_served free served (op.Data other number o) permits may image = t.mapped free image
  mapped_served free served (op.Map other o) permits may image = each_image IsMapped r you other o (mapped_beside free served other o permits may) (t.mapped free) image
  mapped_served free served _ permits may image = elim permits [ ]

  pub mapped_kept : IsFalse (is_fenced r me) → (o : Op) → Permits j site o → MayAct site r you me j k o → (image : ℕ) → IsMapped image ((after r you o).maps image)
  mapped_kept free o permits may image = after_free (λ s. IsMapped image (s.maps image)) r you o (t.mapped free image) (λ served. mapped_served free served o permits may image)

  -- ---- of an image without a header

  abbrev IsCounted : (image : ℕ) → Maps → Type 0
  IsCounted image maps = KnowsNoHeader k site image → IsCountTrue (maps_of k.maps site image).count (maps None)

  module _ (served : IsFalse (is_fenced r you)) (image : ℕ) where
    no_header : KnowsNoHeader k site image → r.headers image ≡ None
    no_header (inl drawn) = (t.drawn image drawn).header
    no_header (inr gone) = (t.gone image gone).header

    never_owned : (condition : Sharing → HeaderView → Type 0) → OwnsBy j site image condition → KnowsNoHeader k site image → ⊥
    never_owned condition owns without = not_waiting site r you j image condition u served owns (no_header without)

    -- the other didn't draw the id, nor remove the header
    never_drawn : is_drawn j.drawn site image ≡ true → KnowsNoHeader k site image → ⊥
    never_drawn theirs (inl drawn) = true≢false (sym theirs ∙ beside.apart image drawn)
    never_drawn theirs (inr gone) = true≢false (sym theirs ∙ beside.gone image gone)

    never_gone : is_gone j.gone site image ≡ true → KnowsNoHeader k site image → ⊥
    never_gone theirs (inl drawn) = true≢false (sym drawn ∙ beside.gone_there image theirs)
    never_gone theirs (inr gone) = true≢false (sym theirs ∙ beside.removed image gone)

    resized_counts : (count : ℕ) → MayLengthen j site image count → IsCounted image (maps_behind (r.maps image) (states.Resize count))
    resized_counts count (inl makes) without = absurd (never_drawn makes.drawn without)
    resized_counts count (inr owns) without = absurd (never_owned _ owns without)

    removed_counts : (snap : ℕ) → PermitsOnMap j site image (states.Remove (Some snap)) → IsCounted image (maps_behind (r.maps image) (states.Remove (Some snap)))
    removed_counts snap (inl left) without = absurd (never_gone left.gone without)
    removed_counts snap (inr owns) without = absurd (never_owned _ owns without)

    counted_beside : (o : MapOp) → PermitsOnMap j site image o → IsCounted image (maps_behind (r.maps image) o)
    counted_beside (states.Resize count) permits = resized_counts count permits
    counted_beside (states.Get view) permits = λ without. subst (IsCountTrue (maps_of k.maps site image).count) (sym (same_again (r.maps image) view None)) (t.counted image without)
    counted_beside (states.Put (Some snap) bits) permits = λ without. absurd (never_owned _ permits without)
    counted_beside (states.Set None object state) permits = λ without. absurd (never_owned _ permits without)
    counted_beside (states.Remove None) permits = λ without. absurd (never_gone permits.0.gone without)
    counted_beside (states.Remove (Some snap)) permits = removed_counts snap permits
    counted_beside _ permits = elim permits [ ]

  counted_served : IsFalse (is_fenced r you) → (o : Op) → Permits j site o → (image : ℕ) → IsCounted image ((after_served r you o).maps image)
  counted_served served (op.Directory o) permits image = t.counted image
  counted_served served (op.Children o) permits image = t.counted image
  counted_served served (op.BlockAdd i) permits image = t.counted image
  counted_served served (op.Header other o) permits image = t.counted image
  counted_served served (op.Data other number o) permits image = t.counted image
  counted_served served (op.Map other o) permits image = each_image IsCounted r you other o (counted_beside served other o permits) t.counted image
  counted_served served _ permits image = elim permits [ ]

  pub counted_kept : (o : Op) → Permits j site o → (image : ℕ) → IsCounted image ((after r you o).maps image)
  counted_kept o permits image = after_free (λ s. IsCounted image (s.maps image)) r you o (t.counted image) (λ served. counted_served served o permits image)
