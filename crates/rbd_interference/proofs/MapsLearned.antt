-- What a request learns of object maps by its own operations is true.
use Rattle.std.proofs.Common.{◌≡◌, ◌≢◌, inl, inr, ℕ, ◌*◌, ◌<◌, ◌≤◌, cond, true, false, List, [], length, get_or, set, unwrap_or, Option, Some, None, option_map, refl, sym, ap, ◌∙◌, subst, arith, ◌==◌, Bool}
use Rattle.std.specs.Prelude.{IsFalse, IsSome, is_some}
use Rattle.std.proofs.lemmas.Bool.{eq-eqb, ne_eqb, true≢false}
use Rattle.std.proofs.lemmas.List.{length-set}
use Rattle.std.proofs.lemmas.Option.{none-some, same_Some}
use Rattle.rbd_kinds.specs.declared.answer.Answer.{Answer}
use Rattle.rbd_kinds.specs.declared.answer.Answer.TheVariants as answer
use Rattle.rbd_kinds.specs.declared.header.HeaderView.{HeaderView}
use Rattle.rbd_kinds.specs.declared.id.Instance.{Instance}
use Rattle.rbd_kinds.specs.declared.id.SiteId.{SiteId}
use Rattle.rbd_kinds.specs.declared.id.SiteId.TheVariants as sites
use Rattle.rbd_kinds.specs.declared.map_op.MapOp.{MapOp}
use Rattle.rbd_kinds.specs.declared.map_op.MapOp.TheVariants as states
use Rattle.rbd_kinds.specs.declared.operation.Op.TheVariants as op
use Rattle.rbd_machine.specs.Knowledge.{ImageMaps, Knowledge, MapsKnown, is_at, is_drawn, is_fenced_by, learned_of_map, maps_of, maps_told, marks_after, objects_known_of, states_set, unmapped, is_raised, marks_apart, own_of}
use Rattle.rbd_machine.specs.Permits.{HasRoomFor, PermitsOnMap, OwnsBy, OwnsAlone, MayPut, MaySet}
use Rattle.rbd_object.specs.Mapped.{Mapped}
use Rattle.rbd_machine.proofs.AtLeast.{marks_of_others}
use Rattle.rbd_machine.proofs.Lawful.{told_first}
use Rattle.rbd_map.specs.States.{bits_of, states_of}
use Rattle.rbd_site.specs.InForm.{AreInForm}
use Rattle.rbd_site.specs.MapStep.{lengthened}
use Rattle.rbd_site.specs.MapStep as step
use Rattle.rbd_site.specs.Found.{done_where}
use Rattle.rbd_site.specs.Records.{Records, object_at}
use Rattle.rbd_site.specs.Step.{is_fenced, after_served, answer_served}
use Rattle.rbd_site.proofs.MapLemmas.{with_map_same}
use Rattle.rbd_interference.specs.Truth.{AreMapped, AreMapsTrue, AreStatesOf, HasAtLeast, HasNoStates, IsCountTrue, IsPutAs, IsTrueAt, KnowsNoHeader, is_alone_on, known_header, map_len, map_state_in, IsStillOwn}
use Rattle.rbd_interference.proofs.Children.{children_less, children_there, same_children}
use Rattle.rbd_interference.proofs.Each.{IsKnownAs, IsTrueOfImage, each_true, objects_alike, of_all}
use Rattle.rbd_interference.proofs.Headers.{not_waiting, owned_there}
use Rattle.rbd_interference.proofs.MapsBehind.{maps_behind, maps_here, maps_there, nothing_mapped, with_view}
use Rattle.rbd_interference.proofs.NoStates.{none_raised, none_there}
use Rattle.rbd_interference.proofs.Seen.{seen_there}
use Rattle.rbd_interference.proofs.States.{IsMarked, IsNew, WasThere, count_kept, lengthened_state, long_enough, raised_now, raised_still, set_elsewhere, states_changed, states_told, was_marked, marked_apart}

-- ---- what is known of an image's maps from now on

pub at_no_other : (site : SiteId) (image other : ℕ) → other ≢ image → is_at site other site image ≡ false
at_no_other sites.A image other differ = ne_eqb image other (λ same. differ (sym same))
at_no_other sites.B image other differ = ne_eqb image other (λ same. differ (sym same))

pub told_of_others : (site : SiteId) (image : ℕ) (m : MapsKnown) (maps : List ImageMaps) (other : ℕ) → other ≢ image → maps_of (maps_told site image m maps) site other ≡ maps_of maps site other
told_of_others site image m maps other differ = ap (λ b. cond b m (maps_of maps site other)) (at_no_other site image other differ)

pub maps_known : (site : SiteId) (k : Knowledge) (image : ℕ) (m : MapsKnown) (i : ℕ) → i ≢ image → IsKnownAs site (record k { maps = maps_told site image m k.maps }) k i
maps_known site k image m i other = record { own = refl; drawn = refl; maps = told_of_others site image m k.maps i other; objects = refl; gone = refl; seen = refl }

-- What it learned of one image's maps, where all else is as it was.
pub maps_are_true : (site : SiteId) (r new : Records) (me : Instance) (k : Knowledge) (image : ℕ) (m : MapsKnown) → IsTrueAt site r me k
    → (IsFalse (is_fenced new me) → IsFalse (is_fenced r me)) → ((i : Instance) → is_fenced_by k.fenced site i ≡ true → is_fenced new i ≡ true)
    → new.children ≡ r.children → ((i : ℕ) → new.headers i ≡ r.headers i) → ((i n : ℕ) → object_at new i n ≡ object_at r i n) → r.directory.drawn ≤ new.directory.drawn
    → ((i : ℕ) → i ≢ image → new.maps i ≡ r.maps i)
    → (IsFalse (is_fenced r me) → IsSome (known_header k site image) → AreMapsTrue (is_alone_on k site image) (new.maps image) m)
    → (KnowsNoHeader k site image → IsCountTrue m.count (new.maps image None))
    → (is_drawn k.drawn site image ≡ true → HasNoStates (new.maps image None))
    → IsTrueAt site new me (record k { maps = maps_told site image m k.maps })
maps_are_true site r new me k image m t was fences children headers objects drawn others here counts unraised =
    of_all site new me learnt
    (each_true site r new me k learnt image t was fences it (maps_known site k image m) (λ i other. record { header = headers i; maps = others i other; objects = objects i; drawn = drawn }))
    (children_less site new me learnt k (same_children site learnt k refl refl refl refl refl) (children_there site r new me k (record { children = children; headers = headers }) was t.children))
  where
    learnt : Knowledge
    learnt = record k { maps = maps_told site image m k.maps }

    told : maps_of learnt.maps site image ≡ m
    told = told_first site image m k.maps

    it : IsTrueOfImage site new me learnt image
    it = record {
      owned = λ free. subst (IsStillOwn (own_of k.owns site image)) (sym (headers image)) (t.owned (was free) image);
      drawn = λ d. let w = t.drawn image d in let before = w.drawn in record { drawn = omega (arith, before, drawn); header = headers image ∙ w.header; blank = λ n. objects image n ∙ w.blank n; unraised = unraised d };
      mapped = λ free known. subst (AreMapsTrue (is_alone_on k site image) (new.maps image)) (sym told) (here (was free) known);
      objects = λ free h known.
          objects_alike (is_alone_on k site image) h.layout (object_at r image) (object_at new image) (objects_known_of k.objects site image) (λ n. ap (λ (o : Mapped). o.head) (objects image n))
          (t.objects (was free) image h known);
      gone = λ gone. let g = t.gone image gone in let before = g.drawn in record { drawn = omega (arith, before, drawn); header = headers image ∙ g.header };
      apart = t.apart image;
      counted = λ without. subst (λ n. IsCountTrue n.count (new.maps image None)) (sym told) (counts without);
      seen = λ h among. seen_there r new image h (headers image) drawn (t.seen image h among);
      strange = t.strange image;
    }

module _ (site : SiteId) (r : Records) (me : Instance) (k : Knowledge) (most : ℕ) (form : AreInForm r most) (mapped : AreMapped r) (t : IsTrueAt site r me k) (free : IsFalse (is_fenced r me)) (image : ℕ) where
  abbrev known_of_it : MapsKnown
  known_of_it = maps_of k.maps site image

  -- by an operation on one of them
  told_true : (o : MapOp) (m : MapsKnown) → PermitsOnMap k site image o → (IsSome (known_header k site image) → AreMapsTrue (is_alone_on k site image) (maps_behind (r.maps image) o) m)
      → (KnowsNoHeader k site image → IsCountTrue m.count (maps_behind (r.maps image) o None))
      → IsTrueAt site (after_served r me (op.Map image o)) me (record k { maps = maps_told site image m k.maps })
  told_true o m permits here counts =
      maps_are_true site r (after_served r me (op.Map image o)) me k image m t (λ f. f) t.fenced refl (λ i. refl) (λ i n. refl) (omega arith) (maps_there r me image o)
      (λ f known. subst (λ maps. AreMapsTrue (is_alone_on k site image) maps m) (sym (maps_here r me image o)) (here known))
      (λ without. subst (λ maps. IsCountTrue m.count (maps None)) (sym (maps_here r me image o)) (counts without))
      (λ drawn. let w = t.drawn image drawn in none_there r me image o image w.unraised (λ same. none_raised site r k me t free image o permits w.header w.unraised))

  abbrev Teaches : MapOp → Answer → Type 0
  Teaches o a = IsTrueAt site (after_served r me (op.Map image o)) me (learned_of_map k site image o a)

  resized : (count : ℕ) → PermitsOnMap k site image (states.Resize count) → Teaches (states.Resize count) answer.Done
  resized count permits =
      told_true (states.Resize count) (record { raised = known_of_it.raised; states = None; count = Some count; put = None }) permits
      (λ known. let was = t.mapped free image known in record {
        raised = λ view n marked. longer view n (was.raised view n marked);
        states = λ alone told e. absurd (none-some told e);
        count = λ alone. long;
        put = λ alone snap e. absurd (none-some snap e);
      })
      (λ without. long)
    where
      longer : (view : Option ℕ) (n : ℕ) → map_state_in (r.maps image view) n ≢ 0 → map_state_in (maps_behind (r.maps image) (states.Resize count) view) n ≢ 0
      longer None n raised = λ zeroed. raised (sym (lengthened_state (r.maps image None) count n) ∙ zeroed)
      longer (Some t) n raised = raised

      long : HasAtLeast count (Some (lengthened count (unwrap_or (r.maps image None) [])))
      long = record { there = lengthened count (unwrap_or (r.maps image None) []); is = refl; long = long_enough count (unwrap_or (r.maps image None) []) }

  -- what a look tells of the head's states
  got : (map : Option (List ℕ)) → r.maps image None ≡ map → IsTrueAt site r me (learned_of_map k site image (states.Get None) (step.states_answer map))
  got None is = t
  got (Some there) is =
      maps_are_true site r r me k image (record known_of_it { states = Some (states_of (bits_of there) (4 * length (bits_of there))) }) t (λ f. f) t.fenced refl (λ i. refl) (λ i n. refl) (omega arith) (λ i other. refl)
      (λ f known. let was = t.mapped free image known in record {
        raised = was.raised;
        states = λ alone told e. subst (λ s. AreStatesOf s (r.maps image None)) (same_Some _ told e) (subst (AreStatesOf (states_of (bits_of there) (4 * length (bits_of there)))) (sym is) (states_told there (form.maps image None there is)));
        count = was.count;
        put = was.put;
      })
      (t.counted image)
      (λ drawn. (t.drawn image drawn).unraised)

  put_there : (snap : ℕ) (bits : List ℕ) → OwnsAlone k site image (MayPut known_of_it snap bits) → Teaches (states.Put (Some snap) bits) answer.Done
  put_there snap bits owns =
      told_true (states.Put (Some snap) bits) (record known_of_it { raised = marks_apart (Some snap) known_of_it.raised; put = Some snap }) owns
      (λ known. let was = t.mapped free image known in record {
        raised = λ view n marked. others view n was marked;
        states = was.states;
        count = was.count;
        put = λ alone s e. subst (λ n. IsPutAs (maps_behind (r.maps image) (states.Put (Some snap) bits) (Some n)) (r.maps image None)) (same_Some snap s e) (copied (was.states alone (states_of bits (4 * length bits)) owns.meets.1.told));
      })
      (t.counted image)
    where
      -- it knows no state of the new map
      others : (view : Option ℕ) (n : ℕ) → AreMapsTrue (is_alone_on k site image) (r.maps image) known_of_it → is_raised view n (marks_apart (Some snap) known_of_it.raised) ≡ true
          → map_state_in (maps_behind (r.maps image) (states.Put (Some snap) bits) view) n ≢ 0
      others None n was marked = was.raised None n (sym (marks_of_others None (Some snap) n known_of_it.raised) ∙ marked)
      others (Some t) n was marked = by (t == snap) (sym (marks_of_others (Some t) (Some snap) n known_of_it.raised) ∙ marked)
        where
          by : (b : Bool) → cond b false (is_raised (Some t) n known_of_it.raised) ≡ true → map_state_in (cond b (Some (states_of bits (4 * length bits))) (r.maps image (Some t))) n ≢ 0
          by true gone = absurd (true≢false (sym gone))
          by false there = was.raised (Some t) n there

      copied : AreStatesOf (states_of bits (4 * length bits)) (r.maps image None) → IsPutAs (maps_behind (r.maps image) (states.Put (Some snap) bits) (Some snap)) (r.maps image None)
      copied are = record {
        there = states_of bits (4 * length bits);
        is = ap (λ b. cond b (Some (states_of bits (4 * length bits))) (r.maps image (Some snap))) (eq-eqb snap snap refl);
        same = λ n. are.same n ∙ sym (ap (λ map. map_state_in map n) are.is);
        long = let long = are.long in let len : map_len (r.maps image None) ≡ length are.there = ap map_len are.is in omega (arith, long, len);
      }

  -- ---- a state is set

  abbrev MaySetIt : (object state : ℕ) → Type 0
  MaySetIt object state = OwnsBy k site image (MaySet (objects_known_of k.objects site image) k.turn object state)

  -- an object of the size is one of the head's map
  pub within_map : (object state : ℕ) (owns : MaySetIt object state) (map : Option (List ℕ)) → r.maps image None ≡ map → object < map_len map
  within_map object state owns map is =
      let there = owned_there site r me k image _ t free owns in
      let (x, inside, at) = owns.meets.within in
      let room : HasRoomFor there.view.layout there.view.size (map_len (r.maps image None)) = (mapped.images image there.view there.is).room.head in
      let room_of_own : HasRoomFor owns.header.layout owns.header.size (map_len (r.maps image None)) = subst (λ (h : HeaderView). HasRoomFor h.layout h.size (map_len (r.maps image None))) there.still.same room in
      subst (λ m. object < map_len m) is (subst (λ n. n < map_len (r.maps image None)) at (room_of_own x inside))

  abbrev known_set : (object state : ℕ) → MapsKnown
  known_set object state = record { raised = marks_after None object state known_of_it.raised; states = states_set None object state known_of_it.states; count = known_of_it.count; put = None }

  set_there : (object state : ℕ) (owns : MaySetIt object state) (map : Option (List ℕ)) → r.maps image None ≡ map
      → IsTrueAt site (after_served r me (op.Map image (states.Set None object state))) me (learned_of_map k site image (states.Set None object state) (done_where (is_some map)))
  set_there object state owns None is = absurd (let below = within_map object state owns None is in omega (arith, below))
  set_there object state owns (Some there) is =
      told_true (states.Set None object state)
      (known_set object state) owns
      (λ known. let was = t.mapped free image known in subst (λ map. AreMapsTrue (is_alone_on k site image) (with_view (r.maps image) None (option_map (λ s. set s object state) map)) (known_set object state)) (sym is) (record {
        raised = λ view n e. at view was n e;
        states = λ alone told e. changed was alone known_of_it.states refl told e;
        count = λ alone. count_kept known_of_it.count there (set there object state) (rw (length-set there object state) (omega arith)) (subst (IsCountTrue known_of_it.count) is (was.count alone));
        put = λ alone snap e. absurd (none-some snap e);
      }))
      (λ without. absurd (by without))
    where
      within : object < length there
      within = within_map object state owns (Some there) is

      by : KnowsNoHeader k site image → ⊥
      by (inl drawn) = not_waiting site r me k image _ t free owns (t.drawn image drawn).header
      by (inr gone) = not_waiting site r me k image _ t free owns (t.gone image gone).header

      raised : AreMapsTrue (is_alone_on k site image) (r.maps image) known_of_it → (n : ℕ) → IsMarked object state n known_of_it.raised → get_or (set there object state) n 0 ≢ 0
      raised was n (IsNew same raises) = λ zeroed. raised_now there object state within raises (ap (λ i. get_or (set there object state) i 0) same ∙ zeroed)
      raised was n (WasThere before (inl raises)) = raised_still there object state n within raises (λ zeroed. was.raised None n before (ap (λ map. map_state_in map n) is ∙ zeroed))
      raised was n (WasThere before (inr other)) = set_elsewhere (Some there) object state n other (λ zeroed. was.raised None n before (ap (λ map. map_state_in map n) is ∙ zeroed))

      at : (view : Option ℕ) → AreMapsTrue (is_alone_on k site image) (r.maps image) known_of_it → (n : ℕ) → is_raised view n (marks_after None object state known_of_it.raised) ≡ true
          → map_state_in (with_view (r.maps image) None (Some (set there object state)) view) n ≢ 0
      at None was n e = raised was n (was_marked object state n known_of_it.raised e)
      at (Some snap) was n e = was.raised (Some snap) n (marked_apart object state snap n known_of_it.raised e)

      changed : AreMapsTrue (is_alone_on k site image) (r.maps image) known_of_it → is_alone_on k site image ≡ true → (known : Option (List ℕ)) → known_of_it.states ≡ known
          → (told : List ℕ) → option_map (λ s. set s object state) known ≡ Some told → AreStatesOf told (Some (set there object state))
      changed was alone None before told e = absurd (none-some told e)
      changed was alone (Some known) before told e =
          subst (λ s. AreStatesOf s (Some (set there object state))) (same_Some _ told e)
          (states_changed known there object state within (subst (AreStatesOf known) is (was.states alone known before)))

  -- ---- a map is removed

  removed : (view : Option ℕ) → PermitsOnMap k site image (states.Remove view) → (map : Option (List ℕ)) → r.maps image view ≡ map → Teaches (states.Remove view) (done_where (is_some map))
  removed view permits None is = subst (λ s. IsTrueAt site s me k) (sym (with_map_same image view None r (sym is))) t
  removed view permits (Some there) is =
      told_true (states.Remove view) unmapped permits (λ known. nothing_mapped (is_alone_on k site image) (maps_behind (r.maps image) (states.Remove view))) (λ without. tt)

  -- ---- any of them

  looked : (view : Option ℕ) → after_served r me (op.Map image (states.Get view)) ≡ r
  looked view = with_map_same image view (r.maps image view) r refl

  pub map_taught : (o : MapOp) → PermitsOnMap k site image o → Teaches o (answer_served r me (op.Map image o))
  map_taught (states.Resize count) permits = resized count permits
  map_taught (states.Get None) permits = subst (λ s. IsTrueAt site s me (learned_of_map k site image (states.Get None) (step.states_answer (r.maps image None)))) (sym (looked None)) (got (r.maps image None) refl)
  map_taught (states.Get (Some snap)) permits = subst (λ s. IsTrueAt site s me k) (sym (looked (Some snap))) t
  map_taught (states.Put (Some snap) bits) permits = put_there snap bits permits
  map_taught (states.Set None object state) permits = set_there object state permits (r.maps image None) refl
  map_taught (states.Remove None) permits = removed None permits (r.maps image None) refl
  map_taught (states.Remove (Some snap)) permits = removed (Some snap) permits (r.maps image (Some snap)) refl
  map_taught _ permits = elim permits [ ]
