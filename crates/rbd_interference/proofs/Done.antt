-- What is permitted may be done, and is answered as it can be.
use Rattle.std.proofs.Common.{◌≡◌, inl, inr, ℕ, ◌+◌, ◌*◌, ◌^◌, ◌≤◌, ◌||◌, cond, not, Bool, true, false, List, [], ◌∷◌, length, length-append, Option, Some, None, is_some, refl, sym, ap, ◌∙◌, subst, arith, true≢false}
use Rattle.std.proofs.lemmas.Option.{slice_get_within, get_or_from_slice_get}
use Rattle.std.specs.FinSet as finset
use Rattle.std.specs.Prelude.{All, IsFalse, IsSome}
use Rattle.rbd_layout.proofs.Limits.{shape_of}
use Rattle.rbd_parts.proofs.ContentsLemmas.{length-window}
use Rattle.rbd_parts.specs.Contents.{window}
use Rattle.rbd_kinds.specs.declared.answer.Answer.TheVariants as answer
use Rattle.rbd_kinds.specs.declared.children_op.ChildrenOp.{ChildrenOp}
use Rattle.rbd_kinds.specs.declared.children_op.ChildrenOp.TheVariants as child
use Rattle.rbd_kinds.specs.declared.data_op.DataOp.{DataOp}
use Rattle.rbd_kinds.specs.declared.data_op.DataOp.TheVariants as object
use Rattle.rbd_kinds.specs.declared.directory_op.DirectoryOp.{DirectoryOp}
use Rattle.rbd_kinds.specs.declared.directory_op.DirectoryOp.TheVariants as directory
use Rattle.rbd_kinds.specs.declared.header.HeaderView.{HeaderView}
use Rattle.rbd_kinds.specs.declared.header.SnapContext.{SnapContext}
use Rattle.rbd_kinds.specs.declared.header_op.HeaderOp.{HeaderOp}
use Rattle.rbd_kinds.specs.declared.header_op.HeaderOp.TheVariants as header
use Rattle.rbd_kinds.specs.declared.id.Instance.{Instance}
use Rattle.rbd_kinds.specs.declared.id.SiteId.{SiteId}
use Rattle.rbd_kinds.specs.declared.layout.Layout.{Layout}
use Rattle.rbd_kinds.specs.declared.layout.Part.{Part}
use Rattle.rbd_kinds.specs.declared.map_op.MapOp.{MapOp}
use Rattle.rbd_kinds.specs.declared.map_op.MapOp.TheVariants as states
use Rattle.rbd_kinds.specs.declared.operation.Op.{Op}
use Rattle.rbd_kinds.specs.declared.operation.Op.TheVariants as op
use Rattle.rbd_kinds.specs.declared.sharing.Sharing.{Sharing}
use Rattle.rbd_kinds.specs.Sharing.{is_alone}
use Rattle.rbd_kinds.specs.Form.{HasFewObjects}
use Rattle.rbd_kinds.specs.Parts.{parts_len}
use Rattle.rbd_kinds.specs.Striping.{IsLayout}
use Rattle.rbd_kinds.specs.Instances.{same_instance}
use Rattle.rbd_object.specs.Mapped.{versioned}
use Rattle.rbd_parts.specs.Parts.{AreWithin, parts_of}
use Rattle.rbd_object.specs.Versioned.{view}
use Rattle.rbd_parts.specs.declared.parts.TheConstants.{LARGEST_OBJECT}
use Rattle.rbd_registry.specs.Directory.{holds_id, id_of}
use Rattle.rbd_registry.specs.Directory as listing
use Rattle.rbd_machine.specs.Answers.{CanGive, gives}
use Rattle.rbd_machine.specs.Knowledge.{Knowledge, maps_of, objects_known_of}
use Rattle.rbd_machine.specs.Permits.{Permits, PermitsOnHeader, PermitsOnMap, PermitsOnObject, IsLeftOver, LiesBelow, MayLengthen, MayPut, MayReplace, MaySet, MaySize, MayWrite, OwnsAlone, OwnsBy}
use Rattle.rbd_machine.specs.Refused.{IsGiven, finds_image}
use Rattle.rbd_map.specs.States.{states_of}
use Rattle.rbd_map.proofs.Packing.{hold_states, length-states_of}
use Rattle.rbd_site.specs.DataStep.{finds, parts_read}
use Rattle.rbd_site.specs.DataStep as step
use Rattle.rbd_site.specs.ChildrenStep.{entry}
use Rattle.rbd_site.specs.DirectoryStep.{name_added, name_changed, image_found}
use Rattle.rbd_site.specs.Found.{done_where}
use Rattle.rbd_site.specs.HeaderStep.{MayDoOnHeader, header_answer, is_owner, lock_taken}
use Rattle.rbd_site.specs.InForm.{AreInForm}
use Rattle.rbd_site.specs.MapStep.{AreBits, MaySetState, states_answer}
use Rattle.rbd_site.specs.Records.{Records, object_at}
use Rattle.rbd_site.specs.Step.{MayDo, MayServe, is_fenced, answer_to, answer_served}
use Rattle.rbd_interference.specs.Truth.{AreMapped, HasAtLeast, IsCountTrue, IsTrueAt, is_own_alone}
use Rattle.rbd_interference.proofs.Fenced.{where_free}
use Rattle.rbd_interference.proofs.Headers.{own_known, owned_there, same_layout}
use Rattle.rbd_interference.proofs.MapsLearned.{within_map}
use Rattle.rbd_interference.proofs.Learned.{marks, takes, removes}

-- ---- the site's condition

small : (l : Layout) → IsLayout l → l.object ≤ LARGEST_OBJECT
small l is = (shape_of l is).object_most

within : (h : HeaderView) (number : ℕ) (parts : List Part) → IsLayout h.layout → All (LiesBelow h number) parts → AreWithin parts
within h number parts laid lie k p there =
    let part : LiesBelow h number p = subst (LiesBelow h number) (get_or_from_slice_get parts k p p there) (lie k p (slice_get_within parts k p there)) in
    let ends = part.part.within in
    let most = small h.layout laid in
    omega (arith, ends, most)

len_of_parts : (parts : List Part) (bytes : List ℕ) → length (parts_of parts bytes) ≡ parts_len parts
len_of_parts [] bytes = refl
len_of_parts (p ∷ parts) bytes =
    length-append (window bytes p.offset p.len) (parts_of parts bytes)
    ∙ ap (λ n. n + length (parts_of parts bytes)) (length-window bytes p.offset p.len)
    ∙ ap (λ n. p.len + n) (len_of_parts parts bytes)

-- each of them can be answered fenced
map_fence_given : (k : Knowledge) (site : SiteId) (image : ℕ) (o : MapOp) → PermitsOnMap k site image o → CanGive (op.Map image o) answer.Fenced
map_fence_given k site image (states.Get view) permits = record { word = refl; form = tt }
map_fence_given k site image o permits = record { word = refl; form = tt }

fence_given : (k : Knowledge) (site : SiteId) (o : Op) → Permits k site o → CanGive o answer.Fenced
fence_given k site (op.Directory o) permits = record { word = refl; form = tt }
fence_given k site (op.Children o) permits = record { word = refl; form = tt }
fence_given k site (op.BlockAdd i) permits = record { word = refl; form = tt }
fence_given k site (op.Header image header.Get) permits = record { word = refl; form = tt }
fence_given k site (op.Header image o) permits = record { word = refl; form = tt }
fence_given k site (op.Data image number (object.Read snap parts)) permits = record { word = refl; form = tt }
fence_given k site (op.Data image number o) permits = record { word = refl; form = tt }
fence_given k site (op.Map image o) permits = map_fence_given k site image o permits
fence_given k site _ permits = elim permits [ ]

-- and then nothing is missed
fence_found : (o : Op) → finds_image o answer.Fenced ≡ true
fence_found (op.Header image (header.SetSize to)) = refl
fence_found (op.Header image header.Remove) = refl
fence_found (op.Header image _) = refl
fence_found (op.Map image (states.Set None object state)) = refl
fence_found (op.Map image (states.Remove None)) = refl
fence_found (op.Map image _) = refl
fence_found o = refl

-- of an instance that isn't fenced
module _ (site : SiteId) (r : Records) (me : Instance) (k : Knowledge) (most : ℕ) (form : AreInForm r most) (t : IsTrueAt site r me k) (free : IsFalse (is_fenced r me)) where
  -- the layout that it knows is one
  laid : (image : ℕ) (condition : Sharing → HeaderView → Type 0) (owns : OwnsBy k site image condition) → IsLayout owns.header.layout
  laid image condition owns =
      let there = owned_there site r me k image condition t free owns in
      same_layout owns.sharing owns.header there.view there.still (form.form image there.view there.is).layout

  pub may_write : (image number : ℕ) (context : SnapContext) (parts : List Part) (bytes : List ℕ) → OwnsBy k site image (MayWrite (maps_of k.maps site image) k.turn number context parts bytes) → step.MayWriteParts parts bytes
  may_write image number context parts bytes owns =
      record { within = within owns.header number parts (laid image _ owns) owns.meets.within; long = owns.meets.long }

  may_replace : (image number : ℕ) (context : SnapContext) (bytes : List ℕ) → OwnsBy k site image (MayReplace (maps_of k.maps site image) k.turn number context bytes) → length bytes ≤ LARGEST_OBJECT
  may_replace image number context bytes owns = let long = owns.meets.long in let most = small owns.header.layout (laid image _ owns) in omega (arith, long, most)

  -- a size has few objects
  may_size : (image to : ℕ) → OwnsAlone k site image (MaySize (maps_of k.maps site image) (objects_known_of k.objects site image) to) → MayServe r (op.Header image (header.SetSize to))
  may_size image to owns =
      let there = owned_there site r me k image _ t free owns in
      subst (λ h. MayDoOnHeader h (header.SetSize to)) (sym there.is) (subst (λ (h : HeaderView). HasFewObjects h.layout to) (sym there.still.same) owns.meets.1.few)

module _ (site : SiteId) (r : Records) (me : Instance) (k : Knowledge) (most : ℕ) (form : AreInForm r most) (mapped : AreMapped r) (t : IsTrueAt site r me k) (free : IsFalse (is_fenced r me)) where
  -- a map is as long as the states that it is put from
  may_put : (image snap : ℕ) (bits : List ℕ) → OwnsAlone k site image (MayPut (maps_of k.maps site image) snap bits) → AreBits bits
  may_put image snap bits owns =
      let known = own_known k site image _ owns in
      let are = (t.mapped free image (ap is_some known)).states (ap is_own_alone owns.is ∙ ap is_alone owns.meets.0) (states_of bits (4 * length bits)) owns.meets.1.told in
      record { states = owns.meets.1.hold; long = subst (λ n. n ≤ 2 ^ 20) (length-states_of bits (4 * length bits)) are.few }

  may_set : (image object state : ℕ) → OwnsBy k site image (MaySet (objects_known_of k.objects site image) k.turn object state) → (map : Option (List ℕ)) → r.maps image None ≡ map → MaySetState map object state
  may_set image object state owns None is = tt
  may_set image object state owns (Some there) is = (within_map site r me k most form mapped t free image object state owns (Some there) is, owns.meets.is_state)

  may_on_map : (image : ℕ) (o : MapOp) → PermitsOnMap k site image o → MayServe r (op.Map image o)
  may_on_map image (states.Resize count) permits = few count permits
    where
      few : (count : ℕ) → MayLengthen k site image count → count ≤ 2 ^ 20
      few count (inl makes) = makes.few
      few count (inr owns) = owns.meets.1
  may_on_map image (states.Get view) permits = tt
  may_on_map image (states.Put (Some snap) bits) permits = may_put image snap bits permits
  may_on_map image (states.Set None object state) permits = may_set image object state permits (r.maps image None) refl
  may_on_map image (states.Remove None) permits = tt
  may_on_map image (states.Remove (Some snap)) permits = tt
  may_on_map image _ permits = elim permits [ ]

  may_serve : (o : Op) → Permits k site o → MayServe r o
  may_serve (op.Directory o) permits = tt
  may_serve (op.Children o) permits = tt
  may_serve (op.BlockAdd i) permits = tt
  may_serve (op.Header image header.Get) permits = tt
  may_serve (op.Header image (header.Create view)) permits = permits.new
  may_serve (op.Header image (header.SetSize to)) permits = may_size site r me k most form t free image to permits
  may_serve (op.Header image header.Remove) permits = tt
  may_serve (op.Header image (header.SnapAdd name)) permits = tt
  may_serve (op.Header image (header.SnapRemove snap)) permits = tt
  may_serve (op.Header image (header.SnapStatus snap status)) permits = tt
  may_serve (op.Header image header.LockTake) permits = tt
  may_serve (op.Header image header.LockDrop) permits = tt
  may_serve (op.Header image (header.LockBreak owner)) permits = tt
  may_serve (op.Header image header.Watch) permits = tt
  may_serve (op.Header image header.Unwatch) permits = tt
  may_serve (op.Header image header.WatchersGet) permits = tt
  may_serve (op.Header image (header.Notify kind)) permits = tt
  may_serve (op.Header image _) permits = elim permits [ ]
  may_serve (op.Data image number (object.Read snap parts)) permits = tt
  may_serve (op.Data image number (object.Write context must parts bytes)) permits = may_write site r me k most form t free image number context parts bytes permits
  may_serve (op.Data image number (object.WriteFull context bytes)) permits = may_replace site r me k most form t free image number context bytes permits
  may_serve (op.Data image number (object.Zero context must parts)) permits = tt
  may_serve (op.Data image number (object.Empty context)) permits = tt
  may_serve (op.Data image number (object.Remove context)) permits = tt
  may_serve (op.Data image number _) permits = elim permits [ ]
  may_serve (op.Map image o) permits = may_on_map image o permits
  may_serve _ permits = elim permits [ ]

  -- ---- its answer

  directory_gives_it : (o : DirectoryOp) → CanGive (op.Directory o) (answer_served r me (op.Directory o))
  directory_gives_it (directory.Find name) = record { word = by (id_of r.directory name); form = tt }
    where
      by : (held : Option ℕ) → gives (op.Directory (directory.Find name)) (image_found held) ≡ true
      by None = refl
      by (Some image) = refl
  directory_gives_it directory.List = record { word = refl; form = tt }
  directory_gives_it (directory.Add name) = record { word = by (id_of r.directory name) (listing.is_full r.directory); form = tt }
    where
      by : (held : Option ℕ) (full : Bool) → gives (op.Directory (directory.Add name)) (name_added held full (r.directory.drawn + 1)) ≡ true
      by (Some image) full = refl
      by None true = refl
      by None false = refl
  directory_gives_it (directory.Rename from to) = record { word = by (id_of r.directory from) (id_of r.directory to); form = tt }
    where
      by : (held taken : Option ℕ) → gives (op.Directory (directory.Rename from to)) (name_changed held taken) ≡ true
      by None taken = refl
      by (Some image) None = refl
      by (Some image) (Some other) = refl
  directory_gives_it (directory.Remove image) = record { word = by (holds_id image r.directory); form = tt }
    where
      by : (held : Bool) → gives (op.Directory (directory.Remove image)) (done_where held) ≡ true
      by true = refl
      by false = refl

  children_give_it : (o : ChildrenOp) → CanGive (op.Children o) (answer_served r me (op.Children o))
  children_give_it (child.Add parent snap image) = record { word = refl; form = tt }
  children_give_it (child.Remove parent snap image) = record { word = by (finset.contains r.children (entry parent snap image)); form = tt }
    where
      by : (there : Bool) → gives (op.Children (child.Remove parent snap image)) (done_where there) ≡ true
      by true = refl
      by false = refl
  children_give_it (child.List parent snap) = record { word = refl; form = tt }

  header_gives_it : (image : ℕ) (o : HeaderOp) → PermitsOnHeader k site image o → CanGive (op.Header image o) (answer_served r me (op.Header image o))
  header_gives_it image header.Get permits = by (r.headers image) refl
    where
      by : (there : Option HeaderView) → r.headers image ≡ there → CanGive (op.Header image header.Get) (header_answer me there (r.watchers image) header.Get)
      by None is = record { word = refl; form = tt }
      by (Some h) is = record { word = refl; form = form.form image h is }
  header_gives_it image (header.Create view) permits =
      subst (λ there. CanGive (op.Header image (header.Create view)) (header_answer me there (r.watchers image) (header.Create view))) (sym (t.drawn image permits.drawn).header) (record { word = refl; form = tt })
  header_gives_it image (header.SetSize to) permits = by (r.headers image)
    where
      by : (there : Option HeaderView) → CanGive (op.Header image (header.SetSize to)) (header_answer me there (r.watchers image) (header.SetSize to))
      by None = record { word = refl; form = tt }
      by (Some h) = record { word = refl; form = tt }
  header_gives_it image header.Remove permits = by (r.headers image)
    where
      by : (there : Option HeaderView) → CanGive (op.Header image header.Remove) (header_answer me there (r.watchers image) header.Remove)
      by None = record { word = refl; form = tt }
      by (Some h) = record { word = refl; form = tt }
  header_gives_it image (header.SnapAdd name) permits =
      subst (CanGive (op.Header image (header.SnapAdd name))) (sym (takes site r me k t free image name permits).answered) (record { word = refl; form = tt })
  header_gives_it image (header.SnapRemove snap) permits =
      subst (CanGive (op.Header image (header.SnapRemove snap))) (sym (removes site r me k t free image snap permits).answered) (record { word = refl; form = tt })
  header_gives_it image (header.SnapStatus snap status) permits =
      subst (CanGive (op.Header image (header.SnapStatus snap status))) (sym (marks site r me k t free image snap status permits).answered) (record { word = refl; form = tt })
  header_gives_it image header.LockTake permits = lock_gives_it (r.headers image)
    where
      by : (same : Bool) (owner : Instance) → CanGive (op.Header image header.LockTake) (cond same answer.Done (answer.Held owner))
      by true owner = record { word = refl; form = tt }
      by false owner = record { word = refl; form = tt }

      of_owner : (owner : Option Instance) → CanGive (op.Header image header.LockTake) (lock_taken me owner)
      of_owner None = record { word = refl; form = tt }
      of_owner (Some owner) = by (same_instance owner me) owner

      lock_gives_it : (there : Option HeaderView) → CanGive (op.Header image header.LockTake) (header_answer me there (r.watchers image) header.LockTake)
      lock_gives_it None = record { word = refl; form = tt }
      lock_gives_it (Some h) = of_owner h.owner
  header_gives_it image header.LockDrop permits = by (r.headers image)
    where
      left : (b : Bool) → CanGive (op.Header image header.LockDrop) (cond b answer.Done answer.Changed)
      left true = record { word = refl; form = tt }
      left false = record { word = refl; form = tt }

      by : (there : Option HeaderView) → CanGive (op.Header image header.LockDrop) (header_answer me there (r.watchers image) header.LockDrop)
      by None = record { word = refl; form = tt }
      by (Some h) = left (is_owner me h.owner)
  header_gives_it image (header.LockBreak owner) permits = by (r.headers image)
    where
      left : (b : Bool) → CanGive (op.Header image (header.LockBreak owner)) (cond b answer.Done answer.Changed)
      left true = record { word = refl; form = tt }
      left false = record { word = refl; form = tt }

      by : (there : Option HeaderView) → CanGive (op.Header image (header.LockBreak owner)) (header_answer me there (r.watchers image) (header.LockBreak owner))
      by None = record { word = refl; form = tt }
      by (Some h) = left (is_owner owner h.owner)
  header_gives_it image header.Watch permits = by (r.headers image)
    where
      by : (there : Option HeaderView) → CanGive (op.Header image header.Watch) (header_answer me there (r.watchers image) header.Watch)
      by None = record { word = refl; form = tt }
      by (Some h) = record { word = refl; form = tt }
  header_gives_it image header.Unwatch permits = by (r.headers image)
    where
      by : (there : Option HeaderView) → CanGive (op.Header image header.Unwatch) (header_answer me there (r.watchers image) header.Unwatch)
      by None = record { word = refl; form = tt }
      by (Some h) = record { word = refl; form = tt }
  header_gives_it image header.WatchersGet permits = by (r.headers image)
    where
      by : (there : Option HeaderView) → CanGive (op.Header image header.WatchersGet) (header_answer me there (r.watchers image) header.WatchersGet)
      by None = record { word = refl; form = tt }
      by (Some h) = record { word = refl; form = tt }
  header_gives_it image (header.Notify kind) permits = by (r.headers image)
    where
      by : (there : Option HeaderView) → CanGive (op.Header image (header.Notify kind)) (header_answer me there (r.watchers image) (header.Notify kind))
      by None = record { word = refl; form = tt }
      by (Some h) = record { word = refl; form = tt }
  header_gives_it image _ permits = elim permits [ ]

  object_gives_it : (image number : ℕ) (o : DataOp) → PermitsOnObject k site image number o → CanGive (op.Data image number o) (answer_served r me (op.Data image number o))
  object_gives_it image number (object.Read snap parts) permits = by (view (versioned (object_at r image number)) snap)
    where
      by : (content : Option (List ℕ)) → CanGive (op.Data image number (object.Read snap parts)) (parts_read parts content)
      by None = record { word = refl; form = tt }
      by (Some bytes) = record { word = refl; form = len_of_parts parts bytes }
  object_gives_it image number (object.Write context must parts bytes) permits = by must (is_some (object_at r image number).head)
    where
      by : (must there : Bool) → CanGive (op.Data image number (object.Write context must parts bytes)) (done_where (not must || there))
      by true true = record { word = refl; form = tt }
      by true false = record { word = refl; form = tt }
      by false there = record { word = refl; form = tt }
  object_gives_it image number (object.WriteFull context bytes) permits = record { word = refl; form = tt }
  object_gives_it image number (object.Zero context must parts) permits = by must (is_some (object_at r image number).head)
    where
      by : (must there : Bool) → CanGive (op.Data image number (object.Zero context must parts)) (done_where (not must || there))
      by true true = record { word = refl; form = tt }
      by true false = record { word = refl; form = tt }
      by false there = record { word = refl; form = tt }
  object_gives_it image number (object.Empty context) permits = record { word = refl; form = tt }
  object_gives_it image number (object.Remove context) permits = record { word = refl; form = tt }
  object_gives_it image number _ permits = elim permits [ ]

  map_gives_it : (image : ℕ) (o : MapOp) → PermitsOnMap k site image o → CanGive (op.Map image o) (answer_served r me (op.Map image o))
  map_gives_it image (states.Resize count) permits = record { word = refl; form = tt }
  map_gives_it image (states.Get view) permits = by (r.maps image view) refl
    where
      by : (map : Option (List ℕ)) → r.maps image view ≡ map → CanGive (op.Map image (states.Get view)) (states_answer map)
      by None is = record { word = refl; form = tt }
      by (Some there) is = record { word = refl; form = hold_states there (form.maps image view there is).are }
  map_gives_it image (states.Put (Some snap) bits) permits = record { word = refl; form = tt }
  map_gives_it image (states.Set None object state) permits = by (is_some (r.maps image None))
    where
      by : (there : Bool) → CanGive (op.Map image (states.Set None object state)) (done_where there)
      by true = record { word = refl; form = tt }
      by false = record { word = refl; form = tt }
  map_gives_it image (states.Remove None) permits = by (is_some (r.maps image None))
    where
      by : (there : Bool) → CanGive (op.Map image (states.Remove None)) (done_where there)
      by true = record { word = refl; form = tt }
      by false = record { word = refl; form = tt }
  map_gives_it image (states.Remove (Some snap)) permits = by (is_some (r.maps image (Some snap)))
    where
      by : (there : Bool) → CanGive (op.Map image (states.Remove (Some snap))) (done_where there)
      by true = record { word = refl; form = tt }
      by false = record { word = refl; form = tt }
  map_gives_it image _ permits = elim permits [ ]

  served_gives_it : (o : Op) → Permits k site o → CanGive o (answer_served r me o)
  served_gives_it (op.Directory o) permits = directory_gives_it o
  served_gives_it (op.Children o) permits = children_give_it o
  served_gives_it (op.BlockAdd i) permits = record { word = refl; form = tt }
  served_gives_it (op.Header image o) permits = header_gives_it image o permits
  served_gives_it (op.Data image number o) permits = object_gives_it image number o permits
  served_gives_it (op.Map image o) permits = map_gives_it image o permits
  served_gives_it _ permits = elim permits [ ]

  -- ---- and misses no map

  -- of an image that it owns the header is there, and the head's map
  finds_header : (image : ℕ) (o : HeaderOp) (condition : Sharing → HeaderView → Type 0) → OwnsBy k site image condition
      → ((h : HeaderView) → finds_image (op.Header image o) (header_answer me (Some h) (r.watchers image) o) ≡ true) → finds_image (op.Header image o) (header_answer me (r.headers image) (r.watchers image) o) ≡ true
  finds_header image o condition owns by =
      let there = owned_there site r me k image condition t free owns in
      subst (λ h. finds_image (op.Header image o) (header_answer me h (r.watchers image) o) ≡ true) (sym there.is) (by there.view)

  finds_map : (image object state : ℕ) → OwnsBy k site image (MaySet (objects_known_of k.objects site image) k.turn object state) → (map : Option (List ℕ)) → r.maps image None ≡ map
      → finds_image (op.Map image (states.Set None object state)) (done_where (is_some map)) ≡ true
  finds_map image object state owns None is =
      let there = owned_there site r me k image _ t free owns in
      absurd (true≢false (sym (mapped.images image there.view there.is).there.head ∙ ap is_some is))
  finds_map image object state owns (Some map) is = refl

  -- and that of an image whose header it removed, until it removes the map too
  finds_left : (image : ℕ) → IsLeftOver k site image → (count : Option ℕ) → (maps_of k.maps site image).count ≡ count → IsSome count → finds_image (op.Map image (states.Remove None)) (done_where (is_some (r.maps image None))) ≡ true
  finds_left image left None known some = absurd (true≢false (sym some))
  finds_left image left (Some count) known some =
      let has : HasAtLeast count (r.maps image None) = subst (λ c. IsCountTrue c (r.maps image None)) known (t.counted image (inr left.gone)) in
      ap (λ map. finds_image (op.Map image (states.Remove None)) (done_where (is_some map))) has.is

  served_finds_it : (o : Op) → Permits k site o → finds_image o (answer_served r me o) ≡ true
  served_finds_it (op.Header image (header.SetSize to)) permits = finds_header image (header.SetSize to) _ permits (λ h. refl)
  served_finds_it (op.Header image header.Remove) permits = finds_header image header.Remove _ permits (λ h. refl)
  served_finds_it (op.Header image _) permits = refl
  served_finds_it (op.Map image (states.Set None object state)) permits = finds_map image object state permits (r.maps image None) refl
  served_finds_it (op.Map image (states.Remove None)) permits = finds_left image permits.0 (maps_of k.maps site image).count refl permits.1
  served_finds_it (op.Map image _) permits = refl
  served_finds_it o permits = refl

module _ (site : SiteId) (r : Records) (me : Instance) (k : Knowledge) (most : ℕ) (form : AreInForm r most) (mapped : AreMapped r) (t : IsTrueAt site r me k) where
  pub may_do : (o : Op) → Permits k site o → MayDo r me o
  may_do o permits = λ free. may_serve site r me k most form mapped t free o permits

  pub gives_it : (o : Op) → Permits k site o → IsGiven o (answer_to r me o)
  gives_it o permits = where_free (λ a s. IsGiven o a) r me o (record { can = fence_given k site o permits; finds = fence_found o })
      (λ free. record { can = served_gives_it site r me k most form mapped t free o permits; finds = served_finds_it site r me k most form mapped t free o permits })
