-- What is learned at one site says nothing of the other.
use Rattle.std.proofs.Common.{◌≡◌, ◌⊎◌, inl, inr, ℕ, ◌==◌, ◌&&◌, not, cond, Bool, true, false, List, [], ◌∷◌, filter, Option, Some, None, option_map, refl, sym, ap, ◌∙◌, subst}
use Rattle.std.proofs.lemmas.Bool.{true≢false, and_parts}
use Rattle.rbd_kinds.specs.declared.answer.Answer.{Answer}
use Rattle.rbd_kinds.specs.declared.answer.Answer.TheVariants as answer
use Rattle.rbd_kinds.specs.declared.children_op.ChildrenOp.TheVariants as child
use Rattle.rbd_kinds.specs.declared.data_op.DataOp.{DataOp}
use Rattle.rbd_kinds.specs.declared.data_op.DataOp.TheVariants as object
use Rattle.rbd_kinds.specs.declared.directory_op.DirectoryOp.{DirectoryOp}
use Rattle.rbd_kinds.specs.declared.directory_op.DirectoryOp.TheVariants as directory
use Rattle.rbd_kinds.specs.declared.header.HeaderView.{HeaderView}
use Rattle.rbd_kinds.specs.declared.header.ParentLink.{ParentLink}
use Rattle.rbd_kinds.specs.declared.header_op.HeaderOp.{HeaderOp}
use Rattle.rbd_kinds.specs.declared.header_op.HeaderOp.TheVariants as header
use Rattle.rbd_kinds.specs.declared.id.Instance.{Instance}
use Rattle.rbd_kinds.specs.declared.id.SiteId.{SiteId}
use Rattle.rbd_kinds.specs.declared.id.SiteId.TheVariants as site
use Rattle.rbd_kinds.specs.declared.map_op.MapOp.{MapOp}
use Rattle.rbd_kinds.specs.declared.map_op.MapOp.TheVariants as states
use Rattle.rbd_kinds.specs.declared.operation.Op.{Op}
use Rattle.rbd_kinds.specs.declared.operation.Op.TheVariants as op
use Rattle.rbd_kinds.specs.Instances.{same_instance}
use Rattle.rbd_kinds.proofs.Images.{at_itself, same_site_is, same_site_itself}
use Rattle.rbd_header.specs.Header.{detached, with_size, with_snap, without_snap, with_status}
use Rattle.rbd_machine.specs.Ancestors.{HeaderSeen, IsAmong, has_seen, seen_by, ChildBase, ChildLink, SnapPlace}
use Rattle.rbd_machine.specs.Knowledge.{ImageMaps, Knowledge, MapsKnown, ObjectsKnown, Own, ImagePlace, detached_header, first_told, found, header_told, is_at, is_drawn, is_fenced_by, is_gone, knows_head, learned, learned_of_directory, learned_of_header, learned_of_listing, learned_of_map, learned_of_object, learned_own, looked_behind, looked_by, looked_under_lock, maps_of, maps_told, objects_known_of, only_there, own_of, removed_header, same_site, unmapped, with_drawn, with_objects, with_objects_where, without_drawn, without_there, header_alone}
use Rattle.rbd_machine.proofs.AtLeast.{own_as_before, IsNewBase, among_left, base_was}
use Rattle.rbd_machine.specs.Children.{based_by, childless_by, is_base, is_link, is_snap, linked_by, lists_unprotecting, with_childless}
use Rattle.rbd_site.specs.Records.{Records}
use Rattle.rbd_interference.specs.Beside.{AreBeside}
use Rattle.rbd_interference.specs.Truth.{IsTrueAt}
use Rattle.rbd_interference.proofs.Children.{same_children}
use Rattle.rbd_interference.proofs.Told.{told_apart}
use Rattle.rbd_interference.proofs.Less.{IsLess, afresh_less, as_maps, left_there, less_beside, less_itself, less_then, less_true, same_maps, unfenced_less}
use Rattle.rbd_interference.proofs.Seen.{IsSeenLess, same_seen}

-- a site is one of two
apart_sites : (s t there : SiteId) → same_site s t ≡ false → same_site there s ≡ true → same_site there t ≡ false
apart_sites site.A site.A there differ here = absurd (true≢false differ)
apart_sites site.B site.B there differ here = absurd (true≢false differ)
apart_sites site.A site.B site.A differ here = refl
apart_sites site.A site.B site.B differ here = absurd (true≢false (sym here))
apart_sites site.B site.A site.A differ here = absurd (true≢false (sym here))
apart_sites site.B site.A site.B differ here = refl

module _ (s t : SiteId) (differ : same_site s t ≡ false) where
  not_at : (image i : ℕ) (there : SiteId) (place : ℕ) → is_at s image there place ≡ true → is_at t i there place ≡ false
  not_at image i there place here =
      ap (λ b. b && (place == i)) (apart_sites s t there differ (and_parts (same_site there s) (place == image) here).0)

  other_site : s ≡ t → ⊥
  other_site same = true≢false (sym (same_site_itself s) ∙ ap (same_site s) same ∙ differ)

  not_there : (image i : ℕ) → is_at t i s image ≡ false
  not_there image i = ap (λ b. b && (image == i)) differ

  left_drawn : (image i : ℕ) (drawn : List ImagePlace) → is_drawn (filter (λ d. not (is_at s image d.site d.image)) drawn) t i ≡ is_drawn drawn t i
  left_drawn image i [] = refl
  left_drawn image i (d ∷ drawn) = by (is_at s image d.site d.image) refl (left_drawn image i drawn)
    where
      rest : List ImagePlace
      rest = filter (λ d. not (is_at s image d.site d.image)) drawn

      by : (b : Bool) → is_at s image d.site d.image ≡ b → is_drawn rest t i ≡ is_drawn drawn t i
          → is_drawn (filter (λ d. not (is_at s image d.site d.image)) (d ∷ drawn)) t i ≡ is_drawn (d ∷ drawn) t i
      by true here more =
          ap (λ b. is_drawn (cond (not b) (d ∷ rest) rest) t i) here ∙ more
          ∙ sym (ap (λ b. cond b true (is_drawn drawn t i)) (not_at image i d.site d.image here))
      by false there more =
          ap (λ b. is_drawn (cond (not b) (d ∷ rest) rest) t i) there
          ∙ ap (λ found. cond (is_at t i d.site d.image) true found) more

  -- what was told of maps
  told_maps : (image : ℕ) (m : MapsKnown) (maps : List ImageMaps) (i : ℕ) → maps_of (maps_told s image m maps) t i ≡ maps_of maps t i
  told_maps image m maps i = ap (λ b. cond (b && (image == i)) m (maps_of maps t i)) differ

  looked_same : (k : Knowledge) (image : ℕ) → IsLess t (looked_behind s image k) k
  looked_same k image = by (own_of k.owns s image)
    where
      of : (h : Option HeaderView) → IsLess t (looked_by h s image k) k
      of None = afresh_less t s image k
      of (Some h) = less_itself t k

      by : (o : Option Own) → IsLess t (looked_under_lock o s image k) k
      by None = less_itself t k
      by (Some o) = of o.header

  maps_same : (k : Knowledge) (image : ℕ) (m : MapsKnown) → IsLess t (record k { maps = maps_told s image m k.maps }) k
  maps_same k image m = record {
    owns = λ i some. refl;
    drawn = λ i drawn. drawn;
    fenced = λ i known. known;
    maps = λ i. as_maps (maps_of (maps_told s image m k.maps) t i) (maps_of k.maps t i) (told_maps image m k.maps i);
    objects = λ i. inl refl;
    gone = λ i gone. gone;
    seen = same_seen t k.seen;
    children = same_children t _ k refl refl refl refl refl;
  }

  map_same : (k : Knowledge) (image : ℕ) (o : MapOp) (a : Answer) → IsLess t (learned_of_map k s image o a) k
  map_same k image (states.Resize count) answer.Done = maps_same k image _
  map_same k image (states.Get None) (answer.Bits bits) = maps_same k image _
  map_same k image (states.Put (Some snap) bits) answer.Done = maps_same k image _
  map_same k image (states.Set view object state) answer.Done = maps_same k image _
  map_same k image (states.Remove view) answer.Done = maps_same k image _
  map_same k image _ _ = less_itself t k

  objects_same : (k : Knowledge) (image : ℕ) (o : ObjectsKnown) → IsLess t (record k { objects = record { site = s; image = image; known = o } ∷ k.objects }) k
  objects_same k image o = record {
    owns = λ i some. refl;
    drawn = λ i drawn. drawn;
    fenced = λ i known. known;
    maps = λ i. same_maps (maps_of k.maps t i);
    objects = λ i. inl (ap (λ b. cond b o (objects_known_of k.objects t i)) (not_there image i));
    gone = λ i gone. gone;
    seen = same_seen t k.seen;
    children = same_children t _ k refl refl refl refl refl;
  }

  object_same : (k : Knowledge) (image number : ℕ) (o : DataOp) (a : Answer) → IsLess t (learned_of_object k s image number o a) k
  object_same k image number (object.Write context must parts bytes) answer.Done = objects_same k image _
  object_same k image number (object.WriteFull context bytes) answer.Done = objects_same k image _
  object_same k image number (object.Read snap parts) a = by (knows_head k s image number snap a)
    where
      by : (counts : Bool) → IsLess t (with_objects_where counts s image (found number) k) k
      by true = objects_same k image (found number (objects_known_of k.objects s image))
      by false = less_itself t k
  object_same k image number (object.CopyUp bytes) answer.Done = objects_same k image _
  object_same k image number (object.CopyUp bytes) answer.Exists = objects_same k image _
  object_same k image number (object.Zero context must parts) answer.Done = objects_same k image _
  object_same k image number (object.Empty context) answer.Done = objects_same k image _
  object_same k image number (object.Remove context) answer.Done = objects_same k image _
  object_same k image number _ _ = less_itself t k

  told_same : (k : Knowledge) (image : ℕ) (change : Option HeaderView → Option HeaderView) → IsLess t (header_told s image change k) k
  told_same k image change = record {
    owns = λ i some. told_apart s t image i change (not_there image i) k.owns;
    drawn = λ i drawn. drawn;
    fenced = λ i known. known;
    maps = λ i. same_maps (maps_of k.maps t i);
    objects = λ i. inl refl;
    gone = λ i gone. gone;
    seen = same_seen t k.seen;
    children = record {
      linked = λ parent snap child among. among;
      based = λ child link among. among;
      childless = λ i snap among. among;
      makes = λ child makes. makes;
      owns = λ i snap among. told_apart s t image i change (not_there image i) k.owns;
    };
  }

  drawn_same : (k : Knowledge) (image : ℕ) → IsLess t (with_drawn s image k) k
  drawn_same k image = record {
    owns = λ i some. refl;
    drawn = λ i drawn. sym (ap (λ b. cond b true (is_drawn k.drawn t i)) (not_there image i)) ∙ drawn;
    fenced = λ i known. known;
    maps = λ i. as_maps (maps_of (maps_told s image unmapped k.maps) t i) (maps_of k.maps t i) (told_maps image unmapped k.maps i);
    objects = λ i. inl refl;
    gone = λ i gone. gone;
    seen = same_seen t k.seen;
    children = record {
      linked = λ parent snap child among. among;
      based = λ child link among. among;
      childless = λ i snap among. among;
      makes = λ child makes. ap (λ b. cond b true (is_drawn k.drawn t child)) (not_there image child) ∙ makes;
      owns = λ i snap among. refl;
    };
  }

  made_same : (k : Knowledge) (image : ℕ) → IsLess t (without_drawn s image k) k
  made_same k image = record {
    owns = λ i some. refl;
    drawn = λ i drawn. sym (left_drawn image i k.drawn) ∙ drawn;
    fenced = λ i known. known;
    maps = λ i. same_maps (maps_of k.maps t i);
    objects = λ i. inl refl;
    gone = λ i gone. gone;
    seen = same_seen t k.seen;
    children = record {
      linked = λ parent snap child among. among;
      based = λ child link among. among;
      childless = λ i snap among. among;
      makes = λ child makes. left_drawn image child k.drawn ∙ makes;
      owns = λ i snap among. refl;
    };
  }

  removed_same : (k : Knowledge) (image : ℕ) → IsLess t (removed_header s image k) k
  removed_same k image = record {
    owns = λ i some. left_there s t image i (not_there image i) k.owns;
    drawn = λ i drawn. drawn;
    fenced = λ i known. known;
    maps = λ i. as_maps (maps_of (maps_told s image only_there k.maps) t i) (maps_of k.maps t i) (told_maps image only_there k.maps i);
    objects = λ i. inl refl;
    gone = λ i gone. sym (ap (λ b. cond b true (is_gone k.gone t i)) (not_there image i)) ∙ gone;
    seen = same_seen t k.seen;
    children = record {
      linked = λ parent snap child among. among;
      based = λ child link among. among;
      childless = λ i snap among. among;
      makes = λ child makes. makes;
      owns = λ i snap among. left_there s t image i (not_there image i) k.owns;
    };
  }

  directory_same : (k : Knowledge) (o : DirectoryOp) (a : Answer) → IsLess t (learned_of_directory k s o a) k
  directory_same k (directory.Add name) (answer.Id image) = drawn_same k image
  directory_same k _ _ = less_itself t k

  header_same : (k : Knowledge) (image : ℕ) (o : HeaderOp) (a : Answer) → IsLess t (learned_of_header k s image o a) k
  header_same k image header.Get (answer.Header h) =
      less_then t (header_told s image (first_told h) (looked_behind s image k)) (looked_behind s image k) k (told_same (looked_behind s image k) image (first_told h)) (looked_same k image)
  header_same k image (header.Create view) answer.Done = made_same k image
  header_same k image (header.SetSize to) answer.Done = told_same k image (option_map (with_size to))
  header_same k image header.Remove answer.Done = removed_same k image
  header_same k image (header.SnapAdd name) (answer.Snap snap) = told_same k image (option_map (with_snap name))
  header_same k image (header.SnapRemove snap) answer.Done = told_same k image (option_map (without_snap snap))
  header_same k image header.Detach answer.Done =
      less_then t (detached_header s image k) (with_objects s image without_there k) k (told_same (with_objects s image without_there k) image (option_map detached))
      (objects_same k image (without_there (objects_known_of k.objects s image)))
  header_same k image (header.SnapStatus snap status) answer.Done = told_same k image (option_map (with_status snap status))
  header_same k image (header.LockBreak owner) answer.Done = unfenced_less t s owner k
  header_same k image (header.LockBreak owner) answer.Changed = unfenced_less t s owner k
  header_same k image _ _ = less_itself t k

  listing_same : (k : Knowledge) (i : Instance) (a : Answer) → IsLess t (learned_of_listing k s i a) k
  listing_same k i answer.Done = record {
    owns = λ image some. refl;
    drawn = λ image drawn. drawn;
    fenced = λ other known. sym (ap (λ b. cond (b && same_instance i other) true (is_fenced_by k.fenced t other)) differ) ∙ known;
    maps = λ image. same_maps (maps_of k.maps t image);
    objects = λ image. inl refl;
    gone = λ image gone. gone;
    seen = same_seen t k.seen;
    children = same_children t _ k refl refl refl refl refl;
  }
  listing_same k i _ = less_itself t k

  own_same : (k : Knowledge) (o : Op) (a : Answer) → IsLess t (learned_own k s o a) k
  own_same k (op.Directory o) a = directory_same k o a
  own_same k (op.Header image o) a = header_same k image o a
  own_same k (op.Data image number o) a = object_same k image number o a
  own_same k (op.BlockAdd i) a = listing_same k i a
  own_same k (op.Map image o) a = map_same k image o a
  own_same k _ a = less_itself t k

  -- a header of an image of this site is none of the other site's
  seen_same : (seen : List HeaderSeen) (o : Op) (a : Answer) → IsSeenLess t (seen_by seen s o a) seen
  seen_same seen (op.Header image header.Get) (answer.Header h) = record {
    among = λ i k among. unlisted i k among;
    has = λ i saw. sym (ap (λ b. cond b true (has_seen seen t i)) (not_there image i)) ∙ saw;
  }
    where
      unlisted : (i : ℕ) (k : HeaderView) → IsAmong (record { site = t; image = i; header = k }) (record { site = s; image = image; header = h } ∷ seen) → IsAmong (record { site = t; image = i; header = k }) seen
      unlisted i k (inl same) = absurd (true≢false (sym (at_itself t i) ∙ subst (λ (e : HeaderSeen). is_at t i e.site e.image ≡ false) same (not_there image i)))
      unlisted i k (inr among) = among
  seen_same seen _ _ = same_seen t seen

  -- nor is a child at this site one at the other
  module _ (k : Knowledge) where
    link_there : (l : ChildLink) → l.site ≡ s → (parent snap child : ℕ) → l ≡ record { site = t; parent = parent; snap = snap; child = child } → ⊥
    link_there l here parent snap child same = other_site (sym here ∙ ap (λ (x : ChildLink). x.site) same)

    linked_same : (o : Op) (a : Answer) (parent snap child : ℕ) → IsAmong (record { site = t; parent = parent; snap = snap; child = child }) (linked_by k.linked s o a)
        → IsAmong (record { site = t; parent = parent; snap = snap; child = child }) k.linked
    linked_same (op.Children (child.Add p n c)) answer.Done parent snap image (inl same) = absurd (link_there (record { site = s; parent = p; snap = n; child = c }) refl parent snap image same)
    linked_same (op.Children (child.Add p n c)) answer.Done parent snap image (inr among) = among
    linked_same (op.Children (child.Remove p n c)) answer.Done parent snap image among = (among_left (λ l. not (is_link s p n c l)) (record { site = t; parent = parent; snap = snap; child = image }) k.linked among).0
    linked_same (op.Children (child.Remove p n c)) answer.Absent parent snap image among = (among_left (λ l. not (is_link s p n c l)) (record { site = t; parent = parent; snap = snap; child = image }) k.linked among).0
    linked_same (op.Header i (header.Create view)) answer.Done parent snap image among = (among_left (λ l. not (is_at s i l.site l.child)) (record { site = t; parent = parent; snap = snap; child = image }) k.linked among).0
    linked_same _ _ parent snap image among = among

    based_same : (o : Op) (a : Answer) (child : ℕ) (link : ParentLink) → IsAmong (record { site = t; child = child; link = link }) (based_by k.linked k.based s o a) → IsAmong (record { site = t; child = child; link = link }) k.based
    based_same (op.Header i header.Get) (answer.Header h) image link among = by (base_was k.linked s i h k.based (record { site = t; child = image; link = link }) among)
      where
        by : IsAmong (record { site = t; child = image; link = link }) k.based ⊎ IsNewBase k.linked s i h (record { site = t; child = image; link = link }) → IsAmong (record { site = t; child = image; link = link }) k.based
        by (inl before) = before
        by (inr new) =
            let here : new.link.site ≡ s = same_site_is new.link.site s (and_parts (same_site new.link.site s) (new.link.parent == i) new.here).0 in
            absurd (other_site (sym here ∙ ap (λ (b : ChildBase). b.site) new.is))
    based_same (op.Children (child.Remove p n c)) answer.Done image link among = (among_left (λ b. not (is_base s p n c b)) (record { site = t; child = image; link = link }) k.based among).0
    based_same (op.Children (child.Remove p n c)) answer.Absent image link among = (among_left (λ b. not (is_base s p n c b)) (record { site = t; child = image; link = link }) k.based among).0
    based_same (op.Header i (header.Create view)) answer.Done image link among = (among_left (λ b. not (is_at s i b.site b.child)) (record { site = t; child = image; link = link }) k.based among).0
    based_same _ _ image link among = among

    childless_same : (o : Op) (a : Answer) (image snap : ℕ) → IsAmong (record { site = t; image = image; snap = snap }) (childless_by (λ i. header_alone (own_of k.owns s i)) k.childless s o a)
        → IsAmong (record { site = t; image = image; snap = snap }) k.childless
    childless_same (op.Children (child.List p n)) (answer.Ids []) image snap among = by (lists_unprotecting (header_alone (own_of k.owns s p)) n) among
      where
        by : (counts : Bool) → IsAmong (record { site = t; image = image; snap = snap }) (with_childless counts (record { site = s; image = p; snap = n }) k.childless) → IsAmong (record { site = t; image = image; snap = snap }) k.childless
        by false among = among
        by true (inr among) = among
        by true (inl same) = absurd (other_site (ap (λ (x : SnapPlace). x.site) same))
    childless_same (op.Header i (header.SnapStatus n status)) answer.Done image snap among = (among_left (λ p. not (is_snap s i n p)) (record { site = t; image = image; snap = snap }) k.childless among).0
    childless_same (op.Header i header.Remove) answer.Done image snap among = (among_left (λ p. not (is_at s i p.site p.image)) (record { site = t; image = image; snap = snap }) k.childless among).0
    childless_same _ _ image snap among = among

  -- what is told of any image and of children adds nothing here
  pub learned_same : (k : Knowledge) (o : Op) (a : Answer) → IsLess t (learned k s o a) k
  learned_same k o a = record {
    owns = own.owns;
    drawn = own.drawn;
    fenced = own.fenced;
    maps = own.maps;
    objects = own.objects;
    gone = own.gone;
    seen = seen_same k.seen o a;
    children = record {
      linked = linked_same k o a;
      based = based_same k o a;
      childless = childless_same k o a;
      makes = own.children.makes;
      owns = λ image snap among.
          own.children.owns image snap (subst (IsAmong (record { site = t; image = image; snap = snap })) (sym (own_as_before k s o a).4) (childless_same k o a image snap among));
    };
  }
    where
      own : IsLess t (learned_own k s o a) k
      own = own_same k o a

  pub true_elsewhere : (r : Records) (me : Instance) (k : Knowledge) (o : Op) (a : Answer) → IsTrueAt t r me k → IsTrueAt t r me (learned k s o a)
  true_elsewhere r me k o a holds = less_true t (learned k s o a) k (learned_same k o a) r me holds

  pub beside_elsewhere : (r : Records) (me you : Instance) (k j : Knowledge) (o : Op) (a : Answer) → AreBeside t r me you k j → AreBeside t r me you (learned k s o a) j
  beside_elsewhere r me you k j o a beside =
      less_beside t r me you (learned k s o a) k j (learned_same k o a) beside
