-- Who isn't alone on an image knows of an object only in its turn.
use Rattle.std.proofs.Common.{◌≡◌, ◌≢◌, ◌⊎◌, inl, inr, ℕ, ◌==◌, cond, not, Bool, true, false, List, ◌∷◌, Option, Some, None, is_some, option_map, refl, sym, ap, ◌∙◌, subst, true≢false}
use Rattle.std.specs.Prelude.{Any, IsSome}
use Rattle.std.proofs.lemmas.Bool.{and_parts, eqb-true}
use Rattle.rbd_kinds.specs.declared.answer.Answer.{Answer}
use Rattle.rbd_kinds.specs.declared.answer.Answer.TheVariants as answer
use Rattle.rbd_kinds.specs.declared.data_op.DataOp.{DataOp}
use Rattle.rbd_kinds.specs.declared.data_op.DataOp.TheVariants as object
use Rattle.rbd_kinds.specs.declared.directory_op.DirectoryOp.{DirectoryOp}
use Rattle.rbd_kinds.specs.declared.directory_op.DirectoryOp.TheVariants as directory
use Rattle.rbd_kinds.specs.declared.header.HeaderView.{HeaderView}
use Rattle.rbd_kinds.specs.declared.header.SnapContext.{SnapContext}
use Rattle.rbd_kinds.specs.declared.header_op.HeaderOp.{HeaderOp}
use Rattle.rbd_kinds.specs.declared.header_op.HeaderOp.TheVariants as header
use Rattle.rbd_kinds.specs.declared.id.Instance.{Instance}
use Rattle.rbd_kinds.specs.declared.id.SiteId.{SiteId}
use Rattle.rbd_kinds.specs.declared.map_op.MapOp.{MapOp}
use Rattle.rbd_kinds.specs.declared.map_op.MapOp.TheVariants as states
use Rattle.rbd_kinds.specs.declared.operation.Op.{Op}
use Rattle.rbd_kinds.specs.declared.operation.Op.TheVariants as op
use Rattle.rbd_kinds.specs.declared.layout.Part.{Part}
use Rattle.rbd_kinds.specs.declared.sharing.Sharing.{Sharing}
use Rattle.rbd_kinds.specs.declared.sharing.Sharing.TheVariants.{Flatten}
use Rattle.rbd_kinds.specs.Sharing.{is_alone}
use Rattle.rbd_header.specs.Header.{detached, with_size, with_snap, without_snap, with_status}
use Rattle.rbd_machine.specs.Knowledge.{Blank, Knowledge, MapsKnown, ObjectsKnown, Own, afresh, blanked, detached_header, first_told, found, found_where, header_told, is_absent, is_at, is_raised, is_there, is_turn, keeps_object, knows_head, learned, learned_of_directory, learned_of_header, learned_of_listing, learned_of_map, learned_of_object, looked_behind, looked_by, looked_under_lock, made, maps_of, maps_told, marks_after, nothing_known, objects_known_of, only_there, own_of, known_after_wait, removed, removed_header, shows_head, unmapped, with_objects, with_objects_where, without_there}
use Rattle.rbd_machine.specs.Permits.{Permits, PermitsOnMap, PermitsOnObject, HasTurn, IsLeftOver, MaySet, OwnsBy, makes_zeros}
use Rattle.rbd_machine.specs.Wait.{Wait}
use Rattle.rbd_machine.specs.Wait as wait
use Rattle.rbd_machine.proofs.AtLeast.{any_among, any_cases, marks_of_others}
use Rattle.rbd_interference.specs.Truth.{header_of_own, is_alone_on, is_own_alone, known_header, sharing_of_own, sharing_on}
use Rattle.rbd_interference.specs.Turns.{KnowsByTurns, KnowsByZeros, KnowsInTurn, KnowsOf}
use Rattle.rbd_interference.proofs.Less.{IsLess, knew_absent, knew_of, left_own, nothing_afresh, nothing_known_of, place_of, waited_less}
use Rattle.rbd_interference.proofs.Objects.{absent_left}
use Rattle.rbd_interference.proofs.ObjectsLearned.{objects_told}
use Rattle.rbd_interference.proofs.States.{IsMarked, IsNew, WasThere, was_marked}
use Rattle.rbd_interference.proofs.Told.{header_changed, told_knew, told_sharing}

-- ---- no more is known, in the same turn

less_in_turn : (new old : Knowledge) → ((site : SiteId) → IsLess site new old) → new.turn ≡ old.turn → KnowsInTurn old → KnowsInTurn new
less_in_turn new old less turn was = (
  λ site image some shared unflat object knows.
      turn ∙ was.0 site image (knew site image some) (sym (ap is_own_alone (same site image some)) ∙ shared) (λ flat. unflat (ap sharing_of_own (same site image some) ∙ flat)) object
      (knew_of site new old (less site) image object knows),
  λ site image some object gone.
      ap (λ o. makes_zeros (sharing_of_own o)) (same site image some) ∙ was.1 site image (knew site image some) object (knew_absent site new old (less site) image object gone),
)
  where
    same : (site : SiteId) (image : ℕ) → IsSome (known_header new site image) → own_of new.owns site image ≡ own_of old.owns site image
    same site image some = (less site).owns image some

    knew : (site : SiteId) (image : ℕ) → IsSome (known_header new site image) → IsSome (known_header old site image)
    knew site image some = ap (λ o. is_some (header_of_own o)) (sym (same site image some)) ∙ some

-- behind its look under the lock, or with its own change
told_in_turn : (k : Knowledge) (site : SiteId) (image : ℕ) (change : Option HeaderView → Option HeaderView)
    → (IsSome (header_changed change (own_of k.owns site image)) → IsSome (header_of_own (own_of k.owns site image))) → KnowsInTurn k → KnowsInTurn (header_told site image change k)
told_in_turn k site image change knew was = (
  λ there place some shared unflat object knows.
      was.0 there place (told_knew site there image place change k.owns knew some) (sym (ap is_alone (told_sharing site there image place change k.owns)) ∙ shared)
      (λ flat. unflat (told_sharing site there image place change k.owns ∙ flat)) object knows,
  λ there place some object gone.
      ap makes_zeros (told_sharing site there image place change k.owns) ∙ was.1 there place (told_knew site there image place change k.owns knew some) object gone,
)

edited_in_turn : (k : Knowledge) (site : SiteId) (image : ℕ) (edit : HeaderView → HeaderView) → KnowsInTurn k → KnowsInTurn (header_told site image (option_map edit) k)
edited_in_turn k site image edit = told_in_turn k site image (option_map edit) (by (own_of k.owns site image))
  where
    of : (h : Option HeaderView) → IsSome (option_map edit h) → IsSome h
    of None some = some
    of (Some h) some = refl

    by : (o : Option Own) → IsSome (header_changed (option_map edit) o) → IsSome (header_of_own o)
    by None some = some
    by (Some o) some = of o.header some

-- ---- of maps and objects

-- that it isn't there, or that places of it are zeros
abbrev IsGoneBy : ObjectsKnown → (object : ℕ) → Type 0
IsGoneBy o object = (is_absent object o.absent ≡ true) ⊎ Any (λ (b : Blank). b.object ≡ object) o.blank

-- or that it is there
abbrev IsKnownBy : ObjectsKnown → (object : ℕ) → Type 0
IsKnownBy o object = IsGoneBy o object ⊎ (is_there object o.there ≡ true)

-- who keeps all that remove away from an object, and isn't alone, has its turn there
at_its_turn : (turn : Option ℕ) (object : ℕ) → is_turn turn object ≡ true → turn ≡ Some object
at_its_turn None object is = absurd (true≢false (sym is))
at_its_turn (Some turn) object is = ap Some (eqb-true turn object is)

keeps_by_turn : (o : Option Own) (turn : Option ℕ) (object : ℕ) → is_own_alone o ≡ false → keeps_object o turn object ≡ true → turn ≡ Some object
keeps_by_turn None turn object shared keeps = absurd (true≢false (sym keeps))
keeps_by_turn (Some o) turn object shared keeps = at_its_turn turn object (sym (ap (λ alone. cond alone true (is_turn turn object)) shared) ∙ keeps)

-- one more on a list, and one more that is blank
on_list : (number n : ℕ) (objects : List ℕ) (turn : Option ℕ) → turn ≡ Some number → (is_absent n objects ≡ true → turn ≡ Some n) → is_absent n (number ∷ objects) ≡ true → turn ≡ Some n
on_list number n objects turn now before is = by (number == n) refl is
  where
    by : (b : Bool) → (number == n) ≡ b → cond b true (is_absent n objects) ≡ true → turn ≡ Some n
    by true same is = now ∙ ap Some (eqb-true number n same)
    by false other is = before is

blank_too : (b : Blank) (n : ℕ) (blank : List Blank) (turn : Option ℕ) → turn ≡ Some b.object → (Any (λ (c : Blank). c.object ≡ n) blank → turn ≡ Some n) → Any (λ (c : Blank). c.object ≡ n) (b ∷ blank) → turn ≡ Some n
blank_too b n blank turn now before is = by (any_cases (λ (c : Blank). c.object ≡ n) b blank is)
  where
    by : (b.object ≡ n) ⊎ Any (λ (c : Blank). c.object ≡ n) blank → turn ≡ Some n
    by (inl same) = now ∙ ap Some same
    by (inr before_that) = before before_that

-- It isn't alone on the image, and takes turns there.
record GoesByTurns (k : Knowledge) (site : SiteId) (image : ℕ) : Type 0 where
  pub known : IsSome (known_header k site image)
  pub shared : is_alone_on k site image ≡ false
  pub unflat : sharing_on k site image ≢ Flatten

module _ (k : Knowledge) (was : KnowsInTurn k) (site : SiteId) (image : ℕ) where
  abbrev IsShared : Type 0
  IsShared = GoesByTurns k site image

  abbrev known_of_it : ObjectsKnown
  known_of_it = objects_known_of k.objects site image

  -- what is said of its own image is said of the place that is this one
  at_place : (there : SiteId) (place : ℕ) → is_at there place site image ≡ true → GoesByTurns k there place → IsShared
  at_place there place here goes =
      let same = place_of there site place image here in
      subst (λ i. GoesByTurns k site i) same.1 (subst (λ s. GoesByTurns k s place) same.0 goes)

  known_at : (there : SiteId) (place : ℕ) → is_at there place site image ≡ true → IsSome (known_header k there place) → IsSome (known_header k site image)
  known_at there place here some =
      let same = place_of there site place image here in
      subst (λ i. IsSome (known_header k site i)) same.1 (subst (λ s. IsSome (known_header k s place)) same.0 some)

  sharing_at : (there : SiteId) (place : ℕ) → is_at there place site image ≡ true → sharing_on k there place ≡ sharing_on k site image
  sharing_at there place here = let same = place_of there site place image here in ap (λ s. sharing_on k s place) same.0 ∙ ap (sharing_on k site) same.1

  maps_in_turn : (m : MapsKnown) → (IsShared → (object : ℕ) → is_raised None object m.raised ≡ true → k.turn ≡ Some object) → KnowsInTurn (record k { maps = maps_told site image m k.maps })
  maps_in_turn m now = (turns, was.1)
    where
      by : (there : SiteId) (place : ℕ) → GoesByTurns k there place → (object : ℕ) (b : Bool) → is_at there place site image ≡ b → is_raised None object (cond b m (maps_of k.maps there place)).raised ≡ true → k.turn ≡ Some object
      by there place goes object true here raised = now (at_place there place here goes) object raised
      by there place goes object false other raised = was.0 there place goes.known goes.shared goes.unflat object (inl raised)

      turns : KnowsByTurns (record k { maps = maps_told site image m k.maps })
      turns there place some shared unflat object (inr knows) = was.0 there place some shared unflat object (inr knows)
      turns there place some shared unflat object (inl raised) = by there place (record { known = some; shared = shared; unflat = unflat }) object (is_at there place site image) refl raised

  objects_in_turn : (o : ObjectsKnown) → (IsShared → (object : ℕ) → IsKnownBy o object → k.turn ≡ Some object)
      → (IsSome (known_header k site image) → (object : ℕ) → IsGoneBy o object → makes_zeros (sharing_on k site image) ≡ true) → KnowsInTurn (record k { objects = objects_told site image o k.objects })
  objects_in_turn o now zeros = (turns, gone)
    where
      by : (there : SiteId) (place : ℕ) → GoesByTurns k there place → (object : ℕ) (b : Bool) → is_at there place site image ≡ b → IsKnownBy (cond b o (objects_known_of k.objects there place)) object → k.turn ≡ Some object
      by there place goes object true here knows = now (at_place there place here goes) object knows
      by there place goes object false other knows = was.0 there place goes.known goes.shared goes.unflat object (inr knows)

      turns : KnowsByTurns (record k { objects = objects_told site image o k.objects })
      turns there place some shared unflat object (inl raised) = was.0 there place some shared unflat object (inl raised)
      turns there place some shared unflat object (inr knows) = by there place (record { known = some; shared = shared; unflat = unflat }) object (is_at there place site image) refl knows

      by_zeros : (there : SiteId) (place : ℕ) → IsSome (known_header k there place) → (object : ℕ) (b : Bool) → is_at there place site image ≡ b → IsGoneBy (cond b o (objects_known_of k.objects there place)) object → makes_zeros (sharing_on k there place) ≡ true
      by_zeros there place some object true here knows = ap makes_zeros (sharing_at there place here) ∙ zeros (known_at there place here some) object knows
      by_zeros there place some object false other knows = was.1 there place some object knows

      gone : KnowsByZeros (record k { objects = objects_told site image o k.objects })
      gone there place some object knows = by_zeros there place some object (is_at there place site image) refl knows

  abbrev raised_before : IsShared → (object : ℕ) → is_raised None object (maps_of k.maps site image).raised ≡ true → k.turn ≡ Some object
  raised_before goes object raised = was.0 site image goes.known goes.shared goes.unflat object (inl raised)

  abbrev known_before : IsShared → (object : ℕ) → IsKnownBy known_of_it object → k.turn ≡ Some object
  known_before goes object knows = was.0 site image goes.known goes.shared goes.unflat object (inr knows)

  abbrev zeros_before : IsSome (known_header k site image) → (object : ℕ) → IsGoneBy known_of_it object → makes_zeros (sharing_on k site image) ≡ true
  zeros_before some object knows = was.1 site image some object knows

  -- who isn't alone acts in its turn
  at_turn : (condition : Sharing → HeaderView → Type 0) (owns : OwnsBy k site image condition) (number : ℕ) → HasTurn (is_alone owns.sharing) k.turn number → IsShared → k.turn ≡ Some number
  at_turn condition owns number turn goes = subst (λ alone. HasTurn alone k.turn number) (sym (ap is_own_alone owns.is) ∙ goes.shared) turn

  -- and who makes zeros goes by that
  by_zeros : (condition : Sharing → HeaderView → Type 0) (owns : OwnsBy k site image condition) → makes_zeros owns.sharing ≡ true → makes_zeros (sharing_on k site image) ≡ true
  by_zeros condition owns zeros = ap (λ o. makes_zeros (sharing_of_own o)) owns.is ∙ zeros

  -- ---- by its operations

  set_in_turn : (object state : ℕ) → OwnsBy k site image (MaySet (objects_known_of k.objects site image) k.turn object state) → IsShared → (n : ℕ)
      → is_raised None n (marks_after None object state (maps_of k.maps site image).raised) ≡ true → k.turn ≡ Some n
  set_in_turn object state owns shared n raised = by (was_marked object state n (maps_of k.maps site image).raised raised)
    where
      by : IsMarked object state n (maps_of k.maps site image).raised → k.turn ≡ Some n
      by (IsNew same raises) = at_turn _ owns object owns.meets.at_turn shared ∙ ap Some same
      by (WasThere before or) = raised_before shared n before

  map_in_turn : (o : MapOp) (a : Answer) → PermitsOnMap k site image o → KnowsInTurn (learned_of_map k site image o a)
  map_in_turn (states.Resize count) answer.Done permits = maps_in_turn _ raised_before
  map_in_turn (states.Get None) (answer.Bits bits) permits = maps_in_turn _ raised_before
  map_in_turn (states.Put (Some snap) bits) answer.Done permits = maps_in_turn _ (λ shared object raised. raised_before shared object (sym (marks_of_others None (Some snap) object (maps_of k.maps site image).raised) ∙ raised))
  map_in_turn (states.Set None object state) answer.Done permits = maps_in_turn _ (set_in_turn object state permits)
  map_in_turn (states.Set (Some snap) object state) a permits = elim permits [ ]
  map_in_turn (states.Remove view) answer.Done permits = maps_in_turn unmapped (λ shared object raised. absurd (true≢false (sym raised)))
  map_in_turn _ _ permits = was

  -- what is left of an image that isn't owned any more is nobody's
  left_unknown : IsLeftOver k site image → IsSome (known_header k site image) → ⊥
  left_unknown left some = true≢false (sym some ∙ ap (λ o. is_some (header_of_own o)) left.unowned)

  -- of an object that it found, at its turn
  found_turn : (number : ℕ) → (IsShared → k.turn ≡ Some number) → IsShared → (n : ℕ) → is_there n (number ∷ known_of_it.there) ≡ true → k.turn ≡ Some n
  found_turn number turn goes n is = on_list number n known_of_it.there k.turn (turn goes) (λ was_there. known_before goes n (inr was_there)) is

  found_in_turn : (number : ℕ) → (IsShared → k.turn ≡ Some number) → KnowsInTurn (with_objects site image (found number) k)
  found_in_turn number turn = objects_in_turn (found number known_of_it) by zeros_before
    where
      by : IsShared → (n : ℕ) → IsKnownBy (found number known_of_it) n → k.turn ≡ Some n
      by goes n (inl gone) = known_before goes n (inl gone)
      by goes n (inr is) = found_turn number turn goes n is

  -- of one that it made: of the others it knows what it knew
  gone_of_others : (number n : ℕ) → IsGoneBy (made number known_of_it) n → IsGoneBy known_of_it n
  gone_of_others number n (inl gone) = inl (absent_left number n known_of_it.absent gone).0
  gone_of_others number n (inr blank) = inr (any_among (λ (b : Blank). b.object ≡ n) (λ b. not (b.object == number)) known_of_it.blank blank)

  made_known : (number : ℕ) → (IsShared → k.turn ≡ Some number) → IsShared → (n : ℕ) → IsKnownBy (made number known_of_it) n → k.turn ≡ Some n
  made_known number turn goes n (inl gone) = known_before goes n (inl (gone_of_others number n gone))
  made_known number turn goes n (inr is) = found_turn number turn goes n is

  made_in_turn : (number : ℕ) → (IsShared → k.turn ≡ Some number) → KnowsInTurn (with_objects site image (made number) k)
  made_in_turn number turn = objects_in_turn (made number known_of_it) (made_known number turn) (λ some n gone. zeros_before some n (gone_of_others number n gone))

  -- of one that became zeros, in places or whole
  zeroed_in_turn : (number : ℕ) (must : Bool) (parts : List Part) → (IsShared → k.turn ≡ Some number) → (IsSome (known_header k site image) → makes_zeros (sharing_on k site image) ≡ true)
      → KnowsInTurn (with_objects site image (λ o. blanked number (Some parts) (found_where must number o)) k)
  zeroed_in_turn number must parts turn zeros = objects_in_turn (blanked number (Some parts) (found_where must number known_of_it)) by (λ some n gone. zeros some)
    where
      there : (counts : Bool) → IsShared → (n : ℕ) → is_there n (found_where counts number known_of_it).there ≡ true → k.turn ≡ Some n
      there true goes n is = found_turn number turn goes n is
      there false goes n is = known_before goes n (inr is)

      by : IsShared → (n : ℕ) → IsKnownBy (blanked number (Some parts) (found_where must number known_of_it)) n → k.turn ≡ Some n
      by goes n (inl (inl gone)) = known_before goes n (inl (inl gone))
      by goes n (inl (inr blank)) = blank_too (record { object = number; parts = Some parts }) n known_of_it.blank k.turn (turn goes) (λ before. known_before goes n (inl (inr before))) blank
      by goes n (inr is) = there must goes n is

  emptied_in_turn : (number : ℕ) → (IsShared → k.turn ≡ Some number) → (IsSome (known_header k site image) → makes_zeros (sharing_on k site image) ≡ true)
      → KnowsInTurn (with_objects site image (λ o. blanked number None (made number o)) k)
  emptied_in_turn number turn zeros = objects_in_turn (blanked number None (made number known_of_it)) by (λ some n gone. zeros some)
    where
      by : IsShared → (n : ℕ) → IsKnownBy (blanked number None (made number known_of_it)) n → k.turn ≡ Some n
      by goes n (inl (inl gone)) = made_known number turn goes n (inl (inl gone))
      by goes n (inl (inr blank)) = blank_too (record { object = number; parts = None }) n (made number known_of_it).blank k.turn (turn goes) (λ before. made_known number turn goes n (inl (inr before))) blank
      by goes n (inr is) = made_known number turn goes n (inr is)

  -- of one that it removed
  removed_in_turn : (number : ℕ) → (IsShared → k.turn ≡ Some number) → (IsSome (known_header k site image) → makes_zeros (sharing_on k site image) ≡ true) → KnowsInTurn (with_objects site image (removed number) k)
  removed_in_turn number turn zeros = objects_in_turn (removed number known_of_it) by (λ some n gone. zeros some)
    where
      by : IsShared → (n : ℕ) → IsKnownBy (removed number known_of_it) n → k.turn ≡ Some n
      by goes n (inl (inl gone)) = on_list number n known_of_it.absent k.turn (turn goes) (λ before. known_before goes n (inl (inl before))) gone
      by goes n (inl (inr blank)) = blank_too (record { object = number; parts = None }) n known_of_it.blank k.turn (turn goes) (λ before. known_before goes n (inl (inr before))) blank
      by goes n (inr is) = known_before goes n (inr (absent_left number n known_of_it.there is).0)

  removal_in_turn : (number : ℕ) (context : SnapContext) → PermitsOnObject k site image number (object.Remove context) → KnowsInTurn (with_objects site image (removed number) k)
  removal_in_turn number context (inl left) = removed_in_turn number (λ goes. absurd (left_unknown left goes.known)) (λ some. absurd (left_unknown left some))
  removal_in_turn number context (inr owns) = removed_in_turn number (at_turn _ owns number owns.meets.at_turn) (λ some. by_zeros _ owns owns.meets.zeros)

  -- of one that it read, where it keeps the others away
  read_in_turn : (number : ℕ) (snap : Option ℕ) (a : Answer) (counts : Bool) → knows_head k site image number snap a ≡ counts → KnowsInTurn (with_objects_where counts site image (found number) k)
  read_in_turn number snap a true is =
      found_in_turn number (λ goes. keeps_by_turn (own_of k.owns site image) k.turn number goes.shared (and_parts (shows_head a snap) (keeps_object (own_of k.owns site image) k.turn number) is).1)
  read_in_turn number snap a false is = was

  object_in_turn : (number : ℕ) (o : DataOp) (a : Answer) → PermitsOnObject k site image number o → KnowsInTurn (learned_of_object k site image number o a)
  object_in_turn number (object.Read snap parts) a permits = read_in_turn number snap a (knows_head k site image number snap a) refl
  object_in_turn number (object.Write context must parts bytes) answer.Done permits = made_in_turn number (at_turn _ permits number permits.meets.at_turn)
  object_in_turn number (object.WriteFull context bytes) answer.Done permits = made_in_turn number (at_turn _ permits number permits.meets.at_turn)
  object_in_turn number (object.Zero context must parts) answer.Done permits =
      zeroed_in_turn number must parts (at_turn _ permits number permits.meets.at_turn) (λ some. by_zeros _ permits permits.meets.zeros)
  object_in_turn number (object.Empty context) answer.Done permits = emptied_in_turn number (at_turn _ permits number permits.meets.at_turn) (λ some. by_zeros _ permits permits.meets.zeros)
  object_in_turn number (object.Remove context) answer.Done permits = removal_in_turn number context permits
  object_in_turn number (object.CopyUp bytes) a permits = elim permits [ ]
  object_in_turn number _ _ permits = was

  -- at its look under the lock it forgets what it knew of objects
  looked_in_turn : (h : HeaderView) → KnowsInTurn (header_told site image (first_told h) (looked_behind site image k))
  looked_in_turn h = by (own_of k.owns site image) refl
    where
      first : KnowsInTurn (header_told site image (first_told h) (afresh site image k))
      first = (λ there place some shared unflat object knows. absurd (nothing_afresh there site image place k object knows), λ there place some object gone. absurd (nothing_afresh there site image place k object (inr (inl gone))))

      owning : (o : Own) (header : Option HeaderView) → o.header ≡ header → own_of k.owns site image ≡ Some o → KnowsInTurn (header_told site image (first_told h) (looked_by header site image k))
      owning o None unknown at = first
      owning o (Some own) had at = told_in_turn k site image (first_told h) (λ some. ap (λ q. is_some (header_of_own q)) at ∙ ap is_some had) was

      by : (o : Option Own) → own_of k.owns site image ≡ o → KnowsInTurn (header_told site image (first_told h) (looked_under_lock o site image k))
      by None at = told_in_turn k site image (first_told h) (λ some. absurd (true≢false (sym some ∙ ap (λ q. is_some (header_changed (first_told h) q)) at))) was
      by (Some o) at = owning o o.header refl at

  -- an image without a header is nobody's
  gone_in_turn : KnowsInTurn (removed_header site image k)
  gone_in_turn = (turns, λ there place some object gone. ap (λ o. makes_zeros (sharing_of_own o)) (same there place some) ∙ was.1 there place (knew there place some) object gone)
    where
      same : (there : SiteId) (place : ℕ) → IsSome (known_header (removed_header site image k) there place) → own_of (removed_header site image k).owns there place ≡ own_of k.owns there place
      same there place some = left_own there site place image k.owns some

      knew : (there : SiteId) (place : ℕ) → IsSome (known_header (removed_header site image k) there place) → IsSome (known_header k there place)
      knew there place some = ap (λ o. is_some (header_of_own o)) (sym (same there place some)) ∙ some

      turns : KnowsByTurns (removed_header site image k)
      turns there place some shared unflat object knows =
          (maps_in_turn only_there (λ goes n raised. absurd (true≢false (sym raised)))).0 there place (knew there place some)
          (sym (ap is_own_alone (same there place some)) ∙ shared) (λ flat. unflat (ap sharing_of_own (same there place some) ∙ flat)) object knows

  -- which objects are there it forgets with the parent
  detached_in_turn : KnowsInTurn (detached_header site image k)
  detached_in_turn = edited_in_turn (with_objects site image without_there k) site image detached (objects_in_turn (without_there known_of_it) by zeros_before)
    where
      by : IsShared → (n : ℕ) → IsKnownBy (without_there known_of_it) n → k.turn ≡ Some n
      by goes n (inl gone) = known_before goes n (inl gone)
      by goes n (inr is) = absurd (true≢false (sym is))

  header_in_turn : (o : HeaderOp) (a : Answer) → KnowsInTurn (learned_of_header k site image o a)
  header_in_turn header.Get (answer.Header h) = looked_in_turn h
  header_in_turn (header.Create view) answer.Done = was
  header_in_turn (header.SetSize to) answer.Done = edited_in_turn k site image (with_size to) was
  header_in_turn header.Remove answer.Done = gone_in_turn
  header_in_turn (header.SnapAdd name) (answer.Snap snap) = edited_in_turn k site image (with_snap name) was
  header_in_turn (header.SnapRemove snap) answer.Done = edited_in_turn k site image (without_snap snap) was
  header_in_turn header.Detach answer.Done = detached_in_turn
  header_in_turn (header.SnapStatus snap status) answer.Done = edited_in_turn k site image (with_status snap status) was
  header_in_turn (header.LockBreak owner) answer.Done = was
  header_in_turn (header.LockBreak owner) answer.Changed = was
  header_in_turn _ _ = was

directory_in_turn : (k : Knowledge) → KnowsInTurn k → (site : SiteId) (o : DirectoryOp) (a : Answer) → KnowsInTurn (learned_of_directory k site o a)
directory_in_turn k was site (directory.Add name) (answer.Id image) = maps_in_turn k was site image unmapped (λ shared object raised. absurd (true≢false (sym raised)))
directory_in_turn k was site _ _ = was

listing_in_turn : (k : Knowledge) → KnowsInTurn k → (site : SiteId) (i : Instance) (a : Answer) → KnowsInTurn (learned_of_listing k site i a)
listing_in_turn k was site i answer.Done = was
listing_in_turn k was site i _ = was

pub answered_in_turn : (site : SiteId) (k : Knowledge) (o : Op) (a : Answer) → KnowsInTurn k → Permits k site o → KnowsInTurn (learned k site o a)
answered_in_turn site k (op.Directory o) a was permits = directory_in_turn k was site o a
answered_in_turn site k (op.Header image o) a was permits = header_in_turn k was site image o a
answered_in_turn site k (op.Data image number o) a was permits = object_in_turn k was site image number o a permits
answered_in_turn site k (op.Children o) a was permits = was
answered_in_turn site k (op.BlockAdd i) a was permits = listing_in_turn k was site i a
answered_in_turn site k (op.Map image o) a was permits = map_in_turn k was site image o a permits
answered_in_turn site k _ a was permits = elim permits [ ]

-- ---- waits

-- behind another turn nothing is known of any object
pub turned_unknown : (site : SiteId) (k : Knowledge) (image object turn : ℕ) → KnowsOf (known_after_wait k (wait.Turn turn)) site image object → ⊥
turned_unknown site k image object turn knows = nothing_known_of k.maps (Some turn) k site image object knows

pub applied_unknown : (site there : SiteId) (k : Knowledge) (image object of : ℕ) → KnowsOf (known_after_wait k (wait.Applied there of)) site image object → ⊥
applied_unknown site there k image object of knows = nothing_known_of k.maps None k site image object knows

pub waited_in_turn : (k : Knowledge) (w : Wait) → KnowsInTurn k → KnowsInTurn (known_after_wait k w)
waited_in_turn k (wait.Join there image sharing) was = was
waited_in_turn k (wait.Hold there image) was = less_in_turn (known_after_wait k (wait.Hold there image)) k (λ site. waited_less site k (wait.Hold there image)) refl was
waited_in_turn k (wait.Turn turn) was =
    (λ site image some shared unflat object knows. absurd (turned_unknown site k image object turn knows), λ site image some object gone. absurd (turned_unknown site k image object turn (inr (inl gone))))
waited_in_turn k (wait.Applied there of) was =
    (λ site image some shared unflat object knows. absurd (applied_unknown site there k image object of knows), λ site image some object gone. absurd (applied_unknown site there k image object of (inr (inl gone))))
waited_in_turn k (wait.Leave there image) was = less_in_turn (known_after_wait k (wait.Leave there image)) k (λ site. waited_less site k (wait.Leave there image)) refl was

pub nothing_in_turn : KnowsInTurn nothing_known
nothing_in_turn = (λ site image some. absurd (true≢false (sym some)), λ site image some. absurd (true≢false (sym some)))
