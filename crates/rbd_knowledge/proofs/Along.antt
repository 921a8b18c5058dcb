-- What a request knows goes with its place, whatever it is answered and waits for.
use Rattle.std.proofs.Common.{◌≡◌, ℕ, ◌&&◌, cond, Bool, true, false, List, [], Option, Some, None, option_map, refl, sym, ap, ◌∙◌, subst}
use Rattle.std.specs.Prelude.{IsSome, is_some}
use Rattle.std.proofs.lemmas.Bool.{true≢false, and_parts}
use Rattle.std.proofs.lemmas.Option.{none-some, same_Some}
use Rattle.rbd_machine.specs.Course.{Course, PlaceInLine, answered, waited, noted, course_past_look, past, is_newcomer_at, looks_under_lock_at, is_waiting, has_just_joined, held_stage}
use Rattle.rbd_machine.specs.Course as course
use Rattle.rbd_machine.specs.Orderly.{IsInLine, MayWait}
use Rattle.rbd_machine.specs.declared.stage.Stage.{Stage}
use Rattle.rbd_machine.specs.declared.stage.Stage.TheVariants as stage
use Rattle.rbd_kinds.specs.declared.answer.Answer.{Answer}
use Rattle.rbd_kinds.specs.declared.answer.Answer.TheVariants as answer
use Rattle.rbd_kinds.specs.declared.data_op.DataOp.{DataOp}
use Rattle.rbd_kinds.specs.declared.data_op.DataOp.TheVariants as object
use Rattle.rbd_kinds.specs.declared.directory_op.DirectoryOp.{DirectoryOp}
use Rattle.rbd_kinds.specs.declared.directory_op.DirectoryOp.TheVariants as directory
use Rattle.rbd_kinds.specs.declared.header.HeaderView.{HeaderView}
use Rattle.rbd_kinds.specs.declared.header_op.HeaderOp.{HeaderOp}
use Rattle.rbd_kinds.specs.declared.header_op.HeaderOp.TheVariants as header
use Rattle.rbd_kinds.specs.declared.id.Instance.{Instance}
use Rattle.rbd_kinds.specs.declared.id.SiteId.{SiteId}
use Rattle.rbd_kinds.specs.declared.layout.Extent.{Extent}
use Rattle.rbd_kinds.specs.declared.map_op.MapOp.{MapOp}
use Rattle.rbd_kinds.specs.declared.map_op.MapOp.TheVariants as states
use Rattle.rbd_kinds.specs.declared.operation.Op.{Op}
use Rattle.rbd_kinds.specs.declared.operation.Op.TheVariants as op
use Rattle.rbd_header.specs.Header.{detached, with_size, with_snap, without_snap, with_status}
use Rattle.rbd_queue.specs.Line.{is_past}
use Rattle.rbd_queue.proofs.Fair.{stays_past}
use Rattle.rbd_machine.specs.Knowledge.{ImageMaps, ImageObjects, Knowledge, Own, learned_of_map, learned_of_object, looked_by, looked_under_lock, own_of, is_at, told_of, with_header, header_told, first_told, learned, learned_of_directory, learned_of_header, learned_of_listing, learned_own, known_after_wait, owns_when_held, owns_without}
use Rattle.rbd_machine.specs.Wait.{Wait}
use Rattle.rbd_machine.specs.Wait as wait
use Rattle.rbd_interference.specs.Truth.{header_of_own}
use Rattle.rbd_interference.proofs.Told.{header_changed, told_knew}
use Rattle.rbd_knowledge.specs.Tied.{IsTied, OwnsAt, OwnsIn}
use Rattle.rbd_knowledge.proofs.Owned.{meets, at_through, own_there, own_told, from_told, left_before}

-- ---- stages

past_else : (s : Stage) → has_just_joined s ≡ false → is_waiting s ≡ false → is_past s ≡ true
past_else stage.Joined joined waits = absurd (true≢false joined)
past_else stage.Waiting joined waits = absurd (true≢false waits)
past_else stage.Past joined waits = refl

held_waits : (s : Stage) → has_just_joined (held_stage s) ≡ false
held_waits stage.Joined = refl
held_waits stage.Waiting = refl
held_waits stage.Past = refl

-- a newcomer that waits isn't past
held_behind : (s : Stage) → has_just_joined s ≡ true → is_past (held_stage s) ≡ true → ⊥
held_behind stage.Joined joined past = true≢false (sym past)
held_behind stage.Waiting joined past = true≢false (sym joined)
held_behind stage.Past joined past = true≢false (sym joined)

-- who waits isn't past
not_both : (s : Stage) → is_waiting s ≡ true → is_past s ≡ true → ⊥
not_both stage.Joined waits past = true≢false (sym waits)
not_both stage.Waiting waits past = true≢false (sym past)
not_both stage.Past waits past = true≢false (sym waits)

-- ---- what it is told of the image that it owns

told_sharing : (change : Option HeaderView → Option HeaderView) (o : Own) (b : Bool) → (cond b (with_header change o) o).sharing ≡ o.sharing
told_sharing change o true = refl
told_sharing change o false = refl

first_some : (h : HeaderView) (known : Option HeaderView) → is_some (first_told h known) ≡ true
first_some h None = refl
first_some h (Some own) = refl

module _ (site : SiteId) (image : ℕ) (o : Own) where
  -- an edit of a header that it knows
  edited_in : (s : SiteId) (i : ℕ) (change : Option HeaderView → Option HeaderView) → ((h : Option HeaderView) → IsSome (change h) → IsSome h)
      → ((h : Option HeaderView) → IsSome h → IsSome (change h))
      → (place : Option PlaceInLine) → OwnsIn site image o place → OwnsIn site image (told_of s i change o) place
  edited_in s i change keeps makes None owns = owns
  edited_in s i change keeps makes (Some p) owns = by (is_at s i o.site o.image)
    where
      by : (b : Bool) → OwnsAt site image (cond b (with_header change o) o) p
      by true = record {
        there = owns.there;
        sharing = owns.sharing;
        waits = owns.waits;
        past = λ some. owns.past (keeps o.header some);
        told = λ past. makes o.header (owns.told past);
      }
      by false = owns

  -- at its look under the lock it is past it
  looked_in : (s : SiteId) (i : ℕ) (h : HeaderView) (place : Option PlaceInLine) → looks_under_lock_at s i place ≡ true → is_at site image o.site o.image ≡ true → OwnsIn site image o place
      → OwnsIn site image (told_of s i (first_told h) o) (past place)
  looked_in s i h None own there owns = owns
  looked_in s i h (Some p) own there owns = record {
    there = owns.there;
    sharing = told_sharing (first_told h) o (is_at s i o.site o.image) ∙ owns.sharing;
    waits = refl;
    past = λ some. refl;
    told = λ past. ap (λ b. is_some (cond b (with_header (first_told h) o) o).header) here ∙ first_some h o.header;
  }
    where
      here : is_at s i o.site o.image ≡ true
      here = at_through s site o.site i image o.image (meets s site p.site i image p.image (and_parts (is_at s i p.site p.image) (is_waiting p.stage) own).0 owns.there) there

  -- another look tells of the image only where it is past its own
  seen_in : (s : SiteId) (i : ℕ) (h : HeaderView) (place : Option PlaceInLine) → looks_under_lock_at s i place ≡ false → is_at site image o.site o.image ≡ true
      → OwnsIn site image o place → OwnsIn site image (told_of s i (first_told h) o) place
  seen_in s i h None other there owns = owns
  seen_in s i h (Some p) other there owns = by (is_at s i o.site o.image) refl
    where
      not_waiting : is_at s i p.site p.image ≡ true → is_waiting p.stage ≡ false
      not_waiting here = sym (ap (λ b. b && is_waiting p.stage) here) ∙ other

      by : (b : Bool) → is_at s i o.site o.image ≡ b → OwnsAt site image (cond b (with_header (first_told h) o) o) p
      by false elsewhere = owns
      by true here =
          let at_place : is_at s i p.site p.image ≡ true =
          at_through s site p.site i image p.image (meets s site o.site i image o.image here there) owns.there in
          record {
            there = owns.there;
            sharing = owns.sharing;
            waits = owns.waits;
            past = λ some. past_else p.stage owns.waits (not_waiting at_place);
            told = λ past. first_some h o.header;
          }

-- ---- answers

of_edit : (edit : HeaderView → HeaderView) (h : Option HeaderView) → IsSome (option_map edit h) → IsSome h
of_edit edit None some = some
of_edit edit (Some h) some = refl

by_edit : (edit : HeaderView → HeaderView) (h : Option HeaderView) → IsSome h → IsSome (option_map edit h)
by_edit edit None some = some
by_edit edit (Some h) some = refl

past_sharing : (k : Knowledge) (place : Option PlaceInLine) (p : PlaceInLine) → ((q : PlaceInLine) → place ≡ Some q → k.sharing ≡ q.sharing) → past place ≡ Some p → k.sharing ≡ p.sharing
past_sharing k None p sharing is = absurd (none-some p is)
past_sharing k (Some q) p sharing is = sharing q refl ∙ ap (λ (x : PlaceInLine). x.sharing) (same_Some (record q { stage = stage.Past }) p is)

-- a header that it knows once it left an image it knew before
left_knew : (k : Knowledge) (s : SiteId) (i : ℕ) (site : SiteId) (image : ℕ) → IsSome (header_of_own (own_of (owns_without s i k.owns) site image)) → IsSome (header_of_own (own_of k.owns site image))
left_knew k s i site image some = by (own_of (owns_without s i k.owns) site image) refl some
  where
    by : (o : Option Own) → own_of (owns_without s i k.owns) site image ≡ o → IsSome (header_of_own o) → IsSome (header_of_own (own_of k.owns site image))
    by None is some = absurd (true≢false (sym some))
    by (Some o) is some = ap (λ q. is_some (header_of_own q)) (left_before s site i image k.owns o is).0 ∙ some

module _ (e : Option Extent) (k : Knowledge) (c : Course) (t : IsTied k c) where
  -- it owns the images that it owned before, each as it was told of it
  told_owns : (s : SiteId) (i : ℕ) (change : Option HeaderView → Option HeaderView) (place : Option PlaceInLine)
      → ((site : SiteId) (image : ℕ) (o : Own) → own_of k.owns site image ≡ Some o → OwnsIn site image (told_of s i change o) place)
      → (site : SiteId) (image : ℕ) (o : Own) → own_of (header_told s i change k).owns site image ≡ Some o → OwnsIn site image o place
  told_owns s i change place each site image o is =
      from_told (told_of s i change) (own_of k.owns site image) o (λ told. OwnsIn site image told place) (sym (own_told s site i image change k.owns) ∙ is) (each site image)

  -- a header that it knows once an edit was told it knew before
  edit_knew : (s : SiteId) (i : ℕ) (edit : HeaderView → HeaderView) (o : Option Own) → IsSome (header_changed (option_map edit) o) → IsSome (header_of_own o)
  edit_knew s i edit None some = some
  edit_knew s i edit (Some o) some = of_edit edit o.header some

  edited_tied : (s : SiteId) (i : ℕ) (edit : HeaderView → HeaderView) → IsTied (header_told s i (option_map edit) k) c
  edited_tied s i edit = record {
    owns = told_owns s i (option_map edit) c.place (λ site image o is. edited_in site image o s i (option_map edit) (of_edit edit) (by_edit edit) c.place (t.owns site image o is));
    sharing = t.sharing;
    turn = λ site image some. t.turn site image (told_knew s site i image (option_map edit) k.owns (edit_knew s i edit (own_of k.owns s i)) some);
  }

  -- it knows no header before its look under the lock
  nothing_known_yet : (s : SiteId) (i : ℕ) → looks_under_lock_at s i c.place ≡ true → (site : SiteId) (image : ℕ) (o : Option Own) → own_of k.owns site image ≡ o → IsSome (header_of_own o) → ⊥
  nothing_known_yet s i own site image None is some = true≢false (sym some)
  nothing_known_yet s i own site image (Some o) is some = by c.place own (t.owns site image o is)
    where
      by : (place : Option PlaceInLine) → looks_under_lock_at s i place ≡ true → OwnsIn site image o place → ⊥
      by None own owns = owns
      by (Some p) own owns = not_both p.stage (and_parts (is_at s i p.site p.image) (is_waiting p.stage) own).1 (owns.past some)

  -- another look tells nothing new of an image that it owns
  known_yet : (s : SiteId) (i : ℕ) → looks_under_lock_at s i c.place ≡ false → (o : Own) → own_of k.owns s i ≡ Some o → o.header ≡ None → ⊥
  known_yet s i other o is none = by c.place other (t.owns s i o is)
    where
      by : (place : Option PlaceInLine) → looks_under_lock_at s i place ≡ false → OwnsIn s i o place → ⊥
      by None other owns = owns
      by (Some p) other owns =
          let past = past_else p.stage owns.waits (sym (ap (λ b. b && is_waiting p.stage) owns.there) ∙ other) in
          true≢false (sym (owns.told past) ∙ ap is_some none)

  -- behind its look under the lock, where it has no turn yet
  looked_tied : (s : SiteId) (i : ℕ) (h : HeaderView) (turn : Option ℕ) (maps : List ImageMaps) (objects : List ImageObjects) → looks_under_lock_at s i c.place ≡ true
      → (IsSome (header_changed (first_told h) (own_of k.owns s i)) → turn ≡ c.turn)
      → IsTied (header_told s i (first_told h) (record k { turn = turn; maps = maps; objects = objects })) (course_past_look e h c)
  looked_tied s i h turn maps objects own quiet = record {
    owns = told_owns s i (first_told h) (past c.place)
        (λ site image o is. looked_in site image o s i h c.place own (own_there k.owns site image o is) (t.owns site image o is));
    sharing = λ p is. past_sharing k c.place p t.sharing is;
    turn = λ site image some. by (header_changed (first_told h) (own_of k.owns s i)) refl site image some;
  }
    where
      by : (told : Option HeaderView) → header_changed (first_told h) (own_of k.owns s i) ≡ told → (site : SiteId) (image : ℕ)
          → IsSome (header_of_own (own_of (header_told s i (first_told h) k).owns site image)) → turn ≡ c.turn
      by (Some v) is site image some = quiet (ap is_some is)
      by None is site image some =
          absurd (nothing_known_yet s i own site image (own_of k.owns site image) refl (told_knew s site i image (first_told h) k.owns (λ changed. absurd (true≢false (sym changed ∙ ap is_some is))) some))

  seen_tied : (s : SiteId) (i : ℕ) (h : HeaderView) → looks_under_lock_at s i c.place ≡ false → IsTied (header_told s i (first_told h) k) c
  seen_tied s i h other = record {
    owns = told_owns s i (first_told h) c.place
        (λ site image o is. seen_in site image o s i h c.place other (own_there k.owns site image o is) (t.owns site image o is));
    sharing = t.sharing;
    turn = λ site image some. t.turn site image (told_knew s site i image (first_told h) k.owns (knew (own_of k.owns s i) refl) some);
  }
    where
      knew : (o : Option Own) → own_of k.owns s i ≡ o → IsSome (header_changed (first_told h) o) → IsSome (header_of_own o)
      knew None is some = some
      knew (Some o) is some = by o.header refl
        where
          by : (header : Option HeaderView) → o.header ≡ header → IsSome header
          by (Some v) there = refl
          by None there = absurd (known_yet s i other o is there)

  got_tied : (s : SiteId) (i : ℕ) (h : HeaderView) (b : Bool) → looks_under_lock_at s i c.place ≡ b → (looks_under_lock_at s i c.place ≡ true → c.turn ≡ None)
      → (o : Option Own) → own_of k.owns s i ≡ o → IsTied (header_told s i (first_told h) (looked_under_lock o s i k)) (cond b (course_past_look e h c) c)
  got_tied s i h true own quiet None is = looked_tied s i h k.turn k.maps k.objects own (λ some. absurd (true≢false (sym some ∙ ap (λ o. is_some (header_changed (first_told h) o)) is)))
  got_tied s i h true own quiet (Some o) is = by o.header refl
    where
      by : (header : Option HeaderView) → o.header ≡ header → IsTied (header_told s i (first_told h) (looked_by header s i k)) (course_past_look e h c)
      by None there = looked_tied s i h None _ [] own (λ some. sym (quiet own))
      by (Some v) there = absurd (nothing_known_yet s i own s i (Some o) is (ap is_some there))
  got_tied s i h false other quiet None is = seen_tied s i h other
  got_tied s i h false other quiet (Some o) is = by o.header refl
    where
      by : (header : Option HeaderView) → o.header ≡ header → IsTied (header_told s i (first_told h) (looked_by header s i k)) c
      by None there = absurd (known_yet s i other o is there)
      by (Some v) there = seen_tied s i h other

  header_tied : (s : SiteId) (i : ℕ) (o : HeaderOp) (a : Answer) → (looks_under_lock_at s i c.place ≡ true → c.turn ≡ None) → IsTied (learned_of_header k s i o a) (answered e c s (op.Header i o) a)
  header_tied s i header.Get (answer.Header h) quiet = got_tied s i h (looks_under_lock_at s i c.place) refl quiet (own_of k.owns s i) refl
  header_tied s i (header.Create view) answer.Done quiet = record { owns = t.owns; sharing = t.sharing; turn = t.turn }
  header_tied s i (header.SetSize to) answer.Done quiet = edited_tied s i (with_size to)
  header_tied s i header.Remove answer.Done quiet = record {
    owns = λ site image o is. t.owns site image o (left_before s site i image k.owns o is).0;
    sharing = t.sharing;
    turn = λ site image some. t.turn site image (left_knew k s i site image some);
  }
  header_tied s i (header.SnapAdd name) (answer.Snap snap) quiet = edited_tied s i (with_snap name)
  header_tied s i (header.SnapRemove snap) answer.Done quiet = edited_tied s i (without_snap snap)
  header_tied s i header.Detach answer.Done quiet = let told = edited_tied s i detached in record { owns = told.owns; sharing = told.sharing; turn = told.turn }
  header_tied s i (header.SnapStatus snap status) answer.Done quiet = edited_tied s i (with_status snap status)
  header_tied s i header.Get _ quiet = t
  header_tied s i (header.Create view) _ quiet = t
  header_tied s i (header.SetSize to) _ quiet = t
  header_tied s i header.Remove _ quiet = t
  header_tied s i (header.SnapAdd name) _ quiet = t
  header_tied s i (header.SnapRemove snap) _ quiet = t
  header_tied s i header.Detach _ quiet = t
  header_tied s i (header.SnapStatus snap status) _ quiet = t
  header_tied s i (header.LockBreak owner) answer.Done quiet = record { owns = t.owns; sharing = t.sharing; turn = t.turn }
  header_tied s i (header.LockBreak owner) answer.Changed quiet = record { owns = t.owns; sharing = t.sharing; turn = t.turn }
  header_tied s i (header.LockBreak owner) _ quiet = t
  header_tied s i _ a quiet = t

  directory_tied : (s : SiteId) (o : DirectoryOp) (a : Answer) → IsTied (learned_of_directory k s o a) c
  directory_tied s (directory.Add name) (answer.Id image) = record { owns = t.owns; sharing = t.sharing; turn = t.turn }
  directory_tied s (directory.Add name) _ = t
  directory_tied s _ a = t

  listing_tied : (s : SiteId) (i : Instance) (a : Answer) → IsTied (learned_of_listing k s i a) c
  listing_tied s i answer.Done = record { owns = t.owns; sharing = t.sharing; turn = t.turn }
  listing_tied s i _ = t

  -- whatever it knows of maps
  maps_tied : (maps : List ImageMaps) → IsTied (record k { maps = maps }) c
  maps_tied maps = record { owns = t.owns; sharing = t.sharing; turn = t.turn }

  -- whatever it knows of objects
  objects_tied : (objects : List ImageObjects) → IsTied (record k { objects = objects }) c
  objects_tied objects = record { owns = t.owns; sharing = t.sharing; turn = t.turn }

  object_tied : (s : SiteId) (i n : ℕ) (o : DataOp) (a : Answer) → IsTied (learned_of_object k s i n o a) c
  object_tied s i n (object.Write context must parts bytes) answer.Done = objects_tied _
  object_tied s i n (object.WriteFull context bytes) answer.Done = objects_tied _
  object_tied s i n (object.Read snap parts) a = objects_tied _
  object_tied s i n (object.CopyUp bytes) answer.Done = objects_tied _
  object_tied s i n (object.CopyUp bytes) answer.Exists = objects_tied _
  object_tied s i n (object.Zero context must parts) answer.Done = objects_tied _
  object_tied s i n (object.Empty context) answer.Done = objects_tied _
  object_tied s i n (object.Remove context) answer.Done = objects_tied _
  object_tied s i n _ _ = t

  map_tied : (s : SiteId) (i : ℕ) (o : MapOp) (a : Answer) → IsTied (learned_of_map k s i o a) c
  map_tied s i (states.Resize count) answer.Done = maps_tied _
  map_tied s i (states.Get None) (answer.Bits bits) = maps_tied _
  map_tied s i (states.Put (Some snap) bits) answer.Done = maps_tied _
  map_tied s i (states.Set view object state) answer.Done = maps_tied _
  map_tied s i (states.Remove view) answer.Done = maps_tied _
  map_tied s i _ _ = t

  -- no turn is had before the look under the lock
  own_tied : (s : SiteId) (o : Op) (a : Answer) → ((i : ℕ) → looks_under_lock_at s i c.place ≡ true → c.turn ≡ None) → IsTied (learned_own k s o a) (answered e c s o a)
  own_tied s (op.Directory o) a quiet = directory_tied s o a
  own_tied s (op.Header i o) a quiet = header_tied s i o a (quiet i)
  own_tied s (op.Data i n o) a quiet = object_tied s i n o a
  own_tied s (op.BlockAdd i) a quiet = listing_tied s i a
  own_tied s (op.Map i o) a quiet = map_tied s i o a
  own_tied s _ a quiet = t

  pub answered_tied : (s : SiteId) (o : Op) (a : Answer) → ((i : ℕ) → looks_under_lock_at s i c.place ≡ true → c.turn ≡ None) → IsTied (learned k s o a) (answered e c s o a)
  answered_tied s o a quiet = let own = own_tied s o a quiet in record { owns = own.owns; sharing = own.sharing; turn = own.turn }

-- ---- waits

module _ (k : Knowledge) (c : Course) (t : IsTied k c) (site : SiteId) (image : ℕ) where
  abbrev waiting : Own
  waiting = record { site = site; image = image; sharing = k.sharing; header = None }

  -- the image whose lock it waits for is that of its line
  waiting_in : (s : SiteId) (i : ℕ) → is_at s i site image ≡ true → (place : Option PlaceInLine) → c.place ≡ place → IsInLine site image place → is_newcomer_at place ≡ true
      → OwnsIn s i waiting (course.held place)
  waiting_in s i here None is in_line new = in_line
  waiting_in s i here (Some p) is in_line new = record {
    there = at_through s site p.site i image p.image here in_line;
    sharing = t.sharing p is;
    waits = held_waits p.stage;
    past = λ some. absurd (true≢false (sym some));
    told = λ past. absurd (held_behind p.stage new past);
  }

  still_in : (s : SiteId) (i : ℕ) (o : Own) (place : Option PlaceInLine) → is_newcomer_at place ≡ true → OwnsIn s i o place → OwnsIn s i o (course.held place)
  still_in s i o None new owns = owns
  still_in s i o (Some p) new owns = record {
    there = owns.there;
    sharing = owns.sharing;
    waits = held_waits p.stage;
    past = λ some. stays_past p.stage ∙ owns.past some;
    told = λ past. absurd (held_behind p.stage new past);
  }

  held_owns : IsInLine site image c.place → is_newcomer_at c.place ≡ true → (s : SiteId) (i : ℕ) (o : Own) → own_of (owns_when_held k site image) s i ≡ Some o → OwnsIn s i o (course.held c.place)
  held_owns in_line new s i o is = by (is_at s i site image) refl is
    where
      by : (b : Bool) → is_at s i site image ≡ b → cond b (Some waiting) (own_of (owns_without site image k.owns) s i) ≡ Some o → OwnsIn s i o (course.held c.place)
      by true here found = subst (λ x. OwnsIn s i x (course.held c.place)) (same_Some waiting o found) (waiting_in s i here c.place refl in_line new)
      by false other found = still_in s i o c.place new (t.owns s i o (left_before site s image i k.owns o found).0)

  held_sharing : (place : Option PlaceInLine) (p : PlaceInLine) → c.place ≡ place → course.held place ≡ Some p → k.sharing ≡ p.sharing
  held_sharing None p at is = absurd (none-some p is)
  held_sharing (Some q) p at is = t.sharing q at ∙ ap (λ (x : PlaceInLine). x.sharing) (same_Some (record q { stage = held_stage q.stage }) p is)

  -- who leaves its line owns nothing any more
  none_else : (s : SiteId) (i : ℕ) (o : Own) (place : Option PlaceInLine) → IsInLine site image place → OwnsIn s i o place → is_at s i site image ≡ false → ⊥
  none_else s i o None in_line owns other = in_line
  none_else s i o (Some p) in_line owns other = true≢false (sym (meets s site p.site i image p.image owns.there in_line) ∙ other)

  left_owns : IsInLine site image c.place → (s : SiteId) (i : ℕ) (o : Own) → own_of (owns_without site image k.owns) s i ≡ Some o → ⊥
  left_owns in_line s i o is =
      let before = left_before site s image i k.owns o is in
      none_else s i o c.place in_line (t.owns s i o before.0) before.1

  -- a header that it knows once it holds the lock it knew before
  held_knew : (s : SiteId) (i : ℕ) → IsSome (header_of_own (own_of (owns_when_held k site image) s i)) → IsSome (header_of_own (own_of k.owns s i))
  held_knew s i some = by (is_at s i site image) some
    where
      by : (b : Bool) → IsSome (header_of_own (cond b (Some waiting) (own_of (owns_without site image k.owns) s i))) → IsSome (header_of_own (own_of k.owns s i))
      by true some = absurd (true≢false (sym some))
      by false some = left_knew k site image s i some

  pub left_knows_none : IsInLine site image c.place → (s : SiteId) (i : ℕ) → IsSome (header_of_own (own_of (owns_without site image k.owns) s i)) → ⊥
  left_knows_none in_line s i some = by (own_of (owns_without site image k.owns) s i) refl some
    where
      by : (o : Option Own) → own_of (owns_without site image k.owns) s i ≡ o → IsSome (header_of_own o) → ⊥
      by None is some = true≢false (sym some)
      by (Some o) is some = left_owns in_line s i o is

pub waited_tied : (fresh : Bool) (k : Knowledge) (c : Course) (w : Wait) → MayWait fresh c w → IsTied k c → IsTied (known_after_wait k w) (waited c w)
waited_tied fresh k c (wait.Join site image sharing) may t = record {
  owns = λ s i o is. absurd (subst (OwnsIn s i o) may.1 (t.owns s i o is));
  sharing = λ p is. ap (λ (x : PlaceInLine). x.sharing) (same_Some (record { site = site; image = image; sharing = sharing; stage = stage.Joined }) p is);
  turn = t.turn;
}
waited_tied fresh k c (wait.Hold site image) may t = record {
  owns = held_owns k c t site image may.0 may.1;
  sharing = λ p is. held_sharing k c t site image c.place p refl is;
  turn = λ s i some. t.turn s i (held_knew k c t site image s i some);
}
waited_tied fresh k c (wait.Turn object) may t = record { owns = t.owns; sharing = t.sharing; turn = λ s i some. refl }
waited_tied fresh k c (wait.Applied site image) may t = record { owns = t.owns; sharing = t.sharing; turn = λ s i some. refl }
waited_tied fresh k c (wait.Leave site image) may t = record {
  owns = λ s i o is. absurd (left_owns k c t site image may s i o is);
  sharing = λ p is. absurd (none-some p is);
  turn = λ s i some. absurd (left_knows_none k c t site image may s i some);
}

pub noted_tied : (k : Knowledge) (c : Course) → IsTied k c → IsTied k (noted c)
noted_tied k c t = record { owns = t.owns; sharing = t.sharing; turn = t.turn }
