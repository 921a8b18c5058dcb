-- Behind the same operations one reply is meant.
use Rattle.std.proofs.Common.{◌≡◌, ◌⊎◌, inl, inr, ℕ, ◌≤◌, List, [], ◌∷◌, ◌++◌, length, replicate, Bool, true, false, cond, Option, Some, None, refl, ap, sym, subst, ◌∙◌, append_assoc, arith}
use Rattle.rbd_kinds.specs.declared.answer.Answer.{Answer}
use Rattle.rbd_kinds.specs.declared.answer.Answer.TheVariants as answer
use Rattle.rbd_commands.specs.declared.command.Command.{Command}
use Rattle.rbd_commands.specs.declared.command.Command.TheVariants as command
use Rattle.rbd_commands.specs.declared.command.Shape.{Shape}
use Rattle.rbd_kinds.specs.declared.directory_op.DirectoryOp.TheVariants as directory
use Rattle.rbd_kinds.specs.declared.header.HeaderView.{HeaderView}
use Rattle.rbd_kinds.specs.declared.header_op.HeaderOp.TheVariants as header
use Rattle.rbd_kinds.specs.declared.id.SiteId.{SiteId}
use Rattle.rbd_kinds.specs.declared.layout.Extent.{Extent}
use Rattle.rbd_kinds.specs.declared.operation.Op.{Op}
use Rattle.rbd_kinds.specs.declared.operation.Op.TheVariants as op
use Rattle.rbd_commands.specs.declared.refusal.Refusal.{Refusal}
use Rattle.rbd_commands.specs.declared.refusal.Refusal.TheVariants as refusal
use Rattle.rbd_kinds.specs.declared.reply.Reply.{Reply}
use Rattle.rbd_kinds.specs.declared.reply.Reply.TheVariants as reply
use Rattle.rbd_kinds.specs.Extents.{fits}
use Rattle.rbd_kinds.specs.Striping.{IsObjectCount}
use Rattle.rbd_layout.specs.Pieces.{pieces_of}
use Rattle.rbd_layout.specs.declared.types.Piece.{Piece}
use Rattle.rbd_header.specs.Header.{view_of}
use Rattle.rbd_header.specs.declared.view.View.{View}
use Rattle.rbd_machine.specs.About.{look_up, AreOwn}
use Rattle.rbd_machine.specs.Objects.{data_read}
use Rattle.rbd_machine.specs.Passes.{steps_of_passes}
use Rattle.rbd_machine.specs.Path.{Answered, found, looked_at}
use Rattle.rbd_machine.specs.declared.seat.Seat.{Seat}
use Rattle.rbd_machine.specs.Refused.{refusal_by, AreAllowed, refuses_none, never, by_fence, IsRefusedBy, IsRefused}
use Rattle.rbd_pieces.proofs.Pieces.{of_each_piece}
use Rattle.rbd_meaning.specs.Arrange.{bytes_of_extent}
use Rattle.rbd_meaning.specs.Closes.{lock_dropped, release_told, watch_ended, ClosesBy, Closes, LooksTwice, gone_or_fenced, CloseMeans, QuiesceMeans}
use Rattle.rbd_meaning.specs.Creates.{CreateMeans, Makes, IsOutsideLimits, IsNotMade}
use Rattle.rbd_meaning.specs.Discards.{DiscardMeans, DiscardsWhole, RefusesDiscard}
use Rattle.rbd_meaning.specs.Listings.{names_told, renamed_to, shown_snaps, used_among, ListMeans, InfoMeans, RenameMeans, SnapListMeans, ShowsHeader, ShowsUsed, UsedMeans}
use Rattle.rbd_meaning.specs.Meant.{IsMeantBy}
use Rattle.rbd_meaning.specs.Range.{extent_at}
use Rattle.rbd_meaning.specs.Reads.{ReadMeans, ShowsAtLast, RefusedAtLast, IsPassTo, IsShown, AreRead, bytes_read, bytes_shown, view_refuses, read_refuses}
use Rattle.rbd_meaning.specs.Removals.{removal_refusal_by, RefusesRemovalOf, RemoveMeans, RemovesImage}
use Rattle.rbd_meaning.specs.Resizes.{resize_refuses, RefusesResize, ResizeMeans, ResizesWhole}
use Rattle.rbd_meaning.specs.Rollbacks.{rollback_refuses, RefusesRollback, RollbackMeans, RollsBack}
use Rattle.rbd_meaning.specs.Snaps.{map_told, create_refuses, remove_refuses, map_removed, IsGone, TakesOne, RemovesOne, RefusesRemoval, SnapCreateMeans, SnapRemoveMeans}
use Rattle.rbd_meaning.specs.Straight.{all_told, bytes_told, GoesStraight, MeansStraight, Straight, straight_of, StraightMeans}
use Rattle.rbd_meaning.specs.Writes.{write_refuses, WritesWhole, RefusesWrite, WriteMeans}
use Rattle.rbd_meaning.proofs.Counts.{one_count}
use Rattle.rbd_meaning.proofs.Ends.{same_last, same_front}
use Rattle.rbd_meaning.proofs.Whole.{allowed_ends, discard_allowed, removal_ends, resize_allowed, rollback_allowed, write_allowed}

-- ---- replies that are granted or refused, each by what holds behind the same operations

-- it is granted, or refused
abbrev Is : (grants : Reply → Type 0) → (refuses : Refusal → Type 0) → Reply → Type 0
Is grants refuses r = grants r ⊎ ((x : Refusal) × (r ≡ reply.Refused x) × refuses x)

module _ (grants : Reply → Type 0) (refuses : Refusal → Type 0) (same_grant : (r s : Reply) → grants r → grants s → r ≡ s)
    (apart : (r : Reply) (x : Refusal) → grants r → refuses x → ⊥) (same_refusal : (x y : Refusal) → refuses x → refuses y → x ≡ y) where
  one_of : (r s : Reply) → Is grants refuses r → Is grants refuses s → r ≡ s
  one_of r s (inl one) (inl other) = same_grant r s one other
  one_of r s (inl one) (inr (y, is, refused)) = absurd (apart r y one refused)
  one_of r s (inr (x, is, refused)) (inl other) = absurd (apart s x other refused)
  one_of r s (inr (x, is, refused)) (inr (y, are, later)) = is ∙ ap reply.Refused (same_refusal x y refused later) ∙ sym are

-- ---- the last step

module _ (refuses : HeaderView → Option Refusal) (late : Refusal → Type 0) (steps : List Answered) where
  -- it is the last step that refuses
  last_refuses : (front : List Answered) (s : Answered) (x : Refusal) → steps ≡ front ++ s ∷ [] → IsRefusedBy refuses late steps x → refusal_by refuses s.op s.answer ≡ Some x
  last_refuses front s x are by =
      let last = same_last front by.before s by.last (sym are ∙ by.are) in
      subst (λ (t : Answered). refusal_by refuses t.op t.answer ≡ Some x) (sym last) by.refused

  -- so it isn't refused where that refuses nothing
  unrefused : (front : List Answered) (s : Answered) (x : Refusal) → steps ≡ front ++ s ∷ [] → refusal_by refuses s.op s.answer ≡ None → IsRefusedBy refuses late steps x → ⊥
  unrefused front s x are none by = let some = last_refuses front s x are by in cc

  refused_alike : (x y : Refusal) → IsRefusedBy refuses late steps x → IsRefusedBy refuses late steps y → x ≡ y
  refused_alike x y one other =
      let is = one.refused in
      let too = last_refuses one.before one.last y one.are other in
      cc

-- ---- done, of every command that is done

abbrev DoneBy : Type 0 → Reply → Type 0
DoneBy T reply.Done = T
DoneBy T _ = ⊥

done_once : (T : Type 0) (r s : Reply) → DoneBy T r → DoneBy T s → r ≡ s
done_once T reply.Done reply.Done one other = refl
done_once T reply.Done _ one other = absurd other
done_once T _ s one other = absurd one

-- ---- create

module _ (site : SiteId) (name : List ℕ) (size : ℕ) (shape : Shape) (steps : List Answered) where
  abbrev CreateRefused : Refusal → Type 0
  CreateRefused x = IsOutsideLimits size shape steps x ⊎ IsNotMade site name size shape steps x

  create_is : (r : Reply) → CreateMeans site name size shape steps r → Is (DoneBy (Makes site name size shape steps)) CreateRefused r
  create_is reply.Done meant = inl meant
  create_is (reply.Refused x) refused = inr (x, refl, refused)
  create_is _ meant = absurd meant

  create_apart : (r : Reply) (x : Refusal) → DoneBy (Makes site name size shape steps) r → CreateRefused x → ⊥
  create_apart reply.Done x makes (inl outside) = outside.outside makes.within
  create_apart reply.Done x makes (inr unmade) = unrefused refuses_none by_fence steps (_ ∷ _ ∷ []) _ x makes.made.are refl unmade.by.by
  create_apart _ x makes refused = absurd makes

  create_alike : (x y : Refusal) → CreateRefused x → CreateRefused y → x ≡ y
  create_alike x y (inl one) (inl other) = one.is ∙ sym other.is
  create_alike x y (inl one) (inr other) = absurd (one.outside other.within)
  create_alike x y (inr one) (inl other) = absurd (other.outside one.within)
  create_alike x y (inr one) (inr other) = refused_alike refuses_none by_fence steps x y one.by.by other.by.by

  one_create : (r s : Reply) → CreateMeans site name size shape steps r → CreateMeans site name size shape steps s → r ≡ s
  one_create r s one other = one_of _ CreateRefused (done_once _) create_apart create_alike r s (create_is r one) (create_is s other)

-- ---- write, fill

module _ (site : SiteId) (name : List ℕ) (at : ℕ) (bytes : List ℕ) where
  module _ (steps : List Answered) where
    write_is : (r : Reply) → WriteMeans site name at bytes steps r → Is (DoneBy (WritesWhole site name at bytes steps)) (RefusesWrite site name at bytes steps) r
    write_is reply.Done meant = inl meant
    write_is (reply.Refused x) refused = inr (x, refl, refused)
    write_is _ meant = absurd meant

    write_apart : (r : Reply) (x : Refusal) → DoneBy (WritesWhole site name at bytes steps) r → RefusesWrite site name at bytes steps x → ⊥
    write_apart reply.Done x whole refused = allowed_ends (write_refuses (extent_at at bytes)) by_fence steps x (write_allowed site name at bytes steps whole) refused.refused.by
    write_apart _ x whole refused = absurd whole

    one_write : (r s : Reply) → WriteMeans site name at bytes steps r → WriteMeans site name at bytes steps s → r ≡ s
    one_write r s one other =
        one_of _ (RefusesWrite site name at bytes steps) (done_once _) write_apart
        (λ x y a b. refused_alike (write_refuses (extent_at at bytes)) by_fence steps x y a.refused.by b.refused.by) r s (write_is r one) (write_is s other)

-- ---- ls, info, snap ls

module _ (site : SiteId) (steps : List Answered) where
  abbrev NamesBy : Reply → Type 0
  NamesBy (reply.Names names) = steps ≡ names_told site names ∷ []
  NamesBy _ = ⊥

  abbrev ListRefused : Refusal → Type 0
  ListRefused = IsRefused site (op.Directory directory.List) refuses_none never steps

  list_is : (r : Reply) → ListMeans site steps r → Is NamesBy ListRefused r
  list_is (reply.Names names) meant = inl meant
  list_is (reply.Refused x) refused = inr (x, refl, refused)
  list_is _ meant = absurd meant

  names_once : (r s : Reply) → NamesBy r → NamesBy s → r ≡ s
  names_once (reply.Names names) (reply.Names others) one other =
      let same = sym one ∙ other in
      let step : names_told site names ≡ names_told site others = cc in
      let told = ap (λ (t : Answered). t.answer) step in
      cc
  names_once (reply.Names names) _ one other = absurd other
  names_once _ s one other = absurd one

  list_apart : (r : Reply) (x : Refusal) → NamesBy r → ListRefused x → ⊥
  list_apart (reply.Names names) x are refused = unrefused refuses_none never steps [] _ x are refl refused.by
  list_apart _ x are refused = absurd are

  one_list : (r s : Reply) → ListMeans site steps r → ListMeans site steps s → r ≡ s
  one_list r s one other = one_of NamesBy ListRefused names_once list_apart (λ x y a b. refused_alike refuses_none never steps x y a.by b.by) r s (list_is r one) (list_is s other)

module _ (site : SiteId) (name : List ℕ) (shown : HeaderView → Reply) (steps : List Answered) where
  abbrev ShownBy : Reply → Type 0
  ShownBy r = ShowsHeader site name shown r steps

  abbrev LookRefused : Refusal → Type 0
  LookRefused = IsRefused site (look_up name) refuses_none never steps

  shown_once : (r s : Reply) → ShownBy r → ShownBy s → r ≡ s
  shown_once r s one other =
      let same = sym one.are ∙ other.are in
      let step : looked_at site one.image one.header ≡ looked_at site other.image other.header = cc in
      let told = ap (λ (t : Answered). t.answer) step in
      let header : one.header ≡ other.header = cc in
      one.shows ∙ ap shown header ∙ sym other.shows

  shown_apart : (r : Reply) (x : Refusal) → ShownBy r → LookRefused x → ⊥
  shown_apart r x shows refused = unrefused refuses_none never steps (_ ∷ []) _ x shows.are refl refused.by

  one_shown : (r s : Reply) → Is ShownBy LookRefused r → Is ShownBy LookRefused s → r ≡ s
  one_shown r s one other = one_of ShownBy LookRefused shown_once shown_apart (λ x y a b. refused_alike refuses_none never steps x y a.by b.by) r s one other

info_is : (site : SiteId) (name : List ℕ) (steps : List Answered) (r : Reply) → InfoMeans site name steps r → Is (ShownBy site name reply.Info steps) (LookRefused site name reply.Info steps) r
info_is site name steps (reply.Info h) meant = inl meant
info_is site name steps (reply.Refused x) refused = inr (x, refl, refused)
info_is site name steps _ meant = absurd meant

snap_list_is : (site : SiteId) (name : List ℕ) (steps : List Answered) (r : Reply) → SnapListMeans site name steps r → Is (ShownBy site name shown_snaps steps) (LookRefused site name shown_snaps steps) r
snap_list_is site name steps (reply.Snaps snaps) meant = inl meant
snap_list_is site name steps (reply.Refused x) refused = inr (x, refl, refused)
snap_list_is site name steps _ meant = absurd meant

-- ---- du

module _ (site : SiteId) (name : List ℕ) (steps : List Answered) where
  abbrev UsedBy : Reply → Type 0
  UsedBy (reply.Used used of) = ShowsUsed site name used of steps
  UsedBy _ = ⊥

  abbrev UseRefused : Refusal → Type 0
  UseRefused = IsRefused site (look_up name) refuses_none never steps

  used_is : (r : Reply) → UsedMeans site name steps r → Is UsedBy UseRefused r
  used_is (reply.Used used of) meant = inl meant
  used_is (reply.Refused x) refused = inr (x, refl, refused)
  used_is _ meant = absurd meant

  same_used : (used of other_used other_of : ℕ) → ShowsUsed site name used of steps → ShowsUsed site name other_used other_of steps → reply.Used used of ≡ reply.Used other_used other_of
  same_used used of other_used other_of one other =
      let same = sym one.are ∙ other.are in
      let look : looked_at site one.image one.header ≡ looked_at site other.image other.header = cc in
      let told = ap (λ (t : Answered). t.answer) look in
      let header : one.header ≡ other.header = cc in
      let map : map_told site one.image one.bits ≡ map_told site other.image other.bits = cc in
      let shown = ap (λ (t : Answered). t.answer) map in
      let bits : one.bits ≡ other.bits = cc in
      let objects : of ≡ other_of = one_count other.header.layout other.header.size of other_of (subst (λ (h : HeaderView). IsObjectCount h.layout h.size of) header one.of_is) other.of_is in
      ap (λ n. reply.Used n of) (one.used_is ∙ ap (λ b. used_among of b) bits ∙ ap (λ n. used_among n other.bits) objects ∙ sym other.used_is) ∙ ap (λ n. reply.Used other_used n) objects

  used_once : (r s : Reply) → UsedBy r → UsedBy s → r ≡ s
  used_once (reply.Used used of) (reply.Used other_used other_of) one other = same_used used of other_used other_of one other
  used_once (reply.Used used of) _ one other = absurd other
  used_once _ s one other = absurd one

  used_apart : (r : Reply) (x : Refusal) → UsedBy r → UseRefused x → ⊥
  used_apart (reply.Used used of) x shows refused = unrefused refuses_none never steps (_ ∷ _ ∷ []) _ x shows.are refl refused.by
  used_apart _ x shows refused = absurd shows

  one_used : (r s : Reply) → UsedMeans site name steps r → UsedMeans site name steps s → r ≡ s
  one_used r s one other = one_of UsedBy UseRefused used_once used_apart (λ x y a b. refused_alike refuses_none never steps x y a.by b.by) r s (used_is r one) (used_is s other)

-- ---- rename

module _ (site : SiteId) (from to : List ℕ) (steps : List Answered) where
  abbrev NameRefused : Refusal → Type 0
  NameRefused = IsRefused site (op.Directory (directory.Rename from to)) refuses_none never steps

  rename_is : (r : Reply) → RenameMeans site from to steps r → Is (DoneBy (steps ≡ renamed_to site from to ∷ [])) NameRefused r
  rename_is reply.Done meant = inl meant
  rename_is (reply.Refused x) refused = inr (x, refl, refused)
  rename_is _ meant = absurd meant

  rename_apart : (r : Reply) (x : Refusal) → DoneBy (steps ≡ renamed_to site from to ∷ []) r → NameRefused x → ⊥
  rename_apart reply.Done x are refused = unrefused refuses_none never steps [] _ x are refl refused.by
  rename_apart _ x are refused = absurd are

  one_rename : (r s : Reply) → RenameMeans site from to steps r → RenameMeans site from to steps s → r ≡ s
  one_rename r s one other = one_of _ NameRefused (done_once _) rename_apart (λ x y a b. refused_alike refuses_none never steps x y a.by b.by) r s (rename_is r one) (rename_is s other)

-- ---- discard, resize, snap rollback: what no answer of a whole change refuses

module _ (refuses : HeaderView → Option Refusal) (steps : List Answered) (T : Type 0) (whole : T → AreAllowed refuses [] steps)
    (R : Refusal → Type 0) (refused : (x : Refusal) → R x → IsRefusedBy refuses by_fence steps x) where
  change_apart : (r : Reply) (x : Refusal) → DoneBy T r → R x → ⊥
  change_apart reply.Done x t by = allowed_ends refuses by_fence steps x (whole t) (refused x by)
  change_apart _ x t by = absurd t

  one_change : (r s : Reply) → Is (DoneBy T) R r → Is (DoneBy T) R s → r ≡ s
  one_change r s one other = one_of (DoneBy T) R (done_once T) change_apart (λ x y a b. refused_alike refuses by_fence steps x y (refused x a) (refused y b)) r s one other

module _ (site : SiteId) (name : List ℕ) (steps : List Answered) where
  discard_is : (at len : ℕ) (r : Reply) → DiscardMeans site name at len steps r
      → Is (DoneBy (DiscardsWhole site name (record { at = at; len = len }) steps)) (RefusesDiscard site name (record { at = at; len = len }) steps) r
  discard_is at len reply.Done meant = inl meant
  discard_is at len (reply.Refused x) refused = inr (x, refl, refused)
  discard_is at len _ meant = absurd meant

  one_discard : (at len : ℕ) (r s : Reply) → DiscardMeans site name at len steps r → DiscardMeans site name at len steps s → r ≡ s
  one_discard at len r s one other =
      one_change (write_refuses (record { at = at; len = len })) steps _ (discard_allowed site name (record { at = at; len = len }) steps)
      (RefusesDiscard site name (record { at = at; len = len }) steps) (λ x refuses. refuses.refused.by) r s (discard_is at len r one) (discard_is at len s other)

  resize_is : (to : ℕ) (r : Reply) → ResizeMeans site name to steps r → Is (DoneBy (ResizesWhole site name to steps)) (RefusesResize site name to steps) r
  resize_is to reply.Done meant = inl meant
  resize_is to (reply.Refused x) refused = inr (x, refl, refused)
  resize_is to _ meant = absurd meant

  one_resize : (to : ℕ) (r s : Reply) → ResizeMeans site name to steps r → ResizeMeans site name to steps s → r ≡ s
  one_resize to r s one other =
      one_change (resize_refuses to) steps _ (resize_allowed site name to steps) (RefusesResize site name to steps) (λ x refuses. refuses.refused.by) r s (resize_is to r one) (resize_is to s other)

  rollback_is : (snap : List ℕ) (r : Reply) → RollbackMeans site name snap steps r → Is (DoneBy (RollsBack site name snap steps)) (RefusesRollback site name snap steps) r
  rollback_is snap reply.Done meant = inl meant
  rollback_is snap (reply.Refused x) refused = inr (x, refl, refused)
  rollback_is snap _ meant = absurd meant

  one_rollback : (snap : List ℕ) (r s : Reply) → RollbackMeans site name snap steps r → RollbackMeans site name snap steps s → r ≡ s
  one_rollback snap r s one other =
      one_change (rollback_refuses snap) steps _ (rollback_allowed site name snap steps) (RefusesRollback site name snap steps) (λ x refuses. refuses.refused.by) r s (rollback_is snap r one) (rollback_is snap s other)

-- ---- rm

module _ (site : SiteId) (session : ℕ) (name : List ℕ) (steps : List Answered) where
  image_removal_is : (r : Reply) → RemoveMeans site session name steps r → Is (DoneBy (RemovesImage site session name steps)) (RefusesRemovalOf site session name steps) r
  image_removal_is reply.Done meant = inl meant
  image_removal_is (reply.Refused x) refused = inr (x, refl, refused)
  image_removal_is _ meant = absurd meant

  image_removal_apart : (r : Reply) (x : Refusal) → DoneBy (RemovesImage site session name steps) r → RefusesRemovalOf site session name steps x → ⊥
  image_removal_apart reply.Done x whole refused = removal_ends site session name steps x whole refused
  image_removal_apart _ x whole refused = absurd whole

  removal_alike : (x y : Refusal) → RefusesRemovalOf site session name steps x → RefusesRemovalOf site session name steps y → x ≡ y
  removal_alike x y a b =
      let last = same_last a.before b.before a.last b.last (sym a.are ∙ b.are) in
      let is = subst (λ (t : Answered). removal_refusal_by session t.op t.answer ≡ Some x) last a.refused in
      let too = b.refused in
      cc

  one_image_removal : (r s : Reply) → RemoveMeans site session name steps r → RemoveMeans site session name steps s → r ≡ s
  one_image_removal r s one other = one_of _ (RefusesRemovalOf site session name steps) (done_once _) image_removal_apart removal_alike r s (image_removal_is r one) (image_removal_is s other)

-- ---- snap create, snap rm

module _ (site : SiteId) (name snap : List ℕ) (steps : List Answered) where
  take_is : (r : Reply) → SnapCreateMeans site name snap steps r → Is (DoneBy (TakesOne site name snap steps)) (IsRefused site (look_up name) (create_refuses snap) never steps) r
  take_is reply.Done meant = inl meant
  take_is (reply.Refused x) refused = inr (x, refl, refused)
  take_is _ meant = absurd meant

  take_apart : (r : Reply) (x : Refusal) → DoneBy (TakesOne site name snap steps) r → IsRefused site (look_up name) (create_refuses snap) never steps x → ⊥
  take_apart reply.Done x takes refused = unrefused (create_refuses snap) never steps (_ ∷ _ ∷ _ ∷ _ ∷ _ ∷ []) _ x takes.are refl refused.by
  take_apart _ x takes refused = absurd takes

  one_take : (r s : Reply) → SnapCreateMeans site name snap steps r → SnapCreateMeans site name snap steps s → r ≡ s
  one_take r s one other = one_of _ _ (done_once _) take_apart (λ x y a b. refused_alike (create_refuses snap) never steps x y a.by b.by) r s (take_is r one) (take_is s other)

  remove_is : (r : Reply) → SnapRemoveMeans site name snap steps r → Is (DoneBy (RemovesOne site name snap steps)) (RefusesRemoval site name snap steps) r
  remove_is reply.Done meant = inl meant
  remove_is (reply.Refused x) refused = inr (x, refl, refused)
  remove_is _ meant = absurd meant

  gone_refuses_none : (image id : ℕ) (gone : Answer) → IsGone gone → refusal_by (remove_refuses snap) (map_removed site image id gone).op gone ≡ None
  gone_refuses_none image id answer.Done is = refl
  gone_refuses_none image id answer.Absent is = refl
  gone_refuses_none image id _ is = absurd is

  remove_apart : (r : Reply) (x : Refusal) → DoneBy (RemovesOne site name snap steps) r → RefusesRemoval site name snap steps x → ⊥
  remove_apart reply.Done x removes refused =
      unrefused (remove_refuses snap) by_fence steps (_ ∷ _ ∷ _ ∷ _ ∷ []) _ x removes.are (gone_refuses_none removes.image removes.listed.id removes.gone removes.is_gone) refused.refused.by
  remove_apart _ x removes refused = absurd removes

  one_remove : (r s : Reply) → SnapRemoveMeans site name snap steps r → SnapRemoveMeans site name snap steps s → r ≡ s
  one_remove r s one other = one_of _ _ (done_once _) remove_apart (λ x y a b. refused_alike (remove_refuses snap) by_fence steps x y a.refused.by b.refused.by) r s (remove_is r one) (remove_is s other)

-- ---- close, quiesce

-- the last step is one that refuses nothing
record EndsUnrefused (steps : List Answered) : Type 0 where
  pub front : List Answered
  pub last : Answered
  pub are : steps ≡ front ++ last ∷ []
  pub none : refusal_by refuses_none last.op last.answer ≡ None

module _ (site : SiteId) (name : List ℕ) (late : Refusal → Type 0) (steps : List Answered) (T : Type 0) (ends : T → EndsUnrefused steps) where
  abbrev RefusesIt : Refusal → Type 0
  RefusesIt = IsRefused site (look_up name) refuses_none late steps

  done_apart : (r : Reply) (x : Refusal) → DoneBy T r → RefusesIt x → ⊥
  done_apart reply.Done x t refused = unrefused refuses_none late steps (ends t).front (ends t).last x (ends t).are (ends t).none refused.by
  done_apart _ x t refused = absurd t

  one_done : (r s : Reply) → Is (DoneBy T) RefusesIt r → Is (DoneBy T) RefusesIt s → r ≡ s
  one_done r s one other = one_of (DoneBy T) RefusesIt (done_once T) done_apart (λ x y a b. refused_alike refuses_none late steps x y a.by b.by) r s one other

module _ (site : SiteId) (name : List ℕ) (steps : List Answered) where
  close_is : (r : Reply) → CloseMeans site name steps r → Is (DoneBy (Closes site name steps)) (IsRefused site (look_up name) refuses_none gone_or_fenced steps) r
  close_is reply.Done meant = inl meant
  close_is (reply.Refused x) refused = inr (x, refl, refused)
  close_is _ meant = absurd meant

  -- whether its drop was done or not, the end of its watch is the last
  close_unrefused : Closes site name steps → EndsUnrefused steps
  close_unrefused c = go c.dropped c.closes
    where
      go : (a : Answer) → ClosesBy site c.image a c.behind → EndsUnrefused steps
      go answer.Done behind = record {
        front = found site name c.image ∷ lock_dropped site c.image c.dropped ∷ release_told site c.image ∷ [];
        last = watch_ended site c.image;
        are = c.are ∙ ap (λ s. found site name c.image ∷ lock_dropped site c.image c.dropped ∷ s) behind;
        none = refl;
      }
      go answer.Changed behind = record {
        front = found site name c.image ∷ lock_dropped site c.image c.dropped ∷ [];
        last = watch_ended site c.image;
        are = c.are ∙ ap (λ s. found site name c.image ∷ lock_dropped site c.image c.dropped ∷ s) behind;
        none = refl;
      }
      go _ behind = absurd behind

  one_close : (r s : Reply) → CloseMeans site name steps r → CloseMeans site name steps s → r ≡ s
  one_close r s one other = one_done site name gone_or_fenced steps (Closes site name steps) close_unrefused r s (close_is r one) (close_is s other)

  quiesce_is : (r : Reply) → QuiesceMeans site name steps r → Is (DoneBy (LooksTwice site name steps)) (IsRefused site (look_up name) refuses_none never steps) r
  quiesce_is reply.Done meant = inl meant
  quiesce_is (reply.Refused x) refused = inr (x, refl, refused)
  quiesce_is _ meant = absurd meant

  looks_unrefused : LooksTwice site name steps → EndsUnrefused steps
  looks_unrefused l = record { front = _ ∷ _ ∷ []; last = looked_at site l.image l.own; are = l.are; none = refl }

  one_quiesce : (r s : Reply) → QuiesceMeans site name steps r → QuiesceMeans site name steps s → r ≡ s
  one_quiesce r s one other = one_done site name never steps (LooksTwice site name steps) looks_unrefused r s (quiesce_is r one) (quiesce_is s other)

-- ---- straight commands

module _ (site : SiteId) (s : Straight) (steps : List Answered) where
  straight_is : (r : Reply) → StraightMeans site s steps r → Is (DoneBy (GoesStraight site s steps)) (IsRefused site (look_up s.name) refuses_none never steps) r
  straight_is reply.Done meant = inl meant
  straight_is (reply.Refused x) refused = inr (x, refl, refused)
  straight_is _ meant = absurd meant

  straight_unrefused : GoesStraight site s steps → EndsUnrefused steps
  straight_unrefused goes = by s.tells goes.are
    where
      by : (o : Option (List ℕ)) → steps ≡ found site s.name goes.image ∷ all_told site goes.image o → EndsUnrefused steps
      by None are = record { front = []; last = found site s.name goes.image; are = are; none = refl }
      by (Some bytes) are = record { front = found site s.name goes.image ∷ []; last = bytes_told site goes.image bytes; are = are; none = refl }

one_straight : (site : SiteId) (o : Option Straight) (steps : List Answered) (r t : Reply) → MeansStraight site o steps r → MeansStraight site o steps t → r ≡ t
one_straight site None steps r t one other = absurd one
one_straight site (Some s) steps r t one other =
    one_done site s.name never steps (GoesStraight site s steps) (straight_unrefused site s steps) r t (straight_is site s steps r one) (straight_is site s steps t other)

-- ---- read: where its last pass begins

abbrev is_find : Op → Bool
is_find (op.Directory (directory.Find name)) = true
is_find _ = false

abbrev FindsNothing : List Answered → Type 0
FindsNothing [] = Unit {0}
FindsNothing (s ∷ steps) = (is_find s.op ≡ false) × FindsNothing steps

finds_later : (front : List Answered) (g : Answered) (more rest : List Answered) → FindsNothing rest → is_find g.op ≡ true → rest ≡ front ++ g ∷ more → ⊥
finds_later front g more rest none finds same = go front (subst FindsNothing same none)
  where
    go : (front : List Answered) → FindsNothing (front ++ g ∷ more) → ⊥
    go [] nothing = let no = nothing.0 in cc
    go (s ∷ front) nothing = go front nothing.1

-- what stands behind the last find
same_begin : (one two : List Answered) (f g : Answered) (rest more : List Answered) → is_find f.op ≡ true → is_find g.op ≡ true → FindsNothing rest → FindsNothing more
    → one ++ f ∷ rest ≡ two ++ g ∷ more → rest ≡ more
same_begin [] [] f g rest more finds too none nor same = cc
same_begin [] (s ∷ two) f g rest more finds too none nor same = let later : rest ≡ two ++ g ∷ more = cc in absurd (finds_later two g more rest none too later)
same_begin (s ∷ one) [] f g rest more finds too none nor same = let later : one ++ f ∷ rest ≡ more = cc in absurd (finds_later one f rest more nor finds (sym later))
same_begin (s ∷ one) (t ∷ two) f g rest more finds too none nor same = let later : one ++ f ∷ rest ≡ two ++ g ∷ more = cc in same_begin one two f g rest more finds too none nor later

find_nothing_more : (one two : List Answered) → FindsNothing one → FindsNothing two → FindsNothing (one ++ two)
find_nothing_more [] two none nor = nor
find_nothing_more (s ∷ one) two none nor = (none.0, find_nothing_more one two none.1 nor)

reads_find_nothing : (pieces : List Piece) (steps : List Answered) (site : SiteId) (image : ℕ) (snap : Option ℕ) → AreRead site image snap pieces steps → FindsNothing steps
reads_find_nothing pieces steps site image snap read =
    of_each_piece FindsNothing tt find_nothing_more (IsShown site image snap) (λ p steps is. subst FindsNothing (sym is.are) (refl, tt)) pieces steps read

-- ---- read

some_length : (more : List Answered) (s : Answered) → 1 ≤ length (more ++ s ∷ [])
some_length [] s = omega arith
some_length (m ∷ more) s = let some = some_length more s in omega arith

abbrev read_as : SiteId → (image : ℕ) → (snap : Option ℕ) → Piece → Answer → Answered
read_as site image snap p a = record { site = site; op = data_read image snap p; answer = a }

-- the same operations show the same bytes
read_once : (pieces : List Piece) (site : SiteId) (image other : ℕ) (snap another : Option ℕ) (steps same_steps : List Answered)
    (one : AreRead site image snap pieces steps) (two : AreRead site other another pieces same_steps) → steps ≡ same_steps
    → bytes_read site image snap pieces steps one ≡ bytes_read site other another pieces same_steps two
read_once [] site image other snap another steps same_steps one two same = refl
read_once (p ∷ pieces) site image other snap another steps same_steps one two same =
    let f = one.is_first in
    let g = two.is_first in
    let all : read_as site image snap p f.answer ∷ one.others ≡ read_as site other another p g.answer ∷ two.others =
    sym (one.are ∙ ap (λ first. first ++ one.others) f.are) ∙ same ∙ two.are ∙ ap (λ first. first ++ two.others) g.are in
    let step : read_as site image snap p f.answer ≡ read_as site other another p g.answer = cc in
    let told : f.answer ≡ g.answer = ap (λ (t : Answered). t.answer) step in
    let rest : one.others ≡ two.others = cc in
    let some : Some f.bytes ≡ Some g.bytes = sym f.shown ∙ ap (bytes_shown p.parts) told ∙ g.shown in
    let bytes : f.bytes ≡ g.bytes = cc in
    ap (λ b. b ++ bytes_read site image snap pieces one.others one.are_others) bytes
    ∙ ap (λ b. g.bytes ++ b) (read_once pieces site image other snap another one.others two.others one.are_others two.are_others rest)

-- by the same header
bytes_shown_once : (e : Extent) (h g : HeaderView) (site : SiteId) (image other : ℕ) (snap another : Option ℕ) (steps same_steps : List Answered)
    (one : AreRead site image snap (pieces_of h.layout e) steps) (two : AreRead site other another (pieces_of g.layout e) same_steps) → h ≡ g → steps ≡ same_steps
    → bytes_of_extent h.layout e (bytes_read site image snap (pieces_of h.layout e) steps one) ≡ bytes_of_extent g.layout e (bytes_read site other another (pieces_of g.layout e) same_steps two)
bytes_shown_once e h g site image other snap another steps same_steps one two is same =
    subst (λ (g : HeaderView). (two : AreRead site other another (pieces_of g.layout e) same_steps)
    → bytes_of_extent h.layout e (bytes_read site image snap (pieces_of h.layout e) steps one) ≡ bytes_of_extent g.layout e (bytes_read site other another (pieces_of g.layout e) same_steps two)) is
    (λ two. ap (bytes_of_extent h.layout e) (read_once (pieces_of h.layout e) site image other snap another steps same_steps one two same)) two

module _ (site : SiteId) (name : List ℕ) (snap : Option (List ℕ)) (e : Extent) where
  -- a pass, behind its find
  abbrev behind : (steps : List Answered) (closing : Answer) → IsPassTo site name snap e steps closing → List Answered
  behind steps closing p = looked_at site p.image p.first ∷ p.reads

  abbrev closes : (image : ℕ) → Answer → Answered
  closes image a = record { site = site; op = op.Header image header.Get; answer = a }

  behind_finds_nothing : (steps : List Answered) (closing : Answer) (p : IsPassTo site name snap e steps closing) → FindsNothing (behind steps closing p)
  behind_finds_nothing steps closing p = (refl, reads_find_nothing (pieces_of p.first.layout e) p.reads site p.image p.view.snap p.read)

  never_fenced : (h : HeaderView) → read_refuses snap e h ≡ Some refusal.Fenced → ⊥
  never_fenced h = go (view_of h snap)
    where
      at_range : (b : Bool) → cond b None (Some refusal.BadRange) ≡ Some refusal.Fenced → ⊥
      at_range true is = cc
      at_range false is = cc

      go : (view : Option View) → view_refuses e view ≡ Some refusal.Fenced → ⊥
      go None is = cc
      go (Some view) is = at_range (fits e view.size) is

  module _ (steps : List Answered) where
    abbrev BytesBy : Reply → Type 0
    BytesBy (reply.Bytes bytes) = ShowsAtLast site name snap e steps bytes
    BytesBy _ = ⊥

    read_is : (r : Reply) → ReadMeans site name snap e steps r → Is BytesBy (RefusedAtLast site name snap e steps) r
    read_is (reply.Bytes bytes) meant = inl meant
    read_is (reply.Refused x) refused = inr (x, refl, refused)
    read_is _ meant = absurd meant

    -- its last pass is the same, so it read the same
    same_bytes : (bytes others : List ℕ) → ShowsAtLast site name snap e steps bytes → ShowsAtLast site name snap e steps others → bytes ≡ others
    same_bytes bytes others a b =
        let p = a.shows.pass in
        let q = b.shows.pass in
        let c = closes p.image (answer.Header a.shows.closing) in
        let d = closes q.image (answer.Header b.shows.closing) in
        let same = sym (a.are ∙ ap (λ r. steps_of_passes a.passes ++ r) p.are) ∙ (b.are ∙ ap (λ r. steps_of_passes b.passes ++ r) q.are) in
        let tails : looked_at site p.image p.first ∷ (p.reads ++ c ∷ []) ≡ looked_at site q.image q.first ∷ (q.reads ++ d ∷ []) =
        same_begin (steps_of_passes a.passes) (steps_of_passes b.passes) (found site name p.image) (found site name q.image) _ _ refl refl
        (find_nothing_more (behind a.pass _ p) (c ∷ []) (behind_finds_nothing a.pass _ p) (refl, tt))
        (find_nothing_more (behind b.pass _ q) (d ∷ []) (behind_finds_nothing b.pass _ q) (refl, tt)) same in
        let step : looked_at site p.image p.first ≡ looked_at site q.image q.first = cc in
        let told = ap (λ (t : Answered). t.answer) step in
        let first : p.first ≡ q.first = cc in
        let rest : p.reads ++ c ∷ [] ≡ q.reads ++ d ∷ [] = cc in
        a.shows.shows
        ∙ bytes_shown_once e p.first q.first site p.image q.image p.view.snap q.view.snap p.reads q.reads p.read q.read first (same_front p.reads q.reads c d rest)
        ∙ sym b.shows.shows

    bytes_once : (r s : Reply) → BytesBy r → BytesBy s → r ≡ s
    bytes_once (reply.Bytes bytes) (reply.Bytes others) one other = ap reply.Bytes (same_bytes bytes others one other)
    bytes_once (reply.Bytes bytes) _ one other = absurd other
    bytes_once _ s one other = absurd one

    -- all steps but the last, which refused it
    refused_steps : (x : Refusal) (r : RefusedAtLast site name snap e steps x) → steps ≡ (steps_of_passes r.passes ++ r.by.by.before) ++ r.by.by.last ∷ []
    refused_steps x r = r.are ∙ ap (λ q. steps_of_passes r.passes ++ q) r.by.by.are ∙ sym (append_assoc (steps_of_passes r.passes) r.by.by.before (r.by.by.last ∷ []))

    read_alike : (x y : Refusal) → RefusedAtLast site name snap e steps x → RefusedAtLast site name snap e steps y → x ≡ y
    read_alike x y a b =
        let last = same_last (steps_of_passes a.passes ++ a.by.by.before) (steps_of_passes b.passes ++ b.by.by.before) a.by.by.last b.by.by.last (sym (refused_steps x a) ∙ refused_steps y b) in
        let is = subst (λ (t : Answered). refusal_by (read_refuses snap e) t.op t.answer ≡ Some x) last a.by.by.refused in
        let too = b.by.by.refused in
        cc

    -- a pass that is refused early ends at its find or behind it, and one that shows bytes later
    too_short : (passes : List (List Answered)) (f : List Answered) (image : ℕ) (closing : HeaderView) (p : IsPassTo site name snap e f (answer.Header closing)) (others : List (List Answered)) (before : List Answered) (last : Answered)
        → closes p.image (answer.Header closing) ≡ last → AreOwn site (look_up name) (before ++ last ∷ []) → length (before ++ last ∷ []) ≤ 2
        → steps_of_passes passes ++ (found site name p.image ∷ behind f (answer.Header closing) p) ≡ steps_of_passes others ++ before → ⊥
    too_short passes f image closing p others [] last is own short same = let asks = own.1 in let o = ap (λ (t : Answered). t.op) is in cc
    too_short passes f image closing p others (g ∷ []) last is own short same =
        let finds : is_find g.op ≡ true = ap (λ (t : Answered). is_find t.op) own.told in
        let none : behind f (answer.Header closing) p ≡ [] =
        same_begin (steps_of_passes passes) (steps_of_passes others) (found site name p.image) g (behind f (answer.Header closing) p) [] refl finds (behind_finds_nothing f (answer.Header closing) p) tt same in
        cc
    too_short passes f image closing p others (g ∷ h ∷ before) last is own short same = let some = some_length before last in absurd (omega (arith, some, short))

    read_apart : (r : Reply) (x : Refusal) → BytesBy r → RefusedAtLast site name snap e steps x → ⊥
    read_apart (reply.Bytes bytes) x a r =
        let p = a.shows.pass in
        let c = closes p.image (answer.Header a.shows.closing) in
        let front = found site name p.image ∷ behind a.pass (answer.Header a.shows.closing) p in
        let shown : steps ≡ (steps_of_passes a.passes ++ front) ++ c ∷ [] = a.are ∙ ap (λ q. steps_of_passes a.passes ++ q) p.are ∙ sym (append_assoc (steps_of_passes a.passes) front (c ∷ [])) in
        let same = sym shown ∙ refused_steps x r in
        let last : c ≡ r.by.by.last = same_last (steps_of_passes a.passes ++ front) (steps_of_passes r.passes ++ r.by.by.before) c r.by.by.last same in
        let refuses : read_refuses snap e a.shows.closing ≡ Some x = subst (λ (t : Answered). refusal_by (read_refuses snap e) t.op t.answer ≡ Some x) (sym last) r.by.by.refused in
        too_short a.passes a.pass p.image a.shows.closing p r.passes r.by.by.before r.by.by.last last
        (subst (AreOwn site (look_up name)) r.by.by.are r.by.own)
        (subst (λ q. length q ≤ 2) r.by.by.are (r.early (λ fenced. never_fenced a.shows.closing (subst (λ y. read_refuses snap e a.shows.closing ≡ Some y) fenced refuses))))
        (same_front (steps_of_passes a.passes ++ front) (steps_of_passes r.passes ++ r.by.by.before) c r.by.by.last same)
    read_apart _ x a r = absurd a

    one_read : (r s : Reply) → ReadMeans site name snap e steps r → ReadMeans site name snap e steps s → r ≡ s
    one_read r s one other = one_of BytesBy (RefusedAtLast site name snap e steps) bytes_once read_apart read_alike r s (read_is r one) (read_is s other)

-- ---- all commands

pub one_reply : (seat : Seat) (c : Command) (steps : List Answered) (r s : Reply) → IsMeantBy seat c steps r → IsMeantBy seat c steps s → r ≡ s
one_reply seat (command.Create name size shape) steps r s one other = one_create seat.home name size shape steps r s one.1 other.1
one_reply seat (command.Write name at bytes) steps r s one other = one_write seat.home name at bytes steps r s one other
one_reply seat (command.Fill name at len byte) steps r s one other = one_write seat.home name at (replicate len byte) steps r s one other
one_reply seat (command.Discard name at len) steps r s one other = one_discard seat.home name steps at len r s one other
one_reply seat (command.Read name snap at len) steps r s one other = one_read seat.home name snap (record { at = at; len = len }) steps r s one other
one_reply seat (command.Resize name size) steps r s one other = one_resize seat.home name steps size r s one other
one_reply seat (command.Rename from to) steps r s one other = one_rename seat.home from to steps r s one other
one_reply seat (command.Remove name) steps r s one other = one_image_removal seat.home seat.session name steps r s one other
one_reply seat (command.Used name) steps r s one other = one_used seat.home name steps r s one other
one_reply seat command.List steps r s one other = one_list seat.home steps r s one other
one_reply seat (command.Info name) steps r s one other = one_shown seat.home name reply.Info steps r s (info_is seat.home name steps r one) (info_is seat.home name steps s other)
one_reply seat (command.SnapList name) steps r s one other = one_shown seat.home name shown_snaps steps r s (snap_list_is seat.home name steps r one) (snap_list_is seat.home name steps s other)
one_reply seat (command.SnapCreate name snap) steps r s one other = one_take seat.home name snap steps r s one other
one_reply seat (command.SnapRemove name snap) steps r s one other = one_remove seat.home name snap steps r s one other
one_reply seat (command.SnapRollback name snap) steps r s one other = one_rollback seat.home name steps snap r s one other
one_reply seat (command.Close name) steps r s one other = one_close seat.home name steps r s one other
one_reply seat (command.Quiesce name) steps r s one other = one_quiesce seat.home name steps r s one other
one_reply seat c steps r s one other = one_straight seat.home (straight_of c) steps r s one other
