-- What replies mean, command by command.
use Rattle.std.proofs.Common.{◌≡◌, ◌⊎◌, inl, inr, ℕ, List, [], true, false, None, refl, subst}
use Rattle.rbd_kinds.specs.declared.answer.Answer.{Answer}
use Rattle.rbd_kinds.specs.declared.answer.Answer.TheVariants as answer
use Rattle.rbd_commands.specs.declared.command.Command.{Command}
use Rattle.rbd_commands.specs.declared.command.Command.TheVariants as command
use Rattle.rbd_commands.specs.declared.command.Shape.{Shape}
use Rattle.rbd_kinds.specs.declared.directory_op.DirectoryOp.TheVariants as directory
use Rattle.rbd_kinds.specs.declared.header.HeaderView.{HeaderView}
use Rattle.rbd_kinds.specs.declared.header_op.HeaderOp.TheVariants as header
use Rattle.rbd_kinds.specs.declared.id.SiteId.{SiteId}
use Rattle.rbd_kinds.specs.declared.machine.Fed.{Fed}
use Rattle.rbd_kinds.specs.declared.map_op.MapOp.TheVariants as states
use Rattle.rbd_kinds.specs.declared.operation.Op.TheVariants as op
use Rattle.rbd_commands.specs.declared.refusal.Refusal.TheVariants as refusal
use Rattle.rbd_kinds.proofs.Results.{same_refusal}
use Rattle.rbd_kinds.specs.declared.reply.Reply.{Reply}
use Rattle.rbd_kinds.specs.declared.reply.Reply.TheVariants as reply
use Rattle.rbd_header.specs.Header.{new_header}
use Rattle.rbd_layout.specs.Asked.{layout_of, KeepsLimits}
use Rattle.rbd_machine.specs.Path.{Answered, IsWalk}
use Rattle.rbd_machine.specs.declared.seat.Seat.{Seat}
use Rattle.rbd_machine.specs.Plan.{Plan, Return, Goto}
use Rattle.rbd_machine.specs.Refused.{refuses_none, never, by_fence, AreGiven, IsGiven, IsRefusedBy}
use Rattle.rbd_machine.specs.Steps.{on_done, on_bits}
use Rattle.rbd_machine.proofs.Refused.{IsRefusing, Answers, EndsBy, ends_by, only_image, refusing_find, refusing_look}
use Rattle.rbd_machine.proofs.Walked.{ended}
use Rattle.rbd_meaning.specs.Creates.{CreateMeans}
use Rattle.rbd_meaning.specs.Count.{object_count}
use Rattle.rbd_meaning.specs.Listings.{shown_snaps, used_among, InfoMeans, RenameMeans, SnapListMeans, ListMeans, UsedMeans}
use Rattle.rbd_meaning.specs.Meant.{IsMeantBy}
use Rattle.rbd_image.specs.Create.{IsCreate, IsCreatePlan, on_drawn, making, mapping, drawing}
use Rattle.rbd_image.specs.Listing.{counting, is_listing, measuring, on_names, on_renamed, list_names, rename, showing, show_header, show_used, listing_plan}
use Rattle.rbd_image.proofs.About.{create_is_own, list_is_own, listing_is_own, rename_is_own, used_is_own}
use Rattle.rbd_image.proofs.Decided.{limits_or_not}
use Rattle.rbd_image.proofs.Shown.{create_makes_one, create_has_few, names_are_listed, header_is_shown, name_is_changed, used_is_shown}

-- ---- what is granted

abbrev pub IsDone : Reply → Type 0
IsDone reply.Done = Unit {0}
IsDone _ = ⊥

abbrev TellsNames : Reply → Type 0
TellsNames (reply.Names names) = Unit {0}
TellsNames _ = ⊥

abbrev TellsInfo : Reply → Type 0
TellsInfo (reply.Info h) = Unit {0}
TellsInfo _ = ⊥

abbrev TellsSnaps : Reply → Type 0
TellsSnaps (reply.Snaps snaps) = Unit {0}
TellsSnaps _ = ⊥

abbrev TellsUsed : Reply → Type 0
TellsUsed (reply.Used used of) = Unit {0}
TellsUsed _ = ⊥

-- ---- create

module _ (objects : ℕ) (h : HeaderView) (site : SiteId) where
  refusing_made : (image : ℕ) (a : Answer) → IsGiven (op.Header image (header.Create h)) a
      → Answers refuses_none by_fence IsDone (only_image site image) true site (op.Header image (header.Create h)) a (on_done (Return reply.Done) a)
  refusing_made image answer.Done can = inr (λ live may. refl, tt)
  refusing_made image answer.Fenced can = inl (record { why = refusal.Fenced; own = inl refl; is = refl; ends = refl; comes = λ was. refl })
  refusing_made image _ can = let no = can.can.word in cc

  refusing_mapped : (image : ℕ) (a : Answer) → IsGiven (op.Map image (states.Resize objects)) a
      → Answers refuses_none by_fence IsDone (only_image site image) true site (op.Map image (states.Resize objects)) a (on_done (making site h image) a)
  refusing_mapped image answer.Done can = inr (λ live may. refl, refusing_made image)
  refusing_mapped image answer.Fenced can = inl (record { why = refusal.Fenced; own = inl refl; is = refl; ends = refl; comes = λ was. refl })
  refusing_mapped image _ can = let no = can.can.word in cc

  refusing_drawn : (name : List ℕ) (a : Answer) → IsGiven (op.Directory (directory.Add name)) a
      → Answers refuses_none by_fence IsDone [] false site (op.Directory (directory.Add name)) a (on_drawn (mapping site objects h) a)
  refusing_drawn name (answer.Id image) can = inr (λ live may. refl, refusing_mapped image)
  refusing_drawn name answer.Exists can = inl (record { why = refusal.ImageExists; own = inr tt; is = refl; ends = refl; comes = λ was. cc })
  refusing_drawn name answer.Full can = inl (record { why = refusal.BadShape; own = inr tt; is = refl; ends = refl; comes = λ was. cc })
  refusing_drawn name answer.Fenced can = inl (record { why = refusal.Fenced; own = inl refl; is = refl; ends = refl; comes = λ was. refl })
  refusing_drawn name _ can = let no = can.can.word in cc

module _ (site : SiteId) (name : List ℕ) (size : ℕ) (shape : Shape) (plan : Plan) (is : IsCreate site name size shape plan) (feds : List Fed) (steps : List Answered) where
  create_within : (r : Reply) → AreGiven steps → KeepsLimits (layout_of shape) size → IsWalk Goto plan feds steps (Return r) → CreateMeans site name size shape steps r
  create_within r given keeps walk =
      let made : IsWalk Goto (drawing site name is.objects (new_header (layout_of shape) size)) feds steps (Return r) = subst (λ p. IsWalk Goto p feds steps (Return r)) (is.within keeps) walk in
      go r (ends_by refuses_none by_fence IsDone feds [] false (drawing site name is.objects (new_header (layout_of shape) size)) steps r (refusing_drawn is.objects (new_header (layout_of shape) size) site name) given made) walk
    where
      go : (r : Reply) → EndsBy refuses_none by_fence IsDone [] false steps r → IsWalk Goto plan feds steps (Return r) → CreateMeans site name size shape steps r
      go reply.Done ends walk = record { within = keeps; made = create_makes_one site name size shape plan feds steps is keeps walk }
      go (reply.Refused x) (inl granted) walk = absurd granted
      go (reply.Refused x) (inr (y, same, from)) walk = inr (record {
        within = keeps;
        by = record {
          own = create_is_own site name is.objects (new_header (layout_of shape) size) feds steps (Return (reply.Refused x)) (subst (λ p. IsWalk Goto p feds steps (Return (reply.Refused x))) (is.within keeps) walk);
          by = subst (IsRefusedBy refuses_none by_fence steps) (same_refusal x y same) from.by;
        };
        few = create_has_few site name is.objects (new_header (layout_of shape) size) x feds steps (subst (λ p. IsWalk Goto p feds steps (Return (reply.Refused x))) (is.within keeps) walk);
      })
      go _ (inl granted) walk = absurd granted
      go _ (inr (y, same, from)) walk = cc

  create_outside : (r : Reply) → (KeepsLimits (layout_of shape) size → ⊥) → IsWalk Goto plan feds steps (Return r) → CreateMeans site name size shape steps r
  create_outside r outside walk =
      let end = ended (reply.Refused refusal.BadShape) feds steps (Return r) (subst (λ p. IsWalk Goto p feds steps (Return r)) (is.outside outside) walk) in
      let same : Return r ≡ Return (reply.Refused refusal.BadShape) = end.1 in
      subst (CreateMeans site name size shape steps) (let e : reply.Refused refusal.BadShape ≡ r = cc in e) (inl (record { outside = outside; none = end.0; is = refl }))

pub create_means : (seat : Seat) (c : Command) (plan : Plan) (feds : List Fed) (steps : List Answered) (r : Reply) → IsCreatePlan seat.home c plan → AreGiven steps
    → IsWalk Goto plan feds steps (Return r) → IsMeantBy seat c steps r
create_means seat (command.Create name size shape) plan feds steps r is given walk = (is.plain, go (limits_or_not (layout_of shape) size))
  where
    go : KeepsLimits (layout_of shape) size ⊎ (KeepsLimits (layout_of shape) size → ⊥) → CreateMeans seat.home name size shape steps r
    go (inl keeps) = create_within seat.home name size shape plan is feds steps r given keeps walk
    go (inr passes) = create_outside seat.home name size shape plan is feds steps r passes walk
create_means seat _ plan feds steps r is given walk = absurd is

-- ---- ls, info, snap ls

refusing_names : (site : SiteId) (a : Answer) → IsGiven (op.Directory directory.List) a
    → Answers refuses_none never TellsNames [] false site (op.Directory directory.List) a (on_names (λ names. Return (reply.Names names)) a)
refusing_names site (answer.Names names) can = inr (λ live may. refl, tt)
refusing_names site answer.Fenced can = inl (record { why = refusal.Fenced; own = inl refl; is = refl; ends = refl; comes = λ was. cc })
refusing_names site _ can = let no = can.can.word in cc

refusing_shown : (grants : Reply → Type 0) (site : SiteId) (name : List ℕ) (shown : HeaderView → Reply) → ((h : HeaderView) → grants (shown h)) → IsRefusing refuses_none never grants [] false (show_header site name shown)
refusing_shown grants site name shown granted =
    refusing_find refuses_none never grants site name (showing site shown) (λ image. refusing_look refuses_none never grants site image (λ h. Return (shown h)) (λ h. inr (λ live may. refl, granted h)))

list_means : (site : SiteId) (feds : List Fed) (steps : List Answered) (r : Reply) → EndsBy refuses_none never TellsNames [] false steps r → IsWalk Goto (list_names site) feds steps (Return r) → ListMeans site steps r
list_means site feds steps (reply.Names names) ends walk = names_are_listed site names feds steps walk
list_means site feds steps (reply.Refused x) (inl granted) walk = absurd granted
list_means site feds steps (reply.Refused x) (inr (y, same, from)) walk = record {
  own = list_is_own site feds steps (Return (reply.Refused x)) walk;
  by = subst (IsRefusedBy refuses_none never steps) (same_refusal x y same) from.by;
}
list_means site feds steps _ (inl granted) walk = absurd granted
list_means site feds steps _ (inr (y, same, from)) walk = cc

info_means : (site : SiteId) (image : List ℕ) (feds : List Fed) (steps : List Answered) (r : Reply) → EndsBy refuses_none never TellsInfo [] false steps r
    → IsWalk Goto (show_header site image reply.Info) feds steps (Return r) → InfoMeans site image steps r
info_means site image feds steps (reply.Info h) ends walk = header_is_shown site image reply.Info (reply.Info h) feds steps tt walk
info_means site image feds steps (reply.Refused x) (inl granted) walk = absurd granted
info_means site image feds steps (reply.Refused x) (inr (y, same, from)) walk = record {
  own = listing_is_own site image reply.Info feds steps (Return (reply.Refused x)) walk;
  by = subst (IsRefusedBy refuses_none never steps) (same_refusal x y same) from.by;
}
info_means site image feds steps _ (inl granted) walk = absurd granted
info_means site image feds steps _ (inr (y, same, from)) walk = cc

snap_list_means : (site : SiteId) (image : List ℕ) (feds : List Fed) (steps : List Answered) (r : Reply) → EndsBy refuses_none never TellsSnaps [] false steps r
    → IsWalk Goto (show_header site image shown_snaps) feds steps (Return r) → SnapListMeans site image steps r
snap_list_means site image feds steps (reply.Snaps snaps) ends walk = header_is_shown site image shown_snaps (reply.Snaps snaps) feds steps tt walk
snap_list_means site image feds steps (reply.Refused x) (inl granted) walk = absurd granted
snap_list_means site image feds steps (reply.Refused x) (inr (y, same, from)) walk = record {
  own = listing_is_own site image shown_snaps feds steps (Return (reply.Refused x)) walk;
  by = subst (IsRefusedBy refuses_none never steps) (same_refusal x y same) from.by;
}
snap_list_means site image feds steps _ (inl granted) walk = absurd granted
snap_list_means site image feds steps _ (inr (y, same, from)) walk = cc

-- ---- du

refusing_counted : (site : SiteId) (image of : ℕ) (a : Answer) → IsGiven (op.Map image (states.Get None)) a
    → Answers refuses_none never TellsUsed (only_image site image) false site (op.Map image (states.Get None)) a (on_bits (λ bits. Return (reply.Used (used_among of bits) of)) a)
refusing_counted site image of (answer.Bits bits) can = inr (λ live may. refl, tt)
refusing_counted site image of answer.Absent can = inl (record { why = refusal.NoImage; own = inr (inl refl); is = refl; ends = refl; comes = λ was. cc })
refusing_counted site image of answer.Fenced can = inl (record { why = refusal.Fenced; own = inl refl; is = refl; ends = refl; comes = λ was. cc })
refusing_counted site image of _ can = let no = can.can.word in cc

refusing_used : (site : SiteId) (name : List ℕ) → IsRefusing refuses_none never TellsUsed [] false (show_used site name)
refusing_used site name =
    refusing_find refuses_none never TellsUsed site name (measuring site) (λ image. refusing_look refuses_none never TellsUsed site image (λ h. counting site image (object_count h.layout h.size))
    (λ h. inr (λ live may. refl, refusing_counted site image (object_count h.layout h.size))))

used_means : (site : SiteId) (image : List ℕ) (feds : List Fed) (steps : List Answered) (r : Reply) → AreGiven steps → EndsBy refuses_none never TellsUsed [] false steps r
    → IsWalk Goto (show_used site image) feds steps (Return r) → UsedMeans site image steps r
used_means site image feds steps (reply.Used used of) given ends walk = used_is_shown site image used of feds steps given walk
used_means site image feds steps (reply.Refused x) given (inl granted) walk = absurd granted
used_means site image feds steps (reply.Refused x) given (inr (y, same, from)) walk = record {
  own = used_is_own site image feds steps (Return (reply.Refused x)) walk;
  by = subst (IsRefusedBy refuses_none never steps) (same_refusal x y same) from.by;
}
used_means site image feds steps _ given (inl granted) walk = absurd granted
used_means site image feds steps _ given (inr (y, same, from)) walk = cc

-- ---- rename

refusing_renamed : (site : SiteId) (from to : List ℕ) (a : Answer) → IsGiven (op.Directory (directory.Rename from to)) a
    → Answers refuses_none never IsDone [] false site (op.Directory (directory.Rename from to)) a (on_renamed a)
refusing_renamed site from to answer.Done can = inr (λ live may. refl, tt)
refusing_renamed site from to answer.Exists can = inl (record { why = refusal.ImageExists; own = inr tt; is = refl; ends = refl; comes = λ was. cc })
refusing_renamed site from to answer.Absent can = inl (record { why = refusal.NoImage; own = inr tt; is = refl; ends = refl; comes = λ was. cc })
refusing_renamed site from to answer.Fenced can = inl (record { why = refusal.Fenced; own = inl refl; is = refl; ends = refl; comes = λ was. cc })
refusing_renamed site from to _ can = let no = can.can.word in cc

rename_means : (site : SiteId) (from to : List ℕ) (feds : List Fed) (steps : List Answered) (r : Reply) → EndsBy refuses_none never IsDone [] false steps r
    → IsWalk Goto (rename site from to) feds steps (Return r) → RenameMeans site from to steps r
rename_means site from to feds steps reply.Done ends walk = name_is_changed site from to feds steps walk
rename_means site from to feds steps (reply.Refused x) (inl granted) walk = absurd granted
rename_means site from to feds steps (reply.Refused x) (inr (y, same, from_there)) walk = record {
  own = rename_is_own site from to feds steps (Return (reply.Refused x)) walk;
  by = subst (IsRefusedBy refuses_none never steps) (same_refusal x y same) from_there.by;
}
rename_means site from to feds steps _ (inl granted) walk = absurd granted
rename_means site from to feds steps _ (inr (y, same, from_there)) walk = cc

-- ---- all of these

pub listing_means : (seat : Seat) (c : Command) (feds : List Fed) (steps : List Answered) (r : Reply) → is_listing c ≡ true → AreGiven steps
    → IsWalk Goto (listing_plan seat.home c) feds steps (Return r) → IsMeantBy seat c steps r
listing_means seat command.List feds steps r is given walk =
    list_means seat.home feds steps r (ends_by refuses_none never TellsNames feds [] false (list_names seat.home) steps r (refusing_names seat.home) given walk) walk
listing_means seat (command.Info image) feds steps r is given walk =
    info_means seat.home image feds steps r (ends_by refuses_none never TellsInfo feds [] false (show_header seat.home image reply.Info) steps r (refusing_shown TellsInfo seat.home image reply.Info (λ h. tt)) given walk) walk
listing_means seat (command.SnapList image) feds steps r is given walk =
    snap_list_means seat.home image feds steps r (ends_by refuses_none never TellsSnaps feds [] false (show_header seat.home image shown_snaps) steps r (refusing_shown TellsSnaps seat.home image shown_snaps (λ h. tt)) given walk) walk
listing_means seat (command.Used image) feds steps r is given walk =
    used_means seat.home image feds steps r given (ends_by refuses_none never TellsUsed feds [] false (show_used seat.home image) steps r (refusing_used seat.home image) given walk) walk
listing_means seat (command.Rename from to) feds steps r is given walk =
    rename_means seat.home from to feds steps r (ends_by refuses_none never IsDone feds [] false (rename seat.home from to) steps r (refusing_renamed seat.home from to) given walk) walk
listing_means seat _ feds steps r is given walk = cc
