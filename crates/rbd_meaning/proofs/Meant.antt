-- What holds of every reply that is meant, command by command.
use Rattle.std.proofs.Common.{◌≡◌, inl, inr, ℕ, List, [], ◌∷◌, ◌++◌, replicate, ◌&&◌, true, Option, Some, None, is_some, refl, ap, sym, subst, ◌∙◌}
use Rattle.rbd_kinds.specs.declared.answer.Answer.{Answer}
use Rattle.rbd_kinds.specs.declared.answer.Answer.TheVariants as answer
use Rattle.rbd_commands.specs.declared.command.Command.{Command}
use Rattle.rbd_commands.specs.declared.command.Command.TheVariants as command
use Rattle.rbd_commands.specs.declared.command.Shape.{Shape}
use Rattle.rbd_kinds.specs.declared.header.HeaderView.{HeaderView}
use Rattle.rbd_kinds.specs.declared.header.Role.{Role}
use Rattle.rbd_kinds.specs.declared.header.Role.TheVariants as role
use Rattle.rbd_kinds.specs.declared.id.SiteId.{SiteId}
use Rattle.rbd_kinds.specs.declared.layout.Extent.{Extent}
use Rattle.rbd_commands.specs.declared.refusal.Refusal.{Refusal}
use Rattle.rbd_commands.specs.declared.refusal.Refusal.TheVariants as refusal
use Rattle.rbd_kinds.specs.declared.reply.Reply.{Reply}
use Rattle.rbd_kinds.specs.declared.reply.Reply.TheVariants as reply
use Rattle.rbd_machine.specs.About.{look_up}
use Rattle.rbd_machine.specs.Passes.{steps_of_passes}
use Rattle.rbd_machine.specs.Path.{Answered, looked_at}
use Rattle.rbd_machine.specs.declared.seat.Seat.{Seat}
use Rattle.rbd_machine.specs.Refused.{refusal_by, never, by_fence, IsRefusedBy, IsRefused}
use Rattle.rbd_machine.specs.Steps.{or_else, non_primary}
use Rattle.rbd_meaning.specs.Closes.{CloseMeans, QuiesceMeans}
use Rattle.rbd_meaning.specs.Creates.{CreateMeans}
use Rattle.rbd_meaning.specs.Discards.{DiscardMeans}
use Rattle.rbd_meaning.specs.Listings.{ListMeans, InfoMeans, RenameMeans, SnapListMeans, UsedMeans}
use Rattle.rbd_meaning.specs.Meant.{IsMeantBy}
use Rattle.rbd_meaning.specs.Named.{looks_up}
use Rattle.rbd_meaning.specs.Range.{extent_at}
use Rattle.rbd_meaning.specs.Reads.{ReadMeans, SeeOthers}
use Rattle.rbd_meaning.specs.Removals.{image_removal_refuses, removal_refusal_by, RefusesRemovalOf, RemoveMeans}
use Rattle.rbd_meaning.specs.Replies.{may_answer}
use Rattle.rbd_meaning.specs.Resizes.{resize_refuses, ResizeMeans}
use Rattle.rbd_meaning.specs.Rollbacks.{rollback_refuses, RollbackMeans}
use Rattle.rbd_meaning.specs.Snaps.{create_refuses, remove_refuses, SnapCreateMeans, SnapRemoveMeans}
use Rattle.rbd_meaning.specs.Straight.{MeansStraight, Straight, name_of, straight_of}
use Rattle.rbd_meaning.specs.Writes.{write_refuses, WriteMeans}
use Rattle.rbd_meaning.proofs.Ends.{same_last}

-- ---- kinds of replies

create_kind : (site : SiteId) (name : List ℕ) (size : ℕ) (shape : Shape) (steps : List Answered) (r : Reply) → CreateMeans site name size shape steps r → may_answer (command.Create name size shape) r ≡ true
create_kind site name size shape steps reply.Done meant = refl
create_kind site name size shape steps (reply.Refused x) meant = refl
create_kind site name size shape steps _ meant = absurd meant

discard_kind : (site : SiteId) (name : List ℕ) (at len : ℕ) (steps : List Answered) (r : Reply) → DiscardMeans site name at len steps r → may_answer (command.Discard name at len) r ≡ true
discard_kind site name at len steps reply.Done meant = refl
discard_kind site name at len steps (reply.Refused x) meant = refl
discard_kind site name at len steps _ meant = absurd meant

resize_kind : (site : SiteId) (name : List ℕ) (to : ℕ) (steps : List Answered) (r : Reply) → ResizeMeans site name to steps r → may_answer (command.Resize name to) r ≡ true
resize_kind site name to steps reply.Done meant = refl
resize_kind site name to steps (reply.Refused x) meant = refl
resize_kind site name to steps _ meant = absurd meant

rename_kind : (site : SiteId) (from to : List ℕ) (steps : List Answered) (r : Reply) → RenameMeans site from to steps r → may_answer (command.Rename from to) r ≡ true
rename_kind site from to steps reply.Done meant = refl
rename_kind site from to steps (reply.Refused x) meant = refl
rename_kind site from to steps _ meant = absurd meant

image_removal_kind : (site : SiteId) (session : ℕ) (name : List ℕ) (steps : List Answered) (r : Reply) → RemoveMeans site session name steps r → may_answer (command.Remove name) r ≡ true
image_removal_kind site session name steps reply.Done meant = refl
image_removal_kind site session name steps (reply.Refused x) meant = refl
image_removal_kind site session name steps _ meant = absurd meant

used_kind : (site : SiteId) (name : List ℕ) (steps : List Answered) (r : Reply) → UsedMeans site name steps r → may_answer (command.Used name) r ≡ true
used_kind site name steps (reply.Used used of) meant = refl
used_kind site name steps (reply.Refused x) meant = refl
used_kind site name steps _ meant = absurd meant

rollback_kind : (site : SiteId) (name snap : List ℕ) (steps : List Answered) (r : Reply) → RollbackMeans site name snap steps r → may_answer (command.SnapRollback name snap) r ≡ true
rollback_kind site name snap steps reply.Done meant = refl
rollback_kind site name snap steps (reply.Refused x) meant = refl
rollback_kind site name snap steps _ meant = absurd meant

write_kind : (site : SiteId) (name : List ℕ) (at : ℕ) (bytes : List ℕ) (steps : List Answered) (r : Reply) → WriteMeans site name at bytes steps r → may_answer (command.Write name at bytes) r ≡ true
write_kind site name at bytes steps reply.Done meant = refl
write_kind site name at bytes steps (reply.Refused x) meant = refl
write_kind site name at bytes steps _ meant = absurd meant

fill_kind : (site : SiteId) (name : List ℕ) (at len byte : ℕ) (steps : List Answered) (r : Reply) → WriteMeans site name at (replicate len byte) steps r → may_answer (command.Fill name at len byte) r ≡ true
fill_kind site name at len byte steps reply.Done meant = refl
fill_kind site name at len byte steps (reply.Refused x) meant = refl
fill_kind site name at len byte steps _ meant = absurd meant

read_kind : (site : SiteId) (name : List ℕ) (snap : Option (List ℕ)) (at len : ℕ) (steps : List Answered) (r : Reply) → ReadMeans site name snap (record { at = at; len = len }) steps r → may_answer (command.Read name snap at len) r ≡ true
read_kind site name snap at len steps (reply.Bytes bytes) meant = refl
read_kind site name snap at len steps (reply.Refused x) meant = refl
read_kind site name snap at len steps _ meant = absurd meant

list_kind : (site : SiteId) (steps : List Answered) (r : Reply) → ListMeans site steps r → may_answer command.List r ≡ true
list_kind site steps (reply.Names names) meant = refl
list_kind site steps (reply.Refused x) meant = refl
list_kind site steps _ meant = absurd meant

info_kind : (site : SiteId) (name : List ℕ) (steps : List Answered) (r : Reply) → InfoMeans site name steps r → may_answer (command.Info name) r ≡ true
info_kind site name steps (reply.Info h) meant = refl
info_kind site name steps (reply.Refused x) meant = refl
info_kind site name steps _ meant = absurd meant

snap_list_kind : (site : SiteId) (name : List ℕ) (steps : List Answered) (r : Reply) → SnapListMeans site name steps r → may_answer (command.SnapList name) r ≡ true
snap_list_kind site name steps (reply.Snaps snaps) meant = refl
snap_list_kind site name steps (reply.Refused x) meant = refl
snap_list_kind site name steps _ meant = absurd meant

snap_create_kind : (site : SiteId) (name snap : List ℕ) (steps : List Answered) (r : Reply) → SnapCreateMeans site name snap steps r → may_answer (command.SnapCreate name snap) r ≡ true
snap_create_kind site name snap steps reply.Done meant = refl
snap_create_kind site name snap steps (reply.Refused x) meant = refl
snap_create_kind site name snap steps _ meant = absurd meant

snap_remove_kind : (site : SiteId) (name snap : List ℕ) (steps : List Answered) (r : Reply) → SnapRemoveMeans site name snap steps r → may_answer (command.SnapRemove name snap) r ≡ true
snap_remove_kind site name snap steps reply.Done meant = refl
snap_remove_kind site name snap steps (reply.Refused x) meant = refl
snap_remove_kind site name snap steps _ meant = absurd meant

close_kind : (site : SiteId) (name : List ℕ) (steps : List Answered) (r : Reply) → CloseMeans site name steps r → may_answer (command.Close name) r ≡ true
close_kind site name steps reply.Done meant = refl
close_kind site name steps (reply.Refused x) meant = refl
close_kind site name steps _ meant = absurd meant

quiesce_kind : (site : SiteId) (name : List ℕ) (steps : List Answered) (r : Reply) → QuiesceMeans site name steps r → may_answer (command.Quiesce name) r ≡ true
quiesce_kind site name steps reply.Done meant = refl
quiesce_kind site name steps (reply.Refused x) meant = refl
quiesce_kind site name steps _ meant = absurd meant

straight_kind : (site : SiteId) (o : Option Straight) (steps : List Answered) → MeansStraight site o steps reply.Done → (is_some o && true) ≡ true
straight_kind site None steps meant = absurd meant
straight_kind site (Some s) steps meant = refl

pub meant_kind : (seat : Seat) (c : Command) (steps : List Answered) (r : Reply) → IsMeantBy seat c steps r → may_answer c r ≡ true
meant_kind seat (command.Create name size shape) steps r meant = create_kind seat.home name size shape steps r meant.1
meant_kind seat (command.Write name at bytes) steps r meant = write_kind seat.home name at bytes steps r meant
meant_kind seat (command.Fill name at len byte) steps r meant = fill_kind seat.home name at len byte steps r meant
meant_kind seat (command.Discard name at len) steps r meant = discard_kind seat.home name at len steps r meant
meant_kind seat (command.Read name snap at len) steps r meant = read_kind seat.home name snap at len steps r meant
meant_kind seat (command.Resize name size) steps r meant = resize_kind seat.home name size steps r meant
meant_kind seat (command.Rename from to) steps r meant = rename_kind seat.home from to steps r meant
meant_kind seat (command.Remove name) steps r meant = image_removal_kind seat.home seat.session name steps r meant
meant_kind seat (command.Used name) steps r meant = used_kind seat.home name steps r meant
meant_kind seat command.List steps r meant = list_kind seat.home steps r meant
meant_kind seat (command.Info name) steps r meant = info_kind seat.home name steps r meant
meant_kind seat (command.SnapList name) steps r meant = snap_list_kind seat.home name steps r meant
meant_kind seat (command.SnapCreate name snap) steps r meant = snap_create_kind seat.home name snap steps r meant
meant_kind seat (command.SnapRemove name snap) steps r meant = snap_remove_kind seat.home name snap steps r meant
meant_kind seat (command.SnapRollback name snap) steps r meant = rollback_kind seat.home name snap steps r meant
meant_kind seat (command.Close name) steps r meant = close_kind seat.home name steps r meant
meant_kind seat (command.Quiesce name) steps r meant = quiesce_kind seat.home name steps r meant
meant_kind seat c steps reply.Done meant = straight_kind seat.home (straight_of c) steps meant
meant_kind seat c steps (reply.Refused x) meant = refl
meant_kind seat _ steps _ meant = absurd meant

-- ---- behind no operation

some_steps : (before : List Answered) (s : Answered) (more : List Answered) → [] ≡ before ++ s ∷ more → ⊥
some_steps [] s more same = cc
some_steps (first ∷ before) s more same = cc

none_left : (before steps : List Answered) → [] ≡ before ++ steps → [] ≡ steps
none_left [] steps same = same
none_left (first ∷ before) steps same = cc

-- a refusal has a last operation
refused_by_one : (refuses : HeaderView → Option Refusal) (late : Refusal → Type 0) (steps : List Answered) (x : Refusal) → [] ≡ steps → IsRefusedBy refuses late steps x → ⊥
refused_by_one refuses late steps x none by = some_steps by.before by.last [] (none ∙ by.are)

create_for_nothing : (site : SiteId) (name : List ℕ) (size : ℕ) (shape : Shape) (r : Reply) → CreateMeans site name size shape [] r → r ≡ reply.Refused refusal.BadShape
create_for_nothing site name size shape reply.Done meant = let are = meant.made.are in cc
create_for_nothing site name size shape (reply.Refused x) (inl outside) = ap reply.Refused outside.is
create_for_nothing site name size shape (reply.Refused x) (inr unmade) = absurd (refused_by_one _ _ [] x refl unmade.by.by)
create_for_nothing site name size shape _ meant = absurd meant

write_for_nothing : (site : SiteId) (name : List ℕ) (at : ℕ) (bytes : List ℕ) (r : Reply) → WriteMeans site name at bytes [] r → r ≡ reply.Refused refusal.BadShape
write_for_nothing site name at bytes reply.Done meant = let are = meant.are in cc
write_for_nothing site name at bytes (reply.Refused x) refuses = absurd (refused_by_one _ _ [] x refl refuses.refused.by)
write_for_nothing site name at bytes _ meant = absurd meant

discard_for_nothing : (site : SiteId) (name : List ℕ) (at len : ℕ) (r : Reply) → DiscardMeans site name at len [] r → r ≡ reply.Refused refusal.BadShape
discard_for_nothing site name at len reply.Done meant = let are = meant.are in cc
discard_for_nothing site name at len (reply.Refused x) refuses = absurd (refused_by_one _ _ [] x refl refuses.refused.by)
discard_for_nothing site name at len _ meant = absurd meant

resize_for_nothing : (site : SiteId) (name : List ℕ) (to : ℕ) (r : Reply) → ResizeMeans site name to [] r → r ≡ reply.Refused refusal.BadShape
resize_for_nothing site name to reply.Done meant = let are = meant.are in cc
resize_for_nothing site name to (reply.Refused x) refuses = absurd (refused_by_one _ _ [] x refl refuses.refused.by)
resize_for_nothing site name to _ meant = absurd meant

rename_for_nothing : (site : SiteId) (from to : List ℕ) (r : Reply) → RenameMeans site from to [] r → r ≡ reply.Refused refusal.BadShape
rename_for_nothing site from to reply.Done meant = cc
rename_for_nothing site from to (reply.Refused x) by = absurd (refused_by_one _ _ [] x refl by.by)
rename_for_nothing site from to _ meant = absurd meant

image_removal_for_nothing : (site : SiteId) (session : ℕ) (name : List ℕ) (r : Reply) → RemoveMeans site session name [] r → r ≡ reply.Refused refusal.BadShape
image_removal_for_nothing site session name reply.Done meant = let are = meant.are in cc
image_removal_for_nothing site session name (reply.Refused x) refuses = absurd (some_steps refuses.before refuses.last [] refuses.are)
image_removal_for_nothing site session name _ meant = absurd meant

used_for_nothing : (site : SiteId) (name : List ℕ) (r : Reply) → UsedMeans site name [] r → r ≡ reply.Refused refusal.BadShape
used_for_nothing site name (reply.Used used of) meant = let are = meant.are in cc
used_for_nothing site name (reply.Refused x) by = absurd (refused_by_one _ _ [] x refl by.by)
used_for_nothing site name _ meant = absurd meant

rollback_for_nothing : (site : SiteId) (name snap : List ℕ) (r : Reply) → RollbackMeans site name snap [] r → r ≡ reply.Refused refusal.BadShape
rollback_for_nothing site name snap reply.Done meant = let are = meant.are in cc
rollback_for_nothing site name snap (reply.Refused x) refuses = absurd (refused_by_one _ _ [] x refl refuses.refused.by)
rollback_for_nothing site name snap _ meant = absurd meant

read_for_nothing : (site : SiteId) (name : List ℕ) (snap : Option (List ℕ)) (e : Extent) (r : Reply) → ReadMeans site name snap e [] r → r ≡ reply.Refused refusal.BadShape
read_for_nothing site name snap e (reply.Bytes bytes) meant = absurd (some_steps [] _ _ (none_left (steps_of_passes meant.passes) meant.pass meant.are ∙ meant.shows.pass.are))
read_for_nothing site name snap e (reply.Refused x) refused = absurd (refused_by_one _ _ refused.pass x (none_left (steps_of_passes refused.passes) refused.pass refused.are) refused.by.by)
read_for_nothing site name snap e _ meant = absurd meant

list_for_nothing : (site : SiteId) (r : Reply) → ListMeans site [] r → r ≡ reply.Refused refusal.BadShape
list_for_nothing site (reply.Names names) meant = cc
list_for_nothing site (reply.Refused x) by = absurd (refused_by_one _ _ [] x refl by.by)
list_for_nothing site _ meant = absurd meant

info_for_nothing : (site : SiteId) (name : List ℕ) (r : Reply) → InfoMeans site name [] r → r ≡ reply.Refused refusal.BadShape
info_for_nothing site name (reply.Info h) meant = let are = meant.are in cc
info_for_nothing site name (reply.Refused x) by = absurd (refused_by_one _ _ [] x refl by.by)
info_for_nothing site name _ meant = absurd meant

snap_list_for_nothing : (site : SiteId) (name : List ℕ) (r : Reply) → SnapListMeans site name [] r → r ≡ reply.Refused refusal.BadShape
snap_list_for_nothing site name (reply.Snaps snaps) meant = let are = meant.are in cc
snap_list_for_nothing site name (reply.Refused x) by = absurd (refused_by_one _ _ [] x refl by.by)
snap_list_for_nothing site name _ meant = absurd meant

snap_create_for_nothing : (site : SiteId) (name snap : List ℕ) (r : Reply) → SnapCreateMeans site name snap [] r → r ≡ reply.Refused refusal.BadShape
snap_create_for_nothing site name snap reply.Done meant = let are = meant.are in cc
snap_create_for_nothing site name snap (reply.Refused x) by = absurd (refused_by_one _ _ [] x refl by.by)
snap_create_for_nothing site name snap _ meant = absurd meant

snap_remove_for_nothing : (site : SiteId) (name snap : List ℕ) (r : Reply) → SnapRemoveMeans site name snap [] r → r ≡ reply.Refused refusal.BadShape
snap_remove_for_nothing site name snap reply.Done meant = let are = meant.are in cc
snap_remove_for_nothing site name snap (reply.Refused x) refuses = absurd (refused_by_one _ _ [] x refl refuses.refused.by)
snap_remove_for_nothing site name snap _ meant = absurd meant

close_for_nothing : (site : SiteId) (name : List ℕ) (r : Reply) → CloseMeans site name [] r → r ≡ reply.Refused refusal.BadShape
close_for_nothing site name reply.Done meant = let are = meant.are in cc
close_for_nothing site name (reply.Refused x) by = absurd (refused_by_one _ _ [] x refl by.by)
close_for_nothing site name _ meant = absurd meant

quiesce_for_nothing : (site : SiteId) (name : List ℕ) (r : Reply) → QuiesceMeans site name [] r → r ≡ reply.Refused refusal.BadShape
quiesce_for_nothing site name reply.Done meant = let are = meant.are in cc
quiesce_for_nothing site name (reply.Refused x) by = absurd (refused_by_one _ _ [] x refl by.by)
quiesce_for_nothing site name _ meant = absurd meant

straight_for_nothing : (site : SiteId) (o : Option Straight) (r : Reply) → MeansStraight site o [] r → r ≡ reply.Refused refusal.BadShape
straight_for_nothing site None r meant = absurd meant
straight_for_nothing site (Some s) reply.Done meant = let are = meant.are in cc
straight_for_nothing site (Some s) (reply.Refused x) by = absurd (refused_by_one _ _ [] x refl by.by)
straight_for_nothing site (Some s) _ meant = absurd meant

pub meant_for_nothing : (seat : Seat) (c : Command) (r : Reply) → IsMeantBy seat c [] r → r ≡ reply.Refused refusal.BadShape
meant_for_nothing seat (command.Create name size shape) r meant = create_for_nothing seat.home name size shape r meant.1
meant_for_nothing seat (command.Write name at bytes) r meant = write_for_nothing seat.home name at bytes r meant
meant_for_nothing seat (command.Fill name at len byte) r meant = write_for_nothing seat.home name at (replicate len byte) r meant
meant_for_nothing seat (command.Discard name at len) r meant = discard_for_nothing seat.home name at len r meant
meant_for_nothing seat (command.Read name snap at len) r meant = read_for_nothing seat.home name snap _ r meant
meant_for_nothing seat (command.Resize name size) r meant = resize_for_nothing seat.home name size r meant
meant_for_nothing seat (command.Rename from to) r meant = rename_for_nothing seat.home from to r meant
meant_for_nothing seat (command.Remove name) r meant = image_removal_for_nothing seat.home seat.session name r meant
meant_for_nothing seat (command.Used name) r meant = used_for_nothing seat.home name r meant
meant_for_nothing seat command.List r meant = list_for_nothing seat.home r meant
meant_for_nothing seat (command.Info name) r meant = info_for_nothing seat.home name r meant
meant_for_nothing seat (command.SnapList name) r meant = snap_list_for_nothing seat.home name r meant
meant_for_nothing seat (command.SnapCreate name snap) r meant = snap_create_for_nothing seat.home name snap r meant
meant_for_nothing seat (command.SnapRemove name snap) r meant = snap_remove_for_nothing seat.home name snap r meant
meant_for_nothing seat (command.SnapRollback name snap) r meant = rollback_for_nothing seat.home name snap r meant
meant_for_nothing seat (command.Close name) r meant = close_for_nothing seat.home name r meant
meant_for_nothing seat (command.Quiesce name) r meant = quiesce_for_nothing seat.home name r meant
meant_for_nothing seat c r meant = straight_for_nothing seat.home (straight_of c) r meant

-- ---- a name that isn't there

-- what is answered so at a look-up isn't there
absent : (refuses : HeaderView → Option Refusal) (name : List ℕ) (a : Answer) → refusal_by refuses (look_up name) a ≡ Some refusal.NoImage → a ≡ answer.Absent
absent refuses name answer.Absent is = refl
absent refuses name answer.Fenced is = cc
absent refuses name _ is = cc

looked_up : (site : SiteId) (name : List ℕ) (step : Answered) → (step.site ≡ site) × (step.op ≡ look_up name) → step.answer ≡ answer.Absent → step ≡ record { site = site; op = look_up name; answer = answer.Absent }
looked_up site name step (at, asks) none =
    ap (λ s. record { site = s; op = step.op; answer = step.answer }) at
    ∙ ap (λ o. record { site = site; op = o; answer = step.answer }) asks
    ∙ ap (λ a. record { site = site; op = look_up name; answer = a }) none

-- at its one operation
unknown_name : (site : SiteId) (name : List ℕ) (refuses : HeaderView → Option Refusal) (late : Refusal → Type 0) (step : Answered) → IsRefused site (look_up name) refuses late (step ∷ []) refusal.NoImage
    → step ≡ record { site = site; op = look_up name; answer = answer.Absent }
unknown_name site name refuses late step refused =
    let same = same_last [] refused.by.before step refused.by.last refused.by.are in
    let here : refusal_by refuses step.op step.answer ≡ Some refusal.NoImage = subst (λ (s : Answered). refusal_by refuses s.op s.answer ≡ Some refusal.NoImage) (sym same) refused.by.refused in
    looked_up site name step refused.own (absent refuses name step.answer (subst (λ o. refusal_by refuses o step.answer ≡ Some refusal.NoImage) refused.own.1 here))

unknown_removal : (site : SiteId) (session : ℕ) (name : List ℕ) (step : Answered) → RefusesRemovalOf site session name (step ∷ []) refusal.NoImage
    → step ≡ record { site = site; op = look_up name; answer = answer.Absent }
unknown_removal site session name step refused =
    let same = same_last [] refused.before step refused.last refused.are in
    let here : removal_refusal_by session step.op step.answer ≡ Some refusal.NoImage = subst (λ (s : Answered). removal_refusal_by session s.op s.answer ≡ Some refusal.NoImage) (sym same) refused.refused in
    looked_up site name step refused.own (absent image_removal_refuses name step.answer (subst (λ o. removal_refusal_by session o step.answer ≡ Some refusal.NoImage) refused.own.1 here))

abbrev Unknown : SiteId → Answered → (name : List ℕ) → Type 0
Unknown site step name = step ≡ record { site = site; op = look_up name; answer = answer.Absent }

named : (image name : List ℕ) → Some image ≡ Some name → image ≡ name
named image name is = cc

-- a pass that saw another header has more than one operation
one_pass : (site : SiteId) (name : List ℕ) (snap : Option (List ℕ)) (e : Extent) (passes : List (List Answered)) (pass : List Answered) (step : Answered)
    → SeeOthers site name snap e passes → step ∷ [] ≡ steps_of_passes passes ++ pass → step ∷ [] ≡ pass
one_pass site name snap e [] pass step see are = are
one_pass site name snap e (p ∷ passes) pass step (sees, see) are =
    let longer = are ∙ ap (λ q. (q ++ steps_of_passes passes) ++ pass) sees.pass.are in cc

straight_unknown : (site : SiteId) (o : Option Straight) (name : List ℕ) (step : Answered) → name_of o ≡ Some name → MeansStraight site o (step ∷ []) (reply.Refused refusal.NoImage)
    → Unknown site step name
straight_unknown site None name step is refused = absurd refused
straight_unknown site (Some s) name step is refused = subst (Unknown site step) (named s.name name is) (unknown_name site s.name _ _ step refused)

pub unknown_image : (seat : Seat) (c : Command) (name : List ℕ) (step : Answered) → looks_up c ≡ Some name → IsMeantBy seat c (step ∷ []) (reply.Refused refusal.NoImage)
    → step ≡ record { site = seat.home; op = look_up name; answer = answer.Absent }
unknown_image seat (command.Write image at bytes) name step is refuses = subst (Unknown seat.home step) (named image name is) (unknown_name seat.home image _ _ step refuses.refused)
unknown_image seat (command.Fill image at len byte) name step is refuses = subst (Unknown seat.home step) (named image name is) (unknown_name seat.home image _ _ step refuses.refused)
unknown_image seat (command.Discard image at len) name step is refuses = subst (Unknown seat.home step) (named image name is) (unknown_name seat.home image _ _ step refuses.refused)
unknown_image seat (command.Read image snap at len) name step is refused =
    subst (Unknown seat.home step) (named image name is)
    (unknown_name seat.home image _ _ step (subst (λ pass. IsRefused seat.home (look_up image) _ _ pass refusal.NoImage) (sym (one_pass seat.home image snap _ refused.passes refused.pass step refused.before refused.are)) refused.by))
unknown_image seat (command.Resize image size) name step is refuses = subst (Unknown seat.home step) (named image name is) (unknown_name seat.home image _ _ step refuses.refused)
unknown_image seat (command.Remove image) name step is refuses = subst (Unknown seat.home step) (named image name is) (unknown_removal seat.home seat.session image step refuses)
unknown_image seat (command.Info image) name step is refused = subst (Unknown seat.home step) (named image name is) (unknown_name seat.home image _ _ step refused)
unknown_image seat (command.Used image) name step is refused = subst (Unknown seat.home step) (named image name is) (unknown_name seat.home image _ _ step refused)
unknown_image seat (command.SnapList image) name step is refused = subst (Unknown seat.home step) (named image name is) (unknown_name seat.home image _ _ step refused)
unknown_image seat (command.SnapCreate image snap) name step is refused = subst (Unknown seat.home step) (named image name is) (unknown_name seat.home image _ _ step refused)
unknown_image seat (command.SnapRemove image snap) name step is refuses = subst (Unknown seat.home step) (named image name is) (unknown_name seat.home image _ _ step refuses.refused)
unknown_image seat (command.SnapRollback image snap) name step is refuses = subst (Unknown seat.home step) (named image name is) (unknown_name seat.home image _ _ step refuses.refused)
unknown_image seat (command.Close image) name step is refused = subst (Unknown seat.home step) (named image name is) (unknown_name seat.home image _ _ step refused)
unknown_image seat (command.Quiesce image) name step is refused = subst (Unknown seat.home step) (named image name is) (unknown_name seat.home image _ _ step refused)
unknown_image seat (command.Create image size shape) name step is refused = cc
unknown_image seat (command.Rename from to) name step is refused = cc
unknown_image seat command.List name step is refused = cc
unknown_image seat c name step is refused = straight_unknown seat.home (straight_of c) name step is refused

-- ---- which refusal a look is refused by

module _ (refuses : HeaderView → Option Refusal) (late : Refusal → Type 0) (x : Refusal) (before : List Answered) (there : SiteId) (id : ℕ) (h : HeaderView) where
  refused_at_look : IsRefusedBy refuses late (before ++ looked_at there id h ∷ []) x → refuses h ≡ Some x
  refused_at_look by =
      let last = same_last before by.before (looked_at there id h) by.last by.are in
      subst (λ (s : Answered). refusal_by refuses s.op s.answer ≡ Some x) (sym last) by.refused

secondary_first : (r : Role) (later : Option Refusal) (x : Refusal) → or_else (non_primary r) later ≡ Some x → r ≡ role.Secondary → x ≡ refusal.NonPrimary
secondary_first role.Secondary later x refused is = cc
secondary_first _ later x refused is = cc

module _ (site there : SiteId) (image : List ℕ) where
  pub write_secondary_first : (at : ℕ) (bytes : List ℕ) (before : List Answered) (id : ℕ) (h : HeaderView) (x : Refusal)
      → WriteMeans site image at bytes (before ++ looked_at there id h ∷ []) (reply.Refused x) → h.role ≡ role.Secondary → x ≡ refusal.NonPrimary
  write_secondary_first at bytes before id h x meant is = secondary_first h.role _ x (refused_at_look (write_refuses (extent_at at bytes)) by_fence x before there id h meant.refused.by) is

  pub take_secondary_first : (snap : List ℕ) (before : List Answered) (id : ℕ) (h : HeaderView) (x : Refusal)
      → SnapCreateMeans site image snap (before ++ looked_at there id h ∷ []) (reply.Refused x) → h.role ≡ role.Secondary → x ≡ refusal.NonPrimary
  take_secondary_first snap before id h x meant is = secondary_first h.role _ x (refused_at_look (create_refuses snap) never x before there id h meant.by) is

  pub remove_secondary_first : (snap : List ℕ) (before : List Answered) (id : ℕ) (h : HeaderView) (x : Refusal)
      → SnapRemoveMeans site image snap (before ++ looked_at there id h ∷ []) (reply.Refused x) → h.role ≡ role.Secondary → x ≡ refusal.NonPrimary
  remove_secondary_first snap before id h x meant is = secondary_first h.role _ x (refused_at_look (remove_refuses snap) by_fence x before there id h meant.refused.by) is

  pub discard_secondary_first : (at len : ℕ) (before : List Answered) (id : ℕ) (h : HeaderView) (x : Refusal)
      → DiscardMeans site image at len (before ++ looked_at there id h ∷ []) (reply.Refused x) → h.role ≡ role.Secondary → x ≡ refusal.NonPrimary
  discard_secondary_first at len before id h x meant is = secondary_first h.role _ x (refused_at_look (write_refuses (record { at = at; len = len })) by_fence x before there id h meant.refused.by) is

  pub resize_secondary_first : (to : ℕ) (before : List Answered) (id : ℕ) (h : HeaderView) (x : Refusal)
      → ResizeMeans site image to (before ++ looked_at there id h ∷ []) (reply.Refused x) → h.role ≡ role.Secondary → x ≡ refusal.NonPrimary
  resize_secondary_first to before id h x meant is = secondary_first h.role _ x (refused_at_look (resize_refuses to) by_fence x before there id h meant.refused.by) is

  pub rollback_secondary_first : (snap : List ℕ) (before : List Answered) (id : ℕ) (h : HeaderView) (x : Refusal)
      → RollbackMeans site image snap (before ++ looked_at there id h ∷ []) (reply.Refused x) → h.role ≡ role.Secondary → x ≡ refusal.NonPrimary
  rollback_secondary_first snap before id h x meant is = secondary_first h.role _ x (refused_at_look (rollback_refuses snap) by_fence x before there id h meant.refused.by) is

  pub image_secondary_first : (session : ℕ) (before : List Answered) (id : ℕ) (h : HeaderView) (x : Refusal)
      → RemoveMeans site session image (before ++ looked_at there id h ∷ []) (reply.Refused x) → h.role ≡ role.Secondary → x ≡ refusal.NonPrimary
  image_secondary_first session before id h x meant is =
      let last = same_last before meant.before (looked_at there id h) meant.last meant.are in
      secondary_first h.role _ x (subst (λ (s : Answered). removal_refusal_by session s.op s.answer ≡ Some x) (sym last) meant.refused) is
