-- Where no header tells a journal, none is removed.
use Rattle.std.proofs.Common.{◌≡◌, ℕ, Bool, true, false, cond, List, [], ◌∷◌, ◌++◌, map, Option, Some, None, sym, subst}
use Rattle.rbd_commands.specs.declared.refusal.Refusal.{Refusal}
use Rattle.rbd_commands.specs.declared.refusal.Refusal.TheVariants as refusal
use Rattle.rbd_kinds.specs.declared.answer.Answer.{Answer}
use Rattle.rbd_kinds.specs.declared.answer.Answer.TheVariants as answer
use Rattle.rbd_kinds.specs.declared.header.HeaderView.{HeaderView}
use Rattle.rbd_kinds.specs.declared.header.ParentLink.{ParentLink}
use Rattle.rbd_kinds.specs.declared.header.SnapView.{SnapView}
use Rattle.rbd_kinds.specs.declared.id.SiteId.{SiteId}
use Rattle.rbd_kinds.specs.declared.machine.Fed.{Fed}
use Rattle.rbd_kinds.specs.declared.machine.Fed.TheVariants as fed
use Rattle.rbd_kinds.specs.declared.operation.Op.{Op}
use Rattle.rbd_kinds.specs.declared.reply.Reply.TheVariants as reply
use Rattle.rbd_machine.specs.Path.{Answered, IsWalk}
use Rattle.rbd_machine.specs.Plan.{Plan, Ask, Await, Note, Return, Goto, past_label}
use Rattle.rbd_machine.specs.Steps.{not_there, on_bits, on_header, on_id, owned, refused, unless}
use Rattle.rbd_machine.proofs.Settled.{settled_goto}
use Rattle.rbd_meaning.specs.Removals.{image_removal_refuses, link_of, may_be_gone, removal, removing_journal, removing_map_of, removing_object, unlinking, used_objects, watchers_refuse}
use Rattle.rbd_image.specs.Remove.{holding_it, joining_its_line, looked_at_it, on_gone, on_watchers, removal_plan, remove_each, remove_image, remove_owned, unless_watched}
use Rattle.rbd_image.specs.Told.{AreJournalless, FindJournals, FindsJournal, TellsNoJournal}

-- It removes no journal, as long as no header tells one.
abbrev LeavesJournals : Plan → Type 0
LeavesJournals (Ask site why o next) = (a : Answer) → TellsNoJournal a → FindsJournal o a × LeavesJournals (next a)
LeavesJournals (Await wait next) = LeavesJournals next
LeavesJournals (Note site image event next) = LeavesJournals next
LeavesJournals (Return r) = Unit {0}
LeavesJournals (Goto label) = Unit {0}

leaves_settled : (plan : Plan) → LeavesJournals plan → LeavesJournals (past_label Goto plan)
leaves_settled plan leaves = subst LeavesJournals (sym (settled_goto plan)) leaves

leaves_walk : (feds : List Fed) (plan : Plan) (steps : List Answered) (last : Plan) → LeavesJournals plan → AreJournalless steps → IsWalk Goto plan feds steps last → FindJournals steps
leaves_walk [] plan steps last leaves none walk = subst FindJournals (sym walk.0) tt
leaves_walk (fed.Answer a ∷ more) (Ask site why o next) steps last leaves none (first, walk) =
    let (told, rest) : AreJournalless (record { site = site; op = o; answer = a } ∷ first.rest) = subst AreJournalless first.is none in
    let (finds, goes_on) = leaves a told in
    subst FindJournals (sym first.is) (finds, leaves_walk more (past_label Goto (next a)) first.rest last (leaves_settled (next a) goes_on) rest walk)
leaves_walk (fed.Passed ∷ more) (Ask site why o next) steps last leaves none walk = absurd walk
leaves_walk (fed.Passed ∷ more) (Await wait next) steps last leaves none walk = leaves_walk more (past_label Goto next) steps last (leaves_settled next leaves) none walk
leaves_walk (fed.Answer a ∷ more) (Await wait next) steps last leaves none walk = absurd walk
leaves_walk (fed.Passed ∷ more) (Note site image event next) steps last leaves none walk = leaves_walk more (past_label Goto next) steps last (leaves_settled next leaves) none walk
leaves_walk (fed.Answer a ∷ more) (Note site image event next) steps last leaves none walk = absurd walk
leaves_walk (f ∷ more) (Return r) steps last leaves none walk = absurd walk
leaves_walk (f ∷ more) (Goto label) steps last leaves none walk = absurd walk

-- ---- what goes

-- each is found, whatever it is answered
abbrev AreNoJournals : List Op → Type 0
AreNoJournals [] = Unit {0}
AreNoJournals (o ∷ ops) = ((a : Answer) → FindsJournal o a) × AreNoJournals ops

both_leave : (one two : List Op) → AreNoJournals one → AreNoJournals two → AreNoJournals (one ++ two)
both_leave [] two are others = others
both_leave (o ∷ one) two (first, are) others = (first, both_leave one two are others)

module _ (image : ℕ) where
  links_leave : (link : Option ParentLink) → AreNoJournals (unlinking image link)
  links_leave None = tt
  links_leave (Some link) = (λ a. tt, tt)

  objects_leave : (objects : List ℕ) → AreNoJournals (map (removing_object image) objects)
  objects_leave [] = tt
  objects_leave (o ∷ objects) = (λ a. tt, objects_leave objects)

  maps_leave : (snaps : List SnapView) → AreNoJournals (map (removing_map_of image) snaps)
  maps_leave [] = tt
  maps_leave (s ∷ snaps) = (λ a. tt, maps_leave snaps)

  no_journal : (journal : Bool) → journal ≡ false → AreNoJournals (removing_journal image journal)
  no_journal false none = tt
  no_journal true none = cc

  removal_leaves : (h : HeaderView) (bits : List ℕ) → h.journal ≡ false → AreNoJournals (removal image h bits)
  removal_leaves h bits none = (
    λ a. tt,
    (
      λ a. tt,
      both_leave (unlinking image (link_of h)) _ (links_leave (link_of h))
          (both_leave (map (removing_object image) (used_objects bits)) _ (objects_leave (used_objects bits))
          (λ a. tt, both_leave (map (removing_map_of image) h.snaps) (removing_journal image h.journal) (maps_leave h.snaps) (no_journal h.journal none))),
    ),
  )

-- ---- steps

leaves_not_there : (a : Answer) → LeavesJournals (not_there a)
leaves_not_there answer.Fenced = tt
leaves_not_there _ = tt

leaves_unless : (r : Option Refusal) (next : Plan) → LeavesJournals next → LeavesJournals (unless r next)
leaves_unless None next leaves = leaves
leaves_unless (Some r) next leaves = tt

leaves_on_id : (next : ℕ → Plan) → ((image : ℕ) → LeavesJournals (next image)) → (a : Answer) → LeavesJournals (on_id next a)
leaves_on_id next leaves (answer.Id image) = leaves image
leaves_on_id next leaves a = leaves_not_there a

leaves_on_header : (next : HeaderView → Plan) → ((h : HeaderView) → h.journal ≡ false → LeavesJournals (next h)) → (a : Answer) → TellsNoJournal a → LeavesJournals (on_header next a)
leaves_on_header next leaves (answer.Header h) none = leaves h none
leaves_on_header next leaves a none = leaves_not_there a

leaves_on_watchers : (session : ℕ) (next : Plan) → LeavesJournals next → (a : Answer) → LeavesJournals (on_watchers session next a)
leaves_on_watchers session next leaves (answer.Instances watchers) = leaves_unless (watchers_refuse session watchers) next leaves
leaves_on_watchers session next leaves a = leaves_not_there a

leaves_on_bits : (next : List ℕ → Plan) → ((bits : List ℕ) → LeavesJournals (next bits)) → (a : Answer) → LeavesJournals (on_bits next a)
leaves_on_bits next leaves (answer.Bits bits) = leaves bits
leaves_on_bits next leaves a = leaves_not_there a

leaves_on_gone : (o : Op) (next : Plan) → LeavesJournals next → (a : Answer) → LeavesJournals (on_gone o next a)
leaves_on_gone o next leaves answer.Done = leaves
leaves_on_gone o next leaves answer.Absent = go (may_be_gone o)
  where
    go : (b : Bool) → LeavesJournals (cond b next (refused refusal.NoImage))
    go true = leaves
    go false = tt
leaves_on_gone o next leaves a = leaves_not_there a

leaves_each : (ops : List Op) (site : SiteId) (next : Plan) → AreNoJournals ops → LeavesJournals next → LeavesJournals (remove_each site ops next)
leaves_each [] site next are leaves = leaves
leaves_each (o ∷ ops) site next (first, are) leaves = λ a told. (first a, leaves_on_gone o (remove_each site ops next) (leaves_each ops site next are leaves) a)

-- ---- the command

module _ (site : SiteId) (session : ℕ) where
  leaves_owned : (image : ℕ) (h : HeaderView) → h.journal ≡ false → LeavesJournals (remove_owned site session image h)
  leaves_owned image h none = λ a told. (
    tt,
    leaves_on_watchers session (removal_plan site image h (Return reply.Done))
        (λ a told. (tt, leaves_on_bits (λ bits. remove_each site (removal image h bits) (Return reply.Done)) (λ bits. leaves_each (removal image h bits) site (Return reply.Done) (removal_leaves image h bits none) tt) a)) a,
  )

  leaves_holding : (image : ℕ) → LeavesJournals (holding_it site session image)
  leaves_holding image = λ a told. (
    tt,
    leaves_on_header (owned image_removal_refuses (remove_owned site session) image) (λ h none. leaves_unless (image_removal_refuses h) (remove_owned site session image h) (leaves_owned image h none)) a told,
  )

  leaves_joining : (image : ℕ) → LeavesJournals (joining_its_line site session image)
  leaves_joining image = λ a told. (
    tt,
    leaves_on_header (looked_at_it site session image) (λ h none.
        leaves_unless (image_removal_refuses h) (unless_watched site session image (holding_it site session image))
        (λ a told. (tt, leaves_on_watchers session (holding_it site session image) (leaves_holding image) a))) a told,
  )

  pub journals_are_found : (name : List ℕ) (feds : List Fed) (steps : List Answered) (last : Plan) → AreJournalless steps → IsWalk Goto (remove_image site session name) feds steps last → FindJournals steps
  journals_are_found name feds steps last none walk =
      leaves_walk feds (remove_image site session name) steps last (λ a told. (tt, leaves_on_id (joining_its_line site session) leaves_joining a)) none walk
