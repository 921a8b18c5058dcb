-- What a removal had done when it was refused.
use Rattle.std.proofs.Common.{◌≡◌, ◌⊎◌, inl, inr, ℕ, Bool, true, false, cond, List, [], ◌∷◌, ◌++◌, map, Option, Some, None, refl, ap, ◌∙◌, sym, subst}
use Rattle.rbd_commands.specs.declared.refusal.Refusal.{Refusal}
use Rattle.rbd_commands.specs.declared.refusal.Refusal.TheVariants as refusal
use Rattle.rbd_kinds.specs.declared.sharing.Sharing.TheVariants as sharing
use Rattle.rbd_kinds.specs.declared.answer.Answer.{Answer}
use Rattle.rbd_kinds.specs.declared.answer.Answer.TheVariants as answer
use Rattle.rbd_kinds.specs.declared.children_op.ChildrenOp.TheVariants as child
use Rattle.rbd_kinds.specs.declared.directory_op.DirectoryOp.TheVariants as directory
use Rattle.rbd_kinds.specs.declared.header.HeaderView.{HeaderView}
use Rattle.rbd_kinds.specs.declared.header.ParentLink.{ParentLink}
use Rattle.rbd_kinds.specs.declared.header.SnapView.{SnapView}
use Rattle.rbd_kinds.specs.declared.header_op.HeaderOp.TheVariants as header
use Rattle.rbd_kinds.specs.declared.id.Instance.{Instance}
use Rattle.rbd_kinds.specs.declared.id.SiteId.{SiteId}
use Rattle.rbd_kinds.specs.declared.machine.Fed.{Fed}
use Rattle.rbd_kinds.specs.declared.journal_op.JournalOp.TheVariants as journal
use Rattle.rbd_kinds.specs.declared.map_op.MapOp.TheVariants as states
use Rattle.rbd_kinds.specs.declared.operation.Op.{Op}
use Rattle.rbd_kinds.specs.declared.operation.Op.TheVariants as op
use Rattle.rbd_kinds.specs.declared.reply.Reply.TheVariants as reply
use Rattle.rbd_machine.specs.About.{AreOwn, look_up, owned_behind}
use Rattle.rbd_machine.specs.Path.{Answered, IsWalk, found, looked_at}
use Rattle.rbd_machine.specs.Plan.{Plan, Goto, Return}
use Rattle.rbd_machine.specs.Refused.{AreGiven, AreLooks, IsGiven, MayRefuse}
use Rattle.rbd_machine.specs.Steps.{on_bits, on_header, on_id, owned, under_lock, refused, unless}
use Rattle.rbd_machine.specs.Wait as wait
use Rattle.rbd_machine.specs.declared.reason.Reason.TheVariants as reason
use Rattle.rbd_machine.proofs.Walked.{asked_to, awaited_to, ended}
use Rattle.rbd_meaning.specs.Removals.{AllowRemoval, AreRemovals, IsRemovedBy, RefusesRemovalOf, image_removal_refuses, is_watched_beside, link_of, removal, removal_refusal_by, removing_journal, removing_map_of, removing_object, unlinking, used_objects, watchers_refuse, watchers_told}
use Rattle.rbd_meaning.specs.Snaps.{map_told}
use Rattle.rbd_image.specs.Remove.{holding_it, joining_its_line, looked_at_it, looking_at_it, on_gone, on_watchers, removal_plan, remove_each, remove_image, remove_owned, unless_watched}
use Rattle.rbd_image.specs.Told.{FindJournals, FindsJournal}
use Rattle.rbd_image.proofs.RemovalsWalked.{unwatched}

abbrev asked : SiteId → Op → Answer → Answered
asked site o a = record { site = site; op = o; answer = a }

-- ---- operations that the fence alone refuses

-- It removes, or is fenced; and unless it is fenced no answer refuses a removal.
record IsRemoval (session : ℕ) (o : Op) : Type 0 where
  fenced : removal_refusal_by session o answer.Fenced ≡ Some refusal.Fenced
  answered : (a : Answer) → IsGiven o a → FindsJournal o a → (IsRemovedBy o a × (removal_refusal_by session o a ≡ None)) ⊎ (a ≡ answer.Fenced)

abbrev AreAllRemovals : (session : ℕ) → List Op → Type 0
AreAllRemovals session [] = Unit {0}
AreAllRemovals session (o ∷ ops) = IsRemoval session o × AreAllRemovals session ops

module _ (session : ℕ) (image : ℕ) where
  name_goes : (a : Answer) → IsGiven (op.Directory (directory.Remove image)) a → FindsJournal (op.Directory (directory.Remove image)) a
      → (IsRemovedBy (op.Directory (directory.Remove image)) a × (removal_refusal_by session (op.Directory (directory.Remove image)) a ≡ None)) ⊎ (a ≡ answer.Fenced)
  name_goes answer.Done given finds = inl (tt, refl)
  name_goes answer.Absent given finds = inl (refl, refl)
  name_goes answer.Fenced given finds = inr refl
  name_goes _ given finds = let no = given.can.word in cc

  header_goes : (a : Answer) → IsGiven (op.Header image header.Remove) a → FindsJournal (op.Header image header.Remove) a
      → (IsRemovedBy (op.Header image header.Remove) a × (removal_refusal_by session (op.Header image header.Remove) a ≡ None)) ⊎ (a ≡ answer.Fenced)
  header_goes answer.Done given finds = inl (tt, refl)
  header_goes answer.Absent given finds = let no = given.finds in cc
  header_goes answer.Fenced given finds = inr refl
  header_goes _ given finds = let no = given.can.word in cc

  link_goes : (link : ParentLink) (a : Answer) → IsGiven (op.Children (child.Remove link.image link.snap image)) a → FindsJournal (op.Children (child.Remove link.image link.snap image)) a
      → (IsRemovedBy (op.Children (child.Remove link.image link.snap image)) a × (removal_refusal_by session (op.Children (child.Remove link.image link.snap image)) a ≡ None)) ⊎ (a ≡ answer.Fenced)
  link_goes link answer.Done given finds = inl (tt, refl)
  link_goes link answer.Absent given finds = inl (refl, refl)
  link_goes link answer.Fenced given finds = inr refl
  link_goes link _ given finds = let no = given.can.word in cc

  object_goes : (number : ℕ) (a : Answer) → IsGiven (removing_object image number) a → FindsJournal (removing_object image number) a
      → (IsRemovedBy (removing_object image number) a × (removal_refusal_by session (removing_object image number) a ≡ None)) ⊎ (a ≡ answer.Fenced)
  object_goes number answer.Done given finds = inl (tt, refl)
  object_goes number answer.Fenced given finds = inr refl
  object_goes number _ given finds = let no = given.can.word in cc

  head_map_goes : (a : Answer) → IsGiven (op.Map image (states.Remove None)) a → FindsJournal (op.Map image (states.Remove None)) a
      → (IsRemovedBy (op.Map image (states.Remove None)) a × (removal_refusal_by session (op.Map image (states.Remove None)) a ≡ None)) ⊎ (a ≡ answer.Fenced)
  head_map_goes answer.Done given finds = inl (tt, refl)
  head_map_goes answer.Absent given finds = let no = given.finds in cc
  head_map_goes answer.Fenced given finds = inr refl
  head_map_goes _ given finds = let no = given.can.word in cc

  map_goes : (s : SnapView) (a : Answer) → IsGiven (removing_map_of image s) a → FindsJournal (removing_map_of image s) a
      → (IsRemovedBy (removing_map_of image s) a × (removal_refusal_by session (removing_map_of image s) a ≡ None)) ⊎ (a ≡ answer.Fenced)
  map_goes s answer.Done given finds = inl (tt, refl)
  map_goes s answer.Absent given finds = inl (refl, refl)
  map_goes s answer.Fenced given finds = inr refl
  map_goes s _ given finds = let no = given.can.word in cc

  journal_goes : (a : Answer) → IsGiven (op.Journal image journal.Remove) a → FindsJournal (op.Journal image journal.Remove) a
      → (IsRemovedBy (op.Journal image journal.Remove) a × (removal_refusal_by session (op.Journal image journal.Remove) a ≡ None)) ⊎ (a ≡ answer.Fenced)
  journal_goes answer.Done given finds = inl (tt, refl)
  journal_goes answer.Absent given finds = absurd finds
  journal_goes answer.Fenced given finds = inr refl
  journal_goes _ given finds = let no = given.can.word in cc

  both_go : (one two : List Op) → AreAllRemovals session one → AreAllRemovals session two → AreAllRemovals session (one ++ two)
  both_go [] two are others = others
  both_go (o ∷ one) two (first, are) others = (first, both_go one two are others)

  links_go : (link : Option ParentLink) → AreAllRemovals session (unlinking image link)
  links_go None = tt
  links_go (Some link) = (record { fenced = refl; answered = link_goes link }, tt)

  objects_go : (objects : List ℕ) → AreAllRemovals session (map (removing_object image) objects)
  objects_go [] = tt
  objects_go (o ∷ objects) = (record { fenced = refl; answered = object_goes o }, objects_go objects)

  maps_go : (snaps : List SnapView) → AreAllRemovals session (map (removing_map_of image) snaps)
  maps_go [] = tt
  maps_go (s ∷ snaps) = (record { fenced = refl; answered = map_goes s }, maps_go snaps)

  journals_go : (journal : Bool) → AreAllRemovals session (removing_journal image journal)
  journals_go false = tt
  journals_go true = (record { fenced = refl; answered = journal_goes }, tt)

  removal_goes : (h : HeaderView) (bits : List ℕ) → AreAllRemovals session (removal image h bits)
  removal_goes h bits = (
    record { fenced = refl; answered = name_goes },
    (
      record { fenced = refl; answered = header_goes },
      both_go (unlinking image (link_of h)) _ (links_go (link_of h))
          (both_go (map (removing_object image) (used_objects bits)) _ (objects_go (used_objects bits))
          (record { fenced = refl; answered = head_map_goes }, both_go (map (removing_map_of image) h.snaps) (removing_journal image h.journal) (maps_go h.snaps) (journals_go h.journal))),
    ),
  )

-- ---- what comes after, had it not been refused

abbrev done_all : SiteId → List Op → List Answered
done_all site [] = []
done_all site (o ∷ ops) = asked site o answer.Done ∷ done_all site ops

all_done : (site : SiteId) (ops : List Op) → AreRemovals site ops (done_all site ops)
all_done site [] = tt
all_done site (o ∷ ops) = (refl, refl, tt, all_done site ops)

-- The last was fenced, those before were removals, and others would have followed.
record CutOff (site : SiteId) (session : ℕ) (ops : List Op) (steps : List Answered) (x : Refusal) : Type 0 where
  before : List Answered
  last : Answered
  are : steps ≡ before ++ last ∷ []
  fenced : x ≡ refusal.Fenced
  last_fenced : last.answer ≡ answer.Fenced
  by : removal_refusal_by session last.op last.answer ≡ Some x
  allowed : AllowRemoval session before
  rest : List Answered
  whole : AreRemovals site ops (before ++ rest)

goes_on : (o : Op) (next : Plan) (a : Answer) → IsRemovedBy o a → on_gone o next a ≡ next
goes_on o next answer.Done removed = refl
goes_on o next answer.Absent removed = ap (λ b. cond b next (refused refusal.NoImage)) removed
goes_on o next a removed = absurd removed

module _ (x : Refusal) (site : SiteId) (session : ℕ) where
  abbrev Refused : Plan
  Refused = Return (reply.Refused x)

  -- a refusal is the last
  is_last : (y : Refusal) (feds : List Fed) (rest : List Answered) → IsWalk Goto (Return (reply.Refused y)) feds rest Refused → (rest ≡ []) × (x ≡ y)
  is_last y feds rest walk =
      let end = ended (reply.Refused y) feds rest Refused walk in
      let same : Return (reply.Refused x) ≡ Return (reply.Refused y) = end.1 in
      (end.0, (let e : x ≡ y = cc in e))

  cut_off : (ops : List Op) → AreAllRemovals session ops → (feds : List Fed) (steps : List Answered) → AreGiven steps → FindJournals steps
      → IsWalk Goto (remove_each site ops (Return reply.Done)) feds steps Refused → CutOff site session ops steps x
  cut_off [] are feds steps given finds walk =
      let other : Return (reply.Refused x) ≡ Return reply.Done = (ended reply.Done feds steps Refused walk).1 in
      cc
  cut_off (o ∷ ops) (first, are) feds steps given finds walk =
      let w = asked_to (reply.Refused x) site reason.Own o (on_gone o (remove_each site ops (Return reply.Done))) feds steps walk in
      let (g, gs) = subst AreGiven w.are given in
      let (f, fs) = subst FindJournals w.are finds in
      go (λ feds rest. cut_off ops are feds rest) w.answer w.more w.rest w.are gs fs w.walk (first.answered w.answer g f)
    where
      go : ((feds : List Fed) (rest : List Answered) → AreGiven rest → FindJournals rest → IsWalk Goto (remove_each site ops (Return reply.Done)) feds rest Refused → CutOff site session ops rest x)
          → (a : Answer) (more : List Fed) (rest : List Answered) → steps ≡ asked site o a ∷ rest → AreGiven rest → FindJournals rest
          → IsWalk Goto (on_gone o (remove_each site ops (Return reply.Done)) a) more rest Refused
          → (IsRemovedBy o a × (removal_refusal_by session o a ≡ None)) ⊎ (a ≡ answer.Fenced) → CutOff site session (o ∷ ops) steps x
      go others a more rest is gs fs walk (inl (removed, allowed)) =
          let r = others more rest gs fs (subst (λ p. IsWalk Goto p more rest Refused) (goes_on o (remove_each site ops (Return reply.Done)) a removed) walk) in
          record {
            before = asked site o a ∷ r.before;
            last = r.last;
            are = is ∙ ap (λ s. asked site o a ∷ s) r.are;
            fenced = r.fenced;
            last_fenced = r.last_fenced;
            by = r.by;
            allowed = (allowed, r.allowed);
            rest = r.rest;
            whole = (refl, refl, removed, r.whole);
          }
      go others a more rest is gs fs walk (inr fenced) =
          let end = is_last refusal.Fenced more rest (subst (λ a. IsWalk Goto (on_gone o (remove_each site ops (Return reply.Done)) a) more rest Refused) fenced walk) in
          record {
            before = [];
            last = asked site o a;
            are = is ∙ ap (λ s. asked site o a ∷ s) end.0;
            fenced = end.1;
            last_fenced = fenced;
            by = ap (removal_refusal_by session o) fenced ∙ first.fenced ∙ ap Some (sym end.1);
            allowed = tt;
            rest = done_all site (o ∷ ops);
            whole = all_done site (o ∷ ops);
          }

  -- ---- looks

  module _ (name : List ℕ) (steps : List Answered) (own : AreOwn site (look_up name) steps) where
    abbrev Meant : Type 0
    Meant = RefusesRemovalOf site session name steps x

    -- it ends behind looks alone
    stops : (before : List Answered) (o : Op) (a : Answer) (y : Refusal) (feds : List Fed) (rest : List Answered) → steps ≡ before ++ asked site o a ∷ rest → IsWalk Goto (Return (reply.Refused y)) feds rest Refused
        → MayRefuse (owned_behind [] before) (asked site o a) → removal_refusal_by session o a ≡ Some y → AllowRemoval session before → AreLooks before → Meant
    stops before o a y feds rest are walk may by allowed looks =
        let end = is_last y feds rest walk in
        record {
          own = own;
          before = before;
          last = asked site o a;
          are = are ∙ ap (λ s. before ++ asked site o a ∷ s) end.0;
          by_own = may;
          refused = by ∙ ap Some (sym end.1);
          allowed = allowed;
          unchanged = λ late. looks;
          so_far = inl looks;
        }

    module _ (image : ℕ) where
      abbrev get : Op
      get = op.Header image header.Get

      abbrev watchers_get : Op
      watchers_get = op.Header image header.WatchersGet

      -- ---- behind all looks

      module _ (first : HeaderView) (watchers : List Instance) (h : HeaderView) (others : List Instance) (may_wait : image_removal_refuses first ≡ None)
          (unused : is_watched_beside session watchers ≡ false) (may : image_removal_refuses h ≡ None) (unused_still : is_watched_beside session others ≡ false)
          (allowed : watchers_refuse session watchers ≡ None) (still_allowed : watchers_refuse session others ≡ None) where
        abbrev looks : List Answered → List Answered
        looks rest = found site name image ∷ looked_at site image first ∷ watchers_told site image watchers ∷ looked_at site image h ∷ watchers_told site image others ∷ rest

        removing_stops : (bits : List ℕ) (rest : List Answered) → steps ≡ looks (map_told site image bits ∷ rest) → CutOff site session (removal image h bits) rest x → Meant
        removing_stops bits rest are cut = record {
          own = own;
          before = looks (map_told site image bits ∷ cut.before);
          last = cut.last;
          are = are ∙ ap (λ s. looks (map_told site image bits ∷ s)) cut.are;
          by_own = inl cut.last_fenced;
          refused = cut.by;
          allowed = (refl, (may_wait, (allowed, (may, (still_allowed, (refl, cut.allowed))))));
          unchanged = λ late. absurd (late cut.fenced);
          so_far = inr (record {
            rest = cut.rest;
            whole = record {
              image = image;
              first = first;
              watchers = watchers;
              own = h;
              others = others;
              may_wait = may_wait;
              unused = unused;
              may = may;
              unused_still = unused_still;
              bits = bits;
              removed = cut.before ++ cut.rest;
              are_removed = cut.whole;
              are = refl;
            };
          });
        }

        abbrev removing : (bits : List ℕ) → Plan
        removing bits = remove_each site (removal image h bits) (Return reply.Done)

        abbrev map_get : Op
        map_get = op.Map image (states.Get None)

        states_stop : FindJournals steps → (feds : List Fed) (rest : List Answered) → steps ≡ looks rest → AreGiven rest → IsWalk Goto (removal_plan site image h (Return reply.Done)) feds rest Refused → Meant
        states_stop finds feds rest are given walk =
            let w = asked_to (reply.Refused x) site reason.Own map_get (on_bits removing) feds rest walk in
            let (g, gs) = subst AreGiven w.are given in
            go w.answer w.more w.rest (are ∙ ap looks w.are) g gs w.walk
          where
            go : (a : Answer) (more : List Fed) (last : List Answered) → steps ≡ looks (asked site map_get a ∷ last) → IsGiven map_get a → AreGiven last → IsWalk Goto (on_bits removing a) more last Refused → Meant
            go (answer.Bits bits) more last are g gs walk = removing_stops bits last are (cut_off (removal image h bits) (removal_goes session image h bits) more last gs (subst FindJournals are finds).1.1.1.1.1.1 walk)
            go answer.Absent more last are g gs walk =
                stops (looks []) map_get answer.Absent refusal.NoImage more last are walk (inr (inl refl)) refl (refl, (may_wait, (allowed, (may, (still_allowed, tt))))) (refl, (refl, (refl, (refl, (refl, tt)))))
            go answer.Fenced more last are g gs walk =
                stops (looks []) map_get answer.Fenced refusal.Fenced more last are walk (inr (inl refl)) refl (refl, (may_wait, (allowed, (may, (still_allowed, tt))))) (refl, (refl, (refl, (refl, (refl, tt)))))
            go _ more last are g gs walk = let no = g.can.word in cc

      -- ---- the second look at who watches

      module _ (first : HeaderView) (watchers : List Instance) (may_wait : image_removal_refuses first ≡ None) (unused : is_watched_beside session watchers ≡ false) (allowed : watchers_refuse session watchers ≡ None) where
        abbrev front : List Answered → List Answered
        front rest = found site name image ∷ looked_at site image first ∷ watchers_told site image watchers ∷ rest

        again_stops : FindJournals steps → (h : HeaderView) → image_removal_refuses h ≡ None → (feds : List Fed) (rest : List Answered) → steps ≡ front (looked_at site image h ∷ rest) → AreGiven rest
            → IsWalk Goto (remove_owned site session image h) feds rest Refused → Meant
        again_stops finds h may feds rest are given walk =
            let w = asked_to (reply.Refused x) site reason.Own watchers_get (on_watchers session (removal_plan site image h (Return reply.Done))) feds rest walk in
            let (g, gs) = subst AreGiven w.are given in
            go w.answer w.more w.rest (are ∙ ap (λ s. front (looked_at site image h ∷ s)) w.are) g gs w.walk
          where
            told : (others : List Instance) (more : List Fed) (last : List Answered) → steps ≡ front (looked_at site image h ∷ watchers_told site image others ∷ last) → AreGiven last
                → (r : Option Refusal) → watchers_refuse session others ≡ r → IsWalk Goto (unless r (removal_plan site image h (Return reply.Done))) more last Refused → Meant
            told others more last are gs None still walk =
                states_stop first watchers h others may_wait unused may (unwatched (is_watched_beside session others) still) allowed still finds more last are gs walk
            told others more last are gs (Some y) by walk =
                stops (front (looked_at site image h ∷ [])) watchers_get (answer.Instances others) y more last are walk (inr (inl refl)) by (refl, (may_wait, (allowed, (may, tt)))) (refl, (refl, (refl, (refl, tt))))

            go : (a : Answer) (more : List Fed) (last : List Answered) → steps ≡ front (looked_at site image h ∷ asked site watchers_get a ∷ last) → IsGiven watchers_get a → AreGiven last
                → IsWalk Goto (on_watchers session (removal_plan site image h (Return reply.Done)) a) more last Refused → Meant
            go (answer.Instances others) more last are g gs walk = told others more last are gs (watchers_refuse session others) refl walk
            go answer.Absent more last are g gs walk =
                stops (front (looked_at site image h ∷ [])) watchers_get answer.Absent refusal.NoImage more last are walk (inr (inl refl)) refl (refl, (may_wait, (allowed, (may, tt)))) (refl, (refl, (refl, (refl, tt))))
            go answer.Fenced more last are g gs walk =
                stops (front (looked_at site image h ∷ [])) watchers_get answer.Fenced refusal.Fenced more last are walk (inr (inl refl)) refl (refl, (may_wait, (allowed, (may, tt)))) (refl, (refl, (refl, (refl, tt))))
            go _ more last are g gs walk = let no = g.can.word in cc

        -- ---- the look under the lock

        own_stops : FindJournals steps → (feds : List Fed) (rest : List Answered) → steps ≡ front rest → AreGiven rest → IsWalk Goto (holding_it site session image) feds rest Refused → Meant
        own_stops finds feds rest are given walk =
            let l = awaited_to (reply.Refused x) (wait.Hold site image) (under_lock site image_removal_refuses (remove_owned site session) image) feds rest walk in
            let w = asked_to (reply.Refused x) site reason.Own get (on_header (owned image_removal_refuses (remove_owned site session) image)) l.more rest l.walk in
            let (g, gs) = subst AreGiven w.are given in
            go w.answer w.more w.rest (are ∙ ap front w.are) g gs w.walk
          where
            told : (h : HeaderView) (more : List Fed) (last : List Answered) → steps ≡ front (looked_at site image h ∷ last) → AreGiven last → (r : Option Refusal) → image_removal_refuses h ≡ r
                → IsWalk Goto (unless r (remove_owned site session image h)) more last Refused → Meant
            told h more last are gs None may walk = again_stops finds h may more last are gs walk
            told h more last are gs (Some y) by walk = stops (front []) get (answer.Header h) y more last are walk (inr (inl refl)) by (refl, (may_wait, (allowed, tt))) (refl, (refl, (refl, tt)))

            go : (a : Answer) (more : List Fed) (last : List Answered) → steps ≡ front (asked site get a ∷ last) → IsGiven get a → AreGiven last
                → IsWalk Goto (on_header (owned image_removal_refuses (remove_owned site session) image) a) more last Refused → Meant
            go (answer.Header h) more last are g gs walk = told h more last are gs (image_removal_refuses h) refl walk
            go answer.Absent more last are g gs walk = stops (front []) get answer.Absent refusal.NoImage more last are walk (inr (inl refl)) refl (refl, (may_wait, (allowed, tt))) (refl, (refl, (refl, tt)))
            go answer.Fenced more last are g gs walk = stops (front []) get answer.Fenced refusal.Fenced more last are walk (inr (inl refl)) refl (refl, (may_wait, (allowed, tt))) (refl, (refl, (refl, tt)))
            go _ more last are g gs walk = let no = g.can.word in cc

      -- ---- the first looks

      asking_stops : FindJournals steps → (first : HeaderView) → image_removal_refuses first ≡ None → (feds : List Fed) (rest : List Answered) → steps ≡ found site name image ∷ looked_at site image first ∷ rest
          → AreGiven rest → IsWalk Goto (unless_watched site session image (holding_it site session image)) feds rest Refused → Meant
      asking_stops finds first may_wait feds rest are given walk =
          let w = asked_to (reply.Refused x) site reason.Own watchers_get (on_watchers session (holding_it site session image)) feds rest walk in
          let (g, gs) = subst AreGiven w.are given in
          go w.answer w.more w.rest (are ∙ ap (λ s. found site name image ∷ looked_at site image first ∷ s) w.are) g gs w.walk
        where
          told : (watchers : List Instance) (more : List Fed) (last : List Answered) → steps ≡ found site name image ∷ looked_at site image first ∷ watchers_told site image watchers ∷ last → AreGiven last
              → (r : Option Refusal) → watchers_refuse session watchers ≡ r → IsWalk Goto (unless r (holding_it site session image)) more last Refused → Meant
          told watchers more last are gs None allowed walk = own_stops first watchers may_wait (unwatched (is_watched_beside session watchers) allowed) allowed finds more last are gs walk
          told watchers more last are gs (Some y) by walk = stops (found site name image ∷ looked_at site image first ∷ []) watchers_get (answer.Instances watchers) y more last are walk (inr (inl refl)) by (refl, (may_wait, tt)) (refl, (refl, tt))

          go : (a : Answer) (more : List Fed) (last : List Answered) → steps ≡ found site name image ∷ looked_at site image first ∷ asked site watchers_get a ∷ last → IsGiven watchers_get a → AreGiven last
              → IsWalk Goto (on_watchers session (holding_it site session image) a) more last Refused → Meant
          go (answer.Instances watchers) more last are g gs walk = told watchers more last are gs (watchers_refuse session watchers) refl walk
          go answer.Absent more last are g gs walk = stops (found site name image ∷ looked_at site image first ∷ []) watchers_get answer.Absent refusal.NoImage more last are walk (inr (inl refl)) refl (refl, (may_wait, tt)) (refl, (refl, tt))
          go answer.Fenced more last are g gs walk = stops (found site name image ∷ looked_at site image first ∷ []) watchers_get answer.Fenced refusal.Fenced more last are walk (inr (inl refl)) refl (refl, (may_wait, tt)) (refl, (refl, tt))
          go _ more last are g gs walk = let no = g.can.word in cc

      joining_stops : FindJournals steps → (feds : List Fed) (rest : List Answered) → steps ≡ found site name image ∷ rest → AreGiven rest → IsWalk Goto (joining_its_line site session image) feds rest Refused → Meant
      joining_stops finds feds rest are given walk =
          let j = awaited_to (reply.Refused x) (wait.Join site image sharing.Alone) (looking_at_it site session image) feds rest walk in
          let w = asked_to (reply.Refused x) site reason.Own get (on_header (looked_at_it site session image)) j.more rest j.walk in
          let (g, gs) = subst AreGiven w.are given in
          go w.answer w.more w.rest (are ∙ ap (λ s. found site name image ∷ s) w.are) g gs w.walk
        where
          told : (first : HeaderView) (more : List Fed) (last : List Answered) → steps ≡ found site name image ∷ looked_at site image first ∷ last → AreGiven last → (r : Option Refusal) → image_removal_refuses first ≡ r
              → IsWalk Goto (unless r (unless_watched site session image (holding_it site session image))) more last Refused → Meant
          told first more last are gs None may_wait walk = asking_stops finds first may_wait more last are gs walk
          told first more last are gs (Some y) by walk = stops (found site name image ∷ []) get (answer.Header first) y more last are walk (inr (inl refl)) by (refl, tt) (refl, tt)

          go : (a : Answer) (more : List Fed) (last : List Answered) → steps ≡ found site name image ∷ asked site get a ∷ last → IsGiven get a → AreGiven last
              → IsWalk Goto (on_header (looked_at_it site session image) a) more last Refused → Meant
          go (answer.Header first) more last are g gs walk = told first more last are gs (image_removal_refuses first) refl walk
          go answer.Absent more last are g gs walk = stops (found site name image ∷ []) get answer.Absent refusal.NoImage more last are walk (inr (inl refl)) refl (refl, tt) (refl, tt)
          go answer.Fenced more last are g gs walk = stops (found site name image ∷ []) get answer.Fenced refusal.Fenced more last are walk (inr (inl refl)) refl (refl, tt) (refl, tt)
          go _ more last are g gs walk = let no = g.can.word in cc

    pub refusal_is_meant : AreGiven steps → FindJournals steps → (feds : List Fed) → IsWalk Goto (remove_image site session name) feds steps Refused → Meant
    refusal_is_meant given finds feds walk =
        let w = asked_to (reply.Refused x) site reason.Own (look_up name) (on_id (joining_its_line site session)) feds steps walk in
        let (g, gs) = subst AreGiven w.are given in
        go w.answer w.more w.rest w.are g gs w.walk
      where
        go : (a : Answer) (more : List Fed) (last : List Answered) → steps ≡ asked site (look_up name) a ∷ last → IsGiven (look_up name) a → AreGiven last → IsWalk Goto (on_id (joining_its_line site session) a) more last Refused → Meant
        go (answer.Id image) more last are g gs walk = joining_stops image finds more last are gs walk
        go answer.Absent more last are g gs walk = stops [] (look_up name) answer.Absent refusal.NoImage more last are walk (inr tt) refl tt tt
        go answer.Fenced more last are g gs walk = stops [] (look_up name) answer.Fenced refusal.Fenced more last are walk (inr tt) refl tt tt
        go _ more last are g gs walk = let no = g.can.word in cc
