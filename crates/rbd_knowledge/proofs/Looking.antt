-- Who may go on may act, whatever another one knows.
use Rattle.std.proofs.Common.{◌≡◌, ◌≢◌, inl, inr, ℕ, zero, suc, Bool, true, false, List, Option, Some, None, is_some, refl, sym, ap, ◌∙◌, subst}
use Rattle.std.specs.Prelude.{IsSome}
use Rattle.std.specs.List.{filter}
use Rattle.std.specs.Option.{option_map}
use Rattle.std.proofs.lemmas.Bool.{true≢false, or_parts}
use Rattle.std.proofs.lemmas.Option.{none-some}
use Rattle.rbd_kinds.specs.Sharing.{go_together, is_alone}
use Rattle.rbd_machine.specs.Course.{is_waiting, has_just_joined}
use Rattle.rbd_machine.specs.declared.stage.Stage.{Stage}
use Rattle.rbd_machine.specs.declared.stage.Stage.TheVariants as stage
use Rattle.rbd_kinds.specs.declared.answer.Answer.{Answer}
use Rattle.rbd_kinds.specs.declared.data_op.DataOp.TheVariants as object
use Rattle.rbd_kinds.specs.declared.header.HeaderView.{HeaderView}
use Rattle.rbd_kinds.specs.declared.header.SnapContext.{SnapContext}
use Rattle.rbd_kinds.specs.declared.header_op.HeaderOp.TheVariants as header
use Rattle.rbd_kinds.specs.declared.id.Instance.{Instance}
use Rattle.rbd_kinds.specs.declared.id.SiteId.{SiteId}
use Rattle.rbd_kinds.specs.declared.map_op.MapOp.TheVariants as states
use Rattle.rbd_kinds.specs.declared.operation.Op.{Op}
use Rattle.rbd_kinds.specs.declared.operation.Op.TheVariants as op
use Rattle.rbd_kinds.specs.declared.sharing.Sharing.{Sharing}
use Rattle.rbd_kinds.specs.declared.sharing.Sharing.TheVariants.{Flatten}
use Rattle.rbd_queue.specs.Line.{Member, changed_member, has_turn, holds_ticket, is_past, may_pass, member_of, passed, slots, IsFairLine}
use Rattle.rbd_queue.proofs.Fair.{passed_fair}
use Rattle.rbd_queue.proofs.Passing.{apart_past, found_at, own_changed, others_changed, passed_is_steady}
use Rattle.rbd_machine.specs.Knowledge.{Knowledge, Own, objects_known_of, own_of}
use Rattle.rbd_machine.specs.Lawful.{IsLawful}
use Rattle.rbd_machine.specs.Permits.{HasTurn, MaySet, OwnsBy, Permits, PermitsOnObject, makes_zeros}
use Rattle.rbd_machine.proofs.Objects.{no_flatten_beside}
use Rattle.rbd_machine.specs.Plan.{Ask, Plan, Standing}
use Rattle.rbd_machine.specs.declared.reason.Reason.{Reason}
use Rattle.rbd_machine.proofs.Together.{shared_both}
use Rattle.rbd_interference.specs.Beside.{BreaksNothing, Lowers, MayAct, SharesLock}
use Rattle.rbd_interference.specs.Truth.{header_of_own, is_alone_on, is_own_alone, known_header, sharing_of_own, sharing_on}
use Rattle.rbd_interference.specs.Turns.{KnowsAbsent, KnowsInTurn, KnowsOf, KnowsRaised, KnowsThere}
use Rattle.rbd_interference.proofs.Turns.{nothing_in_turn}
use Rattle.rbd_slots.specs.declared.running.Running.{Running}
use Rattle.rbd_slots.specs.Advance.{track_of}
use Rattle.rbd_slots.specs.Lines.{lines_of}
use Rattle.rbd_slots.specs.Session.{SessionView, IsSoundSession, running_at}
use Rattle.rbd_slots.specs.Track.{Track, Lines, line_in, course_of}
use Rattle.rbd_slots.specs.Waits.{waits, awaits_line, awaits_turn, awaits_look}
use Rattle.rbd_slots.proofs.Members.{at_own_slot}
use Rattle.rbd_site.specs.Records.{Records}
use Rattle.rbd_knowledge.specs.Knowing.{AllKnow, KnowsBy, KnowsIn}
use Rattle.rbd_knowledge.proofs.Behind.{knows_there}
use Rattle.rbd_knowledge.proofs.Firsts.{one_first}
use Rattle.rbd_knowledge.proofs.There.{IsMemberFor, may_of, owner_there}
use Rattle.rbd_knowledge.proofs.Turning.{turn_of_goes}

-- who knows a header owns the image
own_is_there : (o : Option Own) → IsSome (header_of_own o) → IsSome o
own_is_there None some = some
own_is_there (Some o) some = refl

-- ---- in one line

-- two that are past go together
both_past : (line : List Member) (one other : Member) → IsFairLine line → member_of one.slot line ≡ Some one → member_of other.slot line ≡ Some other → one.slot ≢ other.slot
    → is_past one.stage ≡ true → is_past other.stage ≡ true → go_together one.sharing other.sharing ≡ true
both_past line one other fair here there differ past behind = by (go_together one.sharing other.sharing) refl
  where
    by : (b : Bool) → go_together one.sharing other.sharing ≡ b → b ≡ true
    by true is = refl
    by false is = absurd (true≢false (sym behind ∙ apart_past line one other fair here there differ is past))

apart_slots : (line : List Member) (slot other : ℕ) (m n : Member) → slot ≢ other → member_of slot line ≡ Some m → member_of other line ≡ Some n → m.slot ≢ n.slot
apart_slots line slot other m n differ here there same = differ (sym (found_at line slot m here) ∙ same ∙ found_at line other n there)

both_together : (line : List Member) (slot other : ℕ) (m n : Member) → IsFairLine line → slot ≢ other → member_of slot line ≡ Some m → member_of other line ≡ Some n
    → is_past m.stage ≡ true → is_past n.stage ≡ true → go_together m.sharing n.sharing ≡ true
both_together line slot other m n fair differ here there past behind =
    both_past line m n fair (at_own_slot slot line m here) (at_own_slot other line n there) (apart_slots line slot other m n differ here there) past behind

-- one that may pass is as one that is past
may_together : (line : List Member) (slot other : ℕ) (m n : Member) → IsFairLine line → slot ≢ other → member_of slot line ≡ Some m → member_of other line ≡ Some n
    → may_pass slot line ≡ true → is_past n.stage ≡ true → go_together m.sharing n.sharing ≡ true
may_together line slot other m n fair differ here there may behind =
    both_together (changed_member slot passed line) slot other (passed m) n (passed_fair slot line fair may) differ
    (own_changed line slot passed passed_is_steady ∙ ap (option_map passed) here)
    (others_changed line slot other passed passed_is_steady (λ same. differ (sym same)) ∙ there)
    refl behind

-- so neither is alone
pub may_shared : (line : List Member) (slot other : ℕ) (m n : Member) → IsFairLine line → slot ≢ other → member_of slot line ≡ Some m → member_of other line ≡ Some n
    → may_pass slot line ≡ true → is_past n.stage ≡ true → (is_alone m.sharing ≡ false) × (is_alone n.sharing ≡ false)
may_shared line slot other m n fair differ here there may behind = shared_both m.sharing n.sharing (may_together line slot other m n fair differ here there may behind)

-- ---- who doesn't wait

module _ (slot other : ℕ) (site : SiteId) (image : ℕ) (o p : Own) (t u : Track) (differ : slot ≢ other) (same : u.lines ≡ t.lines) (fair : IsFairLine (t.lines site image))
    (goes : waits slot t ≡ false) (one : IsMemberFor slot site image o t) (two : IsMemberFor other site image p u) where
  there : member_of other (t.lines site image) ≡ Some two.member
  there = ap (λ (ls : Lines). member_of other (ls site image)) (sym same) ∙ two.found

  may : is_waiting one.member.stage ≡ true → may_pass slot (t.lines site image) ≡ true
  may waiting =
      sym (ap (may_pass slot) one.line)
      ∙ may_of (awaits_look (course_of slot t).place) (may_pass slot (line_in t.place t.lines)) (ap awaits_look one.place ∙ waiting) (or_parts (awaits_line slot t) (awaits_turn slot t) goes).0

  are_together : is_past two.member.stage ≡ true → go_together o.sharing p.sharing ≡ true
  are_together past =
      ap (λ sharing. go_together sharing p.sharing) one.sharing ∙ ap (λ sharing. go_together one.member.sharing sharing) two.sharing ∙ by one.member.stage refl
    where
      by : (s : Stage) → one.member.stage ≡ s → go_together one.member.sharing two.member.sharing ≡ true
      by stage.Joined is = absurd (true≢false (sym (ap has_just_joined is) ∙ one.waits))
      by stage.Waiting is = may_together (t.lines site image) slot other one.member two.member fair differ one.found there (may (ap is_waiting is)) past
      by stage.Past is = both_together (t.lines site image) slot other one.member two.member fair differ one.found there (ap is_past is) past

-- ---- looks

module _ {R : Type 0} (stands : R → Standing) (s : SessionView R) (knows : ℕ → Knowledge) (sound : IsSoundSession stands s) (all : AllKnow stands knows s) where
  -- the own of a request that runs
  pub owner_runs : (slot : ℕ) (r : Running R) → running_at slot s ≡ Some r → (site : SiteId) (image : ℕ) (o : Own) → own_of (knows slot).owns site image ≡ Some o
      → IsMemberFor slot site image o (track_of r s.lines)
  owner_runs slot r runs site image o is =
      owner_there slot site image o (track_of r s.lines) (sound.runs slot r runs).somewhere ((knows_there stands s knows slot r runs all).tied.owns site image o is)

  -- who owns anything runs
  pub runs_who_owns : (slot : ℕ) (site : SiteId) (image : ℕ) (o : Own) → own_of (knows slot).owns site image ≡ Some o → (r : Running R) × (running_at slot s ≡ Some r)
  runs_who_owns slot site image o is = by (running_at slot s) refl (all slot)
    where
      by : (q : Option (Running R)) → running_at slot s ≡ q → KnowsIn stands slot q s.lines (knows slot) → (r : Running R) × (running_at slot s ≡ Some r)
      by None rests nothing = absurd (none-some o (sym (ap (λ (k : Knowledge). own_of k.owns site image) nothing) ∙ is))
      by (Some r) runs known = (r, runs)

  module _ (slot other : ℕ) (differ : slot ≢ other) (r : Running R) (runs : running_at slot s ≡ Some r) (goes : waits slot (track_of r s.lines) ≡ false) (site : SiteId) (image : ℕ) where
    owners_together : (o p : Own) → own_of (knows slot).owns site image ≡ Some o → own_of (knows other).owns site image ≡ Some p → IsSome p.header → go_together o.sharing p.sharing ≡ true
    owners_together o p mine others told =
        let (q, others_run) = runs_who_owns other site image p others in
        let two = owner_runs other q others_run site image p others in
        are_together slot other site image o p (track_of r s.lines) (track_of q s.lines) differ refl (sound.fair site image) goes (owner_runs slot r runs site image o mine) two (two.past told)

    header_together : (mine others : Option Own) → own_of (knows slot).owns site image ≡ mine → own_of (knows other).owns site image ≡ others → IsSome mine → IsSome (header_of_own others)
        → go_together (sharing_of_own mine) (sharing_of_own others) ≡ true
    header_together None others is that some told = absurd (true≢false (sym some))
    header_together (Some o) None is that some told = absurd (true≢false (sym told))
    header_together (Some o) (Some p) is that some told = owners_together o p is that told

    lock_shared : (records : Records) (me you : Instance) → SharesLock site image records me you (knows slot) (knows other)
    lock_shared records me you free some told = header_together (own_of (knows slot).owns site image) (own_of (knows other).owns site image) refl refl some told

  -- ---- changes of an object

  in_turn_of : (slot : ℕ) → KnowsInTurn (knows slot)
  in_turn_of slot = by (running_at slot s) refl (all slot)
    where
      by : (q : Option (Running R)) → running_at slot s ≡ q → KnowsIn stands slot q s.lines (knows slot) → KnowsInTurn (knows slot)
      by None rests nothing = subst KnowsInTurn (sym nothing) nothing_in_turn
      by (Some r) runs known = known.in_turn

  module _ (slot other : ℕ) (differ : slot ≢ other) (r : Running R) (runs : running_at slot s ≡ Some r) (goes : waits slot (track_of r s.lines) ≡ false) (site : SiteId) (image number : ℕ) where
    -- who isn't alone has its turn there
    abbrev HasItsTurn : Type 0
    HasItsTurn = IsSome (known_header (knows slot) site image) → is_alone_on (knows slot) site image ≡ false → (knows slot).turn ≡ Some number

    -- who changes it has its turn there, and the other one would have it
    others_know_nothing : HasItsTurn → IsSome (known_header (knows slot) site image) → IsSome (known_header (knows other) site image) → sharing_on (knows other) site image ≢ Flatten
        → KnowsOf (knows other) site image number → ⊥
    others_know_nothing at_turn mine others unflat known = by (own_of (knows slot).owns site image) refl (own_of (knows other).owns site image) refl mine others
      where
        by : (one : Option Own) → own_of (knows slot).owns site image ≡ one → (two : Option Own) → own_of (knows other).owns site image ≡ two → IsSome (header_of_own one) → IsSome (header_of_own two) → ⊥
        by None is two that mine others = true≢false (sym mine)
        by (Some o) is None that mine others = true≢false (sym others)
        by (Some o) is (Some p) that told_one told_two =
            let (q, others_run) = runs_who_owns other site image p that in
            let shared = shared_both o.sharing p.sharing (owners_together slot other differ r runs goes site image o p is that told_two) in
            let one = owner_runs slot r runs site image o is in
            let turn = at_turn (ap (λ x. is_some (header_of_own x)) is ∙ told_one) (ap is_own_alone is ∙ shared.0) in
            let mine_knows = knows_there stands s knows slot r runs all in
            let its = turn_of_goes slot (track_of r s.lines) goes number (sym (mine_knows.tied.turn site image (ap (λ x. is_some (header_of_own x)) is ∙ told_one)) ∙ turn) in
            let theirs = (knows_there stands s knows other q others_run all).has_turn site image number (ap (λ x. is_some (header_of_own x)) that ∙ told_two) (ap is_own_alone that ∙ shared.1) unflat known in
            differ (one_first (slots (filter (holds_ticket number) (lines_of s.lines site image))) slot other (subst (λ ms. has_turn slot number ms ≡ true) one.line its) theirs)

    -- who makes zeros meets no flatten
    meets_no_flatten : makes_zeros (sharing_on (knows slot) site image) ≡ true → IsSome (known_header (knows slot) site image) → IsSome (known_header (knows other) site image)
        → sharing_on (knows other) site image ≢ Flatten
    meets_no_flatten zeros mine others flat =
        let together = header_together slot other differ r runs goes site image (own_of (knows slot).owns site image) (own_of (knows other).owns site image) refl refl (own_is_there (own_of (knows slot).owns site image) mine) others in
        true≢false (sym together ∙ ap (go_together (sharing_on (knows slot) site image)) flat ∙ no_flatten_beside (sharing_on (knows slot) site image) zeros)

    module _ (records : Records) (me you : Instance) where
      abbrev Leaves : (broken : Type 0) → Type 0
      Leaves broken = BreaksNothing site image records me you (knows slot) (knows other) broken

      -- what isn't there, or is zero, is known by none that is a flatten
      leaves_absent : HasItsTurn → Leaves (KnowsAbsent (knows other) site image number)
      leaves_absent at_turn free mine others gone =
          others_know_nothing at_turn mine others (λ flat. true≢false (sym ((in_turn_of other).1 site image others number gone) ∙ ap makes_zeros flat)) (inr (inl gone))

      -- and who makes zeros leaves all that is known
      leaves_known : HasItsTurn → (IsSome (known_header (knows slot) site image) → makes_zeros (sharing_on (knows slot) site image) ≡ true) → (broken : Type 0)
          → (broken → KnowsOf (knows other) site image number) → Leaves broken
      leaves_known at_turn zeros broken knows_it free mine others it = others_know_nothing at_turn mine others (meets_no_flatten (zeros mine) mine others) (knows_it it)

  module _ (slot : ℕ) (site : SiteId) (image number : ℕ) where
    -- who owns an image that it isn't alone on has its turn, where it wants one
    turn_by : (condition : Sharing → HeaderView → Type 0) → ((sharing : Sharing) (h : HeaderView) → condition sharing h → HasTurn (is_alone sharing) (knows slot).turn number) → OwnsBy (knows slot) site image condition
        → is_alone_on (knows slot) site image ≡ false → (knows slot).turn ≡ Some number
    turn_by condition wants owns shared = subst (λ alone. HasTurn alone (knows slot).turn number) (sym (ap is_own_alone owns.is) ∙ shared) (wants owns.sharing owns.header owns.meets)

    zeros_by : (condition : Sharing → HeaderView → Type 0) (owns : OwnsBy (knows slot) site image condition) → makes_zeros owns.sharing ≡ true → makes_zeros (sharing_on (knows slot) site image) ≡ true
    zeros_by condition owns zeros = ap (λ o. makes_zeros (sharing_of_own o)) owns.is ∙ zeros

  module _ (slot other : ℕ) (differ : slot ≢ other) (r : Running R) (runs : running_at slot s ≡ Some r) (goes : waits slot (track_of r s.lines) ≡ false) (site : SiteId) (image number : ℕ)
      (records : Records) (me you : Instance) where
    at_turn : (condition : Sharing → HeaderView → Type 0) → ((sharing : Sharing) (h : HeaderView) → condition sharing h → HasTurn (is_alone sharing) (knows slot).turn number) → OwnsBy (knows slot) site image condition
        → HasItsTurn slot other differ r runs goes site image number
    at_turn condition wants owns some shared = turn_by slot site image number condition wants owns shared

    -- what makes an object, or writes it, breaks what is absent
    making : (condition : Sharing → HeaderView → Type 0) → ((sharing : Sharing) (h : HeaderView) → condition sharing h → HasTurn (is_alone sharing) (knows slot).turn number) → OwnsBy (knows slot) site image condition
        → BreaksNothing site image records me you (knows slot) (knows other) (KnowsAbsent (knows other) site image number)
    making condition wants owns = leaves_absent slot other differ r runs goes site image number records me you (at_turn condition wants owns)

    -- a removal breaks what is there
    removing : (context : SnapContext) → PermitsOnObject (knows slot) site image number (object.Remove context)
        → BreaksNothing site image records me you (knows slot) (knows other) (KnowsThere (knows other) site image number)
    removing context (inl over) = λ free mine others is. true≢false (sym mine ∙ ap (λ o. is_some (header_of_own o)) over.unowned)
    removing context (inr owns) =
        leaves_known slot other differ r runs goes site image number records me you (at_turn _ (λ sharing h may. may.at_turn) owns)
        (λ some. zeros_by slot site image number _ owns owns.meets.zeros) (KnowsThere (knows other) site image number) (λ is. inr (inr is))

    -- and a state of 0 what is raised
    lowering : (state : ℕ) → OwnsBy (knows slot) site image (MaySet (objects_known_of (knows slot).objects site image) (knows slot).turn number state)
        → BreaksNothing site image records me you (knows slot) (knows other) (Lowers state (knows other) site image number)
    lowering zero owns =
        leaves_known slot other differ r runs goes site image number records me you (at_turn _ (λ sharing h may. may.at_turn) owns)
        (λ some. zeros_by slot site image number _ owns (owns.meets.zeros refl)) (KnowsRaised (knows other) site image number) (λ raised. inl raised)
    lowering (suc state) owns = λ free mine others broken. broken

  pub may_act : (slot other : ℕ) (r : Running R) (site : SiteId) (why : Reason) (o : Op) (next : Answer → Plan) → slot ≢ other → running_at slot s ≡ Some r → waits slot (track_of r s.lines) ≡ false
      → (stands r.request).plan ≡ Ask site why o next → (records : Records) (me you : Instance) → MayAct site records me you (knows slot) (knows other) o
  may_act slot other r site why o next differ runs goes asks records me you = by o permits
    where
      knows_by : KnowsBy stands slot r s.lines (knows slot)
      knows_by = knows_there stands s knows slot r runs all

      permits : Permits (knows slot) site o
      permits = (subst (IsLawful knows_by.known_at (knows slot)) asks knows_by.lawful).0

      by : (o : Op) → Permits (knows slot) site o → MayAct site records me you (knows slot) (knows other) o
      by (op.Header image header.Get) may = lock_shared slot other differ r runs goes site image records me you
      by (op.Header image header.LockDrop) may = λ lock. lock_shared slot other differ r runs goes site image records me you
      by (op.Header image o) may = tt
      by (op.Data image number (object.Read snap parts)) may = λ free mine others broken. broken
      by (op.Data image number (object.Write context must parts bytes)) may = making slot other differ r runs goes site image number records me you _ (λ sharing h may. may.at_turn) may
      by (op.Data image number (object.Zero context must parts)) may = λ free mine others broken. broken
      by (op.Data image number (object.Empty context)) may = making slot other differ r runs goes site image number records me you _ (λ sharing h may. may.at_turn) may
      by (op.Data image number (object.Remove context)) may = removing slot other differ r runs goes site image number records me you context may
      by (op.Data image number (object.WriteFull context bytes)) may = making slot other differ r runs goes site image number records me you _ (λ sharing h may. may.at_turn) may
      by (op.Data image number (object.CopyUp bytes)) may = absurd may
      by (op.Map image (states.Set None number state)) may = lowering slot other differ r runs goes site image number records me you state may
      by (op.Map image (states.Set (Some snap) number state)) may = tt
      by (op.Map image o) may = tt
      by _ may = tt
