-- One operation more keeps the writes of its instance in order.
use Rattle.std.proofs.Common.{◌≡◌, ◌≢◌, ◌⊎◌, inl, inr, ℕ, ◌==◌, ◌&&◌, ◌||◌, cond, Bool, true, false, List, [], ◌∷◌, ◌++◌, Option, Some, None, refl, sym, ap, ◌∙◌, subst}
use Rattle.std.proofs.lemmas.Bool.{true≢false, eq-eqb, eqb-true}
use Rattle.std.specs.Option.{is_some}
use Rattle.std.specs.Prelude.{IsSome}
use Rattle.std.proofs.lemmas.Option.{none-some, same_Some}
use Rattle.std.proofs.Math.Bool.{or-false, and-false}
use Rattle.rbd_flat.specs.declared.effect.Effect.{Effect}
use Rattle.rbd_kinds.specs.declared.answer.Answer.{Answer}
use Rattle.rbd_kinds.specs.declared.directory_op.DirectoryOp.TheVariants as directory
use Rattle.rbd_kinds.specs.declared.id.Instance.{Instance}
use Rattle.rbd_kinds.specs.declared.id.SiteId.{SiteId}
use Rattle.rbd_kinds.specs.declared.operation.Op.{Op}
use Rattle.rbd_kinds.specs.declared.operation.Op.TheVariants as op
use Rattle.rbd_kinds.specs.declared.reply.Reply.{Reply}
use Rattle.rbd_queue.specs.Line.{Member, ahead, comes_next, has_turn, is_member, new_member, member_of}
use Rattle.rbd_queue.proofs.Keeping.{is_found}
use Rattle.rbd_machine.specs.Knowledge.{is_at, same_site}
use Rattle.rbd_machine.specs.Path.{at_operation}
use Rattle.rbd_machine.specs.Label.{Label}
use Rattle.rbd_machine.specs.Plan.{Plan, Ask, IsAsking, Standing}
use Rattle.rbd_machine.specs.Steps.{on_id}
use Rattle.rbd_machine.specs.Wait as wait
use Rattle.rbd_machine.specs.declared.reason.Reason.{Reason}
use Rattle.rbd_catalog.specs.Profile.{changed_extent}
use Rattle.rbd_kinds.specs.declared.image_at.ImageAt.{ImageAt}
use Rattle.rbd_kinds.proofs.Images.{same_site_itself}
use Rattle.rbd_slots.specs.declared.running.Running.{Running}
use Rattle.rbd_slots.specs.Advance.{GoesFurther, track_of}
use Rattle.rbd_slots.specs.Lines.{lines_of}
use Rattle.rbd_slots.specs.OnTrack.{IsNowhereElse, IsSomewhere, LeavesOthers}
use Rattle.rbd_slots.specs.Session.{SessionView, IsSoundSession, running_at, running_in}
use Rattle.rbd_slots.specs.Track.{Track, answered_by, place_of_image, line_in, run, waited_by}
use Rattle.rbd_slots.specs.Waits.{waits}
use Rattle.rbd_slots.proofs.Consequences.{members_run_there}
use Rattle.rbd_slots.proofs.Members.{not_found}
use Rattle.rbd_world.specs.InLine.{IsPastWithout}
use Rattle.rbd_catalog.specs.InLine.{IsAtTurn, KeepsTo, LabelsKeepTo}
use Rattle.rbd_world.specs.Order.{IsBeforeFinding, IsBehindFinding, IsFirstToWrite, AreWritesInOrder, IsInTurn, IsWriterOf, KeepsOrder, finds_in, found_before, has_found, has_written, tells_image, writes_in, writes_object}
use Rattle.rbd_world.specs.Run.{Asked, Itself, Happening, Did, Operation, asked_by, steps_in, step_of}
use Rattle.rbd_world.specs.Sound.{IsDue, IsRight}
use Rattle.rbd_world.specs.Step.{AreSlotsBut}
use Rattle.rbd_world.proofs.Ahead.{ahead_last}
use Rattle.rbd_world.proofs.Changed.{same_or_other}
use Rattle.rbd_world.proofs.FoundFirst.{done_by_line, finds_nothing, found_earlier, found_has, never_itself, other_unfound, written_found, wrote_was}
use Rattle.rbd_world.proofs.InLine.{GoesOn, answer_goes}
use Rattle.rbd_world.proofs.InOrder.{Came, Further, Ended, LooksUp, Told, after, looks, joins, looks_up, others_ahead, told_it, turn_tells_none, up_writes_none, writes_at_turn}
use Rattle.rbd_world.proofs.KeptAhead.{member_left_alone}
use Rattle.rbd_world.proofs.Orderly.{comes_still, written_before}
use Rattle.rbd_world.proofs.Turned.{HasTicket, earlier_past, ticket_of, turn_of}
use Rattle.rbd_catalog.proofs.InLine.{look_keeps}

-- ---- a session that is in order

module _ {R : Type 0} (stands : R → Standing) (c : SessionView R) (sound : IsSoundSession stands c) where
  -- it is a member of its line
  pub record IsInItsLine (x : ℕ) (s : SiteId) (image : ℕ) : Type 0 where
    pub member : Member
    pub found : member_of x (lines_of c.lines s image) ≡ Some member
    pub is : is_member x (lines_of c.lines s image) ≡ true

  pub in_its_line : (x : ℕ) (q : Running R) → running_at x c ≡ Some q → (s : SiteId) (image : ℕ) → q.place ≡ Some (place_of_image s image) → IsInItsLine x s image
  in_its_line x q runs s image place = by (sound.runs x q runs).somewhere
    where
      by : IsSomewhere x (track_of q c.lines) → IsInItsLine x s image
      by (inl nowhere) = absurd (none-some (place_of_image s image) (sym nowhere ∙ place))
      by (inr (p, m, there)) =
          let same = same_Some p (place_of_image s image) (sym there.place ∙ place) in
          let found : member_of x (lines_of c.lines s image) ≡ Some m = subst (λ (v : ImageAt). member_of x (lines_of c.lines v.site v.image) ≡ Some m) same there.member in
          record { member = m; found = found; is = sym (is_found x (lines_of c.lines s image)) ∙ ap is_some found }

  -- who is in no line is no member
  pub in_no_line : (x : ℕ) (q : Running R) → running_at x c ≡ Some q → q.place ≡ None → (s : SiteId) (image : ℕ) → is_member x (lines_of c.lines s image) ≡ false
  in_no_line x q runs nowhere s image =
      not_found x (lines_of c.lines s image) ((subst (λ p. IsNowhereElse x p (lines_of c.lines)) nowhere (sound.runs x q runs).elsewhere) s image refl)

-- ---- the operation of a slot is done

module _ {R : Type 0} (stands : R → Standing) (homes : ℕ → SiteId) (home : SiteId) (who : Instance) (slot : ℕ) (rn : List Happening) (c d : SessionView R) (r : Running R)
    (runs : running_at slot c ≡ Some r) (sound : IsSoundSession stands c) (goes : waits slot (track_of r c.lines) ≡ false)
    (s : SiteId) (why : Reason) (o : Op) (next : Answer → Plan) (asks : (stands r.request).plan ≡ Ask s why o next) (a : Answer) (result : Option Reply)
    (number : ℕ) (effect : Option Effect) (order : KeepsOrder rn) (old : AreWritesInOrder stands home who rn c) where
  abbrev done : Operation
  done = record { by = Itself r.line; instance = who; site = s; number = number; op = o; answer = a; effect = effect }

  abbrev does : Happening
  does = Did done result

  -- ---- a write that hasn't found its image looks it up

  up : IsBeforeFinding stands home rn r → LooksUp home s o next (stands r.request).labels
  up b = looks_up home s why o next (stands r.request) asks b.changes

  -- ---- one that has found it writes at its turn

  module _ (b : IsBehindFinding stands rn r) where
    keeps_here : IsAtTurn b.site b.image r.turn s o × ((answer : Answer) → KeepsTo b.site b.image b.turn_at r.turn (next answer))
    keeps_here = subst (KeepsTo b.site b.image b.turn_at r.turn) asks b.keeps

    finds_none : (line : ℕ) (t : SiteId) (i : ℕ) → finds_in line t i does ≡ false
    finds_none line t i =
        ap (λ f. (r.line == line) && (same_site s t && f)) (turn_tells_none b.site b.image r.turn s o a keeps_here.0 i)
        ∙ ap (λ f. (r.line == line) && f) (and-false (same_site s t)) ∙ and-false (r.line == line)

    ticket : (n : ℕ) → r.turn ≡ Some n → HasTicket slot n (lines_of c.lines b.site b.image)
    ticket n turn =
        ticket_of slot n (lines_of c.lines b.site b.image)
        (subst (λ p. comes_next slot n (line_in p (lines_of c.lines)) ≡ true) b.place ((sound.runs slot r runs).turns n turn))

    turn_there : (n : ℕ) → r.turn ≡ Some n → has_turn slot n (lines_of c.lines b.site b.image) ≡ true
    turn_there n turn = subst (λ p. has_turn slot n (line_in p (lines_of c.lines)) ≡ true) b.place (turn_of slot n (track_of r c.lines) turn goes)

    -- so nobody that found it later has written the object before
    first_here : IsSome r.extent → (n : ℕ) → r.turn ≡ Some n → (other : ℕ) → IsWriterOf who other rn → found_before r.line other b.site b.image rn ≡ true
        → has_written other b.site b.image n rn ≡ false
    first_here writes n turn other writer earlier = by (has_written other b.site b.image n rn) refl
      where
        by : (w : Bool) → has_written other b.site b.image n rn ≡ w → has_written other b.site b.image n rn ≡ false
        by false is = is
        by true is =
            let t = ticket n turn in
            absurd (true≢false (sym t.has ∙ (old.past slot r runs writes other writer b.site b.image n earlier is t.member t.found).1))

  -- ---- the run keeps its order

  module _ (mine : (asked : Asked) → asked_by r.line rn ≡ Some asked → asked.who ≡ who) where
    writes_of : (i : Instance) → IsWriterOf i r.line rn → IsSome r.extent
    writes_of i w = subst IsSome (sym (old.extents slot r runs w.asked w.is)) w.writes

    first_of : (i n : ℕ) → IsSome r.extent → writes_object i n o ≡ true → IsFirstToWrite who r.line s i n rn
    first_of i n writes is = by (old.comes slot r runs writes)
      where
        by : (IsBeforeFinding stands home rn r) ⊎ (IsBehindFinding stands rn r) → IsFirstToWrite who r.line s i n rn
        by (inl b) = absurd (true≢false (sym is ∙ up_writes_none home s o next (stands r.request).labels (up b) i n))
        by (inr b) =
            let w = writes_at_turn b.site b.image r.turn s o (keeps_here b).0 i n is in
            subst (λ t. IsFirstToWrite who r.line t i n rn) (sym w.site_is)
            (subst (λ j. IsFirstToWrite who r.line b.site j n rn) (sym w.image_is)
            (record { found = b.found; first = first_here b writes n w.turn_is }))

    pub in_turn : IsInTurn does rn
    in_turn other line i n own writer is =
        let same : r.line ≡ line = eqb-true r.line line own in
        let here : IsWriterOf other r.line rn = subst (λ l. IsWriterOf other l rn) (sym same) writer in
        subst (λ l. IsFirstToWrite other l s i n rn) same
        (subst (λ m. IsFirstToWrite m r.line s i n rn) (sym (mine here.asked here.is) ∙ here.mine) (first_of i n (writes_of other here) is))

  -- ---- who stands where then

  module _ (leaves : LeavesOthers slot (lines_of c.lines) (lines_of d.lines)) (slots : AreSlotsBut slot c d)
      (apart : (x : ℕ) (q : Running R) → x ≢ slot → running_at x c ≡ Some q → (r.line == q.line) ≡ false)
      (due : IsDue homes does rn) (right : IsRight homes rn) (came : Came stands slot c d r s why o next a result asks) where
    abbrev there : Track
    there = after stands slot c d r s why o next a result asks

    abbrev labels : Label → Plan
    labels = (stands r.request).labels

    abbrev IsFurther : Running R → Type 0
    IsFurther q = GoesFurther stands slot (record { labels = labels; plan = at_operation labels (next a) }) there result r q d.lines

    -- a request that runs then
    data Where (x : ℕ) (q : Running R) : Type 0 where
      Other : x ≢ slot → running_at x c ≡ Some q → Where x q
      Here : x ≡ slot → IsFurther q → Where x q

    where_is : (x : ℕ) (q : Running R) → running_at x d ≡ Some q → Where x q
    where_is x q is = by (same_or_other x slot)
      where
        here : x ≡ slot → Came stands slot c d r s why o next a result asks → Where x q
        here same (Further p at further) = Here same (subst IsFurther (same_Some p q (sym at ∙ ap (λ i. running_at i d) (sym same) ∙ is)) further)
        here same (Ended none left) = absurd (none-some q (sym none ∙ ap (λ i. running_at i d) (sym same) ∙ is))

        by : (x ≡ slot) ⊎ (x ≢ slot) → Where x q
        by (inl same) = here same came
        by (inr differ) = Other differ (sym (ap running_in (slots x differ)) ∙ is)

    silent : (x : ℕ) (q : Running R) → x ≢ slot → running_at x c ≡ Some q → steps_in q.line does ≡ []
    silent x q differ is = ap (λ b. cond b (step_of done ∷ []) []) (apart x q differ is)

    lines_then : (q : Running R) → IsFurther q → lines_of d.lines ≡ there.lines
    lines_then q further = ap (λ (t : Track). t.lines) further.track

    others_same : (x n : ℕ) → x ≢ slot → (t : SiteId) (i : ℕ) → IsPastWithout x n (lines_of c.lines t i) → IsPastWithout x n (lines_of d.lines t i)
    others_same x n differ t i is m found = is m (sym (leaves x differ t i) ∙ found)

    member_was : (x : ℕ) → x ≢ slot → (t : SiteId) (i : ℕ) → is_member x (lines_of d.lines t i) ≡ true → is_member x (lines_of c.lines t i) ≡ true
    member_was x differ t i is = sym (member_left_alone x (lines_of c.lines t i) (lines_of d.lines t i) (leaves x differ t i)) ∙ is

    -- ---- its own state: behind its look-up, or told an image now

    module _ (q : Running R) (further : IsFurther q) where
      track_place : (p : ImageAt) → there.place ≡ Some p → q.place ≡ Some p
      track_place p is = ap (λ (t : Track). t.place) further.track ∙ is

      module _ (b : IsBehindFinding stands rn r) where
        goes_on : GoesOn slot (place_of_image b.site b.image) r.extent (track_of r c.lines) b.place labels b.turn_at (next a) there
        goes_on = answer_goes slot (place_of_image b.site b.image) r.extent (track_of r c.lines) b.place labels b.turn_at b.labels (next a) s o a ((keeps_here b).1 a)

        behind_then : IsBehindFinding stands (does ∷ rn) q
        behind_then = record {
          site = b.site;
          image = b.image;
          place = track_place (place_of_image b.site b.image) goes_on.place;
          found = ap (λ f. f || has_found q.line b.site b.image rn) (finds_none b q.line b.site b.image) ∙ ap (λ l. has_found l b.site b.image rn) further.line ∙ b.found;
          only = λ t i is. b.only t i (sym (ap (λ f. f || has_found q.line t i rn) (finds_none b q.line t i) ∙ ap (λ l. has_found l t i rn) further.line) ∙ is);
          turn_at = b.turn_at;
          keeps =
              subst (λ turn. KeepsTo b.site b.image b.turn_at turn (stands q.request).plan) (sym (ap (λ (t : Track). t.turn) further.track))
              (subst (λ (x : Standing). KeepsTo b.site b.image b.turn_at there.turn x.plan) (sym further.request) goes_on.keeps);
          labels = subst (λ (x : Standing). LabelsKeepTo b.site b.image b.turn_at x.labels) (sym further.request) b.labels;
        }

      module _ (b : IsBeforeFinding stands home rn r) where
        told : Told a
        told = told_it labels (joins home (up b).sharing (up b).refuses (up b).act) a (subst (λ n. IsAsking (at_operation labels (n a))) (up b).next_is further.asks)

        abbrev image : ℕ
        image = told.image

        plan_then : at_operation labels (next a) ≡ looks home (up b).refuses (up b).act image
        plan_then = ap (λ n. at_operation labels (n a)) (up b).next_is ∙ ap (λ x. at_operation labels (on_id (joins home (up b).sharing (up b).refuses (up b).act) x)) told.is

        track_then : there ≡ waited_by slot (track_of r c.lines) (wait.Join home image (up b).sharing)
        track_then =
            ap (λ w. run slot (next a) (answered_by slot r.extent (track_of r c.lines) s w a)) (up b).op_is
            ∙ ap (λ n. run slot (n a) (track_of r c.lines)) (up b).next_is
            ∙ ap (λ x. run slot (on_id (joins home (up b).sharing (up b).refuses (up b).act) x) (track_of r c.lines)) told.is

        tells : (i : ℕ) → tells_image i o a ≡ (image == i)
        tells i = ap (λ w. tells_image i w a) (up b).op_is ∙ ap (λ x. tells_image i (op.Directory (directory.Find (up b).name)) x) told.is

        finds_it : finds_in r.line home image does ≡ true
        finds_it =
            ap (λ f. f && (same_site s home && tells_image image o a)) (eq-eqb r.line r.line refl)
            ∙ ap (λ t. same_site t home && tells_image image o a) (up b).site_is ∙ ap (λ f. f && tells_image image o a) (same_site_itself home)
            ∙ tells image ∙ eq-eqb image image refl

        found_only : (t : SiteId) (i : ℕ) → has_found r.line t i (does ∷ rn) ≡ true → (t ≡ home) × (i ≡ image)
        found_only t i is =
            let now : finds_in r.line t i does ≡ true = sym (ap (λ f. finds_in r.line t i does || f) (b.unfound t i) ∙ or-false (finds_in r.line t i does)) ∙ is in
            let by = done_by_line r.line t done (tells_image i o a) now in
            (sym by.site_is ∙ (up b).site_is, sym (eqb-true image i (sym (tells i) ∙ by.so)))

        found_then : IsBehindFinding stands (does ∷ rn) q
        found_then = record {
          site = home;
          image = image;
          place = track_place (place_of_image home image) (ap (λ (t : Track). t.place) track_then);
          found = ap (λ l. has_found l home image (does ∷ rn)) further.line ∙ ap (λ f. f || has_found r.line home image rn) finds_it;
          only = λ t i is. found_only t i (sym (ap (λ l. has_found l t i (does ∷ rn)) further.line) ∙ is);
          turn_at = (up b).turn_at;
          keeps =
              subst (λ (x : Standing). KeepsTo home image (up b).turn_at q.turn x.plan) (sym further.request)
              (subst (KeepsTo home image (up b).turn_at q.turn) (sym plan_then) (look_keeps home image (up b).turn_at q.turn (up b).refuses (up b).act (up b).keeps));
          labels = subst (λ (x : Standing). LabelsKeepTo home image (up b).turn_at x.labels) (sym further.request) ((up b).labels image);
        }

      come_then : (IsBeforeFinding stands home rn r) ⊎ (IsBehindFinding stands rn r) → (IsBeforeFinding stands home (does ∷ rn) q) ⊎ (IsBehindFinding stands (does ∷ rn) q)
      come_then (inl b) = inr (found_then b)
      come_then (inr b) = inr (behind_then b)

    -- ---- who stands ahead

    in_its_place : (x : ℕ) (q : Running R) → running_at x c ≡ Some q → (t : SiteId) (i : ℕ) → has_found q.line t i rn ≡ true
        → (IsBeforeFinding stands home rn q) ⊎ (IsBehindFinding stands rn q) → IsInItsLine stands c sound x t i
    in_its_place x q is t i found (inl b) = absurd (true≢false (sym found ∙ b.unfound t i))
    in_its_place x q is t i found (inr b) =
        let at = b.only t i found in
        in_its_line stands c sound x q is t i (b.place ∙ sym (ap (λ u. Some (place_of_image u b.image)) at.0) ∙ sym (ap (λ j. Some (place_of_image t j)) at.1))

    module _ (x y : ℕ) (q p : Running R) (writes : IsSome q.extent) (other_writes : IsSome p.extent) (t : SiteId) (i : ℕ)
        (earlier : found_before q.line p.line t i (does ∷ rn) ≡ true) (member : is_member y (lines_of d.lines t i) ≡ true) where
      abbrev Ahead : Type 0
      Ahead = is_member x (ahead y (lines_of d.lines t i)) ≡ true

      both_others : x ≢ slot → running_at x c ≡ Some q → y ≢ slot → running_at y c ≡ Some p → Ahead
      both_others x_other one y_other two =
          let was = member_was y y_other t i member in
          others_ahead stands slot c d r s why o next a result asks came x y x_other y_other t i was
          (old.in_line x y q p one two writes other_writes t i (found_earlier q.line p.line t i does rn (finds_nothing q.line t i does (silent x q x_other one)) earlier) was)

      -- where it stays in its line
      ahead_stays : (z : Running R) → IsFurther z → (b : IsBehindFinding stands rn r) → (is_member y (lines_of c.lines t i) ≡ true → is_member x (ahead y (lines_of c.lines t i)) ≡ true) → Ahead
      ahead_stays z further b before_that =
          let same = (goes_on z further b).same in
          let now = lines_then z further in
          ap (λ (ls : SiteId → ℕ → List Member). is_member x (ahead y (ls t i))) now ∙ same.ahead t i x y
          ∙ before_that (sym (same.members t i y) ∙ sym (ap (λ (ls : SiteId → ℕ → List Member). is_member y (ls t i)) now) ∙ member)

      -- it is the earlier one
      own_first : x ≡ slot → IsFurther q → y ≢ slot → running_at y c ≡ Some p → (IsBeforeFinding stands home rn r) ⊎ (IsBehindFinding stands rn r) → Ahead
      own_first same further y_other two (inl b) =
          let unfound = other_unfound r.line p.line t i does rn (b.unfound t i) (sym (ap (λ l. found_before l p.line t i (does ∷ rn)) further.line) ∙ earlier) in
          absurd (not_there unfound (member_was y y_other t i member))
        where
          placed : (IsBeforeFinding stands home rn p) ⊎ (IsBehindFinding stands rn p) → p.place ≡ Some (place_of_image t i) → has_found p.line t i rn ≡ true
          placed (inl v) place = absurd (none-some (place_of_image t i) (sym v.place ∙ place))
          placed (inr v) place =
              let at = same_Some (place_of_image v.site v.image) (place_of_image t i) (sym v.place ∙ place) in
              subst (λ (w : ImageAt). has_found p.line w.site w.image rn ≡ true) at v.found

          found_one : (m : Option Member) → member_of y (lines_of c.lines t i) ≡ m → is_some m ≡ true → p.place ≡ Some (place_of_image t i)
          found_one None at is = absurd (true≢false (sym is))
          found_one (Some m) at is =
              let held = members_run_there stands c y t i m sound at in
              ap (λ (z : Running R). z.place) (same_Some p held.0 (sym two ∙ held.1)) ∙ held.2

          not_there : has_found p.line t i rn ≡ false → is_member y (lines_of c.lines t i) ≡ true → ⊥
          not_there unfound is =
              true≢false
              (sym (placed (old.comes y p two other_writes) (found_one (member_of y (lines_of c.lines t i)) refl (is_found y (lines_of c.lines t i) ∙ is)))
              ∙ unfound)
      own_first same further y_other two (inr b) =
          ahead_stays q further b (λ was.
          old.in_line x y r p (ap (λ n. running_at n c) same ∙ runs) two (subst IsSome further.extent writes) other_writes t i
          (found_earlier r.line p.line t i does rn (finds_none b r.line t i) (sym (ap (λ l. found_before l p.line t i (does ∷ rn)) further.line) ∙ earlier)) was)

      -- it is the later one
      own_later : x ≢ slot → running_at x c ≡ Some q → y ≡ slot → IsFurther p → (IsBeforeFinding stands home rn r) ⊎ (IsBehindFinding stands rn r) → Ahead
      own_later x_other one same further (inl b) =
          ap (λ n. is_member x (ahead n (lines_of d.lines t i))) same ∙ ap (λ (ls : SiteId → ℕ → List Member). is_member x (ahead slot (ls t i))) joined_lines
          ∙ by (is_at home (image p further b) t i) refl
        where
          joined_lines : lines_of d.lines ≡ (waited_by slot (track_of r c.lines) (wait.Join home (image p further b) (up b).sharing)).lines
          joined_lines = lines_then p further ∙ ap (λ (u : Track). u.lines) (track_then p further b)

          outside : is_member slot (lines_of c.lines t i) ≡ false
          outside = in_no_line stands c sound slot r runs b.place t i

          inside : is_member x (lines_of c.lines t i) ≡ true
          inside =
              let before_that = found_earlier q.line p.line t i does rn (finds_nothing q.line t i does (silent x q x_other one)) earlier in
              (in_its_place x q one t i (found_has q.line p.line t i rn before_that) (old.comes x q one writes)).is

          member_now : is_member slot (cond (is_at home (image p further b) t i) (lines_of c.lines t i ++ new_member slot (up b).sharing ∷ []) (lines_of c.lines t i)) ≡ true
          member_now =
              sym (ap (λ (ls : SiteId → ℕ → List Member). is_member slot (ls t i)) joined_lines) ∙ ap (λ n. is_member n (lines_of d.lines t i)) (sym same) ∙ member

          by : (f : Bool) → is_at home (image p further b) t i ≡ f
              → is_member x (ahead slot (cond f (lines_of c.lines t i ++ new_member slot (up b).sharing ∷ []) (lines_of c.lines t i))) ≡ true
          by true here = ap (is_member x) (ahead_last (lines_of c.lines t i) (new_member slot (up b).sharing) outside) ∙ inside
          by false other =
              absurd
              (true≢false
              (sym (sym (ap (λ f. is_member slot (cond f (lines_of c.lines t i ++ new_member slot (up b).sharing ∷ []) (lines_of c.lines t i))) other) ∙ member_now) ∙ outside))
      own_later x_other one same further (inr b) =
          ahead_stays p further b (λ was.
          old.in_line x y q r one (ap (λ n. running_at n c) same ∙ runs) writes (subst IsSome further.extent other_writes) t i
          (found_earlier q.line r.line t i does rn (finds_nothing q.line t i does (silent x q x_other one)) (sym (ap (λ l. found_before q.line l t i (does ∷ rn)) further.line) ∙ earlier)) was)

      ahead_then : Where x q → Where y p → Ahead
      ahead_then (Other x_other one) (Other y_other two) = both_others x_other one y_other two
      ahead_then (Here same further) (Other y_other two) = own_first same further y_other two (old.comes slot r runs (subst IsSome further.extent writes))
      ahead_then (Other x_other one) (Here same further) = own_later x_other one same further (old.comes slot r runs (subst IsSome further.extent other_writes))
      ahead_then (Here same further) (Here also again) =
          absurd
          (never_itself r.line t i (does ∷ rn)
          (sym (ap (λ l. found_before l p.line t i (does ∷ rn)) further.line ∙ ap (λ l. found_before r.line l t i (does ∷ rn)) again.line) ∙ earlier))

    -- ---- who has no ticket any more

    module _ (x : ℕ) (q : Running R) (writes : IsSome q.extent) (other : ℕ) (writer : IsWriterOf who other (does ∷ rn)) (t : SiteId) (i n : ℕ)
        (earlier : found_before q.line other t i (does ∷ rn) ≡ true) where
      -- it is written now
      module _ (now : writes_in other t i n does ≡ true) where
        line_is : r.line ≡ other
        line_is = eqb-true r.line other (done_by_line other t done (writes_object i n o) now).own

        own_writer : IsWriterOf who r.line rn
        own_writer = record { asked = writer.asked; is = ap (λ l. asked_by l rn) line_is ∙ writer.is; mine = writer.mine; writes = writer.writes }

        own_writes : IsSome r.extent
        own_writes = subst IsSome (sym (old.extents slot r runs own_writer.asked own_writer.is)) own_writer.writes

        earlier_one : x ≢ slot → running_at x c ≡ Some q → (IsBeforeFinding stands home rn r) ⊎ (IsBehindFinding stands rn r) → IsPastWithout x n (lines_of c.lines t i)
        earlier_one differ is (inl b) = absurd (true≢false (sym (done_by_line other t done (writes_object i n o) now).so ∙ up_writes_none home s o next (stands r.request).labels (up b) i n))
        earlier_one differ is (inr b) =
            let by = done_by_line other t done (writes_object i n o) now in
            let w = writes_at_turn b.site b.image r.turn s o (keeps_here b).0 i n by.so in
            let site : b.site ≡ t = sym w.site_is ∙ by.site_is in
            subst (λ v. IsPastWithout x n (lines_of c.lines v i)) site
            (subst (λ j. IsPastWithout x n (lines_of c.lines b.site j)) (sym w.image_is)
            (earlier_past slot n (lines_of c.lines b.site b.image) (sound.fair b.site b.image) (ticket b n w.turn_is) (turn_there b n w.turn_is) x
            (old.in_line x slot q r is runs writes own_writes b.site b.image
            (subst (λ v. found_before q.line r.line v b.image rn ≡ true) (sym site)
            (subst (λ j. found_before q.line r.line t j rn ≡ true) w.image_is
            (subst (λ l. found_before q.line l t i rn ≡ true) (sym line_is)
            (found_earlier q.line other t i does rn (finds_nothing q.line t i does (silent x q differ is)) earlier))))
            (in_its_line stands c sound slot r runs b.site b.image b.place).is)))

        written_now : Where x q → IsPastWithout x n (lines_of d.lines t i)
        written_now (Other differ is) = others_same x n differ t i (earlier_one differ is (old.comes slot r runs own_writes))
        written_now (Here same further) =
            absurd (never_itself other t i (does ∷ rn) (subst (λ l. found_before l other t i (does ∷ rn) ≡ true) (further.line ∙ line_is) earlier))

      -- it was written before
      module _ (written : has_written other t i n rn ≡ true) where
        was_writer : IsWriterOf who other rn
        was_writer = wrote_was homes who other t i n does rn due right writer written

        own_past : (z : Running R) → IsFurther z → found_before r.line other t i (does ∷ rn) ≡ true → IsSome r.extent → (IsBeforeFinding stands home rn r) ⊎ (IsBehindFinding stands rn r)
            → IsPastWithout slot n (lines_of d.lines t i)
        own_past z further earlier own (inl b) =
            absurd
            (true≢false
            (sym (written_found homes who other t i n rn right order was_writer written) ∙ other_unfound r.line other t i does rn (b.unfound t i) earlier))
        own_past z further earlier own (inr b) =
            let before_that = found_earlier r.line other t i does rn (finds_none b r.line t i) earlier in
            let at = b.only t i (found_has r.line other t i rn before_that) in
            let past = old.past slot r runs own other was_writer t i n before_that written in
            let mine = in_its_line stands c sound slot r runs b.site b.image b.place in
            subst (λ (ls : SiteId → ℕ → List Member). IsPastWithout slot n (ls t i)) (sym (lines_then z further))
            (subst (λ v. IsPastWithout slot n (there.lines v i)) (sym at.0)
            (subst (λ j. IsPastWithout slot n (there.lines b.site j)) (sym at.1)
            ((goes_on z further b).without refl mine.member mine.found n
            (subst (λ j. IsPastWithout slot n (lines_of c.lines b.site j)) at.1 (subst (λ v. IsPastWithout slot n (lines_of c.lines v i)) at.0 past)))))

        written_then : Where x q → IsPastWithout x n (lines_of d.lines t i)
        written_then (Other differ is) =
            others_same x n differ t i
            (old.past x q is writes other was_writer t i n (found_earlier q.line other t i does rn (finds_nothing q.line t i does (silent x q differ is)) earlier) written)
        written_then (Here same further) =
            let own = subst IsSome further.extent writes in
            subst (λ z. IsPastWithout z n (lines_of d.lines t i)) (sym same)
            (own_past q further (subst (λ l. found_before l other t i (does ∷ rn) ≡ true) further.line earlier) own (old.comes slot r runs own))

      past_then : Where x q → has_written other t i n (does ∷ rn) ≡ true → IsPastWithout x n (lines_of d.lines t i)
      past_then at written = by (writes_in other t i n does) refl
        where
          by : (w : Bool) → writes_in other t i n does ≡ w → IsPastWithout x n (lines_of d.lines t i)
          by true now = written_now now at
          by false none = written_then (written_before other t i n does rn none written) at

    -- ---- so the session is in order

    pub did_order : AreWritesInOrder stands home who (does ∷ rn) d
    did_order = record {
      extents = λ x q is asked asks. extents_then x q asked asks (where_is x q is);
      comes = λ x q is writes. comes_then x q writes (where_is x q is);
      in_line = λ x y q p is also writes other_writes t i earlier member. ahead_then x y q p writes other_writes t i earlier member (where_is x q is) (where_is y p also);
      past = λ x q is writes other writer t i n earlier written. past_then x q writes other writer t i n earlier (where_is x q is) written;
    }
      where
        extents_then : (x : ℕ) (q : Running R) (asked : Asked) → asked_by q.line rn ≡ Some asked → Where x q → q.extent ≡ changed_extent asked.command
        extents_then x q asked is (Other differ one) = old.extents x q one asked is
        extents_then x q asked is (Here same further) = further.extent ∙ old.extents slot r runs asked (sym (ap (λ l. asked_by l rn) further.line) ∙ is)

        comes_then : (x : ℕ) (q : Running R) → IsSome q.extent → Where x q → (IsBeforeFinding stands home (does ∷ rn) q) ⊎ (IsBehindFinding stands (does ∷ rn) q)
        comes_then x q writes (Other differ one) = comes_still stands home does rn q (silent x q differ one) (old.comes x q one writes)
        comes_then x q writes (Here same further) = come_then q further (old.comes slot r runs (subst IsSome further.extent writes))
