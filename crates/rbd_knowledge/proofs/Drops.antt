-- A request ends a lock only where nobody else of the client relies on it: it drops one where the
-- image is at rest, and removes a header where it is past its look under the lock, alone.
use Rattle.std.proofs.Common.{◌≡◌, ◌≢◌, ◌⊎◌, inl, inr, ℕ, suc, ◌==◌, ◌&&◌, ◌||◌, not, cond, Bool, true, false, List, [], ◌∷◌, Option, Some, None, refl, sym, ap, ◌∙◌, subst, true≢false}
use Rattle.std.specs.List.{list_all}
use Rattle.std.specs.Prelude.{IsSome}
use Rattle.std.proofs.lemmas.Bool.{and_parts, cases_eq, eqb-true, or_parts}
use Rattle.std.proofs.lemmas.Option.{none-some, same_Some}
use Rattle.rbd_kinds.specs.Sharing.{go_together, is_alone}
use Rattle.rbd_machine.proofs.Together.{shared_both}
use Rattle.rbd_client.specs.declared.actor.Actor.{Actor}
use Rattle.rbd_client.specs.declared.actor.Actor.TheVariants as actor
use Rattle.rbd_client.specs.declared.slot_state.SlotState.{SlotState}
use Rattle.rbd_client.specs.declared.slot_state.Way.{Way}
use Rattle.rbd_client.specs.declared.slot_state.Way.TheVariants as way
use Rattle.rbd_client.specs.Actor.{actor_at, any_taken, way_has_taken, is_at_rest, op_by, op_wanted}
use Rattle.rbd_client.specs.Client.{ClientView, slot_state}
use Rattle.rbd_client.specs.Feeding.{DropsAtRest, IsAtRest}
use Rattle.rbd_client.specs.Sound.{IsSoundClient, IsWellOnWay}
use Rattle.rbd_queue.proofs.Passing.{alone_past, found_at}
use Rattle.rbd_queue.proofs.Past.{IsPastIn, past_found}
use Rattle.rbd_client.proofs.Owning.{ends, is_end}
use Rattle.rbd_client.proofs.Requests.{look_ends_nothing}
use Rattle.rbd_machine.specs.Course.{has_just_joined, is_waiting}
use Rattle.rbd_machine.specs.declared.stage.Stage.{Stage}
use Rattle.rbd_machine.specs.declared.stage.Stage.TheVariants as stage
use Rattle.rbd_knowledge.specs.ClientsKnowing.{known_to, unlooked}
use Rattle.rbd_kinds.specs.declared.answer.Answer.{Answer}
use Rattle.rbd_kinds.specs.declared.answer.Answer.TheVariants as answer
use Rattle.rbd_kinds.specs.declared.header.HeaderView.{HeaderView}
use Rattle.rbd_kinds.specs.declared.header_op.HeaderOp.{HeaderOp}
use Rattle.rbd_kinds.specs.declared.header_op.HeaderOp.TheVariants as header
use Rattle.rbd_kinds.specs.declared.id.SiteId.{SiteId}
use Rattle.rbd_kinds.specs.declared.operation.Op.{Op}
use Rattle.rbd_kinds.specs.declared.operation.Op.TheVariants as op
use Rattle.rbd_knowledge.specs.Knowing.{AllKnow}
use Rattle.rbd_knowledge.proofs.Looking.{may_shared, owner_runs, runs_who_owns}
use Rattle.rbd_knowledge.proofs.There.{IsMemberFor, may_of}
use Rattle.rbd_knowledge.proofs.Wanting.{Wants, wants}
use Rattle.rbd_queue.specs.Line.{Member, ahead, any_past, is_let_pass, is_past, lets_pass, may_pass, member_of}
use Rattle.rbd_kinds.specs.declared.image_at.ImageAt.{ImageAt}
use Rattle.rbd_kinds.specs.Images.{is_at}
use Rattle.rbd_kinds.proofs.Images.{at_itself}
use Rattle.rbd_lock.proofs.Keys.{where_same}
use Rattle.rbd_machine.specs.Knowledge.{Knowledge, Own, own_of}
use Rattle.rbd_machine.specs.Permits.{HoldsUnlooked, OwnsAlone, Permits}
use Rattle.rbd_interference.specs.Truth.{header_of_own, known_header}
use Rattle.rbd_machine.specs.Plan.{Standing}
use Rattle.rbd_slots.specs.Advance.{track_of}
use Rattle.rbd_slots.specs.Lines.{lines_of}
use Rattle.rbd_slots.specs.Session.{held_in, look_under_lock_at, running_in}
use Rattle.rbd_slots.specs.Track.{Track, course_of, line_in}
use Rattle.rbd_slots.specs.Waits.{awaits_line, awaits_turn, awaits_look, waits}
use Rattle.rbd_slots.proofs.Members.{at_own_slot}
use Rattle.rbd_slots.proofs.LooksUnderLock.{at_look_under_lock}

-- ---- in one line

-- One that is alone and may pass is the first. Behind it nobody may, until it is past its look
-- under the lock.
pub alone_goes_first : (line : List Member) (slot other : ℕ) (m n : Member) → slot ≢ other → member_of slot line ≡ Some m → member_of other line ≡ Some n → is_alone m.sharing ≡ true → is_past m.stage ≡ false
    → may_pass slot line ≡ true → may_pass other line ≡ true → ⊥
alone_goes_first [] slot other m n differ here there alone waits may also = none-some m here
alone_goes_first (x ∷ line) slot other m n differ here there alone waits may also = by (x.slot == slot) refl
  where
    -- it would have to let pass whoever is ahead of it
    behind_one : (b : Bool) → (x.slot == slot) ≡ b → b ≡ false → ⊥
    behind_one b is none =
        let lets =
        (and_parts (lets_pass m.sharing x) (list_all (lets_pass m.sharing) (ahead slot line))
        (sym (ap (λ o. is_let_pass o (ahead slot (x ∷ line))) here ∙ ap (λ c. is_let_pass (Some m) (cond c [] (x ∷ ahead slot line))) (is ∙ none)) ∙ may)).0 in
        true≢false (sym alone ∙ (shared_both x.sharing m.sharing (and_parts (is_past x.stage) (go_together x.sharing m.sharing) lets).1).1)

    first : x ≡ m → (x.slot == other) ≡ false → ⊥
    first same apart =
        let lets =
        (and_parts (lets_pass n.sharing x) (list_all (lets_pass n.sharing) (ahead other line))
        (sym (ap (λ o. is_let_pass o (ahead other (x ∷ line))) there ∙ ap (λ c. is_let_pass (Some n) (cond c [] (x ∷ ahead other line))) apart) ∙ also)).0 in
        true≢false (sym (and_parts (is_past x.stage) (go_together x.sharing n.sharing) lets).0 ∙ ap (λ (y : Member). is_past y.stage) same ∙ waits)

    by : (b : Bool) → (x.slot == slot) ≡ b → ⊥
    by false is = behind_one false is refl
    by true is = go (x.slot == other) refl
      where
        found : x ≡ m
        found = same_Some x m (sym (ap (λ c. cond c (Some x) (member_of slot line)) is) ∙ here)

        go : (b : Bool) → (x.slot == other) ≡ b → ⊥
        go true also_is = differ (sym (eqb-true x.slot slot is) ∙ eqb-true x.slot other also_is)
        go false apart = first found apart

-- ---- who has taken a lock

record HasTaken (site : SiteId) (image : ℕ) (slots : List SlotState) : Type 0 where
  pub slot : ℕ
  pub place : ImageAt
  pub way : (slot_state slot slots).way ≡ way.Taken place
  pub same : is_at site image place.site place.image ≡ true

taken_found : (site : SiteId) (image : ℕ) (slots : List SlotState) → any_taken site image slots ≡ true → HasTaken site image slots
taken_found site image [] any = absurd (true≢false (sym any))
taken_found site image (s ∷ slots) any = by s.way refl any (taken_found site image slots)
  where
    later : HasTaken site image slots → HasTaken site image (s ∷ slots)
    later t = record { slot = suc t.slot; place = t.place; way = t.way; same = t.same }

    here : (p : ImageAt) → s.way ≡ way.Taken p → (b : Bool) → is_at site image p.site p.image ≡ b → (b || any_taken site image slots) ≡ true
        → (any_taken site image slots ≡ true → HasTaken site image slots) → HasTaken site image (s ∷ slots)
    here p at true same any rest = record { slot = 0; place = p; way = at; same = same }
    here p at false same any rest = later (rest any)

    by : (w : Way) → s.way ≡ w → (way_has_taken site image w || any_taken site image slots) ≡ true → (any_taken site image slots ≡ true → HasTaken site image slots) → HasTaken site image (s ∷ slots)
    by (way.Taken p) at any rest = here p at (is_at site image p.site p.image) refl any rest
    by way.Unbegun at any rest = later (rest any)
    by (way.On a) at any rest = later (rest any)

-- ---- nobody has taken a lock that ends

module _ {R : Type 0} (stands : R → Standing) (c : ClientView R) (sound : IsSoundClient stands c) (slot : ℕ) (site : SiteId) (image : ℕ) (o : HeaderOp) (a : Answer) (ended : is_end o a ≡ true)
    (wanted : op_by stands slot c.session actor.Request ≡ Some (site, op.Header image o))
    (nobody : (other : ℕ) (n : Member) → slot ≢ other → member_of other (lines_of c.session.lines site image) ≡ Some n → may_pass other (lines_of c.session.lines site image) ≡ true → ⊥) where
  nobody_taken : (b : Bool) → any_taken site image c.slots ≡ b → b ≡ false
  nobody_taken false is = refl
  nobody_taken true is = absurd (by (taken_found site image c.slots is))
    where
      by : HasTaken site image c.slots → ⊥
      by t = go (cases_eq slot t.slot)
        where
          there : ImageAt
          there = record { site = t.place.site; image = t.place.image }

          well : IsWellOnWay stands t.slot (way.Taken t.place) c.session c.locks
          well = subst (λ w. IsWellOnWay stands t.slot w c.session c.locks) t.way (sound.ways t.slot)

          ends_it : ends site (op.Header image o) a site image ≡ true
          ends_it = ap (λ b. b && is_at site image site image) ended ∙ at_itself site image

          go : (slot ≡ t.slot) ⊎ (slot ≢ t.slot) → ⊥
          go (inl same) =
              true≢false (sym ends_it
              ∙ look_ends_nothing stands slot site (op.Header image o) c.session there
              (subst (λ n. look_under_lock_at stands n c.session ≡ Some there) (sym same) well.0.at_look) wanted a site image)
          go (inr differ) =
              let look = at_look_under_lock stands c.session t.slot there well.0.at_look in
              where_same (λ s i. (n : Member) → member_of t.slot (lines_of c.session.lines s i) ≡ Some n → may_pass t.slot (lines_of c.session.lines s i) ≡ true → ⊥)
              site image t.place.site t.place.image t.same
              (λ n found may_also. nobody t.slot n differ found may_also)
              look.member look.found look.may

  pub none_taken : any_taken site image c.slots ≡ false
  none_taken = nobody_taken (any_taken site image c.slots) refl

-- ---- a drop

module _ {R : Type 0} (stands : R → Standing) (c : ClientView R) (knows : ℕ → Knowledge) (sound : IsSoundClient stands c) (all : AllKnow stands knows c.session)
    (slot : ℕ) (site : SiteId) (image : ℕ) (wanted : op_by stands slot c.session actor.Request ≡ Some (site, op.Header image header.LockDrop)) (holds : HoldsUnlooked (knows slot) site image) where
  pub wanting : Wants stands slot c.session.lines site (op.Header image header.LockDrop) (held_in slot c.session.slots)
  wanting = wants stands slot c.session.lines site (op.Header image header.LockDrop) (held_in slot c.session.slots) wanted

  abbrev track : Track
  track = track_of wanting.request c.session.lines

  abbrev line : List Member
  line = lines_of c.session.lines site image

  -- it waits in the image's line, alone
  pub membership : IsMemberFor slot site image (unlooked site image) track
  membership = owner_runs stands c.session knows sound.session all slot wanting.request (ap running_in wanting.is) site image (unlooked site image) holds.is

  pub waiting : membership.member.stage ≡ stage.Waiting
  waiting = by membership.member.stage refl
    where
      by : (s : Stage) → membership.member.stage ≡ s → s ≡ stage.Waiting
      by stage.Joined is = absurd (true≢false (sym (ap has_just_joined is) ∙ membership.waits))
      by stage.Waiting is = refl
      by stage.Past is = absurd (true≢false (sym (membership.told (ap is_past is))))

  pub may : may_pass slot line ≡ true
  may =
      sym (ap (may_pass slot) membership.line)
      ∙ may_of (awaits_look (course_of slot track).place) (may_pass slot (line_in track.place track.lines)) (ap awaits_look membership.place ∙ ap is_waiting waiting)
      (or_parts (awaits_line slot track) (awaits_turn slot track) wanting.goes).0

  nobody_past : (b : Bool) → any_past line ≡ b → b ≡ false
  nobody_past false is = refl
  nobody_past true is = absurd (by (past_found line (sound.session.fair site image).apart is))
    where
      by : IsPastIn line → ⊥
      by p = go (cases_eq p.member.slot slot)
        where
          go : (p.member.slot ≡ slot) ⊎ (p.member.slot ≢ slot) → ⊥
          go (inl same) =
              let one = same_Some membership.member p.member (sym membership.found ∙ sym (ap (λ n. member_of n line) same) ∙ p.found) in
              true≢false (sym p.past ∙ sym (ap (λ (x : Member). is_past x.stage) one) ∙ ap is_past waiting)
          go (inr differ) =
              true≢false (ap is_alone membership.sharing ∙ (may_shared line slot p.member.slot membership.member p.member (sound.session.fair site image) (λ same. differ (sym same)) membership.found p.found may p.past).0)

  pub rests : is_at_rest site image c ≡ true
  rests =
      ap (λ a. not a && not (any_taken site image c.slots)) (nobody_past (any_past line) refl)
      ∙ ap not (none_taken stands c sound slot site image header.LockDrop answer.Done refl wanted
      (λ other n differ found may_also. alone_goes_first line slot other membership.member n differ membership.found found (sym (ap is_alone membership.sharing)) (ap is_past waiting) may may_also))

-- ---- the removal of a header

-- who owns an image alone, behind its look under the lock, is past it in the image's line, alone
module _ {R : Type 0} (stands : R → Standing) (c : ClientView R) (knows : ℕ → Knowledge) (sound : IsSoundClient stands c) (all : AllKnow stands knows c.session)
    (slot : ℕ) (site : SiteId) (image : ℕ) (condition : HeaderView → Type 0) (owns : OwnsAlone (knows slot) site image condition) where
  abbrev line_there : List Member
  line_there = lines_of c.session.lines site image

  record IsPastAlone : Type 0 where
    pub member : Member
    pub found : member_of slot line_there ≡ Some member
    pub alone : is_alone member.sharing ≡ true
    pub past : is_past member.stage ≡ true

  is_past_alone : IsPastAlone
  is_past_alone =
      let own : Own = record { site = site; image = image; sharing = owns.sharing; header = Some owns.header } in
      let (r, runs) = runs_who_owns stands c.session knows sound.session all slot site image own owns.is in
      let m = owner_runs stands c.session knows sound.session all slot r runs site image own owns.is in
      record { member = m.member; found = m.found; alone = ap is_alone (sym m.sharing ∙ owns.meets.0); past = m.past refl }

  -- so no other one may go past its look under the lock
  nobody_passes : (other : ℕ) (n : Member) → slot ≢ other → member_of other line_there ≡ Some n → may_pass other line_there ≡ true → ⊥
  nobody_passes other n differ found may =
      let m = is_past_alone in
      true≢false (sym m.alone ∙ (may_shared line_there other slot n m.member (sound.session.fair site image) (λ same. differ (sym same)) found m.found may m.past).1)

  -- nor knows the header
  pub nobody_knows_beside : (other : ℕ) → slot ≢ other → IsSome (known_header (knows other) site image) → ⊥
  nobody_knows_beside other differ some = by (own_of (knows other).owns site image) refl some
    where
      by : (o : Option Own) → own_of (knows other).owns site image ≡ o → IsSome (header_of_own o) → ⊥
      by None is some = true≢false (sym some)
      by (Some o) is some =
          let (r, runs) = runs_who_owns stands c.session knows sound.session all other site image o is in
          let n = owner_runs stands c.session knows sound.session all other r runs site image o is in
          let m = is_past_alone in
          true≢false (sym (n.past some)
          ∙ alone_past line_there m.member n.member (sound.session.fair site image) (at_own_slot slot line_there m.member m.found) (at_own_slot other line_there n.member n.found)
          (λ same. differ (sym (found_at line_there slot m.member m.found) ∙ same ∙ found_at line_there other n.member n.found)) m.alone m.past)

  pub none_taken_beside : op_by stands slot c.session actor.Request ≡ Some (site, op.Header image header.Remove) → any_taken site image c.slots ≡ false
  none_taken_beside wanted = none_taken stands c sound slot site image header.Remove answer.Done refl wanted nobody_passes

module _ {R : Type 0} (stands : R → Standing) (c : ClientView R) (knows : ℕ → Knowledge) (sound : IsSoundClient stands c) (all : AllKnow stands knows c.session) where
  request_rests : (slot : ℕ) (site : SiteId) (o : Op) → op_by stands slot c.session actor.Request ≡ Some (site, o) → Permits (knows slot) site o → IsAtRest site o c
  request_rests slot site (op.Header image header.LockDrop) wanted permits = rests stands c knows sound all slot site image wanted permits
  request_rests slot site (op.Header image header.Remove) wanted permits = none_taken_beside stands c knows sound all slot site image _ permits wanted
  request_rests slot site _ wanted permits = tt

  pub drops_rest : (slot : ℕ) (site : SiteId) (o : Op) → op_wanted stands slot c ≡ Some (site, o) → Permits (known_to (knows slot) (actor_at stands slot c)) site o
      → DropsAtRest (actor_at stands slot c) site o c
  drops_rest slot site o wanted permits = by (actor_at stands slot c) wanted permits
    where
      by : (who : Actor) → op_by stands slot c.session who ≡ Some (site, o) → Permits (known_to (knows slot) who) site o → DropsAtRest who site o c
      by actor.Nobody wanted permits = tt
      by actor.Request wanted permits = request_rests slot site o wanted permits
      by (actor.Way a) wanted permits = tt
      by (actor.Release x) wanted permits = tt
