-- Whoever acts for a client may look at what it looks at, may drop the lock that it drops, and may
-- change the object that it changes, whatever the other requests of the client know, and those of
-- others.
use Rattle.std.proofs.Common.{◌≡◌, ◌≢◌, ℕ, ◌&&◌, not, cond, Bool, true, false, Option, Some, None, refl, sym, ap, ◌∙◌, subst, true≢false}
use Rattle.std.specs.Prelude.{IsSome, is_some}
use Rattle.std.specs.Option.{option_map}
use Rattle.std.proofs.lemmas.Option.{none-some, same_Some}
use Rattle.rbd_client.specs.declared.actor.Actor.{Actor}
use Rattle.rbd_client.specs.declared.actor.Actor.TheVariants as actor
use Rattle.rbd_client.specs.Actor.{actor_at, any_taken, is_at_rest, op_by, op_wanted}
use Rattle.rbd_client.specs.Client.{ClientView}
use Rattle.rbd_client.specs.Feeding.{IsAtRest}
use Rattle.rbd_client.specs.Sound.{IsOwned, IsSoundClient}
use Rattle.rbd_client.proofs.OnWay.{release_rests, released_at_zero}
use Rattle.rbd_client.proofs.Requests.{request_owns}
use Rattle.rbd_machine.specs.Course.{is_waiting, has_just_joined}
use Rattle.rbd_machine.specs.declared.stage.Stage.{Stage}
use Rattle.rbd_machine.specs.declared.stage.Stage.TheVariants as stage
use Rattle.rbd_knowledge.specs.ClientsKnowing.{known_on_way, known_to, known_to_release}
use Rattle.rbd_knowledge.specs.Truth.{IsTrueOf}
use Rattle.rbd_knowledge.proofs.HeadersOwned.{known_is_past, knows_by_lock}
use Rattle.rbd_knowledge.proofs.Permitted.{asked_at}
use Rattle.rbd_knowledge.proofs.Ways.{way_acts}
use Rattle.rbd_kinds.specs.declared.header_op.HeaderOp.TheVariants as header
use Rattle.rbd_kinds.specs.declared.map_op.MapOp.TheVariants as states
use Rattle.rbd_kinds.specs.declared.id.Instance.{Instance}
use Rattle.rbd_kinds.specs.declared.id.SiteId.{SiteId}
use Rattle.rbd_kinds.specs.declared.operation.Op.{Op}
use Rattle.rbd_kinds.specs.declared.operation.Op.TheVariants as op
use Rattle.rbd_kinds.specs.declared.operation_kind.OpKind.TheVariants as kind
use Rattle.rbd_knowledge.specs.Knowing.{AllKnow}
use Rattle.rbd_knowledge.proofs.Looking.{may_act, owner_runs}
use Rattle.rbd_knowledge.proofs.There.{IsMemberFor}
use Rattle.rbd_knowledge.proofs.Wanting.{Wants, wants}
use Rattle.rbd_queue.specs.Line.{Member, any_past, is_past, member_of}
use Rattle.rbd_kinds.specs.declared.image_at.ImageAt.{ImageAt}
use Rattle.rbd_kinds.proofs.Images.{same_site_itself}
use Rattle.rbd_machine.specs.Knowledge.{Knowledge, Own, own_of}
use Rattle.rbd_machine.specs.Plan.{Standing}
use Rattle.rbd_lock.specs.Acquire.{op_of}
use Rattle.rbd_lock.specs.Release.{release_op, release_op_at}
use Rattle.rbd_lock.specs.declared.acquire.Acquire.{Acquire}
use Rattle.rbd_lock.specs.declared.release.Release.{Release}
use Rattle.rbd_lock.specs.declared.release.Stage.{Stage as ReleaseStage}
use Rattle.rbd_lock.specs.declared.release.Stage.TheVariants as dropping
use Rattle.rbd_interference.specs.Beside.{Breaks, Lowers, MayAct}
use Rattle.rbd_interference.specs.Locks.{KnowsByLock}
use Rattle.rbd_interference.specs.Truth.{header_of_own, known_header}
use Rattle.rbd_interference.proofs.Locks.{breaks_by_lock, shares_by_lock}
use Rattle.rbd_slots.specs.declared.running.Running.{Running}
use Rattle.rbd_slots.specs.Advance.{track_of}
use Rattle.rbd_slots.specs.Lines.{lines_of}
use Rattle.rbd_slots.specs.Session.{going_in, held_in, kind_asked, look_under_lock_at, look_under_lock_in, look_under_lock_of, running_in}
use Rattle.rbd_slots.specs.Track.{place_of_image}
use Rattle.rbd_slots.specs.Waits.{waits_at}
use Rattle.rbd_slots.proofs.Consequences.{members_run_there}
use Rattle.rbd_site.specs.Records.{Records}

told_acts : (r : Records) (me you : Instance) (k j : Knowledge) (site there : SiteId) (o wanted : Op) → asked_at there wanted ≡ asked_at site o → MayAct there r me you k j wanted → MayAct site r me you k j o
told_acts r me you k j site there o wanted is may = subst (λ (p : SiteId × Op). MayAct p.0 r me you k j p.1) (same_Some (there, wanted) (site, o) is) may

-- a way may do what it does beside anybody
pub way_may_act : (r : Records) (me you : Instance) (site : SiteId) (o : Op) (a : Acquire) → asked_at a.site (op_of a) ≡ asked_at site o → (j : Knowledge) → MayAct site r me you (known_on_way a) j o
way_may_act r me you site o a is j = told_acts r me you (known_on_way a) j site a.site o (op_of a) is (way_acts a.site r me you (known_on_way a) j a)

module _ {R : Type 0} (stands : R → Standing) (c : ClientView R) (knows : ℕ → Knowledge) (sound : IsSoundClient stands c) (all : AllKnow stands knows c.session) where
  -- where an image is at rest, nobody knows its header
  at_rest_unknown : (slot : ℕ) (site : SiteId) (image : ℕ) → is_at_rest site image c ≡ true → IsSome (known_header (knows slot) site image) → ⊥
  at_rest_unknown slot site image rest some = go (any_past (lines_of c.session.lines site image)) (known_is_past stands c knows sound all slot site image some) rest
    where
      go : (b : Bool) → b ≡ true → (not b && not (any_taken site image c.slots)) ≡ true → ⊥
      go true past rest = true≢false (sym rest)
      go false past rest = true≢false (sym past)

  module _ (r : Records) (me you : Instance) where
    release_acts : (slot : ℕ) (k : Knowledge) (x : Release) → actor_at stands 0 c ≡ actor.Release x → MayAct x.site r me you k (knows slot) (release_op x)
    release_acts slot k x acts = by x.stage refl
      where
        by : (s : ReleaseStage) → x.stage ≡ s → MayAct x.site r me you k (knows slot) (release_op_at s x.image)
        by dropping.Telling is = tt
        by dropping.Dropping is = λ lock free some told.
            absurd (at_rest_unknown slot x.site x.image (subst (λ s. IsAtRest x.site (release_op_at s x.image) c) is (release_rests stands c x sound acts)) told)

    -- ---- beside the other requests of the client

    request_acts : (slot other : ℕ) (site : SiteId) (o : Op) → slot ≢ other → op_by stands slot c.session actor.Request ≡ Some (site, o) → MayAct site r me you (knows slot) (knows other) o
    request_acts slot other site o differ is =
        let w = wants stands slot c.session.lines site o (held_in slot c.session.slots) is in
        may_act stands c.session knows sound.session all slot other w.request site w.why o w.next differ (ap running_in w.is) w.goes w.plan r me you

    -- a release goes beside each of them, also the one of its own slot
    pub release_may_act : (slot : ℕ) (site : SiteId) (o : Op) (x : Release) → actor_at stands slot c ≡ actor.Release x → op_by stands slot c.session (actor.Release x) ≡ Some (site, o)
        → (other : ℕ) → MayAct site r me you (known_to_release x) (knows other) o
    release_may_act slot site o x acts is other =
        told_acts r me you (known_to_release x) (knows other) site x.site o (release_op x) is (release_acts other (known_to_release x) x (released_at_zero stands c slot x acts))

    pub acts_beside_own : (slot other : ℕ) (site : SiteId) (o : Op) → slot ≢ other → op_wanted stands slot c ≡ Some (site, o)
        → MayAct site r me you (known_to (knows slot) (actor_at stands slot c)) (knows other) o
    acts_beside_own slot other site o differ is = by (actor_at stands slot c) refl is
      where
        by : (who : Actor) → actor_at stands slot c ≡ who → op_by stands slot c.session who ≡ Some (site, o) → MayAct site r me you (known_to (knows slot) who) (knows other) o
        by actor.Nobody acts is = absurd (none-some (site, o) is)
        by actor.Request acts is = request_acts slot other site o differ is
        by (actor.Way a) acts is = way_may_act r me you site o a is (knows other)
        by (actor.Release x) acts is = release_may_act slot site o x acts is other

  -- ---- beside those of another client

  -- a request that looks at the header of an image whose lock it waited for has the lock
  stands_there : (slot : ℕ) (site : SiteId) (image : ℕ) → (w : Wants stands slot c.session.lines site (op.Header image header.Get) (held_in slot c.session.slots)) → w.request.place ≡ Some (place_of_image site image)
      → (m : Member) → member_of slot (lines_of c.session.lines site image) ≡ Some m → m.stage ≡ stage.Waiting → look_under_lock_at stands slot c.session ≡ Some (place_of_image site image)
  stands_there slot site image w place m found waiting =
      ap (λ h. look_under_lock_in stands slot c.session.lines (going_in slot h c.session.lines)) w.is
      ∙ ap (λ b. look_under_lock_in stands slot c.session.lines (cond b None (Some w.request))) w.goes
      ∙ ap (λ p. look_under_lock_of slot (kind_asked p) w.request.place c.session.lines) w.plan
      ∙ ap (λ q. look_under_lock_of slot (Some (site, kind.HeaderGet)) q c.session.lines) place
      ∙ ap (λ b. look_if (b && waits_at (option_map (λ (m : Member). m.stage) (member_of slot (lines_of c.session.lines site image))))) (same_site_itself site)
      ∙ ap (λ h. look_if (waits_at (option_map (λ (m : Member). m.stage) h))) found
      ∙ ap (λ g. look_if (is_waiting g)) waiting
    where
      look_if : Bool → Option ImageAt
      look_if b = cond b (Some (place_of_image site image)) None

  pub looks_owned : (slot : ℕ) (site : SiteId) (image : ℕ) (r : Records) (me : Instance) → IsTrueOf site r me knows c → actor_at stands slot c ≡ actor.Request → op_by stands slot c.session actor.Request ≡ Some (site, op.Header image header.Get)
      → IsSome (own_of (knows slot).owns site image) → IsOwned site image c.locks
  looks_owned slot site image records me t acts is some = by (own_of (knows slot).owns site image) refl some
    where
      w : Wants stands slot c.session.lines site (op.Header image header.Get) (held_in slot c.session.slots)
      w = wants stands slot c.session.lines site (op.Header image header.Get) (held_in slot c.session.slots) is

      placed : (m : Member) → member_of slot (lines_of c.session.lines site image) ≡ Some m → w.request.place ≡ Some (place_of_image site image)
      placed m found =
          let (q, runs, place) = members_run_there stands c.session slot site image m sound.session found in
          ap (λ (x : Running R). x.place) (same_Some w.request q (sym (ap running_in w.is) ∙ runs)) ∙ place

      of_member : (o : Own) → own_of (knows slot).owns site image ≡ Some o → IsMemberFor slot site image o (track_of w.request c.session.lines) → IsOwned site image c.locks
      of_member o owned m = go m.member.stage refl
        where
          go : (s : Stage) → m.member.stage ≡ s → IsOwned site image c.locks
          go stage.Joined at = absurd (true≢false (sym (ap has_just_joined at) ∙ m.waits))
          go stage.Past at = t.counted slot image (ap (λ x. is_some (header_of_own x)) owned ∙ m.told (ap is_past at))
          go stage.Waiting at = request_owns stands slot c sound acts (place_of_image site image) (stands_there slot site image w (placed m.member m.found) m.member m.found at)

      by : (o : Option Own) → own_of (knows slot).owns site image ≡ o → IsSome o → IsOwned site image c.locks
      by None at some = absurd (true≢false (sym some))
      by (Some o) at some = of_member o at (owner_runs stands c.session knows sound.session all slot w.request (ap running_in w.is) site image o at)

  module _ (r : Records) (me you : Instance) (j : Knowledge) (site : SiteId) (t : IsTrueOf site r me knows c) (differ : me ≢ you) (theirs : KnowsByLock site r you j) where
    request_apart : (slot : ℕ) (o : Op) → actor_at stands slot c ≡ actor.Request → op_by stands slot c.session actor.Request ≡ Some (site, o)
        → MayAct site r me you (knows slot) j o
    request_apart slot (op.Header image header.Get) acts is = λ free some told.
        shares_by_lock site r me you (knows slot) j image differ (t.locks image (looks_owned slot site image r me t acts is some)) theirs free some told
    request_apart slot (op.Header image header.LockDrop) acts is = λ lock. shares_by_lock site r me you (knows slot) j image differ (λ free. lock) theirs
    request_apart slot (op.Data image number o) acts is = breaks_by_lock site r me you (knows slot) j image (Breaks o j site image number) differ (knows_by_lock c knows slot site r me t) theirs
    request_apart slot (op.Map image (states.Set None number state)) acts is =
        breaks_by_lock site r me you (knows slot) j image (Lowers state j site image number) differ (knows_by_lock c knows slot site r me t) theirs
    request_apart slot _ acts is = tt

    release_apart : (s : ReleaseStage) (k : Knowledge) (image : ℕ) → MayAct site r me you k j (release_op_at s image)
    release_apart dropping.Telling k image = tt
    release_apart dropping.Dropping k image = λ lock. shares_by_lock site r me you k j image differ (λ free. lock) theirs

    pub acts_beside_others : (slot : ℕ) (o : Op) → op_wanted stands slot c ≡ Some (site, o)
        → MayAct site r me you (known_to (knows slot) (actor_at stands slot c)) j o
    acts_beside_others slot o is = by (actor_at stands slot c) refl is
      where
        ops : (there : SiteId) (wanted : Op) → asked_at there wanted ≡ asked_at site o → wanted ≡ o
        ops there wanted same = ap (λ (p : SiteId × Op). p.1) (same_Some (there, wanted) (site, o) same)

        by : (who : Actor) → actor_at stands slot c ≡ who → op_by stands slot c.session who ≡ Some (site, o) → MayAct site r me you (known_to (knows slot) who) j o
        by actor.Nobody acts is = absurd (none-some (site, o) is)
        by actor.Request acts is = request_apart slot o acts is
        by (actor.Way a) acts is =
            subst (MayAct site r me you (known_to (knows slot) (actor.Way a)) j) (ops a.site (op_of a) is)
            (way_acts site r me you (known_to (knows slot) (actor.Way a)) j a)
        by (actor.Release x) acts is =
            subst (MayAct site r me you (known_to_release x) j) (ops x.site (release_op x) is) (release_apart x.stage (known_to_release x) x.image)
