-- What follows for every client.
use Rattle.std.proofs.Common.{◌≡◌, ℕ, ◌==◌, ◌&&◌, ◌||◌, not, cond, Bool, true, false, List, [], ◌∷◌, Option, Some, None, refl, sym, ap, ◌∙◌, subst, true≢false}
use Rattle.std.proofs.lemmas.Bool.{and_parts, eqb-true, or_right}
use Rattle.std.specs.List.{find}
use Rattle.std.specs.Prelude.{IsTrue, IsFalse}
use Rattle.std.proofs.lemmas.Option.{none-some, same_Some}
use Rattle.rbd_client.specs.declared.actor.Actor.{Actor}
use Rattle.rbd_client.specs.declared.actor.Actor.TheVariants as actor
use Rattle.rbd_client.specs.declared.slot_state.Way.TheVariants as way
use Rattle.rbd_client.specs.Actor.{actor_at, actor_on, any_taken, due_release, is_at_rest, kind_by, kind_wanted, may_release, op_by, op_wanted, release_actor}
use Rattle.rbd_client.specs.Feeding.{DropsAtRest, IsAtRest, IsFedBy}
use Rattle.rbd_client.proofs.Owning.{ends_by, keeps_owned, relied_lasts, relies}
use Rattle.rbd_kinds.specs.declared.machine.Fed.{Fed}
use Rattle.rbd_kinds.specs.declared.operation.Op.{Op}
use Rattle.rbd_kinds.specs.declared.reply.Reply.{Reply}
use Rattle.rbd_queue.specs.Line.{any_past}
use Rattle.rbd_lock.specs.Acquire.{op_of, begun_way}
use Rattle.rbd_lock.specs.Release.{release_op}
use Rattle.rbd_client.specs.Client.{ClientView, slot_state}
use Rattle.rbd_client.specs.Laws.{DropsALock, IsHeldBack, removes_header}
use Rattle.rbd_client.specs.Sound.{IsOwned, IsSoundClient, IsTelling}
use Rattle.rbd_client.proofs.OnWay.{found_may, is_telling, release_rests, released_at_zero, way_rests}
use Rattle.rbd_commands.specs.declared.quiescing.Quiescing.TheVariants as quiescing
use Rattle.rbd_kinds.specs.declared.id.SiteId.{SiteId}
use Rattle.rbd_kinds.specs.declared.image_at.ImageAt.{ImageAt}
use Rattle.rbd_lock.specs.declared.lock_state.LockState.{LockState}
use Rattle.rbd_lock.specs.Locks.{lock_state_at}
use Rattle.rbd_kinds.specs.Images.{is_at}
use Rattle.rbd_kinds.proofs.Images.{at_itself}
use Rattle.rbd_lock.specs.Places.{is_among}
use Rattle.rbd_machine.specs.Plan.{Standing}
use Rattle.rbd_lock.specs.declared.release.Release.{Release}
use Rattle.rbd_slots.specs.Lines.{lines_of}
use Rattle.rbd_slots.specs.Session.{held_in, look_under_lock_at, running_in}
use Rattle.rbd_slots.proofs.LooksUnderLock.{at_look_under_lock}

module _ {R : Type 0} (stands : R → Standing) where
  -- ---- a lock lasts while somebody relies on it

  not_at_rest : (c : ClientView R) (site : SiteId) (image : ℕ) → is_at_rest site image c ≡ false → relies c site image ≡ true
  not_at_rest c site image is = go (any_past (lines_of c.session.lines site image)) (any_taken site image c.slots) is
    where
      go : (a b : Bool) → (not a && not b) ≡ false → (a || b) ≡ true
      go true b is = refl
      go false true is = refl
      go false false is = absurd (true≢false is)

  at_rest_where : (slot : ℕ) (c : ClientView R) (site : SiteId) (o : Op) → IsSoundClient stands c → (who : Actor) → actor_at stands slot c ≡ who → op_by stands slot c.session who ≡ Some (site, o)
      → DropsAtRest who site o c → IsAtRest site o c
  at_rest_where slot c site o sound actor.Nobody acts is rest = absurd (none-some (site, o) is)
  at_rest_where slot c site o sound actor.Request acts is rest = rest
  at_rest_where slot c site o sound (actor.Way a) acts is rest =
      subst (λ (p : SiteId × Op). IsAtRest p.0 p.1 c) (same_Some (a.site, op_of a) (site, o) is) (way_rests stands a.site a c)
  at_rest_where slot c site o sound (actor.Release r) acts is rest =
      subst (λ (p : SiteId × Op). IsAtRest p.0 p.1 c) (same_Some (r.site, release_op r) (site, o) is) (release_rests stands c r sound (released_at_zero stands c slot r acts))

  pub counted_by : (slot : ℕ) (site : SiteId) (o : Op) (f : Fed) (result : Option Reply) (c d : ClientView R) (there : SiteId) (image : ℕ) → (who : Actor) → IsFedBy stands slot site o f result c d who
      → ends_by site o f there image ≡ false → IsOwned there image c.locks → IsOwned there image d.locks
  counted_by slot site o f result c d there image actor.Nobody fed stays owned = absurd fed
  counted_by slot site o f result c d there image actor.Request fed stays owned = keeps_owned _ _ site o f c.locks d.locks fed.counts there image stays owned
  counted_by slot site o f result c d there image (actor.Way a) fed stays owned = keeps_owned quiescing.Leaves None site o f c.locks d.locks fed.counts there image stays owned
  counted_by slot site o f result c d there image (actor.Release r) fed stays owned = keeps_owned quiescing.Leaves None site o f c.locks d.locks fed.counts there image stays owned

  pub lock_lasts : (c d : ClientView R) (slot : ℕ) (site there : SiteId) (image : ℕ) (o : Op) (f : Fed) (result : Option Reply) → IsSoundClient stands c
      → op_wanted stands slot c ≡ Some (site, o) → DropsAtRest (actor_at stands slot c) site o c → IsFedBy stands slot site o f result c d (actor_at stands slot c)
      → is_at_rest there image c ≡ false → removes_header site o f there image ≡ false → IsOwned there image c.locks → IsOwned there image d.locks
  lock_lasts c d slot site there image o f result sound is rest fed relied stays owned =
      counted_by slot site o f result c d there image (actor_at stands slot c) fed
      (relied_lasts c site o f there image (at_rest_where slot c site o sound (actor_at stands slot c) refl is rest) (not_at_rest c there image relied) stays) owned

  -- ---- held back

  pub held_back : (c : ClientView R) (slot : ℕ) (p : ImageAt) → IsSoundClient stands c → look_under_lock_at stands slot c.session ≡ Some p → (slot_state slot c.slots).way ≡ way.Unbegun
      → IsHeldBack p.site p.image c.locks → kind_wanted stands slot c ≡ None
  held_back c slot p sound at unbegun held = by (slot == 0) refl
    where
      s : LockState
      s = lock_state_at p.site p.image c.locks

      nobody : actor_on (slot_state slot c.slots).way (look_under_lock_at stands slot c.session) c.locks ≡ actor.Nobody
      nobody =
          ap (λ w. actor_on w (look_under_lock_at stands slot c.session) c.locks) unbegun
          ∙ ap (λ look. actor_on way.Unbegun look c.locks) at
          ∙ ap (λ b. cond b actor.Nobody (cond s.owned actor.Request (actor.Way (begun_way p.site p.image s.watched)))) held

      none_at_zero : slot ≡ 0 → ⊥
      none_at_zero is =
          none-some (at_look_under_lock stands c.session slot p at).running
          (sym (ap running_in (ap (λ k. held_in k c.session.slots) is ∙ sound.session.zero)) ∙ (at_look_under_lock stands c.session slot p at).runs)

      by : (b : Bool) → (slot == 0) ≡ b → kind_by stands slot c.session (cond b (release_actor c.release (due_release c)) (actor_on (slot_state slot c.slots).way (look_under_lock_at stands slot c.session) c.locks)) ≡ None
      by true is = absurd (none_at_zero (eqb-true slot 0 is))
      by false is = ap (kind_by stands slot c.session) nobody

  -- ---- a release

  pub record MayBegin (c : ClientView R) (r : Release) : Type 0 where
    pub asked : IsTrue (is_among r.site r.image c.locks.asked)
    pub open_again : IsFalse (lock_state_at r.site r.image c.locks).quiesced
    pub rest : is_at_rest r.site r.image c ≡ true

  found_among : (f : ImageAt → Bool) (ps : List ImageAt) (p : ImageAt) → find f ps ≡ Some p → is_among p.site p.image ps ≡ true
  found_among f [] p is = absurd (none-some p is)
  found_among f (q ∷ ps) p is = go (f q) is (found_among f ps p)
    where
      go : (b : Bool) → cond b (Some q) (find f ps) ≡ Some p → (find f ps ≡ Some p → is_among p.site p.image ps ≡ true) → (is_at p.site p.image q.site q.image || is_among p.site p.image ps) ≡ true
      go true is rest =
          ap (λ b. b || is_among p.site p.image ps)
          (subst (λ (x : ImageAt). is_at p.site p.image x.site x.image ≡ true) (sym (same_Some q p is)) (at_itself p.site p.image))
      go false is rest = or_right (is_at p.site p.image q.site q.image) (is_among p.site p.image ps) (rest is)

  not_true : (b : Bool) → not b ≡ true → b ≡ false
  not_true true is = absurd (true≢false (sym is))
  not_true false is = refl

  abbrev release_or : Release → Actor → Release
  release_or r (actor.Release q) = q
  release_or r x = r

  abbrev is_release : Actor → Bool
  is_release (actor.Release q) = true
  is_release x = false

  pub release_begins : (c : ClientView R) (r : Release) → IsSoundClient stands c → actor_at stands 0 c ≡ actor.Release r → DropsALock r → MayBegin c r
  release_begins c r sound acts drops = by c.release (due_release c) refl sound.telling acts
    where
      by : (o : Option Release) (due : Option ImageAt) → due_release c ≡ due → IsTelling o → release_actor o due ≡ actor.Release r → MayBegin c r
      by (Some q) due at tells is =
          let same : q ≡ r = ap (release_or r) is in
          absurd (true≢false (sym (ap is_telling tells) ∙ ap (λ (x : Release). is_telling x.stage) same ∙ ap is_telling drops))
      by None (Some p) at tells is =
          let same = ap (release_or r) is in
          let parts = and_parts (not (lock_state_at p.site p.image c.locks).quiesced) (is_at_rest p.site p.image c) (found_may stands (may_release c) c.locks.asked p at) in
          subst (MayBegin c) same (record {
            asked = found_among (may_release c) c.locks.asked p at;
            open_again = not_true (lock_state_at p.site p.image c.locks).quiesced parts.0;
            rest = parts.1;
          })
      by None None at tells is = absurd (true≢false (sym (ap is_release is)))
