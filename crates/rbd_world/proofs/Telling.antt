-- A house tells that it let a lock go only behind its own drop of it.
use Rattle.std.proofs.Common.{◌≡◌, ℕ, ◌&&◌, ◌||◌, Bool, true, false, List, [], ◌∷◌, ◌++◌, Option, Some, None, refl, sym, ap, ◌∙◌, subst}
use Rattle.std.specs.List.{list_any}
use Rattle.std.proofs.lemmas.Bool.{true≢false, and_parts, or_parts}
use Rattle.std.proofs.lemmas.Option.{none-some, same_Some}
use Rattle.rbd_kinds.specs.declared.answer.Answer.{Answer}
use Rattle.rbd_kinds.specs.declared.answer.Answer.TheVariants as answer
use Rattle.rbd_kinds.specs.declared.header_op.HeaderOp.TheVariants as header
use Rattle.rbd_kinds.specs.declared.id.Instance.{Instance}
use Rattle.rbd_kinds.specs.declared.id.SiteId.{SiteId}
use Rattle.rbd_kinds.specs.declared.operation.Op.{Op}
use Rattle.rbd_kinds.specs.declared.operation.Op.TheVariants as op
use Rattle.rbd_kinds.specs.declared.reply.Reply.{Reply}
use Rattle.rbd_kinds.specs.Instances.{same_instance}
use Rattle.rbd_kinds.proofs.Instances.{same_instance_is, same_instance_itself}
use Rattle.rbd_lock.specs.Release.{release_op_at}
use Rattle.rbd_lock.specs.Steps.{lock_drop, released_lock}
use Rattle.rbd_lock.specs.declared.release.Release.{Release}
use Rattle.rbd_lock.specs.declared.release.Stage.TheVariants as stage
use Rattle.rbd_world.specs.LetGo.{HasDropped, is_house, left_by, moves_house, release_left, release_of}
use Rattle.rbd_world.specs.Run.{Doer, Itself, OnWay, House, AfterStop, Happening, Nothing, Waited, Began, Did, Refused, Trimmed, Expired, Heard, Stopped, Restarted, Operation}
use Rattle.rbd_world.specs.Sound.{IsNextOf, IsRight}
use Rattle.rbd_world.specs.Ways.{IsNextOfRelease}
use Rattle.rbd_world.proofs.LetGo.{moved_releases, still_releases}
use Rattle.rbd_world.proofs.Runs.{done_of}

abbrev is_drop : Op → Bool
is_drop (op.Header image header.LockDrop) = true
is_drop o = false

abbrev image_of : Op → ℕ
image_of (op.Header image o) = image
image_of o = 0

tells_no_drop : (told dropped : ℕ) → released_lock told ≡ lock_drop dropped → ⊥
tells_no_drop told dropped is = true≢false (sym (ap is_drop is))

house_is : (by : Doer) → is_house by ≡ true → by ≡ House
house_is House is = refl
house_is (Itself line) is = absurd (true≢false (sym is))
house_is (OnWay line) is = absurd (true≢false (sym is))
house_is (AfterStop slot) is = absurd (true≢false (sym is))

-- ---- a release that is under way, by the run

-- what an operation is that leaves one
record LeavesIt (s : SiteId) (o : Op) (a : Answer) (r : Release) : Type 0 where
  there : s ≡ r.site
  drops : o ≡ lock_drop r.image
  done : a ≡ answer.Done
  tells : r.stage ≡ stage.Telling

leaves_it : (s : SiteId) (o : Op) (a : Answer) (r : Release) → release_left s o a ≡ Some r → LeavesIt s o a r
leaves_it s (op.Header image header.LockDrop) answer.Done r is =
    let same : record { site = s; image = image; stage = stage.Telling } ≡ r = same_Some _ r is in
    record {
      there = ap (λ (q : Release). q.site) same;
      drops = ap (λ (q : Release). lock_drop q.image) same;
      done = refl;
      tells = ap (λ (q : Release). q.stage) (sym same);
    }
leaves_it s (op.Header image header.LockDrop) a r is = absurd (none-some r is)
leaves_it s (op.Header image o) a r is = absurd (none-some r is)
leaves_it s o a r is = absurd (none-some r is)

-- it is behind its house's own drop, and tells next
record IsBehindDrop (who : Instance) (r : Release) (run : List Happening) : Type 0 where
  dropped : HasDropped who r.site r.image run
  tells : r.stage ≡ stage.Telling

left_behind : (who : Instance) (h : Happening) (run : List Happening) (r : Release) → moves_house who h ≡ true → left_by h ≡ Some r → IsBehindDrop who r (h ∷ run)
left_behind who (Did o reply) run r moves is =
    let left = leaves_it o.site o.op o.answer r is in
    let mine = and_parts (is_house o.by) (same_instance o.instance who) moves in
    record {
      dropped = record {
        drop = o;
        reply = reply;
        before = run;
        since = [];
        is = refl;
        by = house_is o.by mine.0;
        whose = same_instance_is o.instance who mine.1;
        there = left.there;
        drops = left.drops;
        done = left.done;
        nothing = refl;
      };
      tells = left.tells;
    }
left_behind who Nothing run r moves is = absurd (none-some r is)
left_behind who Waited run r moves is = absurd (none-some r is)
left_behind who (Began asked slot) run r moves is = absurd (none-some r is)
left_behind who (Refused s line reply) run r moves is = absurd (none-some r is)
left_behind who (Trimmed s number image object) run r moves is = absurd (none-some r is)
left_behind who (Expired s number image other) run r moves is = absurd (none-some r is)
left_behind who (Heard notice) run r moves is = absurd (none-some r is)
left_behind who (Stopped other wanted lost) run r moves is = absurd (none-some r is)
left_behind who (Restarted other) run r moves is = absurd (none-some r is)

later : (who : Instance) (s : SiteId) (image : ℕ) (h : Happening) (run : List Happening) → moves_house who h ≡ false → HasDropped who s image run → HasDropped who s image (h ∷ run)
later who s image h run still dropped = record {
  drop = dropped.drop;
  reply = dropped.reply;
  before = dropped.before;
  since = h ∷ dropped.since;
  is = ap (λ hs. h ∷ hs) dropped.is;
  by = dropped.by;
  whose = dropped.whose;
  there = dropped.there;
  drops = dropped.drops;
  done = dropped.done;
  nothing = ap (λ b. b || list_any (moves_house who) dropped.since) still ∙ dropped.nothing;
}

behind_drop : (who : Instance) (run : List Happening) (r : Release) → release_of who run ≡ Some r → IsBehindDrop who r run
behind_drop who [] r is = absurd (none-some r is)
behind_drop who (h ∷ run) r is = by (moves_house who h) refl (behind_drop who run r)
  where
    by : (b : Bool) → moves_house who h ≡ b → (release_of who run ≡ Some r → IsBehindDrop who r run) → IsBehindDrop who r (h ∷ run)
    by true moves rest = left_behind who h run r moves (sym (moved_releases who h run moves) ∙ is)
    by false still rest = let before = rest (sym (still_releases who h run still) ∙ is) in record { dropped = later who r.site r.image h run still before.dropped; tells = before.tells }

-- and behind such a drop one is under way
still_under_way : (who : Instance) (since rest : List Happening) → list_any (moves_house who) since ≡ false → release_of who (since ++ rest) ≡ release_of who rest
still_under_way who [] rest nothing = refl
still_under_way who (h ∷ since) rest nothing =
    let parts = or_parts (moves_house who h) (list_any (moves_house who) since) nothing in
    still_releases who h (since ++ rest) parts.0 ∙ still_under_way who since rest parts.1

under_way : (who : Instance) (s : SiteId) (image : ℕ) (run : List Happening) → HasDropped who s image run → release_of who run ≡ Some (record { site = s; image = image; stage = stage.Telling })
under_way who s image run dropped =
    ap (release_of who) dropped.is ∙ still_under_way who dropped.since (Did dropped.drop dropped.reply ∷ dropped.before) dropped.nothing
    ∙ moved_releases who (Did dropped.drop dropped.reply) dropped.before
    (ap (λ d. is_house d && same_instance dropped.drop.instance who) dropped.by ∙ ap (λ i. same_instance i who) dropped.whose ∙ same_instance_itself who)
    ∙ ap (λ t. release_left t dropped.drop.op dropped.drop.answer) dropped.there ∙ ap (λ p. release_left s p dropped.drop.answer) dropped.drops
    ∙ ap (release_left s (lock_drop image)) dropped.done

-- ---- at each place of a run

module _ (homes : ℕ → SiteId) (o : Operation) (reply : Option Reply) (run : List Happening) (right : IsRight homes (Did o reply ∷ run)) (by_house : o.by ≡ House) where
  next : IsNextOfRelease (release_of o.instance run) o.site o.op
  next = subst (λ d. IsNextOf d o.instance o.site o.op run) by_house (done_of homes o reply run right.1).next

  pub tells_behind_drop : (image : ℕ) → o.op ≡ released_lock image → HasDropped o.instance o.site image run
  tells_behind_drop image tells = by (release_of o.instance run) refl next
    where
      by : (x : Option Release) → release_of o.instance run ≡ x → IsNextOfRelease x o.site o.op → HasDropped o.instance o.site image run
      by None is drops = absurd (tells_no_drop image drops.image (sym tells ∙ drops.is))
      by (Some r) is goes_on =
          let behind = behind_drop o.instance run r is in
          let same : r.image ≡ image = ap image_of (sym (goes_on.1 ∙ ap (λ t. release_op_at t r.image) behind.tells)) ∙ ap image_of tells in
          subst (λ i. HasDropped o.instance o.site i run) same (subst (λ t. HasDropped o.instance t r.image run) (sym goes_on.0) behind.dropped)

  pub drops_none_before_it_told : (image : ℕ) → o.op ≡ lock_drop image → (s : SiteId) (other : ℕ) → HasDropped o.instance s other run → ⊥
  drops_none_before_it_told image drops s other dropped =
      let goes_on = subst (λ x. IsNextOfRelease x o.site o.op) (under_way o.instance s other run dropped) next in
      tells_no_drop other image (sym goes_on.1 ∙ drops)
