-- The release in the middle of which a house is: what leaves it as it is, what an operation of one
-- leaves, and what comes next.
use Rattle.std.proofs.Common.{◌≡◌, ◌≢◌, ℕ, ◌&&◌, inl, Bool, true, false, cond, List, ◌∷◌, Option, Some, None, refl, sym, ap, ◌∙◌, subst}
use Rattle.std.proofs.lemmas.Bool.{true≢false, and_right}
use Rattle.rbd_client.specs.declared.actor.Actor.{Actor}
use Rattle.rbd_client.specs.declared.actor.Actor.TheVariants as actor
use Rattle.rbd_client.specs.Actor.{actor_at, due_release, release_actor}
use Rattle.rbd_client.specs.Client.{ClientView}
use Rattle.rbd_client.proofs.OnWay.{is_release, released_at_zero}
use Rattle.rbd_kinds.specs.declared.answer.Answer.{Answer}
use Rattle.rbd_kinds.specs.declared.id.Instance.{Instance}
use Rattle.rbd_kinds.specs.declared.id.SiteId.{SiteId}
use Rattle.rbd_kinds.specs.declared.image_at.ImageAt.{ImageAt}
use Rattle.rbd_kinds.specs.declared.operation.Op.{Op}
use Rattle.rbd_kinds.specs.declared.reply.Reply.{Reply}
use Rattle.rbd_kinds.specs.Instances.{same_instance}
use Rattle.rbd_kinds.proofs.Instances.{same_instance_is, same_instance_itself}
use Rattle.rbd_machine.specs.Plan.{Standing}
use Rattle.rbd_lock.specs.Release.{begun_release, release_after, release_behind, release_op, release_op_at}
use Rattle.rbd_lock.specs.declared.release.Release.{Release}
use Rattle.rbd_lock.specs.declared.release.Stage.{Stage}
use Rattle.rbd_lock.specs.declared.release.Stage.TheVariants as stage
use Rattle.rbd_world.specs.LetGo.{is_house, left_by, moves_house, release_left, release_of}
use Rattle.rbd_world.specs.Run.{House, Happening, Did, Operation}
use Rattle.rbd_world.specs.Ways.{IsNextOfRelease, IsOfRelease}
use Rattle.rbd_world.proofs.Ways.{of_release}

-- ---- what leaves it as it is

pub still_releases : (who : Instance) (h : Happening) (run : List Happening) → moves_house who h ≡ false → release_of who (h ∷ run) ≡ release_of who run
still_releases who h run is = ap (λ b. cond b (left_by h) (release_of who run)) is

pub moved_releases : (who : Instance) (h : Happening) (run : List Happening) → moves_house who h ≡ true → release_of who (h ∷ run) ≡ left_by h
moved_releases who h run is = ap (λ b. cond b (left_by h) (release_of who run)) is

pub other_instance : (one other : Instance) → one.session ≢ other.session → same_instance one other ≡ false
other_instance one other differ = by (same_instance one other) refl
  where
    by : (b : Bool) → same_instance one other ≡ b → b ≡ false
    by true is = absurd (differ (ap (λ (i : Instance). i.session) (same_instance_is one other is)))
    by false is = refl

-- an operation of another session's instance
pub others_move_nothing : (who : Instance) (o : Operation) (reply : Option Reply) → o.instance.session ≢ who.session → moves_house who (Did o reply) ≡ false
others_move_nothing who o reply differ = and_right (is_house o.by) (same_instance o.instance who) (other_instance o.instance who differ)

-- ---- what an operation of a release leaves

left_there : (x : Release) (a : Answer) → release_left x.site (release_op x) a ≡ release_after x a
left_there x a = by x.stage
  where
    by : (s : Stage) → release_left x.site (release_op_at s x.image) a ≡ release_behind s x.site x.image a
    by stage.Dropping = refl
    by stage.Telling = refl

-- what is left of the release itself
pub releases_then : (o : Operation) (reply : Option Reply) (run : List Happening) (x : Release) → o.by ≡ House → o.site ≡ x.site → o.op ≡ release_op x
    → release_of o.instance (Did o reply ∷ run) ≡ release_after x o.answer
releases_then o reply run x by there what =
    moved_releases o.instance (Did o reply) run (ap (λ d. is_house d && same_instance o.instance o.instance) by ∙ same_instance_itself o.instance)
    ∙ ap (λ s. release_left s o.op o.answer) there ∙ ap (λ p. release_left x.site p o.answer) what ∙ left_there x o.answer

-- ---- what comes next

abbrev release_or : Release → Actor → Release
release_or r (actor.Release q) = q
release_or r x = r

module _ {R : Type 0} (stands : R → Standing) where
  -- who lets a lock go goes on with the release that is under way, or begins one
  pub next_of_release : (slot : ℕ) (c : ClientView R) (x : Release) → actor_at stands slot c ≡ actor.Release x → IsNextOfRelease c.release x.site (release_op x)
  next_of_release slot c x acts = by c.release (due_release c) (released_at_zero stands c slot x acts)
    where
      by : (o : Option Release) (due : Option ImageAt) → release_actor o due ≡ actor.Release x → IsNextOfRelease o x.site (release_op x)
      by (Some r) due is = let same : r ≡ x = ap (release_or x) is in (ap (λ (q : Release). q.site) (sym same), ap release_op (sym same))
      by None (Some p) is = let same : begun_release p.site p.image ≡ x = ap (release_or x) is in record { image = p.image; is = ap release_op (sym same) }
      by None None is = absurd (true≢false (sym (ap is_release is)))

-- so it lets a lock go, and does nothing else
pub of_next : (under_way : Option Release) (s : SiteId) (o : Op) → IsNextOfRelease under_way s o → IsOfRelease o
of_next None s o next = record { image = next.image; is = inl next.is }
of_next (Some r) s o next = subst IsOfRelease (sym next.1) (of_release r)
