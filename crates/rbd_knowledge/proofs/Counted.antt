-- Where a request knows a header behind an answer, the client counts the lock as its own.
use Rattle.std.proofs.Common.{◌≡◌, ◌≢◌, inl, inr, ℕ, ◌&&◌, not, Bool, true, false, Option, Some, None, refl, sym, ap, ◌∙◌, subst, true≢false}
use Rattle.std.specs.Prelude.{IsSome}
use Rattle.std.proofs.lemmas.Option.{none-some}
use Rattle.rbd_client.specs.declared.actor.Actor.{Actor}
use Rattle.rbd_client.specs.declared.actor.Actor.TheVariants as actor
use Rattle.rbd_client.specs.Actor.{actor_at, any_taken, op_by, op_wanted}
use Rattle.rbd_client.specs.Client.{ClientView}
use Rattle.rbd_client.specs.Feeding.{IsFedBy}
use Rattle.rbd_client.specs.Laws.{removes_header}
use Rattle.rbd_client.specs.Sound.{IsOwned, IsSoundClient}
use Rattle.rbd_client.proofs.Follows.{counted_by, lock_lasts}
use Rattle.rbd_client.proofs.Owning.{ends_by}
use Rattle.rbd_knowledge.specs.ClientsKnowing.{known_to}
use Rattle.rbd_knowledge.specs.Truth.{IsTrueOf}
use Rattle.rbd_knowledge.proofs.Acts.{looks_owned}
use Rattle.rbd_knowledge.proofs.Drops.{drops_rest, nobody_knows_beside}
use Rattle.rbd_knowledge.proofs.HeadersOwned.{known_is_past}
use Rattle.rbd_knowledge.proofs.Releases.{release_knows_no_header}
use Rattle.rbd_knowledge.proofs.Told.{KnewOrLooks, known_before_waits, known_by_answer, removed_unknown}
use Rattle.rbd_knowledge.proofs.Ways.{way_knows_no_header}
use Rattle.rbd_kinds.specs.declared.answer.Answer.{Answer}
use Rattle.rbd_kinds.specs.declared.answer.Answer.TheVariants as answer
use Rattle.rbd_kinds.specs.declared.header_op.HeaderOp.TheVariants as header
use Rattle.rbd_kinds.specs.declared.id.Instance.{Instance}
use Rattle.rbd_kinds.specs.declared.id.SiteId.{SiteId}
use Rattle.rbd_kinds.specs.declared.machine.Fed.TheVariants as fed
use Rattle.rbd_kinds.specs.declared.operation.Op.{Op}
use Rattle.rbd_kinds.specs.declared.operation.Op.TheVariants as op
use Rattle.rbd_kinds.specs.declared.reply.Reply.{Reply}
use Rattle.rbd_kinds.specs.Images.{is_at}
use Rattle.rbd_knowledge.specs.Knowing.{AllKnow, known_at_operation}
use Rattle.rbd_machine.specs.Knowledge.{Knowledge, learned, nothing_known}
use Rattle.rbd_machine.specs.Permits.{Permits}
use Rattle.rbd_machine.specs.Plan.{Plan, Standing}
use Rattle.rbd_interference.specs.Truth.{known_header}
use Rattle.rbd_interference.proofs.Headers.{own_known}
use Rattle.rbd_interference.proofs.Less.{place_of}
use Rattle.rbd_site.specs.Records.{Records}

-- a header that is removed by an answer
record IsRemoval (site : SiteId) (o : Op) (a : Answer) (image : ℕ) : Type 0 where
  pub on : ℕ
  pub is : o ≡ op.Header on header.Remove
  pub done : a ≡ answer.Done
  pub at : is_at site on site image ≡ true

removal : (site : SiteId) (o : Op) (a : Answer) (image : ℕ) → removes_header site o (fed.Answer a) site image ≡ true → IsRemoval site o a image
removal site (op.Header on header.Remove) answer.Done image at = record { on = on; is = refl; done = refl; at = at }
removal site o a image at = absurd (true≢false (sym at))

module _ {R : Type 0} (stands : R → Standing) (c d : ClientView R) (knows : ℕ → Knowledge) (sound : IsSoundClient stands c) (all : AllKnow stands knows c.session)
    (slot : ℕ) (site : SiteId) (o : Op) (a : Answer) (result : Option Reply) (r : Records) (me : Instance) (t : IsTrueOf site r me knows c)
    (wanted : op_wanted stands slot c ≡ Some (site, o)) (permits : Permits (known_to (knows slot) (actor_at stands slot c)) site o)
    (is_fed : IsFedBy stands slot site o (fed.Answer a) result c d (actor_at stands slot c)) where
  abbrev pub Counted : Knowledge → Type 0
  Counted k = (image : ℕ) → IsSome (known_header k site image) → IsOwned site image d.locks

  pub counted_nothing : Counted nothing_known
  counted_nothing image some = absurd (true≢false (sym some))

  -- who knows the header relies on the lock
  lasts : (x image : ℕ) → IsSome (known_header (knows x) site image) → removes_header site o (fed.Answer a) site image ≡ false → IsOwned site image d.locks
  lasts x image some stays =
      lock_lasts stands c d slot site site image o (fed.Answer a) result sound wanted (drops_rest stands c knows sound all slot site o wanted permits) is_fed
      (ap (λ b. not b && not (any_taken site image c.slots)) (known_is_past stands c knows sound all x site image some)) stays (t.counted x image some)

  -- a removal is by one that knows the header
  no_removal : (k : Knowledge) (who : Actor) → ((image : ℕ) → known_header (known_to k who) site image ≡ None) → Permits (known_to k who) site o → (image : ℕ) → removes_header site o (fed.Answer a) site image ≡ false
  no_removal k who none may image = by (removes_header site o (fed.Answer a) site image) refl
    where
      by : (b : Bool) → removes_header site o (fed.Answer a) site image ≡ b → b ≡ false
      by false is = refl
      by true is =
          let x = removal site o a image is in
          let owns = subst (Permits (known_to k who) site) x.is may in
          absurd (none-some owns.header (sym (none x.on) ∙ own_known (known_to k who) site x.on _ owns))

  pub counted_unless : ((image : ℕ) → removes_header site o (fed.Answer a) site image ≡ false) → (x : ℕ) → Counted (knows x)
  counted_unless stays x image some = lasts x image some (stays image)

  pub way_removes_none : (b : _) → actor_at stands slot c ≡ actor.Way b → (image : ℕ) → removes_header site o (fed.Answer a) site image ≡ false
  way_removes_none b acts = no_removal (knows slot) (actor.Way b) (way_knows_no_header b site) (subst (λ who. Permits (known_to (knows slot) who) site o) acts permits)

  pub release_removes_none : (x : _) → actor_at stands slot c ≡ actor.Release x → (image : ℕ) → removes_header site o (fed.Answer a) site image ≡ false
  release_removes_none x acts = no_removal (knows slot) (actor.Release x) (release_knows_no_header x site) (subst (λ who. Permits (known_to (knows slot) who) site o) acts permits)

  -- ---- where a request acts

  module _ (acts : actor_at stands slot c ≡ actor.Request) where
    may : Permits (knows slot) site o
    may = subst (λ who. Permits (known_to (knows slot) who) site o) acts permits

    asked : op_by stands slot c.session actor.Request ≡ Some (site, o)
    asked = subst (λ who. op_by stands slot c.session who ≡ Some (site, o)) acts wanted

    -- the others know no header that it removes
    pub counted_others : (x : ℕ) → x ≢ slot → Counted (knows x)
    counted_others x differ image some = by (removes_header site o (fed.Answer a) site image) refl
      where
        by : (b : Bool) → removes_header site o (fed.Answer a) site image ≡ b → IsOwned site image d.locks
        by false stays = lasts x image some stays
        by true is =
            let gone = removal site o a image is in
            let owns = subst (Permits (knows slot) site) gone.is may in
            absurd (nobody_knows_beside stands c knows sound all slot site gone.on _ owns x (λ same. differ (sym same))
            (subst (λ n. IsSome (known_header (knows x) site n)) (sym ((place_of site site gone.on image gone.at).1)) some))

    -- nor does it, and what it looked at it looked at under the lock
    pub counted_own : (next : Plan) → Counted (known_at_operation (learned (knows slot) site o a) next)
    counted_own next image some = by (known_by_answer site image (knows slot) o a (known_before_waits site image next (learned (knows slot) site o a) some))
      where
        kept : IsSome (known_header (knows slot) site image) → (b : Bool) → removes_header site o (fed.Answer a) site image ≡ b → IsOwned site image d.locks
        kept knew false stays = lasts slot image knew stays
        kept knew true is =
            let gone = removal site o a image is in
            absurd (removed_unknown site image (knows slot) gone.on gone.at
            (subst (λ x. IsSome (known_header (learned (knows slot) site (op.Header gone.on header.Remove) x) site image)) gone.done
            (subst (λ q. IsSome (known_header (learned (knows slot) site q a) site image)) gone.is (known_before_waits site image next (learned (knows slot) site o a) some))))

        by : KnewOrLooks site image (knows slot) o → IsOwned site image d.locks
        by (inl knew) = kept knew (removes_header site o (fed.Answer a) site image) refl
        by (inr looks) =
            counted_by stands slot site o (fed.Answer a) result c d site image (actor_at stands slot c) is_fed (ap (λ q. ends_by site q (fed.Answer a) site image) looks.is)
            (looks_owned stands c knows sound all slot site image r me t acts (subst (λ q. op_by stands slot c.session actor.Request ≡ Some (site, q)) looks.is asked) looks.owns)
