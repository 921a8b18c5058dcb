-- Who owns the lock of an image did so before, or took it.
use Rattle.std.proofs.Common.{◌≡◌, ◌⊎◌, inl, inr, ℕ, ◌==◌, cond, Bool, true, false, List, ◌∷◌, Option, Some, None, is_some, refl, sym, ap, ◌∙◌, subst}
use Rattle.std.proofs.lemmas.Bool.{true≢false, eqb-true}
use Rattle.std.proofs.lemmas.Option.{none-some, same_Some}
use Rattle.rbd_header.specs.Header.{is_full, snap_in, with_snap, with_status, without_snap}
use Rattle.rbd_kinds.specs.declared.header.HeaderView.{HeaderView}
use Rattle.rbd_kinds.specs.declared.header_op.HeaderOp.{HeaderOp}
use Rattle.rbd_kinds.specs.declared.header_op.HeaderOp.TheVariants as header
use Rattle.rbd_kinds.specs.declared.id.Instance.{Instance}
use Rattle.rbd_kinds.specs.declared.id.SiteId.{SiteId}
use Rattle.rbd_kinds.specs.declared.operation.Op.{Op}
use Rattle.rbd_kinds.specs.declared.operation.Op.TheVariants as op
use Rattle.rbd_kinds.specs.declared.reply.Reply.{Reply}
use Rattle.rbd_kinds.specs.Header.{snap_named}
use Rattle.rbd_kinds.specs.Images.{same_site}
use Rattle.rbd_kinds.proofs.Images.{same_site_is}
use Rattle.rbd_machine.specs.Knowledge.{Knowledge}
use Rattle.rbd_machine.specs.Permits.{Permits}
use Rattle.rbd_lock.specs.Steps.{lock_take}
use Rattle.rbd_site.specs.HeaderStep.{header_after, is_owner, where_made}
use Rattle.rbd_site.specs.Log.{expired, trimmed}
use Rattle.rbd_site.specs.Records.{Records}
use Rattle.rbd_site.specs.Step.{after, after_served, is_fenced}
use Rattle.rbd_world.specs.Run.{Happening, Nothing, Waited, Began, Did, Refused, Trimmed, Expired, Heard, Stopped, Restarted, Operation, records_after}
use Rattle.rbd_world.specs.Sound.{IsRightlyDone, IsDue}
use Rattle.rbd_world.proofs.Runs.{done_of}

-- ---- the owner of an image's lock

abbrev pub owner_of : Option HeaderView → Option Instance
owner_of None = None
owner_of (Some h) = h.owner

abbrev pub owner_at : Records → (image : ℕ) → Option Instance
owner_at r image = owner_of (r.headers image)

-- a header that is made has no owner
abbrev pub MakesUnowned : HeaderOp → Type 0
MakesUnowned (header.Create view) = view.owner ≡ None
MakesUnowned o = Unit {0}

-- who has the lock had it before, or took it
abbrev pub HadOrTook : (me : Instance) → (before : Option Instance) → HeaderOp → (who : Instance) → Type 0
HadOrTook me before o who = (before ≡ Some who) ⊎ ((o ≡ header.LockTake) × (me ≡ who))

pub header_owner : (me : Instance) (there : Option HeaderView) (o : HeaderOp) (who : Instance) → MakesUnowned o → owner_of (header_after me there o) ≡ Some who → HadOrTook me (owner_of there) o who
header_owner me None (header.Create view) who none is = absurd (none-some who (sym none ∙ is))
header_owner me None o who none is = absurd (none-some who is)
header_owner me (Some h) header.LockTake who none is = by h.owner refl is
  where
    by : (o : Option Instance) → h.owner ≡ o → cond (is_some o) o (Some me) ≡ Some who → HadOrTook me h.owner header.LockTake who
    by (Some owner) at is = inl (at ∙ is)
    by None at is = inr (refl, same_Some me who is)
header_owner me (Some h) (header.SnapAdd name) who none is = by (is_some (snap_named h.snaps name)) (is_full h) is
  where
    by : (listed full : Bool) → (where_made listed full (with_snap name h) h).owner ≡ Some who → HadOrTook me h.owner (header.SnapAdd name) who
    by true full is = inl is
    by false true is = inl is
    by false false is = inl is
header_owner me (Some h) (header.SnapRemove snap) who none is = by (is_some (snap_in h.snaps snap)) is
  where
    by : (b : Bool) → (cond b (without_snap snap h) h).owner ≡ Some who → HadOrTook me h.owner (header.SnapRemove snap) who
    by true is = inl is
    by false is = inl is
header_owner me (Some h) (header.SnapStatus snap status) who none is = by (is_some (snap_in h.snaps snap)) is
  where
    by : (b : Bool) → (cond b (with_status snap status h) h).owner ≡ Some who → HadOrTook me h.owner (header.SnapStatus snap status) who
    by true is = inl is
    by false is = inl is
header_owner me (Some h) header.LockDrop who none is = by (is_owner me h.owner) is
  where
    by : (b : Bool) → (cond b (record h { owner = None }) h).owner ≡ Some who → HadOrTook me h.owner header.LockDrop who
    by true is = absurd (none-some who is)
    by false is = inl is
header_owner me (Some h) (header.LockBreak owner) who none is = by (is_owner owner h.owner) is
  where
    by : (b : Bool) → (cond b (record h { owner = None }) h).owner ≡ Some who → HadOrTook me h.owner (header.LockBreak owner) who
    by true is = absurd (none-some who is)
    by false is = inl is
header_owner me (Some h) header.Remove who none is = absurd (none-some who is)
header_owner me (Some h) _ who none is = inl is

-- ---- one operation

pub makes_unowned : (k : Knowledge) (s : SiteId) (on : ℕ) (o : HeaderOp) → Permits k s (op.Header on o) → MakesUnowned o
makes_unowned k s on (header.Create view) permits = permits.new.owner
makes_unowned k s on _ permits = tt

served_owner : (r : Records) (me : Instance) (k : Knowledge) (s : SiteId) (o : Op) (image : ℕ) (who : Instance) → Permits k s o → owner_at (after_served r me o) image ≡ Some who
    → (owner_at r image ≡ Some who) ⊎ ((o ≡ lock_take image) × (me ≡ who))
served_owner r me k s (op.Header on o) image who permits is = by (image == on) refl is
  where
    by : (b : Bool) → (image == on) ≡ b → owner_of (cond b (header_after me (r.headers on) o) (r.headers image)) ≡ Some who → (owner_at r image ≡ Some who) ⊎ ((op.Header on o ≡ lock_take image) × (me ≡ who))
    by false other is = inl is
    by true same is = go (header_owner me (r.headers on) o who (makes_unowned k s on o permits) is)
      where
        go : HadOrTook me (owner_at r on) o who → (owner_at r image ≡ Some who) ⊎ ((op.Header on o ≡ lock_take image) × (me ≡ who))
        go (inl had) = inl (subst (λ i. owner_at r i ≡ Some who) (sym (eqb-true image on same)) had)
        go (inr (takes, mine)) = inr (ap (λ x. op.Header on x) takes ∙ ap lock_take (sym (eqb-true image on same)), mine)
served_owner r me k s (op.Directory o) image who permits is = inl is
served_owner r me k s (op.Children o) image who permits is = inl is
served_owner r me k s (op.BlockAdd instance) image who permits is = inl is
served_owner r me k s (op.Data on number o) image who permits is = inl is
served_owner r me k s (op.Map on o) image who permits is = inl is
served_owner r me k s _ image who permits is = inl is

pub owner_then : (r : Records) (me : Instance) (k : Knowledge) (s : SiteId) (o : Op) (image : ℕ) (who : Instance) → Permits k s o → owner_at (after r me o) image ≡ Some who
    → (owner_at r image ≡ Some who) ⊎ ((o ≡ lock_take image) × (me ≡ who))
owner_then r me k s o image who permits is = by (is_fenced r me) is
  where
    by : (b : Bool) → owner_at (cond b r (after_served r me o)) image ≡ Some who → (owner_at r image ≡ Some who) ⊎ ((o ≡ lock_take image) × (me ≡ who))
    by true is = inl is
    by false is = served_owner r me k s o image who permits is

-- ---- whatever happens

-- the happening is the take of the lock by the instance
pub record Takes (who : Instance) (s : SiteId) (image : ℕ) (h : Happening) (run : List Happening) : Type 0 where
  pub o : Operation
  pub reply : Option Reply
  pub is : h ≡ Did o reply
  pub done : IsRightlyDone o run
  pub takes : o.op ≡ lock_take image
  pub mine : o.instance ≡ who
  pub here : o.site ≡ s

-- where it is this operation
pub takes_did : (who : Instance) (s : SiteId) (image : ℕ) (o : Operation) (reply : Option Reply) (run : List Happening) → Takes who s image (Did o reply) run
    → (o.op ≡ lock_take image) × (o.instance ≡ who) × (o.site ≡ s)
takes_did who s image o reply run took =
    let same : o ≡ took.o = ap did_or took.is in
    (ap (λ (p : Operation). p.op) same ∙ took.takes, ap (λ (p : Operation). p.instance) same ∙ took.mine, ap (λ (p : Operation). p.site) same ∙ took.here)
  where
    did_or : Happening → Operation
    did_or (Did p told) = p
    did_or h = o

abbrev is_did : Happening → Bool
is_did (Did o reply) = true
is_did h = false

-- and what isn't an operation takes none
pub none_taken : (h : Happening) → is_did h ≡ false → (run : List Happening) (who : Instance) (s : SiteId) (image : ℕ) → Takes who s image h run → ⊥
none_taken h none run who s image took = true≢false (sym (ap is_did took.is) ∙ none)

module _ (homes : ℕ → SiteId) (s : SiteId) (image : ℕ) (who : Instance) (run : List Happening) where
  did_own : (o : Operation) (reply : Option Reply) → IsRightlyDone o run → owner_at (records_after s (Did o reply ∷ run)) image ≡ Some who → (owner_at (records_after s run) image ≡ Some who) ⊎ Takes who s image (Did o reply) run
  did_own o reply done is = by (same_site o.site s) refl is
    where
      by : (b : Bool) → same_site o.site s ≡ b → owner_at (cond b (after (records_after s run) o.instance o.op) (records_after s run)) image ≡ Some who
          → (owner_at (records_after s run) image ≡ Some who) ⊎ Takes who s image (Did o reply) run
      by false apart is = inl is
      by true here is = go (owner_then (records_after s run) o.instance done.knows o.site o.op image who done.permits is)
        where
          go : (owner_at (records_after s run) image ≡ Some who) ⊎ ((o.op ≡ lock_take image) × (o.instance ≡ who)) → (owner_at (records_after s run) image ≡ Some who) ⊎ Takes who s image (Did o reply) run
          go (inl had) = inl had
          go (inr (takes, mine)) = inr (record { o = o; reply = reply; is = refl; done = done; takes = takes; mine = mine; here = same_site_is o.site s here })

  pub owned_before : (h : Happening) → IsDue homes h run → owner_at (records_after s (h ∷ run)) image ≡ Some who → (owner_at (records_after s run) image ≡ Some who) ⊎ Takes who s image h run
  owned_before (Did o reply) due is = did_own o reply (done_of homes o reply run due) is
  owned_before (Trimmed there number on object) due is = inl (go (same_site there s) is)
    where
      go : (b : Bool) → owner_at (cond b (trimmed on object (records_after s run)) (records_after s run)) image ≡ Some who → owner_at (records_after s run) image ≡ Some who
      go true is = is
      go false is = is
  owned_before (Expired there number on i) due is = inl (go (same_site there s) is)
    where
      go : (b : Bool) → owner_at (cond b (expired on i (records_after s run)) (records_after s run)) image ≡ Some who → owner_at (records_after s run) image ≡ Some who
      go true is = is
      go false is = is
  owned_before Nothing due is = inl is
  owned_before Waited due is = inl is
  owned_before (Began asked slot) due is = inl is
  owned_before (Refused t line told) due is = inl is
  owned_before (Heard notice) due is = inl is
  owned_before (Stopped other wanted lost) due is = inl is
  owned_before (Restarted other) due is = inl is
