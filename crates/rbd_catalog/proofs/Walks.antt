-- Steps that many commands share, along any row; the session's commands along theirs.
use Rattle.std.proofs.Common.{◌≡◌, refl, ℕ, true, false, List, inl, inr, Option, Some, None}
use Rattle.rbd_commands.specs.declared.command.Command.TheVariants as command
use Rattle.rbd_commands.specs.declared.quiescing.Quiescing.{Quiescing}
use Rattle.rbd_commands.specs.declared.refusal.Refusal.{Refusal}
use Rattle.rbd_kinds.specs.declared.answer.Answer.{Answer}
use Rattle.rbd_kinds.specs.declared.answer.Answer.TheVariants as answer
use Rattle.rbd_kinds.specs.declared.header.HeaderView.{HeaderView}
use Rattle.rbd_kinds.specs.declared.directory_op.DirectoryOp.TheVariants as directory
use Rattle.rbd_kinds.specs.declared.header_op.HeaderOp.TheVariants as header
use Rattle.rbd_kinds.specs.declared.operation.Op.{Op}
use Rattle.rbd_kinds.specs.declared.operation.Op.TheVariants as op
use Rattle.rbd_kinds.specs.declared.id.SiteId.{SiteId}
use Rattle.rbd_kinds.specs.declared.operation_kind.OpKind.TheVariants as kind
use Rattle.rbd_kinds.specs.declared.sharing.Sharing.{Sharing}
use Rattle.rbd_kinds.specs.declared.sharing.Sharing.TheVariants as sharing
use Rattle.rbd_machine.specs.Plan.{Plan}
use Rattle.rbd_machine.specs.Refused.{only_looks, refuses_none}
use Rattle.rbd_machine.specs.Steps.{change_plan, joining, looked, holding, owned, not_there, on_done, on_header, on_id, unless}
use Rattle.rbd_meaning.specs.Straight.{Straight}
use Rattle.rbd_session.specs.Close as session
use Rattle.rbd_catalog.specs.Follows.{Follows, IsAmong, MayGoFirst, MayRecord, Outside, Joined, Held, Progress}
use Rattle.rbd_catalog.specs.Profile.{Profile, profile, straight_row}

-- ---- steps that many share

module _ (p : Profile) (at : Progress) where
  pub follows_not_there : (a : Answer) → Follows p at (not_there a)
  follows_not_there answer.Fenced = tt
  follows_not_there _ = tt

  pub follows_on_id : (next : ℕ → Plan) → ((image : ℕ) → Follows p at (next image)) → (a : Answer) → Follows p at (on_id next a)
  follows_on_id next follows (answer.Id image) = follows image
  follows_on_id next follows a = follows_not_there a

  pub follows_on_header : (next : HeaderView → Plan) → ((h : HeaderView) → Follows p at (next h)) → (a : Answer) → Follows p at (on_header next a)
  follows_on_header next follows (answer.Header h) = follows h
  follows_on_header next follows a = follows_not_there a

  pub follows_on_done : (next : Plan) → Follows p at next → (a : Answer) → Follows p at (on_done next a)
  follows_on_done next follows answer.Done = follows
  follows_on_done next follows a = follows_not_there a

  pub follows_unless : (r : Option Refusal) (next : Plan) → Follows p at next → Follows p at (unless r next)
  follows_unless None next follows = follows
  follows_unless (Some r) next follows = tt

-- ---- close

module _ (site : SiteId) (name : List ℕ) where
  unwatches : (image : ℕ) → Follows (profile (command.Close name)) Held (session.unwatching site image)
  unwatches image = (record { kind = inr (inr (inr (inl refl))); recorded = tt; own = tt; by_itself = refl; first = tt }, λ a. follows_on_done (profile (command.Close name)) Held session.replies_done refl a)

  releases : (image : ℕ) → Follows (profile (command.Close name)) Held (session.telling_of_release site image)
  releases image =
      (record { kind = inr (inr (inl refl)); recorded = tt; own = tt; by_itself = refl; first = tt }, λ a. follows_on_done (profile (command.Close name)) Held (session.unwatching site image) (unwatches image) a)

  on_dropped : (image : ℕ) (a : Answer) → Follows (profile (command.Close name)) Held (session.on_dropped site image a)
  on_dropped image answer.Done = releases image
  on_dropped image answer.Changed = unwatches image
  on_dropped image a = follows_not_there (profile (command.Close name)) Held a

  pub close_follows : Follows (profile (command.Close name)) Outside (session.close site name)
  close_follows = (
    record { kind = inl refl; recorded = tt; own = tt; by_itself = refl; first = refl },
    λ a.
        follows_on_id (profile (command.Close name)) Outside (session.joining site) (λ image. (
          (refl, refl),
          (refl, (record { kind = inr (inl refl); recorded = tt; own = tt; by_itself = refl; first = tt }, λ d. on_dropped image d)),
        )) a,
  )

-- ---- a change, up to what it does behind its look under the lock

-- it may look up its image and look at headers, at any place
pub record MayLook (p : Profile) (sharing : Sharing) : Type 0 where
  pub joins : p.joins ≡ Some sharing
  pub finds : IsAmong kind.DirFind p.kinds
  pub looks : IsAmong kind.HeaderGet p.kinds
  pub records_none : (at : Progress) → MayRecord p.event at false

looks_may_come_first : (joins : Option Sharing) (at : Progress) (o : Op) → only_looks o ≡ true → MayGoFirst joins at o
looks_may_come_first (Some sharing) Outside o is = is
looks_may_come_first (Some sharing) Joined o is = is
looks_may_come_first joins at o is = tt

module _ (p : Profile) (site : SiteId) (sharing : Sharing) (may : MayLook p sharing) (refuses : HeaderView → Option Refusal) (act : ℕ → HeaderView → Plan) where
  pub change_follows : (name : List ℕ) → ((image : ℕ) (h : HeaderView) → Follows p Held (act image h)) → Follows p Outside (change_plan site name sharing refuses act)
  change_follows name acts = (
    record { kind = may.finds; recorded = may.records_none Outside; own = tt; by_itself = refl; first = looks_may_come_first p.joins Outside (op.Directory (directory.Find name)) refl },
    λ found.
        follows_on_id p Outside (λ image. joining site sharing refuses act image) (λ image. (
          (refl, may.joins),
          (
            record { kind = may.looks; recorded = may.records_none Joined; own = tt; by_itself = refl; first = looks_may_come_first p.joins Joined (op.Header image header.Get) refl },
            λ first.
                follows_on_header p Joined (λ h. looked site refuses act image h) (λ h.
                follows_unless p Joined (refuses h) (holding site refuses act image) (
                  refl,
                  (
                    record { kind = may.looks; recorded = may.records_none Held; own = tt; by_itself = refl; first = looks_may_come_first p.joins Held (op.Header image header.Get) refl },
                    λ own. follows_on_header p Held (λ g. owned refuses act image g) (λ g. follows_unless p Held (refuses g) (act image g) (acts image g)) own,
                  ),
                )) first,
          ),
        )) found,
  )

pub quiesce_follows : (site : SiteId) (name : List ℕ) → Follows (profile (command.Quiesce name)) Outside (session.quiesce site name)
quiesce_follows site name =
    change_follows (profile (command.Quiesce name)) site sharing.Alone (record { joins = refl; finds = inl refl; looks = inr (inl refl); records_none = λ at. tt })
    refuses_none session.quiesced name (λ image h. refl)

-- ---- straight commands

module _ (site : SiteId) (q : Quiescing) where
  telling_follows : (name : List ℕ) (o : Option (List ℕ)) (image : ℕ) → Follows (straight_row q (Some (record { name = name; tells = o }))) Outside (session.telling site o image)
  telling_follows name None image = refl
  telling_follows name (Some bytes) image = (
    record { kind = inr (inl refl); recorded = tt; own = tt; by_itself = refl; first = tt },
    λ told. follows_on_done (straight_row q (Some (record { name = name; tells = Some bytes }))) Outside session.replies_done refl told,
  )

  pub straight_follows : (s : Straight) → Follows (straight_row q (Some s)) Outside (session.straight site s)
  straight_follows s = (
    record { kind = inl refl; recorded = tt; own = tt; by_itself = refl; first = tt },
    λ a. follows_on_id (straight_row q (Some s)) Outside (session.telling site s.tells) (telling_follows s.name s.tells) a,
  )
