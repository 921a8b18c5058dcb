-- An `rm` owes nothing: it removes objects with all of their image.
use Rattle.std.proofs.Common.{◌≡◌, ℕ, List, [], ◌∷◌, ◌++◌, map, Bool, true, false, Option, Some, None, refl, sym, subst}
use Rattle.rbd_kinds.specs.declared.children_op.ChildrenOp.TheVariants as child
use Rattle.rbd_kinds.specs.declared.directory_op.DirectoryOp.TheVariants as directory
use Rattle.rbd_kinds.specs.declared.header.HeaderView.{HeaderView}
use Rattle.rbd_kinds.specs.declared.header.ParentLink.{ParentLink}
use Rattle.rbd_kinds.specs.declared.header.SnapView.{SnapView}
use Rattle.rbd_kinds.specs.declared.header_op.HeaderOp.TheVariants as header
use Rattle.rbd_kinds.specs.declared.id.SiteId.{SiteId}
use Rattle.rbd_kinds.specs.declared.journal_op.JournalOp.TheVariants as journal
use Rattle.rbd_kinds.specs.declared.map_op.MapOp.TheVariants as states
use Rattle.rbd_kinds.specs.declared.operation.Op.{Op}
use Rattle.rbd_kinds.specs.declared.operation.Op.TheVariants as op
use Rattle.rbd_kinds.specs.declared.reply.Reply.TheVariants as reply
use Rattle.rbd_kinds.specs.OperationKind.{kind_of}
use Rattle.rbd_machine.specs.Plan.{Plan, Return}
use Rattle.rbd_meaning.specs.Removals.{image_removal_refuses, link_of, removal, removing_journal, removing_map_of, removing_object, unlinking, used_objects}
use Rattle.rbd_image.specs.Remove.{holding_it, joining_its_line, looked_at_it, on_gone as removed_or_gone, removal_plan, remove_each, remove_image, remove_owned, unless_watched}
use Rattle.rbd_interference.specs.Owed.{IsClearing, PaysItsStates}
use Rattle.rbd_interference.proofs.PaysSteps.{Pays, pays_ends, pays_find, pays_holding, pays_look}
use Rattle.rbd_interference.proofs.Unowing.{is_owing, owes_none, removes_none}
use Rattle.rbd_catalog.proofs.PlanSteps.{at_unless, at_bits, at_removed, at_watchers}

-- ---- what goes

module _ (site : SiteId) (image : ℕ) (next : Plan) (pays : Pays next) where
  -- what is no object goes, and then the others do
  goes : (o : Op) (others : List Op) → is_owing (kind_of o) ≡ false → Pays (remove_each site others next) → Pays (remove_each site (o ∷ others) next)
  goes o others none rest = (
    removes_none site o (remove_each site others next) none,
    λ a given told.
        subst (λ owed. PaysItsStates owed (removed_or_gone o (remove_each site others next) a)) (sym (owes_none site o a none))
        (at_removed Pays pays_ends o (remove_each site others next) rest a),
  )

  -- ---- behind the objects

  abbrev behind_map : (snaps : List SnapView) (noted : Bool) → List Op
  behind_map snaps noted = map (removing_map_of image) snaps ++ removing_journal image noted

  pays_behind : (snaps : List SnapView) (noted : Bool) → Pays (remove_each site (behind_map snaps noted) next)
  pays_behind [] false = pays
  pays_behind [] true = goes (op.Journal image journal.Remove) [] refl pays
  pays_behind (s ∷ snaps) noted = goes (removing_map_of image s) (behind_map snaps noted) refl (pays_behind snaps noted)

  -- ---- the objects, and the map of the head behind them

  abbrev from_map : (snaps : List SnapView) (noted : Bool) → List Op
  from_map snaps noted = op.Map image (states.Remove None) ∷ behind_map snaps noted

  clearing : (objects : List ℕ) (snaps : List SnapView) (noted : Bool) → IsClearing site image (remove_each site (map (removing_object image) objects ++ from_map snaps noted) next)
  clearing [] snaps noted = (refl, refl)
  clearing (number ∷ objects) snaps noted = (refl, refl, clearing objects snaps noted)

  pays_objects : (objects : List ℕ) (snaps : List SnapView) (noted : Bool) → Pays (remove_each site (map (removing_object image) objects ++ from_map snaps noted) next)
  pays_objects [] snaps noted = goes (op.Map image (states.Remove None)) (behind_map snaps noted) refl (pays_behind snaps noted)
  pays_objects (number ∷ objects) snaps noted = (
    clearing objects snaps noted,
    λ a given told.
        at_removed Pays pays_ends (removing_object image number) (remove_each site (map (removing_object image) objects ++ from_map snaps noted) next) (pays_objects objects snaps noted) a,
  )

  -- ---- before them

  pays_link : (link : Option ParentLink) (others : List Op) → Pays (remove_each site others next) → Pays (remove_each site (unlinking image link ++ others) next)
  pays_link None others rest = rest
  pays_link (Some link) others rest = goes (op.Children (child.Remove link.image link.snap image)) others refl rest

  pays_all : (h : HeaderView) (bits : List ℕ) → Pays (remove_each site (removal image h bits) next)
  pays_all h bits =
      goes (op.Directory (directory.Remove image)) (op.Header image header.Remove ∷ rest) refl (
      goes (op.Header image header.Remove) rest refl (pays_link (link_of h) objects (pays_objects (used_objects bits) h.snaps h.journal)))
    where
      objects : List Op
      objects = map (removing_object image) (used_objects bits) ++ from_map h.snaps h.journal

      rest : List Op
      rest = unlinking image (link_of h) ++ objects

  pays_remove : (h : HeaderView) → Pays (removal_plan site image h next)
  pays_remove h = (tt, λ a given told. at_bits Pays pays_ends (λ bits. remove_each site (removal image h bits) next) (pays_all h) a)

-- ---- the command

module _ (site : SiteId) (session : ℕ) where
  pays_unwatched : (image : ℕ) (next : Plan) → Pays next → Pays (unless_watched site session image next)
  pays_unwatched image next pays = (tt, λ a given told. at_watchers Pays pays_ends session next pays a)

  pays_held : (image : ℕ) → Pays (holding_it site session image)
  pays_held image =
      pays_holding site image_removal_refuses (remove_owned site session) image (λ h standalone.
      pays_unwatched image (removal_plan site image h (Return reply.Done)) (pays_remove site image (Return reply.Done) tt h))

  pub pays_removal : (name : List ℕ) → Pays (remove_image site session name)
  pays_removal name =
      pays_find site name (joining_its_line site session) (λ image.
      pays_look site image (looked_at_it site session image) (λ h standalone.
      at_unless Pays pays_ends (image_removal_refuses h) (unless_watched site session image (holding_it site session image))
      (pays_unwatched image (holding_it site session image) (pays_held image))))
