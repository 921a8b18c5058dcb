-- The plan does what it may.
use Rattle.std.proofs.Common.{◌≡◌, inl, ℕ, List, [], ◌∷◌, ◌++◌, Bool, true, false, cond, Some, None, refl, ap, ◌∙◌, sym, subst}
use Rattle.std.specs.Prelude.{IsSome, map}
use Rattle.rbd_commands.specs.declared.command.Command.{Command}
use Rattle.rbd_commands.specs.declared.command.Command.TheVariants as command
use Rattle.rbd_commands.specs.declared.refusal.Refusal.TheVariants as refusal
use Rattle.rbd_kinds.specs.declared.sharing.Sharing.TheVariants as sharing
use Rattle.rbd_kinds.specs.declared.answer.Answer.{Answer}
use Rattle.rbd_kinds.specs.declared.answer.Answer.TheVariants as answer
use Rattle.rbd_kinds.specs.declared.directory_op.DirectoryOp.TheVariants as directory
use Rattle.rbd_kinds.specs.declared.header.HeaderView.{HeaderView}
use Rattle.rbd_kinds.specs.declared.header.SnapView.{SnapView}
use Rattle.rbd_kinds.specs.declared.header_op.HeaderOp.TheVariants as header
use Rattle.rbd_kinds.specs.declared.id.SiteId.{SiteId}
use Rattle.rbd_kinds.specs.declared.map_op.MapOp.TheVariants as states
use Rattle.rbd_kinds.specs.declared.operation.Op.{Op}
use Rattle.rbd_kinds.specs.declared.operation.Op.TheVariants as op
use Rattle.rbd_kinds.specs.declared.reply.Reply.TheVariants as reply
use Rattle.rbd_kinds.proofs.Images.{at_itself}
use Rattle.rbd_machine.specs.Knowledge.{Knowledge, MapsKnown, first_told, header_told, learned, learned_own, looked_under_lock, maps_of, nothing_known, own_of, known_after_wait}
use Rattle.rbd_machine.specs.Label.{Label}
use Rattle.rbd_machine.specs.Lawful.{IsLawful}
use Rattle.rbd_machine.specs.Permits.{IsLeftOver, Permits}
use Rattle.rbd_machine.specs.Plan.{Plan, Return}
use Rattle.rbd_machine.specs.Standalone.{IsStandalone}
use Rattle.rbd_machine.specs.Steps.{on_bits, owned, own}
use Rattle.rbd_machine.specs.Wait as wait
use Rattle.rbd_machine.proofs.Gone.{gone_is_known, map_is_there}
use Rattle.rbd_machine.proofs.Lawful.{holding_known, lawful_look, lawful_not_there, lawful_on_id, lawful_unless, left_here, own_at, unlooked}
use Rattle.rbd_meaning.specs.Removals.{first_link, image_removal_refuses, link_of, may_be_gone, parent_in, removal, removing_journal, removing_map_of, removing_object, unlinking, used_objects, watchers_refuse}
use Rattle.rbd_meaning.proofs.Allowed.{no_snapshots_listed}
use Rattle.rbd_image.specs.Remove.{holding_it, joining_its_line, looked_at_it, on_gone, on_watchers, removal_plan, remove_each, remove_image, remove_owned, remove_plan, unless_watched}

module _ (at : Label → Knowledge) (site : SiteId) (image : ℕ) (next : Plan) (ends : (k : Knowledge) → IsLawful at k next) where
  -- one operation, by which something goes or is gone
  lawful_gone : (o : Op) (k : Knowledge) (next : Plan) → Permits k site o → IsLawful at (learned k site o answer.Done) next → (may_be_gone o ≡ true → IsLawful at (learned k site o answer.Absent) next)
      → IsLawful at k (own site o (on_gone o next))
  lawful_gone o k next may done absent = (may, λ a can. on a)
    where
      where_gone : (b : Bool) → may_be_gone o ≡ b → IsLawful at (learned k site o answer.Absent) (cond b next (Return (reply.Refused refusal.NoImage)))
      where_gone true is = absent is
      where_gone false is = tt

      on : (a : Answer) → IsLawful at (learned k site o a) (on_gone o next a)
      on answer.Done = done
      on answer.Absent = where_gone (may_be_gone o) refl
      on a = lawful_not_there at (learned k site o a) a

  -- ---- what is left over

  -- it removed the header, and the map of the head is there
  record IsBare (k : Knowledge) : Type 0 where
    left : IsLeftOver k site image
    mapped : IsSome (maps_of k.maps site image).count

  lawful_maps : (snaps : List SnapView) (k : Knowledge) → IsLeftOver k site image → IsLawful at k (remove_each site (map (removing_map_of image) snaps ++ []) next)
  lawful_maps [] k left = ends k
  lawful_maps (s ∷ snaps) k left =
      let o = removing_map_of image s in
      lawful_gone o k (remove_each site (map (removing_map_of image) snaps ++ []) next) (inl left) (lawful_maps snaps (learned k site o answer.Done) (record { gone = left.gone; unowned = left.unowned }))
      (λ may. lawful_maps snaps k left)

  module _ (snaps : List SnapView) where
    abbrev maps : List Op
    maps = op.Map image (states.Remove None) ∷ (map (removing_map_of image) snaps ++ [])

    lawful_head : (k : Knowledge) → IsBare k → IsLawful at k (remove_each site maps next)
    lawful_head k bare =
        let left = bare.left in
        let o = op.Map image (states.Remove None) in
        lawful_gone o k (remove_each site (map (removing_map_of image) snaps ++ []) next) (left, bare.mapped)
        (lawful_maps snaps (learned k site o answer.Done) (record { gone = left.gone; unowned = left.unowned })) (λ may. cc)

    lawful_objects : (used : List ℕ) (k : Knowledge) → IsBare k → IsLawful at k (remove_each site (map (removing_object image) used ++ maps) next)
    lawful_objects [] k bare = lawful_head k bare
    lawful_objects (n ∷ used) k bare =
        let left = bare.left in
        let o = removing_object image n in
        lawful_gone o k (remove_each site (map (removing_object image) used ++ maps) next) (inl left)
        (lawful_objects used (learned k site o answer.Done) (record { left = record { gone = left.gone; unowned = left.unowned }; mapped = bare.mapped })) (λ may. cc)

  -- ---- the whole image

  module _ (h : HeaderView) (none : h.snaps ≡ []) (bits : List ℕ) where
    -- its contents, by the states that were told
    abbrev contents : List Op
    contents = map (removing_object image) (used_objects bits) ++ maps h.snaps

    is_bare : (k : Knowledge) → IsBare (learned k site (op.Header image header.Remove) answer.Done)
    is_bare k = record {
      left = record { gone = gone_is_known k site image; unowned = left_here site image k.owns };
      mapped = subst (λ (m : MapsKnown). IsSome m.count) (sym (map_is_there k site image)) refl;
    }

    lawful_header : (k : Knowledge) → own_of k.owns site image ≡ Some (own_at sharing.Alone site image h) → IsLawful at k (remove_each site (op.Header image header.Remove ∷ contents) next)
    lawful_header k owns =
        lawful_gone (op.Header image header.Remove) k (remove_each site contents next) (record { sharing = sharing.Alone; header = h; is = owns; meets = (refl, none) })
        (lawful_objects h.snaps (used_objects bits) (learned k site (op.Header image header.Remove) answer.Done) (is_bare k)) (λ gone. cc)

    lawful_all : (k : Knowledge) → own_of k.owns site image ≡ Some (own_at sharing.Alone site image h) → IsLawful at k (remove_each site (op.Directory (directory.Remove image) ∷ op.Header image header.Remove ∷ contents) next)
    lawful_all k owns =
        lawful_gone (op.Directory (directory.Remove image)) k (remove_each site (op.Header image header.Remove ∷ contents) next)
        (record { sharing = sharing.Alone; header = h; is = owns; meets = (refl, tt) }) (lawful_header k owns) (λ gone. lawful_header k owns)

    -- an image without a parent and a journal has nothing else
    nothing_else : link_of h ≡ None → h.journal ≡ false → op.Directory (directory.Remove image) ∷ op.Header image header.Remove ∷ contents ≡ removal image h bits
    nothing_else unlinked quiet =
        sym (ap (λ link. op.Directory (directory.Remove image) ∷ op.Header image header.Remove ∷ (unlinking image link ++ (map (removing_object image) (used_objects bits)
        ++ (op.Map image (states.Remove None) ∷ (map (removing_map_of image) h.snaps ++ removing_journal image h.journal))))) unlinked
        ∙ ap (λ has. op.Directory (directory.Remove image) ∷ op.Header image header.Remove ∷ (map (removing_object image) (used_objects bits)
        ++ (op.Map image (states.Remove None) ∷ (map (removing_map_of image) h.snaps ++ removing_journal image has)))) quiet)

  pub lawful_remove : (k : Knowledge) (h : HeaderView) → own_of k.owns site image ≡ Some (own_at sharing.Alone site image h) → h.snaps ≡ [] → link_of h ≡ None → h.journal ≡ false → IsLawful at k (removal_plan site image h next)
  lawful_remove k h owns none unlinked quiet = (tt, λ a can. on a)
    where
      on : (a : Answer) → IsLawful at (learned k site (op.Map image (states.Get None)) a) (on_bits (λ bits. remove_each site (removal image h bits) next) a)
      on (answer.Bits bits) =
          let told = learned k site (op.Map image (states.Get None)) (answer.Bits bits) in
          subst (λ ops. IsLawful at told (remove_each site ops next)) (nothing_else h none bits unlinked quiet) (lawful_all h none bits told owns)
      on a = lawful_not_there at (learned k site (op.Map image (states.Get None)) a) a

-- ---- the way to its look under the lock

module _ (at : Label → Knowledge) (site : SiteId) (session image : ℕ) where
  lawful_unwatched : (k : Knowledge) (next : Plan) → IsLawful at k next → IsLawful at k (unless_watched site session image next)
  lawful_unwatched k next lawful = (tt, λ a can. on a)
    where
      on : (a : Answer) → IsLawful at k (on_watchers session next a)
      on (answer.Instances watchers) = lawful_unless at k (watchers_refuse session watchers) next (λ none. lawful)
      on a = lawful_not_there at k a

  -- what is known behind its look under the lock
  abbrev looked : HeaderView → Knowledge
  looked h = learned_own (holding_known sharing.Alone site image) site (op.Header image header.Get) (answer.Header h)

  looked_owns : (h : HeaderView) → own_of (looked h).owns site image ≡ Some (own_at sharing.Alone site image h)
  looked_owns h =
      ap (λ b. own_of (header_told site image (first_told h) (looked_under_lock (cond b (Some (unlooked sharing.Alone site image)) None) site image (holding_known sharing.Alone site image))).owns site image) (at_itself site image)
      ∙ ap (λ b. own_of (cond b (own_at sharing.Alone site image h) (unlooked sharing.Alone site image) ∷ []) site image) (at_itself site image)
      ∙ ap (λ b. cond b (Some (own_at sharing.Alone site image h)) None) (at_itself site image)

  module _ (acts : (k : Knowledge) (h : HeaderView) → own_of k.owns site image ≡ Some (own_at sharing.Alone site image h) → IsStandalone h → image_removal_refuses h ≡ None → IsLawful at k (removal_plan site image h (Return reply.Done))) where
    lawful_holding : IsLawful at (record nothing_known { sharing = sharing.Alone }) (holding_it site session image)
    lawful_holding = (
      tt,
      lawful_look at site image (holding_known sharing.Alone site image) (owned image_removal_refuses (remove_owned site session) image) (λ h form standalone.
          lawful_unless at (looked h) (image_removal_refuses h) (remove_owned site session image h) (λ may.
          lawful_unwatched (looked h) (removal_plan site image h (Return reply.Done)) (acts (looked h) h (looked_owns h) standalone may))),
    )

    lawful_joining : IsLawful at nothing_known (joining_its_line site session image)
    lawful_joining = (
      tt,
      lawful_look at site image (known_after_wait nothing_known (wait.Join site image sharing.Alone)) (looked_at_it site session image) (λ h form standalone.
          lawful_unless at (record nothing_known { sharing = sharing.Alone }) (image_removal_refuses h) (unless_watched site session image (holding_it site session image)) (λ may.
          lawful_unwatched (record nothing_known { sharing = sharing.Alone }) (holding_it site session image) lawful_holding)),
    )

no_link : (h : HeaderView) → h.snaps ≡ [] → h.parent ≡ None → link_of h ≡ None
no_link h none unlinked = ap (λ snaps. first_link h.parent (parent_in snaps)) none ∙ ap (λ link. first_link link None) unlinked

module _ (at : Label → Knowledge) (site : SiteId) (session : ℕ) where
  lawful_image : (name : List ℕ) → IsLawful at nothing_known (remove_image site session name)
  lawful_image name = (
    tt,
    λ found can. lawful_on_id at (learned nothing_known site (op.Directory (directory.Find name))) (joining_its_line site session) (λ i.
        lawful_joining at site session i (λ k h owns standalone may.
        let none = no_snapshots_listed h may in
        lawful_remove at site i (Return reply.Done) (λ known. tt) k h owns none (no_link h none standalone.no_parent) standalone.no_journal)) found,
  )

  pub lawful_plan : (c : Command) → IsLawful at nothing_known (remove_plan site session c)
  lawful_plan (command.Remove image) = lawful_image image
  lawful_plan _ = tt
