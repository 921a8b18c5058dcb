-- `rm` and `read` follow their rows.
use Rattle.std.proofs.Common.{refl, ℕ, true, false, Bool, cond, eqb, List, [], ◌∷◌, ◌++◌, map, replicate, inl, inr, Option, Some, None}
use Rattle.rbd_commands.specs.declared.command.Command.TheVariants as command
use Rattle.rbd_kinds.specs.declared.answer.Answer.{Answer}
use Rattle.rbd_kinds.specs.declared.answer.Answer.TheVariants as answer
use Rattle.rbd_kinds.specs.declared.header.HeaderView.{HeaderView}
use Rattle.rbd_kinds.specs.declared.header.ParentLink.{ParentLink}
use Rattle.rbd_kinds.specs.declared.header.SnapView.{SnapView}
use Rattle.rbd_kinds.specs.declared.id.SiteId.{SiteId}
use Rattle.rbd_kinds.specs.declared.layout.Extent.{Extent}
use Rattle.rbd_kinds.specs.declared.layout.Part.{Part}
use Rattle.rbd_kinds.specs.declared.map_op.MapOp.TheVariants as states
use Rattle.rbd_kinds.specs.declared.operation.Op.{Op}
use Rattle.rbd_kinds.specs.declared.operation.Op.TheVariants as op
use Rattle.rbd_kinds.specs.declared.reply.Reply.TheVariants as reply
use Rattle.rbd_kinds.specs.Parts.{parts_len}
use Rattle.rbd_header.specs.Header.{view_of}
use Rattle.rbd_header.specs.declared.view.View.{View}
use Rattle.rbd_layout.specs.Pieces.{pieces_of}
use Rattle.rbd_layout.specs.declared.types.Piece.{Piece}
use Rattle.rbd_machine.specs.Label as label
use Rattle.rbd_machine.specs.Plan.{Plan, Return, Goto}
use Rattle.rbd_commands.specs.declared.refusal.Refusal.TheVariants as refusal
use Rattle.rbd_machine.specs.Steps.{on_bits, owned, refused}
use Rattle.rbd_machine.specs.declared.reason.Reason.TheVariants as reason
use Rattle.rbd_meaning.specs.Range.{out_of_range}
use Rattle.rbd_meaning.specs.Removals.{image_removal_refuses, link_of, may_be_gone, removal, removing_journal, removing_map_of, removing_object, unlinking, used_objects, watchers_refuse}
use Rattle.rbd_pieces.specs.Gather.{gather, on_bytes}
use Rattle.rbd_image.specs.Remove.{holding_it, joining_its_line, looked_at_it, on_gone, on_watchers, removal_plan, remove_each, remove_image, remove_owned, unless_watched}
use Rattle.rbd_data.specs.Read.{closing, gathering, looking, on_closing, pass, read_by_header, viewing}
use Rattle.rbd_data.specs.Seen.{Seen, seen_at, shown_bytes}
use Rattle.rbd_catalog.specs.Follows.{Follows, MayAsk, Outside, Joined, Held, Progress}
use Rattle.rbd_catalog.specs.Profile.{Profile, profile}
use Rattle.rbd_catalog.proofs.Walks.{follows_not_there, follows_on_header, follows_on_id, follows_unless}

-- ---- rm

module _ (site : SiteId) (session : ℕ) (name : List ℕ) where
  abbrev pub row : Profile
  row = profile (command.Remove name)

  abbrev AreAsked : List Op → Type 0
  AreAsked [] = Unit {0}
  AreAsked (o ∷ ops) = MayAsk row Held reason.Own o × AreAsked ops

  on_gone_follows : (o : Op) (next : Plan) → Follows row Held next → (a : Answer) → Follows row Held (on_gone o next a)
  on_gone_follows o next follows answer.Done = follows
  on_gone_follows o next follows answer.Absent = by (may_be_gone o)
    where
      by : (b : Bool) → Follows row Held (cond b next (refused refusal.NoImage))
      by true = follows
      by false = tt
  on_gone_follows o next follows a = follows_not_there row Held a

  each_follows : (ops : List Op) (next : Plan) → AreAsked ops → Follows row Held next → Follows row Held (remove_each site ops next)
  each_follows [] next are follows = follows
  each_follows (o ∷ ops) next (may, are) follows = (may, λ a. on_gone_follows o (remove_each site ops next) (each_follows ops next are follows) a)

  module _ (image : ℕ) where
    behind_link : (link : Option ParentLink) (ops : List Op) → AreAsked ops → AreAsked (unlinking image link ++ ops)
    behind_link None ops are = are
    behind_link (Some link) ops are = (record { by_itself = refl; kind = inr (inr (inr (inr (inr (inr (inl refl)))))); recorded = tt; own = tt; first = tt }, are)

    behind_objects : (used : List ℕ) (ops : List Op) → AreAsked ops → AreAsked (map (removing_object image) used ++ ops)
    behind_objects [] ops are = are
    behind_objects (n ∷ used) ops are =
        (record { by_itself = refl; kind = inr (inr (inr (inr (inr (inr (inr (inl refl))))))); recorded = tt; own = tt; first = tt }, behind_objects used ops are)

    behind_maps : (snaps : List SnapView) (ops : List Op) → AreAsked ops → AreAsked (map (removing_map_of image) snaps ++ ops)
    behind_maps [] ops are = are
    behind_maps (s ∷ snaps) ops are =
        (record { by_itself = refl; kind = inr (inr (inr (inr (inr (inr (inr (inr (inl refl)))))))); recorded = tt; own = tt; first = tt }, behind_maps snaps ops are)

    of_journal : (journal : Bool) → AreAsked (removing_journal image journal)
    of_journal false = tt
    of_journal true = (record { by_itself = refl; kind = inr (inr (inr (inr (inr (inr (inr (inr (inr (inl refl))))))))); recorded = tt; own = tt; first = tt }, tt)

    removal_is_asked : (h : HeaderView) (bits : List ℕ) → AreAsked (removal image h bits)
    removal_is_asked h bits =
        let journals = removing_journal image h.journal in
        let maps = op.Map image (states.Remove None) ∷ (map (removing_map_of image) h.snaps ++ journals) in (
          record { by_itself = refl; kind = inr (inr (inr (inr (inl refl)))); recorded = tt; own = tt; first = tt },
          (
            record { by_itself = refl; kind = inr (inr (inr (inr (inr (inl refl))))); recorded = tt; own = tt; first = tt },
            behind_link (link_of h) (map (removing_object image) (used_objects bits) ++ maps)
                (behind_objects (used_objects bits) maps (
                  record { by_itself = refl; kind = inr (inr (inr (inr (inr (inr (inr (inr (inl refl)))))))); recorded = tt; own = tt; first = tt },
                  behind_maps h.snaps journals (of_journal h.journal),
                )),
          ),
        )

    on_bits_follows : (next : List ℕ → Plan) → ((bits : List ℕ) → Follows row Held (next bits)) → (a : Answer) → Follows row Held (on_bits next a)
    on_bits_follows next follows (answer.Bits bits) = follows bits
    on_bits_follows next follows a = follows_not_there row Held a

    pub remove_follows : (h : HeaderView) → Follows row Held (removal_plan site image h (Return reply.Done))
    remove_follows h = (
      record { by_itself = refl; kind = inr (inr (inr (inl refl))); recorded = tt; own = tt; first = tt },
      λ a.
          on_bits_follows (λ bits. remove_each site (removal image h bits) (Return reply.Done)) (λ bits.
          each_follows (removal image h bits) (Return reply.Done) (removal_is_asked h bits) refl) a,
    )

    watchers_follow : (at : Progress) (next : Plan) → Follows row at next → (a : Answer) → Follows row at (on_watchers session next a)
    watchers_follow at next follows (answer.Instances watchers) = follows_unless row at (watchers_refuse session watchers) next follows
    watchers_follow at next follows a = follows_not_there row at a

    owned_follows : (h : HeaderView) → Follows row Held (remove_owned site session image h)
    owned_follows h = (
      record { by_itself = refl; kind = inr (inr (inl refl)); recorded = tt; own = tt; first = tt },
      λ a. watchers_follow Held (removal_plan site image h (Return reply.Done)) (remove_follows h) a,
    )

    pub line_follows : Follows row Outside (joining_its_line site session image)
    line_follows = (
      (refl, refl),
      (
        record { by_itself = refl; kind = inr (inl refl); recorded = tt; own = tt; first = refl },
        λ a.
            follows_on_header row Joined (looked_at_it site session image) (λ h.
            follows_unless row Joined (image_removal_refuses h) (unless_watched site session image (holding_it site session image)) (
              record { by_itself = refl; kind = inr (inr (inl refl)); recorded = tt; own = tt; first = refl },
              λ told.
                  watchers_follow Joined (holding_it site session image) (
                    refl,
                    (
                      record { by_itself = refl; kind = inr (inl refl); recorded = tt; own = tt; first = tt },
                      λ own.
                          follows_on_header row Held (λ g. owned image_removal_refuses (remove_owned site session) image g) (λ g.
                          follows_unless row Held (image_removal_refuses g) (remove_owned site session image g) (owned_follows g)) own,
                    ),
                  ) told,
            )) a,
      ),
    )

  pub rm_follows : Follows row Outside (remove_image site session name)
  rm_follows = (
    record { by_itself = refl; kind = inl refl; recorded = tt; own = tt; first = refl },
    λ found. follows_on_id row Outside (joining_its_line site session) (λ image. line_follows image) found,
  )

-- ---- read

module _ (site : SiteId) (name : List ℕ) (snap : Option (List ℕ)) (from len : ℕ) where
  abbrev pub read_row : Profile
  read_row = profile (command.Read name snap from len)

  bytes_follow : (parts : List Part) (next : List ℕ → Plan) → ((bytes : List ℕ) → Follows read_row Outside (next bytes)) → (a : Answer) → Follows read_row Outside (on_bytes parts next a)
  bytes_follow parts next follows (answer.Bytes bytes) = follows bytes
  bytes_follow parts next follows answer.Absent = follows (replicate (parts_len parts) 0)
  bytes_follow parts next follows a = follows_not_there read_row Outside a

  gather_follows : (pieces : List Piece) (image : ℕ) (at_snap : Option ℕ) (read : List ℕ) (next : List ℕ → Plan)
      → ((bytes : List ℕ) → Follows read_row Outside (next bytes)) → Follows read_row Outside (gather site image at_snap pieces read next)
  gather_follows [] image at_snap read next follows = follows read
  gather_follows (p ∷ pieces) image at_snap read next follows = (
    record { by_itself = refl; kind = inr (inr (inl refl)); recorded = tt; own = tt; first = tt },
    λ a.
        bytes_follow p.parts (λ bytes. gather site image at_snap pieces (read ++ bytes) next)
        (λ bytes. gather_follows pieces image at_snap (read ++ bytes) next follows) a,
  )

  closing_follows : (seen : Seen) (read : List ℕ) (a : Answer) → Follows read_row Outside (on_closing seen read a)
  closing_follows seen read (answer.Header h) = by (eqb h.generation seen.generation)
    where
      by : (b : Bool) → Follows read_row Outside (cond b (Return (reply.Bytes (shown_bytes seen read))) (Goto label.Begin))
      by true = refl
      by false = refl
  closing_follows seen read answer.Absent = refl
  closing_follows seen read a = follows_not_there read_row Outside a

  viewing_follows : (image : ℕ) (h : HeaderView) (e : Extent) (view : Option View) → Follows read_row Outside (viewing site image h e view)
  viewing_follows image h e None = tt
  viewing_follows image h e (Some view) =
      follows_unless read_row Outside (out_of_range e view.size) (gathering site image h e view)
      (gather_follows (pieces_of h.layout e) image view.snap [] (closing site image (seen_at h e)) (λ read. (
        record { by_itself = refl; kind = inr (inl refl); recorded = tt; own = tt; first = tt },
        λ a. closing_follows (seen_at h e) read a,
      )))

  pub read_follows : (e : Extent) → Follows read_row Outside (pass site name snap e)
  read_follows e = (
    record { by_itself = refl; kind = inl refl; recorded = tt; own = tt; first = tt },
    λ found.
        follows_on_id read_row Outside (looking site snap e) (λ image. (
          record { by_itself = refl; kind = inr (inl refl); recorded = tt; own = tt; first = tt },
          λ told. follows_on_header read_row Outside (read_by_header site snap e image) (λ h. viewing_follows image h e (view_of h snap)) told,
        )) found,
  )
