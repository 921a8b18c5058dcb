-- The other commands follow their rows: those that zero, set a size, and change snapshots, and the
-- looks.
use Rattle.std.proofs.Common.{◌≡◌, refl, ℕ, ◌+◌, true, false, Bool, cond, List, [], ◌∷◌, inl, inr, Option, Some, None, replicate}
use Rattle.std.specs.Prelude.{nat_le}
use Rattle.rbd_commands.specs.declared.command.Command.TheVariants as command
use Rattle.rbd_commands.specs.declared.command.Shape.{Shape}
use Rattle.rbd_commands.specs.declared.refusal.Refusal.TheVariants as refusal
use Rattle.rbd_kinds.specs.declared.answer.Answer.{Answer}
use Rattle.rbd_kinds.specs.declared.answer.Answer.TheVariants as answer
use Rattle.rbd_kinds.specs.declared.header.HeaderView.{HeaderView}
use Rattle.rbd_kinds.specs.declared.header.SnapContext.{SnapContext}
use Rattle.rbd_kinds.specs.declared.header.SnapView.{SnapView}
use Rattle.rbd_kinds.specs.declared.id.SiteId.{SiteId}
use Rattle.rbd_kinds.specs.declared.journal.JournalEvent.{JournalEvent}
use Rattle.rbd_kinds.specs.declared.journal.JournalEvent.TheVariants as event
use Rattle.rbd_kinds.specs.declared.layout.Part.{Part}
use Rattle.rbd_kinds.specs.declared.operation.Op.{Op}
use Rattle.rbd_kinds.specs.declared.operation_kind.OpKind.TheVariants as kind
use Rattle.rbd_kinds.specs.declared.reply.Reply.{Reply}
use Rattle.rbd_kinds.specs.declared.reply.Reply.TheVariants as reply
use Rattle.rbd_kinds.specs.declared.sharing.Sharing.{Sharing}
use Rattle.rbd_kinds.specs.declared.sharing.Sharing.TheVariants as sharing
use Rattle.rbd_kinds.specs.Header.{snap_named}
use Rattle.rbd_kinds.specs.OperationKind.{kind_of}
use Rattle.rbd_kinds.specs.Parts.{parts_len}
use Rattle.rbd_header.specs.Header.{context_of, new_header}
use Rattle.rbd_layout.specs.Asked.{layout_of}
use Rattle.rbd_layout.specs.Pieces.{pieces_of}
use Rattle.rbd_layout.specs.declared.types.Piece.{Piece}
use Rattle.rbd_machine.specs.Plan.{Plan, Return}
use Rattle.rbd_machine.specs.Steps.{applied, on_bits, refused}
use Rattle.rbd_machine.specs.declared.reason.Reason.TheVariants as reason
use Rattle.rbd_meaning.specs.Count.{object_count}
use Rattle.rbd_meaning.specs.Listings.{shown_snaps, used_among}
use Rattle.rbd_meaning.specs.Range.{extent_at}
use Rattle.rbd_meaning.specs.Resizes.{resize_refuses}
use Rattle.rbd_meaning.specs.Rollbacks.{at_size, rollback_refuses}
use Rattle.rbd_meaning.specs.Snaps.{create_refuses, remove_refuses}
use Rattle.rbd_meaning.specs.Writes.{write_refuses}
use Rattle.rbd_parts.specs.Parts.{bytes_for}
use Rattle.rbd_pieces.specs.Gather.{on_bytes}
use Rattle.rbd_pieces.specs.Write.{writing}
use Rattle.rbd_data.specs.Write.{put_plan, write, write_pieces}
use Rattle.rbd_pieces.specs.Full.{cut_bytes, full_by, full_piece, writing_full}
use Rattle.rbd_pieces.specs.Shrink.{pieces_from}
use Rattle.rbd_pieces.specs.Size as size
use Rattle.rbd_pieces.specs.Zero.{emptying, head_of, is_inside, is_whole, removing, setting, zero_all, zero_by, zero_piece, zeroing}
use Rattle.rbd_image.specs.Create.{drawing, making, mapping, on_drawn}
use Rattle.rbd_image.specs.Listing.{counting, list_names, measuring, on_names, on_renamed, rename, show_header, show_used, showing}
use Rattle.rbd_snap.specs.Snap as snaps
use Rattle.rbd_data.specs.Discard as discards
use Rattle.rbd_image.specs.Resize.{set_size, size_change}
use Rattle.rbd_snap.specs.Rollback.{restore_all, restore_pieces, roll_back_listed, roll_back_to, rollback}
use Rattle.rbd_catalog.specs.Follows.{EndsAs, Follows, IsAmong, MayAsk, MayGoFirst, MayRecord, Outside, Held, Noted, Applied, Progress, TakesNoLock, last}
use Rattle.rbd_catalog.specs.Plans.{create_at, keeps_limits}
use Rattle.rbd_catalog.specs.Profile.{Answers, Profile, ShowsHeader, ShowsSnaps, is_beside, look_row, profile}
use Rattle.rbd_catalog.proofs.Walks.{MayLook, change_follows, follows_not_there, follows_on_done, follows_on_header, follows_on_id}

-- ---- while its event is noted a request may ask for each kind of its row

first_then : (joins : Option Sharing) (o : Op) → MayGoFirst joins Noted o
first_then None o = tt
first_then (Some sharing) o = tt

recorded_then : (event : Option JournalEvent) (recorded : Bool) → MayRecord event Noted recorded
recorded_then None recorded = tt
recorded_then (Some event) false = tt
recorded_then (Some event) true = refl

pub noted_may : (p : Profile) (o : Op) → IsAmong (kind_of o) p.kinds → TakesNoLock o → MayAsk p Noted reason.Own o
noted_may p o among own = record { by_itself = refl; kind = among; recorded = recorded_then p.event _; own = own; first = first_then p.joins o }

-- ---- parts

record ZeroKinds (p : Profile) : Type 0 where
  sets : IsAmong kind.MapSet p.kinds
  zeros : IsAmong kind.DataZero p.kinds
  empties : IsAmong kind.DataEmpty p.kinds
  removes : IsAmong kind.DataRemove p.kinds

record SizeKinds (p : Profile) : Type 0 where
  zero : ZeroKinds p
  grows : IsAmong kind.MapResize p.kinds
  looks : IsAmong kind.MapGet p.kinds
  sizes : IsAmong kind.HeaderSetSize p.kinds

on_bits_follows : (p : Profile) (at : Progress) (next : List ℕ → Plan) → ((bits : List ℕ) → Follows p at (next bits)) → (a : Answer) → Follows p at (on_bits next a)
on_bits_follows p at next follows (answer.Bits bits) = follows bits
on_bits_follows p at next follows a = follows_not_there p at a

on_bytes_follows : (p : Profile) (at : Progress) (parts : List Part) (next : List ℕ → Plan) → ((bytes : List ℕ) → Follows p at (next bytes)) → (a : Answer) → Follows p at (on_bytes parts next a)
on_bytes_follows p at parts next follows (answer.Bytes bytes) = follows bytes
on_bytes_follows p at parts next follows answer.Absent = follows (replicate (parts_len parts) 0)
on_bytes_follows p at parts next follows a = follows_not_there p at a

module _ (p : Profile) (may : ZeroKinds p) (site : SiteId) (image : ℕ) where
  module _ (context : SnapContext) (piece : Piece) where
    sets : (state : ℕ) (next : Plan) → Follows p Noted next → Follows p Noted (setting site image context piece state next)
    sets state next follows = (noted_may p _ may.sets tt, λ a. follows_on_done p Noted next follows a)

    zeros : (must : Bool) (next : Plan) → Follows p Noted next → Follows p Noted (zeroing site image context piece must next)
    zeros must next follows = (noted_may p _ may.zeros tt, λ a. follows_on_done p Noted next follows a)

    empties : (next : Plan) → Follows p Noted next → Follows p Noted (emptying site image context piece next)
    empties next follows = (noted_may p _ may.empties tt, λ a. follows_on_done p Noted next follows a)

    removes : (next : Plan) → Follows p Noted next → Follows p Noted (removing site image context piece next)
    removes next follows = (noted_may p _ may.removes tt, λ a. follows_on_done p Noted next follows a)

    all_follows : (inside : Bool) (next : Plan) → Follows p Noted next → Follows p Noted (zero_all site image context piece inside next)
    all_follows true next follows = sets 1 (emptying site image context piece next) (empties next follows)
    all_follows false next follows =
        sets 2 (removing site image context piece (setting site image context piece 0 next)) (removes (setting site image context piece 0 next) (sets 0 next follows))

    by_follows : (whole inside : Bool) (next : Plan) → Follows p Noted next → Follows p Noted (zero_by site image context piece whole inside next)
    by_follows true inside next follows = all_follows inside next follows
    by_follows false true next follows = sets 1 (zeroing site image context piece true next) (zeros true next follows)
    by_follows false false next follows = zeros false next follows

  module _ (h : HeaderView) where
    zero_follows : (piece : Piece) (next : Plan) → Follows p Noted next → Follows p Noted (zero_piece site image h piece next)
    zero_follows piece next follows = by_follows (context_of h) piece (is_whole h piece) (is_inside h piece.object) next follows

    zeros_follow : (pieces : List Piece) (next : Plan) → Follows p Noted next → Follows p Noted (size.zero_pieces site image h pieces next)
    zeros_follow [] next follows = follows
    zeros_follow (piece ∷ pieces) next follows = zero_follows piece (size.zero_pieces site image h pieces next) (zeros_follow pieces next follows)

    in_turn : is_beside p.joins ≡ true → (pieces : List Piece) (next : Plan) → Follows p Noted next → Follows p Noted (discards.zero_in_turns site image h pieces next)
    in_turn beside [] next follows = follows
    in_turn beside (piece ∷ pieces) next follows = ((refl, beside), zero_follows piece (discards.zero_in_turns site image h pieces next) (in_turn beside pieces next follows))

    -- ---- all bytes of an object

    full_follows_by : IsAmong kind.DataWriteFull p.kinds → (piece : Piece) (left : List ℕ) (next : Plan) → Follows p Noted next → Follows p Noted (full_by site image h piece left next)
    full_follows_by among piece [] next follows = all_follows (context_of h) piece (is_inside h piece.object) next follows
    full_follows_by among piece (byte ∷ left) next follows = (
      noted_may p _ may.sets tt,
      λ marked.
          follows_on_done p Noted (writing_full site image (context_of h) piece.object (byte ∷ left) next)
          (noted_may p _ among tt, λ a. follows_on_done p Noted next follows a) marked,
    )

    restores : IsAmong kind.DataRead p.kinds → IsAmong kind.DataWriteFull p.kinds → (snap : ℕ) (pieces : List Piece) (next : Plan) → Follows p Noted next
        → Follows p Noted (restore_pieces site image h snap pieces next)
    restores reads fulls snap [] next follows = follows
    restores reads fulls snap (piece ∷ pieces) next follows = (
      noted_may p _ reads tt,
      λ a.
          on_bytes_follows p Noted piece.parts (λ bytes. full_piece site image h piece bytes (restore_pieces site image h snap pieces next)) (λ bytes.
          full_follows_by fulls piece (cut_bytes bytes) (restore_pieces site image h snap pieces next) (restores reads fulls snap pieces next follows)) a,
    )

-- ---- a size

module _ (p : Profile) (may : SizeKinds p) (site : SiteId) (image : ℕ) (h : HeaderView) (to : ℕ) (next : Plan) (follows : Follows p Noted next) where
  sizing_follows : Follows p Noted (size.sizing site image to next)
  sizing_follows = (noted_may p _ may.sizes tt, λ a. follows_on_done p Noted next follows a)

  resize_follows_by : (grows : Bool) (objects : ℕ) → Follows p Noted (size.resize_by grows site image h to objects next)
  resize_follows_by true objects = (noted_may p _ may.grows tt, λ a. follows_on_done p Noted (size.sizing site image to next) sizing_follows a)
  resize_follows_by false objects = (
    noted_may p _ may.looks tt,
    λ a.
        on_bits_follows p Noted (size.cutting site image h to next) (λ bits.
        zeros_follow p may.zero site image h (pieces_from h to bits) (size.sizing site image to next) sizing_follows) a,
  )

  resize_follows : (objects : ℕ) → Follows p Noted (size.resize site image h to objects next)
  resize_follows objects = resize_follows_by (nat_le h.size to) objects

-- ---- write, fill

module _ (p : Profile) (site : SiteId) (name : List ℕ) (from : ℕ) (bytes : List ℕ) (may : MayLook p sharing.Shared) (sets : IsAmong kind.MapSet p.kinds) (writes : IsAmong kind.DataWrite p.kinds)
    (notes : p.event ≡ Some (event.Write from bytes)) (beside : is_beside p.joins ≡ true) (ends : Applied ≡ last p) where
  pieces_follow : (image : ℕ) (h : HeaderView) (pieces : List Piece) (next : Plan) → Follows p Noted next → Follows p Noted (write_pieces site image h from bytes pieces next)
  pieces_follow image h [] next follows = follows
  pieces_follow image h (piece ∷ pieces) next follows =
      let rest = write_pieces site image h from bytes pieces next in (
        (refl, beside),
        (
          noted_may p _ sets tt,
          λ marked.
              follows_on_done p Noted (writing site image (context_of h) piece (bytes_for piece.parts from bytes) rest)
              (noted_may p _ writes tt, λ a. follows_on_done p Noted rest (pieces_follow image h pieces next follows) a) marked,
        ),
      )

  put_follows : Follows p Outside (write site name from bytes)
  put_follows =
      change_follows p site sharing.Shared may (write_refuses (extent_at from bytes)) (put_plan site from bytes) name
      (λ image h. (refl, notes, pieces_follow image h (pieces_of h.layout (extent_at from bytes)) (applied site image) (refl, ends)))

module _ (site : SiteId) (name : List ℕ) (from : ℕ) where
  pub write_follows : (bytes : List ℕ) → Follows (profile (command.Write name from bytes)) Outside (write site name from bytes)
  write_follows bytes =
      put_follows (profile (command.Write name from bytes)) site name from bytes (record { joins = refl; finds = inl refl; looks = inr (inl refl); records_none = λ at. tt })
      (inr (inr (inl refl))) (inr (inr (inr (inl refl)))) refl refl refl

  pub fill_follows : (len byte : ℕ) → Follows (profile (command.Fill name from len byte)) Outside (write site name from (replicate len byte))
  fill_follows len byte =
      put_follows (profile (command.Fill name from len byte)) site name from (replicate len byte) (record { joins = refl; finds = inl refl; looks = inr (inl refl); records_none = λ at. tt })
      (inr (inr (inl refl))) (inr (inr (inr (inl refl)))) refl refl refl

-- ---- discard

module _ (site : SiteId) (name : List ℕ) (from len : ℕ) where
  pub discard_follows : Follows (profile (command.Discard name from len)) Outside (discards.discard site name (record { at = from; len = len }))
  discard_follows =
      change_follows (profile (command.Discard name from len)) site sharing.Discard (record { joins = refl; finds = inl refl; looks = inr (inl refl); records_none = λ at. tt })
      (write_refuses (record { at = from; len = len })) (discards.zero site (record { at = from; len = len })) name (λ image h. (
        refl,
        refl,
        in_turn (profile (command.Discard name from len))
            (record { sets = inr (inr (inl refl)); zeros = inr (inr (inr (inl refl))); empties = inr (inr (inr (inr (inl refl)))); removes = inr (inr (inr (inr (inr (inl refl))))) })
            site image h refl (pieces_of h.layout (record { at = from; len = len })) (applied site image) (refl, refl),
      ))

-- ---- resize, snap rollback

module _ (site : SiteId) (name : List ℕ) where
  pub size_follows : (to : ℕ) → Follows (profile (command.Resize name to)) Outside (size_change site name to)
  size_follows to =
      change_follows (profile (command.Resize name to)) site sharing.Alone (record { joins = refl; finds = inl refl; looks = inr (inl refl); records_none = λ at. tt })
      (resize_refuses to) (set_size site to) name (λ image h. (
        refl,
        refl,
        resize_follows (profile (command.Resize name to)) (record {
          zero = record {
            sets = inr (inr (inr (inr (inr (inl refl)))));
            zeros = inr (inr (inr (inr (inr (inr (inl refl))))));
            empties = inr (inr (inr (inr (inr (inr (inr (inl refl)))))));
            removes = inr (inr (inr (inr (inr (inr (inr (inr (inl refl))))))));
          };
          grows = inr (inr (inl refl));
          looks = inr (inr (inr (inl refl)));
          sizes = inr (inr (inr (inr (inl refl))));
        }) site image h to (applied site image) (refl, refl) (object_count h.layout to),
      ))

  module _ (snap : List ℕ) where
    abbrev pub row_of_rollback : Profile
    row_of_rollback = profile (command.SnapRollback name snap)

    kinds_of_rollback : SizeKinds row_of_rollback
    kinds_of_rollback = record {
      zero = record {
        sets = inr (inr (inr (inr (inr (inr (inr (inl refl)))))));
        zeros = inr (inr (inr (inr (inr (inr (inr (inr (inl refl))))))));
        empties = inr (inr (inr (inr (inr (inr (inr (inr (inr (inl refl)))))))));
        removes = inr (inr (inr (inr (inr (inr (inr (inr (inr (inr (inl refl))))))))));
      };
      grows = inr (inr (inr (inr (inl refl))));
      looks = inr (inr (inr (inr (inr (inl refl)))));
      sizes = inr (inr (inr (inr (inr (inr (inl refl))))));
    }

    listed_follows : (image : ℕ) (h : HeaderView) (listed : Option SnapView) → Follows row_of_rollback Held (roll_back_listed site snap image h listed)
    listed_follows image h None = tt
    listed_follows image h (Some listed) = (
      refl,
      refl,
      resize_follows row_of_rollback kinds_of_rollback site image h listed.size (restore_all site image (at_size listed.size h) listed.id (applied site image))
          (restores row_of_rollback kinds_of_rollback.zero site image (at_size listed.size h) (inr (inr (inl refl))) (inr (inr (inr (inl refl)))) listed.id
          (pieces_of (at_size listed.size h).layout (head_of (at_size listed.size h))) (applied site image) (refl, refl)) (object_count h.layout listed.size),
    )

    pub rollback_follows : Follows row_of_rollback Outside (rollback site name snap)
    rollback_follows =
        change_follows row_of_rollback site sharing.Alone (record { joins = refl; finds = inl refl; looks = inr (inl refl); records_none = λ at. tt })
        (rollback_refuses snap) (roll_back_to site snap) name (λ image h. listed_follows image h (snap_named h.snaps snap))

    -- ---- snap create, snap rm

    on_snap_follows : (p : Profile) (next : Plan) → Follows p Noted next → (a : Answer) → Follows p Noted (snaps.on_snap next a)
    on_snap_follows p next follows (answer.Snap id) = follows
    on_snap_follows p next follows a = follows_not_there p Noted a

    on_gone_follows : (p : Profile) (next : Plan) → Follows p Noted next → (a : Answer) → Follows p Noted (snaps.on_gone next a)
    on_gone_follows p next follows answer.Done = follows
    on_gone_follows p next follows answer.Absent = follows
    on_gone_follows p next follows a = follows_not_there p Noted a

    abbrev pub row_of_take : Profile
    row_of_take = profile (command.SnapCreate name snap)

    taking_follows : (image : ℕ) → Follows row_of_take Noted (snaps.taking_snap site snap image (applied site image))
    taking_follows image = (noted_may row_of_take _ (inr (inr (inr (inr (inl refl))))) tt, λ a. on_snap_follows row_of_take (applied site image) (refl, refl) a)

    copying_follows : (image id : ℕ) → Follows row_of_take Noted (snaps.copying site snap image id (applied site image))
    copying_follows image id = (
      noted_may row_of_take _ (inr (inr (inl refl))) tt,
      λ a.
          on_bits_follows row_of_take Noted (snaps.putting site snap image id (applied site image)) (λ bits. (
            noted_may row_of_take _ (inr (inr (inr (inl refl)))) tt,
            λ put. follows_on_done row_of_take Noted (snaps.taking_snap site snap image (applied site image)) (taking_follows image) put,
          )) a,
    )

    pub take_follows : Follows row_of_take Outside (snaps.snap_plan site (command.SnapCreate name snap))
    take_follows =
        change_follows row_of_take site sharing.Alone (record { joins = refl; finds = inl refl; looks = inr (inl refl); records_none = λ at. tt })
        (create_refuses snap) (snaps.take site snap) name (λ image h. (refl, refl, copying_follows image (h.snap_seq + 1)))

    abbrev pub row_of_removal : Profile
    row_of_removal = profile (command.SnapRemove name snap)

    removal_follows : (image : ℕ) (listed : Option SnapView) → Follows row_of_removal Held (snaps.remove_listed site snap image listed)
    removal_follows image None = tt
    removal_follows image (Some listed) = (
      refl,
      refl,
      (
        noted_may row_of_removal _ (inr (inr (inl refl))) tt,
        λ a.
            follows_on_done row_of_removal Noted (snaps.unmapping site image listed.id (applied site image))
            (noted_may row_of_removal _ (inr (inr (inr (inl refl)))) tt, λ gone. on_gone_follows row_of_removal (applied site image) (refl, refl) gone) a,
      ),
    )

    pub snap_removal_follows : Follows row_of_removal Outside (snaps.snap_plan site (command.SnapRemove name snap))
    snap_removal_follows =
        change_follows row_of_removal site sharing.Alone (record { joins = refl; finds = inl refl; looks = inr (inl refl); records_none = λ at. tt })
        (remove_refuses snap) (snaps.remove_snap_plan site snap) name (λ image h. removal_follows image (snap_named h.snaps snap))

-- ---- ls, info, snap ls, du, rename, create

module _ (site : SiteId) (name : List ℕ) where
  names_follow : (a : Answer) → Follows (profile command.List) Outside (on_names (λ names. Return (reply.Names names)) a)
  names_follow (answer.Names names) = refl
  names_follow a = follows_not_there (profile command.List) Outside a

  pub list_follows : Follows (profile command.List) Outside (list_names site)
  list_follows = (record { by_itself = refl; kind = inl refl; recorded = tt; own = tt; first = tt }, names_follow)

  -- what shows a header has a row that differs in its answer alone
  module _ (answers : Answers) (shows : HeaderView → Reply) where
    abbrev row_of_shown : Profile
    row_of_shown = look_row (Some name) (kind.DirFind ∷ kind.HeaderGet ∷ []) answers 2

    shown_follows : ((h : HeaderView) → EndsAs row_of_shown Outside (shows h)) → Follows row_of_shown Outside (show_header site name shows)
    shown_follows ends = (
      record { by_itself = refl; kind = inl refl; recorded = tt; own = tt; first = tt },
      λ a.
          follows_on_id row_of_shown Outside (showing site shows) (λ image. (
            record { by_itself = refl; kind = inr (inl refl); recorded = tt; own = tt; first = tt },
            λ told. follows_on_header row_of_shown Outside (λ h. Return (shows h)) ends told,
          )) a,
    )

  pub info_follows : Follows (profile (command.Info name)) Outside (show_header site name reply.Info)
  info_follows = shown_follows ShowsHeader reply.Info (λ h. refl)

  pub snap_list_follows : Follows (profile (command.SnapList name)) Outside (show_header site name shown_snaps)
  snap_list_follows = shown_follows ShowsSnaps shown_snaps (λ h. refl)

  pub used_follows : Follows (profile (command.Used name)) Outside (show_used site name)
  used_follows = (
    record { by_itself = refl; kind = inl refl; recorded = tt; own = tt; first = tt },
    λ a.
        follows_on_id (profile (command.Used name)) Outside (measuring site) (λ image. (
          record { by_itself = refl; kind = inr (inl refl); recorded = tt; own = tt; first = tt },
          λ told.
              follows_on_header (profile (command.Used name)) Outside (λ h. counting site image (object_count h.layout h.size)) (λ h. (
                record { by_itself = refl; kind = inr (inr (inl refl)); recorded = tt; own = tt; first = tt },
                λ bits. on_bits_follows (profile (command.Used name)) Outside (λ it. Return (reply.Used (used_among (object_count h.layout h.size) it) (object_count h.layout h.size))) (λ it. refl) bits,
              )) told,
        )) a,
  )

  renamed_follows : (to : List ℕ) (a : Answer) → Follows (profile (command.Rename name to)) Outside (on_renamed a)
  renamed_follows to answer.Done = refl
  renamed_follows to answer.Exists = tt
  renamed_follows to a = follows_not_there (profile (command.Rename name to)) Outside a

  pub rename_follows : (to : List ℕ) → Follows (profile (command.Rename name to)) Outside (rename site name to)
  rename_follows to = (record { by_itself = refl; kind = inl refl; recorded = tt; own = tt; first = tt }, renamed_follows to)

  module _ (bytes : ℕ) (shape : Shape) where
    abbrev pub row_of_create : Profile
    row_of_create = profile (command.Create name bytes shape)

    drawn_follows : (next : ℕ → Plan) → ((image : ℕ) → Follows row_of_create Outside (next image)) → (a : Answer) → Follows row_of_create Outside (on_drawn next a)
    drawn_follows next follows (answer.Id image) = follows image
    drawn_follows next follows answer.Exists = tt
    drawn_follows next follows answer.Full = tt
    drawn_follows next follows a = follows_not_there row_of_create Outside a

    drawing_follows : (objects : ℕ) (h : HeaderView) → h.owner ≡ None → Follows row_of_create Outside (drawing site name objects h)
    drawing_follows objects h nobodys = (
      record { by_itself = refl; kind = inl refl; recorded = tt; own = tt; first = tt },
      λ a.
          drawn_follows (mapping site objects h) (λ image. (
            record { by_itself = refl; kind = inr (inl refl); recorded = tt; own = tt; first = tt },
            λ mapped.
                follows_on_done row_of_create Outside (making site h image) (
                  record { by_itself = refl; kind = inr (inr (inl refl)); recorded = tt; own = nobodys; first = tt },
                  λ made. follows_on_done row_of_create Outside (Return reply.Done) refl made,
                ) mapped,
          )) a,
    )

    pub create_follows : Follows row_of_create Outside (create_at site name bytes (layout_of shape))
    create_follows = by (keeps_limits (layout_of shape) bytes)
      where
        by : (b : Bool) → Follows row_of_create Outside (cond b (drawing site name (object_count (layout_of shape) bytes) (new_header (layout_of shape) bytes)) (refused refusal.BadShape))
        by true = drawing_follows (object_count (layout_of shape) bytes) (new_header (layout_of shape) bytes) refl
        by false = tt
