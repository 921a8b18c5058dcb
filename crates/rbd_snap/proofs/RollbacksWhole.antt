-- What a rollback has done when it is done.
use Rattle.std.proofs.Common.{◌≡◌, ◌⊎◌, inl, inr, ℕ, List, [], ◌∷◌, ◌++◌, Option, Some, None, refl, ap, sym, subst, ◌∙◌, append_assoc}
use Rattle.std.proofs.lemmas.List.{append-nil}
use Rattle.rbd_kinds.specs.declared.sharing.Sharing.TheVariants as sharing
use Rattle.rbd_kinds.specs.declared.answer.Answer.{Answer}
use Rattle.rbd_kinds.specs.declared.answer.Answer.TheVariants as answer
use Rattle.rbd_kinds.specs.declared.header.HeaderView.{HeaderView}
use Rattle.rbd_kinds.specs.declared.header.SnapView.{SnapView}
use Rattle.rbd_kinds.specs.declared.id.SiteId.{SiteId}
use Rattle.rbd_kinds.specs.declared.journal.JournalEvent.TheVariants as event
use Rattle.rbd_kinds.specs.declared.machine.Fed.{Fed}
use Rattle.rbd_kinds.specs.declared.reply.Reply.TheVariants as reply
use Rattle.rbd_kinds.specs.Form.{IsHeaderInForm}
use Rattle.rbd_kinds.specs.Header.{snap_named}
use Rattle.rbd_commands.specs.declared.refusal.Refusal.TheVariants as refusal
use Rattle.rbd_layout.specs.declared.types.Piece.{Piece}
use Rattle.rbd_layout.specs.Pieces.{pieces_of}
use Rattle.rbd_machine.specs.Objects.{data_read}
use Rattle.rbd_machine.specs.Path.{Answered, IsWalk, found, looked_at}
use Rattle.rbd_machine.specs.Plan.{Plan, Goto}
use Rattle.rbd_machine.specs.Refused.{AreGiven}
use Rattle.rbd_machine.specs.Steps.{applied}
use Rattle.rbd_machine.specs.declared.reason.Reason.TheVariants as reason
use Rattle.rbd_machine.proofs.Walked.{asked_to, changed, noted_to, refusal_ends_otherwise}
use Rattle.rbd_meaning.specs.Reads.{bytes_shown}
use Rattle.rbd_meaning.specs.Rollbacks.{AreRestored, IsRestored, RollsBack, at_size, rollback_refuses}
use Rattle.rbd_pieces.specs.Gather.{on_bytes}
use Rattle.rbd_pieces.specs.Full.{IsReplaced, full_piece}
use Rattle.rbd_pieces.specs.Size.{IsResized}
use Rattle.rbd_pieces.specs.Zero.{head_of}
use Rattle.rbd_pieces.proofs.Walked.{full_did}
use Rattle.rbd_meaning.specs.Count.{object_count}
use Rattle.rbd_snap.specs.Rollback.{restore_all, restore_pieces, roll_back, roll_back_listed, roll_back_to, rollback}
use Rattle.rbd_image.proofs.Built.{built_full}
use Rattle.rbd_meaning.proofs.Counts.{counts}
use Rattle.rbd_image.proofs.Splits.{Follows, Splits, Stays, follows_rules, splits}
use Rattle.rbd_image.proofs.ResizesWhole.{Done, Goes, nothing_more, own_in_form, resize_goes}

-- ---- parts, with what comes next

module _ (site : SiteId) (image : ℕ) (h : HeaderView) where
  full_goes : (p : Piece) (bytes : List ℕ) (next : Plan) (feds : List Fed) (steps : List Answered) → IsWalk Goto (full_piece site image h p bytes next) feds steps Done
      → Goes (IsReplaced site image h p bytes) next steps
  full_goes p bytes next feds steps walk = go (splits next (full_piece site image h p bytes Done) (full_piece site image h p bytes next) feds steps reply.Done follows walk)
    where
      follows : Follows next (full_piece site image h p bytes Done) (full_piece site image h p bytes next)
      follows = built_full (Follows next) (Follows next) (λ o. Unit {0}) (λ inside. Unit {0}) site image (follows_rules next site image) h p bytes Done next refl

      go : Splits next (full_piece site image h p bytes Done) steps reply.Done ⊎ Stays next (full_piece site image h p bytes Done) steps reply.Done → Goes (IsReplaced site image h p bytes) next steps
      go (inl s) = record { first = s.first; rest = s.rest; more = s.more; are = s.are; is_part = full_did site image h p bytes s.feds s.first s.walk; later = s.later }
      go (inr s) = absurd (s.other refl)

  restored_piece : (snap : ℕ) (p : Piece) (a : Answer) (bytes : List ℕ) (next : Plan) (feds : List Fed) (rest steps : List Answered) → bytes_shown p.parts a ≡ Some bytes
      → steps ≡ record { site = site; op = data_read image (Some snap) p; answer = a } ∷ rest → IsWalk Goto (full_piece site image h p bytes next) feds rest Done → Goes (IsRestored site image h snap p) next steps
  restored_piece snap p a bytes next feds rest steps shown are walk =
      let g = full_goes p bytes next feds rest walk in
      let read : Answered = record { site = site; op = data_read image (Some snap) p; answer = a } in
      record {
        first = read ∷ g.first;
        rest = g.rest;
        more = g.more;
        are = are ∙ ap (λ s. read ∷ s) g.are;
        is_part = record {
          reading = read ∷ [];
          read = record { answer = a; bytes = bytes; shown = shown; are = refl };
          replacing = g.first;
          is_replaced = g.is_part;
          are = refl;
        };
        later = g.later;
      }

  restore_goes : (snap : ℕ) (p : Piece) (next : Plan) (feds : List Fed) (steps : List Answered) → IsWalk Goto (restore_pieces site image h snap (p ∷ []) next) feds steps Done → Goes (IsRestored site image h snap p) next steps
  restore_goes snap p next feds steps walk =
      let o = data_read image (Some snap) p in
      let w = asked_to reply.Done site reason.Own o (on_bytes p.parts (λ bytes. full_piece site image h p bytes next)) feds steps walk in
      go w.answer w.more w.rest w.are w.walk
    where
      go : (a : Answer) (more : List Fed) (rest : List Answered) → steps ≡ record { site = site; op = data_read image (Some snap) p; answer = a } ∷ rest
          → IsWalk Goto (on_bytes p.parts (λ bytes. full_piece site image h p bytes next) a) more rest Done → Goes (IsRestored site image h snap p) next steps
      go (answer.Bytes bytes) more rest are w = restored_piece snap p (answer.Bytes bytes) bytes next more rest steps refl are w
      go answer.Absent more rest are w = restored_piece snap p answer.Absent _ next more rest steps refl are w
      go answer.Fenced more rest are w = absurd (refusal_ends_otherwise Done tt refusal.Fenced more rest w)
      go _ more rest are w = absurd (refusal_ends_otherwise Done tt refusal.NoImage more rest w)

  pieces_go : (pieces : List Piece) (snap : ℕ) (next : Plan) (feds : List Fed) (steps : List Answered) → IsWalk Goto (restore_pieces site image h snap pieces next) feds steps Done → Goes (AreRestored site image h snap pieces) next steps
  pieces_go [] snap next feds steps walk = record { first = []; rest = steps; more = feds; are = refl; is_part = refl; later = walk }
  pieces_go (p ∷ pieces) snap next feds steps walk =
      let one = restore_goes snap p (restore_pieces site image h snap pieces next) feds steps walk in
      let others = pieces_go pieces snap next one.more one.rest one.later in
      record {
        first = one.first ++ others.first;
        rest = others.rest;
        more = others.more;
        are = one.are ∙ ap (λ s. one.first ++ s) others.are ∙ sym (append_assoc one.first others.first others.rest);
        is_part = record { first = one.first; others = others.first; is_first = one.is_part; are_others = others.is_part; are = refl };
        later = others.later;
      }

-- ---- acts

-- the size was set, and each object restored
pub record IsRolledBack (site : SiteId) (image : ℕ) (h : HeaderView) (listed : SnapView) (steps : List Answered) : Type 0 where
  pub resized : List Answered
  pub is_resized : IsResized site image h listed.size (object_count h.layout listed.size) resized
  pub restored : List Answered
  pub are_restored : AreRestored site image (at_size listed.size h) listed.id (pieces_of h.layout (head_of (at_size listed.size h))) restored
  pub are : steps ≡ resized ++ restored

roll_back_did : (site : SiteId) (image : ℕ) (h : HeaderView) (listed : SnapView) (feds : List Fed) (steps : List Answered) → IsWalk Goto (roll_back site image h listed (applied site image)) feds steps Done
    → IsRolledBack site image h listed steps
roll_back_did site image h listed feds steps walk =
    let head = at_size listed.size h in
    let r = resize_goes site image h listed.size (object_count h.layout listed.size) (restore_all site image head listed.id (applied site image)) feds steps walk in
    let p = pieces_go site image head (pieces_of h.layout (head_of head)) listed.id (applied site image) r.more r.rest r.later in
    record {
      resized = r.first;
      is_resized = r.is_part;
      restored = p.first;
      are_restored = p.is_part;
      are = r.are ∙ ap (λ s. r.first ++ s) (p.are ∙ ap (λ s. p.first ++ s) (nothing_more site image p.more p.rest p.later) ∙ append-nil p.first);
    }

-- by the snapshot that is listed
pub record IsListedBack (site : SiteId) (snap : List ℕ) (image : ℕ) (h : HeaderView) (steps : List Answered) : Type 0 where
  pub listed : SnapView
  pub is_listed : snap_named h.snaps snap ≡ Some listed
  pub did : IsRolledBack site image h listed steps

pub listed_did : (site : SiteId) (snap : List ℕ) (image : ℕ) (h : HeaderView) (feds : List Fed) (steps : List Answered) → IsWalk Goto (roll_back_to site snap image h) feds steps Done → IsListedBack site snap image h steps
listed_did site snap image h feds steps walk = go (snap_named h.snaps snap) refl walk
  where
    go : (listed : Option SnapView) → snap_named h.snaps snap ≡ listed → IsWalk Goto (roll_back_listed site snap image h listed) feds steps Done → IsListedBack site snap image h steps
    go None is w = absurd (refusal_ends_otherwise Done tt refusal.NoSnap feds steps w)
    go (Some listed) is w =
        let n = noted_to reply.Done site image (event.SnapRollback snap) (roll_back site image h listed (applied site image)) feds steps w in
        record { listed = listed; is_listed = is; did = roll_back_did site image h listed n.more steps n.walk }

-- ---- the whole

module _ (site : SiteId) (name : List ℕ) where
  pub rolled_whole : (snap : List ℕ) (image : ℕ) (first own : HeaderView) (rest : List Answered) → rollback_refuses snap first ≡ None → rollback_refuses snap own ≡ None → IsHeaderInForm own
      → IsListedBack site snap image own rest → RollsBack site name snap (found site name image ∷ looked_at site image first ∷ looked_at site image own ∷ rest)
  rolled_whole snap image first own rest may_wait may form back = record {
    image = image;
    first = first;
    own = own;
    may_wait = may_wait;
    may = may;
    listed = back.listed;
    is_listed = back.is_listed;
    objects = object_count own.layout back.listed.size;
    counted = counts own.layout back.listed.size form.layout;
    resized = back.did.resized;
    is_resized = back.did.is_resized;
    restored = back.did.restored;
    are_restored = back.did.are_restored;
    are = ap (λ s. found site name image ∷ looked_at site image first ∷ looked_at site image own ∷ s) back.did.are;
  }

  pub rollback_is_whole : (snap : List ℕ) (feds : List Fed) (steps : List Answered) → AreGiven steps → IsWalk Goto (rollback site name snap) feds steps Done → RollsBack site name snap steps
  rollback_is_whole snap feds steps given walk =
      let c = changed Done tt site name sharing.Alone (rollback_refuses snap) (roll_back_to site snap) feds steps walk in
      let form = own_in_form site name c.image c.first c.own c.rest steps c.are given in
      subst (RollsBack site name snap) (sym c.are) (rolled_whole snap c.image c.first c.own c.rest c.may_wait c.may form (listed_did site snap c.image c.own c.more c.rest c.walk))
