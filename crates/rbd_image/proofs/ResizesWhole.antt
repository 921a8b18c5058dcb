-- What a resize has done when it is done.
use Rattle.std.proofs.Common.{◌≡◌, ◌⊎◌, inl, inr, ℕ, List, [], ◌∷◌, ◌++◌, None, refl, ap, sym, subst, ◌∙◌}
use Rattle.std.proofs.lemmas.List.{append-nil}
use Rattle.rbd_kinds.specs.declared.sharing.Sharing.TheVariants as sharing
use Rattle.rbd_kinds.specs.declared.header.HeaderView.{HeaderView}
use Rattle.rbd_kinds.specs.declared.id.SiteId.{SiteId}
use Rattle.rbd_kinds.specs.declared.journal.JournalEvent.TheVariants as event
use Rattle.rbd_kinds.specs.declared.machine.Fed.{Fed}
use Rattle.rbd_kinds.specs.declared.reply.Reply.TheVariants as reply
use Rattle.rbd_kinds.specs.Form.{IsHeaderInForm}
use Rattle.rbd_machine.specs.Path.{Answered, IsWalk, found, looked_at}
use Rattle.rbd_machine.specs.Plan.{Plan, Return, Goto}
use Rattle.rbd_machine.specs.Refused.{AreGiven}
use Rattle.rbd_machine.specs.Steps.{applied}
use Rattle.rbd_machine.specs.Wait as wait
use Rattle.rbd_machine.proofs.Walked.{awaited_to, changed, ended, noted_to}
use Rattle.rbd_meaning.specs.Resizes.{ResizesWhole, resize_refuses}
use Rattle.rbd_pieces.specs.Size.{IsResized, resize}
use Rattle.rbd_pieces.proofs.Walked.{size_did}
use Rattle.rbd_meaning.specs.Count.{object_count}
use Rattle.rbd_image.specs.Resize.{set_size, size_change}
use Rattle.rbd_image.proofs.Built.{built_resize}
use Rattle.rbd_meaning.proofs.Counts.{counts}
use Rattle.rbd_image.proofs.Splits.{Follows, Splits, Stays, follows_rules, splits}

abbrev pub Done : Plan
Done = Return reply.Done

-- ---- parts, with what comes next

-- a part was done, and what comes next was walked
pub record Goes (IsPart : List Answered → Type 0) (next : Plan) (steps : List Answered) : Type 0 where
  pub first : List Answered
  pub rest : List Answered
  pub more : List Fed
  pub are : steps ≡ first ++ rest
  pub is_part : IsPart first
  pub later : IsWalk Goto next more rest Done

module _ (site : SiteId) (image : ℕ) (h : HeaderView) where
  pub resize_goes : (to objects : ℕ) (next : Plan) (feds : List Fed) (steps : List Answered) → IsWalk Goto (resize site image h to objects next) feds steps Done → Goes (IsResized site image h to objects) next steps
  resize_goes to objects next feds steps walk =
      go (splits next (resize site image h to objects Done) (resize site image h to objects next) feds steps reply.Done follows walk)
    where
      follows : Follows next (resize site image h to objects Done) (resize site image h to objects next)
      follows = built_resize (Follows next) (Follows next) (λ o. Unit {0}) (λ inside. Unit {0}) site image (follows_rules next site image) h (λ number. tt) to objects Done next refl

      go : Splits next (resize site image h to objects Done) steps reply.Done ⊎ Stays next (resize site image h to objects Done) steps reply.Done → Goes (IsResized site image h to objects) next steps
      go (inl s) = record { first = s.first; rest = s.rest; more = s.more; are = s.are; is_part = size_did site image h to objects s.feds s.first s.walk; later = s.later }
      go (inr s) = absurd (s.other refl)

-- ---- acts

pub nothing_more : (site : SiteId) (image : ℕ) (feds : List Fed) (steps : List Answered) → IsWalk Goto (applied site image) feds steps Done → steps ≡ []
nothing_more site image feds steps walk = let a = awaited_to reply.Done (wait.Applied site image) Done feds steps walk in (ended reply.Done a.more steps Done a.walk).0

pub set_size_did : (site : SiteId) (to image : ℕ) (h : HeaderView) (feds : List Fed) (steps : List Answered) → IsWalk Goto (set_size site to image h) feds steps Done → IsResized site image h to (object_count h.layout to) steps
set_size_did site to image h feds steps walk =
    let objects = object_count h.layout to in
    let n = noted_to reply.Done site image (event.Resize to) (resize site image h to objects (applied site image)) feds steps walk in
    let g = resize_goes site image h to objects (applied site image) n.more steps n.walk in
    let all : steps ≡ g.first = g.are ∙ ap (λ rest. g.first ++ rest) (nothing_more site image g.more g.rest g.later) ∙ append-nil g.first in
    subst (IsResized site image h to objects) (sym all) g.is_part

-- ---- the whole

-- the header of the look under the lock is in form
pub own_in_form : (site : SiteId) (name : List ℕ) (image : ℕ) (first own : HeaderView) (rest steps : List Answered) → steps ≡ found site name image ∷ looked_at site image first ∷ looked_at site image own ∷ rest
    → AreGiven steps → IsHeaderInForm own
own_in_form site name image first own rest steps are given = let there = subst AreGiven are given in there.1.1.0.can.form

module _ (site : SiteId) (name : List ℕ) where
  -- behind its looks a size was set
  pub sized_whole : (to image : ℕ) (first own : HeaderView) (rest : List Answered) → resize_refuses to first ≡ None → resize_refuses to own ≡ None → IsHeaderInForm own
      → IsResized site image own to (object_count own.layout to) rest → ResizesWhole site name to (found site name image ∷ looked_at site image first ∷ looked_at site image own ∷ rest)
  sized_whole to image first own rest may_wait may form resized = record {
    image = image;
    first = first;
    own = own;
    may_wait = may_wait;
    may = may;
    objects = object_count own.layout to;
    counted = counts own.layout to form.layout;
    resized = rest;
    is_resized = resized;
    are = refl;
  }

  pub resize_is_whole : (to : ℕ) (feds : List Fed) (steps : List Answered) → AreGiven steps → IsWalk Goto (size_change site name to) feds steps Done → ResizesWhole site name to steps
  resize_is_whole to feds steps given walk =
      let c = changed Done tt site name sharing.Alone (resize_refuses to) (set_size site to) feds steps walk in
      let form = own_in_form site name c.image c.first c.own c.rest steps c.are given in
      subst (ResizesWhole site name to) (sym c.are) (sized_whole to c.image c.first c.own c.rest c.may_wait c.may form (set_size_did site to c.image c.own c.more c.rest c.walk))
