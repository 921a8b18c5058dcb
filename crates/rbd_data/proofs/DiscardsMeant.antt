-- What the replies of a discard mean.
use Rattle.std.proofs.Common.{◌≡◌, inl, inr, ◌⊎◌, ℕ, List, ◌∷◌, ◌++◌, false, None, refl, ap, sym, subst, ◌∙◌}
use Rattle.rbd_kinds.specs.declared.sharing.Sharing.TheVariants as sharing
use Rattle.rbd_kinds.proofs.Results.{same_refusal}
use Rattle.rbd_kinds.specs.declared.header.HeaderView.{HeaderView}
use Rattle.rbd_kinds.specs.declared.id.SiteId.{SiteId}
use Rattle.rbd_kinds.specs.declared.journal.JournalEvent.TheVariants as event
use Rattle.rbd_kinds.specs.declared.layout.Extent.{Extent}
use Rattle.rbd_kinds.specs.declared.machine.Fed.{Fed}
use Rattle.rbd_commands.specs.declared.refusal.Refusal.{Refusal}
use Rattle.rbd_kinds.specs.declared.reply.Reply.{Reply}
use Rattle.rbd_kinds.specs.declared.reply.Reply.TheVariants as reply
use Rattle.rbd_layout.specs.Pieces.{pieces_of}
use Rattle.rbd_machine.specs.About.{AreOwn, look_up}
use Rattle.rbd_machine.specs.Path.{Answered, IsWalk, found, looked_at}
use Rattle.rbd_machine.specs.Plan.{Return, Goto}
use Rattle.rbd_machine.specs.Refused.{by_fence, AreGiven, IsRefusedWith}
use Rattle.rbd_machine.specs.Steps.{applied}
use Rattle.rbd_machine.proofs.Refused.{EndsBy, ends_by, only_image}
use Rattle.rbd_machine.proofs.Walked.{Changed, EndsUnrefused, changed, noted_to}
use Rattle.rbd_meaning.specs.Discards.{DiscardMeans, DiscardsWhole, RefusesDiscard}
use Rattle.rbd_meaning.specs.Parentless.{AreParentless}
use Rattle.rbd_meaning.specs.Writes.{write_refuses}
use Rattle.rbd_meaning.proofs.Ends.{same_front}
use Rattle.rbd_pieces.specs.Size.{AreZeroed}
use Rattle.rbd_data.specs.Discard.{discard, zero, zero_in_turns}
use Rattle.rbd_data.proofs.DiscardsOwn.{discard_is_own}
use Rattle.rbd_meaning.proofs.ChangeEnds.{IsEarly, change_ends, refused_early}
use Rattle.rbd_data.proofs.Ended.{Does, IsCutOff, pieces_end}
use Rattle.rbd_data.proofs.Refusing.{IsDone, refusing_pieces}

module _ (site : SiteId) (name : List ℕ) (e : Extent) where
  -- what it does behind its look under the lock
  does_own : (r : Reply) (image : ℕ) (own : HeaderView) (feds : List Fed) (steps : List Answered) → IsWalk Goto (zero site e image own) feds steps (Return r)
      → Does r (AreZeroed site image own (pieces_of own.layout e)) steps
  does_own r image own feds steps walk =
      let pieces = pieces_of own.layout e in
      let n = noted_to r site image (event.Discard e.at e.len) (zero_in_turns site image own pieces (applied site image)) feds steps walk in
      pieces_end r site image pieces own n.more steps n.walk

  -- behind the looks that found it and refused nothing
  abbrev behind : (image : ℕ) (first own : HeaderView) → List Answered → List Answered
  behind image first own steps = found site name image ∷ looked_at site image first ∷ looked_at site image own ∷ steps

  pub discard_is_whole : (feds : List Fed) (steps : List Answered) → IsWalk Goto (discard site name e) feds steps (Return reply.Done) → DiscardsWhole site name e steps
  discard_is_whole feds steps walk =
      let c = changed (Return reply.Done) tt site name sharing.Discard (write_refuses e) (zero site e) feds steps walk in
      record {
        image = c.image;
        first = c.first;
        own = c.own;
        may_wait = c.may_wait;
        may = c.may;
        zeroed = c.rest;
        are_zeroed = does_own reply.Done c.image c.own c.more c.rest c.walk;
        are = c.are;
      }

  -- no other reply comes
  other_reply : (r : Reply) → EndsUnrefused (Return r) → ((Are : List Answered → Type 0) (steps : List Answered) → Does r Are steps → ⊥) → (feds : List Fed) (steps : List Answered) → IsWalk Goto (discard site name e) feds steps (Return r) → ⊥
  other_reply r kind none feds steps walk =
      let c = changed (Return r) kind site name sharing.Discard (write_refuses e) (zero site e) feds steps walk in
      none (AreZeroed site c.image c.own (pieces_of c.own.layout e)) c.rest (does_own r c.image c.own c.more c.rest c.walk)

  -- ---- refused behind its look under the lock

  module _ (x : Refusal) (steps : List Answered) (c : Changed (Return (reply.Refused x)) site name (write_refuses e) (zero site e) steps) where
    -- the fence alone refuses it there
    by_the_fence : AreGiven steps → AreParentless steps → IsRefusedWith (only_image site c.image) (write_refuses e) by_fence c.rest x
    by_the_fence given parentless =
        let own_given = (subst AreGiven c.are given).1.1.1 in
        let none : c.own.parent ≡ None = (subst AreParentless c.are parentless).1.1.0 in
        go (ends_by (write_refuses e) by_fence IsDone c.more (only_image site c.image) false (zero site e c.image c.own) c.rest (reply.Refused x) (refusing_pieces (write_refuses e) (only_image site c.image) (pieces_of c.own.layout e) false site c.image c.own none) own_given c.walk)
      where
        go : EndsBy (write_refuses e) by_fence IsDone (only_image site c.image) false c.rest (reply.Refused x) → IsRefusedWith (only_image site c.image) (write_refuses e) by_fence c.rest x
        go (inl granted) = absurd granted
        go (inr (y, same, from)) = subst (IsRefusedWith (only_image site c.image) (write_refuses e) by_fence c.rest) (same_refusal x y same) from.by

    refused_late : AreOwn site (look_up name) steps → AreGiven steps → AreParentless steps → RefusesDiscard site name e steps x
    refused_late own given parentless =
        let by = by_the_fence given parentless in
        let stop : IsCutOff (AreZeroed site c.image c.own (pieces_of c.own.layout e)) c.rest = does_own (reply.Refused x) c.image c.own c.more c.rest c.walk in
        let same : by.before ≡ stop.before = same_front by.before stop.before by.last stop.last (sym by.are ∙ stop.are) in
        record {
          refused = record {
            own = own;
            by = record {
              before = behind c.image c.first c.own by.before;
              last = by.last;
              are = c.are ∙ ap (behind c.image c.first c.own) by.are;
              own = by.own;
              refused = by.refused;
              allowed = (λ own. refl, (λ own. c.may_wait, (λ own. c.may, by.allowed)));
              unchanged = λ not_late. (refl, (refl, (refl, by.unchanged not_late)));
            };
          };
          so_far = inr (record {
            rest = stop.left;
            whole = record {
              image = c.image;
              first = c.first;
              own = c.own;
              may_wait = c.may_wait;
              may = c.may;
              zeroed = stop.before ++ stop.left;
              are_zeroed = stop.whole;
              are = ap (behind c.image c.first c.own) (ap (λ before. before ++ stop.left) same);
            };
          });
        }

  -- ---- the whole

  refused_means : (x : Refusal) (steps : List Answered) → AreOwn site (look_up name) steps → AreGiven steps → AreParentless steps
      → Changed (Return (reply.Refused x)) site name (write_refuses e) (zero site e) steps ⊎ IsEarly (write_refuses e) steps (reply.Refused x) → RefusesDiscard site name e steps x
  refused_means x steps own given parentless (inl c) = refused_late x steps c own given parentless
  refused_means x steps own given parentless (inr early) = record {
    refused = record { own = own; by = refused_early (write_refuses e) by_fence steps x given early };
    so_far = inl early.looks;
  }

pub discard_means : (site : SiteId) (image : List ℕ) (at len : ℕ) (feds : List Fed) (steps : List Answered) (r : Reply) → AreGiven steps → AreParentless steps
    → IsWalk Goto (discard site image (record { at = at; len = len })) feds steps (Return r) → DiscardMeans site image at len steps r
discard_means site image at len feds steps reply.Done given parentless walk = discard_is_whole site image (record { at = at; len = len }) feds steps walk
discard_means site image at len feds steps (reply.Refused x) given parentless walk =
    let e : Extent = record { at = at; len = len } in
    refused_means site image e x steps (discard_is_own site image e feds steps (Return (reply.Refused x)) walk) given parentless
    (change_ends (reply.Refused x) site image sharing.Discard (write_refuses e) (zero site e) steps feds walk)
discard_means site image at len feds steps r given parentless walk = other_reply site image (record { at = at; len = len }) r tt (λ Are steps does. does) feds steps walk
