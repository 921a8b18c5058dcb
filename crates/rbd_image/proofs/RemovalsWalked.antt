-- A removal that ended well, step by step.
use Rattle.std.proofs.Common.{◌≡◌, ℕ, Bool, true, false, cond, List, [], ◌∷◌, ◌++◌, Some, None, refl, ap, ◌∙◌}
use Rattle.std.proofs.lemmas.List.{append-nil}
use Rattle.rbd_commands.specs.declared.refusal.Refusal.TheVariants as refusal
use Rattle.rbd_kinds.specs.declared.sharing.Sharing.TheVariants as sharing
use Rattle.rbd_kinds.specs.declared.answer.Answer.{Answer}
use Rattle.rbd_kinds.specs.declared.answer.Answer.TheVariants as answer
use Rattle.rbd_kinds.specs.declared.header.HeaderView.{HeaderView}
use Rattle.rbd_kinds.specs.declared.header_op.HeaderOp.TheVariants as header
use Rattle.rbd_kinds.specs.declared.id.Instance.{Instance}
use Rattle.rbd_kinds.specs.declared.id.SiteId.{SiteId}
use Rattle.rbd_kinds.specs.declared.machine.Fed.{Fed}
use Rattle.rbd_kinds.specs.declared.map_op.MapOp.TheVariants as states
use Rattle.rbd_kinds.specs.declared.operation.Op.{Op}
use Rattle.rbd_kinds.specs.declared.operation.Op.TheVariants as op
use Rattle.rbd_kinds.specs.declared.reply.Reply.TheVariants as reply
use Rattle.rbd_machine.specs.About.{look_up}
use Rattle.rbd_machine.specs.Path.{Answered, IsWalk, found, looked_at}
use Rattle.rbd_machine.specs.Plan.{Plan, Return, Goto}
use Rattle.rbd_machine.specs.Steps.{find, look, on_bits, on_header, on_id, under_lock, refused, unless}
use Rattle.rbd_machine.specs.Wait as wait
use Rattle.rbd_machine.specs.declared.reason.Reason.TheVariants as reason
use Rattle.rbd_machine.proofs.Walked.{EndsUnrefused, awaited, ended, nothing_ends_otherwise, refusal_ends_otherwise, told_bits, told_header, told_image, went_on, went_past}
use Rattle.rbd_meaning.specs.Removals.{AreRemovals, IsRemovedBy, RemovesImage, image_removal_refuses, is_watched_beside, may_be_gone, removal, watchers_refuse, watchers_told}
use Rattle.rbd_meaning.specs.Snaps.{map_told}
use Rattle.rbd_image.specs.RemovalPart.{IsRemoved}
use Rattle.rbd_image.specs.Remove.{holding_it, joining_its_line, looking_at_it, on_gone, on_watchers, removal_plan, remove_each, remove_image, remove_owned, unless_watched}

-- nobody else watches
record ToldWatchers (last : Plan) (session : ℕ) (next : Plan) (a : Answer) (feds : List Fed) (steps : List Answered) : Type 0 where
  watchers : List Instance
  is : a ≡ answer.Instances watchers
  unused : is_watched_beside session watchers ≡ false
  walk : IsWalk Goto next feds steps last

-- these operations were done, and what comes next has begun
record Went (last next : Plan) (site : SiteId) (ops : List Op) (steps : List Answered) : Type 0 where
  more : List Fed
  did : List Answered
  rest : List Answered
  are : steps ≡ did ++ rest
  removals : AreRemovals site ops did
  walk : IsWalk Goto next more rest last

record AskedWatchers (last : Plan) (site : SiteId) (session : ℕ) (image : ℕ) (next : Plan) (steps : List Answered) : Type 0 where
  watchers : List Instance
  unused : is_watched_beside session watchers ≡ false
  more : List Fed
  rest : List Answered
  are : steps ≡ watchers_told site image watchers ∷ rest
  walk : IsWalk Goto next more rest last

record LookedPast (last : Plan) (site : SiteId) (image : ℕ) (next : HeaderView → Plan) (steps : List Answered) : Type 0 where
  header : HeaderView
  may : image_removal_refuses header ≡ None
  more : List Fed
  rest : List Answered
  are : steps ≡ looked_at site image header ∷ rest
  walk : IsWalk Goto (next header) more rest last

record Found (last : Plan) (site : SiteId) (name : List ℕ) (next : ℕ → Plan) (steps : List Answered) : Type 0 where
  image : ℕ
  more : List Fed
  rest : List Answered
  are : steps ≡ found site name image ∷ rest
  walk : IsWalk Goto (next image) more rest last

one_by_one : (s0 s1 s2 s3 s4 s5 : List Answered) (a b c d e : Answered) (rest : List Answered)
    → s0 ≡ a ∷ s1 → s1 ≡ b ∷ s2 → s2 ≡ c ∷ s3 → s3 ≡ d ∷ s4 → s4 ≡ e ∷ s5 → s5 ≡ rest → s0 ≡ a ∷ b ∷ c ∷ d ∷ e ∷ rest
one_by_one s0 s1 s2 s3 s4 s5 a b c d e rest is0 is1 is2 is3 is4 is5 =
    is0 ∙ ap (λ s. a ∷ s) (is1 ∙ ap (λ s. b ∷ s) (is2 ∙ ap (λ s. c ∷ s) (is3 ∙ ap (λ s. d ∷ s) (is4 ∙ ap (λ s. e ∷ s) is5))))

pub unwatched : (b : Bool) → cond b (Some refusal.InUse) None ≡ None → b ≡ false
unwatched true none = cc
unwatched false none = refl

module _ (last : Plan) (kind : EndsUnrefused last) where
  told_watchers : (session : ℕ) (next : Plan) (a : Answer) (feds : List Fed) (steps : List Answered) → IsWalk Goto (on_watchers session next a) feds steps last → ToldWatchers last session next a feds steps
  told_watchers session next (answer.Instances watchers) feds steps walk =
      let w = went_past last kind (watchers_refuse session watchers) next feds steps walk in
      record { watchers = watchers; is = refl; unused = unwatched (is_watched_beside session watchers) w.may; walk = w.walk }
  told_watchers session next a feds steps walk = absurd (nothing_ends_otherwise last kind a feds steps walk)

  -- ---- what goes

  gone : (o : Op) (next : Plan) (a : Answer) (feds : List Fed) (steps : List Answered) → IsWalk Goto (on_gone o next a) feds steps last → IsRemovedBy o a × IsWalk Goto next feds steps last
  gone o next answer.Done feds steps walk = (tt, walk)
  gone o next answer.Absent feds steps walk = go (may_be_gone o) refl walk
    where
      go : (b : Bool) → may_be_gone o ≡ b → IsWalk Goto (cond b next (refused refusal.NoImage)) feds steps last → (may_be_gone o ≡ true) × IsWalk Goto next feds steps last
      go true is walk = (is, walk)
      go false is walk = absurd (refusal_ends_otherwise last kind refusal.NoImage feds steps walk)
  gone o next a feds steps walk = absurd (nothing_ends_otherwise last kind a feds steps walk)

  went : (ops : List Op) (site : SiteId) (next : Plan) (feds : List Fed) (steps : List Answered) → IsWalk Goto (remove_each site ops next) feds steps last → Went last next site ops steps
  went [] site next feds steps walk = record { more = feds; did = []; rest = steps; are = refl; removals = tt; walk = walk }
  went (o ∷ ops) site next feds steps walk =
      let w = went_on last kind site reason.Own o (on_gone o (remove_each site ops next)) feds steps walk in
      let g = gone o (remove_each site ops next) w.answer w.more w.rest w.walk in
      let r = went ops site next w.more w.rest g.1 in
      record {
        more = r.more;
        did = record { site = site; op = o; answer = w.answer } ∷ r.did;
        rest = r.rest;
        are = w.are ∙ ap (λ rest. record { site = site; op = o; answer = w.answer } ∷ rest) r.are;
        removals = (refl, refl, g.0, r.removals);
        walk = r.walk;
      }

  pub removed : (site : SiteId) (image : ℕ) (h : HeaderView) (feds : List Fed) (steps : List Answered) → IsWalk Goto (removal_plan site image h (Return reply.Done)) feds steps last
      → (last ≡ Return reply.Done) × IsRemoved site image h steps
  removed site image h feds steps walk =
      let next : List ℕ → Plan = λ bits. remove_each site (removal image h bits) (Return reply.Done) in
      let w = went_on last kind site reason.Own (op.Map image (states.Get None)) (on_bits next) feds steps walk in
      let s = told_bits last kind next w.answer w.more w.rest w.walk in
      let r = went (removal image h s.bits) site (Return reply.Done) w.more w.rest s.walk in
      let end = ended reply.Done r.more r.rest last r.walk in (
        end.1,
        record {
          bits = s.bits;
          removed = r.did;
          are_removed = r.removals;
          are =
              w.are ∙ ap (λ a. record { site = site; op = op.Map image (states.Get None); answer = a } ∷ w.rest) s.is
              ∙ ap (λ rest. map_told site image s.bits ∷ rest) (r.are ∙ ap (λ rest. r.did ++ rest) end.0 ∙ append-nil r.did);
        },
      )

  -- ---- the command

  asked_watchers : (site : SiteId) (session : ℕ) (image : ℕ) (next : Plan) (feds : List Fed) (steps : List Answered) → IsWalk Goto (unless_watched site session image next) feds steps last
      → AskedWatchers last site session image next steps
  asked_watchers site session image next feds steps walk =
      let w = went_on last kind site reason.Own (op.Header image header.WatchersGet) (on_watchers session next) feds steps walk in
      let t = told_watchers session next w.answer w.more w.rest w.walk in
      record {
        watchers = t.watchers;
        unused = t.unused;
        more = w.more;
        rest = w.rest;
        are = w.are ∙ ap (λ a. record { site = site; op = op.Header image header.WatchersGet; answer = a } ∷ w.rest) t.is;
        walk = t.walk;
      }

  looked_past : (site : SiteId) (image : ℕ) (next : HeaderView → Plan) (feds : List Fed) (steps : List Answered)
      → IsWalk Goto (look site image (λ h. unless (image_removal_refuses h) (next h))) feds steps last → LookedPast last site image next steps
  looked_past site image next feds steps walk =
      let w = went_on last kind site reason.Own (op.Header image header.Get) (on_header (λ h. unless (image_removal_refuses h) (next h))) feds steps walk in
      let h = told_header last kind (λ h. unless (image_removal_refuses h) (next h)) w.answer w.more w.rest w.walk in
      let m = went_past last kind (image_removal_refuses h.header) (next h.header) w.more w.rest h.walk in
      record {
        header = h.header;
        may = m.may;
        more = w.more;
        rest = w.rest;
        are = w.are ∙ ap (λ a. record { site = site; op = op.Header image header.Get; answer = a } ∷ w.rest) h.is;
        walk = m.walk;
      }

  found_image : (site : SiteId) (name : List ℕ) (next : ℕ → Plan) (feds : List Fed) (steps : List Answered) → IsWalk Goto (find site name next) feds steps last → Found last site name next steps
  found_image site name next feds steps walk =
      let w = went_on last kind site reason.Own (look_up name) (on_id next) feds steps walk in
      let i = told_image last kind next w.answer w.more w.rest w.walk in
      record {
        image = i.image;
        more = w.more;
        rest = w.rest;
        are = w.are ∙ ap (λ a. record { site = site; op = look_up name; answer = a } ∷ w.rest) i.is;
        walk = i.walk;
      }

  pub removed_whole : (site : SiteId) (session : ℕ) (name : List ℕ) (feds : List Fed) (steps : List Answered) → IsWalk Goto (remove_image site session name) feds steps last
      → (last ≡ Return reply.Done) × RemovesImage site session name steps
  removed_whole site session name feds steps walk =
      let f = found_image site name (joining_its_line site session) feds steps walk in
      let holding = holding_it site session f.image in
      let act = remove_owned site session f.image in
      let j = awaited last kind (wait.Join site f.image sharing.Alone) (looking_at_it site session f.image) f.more f.rest f.walk in
      let h = looked_past site f.image (λ h. unless_watched site session f.image holding) j.more f.rest j.walk in
      let a = asked_watchers site session f.image holding h.more h.rest h.walk in
      let l = awaited last kind (wait.Hold site f.image) (under_lock site image_removal_refuses (remove_owned site session) f.image) a.more a.rest a.walk in
      let o = looked_past site f.image act l.more a.rest l.walk in
      let b = asked_watchers site session f.image (removal_plan site f.image o.header (Return reply.Done)) o.more o.rest o.walk in
      let (done, r) = removed site f.image o.header b.more b.rest b.walk in (
        done,
        record {
          image = f.image;
          first = h.header;
          watchers = a.watchers;
          own = o.header;
          others = b.watchers;
          may_wait = h.may;
          unused = a.unused;
          may = o.may;
          unused_still = b.unused;
          bits = r.bits;
          removed = r.removed;
          are_removed = r.are_removed;
          are = one_by_one steps f.rest h.rest a.rest o.rest b.rest _ _ _ _ _ _ f.are h.are a.are o.are b.are r.are;
        },
      )
