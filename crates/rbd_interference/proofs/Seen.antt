-- Headers that were told: which images they are of, and what leaves them true.
use Rattle.std.proofs.Common.{◌≡◌, inl, inr, ℕ, ◌≤◌, ◌==◌, cond, Bool, true, false, List, [], ◌∷◌, Option, Some, None, refl, sym, ap, ◌∙◌, subst, arith}
use Rattle.std.proofs.lemmas.Bool.{and_parts, eqb-true, true≢false}
use Rattle.std.proofs.lemmas.Option.{none-some}
use Rattle.rbd_kinds.specs.declared.answer.Answer.TheVariants as answer
use Rattle.rbd_kinds.specs.declared.header.HeaderView.{HeaderView}
use Rattle.rbd_kinds.specs.declared.header_op.HeaderOp.TheVariants as header
use Rattle.rbd_kinds.specs.declared.id.Instance.{Instance}
use Rattle.rbd_kinds.specs.declared.id.SiteId.{SiteId}
use Rattle.rbd_kinds.specs.declared.operation.Op.{Op}
use Rattle.rbd_kinds.specs.declared.operation.Op.TheVariants as op
use Rattle.rbd_kinds.proofs.Images.{at_itself, same_site_is}
use Rattle.rbd_header.specs.Later.{IsLaterOf}
use Rattle.rbd_header.proofs.Later.{later_onward}
use Rattle.rbd_machine.specs.Ancestors.{HeaderSeen, IsAmong, has_seen}
use Rattle.rbd_machine.specs.Knowledge.{is_at, same_site}
use Rattle.rbd_site.specs.HeaderStep.{header_answer}
use Rattle.rbd_site.specs.Records.{Records}
use Rattle.rbd_site.specs.Step.{after, answer_to, is_fenced}
use Rattle.rbd_stands.specs.Condition.{IsDrawn}
use Rattle.rbd_stands.proofs.EditSteps.{drawn_stays}
use Rattle.rbd_stands.proofs.Told.{later_behind}
use Rattle.rbd_interference.specs.Ancestors.{AreSeenTrue, IsSeenTrue}

-- ---- lists

-- who is on the list of headers was seen
pub among_seen : (site : SiteId) (image : ℕ) (h : HeaderView) (seen : List HeaderSeen) → IsAmong (record { site = site; image = image; header = h }) seen → has_seen seen site image ≡ true
among_seen site image h [] among = absurd among
among_seen site image h (s ∷ seen) (inl same) =
    ap (λ b. cond b true (has_seen seen site image)) (subst (λ (e : HeaderSeen). is_at site image e.site e.image ≡ true) (sym same) (at_itself site image))
among_seen site image h (s ∷ seen) (inr among) = by (is_at site image s.site s.image) (among_seen site image h seen among)
  where
    by : (b : Bool) → has_seen seen site image ≡ true → cond b true (has_seen seen site image) ≡ true
    by true more = refl
    by false more = more

-- a header on the list, of an image that was seen
pub record SawHeader (site : SiteId) (image : ℕ) (seen : List HeaderSeen) : Type 0 where
  pub header : HeaderView
  pub among : IsAmong (record { site = site; image = image; header = header }) seen

pub saw_header : (site : SiteId) (image : ℕ) (seen : List HeaderSeen) → has_seen seen site image ≡ true → SawHeader site image seen
saw_header site image [] saw = absurd (true≢false (sym saw))
saw_header site image (s ∷ seen) saw = by (is_at site image s.site s.image) refl saw (saw_header site image seen)
  where
    by : (b : Bool) → is_at site image s.site s.image ≡ b → cond b true (has_seen seen site image) ≡ true
        → (has_seen seen site image ≡ true → SawHeader site image seen) → SawHeader site image (s ∷ seen)
    by true here found more =
        let at = and_parts (same_site s.site site) (s.image == image) here in
        record {
          header = s.header;
          among = inl (ap (λ (t : SiteId). record { site = t; image = s.image; header = s.header }) (same_site_is s.site site at.0) ∙ ap (λ i. record { site = site; image = i; header = s.header }) (eqb-true s.image image at.1));
        }
    by false other found more = let d = more found in record { header = d.header; among = inr d.among }

-- ---- fewer headers

-- no header of a site's image more than those of another list
pub record IsSeenLess (site : SiteId) (new old : List HeaderSeen) : Type 0 where
  pub among : (image : ℕ) (h : HeaderView) → IsAmong (record { site = site; image = image; header = h }) new → IsAmong (record { site = site; image = image; header = h }) old
  pub has : (image : ℕ) → has_seen new site image ≡ true → has_seen old site image ≡ true

pub same_seen : (site : SiteId) (seen : List HeaderSeen) → IsSeenLess site seen seen
same_seen site seen = record { among = λ image h among. among; has = λ image saw. saw }

-- ---- an image that was seen has its id

pub seen_drawn : (site : SiteId) (r : Records) (seen : List HeaderSeen) → AreSeenTrue site r seen → (image : ℕ) → has_seen seen site image ≡ true → IsDrawn r image
seen_drawn site r seen are image saw = let d = saw_header site image seen saw in (are image d.header d.among).drawn

-- ---- what leaves a header true

-- where the image has the same header
pub seen_there : (r new : Records) (image : ℕ) (h : HeaderView) → new.headers image ≡ r.headers image → r.directory.drawn ≤ new.directory.drawn → IsSeenTrue r image h → IsSeenTrue new image h
seen_there r new image h same more was =
    let before = was.drawn in
    record { drawn = omega (arith, before, more); later = λ now is. was.later now (sym same ∙ is); numbered = was.numbered }

-- whatever anybody does, where an image that has no header gets none
pub seen_after : (r : Records) (you : Instance) (o : Op) (image : ℕ) (h : HeaderView) → (r.headers image ≡ None → (after r you o).headers image ≡ None) → IsSeenTrue r image h
    → IsSeenTrue (after r you o) image h
seen_after r you o image h still was = record { drawn = drawn_stays r you o image was.drawn; later = λ now is. by now is (r.headers image) refl; numbered = was.numbered }
  where
    by : (now : HeaderView) → (after r you o).headers image ≡ Some now → (before : Option HeaderView) → r.headers image ≡ before → IsLaterOf h now
    by now is None none = absurd (none-some now (sym (still none) ∙ is))
    by now is (Some mid) there = later_onward h mid now (was.later mid there) (later_behind r you o image mid now there is)

-- ---- what a look tells

-- it tells the header that is there
pub header_got : (r : Records) (me : Instance) (image : ℕ) (h : HeaderView) → answer_to r me (op.Header image header.Get) ≡ answer.Header h → r.headers image ≡ Some h
header_got r me image h = by (is_fenced r me) (r.headers image) refl
  where
    by : (b : Bool) (there : Option HeaderView) → r.headers image ≡ there → cond b answer.Fenced (header_answer me (r.headers image) (r.watchers image) header.Get) ≡ answer.Header h → r.headers image ≡ Some h
    by true there at answered = absurd (cc)
    by false None at answered = absurd (let e = sym (ap (λ p. header_answer me p (r.watchers image) header.Get) at) ∙ answered in cc)
    by false (Some k) at answered =
        let e : answer.Header k ≡ answer.Header h = sym (ap (λ p. header_answer me p (r.watchers image) header.Get) at) ∙ answered in
        at ∙ ap Some (let same : k ≡ h = cc in same)
