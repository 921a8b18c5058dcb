-- Who owns an image is a member of its line.
use Rattle.std.proofs.Common.{◌≡◌, inl, inr, ℕ, ◌&&◌, not, Bool, true, false, Some, refl, sym, ap, ◌∙◌, subst}
use Rattle.std.specs.Prelude.{IsSome}
use Rattle.std.proofs.lemmas.Bool.{true≢false}
use Rattle.rbd_machine.specs.Course.{has_just_joined}
use Rattle.rbd_kinds.specs.declared.id.SiteId.{SiteId}
use Rattle.rbd_queue.specs.Line.{Member, is_past, member_of}
use Rattle.rbd_machine.specs.Knowledge.{Own}
use Rattle.rbd_interference.proofs.Less.{place_of}
use Rattle.rbd_slots.specs.OnTrack.{IsSomewhere}
use Rattle.rbd_slots.specs.Track.{Track, line_in, course_of}
use Rattle.rbd_slots.proofs.Way.{nowhere_course, place_there}
use Rattle.rbd_knowledge.specs.Tied.{OwnsIn}

-- who owns an image is a member of its line
pub record IsMemberFor (slot : ℕ) (site : SiteId) (image : ℕ) (o : Own) (t : Track) : Type 0 where
  pub member : Member
  pub found : member_of slot (t.lines site image) ≡ Some member
  pub line : line_in t.place t.lines ≡ t.lines site image
  pub place : (course_of slot t).place ≡ Some (record { site = site; image = image; sharing = member.sharing; stage = member.stage })
  pub sharing : o.sharing ≡ member.sharing
  pub waits : has_just_joined member.stage ≡ false
  pub past : IsSome o.header → is_past member.stage ≡ true
  pub told : is_past member.stage ≡ true → IsSome o.header

pub owner_there : (slot : ℕ) (site : SiteId) (image : ℕ) (o : Own) (t : Track) → IsSomewhere slot t → OwnsIn site image o (course_of slot t).place → IsMemberFor slot site image o t
owner_there slot site image o t (inl nowhere) owns = absurd (subst (OwnsIn site image o) (nowhere_course slot t nowhere) owns)
owner_there slot site image o t (inr (p, m, there)) owns =
    let at = subst (OwnsIn site image o) (place_there slot p m t there) owns in
    let same = place_of site p.site image p.image at.there in
    record {
      member = m;
      found = ap (λ s. member_of slot (t.lines s image)) same.0 ∙ ap (λ i. member_of slot (t.lines p.site i)) same.1 ∙ there.member;
      line = ap (λ q. line_in q t.lines) there.place ∙ ap (λ i. t.lines p.site i) (sym same.1) ∙ ap (λ s. t.lines s image) (sym same.0);
      place =
          place_there slot p m t there
          ∙ ap (λ i. Some (record { site = p.site; image = i; sharing = m.sharing; stage = m.stage })) (sym same.1)
          ∙ ap (λ s. Some (record { site = s; image = image; sharing = m.sharing; stage = m.stage })) (sym same.0);
      sharing = at.sharing;
      waits = at.waits;
      past = at.past;
      told = at.told;
    }

-- who may go on to its look under the lock may pass
pub may_of : (own may : Bool) → own ≡ true → (own && not may) ≡ false → may ≡ true
may_of true true is waits = refl
may_of true false is waits = absurd (true≢false waits)
may_of false may is waits = absurd (true≢false (sym is))
