-- What is known of each image, one by one.
use Rattle.std.proofs.Common.{◌≡◌, ◌≢◌, inl, inr, ℕ, ◌≤◌, Bool, true, false, Some, None, is_some, refl, sym, ap, ◌∙◌, subst, arith}
use Rattle.std.specs.Prelude.{IsFalse, IsSome}
use Rattle.std.proofs.lemmas.List.Elements.{All-weaker}
use Rattle.rbd_kinds.specs.declared.header.HeaderView.{HeaderView}
use Rattle.rbd_kinds.specs.declared.id.Instance.{Instance}
use Rattle.rbd_kinds.specs.declared.id.SiteId.{SiteId}
use Rattle.rbd_kinds.specs.declared.layout.Layout.{Layout}
use Rattle.rbd_object.specs.Mapped.{Mapped}
use Rattle.rbd_machine.specs.Ancestors.{IsAmong, has_seen}
use Rattle.rbd_machine.specs.Knowledge.{Knowledge, ObjectsKnown, is_drawn, is_fenced_by, is_gone, maps_of, objects_known_of, own_of}
use Rattle.rbd_site.specs.Records.{Records, object_at}
use Rattle.rbd_site.specs.Step.{is_fenced}
use Rattle.rbd_stands.specs.Covering.{Maps}
use Rattle.rbd_interference.specs.Ancestors.{IsSeenTrue}
use Rattle.rbd_interference.specs.Truth.{AreChildrenTrue, AreMapsTrue, AreObjectsTrue, AreZeros, HasNoStates, IsCountTrue, IsGoneAt, IsTrueAt, IsWaiting, KnowsNoHeader, header_of_own, is_alone_on, is_own_alone, known_header, IsStillOwn}
use Rattle.rbd_interference.proofs.MapsBehind.{at_each}
use Rattle.rbd_interference.proofs.Seen.{seen_there}

pub record IsTrueOfImage (site : SiteId) (r : Records) (me : Instance) (k : Knowledge) (image : ℕ) : Type 0 where
  pub owned : IsFalse (is_fenced r me) → IsStillOwn (own_of k.owns site image) (r.headers image)
  pub drawn : is_drawn k.drawn site image ≡ true → IsWaiting r image
  pub mapped : IsFalse (is_fenced r me) → IsSome (known_header k site image) → AreMapsTrue (is_alone_on k site image) (r.maps image) (maps_of k.maps site image)
  pub objects : IsFalse (is_fenced r me) → (h : HeaderView) → known_header k site image ≡ Some h
      → AreObjectsTrue (is_alone_on k site image) h.layout (object_at r image) (objects_known_of k.objects site image)
  pub gone : is_gone k.gone site image ≡ true → IsGoneAt r image
  pub apart : is_gone k.gone site image ≡ true → is_drawn k.drawn site image ≡ false
  pub counted : KnowsNoHeader k site image → IsCountTrue (maps_of k.maps site image).count (r.maps image None)
  pub seen : (h : HeaderView) → IsAmong (record { site = site; image = image; header = h }) k.seen → IsSeenTrue r image h
  pub strange : has_seen k.seen site image ≡ true → is_drawn k.drawn site image ≡ false

pub of_image : (site : SiteId) (r : Records) (me : Instance) (k : Knowledge) → IsTrueAt site r me k → (image : ℕ) → IsTrueOfImage site r me k image
of_image site r me k t image = record {
  owned = λ free. t.owned free image;
  drawn = t.drawn image;
  mapped = λ free. t.mapped free image;
  objects = λ free. t.objects free image;
  gone = t.gone image;
  apart = t.apart image;
  counted = t.counted image;
  seen = t.seen image;
  strange = t.strange image;
}

-- What is known of each image, and of fences, is true: all but what is known of children.
pub record AreImagesTrue (site : SiteId) (r : Records) (me : Instance) (k : Knowledge) : Type 0 where
  pub fenced : (i : Instance) → is_fenced_by k.fenced site i ≡ true → is_fenced r i ≡ true
  pub each : (image : ℕ) → IsTrueOfImage site r me k image

pub of_images : (site : SiteId) (r : Records) (me : Instance) (k : Knowledge) → IsTrueAt site r me k → AreImagesTrue site r me k
of_images site r me k t = record { fenced = t.fenced; each = of_image site r me k t }

pub of_all : (site : SiteId) (r : Records) (me : Instance) (k : Knowledge) → AreImagesTrue site r me k → AreChildrenTrue site r me k → IsTrueAt site r me k
of_all site r me k images children = record {
  owned = λ free image. (images.each image).owned free;
  drawn = λ image. (images.each image).drawn;
  fenced = images.fenced;
  mapped = λ free image. (images.each image).mapped free;
  objects = λ free image. (images.each image).objects free;
  gone = λ image. (images.each image).gone;
  apart = λ image. (images.each image).apart;
  counted = λ image. (images.each image).counted;
  seen = λ image. (images.each image).seen;
  strange = λ image. (images.each image).strange;
  children = children;
}

-- ---- images that nothing was done to

-- the same is known of an image
pub record IsKnownAs (site : SiteId) (new k : Knowledge) (image : ℕ) : Type 0 where
  pub own : own_of new.owns site image ≡ own_of k.owns site image
  pub drawn : is_drawn new.drawn site image ≡ is_drawn k.drawn site image
  pub maps : maps_of new.maps site image ≡ maps_of k.maps site image
  pub objects : objects_known_of new.objects site image ≡ objects_known_of k.objects site image
  pub gone : is_gone new.gone site image ≡ is_gone k.gone site image
  pub seen : new.seen ≡ k.seen

pub known_as_itself : (site : SiteId) (k : Knowledge) (image : ℕ) → IsKnownAs site k k image
known_as_itself site k image = record { own = refl; drawn = refl; maps = refl; objects = refl; gone = refl; seen = refl }

-- its records are the same
pub record IsThereAs (r new : Records) (image : ℕ) : Type 0 where
  pub header : new.headers image ≡ r.headers image
  pub maps : new.maps image ≡ r.maps image
  pub objects : (number : ℕ) → object_at new image number ≡ object_at r image number
  pub drawn : r.directory.drawn ≤ new.directory.drawn

pub waits_as : (r new : Records) (image : ℕ) → IsThereAs r new image → IsWaiting r image → IsWaiting new image
waits_as r new image like w = record {
  drawn = let before = w.drawn in let more = like.drawn in omega (arith, before, more);
  header = like.header ∙ w.header;
  blank = λ number. like.objects number ∙ w.blank number;
  unraised = subst (λ (maps : Maps). HasNoStates (maps None)) (sym like.maps) w.unraised;
}

pub gone_as : (r new : Records) (image : ℕ) → IsThereAs r new image → IsGoneAt r image → IsGoneAt new image
gone_as r new image like g = record { drawn = let before = g.drawn in let more = like.drawn in omega (arith, before, more); header = like.header ∙ g.header }

-- what is known of objects depends on their heads alone
pub objects_alike : (alone : Bool) (layout : Layout) (old new : ℕ → Mapped) (o : ObjectsKnown) → ((number : ℕ) → (new number).head ≡ (old number).head)
    → AreObjectsTrue alone layout old o → AreObjectsTrue alone layout new o
objects_alike alone layout old new o same was = record {
  absent = λ number gone. same number ∙ was.absent number gone;
  there = λ number is. ap is_some (same number) ∙ was.there number is;
  blank = λ a. All-weaker (λ b. AreZeros layout (old b.object).head b.parts) (λ b. AreZeros layout (new b.object).head b.parts)
      (λ b zeros. subst (λ head. AreZeros layout head b.parts) (sym (same b.object)) zeros) o.blank (was.blank a);
}

module _ (site : SiteId) (r new : Records) (me : Instance) (k learnt : Knowledge) (image : ℕ) (t : IsTrueOfImage site r me k image) (like : IsKnownAs site learnt k image) (there : IsThereAs r new image)
    (was : IsFalse (is_fenced new me) → IsFalse (is_fenced r me)) where
  header_was : known_header learnt site image ≡ known_header k site image
  header_was = ap header_of_own like.own

  alone_was : is_alone_on learnt site image ≡ is_alone_on k site image
  alone_was = ap is_own_alone like.own

  was_without : KnowsNoHeader learnt site image → KnowsNoHeader k site image
  was_without (inl drawn) = inl (sym like.drawn ∙ drawn)
  was_without (inr gone) = inr (sym like.gone ∙ gone)

  pub true_as : IsTrueOfImage site new me learnt image
  true_as = record {
    owned = λ free.
        subst (λ o. IsStillOwn o (new.headers image)) (sym like.own)
        (subst (IsStillOwn (own_of k.owns site image)) (sym there.header) (t.owned (was free)));
    drawn = λ drawn. waits_as r new image there (t.drawn (sym like.drawn ∙ drawn));
    mapped = λ free known.
        subst (λ alone. AreMapsTrue alone (new.maps image) (maps_of learnt.maps site image)) (sym alone_was)
        (subst (AreMapsTrue (is_alone_on k site image) (new.maps image)) (sym like.maps)
        (subst (λ maps. AreMapsTrue (is_alone_on k site image) maps (maps_of k.maps site image)) (sym there.maps) (t.mapped (was free) (ap is_some (sym header_was) ∙ known))));
    objects = λ free h known.
        subst (λ alone. AreObjectsTrue alone h.layout (object_at new image) (objects_known_of learnt.objects site image)) (sym alone_was)
        (subst (AreObjectsTrue (is_alone_on k site image) h.layout (object_at new image)) (sym like.objects)
        (objects_alike (is_alone_on k site image) h.layout (object_at r image) (object_at new image) (objects_known_of k.objects site image) (λ n. ap (λ (o : Mapped). o.head) (there.objects n))
        (t.objects (was free) h (sym header_was ∙ known))));
    gone = λ gone. gone_as r new image there (t.gone (sym like.gone ∙ gone));
    apart = λ gone. like.drawn ∙ t.apart (sym like.gone ∙ gone);
    counted = λ without.
        subst (λ m. IsCountTrue m.count (new.maps image None)) (sym like.maps)
        (subst (λ maps. IsCountTrue (maps_of k.maps site image).count (maps None)) (sym there.maps) (t.counted (was_without without)));
    seen = λ h among. seen_there r new image h there.header there.drawn (t.seen h (subst (IsAmong (record { site = site; image = image; header = h })) like.seen among));
    strange = λ saw. like.drawn ∙ t.strange (ap (λ seen. has_seen seen site image) (sym like.seen) ∙ saw);
  }

-- What is done to one image, and learned of it, leaves the others.
pub each_true : (site : SiteId) (r new : Records) (me : Instance) (k learnt : Knowledge) (image : ℕ) → IsTrueAt site r me k → (IsFalse (is_fenced new me) → IsFalse (is_fenced r me))
    → ((i : Instance) → is_fenced_by learnt.fenced site i ≡ true → is_fenced new i ≡ true) → IsTrueOfImage site new me learnt image
    → ((i : ℕ) → i ≢ image → IsKnownAs site learnt k i) → ((i : ℕ) → i ≢ image → IsThereAs r new i) → AreImagesTrue site new me learnt
each_true site r new me k learnt image t was fenced here known there = record {
  fenced = fenced;
  each = at_each (IsTrueOfImage site new me learnt) image here (λ i other. true_as site r new me k learnt i (of_image site r me k t i) (known i other) (there i other) was);
}

-- where no image was changed
pub alike_true : (site : SiteId) (r new : Records) (me : Instance) (k : Knowledge) → IsTrueAt site r me k → (IsFalse (is_fenced new me) → IsFalse (is_fenced r me))
    → ((i : Instance) → is_fenced_by k.fenced site i ≡ true → is_fenced new i ≡ true) → ((i : ℕ) → IsThereAs r new i) → AreImagesTrue site new me k
alike_true site r new me k t was fenced there =
    record { fenced = fenced; each = λ i. true_as site r new me k k i (of_image site r me k t i) (known_as_itself site k i) (there i) was }
