-- Who knows less knows the truth too: behind a wait, where it forgets, and where it learned
-- something at the other site.
use Rattle.std.proofs.Common.{◌≡◌, ◌⊎◌, inl, inr, ℕ, ◌==◌, cond, not, Bool, true, false, List, [], ◌∷◌, Option, Some, None, is_some, refl, sym, ap, ◌∙◌, subst, arith}
use Rattle.std.specs.Prelude.{Any, IsFalse, IsSome}
use Rattle.std.proofs.lemmas.Bool.{true≢false, eqb-true, and_parts}
use Rattle.std.proofs.lemmas.List.Elements.{All-nil}
use Rattle.rbd_kinds.specs.declared.answer.Answer.{Answer}
use Rattle.rbd_kinds.specs.declared.header.HeaderView.{HeaderView}
use Rattle.rbd_kinds.specs.declared.id.Instance.{Instance}
use Rattle.rbd_kinds.specs.declared.id.SiteId.{SiteId}
use Rattle.rbd_kinds.specs.declared.layout.Layout.{Layout}
use Rattle.rbd_kinds.specs.Sharing.{go_together}
use Rattle.rbd_kinds.proofs.Images.{same_site_is, at_itself}
use Rattle.rbd_object.specs.Mapped.{Mapped}
use Rattle.rbd_flat.specs.Flat.{Flat}
use Rattle.rbd_machine.specs.Ancestors.{HeaderSeen, ObjectTold, ChildBase, ChildLink, IsAmong, SnapPlace, seen_by, told_by}
use Rattle.rbd_machine.specs.Knowledge.{Blank, Fence, ImageMaps, Knowledge, MapsKnown, ObjectsKnown, Own, afresh, owns_when_held, is_absent, is_at, is_drawn, is_fence_of, is_fenced_by, is_gone, is_raised, is_there, owns_without, maps_of, objects_known_of, own_of, known_after_wait, same_site, unfenced, unmapped, unmarked, untouched, without_fence, header_alone}
use Rattle.rbd_kinds.specs.declared.operation.Op.{Op}
use Rattle.rbd_machine.specs.Children.{based_by, childless_by, linked_by, snaps_of_others}
use Rattle.rbd_machine.specs.Wait.{Wait}
use Rattle.rbd_machine.specs.Wait as wait
use Rattle.rbd_machine.proofs.AtLeast.{among_left}
use Rattle.rbd_machine.proofs.Lawful.{left_here}
use Rattle.rbd_site.specs.Records.{Records, object_at}
use Rattle.rbd_site.specs.Step.{is_fenced}
use Rattle.rbd_stands.specs.Covering.{Maps}
use Rattle.rbd_interference.specs.Ancestors.{AreSeenTrue, DrewNoneOf, HasReadTruly}
use Rattle.rbd_interference.specs.Beside.{AreBeside}
use Rattle.rbd_interference.specs.Truth.{AreMapsTrue, AreObjectsTrue, AreZeros, IsCountTrue, IsStill, IsTrueAt, KnowsNoHeader, header_of_own, is_alone_on, is_own_alone, known_header, sharing_of_own, sharing_on, IsStillOwn, AreBasedElsewhere, AreChildrenTrue}
use Rattle.rbd_interference.specs.Turns.{KnowsAbsent, KnowsOf, KnowsThere}
use Rattle.rbd_interference.proofs.Children.{IsLessOfBases, IsLessOfChildren, children_less, children_onward, same_children}
use Rattle.rbd_interference.proofs.Each.{AreImagesTrue}
use Rattle.rbd_interference.proofs.Seen.{IsSeenLess, same_seen}

-- ---- less

-- an own that has a header is the one that was there
abbrev pub IsOwnOf : (new old : Option Own) → Type 0
IsOwnOf new old = IsSome (header_of_own new) → new ≡ old

pub record AreMapsLess (new old : MapsKnown) : Type 0 where
  pub raised : (view : Option ℕ) (object : ℕ) → is_raised view object new.raised ≡ true → is_raised view object old.raised ≡ true
  pub states : (states : List ℕ) → new.states ≡ Some states → old.states ≡ Some states
  pub count : (count : ℕ) → new.count ≡ Some count → old.count ≡ Some count
  pub put : (snap : ℕ) → new.put ≡ Some snap → old.put ≡ Some snap

abbrev pub AreObjectsLess : (new old : ObjectsKnown) → Type 0
AreObjectsLess new old = (new ≡ old) ⊎ (new ≡ untouched)

-- no more is known at a site
pub record IsLess (site : SiteId) (new old : Knowledge) : Type 0 where
  pub owns : (image : ℕ) → IsOwnOf (own_of new.owns site image) (own_of old.owns site image)
  pub drawn : (image : ℕ) → is_drawn new.drawn site image ≡ true → is_drawn old.drawn site image ≡ true
  pub fenced : (i : Instance) → is_fenced_by new.fenced site i ≡ true → is_fenced_by old.fenced site i ≡ true
  pub maps : (image : ℕ) → AreMapsLess (maps_of new.maps site image) (maps_of old.maps site image)
  pub objects : (image : ℕ) → AreObjectsLess (objects_known_of new.objects site image) (objects_known_of old.objects site image)
  pub gone : (image : ℕ) → is_gone new.gone site image ≡ true → is_gone old.gone site image ≡ true
  pub seen : IsSeenLess site new.seen old.seen
  pub children : IsLessOfChildren site new old

pub same_maps : (m : MapsKnown) → AreMapsLess m m
same_maps m = record { raised = λ view object marked. marked; states = λ states told. told; count = λ count known. known; put = λ snap known. known }

pub as_maps : (new old : MapsKnown) → new ≡ old → AreMapsLess new old
as_maps new old same = subst (AreMapsLess new) same (same_maps new)

pub less_itself : (site : SiteId) (k : Knowledge) → IsLess site k k
less_itself site k = record {
  owns = λ image some. refl;
  drawn = λ image drawn. drawn;
  fenced = λ i known. known;
  maps = λ image. same_maps (maps_of k.maps site image);
  objects = λ image. inl refl;
  gone = λ image gone. gone;
  seen = same_seen site k.seen;
  children = same_children site k k refl refl refl refl refl;
}

-- ---- less is true

pub nothing_of : (alone : Bool) (layout : Layout) (objects : ℕ → Mapped) → AreObjectsTrue alone layout objects untouched
nothing_of alone layout objects = record { absent = λ number gone. absurd (true≢false (sym gone)); there = λ number is. absurd (true≢false (sym is)); blank = λ a. All-nil (λ b. AreZeros layout (objects b.object).head b.parts) }

count_less : (new old : Option ℕ) (map : Option (List ℕ)) → ((count : ℕ) → new ≡ Some count → old ≡ Some count) → IsCountTrue old map → IsCountTrue new map
count_less None old map less t = tt
count_less (Some count) old map less t = subst (λ c. IsCountTrue c map) (less count refl) t

maps_less : (alone : Bool) (maps : Maps) (new old : MapsKnown) → AreMapsLess new old → AreMapsTrue alone maps old → AreMapsTrue alone maps new
maps_less alone maps new old less t = record {
  raised = λ view object marked. t.raised view object (less.raised view object marked);
  states = λ a states told. t.states a states (less.states states told);
  count = λ a. count_less new.count old.count (maps None) less.count (t.count a);
  put = λ a snap is. t.put a snap (less.put snap is);
}

objects_less : (alone : Bool) (layout : Layout) (objects : ℕ → Mapped) (new old : ObjectsKnown) → AreObjectsLess new old → AreObjectsTrue alone layout objects old → AreObjectsTrue alone layout objects new
objects_less alone layout objects new old (inl same) t = subst (AreObjectsTrue alone layout objects) (sym same) t
objects_less alone layout objects new old (inr none) t = subst (AreObjectsTrue alone layout objects) (sym none) (nothing_of alone layout objects)

-- what is known of an object was known before, where nothing of it is known of one that is untouched
knew_object : (P : ObjectsKnown → Type 0) → (P untouched → ⊥) → (new old : ObjectsKnown) → AreObjectsLess new old → P new → P old
knew_object P nothing new old (inl same) knows = subst P same knows
knew_object P nothing new old (inr none) knows = absurd (nothing (subst P none knows))

-- of no object places are known to be zeros
none_blank : (object : ℕ) → Any (λ (b : Blank). b.object ≡ object) [] → ⊥
none_blank object (k, b, less, is, holds) = absurd (omega arith)

nothing_absent : (object : ℕ) → (is_absent object untouched.absent ≡ true) ⊎ Any (λ (b : Blank). b.object ≡ object) untouched.blank → ⊥
nothing_absent object (inl gone) = true≢false (sym gone)
nothing_absent object (inr blank) = none_blank object blank

module _ (site : SiteId) (new old : Knowledge) (less : IsLess site new old) where
  known_before : (image : ℕ) → IsSome (known_header new site image) → known_header old site image ≡ known_header new site image
  known_before image some = sym (ap header_of_own (less.owns image some))

  alone_before : (image : ℕ) → IsSome (known_header new site image) → is_alone_on old site image ≡ is_alone_on new site image
  alone_before image some = sym (ap is_own_alone (less.owns image some))

  some_before : (image : ℕ) → IsSome (known_header new site image) → IsSome (known_header old site image)
  some_before image some = ap is_some (known_before image some) ∙ some

  pub knew_absent : (image object : ℕ) → KnowsAbsent new site image object → KnowsAbsent old site image object
  knew_absent image object =
      knew_object (λ o. (is_absent object o.absent ≡ true) ⊎ Any (λ (b : Blank). b.object ≡ object) o.blank) (nothing_absent object)
      (objects_known_of new.objects site image) (objects_known_of old.objects site image) (less.objects image)

  knew_there : (image object : ℕ) → KnowsThere new site image object → KnowsThere old site image object
  knew_there image object =
      knew_object (λ o. is_there object o.there ≡ true) (λ is. true≢false (sym is)) (objects_known_of new.objects site image) (objects_known_of old.objects site image) (less.objects image)

  pub knew_of : (image object : ℕ) → KnowsOf new site image object → KnowsOf old site image object
  knew_of image object (inl raised) = inl ((less.maps image).raised None object raised)
  knew_of image object (inr (inl gone)) = inr (inl (knew_absent image object gone))
  knew_of image object (inr (inr there)) = inr (inr (knew_there image object there))

  was_without : (image : ℕ) → KnowsNoHeader new site image → KnowsNoHeader old site image
  was_without image (inl drawn) = inl (less.drawn image drawn)
  was_without image (inr gone) = inr (less.gone image gone)

  undrawn : (image : ℕ) → is_drawn old.drawn site image ≡ false → is_drawn new.drawn site image ≡ false
  undrawn image none = by (is_drawn new.drawn site image) refl
    where
      by : (b : Bool) → is_drawn new.drawn site image ≡ b → b ≡ false
      by false is = refl
      by true is = absurd (true≢false (sym (less.drawn image is) ∙ none))

  undone : (image : ℕ) → is_gone old.gone site image ≡ false → is_gone new.gone site image ≡ false
  undone image none = by (is_gone new.gone site image) refl
    where
      by : (b : Bool) → is_gone new.gone site image ≡ b → b ≡ false
      by false is = refl
      by true is = absurd (true≢false (sym (less.gone image is) ∙ none))

  pub less_true : (r : Records) (me : Instance) → IsTrueAt site r me old → IsTrueAt site r me new
  less_true r me t = record {
    owned = λ free image. still image free (known_header new site image) refl;
    drawn = λ image drawn. t.drawn image (less.drawn image drawn);
    fenced = λ i known. t.fenced i (less.fenced i known);
    mapped = λ free image some.
        subst (λ alone. AreMapsTrue alone (r.maps image) (maps_of new.maps site image)) (alone_before image some)
        (maps_less (is_alone_on old site image) (r.maps image) (maps_of new.maps site image) (maps_of old.maps site image) (less.maps image) (t.mapped free image (some_before image some)));
    objects = λ free image h known.
        let some : IsSome (known_header new site image) = ap is_some known in
        subst (λ alone. AreObjectsTrue alone h.layout (object_at r image) (objects_known_of new.objects site image)) (alone_before image some)
        (objects_less (is_alone_on old site image) h.layout (object_at r image) (objects_known_of new.objects site image) (objects_known_of old.objects site image) (less.objects image)
        (t.objects free image h (known_before image some ∙ known)));
    gone = λ image gone. t.gone image (less.gone image gone);
    apart = λ image gone. undrawn image (t.apart image (less.gone image gone));
    counted = λ image without. count_less (maps_of new.maps site image).count (maps_of old.maps site image).count (r.maps image None) (less.maps image).count (t.counted image (was_without image without));
    seen = λ image h among. t.seen image h (less.seen.among image h among);
    strange = λ image saw. undrawn image (t.strange image (less.seen.has image saw));
    children = children_less site r me new old less.children t.children;
  }
    where
      still : (image : ℕ) → IsFalse (is_fenced r me) → (known : Option HeaderView) → known_header new site image ≡ known → IsStill (sharing_on new site image) known (r.headers image)
      still image free None is = tt
      still image free (Some h) is =
          subst (λ known. IsStill (sharing_on new site image) known (r.headers image)) is
          (subst (λ o. IsStillOwn o (r.headers image)) (sym (less.owns image (ap is_some is))) (t.owned free image))

-- Who knows no more of headers and ids stays beside the others.
pub known_beside : (site : SiteId) (r : Records) (me you : Instance) (new old j : Knowledge) → ((image : ℕ) → IsOwnOf (own_of new.owns site image) (own_of old.owns site image))
    → ((image : ℕ) → is_drawn new.drawn site image ≡ true → is_drawn old.drawn site image ≡ true)
    → ((image : ℕ) → is_gone new.gone site image ≡ true → is_gone old.gone site image ≡ true) → IsSeenLess site new.seen old.seen → IsLessOfBases site new old → AreBeside site r me you old j
    → AreBeside site r me you new j
known_beside site r me you new old j owns drawn gone seen bases beside = record {
  shared = λ free image some others.
      ap (λ o. go_together (sharing_of_own o) (sharing_on j site image)) (owns image some) ∙ beside.shared free image (before image some) others;
  gone = λ image g. beside.gone image (gone image g);
  gone_there = λ image g. undrawn image (beside.gone_there image g);
  removed = λ image g. beside.removed image (gone image g);
  apart = λ image d. beside.apart image (drawn image d);
  unseen = λ image saw. beside.unseen image (seen.has image saw);
  unseen_there = λ image saw. undrawn image (beside.unseen_there image saw);
  unbased = λ free child link based childless. beside.unbased free child link (bases.based child link based) childless;
  unbased_there = λ free child link based childless. beside.unbased_there free child link based (bases.childless link.image link.snap childless);
}
  where
    before : (image : ℕ) → IsSome (header_of_own (own_of new.owns site image)) → IsSome (header_of_own (own_of old.owns site image))
    before image some = ap (λ o. is_some (header_of_own o)) (sym (owns image some)) ∙ some

    undrawn : (image : ℕ) → is_drawn old.drawn site image ≡ false → is_drawn new.drawn site image ≡ false
    undrawn image none = by (is_drawn new.drawn site image) refl
      where
        by : (b : Bool) → is_drawn new.drawn site image ≡ b → b ≡ false
        by false is = refl
        by true is = absurd (true≢false (sym (drawn image is) ∙ none))

pub less_beside : (site : SiteId) (r : Records) (me you : Instance) (new old j : Knowledge) → IsLess site new old → AreBeside site r me you old j → AreBeside site r me you new j
less_beside site r me you new old j less beside =
    known_beside site r me you new old j less.owns less.drawn less.gone less.seen (record { based = less.children.based; childless = less.children.childless }) beside

-- ---- what is told of any image

-- what was told of any image, and of children
pub record Told : Type 0 where
  pub seen : List HeaderSeen
  pub told : List ObjectTold
  pub linked : List ChildLink
  pub based : List ChildBase
  pub childless : List SnapPlace

abbrev pub with_told : Told → Knowledge → Knowledge
with_told w k = record k { seen = w.seen; told = w.told; linked = w.linked; based = w.based; childless = w.childless }

-- what an answer tells of them
abbrev pub told_then : Knowledge → SiteId → Op → Answer → Told
told_then k site o a = record {
  seen = seen_by k.seen site o a;
  told = told_by k.seen k.told site o a;
  linked = linked_by k.linked site o a;
  based = based_by k.linked k.based site o a;
  childless = childless_by (λ image. header_alone (own_of k.owns site image)) k.childless site o a;
}

-- Who was told more of other images knows the same of its own.
pub telling_true : (site : SiteId) (r : Records) (me : Instance) (k : Knowledge) (w : Told) → AreSeenTrue site r w.seen → DrewNoneOf site w.seen k → AreChildrenTrue site r me (with_told w k)
    → AreImagesTrue site r me k → IsTrueAt site r me (with_told w k)
telling_true site r me k w are strange children t = record {
  owned = λ free image. (t.each image).owned free;
  drawn = λ image. (t.each image).drawn;
  fenced = t.fenced;
  mapped = λ free image. (t.each image).mapped free;
  objects = λ free image. (t.each image).objects free;
  gone = λ image. (t.each image).gone;
  apart = λ image. (t.each image).apart;
  counted = λ image. (t.each image).counted;
  seen = are;
  strange = strange;
  children = children;
}

pub telling_beside : (site : SiteId) (r : Records) (me you : Instance) (k j : Knowledge) (w : Told) → DrewNoneOf site w.seen j → (IsFalse (is_fenced r you) → AreBasedElsewhere site (with_told w k) j)
    → (IsFalse (is_fenced r me) → AreBasedElsewhere site j (with_told w k)) → AreBeside site r me you k j → AreBeside site r me you (with_told w k) j
telling_beside site r me you k j w unseen unbased unbased_there beside = record {
  shared = beside.shared;
  apart = beside.apart;
  gone = beside.gone;
  gone_there = beside.gone_there;
  removed = beside.removed;
  unseen = unseen;
  unseen_there = beside.unseen_there;
  unbased = unbased;
  unbased_there = unbased_there;
}

-- who knows less than one that knows less
pub less_then : (site : SiteId) (a b c : Knowledge) → IsLess site a b → IsLess site b c → IsLess site a c
less_then site a b c first then_less = record {
  owns = λ image some. first.owns image some ∙ then_less.owns image (ap (λ o. is_some (header_of_own o)) (sym (first.owns image some)) ∙ some);
  drawn = λ image drawn. then_less.drawn image (first.drawn image drawn);
  fenced = λ i known. then_less.fenced i (first.fenced i known);
  maps = λ image. record {
    raised = λ view object marked. (then_less.maps image).raised view object ((first.maps image).raised view object marked);
    states = λ states told. (then_less.maps image).states states ((first.maps image).states states told);
    count = λ count known. (then_less.maps image).count count ((first.maps image).count count known);
    put = λ snap known. (then_less.maps image).put snap ((first.maps image).put snap known);
  };
  objects = λ image. objects (objects_known_of a.objects site image) (objects_known_of b.objects site image) (objects_known_of c.objects site image) (first.objects image) (then_less.objects image);
  gone = λ image gone. then_less.gone image (first.gone image gone);
  seen = record {
    among = λ image h among. then_less.seen.among image h (first.seen.among image h among);
    has = λ image saw. then_less.seen.has image (first.seen.has image saw);
  };
  children = children_onward site a b c first.children then_less.children;
}
  where
    objects : (x y z : ObjectsKnown) → AreObjectsLess x y → AreObjectsLess y z → AreObjectsLess x z
    objects x y z (inr none) less = inr none
    objects x y z (inl same) (inl as_well) = inl (same ∙ as_well)
    objects x y z (inl same) (inr none) = inr (same ∙ none)

-- ---- places

pub place_of : (site there : SiteId) (image place : ℕ) → is_at site image there place ≡ true → (site ≡ there) × (image ≡ place)
place_of site there image place is =
    let parts = and_parts (same_site there site) (place == image) is in
    (sym (same_site_is there site parts.0), sym (eqb-true place image parts.1))

-- the own that is left at another place is the one that was there
pub left_there : (site there : SiteId) (image place : ℕ) → is_at there place site image ≡ false → (owns : List Own) → own_of (owns_without site image owns) there place ≡ own_of owns there place
left_there site there image place differ [] = refl
left_there site there image place differ (o ∷ owns) = by (is_at site image o.site o.image) refl (left_there site there image place differ owns)
  where
    by : (b : Bool) → is_at site image o.site o.image ≡ b → own_of (owns_without site image owns) there place ≡ own_of owns there place
        → own_of (cond (not b) (o ∷ owns_without site image owns) (owns_without site image owns)) there place ≡ cond (is_at there place o.site o.image) (Some o) (own_of owns there place)
    by true is rest =
        let same = place_of site o.site image o.image is in
        rest ∙ sym (ap (λ b. cond b (Some o) (own_of owns there place)) (sym (ap (λ s. is_at there place s image) same.0 ∙ ap (λ i. is_at there place o.site i) same.1) ∙ differ))
    by false is rest = ap (λ found. cond (is_at there place o.site o.image) (Some o) found) rest

-- What holds of the own that was there, and of none, holds of the one that is left.
pub own_left : (P : Option Own → Type 0) (site there : SiteId) (image place : ℕ) (owns : List Own) → P None → P (own_of owns site image) → P (own_of (owns_without there place owns) site image)
own_left P site there image place owns none was = by (is_at site image there place) refl
  where
    by : (b : Bool) → is_at site image there place ≡ b → P (own_of (owns_without there place owns) site image)
    by true is =
        let same = place_of site there image place is in
        let gone : own_of (owns_without there place owns) site image ≡ None =
        ap (λ s. own_of (owns_without there place owns) s image) same.0 ∙ ap (λ i. own_of (owns_without there place owns) there i) same.1 ∙ left_here there place owns in
        subst P (sym gone) none
    by false other = subst P (sym (left_there there site place image other owns)) was

-- who waits at a place has looked at nothing there
abbrev waiting : Knowledge → SiteId → (place : ℕ) → Own
waiting k there place = record { site = there; image = place; sharing = k.sharing; header = None }

pub own_held : (P : Option Own → Type 0) (site there : SiteId) (image place : ℕ) (k : Knowledge) → P (Some (waiting k there place)) → P None → P (own_of k.owns site image)
    → P (own_of (owns_when_held k there place) site image)
own_held P site there image place k waits none was = by (is_at site image there place)
  where
    by : (b : Bool) → P (cond b (Some (waiting k there place)) (own_of (owns_without there place k.owns) site image))
    by true = waits
    by false = own_left P site there image place k.owns none was

-- without the marks
pub maps_unmarked : (maps : List ImageMaps) (site : SiteId) (image : ℕ) → maps_of (unmarked maps) site image ≡ record (maps_of maps site image) { raised = [] }
maps_unmarked [] site image = refl
maps_unmarked (m ∷ maps) site image = by (is_at site image m.site m.image) (maps_unmarked maps site image)
  where
    by : (b : Bool) → maps_of (unmarked maps) site image ≡ record (maps_of maps site image) { raised = [] }
        → cond b (record m.known { raised = [] }) (maps_of (unmarked maps) site image) ≡ record (cond b m.known (maps_of maps site image)) { raised = [] }
    by true rest = refl
    by false rest = rest

-- ---- what is forgotten

-- an own that was left, or that waits, has no header
pub left_own : (site there : SiteId) (image place : ℕ) (owns : List Own) → IsOwnOf (own_of (owns_without there place owns) site image) (own_of owns site image)
left_own site there image place owns = own_left (λ o. IsOwnOf o (own_of owns site image)) site there image place owns (λ some. absurd (true≢false (sym some))) (λ some. refl)

held_own : (site there : SiteId) (image place : ℕ) (k : Knowledge) → IsOwnOf (own_of (owns_when_held k there place) site image) (own_of k.owns site image)
held_own site there image place k =
    own_held (λ o. IsOwnOf o (own_of k.owns site image)) site there image place k (λ some. absurd (true≢false (sym some))) (λ some. absurd (true≢false (sym some))) (λ some. refl)

bare_maps : (m : MapsKnown) → AreMapsLess (record m { raised = [] }) m
bare_maps m = record { raised = λ view object marked. absurd (true≢false (sym marked)); states = λ states told. told; count = λ count known. known; put = λ snap known. known }

unmarked_maps : (maps : List ImageMaps) (site : SiteId) (image : ℕ) → AreMapsLess (maps_of (unmarked maps) site image) (maps_of maps site image)
unmarked_maps maps site image = subst (λ m. AreMapsLess m (maps_of maps site image)) (sym (maps_unmarked maps site image)) (bare_maps (maps_of maps site image))

pub unmapped_less : (m : MapsKnown) → AreMapsLess unmapped m
unmapped_less m = record { raised = λ view object marked. absurd (true≢false (sym marked)); states = λ states told. cc; count = λ count known. cc; put = λ snap known. cc }

nothing_marked : (maps : List ImageMaps) (site : SiteId) (image object : ℕ) → is_raised None object (maps_of (unmarked maps) site image).raised ≡ true → ⊥
nothing_marked maps site image object marked = true≢false (sym marked ∙ ap (λ m. is_raised None object m.raised) (maps_unmarked maps site image))

-- nothing is known of any object
pub nothing_known_of : (maps : List ImageMaps) (turn : Option ℕ) (k : Knowledge) (site : SiteId) (image object : ℕ) → KnowsOf (record k { turn = turn; maps = unmarked maps; objects = [] }) site image object → ⊥
nothing_known_of maps turn k site image object (inl marked) = nothing_marked maps site image object marked
nothing_known_of maps turn k site image object (inr (inl gone)) = nothing_absent object gone
nothing_known_of maps turn k site image object (inr (inr there)) = true≢false (sym there)

-- of an image that it gave up it knows no snapshot without children
module _ (site there : SiteId) (place : ℕ) (k : Knowledge) where
  -- another image
  not_there : (image : ℕ) → not (is_at there place site image) ≡ true → is_at site image there place ≡ false
  not_there image other = by (is_at site image there place) refl
    where
      by : (b : Bool) → is_at site image there place ≡ b → b ≡ false
      by false is = refl
      by true is =
          let same = place_of site there image place is in
          absurd (true≢false (sym other ∙ ap not (ap (λ s. is_at s place site image) (sym same.0) ∙ ap (λ i. is_at site i site image) (sym same.1) ∙ at_itself site image)))

  apart_of : (image snap : ℕ) → IsAmong (record { site = site; image = image; snap = snap }) (snaps_of_others there place k.childless)
      → IsAmong (record { site = site; image = image; snap = snap }) k.childless × (is_at site image there place ≡ false)
  apart_of image snap among = let left = among_left (λ p. not (is_at there place p.site p.image)) (record { site = site; image = image; snap = snap }) k.childless among in (left.0, not_there image left.1)

  held_children : IsLessOfChildren site (known_after_wait k (wait.Hold there place)) k
  held_children = record {
    linked = λ parent snap child among. among;
    based = λ child link among. among;
    childless = λ image snap among. (apart_of image snap among).0;
    makes = λ child makes. makes;
    owns = λ image snap among.
        let other = (apart_of image snap among).1 in
        ap (λ b. cond b (Some (waiting k there place)) (own_of (owns_without there place k.owns) site image)) other ∙ left_there there site place image other k.owns;
  }

  left_children : IsLessOfChildren site (known_after_wait k (wait.Leave there place)) k
  left_children = record {
    linked = λ parent snap child among. among;
    based = λ child link among. among;
    childless = λ image snap among. (apart_of image snap among).0;
    makes = λ child makes. makes;
    owns = λ image snap among. left_there there site place image (apart_of image snap among).1 k.owns;
  }

turned : (site : SiteId) (k : Knowledge) (turn : Option ℕ) → IsLess site (record k { turn = turn; maps = unmarked k.maps; objects = [] }) k
turned site k turn = record {
  owns = λ image some. refl;
  drawn = λ image drawn. drawn;
  fenced = λ i known. known;
  maps = λ image. unmarked_maps k.maps site image;
  objects = λ image. inr refl;
  gone = λ image gone. gone;
  seen = same_seen site k.seen;
  children = same_children site _ k refl refl refl refl refl;
}

pub waited_less : (site : SiteId) (k : Knowledge) (w : Wait) → IsLess site (known_after_wait k w) k
waited_less site k (wait.Join there image sharing) = record {
  owns = λ image some. refl;
  drawn = λ image drawn. drawn;
  fenced = λ i known. known;
  maps = λ image. same_maps (maps_of k.maps site image);
  objects = λ image. inl refl;
  gone = λ image gone. gone;
  seen = same_seen site k.seen;
  children = same_children site _ k refl refl refl refl refl;
}
waited_less site k (wait.Hold there place) = record {
  owns = λ image. held_own site there image place k;
  drawn = λ image drawn. drawn;
  fenced = λ i known. known;
  maps = λ image. same_maps (maps_of k.maps site image);
  objects = λ image. inr refl;
  gone = λ image gone. gone;
  seen = same_seen site k.seen;
  children = held_children site there place k;
}
waited_less site k (wait.Turn object) = turned site k (Some object)
waited_less site k (wait.Applied there image) = turned site k None
waited_less site k (wait.Leave there place) = record {
  owns = λ image. left_own site there image place k.owns;
  drawn = λ image drawn. drawn;
  fenced = λ i known. known;
  maps = λ image. same_maps (maps_of k.maps site image);
  objects = λ image. inl refl;
  gone = λ image gone. gone;
  seen = same_seen site k.seen;
  children = left_children site there place k;
}

pub waits_learned : (site : SiteId) (r : Records) (me : Instance) (k : Knowledge) → IsTrueAt site r me k → (w : Wait) → IsTrueAt site r me (known_after_wait k w)
waits_learned site r me k t w = less_true site (known_after_wait k w) k (waited_less site k w) r me t

-- no wait adds to what was read of snapshots
pub waits_read : (site : SiteId) (r : Records) (f : Flat) (k : Knowledge) (w : Wait) → HasReadTruly site r f k → HasReadTruly site r f (known_after_wait k w)
waits_read site r f k (wait.Join there image sharing) was = was
waits_read site r f k (wait.Hold there place) was = was
waits_read site r f k (wait.Turn object) was = was
waits_read site r f k (wait.Applied there image) was = was
waits_read site r f k (wait.Leave there place) was = was

-- at the look under the lock
marked_afresh : (site : SiteId) (k : Knowledge) (image object : ℕ) (b : Bool) → is_raised None object (cond b unmapped (maps_of (unmarked k.maps) site image)).raised ≡ true → ⊥
marked_afresh site k image object true is = true≢false (sym is)
marked_afresh site k image object false is = nothing_marked k.maps site image object is

pub nothing_afresh : (site there : SiteId) (place image : ℕ) (k : Knowledge) (object : ℕ) → KnowsOf (afresh there place k) site image object → ⊥
nothing_afresh site there place image k object (inl is) = marked_afresh site k image object (is_at site image there place) is
nothing_afresh site there place image k object (inr (inl gone)) = nothing_absent object gone
nothing_afresh site there place image k object (inr (inr is)) = true≢false (sym is)

pub afresh_less : (site there : SiteId) (place : ℕ) (k : Knowledge) → IsLess site (afresh there place k) k
afresh_less site there place k = record {
  owns = λ image some. refl;
  drawn = λ image drawn. drawn;
  fenced = λ i known. known;
  maps = λ image. maps image (is_at site image there place);
  objects = λ image. inr refl;
  gone = λ image gone. gone;
  seen = same_seen site k.seen;
  children = same_children site _ k refl refl refl refl refl;
}
  where
    maps : (image : ℕ) (b : Bool) → AreMapsLess (cond b unmapped (maps_of (unmarked k.maps) site image)) (maps_of k.maps site image)
    maps image true = unmapped_less (maps_of k.maps site image)
    maps image false = unmarked_maps k.maps site image

-- ---- fences

-- a fence that is known without the last one of an instance was known with it
pub was_known : (there : SiteId) (owner : Instance) (site : SiteId) (i : Instance) (fenced : List Fence) → is_fenced_by (unfenced there owner fenced) site i ≡ true → is_fenced_by fenced site i ≡ true
was_known there owner site i [] known = known
was_known there owner site i (f ∷ fenced) known = by (is_fence_of there owner f) (is_fence_of site i f) refl known (was_known there owner site i fenced)
  where
    by : (a b : Bool) → is_fence_of site i f ≡ b → is_fenced_by (cond a fenced (f ∷ unfenced there owner fenced)) site i ≡ true
        → (is_fenced_by (unfenced there owner fenced) site i ≡ true → is_fenced_by fenced site i ≡ true) → cond b true (is_fenced_by fenced site i) ≡ true
    by a true is known before = refl
    by true false is known before = known
    by false false is known before = before (sym (ap (λ b. cond b true (is_fenced_by (unfenced there owner fenced) site i)) is) ∙ known)

pub unfenced_less : (site there : SiteId) (owner : Instance) (k : Knowledge) → IsLess site (without_fence there owner k) k
unfenced_less site there owner k = record {
  owns = λ image some. refl;
  drawn = λ image drawn. drawn;
  fenced = λ i known. was_known there owner site i k.fenced known;
  maps = λ image. same_maps (maps_of k.maps site image);
  objects = λ image. inl refl;
  gone = λ image gone. gone;
  seen = same_seen site k.seen;
  children = same_children site _ k refl refl refl refl refl;
}
