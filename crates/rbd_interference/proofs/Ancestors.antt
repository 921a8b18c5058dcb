-- Bytes that are known of a snapshot are those of the flat snapshot.
use Rattle.std.proofs.Common.{◌≡◌, ◌⊎◌, inl, inr, ℕ, ◌+◌, ◌-◌, ◌<◌, ◌≤◌, ◌&&◌, cond, ltb, leb, Bool, true, false, List, [], ◌∷◌, ◌++◌, length, drop, get_or, Option, Some, None, refl, sym, ap, ◌∙◌, subst, arith}
use Rattle.std.specs.Prelude.{Any}
use Rattle.std.proofs.lemmas.Bool.{and_parts, cases_lt, le-ltb, leb-true, lt-ltb, ltb-true}
use Rattle.std.proofs.lemmas.List.{drop_at, get_or_append_left}
use Rattle.std.proofs.lemmas.List.Elements.{All-weaker}
use Rattle.std.proofs.lemmas.Option.{none-some, same_Some}
use Rattle.rbd_kinds.specs.declared.header.HeaderView.{HeaderView}
use Rattle.rbd_kinds.specs.declared.header.ParentLink.{ParentLink}
use Rattle.rbd_kinds.specs.declared.header.SnapView.{SnapView}
use Rattle.rbd_kinds.specs.declared.id.SiteId.{SiteId}
use Rattle.rbd_kinds.specs.declared.layout.Layout.{Layout}
use Rattle.rbd_kinds.specs.declared.layout.Part.{Part}
use Rattle.rbd_kinds.specs.Striping.{object_of, offset_of}
use Rattle.rbd_header.specs.Later.{WasListed}
use Rattle.rbd_layout.specs.Pieces.{IsIn, IsPart}
use Rattle.rbd_parts.specs.Contents.{window}
use Rattle.rbd_parts.proofs.ContentsLemmas.{get_or-window, length-window}
use Rattle.rbd_flat.specs.Flat.{Flat, FlatSnap, image_at}
use Rattle.rbd_flat.specs.Laws.{snap_at, snap_byte}
use Rattle.rbd_machine.specs.Ancestors.{HeaderSeen, IsPastOverlap, KnowsByte, Shown, Past, Inherited, KnowsInherited, LiesWithin, ObjectTold, WasRead, told_byte}
use Rattle.rbd_site.specs.Records.{Records}
use Rattle.rbd_stands.specs.Condition.{ArePartsBelow, IsGathered, IsPartBelow}
use Rattle.rbd_stands.specs.Reading.{AreFlatBytes, AreInherited, bytes_at_parts}
use Rattle.rbd_stands.specs.Shown.{HasParent, IsInOverlap, inherited, links_of, snapshots_of}
use Rattle.rbd_stands.specs.Site.{StandsFor}
use Rattle.rbd_stands.specs.Told.{IsTold}
use Rattle.rbd_stands.proofs.SiteSteps.{parents_there}
use Rattle.rbd_stands.proofs.Told.{flat_listed, snap_viewed}
use Rattle.rbd_interference.specs.Ancestors.{AreSeenTrue, AreToldTrue}

-- ---- bytes of parts

-- a byte among those that were read at the parts is the image's
pub byte_told : (parts : List Part) (flat : List ℕ) (x byte : ℕ) → told_byte parts (bytes_at_parts parts flat) x ≡ Some byte → get_or flat x 0 ≡ byte
byte_told [] flat x byte is = absurd (none-some byte is)
byte_told (p ∷ parts) flat x byte is = by (leb p.at x && ltb x (p.at + p.len)) refl is (byte_told parts flat x byte)
  where
    first : List ℕ
    first = window flat p.at p.len

    rest : List ℕ
    rest = bytes_at_parts parts flat

    by : (b : Bool) → leb p.at x && ltb x (p.at + p.len) ≡ b → cond b (Some (get_or (first ++ rest) (x - p.at) 0)) (told_byte parts (drop p.len (first ++ rest)) x) ≡ Some byte
        → (told_byte parts rest x ≡ Some byte → get_or flat x 0 ≡ byte) → get_or flat x 0 ≡ byte
    by true within told more =
        let parts_of = and_parts (leb p.at x) (ltb x (p.at + p.len)) within in
        let low : p.at ≤ x = leb-true p.at x parts_of.0 in
        let high : x < p.at + p.len = ltb-true x (p.at + p.len) parts_of.1 in
        let long : length first ≡ p.len = length-window flat p.at p.len in
        let back : p.at + (x - p.at) ≡ x = omega arith in
        ap (λ n. get_or flat n 0) (sym back)
        ∙ sym (get_or-window flat p.at p.len (x - p.at) (omega arith))
        ∙ sym (get_or_append_left first rest 0 (x - p.at) (omega arith))
        ∙ same_Some (get_or (first ++ rest) (x - p.at) 0) byte told
    by false outside told more = more (ap (λ bytes. told_byte parts bytes x) (sym (drop_at first rest p.len (length-window flat p.at p.len))) ∙ told)

past_overlap : (parent : Option ParentLink) (x : ℕ) → IsPastOverlap parent x → IsInOverlap parent x → ⊥
past_overlap None x past inside = inside
past_overlap (Some link) x past inside = omega (arith, past, inside)

-- ---- what is known is true

module _ (site : SiteId) (r : Records) (f : Flat) (stands : StandsFor [] r f) (told : List ObjectTold) (seen : List HeaderSeen) (are_seen : AreSeenTrue site r seen)
    (are_told : AreToldTrue site r f seen told) where
  -- what was read of a snapshot that is there, and the parent by which it was read
  record ReadTrue (image snap : ℕ) (bytes : Option (List ℕ)) (read : WasRead told seen site image snap bytes) : Type 0 where
    pub still : IsTold f image snap read.view.parent read.parts bytes
    pub has : HasParent (snapshots_of f) (links_of f image) read.view.parent

  read_true : (image snap : ℕ) (bytes : Option (List ℕ)) (read : WasRead told seen site image snap bytes) (u : FlatSnap) → snap_at f image snap ≡ Some u → ReadTrue image snap bytes read
  read_true image snap bytes read u is =
      let found = flat_listed [] r f image snap u stands is in
      let saw = are_seen image read.header read.saw in
      let later = saw.later found.0 found.2 in
      let had : WasListed read.header.snaps snap found.1 = later.snaps snap found.1 (saw.numbered snap read.view read.listed) found.3 in
      let same : had.was ≡ read.view = same_Some had.was read.view (sym had.listed ∙ read.listed) in
      let parent : found.1.parent ≡ read.view.parent = had.parent ∙ ap (λ (s : SnapView). s.parent) same in
      let size : read.view.size ≡ found.1.size = sym (had.size ∙ ap (λ (s : SnapView). s.size) same) in
      let lie : ArePartsBelow found.0 found.1.size read.object read.parts =
      All-weaker (LiesWithin read.header.layout read.view.size read.object) (IsPartBelow found.0 found.1.size read.object)
      (λ p lies. record { part = subst (λ (l : Layout). IsPart l read.object p) (sym later.layout) lies.part; below = subst (λ n. p.at + p.len ≤ n) size lies.below }) read.parts read.lie in
      record {
        still = subst (λ q. IsTold f image snap q read.parts bytes) parent ((are_told image snap read.object read.parts bytes read.read).still found.0 found.1 found.2 found.3 lie);
        has = subst (HasParent (snapshots_of f) (links_of f image)) parent ((parents_there [] r f image found.0 stands found.2).snap snap found.1 found.3);
      }

  -- what the flat snapshot shows
  of_bytes : (image snap : ℕ) (parts : List Part) (bytes : List ℕ) (x byte : ℕ) (u : FlatSnap) → snap_at f image snap ≡ Some u → AreFlatBytes f image (Some snap) parts bytes
      → told_byte parts bytes x ≡ Some byte → get_or u.bytes x 0 ≡ byte
  of_bytes image snap parts bytes x byte u is flat shows =
      let same : u.bytes ≡ flat.flat = same_Some u.bytes flat.flat (sym (snap_viewed (image_at f image) snap u is) ∙ flat.is) in
      byte_told parts u.bytes x byte (ap (λ (bs : List ℕ). told_byte parts bs x) (ap (bytes_at_parts parts) same ∙ sym flat.same) ∙ shows)

  of_absence : (image snap : ℕ) (parent : Option ParentLink) (parts : List Part) (x : ℕ) (u : FlatSnap) → snap_at f image snap ≡ Some u → AreInherited f image (Some snap) parent parts
      → Any (IsIn x) parts → get_or u.bytes x 0 ≡ inherited (snapshots_of f) parent x
  of_absence image snap parent parts x u is absent among =
      ap (λ (bs : List ℕ). get_or bs x 0) (same_Some u.bytes absent.flat (sym (snap_viewed (image_at f image) snap u is) ∙ absent.is)) ∙ shown parent refl
    where
      shown : (q : Option ParentLink) → parent ≡ q → get_or absent.flat x 0 ≡ inherited (snapshots_of f) q x
      shown None none = absent.zeros x among (λ inside. subst (λ q. IsInOverlap q x) none inside)
      shown (Some link) some = by (cases_lt x link.overlap)
        where
          by : (x < link.overlap) ⊎ (link.overlap ≤ x) → get_or absent.flat x 0 ≡ inherited (snapshots_of f) (Some link) x
          by (inl less) = absent.covered x among (subst (λ q. IsInOverlap q x) (sym some) less) ∙ ap (λ q. inherited (snapshots_of f) q x) some
          by (inr past) =
              absent.zeros x among (λ inside. past_overlap (Some link) x past (subst (λ q. IsInOverlap q x) some inside))
              ∙ sym (ap (λ b. cond b (snap_byte (snap_at f link.image link.snap) 0 x) 0) (le-ltb x link.overlap past))

  pub known_true : (image snap x byte : ℕ) → KnowsByte told seen site image snap x byte → (u : FlatSnap) → snap_at f image snap ≡ Some u → get_or u.bytes x 0 ≡ byte
  known_true image snap x byte (Shown _ _ _ _ bytes read shows) u is =
      of_bytes image snap read.parts bytes x byte u is (read_true image snap (Some bytes) read u is).still shows
  known_true image snap x byte (Past _ _ _ _ read among past zeroed) u is =
      of_absence image snap read.view.parent read.parts x u is (read_true image snap None read u is).still among ∙ nothing read.view.parent past ∙ sym zeroed
    where
      nothing : (parent : Option ParentLink) → IsPastOverlap parent x → inherited (snapshots_of f) parent x ≡ 0
      nothing None none = refl
      nothing (Some link) past = ap (λ b. cond b (snap_byte (snap_at f link.image link.snap) 0 x) 0) (le-ltb x link.overlap past)
  known_true image snap x byte (Inherited _ _ _ _ read link among named inside below) u is =
      let true_read = read_true image snap None read u is in
      let has = subst (HasParent (snapshots_of f) (links_of f image)) named true_read.has in
      of_absence image snap read.view.parent read.parts x u is true_read.still among
      ∙ ap (λ q. inherited (snapshots_of f) q x) named
      ∙ ap (λ b. cond b (snap_byte (snap_at f link.image link.snap) 0 x) 0) (lt-ltb x link.overlap inside)
      ∙ ap (λ o. snap_byte o 0 x) has.is ∙ known_true link.image link.snap x byte below has.snap has.is

  -- ---- a copy-up

  -- each byte that a header's parent shows at an object's places
  pub known_gathered : (image number : ℕ) (h : HeaderView) (bytes : List ℕ) → r.headers image ≡ Some h
      → ((x : ℕ) → object_of h.layout x ≡ number → KnowsInherited told seen site h.parent x (get_or bytes (offset_of h.layout x) 0)) → IsGathered (snapshots_of f) h number bytes
  known_gathered image number h bytes is known x at = by h.parent ((parents_there [] r f image h stands is).head) (known x at)
    where
      by : (parent : Option ParentLink) → HasParent (snapshots_of f) (links_of f image) parent → KnowsInherited told seen site parent x (get_or bytes (offset_of h.layout x) 0)
          → get_or bytes (offset_of h.layout x) 0 ≡ inherited (snapshots_of f) parent x
      by None has zeroed = zeroed
      by (Some link) has knows = below (cases_lt x link.overlap)
        where
          below : (x < link.overlap) ⊎ (link.overlap ≤ x) → get_or bytes (offset_of h.layout x) 0 ≡ inherited (snapshots_of f) (Some link) x
          below (inl less) =
              sym (known_true link.image link.snap x (get_or bytes (offset_of h.layout x) 0) (knows.0 less) has.snap has.is)
              ∙ sym (ap (λ o. snap_byte o 0 x) has.is)
              ∙ sym (ap (λ b. cond b (snap_byte (snap_at f link.image link.snap) 0 x) 0) (lt-ltb x link.overlap less))
          below (inr past) = knows.1 past ∙ sym (ap (λ b. cond b (snap_byte (snap_at f link.image link.snap) 0 x) 0) (le-ltb x link.overlap past))
