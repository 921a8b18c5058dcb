-- What was told of other images stays true, and what is told is true.
use Rattle.std.proofs.Common.{◌≡◌, inl, inr, ℕ, ◌≤◌, ◌==◌, ◌&&◌, cond, leb, Bool, true, false, List, [], ◌∷◌, Option, Some, None, refl, sym, ap, ◌∙◌, subst, arith}
use Rattle.std.proofs.lemmas.Bool.{and_parts, eqb-true, leb-true, true≢false}
use Rattle.std.proofs.lemmas.Option.{none-some, same_Some}
use Rattle.rbd_kinds.specs.declared.answer.Answer.{Answer}
use Rattle.rbd_kinds.specs.declared.answer.Answer.TheVariants as answer
use Rattle.rbd_kinds.specs.declared.data_op.DataOp.TheVariants as object
use Rattle.rbd_kinds.specs.declared.header.HeaderView.{HeaderView}
use Rattle.rbd_kinds.specs.declared.header_op.HeaderOp.TheVariants as header
use Rattle.rbd_kinds.specs.declared.id.Instance.{Instance}
use Rattle.rbd_kinds.specs.declared.id.SiteId.{SiteId}
use Rattle.rbd_kinds.specs.declared.layout.Part.{Part}
use Rattle.rbd_kinds.specs.declared.operation.Op.{Op}
use Rattle.rbd_kinds.specs.declared.operation.Op.TheVariants as op
use Rattle.rbd_kinds.proofs.Images.{same_site_is, same_site_itself}
use Rattle.rbd_flat.specs.Flat.{Flat, FlatSnap}
use Rattle.rbd_flat.specs.declared.effect.Effect.{Effect}
use Rattle.rbd_flat.proofs.Steps.{snap_keeps}
use Rattle.rbd_machine.specs.Ancestors.{HeaderSeen, IsAmong, ObjectTold, has_seen, is_dated, seen_by, told_by, told_when}
use Rattle.rbd_machine.specs.Knowledge.{Knowledge, is_at, is_drawn, learned, same_site}
use Rattle.rbd_machine.specs.Permits.{Permits}
use Rattle.rbd_site.specs.InForm.{AreInForm}
use Rattle.rbd_site.specs.Laws.{is_look}
use Rattle.rbd_site.specs.Log.{expired, trimmed}
use Rattle.rbd_site.specs.Records.{Records}
use Rattle.rbd_site.specs.Step.{answer_to, after}
use Rattle.rbd_site.specs.declared.done.DoneOp.TheVariants as done
use Rattle.rbd_site.proofs.GenerationLemmas.{looked_at}
use Rattle.rbd_stands.specs.Effect.{effect_of, effect_of_op}
use Rattle.rbd_stands.specs.Site.{StandsFor}
use Rattle.rbd_stands.specs.Told.{IsDated, IsStillTold, KeepsSnapshots}
use Rattle.rbd_stands.proofs.Told.{absent_still, bytes_still, dated_behind, told_behind_operation}
use Rattle.rbd_interference.specs.Ancestors.{AreSeenTrue, AreToldTrue, DrewNoneOf, HasReadTruly, IsToldTrue}
use Rattle.rbd_interference.specs.Truth.{AreMapped, AreStandalone, IsTrueAt, changed_by}
use Rattle.rbd_interference.proofs.Done.{may_do}
use Rattle.rbd_interference.proofs.Effects.{has_its_effect}
use Rattle.rbd_interference.proofs.Kept.{none_still}
use Rattle.rbd_interference.proofs.Seen.{among_seen}

-- ---- dates

-- a header by which a snapshot has its date
record Dates (site : SiteId) (image snap : ℕ) (seen : List HeaderSeen) : Type 0 where
  pub header : HeaderView
  pub among : IsAmong (record { site = site; image = image; header = header }) seen
  pub below : snap ≤ header.snap_seq

dates : (site : SiteId) (image snap : ℕ) (seen : List HeaderSeen) → is_dated seen site image snap ≡ true → Dates site image snap seen
dates site image snap [] dated = absurd (true≢false (sym dated))
dates site image snap (s ∷ seen) dated = by (is_at site image s.site s.image && leb snap s.header.snap_seq) refl dated (dates site image snap seen)
  where
    by : (b : Bool) → is_at site image s.site s.image && leb snap s.header.snap_seq ≡ b → cond b true (is_dated seen site image snap) ≡ true
        → (is_dated seen site image snap ≡ true → Dates site image snap seen) → Dates site image snap (s ∷ seen)
    by true both found more =
        let parts = and_parts (is_at site image s.site s.image) (leb snap s.header.snap_seq) both in
        let at = and_parts (same_site s.site site) (s.image == image) parts.0 in
        record {
          header = s.header;
          among = inl (ap (λ (t : SiteId). record { site = t; image = s.image; header = s.header }) (same_site_is s.site site at.0) ∙ ap (λ i. record { site = site; image = i; header = s.header }) (eqb-true s.image image at.1));
          below = leb-true snap s.header.snap_seq parts.1;
        }
    by false other found more = let d = more found in record { header = d.header; among = inr d.among; below = d.below }

-- ---- flat snapshots keep their bytes

kept_by_effect : (f : Flat) (e : Option Effect) → KeepsSnapshots f (changed_by f e)
kept_by_effect f None image snap old new was is = ap (λ (s : FlatSnap). s.bytes) (same_Some new old (sym is ∙ was))
kept_by_effect f (Some e) image snap old new was is = (snap_keeps f e image snap old new was is).0

-- ---- dates last

module _ (site : SiteId) (r : Records) (you : Instance) (j : Knowledge) (o : Op) (permits : Permits j site o) where
  dated_kept : (image snap : ℕ) → is_drawn j.drawn site image ≡ false → IsDated r image snap → IsDated (after r you o) image snap
  dated_kept image snap undrawn was = by (r.headers image) refl
    where
      by : (before : Option HeaderView) → r.headers image ≡ before → IsDated (after r you o) image snap
      by None none = λ h is. absurd (none-some h (sym (none_still site j image undrawn r you o permits none) ∙ is))
      by (Some h) there = dated_behind r you o image snap h there (was h there)

-- ---- what was read

module _ (site : SiteId) (r : Records) (f : Flat) (you : Instance) (j : Knowledge) (o : Op) (most : ℕ) (stands : StandsFor [] r f) (form : AreInForm r most) (standalone : AreStandalone r) (mapped : AreMapped r)
    (u : IsTrueAt site r you j) (permits : Permits j site o) where
  abbrev behind : Flat
  behind = changed_by f (effect_of r (done.Op o) (answer_to r you o))

  still_behind : (image snap number : ℕ) (parts : List Part) (told : Option (List ℕ)) → IsDated r image snap → IsStillTold r f image snap number parts told
      → IsStillTold (after r you o) behind image snap number parts told
  still_behind image snap number parts told dated was =
      told_behind_operation [] [] r f behind you o image snap number parts told stands (has_its_effect site r f j you most stands form standalone mapped u o permits)
      (kept_by_effect f (effect_of r (done.Op o) (answer_to r you o))) (may_do site r you j most form mapped u o permits) dated was

  pub told_kept : (seen : List HeaderSeen) (told : List ObjectTold) → DrewNoneOf site seen j → AreToldTrue site r f seen told → AreToldTrue site (after r you o) behind seen told
  told_kept seen told drew was image snap number parts bytes among =
      let it = was image snap number parts bytes among in
      record {
        saw = it.saw;
        dated = dated_kept site r you j o permits image snap (drew image it.saw) it.dated;
        still = still_behind image snap number parts bytes it.dated it.still;
      }

-- ---- what is told

-- who saw more saw that too
saw_more : (site : SiteId) (image : ℕ) (e : HeaderSeen) (seen : List HeaderSeen) → has_seen seen site image ≡ true → has_seen (e ∷ seen) site image ≡ true
saw_more site image e seen saw = by (is_at site image e.site e.image)
  where
    by : (b : Bool) → cond b true (has_seen seen site image) ≡ true
    by true = refl
    by false = saw

module _ (site : SiteId) (r : Records) (f : Flat) (me : Instance) (stands : StandsFor [] r f) where
  -- what is read of a snapshot that has its date
  dated_now : (image snap : ℕ) (seen : List HeaderSeen) → AreSeenTrue site r seen → is_dated seen site image snap ≡ true → IsDated r image snap
  dated_now image snap seen was dated h is =
      let d = dates site image snap seen dated in
      let seq = ((was image d.header d.among).later h is).seq in
      let below = d.below in
      omega (arith, seq, below)

  dated_seen : (image snap : ℕ) (seen : List HeaderSeen) → is_dated seen site image snap ≡ true → has_seen seen site image ≡ true
  dated_seen image snap seen dated = let d = dates site image snap seen dated in among_seen site image d.header seen d.among

  entry_true : (image snap number : ℕ) (parts : List Part) (bytes : Option (List ℕ)) (seen : List HeaderSeen) (told : List ObjectTold) → AreSeenTrue site r seen
      → IsStillTold r f image snap number parts bytes → (dated : Bool) → is_dated seen site image snap ≡ dated → AreToldTrue site r f seen told
      → AreToldTrue site r f seen (told_when dated (record { site = site; image = image; snap = snap; object = number; parts = parts; bytes = bytes }) told)
  entry_true image snap number parts bytes seen told are still false dated was i t n ps bs among = was i t n ps bs among
  entry_true image snap number parts bytes seen told are still true dated was i t n ps bs (inl same) =
      subst (λ (e : ObjectTold). IsToldTrue site r f seen e.image e.snap e.object e.parts e.bytes) same
      (record { saw = dated_seen image snap seen dated; dated = dated_now image snap seen are dated; still = still })
  entry_true image snap number parts bytes seen told are still true dated was i t n ps bs (inr among) = was i t n ps bs among

  pub bytes_told_true : (image snap number : ℕ) (parts : List Part) (bytes : List ℕ) (seen : List HeaderSeen) (told : List ObjectTold)
      → answer_to r me (op.Data image number (object.Read (Some snap) parts)) ≡ answer.Bytes bytes → AreSeenTrue site r seen → AreToldTrue site r f seen told
      → AreToldTrue site r f seen (told_by seen told site (op.Data image number (object.Read (Some snap) parts)) (answer.Bytes bytes))
  bytes_told_true image snap number parts bytes seen told answered are was =
      entry_true image snap number parts (Some bytes) seen told are (bytes_still [] r f me image snap number parts bytes stands answered) (is_dated seen site image snap) refl was

  pub absence_told_true : (image snap number : ℕ) (parts : List Part) (seen : List HeaderSeen) (told : List ObjectTold)
      → answer_to r me (op.Data image number (object.Read (Some snap) parts)) ≡ answer.Absent → AreSeenTrue site r seen → AreToldTrue site r f seen told
      → AreToldTrue site r f seen (told_by seen told site (op.Data image number (object.Read (Some snap) parts)) answer.Absent)
  absence_told_true image snap number parts seen told answered are was =
      entry_true image snap number parts None seen told are (absent_still [] r f me image snap number parts stands answered) (is_dated seen site image snap) refl was

-- More headers that are told leave what was read.
pub told_by_more : (site : SiteId) (r : Records) (f : Flat) (e : HeaderSeen) (seen : List HeaderSeen) (told : List ObjectTold) → AreToldTrue site r f seen told → AreToldTrue site r f (e ∷ seen) told
told_by_more site r f e seen told was image snap number parts bytes among =
    let it = was image snap number parts bytes among in
    record { saw = saw_more site image e seen it.saw; dated = it.dated; still = it.still }

-- ---- at the other site

module _ (s t : SiteId) (differ : same_site s t ≡ false) where
  -- what was read of snapshots here is nothing that was read there
  told_when_same : (dated : Bool) (e x : ObjectTold) (told : List ObjectTold) → e.site ≡ s → x.site ≡ t → IsAmong x (told_when dated e told) → IsAmong x told
  told_when_same false e x told here there among = among
  told_when_same true e x told here there (inl same) =
      let one : s ≡ t = sym here ∙ ap (λ (y : ObjectTold). y.site) same ∙ there in
      absurd (true≢false (sym (same_site_itself s) ∙ ap (same_site s) one ∙ differ))
  told_when_same true e x told here there (inr among) = among

  told_same : (seen : List HeaderSeen) (told : List ObjectTold) (o : Op) (a : Answer) (x : ObjectTold) → x.site ≡ t → IsAmong x (told_by seen told s o a) → IsAmong x told
  told_same seen told (op.Data image number (object.Read (Some snap) parts)) (answer.Bytes bytes) x there among =
      told_when_same (is_dated seen s image snap) (record { site = s; image = image; snap = snap; object = number; parts = parts; bytes = Some bytes }) x told refl there among
  told_same seen told (op.Data image number (object.Read (Some snap) parts)) answer.Absent x there among =
      told_when_same (is_dated seen s image snap) (record { site = s; image = image; snap = snap; object = number; parts = parts; bytes = None }) x told refl there among
  told_same seen told _ _ x there among = among

  -- and more headers that are told here are none fewer there
  seen_more : (seen : List HeaderSeen) (o : Op) (a : Answer) (image : ℕ) → has_seen seen t image ≡ true → has_seen (seen_by seen s o a) t image ≡ true
  seen_more seen (op.Header of header.Get) (answer.Header h) image saw = saw_more t image (record { site = s; image = of; header = h }) seen saw
  seen_more seen _ _ image saw = saw

  pub reads_elsewhere : (r : Records) (f : Flat) (k : Knowledge) (o : Op) (a : Answer) → HasReadTruly t r f k → HasReadTruly t r f (learned k s o a)
  reads_elsewhere r f k o a was image snap number parts bytes among =
      let it = was image snap number parts bytes
      (told_same k.seen k.told o a (record { site = t; image = image; snap = snap; object = number; parts = parts; bytes = bytes }) refl among) in
      record { saw = seen_more k.seen o a image it.saw; dated = it.dated; still = it.still }

-- ---- behind a request's own operation

-- a read of a snapshot has no effect
read_bytes_only : (header : Option HeaderView) (image snap number : ℕ) (parts : List Part) (bytes : List ℕ) → effect_of_op header (op.Data image number (object.Read (Some snap) parts)) (answer.Bytes bytes) ≡ None
read_bytes_only None image snap number parts bytes = refl
read_bytes_only (Some h) image snap number parts bytes = refl

read_absence_only : (header : Option HeaderView) (image snap number : ℕ) (parts : List Part) → effect_of_op header (op.Data image number (object.Read (Some snap) parts)) answer.Absent ≡ None
read_absence_only None image snap number parts = refl
read_absence_only (Some h) image snap number parts = refl

module _ (site : SiteId) (r : Records) (f : Flat) (me : Instance) (stands : StandsFor [] r f) (seen : List HeaderSeen) (are : AreSeenTrue site r seen) (told : List ObjectTold) (was : AreToldTrue site r f seen told) where
  -- a look leaves the records, and the flat site
  behind_look : (o : Op) (a : Answer) (more : List ObjectTold) → is_look o ≡ true → effect_of r (done.Op o) a ≡ None → AreToldTrue site r f seen more
      → AreToldTrue site (after r me o) (changed_by f (effect_of r (done.Op o) a)) seen more
  behind_look o a more look none true_now =
      subst (λ e. AreToldTrue site (after r me o) (changed_by f e) seen more) (sym none) (subst (λ s. AreToldTrue site s f seen more) (sym (looked_at r me o look)) true_now)

  told_taught : (o : Op) (a : Answer) → answer_to r me o ≡ a → AreToldTrue site (after r me o) (changed_by f (effect_of r (done.Op o) a)) seen told
      → AreToldTrue site (after r me o) (changed_by f (effect_of r (done.Op o) a)) (seen_by seen site o a) (told_by seen told site o a)
  told_taught (op.Header image header.Get) (answer.Header h) answered kept =
      told_by_more site (after r me (op.Header image header.Get)) (changed_by f (effect_of r (done.Op (op.Header image header.Get)) (answer.Header h))) (record { site = site; image = image; header = h }) seen told kept
  told_taught (op.Data image number (object.Read (Some snap) parts)) (answer.Bytes bytes) answered kept =
      behind_look (op.Data image number (object.Read (Some snap) parts)) (answer.Bytes bytes) (told_by seen told site (op.Data image number (object.Read (Some snap) parts)) (answer.Bytes bytes)) refl
      (read_bytes_only (r.headers image) image snap number parts bytes) (bytes_told_true site r f me stands image snap number parts bytes seen told answered are was)
  told_taught (op.Data image number (object.Read (Some snap) parts)) answer.Absent answered kept =
      behind_look (op.Data image number (object.Read (Some snap) parts)) answer.Absent (told_by seen told site (op.Data image number (object.Read (Some snap) parts)) answer.Absent) refl
      (read_absence_only (r.headers image) image snap number parts) (absence_told_true site r f me stands image snap number parts seen told answered are was)
  told_taught _ _ answered kept = kept

pub told_learned : (site : SiteId) (r : Records) (f : Flat) (k : Knowledge) (me : Instance) (o : Op) (most : ℕ) → StandsFor [] r f → AreInForm r most → AreStandalone r → AreMapped r → IsTrueAt site r me k
    → Permits k site o → HasReadTruly site r f k
    → HasReadTruly site (after r me o) (changed_by f (effect_of r (done.Op o) (answer_to r me o))) (learned k site o (answer_to r me o))
told_learned site r f k me o most stands form standalone mapped t permits was =
    told_taught site r f me stands k.seen t.seen k.told was o (answer_to r me o) refl
    (told_kept site r f me k o most stands form standalone mapped t permits k.seen k.told t.strange was)

-- ---- the store

pub told_trimmed : (site : SiteId) (r : Records) (f : Flat) (seen : List HeaderSeen) (told : List ObjectTold) (image number : ℕ) → AreToldTrue site r f seen told
    → AreToldTrue site (trimmed image number r) f seen told
told_trimmed site r f seen told image number was i t n ps bs among = let it = was i t n ps bs among in record { saw = it.saw; dated = it.dated; still = it.still }

pub seen_expired : (site : SiteId) (r : Records) (seen : List HeaderSeen) (image : ℕ) (who : Instance) → AreSeenTrue site r seen → AreSeenTrue site (expired image who r) seen
seen_expired site r seen image who was i h among = let it = was i h among in record { drawn = it.drawn; later = it.later; numbered = it.numbered }

pub told_expired : (site : SiteId) (r : Records) (f : Flat) (seen : List HeaderSeen) (told : List ObjectTold) (image : ℕ) (who : Instance) → AreToldTrue site r f seen told
    → AreToldTrue site (expired image who r) f seen told
told_expired site r f seen told image who was i t n ps bs among = let it = was i t n ps bs among in record { saw = it.saw; dated = it.dated; still = it.still }
