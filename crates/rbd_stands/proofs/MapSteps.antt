-- Operations on object maps leave what a site stands for; and maps go on to cover the objects.
use Rattle.std.proofs.Common.{◌≡◌, ℕ, ◌≤◌, Bool, true, false, cond, eqb, ◌⊎◌, inr, List, [], get_or, Option, Some, None, option_map, is_some, unwrap_or, refl, sym, ◌∙◌, ap, subst}
use Rattle.std.specs.Prelude.{IsFalse}
use Rattle.std.proofs.lemmas.Bool.{eqb-true}
use Rattle.rbd_kinds.specs.declared.answer.Answer.{Answer}
use Rattle.rbd_kinds.specs.declared.answer.Answer.TheVariants as answer
use Rattle.rbd_kinds.specs.declared.data_op.DataOp.{DataOp}
use Rattle.rbd_kinds.specs.declared.header.HeaderView.{HeaderView}
use Rattle.rbd_kinds.specs.declared.header_op.HeaderOp.{HeaderOp}
use Rattle.rbd_kinds.specs.declared.id.Instance.{Instance}
use Rattle.rbd_kinds.specs.declared.map_op.MapOp.{MapOp}
use Rattle.rbd_kinds.specs.declared.operation.Op.{Op}
use Rattle.rbd_kinds.specs.declared.operation.Op.TheVariants as op
use Rattle.rbd_kinds.specs.Striping.{object_of, offset_of}
use Rattle.rbd_object.specs.Kept.{is_listed}
use Rattle.rbd_object.specs.Mapped.{Mapped, versioned, mapped_trim}
use Rattle.rbd_object.specs.Versioned.{view}
use Rattle.rbd_flat.specs.Flat.{Flat, image_at}
use Rattle.rbd_site.specs.DataStep.{data_answer, data_after, data_change, where_object_done}
use Rattle.rbd_site.specs.HeaderStep.{header_after}
use Rattle.rbd_site.specs.Log.{expired_by, live_in, trimmed}
use Rattle.rbd_kinds.specs.Maps.{map_snap}
use Rattle.rbd_site.specs.MapStep.{map_after}
use Rattle.rbd_site.specs.Records.{Records, no_records, object_at, or_blank, put, put_map, with_object}
use Rattle.rbd_site.specs.Step.{MayDo, MayServe, after, after_served, is_fenced}
use Rattle.rbd_site.proofs.MapLemmas.{put_map_each}
use Rattle.rbd_site.proofs.StepLemmas.{where_fenced}
use Rattle.rbd_stands.specs.Covering.{AreCovered, IsCovered, IsRaised, KeepsCover, KeepsHeaderCover, KeepsMapCover, MapsCover, exists_at}
use Rattle.rbd_stands.specs.Shown.{links_of, snapshots_of}
use Rattle.rbd_stands.specs.Site.{StandsFor, Pending}
use Rattle.rbd_stands.specs.View.{EachView, Shape, shape_of}
use Rattle.rbd_stands.proofs.CoverSteps.{IsRaisedOrWas, covered_later, data_raised, from_views, made_covered, map_covered, there_covered, to_views}
use Rattle.rbd_stands.proofs.SiteSteps.{Here, here}
use Rattle.rbd_stands.proofs.StoreSteps.{listed_by_id, view_trimmed}

-- ---- what a flat site doesn't have

map_served : (pending : List Pending) (r : Records) (f : Flat) (me : Instance) (image : ℕ) (o : MapOp) → StandsFor pending r f → StandsFor pending (after_served r me (op.Map image o)) f
map_served pending r f me image o stands = record {
  names = stands.names;
  links = stands.links;
  images = stands.images;
  awaited = stands.awaited;
  fresh = λ i above. let was = stands.fresh i above in record { header = was.header; flat = was.flat; blank = was.blank };
}

pub map_stands : (pending : List Pending) (r : Records) (f : Flat) (me : Instance) (image : ℕ) (o : MapOp) → StandsFor pending r f → StandsFor pending (after r me (op.Map image o)) f
map_stands pending r f me image o stands = where_fenced (λ s. StandsFor pending s f) r me (op.Map image o) stands (map_served pending r f me image o stands)

-- ---- what stands where a header is there

module _ (pending : List Pending) (r : Records) (f : Flat) (stands : StandsFor pending r f) where
  at_image : (image : ℕ) (h : HeaderView) → r.headers image ≡ Some h → Here (snapshots_of f) (links_of f image) h (object_at r image) (image_at f image)
  at_image image h is = here (snapshots_of f) (links_of f image) (r.headers image) (object_at r image) (image_at f image) h is (stands.images image)

pub zeros_past : (pending : List Pending) (r : Records) (f : Flat) (image x : ℕ) (h : HeaderView) → StandsFor pending r f → r.headers image ≡ Some h → h.size ≤ x
    → get_or (unwrap_or (object_at r image (object_of h.layout x)).head []) (offset_of h.layout x) 0 ≡ 0
zeros_past pending r f image x h stands is past = (at_image pending r f stands image h is).stands.clear x past

-- ---- an object is changed

object_covered : (r : Records) (image number : ℕ) (object : Option Mapped) → MapsCover r
    → ((h : HeaderView) → r.headers image ≡ Some h → EachView h (λ v shape. IsRaisedOrWas (r.maps image v) number (object_at r image number) (or_blank object) v))
    → MapsCover (with_object image number object r)
object_covered r image number object covers raised i h is = to_views h (λ v. IsCovered (r.maps i v) (exists_at (object_at (with_object image number object r) i) v))
    (λ v shape at. covered_later (r.maps i v) (exists_at (object_at r i) v) (exists_at (object_at (with_object image number object r) i) v)
    (from_views h (λ v. IsCovered (r.maps i v) (exists_at (object_at r i) v)) (covers i h is) v shape at)
    (λ n there. go v shape at n (eqb i image) refl there))
  where
    at_number : (v : Option ℕ) (shape : Shape) → shape_of h v ≡ Some shape → (n : ℕ) → r.headers image ≡ Some h → (t : Bool) → eqb n number ≡ t
        → is_some (view (versioned (or_blank (cond t object (r.objects image n)))) v) ≡ true
        → IsRaised (r.maps image v) n ⊎ (exists_at (object_at r image) v n ≡ true)
    at_number v shape at n there false e exists = inr exists
    at_number v shape at n there true e exists =
        subst (λ m. IsRaised (r.maps image v) m ⊎ (exists_at (object_at r image) v m ≡ true)) (sym (eqb-true n number e))
        (from_views h (λ v. IsRaisedOrWas (r.maps image v) number (object_at r image number) (or_blank object) v) (raised h there) v shape at exists)

    go : (v : Option ℕ) (shape : Shape) → shape_of h v ≡ Some shape → (n : ℕ) → (t : Bool) → eqb i image ≡ t
        → is_some (view (versioned (or_blank (cond t (put (r.objects image) number object) (r.objects i) n))) v) ≡ true
        → IsRaised (r.maps i v) n ⊎ (exists_at (object_at r i) v n ≡ true)
    go v shape at n false e exists = inr exists
    go v shape at n true e exists =
        subst (λ j. IsRaised (r.maps j v) n ⊎ (exists_at (object_at r j) v n ≡ true)) (sym (eqb-true i image e))
        (at_number v shape at n (ap r.headers (sym (eqb-true i image e)) ∙ is) (eqb n number) refl exists)

data_covered : (pending : List Pending) (r : Records) (f : Flat) (me : Instance) (image number : ℕ) (o : DataOp) → StandsFor pending r f → MapsCover r
    → KeepsCover r (op.Data image number o) → MapsCover (after_served r me (op.Data image number o))
data_covered pending r f me image number o stands covers keeps =
    object_covered r image number (data_after (r.objects image number) o) covers (λ h is. by h is (data_answer (r.objects image number) o))
  where
    by : (h : HeaderView) → r.headers image ≡ Some h → (a : Answer)
        → EachView h (λ v shape. IsRaisedOrWas (r.maps image v) number (object_at r image number) (or_blank (where_object_done a (data_change (or_blank (r.objects image number)) o) (r.objects image number))) v)
    by h is answer.Done =
        let stands_here = (at_image pending r f stands image h is).stands in
        data_raised h (r.maps image) number (object_at r image number) (stands_here.tidy number) (λ t s at. (stands_here.numbered.snap t s at).1) o (keeps h is)
    by h is a = record { head = λ there. inr there; snap = λ t s at there. inr there }

pub cover_trimmed : (r : Records) (image number : ℕ) → MapsCover r → MapsCover (trimmed image number r)
cover_trimmed r image number covers =
    object_covered r image number (option_map (mapped_trim (live_in (r.headers image))) (r.objects image number)) covers (λ h is. by h is (r.objects image number))
  where
    by : (h : HeaderView) → r.headers image ≡ Some h → (object : Option Mapped)
        → EachView h (λ v shape. IsRaisedOrWas (r.maps image v) number (or_blank object) (or_blank (option_map (mapped_trim (live_in (r.headers image))) object)) v)
    by h is None = record { head = λ there. inr there; snap = λ t s at there. inr there }
    by h is (Some o) = record {
      head = λ there. inr there;
      snap = λ t s at there. inr (sym (ap is_some (view_trimmed (live_in (r.headers image)) t o (ap (λ header. is_listed (live_in header) t) is ∙ listed_by_id h.snaps t s at))) ∙ there);
    }

-- ---- a header is changed

header_covered : (pending : List Pending) (r : Records) (f : Flat) (me : Instance) (image : ℕ) (o : HeaderOp) → StandsFor pending r f → MapsCover r
    → KeepsCover r (op.Header image o) → MapsCover (after_served r me (op.Header image o))
header_covered pending r f me image o stands covers keeps i g is = go (eqb i image) refl is
  where
    here_covered : (header : Option HeaderView) → r.headers image ≡ header → header_after me header o ≡ Some g → AreCovered g (r.maps image) (object_at r image)
    here_covered None none now = made_covered (r.maps image) (object_at r image) me o (subst (λ header. KeepsHeaderCover header (r.maps image) (object_at r image) o) none keeps) g now
    here_covered (Some h) there now =
        there_covered h (r.maps image) (object_at r image) (at_image pending r f stands image h there).stands.seen (covers image h there) me o
        (subst (λ header. KeepsHeaderCover header (r.maps image) (object_at r image) o) there keeps) g now

    go : (t : Bool) → eqb i image ≡ t → cond t (header_after me (r.headers image) o) (r.headers i) ≡ Some g → AreCovered g (r.maps i) (object_at r i)
    go true e now = subst (λ j. AreCovered g (r.maps j) (object_at r j)) (sym (eqb-true i image e)) (here_covered (r.headers image) refl now)
    go false e now = covers i g now

-- ---- a map is changed

changed_map_covered : (r : Records) (me : Instance) (image : ℕ) (o : MapOp) → MapsCover r → MayServe r (op.Map image o)
    → KeepsCover r (op.Map image o) → MapsCover (after_served r me (op.Map image o))
changed_map_covered r me image o covers may keeps i h is = to_views h (λ v. IsCovered (put_map r.maps image (map_snap o) now i v) (exists_at (object_at r i) v)) (λ v shape at.
    put_map_each (λ j w held. (k : HeaderView) → r.headers j ≡ Some k → (shape : Shape) → shape_of k w ≡ Some shape → IsCovered held (exists_at (object_at r j) w)) r.maps image (map_snap o) now
    (λ k there shape at. map_covered k (r.maps image) (object_at r image) o (map_snap o) shape at refl may
    (subst (λ header. KeepsMapCover header (r.maps image) (object_at r image) o) there keeps)
    (from_views k (λ w. IsCovered (r.maps image w) (exists_at (object_at r image) w)) (covers image k there) (map_snap o) shape at))
    (λ j w k there. from_views k (λ w. IsCovered (r.maps j w) (exists_at (object_at r j) w)) (covers j k there) w)
    i v h is shape at)
  where
    now : Option (List ℕ)
    now = map_after (r.maps image (map_snap o)) o

-- ---- any operation, and the store's steps

served_covered : (pending : List Pending) (r : Records) (f : Flat) (me : Instance) (o : Op) → StandsFor pending r f → MapsCover r → MayServe r o → KeepsCover r o → MapsCover (after_served r me o)
served_covered pending r f me (op.Header image o) stands covers may keeps = header_covered pending r f me image o stands covers keeps
served_covered pending r f me (op.Data image number o) stands covers may keeps = data_covered pending r f me image number o stands covers keeps
served_covered pending r f me (op.Map image o) stands covers may keeps = changed_map_covered r me image o covers may keeps
served_covered pending r f me (op.Directory o) stands covers may keeps = covers
served_covered pending r f me (op.Children o) stands covers may keeps = covers
served_covered pending r f me (op.BlockAdd i) stands covers may keeps = covers
served_covered pending r f me (op.Journal image o) stands covers may keeps = covers

pub cover_after : (pending : List Pending) (r : Records) (f : Flat) (me : Instance) (o : Op) → StandsFor pending r f → MapsCover r
    → MayDo r me o → (IsFalse (is_fenced r me) → KeepsCover r o) → MapsCover (after r me o)
cover_after pending r f me o stands covers may keeps = go (is_fenced r me) refl
  where
    go : (b : Bool) → is_fenced r me ≡ b → MapsCover (cond b r (after_served r me o))
    go true fenced = covers
    go false free = served_covered pending r f me o stands covers (may free) (keeps free)

pub cover_expired : (r : Records) (image : ℕ) (oldest : Option Instance) → MapsCover r → MapsCover (expired_by image oldest r)
cover_expired r image None covers = covers
cover_expired r image (Some i) covers = covers

pub cover_at_first : MapsCover no_records
cover_at_first image h is = cc
