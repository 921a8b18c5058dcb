-- From a change of one image to a change of the site.
use Rattle.std.proofs.Common.{◌≡◌, ◌≢◌, List, ℕ, ◌<◌, Bool, true, false, cond, eqb, ◌⊎◌, inl, inr, Option, Some, None, option_map, refl, sym, ◌∙◌, ap, subst}
use Rattle.std.proofs.Math.Path.{fun_ext}
use Rattle.std.proofs.lemmas.Bool.{cases_eq, eq-eqb}
use Rattle.std.proofs.lemmas.Option.{none-some, same_Some}
use Rattle.rbd_kinds.specs.declared.header.HeaderView.{HeaderView}
use Rattle.rbd_kinds.specs.declared.header.ParentLink.{ParentLink}
use Rattle.rbd_kinds.specs.declared.id.Instance.{Instance}
use Rattle.rbd_object.specs.Mapped.{Mapped}
use Rattle.rbd_flat.specs.declared.effect.Effect.{Effect}
use Rattle.rbd_flat.specs.Flat.{Flat, FlatImage, FlatSnap, image_at, with_image, link_cmp}
use Rattle.rbd_flat.specs.Laws.{image_of}
use Rattle.rbd_flat.specs.Flat as flat
use Rattle.rbd_flat.proofs.Images.{with_image_at}
use Rattle.rbd_flat.proofs.Steps.{images_stay}
use Rattle.rbd_site.specs.Records.{Records, put, or_blank, object_at, with_header, with_object, with_watchers}
use Rattle.rbd_stands.specs.View.{EachView}
use Rattle.rbd_stands.specs.Shown.{Snapshots, snapshots_of, Links, links_of, HasParent}
use Rattle.rbd_stands.specs.Image.{ImageStands}
use Rattle.std.specs.FinSet as finset
use Rattle.std.specs.List.{slice_get}
use Rattle.rbd_registry.specs.Children.{entry_cmp}
use Rattle.rbd_stands.specs.Site.{IsAwaited, StandsAt, StandsFor, IsUntouched, Pending}
use Rattle.rbd_stands.proofs.Frame.{KeepsParent, image_kept, await_kept}
use Rattle.rbd_stands.proofs.ObjectSteps.{put_there, put_elsewhere}

-- ---- where a header is there

pub record Here (below : Snapshots) (linked : Links) (h : HeaderView) (objects : ℕ → Mapped) (o : Option FlatImage) : Type 0 where
  pub image : FlatImage
  pub is : o ≡ Some image
  pub stands : ImageStands below linked h objects image

pub here : (below : Snapshots) (linked : Links) (header : Option HeaderView) (objects : ℕ → Mapped) (o : Option FlatImage) (h : HeaderView) → header ≡ Some h → StandsAt below linked header objects o → Here below linked h objects o
here below linked None objects o h e stands = absurd (none-some h e)
here below linked (Some k) objects None h e stands = absurd stands
here below linked (Some k) objects (Some i) h e stands = record { image = i; is = refl; stands = subst (λ (j : HeaderView). ImageStands below linked j objects i) (same_Some k h e) stands }

pub stands_at : (below : Snapshots) (linked : Links) (header : Option HeaderView) (objects : ℕ → Mapped) (o : Option FlatImage) (h : HeaderView) (i : FlatImage) → header ≡ Some h → o ≡ Some i → ImageStands below linked h objects i → StandsAt below linked header objects o
stands_at below linked header objects o h i e f stands = subst (λ (p : Option HeaderView). StandsAt below linked p objects o) (sym e) (subst (λ (p : Option FlatImage). StandsAt below linked (Some h) objects p) (sym f) stands)

-- and where none is
pub no_flat : (below : Snapshots) (linked : Links) (header : Option HeaderView) (objects : ℕ → Mapped) (o : Option FlatImage) → header ≡ None → StandsAt below linked header objects o → o ≡ None
no_flat below linked None objects None e stands = refl
no_flat below linked None objects (Some i) e stands = absurd stands
no_flat below linked (Some h) objects o e stands = absurd (none-some h (sym e))

pub stands_without : (below : Snapshots) (linked : Links) (header : Option HeaderView) (objects : ℕ → Mapped) (o : Option FlatImage) → header ≡ None → o ≡ None → StandsAt below linked header objects o
stands_without below linked header objects o e f = subst (λ (p : Option HeaderView). StandsAt below linked p objects o) (sym e) (subst (λ (p : Option FlatImage). StandsAt below linked None objects p) (sym f) tt)

-- ---- the frame, for all images

pub record KeepsParents (pending : List Pending) (r : Records) (below after : Snapshots) : Type 0 where
  pub awaited : (k : ℕ) (p : Pending) → slice_get pending k ≡ Some p → KeepsParent below after (Some p.link)
  pub each : (image : ℕ) (h : HeaderView) → r.headers image ≡ Some h → EachView h (λ v shape. KeepsParent below after shape.parent)

-- each snapshot that was there is there as it was
pub keep_all : (pending : List Pending) (r : Records) (below after : Snapshots) → ((i t : ℕ) (s : FlatSnap) → below i t ≡ Some s → after i t ≡ Some s) → KeepsParents pending r below after
keep_all pending r below after same = record { awaited = λ k p is. go (Some p.link); each = λ image h is. record { head = go h.parent; snap = λ t s is. go s.parent } }
  where
    go : (parent : Option ParentLink) → KeepsParent below after parent
    go None = tt
    go (Some link) = λ s is. record { snap = s; is = same link.image link.snap s is; bytes = refl; kept = λ k. k }

stands_kept : (below after : Snapshots) (linked : Links) (header : Option HeaderView) (objects : ℕ → Mapped) (o : Option FlatImage)
    → ((h : HeaderView) → header ≡ Some h → EachView h (λ v shape. KeepsParent below after shape.parent)) → StandsAt below linked header objects o → StandsAt after linked header objects o
stands_kept below after linked None objects None keeps stands = tt
stands_kept below after linked None objects (Some i) keeps stands = absurd stands
stands_kept below after linked (Some h) objects None keeps stands = absurd stands
stands_kept below after linked (Some h) objects (Some i) keeps stands = image_kept below after linked h objects i (keeps h refl) stands

-- ---- all but one image is as before

pub record IsElsewhereSame (image : ℕ) (r s : Records) (f g : Flat) : Type 0 where
  pub directory : s.directory ≡ r.directory
  pub children : s.children ≡ r.children
  pub names : g.names ≡ f.names
  pub links : g.links ≡ f.links
  pub headers : (j : ℕ) → j ≢ image → s.headers j ≡ r.headers j
  pub objects : (j : ℕ) → j ≢ image → object_at s j ≡ object_at r j
  pub images : (j : ℕ) → j ≢ image → image_at g j ≡ image_at f j

pub links_same : (f g : Flat) → g.links ≡ f.links → (child : ℕ) → links_of g child ≡ links_of f child
links_same f g same child = ap (λ (links : finset.FinSet link_cmp). λ i t. finset.contains links (record { parent = i; snap = t; child = child })) same

pub site_change : (pending : List Pending) (image : ℕ) (r s : Records) (f g : Flat) → StandsFor pending r f → IsElsewhereSame image r s f g → KeepsParents pending r (snapshots_of f) (snapshots_of g)
    → (StandsAt (snapshots_of g) (links_of g image) (r.headers image) (object_at r image) (image_at f image) → StandsAt (snapshots_of g) (links_of g image) (s.headers image) (object_at s image) (image_at g image))
    → (r.directory.drawn < image → IsUntouched s g image)
    → StandsFor pending s g
site_change pending image r s f g stands same keeps step untouched = record {
  names = ap (λ d. d.names) same.directory ∙ stands.names ∙ sym same.names;
  links = λ parent snap child.
      ap (λ (entries : finset.FinSet entry_cmp). finset.contains entries (record { parent = parent; snap = snap; child = child })) same.children
      ∙ stands.links parent snap child ∙ ap (λ (l : Links). l parent snap) (sym (linked child));
  awaited = λ k p is.
      subst (λ (l : Links). IsAwaited (snapshots_of g) l p.link) (sym (linked p.child))
      (await_kept (snapshots_of f) (snapshots_of g) (links_of f p.child) p.link (keeps.awaited k p is) (stands.awaited k p is));
  images = λ j. images j (cases_eq j image);
  fresh = λ j drawn. fresh j (subst (λ d. d.drawn < j) same.directory drawn) (cases_eq j image);
}
  where
    linked : (j : ℕ) → links_of g j ≡ links_of f j
    linked = links_same f g same.links

    kept : (j : ℕ) → StandsAt (snapshots_of g) (links_of g j) (r.headers j) (object_at r j) (image_at f j)
    kept j =
        subst (λ (l : Links). StandsAt (snapshots_of g) l (r.headers j) (object_at r j) (image_at f j)) (sym (linked j))
        (stands_kept (snapshots_of f) (snapshots_of g) (links_of f j) (r.headers j) (object_at r j) (image_at f j) (keeps.each j) (stands.images j))

    images : (j : ℕ) → (j ≡ image) ⊎ (j ≢ image) → StandsAt (snapshots_of g) (links_of g j) (s.headers j) (object_at s j) (image_at g j)
    images j (inl e) = subst (λ k. StandsAt (snapshots_of g) (links_of g k) (s.headers k) (object_at s k) (image_at g k)) (sym e) (step (kept image))
    images j (inr other) =
        subst (λ (p : Option HeaderView). StandsAt (snapshots_of g) (links_of g j) p (object_at s j) (image_at g j)) (sym (same.headers j other))
        (subst (λ (p : ℕ → Mapped). StandsAt (snapshots_of g) (links_of g j) (r.headers j) p (image_at g j)) (sym (same.objects j other))
        (subst (λ (p : Option FlatImage). StandsAt (snapshots_of g) (links_of g j) (r.headers j) (object_at r j) p) (sym (same.images j other)) (kept j)))

    fresh : (j : ℕ) → r.directory.drawn < j → (j ≡ image) ⊎ (j ≢ image) → IsUntouched s g j
    fresh j drawn (inl e) = subst (IsUntouched s g) (sym e) (untouched (subst (λ k. r.directory.drawn < k) e drawn))
    fresh j drawn (inr other) =
        let was = stands.fresh j drawn in
        record {
          header = same.headers j other ∙ was.header;
          flat = same.images j other ∙ was.flat;
          blank = λ n. ap (λ g. g n) (same.objects j other) ∙ was.blank n;
        }

-- an image with a header was drawn
pub is_drawn : (pending : List Pending) (r : Records) (f : Flat) → StandsFor pending r f → (image : ℕ) (h : HeaderView) → r.headers image ≡ Some h → (s : Records) (g : Flat) → r.directory.drawn < image → IsUntouched s g image
is_drawn pending r f stands image h is s g above = absurd (none-some h (sym (stands.fresh image above).header ∙ is))

-- the parent of each view is there
pub parents_there : (pending : List Pending) (r : Records) (f : Flat) (image : ℕ) (h : HeaderView) → StandsFor pending r f → r.headers image ≡ Some h
    → EachView h (λ v shape. HasParent (snapshots_of f) (links_of f image) shape.parent)
parents_there pending r f image h stands is = (here (snapshots_of f) (links_of f image) (r.headers image) (object_at r image) (image_at f image) h is (stands.images image)).stands.parents

-- ---- records with another header, or another object

-- A header and its watchers change together, and a flat site has no watchers.
abbrev pub with_headed : (image : ℕ) → Option HeaderView → List Instance → Records → Records
with_headed image header watchers r = with_header image header (with_watchers image watchers r)

pub other_header : (image : ℕ) (header : Option HeaderView) (watchers : List Instance) (r : Records) (f g : Flat) → g.names ≡ f.names → g.links ≡ f.links → ((j : ℕ) → j ≢ image → image_at g j ≡ image_at f j)
    → IsElsewhereSame image r (with_headed image header watchers r) f g
other_header image header watchers r f g names links images = record {
  directory = refl;
  children = refl;
  links = links;
  names = names;
  headers = λ j other. put_elsewhere r.headers image header j other;
  objects = λ j other. refl;
  images = images;
}

or_blank_cond : (b : Bool) (o : Mapped) (p : Option Mapped) → or_blank (cond b (Some o) p) ≡ cond b o (or_blank p)
or_blank_cond true o p = refl
or_blank_cond false o p = refl

pub object_there : (image number : ℕ) (o : Mapped) (r : Records) → object_at (with_object image number (Some o) r) image ≡ put (object_at r image) number o
object_there image number o r = fun_ext (λ m.
    ap (λ g. or_blank (g m)) (put_there r.objects image (put (r.objects image) number (Some o))) ∙ or_blank_cond (eqb m number) o (r.objects image m))

pub other_object : (image number : ℕ) (o : Option Mapped) (r : Records) (f g : Flat) → g.names ≡ f.names → g.links ≡ f.links → ((j : ℕ) → j ≢ image → image_at g j ≡ image_at f j)
    → IsElsewhereSame image r (with_object image number o r) f g
other_object image number o r f g names links images = record {
  directory = refl;
  children = refl;
  links = links;
  names = names;
  headers = λ j other. refl;
  objects = λ j other. fun_ext (λ m. ap (λ g. or_blank (g m)) (put_elsewhere r.objects image (put (r.objects image) number o) j other));
  images = images;
}

-- ---- effects on one image

pub flat_there : (f : Flat) (image : ℕ) (change : FlatImage → FlatImage) (i : FlatImage) → image_at f image ≡ Some i → image_at (with_image f image change) image ≡ Some (change i)
flat_there f image change i is =
    with_image_at f image change image ∙ ap (λ b. cond b (option_map change (image_at f image)) (image_at f image)) (eq-eqb image image refl) ∙ ap (option_map change) is

pub flat_elsewhere : (f : Flat) (e : Effect) (image : ℕ) → image_of e ≡ Some image → (j : ℕ) → j ≢ image → image_at (flat.after f e) j ≡ image_at f j
flat_elsewhere f e image of j other = images_stay f e j (λ same. other (sym (same_Some image j (sym of ∙ same))))
