-- Changes of the directory, and of the flat site's names.
use Rattle.std.proofs.Common.{◌≡◌, ◌↔◌, cond, eqb, not, is_some, ℕ, ◌+◌, ◌<◌, ◌≤◌, Bool, true, false, List, Option, Some, None, refl, sym, ◌∙◌, ap, subst, arith}
use Rattle.std.specs.Prelude.{IsFalse}
use Rattle.std.specs.FinMap as finmap
use Rattle.std.specs.List.{filter}
use Rattle.std.specs.Option.{IsSome}
use Rattle.std.specs.Ordering.{nat_cmp}
use Rattle.std.specs.Cmp.Lexicographic.{slice_cmp}
use Rattle.rbd_kinds.specs.declared.answer.Answer.{Answer}
use Rattle.rbd_kinds.specs.declared.answer.Answer.TheVariants as answer
use Rattle.rbd_kinds.specs.declared.directory_op.DirectoryOp.TheVariants as directory_op
use Rattle.rbd_kinds.specs.declared.id.Instance.{Instance}
use Rattle.rbd_kinds.specs.declared.operation.Op.TheVariants as op
use Rattle.rbd_registry.specs.Directory.{Listing, id_of, is_full, added, freed, holds_id, renamed}
use Rattle.rbd_flat.specs.declared.effect.Effect.TheVariants as effect
use Rattle.rbd_flat.specs.Flat.{Flat}
use Rattle.rbd_flat.specs.Flat as flat
use Rattle.rbd_site.specs.Records.{Records, with_directory}
use Rattle.rbd_site.specs.DirectoryStep.{image_found, name_added, name_changed, where_added, where_done}
use Rattle.rbd_site.specs.Step.{is_fenced, answer_to, answer_served, after, after_served}
use Rattle.rbd_stands.specs.Condition.{IsDrawn}
use Rattle.rbd_stands.specs.Site.{StandsFor, IsUntouched, Pending}
use Rattle.rbd_stands.proofs.Served.{free_answer, was_there, where_served}

-- ---- a name is added

-- an id that is told was the next
pub drawn_next : (held : Option ℕ) (full : Bool) (next image : ℕ) → name_added held full next ≡ answer.Id image → next ≡ image
drawn_next (Some other) full next image e = absurd (cc)
drawn_next None true next image e = absurd (cc)
drawn_next None false next image e = cc

name_served : (pending : List Pending) (r : Records) (f : Flat) (me : Instance) (name : List ℕ) (image : ℕ) → StandsFor pending r f
    → answer_served r me (op.Directory (directory_op.Add name)) ≡ answer.Id image
    → StandsFor pending (after_served r me (op.Directory (directory_op.Add name))) (flat.after f (effect.Name name image))
name_served pending r f me name image stands e =
    subst (λ (d : Listing). StandsFor pending (with_directory d r) (flat.after f (effect.Name name image)))
    (sym (ap (λ (a : Answer). where_added a (added name r.directory) r.directory) e))
    (record {
      names = ap (λ (m : finmap.FinMap (slice_cmp nat_cmp) ℕ). finmap.insert m name (r.directory.drawn + 1)) stands.names
          ∙ ap (finmap.insert f.names name) (drawn_next (id_of r.directory name) (is_full r.directory) (r.directory.drawn + 1) image e);
      links = stands.links;
      images = stands.images;
      awaited = stands.awaited;
      fresh = λ j above. let was = stands.fresh j (omega arith) in record { header = was.header; flat = was.flat; blank = was.blank };
    })

pub name_stands : (pending : List Pending) (r : Records) (f : Flat) (me : Instance) (name : List ℕ) (image : ℕ) → StandsFor pending r f
    → answer_to r me (op.Directory (directory_op.Add name)) ≡ answer.Id image
    → StandsFor pending (after r me (op.Directory (directory_op.Add name))) (flat.after f (effect.Name name image))
name_stands pending r f me name image stands =
    where_served (λ (s : Records). StandsFor pending s (flat.after f (effect.Name name image))) r me (op.Directory (directory_op.Add name)) (answer.Id image) refl
    (name_served pending r f me name image stands)

untouched_served : (pending : List Pending) (r : Records) (f : Flat) (me : Instance) (name : List ℕ) (image : ℕ) → StandsFor pending r f
    → answer_served r me (op.Directory (directory_op.Add name)) ≡ answer.Id image
    → IsUntouched (after_served r me (op.Directory (directory_op.Add name))) (flat.after f (effect.Name name image)) image
untouched_served pending r f me name image stands e =
    let next = drawn_next (id_of r.directory name) (is_full r.directory) (r.directory.drawn + 1) image e in
    let was = stands.fresh image (omega (arith, next)) in
    record { header = was.header; flat = was.flat; blank = was.blank }

pub name_untouched : (pending : List Pending) (r : Records) (f : Flat) (me : Instance) (name : List ℕ) (image : ℕ) → StandsFor pending r f
    → answer_to r me (op.Directory (directory_op.Add name)) ≡ answer.Id image
    → IsUntouched (after r me (op.Directory (directory_op.Add name))) (flat.after f (effect.Name name image)) image
name_untouched pending r f me name image stands =
    where_served (λ (s : Records). IsUntouched s (flat.after f (effect.Name name image)) image) r me (op.Directory (directory_op.Add name)) (answer.Id image) refl
    (untouched_served pending r f me name image stands)

drawn_served : (r : Records) (me : Instance) (name : List ℕ) (image : ℕ) → answer_served r me (op.Directory (directory_op.Add name)) ≡ answer.Id image
    → IsDrawn (after_served r me (op.Directory (directory_op.Add name))) image
drawn_served r me name image e =
    let next = drawn_next (id_of r.directory name) (is_full r.directory) (r.directory.drawn + 1) image e in
    subst (λ (d : Listing). image ≤ d.drawn) (sym (ap (λ (a : Answer). where_added a (added name r.directory) r.directory) e)) (omega (arith, next))

pub name_drawn : (r : Records) (me : Instance) (name : List ℕ) (image : ℕ) → answer_to r me (op.Directory (directory_op.Add name)) ≡ answer.Id image
    → IsDrawn (after r me (op.Directory (directory_op.Add name))) image
name_drawn r me name image =
    where_served (λ (s : Records). IsDrawn s image) r me (op.Directory (directory_op.Add name)) (answer.Id image) refl (drawn_served r me name image)

-- ---- a name is replaced

name_replaced : (o : Option ℕ) (from to : List ℕ) (d : Listing) (f : Flat) → d.names ≡ f.names → (renamed o from to d).names ≡ (flat.renamed o from to f).names
name_replaced None from to d f e = e
name_replaced (Some image) from to d f e = ap (λ (m : finmap.FinMap (slice_cmp nat_cmp) ℕ). finmap.insert (finmap.remove m from) to image) e

drawn_stays : (o : Option ℕ) (from to : List ℕ) (d : Listing) → (renamed o from to d).drawn ≡ d.drawn
drawn_stays None from to d = refl
drawn_stays (Some image) from to d = refl

renamed_names : (o : Option ℕ) (from to : List ℕ) (f : Flat) → flat.renamed o from to f ≡ record f { names = (flat.renamed o from to f).names }
renamed_names None from to f = refl
renamed_names (Some image) from to f = refl

-- a directory and a flat site with other names
pub other_names : (pending : List Pending) (r : Records) (f : Flat) (d : Listing) (names : finmap.FinMap (slice_cmp nat_cmp) ℕ) → StandsFor pending r f → d.drawn ≡ r.directory.drawn → d.names ≡ names
    → StandsFor pending (with_directory d r) (record f { names = names })
other_names pending r f d names stands drawn same = record {
  names = same;
  links = stands.links;
  images = stands.images;
  awaited = stands.awaited;
  fresh = λ image above.
      let was = stands.fresh image (subst (λ n. n < image) drawn above) in
      record { header = was.header; flat = was.flat; blank = was.blank };
}

rename_served : (pending : List Pending) (r : Records) (f : Flat) (me : Instance) (from to : List ℕ) → StandsFor pending r f
    → answer_served r me (op.Directory (directory_op.Rename from to)) ≡ answer.Done
    → StandsFor pending (after_served r me (op.Directory (directory_op.Rename from to))) (flat.after f (effect.Rename from to))
rename_served pending r f me from to stands e =
    let now : Listing = renamed (id_of r.directory from) from to r.directory in
    let same : id_of r.directory from ≡ flat.id_of f from = ap (λ (m : finmap.FinMap (slice_cmp nat_cmp) ℕ). finmap.get m from) stands.names in
    let g : Flat = flat.renamed (flat.id_of f from) from to f in
    subst (λ (d : Listing). StandsFor pending (with_directory d r) g)
    (sym (ap (λ (a : Answer). where_done a now r.directory) e))
    (subst (λ (x : Flat). StandsFor pending (with_directory now r) x) (sym (renamed_names (flat.id_of f from) from to f))
    (other_names pending r f now g.names stands (drawn_stays (id_of r.directory from) from to r.directory)
    (name_replaced (id_of r.directory from) from to r.directory f stands.names ∙ ap (λ o. (flat.renamed o from to f).names) same)))

pub rename_stands : (pending : List Pending) (r : Records) (f : Flat) (me : Instance) (from to : List ℕ) → StandsFor pending r f
    → answer_to r me (op.Directory (directory_op.Rename from to)) ≡ answer.Done
    → StandsFor pending (after r me (op.Directory (directory_op.Rename from to))) (flat.after f (effect.Rename from to))
rename_stands pending r f me from to stands =
    where_served (λ (s : Records). StandsFor pending s (flat.after f (effect.Rename from to))) r me (op.Directory (directory_op.Rename from to)) answer.Done refl
    (rename_served pending r f me from to stands)

-- ---- a name is freed

free_served : (pending : List Pending) (r : Records) (f : Flat) (me : Instance) (image : ℕ) → StandsFor pending r f
    → answer_served r me (op.Directory (directory_op.Remove image)) ≡ answer.Done
    → StandsFor pending (after_served r me (op.Directory (directory_op.Remove image))) (flat.after f (effect.NameFree image))
free_served pending r f me image stands e =
    let g : Flat = flat.after f (effect.NameFree image) in
    subst (λ (b : Bool). StandsFor pending (with_directory (cond b (freed image r.directory) r.directory) r) g) (sym (was_there (holds_id image r.directory) e))
    (other_names pending r f (freed image r.directory) g.names stands refl
    (ap (λ (m : finmap.FinMap (slice_cmp nat_cmp) ℕ). finmap.from_entries (filter (λ e. not (eqb e.1 image)) (finmap.entries m))) stands.names))

pub free_stands : (pending : List Pending) (r : Records) (f : Flat) (me : Instance) (image : ℕ) → StandsFor pending r f
    → answer_to r me (op.Directory (directory_op.Remove image)) ≡ answer.Done
    → StandsFor pending (after r me (op.Directory (directory_op.Remove image))) (flat.after f (effect.NameFree image))
free_stands pending r f me image stands =
    where_served (λ (s : Records). StandsFor pending s (flat.after f (effect.NameFree image))) r me (op.Directory (directory_op.Remove image)) answer.Done refl
    (free_served pending r f me image stands)

-- ---- what the answers tell of the flat site

pub id_same : (r : Records) (f : Flat) → r.directory.names ≡ f.names → (name : List ℕ) → id_of r.directory name ≡ flat.id_of f name
id_same r f same name = ap (λ (m : finmap.FinMap (slice_cmp nat_cmp) ℕ). finmap.get m name) same

added_told : (held : Option ℕ) (full : Bool) (next : ℕ) → (name_added held full next ≡ answer.Exists) ↔ (is_some held ≡ true)
added_told (Some image) full next = (λ _. refl, λ _. refl)
added_told None true next = (λ e. absurd (cc), λ e. absurd (cc))
added_told None false next = (λ e. absurd (cc), λ e. absurd (cc))

held_served : (pending : List Pending) (r : Records) (f : Flat) (me : Instance) (name : List ℕ) → StandsFor pending r f
    → (answer_served r me (op.Directory (directory_op.Add name)) ≡ answer.Exists) ↔ IsSome (flat.id_of f name)
held_served pending r f me name stands =
    subst (λ (o : Option ℕ). (answer_served r me (op.Directory (directory_op.Add name)) ≡ answer.Exists) ↔ IsSome o) (id_same r f stands.names name)
    (added_told (id_of r.directory name) (is_full r.directory) (r.directory.drawn + 1))

pub held_told : (pending : List Pending) (r : Records) (f : Flat) (me : Instance) (name : List ℕ) → StandsFor pending r f → IsFalse (is_fenced r me)
    → (answer_to r me (op.Directory (directory_op.Add name)) ≡ answer.Exists) ↔ IsSome (flat.id_of f name)
held_told pending r f me name stands free =
    subst (λ (a : Answer). (a ≡ answer.Exists) ↔ (IsSome (flat.id_of f name))) (free_answer r me (op.Directory (directory_op.Add name)) free)
    (held_served pending r f me name stands)

from_told : (from to : Option ℕ) → (name_changed from to ≡ answer.Absent) ↔ (from ≡ None)
from_told None to = (λ _. refl, λ _. refl)
from_told (Some image) None = (λ e. absurd (cc), λ e. absurd (cc))
from_told (Some image) (Some other) = (λ e. absurd (cc), λ e. absurd (cc))

missing_served : (pending : List Pending) (r : Records) (f : Flat) (me : Instance) (from to : List ℕ) → StandsFor pending r f
    → (answer_served r me (op.Directory (directory_op.Rename from to)) ≡ answer.Absent) ↔ (flat.id_of f from ≡ None)
missing_served pending r f me from to stands =
    subst (λ (o : Option ℕ). (answer_served r me (op.Directory (directory_op.Rename from to)) ≡ answer.Absent) ↔ (o ≡ None)) (id_same r f stands.names from)
    (from_told (id_of r.directory from) (id_of r.directory to))

pub missing_told : (pending : List Pending) (r : Records) (f : Flat) (me : Instance) (from to : List ℕ) → StandsFor pending r f → IsFalse (is_fenced r me)
    → (answer_to r me (op.Directory (directory_op.Rename from to)) ≡ answer.Absent) ↔ (flat.id_of f from ≡ None)
missing_told pending r f me from to stands free =
    subst (λ (a : Answer). (a ≡ answer.Absent) ↔ (flat.id_of f from ≡ None)) (free_answer r me (op.Directory (directory_op.Rename from to)) free)
    (missing_served pending r f me from to stands)

to_told : (from to : Option ℕ) → (name_changed from to ≡ answer.Exists) ↔ ((is_some from ≡ true) × (is_some to ≡ true))
to_told None to = (λ e. absurd (cc), λ e. absurd (let n = e.0 in cc))
to_told (Some image) None = (λ e. absurd (cc), λ e. absurd (let n = e.1 in cc))
to_told (Some image) (Some other) = (λ _. (refl, refl), λ _. refl)

taken_served : (pending : List Pending) (r : Records) (f : Flat) (me : Instance) (from to : List ℕ) → StandsFor pending r f
    → (answer_served r me (op.Directory (directory_op.Rename from to)) ≡ answer.Exists) ↔ (IsSome (flat.id_of f from) × IsSome (flat.id_of f to))
taken_served pending r f me from to stands =
    subst (λ (o : Option ℕ). (answer_served r me (op.Directory (directory_op.Rename from to)) ≡ answer.Exists) ↔ (IsSome o × IsSome (flat.id_of f to))) (id_same r f stands.names from)
    (subst (λ (o : Option ℕ). (answer_served r me (op.Directory (directory_op.Rename from to)) ≡ answer.Exists) ↔ (IsSome (id_of r.directory from) × IsSome o)) (id_same r f stands.names to)
    (to_told (id_of r.directory from) (id_of r.directory to)))

pub taken_told : (pending : List Pending) (r : Records) (f : Flat) (me : Instance) (from to : List ℕ) → StandsFor pending r f → IsFalse (is_fenced r me)
    → (answer_to r me (op.Directory (directory_op.Rename from to)) ≡ answer.Exists) ↔ (IsSome (flat.id_of f from) × IsSome (flat.id_of f to))
taken_told pending r f me from to stands free =
    subst (λ (a : Answer). (a ≡ answer.Exists) ↔ (IsSome (flat.id_of f from) × IsSome (flat.id_of f to))) (free_answer r me (op.Directory (directory_op.Rename from to)) free)
    (taken_served pending r f me from to stands)

pub found_told : (pending : List Pending) (r : Records) (f : Flat) (me : Instance) (name : List ℕ) → StandsFor pending r f → IsFalse (is_fenced r me)
    → answer_to r me (op.Directory (directory_op.Find name)) ≡ image_found (flat.id_of f name)
found_told pending r f me name stands free =
    sym (free_answer r me (op.Directory (directory_op.Find name)) free) ∙ ap image_found (id_same r f stands.names name)

pub listed_told : (pending : List Pending) (r : Records) (f : Flat) (me : Instance) → StandsFor pending r f → IsFalse (is_fenced r me)
    → answer_to r me (op.Directory directory_op.List) ≡ answer.Names (finmap.keys f.names)
listed_told pending r f me stands free =
    sym (free_answer r me (op.Directory directory_op.List) free) ∙ ap (λ (m : finmap.FinMap (slice_cmp nat_cmp) ℕ). answer.Names (finmap.keys m)) stands.names
