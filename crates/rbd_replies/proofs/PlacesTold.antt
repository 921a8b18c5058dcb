-- What an operation at a place that is right tells of the flat site there, and its effect.
use Rattle.std.proofs.Common.{◌≡◌, ℕ, ◌+◌, cond, Bool, true, false, List, [], Option, Some, None, refl, sym, ap, ◌∙◌}
use Rattle.std.specs.Prelude.{IsFalse}
use Rattle.std.specs.FinMap as finmap
use Rattle.rbd_kinds.specs.declared.answer.Answer.TheVariants as answer
use Rattle.rbd_kinds.specs.declared.directory_op.DirectoryOp.TheVariants as directory
use Rattle.rbd_kinds.specs.declared.header.HeaderView.{HeaderView}
use Rattle.rbd_kinds.specs.declared.id.SiteId.{SiteId}
use Rattle.rbd_kinds.specs.declared.operation.Op.TheVariants as op
use Rattle.rbd_flat.specs.Flat.{id_of, image_at}
use Rattle.rbd_machine.specs.Path.{Answered, found, looked_at}
use Rattle.rbd_meaning.specs.Listings.{names_told, renamed_to}
use Rattle.rbd_registry.specs.Directory.{is_full}
use Rattle.rbd_site.specs.DirectoryStep.{image_found, name_added, name_changed}
use Rattle.rbd_site.specs.Records.{Records}
use Rattle.rbd_site.specs.Step.{answer_to, answer_served, is_fenced}
use Rattle.rbd_site.specs.declared.done.DoneOp.TheVariants as done
use Rattle.rbd_stands.proofs.Served.{free_answer, is_served}
use Rattle.rbd_stands.proofs.Telling.{header_told}
use Rattle.rbd_stands.specs.Effect.{effect_of}
use Rattle.rbd_stands.specs.Reading.{TellsFlatImage}
use Rattle.rbd_world.specs.Run.{records_after}
use Rattle.rbd_replies.proofs.PlacedRight.{IsPlacedRight}
use Rattle.rbd_replies.proofs.Places.{step_at}
use Rattle.rbd_replies.specs.Places.{LooksAt, Placed, flat_at}

-- the records of its site there
abbrev pub records_at : Placed → Records
records_at p = records_after p.done.site p.before

-- ---- what holds of a step holds at its place

module _ (homes : ℕ → SiteId) (p : Placed) (right : IsPlacedRight homes p) (step : Answered) (is : step_at p ≡ step) where
  pub answer_there : answer_to (records_at p) p.done.instance step.op ≡ step.answer
  answer_there =
      ap (λ (s : Answered). answer_to (records_at p) p.done.instance s.op) (sym is)
      ∙ sym right.is.answer ∙ ap (λ (s : Answered). s.answer) is

  -- who is answered anything but `fenced` isn't, and was served
  pub unfenced_there : is_served step.answer ≡ true → IsFalse (is_fenced (records_at p) p.done.instance)
  unfenced_there free = by (is_fenced (records_at p) p.done.instance) answer_there
    where
      by : (b : Bool) → cond b answer.Fenced (answer_served (records_at p) p.done.instance step.op) ≡ step.answer → b ≡ false
      by true answered = sym free ∙ sym (ap is_served answered)
      by false answered = refl

  pub served_there : is_served step.answer ≡ true → answer_served (records_at p) p.done.instance step.op ≡ step.answer
  served_there free = free_answer (records_at p) p.done.instance step.op (unfenced_there free) ∙ answer_there

  pub effect_there : p.done.effect ≡ effect_of (records_at p) (done.Op step.op) step.answer
  effect_there = right.is.effect ∙ ap (λ (s : Answered). effect_of (records_at p) (done.Op s.op) s.answer) is

-- ---- names

image_of_found : (o : Option ℕ) (image : ℕ) → image_found o ≡ answer.Id image → o ≡ Some image
image_of_found None image told = absurd (cc)
image_of_found (Some other) image told = cc

free_where_added : (o : Option ℕ) (full : Bool) (next image : ℕ) → name_added o full next ≡ answer.Id image → o ≡ None
free_where_added None full next image told = refl
free_where_added (Some other) full next image told = absurd (cc)

-- the name leads to the image there
pub found_there : (homes : ℕ → SiteId) (p : Placed) → IsPlacedRight homes p → (site : SiteId) (name : List ℕ) (image : ℕ) → step_at p ≡ found site name image
    → id_of (flat_at p) name ≡ Some image
found_there homes p right site name image is =
    image_of_found (id_of (flat_at p) name) image
    (ap (λ names. image_found (finmap.get names name)) (sym right.standing.stands.names) ∙ served_there homes p right (found site name image) is refl)

-- all names are the flat site's there
pub listed_there : (homes : ℕ → SiteId) (p : Placed) → IsPlacedRight homes p → (site : SiteId) (names : List (List ℕ)) → step_at p ≡ names_told site names
    → names ≡ finmap.keys (flat_at p).names
listed_there homes p right site names is =
    let told : answer.Names (finmap.keys (records_at p).directory.names) ≡ answer.Names names = served_there homes p right (names_told site names) is refl in
    let same : finmap.keys (records_at p).directory.names ≡ names = cc in
    sym same ∙ ap finmap.keys right.standing.stands.names

-- a name that was added was free there
pub free_there : (homes : ℕ → SiteId) (p : Placed) → IsPlacedRight homes p → (site : SiteId) (name : List ℕ) (image : ℕ)
    → step_at p ≡ record { site = site; op = op.Directory (directory.Add name); answer = answer.Id image }
    → id_of (flat_at p) name ≡ None
free_there homes p right site name image is =
    free_where_added (id_of (flat_at p) name) (is_full (records_at p).directory) ((records_at p).directory.drawn + 1) image
    (ap (λ names. name_added (finmap.get names name) (is_full (records_at p).directory) ((records_at p).directory.drawn + 1)) (sym right.standing.stands.names)
    ∙ served_there homes p right (record { site = site; op = op.Directory (directory.Add name); answer = answer.Id image }) is refl)

-- a name that was changed led to an image, and the other one to none
record IsChanged (from to : Option ℕ) : Type 0 where
  image : ℕ
  was : from ≡ Some image
  free : to ≡ None

changed_where : (from to : Option ℕ) → name_changed from to ≡ answer.Done → IsChanged from to
changed_where None to told = absurd (cc)
changed_where (Some image) None told = record { image = image; was = refl; free = refl }
changed_where (Some image) (Some other) told = absurd (cc)

pub record IsRenamedThere (from to : List ℕ) (p : Placed) : Type 0 where
  pub image : ℕ
  pub named : id_of (flat_at p) from ≡ Some image
  pub free : id_of (flat_at p) to ≡ None

pub renamed_there : (homes : ℕ → SiteId) (p : Placed) → IsPlacedRight homes p → (site : SiteId) (from to : List ℕ) → step_at p ≡ renamed_to site from to → IsRenamedThere from to p
renamed_there homes p right site from to is =
    let names = right.standing.stands.names in
    let changed = changed_where (id_of (flat_at p) from) (id_of (flat_at p) to)
    (ap (λ all. name_changed (finmap.get all from) (finmap.get all to)) (sym names) ∙ served_there homes p right (renamed_to site from to) is refl) in
    record { image = changed.image; named = changed.was; free = changed.free }

-- ---- a header

-- a step that looked at a header is a look at its place
pub looks_there : (p : Placed) (site : SiteId) (image : ℕ) (h : HeaderView) → step_at p ≡ looked_at site image h → LooksAt image h p
looks_there p site image h is = record { asks = ap (λ (s : Answered). s.op) is; answered = ap (λ (s : Answered). s.answer) is }

-- the header tells the flat image there
pub header_there : (homes : ℕ → SiteId) (p : Placed) → IsPlacedRight homes p → (site : SiteId) (image : ℕ) (h : HeaderView) → step_at p ≡ looked_at site image h
    → TellsFlatImage h (image_at (flat_at p) image)
header_there homes p right site image h is =
    header_told [] (records_at p) (flat_at p) p.done.instance image h right.standing.stands (answer_there homes p right (looked_at site image h) is)

-- ---- looks have no effect

pub finding_is_silent : (homes : ℕ → SiteId) (p : Placed) → IsPlacedRight homes p → (site : SiteId) (name : List ℕ) (image : ℕ) → step_at p ≡ found site name image
    → p.done.effect ≡ None
finding_is_silent homes p right site name image is = effect_there homes p right (found site name image) is

pub looking_is_silent : (homes : ℕ → SiteId) (p : Placed) → IsPlacedRight homes p → (site : SiteId) (image : ℕ) (h : HeaderView) → step_at p ≡ looked_at site image h
    → p.done.effect ≡ None
looking_is_silent homes p right site image h is = effect_there homes p right (looked_at site image h) is
