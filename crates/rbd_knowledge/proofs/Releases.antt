-- What a release knows: it may do what it does by that, it is true, and it goes beside all.
use Rattle.std.proofs.Common.{◌≡◌, inl, inr, ℕ, cond, Bool, true, false, [], Some, None, refl, sym, ap, ◌∙◌, subst, true≢false}
use Rattle.std.specs.Prelude.{is_some}
use Rattle.std.proofs.lemmas.Option.{none-some}
use Rattle.rbd_knowledge.specs.ClientsKnowing.{known_to_drop, known_to_release, unlooked}
use Rattle.rbd_kinds.specs.declared.id.Instance.{Instance}
use Rattle.rbd_kinds.specs.declared.id.SiteId.{SiteId}
use Rattle.rbd_kinds.proofs.Images.{at_itself}
use Rattle.rbd_machine.specs.Ancestors.{has_seen}
use Rattle.rbd_machine.specs.Knowledge.{Knowledge, is_at, is_drawn, is_gone}
use Rattle.rbd_machine.specs.Permits.{Permits}
use Rattle.rbd_lock.specs.declared.release.Release.{Release}
use Rattle.rbd_lock.specs.declared.release.Stage.{Stage as ReleaseStage}
use Rattle.rbd_lock.specs.declared.release.Stage.TheVariants as releasing
use Rattle.rbd_lock.specs.Release.{release_op, release_op_at}
use Rattle.rbd_interference.specs.Beside.{AreBeside}
use Rattle.rbd_interference.specs.Truth.{IsStill, IsTrueAt, KnowsNoHeader, header_of_own, known_header, sharing_on}
use Rattle.rbd_interference.proofs.Children.{no_bases, no_children, none_childless}
use Rattle.rbd_interference.proofs.Nothing.{nothing_is_true}
use Rattle.rbd_site.specs.Records.{Records}

permits_at : (s : ReleaseStage) (site : SiteId) (image : ℕ) → Permits (known_to_drop s site image) site (release_op_at s image)
permits_at releasing.Dropping site image = record { is = ap (λ b. cond b (Some (unlooked site image)) None) (at_itself site image) }
permits_at releasing.Telling site image = tt

pub release_permits : (r : Release) → Permits (known_to_release r) r.site (release_op r)
release_permits r = permits_at r.stage r.site r.image

-- it relies on no header
no_header : (s : ReleaseStage) (site : SiteId) (image : ℕ) (there : SiteId) (other : ℕ) → known_header (known_to_drop s site image) there other ≡ None
no_header releasing.Telling site image there other = refl
no_header releasing.Dropping site image there other = by (is_at there other site image)
  where
    by : (b : Bool) → header_of_own (cond b (Some (unlooked site image)) None) ≡ None
    by true = refl
    by false = refl

pub release_knows_no_header : (r : Release) (there : SiteId) (image : ℕ) → known_header (known_to_release r) there image ≡ None
release_knows_no_header r there image = no_header r.stage r.site r.image there image

drew_nothing : (s : ReleaseStage) (site : SiteId) (image : ℕ) (there : SiteId) (other : ℕ) → is_drawn (known_to_drop s site image).drawn there other ≡ false
drew_nothing releasing.Telling site image there other = refl
drew_nothing releasing.Dropping site image there other = refl

removed_nothing : (s : ReleaseStage) (site : SiteId) (image : ℕ) (there : SiteId) (other : ℕ) → is_gone (known_to_drop s site image).gone there other ≡ false
removed_nothing releasing.Telling site image there other = refl
removed_nothing releasing.Dropping site image there other = refl

saw_nothing : (s : ReleaseStage) (site : SiteId) (image : ℕ) (there : SiteId) (other : ℕ) → has_seen (known_to_drop s site image).seen there other ≡ false
saw_nothing releasing.Telling site image there other = refl
saw_nothing releasing.Dropping site image there other = refl

-- nor does it know of children
knows_bases : (s : ReleaseStage) (site : SiteId) (image : ℕ) → (known_to_drop s site image).based ≡ []
knows_bases releasing.Telling site image = refl
knows_bases releasing.Dropping site image = refl

knows_childless : (s : ReleaseStage) (site : SiteId) (image : ℕ) → (known_to_drop s site image).childless ≡ []
knows_childless releasing.Telling site image = refl
knows_childless releasing.Dropping site image = refl

true_at : (there : SiteId) (r : Records) (me : Instance) (s : ReleaseStage) (site : SiteId) (image : ℕ) → IsTrueAt there r me (known_to_drop s site image)
true_at there r me releasing.Telling site image = nothing_is_true there r me
true_at there r me releasing.Dropping site image = record {
  owned = λ free other. subst (λ known. IsStill (sharing_on (known_to_drop releasing.Dropping site image) there other) known (r.headers other)) (sym (no_header releasing.Dropping site image there other)) tt;
  drawn = λ other drawn. absurd (true≢false (sym drawn));
  fenced = λ i known. absurd (true≢false (sym known));
  mapped = λ free other known. absurd (true≢false (sym known ∙ ap is_some (no_header releasing.Dropping site image there other)));
  objects = λ free other h known. absurd (none-some h (sym (no_header releasing.Dropping site image there other) ∙ known));
  gone = λ other gone. absurd (true≢false (sym gone));
  apart = λ other gone. refl;
  counted = λ other without. absurd (by other without);
  seen = λ other h among. absurd among;
  strange = λ other saw. refl;
  children = no_children there r me (known_to_drop releasing.Dropping site image) refl refl refl;
}
  where
    by : (other : ℕ) → KnowsNoHeader (known_to_drop releasing.Dropping site image) there other → ⊥
    by other (inl drawn) = true≢false (sym drawn)
    by other (inr gone) = true≢false (sym gone)

pub release_is_true : (there : SiteId) (r : Records) (me : Instance) (x : Release) → IsTrueAt there r me (known_to_release x)
release_is_true there r me x = true_at there r me x.stage x.site x.image

pub beside_release : (there : SiteId) (r : Records) (me you : Instance) (k : Knowledge) (x : Release) → AreBeside there r me you k (known_to_release x)
beside_release there r me you k x = record {
  shared = λ free image mine others. absurd (true≢false (sym others ∙ ap is_some (no_header x.stage x.site x.image there image)));
  apart = λ image drawn. drew_nothing x.stage x.site x.image there image;
  gone = λ image gone. drew_nothing x.stage x.site x.image there image;
  gone_there = λ image gone. absurd (true≢false (sym gone ∙ removed_nothing x.stage x.site x.image there image));
  removed = λ image gone. removed_nothing x.stage x.site x.image there image;
  unseen = λ image saw. drew_nothing x.stage x.site x.image there image;
  unseen_there = λ image saw. absurd (true≢false (sym saw ∙ saw_nothing x.stage x.site x.image there image));
  unbased = λ free. none_childless there k (known_to_release x) (knows_childless x.stage x.site x.image);
  unbased_there = λ free. no_bases there (known_to_release x) k (knows_bases x.stage x.site x.image);
}
