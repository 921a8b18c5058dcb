-- Who knows nothing knows the truth, beside everybody; and at an empty site no image has a parent.
use Rattle.std.proofs.Common.{inl, inr, ℕ, refl, sym}
use Rattle.std.proofs.lemmas.Bool.{true≢false}
use Rattle.rbd_kinds.specs.declared.id.Instance.{Instance}
use Rattle.rbd_kinds.specs.declared.id.SiteId.{SiteId}
use Rattle.rbd_flat.specs.Flat.{Flat}
use Rattle.rbd_machine.specs.Knowledge.{Knowledge, nothing_known}
use Rattle.rbd_site.specs.Records.{Records, no_records}
use Rattle.rbd_interference.specs.Ancestors.{HasReadTruly}
use Rattle.rbd_interference.specs.Beside.{AreBeside}
use Rattle.rbd_interference.specs.Truth.{IsTrueAt, AreStandalone, KnowsNoHeader}
use Rattle.rbd_interference.proofs.Children.{no_bases, no_children, none_childless}

pub nothing_is_true : (s : SiteId) (r : Records) (me : Instance) → IsTrueAt s r me nothing_known
nothing_is_true s r me = record {
  owned = λ free image. tt;
  drawn = λ image drawn. absurd (true≢false (sym drawn));
  fenced = λ i known. absurd (true≢false (sym known));
  mapped = λ free image known. absurd (true≢false (sym known));
  objects = λ free image h known. cc;
  gone = λ image gone. absurd (true≢false (sym gone));
  apart = λ image gone. absurd (true≢false (sym gone));
  counted = λ image without. absurd (by image without);
  seen = λ image h among. absurd among;
  strange = λ image saw. absurd (true≢false (sym saw));
  children = no_children s r me nothing_known refl refl refl;
}
  where
    by : (image : ℕ) → KnowsNoHeader nothing_known s image → ⊥
    by image (inl drawn) = true≢false (sym drawn)
    by image (inr gone) = true≢false (sym gone)

pub nothing_is_read : (s : SiteId) (r : Records) (f : Flat) → HasReadTruly s r f nothing_known
nothing_is_read s r f image snap number parts bytes among = absurd among

pub nothing_is_beside : (s : SiteId) (r : Records) (me you : Instance) (j : Knowledge) → AreBeside s r me you nothing_known j
nothing_is_beside s r me you j = record {
  shared = λ free image one other. absurd (true≢false (sym one));
  gone = λ image gone. absurd (true≢false (sym gone));
  gone_there = λ image gone. refl;
  removed = λ image gone. absurd (true≢false (sym gone));
  apart = λ image drawn. absurd (true≢false (sym drawn));
  unseen = λ image saw. absurd (true≢false (sym saw));
  unseen_there = λ image saw. refl;
  unbased = λ free. no_bases s nothing_known j refl;
  unbased_there = λ free. none_childless s j nothing_known refl;
}

pub none_standalone : AreStandalone no_records
none_standalone image h is = cc
