-- Nothing at all stands for no images.
use Rattle.std.proofs.Common.{[], Option, None, refl, sym, subst, ◌∙◌}
use Rattle.std.specs.FinMap as finmap
use Rattle.std.specs.FinSet as finset
use Rattle.std.specs.Ordering.{nat_cmp}
use Rattle.rbd_registry.specs.Children.{entry_cmp}
use Rattle.rbd_flat.specs.Flat.{FlatImage, link_cmp, no_images}
use Rattle.rbd_site.specs.Records.{no_records, object_at}
use Rattle.rbd_stands.specs.Shown.{links_of, snapshots_of}
use Rattle.rbd_stands.specs.Site.{StandsAt, StandsFor}

pub nothing_stands : StandsFor [] no_records no_images
nothing_stands = record {
  names = refl;
  links = λ parent snap child.
      finset.contains-empty entry_cmp (record { parent = parent; snap = snap; child = child })
      ∙ sym (finset.contains-empty link_cmp (record { parent = parent; snap = snap; child = child }));
  images = λ image. subst (λ (o : Option FlatImage). StandsAt (snapshots_of no_images) (links_of no_images image) None (object_at no_records image) o) (sym (finmap.get-empty nat_cmp image)) tt;
  awaited = λ k p is. absurd (cc);
  fresh = λ image above. record { header = refl; flat = finmap.get-empty nat_cmp image; blank = λ n. refl };
}
