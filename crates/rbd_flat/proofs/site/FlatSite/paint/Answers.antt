use Rattle.std.proofs.Common.{is_some, ap, sym}
use Rattle.rbd_flat.specs.Flat.{painted, places_of}
use Rattle.rbd_flat.proofs.SiteSteps.{image_written, image_missing}
use Rattle.rbd_flat.proofs.site.FlatSite.paint.Goals as goal

pub returns-in_default : goal.returns-in_default
returns-in_default c =
    let there = c.self.inside.images in
    let now = c.get_mut.follows.lender-at-none in
    image_missing c.self.inside.names.entries there.entries now.entries c.self.inside.links.keys c.args.image
    (λ i. record i { bytes = painted (places_of c.args.at.now) c.args.bytes.now i.bytes })
    (sym c.in_default.ensures.value) (ap (λ m. m.entries) c.get_mut.follows.holds-at-none) c.args.self.now c.self.view_is

pub returns : goal.returns
returns c =
    let there = c.self.inside.images in
    let made = c.paint.new.self in
    let now = c.get_mut.follows.lender made in
    image_written c.self.inside.names.entries there.entries now.entries c.self.inside.links.keys c.args.image c.in-Some.found.now made
    (λ i. record i { bytes = painted (places_of c.args.at.now) c.args.bytes.now i.bytes })
    (sym c.in-Some.ensures.value) (rw c.as_slice.ensures at c.paint.ensures)
    ((c.get_mut.follows.holds made).3 (ap is_some (sym c.in-Some.ensures.value))).0 c.args.self.now c.self.view_is
