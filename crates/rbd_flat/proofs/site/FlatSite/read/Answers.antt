use Rattle.std.proofs.Common.{None, Some, sym, ap, ◌∙◌}
use Rattle.rbd_flat.specs.Flat.{Flat, image_at}
use Rattle.rbd_flat.proofs.SiteSteps.{image_there}
use Rattle.rbd_flat.proofs.Shown.{without_image, without_snap, with_view, at_image}
use Rattle.rbd_flat.proofs.site.FlatSite.read.Goals as goal

pub returns-in_default : goal.returns-in_default
returns-in_default c =
    let is = c.self.inside.images.entries in
    let found = ap (λ (f : Flat). image_at f c.args.image) (sym c.self.view_is) ∙ image_there c.self.inside.names.entries is is c.self.inside.links.keys c.args.image None (sym c.in_default.ensures.value) in
    let a = at_image None (image_at c.args.self.now c.args.image) c.args.snap c.args.extent.now _ found (without_image c.args.snap c.args.extent.now) in
    record { bytes = a.bytes; no_image = a.no_image; no_snap = a.no_snap; bad_range = a.bad_range; no_memory = a.no_memory }

pub returns-in_default-view : goal.returns-in_default-view
returns-in_default-view c =
    let is = c.self.inside.images.entries in
    let i = c.in-Some.found.now in
    let found = ap (λ (f : Flat). image_at f c.args.image) (sym c.self.view_is) ∙ image_there c.self.inside.names.entries is is c.self.inside.links.keys c.args.image (Some i) (sym c.in-Some.ensures.value) in
    let a = at_image (Some i) (image_at c.args.self.now c.args.image) c.args.snap c.args.extent.now _ found (without_snap i c.args.snap c.args.extent.now (sym c.in_default-view.ensures)) in
    record { bytes = a.bytes; no_image = a.no_image; no_snap = a.no_snap; bad_range = a.bad_range; no_memory = a.no_memory }

pub returns : goal.returns
returns c =
    let is = c.self.inside.images.entries in
    let i = c.in-Some.found.now in
    let found = ap (λ (f : Flat). image_at f c.args.image) (sym c.self.view_is) ∙ image_there c.self.inside.names.entries is is c.self.inside.links.keys c.args.image (Some i) (sym c.in-Some.ensures.value) in
    let v = c.read_bytes.ensures in
    let a = at_image (Some i) (image_at c.args.self.now c.args.image) c.args.snap c.args.extent.now c.read_bytes.result found
    (with_view i c.in-Some-view.bytes.now c.args.snap c.args.extent.now c.read_bytes.result (sym c.in-Some-view.ensures)
    (record { bytes = v.bytes; bad_range = v.bad_range; no_memory = v.no_memory; no_image = v.no_image; no_snap = v.no_snap })) in
    record { bytes = a.bytes; no_image = a.no_image; no_snap = a.no_snap; bad_range = a.bad_range; no_memory = a.no_memory }
