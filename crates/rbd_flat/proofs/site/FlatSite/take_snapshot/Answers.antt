use Rattle.std.proofs.Common.{is_some, ap, sym, ◌++◌, ◌∷◌, []}
use Rattle.rbd_kinds.specs.declared.header.SnapStatus.TheVariants.{Unprotected}
use Rattle.rbd_flat.proofs.SiteSteps.{image_written, image_missing, image_kept}
use Rattle.rbd_flat.proofs.site.FlatSite.take_snapshot.Goals as goal
use Rattle.rbd_kinds.proofs.Results.{on_err_always}

pub returns-in_default-clause-ok : goal.returns-in_default-clause-ok
returns-in_default-clause-ok c =
    let there = c.self.inside.images in
    let now = c.get_mut.follows.lender-at-none in
    image_missing c.self.inside.names.entries there.entries now.entries c.self.inside.links.keys c.args.image
    (λ i. record i { snaps = i.snaps ++ record { id = c.args.snap; name = c.args.name.now; bytes = i.bytes; status = Unprotected } ∷ [] })
    (sym c.in_default.ensures.value) (ap (λ m. m.entries) c.get_mut.follows.holds-at-none) c.args.self.now c.self.view_is

pub returns-clause-ok : goal.returns-clause-ok
returns-clause-ok c =
    let there = c.self.inside.images in
    let made = c.take_snapshot.new.self in
    let now = c.get_mut.follows.lender made in
    image_written c.self.inside.names.entries there.entries now.entries c.self.inside.links.keys c.args.image c.in-Some.found.now made
    (λ i. record i { snaps = i.snaps ++ record { id = c.args.snap; name = c.args.name.now; bytes = i.bytes; status = Unprotected } ∷ [] })
    (sym c.in-Some.ensures.value) c.in_ok-take_snapshot.ensures.ok
    ((c.get_mut.follows.holds made).3 (ap is_some (sym c.in-Some.ensures.value))).0 c.args.self.now c.self.view_is

pub returns-in_err-take_snapshot-clause-err : goal.returns-in_err-take_snapshot-clause-err
returns-in_err-take_snapshot-clause-err c =
    let there = c.self.inside.images in
    let made = c.take_snapshot.new.self in
    let now = c.get_mut.follows.lender made in
    let kept = image_kept c.self.inside.names.entries there.entries now.entries c.self.inside.links.keys c.args.image c.in-Some.found.now made
    (sym c.in-Some.ensures.value) c.in_err-take_snapshot.ensures.err
    ((c.get_mut.follows.holds made).3 (ap is_some (sym c.in-Some.ensures.value))).0 c.args.self.now c.self.view_is in
    on_err_always c.from_residual.result kept
