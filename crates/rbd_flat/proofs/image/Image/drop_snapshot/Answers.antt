use Rattle.std.proofs.Common.{List, Bool, eqb, not, ap, ◌∙◌, rules}
use Rattle.std.specs.List.{filter}
use Rattle.std.proofs.lemmas.Fn.{filter_same}
use Rattle.rbd_flat.specs.Flat.{FlatImage, FlatSnap}
use Rattle.rbd_flat.proofs.image.Image.drop_snapshot.Goals as goal

pub returns : goal.returns
returns c =
    let others : FlatSnap → Bool = λ s. not (eqb s.id c.args.snap) in
    let with_snaps : List FlatSnap → FlatImage = λ ss. record { bytes = c.self.inside.bytes.items; snaps = ss; role = c.self.inside.role } in
    ap with_snaps (filter_same _ others _ (λ x b f' h. search rules) c.self.inside.snaps.items c.retain.new.self.items c.retain.ensures.filtered)
    ∙ ap (λ (i : FlatImage). record i { snaps = filter others i.snaps }) c.self.view_is
