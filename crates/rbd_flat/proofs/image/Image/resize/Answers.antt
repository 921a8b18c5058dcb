use Rattle.std.proofs.Common.{ℕ, ◌-◌, List, ◌++◌, take, ap, ◌∙◌}
use Rattle.std.specs.Prelude.{replicate}
use Rattle.rbd_flat.specs.Flat.{FlatImage, resized}
use Rattle.rbd_flat.proofs.Parts.{cut_or_filled}
use Rattle.rbd_flat.proofs.image.Image.resize.Goals as goal

pub returns-clause-ok : goal.returns-clause-ok
returns-clause-ok c =
    let with_bytes : List ℕ → FlatImage = λ bs. record { bytes = bs; snaps = c.self.inside.snaps.items; role = c.self.inside.role } in
    let old = c.self.inside.bytes in
    let long = old.ok.0 in
    ap with_bytes (c.in_ok-resize.ensures.items ∙ ap (λ n. take c.args.size old.items ++ replicate (c.args.size - n) 0) long ∙ cut_or_filled c.args.size c.self.inside.bytes.items)
    ∙ ap (λ (i : FlatImage). record i { bytes = resized c.args.size i.bytes }) c.self.view_is
