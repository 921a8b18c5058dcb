use Rattle.std.proofs.Common.{ℕ, Option, ap}
use Rattle.std.proofs.Math.Path.{fun_ext}
use Rattle.rbd_object.specs.Mapped.{Mapped}
use Rattle.rbd_site.specs.Maps.{kept}
use Rattle.rbd_site.proofs.store.Store.trim.Goals as goal

pub returns : goal.returns
returns c =
    ap (λ (objects : ℕ → ℕ → Option Mapped). record (kept c.args.self.now) { objects = objects })
    (fun_ext (λ image. fun_ext (c.trim.ensures image)))
