use Rattle.std.proofs.Common.{ℕ, Option, ap, sym}
use Rattle.std.proofs.Math.Path.{fun_ext}
use Rattle.std.proofs.lemmas.Result.{on_ok_weaker}
use Rattle.rbd_object.specs.Mapped.{Mapped}
use Rattle.rbd_site.specs.Maps.{kept}
use Rattle.rbd_site.proofs.store.Store.serve.Goals as goal

pub returns-in-Data-clause-ok : goal.returns-in-Data-clause-ok
returns-in-Data-clause-ok c =
    rw c.in-Data.is
    (rw (sym c.deref.ensures)
    (on_ok_weaker c.change-in-Data.result
    (λ each. ap (λ (objects : ℕ → ℕ → Option Mapped). record (kept c.args.self.now) { objects = objects })
    (fun_ext (λ image. fun_ext (each image))))
    c.change-in-Data.ensures.ok))

pub returns-in-Map-clause-ok : goal.returns-in-Map-clause-ok
returns-in-Map-clause-ok c = rw c.in-Map.is c.serve_on_map.ensures.ok
