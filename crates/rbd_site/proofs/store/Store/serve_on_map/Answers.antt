use Rattle.std.proofs.Common.{List, ℕ, Option, ap}
use Rattle.std.proofs.Math.Path.{fun_ext}
use Rattle.std.proofs.lemmas.Result.{on_ok_weaker}
use Rattle.rbd_site.specs.Maps.{kept}
use Rattle.rbd_site.proofs.store.Store.serve_on_map.Goals as goal

pub returns-clause-ok : goal.returns-clause-ok
returns-clause-ok c =
    rw (← c.snap.ensures)
    (on_ok_weaker c.change.result
    (λ each. ap (λ (maps : ℕ → Option ℕ → Option (List ℕ)). record (kept c.args.self.now) { maps = maps })
    (fun_ext (λ image. fun_ext (each image))))
    c.change.ensures.ok)
