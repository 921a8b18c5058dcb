use Rattle.std.proofs.Common.{[], Some, Option, List, unwrap_or, ap, ◌∙◌, rules}
use Rattle.std.proofs.lemmas.Result.{on_ok_weaker, on_err_weaker}
use Rattle.rbd_kinds.specs.declared.id.Instance.{Instance}
use Rattle.rbd_watch.specs.Watching.{registered}
use Rattle.rbd_site.specs.Maps.{watchers_in}
use Rattle.rbd_site.proofs.WatchLemmas.{watchers_put, watchers_same}
use Rattle.rbd_site.proofs.watch.watch.Goals as goal

pub returns-clause-ok : goal.returns-clause-ok
returns-clause-ok c =
    on_ok_weaker c.watch.result
    (λ is. watchers_put c.args.watchers.now (c.get_mut.follows.lender c.watch.new.self) c.args.image (Some c.watch.new.self)
    (registered c.args.instance (watchers_in c.args.watchers.now c.args.image))
    (((c.get_mut.follows.holds c.watch.new.self).3 (search rules)).0)
    (is ∙ ap (λ (o : Option (List Instance)). registered c.args.instance (unwrap_or o [])) c.in-Some.ensures.value))
    c.watch.ensures.ok

pub returns-clause-err : goal.returns-clause-err
returns-clause-err c =
    on_err_weaker c.watch.result
    (λ is. watchers_same c.args.watchers.now (c.get_mut.follows.lender c.watch.new.self) c.args.image (Some c.watch.new.self)
    (((c.get_mut.follows.holds c.watch.new.self).3 (search rules)).0)
    (is ∙ ap (λ (o : Option (List Instance)). unwrap_or o []) c.in-Some.ensures.value))
    c.watch.ensures.err
