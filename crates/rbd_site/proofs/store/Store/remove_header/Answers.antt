use Rattle.std.proofs.Common.{None, sym, ap, ◌∙◌}
use Rattle.std.specs.Prelude.{List}
use Rattle.std.proofs.Math.Path.{fun_ext}
use Rattle.rbd_kinds.specs.declared.header_op.HeaderOp.TheVariants.{Remove}
use Rattle.rbd_kinds.specs.declared.id.Instance.{Instance}
use Rattle.rbd_site.specs.HeaderStep.{header_after}
use Rattle.rbd_site.specs.Maps.{kept}
use Rattle.rbd_site.specs.Records.{put}
use Rattle.rbd_site.proofs.HeaderLemmas.{after_remove}
use Rattle.rbd_site.proofs.OneChange.{header_put}
use Rattle.rbd_site.proofs.WatchLemmas.{removed_watched}
use Rattle.rbd_site.proofs.store.Store.remove_header.Goals as goal

pub returns : goal.returns
returns c = λ me.
    let r = kept c.args.self.now in
    let image = c.args.image in
    let headers = fun_ext (header_put c.args.self.now.headers c.remove.new.self image None (header_after me (r.headers image) Remove) c.remove.ensures.updates.0 (sym (after_remove me (r.headers image)))) in
    let watchers = fun_ext (λ i. c.forget.ensures.watchers i
    ∙ ap (λ (w : List Instance). put r.watchers image w i) (sym (removed_watched me (r.headers image) (r.watchers image) (sym c.contains_key.ensures ∙ c.if-not-contains_key.false)))) in
    (λ j. record r { headers = headers j; watchers = watchers j })
