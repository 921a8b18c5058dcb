use Rattle.std.proofs.Common.{Bool, not, ap, ◌∙◌, rules}
use Rattle.std.proofs.lemmas.Fn.{filter_same}
use Rattle.rbd_kinds.specs.declared.id.Instance.{Instance}
use Rattle.rbd_kinds.specs.Instances.{same_instance}
use Rattle.rbd_watch.specs.Watching.{without}
use Rattle.rbd_watch.proofs.watchers.all_but.Goals as goal

pub returns : goal.returns
returns c =
    let sender = c.args.sender.now in
    let others : Instance → Bool = λ w. not (same_instance sender w) in
    filter_same _ others _ (λ x b f' h. search rules) c.in_ok-others.others.items c.retain.new.self.items c.retain.ensures.filtered
    ∙ ap (without sender) c.in_ok-others.ensures.items
