use Rattle.std.proofs.Common.{Some, Option, unwrap_or, sym, ap, ◌∙◌}
use Rattle.rbd_kinds.specs.declared.header.HeaderView.{HeaderView}
use Rattle.rbd_site.specs.Maps.{header_in}
use Rattle.rbd_site.proofs.OneChange.{header_put, none_from_test}
use Rattle.rbd_site.proofs.header.create.Goals as goal

pub returns-clause-ok : goal.returns-clause-ok
returns-clause-ok c = λ i.
    header_put c.args.headers.now c.insert.new.self c.args.image (Some c.in_ok-make.field-0)
    (Some (unwrap_or (header_in c.args.headers.now c.args.image) c.args.view.now))
    c.in_ok-insert.ensures.updates.0
    (ap Some (c.in_ok-make.ensures ∙ c.in_ok-try_clone.ensures)
    ∙ ap (λ (o : Option HeaderView). Some (unwrap_or o c.args.view.now))
    (sym (none_from_test (header_in c.args.headers.now c.args.image) (sym c.contains_key.ensures ∙ c.if-contains_key.false))))
    i
