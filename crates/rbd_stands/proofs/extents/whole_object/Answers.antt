use Rattle.std.proofs.Common.{◌≡◌, ◌≤◌, ◌<◌, ◌++◌, ◌∙◌, min, arith}
use Rattle.rbd_kinds.specs.Striping.{byte_at}
use Rattle.rbd_layout.proofs.Bounds.{few_bytes}
use Rattle.rbd_stands.specs.Kept.{extents_between}
use Rattle.rbd_stands.proofs.ExtentLemmas.{whole_places}
use Rattle.rbd_stands.proofs.extents.whole_object.Goals as goal

pub held_below-requires-clause-size : goal.held_below-requires-clause-size
held_below-requires-clause-size c =
    let few : c.args.header.now.size ≤ 35184372088832 = few_bytes c.args.header.now.layout c.requires.form.layout c.args.header.now.size c.requires.form.objects in
    omega arith

pub push_between-requires-clause-within : goal.push_between-requires-clause-within
push_between-requires-clause-within c = λ offset less.
    let few : c.args.header.now.size ≤ 35184372088832 = few_bytes c.args.header.now.layout c.requires.form.layout c.args.header.now.size c.requires.form.objects in
    let below : byte_at c.args.header.now.layout c.args.object offset < c.args.header.now.size = (c.held_below.ensures.each offset).0 (omega arith) in
    omega arith

pub returns : goal.returns
returns c =
    let h = c.args.header.now in
    let end : c.min-end.result ≡ min c.held_below.result h.layout.object = c.min-end.ensures in
    c.in_ok-push_between.ensures
    ∙ (λ i. c.in_ok-found.ensures i ++ extents_between h.layout c.args.object 0 (end i))
    ∙ whole_places h.layout c.requires.form.layout h.size c.args.object c.held_below.result c.held_below.ensures
