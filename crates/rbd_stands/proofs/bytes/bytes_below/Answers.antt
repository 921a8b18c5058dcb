use Rattle.std.proofs.Common.{◌≡◌, ◌≤◌, arith, sym, ap, ◌∙◌}
use Rattle.std.proofs.lemmas.Result.{IfOk-weaker}
use Rattle.rbd_layout.proofs.Bounds.{few_bytes}
use Rattle.rbd_stands.specs.Effect.{bytes_below}
use Rattle.rbd_stands.specs.Kept.{bytes_kept}
use Rattle.rbd_stands.proofs.ByteLemmas.{kept_below}
use Rattle.rbd_stands.proofs.bytes.bytes_below.Goals as goal

pub held_below-held-requires-clause-size : goal.held_below-held-requires-clause-size
held_below-held-requires-clause-size c =
    let few : c.args.header.now.size ≤ 35184372088832 = few_bytes c.args.header.now.layout c.requires.form.layout c.args.header.now.size c.requires.form.objects in
    omega arith

pub returns-then-keeps_all : goal.returns-then-keeps_all
returns-then-keeps_all c =
    let h = c.args.header.now in
    let held = c.held_below-held.result in
    let kept = kept_below h.layout h.size c.args.object held c.held_below-held.ensures c.args.parts.now c.args.bytes.now in
    let all : bytes_kept held c.args.parts.now c.args.bytes.now ≡ c.args.bytes.now = rw c.as_slice.ensures at (c.keeps_all.ensures c.if-keeps_all.true) in
    IfOk-weaker c.try_clone.result (λ copy. copy ≡ c.args.bytes.now) (λ copy. copy ≡ bytes_below h.layout h.size c.args.object c.args.parts.now c.args.bytes.now)
    (λ copy same. same ∙ sym all ∙ kept) c.try_clone.ensures

pub returns : goal.returns
returns c =
    let h = c.args.header.now in
    let held = c.held_below-held.result in
    let kept = kept_below h.layout h.size c.args.object held c.held_below-held.ensures c.args.parts.now c.args.bytes.now in
    IfOk-weaker c.gather.result (λ copy. copy ≡ bytes_kept held c.args.parts.now c.as_slice-2.result.now) (λ copy. copy ≡ bytes_below h.layout h.size c.args.object c.args.parts.now c.args.bytes.now)
    (λ copy same. same ∙ ap (bytes_kept held c.args.parts.now) c.as_slice-2.ensures ∙ kept) c.gather.ensures
