use Rattle.std.proofs.Common.{◌≡◌, ℕ, IfSome, take, ◌∙◌, ap, sym, subst, arith, vec_len, length-take, length, ◌≤◌, ◌+◌}
use Rattle.rbd_edge.specs.Source.{left_after}
use Rattle.rbd_edge.proofs.Told.{told_more, left_after-twice, further_on, any_err}
use Rattle.rbd_edge.proofs.read.read_to.Goals as goal

pub loop-bytes-preserved : goal.loop-bytes-preserved
loop-bytes-preserved g c =
    let first = g.S.Source.left c.args.source.now in
    let k = vec_len c.loop-bytes.bytes in
    let n = c.in_ok-append_some.field-0 in
    let len = c.in_ok-append_some.ensures.len in
    let so_far = c.loop-bytes.invariant in
    record {
      few = omega (arith, len, simp length-take at c.in_ok-append_some.ensures.bound);
      room = so_far.room;
      told =
          let P : ℕ → Type 0 = λ m. IfSome first (λ left. c.append_some.new.bytes.items ≡ take m left) in
          subst P (sym len) (told_more k n c.loop-bytes.bytes.items c.append_some.new.bytes.items first _ so_far.told so_far.rest c.in_ok-append_some.ensures.bytes);
      rest =
          let P : ℕ → Type 0 = λ m. g.S.Source.left c.append_some.new.source ≡ left_after m first in
          subst P (sym len) (c.in_ok-append_some.ensures.rest ∙ ap (left_after n) so_far.rest ∙ left_after-twice k n first);
      quiet = c.in_ok-append_some.ensures.quiet ∙ so_far.quiet;
    }

pub returns-in_err-append_some-clause-further : goal.returns-in_err-append_some-clause-further
returns-in_err-append_some-clause-further g c =
    let room = length (take c.min-room.result c.deref_mut.result.now) in
    let k = vec_len c.loop-bytes.bytes in
    let below : k + room ≤ c.args.limit = simp length-take (omega arith) in
    any_err c.from_residual-in_err-append_some.result
    (further_on k room c.args.limit _ _ _ below c.loop-bytes.invariant.rest c.in_err-append_some.ensures.further)
