use Rattle.std.proofs.Common.{◌∙◌, ◌-◌, ◌≡◌, true, false, ap, refl, sym, length, arith}
use Rattle.std.proofs.lemmas.Option.{slice_get_read}
use Rattle.rbd_journal.specs.Records.{newest_bears}
use Rattle.rbd_journal.proofs.Newest.{goes_on, begins, some_span}
use Rattle.rbd_journal.proofs.span.extend.Goals as goal

pub returns-then-newest_bears-clause-ok : goal.returns-then-newest_bears-clause-ok
returns-then-newest_bears-clause-ok c =
    let p = c.args.position in
    let spans = c.args.spans.now.items in
    let bears : newest_bears p.tag spans ≡ true = sym (c.newest_bears.ensures ∙ ap (newest_bears p.tag) c.as_slice.ensures.value) ∙ c.if-newest_bears.true in
    let some = some_span p.tag spans bears in
    let len : c.len-newest.result ≡ length spans = c.len-newest.ensures ∙ sym c.as_slice.ensures.len ∙ ap length c.as_slice.ensures.value in
    sym (goes_on p spans (c.len-newest.result - 1) c.index_mut.result.now bears (ap (λ n. n - 1) len)
    (slice_get_read spans (length spans) (c.len-newest.result - 1) c.index_mut.result.now refl (omega (arith, some, len)) c.index_mut.ensures.value))

pub returns-in_ok-push-clause-ok : goal.returns-in_ok-push-clause-ok
returns-in_ok-push-clause-ok c =
    let p = c.args.position in
    let spans = c.args.spans.now.items in
    let other : newest_bears p.tag spans ≡ false = sym (c.newest_bears.ensures ∙ ap (newest_bears p.tag) c.as_slice.ensures.value) ∙ c.if-newest_bears.false in
    c.in_ok-push.ensures.items ∙ sym (begins p spans other)
