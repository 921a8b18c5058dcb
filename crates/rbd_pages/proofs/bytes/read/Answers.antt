use Rattle.rbd_pages.specs.Sheaves.{pages_in}
use Rattle.std.proofs.Common.{◌+◌, ◌∙◌, ◌≤◌, length, refl, rules, arith}
use Rattle.rbd_pages.proofs.PagingLemmas.{read_more, length-read_more, length-slot}
use Rattle.rbd_pages.proofs.bytes.read.Goals as goal

pub loop-done-init : goal.loop-done-init
loop-done-init c = record { same = refl; up_to = omega arith; bytes = λ j none. absurd (let f : ⊥ = omega arith in f) }

pub overflow_add-page : goal.overflow_add-page
overflow_add-page c = search rules

pub overflow_add-offset : goal.overflow_add-offset
overflow_add-offset c = search rules

pub loop-done-preserved : goal.loop-done-preserved
loop-done-preserved c =
    let was = c.loop-done.invariant in
    let up_to = was.up_to in
    let few : c.loop-done.done + c.min-count.result ≤ length c.loop-done.into = omega arith in
    let n = length-slot c.loop-done.done c.min-count.result c.loop-done.into few in
    let long = length-read_more c.loop-done.done c.min-count.result _ c.loop-done.into c.read_page.new.into _ _ few n c.read_page.ensures in
    record {
      same = long ∙ was.same;
      up_to = omega arith;
      bytes = λ j below.
          read_more c.args.arena.now (pages_in c.args.sheaves.now c.args.list.now) c.args.at c.loop-done.done c.min-count.result _ c.loop-done.into c.read_page.new.into j
          few (omega arith) n c.read_page.ensures was.bytes below;
    }
