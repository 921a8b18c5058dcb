use Rattle.std.proofs.Common.{◌≤◌, ◌∙◌, sym, rules}
use Rattle.rbd_object.proofs.SoundLemmas.{due_snaps_past}
use Rattle.rbd_object.proofs.paged.due.Goals as goal

pub returns-then-le : goal.returns-then-le
returns-then-le c =
    let past : c.args.context.now.seq ≤ c.args.seq = search rules in
    c.new.ensures.items ∙ sym (due_snaps_past c.args.context.now c.args.seq past)
