use Rattle.std.proofs.Common.{◌∙◌, [], ◌∷◌, ◌++◌, sym, ap, subst}
use Rattle.rbd_queue.specs.Line.{new_member}
use Rattle.rbd_slots.specs.Lines.{AreUsed, CanOpen, IsEmptyLine, IsUsed, LinesView}
use Rattle.rbd_slots.proofs.Tables.{opened, some_joined, used_put}
use Rattle.rbd_slots.proofs.lines.Lines.join.Goals as goal

pub returns : goal.returns
returns c =
    let opens = subst CanOpen (sym c.self.view_is) c.requires.open in
    let empty = subst IsEmptyLine (sym c.take.ensures.value ∙ c.unwrap-line.ensures) opens.0 in
    record {
      lines = λ key.
          rw (← c.self.view_is)
          (rw (← c.key-key.ensures)
          (opened c.self.inside.lines c.join_in.new.lines c.add.new.lines c.key-key.result c.join.new.self (new_member c.args.slot c.args.sharing) c.add.ensures
          (c.join_in.ensures.none c.if-join_in.false) (c.join_in.ensures.absent c.if-join_in.false)
          (c.join.ensures.members ∙ ap (λ members. members ++ new_member c.args.slot c.args.sharing ∷ []) empty) key));
      used = λ were.
          used_put c.join_in.new.lines.entries c.add.new.lines.entries c.key-key.result c.join.new.self c.add.ensures
          (some_joined _ c.join.new.self.members (new_member c.args.slot c.args.sharing) c.join.ensures.members)
          (λ k. subst IsUsed (sym (c.join_in.ensures.none c.if-join_in.false k)) (subst (λ (v : LinesView). AreUsed v.entries) (sym c.self.view_is) were k));
    }
