use Rattle.std.proofs.Common.{◌∙◌, nat_eq, sym}
use Rattle.std.specs.HashMap.{get}
use Rattle.rbd_slots.proofs.Tables.{forgotten, held_used, no_members, not_held, some_members, used_gone, used_itself}
use Rattle.rbd_slots.proofs.lines.forget_empty.Goals as goal

pub forget-requires : goal.forget-requires
forget-requires c = no_members _ (sym c.is_empty_in.ensures ∙ c.if-is_empty_in.true)

pub returns-then-is_empty_in-clause-members : goal.returns-then-is_empty_in-clause-members
returns-then-is_empty_in-clause-members c =
    forgotten c.args.lines.now c.forget.new.lines c.args.key c.forget.ensures.lines (sym c.is_empty_in.ensures ∙ c.if-is_empty_in.true)

pub returns-then-is_empty_in-clause-gone : goal.returns-then-is_empty_in-clause-gone
returns-then-is_empty_in-clause-gone c = λ none. not_held c.args.lines.now c.forget.new.lines c.args.key c.forget.ensures.lines

pub returns-else-is_empty_in-clause-gone : goal.returns-else-is_empty_in-clause-gone
returns-else-is_empty_in-clause-gone c = λ none. absurd (some_members _ (sym c.is_empty_in.ensures ∙ c.if-is_empty_in.false) none)

pub returns-then-is_empty_in-clause-used : goal.returns-then-is_empty_in-clause-used
returns-then-is_empty_in-clause-used c = used_gone c.args.lines.now.entries c.forget.new.lines.entries c.args.key c.forget.ensures.lines

pub returns-else-is_empty_in-clause-used : goal.returns-else-is_empty_in-clause-used
returns-else-is_empty_in-clause-used c =
    used_itself c.args.lines.now.entries c.args.key (held_used (get nat_eq c.args.lines.now c.args.key) (some_members _ (sym c.is_empty_in.ensures ∙ c.if-is_empty_in.false)))
