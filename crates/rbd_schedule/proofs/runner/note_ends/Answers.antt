use Rattle.std.proofs.Common.{◌≡◌, ℕ, ◌||◌, Bool, true, false, take, refl, sym, ap, ◌∙◌}
use Rattle.std.proofs.lemmas.List.{take_all}
use Rattle.std.proofs.lemmas.List.Folds.{list_any_more}
use Rattle.std.proofs.Math.Bool.{or-false}
use Rattle.rbd_kinds.proofs.Plain.{eqb_flip}
use Rattle.rbd_flat.specs.declared.entry.Entry.{Entry}
use Rattle.rbd_flat.specs.declared.entry.Entry.TheVariants as entry
use Rattle.rbd_schedule.specs.Playing.{line_ended_by, has_line, is_one_of}
use Rattle.rbd_schedule.specs.Starts.{is_end_of, is_ended}
use Rattle.rbd_schedule.proofs.runner.note_ends.Goals as goal

ends_it : (line : ℕ) (e : Entry) → is_one_of line (line_ended_by e) ≡ is_end_of line e
ends_it line (entry.Reply other reply) = eqb_flip other line
ends_it line (entry.Lost other) = eqb_flip other line
ends_it line _ = refl

or_more : (a b c : Bool) → ((a || b) || c) ≡ (a || (b || c))
or_more true b c = refl
or_more false b c = refl

pub loop-entry-init : goal.loop-entry-init
loop-entry-init c = λ line. sym (or-false (has_line line c.args.over.now))

pub loop-entry-preserved : goal.loop-entry-preserved
loop-entry-preserved c = λ line.
    c.in_ok-note_end.ensures line
    ∙ ap (λ b. b || is_one_of line (line_ended_by c.entry-item.result)) (c.loop-entry.invariant line)
    ∙ or_more (has_line line c.args.over.now) (is_ended line (take c.loop-entry.entry-index c.args.entries.now)) (is_one_of line (line_ended_by c.entry-item.result))
    ∙ ap (λ b. has_line line c.args.over.now || (is_ended line (take c.loop-entry.entry-index c.args.entries.now) || b)) (ends_it line c.entry-item.result ∙ ap (is_end_of line) c.entry-item.is)
    ∙ ap (λ b. has_line line c.args.over.now || b) (sym (list_any_more (is_end_of line) c.args.entries.now c.loop-entry.entry-index c.entry-item.result c.loop-entry-test.true))

pub returns : goal.returns
returns c = λ line. c.loop-entry.invariant line ∙ ap (λ es. has_line line c.args.over.now || is_ended line es) (take_all c.loop-entry.entry-index c.args.entries.now c.loop-entry-test.false)
