-- What is done where its object is there, and only then.
use Rattle.std.specs.Prelude.{Bool, if◌then◌else◌}
use Rattle.rbd_kinds.specs.declared.answer.Answer.{Answer}
use Rattle.rbd_kinds.specs.declared.answer.Answer.TheVariants as answer

abbrev pub done_where : Bool → Answer
done_where there = if there then answer.Done else answer.Absent
