use Rattle.std.proofs.Common.{◌≡◌, ◌+◌, ◌≤◌, length}
use Rattle.rbd_script.specs.Reading.{no_script, with_lines}
use Rattle.rbd_script.specs.Token.{text_lines, without_last}
use Rattle.rbd_script.proofs.reader.whole_lines.Given as goal

-- what is read of the rest behind the script so far is what is read of the whole
abbrev pub invariant-loop-line : goal.invariant-loop-line
invariant-loop-line l = record {
  all : with_lines l.threads 1 no_script (text_lines l.text) ≡ with_lines l.threads l.number l.script (text_lines l.rest);
  whole : with_lines l.threads 1 no_script (without_last (text_lines l.text)) ≡ with_lines l.threads l.number l.script (without_last (text_lines l.rest));
  number : length (without_last (text_lines l.text)) + 1 ≡ l.number + length (without_last (text_lines l.rest));
  lines : l.number + length l.rest ≤ length l.text + 1;
  few : length l.script.sessions ≤ 32;
}

abbrev pub decreases-loop-line : goal.decreases-loop-line
decreases-loop-line l = length l.rest
