-- What answers are called.
use Rattle.std.specs.Prelude.{ℕ, List, codes}
use Rattle.rbd_kinds.specs.declared.answer.Answer.{Answer}
use Rattle.rbd_kinds.specs.declared.answer.Answer.TheVariants as answer

abbrev pub answer_word : Answer → List ℕ
answer_word answer.Done = codes "done"
answer_word (answer.Id image) = codes "id"
answer_word answer.Absent = codes "none"
answer_word answer.Exists = codes "exists"
answer_word answer.Full = codes "full"
answer_word (answer.Names names) = codes "names"
answer_word (answer.Ids ids) = codes "ids"
answer_word (answer.Instances instances) = codes "instances"
answer_word (answer.Header view) = codes "header"
answer_word (answer.Snap snap) = codes "snap"
answer_word (answer.Held owner) = codes "held"
answer_word answer.Changed = codes "changed"
answer_word (answer.Bytes bytes) = codes "bytes"
answer_word (answer.Bits bits) = codes "bits"
answer_word (answer.Tag tag) = codes "tag"
answer_word (answer.Frame position frame) = codes "frame"
answer_word (answer.Spans view) = codes "spans"
answer_word answer.Fenced = codes "fenced"
