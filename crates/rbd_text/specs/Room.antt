-- What a text shows beside the usual length of its lines.
use Rattle.std.specs.Prelude.{ℕ, ◌*◌, List, length, sum_by}
use Rattle.rbd_flat.specs.declared.entry.Entry.{Entry}
use Rattle.rbd_flat.specs.declared.entry.Entry.TheVariants as entry
use Rattle.rbd_kinds.specs.declared.reply.Reply.{Reply}
use Rattle.rbd_kinds.specs.declared.reply.Reply.TheVariants as reply

-- in bytes: two digits for each byte of a read, and 16 for each name of a list
abbrev pub shown_by_reply : Reply → ℕ
shown_by_reply (reply.Bytes bytes) = 2 * length bytes
shown_by_reply (reply.Names names) = 16 * length names
shown_by_reply r = 0

abbrev pub shown_by : Entry → ℕ
shown_by (entry.Reply line r) = shown_by_reply r
shown_by e = 0

-- by all replies of a history
abbrev pub all_shown : List Entry → ℕ
all_shown history = sum_by shown_by history
