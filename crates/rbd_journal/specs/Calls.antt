-- The calls that change a journal, and the tags that they draw.
use Rattle.std.specs.Prelude.{ℕ, ◌+◌, List, [], ◌∷◌}
use Rattle.rbd_kinds.specs.declared.id.SiteId.{SiteId}
use Rattle.rbd_kinds.specs.declared.journal.JournalClient.{JournalClient}
use Rattle.rbd_kinds.specs.declared.journal.Position.{Position}
use Rattle.rbd_kinds.specs.declared.journal.Tag.{Tag}
use Rattle.rbd_journal.specs.Records.{JournalRecords, appended, committed, mirror_registered, tag_drawn, frames_trimmed}

pub data Call : Type 0 where
  Append : Position → (frame : List ℕ) → Call
  Commit : JournalClient → (seq : ℕ) → Call
  Register : Call
  Trim : Call
  Draw : SiteId → (image : ℕ) → Call

-- the journal after a call
abbrev pub called : Call → JournalRecords → JournalRecords
called (Append p frame) j = appended p frame j
called (Commit client seq) j = committed client seq j
called Register j = mirror_registered j
called Trim j = frames_trimmed j
called (Draw site image) j = tag_drawn j

-- the tag that a journal draws next
abbrev pub next_tag : SiteId → (image : ℕ) → JournalRecords → Tag
next_tag site image j = record { site = site; image = image; no = j.drawn + 1 }

-- the tags that calls draw, one after another
abbrev pub tags_drawn : List Call → JournalRecords → List Tag
tags_drawn [] j = []
tags_drawn (Draw site image ∷ calls) j = next_tag site image j ∷ tags_drawn calls (tag_drawn j)
tags_drawn (call ∷ calls) j = tags_drawn calls (called call j)
