-- A journal as a value, and what each call makes of it. Positions are sequence numbers, from 1 on.
use Rattle.std.specs.Prelude.{◌≡◌, ℕ, ◌+◌, ◌-◌, ◌^◌, ◌≤◌, Bool, false, ◌&&◌, ◌==◌, nat_le, min, max, if◌then◌else◌, List, [], ◌∷◌, ◌++◌, length, drop, Option, Some, None, IfSome, option_map, unwrap_or, slice_get}
use Rattle.rbd_kinds.specs.declared.journal.JournalClient.{JournalClient}
use Rattle.rbd_kinds.specs.declared.journal.JournalClient.TheVariants.{Local, Mirror}
use Rattle.rbd_kinds.specs.declared.journal.JournalView.{JournalView}
use Rattle.rbd_kinds.specs.declared.journal.Position.{Position}
use Rattle.rbd_kinds.specs.declared.journal.Span.{Span}
use Rattle.rbd_kinds.specs.declared.journal.Tag.{Tag}
use Rattle.rbd_kinds.specs.Images.{same_site}
use Rattle.rbd_kinds.specs.Spans.{RunFrom, end_after}

-- a frame that is held, and the tag of its position
pub record Held : Type 0 where
  pub tag : Tag
  pub frame : List ℕ

-- The frames that are held are the last ones: the last of them stands at the end.
pub record JournalRecords : Type 0 where
  pub spans : List Span
  pub end : ℕ
  pub held : List Held
  pub local : ℕ
  pub mirror : Option ℕ
  pub drawn : ℕ

-- a journal that begins on these spans: they are recorded and committed, and no frame is held
abbrev pub based_on : List Span → JournalRecords
based_on spans = record {
  spans = spans;
  end = end_after 0 spans;
  held = [];
  local = end_after 0 spans;
  mirror = None;
  drawn = 0;
}

abbrev pub same_tag : Tag → Tag → Bool
same_tag a b = same_site a.site b.site && (a.image == b.image) && (a.no == b.no)

-- whether the newest span bears a tag
abbrev pub bears_from : Tag → Span → List Span → Bool
bears_from tag s [] = same_tag s.tag tag
bears_from tag s (t ∷ spans) = bears_from tag t spans

abbrev pub newest_bears : Tag → List Span → Bool
newest_bears tag [] = false
newest_bears tag (s ∷ spans) = bears_from tag s spans

abbrev pub span_at : Position → Span
span_at p = record { tag = p.tag; first = p.seq; last = p.seq }

-- The newest span goes on where the tag is the same. Else a span begins.
abbrev pub extended_from : Position → Span → List Span → List Span
extended_from p s [] = if same_tag s.tag p.tag then record s { last = p.seq } ∷ [] else s ∷ span_at p ∷ []
extended_from p s (t ∷ spans) = s ∷ extended_from p t spans

abbrev pub extended : Position → List Span → List Span
extended p [] = span_at p ∷ []
extended p (s ∷ spans) = extended_from p s spans

abbrev pub appended : Position → (frame : List ℕ) → JournalRecords → JournalRecords
appended p frame j = record j {
  spans = extended p j.spans;
  end = p.seq;
  held = j.held ++ record { tag = p.tag; frame = frame } ∷ [];
}

-- the least number that is held, or one more than the end
abbrev pub first_held : JournalRecords → ℕ
first_held j = j.end + 1 - length j.held

abbrev pub positioned : (seq : ℕ) → Held → Position × List ℕ
positioned seq h = (record { tag = h.tag; seq = seq }, h.frame)

-- the frame that is held with a number, and its position
abbrev pub frame_at : JournalRecords → (seq : ℕ) → Option (Position × List ℕ)
frame_at j seq =
    if nat_le (first_held j) seq then option_map (positioned seq) (slice_get j.held (seq - first_held j)) else None

-- what a journal tells of itself. No number is above u64::MAX
abbrev pub journal_view : JournalRecords → JournalView
journal_view j = record {
  spans = j.spans;
  first = min (first_held j) (2 ^ 64 - 1);
  local = j.local;
  mirror = j.mirror;
  drawn = j.drawn;
}

abbrev pub mirror_registered : JournalRecords → JournalRecords
mirror_registered j = record j { mirror = Some (unwrap_or j.mirror 0) }

-- A commit never goes back.
abbrev pub committed : JournalClient → (seq : ℕ) → JournalRecords → JournalRecords
committed Local seq j = record j { local = max j.local seq }
committed Mirror seq j = record j { mirror = Some (max (unwrap_or j.mirror 0) seq) }

-- what every client has committed
abbrev pub least_commit : JournalRecords → ℕ
least_commit j = min j.local (unwrap_or j.mirror j.local)

abbrev pub frames_trimmed : JournalRecords → JournalRecords
frames_trimmed j = record j { held = drop (least_commit j + 1 - first_held j) j.held }

abbrev pub tag_drawn : JournalRecords → JournalRecords
tag_drawn j = record j { drawn = j.drawn + 1 }

-- whether a number is one of a span's
abbrev pub has : Span → (seq : ℕ) → Bool
has s seq = nat_le s.first seq && nat_le seq s.last

-- the tag of the span that has a number
abbrev pub tag_of : List Span → (seq : ℕ) → Option Tag
tag_of [] seq = None
tag_of (s ∷ spans) seq = if has s seq then Some s.tag else tag_of spans seq

-- What holds of a journal at every moment. What Local hasn't committed is held, and each held frame
-- has the tag of the span that has its number.
pub record IsSoundJournal (j : JournalRecords) : Type 0 where
  pub run : RunFrom 1 j.spans
  pub end : j.end ≡ end_after 0 j.spans
  pub held : length j.held ≤ j.end
  pub local : j.local ≤ j.end
  pub mirror : IfSome j.mirror (λ seq. seq ≤ j.end)
  pub uncommitted : j.end ≤ j.local + length j.held
  pub tags : (seq : ℕ) → IfSome (frame_at j seq) (λ x. tag_of j.spans seq ≡ Some x.0.tag)
