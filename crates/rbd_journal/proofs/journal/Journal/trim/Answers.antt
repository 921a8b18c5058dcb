use Rattle.std.proofs.Common.{◌≡◌, subst, sym, rules}
use Rattle.rbd_journal.specs.Records.{IsSoundJournal, JournalRecords, frames_trimmed}
use Rattle.rbd_journal.proofs.Sound.{sound_trimmed}
use Rattle.rbd_journal.proofs.journal.Journal.trim.Goals as goal

pub invariant_of-self : goal.invariant_of-self
invariant_of-self c =
    let j : JournalRecords = record { spans = c.self.inside.spans.items; end = c.self.inside.end; held = c.self.inside.held.items; local = c.self.inside.local; mirror = c.self.inside.mirror; drawn = c.self.inside.drawn } in
    let is_that : record j { held = c.drop_front.new.entries.items } ≡ frames_trimmed j = search rules in
    (subst IsSoundJournal (sym is_that) (sound_trimmed j c.self.invariant.0), c.self.invariant.1)
