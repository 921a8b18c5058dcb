use Rattle.std.proofs.Common.{◌≡◌, ◌+◌, subst, sym, rules}
use Rattle.rbd_journal.specs.Records.{IsSoundJournal, JournalRecords, appended}
use Rattle.rbd_journal.proofs.Sound.{sound_appended}
use Rattle.rbd_journal.proofs.journal.Journal.append.Goals as goal

pub invariant_of-self-2 : goal.invariant_of-self-2
invariant_of-self-2 c =
    let j : JournalRecords = record { spans = c.self.inside.spans.items; end = c.self.inside.end; held = c.self.inside.held.items; local = c.self.inside.local; mirror = c.self.inside.mirror; drawn = c.self.inside.drawn } in
    let new : JournalRecords = record { spans = c.extend.new.spans.items; end = c.args.position.seq; held = c.push_back.new.self.items; local = c.self.inside.local; mirror = c.self.inside.mirror; drawn = c.self.inside.drawn } in
    let next : c.args.position.seq ≡ j.end + 1 = search rules in
    let is_that : new ≡ appended c.args.position c.args.frame.now j = search rules in
    (subst IsSoundJournal (sym is_that) (sound_appended j c.args.position c.args.frame.now c.self.invariant.0 next), tt)
