use Rattle.rbd_schedule.proofs.Sorted.{one_more_mark}
use Rattle.rbd_schedule.proofs.heard.Heard.add.Goals as goal

pub returns : goal.returns
returns c = λ other.
    one_more_mark c.args.self.now.marks.items c.make_place.new.marks.items c.args.number other c.in_ok-make_place.ensures.place c.in_ok-make_place.ensures.marks
