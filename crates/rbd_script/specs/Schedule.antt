-- The forms of a schedule's lines.
use Rattle.std.specs.Prelude.{ℕ, List, [], ◌∷◌, Result}
use Rattle.rbd_script.specs.declared.fault.LineCause.{LineCause}
use Rattle.rbd_script.specs.declared.script.Declared.{Declared}
use Rattle.rbd_script.specs.declared.script.Said.{Said}
use Rattle.rbd_script.specs.declared.script.Said.TheVariants as said
use Rattle.rbd_script.specs.declared.schedule.ScheduleVerb.{ScheduleVerb}
use Rattle.rbd_script.specs.declared.schedule.ScheduleVerb.TheVariants as schedule
use Rattle.rbd_script.specs.Form.{and_then, form}
use Rattle.rbd_script.specs.Number.{greatest}
use Rattle.rbd_script.specs.Part.{part_of}
use Rattle.rbd_script.specs.Part.Part.{Kind, Number, Session, Site, ScheduleWord, Times}

abbrev pub schedule_form : List Declared → ScheduleVerb → List (List ℕ) → Result Said LineCause
schedule_form sessions schedule.Poll = form (Session sessions ∷ Number 64 ∷ Times ∷ []) said.Poll
schedule_form sessions schedule.Until = form (Session sessions ∷ Number 64 ∷ Kind ∷ []) said.Until
schedule_form sessions schedule.Settle = form (Number greatest ∷ []) said.Settle
schedule_form sessions schedule.Deliver = form (Number greatest ∷ []) said.Deliver
schedule_form sessions schedule.Lose = form (Number greatest ∷ []) said.Lose
schedule_form sessions schedule.Expire = form (Session sessions ∷ Site ∷ Number 4294967295 ∷ []) said.Expire
schedule_form sessions schedule.Stop = form (Session sessions ∷ []) said.Stop
schedule_form sessions schedule.Restart = form (Session sessions ∷ []) said.Restart
schedule_form sessions schedule.Late = form (Session sessions ∷ Number 64 ∷ []) said.Late
schedule_form sessions schedule.Trim = form (Site ∷ Number 4294967295 ∷ Number greatest ∷ []) said.Trim

unfoldable pub schedule_of : List Declared → List (List ℕ) → Result Said LineCause
schedule_of sessions tokens = and_then (part_of ScheduleWord tokens) (schedule_form sessions)
