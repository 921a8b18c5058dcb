-- A script has one run.
use Rattle.std.proofs.Common.{sym, ap}
use Rattle.rbd_machine.specs.Plan.{Standing}
use Rattle.rbd_script.specs.declared.script.Script.{Script}
use Rattle.rbd_world.specs.World.{WorldView, site_in}
use Rattle.rbd_schedule.specs.Playing.{IsPlay, homes_of}
use Rattle.rbd_plays.specs.OneRun.{IsSameRun}
use Rattle.rbd_plays.specs.Twins.{AreTwins}
use Rattle.rbd_plays.proofs.NewTwins.{new_worlds_are_twins}
use Rattle.rbd_plays.proofs.ReadAlike.{due_alike, held_alike, kind_alike, mail_length_alike, run_alike, starts_alike}
use Rattle.rbd_plays.proofs.ScheduleLooks.{LooksAlike}
use Rattle.rbd_plays.proofs.ScheduleTwins.{played_alike}
use Rattle.rbd_plays.proofs.TwinSteps.{step_alike}

module _ {R : Type 0} (stands : R → Standing) where
  look_alike : (v w : WorldView R) → AreTwins stands v w → LooksAlike stands v w
  look_alike v w twins = record {
    starts = λ given session. sym (starts_alike stands v w twins given session);
    kinds = λ session slot. sym (kind_alike stands v w twins session slot);
    held = λ session slot. sym (held_alike stands v w twins session slot);
    running = λ session. sym (run_alike stands v w twins session);
    due = λ lost session number. sym (due_alike stands v w twins lost session number);
    mail = sym (mail_length_alike stands v w twins);
  }

  -- the worlds in which a script begins
  begin_alike : (script : Script) (v w : WorldView R) (one : IsPlay stands script v) (other : IsPlay stands script w) → AreTwins stands one.first other.first
  begin_alike script v w one other = new_worlds_are_twins stands (homes_of script.sessions) one.first other.first one.new other.new one.homes other.homes

  -- and those to which it leads
  end_alike : (script : Script) (v w : WorldView R) → IsPlay stands script v → IsPlay stands script w → AreTwins stands v w
  end_alike script v w one other =
      played_alike stands (AreTwins stands) look_alike (step_alike stands) script one.first other.first v w (begin_alike script v w one other) one.plays other.plays

  pub one_run : (script : Script) (v w : WorldView R) → IsPlay stands script v → IsPlay stands script w → IsSameRun v w
  one_run script v w one other =
      let same = end_alike script v w one other in
      record {
        calls = sym same.calls;
        history = sym same.history;
        logs = λ s. ap (λ sites. (site_in s sites).log) (sym same.sites);
        mail = ap (λ sites. sites.mail) (sym same.sites);
      }
