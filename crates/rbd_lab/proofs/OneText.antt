-- A script has one text, since it has one run.
use Rattle.std.proofs.Common.{◌≡◌, ℕ, List, sym, ap, ◌∙◌}
use Rattle.rbd_client.specs.Seen.{as_is}
use Rattle.rbd_machine.specs.Plan.{Standing}
use Rattle.rbd_kinds.specs.declared.id.SiteId.TheVariants.{A, B}
use Rattle.rbd_script.specs.declared.script.Script.{Script}
use Rattle.rbd_words.specs.declared.asked.Mode.{Mode}
use Rattle.rbd_words.specs.declared.load.Load.{Load}
use Rattle.rbd_world.specs.World.{WorldView, site_in}
use Rattle.rbd_generate.specs.Generated.{script_of}
use Rattle.rbd_generate.specs.Summary.{summary_text}
use Rattle.rbd_plays.specs.OneRun.{IsSameRun}
use Rattle.rbd_plays.proofs.ScheduleRun.{one_run}
use Rattle.rbd_lab.specs.Output.{IsPlayed, IsSummed, TellsAWorld, text_of, told_text}

same_run : (script : Script) (v w : WorldView Standing) → IsPlayed script v → IsPlayed script w → IsSameRun v w
same_run script v w one other = one_run as_is script v w one.play other.play

same_text : (mode : Mode) (script : Script) (v w : WorldView Standing) → IsSameRun v w → text_of mode script v ≡ text_of mode script w
same_text mode script v w same =
    ap (λ history. told_text mode script history (site_in A v.sites).log (site_in B v.sites).log) same.history
    ∙ ap (λ log. told_text mode script w.history log (site_in B v.sites).log) (same.logs A)
    ∙ ap (λ log. told_text mode script w.history (site_in A w.sites).log log) (same.logs B)

pub told_once : (mode : Mode) (script : Script) (one other : List ℕ) → TellsAWorld mode script one → TellsAWorld mode script other → one ≡ other
told_once mode script one other told again =
    told.tells ∙ same_text mode script told.world again.world (same_run script told.world again.world told.played again.played) ∙ sym again.tells

pub summed_once : (load : Load) (one other : List ℕ) → IsSummed load one → IsSummed load other → one ≡ other
summed_once load one other summed again =
    summed.tells
    ∙ ap (summary_text (script_of load)) (same_run (script_of load) summed.world again.world summed.played again.played).history
    ∙ sym again.tells
