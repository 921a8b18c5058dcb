use Rattle.std.proofs.Common.{◌≡◌, sym, ap, ◌∙◌, subst}
use Rattle.std.proofs.lemmas.Result.{IfOk-weaker}
use Rattle.rbd_client.specs.Seen.{as_is}
use Rattle.rbd_generate.specs.Generated.{script_of}
use Rattle.rbd_generate.specs.Summary.{summary_text}
use Rattle.rbd_schedule.specs.Ends.{HasCalmed}
use Rattle.rbd_schedule.specs.Playing.{IsPlay, IsPlayable}
use Rattle.rbd_machine.specs.Plan.{Standing}
use Rattle.rbd_world.specs.Seen.{seen}
use Rattle.rbd_world.specs.World.{WorldView}
use Rattle.rbd_lab.specs.Output.{IsSummed}
use Rattle.rbd_lab.proofs.Generated.{generated_in_order, generated_playable}
use Rattle.rbd_lab.proofs.Played.{played}
use Rattle.rbd_lab.proofs.Summed.{counts_add_up}
use Rattle.rbd_lab.proofs.play.summed.Goals as goal

pub play-requires : goal.play-requires
play-requires c = subst IsPlayable (sym c.in_ok-script.ensures) (generated_playable c.args.load.now c.requires)

pub returns : goal.returns
returns c =
    let load = c.args.load.now in
    let world : WorldView Standing = seen c.in_ok-world.world in
    let play = subst (λ script. IsPlay as_is script world) c.in_ok-script.ensures c.in_ok-world.ensures.play in
    let calmed = subst (λ script. HasCalmed as_is script world) c.in_ok-script.ensures c.in_ok-world.ensures.calmed in
    IfOk-weaker c.sum_up-text.result
    (λ text. text.items ≡ summary_text c.in_ok-script.script world.history)
    (λ text. IsSummed load text.items)
    (λ text is. record {
      world = world;
      played = played (script_of load) world (generated_playable load c.requires) (generated_in_order load) play calmed c.in_ok-world.ensures.few;
      adds_up = counts_add_up (script_of load) world (generated_in_order load) play;
      tells = is ∙ ap (λ script. summary_text script world.history) c.in_ok-script.ensures;
    })
    c.sum_up-text.ensures
