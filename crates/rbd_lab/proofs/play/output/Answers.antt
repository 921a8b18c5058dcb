use Rattle.std.proofs.Common.{◌≡◌}
use Rattle.std.proofs.lemmas.Result.{IfOk-weaker}
use Rattle.rbd_replies.proofs.HeadersShown.{world_in_form}
use Rattle.rbd_world.specs.Seen.{seen}
use Rattle.rbd_lab.specs.Output.{TellsAWorld, text_of}
use Rattle.rbd_lab.proofs.Shown.{history_shown}
use Rattle.rbd_lab.proofs.Played.{played}
use Rattle.rbd_lab.proofs.play.output.Goals as goal

pub tell_world-text-requires : goal.tell_world-text-requires
tell_world-text-requires c = history_shown (seen c.in_ok-world.world).history (world_in_form (seen c.in_ok-world.world) c.in_ok-world.ensures.play.told)

pub returns : goal.returns
returns c =
    IfOk-weaker c.tell_world-text.result
    (λ text. text.items ≡ text_of c.args.mode c.args.script.now (seen c.in_ok-world.world))
    (λ text. TellsAWorld c.args.mode c.args.script.now text.items)
    (λ text is. record {
      world = seen c.in_ok-world.world;
      played = played c.args.script.now (seen c.in_ok-world.world) c.requires.playable c.requires.in_order c.in_ok-world.ensures.play c.in_ok-world.ensures.calmed c.in_ok-world.ensures.few;
      tells = is;
    })
    c.tell_world-text.ensures
