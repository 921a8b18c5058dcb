use Rattle.std.proofs.Common.{◌≡◌, sym, ap, ◌∙◌, subst}
use Rattle.std.proofs.lemmas.Result.{IfOk-weaker}
use Rattle.rbd_kinds.specs.declared.id.SiteId.TheVariants.{A}
use Rattle.rbd_text.specs.Text.{AreShown}
use Rattle.rbd_world.specs.World.{site_in}
use Rattle.rbd_world.specs.Seen.{seen}
use Rattle.rbd_lab.specs.Output.{text_of, told_text}
use Rattle.rbd_lab.proofs.play.tell_world.Goals as goal

pub tell-requires : goal.tell-requires
tell-requires c = subst AreShown (sym c.history.ensures) c.requires

pub returns : goal.returns
returns c =
    IfOk-weaker c.tell.result
    (λ text. text.items ≡ told_text c.args.mode c.args.script.now c.history.result.now c.operations-a.result.now c.operations-b.result.now)
    (λ text. text.items ≡ text_of c.args.mode c.args.script.now (seen c.args.world.now))
    (λ text is.
    is
    ∙ ap (λ h. told_text c.args.mode c.args.script.now h c.operations-a.result.now c.operations-b.result.now) c.history.ensures
    ∙ ap (λ log. told_text c.args.mode c.args.script.now (seen c.args.world.now).history log c.operations-b.result.now) c.operations-a.ensures
    ∙ ap (told_text c.args.mode c.args.script.now (seen c.args.world.now).history (site_in A (seen c.args.world.now).sites).log) c.operations-b.ensures)
    c.tell.ensures
