use Rattle.std.proofs.Common.{ap, ap₂, true, ◌≡◌, ◌∙◌}
use Rattle.std.proofs.lemmas.Result.{IfOk-weaker}
use Rattle.clap.specs.Simple.{App, app_of, app_of_fields, on_top, with_subcommand}
use Rattle.rbd_words.specs.Command.{lab_alone, run_command}
use Rattle.rbd_words.proofs.command.lab.Goals as goal

pub returns : goal.returns
returns c =
    let bare = ap app_of_fields c.no_binary_name.ensures ∙ ap (on_top (λ s. record s { no_binary_name = true })) c.new.ensures.app in
    let no_flag = ap app_of_fields c.disable_help_flag.ensures ∙ ap (on_top (λ s. record s { disable_help_flag = true })) bare in
    let alone : app_of c.disable_help_subcommand.result ≡ lab_alone = ap app_of_fields c.disable_help_subcommand.ensures ∙ ap (on_top (λ s. record s { disable_help_subcommand = true })) no_flag in
    let first : app_of c.in_ok-subcommand.field-0 ≡ with_subcommand lab_alone run_command.top =
    c.in_ok-subcommand.ensures.shape c.in_ok-run.ensures.local ∙ ap₂ with_subcommand alone (ap (λ (a : App). a.top) c.in_ok-run.ensures.app) in
    IfOk-weaker c.subcommand-2.result _ _ (λ r added. added.shape c.in_ok-generate.ensures.local ∙ ap₂ with_subcommand first (ap (λ (a : App). a.top) c.in_ok-generate.ensures.app)) c.subcommand-2.ensures
