use Rattle.std.proofs.Common.{Some, ap, ap₂, codes, false, ◌≡◌, ◌∙◌}
use Rattle.std.specs.Prelude.{◌||◌}
use Rattle.std.proofs.lemmas.Result.{IfOk-weaker}
use Rattle.clap.specs.Simple.{with_rule}
use Rattle.clap.specs.Walk.{Rule, rule_of}
use Rattle.clap.specs.declared.builder.action.ArgAction.TheVariants.{SetTrue}
use Rattle.clap.specs.declared.builder.arg.Arg.{Arg}
use Rattle.rbd_words.specs.Command.{flag_rule}
use Rattle.rbd_words.proofs.command.run.Goals as goal

module _ (c : goal.After-arg) where
  not_global : c.action-trace.result.global ≡ false
  not_global = ap (λ (a : Arg). a.global) (c.action-trace.ensures) ∙ ap (λ (a : Arg). a.global) c.long.ensures ∙ c.new.ensures.optional.1

  trace_is : rule_of c.action-trace.result ≡ flag_rule (codes "trace")
  trace_is =
      ap rule_of c.action-trace.ensures ∙ ap (λ (a : Arg). rule_of (record a { action = Some SetTrue })) c.long.ensures
      ∙ ap (λ (r : Rule). record r { long = Some (codes "trace"); action = Some SetTrue }) c.new.ensures.rule

pub returns-clause-app : goal.returns-clause-app
returns-clause-app c = IfOk-weaker c.arg.result _ _ (λ r added. added.shape (not_global c) ∙ ap₂ with_rule c.new-2.ensures.app (trace_is c)) c.arg.ensures

pub returns-clause-local : goal.returns-clause-local
returns-clause-local c = IfOk-weaker c.arg.result _ _ (λ r added. added.globals ∙ ap₂ (λ a b. a || b) c.new-2.ensures.local (not_global c)) c.arg.ensures
