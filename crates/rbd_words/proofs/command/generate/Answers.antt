use Rattle.std.proofs.Common.{Some, ap, ap₂, codes, false, ◌≡◌, ◌∙◌}
use Rattle.std.specs.Prelude.{◌||◌}
use Rattle.std.proofs.lemmas.Result.{IfOk-weaker}
use Rattle.clap.specs.Simple.{with_rule}
use Rattle.clap.specs.Walk.{Rule, rule_of}
use Rattle.clap.specs.declared.builder.arg.Arg.{Arg}
use Rattle.rbd_words.specs.Command.{valued}
use Rattle.rbd_words.proofs.command.generate.Goals as goal

module _ (c : goal.After-arg-3) where
  seed_is : rule_of c.long-seed.result ≡ valued (codes "seed")
  seed_is = ap rule_of c.long-seed.ensures ∙ ap (λ (r : Rule). record r { long = Some (codes "seed") }) c.new.ensures.rule

  clients_is : rule_of c.long-clients.result ≡ valued (codes "clients")
  clients_is = ap rule_of c.long-clients.ensures ∙ ap (λ (r : Rule). record r { long = Some (codes "clients") }) c.new-2.ensures.rule

  commands_is : rule_of c.long-commands.result ≡ valued (codes "commands")
  commands_is = ap rule_of c.long-commands.ensures ∙ ap (λ (r : Rule). record r { long = Some (codes "commands") }) c.new-3.ensures.rule

  seed_not : c.long-seed.result.global ≡ false
  seed_not = ap (λ (a : Arg). a.global) c.long-seed.ensures ∙ c.new.ensures.optional.1

  clients_not : c.long-clients.result.global ≡ false
  clients_not = ap (λ (a : Arg). a.global) c.long-clients.ensures ∙ c.new-2.ensures.optional.1

  commands_not : c.long-commands.result.global ≡ false
  commands_not = ap (λ (a : Arg). a.global) c.long-commands.ensures ∙ c.new-3.ensures.optional.1

pub returns-clause-app : goal.returns-clause-app
returns-clause-app c =
    let one = c.in_ok-arg.ensures.shape (seed_not c) ∙ ap₂ with_rule c.new-4.ensures.app (seed_is c) in
    let two = c.in_ok-arg-2.ensures.shape (clients_not c) ∙ ap₂ with_rule one (clients_is c) in
    IfOk-weaker c.arg-3.result _ _ (λ r added. added.shape (commands_not c) ∙ ap₂ with_rule two (commands_is c)) c.arg-3.ensures

pub returns-clause-local : goal.returns-clause-local
returns-clause-local c =
    let one = c.in_ok-arg.ensures.globals ∙ ap₂ (λ a b. a || b) c.new-4.ensures.local (seed_not c) in
    let two = c.in_ok-arg-2.ensures.globals ∙ ap₂ (λ a b. a || b) one (clients_not c) in
    IfOk-weaker c.arg-3.result _ _ (λ r added. added.globals ∙ ap₂ (λ a b. a || b) two (commands_not c)) c.arg-3.ensures
