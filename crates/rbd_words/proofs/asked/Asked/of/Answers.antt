use Rattle.std.proofs.Common.{ap, codes, false, map, sym, subst, true, true≢false, ◌≡◌, ◌∙◌}
use Rattle.std.specs.String.{string_bytes}
use Rattle.clap.specs.Faults.{fault_of, is_simple_and_free}
use Rattle.clap.specs.Kinds.{HasKind}
use Rattle.clap.specs.Simple.{app_of, is_simple, subcommand_of}
use Rattle.rbd_script.specs.Token.{is}
use Rattle.rbd_words.specs.Command.{has_end}
use Rattle.rbd_words.proofs.Commands.{is_free_command, is_simple_command}
use Rattle.rbd_words.proofs.Ends.{any_of_map, end_none}
use Rattle.rbd_words.proofs.Matched.{refused_none}
use Rattle.rbd_words.proofs.asked.Asked.of.Goals as goal

pub returns-then-has_end-clause-asked : goal.returns-then-has_end-clause-asked
returns-then-has_end-clause-asked c =
    let words = map (λ w. string_bytes w) c.args.words.now in
    sym (end_none words (sym (any_of_map (is (codes "--")) (λ w. string_bytes w) c.args.words.now) ∙ sym c.has_end.ensures ∙ c.if-has_end.true))

pub returns-in-Ok-clause-asked : goal.returns-in-Ok-clause-asked
returns-in-Ok-clause-asked c =
    let words = map (λ w. string_bytes w) c.args.words.now in
    let built = c.in_ok-lab.ensures in
    let simple : is_simple (app_of c.in_ok-lab.field-0) ≡ true = ap is_simple built ∙ is_simple_command in
    let free : is_simple_and_free (app_of c.in_ok-lab.field-0) ≡ true = ap is_simple_and_free built ∙ is_free_command in
    c.asked.ensures.asked words (record {
      open_end = sym (any_of_map (is (codes "--")) (λ w. string_bytes w) c.args.words.now) ∙ sym c.has_end.ensures ∙ c.if-has_end.false;
      passes = sym (ap (λ a. fault_of a words) built) ∙ c.in-Ok.ensures.kinds free;
      rows = (c.in-Ok.ensures.matches simple).1 ∙ ap (λ a. subcommand_of a words) built;
    })

pub returns-else-eq-clause-asked : goal.returns-else-eq-clause-asked
returns-else-eq-clause-asked c =
    let words = map (λ w. string_bytes w) c.args.words.now in
    let built = c.in_ok-lab.ensures in
    let free : is_simple_and_free (app_of c.in_ok-lab.field-0) ≡ true = ap is_simple_and_free built ∙ is_free_command in
    let open_end : has_end words ≡ false = sym (any_of_map (is (codes "--")) (λ w. string_bytes w) c.args.words.now) ∙ sym c.has_end.ensures ∙ c.if-has_end.false in
    sym (refused_none words c.in-Err.error open_end (subst (λ a. HasKind (fault_of a words) c.in-Err.error) built (c.in-Err.ensures.kinds free))
    (λ memory. let bad : false ≡ true = rw (c.kind.ensures ∙ memory) at (c.if-eq.ensures) in absurd (true≢false (sym bad))))
