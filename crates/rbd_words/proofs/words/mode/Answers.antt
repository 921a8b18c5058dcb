use Rattle.std.proofs.Common.{codes, sym, ◌∙◌, true≢false}
use Rattle.clap.proofs.WalkLemmas.{one_text-rows}
use Rattle.clap.specs.Matches.{found_of}
use Rattle.rbd_words.proofs.words.mode.Goals as goal

pub returns-then-get_flag-clause-replies : goal.returns-then-get_flag-clause-replies
returns-then-get_flag-clause-replies c = λ is. absurd (true≢false (sym c.if-get_flag.true ∙ c.get_flag.ensures.other (one_text-rows (found_of c.args.matches.now) (codes "trace") ∙ is)))

pub returns-else-get_flag-clause-trace : goal.returns-else-get_flag-clause-trace
returns-else-get_flag-clause-trace c = λ is. absurd (true≢false (sym (c.get_flag.ensures.value (one_text-rows (found_of c.args.matches.now) (codes "trace") ∙ is)) ∙ c.if-get_flag.false))
