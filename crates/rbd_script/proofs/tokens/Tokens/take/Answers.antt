use Rattle.std.proofs.Common.{◌≡◌, ◌<◌, ◌∷◌, length, drop, take, ap, sym, ◌∙◌, arith}
use Rattle.std.proofs.lemmas.Grind.{common_steps}
use Rattle.rbd_script.specs.Token.{tokens_of}
use Rattle.rbd_script.proofs.TokenLemmas.{nothing_left, first_token}
use Rattle.rbd_script.proofs.tokens.Tokens.take.Goals as goal

pub returns-then-is_empty-clause-token : goal.returns-then-is_empty-clause-token
returns-then-is_empty-clause-token c =
    let none : length c.split_at.result.1.now ≡ 0 = grind (arith, common_steps) in
    nothing_left c.args.self.now.rest.now c.split_at.result.1.now (sym (c.split_at.ensures.back ∙ ap (λ n. drop n c.args.self.now.rest.now) c.blanks.ensures.place)) none

pub returns-clause-token : goal.returns-clause-token
returns-clause-token c =
    let some : 0 < length c.split_at.result.1.now = grind (arith, common_steps) in
    first_token c.args.self.now.rest.now c.split_at.result.1.now (sym (c.split_at.ensures.back ∙ ap (λ n. drop n c.args.self.now.rest.now) c.blanks.ensures.place)) some
    ∙ sym (ap (λ n. take n c.split_at.result.1.now ∷ tokens_of (drop n c.split_at.result.1.now)) c.place_of.ensures.place)
    ∙ (λ i. sym c.split_at-2.ensures.front i ∷ tokens_of (sym c.split_at-2.ensures.back i))
