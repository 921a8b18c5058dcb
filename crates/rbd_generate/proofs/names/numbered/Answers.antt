use Rattle.std.proofs.Common.{[], ◌∷◌, ◌++◌, sym, ap, ◌∙◌, subst, arith}
use Rattle.rbd_values.specs.Name.{IsAskedName}
use Rattle.rbd_generate.proofs.NameLemmas.{numbered_name}
use Rattle.rbd_generate.proofs.names.numbered.Goals as goal

pub unwrap-requires : goal.unwrap-requires
unwrap-requires c =
    let text =
    c.from_vec.ensures
    ∙ c.in_ok-extend_from_slice.ensures.items
    ∙ ap (λ xs. xs ++ c.as_bytes.result.now) (c.in_ok-push.ensures.items ∙ ap (λ xs. xs ++ c.args.letter ∷ []) c.new-text.ensures.items)
    ∙ ap (λ digits. c.args.letter ∷ digits) (c.as_bytes.ensures.value ∙ c.format.ensures.text) in
    c.parse.ensures.valid.1 (subst IsAskedName (sym text) (numbered_name c.args.letter c.args.number c.requires.first c.requires.last (omega (arith, c.ranges.number.fits))))
