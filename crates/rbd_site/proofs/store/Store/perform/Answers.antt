use Rattle.std.proofs.Common.{sym, ap, ◌∙◌}
use Rattle.rbd_site.specs.Records.{Records}
use Rattle.rbd_site.proofs.store.Store.perform.Goals as goal

pub serve-requires-clause-generation : goal.serve-requires-clause-generation
serve-requires-clause-generation c = λ image h there.
    c.requires.generation image h (sym (ap (λ (r : Records). r.headers image) c.share.ensures) ∙ there)
