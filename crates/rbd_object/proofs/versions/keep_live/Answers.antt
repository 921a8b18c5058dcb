use Rattle.std.proofs.Common.{rules}
use Rattle.rbd_object.proofs.VersionLemmas.{retained_live}
use Rattle.rbd_object.proofs.versions.keep_live.Goals as goal

pub returns : goal.returns
returns c =
    retained_live _ c.args.live.now _ (λ v stays g w call. (search rules, search rules, search rules)) _ _ c.retain_mut.ensures.filtered
