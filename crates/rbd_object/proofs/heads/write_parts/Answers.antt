use Rattle.rbd_object.proofs.EachLemmas.{sole_within}
use Rattle.rbd_object.proofs.heads.write_parts.Goals as goal

pub write-requires-clause-within : goal.write-requires-clause-within
write-requires-clause-within c =
    sole_within c.args.parts.now _ c.args.bytes.now c.in-len1.len_at_least c.in-len1.len_below c.requires.within c.requires.long
