use Rattle.rbd_site.proofs.LogLemmas.{sound_at_first}
use Rattle.rbd_site.proofs.site.Site.new.Goals as goal

pub invariant_of-result : goal.invariant_of-result
invariant_of-result c = sound_at_first _ _ c.new.ensures c.new-2.ensures.items
