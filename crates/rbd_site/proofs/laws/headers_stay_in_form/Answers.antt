use Rattle.rbd_site.proofs.FormLemmas.{form_after, form_at_first, form_expired}
use Rattle.rbd_site.proofs.TrimLemmas.{form_trimmed}
use Rattle.rbd_site.proofs.laws.headers_stay_in_form.Goals as goal

pub returns-clause-first : goal.returns-clause-first
returns-clause-first c = form_at_first

pub returns-clause-operation : goal.returns-clause-operation
returns-clause-operation c = form_after

pub returns-clause-trim : goal.returns-clause-trim
returns-clause-trim c = λ r image number most held. form_trimmed image number r most held

pub returns-clause-expiry : goal.returns-clause-expiry
returns-clause-expiry c = form_expired
