use Rattle.rbd_data.proofs.DiscardsLawful.{lawful_request}
use Rattle.rbd_data.proofs.discard_laws.discards_are_lawful.Goals as goal

pub returns : goal.returns
returns c = lawful_request
