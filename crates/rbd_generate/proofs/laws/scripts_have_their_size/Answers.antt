use Rattle.std.proofs.lemmas.List.FromFn.{length-map-range_with_len}
use Rattle.rbd_generate.specs.Generated.{client_of}
use Rattle.rbd_generate.proofs.SizeLemmas.{commands_counted, images_counted}
use Rattle.rbd_generate.proofs.laws.scripts_have_their_size.Goals as goal

pub returns-clause-clients : goal.returns-clause-clients
returns-clause-clients c = λ load. length-map-range_with_len client_of 1 load.clients

pub returns-clause-images : goal.returns-clause-images
returns-clause-images c = images_counted

pub returns-clause-commands : goal.returns-clause-commands
returns-clause-commands c = commands_counted
