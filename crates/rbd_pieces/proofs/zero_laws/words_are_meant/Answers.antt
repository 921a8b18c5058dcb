use Rattle.rbd_pieces.proofs.AllBytes.{whole_is_all}
use Rattle.rbd_pieces.proofs.Ends.{is_cut}
use Rattle.rbd_pieces.proofs.zero_laws.words_are_meant.Goals as goal

pub returns-clause-whole : goal.returns-clause-whole
returns-clause-whole c = whole_is_all

pub returns-clause-cut : goal.returns-clause-cut
returns-clause-cut c = is_cut
