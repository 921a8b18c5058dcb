use Rattle.std.proofs.Common.{sym}
use Rattle.rbd_site.proofs.store.Store.answer_served.Goals as goal

pub returns-in-Data : goal.returns-in-Data
returns-in-Data c = rw c.in-Data.is (rw (sym c.deref.ensures) c.answer-in-Data.ensures)

pub returns-in-Map : goal.returns-in-Map
returns-in-Map c = rw c.in-Map.is c.answer_on_map.ensures
