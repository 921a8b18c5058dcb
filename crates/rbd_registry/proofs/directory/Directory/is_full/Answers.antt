use Rattle.std.proofs.Common.{arith}
use Rattle.rbd_registry.proofs.Listings.{full_by_len, full_by_drawn}
use Rattle.rbd_registry.proofs.directory.Directory.is_full.Goals as goal

pub returns-then-len-ge-MOST_NAMES : goal.returns-then-len-ge-MOST_NAMES
returns-then-len-ge-MOST_NAMES c = full_by_len c.self.inside.names.entries c.self.inside.drawn c.args.self.now c.len.ensures.ordered c.self.view_is (omega (arith, c.len.ensures.len))

pub returns : goal.returns
returns c = full_by_drawn c.self.inside.names.entries c.self.inside.drawn c.args.self.now c.len.ensures.ordered c.self.view_is (omega (arith, c.len.ensures.len))
