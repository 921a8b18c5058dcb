-- What may be asked of the generator.
use Rattle.std.specs.Prelude.{◌≤◌}
use Rattle.rbd_words.specs.declared.load.Load.{Load}

-- 1 to 16 clients, with at most 10,000 commands each, and any seed of 32 bits
pub record IsLoad (load : Load) : Type 0 where
  pub seed : load.seed ≤ 4294967295
  pub some : 1 ≤ load.clients
  pub few : load.clients ≤ 16
  pub commands : load.commands ≤ 10000
