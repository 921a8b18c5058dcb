-- What a site's log says of locks and of fenced instances.
use Rattle.std.specs.Prelude.{List}
use Rattle.rbd_site.specs.Log.{AreAnswered}
use Rattle.rbd_site.specs.Records.{no_records}
use Rattle.rbd_site.specs.declared.done.Done.{Done}
use Rattle.rbd_stands.specs.Owned.{AreOwned}

-- From no records on, each line was answered by the records that the lines before it left; each
-- change of an image that has a header is by the owner of its lock, and a lock is broken only where
-- its owner is fenced.
pub record IsOwnedLog (log : List Done) : Type 0 where
  pub answered : AreAnswered no_records log
  pub owned : AreOwned no_records log
