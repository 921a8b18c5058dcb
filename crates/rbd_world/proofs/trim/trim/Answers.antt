use Rattle.rbd_world.proofs.Stored.{trimmed_in_a, trimmed_in_b}
use Rattle.std.proofs.lemmas.Result.{on_ok_weaker}
use Rattle.rbd_world.proofs.trim.trim.Goals as goal

pub returns-in-A-clause-sites : goal.returns-in-A-clause-sites
returns-in-A-clause-sites c = on_ok_weaker c.trim_at.result (trimmed_in_a c.args.site c.in-A.is c.args.sites.now c.trim_at.new.at c.args.image c.args.object) c.trim_at.ensures.done

pub returns-in-B-clause-sites : goal.returns-in-B-clause-sites
returns-in-B-clause-sites c = on_ok_weaker c.trim_at-in-B.result (trimmed_in_b c.args.site c.in-B.is c.args.sites.now c.trim_at-in-B.new.at c.args.image c.args.object) c.trim_at-in-B.ensures.done
