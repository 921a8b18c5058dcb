use Rattle.rbd_world.proofs.Stored.{expired_in_a, expired_in_b}
use Rattle.std.proofs.lemmas.Result.{on_ok_weaker}
use Rattle.rbd_world.proofs.trim.expire.Goals as goal

pub returns-in-A-clause-sites : goal.returns-in-A-clause-sites
returns-in-A-clause-sites c = on_ok_weaker c.expire_at.result (expired_in_a c.args.site c.in-A.is c.args.sites.now c.expire_at.new.at c.args.session c.args.image) c.expire_at.ensures.done

pub returns-in-B-clause-sites : goal.returns-in-B-clause-sites
returns-in-B-clause-sites c = on_ok_weaker c.expire_at-in-B.result (expired_in_b c.args.site c.in-B.is c.args.sites.now c.expire_at-in-B.new.at c.args.session c.args.image) c.expire_at-in-B.ensures.done
