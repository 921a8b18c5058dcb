use Rattle.rbd_world.proofs.Stored.{expired_here}
use Rattle.rbd_world.proofs.trim.expire_at.Goals as goal

pub returns-then-branch-clause-done : goal.returns-then-branch-clause-done
returns-then-branch-clause-done c =
    expired_here c.args.site c.args.at.now c.expire.new.self c.args.session c.args.image c.in_ok-expire.ensures.ok c.in_ok-expire.ensures.records

pub returns-clause-done : goal.returns-clause-done
returns-clause-done c =
    expired_here c.args.site c.args.at.now c.expire.new.self c.args.session c.args.image c.in_ok-expire.ensures.ok c.in_ok-expire.ensures.records
