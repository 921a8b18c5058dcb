-- What a client counts of the lock of one image, and what changes it.
use Rattle.std.specs.Prelude.{Bool, true, false, if◌then◌else◌}
use Rattle.rbd_kinds.specs.declared.answer.Answer.{Answer}
use Rattle.rbd_kinds.specs.declared.answer.Answer.TheVariants as answer
use Rattle.rbd_kinds.specs.declared.header_op.HeaderOp.{HeaderOp}
use Rattle.rbd_kinds.specs.declared.header_op.HeaderOp.TheVariants as header
use Rattle.rbd_kinds.specs.declared.notice.NoticeKind.{NoticeKind}
use Rattle.rbd_kinds.specs.declared.notice.NoticeKind.TheVariants as notice
use Rattle.rbd_lock.specs.declared.lock_state.LockState.{LockState}

-- the state of an image of which nothing is known
abbrev pub blank_state : LockState
blank_state = record { owned = false; watched = false; asked = false; quiesced = false }

abbrev pub with_watch : Bool → LockState → LockState
with_watch watched s = record { owned = s.owned; watched = watched; asked = s.asked; quiesced = s.quiesced }

-- the state after the lock ended: it isn't the client's own, nobody has asked for it, and the
-- image isn't quiesced
abbrev pub let_go : LockState → LockState
let_go s = record { owned = false; watched = s.watched; asked = false; quiesced = false }

-- The state after an operation of the client on the header was answered. The lock is its own from
-- a take that is done up to the answer of a drop, whatever that answer is, or up to the removal of
-- the header, with which the lock goes. After any of these nobody has asked for the lock. A watch
-- lasts up to the answer of an unwatch.
abbrev pub answered : HeaderOp → Answer → LockState → LockState
answered header.LockTake answer.Done s =
    record { owned = true; watched = s.watched; asked = false; quiesced = s.quiesced }
answered header.LockDrop a s = let_go s
answered header.Remove answer.Done s = let_go s
answered header.Watch answer.Done s = with_watch true s
answered header.Unwatch a s = with_watch false s
answered o a s = s

-- whether an operation may change anything of the state
abbrev pub may_change_lock : HeaderOp → Bool
may_change_lock header.LockTake = true
may_change_lock header.LockDrop = true
may_change_lock header.Remove = true
may_change_lock header.Watch = true
may_change_lock header.Unwatch = true
may_change_lock o = false

-- The state after a notice was heard. A wish for a lock that isn't the client's is passed over,
-- for good.
abbrev pub told_state : NoticeKind → LockState → LockState
told_state notice.RequestLock s =
    record { owned = s.owned; watched = s.watched; asked = if s.owned then true else s.asked; quiesced = s.quiesced }
told_state k s = s

-- the state after the look under the lock of a `quiesce` found a header
abbrev pub quieted : LockState → LockState
quieted s = record { owned = s.owned; watched = s.watched; asked = s.asked; quiesced = true }

-- the state after the `dir-find` of a `resume` was answered
abbrev pub resumed : LockState → LockState
resumed s = record { owned = s.owned; watched = s.watched; asked = s.asked; quiesced = false }
