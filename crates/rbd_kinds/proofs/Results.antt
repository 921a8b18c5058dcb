-- What holds of results and replies, whatever they are.
use Rattle.std.proofs.Common.{◌≡◌}
use Rattle.std.specs.Prelude.{Result, Ok, Err, OnErr}
use Rattle.rbd_commands.specs.declared.refusal.Refusal.{Refusal}
use Rattle.rbd_kinds.specs.declared.reply.Reply.TheVariants as reply

-- what holds in any case holds on an error
pub on_err_always : {T E P : Type 0} (r : Result T E) → P → OnErr r P
on_err_always (Ok x) p = tt
on_err_always (Err e) p = p

-- one reply is refused in one way
pub same_refusal : (x y : Refusal) → reply.Refused x ≡ reply.Refused y → y ≡ x
same_refusal x y is = cc
