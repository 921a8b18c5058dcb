-- Who is found in a line is a member of it.
use Rattle.std.proofs.Common.{◌≡◌, false, ℕ, List, Some, None, sym, ap, ◌∙◌, subst}
use Rattle.std.specs.Option.{is_some}
use Rattle.rbd_queue.specs.Line.{Member, member_of, is_member}
use Rattle.rbd_queue.proofs.Keeping.{is_found}
use Rattle.rbd_queue.proofs.Passing.{found_at}

pub not_found : (slot : ℕ) (members : List Member) → member_of slot members ≡ None → is_member slot members ≡ false
not_found slot members none = sym (is_found slot members) ∙ ap is_some none

-- a member is found at its own slot
pub at_own_slot : (slot : ℕ) (members : List Member) (m : Member) → member_of slot members ≡ Some m → member_of m.slot members ≡ Some m
at_own_slot slot members m is = subst (λ s. member_of s members ≡ Some m) (sym (found_at members slot m is)) is
