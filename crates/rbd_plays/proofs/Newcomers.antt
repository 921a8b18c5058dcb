-- A command's request at its beginning: nobody can tell one from another.
use Rattle.std.proofs.Common.{◌≡◌, ℕ, true, Option, Some, None, sym, ap, ◌∙◌, subst}
use Rattle.rbd_commands.specs.declared.command.Command.{Command}
use Rattle.rbd_commands.specs.declared.refusal.Refusal.{Refusal}
use Rattle.rbd_kinds.specs.declared.reply.Reply.TheVariants as reply
use Rattle.rbd_machine.specs.Plan.{Plan, Return, Standing, IsAsking}
use Rattle.rbd_machine.specs.declared.seat.Seat.{Seat}
use Rattle.rbd_catalog.proofs.Plans.{has_plan, one_plan}
use Rattle.rbd_catalog.specs.Plans.{IsPlanFor, is_built}
use Rattle.rbd_catalog.specs.Profile.{changed_extent}
use Rattle.rbd_slots.specs.Session.{BeginsAt, IsAlikeIn, IsNewcomer}
use Rattle.rbd_slots.specs.declared.running.Occupant.{Occupant}
use Rattle.rbd_slots.specs.declared.running.Occupant.TheVariants as occupant
use Rattle.rbd_slots.specs.declared.running.Running.{Running}

-- why a plan that has ended refuses
abbrev refusal_of : Refusal → Plan → Refusal
refusal_of other (Return (reply.Refused r)) = r
refusal_of other plan = other

module _ {R : Type 0} (stands : R → Standing) (seat : Seat) (line : ℕ) (c : Command) where
  abbrev Begins : Option (Occupant R) → Type 0
  Begins o = IsNewcomer stands IsPlanFor changed_extent seat line c o

  run_alike : (r q : Running R) → BeginsAt stands IsPlanFor changed_extent seat line c r → BeginsAt stands IsPlanFor changed_extent seat line c q → IsAlikeIn stands (Some (occupant.Running r)) (Some (occupant.Running q))
  run_alike r q begins also = record {
    same = one_plan seat c (stands q.request) (stands r.request) also.stands_there begins.stands_there;
    line = also.is_line ∙ sym begins.is_line;
    extent = also.extent ∙ sym begins.extent;
    place = also.place ∙ sym begins.place;
    turn = also.turn ∙ sym begins.turn;
  }

  -- who stands at an operation isn't refused
  runs_or_not : (r : Running R) (n : ℕ) (x : Refusal) → BeginsAt stands IsPlanFor changed_extent seat line c r → Begins (Some (occupant.Refused n x)) → ⊥
  runs_or_not r n x begins refuses = subst IsAsking (refuses.1 (stands r.request) begins.stands_there) begins.asks

  -- the command has a plan, so that it says why it is refused
  refused_alike : is_built c ≡ true → (n m : ℕ) (x y : Refusal) → Begins (Some (occupant.Refused n x)) → Begins (Some (occupant.Refused m y))
      → IsAlikeIn stands (Some (occupant.Refused n x)) (Some (occupant.Refused m y))
  refused_alike built n m x y is also =
      let one = has_plan seat c built in
      let same : y ≡ x = ap (refusal_of x) (sym (also.1 one.standing one.is) ∙ is.1 one.standing one.is) in
      ap (λ k. Some (occupant.Refused k y)) (also.0 ∙ sym is.0) ∙ ap (λ z. Some (occupant.Refused n z)) same

  pub newcomers_alike : is_built c ≡ true → (o n : Option (Occupant R)) → Begins o → Begins n → IsAlikeIn stands o n
  newcomers_alike built (Some (occupant.Running r)) (Some (occupant.Running q)) is also = run_alike r q is also
  newcomers_alike built (Some (occupant.Running r)) (Some (occupant.Refused m y)) is also = absurd (runs_or_not r m y is also)
  newcomers_alike built (Some (occupant.Running r)) None is also = absurd also
  newcomers_alike built (Some (occupant.Refused n x)) (Some (occupant.Running q)) is also = absurd (runs_or_not q n x also is)
  newcomers_alike built (Some (occupant.Refused n x)) (Some (occupant.Refused m y)) is also = refused_alike built n m x y is also
  newcomers_alike built (Some (occupant.Refused n x)) None is also = absurd also
  newcomers_alike built None n is also = absurd is
