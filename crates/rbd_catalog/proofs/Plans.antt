-- Who has a plan is served, and has one.
use Rattle.std.proofs.Common.{◌≡◌, refl, sym, ◌∙◌, ap, true, false, Bool, cond, Option, Some, None, is_some}
use Rattle.rbd_commands.specs.declared.command.Command.{Command}
use Rattle.rbd_commands.specs.declared.command.Command.TheVariants as command
use Rattle.rbd_kinds.specs.declared.id.SiteId.TheVariants as site
use Rattle.rbd_layout.specs.Asked.{layout_of}
use Rattle.rbd_machine.specs.Plan.{Standing}
use Rattle.rbd_machine.specs.declared.seat.Seat.{Seat}
use Rattle.rbd_catalog.specs.EachRequest.{same_some}
use Rattle.rbd_catalog.specs.Plans.{IsPlanFor, create_at, is_built, plan_of, planned}

-- a command that is served has a plan of each seat, and no other has any
pub is_planned : (seat : Seat) (c : Command) → is_built c ≡ is_some (plan_of seat c)
is_planned seat (command.Create image size shape) = by shape.journal
  where
    by : (b : Bool) → is_some (cond b None (planned (create_at site.A image size (layout_of shape)))) ≡ is_some (cond b None (planned (create_at seat.home image size (layout_of shape))))
    by true = refl
    by false = refl
is_planned seat _ = refl

pub what_has_a_plan_is_built : (seat : Seat) (c : Command) (s : Standing) → IsPlanFor seat c s → is_built c ≡ true
what_has_a_plan_is_built seat c s is = is_planned seat c ∙ ap is_some is

-- ---- the plan of a command that is served

pub record HasPlan (seat : Seat) (c : Command) : Type 0 where
  pub standing : Standing
  pub is : IsPlanFor seat c standing

at_some : (seat : Seat) (c : Command) (o : Option Standing) → plan_of seat c ≡ o → is_some o ≡ true → HasPlan seat c
at_some seat c None is some = cc
at_some seat c (Some s) is some = record { standing = s; is = is }

pub has_plan : (seat : Seat) (c : Command) → is_built c ≡ true → HasPlan seat c
has_plan seat c built = at_some seat c (plan_of seat c) refl (sym (is_planned seat c) ∙ built)

pub one_plan : (seat : Seat) (c : Command) (s t : Standing) → IsPlanFor seat c s → IsPlanFor seat c t → s ≡ t
one_plan seat c s t is also = same_some s t (sym is ∙ also)
