use denote.Enum.Bare.{same_true, true_same}
use Rattle.std.proofs.Common.{Some, rules, sym, ap, ◌∙◌}
use Rattle.std.proofs.lemmas.Option.{same_Some}
use Rattle.rbd_kinds.specs.declared.id.SiteId.{SiteId}
use Rattle.rbd_kinds.specs.declared.operation_kind.OpKind.{OpKind}
use Rattle.rbd_kinds.specs.contracts.operation_kind.OpKind.{the_type}
use Rattle.rbd_schedule.proofs.runner.Runner.wants.Goals as goal

pub returns-in-Some : goal.returns-in-Some
returns-in-Some c = (
  λ is. record {
    site = c.in-Some.field-0-0;
    wants = sym c.kind.ensures ∙ c.in-Some.is
        ∙ ap (λ (k : OpKind). Some (c.in-Some.field-0-0, k)) (same_true the_type (search rules) c.in-Some.wanted c.args.kind (sym c.eq.ensures ∙ is));
  },
  λ w. c.eq.ensures ∙ true_same the_type c.in-Some.wanted c.args.kind
      (ap (λ (p : SiteId × OpKind). p.1) (same_Some (c.in-Some.field-0-0, c.in-Some.wanted) (w.site, c.args.kind) (sym c.in-Some.is ∙ c.kind.ensures ∙ w.wants))),
)
