use Rattle.std.proofs.Common.{◌∙◌, sym, refl}
use Rattle.std.proofs.lemmas.Bool.{false≢true}
use Rattle.rbd_layout.proofs.Limits.{shape_of, layout_from}
use Rattle.rbd_layout.proofs.shape.check.Goals as goal

pub returns-then-not-is_power_within : goal.returns-then-not-is_power_within
returns-then-not-is_power_within c = record {
  valid = (
    (λ no_. absurd (false≢true no_)),
    (λ h.
        let s = shape_of c.args.layout.now h in
        sym c.if-not-is_power_within.true ∙ c.is_power_within.ensures.1 (s.object_power, s.object_least, s.object_most)),
  );
}

pub returns-then-not-is_power_within-2 : goal.returns-then-not-is_power_within-2
returns-then-not-is_power_within-2 c = record {
  valid = (
    (λ no_. absurd (false≢true no_)),
    (λ h.
        let s = shape_of c.args.layout.now h in
        sym c.if-not-is_power_within-2.true ∙ c.is_power_within-2.ensures.1 (s.unit_power, s.unit_least, s.unit_most)),
  );
}

pub returns : goal.returns
returns c =
    let object = c.is_power_within.ensures.0 c.if-not-is_power_within.false in
    let unit = c.is_power_within-2.ensures.0 c.if-not-is_power_within-2.false in
    record {
      valid = (
        (λ _. layout_from c.args.layout.now object.0 object.1 object.2 unit.0 unit.1 unit.2 c.if-layout-lt1.false c.if-layout-gt16.false),
        (λ _. refl),
      );
    }
