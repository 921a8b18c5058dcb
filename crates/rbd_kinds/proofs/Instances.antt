-- An instance is the same as itself alone.
use Rattle.std.proofs.Common.{◌≡◌, true, ◌&&◌, refl, ap, ◌∙◌}
use Rattle.std.specs.Prelude.{◌==◌}
use Rattle.std.proofs.lemmas.Bool.{and_parts, eq-eqb, eqb-true}
use Rattle.rbd_kinds.specs.declared.id.Instance.{Instance}
use Rattle.rbd_kinds.specs.Instances.{same_instance}

pub same_instance_itself : (i : Instance) → same_instance i i ≡ true
same_instance_itself i = ap (λ b. b && (i.life == i.life)) (eq-eqb i.session i.session refl) ∙ eq-eqb i.life i.life refl

pub same_instance_is : (a b : Instance) → same_instance a b ≡ true → a ≡ b
same_instance_is a b same =
    let parts = and_parts (a.session == b.session) (a.life == b.life) same in
    ap (λ s. record { session = s; life = a.life }) (eqb-true a.session b.session parts.0) ∙ ap (λ l. record { session = b.session; life = l }) (eqb-true a.life b.life parts.1)
