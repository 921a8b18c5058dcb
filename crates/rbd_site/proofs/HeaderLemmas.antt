-- What becomes of a header.
use Rattle.std.proofs.Common.{◌≡◌, Option, Some, None, option_map, unwrap_or, refl}
use Rattle.rbd_kinds.specs.declared.header.HeaderView.{HeaderView}
use Rattle.rbd_kinds.specs.declared.header_op.HeaderOp.{HeaderOp}
use Rattle.rbd_kinds.specs.declared.header_op.HeaderOp.TheVariants.{Create, Remove}
use Rattle.rbd_kinds.specs.declared.id.Instance.{Instance}
use Rattle.rbd_site.specs.HeaderStep.{header_then, header_after}

pub after_remove : (me : Instance) (o : Option HeaderView) → header_after me o Remove ≡ None
after_remove me None = refl
after_remove me (Some h) = refl

pub after_create : (me : Instance) (o : Option HeaderView) (view : HeaderView) → header_after me o (Create view) ≡ Some (unwrap_or o view)
after_create me None view = refl
after_create me (Some h) view = refl

-- the operations that neither make nor remove a header
pub after_others : (me : Instance) (o : Option HeaderView) (op : HeaderOp) → (op ≡ Remove → ⊥) → ((view : HeaderView) → op ≡ Create view → ⊥)
    → header_after me o op ≡ option_map (λ h. header_then me h op) o
after_others me o (Create view) a b = absurd (b view refl)
after_others me o Remove a b = absurd (a refl)
after_others me None op a b = refl
after_others me (Some h) op a b = refl
