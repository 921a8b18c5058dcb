use Rattle.std.proofs.Common.{◌≡◌, Some, sym, subst}
use Rattle.rbd_object.specs.Versioned.{view}
use Rattle.rbd_object.specs.Mapped.{versioned}
use Rattle.rbd_object.proofs.object.Object.pages.Goals as goal

pub returns : goal.returns
returns c = record {
  longest = λ snap bytes some. c.pages.ensures.longest snap bytes (subst (λ o. view (versioned o) snap ≡ Some bytes) (sym c.self.view_is) some);
  none = λ empty. c.pages.ensures.none (λ snap bytes some. empty snap bytes (subst (λ o. view (versioned o) snap ≡ Some bytes) c.self.view_is some));
}
