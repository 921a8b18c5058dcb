-- Nobody can tell two fresh lives from one another.
use Rattle.std.proofs.Common.{◌≡◌, sym, ◌∙◌, subst}
use Rattle.std.proofs.Math.Path.{fun_ext}
use Rattle.rbd_client.specs.Client.{ClientView}
use Rattle.rbd_client.specs.Feeding.{IsClientAlike}
use Rattle.rbd_kinds.specs.declared.id.Instance.{Instance}
use Rattle.rbd_kinds.specs.declared.id.SiteId.{SiteId}
use Rattle.rbd_machine.specs.Plan.{Standing}
use Rattle.rbd_slots.specs.Session.{IsAlikeIn, held_in}
use Rattle.rbd_world.specs.Step.{IsFresh}
use Rattle.rbd_world.proofs.FreshLives.{fresh_is_sound, fresh_lines, fresh_locks}
use Rattle.rbd_schedule.proofs.Slots.{client_counted}
use Rattle.rbd_plays.proofs.Seen.{counted_and_alike}

module _ {R : Type 0} (stands : R → Standing) where
  pub fresh_alike : (who : Instance) (home there : SiteId) (c d : ClientView R) → there ≡ home → IsFresh who home c → IsFresh who there d → IsClientAlike stands c d
  fresh_alike who home there c d same fresh also =
      counted_and_alike stands c d (client_counted stands c (fresh_is_sound who home c stands fresh)) (client_counted stands d (fresh_is_sound who there d stands also)) (
      record {
        instance = also.instance ∙ sym fresh.instance;
        home = also.at_home ∙ same ∙ sym fresh.at_home;
        held = λ slot. subst (λ o. IsAlikeIn stands o (held_in slot d.session.slots)) (sym (fresh.slots slot)) (also.slots slot);
        lines = fun_ext (λ s. fun_ext (λ image. fresh_lines who there d also s image ∙ sym (fresh_lines who home c fresh s image)));
        locks = λ s image. fresh_locks who there d also s image ∙ sym (fresh_locks who home c fresh s image);
        states = λ slot. also.states slot ∙ sym (fresh.states slot);
        release = also.release ∙ sym fresh.release;
        heard = also.heard ∙ sym fresh.heard;
      }
      )
