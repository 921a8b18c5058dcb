use Rattle.std.proofs.Common.{◌≡◌, ◌∙◌, ap, List, ℕ, filter, rules}
use Rattle.std.proofs.lemmas.Fn.{filter_same}
use Rattle.rbd_object.specs.Kept.{is_listed}
use Rattle.rbd_object.specs.Shared.{live_stored}
use Rattle.rbd_object.proofs.version.Version.keep_live.Goals as goal

pub returns : goal.returns
returns c =
    let kept : c.retain.new.self.items ≡ filter (is_listed c.args.live.now) c.self.inside.snaps.items =
    filter_same _ (is_listed c.args.live.now) _ (λ snap passes after call. search rules) _ _ c.retain.ensures.filtered in
    ap (λ (snaps : List ℕ). record { snaps = snaps; content = c.self.inside.content }) kept
    ∙ ap (live_stored c.args.live.now) c.self.view_is
