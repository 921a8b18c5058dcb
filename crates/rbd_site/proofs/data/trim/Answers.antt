use Rattle.std.proofs.Common.{Some, option_map, ap, ◌∙◌, rules}
use Rattle.rbd_object.specs.Mapped.{mapped_trim}
use Rattle.rbd_site.specs.Maps.{object_in}
use Rattle.rbd_site.proofs.OneChange.{object_put}
use Rattle.rbd_site.proofs.data.trim.Goals as goal

pub returns : goal.returns
returns c = λ image number.
    object_put c.args.objects.now (c.get_mut.follows.lender c.trim.new.self) c.args.key (Some c.trim.new.self)
    (option_map (mapped_trim c.args.live.now) (object_in c.args.objects.now c.args.key.image c.args.key.number))
    (((c.get_mut.follows.holds c.trim.new.self).3 (search rules)).0)
    (ap Some c.trim.ensures ∙ ap (option_map (mapped_trim c.args.live.now)) c.in-Some.ensures.value)
    image number
