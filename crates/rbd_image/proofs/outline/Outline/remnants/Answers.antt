use Rattle.std.proofs.Common.{◌≡◌, ◌++◌, ◌∙◌, ap}
use Rattle.rbd_image.specs.Remnants.{contents, link_remnants}
use Rattle.rbd_image.proofs.RemovalsMade.{all_made, with_link, without_link}
use Rattle.rbd_image.proofs.outline.Outline.remnants.Goals as goal
use Rattle.rbd_image.proofs.outline.Outline.remnants.Goals.{in-Some+in_ok-push_back-3, in_default}

pub returns : goal.returns
returns c =
    let o = c.args.self.now in
    let linked : c.match-self.made.items ≡ c.push_back-2.new.self.items ++ link_remnants o.link = elim c.match-self.branch [
      | in-Some+in_ok-push_back-3 w ↦ with_link o.link w.in-Some.link c.push_back-2.new.self.items c.match-self.made.items w.in-Some.is (ap (λ m. m.items) w.made-is ∙ w.in_ok-push_back-3.ensures.items)
      | in_default w ↦ ap (λ m. m.items) w.made-is ∙ without_link o.link c.push_back-2.new.self.items w.in_default.is
    ] in
    all_made o.link (contents o.snaps o.journal c.args.bits.now) c.new-made.result.items c.push_back.new.self.items c.push_back-2.new.self.items c.match-self.made.items c.add_contents.new.made.items
    c.new-made.ensures.items c.in_ok-push_back.ensures.items c.in_ok-push_back-2.ensures.items linked c.in_ok-add_contents.ensures
