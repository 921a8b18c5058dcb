use Rattle.std.proofs.Common.{◌≡◌, length, ap, ◌∙◌, drop, arith}
use Rattle.rbd_parts.specs.Contents.{window, overwritten}
use Rattle.rbd_parts.proofs.ContentsLemmas.{length-window}
use Rattle.rbd_data.proofs.Arranged.{put_between}
use Rattle.rbd_data.proofs.arrange.put_part.Goals as goal

pub returns : goal.returns
returns c =
    let long : length c.copy_window.new.into ≡ c.args.len = ap length c.copy_window.ensures ∙ length-window c.args.read.now 0 _ ∙ c.split_at_mut-here.ensures.front_len in
    put_between c.args.into.now c.copy_window.new.into c.split_at_mut-behind.result.0.now c.split_at_mut-here.result.1.now c.args.at c.args.len (omega (arith, long))
    c.split_at_mut-behind.ensures.front (c.split_at_mut-here.ensures.back ∙ ap (drop c.args.len) c.split_at_mut-behind.ensures.back) c.requires
    ∙ ap (overwritten c.args.into.now c.args.at) (c.copy_window.ensures ∙ ap (window c.args.read.now 0) c.split_at_mut-here.ensures.front_len)
