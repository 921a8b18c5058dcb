use Rattle.std.proofs.Common.{inl, inr}
use Rattle.rbd_flat.proofs.Painted.{length_painted, painted_inside, painted_outside, painted_extents, painted_place, painted_append, painted_neighbours}
use Rattle.rbd_flat.proofs.laws.painting.Goals as goal

pub returns : goal.returns
returns c = record {
  len = length_painted;
  inside = painted_inside;
  before = λ at len new old x h. painted_outside at len new old x (inl h);
  behind = λ at len new old x h. painted_outside at len new old x (inr h);
  extents = painted_extents;
  places = painted_place;
  in_turn = painted_append;
  neighbours = painted_neighbours;
}
