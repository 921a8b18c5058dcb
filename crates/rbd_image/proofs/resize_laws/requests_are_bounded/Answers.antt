use Rattle.rbd_image.proofs.ResizesBounded.{bounded_set_size_grow, bounded_set_size_shrink, resize_few}
use Rattle.rbd_image.proofs.resize_laws.requests_are_bounded.Goals as goal

pub returns-clause-grow : goal.returns-clause-grow
returns-clause-grow c = bounded_set_size_grow

pub returns-clause-shrink : goal.returns-clause-shrink
returns-clause-shrink c = bounded_set_size_shrink

pub returns-clause-resize : goal.returns-clause-resize
returns-clause-resize c = resize_few
