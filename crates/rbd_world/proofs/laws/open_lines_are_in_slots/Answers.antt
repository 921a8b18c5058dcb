use Rattle.rbd_world.proofs.laws.open_lines_are_in_slots.Goals as goal

pub returns : goal.returns
returns c = λ w sound line begun. sound.slots line begun
