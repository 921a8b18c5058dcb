use Rattle.rbd_map.proofs.Packing.{hold_states, length-bits_of, state_at-bits_of, states_of-bits_of}
use Rattle.rbd_map.proofs.laws.bits_and_states.Goals as goal

pub returns-clause-back : goal.returns-clause-back
returns-clause-back c = states_of-bits_of

pub returns-clause-each : goal.returns-clause-each
returns-clause-each c = state_at-bits_of

pub returns-clause-bytes : goal.returns-clause-bytes
returns-clause-bytes c = length-bits_of

pub returns-clause-form : goal.returns-clause-form
returns-clause-form c = hold_states
