use Rattle.std.proofs.Common.{ap, refl, false, ◌||◌, ◌∷◌, Some}
use Rattle.std.proofs.lemmas.Bool.{eq-eqb}
use Rattle.rbd_world.specs.Run.{Did, Refused}
use Rattle.rbd_world.specs.Sound.{has_ended}
use Rattle.rbd_replies.proofs.Led.{ended_led}
use Rattle.rbd_replies.proofs.LooksOnly.{showing_leaves_all}
use Rattle.rbd_replies.proofs.NoEffects.{no_effects, showing_changes_none}
use Rattle.rbd_replies.proofs.laws.what_only_shows_changes_nothing.Goals as goal

pub returns-clause-each : goal.returns-clause-each
returns-clause-each c = showing_leaves_all

pub returns-clause-done : goal.returns-clause-done
returns-clause-done c = λ homes run o line reply asked right mine asks shows.
    no_effects homes line (Did o (Some reply) ∷ run) asked right
    (ended_led homes line (Did o (Some reply) ∷ run) asked right asks (ap (λ b. (b || false) || has_ended line run) mine)) (showing_changes_none asked.command shows)

pub returns-clause-refused : goal.returns-clause-refused
returns-clause-refused c = λ homes run s line reply asked right asks shows.
    no_effects homes line (Refused s line reply ∷ run) asked right
    (ended_led homes line (Refused s line reply ∷ run) asked right asks (ap (λ b. (b || false) || has_ended line run) (eq-eqb line line refl))) (showing_changes_none asked.command shows)
