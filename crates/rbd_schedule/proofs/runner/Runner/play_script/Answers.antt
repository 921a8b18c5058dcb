use mathlib.Core.Path.{fun_ext}
use Rattle.std.proofs.Common.{◌≡◌, ◌+◌, ◌≤◌, ◌<◌, ◌||◌, length, take, get_or, sym, ap, ◌∙◌, subst, refl, arith}
use Rattle.std.proofs.lemmas.List.{take_all}
use Rattle.std.proofs.lemmas.Option.{slice_get_read}
use Rattle.rbd_client.specs.Seen.{as_is}
use Rattle.rbd_world.specs.Seen.{seen}
use Rattle.rbd_schedule.specs.Deeds.{Deeds}
use Rattle.rbd_schedule.specs.Given.{commands_of, given_in, is_lost_by, loses_notice}
use Rattle.rbd_schedule.specs.InOrder.{AreDeclared}
use Rattle.rbd_schedule.specs.Playing.{given_to, lost_in}
use Rattle.rbd_schedule.specs.Schedule.{PlaysLine, closing_rounds}
use Rattle.rbd_schedule.proofs.Done.{none_done, one_more}
use Rattle.rbd_schedule.proofs.Lines.{given_along, lost_more, played_at}
use Rattle.rbd_schedule.proofs.Polled.{plays_so, settles_so}
use Rattle.rbd_schedule.proofs.runner.Runner.play_script.Goals as goal

pub loop-line-init : goal.loop-line-init
loop-line-init c = record {
  queues = c.requires.queues;
  keeps = λ playable. c.requires.keeps;
  lost = fun_ext c.requires.lost;
  given = λ declared. fun_ext c.requires.given;
  lines = λ declared. none_done (PlaysLine as_is c.args.script.now) (seen c.args.self.now.world);
}

pub play_line-requires : goal.play_line-requires
play_line-requires c =
    let within = subst (λ xs. c.loop-line.line-index < length xs) c.as_slice-line-items.ensures c.loop-line-test.true in
    let is = subst (λ xs. c.line-item.result ≡ get_or xs c.loop-line.line-index c.line-item.result) c.as_slice-line-items.ensures c.line-item.is in
    c.in_ok-give.ensures.keeps (played_at c.args.script.now.lines c.loop-line.line-index c.line-item.result c.requires.playable.lines within is) (c.loop-line.invariant.keeps c.requires.playable)

pub loop-line-preserved : goal.loop-line-preserved
loop-line-preserved c =
    let within = subst (λ xs. c.loop-line.line-index < length xs) c.as_slice-line-items.ensures c.loop-line-test.true in
    let is = subst (λ xs. c.line-item.result ≡ get_or xs c.loop-line.line-index c.line-item.result) c.as_slice-line-items.ensures c.line-item.is in
    let given : AreDeclared (length c.args.script.now.sessions) c.args.script.now.lines → given_to c.give.new.self ≡ given_in (take (c.loop-line.line-index + 1) c.args.script.now.lines)
    = λ declared. given_along c.loop-line.self c.give.new.self (length c.args.script.now.sessions) c.args.script.now.lines c.loop-line.line-index c.line-item.result declared
    within is c.loop-line.invariant.queues (c.in_ok-give.ensures.queues ∙ c.loop-line.invariant.queues) (c.loop-line.invariant.given declared) c.in_ok-give.ensures.given in
    let losing : lost_in c.give.new.self ≡ is_lost_by (take (c.loop-line.line-index + 1) c.args.script.now.lines)
    = fun_ext (λ number. c.in_ok-give.ensures.lost number ∙ ap (λ f. f number || loses_notice number c.line-item.result.said) c.loop-line.invariant.lost
    ∙ sym (lost_more c.args.script.now.lines c.loop-line.line-index c.line-item.result number within is)) in
    record {
      queues = c.in_ok-play_line.ensures.goes.queues ∙ c.in_ok-give.ensures.queues ∙ c.loop-line.invariant.queues;
      keeps = λ playable.
          c.in_ok-play_line.ensures.goes.keeps
          (c.in_ok-give.ensures.keeps (played_at c.args.script.now.lines c.loop-line.line-index c.line-item.result playable.lines within is) (c.loop-line.invariant.keeps playable));
      lost = c.in_ok-play_line.ensures.goes.lost ∙ losing;
      given = λ declared. c.in_ok-play_line.ensures.goes.given ∙ given declared;
      lines = λ declared.
          one_more (PlaysLine as_is c.args.script.now) c.loop-line.line-index (seen c.args.self.now.world) (seen c.loop-line.self.world) (seen c.play_line.new.self.world)
          (c.loop-line.invariant.lines declared)
          (record {
            line = c.line-item.result;
            is = slice_get_read c.args.script.now.lines (length c.args.script.now.lines) c.loop-line.line-index c.line-item.result refl within is;
            plays = plays_so as_is (given_in (take (c.loop-line.line-index + 1) c.args.script.now.lines)) (given_to c.give.new.self)
                (is_lost_by (take (c.loop-line.line-index + 1) c.args.script.now.lines)) (lost_in c.give.new.self) (length c.args.script.now.sessions)
                (length c.give.new.self.queues.items) c.line-item.result.said (seen c.loop-line.self.world) (seen c.give.new.self.world) (seen c.play_line.new.self.world) (given declared) losing
                (c.in_ok-give.ensures.queues ∙ c.loop-line.invariant.queues) c.in_ok-give.ensures.world c.in_ok-play_line.ensures.plays;
          });
    }

pub settle-requires : goal.settle-requires
settle-requires c = c.loop-line.invariant.keeps c.requires.playable

pub returns-clause-plays : goal.returns-clause-plays
returns-clause-plays c =
    let past = subst (λ xs. length xs ≤ c.loop-line.line-index) c.as_slice-line-items.ensures c.loop-line-test.false in
    let within = subst (λ xs. c.loop-line.line-index ≤ length xs) c.as_slice-line-items.ensures c.loop-line.auto.line-index-end in
    let all : c.loop-line.line-index ≡ length c.args.script.now.lines = omega (arith, past, within) in
    let given : given_to c.loop-line.self ≡ given_in c.args.script.now.lines
    = c.loop-line.invariant.given c.requires.playable.declared ∙ ap given_in (take_all c.loop-line.line-index c.args.script.now.lines past) in
    let lost : lost_in c.loop-line.self ≡ is_lost_by c.args.script.now.lines = c.loop-line.invariant.lost ∙ ap is_lost_by (take_all c.loop-line.line-index c.args.script.now.lines past) in
    record {
      between = (seen c.loop-line.self.world);
      lines = subst (λ n. Deeds (PlaysLine as_is c.args.script.now) n (seen c.args.self.now.world) (seen c.loop-line.self.world)) all
          (c.loop-line.invariant.lines c.requires.playable.declared);
      closing = settles_so as_is (given_in c.args.script.now.lines) (given_to c.loop-line.self) (is_lost_by c.args.script.now.lines) (lost_in c.loop-line.self) (length c.args.script.now.sessions)
          (length c.loop-line.self.queues.items) (closing_rounds (length (commands_of c.args.script.now.lines))) c.closing_rounds.result (seen c.loop-line.self.world) (seen c.settle.new.self.world)
          given lost c.loop-line.invariant.queues (c.closing_rounds.ensures ∙ ap (λ xs. closing_rounds (length (commands_of xs))) c.as_slice.ensures) c.in_ok-settle.ensures.settles;
    }

pub returns-clause-sound : goal.returns-clause-sound
returns-clause-sound c = (c.in_ok-settle.ensures.goes.keeps (c.loop-line.invariant.keeps c.requires.playable)).sound
