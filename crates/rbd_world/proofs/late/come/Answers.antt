use Rattle.std.proofs.Common.{◌≡◌, IfOk, OnOk, slice_set, Option, Some, None, refl, sym, ap, ◌∙◌, subst}
use Rattle.std.proofs.lemmas.Result.{on_ok_weaker, on_err_weaker}
use Rattle.rbd_world.specs.Noted.{history_with}
use Rattle.rbd_world.specs.Run.{outcome_of}
use Rattle.rbd_world.specs.Step.{DoesAtSites, DoesToLives, IsSoundIf, MayCome, come}
use Rattle.rbd_world.specs.World.{LateView, LivesView, late_at, late_of, lives_in, running_of, sent_in}
use Rattle.rbd_world.specs.declared.event.Event.TheVariants as of_event
use Rattle.rbd_world.proofs.BothSites.{left_sites, nothing_done}
use Rattle.rbd_world.proofs.OneLife.{does_to_none, does_to_one, lent, none_there, set_unless}
use Rattle.rbd_world.proofs.Ongoing.{coming_runs_on, late_lives_on}
use Rattle.rbd_world.proofs.late.come.Goals as goal

-- ---- no such session

none : (g : _) (c : goal.After-lives-in_default-2-1 g) → lives_in c.args.session c.args.lives.now.items ≡ None
none g c = none_there c.args.session c.session.inside.0 c.args.lives.now.items c.session.view_is c.in_default.ensures.item.3

pub returns-in_default-clause-sites : goal.returns-in_default-clause-sites
returns-in_default-clause-sites g c =
    subst (λ l. DoesAtSites (come c.args.sites.now c.args.slot (sent_in c.args.slot (late_of l))) c.args.sites.now c.args.sites.now) (sym (none g c)) (left_sites _ c.args.sites.now nothing_done refl)

pub returns-in_default-clause-lives : goal.returns-in_default-clause-lives
returns-in_default-clause-lives g c =
    does_to_none g.R.Machine.stands (of_event.Late c.args.session c.args.slot) (come c.args.sites.now c.args.slot (late_at c.args.session c.args.slot c.args.lives.now.items)) c.args.session c.args.lives.now.items (λ n. refl) (none g c)

-- ---- one that nothing comes of

empty : (g : _) (c : goal.After-lives-in_default-late-1 g) → late_at c.args.session c.args.slot c.args.lives.now.items ≡ None
empty g c = ap (λ l. sent_in c.args.slot (late_of l)) (lent c.args.session c.session.inside.0 c.args.lives.now.items c.in-Some.life.now c.session.view_is c.in-Some.ensures.item.3.0 c.in-Some.ensures.value) ∙ sym (ap (λ (l : LivesView _). sent_in c.args.slot l.late) c.life.view_is) ∙ ap (sent_in c.args.slot) c.in_default-late.is

pub returns-in_default-late-clause-outcome : goal.returns-in_default-late-clause-outcome
returns-in_default-late-clause-outcome g c = sym (ap (λ o. outcome_of (come c.args.sites.now c.args.slot o)) (empty g c))

pub returns-in_default-late-clause-history : goal.returns-in_default-late-clause-history
returns-in_default-late-clause-history g c = sym (ap (λ o. history_with c.args.history.now.items (come c.args.sites.now c.args.slot o)) (empty g c))

pub returns-in_default-late-clause-sites : goal.returns-in_default-late-clause-sites
returns-in_default-late-clause-sites g c =
    subst (λ o. DoesAtSites (come c.args.sites.now c.args.slot o) c.args.sites.now c.args.sites.now) (sym (empty g c)) (left_sites _ c.args.sites.now nothing_done refl)

pub returns-in_default-late-clause-lives : goal.returns-in_default-late-clause-lives
returns-in_default-late-clause-lives g c =
    let xs = c.args.lives.now.items in
    let before : LivesView _ = (record { home = c.life.inside.home; latest = c.life.inside.latest; running = c.life.inside.running; late = c.life.inside.late }) in
    subst (λ o. DoesToLives g.R.Machine.stands (of_event.Late c.args.session c.args.slot) (come c.args.sites.now c.args.slot o) xs (slice_set xs c.session.inside.0 before)) (sym (empty g c))
    (does_to_one g.R.Machine.stands (of_event.Late c.args.session c.args.slot) (come c.args.sites.now c.args.slot None) c.args.session c.session.inside.0 xs before before (λ n. refl) c.session.view_is ((lent c.args.session c.session.inside.0 c.args.lives.now.items c.in-Some.life.now c.session.view_is c.in-Some.ensures.item.3.0 c.in-Some.ensures.value) ∙ ap Some (sym c.life.view_is))
    (record { home = refl; latest = refl; running = coming_runs_on g.R.Machine.stands c.args.session c.args.slot c.args.sites.now None before.home before.running; late = refl })
    (subst (IsSoundIf g.R.Machine.stands) (ap running_of (lent c.args.session c.session.inside.0 c.args.lives.now.items c.in-Some.life.now c.session.view_is c.in-Some.ensures.item.3.0 c.in-Some.ensures.value) ∙ sym (ap (λ (l : LivesView _). l.running) c.life.view_is)) c.requires.sound))

-- ---- one of which something may come

pub come_from-requires : goal.come_from-requires
come_from-requires g c = record {
  room = c.requires.room;
  may =
      subst (MayCome c.args.sites.now)
      (ap (λ l. sent_in c.args.slot (late_of l)) (lent c.args.session c.session.inside.0 c.args.lives.now.items c.in-Some.life.now c.session.view_is c.in-Some.ensures.item.3.0 c.in-Some.ensures.value) ∙ sym (ap (λ (l : LivesView _). sent_in c.args.slot l.late) c.life.view_is) ∙ ap (sent_in c.args.slot) c.in-Some-late.is)
      c.requires.may;
}

there : (g : _) (c : goal.After-lives-2-1 g) → lives_in c.args.session c.args.lives.now.items ≡ Some c.in-Some.life.now
there g c = (lent c.args.session c.session.inside.0 c.args.lives.now.items c.in-Some.life.now c.session.view_is c.in-Some.ensures.item.3.0 c.in-Some.ensures.value)

found : (g : _) (c : goal.After-lives-2-1 g) → late_at c.args.session c.args.slot c.args.lives.now.items ≡ sent_in c.args.slot (Some c.in-Some-late.late)
found g c = ap (λ l. sent_in c.args.slot (late_of l)) (there g c) ∙ sym (ap (λ (l : LivesView _). sent_in c.args.slot l.late) c.life.view_is) ∙ ap (sent_in c.args.slot) c.in-Some-late.is

pub returns-clause-outcome : goal.returns-clause-outcome
returns-clause-outcome g c = subst (λ o. IfOk c.come_from.result (λ r. r ≡ outcome_of (come c.args.sites.now c.args.slot o))) (sym (found g c)) c.come_from.ensures.outcome

pub returns-clause-history : goal.returns-clause-history
returns-clause-history g c = subst (λ o. OnOk c.come_from.result (c.come_from.new.history.items ≡ history_with c.args.history.now.items (come c.args.sites.now c.args.slot o))) (sym (found g c)) c.come_from.ensures.history

pub returns-clause-sites : goal.returns-clause-sites
returns-clause-sites g c = subst (λ o. OnOk c.come_from.result (DoesAtSites (come c.args.sites.now c.args.slot o) c.args.sites.now c.come_from.new.sites)) (sym (found g c)) c.come_from.ensures.sites

pub returns-clause-lives : goal.returns-clause-lives
returns-clause-lives g c =
    let xs = c.args.lives.now.items in
    let after : LivesView _ = (record { home = c.life.inside.home; latest = c.life.inside.latest; running = c.life.inside.running; late = Some c.come_from.new.late }) in
    subst (λ o. OnOk c.come_from.result (DoesToLives g.R.Machine.stands (of_event.Late c.args.session c.args.slot) (come c.args.sites.now c.args.slot o) xs (slice_set xs c.session.inside.0 after)))
    (sym (ap (λ l. sent_in c.args.slot (late_of l)) (there g c)))
    (on_ok_weaker c.come_from.result (λ goes.
    does_to_one g.R.Machine.stands (of_event.Late c.args.session c.args.slot) (come c.args.sites.now c.args.slot (sent_in c.args.slot c.in-Some.life.now.late)) c.args.session c.session.inside.0 xs
    c.in-Some.life.now after (λ n. refl) c.session.view_is (there g c) (goes c.args.session)
    (subst (IsSoundIf g.R.Machine.stands) (ap running_of (there g c) ∙ sym (ap (λ (l : LivesView _). l.running) c.life.view_is)) c.requires.sound))
    (late_lives_on g.R.Machine.stands c.come_from.result c.args.slot c.args.sites.now c.in-Some.life.now (record { home = c.life.inside.home; latest = c.life.inside.latest; running = c.life.inside.running; late = c.life.inside.late })
    c.life.view_is c.in-Some-late.late c.come_from.new.late c.in-Some-late.is c.come_from.ensures.late))

pub returns-clause-left : goal.returns-clause-left
returns-clause-left g c =
    let with_late : LateView → LivesView _ = λ x. record { home = c.life.inside.home; latest = c.life.inside.latest; running = c.life.inside.running; late = Some x } in
    set_unless c.come_from.result c.args.lives.now.items c.session.inside.0 (with_late c.in-Some-late.late) (with_late c.come_from.new.late)
    (ap (λ k. lives_in k c.args.lives.now.items) c.session.view_is ∙ there g c ∙ ap Some (sym c.life.view_is)
    ∙ ap (λ (o : Option LateView). Some (record { home = c.life.inside.home; latest = c.life.inside.latest; running = c.life.inside.running; late = o })) c.in-Some-late.is)
    (on_err_weaker c.come_from.result (λ same. ap with_late same) c.come_from.ensures.left)
