use Rattle.std.proofs.Common.{◌≡◌, ◌+◌, length, Some, sym, ap, ◌∙◌, subst}
use Rattle.rbd_site.specs.declared.done.DoneOp.TheVariants as done
use Rattle.rbd_site.specs.InForm.{AreInForm}
use Rattle.rbd_site.specs.Log.{SiteLog, records_of}
use Rattle.rbd_site.specs.Maps.{kept}
use Rattle.rbd_site.specs.Step.{MayDo, after, answer_to}
use Rattle.rbd_site.proofs.FormLemmas.{form_after}
use Rattle.rbd_site.proofs.LogLemmas.{sound_more}
use Rattle.rbd_site.proofs.site.Site.apply_answered.Goals as goal

pub invariant_of-self : goal.invariant_of-self
invariant_of-self c =
    let r = kept c.self.inside.store in
    let me = c.args.instance in
    let stands : r ≡ records_of c.args.self.now = c.self.invariant.kept ∙ ap records_of c.self.view_is in
    let may : MayDo r me c.args.op = subst (λ x. MayDo x me c.args.op) (sym stands) c.requires.may in
    rw (c.note.ensures, c.perform.ensures.log)
    (sound_more r (kept c.perform.new.store) c.self.inside.log.items
    (record { number = c.next_number-number.result; instance = Some me; op = done.Op c.args.op; answer = c.in-Ok.logged })
    c.self.invariant
    c.in-Ok-perform.ensures.ok
    (c.in-Ok.ensures ∙ c.requires.answer ∙ ap (λ x. answer_to x me c.args.op) (sym stands))
    (c.next_number-number.ensures ∙ ap (λ (s : SiteLog). length s.log + 1) (sym c.self.view_is))
    (subst (λ x. AreInForm x (length c.self.inside.log.items + 1)) (sym c.in-Ok-perform.ensures.ok)
    (form_after r me c.args.op (length c.self.inside.log.items) c.self.invariant.form may)))

pub returns-in-Ok-perform-clause-records : goal.returns-in-Ok-perform-clause-records
returns-in-Ok-perform-clause-records c =
    sym (invariant_of-self c).kept ∙ c.in-Ok-perform.ensures.ok
    ∙ ap (λ r. after r c.args.instance c.args.op) (c.self.invariant.kept ∙ ap records_of c.self.view_is)

pub returns-in-Ok-perform-clause-form : goal.returns-in-Ok-perform-clause-form
returns-in-Ok-perform-clause-form c =
    let sound = invariant_of-self c in
    subst (λ x. AreInForm x (length c.note.new.log.items)) sound.kept sound.form
