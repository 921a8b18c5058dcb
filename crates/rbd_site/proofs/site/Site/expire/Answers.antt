use Rattle.std.proofs.Common.{◌≡◌, ◌+◌, length, Option, Some, refl, sym, ap, ◌∙◌, subst}
use Rattle.rbd_kinds.specs.declared.id.Instance.{Instance}
use Rattle.rbd_watch.specs.Watching.{oldest_of}
use Rattle.rbd_site.specs.InForm.{AreInForm}
use Rattle.rbd_site.specs.Log.{SiteLog, records_of, expire_line, expired_by}
use Rattle.rbd_site.specs.Maps.{kept}
use Rattle.rbd_site.specs.Records.{Records}
use Rattle.rbd_site.proofs.FormLemmas.{form_expired}
use Rattle.rbd_site.proofs.LogLemmas.{sound_more}
use Rattle.rbd_site.proofs.WatchLemmas.{oldest_itself}
use Rattle.rbd_site.proofs.site.Site.expire.Goals as goal

pub invariant_of-self-2 : goal.invariant_of-self-2
invariant_of-self-2 c =
    let r = kept c.self.inside.store in
    let image = c.args.image in
    let oldest = c.in-Some.oldest in
    let is : oldest_of c.args.session (r.watchers image) ≡ Some oldest = sym c.oldest_watch.ensures ∙ c.in-Some.is in
    rw (c.note.ensures, c.in_ok-reserve.ensures.items)
    (sound_more r (kept c.expire.new.self) c.self.inside.log.items (expire_line c.next_number-number.result image oldest) c.self.invariant
    c.expire.ensures (refl, oldest_itself c.args.session (r.watchers image) oldest is, refl)
    (c.next_number-number.ensures ∙ ap (λ (s : SiteLog). length s.log + 1) (sym c.self.view_is))
    (subst (λ x. AreInForm x (length c.self.inside.log.items + 1)) (sym c.expire.ensures)
    (form_expired r image (length c.self.inside.log.items) oldest c.self.invariant.form)))

pub returns-clause-records : goal.returns-clause-records
returns-clause-records c =
    let image = c.args.image in
    let is : oldest_of c.args.session ((kept c.self.inside.store).watchers image) ≡ Some c.in-Some.oldest = sym c.oldest_watch.ensures ∙ c.in-Some.is in
    let same = c.self.invariant.kept ∙ ap records_of c.self.view_is in
    sym (invariant_of-self-2 c).kept ∙ c.expire.ensures
    ∙ ap (λ (o : Option Instance). expired_by image o (kept c.self.inside.store)) (sym is)
    ∙ ap (λ (r : Records). expired_by image (oldest_of c.args.session (r.watchers image)) r) same
