use Rattle.std.proofs.Common.{◌≡◌, ◌+◌, List, ℕ, length, sym, ap, ◌∙◌, option_map, subst, refl, rules}
use Rattle.std.specs.Option.{IsSome}
use Rattle.rbd_object.specs.Mapped.{mapped_trim}
use Rattle.rbd_site.specs.InForm.{AreInForm}
use Rattle.rbd_site.specs.Log.{SiteLog, records_of, trim_line, trimmed}
use Rattle.rbd_site.specs.Maps.{kept}
use Rattle.rbd_site.specs.Records.{with_object}
use Rattle.rbd_site.proofs.LogLemmas.{sound_more}
use Rattle.rbd_site.proofs.TrimLemmas.{form_trimmed}
use Rattle.rbd_site.proofs.site.Site.trim.Goals as goal

pub invariant_of-self-2 : goal.invariant_of-self-2
invariant_of-self-2 c =
    let r = kept c.self.inside.store in
    let image = c.args.image in
    let object = c.args.object in
    let there : IsSome (r.objects image object) = sym c.has.ensures ∙ search rules in
    let done : kept c.trim.new.self ≡ trimmed image object r =
    c.trim.ensures
    ∙ ap (λ (live : List ℕ). with_object image object (option_map (mapped_trim live) (r.objects image object)) r) (c.as_slice.ensures.value ∙ c.in_ok-live.ensures) in
    rw (c.note.ensures, c.in_ok-reserve.ensures.items)
    (sound_more r (kept c.trim.new.self) c.self.inside.log.items (trim_line (c.next_number-number.result) image object) c.self.invariant
    done (refl, there, refl) (c.next_number-number.ensures ∙ ap (λ (s : SiteLog). length s.log + 1) (sym c.self.view_is))
    (subst (λ x. AreInForm x (length c.self.inside.log.items + 1)) (sym done)
    (form_trimmed image object r (length c.self.inside.log.items) c.self.invariant.form)))

pub returns-clause-records : goal.returns-clause-records
returns-clause-records c =
    sym (invariant_of-self-2 c).kept ∙ c.trim.ensures
    ∙ ap (λ (live : List ℕ). with_object c.args.image c.args.object (option_map (mapped_trim live) ((kept c.self.inside.store).objects c.args.image c.args.object)) (kept c.self.inside.store)) (c.as_slice.ensures.value ∙ c.in_ok-live.ensures)
    ∙ ap (trimmed c.args.image c.args.object) (c.self.invariant.kept ∙ ap records_of c.self.view_is)
