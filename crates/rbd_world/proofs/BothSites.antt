-- What is done at one site is done to both, as nothing is to the other.
use Rattle.std.proofs.Common.{◌≡◌, ◌⊎◌, inl, inr, false, [], length, refl, sym, ap, ◌∙◌, subst}
use Rattle.std.proofs.lemmas.List.{append-nil}
use Rattle.rbd_kinds.specs.declared.id.SiteId.{SiteId}
use Rattle.rbd_kinds.specs.declared.id.SiteId.TheVariants as site
use Rattle.rbd_machine.specs.Knowledge.{same_site}
use Rattle.rbd_site.specs.InForm.{AreInForm}
use Rattle.rbd_site.specs.Log.{SiteLog, records_of}
use Rattle.rbd_site.specs.Records.{Records}
use Rattle.rbd_world.specs.declared.sites.Sites.{Sites}
use Rattle.rbd_world.specs.Run.{Happening, Nothing, lines_at, records_behind}
use Rattle.rbd_world.specs.Step.{DoesAt, DoesAtSites, mail_then, with_log_lines}
use Rattle.rbd_world.specs.World.{site_in}

-- a site is this one or the other
pub this_or_other : (s q : SiteId) → (q ≡ s) ⊎ (same_site s q ≡ false)
this_or_other site.A site.A = inl refl
this_or_other site.A site.B = inr refl
this_or_other site.B site.A = inr refl
this_or_other site.B site.B = inl refl

no_lines : (s : SiteLog) → with_log_lines [] s ≡ s
no_lines s = ap (λ log. record s { log = log }) (append-nil s.log)

-- it leaves a site as it was
pub record IsNothingAt (q : SiteId) (h : Happening) : Type 0 where
  pub lines : lines_at q h ≡ []
  pub records : (r : Records) → records_behind q r h ≡ r

pub left_at : (q : SiteId) (h : Happening) (old new : SiteLog) → IsNothingAt q h → new ≡ old → DoesAt q h old new
left_at q h old new none same = record {
  site = same ∙ sym (ap (λ lines. with_log_lines lines old) none.lines ∙ no_lines old);
  records = ap records_of same ∙ sym (none.records (records_of old));
  form = λ form. subst (λ (s : SiteLog). AreInForm (records_of s) (length s.log)) (sym same) form;
}

pub both_sites : (h : Happening) (old new : Sites) → ((q : SiteId) → DoesAt q h (site_in q old) (site_in q new)) → new.mail ≡ mail_then h old → DoesAtSites h old new
both_sites h old new each mail = record {
  sites = λ q. (each q).site;
  records = λ q. (each q).records;
  form = λ q. (each q).form;
  mail = mail;
}

-- done at one site, and nothing at the other
pub done_at : (s : SiteId) (h : Happening) (old new : Sites) → DoesAt s h (site_in s old) (site_in s new)
    → ((q : SiteId) → same_site s q ≡ false → IsNothingAt q h) → ((q : SiteId) → same_site s q ≡ false → site_in q new ≡ site_in q old) → new.mail ≡ mail_then h old → DoesAtSites h old new
done_at s h old new here none same mail = both_sites h old new (λ q. by q (this_or_other s q)) mail
  where
    by : (q : SiteId) → (q ≡ s) ⊎ (same_site s q ≡ false) → DoesAt q h (site_in q old) (site_in q new)
    by q (inl is) = subst (λ p. DoesAt p h (site_in p old) (site_in p new)) (sym is) here
    by q (inr other) = left_at q h (site_in q old) (site_in q new) (none q other) (same q other)

pub nothing_done : (q : SiteId) → IsNothingAt q Nothing
nothing_done q = record { lines = refl; records = λ r. refl }

-- what leaves both sites does nothing to them
pub left_sites : (h : Happening) (sites : Sites) → ((q : SiteId) → IsNothingAt q h) → mail_then h sites ≡ sites.mail → DoesAtSites h sites sites
left_sites h sites none mail = both_sites h sites sites (λ q. left_at q h (site_in q sites) (site_in q sites) (none q) refl) (sym mail)
