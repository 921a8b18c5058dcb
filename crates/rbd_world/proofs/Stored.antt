-- The store's own steps at one site are steps of both sites.
use Rattle.std.proofs.Common.{◌≡◌, ℕ, ◌+◌, Bool, true, false, cond, [], ◌∷◌, length, length-append, is_some, Option, Some, None, refl, sym, ap, ◌∙◌, subst}
use Rattle.rbd_kinds.specs.declared.id.Instance.{Instance}
use Rattle.rbd_kinds.specs.declared.id.SiteId.{SiteId}
use Rattle.rbd_kinds.specs.declared.id.SiteId.TheVariants as site
use Rattle.rbd_kinds.proofs.Images.{same_site_itself}
use Rattle.rbd_machine.specs.Knowledge.{same_site}
use Rattle.rbd_site.specs.InForm.{AreInForm}
use Rattle.rbd_site.specs.Log.{SiteLog, expire_line, expired, expired_by, records_of, trimmed, trim_line, log_with_expiry}
use Rattle.rbd_site.specs.Records.{Records}
use Rattle.rbd_site.proofs.FormLemmas.{form_expired}
use Rattle.rbd_site.proofs.TrimLemmas.{form_trimmed}
use Rattle.rbd_watch.specs.Watching.{oldest_of}
use Rattle.rbd_world.specs.declared.sites.Sites.{Sites}
use Rattle.rbd_world.specs.Run.{Happening, Nothing, Trimmed}
use Rattle.rbd_world.specs.Step.{DoesAt, DoesAtSites, ended_watch, expired_at, expired_of, mail_then, next_number, trimmed_at, trimmed_of, with_log_lines}
use Rattle.rbd_world.specs.World.{site_in}
use Rattle.rbd_world.proofs.BothSites.{IsNothingAt, done_at, left_at, nothing_done}

-- it is of one site, and posts no notice
pub record IsOfStore (s : SiteId) (h : Happening) : Type 0 where
  pub elsewhere : (q : SiteId) → same_site s q ≡ false → IsNothingAt q h
  pub unposted : (sites : Sites) → sites.mail ≡ mail_then h sites

trimmed_there : (b : Bool) (s : SiteId) (number image object : ℕ) → IsOfStore s (cond b (Trimmed s number image object) Nothing)
trimmed_there true s number image object = record {
  elsewhere = λ q other. record {
    lines = ap (λ c. cond c (trim_line number image object ∷ []) []) other;
    records = λ r. ap (λ c. cond c (trimmed image object r) r) other;
  };
  unposted = λ sites. refl;
}
trimmed_there false s number image object = record { elsewhere = λ q other. nothing_done q; unposted = λ sites. refl }

expired_there : (at : SiteLog) (s : SiteId) (image : ℕ) (o : Option Instance) → IsOfStore s (ended_watch at s image o)
expired_there at s image (Some who) = record {
  elsewhere = λ q other. record {
    lines = ap (λ c. cond c (expire_line (next_number at) image who ∷ []) []) other;
    records = λ r. ap (λ c. cond c (expired image who r) r) other;
  };
  unposted = λ sites. refl;
}
expired_there at s image None = record { elsewhere = λ q other. nothing_done q; unposted = λ sites. refl }

-- ---- at one site

pub trimmed_here : (s : SiteId) (old new : SiteLog) (image object : ℕ) → is_some ((records_of old).objects image object) ≡ true
    → new ≡ with_log_lines (trim_line (next_number old) image object ∷ []) old → records_of new ≡ trimmed image object (records_of old)
    → DoesAt s (trimmed_of old s image object) old new
trimmed_here s old new image object there site records =
    subst (λ b. DoesAt s (cond b (Trimmed s (next_number old) image object) Nothing) old new) (sym there) (record {
      site = site ∙ sym (ap (λ c. with_log_lines (cond c (trim_line (next_number old) image object ∷ []) []) old) (same_site_itself s));
      records = records ∙ sym (ap (λ c. cond c (trimmed image object (records_of old)) (records_of old)) (same_site_itself s));
      form = λ form.
          subst (λ (r : Records). AreInForm r (length new.log)) (sym records)
          (subst (AreInForm (trimmed image object (records_of old))) (sym (ap (λ (s : SiteLog). length s.log) site ∙ length-append old.log (trim_line (next_number old) image object ∷ [])))
          (form_trimmed image object (records_of old) (length old.log) form));
    })

pub expired_here : (s : SiteId) (old new : SiteLog) (session image : ℕ)
    → new ≡ record old { log = log_with_expiry (length old.log + 1) image (oldest_of session ((records_of old).watchers image)) old.log }
    → records_of new ≡ expired_by image (oldest_of session ((records_of old).watchers image)) (records_of old)
    → DoesAt s (expired_of old session s image) old new
expired_here s old new session image site records = by (oldest_of session ((records_of old).watchers image)) site records
  where
    by : (o : Option Instance) → new ≡ record old { log = log_with_expiry (length old.log + 1) image o old.log } → records_of new ≡ expired_by image o (records_of old) → DoesAt s (ended_watch old s image o) old new
    by None site records = left_at s Nothing old new (nothing_done s) site
    by (Some who) site records = record {
      site = site ∙ sym (ap (λ c. with_log_lines (cond c (expire_line (next_number old) image who ∷ []) []) old) (same_site_itself s));
      records = records ∙ sym (ap (λ c. cond c (expired image who (records_of old)) (records_of old)) (same_site_itself s));
      form = λ form.
          subst (λ (r : Records). AreInForm r (length new.log)) (sym records)
          (subst (AreInForm (expired image who (records_of old))) (sym (ap (λ (s : SiteLog). length s.log) site ∙ length-append old.log (expire_line (next_number old) image who ∷ [])))
          (form_expired (records_of old) image (length old.log) who form));
    }

-- ---- of both

stored_a : (h : Happening) → IsOfStore site.A h → (old : Sites) (new : SiteLog) → DoesAt site.A h old.a new → DoesAtSites h old (record old { a = new })
stored_a h is old new here = done_at site.A h old (record old { a = new }) here is.elsewhere (λ q other. by q other) (is.unposted old)
  where
    by : (q : SiteId) → same_site site.A q ≡ false → site_in q (record old { a = new }) ≡ site_in q old
    by site.A other = cc
    by site.B other = refl

stored_b : (h : Happening) → IsOfStore site.B h → (old : Sites) (new : SiteLog) → DoesAt site.B h old.b new → DoesAtSites h old (record old { b = new })
stored_b h is old new here = done_at site.B h old (record old { b = new }) here is.elsewhere (λ q other. by q other) (is.unposted old)
  where
    by : (q : SiteId) → same_site site.B q ≡ false → site_in q (record old { b = new }) ≡ site_in q old
    by site.A other = refl
    by site.B other = cc

pub trimmed_in_a : (s : SiteId) → s ≡ site.A → (old : Sites) (new : SiteLog) (image object : ℕ) → DoesAt s (trimmed_of old.a s image object) old.a new
    → DoesAtSites (trimmed_at old s image object) old (record old { a = new })
trimmed_in_a s is old new image object =
    subst (λ s. DoesAt s (trimmed_of old.a s image object) old.a new → DoesAtSites (trimmed_at old s image object) old (record old { a = new })) (sym is)
    (stored_a (trimmed_of old.a site.A image object) (trimmed_there (is_some ((records_of old.a).objects image object)) site.A (next_number old.a) image object) old new)

pub trimmed_in_b : (s : SiteId) → s ≡ site.B → (old : Sites) (new : SiteLog) (image object : ℕ) → DoesAt s (trimmed_of old.b s image object) old.b new
    → DoesAtSites (trimmed_at old s image object) old (record old { b = new })
trimmed_in_b s is old new image object =
    subst (λ s. DoesAt s (trimmed_of old.b s image object) old.b new → DoesAtSites (trimmed_at old s image object) old (record old { b = new })) (sym is)
    (stored_b (trimmed_of old.b site.B image object) (trimmed_there (is_some ((records_of old.b).objects image object)) site.B (next_number old.b) image object) old new)

pub expired_in_a : (s : SiteId) → s ≡ site.A → (old : Sites) (new : SiteLog) (session image : ℕ) → DoesAt s (expired_of old.a session s image) old.a new
    → DoesAtSites (expired_at old session s image) old (record old { a = new })
expired_in_a s is old new session image =
    subst (λ s. DoesAt s (expired_of old.a session s image) old.a new → DoesAtSites (expired_at old session s image) old (record old { a = new })) (sym is)
    (stored_a (expired_of old.a session site.A image) (expired_there old.a site.A image (oldest_of session ((records_of old.a).watchers image))) old new)

pub expired_in_b : (s : SiteId) → s ≡ site.B → (old : Sites) (new : SiteLog) (session image : ℕ) → DoesAt s (expired_of old.b session s image) old.b new
    → DoesAtSites (expired_at old session s image) old (record old { b = new })
expired_in_b s is old new session image =
    subst (λ s. DoesAt s (expired_of old.b session s image) old.b new → DoesAtSites (expired_at old session s image) old (record old { b = new })) (sym is)
    (stored_b (expired_of old.b session site.B image) (expired_there old.b site.B image (oldest_of session ((records_of old.b).watchers image))) old new)
