-- A trim of an object.
use Rattle.std.proofs.Common.{◌≡◌, ℕ, ◌+◌, Bool, true, false, cond, eqb, List, Option, None, option_map, refl, sym, ap, ◌∙◌, arith}
use Rattle.std.proofs.Math.Path.{fun_ext}
use Rattle.std.proofs.lemmas.Bool.{eqb-true}
use Rattle.rbd_kinds.specs.declared.header.HeaderView.{HeaderView}
use Rattle.rbd_kinds.specs.declared.id.Instance.{Instance}
use Rattle.rbd_object.specs.Mapped.{Mapped, mapped_trim}
use Rattle.rbd_site.specs.InForm.{AreInForm}
use Rattle.rbd_site.specs.Log.{live_in, trimmed}
use Rattle.rbd_site.specs.Records.{Records, put, with_header, with_object, with_watchers}

-- the value that is there is put again
pub put_same : {T : Type 0} (f : ℕ → T) (place : ℕ) (value : T) → value ≡ f place → put f place value ≡ f
put_same {T} f place value is = fun_ext (λ n. go n (eqb n place) refl)
  where
    go : (n : ℕ) (t : Bool) → eqb n place ≡ t → cond t value (f n) ≡ f n
    go n true at = is ∙ ap f (sym (eqb-true n place at))
    go n false at = refl

pub with_header_same : (image : ℕ) (header : Option HeaderView) (r : Records) → header ≡ r.headers image → with_header image header r ≡ r
with_header_same image header r is = ap (λ (headers : ℕ → Option HeaderView). record r { headers = headers }) (put_same r.headers image header is)

pub with_watchers_same : (image : ℕ) (watchers : List Instance) (r : Records) → watchers ≡ r.watchers image → with_watchers image watchers r ≡ r
with_watchers_same image watchers r is = ap (λ (all : ℕ → List Instance). record r { watchers = all }) (put_same r.watchers image watchers is)

pub with_object_same : (image number : ℕ) (object : Option Mapped) (r : Records) → object ≡ r.objects image number → with_object image number object r ≡ r
with_object_same image number object r is =
    ap (λ (objects : ℕ → ℕ → Option Mapped). record r { objects = objects })
    (put_same r.objects image (put (r.objects image) number object) (put_same (r.objects image) number object is))

-- nothing is there to trim
pub trimmed_missing : (image number : ℕ) (r : Records) → r.objects image number ≡ None → trimmed image number r ≡ r
trimmed_missing image number r missing =
    with_object_same image number (option_map (mapped_trim (live_in (r.headers image))) (r.objects image number)) r
    (ap (option_map (mapped_trim (live_in (r.headers image)))) missing ∙ sym missing)

pub form_trimmed : (image number : ℕ) (r : Records) (most : ℕ) → AreInForm r most → AreInForm (trimmed image number r) (most + 1)
form_trimmed image number r most held = record {
  form = held.form;
  generation = λ i h is. omega (arith, held.generation i h is);
  unwatched = held.unwatched;
  distinct = held.distinct;
  maps = held.maps;
}
