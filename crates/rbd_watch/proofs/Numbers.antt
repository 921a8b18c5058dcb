-- Notices by their numbers.
use Rattle.std.proofs.Common.{◌≡◌, ℕ, zero, suc, ◌+◌, ◌<◌, ◌≤◌, true, false, List, [], ◌∷◌, ◌++◌, length, Some, None, refl, sym, ap, subst, ◌∙◌, arith, inl, inr}
use Rattle.std.specs.Prelude.{◌==◌, ◌≢◌, ◌⊎◌, slice_get}
use Rattle.std.proofs.lemmas.Bool.{cond-true, cond-false, eq-eqb}
use Rattle.std.proofs.lemmas.Bool.Decides.{eqb_tells}
use Rattle.std.proofs.lemmas.List.{append_assoc, length-append}
use Rattle.std.proofs.lemmas.Option.{none-some}
use Rattle.std.specs.Option.{unwrap_or}
use Rattle.rbd_kinds.specs.declared.id.Instance.{Instance}
use Rattle.rbd_kinds.specs.declared.id.SiteId.{SiteId}
use Rattle.rbd_kinds.specs.declared.notice.Notice.{Notice}
use Rattle.rbd_kinds.specs.declared.notice.NoticeKind.{NoticeKind}
use Rattle.rbd_watch.specs.Posting.{AreNumberedFrom, notices, notice_numbered}

differs : (a b : ℕ) → a ≢ b → (a == b) ≡ false
differs a b other = by (eqb_tells a b)
  where
    by : (((a == b) ≡ true) × (a ≡ b)) ⊎ (((a == b) ≡ false) × (a ≢ b)) → (a == b) ≡ false
    by (inl p) = absurd (other p.1)
    by (inr p) = p.0

found : (number : ℕ) (n : Notice) (mail : List Notice) → n.number ≡ number → notice_numbered number (n ∷ mail) ≡ Some n
found number n mail e = cond-true (n.number == number) (Some n) (notice_numbered number mail) (eq-eqb n.number number e)

passed : (number : ℕ) (n : Notice) (mail : List Notice) → n.number ≢ number → notice_numbered number (n ∷ mail) ≡ notice_numbered number mail
passed number n mail other = cond-false (n.number == number) (Some n) (notice_numbered number mail) (differs n.number number other)

pub below : (k number : ℕ) (mail : List Notice) → AreNumberedFrom k mail → number < k → notice_numbered number mail ≡ None
below k number [] is lt = refl
below k number (n ∷ mail) is lt = passed number n mail (λ e. omega (arith, is.0, e, lt)) ∙ below (k + 1) number mail is.1 (omega (arith, lt))

pub at_place : (k i : ℕ) (mail : List Notice) → AreNumberedFrom k mail → notice_numbered (k + i) mail ≡ slice_get mail i
at_place k i [] is = refl
at_place k zero (n ∷ mail) is = found (k + 0) n mail (omega (arith, is.0))
at_place k (suc i) (n ∷ mail) is =
    let next : k + suc i ≡ k + 1 + i = omega arith in
    passed (k + suc i) n mail (λ e. omega (arith, is.0, e)) ∙ ap (λ m. notice_numbered m mail) next ∙ at_place (k + 1) i mail is.1

at_most_or_more : (k number : ℕ) → k ≤ number → k ≢ number → k + 1 ≤ number
at_most_or_more k number le other = omega (arith, le, other)

pub stays : (k number : ℕ) (mail posted : List Notice) → AreNumberedFrom k mail → k ≤ number → number < k + length mail → notice_numbered number (mail ++ posted) ≡ notice_numbered number mail
stays k number [] posted is le lt = absurd (omega (arith, le, lt))
stays k number (n ∷ mail) posted is le lt = by (eqb_tells n.number number) (λ more. stays (k + 1) number mail posted is.1 more (omega (arith, lt)))
  where
    by : (((n.number == number) ≡ true) × (n.number ≡ number)) ⊎ (((n.number == number) ≡ false) × (n.number ≢ number))
        → (k + 1 ≤ number → notice_numbered number (mail ++ posted) ≡ notice_numbered number mail) → notice_numbered number (n ∷ (mail ++ posted)) ≡ notice_numbered number (n ∷ mail)
    by (inl p) rest = found number n (mail ++ posted) p.1 ∙ sym (found number n mail p.1)
    by (inr p) rest =
        let more : k + 1 ≤ number = at_most_or_more k number le (λ e. p.1 (is.0 ∙ e)) in
        passed number n (mail ++ posted) p.1 ∙ rest more ∙ sym (passed number n mail p.1)

pub numbered_append : (k : ℕ) (mail more : List Notice) → AreNumberedFrom k mail → AreNumberedFrom (k + length mail) more → AreNumberedFrom k (mail ++ more)
numbered_append k [] more a b = let e : k + 0 ≡ k = omega arith in subst (λ m. AreNumberedFrom m more) e b
numbered_append k (n ∷ mail) more a b =
    let e : k + suc (length mail) ≡ k + 1 + length mail = omega arith in
    (a.0, numbered_append (k + 1) mail more a.1 (subst (λ m. AreNumberedFrom m more) e b))

get_past : (mail more : List Notice) (i : ℕ) → slice_get (mail ++ more) (length mail + i) ≡ slice_get more i
get_past [] more i = let e : 0 + i ≡ i = omega arith in ap (slice_get more) e
get_past (n ∷ mail) more i = let e : suc (length mail) + i ≡ suc (length mail + i) = omega arith in ap (slice_get (n ∷ (mail ++ more))) e ∙ get_past mail more i

module _ (site : SiteId) (image : ℕ) (from : Instance) (kind : NoticeKind) where
  pub notices_numbered : (number : ℕ) (receivers : List Instance) → AreNumberedFrom number (notices number site image from receivers kind)
  notices_numbered number [] = tt
  notices_numbered number (to ∷ receivers) = (refl, notices_numbered (number + 1) receivers)

  pub length_notices : (number : ℕ) (receivers : List Instance) → length (notices number site image from receivers kind) ≡ length receivers
  length_notices number [] = refl
  length_notices number (to ∷ receivers) = ap suc (length_notices (number + 1) receivers)

  -- one receiver more, and what is left
  pub one_more : (first : ℕ) (made : List Notice) (to : Instance) (receivers : List Instance)
      → let n : Notice = record { number = first + length made; to = to; from = from; site = site; image = image; kind = kind } in
      (made ++ n ∷ []) ++ notices (first + length (made ++ n ∷ [])) site image from receivers kind ≡ made ++ notices (first + length made) site image from (to ∷ receivers) kind
  one_more first made to receivers =
      let n : Notice = record { number = first + length made; to = to; from = from; site = site; image = image; kind = kind } in
      let len : length (made ++ n ∷ []) ≡ length made + 1 = length-append made (n ∷ []) in
      let next : first + length (made ++ n ∷ []) ≡ first + length made + 1 = omega (arith, len) in
      append_assoc made (n ∷ []) (notices (first + length (made ++ n ∷ [])) site image from receivers kind)
      ∙ ap (λ m. made ++ n ∷ notices m site image from receivers kind) next

  notice_at_place : (number i : ℕ) (receivers : List Instance) (to : Instance) → slice_get receivers i ≡ Some to
      → slice_get (notices number site image from receivers kind) i ≡ Some (record { number = number + i; to = to; from = from; site = site; image = image; kind = kind })
  notice_at_place number i [] to at = absurd (none-some to at)
  notice_at_place number zero (x ∷ receivers) to at =
      let e : number ≡ number + 0 = omega arith in
      let found : x ≡ to = ap (λ o. unwrap_or o x) at in
      λ j. Some (record { number = e j; to = found j; from = from; site = site; image = image; kind = kind })
  notice_at_place number (suc i) (x ∷ receivers) to at =
      let e : number + 1 + i ≡ number + suc i = omega arith in
      notice_at_place (number + 1) i receivers to at
      ∙ ap (λ n. Some (record { number = n; to = to; from = from; site = site; image = image; kind = kind })) e

  pub posted_at : (mail : List Notice) (place : ℕ) (receivers : List Instance) (to : Instance) → AreNumberedFrom 1 mail → slice_get receivers place ≡ Some to
      → notice_numbered (length mail + 1 + place) (mail ++ notices (length mail + 1) site image from receivers kind)
      ≡ Some (record { number = length mail + 1 + place; to = to; from = from; site = site; image = image; kind = kind })
  posted_at mail place receivers to is at =
      let first = length mail + 1 in
      let posted = notices first site image from receivers kind in
      let start : first ≡ 1 + length mail = omega arith in
      let number : first + place ≡ 1 + (length mail + place) = omega arith in
      ap (λ n. notice_numbered n (mail ++ posted)) number
      ∙ at_place 1 (length mail + place) (mail ++ posted) (numbered_append 1 mail posted is (subst (λ n. AreNumberedFrom n posted) start (notices_numbered first receivers)))
      ∙ get_past mail posted place
      ∙ notice_at_place first place receivers to at
