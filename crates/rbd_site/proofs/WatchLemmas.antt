-- Watchers after an operation: nobody watches a header that isn't there, and nobody watches one
-- twice.
use Rattle.std.proofs.Common.{◌≡◌, ℕ, Bool, true, false, cond, eqb, not, List, [], ◌∷◌, ◌++◌, Option, Some, None, is_some, unwrap_or, refl, sym, ap, ◌∙◌, true≢false}
use Rattle.std.specs.BTreeMap.{BTreeMap, get, is_at}
use Rattle.std.specs.Prelude.{IfSome, nat_le}
use Rattle.std.specs.Cmp.{IsEquivalence}
use Rattle.std.specs.Ordering.{nat_cmp}
use Rattle.std.specs.List.{AllByRecursion, IsDistinct, filter}
use Rattle.std.proofs.lemmas.Bool.{eqb-true}
use Rattle.std.proofs.lemmas.Cmp.{on_equiv, and_equiv, nat_eq_equiv}
use Rattle.std.proofs.lemmas.Map.Keys.{IsDistinct-cons, IsDistinct-head, IsDistinct-push, IsDistinct-tail}
use Rattle.rbd_kinds.specs.declared.header.HeaderView.{HeaderView}
use Rattle.rbd_kinds.specs.declared.header_op.HeaderOp.{HeaderOp}
use Rattle.rbd_kinds.specs.declared.header_op.HeaderOp.TheVariants.{Remove, Watch, Unwatch, Notify}
use Rattle.rbd_kinds.specs.declared.id.Instance.{Instance}
use Rattle.rbd_kinds.specs.declared.id.SiteId.{SiteId}
use Rattle.rbd_kinds.specs.declared.notice.Notice.{Notice}
use Rattle.rbd_kinds.specs.declared.notice.NoticeKind.{NoticeKind}
use Rattle.rbd_kinds.specs.Instances.{same_instance}
use Rattle.rbd_watch.specs.Watching.{older, oldest_of, registered, watches, without}
use Rattle.rbd_site.specs.HeaderStep.{header_after}
use Rattle.rbd_site.specs.Maps.{watchers_in}
use Rattle.rbd_site.specs.Records.{put}
use Rattle.rbd_site.specs.WatchStep.{notified, watchers_after}
use Rattle.rbd_site.proofs.OneChange.{is_eq-nat_cmp}
use Rattle.rbd_site.proofs.TrimLemmas.{put_same}

same_equiv : IsEquivalence same_instance
same_equiv = and_equiv (on_equiv (λ (i : Instance). i.session) nat_eq_equiv) (on_equiv (λ (i : Instance). i.life) nat_eq_equiv)

all_filtered : {T : Type 0} (P : T → Type 0) (test : T → Bool) (items : List T) → AllByRecursion P items → AllByRecursion P (filter test items)
all_filtered P test [] all = tt
all_filtered {T} P test (x ∷ items) all = go (test x) (all_filtered P test items all.1)
  where
    go : (b : Bool) → AllByRecursion P (filter test items) → AllByRecursion P (cond b (x ∷ filter test items) (filter test items))
    go true rest = (all.0, rest)
    go false rest = rest

pub distinct_none : IsDistinct same_instance []
unfolding IsDistinct
distinct_none = tt

distinct_filtered : (test : Instance → Bool) (w : List Instance) → IsDistinct same_instance w → IsDistinct same_instance (filter test w)
distinct_filtered test [] distinct = distinct
distinct_filtered test (i ∷ w) distinct = go (test i) (distinct_filtered test w (IsDistinct-tail same_instance i w distinct))
  where
    go : (b : Bool) → IsDistinct same_instance (filter test w) → IsDistinct same_instance (cond b (i ∷ filter test w) (filter test w))
    go true rest = IsDistinct-cons same_instance i (filter test w) (all_filtered (λ j. same_instance i j ≡ false) test w (IsDistinct-head same_instance i w distinct)) rest
    go false rest = rest

pub distinct_without : (i : Instance) (w : List Instance) → IsDistinct same_instance w → IsDistinct same_instance (without i w)
distinct_without i w distinct = distinct_filtered (λ j. not (same_instance i j)) w distinct

distinct_registered : (i : Instance) (w : List Instance) → IsDistinct same_instance w → IsDistinct same_instance (registered i w)
distinct_registered i w distinct = go (watches i w) refl
  where
    go : (b : Bool) → watches i w ≡ b → IsDistinct same_instance (cond b w (w ++ i ∷ []))
    go true is = distinct
    go false is = IsDistinct-push same_equiv w i distinct is

pub distinct_after : (me : Instance) (header : Option HeaderView) (w : List Instance) (o : HeaderOp) → IsDistinct same_instance w → IsDistinct same_instance (watchers_after me header w o)
distinct_after me None w o distinct = distinct
distinct_after me (Some h) w Watch distinct = distinct_registered me w distinct
distinct_after me (Some h) w Unwatch distinct = distinct_without me w distinct
distinct_after me (Some h) w Remove distinct = distinct_none
distinct_after me (Some h) w o distinct = distinct

-- a header that isn't there afterwards has no watchers
pub unwatched_after : (me : Instance) (header : Option HeaderView) (w : List Instance) (o : HeaderOp) → (header ≡ None → w ≡ [])
    → header_after me header o ≡ None → watchers_after me header w o ≡ []
unwatched_after me None w o none gone = none refl
unwatched_after me (Some h) w Remove none gone = refl
unwatched_after me (Some h) w o none gone = cc

-- the oldest of its session is of that session
older_of : (session : ℕ) (a b : Option Instance) → ((i : Instance) → a ≡ Some i → i.session ≡ session) → ((i : Instance) → b ≡ Some i → i.session ≡ session)
    → (i : Instance) → older a b ≡ Some i → i.session ≡ session
older_of session None b p q i is = q i is
older_of session (Some x) None p q i is = p i is
older_of session (Some x) (Some y) p q i is = go (nat_le x.life y.life) is
  where
    go : (t : Bool) → cond t (Some x) (Some y) ≡ Some i → i.session ≡ session
    go true e = p i e
    go false e = q i e

-- the oldest instance of a session is one of it
pub oldest_session : (session : ℕ) (w : List Instance) (i : Instance) → oldest_of session w ≡ Some i → i.session ≡ session
oldest_session session [] i is = cc
oldest_session session (x ∷ w) i is = older_of session (cond (eqb x.session session) (Some x) None) (oldest_of session w) (go (eqb x.session session) refl) (oldest_session session w) i is
  where
    go : (b : Bool) → eqb x.session session ≡ b → (j : Instance) → cond b (Some x) None ≡ Some j → j.session ≡ session
    go true e j same = ap (λ (o : Option Instance). (unwrap_or o x).session) (sym same) ∙ eqb-true x.session session e
    go false e j same = cc

pub oldest_itself : (session : ℕ) (w : List Instance) (i : Instance) → oldest_of session w ≡ Some i → oldest_of i.session w ≡ Some i
oldest_itself session w i is = ap (λ s. oldest_of s w) (oldest_session session w i is) ∙ is

-- a header that is removed takes its watchers with it
pub removed_watched : (me : Instance) (header : Option HeaderView) (w : List Instance) → is_some header ≡ true → watchers_after me header w Remove ≡ []
removed_watched me None w there = absurd (true≢false (sym there))
removed_watched me (Some h) w there = refl

-- the operations that leave the watchers, and those that post nothing
pub others_watched : (me : Instance) (header : Option HeaderView) (w : List Instance) (o : HeaderOp) → (o ≡ Watch → ⊥) → (o ≡ Unwatch → ⊥) → (o ≡ Remove → ⊥)
    → watchers_after me header w o ≡ w
others_watched me None w o a b c = refl
others_watched me (Some h) w Watch a b c = absurd (a refl)
others_watched me (Some h) w Unwatch a b c = absurd (b refl)
others_watched me (Some h) w Remove a b c = absurd (c refl)
others_watched me (Some h) w o a b c = refl

pub others_untold : (site : SiteId) (me : Instance) (image : ℕ) (to : List Instance) (o : HeaderOp) (mail : List Notice) → ((kind : NoticeKind) → o ≡ Notify kind → ⊥)
    → notified site me image to o mail ≡ mail
others_untold site me image to (Notify kind) mail a = absurd (a kind refl)
others_untold site me image to o mail a = refl

pub if_there : {T : Type 0} {P : T → Type 0} (o : Option T) → ((h : T) → o ≡ Some h → P h) → IfSome o P
if_there None all = tt
if_there (Some h) all = all h refl

-- of each image, where it holds of the one that changed and of the others as before
pub for_each : (P : Option HeaderView → List Instance → Type 0) (headers : ℕ → Option HeaderView) (watchers : ℕ → List Instance) (image : ℕ) (h : Option HeaderView) (w : List Instance)
    → P h w → ((i : ℕ) → P (headers i) (watchers i)) → (i : ℕ) → P (put headers image h i) (put watchers image w i)
for_each P headers watchers image h w here others i = go (eqb i image)
  where
    go : (b : Bool) → P (cond b h (headers i)) (cond b w (watchers i))
    go true = here
    go false = others i

pub watched_at : (P : List Instance → Type 0) (watchers : ℕ → List Instance) (image : ℕ) (w : List Instance) (i : ℕ)
    → (i ≡ image → P w) → P (watchers i) → P (put watchers image w i)
watched_at P watchers image w i here other = go (eqb i image) refl
  where
    go : (b : Bool) → eqb i image ≡ b → P (cond b w (watchers i))
    go true at = here (eqb-true i image at)
    go false at = other

-- ---- the map of a store, changed at one key

pub watchers_put : (old new : BTreeMap ℕ (List Instance)) (k : ℕ) (held : Option (List Instance)) (after : List Instance)
    → ((q : ℕ) → get nat_cmp new q ≡ cond (is_at (nat_cmp k) q) held (get nat_cmp old q)) → unwrap_or held [] ≡ after
    → (i : ℕ) → watchers_in new i ≡ put (watchers_in old) k after i
watchers_put old new k held after at_key is i = ap (λ (o : Option (List Instance)). unwrap_or o []) (at_key i) ∙ go (is_at (nat_cmp k) i) (eqb i k) (is_eq-nat_cmp k i)
  where
    go : (a b : Bool) → a ≡ b → unwrap_or (cond a held (get nat_cmp old i)) [] ≡ cond b after (watchers_in old i)
    go true true e = is
    go true false e = absurd (true≢false e)
    go false true e = absurd (true≢false (sym e))
    go false false e = refl

pub watchers_same : (old new : BTreeMap ℕ (List Instance)) (k : ℕ) (held : Option (List Instance))
    → ((q : ℕ) → get nat_cmp new q ≡ cond (is_at (nat_cmp k) q) held (get nat_cmp old q)) → unwrap_or held [] ≡ watchers_in old k
    → (i : ℕ) → watchers_in new i ≡ watchers_in old i
watchers_same old new k held at_key is i =
    watchers_put old new k held (watchers_in old k) at_key is i ∙ ap (λ (f : ℕ → List Instance). f i) (put_same (watchers_in old) k (watchers_in old k) refl)
