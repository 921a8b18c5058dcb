-- Tables of lines, with a line more or one less.
use Rattle.std.proofs.Common.{◌≡◌, ℕ, suc, ◌+◌, ◌<◌, ◌==◌, cond, nat_eq, ◌≢◌, ◌⊎◌, inl, inr, Bool, true, false, true≢false, List, [], ◌∷◌, ◌++◌, length, Option, Some, None, refl, sym, ap, subst, ◌∙◌, arith}
use Rattle.std.proofs.lemmas.Bool.{eqb-true}
use Rattle.std.proofs.lemmas.List.{length-append, length-map}
use Rattle.std.proofs.lemmas.Bool.Decides.{eqb_tells}
use Rattle.std.specs.HashMap.{HashMap, get}
use Rattle.std.specs.Map.{lookup}
use Rattle.rbd_queue.specs.Line.{LineView, Member, changed_member}
use Rattle.rbd_kinds.proofs.Images.{same_key}
use Rattle.rbd_kinds.specs.declared.id.SiteId.{SiteId}
use Rattle.rbd_kinds.specs.declared.id.SiteId.TheVariants as site
use Rattle.rbd_kinds.specs.declared.image_at.ImageAt.{ImageAt}
use Rattle.rbd_kinds.specs.Images.{key_of}
use Rattle.rbd_slots.specs.Lines.{AreUsed, AreUsedBut, IsUsed, LinesView, members_or, members_in, members_at, lines_of}
use Rattle.rbd_slots.specs.Track.{line_changed_at}

pub no_members : (members : List Member) → (length members == 0) ≡ true → members ≡ []
no_members [] is = refl
no_members (m ∷ members) is =
    let none : length (m ∷ members) ≡ 0 = eqb-true (length (m ∷ members)) 0 is in absurd (omega (arith, none))

pub some_members : (members : List Member) → (length members == 0) ≡ false → members ≢ []
some_members members is none = true≢false (sym (ap (λ (ms : List Member). length ms == 0) none) ∙ is)

module _ {S : Type 0} where
  pub opened : (old mid new : HashMap ℕ LineView S) (key : ℕ) (line : LineView) (m : Member) → ((k : ℕ) → get nat_eq new k ≡ cond (nat_eq key k) (Some line) (get nat_eq mid k))
      → ((k : ℕ) → get nat_eq mid k ≡ get nat_eq old k) → get nat_eq old key ≡ None → line.members ≡ m ∷ []
      → (k : ℕ) → members_in new k ≡ cond (nat_eq key k) (members_in old k ++ m ∷ []) (members_in old k)
  opened old mid new key line m added same absent is k = ap members_or (added k) ∙ go (nat_eq key k) refl
    where
      go : (b : Bool) → nat_eq key k ≡ b → members_or (cond (nat_eq key k) (Some line) (get nat_eq mid k)) ≡ cond (nat_eq key k) (members_in old k ++ m ∷ []) (members_in old k)
      go true here =
          rw here (is ∙ ap (λ o. members_or o ++ m ∷ []) (sym absent) ∙ ap (λ j. members_in old j ++ m ∷ []) (eqb-true key k here))
      go false other = rw other (ap members_or (same k))

  pub forgotten : (old new : HashMap ℕ LineView S) (key : ℕ) → ((k : ℕ) → get nat_eq new k ≡ cond (nat_eq key k) None (get nat_eq old k)) → (length (members_in old key) == 0) ≡ true
      → (k : ℕ) → members_in new k ≡ members_in old k
  forgotten old new key gone empty k = ap members_or (gone k) ∙ go (nat_eq key k) refl
    where
      go : (b : Bool) → nat_eq key k ≡ b → members_or (cond (nat_eq key k) None (get nat_eq old k)) ≡ members_in old k
      go true here = rw here (sym (no_members (members_in old key) empty) ∙ ap (members_in old) (eqb-true key k here))
      go false other = rw other refl

  pub not_held : (old new : HashMap ℕ LineView S) (key : ℕ) → ((k : ℕ) → get nat_eq new k ≡ cond (nat_eq key k) None (get nat_eq old k))
      → get nat_eq new key ≡ None
  not_held old new key gone = gone key ∙ go (eqb_tells key key)
    where
      go : ((nat_eq key key ≡ true) × (key ≡ key)) ⊎ ((nat_eq key key ≡ false) × (key ≢ key)) → cond (nat_eq key key) None (get nat_eq old key) ≡ None
      go (inl (is, _)) = ap (λ b. cond b None (get nat_eq old key)) is
      go (inr (_, apart)) = absurd (apart refl)

-- ---- lines that are held have a member

module _ (old new : List (ℕ × LineView)) (key : ℕ) where
  -- where a line is put
  pub used_put : (line : LineView) → ((k : ℕ) → lookup (nat_eq k) new ≡ cond (nat_eq key k) (Some line) (lookup (nat_eq k) old)) → 0 < length line.members → AreUsed old → AreUsed new
  used_put line put some used k = subst IsUsed (sym (put k)) (by (nat_eq key k))
    where
      by : (b : Bool) → IsUsed (cond b (Some line) (lookup (nat_eq k) old))
      by true = some
      by false = used k

  -- where one changes from which somebody may have left
  pub used_but : (line : LineView) → ((k : ℕ) → lookup (nat_eq k) new ≡ cond (nat_eq key k) (Some line) (lookup (nat_eq k) old)) → AreUsed old → AreUsedBut key new
  used_but line put used k other = subst IsUsed (sym (put k ∙ ap (λ b. cond b (Some line) (lookup (nat_eq k) old)) other)) (used k)

  -- where one goes
  pub used_gone : ((k : ℕ) → lookup (nat_eq k) new ≡ cond (nat_eq key k) None (lookup (nat_eq k) old)) → AreUsedBut key old → AreUsed new
  used_gone gone used k = subst IsUsed (sym (gone k)) (by (nat_eq key k) refl)
    where
      by : (b : Bool) → nat_eq key k ≡ b → IsUsed (cond b None (lookup (nat_eq k) old))
      by true here = tt
      by false other = used k other

-- a line with members is used
pub held_used : (o : Option LineView) → members_or o ≢ [] → IsUsed o
held_used None some = absurd (some refl)
held_used (Some line) some = by line.members refl
  where
    by : (members : List Member) → line.members ≡ members → 0 < length line.members
    by [] none = absurd (some none)
    by (m ∷ members) are = let long : length line.members ≡ suc (length members) = ap length are in omega (arith, long)

-- nobody was left out
pub used_itself : (entries : List (ℕ × LineView)) (key : ℕ) → IsUsed (lookup (nat_eq key) entries) → AreUsedBut key entries → AreUsed entries
used_itself entries key here others k = by (nat_eq key k) refl
  where
    by : (b : Bool) → nat_eq key k ≡ b → IsUsed (lookup (nat_eq k) entries)
    by true same = subst (λ n. IsUsed (lookup (nat_eq n) entries)) (eqb-true key k same) here
    by false other = others k other

-- and that many members there are behind a change of some
pub some_changed : (slot : ℕ) (f : Member → Member) (members changed : List Member) → changed ≡ changed_member slot f members → 0 < length members → 0 < length changed
some_changed slot f members changed are some = subst (λ n. 0 < n) (sym (ap length are ∙ length-map members (λ m. cond (m.slot == slot) (f m) m))) some

pub some_joined : (members joined : List Member) (m : Member) → joined ≡ members ++ m ∷ [] → 0 < length joined
some_joined members joined m are = let long : length joined ≡ length members + 1 = ap length are ∙ length-append members (m ∷ []) in omega (arith, long)

-- ---- keys

-- the line of an image changes where the one of its key does
pub at_image : (p : ImageAt) (change : List Member → List Member) (old new : LinesView)
    → ((k : ℕ) → members_at k new ≡ cond (nat_eq (key_of p.site p.image) k) (change (members_at k old)) (members_at k old))
    → (s : SiteId) (i : ℕ) → lines_of new s i ≡ line_changed_at (Some p) change (lines_of old) s i
at_image p change old new changes s i =
    changes (key_of s i) ∙ ap (λ b. cond b (change (lines_of old s i)) (lines_of old s i)) (same_key p.site p.image s i)
