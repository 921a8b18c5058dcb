-- The next token of a line.
use Rattle.std.proofs.Common.{◌≡◌, ◌≢◌, ℕ, ◌+◌, ◌<◌, ◌≤◌, suc, Bool, true, false, not, eqb, List, [], ◌∷◌, length, get_or, take, drop, refl, ap, sym, ◌∙◌, arith}
use Rattle.std.specs.List.{filter, slice_split, onto_first, position_or_len}
use Rattle.std.proofs.lemmas.Bool.{eq-eqb, ne_eqb}
use Rattle.std.proofs.lemmas.List.Sums.{position_or_len_is}
use Rattle.rbd_script.specs.Token.{tokens_of, has_any_byte}

abbrev space : ℕ → Bool
space b = eqb b 32

abbrev no_space : ℕ → Bool
no_space b = not (eqb b 32)

is_space : (b : ℕ) → b ≡ 32 → space b ≡ true
is_space b e = ap space e

is_no_space : (b : ℕ) → b ≢ 32 → space b ≡ false
is_no_space b ne = grind arith

-- a place before which all are spaces, and at which none is
pub blanks_at : (line : List ℕ) (i : ℕ) → i ≤ length line → ((k : ℕ) → k < i → get_or line k 0 ≡ 32) → (i < length line → get_or line i 0 ≢ 32) → i ≡ position_or_len no_space line
blanks_at line i within before here =
    sym (position_or_len_is no_space line i 0 within (λ k h. ap not (is_space _ (before k h))) (λ h. ap not (is_no_space _ (here h))))

pub place_at : (wanted : ℕ) (text : List ℕ) (i : ℕ) → i ≤ length text → ((k : ℕ) → k < i → get_or text k 0 ≢ wanted) → (i < length text → get_or text i 0 ≡ wanted) → i ≡ position_or_len (λ b. eqb b wanted) text
place_at wanted text i within before here =
    sym (position_or_len_is (λ b. eqb b wanted) text i 0 within (λ k h. ne_eqb _ wanted (before k h)) (λ h. eq-eqb _ wanted (here h)))

one_more : (n : ℕ) → 1 + n ≡ suc n
one_more n = omega arith

pub take_one_more : (n b : ℕ) (line : List ℕ) → take (1 + n) (b ∷ line) ≡ b ∷ take n line
take_one_more n b line = rw (one_more n) refl

pub drop_one_more : (n b : ℕ) (line : List ℕ) → drop (1 + n) (b ∷ line) ≡ drop n line
drop_one_more n b line = rw (one_more n) refl

-- what stands before the first space is a part, and the parts behind it are those of the rest
record Parts (line : List ℕ) : Type 0 where
  more : List (List ℕ)
  split : slice_split space line ≡ take (position_or_len space line) line ∷ more
  kept : filter has_any_byte more ≡ tokens_of (drop (position_or_len space line) line)

parts : (line : List ℕ) → Parts line
parts [] = record { more = []; split = refl; kept = refl }
parts (b ∷ line) = go (space b) refl (parts line)
  where
    go : (t : Bool) → space b ≡ t → Parts line → Parts (b ∷ line)
    go true is rest = record {
      more = slice_split space line;
      split = rw is refl;
      kept = rw is (rw is refl);
    }
    go false is rest = record {
      more = rest.more;
      split = rw is (ap (onto_first b) rest.split ∙ ap (λ t. t ∷ rest.more) (sym (take_one_more _ b line)));
      kept = rw is (rest.kept ∙ ap tokens_of (sym (drop_one_more _ b line)));
    }

pub no_token : (line : List ℕ) → drop (position_or_len no_space line) line ≡ [] → tokens_of line ≡ []
no_token [] none = refl
no_token (b ∷ line) none = go (space b) refl none (no_token line)
  where
    go : (t : Bool) → space b ≡ t → drop (position_or_len no_space (b ∷ line)) (b ∷ line) ≡ [] → (drop (position_or_len no_space line) line ≡ [] → tokens_of line ≡ []) → tokens_of (b ∷ line) ≡ []
    go true is e rest = rw is (rest (sym (drop_one_more _ b line) ∙ rw is at e))
    go false is e rest = absurd (let f : b ∷ line ≡ [] = rw is at e in cc)

pub nothing_left : (line rest : List ℕ) → drop (position_or_len no_space line) line ≡ rest → length rest ≡ 0 → tokens_of line ≡ []
nothing_left line [] is none = no_token line is
nothing_left line (b ∷ rest) is none = absurd (omega arith)

-- the token at the front of a line that begins with one
front_token : (b : ℕ) (line : List ℕ) → space b ≡ false → tokens_of (b ∷ line) ≡ take (position_or_len space (b ∷ line)) (b ∷ line) ∷ tokens_of (drop (position_or_len space (b ∷ line)) (b ∷ line))
front_token b line is =
    let p = parts (b ∷ line) in
    ap (filter has_any_byte) p.split ∙ rw is (rw (take_one_more (position_or_len space line) b line) (ap (λ ts. (b ∷ take (position_or_len space line) line) ∷ ts) (rw is at p.kept)))

pub first_token : (line rest : List ℕ) → drop (position_or_len no_space line) line ≡ rest → 0 < length rest → tokens_of line ≡ take (position_or_len space rest) rest ∷ tokens_of (drop (position_or_len space rest) rest)
first_token [] rest is some = absurd (omega (arith, ap length is))
first_token (b ∷ line) rest is some = go (space b) refl is (first_token line rest)
  where
    go : (t : Bool) → space b ≡ t → drop (position_or_len no_space (b ∷ line)) (b ∷ line) ≡ rest → (drop (position_or_len no_space line) line ≡ rest → 0 < length rest → tokens_of line ≡ take (position_or_len space rest) rest ∷ tokens_of (drop (position_or_len space rest) rest)) → tokens_of (b ∷ line) ≡ take (position_or_len space rest) rest ∷ tokens_of (drop (position_or_len space rest) rest)
    go true is e later = rw is (later (sym (drop_one_more _ b line) ∙ rw is at e) some)
    go false is e later = let same : b ∷ line ≡ rest = rw is at e in rw (← same) (front_token b line is)
