-- The parts of forms and their tokens.
use Rattle.std.proofs.Common.{◌≡◌, ℕ, ◌<◌, ◌≤◌, ◌^◌, cond, Bool, true, false, List, [], ◌∷◌, ◌++◌, Option, Some, None, Result, Ok, Err, refl, sym, ap, ◌∙◌, subst}
use Rattle.std.specs.Prelude.{decimal, IfSome}
use Rattle.std.specs.Cmp.Lexicographic.{same_text}
use Rattle.hex.specs.Hex.{encode_lower}
use Rattle.rbd_values.specs.Name.{IsAskedName}
use Rattle.rbd_script.specs.declared.fault.LineCause.{LineCause}
use Rattle.rbd_script.specs.declared.fault.LineCause.TheVariants.{UnknownWord}
use Rattle.rbd_script.specs.Form.{and_then, form, From}
use Rattle.rbd_script.specs.Hex.{byte_of_digits, bytes_of_digits}
use Rattle.rbd_script.specs.Name.{name_of_token, snap_of_token, target_of}
use Rattle.rbd_script.specs.Number.{number_between}
use Rattle.rbd_script.specs.Part.{with_rest, flag, Front, given_number, option, Part, part_of, place, Value}
use Rattle.rbd_script.specs.Part.Part.{Byte, CommandWord, Flag, Hex, Image, Kind, MirrorWord, NewSession, Number, Optional, ScheduleWord, Session, Site, Snap, SnapWord, Target, Times}
use Rattle.rbd_script.specs.Spelling.{flag_tokens, IsHex, option_tokens, snap_token, target_token}
use Rattle.rbd_script.specs.Token.{is as same}
use Rattle.rbd_script.proofs.HexSpelling.{byte_said, hex_said}
use Rattle.rbd_script.proofs.TokenSpelling.{name_said, number_said, ok_is, snap_said, target_said}

abbrev Tokens : Type 0
Tokens = List (List ℕ)

-- what a part says in front of the rest
abbrev pub Says : (p : Part) → Value p → List (List ℕ) → List (List ℕ) → Type 0
Says Image v ts rest = (ts ≡ v ∷ rest) × IsAskedName v
Says Snap v ts rest = (ts ≡ snap_token v.0 v.1 ∷ rest) × IsAskedName v.0 × IsAskedName v.1
Says Target v ts rest = (ts ≡ target_token v.0 v.1 ∷ rest) × IsAskedName v.0 × IfSome v.1 IsAskedName
Says (Number most) v ts rest = most < 2 ^ 64 → (ts ≡ decimal v ∷ rest) × (v ≤ most)
Says Hex v ts rest = (ts ≡ encode_lower v ∷ rest) × IsHex v
Says Byte v ts rest = (ts ≡ encode_lower (v ∷ []) ∷ rest) × (v < 256)
Says Site v ts rest = part_of Site ts ≡ Ok (v, rest)
Says Kind v ts rest = part_of Kind ts ≡ Ok (v, rest)
Says (Session sessions) v ts rest = part_of (Session sessions) ts ≡ Ok (v, rest)
Says (NewSession sessions) v ts rest = part_of (NewSession sessions) ts ≡ Ok (v, rest)
Says CommandWord v ts rest = part_of CommandWord ts ≡ Ok (v, rest)
Says SnapWord v ts rest = part_of SnapWord ts ≡ Ok (v, rest)
Says MirrorWord v ts rest = part_of MirrorWord ts ≡ Ok (v, rest)
Says ScheduleWord v ts rest = part_of ScheduleWord ts ≡ Ok (v, rest)
Says Times v ts rest = part_of Times ts ≡ Ok (v, rest)
Says (Optional word most) v ts rest = most < 2 ^ 64 → (ts ≡ option_tokens word v ++ rest) × IfSome v (λ n. n ≤ most)
Says (Flag word) v ts rest = ts ≡ flag_tokens word v ++ rest

-- the parts one after another
abbrev pub IsForm : {A : Type 0} → (parts : List Part) → From parts A → List (List ℕ) → A → Type 0
IsForm [] said ts a = (ts ≡ []) × (said ≡ a)
IsForm (p ∷ parts) said ts a = (v : Value p) × (rest : List (List ℕ)) × Says p v ts rest × IsForm parts (said v) rest a

pub pair_is : {A B : Type 0} (x y : A) (u v : B) → ◌≡◌ {A = Result (A × B) LineCause} (Ok (x, u)) (Ok (y, v)) → (x ≡ y) × (u ≡ v)
pair_is {A = A} {B = B} x y u v is =
    let same : ◌≡◌ {A = A × B} (x, u) (y, v) = ok_is {E = LineCause} (x, u) (y, v) is in
    (ap (λ (p : A × B). p.0) same, ap (λ (p : A × B). p.1) same)

pub before_ok : {A : Type 0} (r : Result A LineCause) (ts rest : Tokens) (v : A) → with_rest ts r ≡ Ok (v, rest) → (r ≡ Ok v) × (ts ≡ rest)
before_ok (Ok x) ts rest v is = let same = pair_is x v ts rest is in (ap Ok same.0, same.1)
before_ok (Err cause) ts rest v is = cc

pub place_ok : {A : Type 0} (f : List ℕ → Result A LineCause) (ts rest : Tokens) (v : A) → place f ts ≡ Ok (v, rest) → (t : List ℕ) × (ts ≡ t ∷ rest) × (f t ≡ Ok v)
place_ok f [] rest v is = cc
place_ok f (t ∷ ts) rest v is = let two = before_ok (f t) ts rest v is in (t, ap (λ x. t ∷ x) two.1, two.0)

given_ok : (r : Front ℕ) (o : Option ℕ) (rest : Tokens) → given_number r ≡ Ok (o, rest) → (n : ℕ) × (r ≡ Ok (n, rest)) × (o ≡ Some n)
given_ok (Ok (n, left)) o rest is = let same = pair_is (Some n) o left rest is in (n, ap (λ x. Ok (n, x)) same.1, sym same.0)
given_ok (Err cause) o rest is = cc

abbrev IsOption : (word : List ℕ) (most : ℕ) → Option ℕ → Tokens → Tokens → Type 0
IsOption word most o ts rest = (ts ≡ option_tokens word o ++ rest) × IfSome o (λ n. n ≤ most)

option_said : (word : List ℕ) (most : ℕ) (ts rest : Tokens) (o : Option ℕ) → option word (number_between 0 most) ts ≡ Ok (o, rest) → most < 2 ^ 64 → IsOption word most o ts rest
option_said word most [] rest o is small =
    let same = pair_is None o [] rest is in
    subst (λ x. IsOption word most x [] rest) same.0 (same.1, tt)
option_said word most (t ∷ ts) rest o is small = go (same word t) refl is
  where
    go : (b : Bool) → same word t ≡ b → cond {A = Front (Option ℕ)} b (given_number (place (number_between 0 most) ts)) (Ok (None, t ∷ ts)) ≡ Ok (o, rest) → IsOption word most o (t ∷ ts) rest
    go true told is =
        let n = given_ok (place (number_between 0 most) ts) o rest is in
        let p = place_ok (number_between 0 most) ts rest n.0 n.1 in
        let said = number_said 0 most n.0 p.0 small p.2 in
        let first : t ≡ word = same_text t word (sym told) in
        subst (λ x. IsOption word most x (t ∷ ts) rest) (sym n.2) ((λ j. first j ∷ (p.1 ∙ ap (λ x. x ∷ rest) said.0) j), said.2)
    go false told is =
        let same = pair_is None o (t ∷ ts) rest is in
        subst (λ x. IsOption word most x (t ∷ ts) rest) same.0 (same.1, tt)

flag_said : (word : List ℕ) (ts rest : Tokens) (b : Bool) → flag word ts ≡ Ok (b, rest) → ts ≡ flag_tokens word b ++ rest
flag_said word [] rest b is =
    let same = pair_is false b [] rest is in
    subst (λ x. [] ≡ flag_tokens word x ++ rest) same.0 same.1
flag_said word (t ∷ ts) rest b is = go (same word t) refl is
  where
    go : (c : Bool) → same word t ≡ c → cond {A = Front Bool} c (Ok (true, ts)) (Err UnknownWord) ≡ Ok (b, rest) → t ∷ ts ≡ flag_tokens word b ++ rest
    go true told is =
        let same = pair_is true b ts rest is in
        let first : t ≡ word = same_text t word (sym told) in
        subst (λ x. t ∷ ts ≡ flag_tokens word x ++ rest) same.0 (λ j. first j ∷ same.1 j)
    go false told is = cc

-- what is read of a part is what it says
says : (p : Part) (ts rest : Tokens) (v : Value p) → part_of p ts ≡ Ok (v, rest) → Says p v ts rest
unfolding part_of
says Image ts rest v is = let p = place_ok name_of_token ts rest v is in let n = name_said p.0 v p.2 in (p.1 ∙ ap (λ x. x ∷ rest) n.0, n.1)
says Snap ts rest v is = let p = place_ok snap_of_token ts rest v is in let n = snap_said p.0 v.0 v.1 p.2 in (p.1 ∙ ap (λ x. x ∷ rest) n.0, n.1, n.2)
says Target ts rest v is = let p = place_ok target_of ts rest v is in let n = target_said p.0 v.0 v.1 p.2 in (p.1 ∙ ap (λ x. x ∷ rest) n.0, n.1, n.2)
says (Number most) ts rest v is = λ small.
    let p = place_ok (number_between 0 most) ts rest v is in
    let n = number_said 0 most v p.0 small p.2 in
    (p.1 ∙ ap (λ x. x ∷ rest) n.0, n.2)
says Hex ts rest v is = let p = place_ok bytes_of_digits ts rest v is in let n = hex_said p.0 v p.2 in (p.1 ∙ ap (λ x. x ∷ rest) n.0, n.1)
says Byte ts rest v is = let p = place_ok byte_of_digits ts rest v is in let n = byte_said p.0 v p.2 in (p.1 ∙ ap (λ x. x ∷ rest) n.0, n.1)
says Site ts rest v is = is
says Kind ts rest v is = is
says (Session sessions) ts rest v is = is
says (NewSession sessions) ts rest v is = is
says CommandWord ts rest v is = is
says SnapWord ts rest v is = is
says MirrorWord ts rest v is = is
says ScheduleWord ts rest v is = is
says Times ts rest v is = is
says (Optional word most) ts rest v is = option_said word most ts rest v is
says (Flag word) ts rest v is = flag_said word ts rest v is

pub and_then_ok : {X A : Type 0} (r : Front X) (next : X → Tokens → Result A LineCause) (a : A) → and_then r next ≡ Ok a → (x : X) × (rest : Tokens) × (r ≡ Ok (x, rest)) × (next x rest ≡ Ok a)
and_then_ok (Ok (x, rest)) next a is = (x, rest, refl, is)
and_then_ok (Err cause) next a is = cc

pub form_says : {A : Type 0} (parts : List Part) (said : From parts A) (ts : Tokens) (a : A) → form parts said ts ≡ Ok a → IsForm parts said ts a
unfolding form
form_says [] said [] a is = (refl, ok_is {E = LineCause} said a is)
form_says [] said (t ∷ ts) a is = cc
form_says (p ∷ parts) said ts a is =
    let step = and_then_ok (part_of p ts) (λ value behind. form parts (said value) behind) a is in
    (step.0, step.1, says p ts step.1 step.0 step.2, form_says parts (said step.0) step.1 a step.3)
