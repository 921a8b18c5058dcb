-- How many lines of a kind there are, and where their commands are.
use Rattle.std.proofs.Common.{◌≡◌, ℕ, ◌+◌, ◌*◌, ◌/◌, ◌%◌, ◌<◌, ◌≤◌, suc, zero, Bool, true, false, cond, eqb, List, [], ◌∷◌, ◌++◌, map, All, refl, sym, ap, ◌∙◌, arith}
use Rattle.std.specs.Prelude.{count_by}
use Rattle.std.specs.List.{range_with_len}
use Rattle.std.proofs.lemmas.List.Elements.{All-cons, All-nil}
use Rattle.std.proofs.lemmas.List.FromFn.{sum_by-map-range_with_len_more}
use Rattle.std.proofs.lemmas.List.Sums.{sum_by-append}
use Rattle.rbd_script.specs.declared.script.Line.{Line}
use Rattle.rbd_words.specs.declared.load.Load.{Load}
use Rattle.rbd_generate.specs.Generated.{command_by, command_line, create_line, drawn, image_name, generated_lines, owner, settle_line}
use Rattle.rbd_generate.specs.Laws.{SaysInside, StaysInside, creates_image, makes_image}
use Rattle.rbd_generate.specs.Summary.{command_count, is_command}

-- ---- counts

-- of n lines that are all of a kind
all_counted : (p : Line → Bool) (f : ℕ → Line) (a n : ℕ) → ((k : ℕ) → p (f k) ≡ true) → count_by p (map f (range_with_len a n)) ≡ n
all_counted p f a zero each = refl
all_counted p f a (suc n) each =
    let more : n + 1 ≡ suc n = omega arith in
    ap (λ m. count_by p (map f (range_with_len a m))) (sym more)
    ∙ sum_by-map-range_with_len_more (λ line. cond (p line) 1 0) f a n (a + n) refl
    ∙ ap (λ m. m + cond (p (f (a + n))) 1 0) (all_counted p f a n each)
    ∙ ap (λ b. n + cond b 1 0) (each (a + n))
    ∙ more

-- of n lines of which none is
none_counted : (p : Line → Bool) (f : ℕ → Line) (a n : ℕ) → ((k : ℕ) → p (f k) ≡ false) → count_by p (map f (range_with_len a n)) ≡ 0
none_counted p f a zero each = refl
none_counted p f a (suc n) each =
    let more : n + 1 ≡ suc n = omega arith in
    let nothing : (m : ℕ) → m + 0 ≡ m = λ m. omega arith in
    ap (λ m. count_by p (map f (range_with_len a m))) (sym more)
    ∙ sum_by-map-range_with_len_more (λ line. cond (p line) 1 0) f a n (a + n) refl
    ∙ ap (λ m. m + cond (p (f (a + n))) 1 0) (none_counted p f a n each)
    ∙ ap (λ b. 0 + cond b 1 0) (each (a + n))

-- a line that isn't counted
without_first : (p : Line → Bool) (line : Line) (lines : List Line) → p line ≡ false → count_by p (line ∷ lines) ≡ count_by p lines
without_first p line lines out =
    sum_by-append (λ l. cond (p l) 1 0) (line ∷ []) lines
    ∙ ap (λ b. 0 + cond b 1 0 + count_by p lines) out
    ∙ nothing (count_by p lines)
  where
    nothing : (n : ℕ) → 0 + n ≡ n
    nothing n = omega arith

-- a command doesn't make an image
makes_none : (number : ℕ) (image : List ℕ) → creates_image (command_by number image) ≡ false
makes_none number image = go (eqb (number % 4) 1) (eqb (number % 4) 2) refl refl
  where
    go : (read discard : Bool) → eqb (number % 4) 1 ≡ read → eqb (number % 4) 2 ≡ discard → creates_image (command_by number image) ≡ false
    go true discard r d = rw r refl
    go false true r d = rw (r, d) refl
    go false false r d = rw (r, d) refl

pub images_counted : (load : Load) → count_by makes_image (generated_lines load) ≡ load.clients
images_counted load =
    let nothing : load.clients + 0 ≡ load.clients = omega arith in
    sum_by-append (λ (line : Line). cond (makes_image line) 1 0) (map (create_line load) (range_with_len 1 load.clients)) (settle_line load ∷ map (command_line load) (range_with_len 0 (load.commands * load.clients)))
    ∙ ap (λ n. n + count_by makes_image (settle_line load ∷ map (command_line load) (range_with_len 0 (load.commands * load.clients)))) (all_counted makes_image (create_line load) 1 load.clients (λ k. refl))
    ∙ ap (λ n. load.clients + n)
    (without_first makes_image (settle_line load) (map (command_line load) (range_with_len 0 (load.commands * load.clients))) refl
    ∙ none_counted makes_image (command_line load) 0 (load.commands * load.clients) (λ k. makes_none (drawn load (1 + k % load.clients) (k / load.clients)) (image_name (owner load (1 + k % load.clients) (k / load.clients)))))
    ∙ nothing

pub commands_counted : (load : Load) → command_count (generated_lines load) ≡ load.clients + load.commands * load.clients
commands_counted load =
    sum_by-append (λ (line : Line). cond (is_command line.said) 1 0) (map (create_line load) (range_with_len 1 load.clients)) (settle_line load ∷ map (command_line load) (range_with_len 0 (load.commands * load.clients)))
    ∙ ap (λ n. n + command_count (settle_line load ∷ map (command_line load) (range_with_len 0 (load.commands * load.clients)))) (all_counted (λ (line : Line). is_command line.said) (create_line load) 1 load.clients (λ k. refl))
    ∙ ap (λ n. load.clients + n)
    (without_first (λ (line : Line). is_command line.said) (settle_line load) (map (command_line load) (range_with_len 0 (load.commands * load.clients))) refl
    ∙ all_counted (λ (line : Line). is_command line.said) (command_line load) 0 (load.commands * load.clients) (λ k. refl))

-- ---- places

inside_by : (number : ℕ) (image : List ℕ) → StaysInside (command_by number image)
inside_by number image = go (eqb (number % 4) 1) (eqb (number % 4) 2) refl refl
  where
    low : 64 * (number % 16384) + 64 ≤ 1048576
    low = let part : number % 16384 < 16384 = omega arith in omega (arith, part)

    go : (read discard : Bool) → eqb (number % 4) 1 ≡ read → eqb (number % 4) 2 ≡ discard → StaysInside (command_by number image)
    go true discard r d = rw r (omega arith, low)
    go false true r d = rw (r, d) (omega arith, low)
    go false false r d = rw (r, d) (omega arith, low)

inside_then : (f : ℕ → Line) (a n : ℕ) (rest : List Line) → ((k : ℕ) → SaysInside (f k).said) → All (λ (line : Line). SaysInside line.said) rest
    → All (λ (line : Line). SaysInside line.said) (map f (range_with_len a n) ++ rest)
inside_then f a zero rest each others = others
inside_then f a (suc n) rest each others = All-cons (λ (line : Line). SaysInside line.said) (f a) (map f (range_with_len (a + 1) n) ++ rest) (each a) (inside_then f (a + 1) n rest each others)

inside_alone : (f : ℕ → Line) (a n : ℕ) → ((k : ℕ) → SaysInside (f k).said) → All (λ (line : Line). SaysInside line.said) (map f (range_with_len a n))
inside_alone f a zero each = All-nil (λ (line : Line). SaysInside line.said)
inside_alone f a (suc n) each = All-cons (λ (line : Line). SaysInside line.said) (f a) (map f (range_with_len (a + 1) n)) (each a) (inside_alone f (a + 1) n each)

pub all_inside : (load : Load) → All (λ (line : Line). SaysInside line.said) (generated_lines load)
all_inside load =
    inside_then (create_line load) 1 load.clients _ (λ k. refl)
    (All-cons (λ (line : Line). SaysInside line.said) (settle_line load) _ tt (inside_alone (command_line load) 0 (load.commands * load.clients) (λ k. inside_by (drawn load (1 + k % load.clients) (k / load.clients)) (image_name (owner load (1 + k % load.clients) (k / load.clients))))))
