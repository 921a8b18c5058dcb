-- The script that is generated is one that can be played, and its lines are in order.
use Rattle.std.proofs.Common.{◌≡◌, ℕ, ◌+◌, ◌-◌, ◌*◌, ◌/◌, ◌%◌, ◌<◌, ◌≤◌, suc, zero, Bool, true, false, eqb, List, [], ◌∷◌, ◌++◌, length, map, All, refl, sym, subst, arith}
use Rattle.std.proofs.Common.{append-nil}
use Rattle.std.specs.List.{range_with_len}
use Rattle.std.proofs.lemmas.List.Elements.{All-cons, All-nil}
use Rattle.std.proofs.lemmas.List.FromFn.{length-map-range_with_len}
use Rattle.rbd_generate.specs.Generated.{client_of, command_by, command_line, create_line, drawn, image_name, generated_lines, owner, script_of, settle_line}
use Rattle.rbd_catalog.specs.Plans.{is_built}
use Rattle.rbd_schedule.specs.InOrder.{AreAscendingFrom, AreDeclared, AreLinesInOrder, NamesDeclared}
use Rattle.rbd_schedule.specs.Playing.{IsPlayable, IsPlayedLine}
use Rattle.rbd_script.specs.declared.script.Line.{Line}
use Rattle.rbd_words.specs.declared.load.Load.{Load}
use Rattle.rbd_words.specs.Load.{IsLoad}

-- ---- lines whose numbers follow one another

still_behind : (before number : ℕ) (lines : List Line) → before ≤ number → AreAscendingFrom number lines → AreAscendingFrom before lines
still_behind before number [] le behind = tt
still_behind before number (line ∷ lines) le (first, rest) = (omega (arith, first), rest)

-- lines made of numbers from a on, the line of k with the number base + k, and others behind them
numbered_then : (f : ℕ → Line) (base : ℕ) → ((k : ℕ) → (f k).number ≡ base + k) → (a n before : ℕ) (rest : List Line) → before < base + a → AreAscendingFrom (base + a + n - 1) rest
    → AreAscendingFrom before (map f (range_with_len a n) ++ rest)
numbered_then f base is a zero before rest low behind = still_behind before (base + a + 0 - 1) rest (omega (arith, low)) behind
numbered_then f base is a (suc n) before rest low behind =
    let same : base + a + suc n - 1 ≡ base + (a + 1) + n - 1 = omega arith in (
      subst (λ k. before < k) (sym (is a)) low,
      numbered_then f base is (a + 1) n (f a).number rest (omega (arith, is a)) (subst (λ k. AreAscendingFrom k rest) same behind),
    )

module _ (load : Load) where
  commands_behind : (before : ℕ) → before < 2 * load.clients + 2 → AreAscendingFrom before (map (command_line load) (range_with_len 0 (load.commands * load.clients)))
  commands_behind before low =
      subst (AreAscendingFrom before) (append-nil (map (command_line load) (range_with_len 0 (load.commands * load.clients))))
      (numbered_then (command_line load) (2 * load.clients + 2) (λ k. refl) 0 (load.commands * load.clients) before [] (omega (arith, low)) tt)

  pub generated_in_order : AreLinesInOrder (generated_lines load)
  generated_in_order =
      numbered_then (create_line load) load.clients (λ k. refl) 1 load.clients 0 (settle_line load ∷ map (command_line load) (range_with_len 0 (load.commands * load.clients))) (omega arith)
      (omega arith, commands_behind (2 * load.clients + 1) (omega arith))

-- ---- whom they name, and what they ask for

declared_then : (f : ℕ → Line) (sessions a n : ℕ) (rest : List Line) → ((k : ℕ) → a ≤ k → k < a + n → NamesDeclared sessions (f k).said) → AreDeclared sessions rest
    → AreDeclared sessions (map f (range_with_len a n) ++ rest)
declared_then f sessions a zero rest each others = others
declared_then f sessions a (suc n) rest each others = (each a (omega arith) (omega arith), declared_then f sessions (a + 1) n rest (λ k low high. each k (omega (arith, low)) (omega (arith, high))) others)

played_then : (f : ℕ → Line) (a n : ℕ) (rest : List Line) → ((k : ℕ) → IsPlayedLine (f k).said) → All (λ (line : Line). IsPlayedLine line.said) rest
    → All (λ (line : Line). IsPlayedLine line.said) (map f (range_with_len a n) ++ rest)
played_then f a zero rest each others = others
played_then f a (suc n) rest each others = All-cons (λ (line : Line). IsPlayedLine line.said) (f a) (map f (range_with_len (a + 1) n) ++ rest) (each a) (played_then f (a + 1) n rest each others)

built_by : (number : ℕ) (image : List ℕ) → is_built (command_by number image) ≡ true
built_by number image = go (eqb (number % 4) 1) (eqb (number % 4) 2) refl refl
  where
    go : (read discard : Bool) → eqb (number % 4) 1 ≡ read → eqb (number % 4) 2 ≡ discard → is_built (command_by number image) ≡ true
    go true discard r d = rw r refl
    go false true r d = rw (r, d) refl
    go false false r d = rw (r, d) refl

module _ (load : Load) (is : IsLoad load) where
  as_many : length (map client_of (range_with_len 1 load.clients)) ≡ load.clients
  as_many = length-map-range_with_len client_of 1 load.clients

  commands_declared : AreDeclared (length (map client_of (range_with_len 1 load.clients))) (map (command_line load) (range_with_len 0 (load.commands * load.clients)))
  commands_declared =
      subst (AreDeclared (length (map client_of (range_with_len 1 load.clients)))) (append-nil (map (command_line load) (range_with_len 0 (load.commands * load.clients))))
      (declared_then (command_line load) (length (map client_of (range_with_len 1 load.clients))) 0 (load.commands * load.clients) []
      (λ k low high. let part : k % load.clients < load.clients = omega (arith, is.some) in omega (arith, as_many, part)) tt)

  commands_played : All (λ (line : Line). IsPlayedLine line.said) (map (command_line load) (range_with_len 0 (load.commands * load.clients)))
  commands_played =
      subst (All (λ (line : Line). IsPlayedLine line.said)) (append-nil (map (command_line load) (range_with_len 0 (load.commands * load.clients))))
      (played_then (command_line load) 0 (load.commands * load.clients) [] (λ k. built_by (drawn load (1 + k % load.clients) (k / load.clients)) (image_name (owner load (1 + k % load.clients) (k / load.clients)))) (All-nil (λ (line : Line). IsPlayedLine line.said)))

  pub generated_playable : IsPlayable (script_of load)
  generated_playable = record {
    few = omega (arith, as_many, is.few);
    declared = declared_then (create_line load) (length (map client_of (range_with_len 1 load.clients))) 1 load.clients _ (λ k low high. omega (arith, as_many, low, high)) (tt, commands_declared);
    lines = played_then (create_line load) 1 load.clients _ (λ k. refl) (All-cons (λ (line : Line). IsPlayedLine line.said) (settle_line load) _ tt commands_played);
  }
