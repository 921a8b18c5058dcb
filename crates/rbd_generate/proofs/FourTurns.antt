-- What a client's commands are in four turns, one after another.
use Rattle.std.proofs.Common.{◌≡◌, ◌⊎◌, ℕ, ◌+◌, ◌%◌, suc, zero, Bool, true, false, cond, eqb, List, inl, inr, refl, ap, ◌∙◌, subst, arith}
use Rattle.std.specs.Prelude.{count_by, ◌&&◌, not}
use Rattle.rbd_commands.specs.declared.command.Command.{Command}
use Rattle.rbd_words.specs.declared.load.Load.{Load}
use Rattle.rbd_generate.specs.Generated.{command_by, generated_command, drawn, image_name, owner}
use Rattle.rbd_generate.specs.Laws.{discards, fills, four_turns, reads}

-- ---- what a number is a command of

module _ (number : ℕ) (image : List ℕ) where
  abbrev Is : (Command → Bool) → (ℕ → Bool) → Type 0
  Is p q = p (command_by number image) ≡ q (number % 4)

  pub by_number : (Is reads (λ r. eqb r 1)) × ((Is discards (λ r. not (eqb r 1) && eqb r 2)) × (Is fills (λ r. not (eqb r 1) && not (eqb r 2))))
  by_number = go (eqb (number % 4) 1) (eqb (number % 4) 2) refl refl
    where
      go : (read discard : Bool) → eqb (number % 4) 1 ≡ read → eqb (number % 4) 2 ≡ discard
          → (Is reads (λ r. eqb r 1)) × ((Is discards (λ r. not (eqb r 1) && eqb r 2)) × (Is fills (λ r. not (eqb r 1) && not (eqb r 2))))
      go true discard r d = rw r (refl, (refl, refl))
      go false true r d = rw (r, d) (refl, (refl, refl))
      go false false r d = rw (r, d) (refl, (refl, refl))

-- ---- the next turns

-- a turn later the number's rest is one more
next_turn : (load : Load) (client turn i : ℕ) → drawn load client (turn + i) % 4 ≡ (drawn load client turn % 4 + i) % 4
next_turn load client turn i = omega arith

-- a number's rest is one of four
rest_is : (n : ℕ) → (n % 4 ≡ 0) ⊎ ((n % 4 ≡ 1) ⊎ ((n % 4 ≡ 2) ⊎ (n % 4 ≡ 3)))
rest_is n = go (n % 4) refl
  where
    go : (rest : ℕ) → n % 4 ≡ rest → (n % 4 ≡ 0) ⊎ ((n % 4 ≡ 1) ⊎ ((n % 4 ≡ 2) ⊎ (n % 4 ≡ 3)))
    go zero is = inl is
    go (suc zero) is = inr (inl is)
    go (suc (suc zero)) is = inr (inr (inl is))
    go (suc (suc (suc zero))) is = inr (inr (inr is))
    go (suc (suc (suc (suc rest)))) is = absurd (omega (arith, is))

module _ (p : Command → Bool) (q : ℕ → Bool) (are : (number : ℕ) (image : List ℕ) → p (command_by number image) ≡ q (number % 4)) (load : Load) (client turn : ℕ) where
  abbrev one : ℕ → ℕ
  one rest = cond (q rest) 1 0

  in_turn : (i rest : ℕ) → (drawn load client turn % 4 + i) % 4 ≡ rest → cond (p (generated_command load client (turn + i))) 1 0 ≡ one rest
  in_turn i rest is =
      ap (λ b. cond b 1 0) (are (drawn load client (turn + i)) (image_name (owner load client (turn + i))) ∙ ap q (next_turn load client turn i ∙ is))

  -- the four of them
  abbrev turns : (a b c d : ℕ) → Type 0
  turns a b c d = count_by p (four_turns load client turn) ≡ one a + one b + one c + one d

  in_turns : (a b c d : ℕ) → drawn load client turn % 4 ≡ a → (a + 1) % 4 ≡ b → (a + 2) % 4 ≡ c → (a + 3) % 4 ≡ d → turns a b c d
  in_turns a b c d is_a is_b is_c is_d =
      let first = in_turn 0 a (omega (arith, is_a)) in
      let second = in_turn 1 b (omega (arith, is_a, is_b)) in
      let third = in_turn 2 c (omega (arith, is_a, is_c)) in
      let fourth = in_turn 3 d (omega (arith, is_a, is_d)) in
      let at : (from to : ℕ) → from ≡ to → (rest : ℕ) → cond (p (generated_command load client from)) 1 0 ≡ one rest → cond (p (generated_command load client to)) 1 0 ≡ one rest
      = λ from to same rest. subst (λ t. cond (p (generated_command load client t)) 1 0 ≡ one rest) same in
      let first_at = at (turn + 0) turn (omega arith) a first in
      let third_at = at (turn + 2) (turn + 1 + 1) (omega arith) c third in
      let fourth_at = at (turn + 3) (turn + 1 + 1 + 1) (omega arith) d fourth in
      omega (arith, first_at, second, third_at, fourth_at)

  pub counted : count_by p (four_turns load client turn) ≡ one 0 + one 1 + one 2 + one 3
  counted = by (rest_is (drawn load client turn))
    where
      by : (drawn load client turn % 4 ≡ 0) ⊎ ((drawn load client turn % 4 ≡ 1) ⊎ ((drawn load client turn % 4 ≡ 2) ⊎ (drawn load client turn % 4 ≡ 3))) → turns 0 1 2 3
      by (inl is) = in_turns 0 1 2 3 is refl refl refl
      by (inr (inl is)) = in_turns 1 2 3 0 is refl refl refl ∙ omega arith
      by (inr (inr (inl is))) = in_turns 2 3 0 1 is refl refl refl ∙ omega arith
      by (inr (inr (inr is))) = in_turns 3 0 1 2 is refl refl refl ∙ omega arith
