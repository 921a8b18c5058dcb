-- What becomes of the session that an event names becomes of all, as the others stay.
use Rattle.std.proofs.Common.{◌≡◌, ◌≢◌, ℕ, Bool, zero, suc, ◌==◌, ◌<◌, ◌≤◌, true, false, List, [], ◌∷◌, length, Option, Some, None, OnErr, OnOk, Result, Ok, Err, slice_get, slice_index_or, slice_set, refl, sym, ap, ◌∙◌, subst, arith}
use Rattle.std.proofs.lemmas.Bool.{true≢false, eqb-true, eq-eqb}
use Rattle.std.proofs.lemmas.Option.{slice_get_past, slice_get_read, slice_get_within, none-some}
use Rattle.rbd_client.specs.Client.{ClientView}
use Rattle.rbd_client.specs.Feeding.{IsClientAlike}
use Rattle.rbd_client.specs.Sound.{IsSoundClient}
use Rattle.rbd_machine.specs.Plan.{Standing}
use Rattle.rbd_slots.proofs.Readied.{alike_itself}
use Rattle.rbd_world.specs.declared.event.Event.{Event}
use Rattle.rbd_world.specs.Run.{Happening, Nothing}
use Rattle.rbd_world.specs.Step.{AreLivesAlike, BecomesOf, DoesToLives, IsAlikeOf, IsClientAlikeIf, IsSoundIf, LeavesLives, LivesOn, LivesOnIf, late_behind, names_session}
use Rattle.rbd_world.specs.World.{LivesView, client_in, lives_in, running_of}

-- ---- a list with another element at one place

get_set : {T : Type 0} (xs : List T) (i : ℕ) (x : T) → i < length xs → slice_get (slice_set xs i x) i ≡ Some x
get_set [] i x within = absurd (omega arith)
get_set (y ∷ xs) zero x within = refl
get_set (y ∷ xs) (suc i) x within = get_set xs i x (omega arith)

get_other : {T : Type 0} (xs : List T) (i j : ℕ) (x : T) → j ≢ i → slice_get (slice_set xs i x) j ≡ slice_get xs j
get_other [] i j x apart = refl
get_other (y ∷ xs) zero zero x apart = absurd (apart refl)
get_other (y ∷ xs) zero (suc j) x apart = refl
get_other (y ∷ xs) (suc i) zero x apart = refl
get_other (y ∷ xs) (suc i) (suc j) x apart = get_other xs i j x (λ e. apart (ap suc e))

-- what is there is written again
pub set_same : {X : Type 0} (xs : List X) (n : ℕ) (x : X) → slice_get xs n ≡ Some x → slice_set xs n x ≡ xs
set_same [] n x is = refl
set_same {X} (z ∷ xs) zero x is = ap (λ o. or_x o ∷ xs) (sym is)
  where
    or_x : Option X → X
    or_x None = x
    or_x (Some y) = y
set_same (z ∷ xs) (suc n) x is = ap (λ ys. z ∷ ys) (set_same xs n x is)

pub set_unless : {T F X : Type 0} (r : Result T F) (xs : List X) (at : ℕ) (x y : X) → slice_get xs at ≡ Some x → OnErr r (y ≡ x) → OnErr r (slice_set xs at y ≡ xs)
set_unless (Ok v) xs at x y there same = tt
set_unless (Err e) xs at x y there same = ap (slice_set xs at) same ∙ set_same xs at x there

pub on_both : {T F : Type 0} (r : Result T F) (P Q S : Type 0) → (P → Q → S) → OnOk r P → OnOk r Q → OnOk r S
on_both (Ok v) P Q S f p q = f p q
on_both (Err e) P Q S f p q = tt

pub always_err : {T F : Type 0} (r : Result T F) (P : Type 0) → P → OnErr r P
always_err (Ok v) P p = tt
always_err (Err e) P p = p

-- the session there is the new one, and the others are as they were
pub lives_set : {R : Type 0} (n : ℕ) (xs : List (LivesView R)) (old new : LivesView R) → lives_in n xs ≡ Some old → lives_in n (slice_set xs n new) ≡ Some new
lives_set n xs old new is = get_set xs n new (slice_get_within xs n old is)

-- what `get_mut` lends is the session at its number, and what it doesn't lend isn't there
pub lent : {R : Type 0} (n at : ℕ) (xs : List (LivesView R)) (life : LivesView R) → at ≡ n → at < length xs → life ≡ slice_index_or xs at life → lives_in n xs ≡ Some life
lent n at xs life same within is = ap (λ k. lives_in k xs) (sym same) ∙ slice_get_read xs (length xs) at life refl within is

pub lent_at : {X : Type 0} (at : ℕ) (xs : List X) (x : X) → at < length xs → x ≡ slice_index_or xs at x → slice_get xs at ≡ Some x
lent_at at xs x within is = slice_get_read xs (length xs) at x refl within is

pub none_there : {R : Type 0} (n at : ℕ) (xs : List (LivesView R)) → at ≡ n → length xs ≤ at → lives_in n xs ≡ None
none_there n at xs same past = ap (λ k. lives_in k xs) (sym same) ∙ slice_get_past xs at past

-- it names this number, and no other
abbrev pub NamesOne : Event → Happening → (n : ℕ) → Type 0
NamesOne e h n = (session : ℕ) → names_session e h session ≡ (n == session)

is_named : (e : Event) (h : Happening) (n session : ℕ) → NamesOne e h n → names_session e h session ≡ true → session ≡ n
is_named e h n session names named = sym (eqb-true n session (sym (names session) ∙ named))

is_other : (e : Event) (h : Happening) (n session : ℕ) → NamesOne e h n → names_session e h session ≡ false → session ≢ n
is_other e h n session names other same = true≢false (sym (eq-eqb n session (sym same)) ∙ sym (names session) ∙ other)

module _ {R : Type 0} (stands : R → Standing) where
  -- ---- it is alike itself

  client_itself : (c : ClientView R) → IsClientAlike stands c c
  client_itself c = record { session = alike_itself stands c.session; locks = λ s image. refl; asked = refl; slots = refl; release = refl; heard = refl }

  running_itself : (o : Option (ClientView R)) → IsClientAlikeIf stands o o
  running_itself None = refl
  running_itself (Some c) = client_itself c

  pub life_itself : (l : LivesView R) → AreLivesAlike stands l l
  life_itself l = record { home = refl; latest = refl; running = running_itself l.running; late = refl }

  pub alike_of_itself : (o : Option (LivesView R)) → IsAlikeOf stands o o
  alike_of_itself None = refl
  alike_of_itself (Some l) = life_itself l

  -- ---- the event did this

  sound_some : (o : Option (ClientView R)) (c : ClientView R) → IsSoundIf stands o → o ≡ Some c → IsSoundClient stands c
  sound_some o c sound is = subst (IsSoundIf stands) is sound

  -- to the session at its number
  pub does_to_one : (e : Event) (h : Happening) (n at : ℕ) (xs : List (LivesView R)) (old new : LivesView R) → NamesOne e h n → at ≡ n → lives_in n xs ≡ Some old
      → LivesOn stands e h old new → IsSoundIf stands new.running → DoesToLives stands e h xs (slice_set xs at new)
  does_to_one e h n at xs old new names same is lives sound = subst (λ k. DoesToLives stands e h xs (slice_set xs k new)) (sym same) (record {
    named = λ session named.
        let here = is_named e h n session names named in
        subst (λ m. LivesOnIf stands e h (lives_in m xs) (lives_in m (slice_set xs n new))) (sym here)
        (subst (λ o. LivesOnIf stands e h o (lives_in n (slice_set xs n new))) (sym is)
        (subst (LivesOnIf stands e h (Some old)) (sym (lives_set n xs old new is)) lives));
    others = λ session other. get_other xs n session new (is_other e h n session names other);
    sound = λ session c named there.
        let here = is_named e h n session names named in
        let found : client_in n (slice_set xs n new) ≡ Some c = subst (λ m. client_in m (slice_set xs n new) ≡ Some c) here there in
        sound_some new.running c sound (sym (ap running_of (lives_set n xs old new is)) ∙ found);
  })

  -- to none, where none is there
  pub does_to_none : (e : Event) (h : Happening) (n : ℕ) (xs : List (LivesView R)) → NamesOne e h n → lives_in n xs ≡ None → DoesToLives stands e h xs xs
  does_to_none e h n xs names none = record {
    named = λ session named.
        let there : lives_in session xs ≡ None = ap (λ m. lives_in m xs) (is_named e h n session names named) ∙ none in
        subst (λ o. LivesOnIf stands e h o o) (sym there) refl;
    others = λ session other. refl;
    sound = λ session c named is.
        absurd (none-some c (sym (ap running_of none) ∙ ap (λ m. client_in m xs) (sym (is_named e h n session names named)) ∙ is));
  }

  -- to one that doesn't run, where nothing happens
  pub leaves_stopped : (e : Event) (n at : ℕ) (xs : List (LivesView R)) (l : LivesView R) → NamesOne e Nothing n → at ≡ n → lives_in n xs ≡ Some l → l.running ≡ None
      → l.late ≡ late_behind e Nothing l.late → DoesToLives stands e Nothing xs (slice_set xs at l)
  leaves_stopped e n at xs l names same is stopped late =
      does_to_one e Nothing n at xs l l names same is
      (record { home = refl; latest = refl; running = by l.running stopped; late = late })
      (subst (IsSoundIf stands) (sym stopped) tt)
    where
      by : (o : Option (ClientView R)) → o ≡ None → BecomesOf stands e Nothing o o
      by None stopped = refl
      by (Some c) stopped = absurd (none-some c (sym stopped))

  -- or it names nobody
  pub does_to_nobody : (e : Event) (h : Happening) (xs : List (LivesView R)) → ((session : ℕ) → names_session e h session ≡ false) → DoesToLives stands e h xs xs
  does_to_nobody e h xs none = record {
    named = λ session named. absurd (true≢false (sym named ∙ none session));
    others = λ session other. refl;
    sound = λ session c named is. absurd (true≢false (sym named ∙ none session));
  }

  -- ---- it was refused memory

  pub leaves_one : (n at : ℕ) (xs : List (LivesView R)) (old new : LivesView R) → at ≡ n → lives_in n xs ≡ Some old → AreLivesAlike stands old new → IsSoundIf stands new.running
      → LeavesLives stands xs (slice_set xs at new)
  leaves_one n at xs old new same is alike sound = subst (λ k. LeavesLives stands xs (slice_set xs k new)) (sym same) (record {
    alike = λ session. by session (session == n) refl;
    sound = λ session was. sound_by session was (session == n) refl;
  })
    where
      here_alike : IsAlikeOf stands (lives_in n xs) (lives_in n (slice_set xs n new))
      here_alike = subst (λ o. IsAlikeOf stands o (lives_in n (slice_set xs n new))) (sym is) (subst (IsAlikeOf stands (Some old)) (sym (lives_set n xs old new is)) alike)

      apart : (session : ℕ) → (session == n) ≡ false → lives_in session (slice_set xs n new) ≡ lives_in session xs
      apart session differ = get_other xs n session new (λ e. true≢false (sym (eq-eqb session n e) ∙ differ))

      by : (session : ℕ) (b : Bool) → (session == n) ≡ b → IsAlikeOf stands (lives_in session xs) (lives_in session (slice_set xs n new))
      by session true it = subst (λ m. IsAlikeOf stands (lives_in m xs) (lives_in m (slice_set xs n new))) (sym (eqb-true session n it)) here_alike
      by session false differ = subst (IsAlikeOf stands (lives_in session xs)) (sym (apart session differ)) (alike_of_itself (lives_in session xs))

      sound_by : (session : ℕ) → IsSoundIf stands (client_in session xs) → (b : Bool) → (session == n) ≡ b → IsSoundIf stands (client_in session (slice_set xs n new))
      sound_by session was true it =
          subst (λ m. IsSoundIf stands (client_in m (slice_set xs n new))) (sym (eqb-true session n it))
          (subst (λ o. IsSoundIf stands (running_of o)) (sym (lives_set n xs old new is)) sound)
      sound_by session was false differ = subst (λ o. IsSoundIf stands (running_of o)) (sym (apart session differ)) was

  pub leaves_all : (xs : List (LivesView R)) → LeavesLives stands xs xs
  leaves_all xs = record { alike = λ session. alike_of_itself (lives_in session xs); sound = λ session was. was }
