-- The commands of a script's lines so far, with those of one more.
use mathlib.Core.Path.{fun_ext}
use Rattle.std.proofs.Common.{◌≡◌, ℕ, zero, suc, ◌+◌, ◌<◌, ◌≤◌, ◌==◌, ◌||◌, ◌⊎◌, inl, inr, cond, Bool, true, false, List, [], ◌∷◌, ◌++◌, All, length, take, get_or, refl, sym, ap, ◌∙◌, subst, arith}
use Rattle.std.proofs.lemmas.Bool.{cases_lt, eqb-true}
use Rattle.std.proofs.lemmas.List.{flat_map_more, length-append, take_more}
use Rattle.std.proofs.lemmas.List.Folds.{list_any_more}
use Rattle.std.proofs.lemmas.List.Elements.{All-get_or, filter-append}
use Rattle.std.proofs.lemmas.Option.{slice_get_past}
use Rattle.rbd_script.specs.declared.script.Line.{Line}
use Rattle.rbd_script.specs.declared.script.Said.{Said}
use Rattle.rbd_script.specs.declared.script.Said.TheVariants as said
use Rattle.rbd_schedule.specs.declared.given.Given.{Given}
use Rattle.rbd_schedule.specs.declared.runner.Runner.{Runner}
use Rattle.rbd_schedule.specs.Given.{commands_of, given_by, given_in, is_lost_by, loses_notice, of_session}
use Rattle.rbd_schedule.specs.InOrder.{AreDeclared, NamesDeclared}
use Rattle.rbd_schedule.specs.Playing.{IsPlayedLine, commands_in, given_to}

pub commands_more : (lines : List Line) (k : ℕ) (line : Line) → k < length lines → line ≡ get_or lines k line
    → commands_of (take (k + 1) lines) ≡ commands_of (take k lines) ++ given_by line.number line.said
commands_more lines k line within is =
    ap commands_of (take_more lines k line within ∙ ap (λ x. take k lines ++ x ∷ []) (sym is))
    ∙ sym (flat_map_more (λ (l : Line). given_by l.number l.said) [] (take k lines) line)

pub given_more : (lines : List Line) (k : ℕ) (line : Line) (session : ℕ) → k < length lines → line ≡ get_or lines k line
    → given_in (take (k + 1) lines) session ≡ given_in (take k lines) session ++ of_session session (given_by line.number line.said)
given_more lines k line session within is =
    ap (of_session session) (commands_more lines k line within is)
    ∙ filter-append (λ (c : Given). c.session == session) (commands_of (take k lines)) (given_by line.number line.said)

pub played_at : (lines : List Line) (k : ℕ) (line : Line) → All (λ (l : Line). IsPlayedLine l.said) lines → k < length lines → line ≡ get_or lines k line → IsPlayedLine line.said
played_at lines k line all within is = subst (λ (l : Line). IsPlayedLine l.said) (sym is) (All-get_or (λ (l : Line). IsPlayedLine l.said) lines k line within all)

-- ---- the notices that are lost

pub lost_more : (lines : List Line) (k : ℕ) (line : Line) (number : ℕ) → k < length lines → line ≡ get_or lines k line
    → is_lost_by (take (k + 1) lines) number ≡ (is_lost_by (take k lines) number || loses_notice number line.said)
lost_more lines k line number within is =
    list_any_more (λ (l : Line). loses_notice number l.said) lines k line within ∙ ap (λ (l : Line). is_lost_by (take k lines) number || loses_notice number l.said) (sym is)

-- ---- lines of sessions that are declared

pub declared_at : (n : ℕ) (lines : List Line) (k : ℕ) (line : Line) → AreDeclared n lines → k < length lines → line ≡ get_or lines k line → NamesDeclared n line.said
declared_at n [] k line all within is = absurd (omega (arith, within))
declared_at n (x ∷ lines) zero line all within is = subst (λ (l : Line). NamesDeclared n l.said) (sym is) all.0
declared_at n (x ∷ lines) (suc k) line all within is = declared_at n lines k line all.1 (omega (arith, within)) is

-- a line gives nothing to a session that isn't declared
gives_none : (n number : ℕ) (s : Said) (session : ℕ) → NamesDeclared n s → n ≤ session → of_session session (given_by number s) ≡ []
gives_none n number (said.Command mine beside command) session names past = by (mine == session) refl
  where
    by : (b : Bool) → (mine == session) ≡ b
        → of_session session (given_by number (said.Command mine beside command)) ≡ []
    by true same = let e = eqb-true mine session same in absurd (omega (arith, names, past, e))
    by false other = ap (λ b. cond b (given_by number (said.Command mine beside command)) []) other
gives_none n number (said.Poll mine slot times) session names past = refl
gives_none n number (said.Until mine slot kind) session names past = refl
gives_none n number (said.Expire mine site image) session names past = refl
gives_none n number (said.Stop mine) session names past = refl
gives_none n number (said.Restart mine) session names past = refl
gives_none n number (said.Late mine slot) session names past = refl
gives_none n number (said.Settle rounds) session names past = refl
gives_none n number (said.Deliver notice) session names past = refl
gives_none n number (said.Lose notice) session names past = refl
gives_none n number (said.Trim site image object) session names past = refl

-- The runner's queues are those of the lines so far, and one more was given.
pub given_along : (old new : Runner) (n : ℕ) (lines : List Line) (k : ℕ) (line : Line) → AreDeclared n lines → k < length lines → line ≡ get_or lines k line
    → length old.queues.items ≡ n → length new.queues.items ≡ n → given_to old ≡ given_in (take k lines)
    → ((session : ℕ) → session < length old.queues.items → given_to new session ≡ given_to old session ++ of_session session (given_by line.number line.said))
    → given_to new ≡ given_in (take (k + 1) lines)
given_along old new n lines k line declared within is was now so_far more = fun_ext (λ session. by session (cases_lt session n))
  where
    past : (session : ℕ) → n ≤ session → given_to new session ≡ given_in (take (k + 1) lines) session
    past session beyond =
        let before : given_in (take k lines) session ≡ [] = sym (ap (λ f. f session) so_far) ∙ ap commands_in (slice_get_past old.queues.items session (omega (arith, beyond, was))) in
        ap commands_in (slice_get_past new.queues.items session (omega (arith, beyond, now)))
        ∙ sym (given_more lines k line session within is ∙ ap (λ xs. xs ++ of_session session (given_by line.number line.said)) before
        ∙ gives_none n line.number line.said session (declared_at n lines k line declared within is) beyond)

    by : (session : ℕ) → (session < n) ⊎ (n ≤ session) → given_to new session ≡ given_in (take (k + 1) lines) session
    by session (inl less) =
        more session (omega (arith, less, was)) ∙ ap (λ xs. xs ++ of_session session (given_by line.number line.said)) (ap (λ f. f session) so_far)
        ∙ sym (given_more lines k line session within is)
    by session (inr beyond) = past session beyond

-- ---- how many commands there are

-- at most one a line, whatever its number
given_one : (number : ℕ) (s : Said) → length (given_by number s) ≡ length (given_by 0 s)
given_one number (said.Command mine beside command) = refl
given_one number (said.Poll mine slot times) = refl
given_one number (said.Until mine slot kind) = refl
given_one number (said.Expire mine site image) = refl
given_one number (said.Stop mine) = refl
given_one number (said.Restart mine) = refl
given_one number (said.Late mine slot) = refl
given_one number (said.Settle rounds) = refl
given_one number (said.Deliver notice) = refl
given_one number (said.Lose notice) = refl
given_one number (said.Trim site image object) = refl

pub given_few : (number : ℕ) (s : Said) → length (given_by number s) ≤ 1
given_few number (said.Command mine beside command) = omega arith
given_few number (said.Poll mine slot times) = omega arith
given_few number (said.Until mine slot kind) = omega arith
given_few number (said.Expire mine site image) = omega arith
given_few number (said.Stop mine) = omega arith
given_few number (said.Restart mine) = omega arith
given_few number (said.Late mine slot) = omega arith
given_few number (said.Settle rounds) = omega arith
given_few number (said.Deliver notice) = omega arith
given_few number (said.Lose notice) = omega arith
given_few number (said.Trim site image object) = omega arith

pub count_more : (lines : List Line) (k : ℕ) (line : Line) (so_far more : ℕ) → k < length lines → line ≡ get_or lines k line → so_far ≡ length (commands_of (take k lines))
    → more ≡ length (given_by 0 line.said) → so_far + more ≡ length (commands_of (take (k + 1) lines))
count_more lines k line so_far more within is before one =
    ap (λ n. n + more) before ∙ ap (λ n. length (commands_of (take k lines)) + n) (one ∙ sym (given_one line.number line.said))
    ∙ sym (ap length (commands_more lines k line within is) ∙ length-append (commands_of (take k lines)) (given_by line.number line.said))
