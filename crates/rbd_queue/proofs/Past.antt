-- Who is past its look under the lock in a line.
use Rattle.std.proofs.Common.{◌≡◌, ℕ, eqb, Bool, true, false, cond, ◌||◌, List, [], ◌∷◌, Some, refl, sym, ap, ◌∙◌, true≢false}
use Rattle.std.proofs.lemmas.Bool.{eq-eqb}
use Rattle.std.specs.Option.{is_some}
use Rattle.std.proofs.lemmas.Option.{none-some, same_Some}
use Rattle.rbd_guard.specs.Order.{AreApart}
use Rattle.rbd_queue.specs.Line.{Member, any_past, is_past, member_of, slots}
use Rattle.rbd_queue.proofs.Fair.{rest_out, slots_in}
use Rattle.rbd_queue.proofs.Keeping.{is_found}

-- somebody is past its look under the lock, and is found
pub record IsPastIn (ms : List Member) : Type 0 where
  pub member : Member
  pub found : member_of member.slot ms ≡ Some member
  pub past : is_past member.stage ≡ true

pub past_found : (ms : List Member) → AreApart (slots ms) → any_past ms ≡ true → IsPastIn ms
past_found [] apart any = absurd (true≢false (sym any))
past_found (m ∷ ms) apart any = by (is_past m.stage) refl any (past_found ms apart.1)
  where
    later : IsPastIn ms → IsPastIn (m ∷ ms)
    later rest = go (eqb m.slot rest.member.slot) refl
      where
        go : (b : Bool) → eqb m.slot rest.member.slot ≡ b → IsPastIn (m ∷ ms)
        go true same = absurd (true≢false (
            sym (ap is_some rest.found) ∙ is_found rest.member.slot ms ∙ sym (slots_in rest.member.slot ms) ∙ rest_out rest.member.slot m ms apart same))
        go false other = record { member = rest.member; found = ap (λ b. cond b (Some m) (member_of rest.member.slot ms)) other ∙ rest.found; past = rest.past }

    by : (b : Bool) → is_past m.stage ≡ b → (b || any_past ms) ≡ true → (any_past ms ≡ true → IsPastIn ms) → IsPastIn (m ∷ ms)
    by true is any rest = record { member = m; found = ap (λ b. cond b (Some m) (member_of m.slot ms)) (eq-eqb m.slot m.slot refl); past = is }
    by false is any rest = later (rest any)

pub found_past : (slot : ℕ) (ms : List Member) (m : Member) → member_of slot ms ≡ Some m → is_past m.stage ≡ true → any_past ms ≡ true
found_past slot [] m found past = absurd (none-some m found)
found_past slot (n ∷ ms) m found past = by (eqb n.slot slot) found (λ is. found_past slot ms m is past)
  where
    or_true : (b : Bool) → any_past ms ≡ true → (b || any_past ms) ≡ true
    or_true true is = refl
    or_true false is = is

    by : (b : Bool) → cond b (Some n) (member_of slot ms) ≡ Some m → (member_of slot ms ≡ Some m → any_past ms ≡ true) → (is_past n.stage || any_past ms) ≡ true
    by true is rest = ap (λ b. b || any_past ms) (ap (λ (x : Member). is_past x.stage) (same_Some n m is) ∙ past)
    by false is rest = or_true (is_past n.stage) (rest is)
