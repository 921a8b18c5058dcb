-- What the runner keeps stays true as the world goes on.
use Rattle.std.proofs.Common.{◌≡◌, ℕ, ◌≤◌, ◌&&◌, not, zero, suc, Bool, true, false, List, [], ◌∷◌, ◌++◌, length, take, refl, sym, ap, ◌∙◌, subst, arith}
use Rattle.std.proofs.lemmas.Bool.{true≢false, false≢true}
use Rattle.std.proofs.lemmas.List.{length_push}
use Rattle.std.proofs.lemmas.List.Elements.{All-push, All-same, All-weaker}
use Rattle.rbd_flat.specs.declared.entry.Entry.{Entry}
use Rattle.rbd_world.specs.Step.{is_begun}
use Rattle.rbd_schedule.specs.declared.given.Given.{Given}
use Rattle.rbd_schedule.specs.declared.queue.Queue.{Queue}
use Rattle.rbd_schedule.specs.Playing.{IsGivenCommand, IsQueue, IsQueueIn, may_start_beside, is_over}
use Rattle.rbd_schedule.specs.Starts.{is_ended}

module _ (b b' a a' : (line : ℕ) → Bool) (begun : (line : ℕ) → b line ≡ true → b' line ≡ true) (answered : (line : ℕ) → a line ≡ true → a' line ≡ true) where
  over_stays : (c : Given) → is_over b a c ≡ true → is_over b' a' c ≡ true
  over_stays c = by (b c.line) (a c.line) (b' c.line) (a' c.line) (begun c.line) (answered c.line)
    where
      by : (p q p' q' : Bool) → (p ≡ true → p' ≡ true) → (q ≡ true → q' ≡ true) → (p && q) ≡ true → (p' && q') ≡ true
      by true true true true x y is = refl
      by true true true false x y is = absurd (false≢true (y refl))
      by true true false q' x y is = absurd (false≢true (x refl))
      by true false p' q' x y is = absurd (false≢true is)
      by false q p' q' x y is = absurd (false≢true is)

  beside_stays : (c : Given) → may_start_beside b c ≡ false → may_start_beside b' c ≡ false
  beside_stays c = by c.beside (b c.line) (b' c.line) (begun c.line)
    where
      by : (s p p' : Bool) → (p ≡ true → p' ≡ true) → (s && not p) ≡ false → (s && not p') ≡ false
      by false p p' x is = refl
      by true false p' x is = absurd (true≢false is)
      by true true true x is = refl
      by true true false x is = absurd (false≢true (x refl))

  pub queue_stays : (q : Queue) → IsQueue b a q → IsQueue b' a' q
  queue_stays q is = record {
    front = is.front;
    over = All-weaker (λ c. is_over b a c ≡ true) (λ c. is_over b' a' c ≡ true) over_stays (take q.front q.commands.items) is.over;
    next = is.next;
    passed = All-weaker (λ c. may_start_beside b c ≡ false) (λ c. may_start_beside b' c ≡ false) beside_stays (take q.next q.commands.items) is.passed;
  }

pub queue_in_stays : (old new : List Entry) (session : ℕ) (q : Queue)
    → ((line : ℕ) → is_begun line old ≡ true → is_begun line new ≡ true) → ((line : ℕ) → is_ended line old ≡ true → is_ended line new ≡ true)
    → IsQueueIn old session q → IsQueueIn new session q
queue_in_stays old new session q begun answered is = record {
  queue = queue_stays (λ line. is_begun line old) (λ line. is_begun line new) (λ line. is_ended line old) (λ line. is_ended line new) begun answered q is.queue;
  given = is.given;
}

take_front : {X : Type 0} (n : ℕ) (xs : List X) (y : X) → n ≤ length xs → take n (xs ++ y ∷ []) ≡ take n xs
take_front zero xs y within = refl
take_front (suc n) [] y within = absurd (omega (arith, within))
take_front (suc n) (x ∷ xs) y within = ap (λ ys. x ∷ ys) (take_front n xs y (omega (arith, within)))

-- one more command is given
pub queue_more : (history : List Entry) (session : ℕ) (q q' : Queue) (c : Given) → IsQueueIn history session q
    → q'.commands.items ≡ q.commands.items ++ c ∷ [] → q'.front ≡ q.front → q'.next ≡ q.next → IsGivenCommand session c → IsQueueIn history session q'
queue_more history session q q' c is items front next given = record {
  queue = record {
    front = let within = is.queue.front in let more = length_push q.commands.items c in subst (λ xs. q'.front ≤ length xs) (sym items) (omega (arith, within, more, front));
    over = All-same (λ x. is_over (λ line. is_begun line history) (λ line. is_ended line history) x ≡ true) (take q'.front q'.commands.items) (take q.front q.commands.items)
        (ap (take q'.front) items ∙ ap (λ n. take n (q.commands.items ++ c ∷ [])) front ∙ take_front q.front q.commands.items c is.queue.front) is.queue.over;
    next = let within = is.queue.next in let more = length_push q.commands.items c in subst (λ xs. q'.next ≤ length xs) (sym items) (omega (arith, within, more, next));
    passed = All-same (λ x. may_start_beside (λ line. is_begun line history) x ≡ false) (take q'.next q'.commands.items) (take q.next q.commands.items)
        (ap (take q'.next) items ∙ ap (λ n. take n (q.commands.items ++ c ∷ [])) next ∙ take_front q.next q.commands.items c is.queue.next) is.queue.passed;
  };
  given = All-same (IsGivenCommand session) q'.commands.items (q.commands.items ++ c ∷ []) items (All-push (IsGivenCommand session) q.commands.items c is.given given);
}
