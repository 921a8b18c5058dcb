-- Bytes that are told, over several calls.
use Rattle.std.proofs.Common.{◌≡◌, ℕ, ◌+◌, ◌≤◌, ◌++◌, List, [], length, take, drop, Option, Some, None, IfSome, refl, sym, ap, ◌∙◌, append_assoc, subst, arith, Result, Ok, Err, OnErr}
use Rattle.std.proofs.lemmas.List.{take_all, drop_all, length-drop, drop-drop, length-take-le}
use Rattle.std.proofs.Math.Seq.{take-add, take-append_seam}
use Rattle.rbd_edge.specs.Source.{left_after, IsFurther}
use Rattle.rbd_edge.specs.Sink.{held_with}

-- what holds, holds at an error
pub any_err : {T E : Type 0} (r : Result T E) {P : Type 0} → P → OnErr r P
any_err (Ok value) p = tt
any_err (Err error) p = p

-- ---- a source

pub left_after-nothing : (left : Option (List ℕ)) → left ≡ left_after 0 left
left_after-nothing None = refl
left_after-nothing (Some bytes) = refl

pub left_after-twice : (k n : ℕ) (left : Option (List ℕ)) → left_after n (left_after k left) ≡ left_after (k + n) left
left_after-twice k n None = refl
left_after-twice k n (Some bytes) = ap Some (drop-drop n k bytes)

-- taken so far, and then some more
pub further_on : (k room limit : ℕ) (first mid last : Option (List ℕ)) → k + room ≤ limit → mid ≡ left_after k first → IsFurther room mid last → IsFurther limit first last
further_on k room limit first mid last below so_far more =
    (k + more.0, omega (arith, more.1), more.2 ∙ ap (left_after more.0) so_far ∙ left_after-twice k more.0 first)

-- what one call puts in front of a buffer
pub front_of : (n : ℕ) (buffer now : List ℕ) (left : Option (List ℕ)) → IfSome left (λ bytes. n ≤ length bytes)
    → IfSome left (λ bytes. now ≡ take n bytes ++ drop n buffer) → IfSome left (λ bytes. take n now ≡ take n bytes)
front_of n buffer now None few put = tt
front_of n buffer now (Some bytes) few put =
    let long : length (take n bytes) ≡ n = length-take-le n bytes few in
    ap (take n) put ∙ subst (λ m. take m (take n bytes ++ drop n buffer) ≡ take n bytes) long (take-append_seam (take n bytes) (drop n buffer))

-- appended to what was there
pub appended : (xs now ys : List ℕ) (n : ℕ) (left : Option (List ℕ)) → IfSome left (λ bytes. ys ≡ take n bytes) → now ≡ xs ++ ys
    → IfSome left (λ bytes. now ≡ xs ++ take n bytes)
appended xs now ys n None front grown = tt
appended xs now ys n (Some bytes) front grown = grown ∙ ap (λ zs. xs ++ zs) front

-- the first k bytes, and then n more
pub told_more : (k n : ℕ) (xs now : List ℕ) (first mid : Option (List ℕ)) → IfSome first (λ bytes. xs ≡ take k bytes) → mid ≡ left_after k first
    → IfSome mid (λ rest. now ≡ xs ++ take n rest) → IfSome first (λ bytes. now ≡ take (k + n) bytes)
told_more k n xs now None mid so_far rest more = tt
told_more k n xs now (Some bytes) mid so_far rest more =
    let P : Option (List ℕ) → Type 0 = λ o. IfSome o (λ rest. now ≡ xs ++ take n rest) in
    let here : now ≡ xs ++ take n (drop k bytes) = subst P rest more in
    here ∙ ap (λ zs. zs ++ take n (drop k bytes)) so_far ∙ sym (take-add k n bytes)

drop_none : (k : ℕ) (xs : List ℕ) → drop k xs ≡ [] → length xs ≤ k
drop_none k xs e = omega (arith, length-drop k xs, ap length e)

-- at the end no limit cuts
pub all_taken : (k limit : ℕ) (xs : List ℕ) (first mid : Option (List ℕ)) → k ≤ limit → IfSome first (λ bytes. xs ≡ take k bytes) → mid ≡ left_after k first
    → IfSome mid (λ rest. rest ≡ []) → IfSome first (λ bytes. xs ≡ take limit bytes)
all_taken k limit xs None mid below so_far rest end = tt
all_taken k limit xs (Some bytes) mid below so_far rest end =
    let P : Option (List ℕ) → Type 0 = λ o. IfSome o (λ rest. rest ≡ []) in
    let short : length bytes ≤ k = drop_none k bytes (subst P rest end) in
    so_far ∙ take_all k bytes short ∙ sym (take_all limit bytes (omega arith))

pub none_left : (k limit : ℕ) (first mid : Option (List ℕ)) → k ≤ limit → mid ≡ left_after k first
    → IfSome mid (λ rest. rest ≡ []) → mid ≡ left_after limit first
none_left k limit None mid below rest end = rest
none_left k limit (Some bytes) mid below rest end =
    let P : Option (List ℕ) → Type 0 = λ o. IfSome o (λ rest. rest ≡ []) in
    let gone : drop k bytes ≡ [] = subst P rest end in
    let short : length bytes ≤ k = drop_none k bytes gone in
    rest ∙ ap Some (gone ∙ sym (drop_all limit bytes (omega arith)))

pub ruleset reading = (left_after-nothing, left_after-twice, further_on, front_of, appended, told_more, all_taken, none_left)

-- ---- a sink

pub held_with-twice : (xs ys : List ℕ) (held : Option (List ℕ)) → held_with ys (held_with xs held) ≡ held_with (xs ++ ys) held
held_with-twice xs ys None = refl
held_with-twice xs ys (Some held) = ap Some (append_assoc held xs ys)

-- the first k bytes of a text, and then n more
pub held_with-more : (k n : ℕ) (text : List ℕ) (first mid last : Option (List ℕ)) → mid ≡ held_with (take k text) first
    → last ≡ held_with (take n (drop k text)) mid → last ≡ held_with (take (k + n) text) first
held_with-more k n text first mid last so_far more =
    more ∙ ap (held_with (take n (drop k text))) so_far ∙ held_with-twice (take k text) (take n (drop k text)) first
    ∙ ap (λ xs. held_with xs first) (sym (take-add k n text))

pub ruleset writing = (held_with-twice, held_with-more)
