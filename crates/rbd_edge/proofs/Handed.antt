-- Known bytes of a reader or a writer, over calls that move none.
use Rattle.std.proofs.Common.{ℕ, List, Option, Some, None, Result, Ok, Err, ◌++◌, take, refl, sym, ◌∙◌, ap}
use Rattle.std.specs.Io.KnownBytes.{Keeps, ReadConsumes, WriteAppends}

pub Keeps-refl : (a : Option (List ℕ)) → Keeps a a
Keeps-refl None = tt
Keeps-refl (Some xs) = refl

pub Keeps-trans : (a b c : Option (List ℕ)) → Keeps a b → Keeps b c → Keeps a c
Keeps-trans None b c p q = tt
Keeps-trans (Some xs) None c p q = absurd p
Keeps-trans (Some xs) (Some ys) None p q = absurd q
Keeps-trans (Some xs) (Some ys) (Some zs) p q = q ∙ p

pub read_after : {E : Type 0} (a b c : Option (List ℕ)) (r : Result ℕ E) (buffer : List ℕ) → Keeps a b → ReadConsumes b c r buffer → ReadConsumes a c r buffer
read_after None b c (Ok n) buffer p q = (tt, q.1)
read_after None b c (Err e) buffer p q = tt
read_after (Some xs) None c r buffer p q = absurd p
read_after (Some xs) (Some ys) None (Ok n) buffer p q = absurd q.0
read_after (Some xs) (Some ys) (Some zs) (Ok n) buffer p q = (sym p ∙ q.0, q.1)
read_after (Some xs) (Some ys) None (Err e) buffer p q = absurd q
read_after (Some xs) (Some ys) (Some zs) (Err e) buffer p q = q ∙ p

pub write_after : {E : Type 0} (a b c : Option (List ℕ)) (r : Result ℕ E) (bytes : List ℕ) → Keeps a b → WriteAppends b c r bytes → WriteAppends a c r bytes
write_after None b c (Ok n) bytes p q = tt
write_after None b c (Err e) bytes p q = tt
write_after (Some xs) None c r bytes p q = absurd p
write_after (Some xs) (Some ys) None (Ok n) bytes p q = absurd q
write_after (Some xs) (Some ys) (Some zs) (Ok n) bytes p q = q ∙ ap (λ zs. zs ++ take n bytes) p
write_after (Some xs) (Some ys) None (Err e) bytes p q = absurd q
write_after (Some xs) (Some ys) (Some zs) (Err e) bytes p q = q ∙ p

pub ruleset handing = (Keeps-refl, Keeps-trans, read_after, write_after)
