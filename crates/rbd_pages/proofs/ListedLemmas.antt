-- Contents on sheaves and pages.
use Rattle.std.proofs.Common.{◌≡◌, ℕ, ◌+◌, ◌-◌, ◌/◌, ◌%◌, ◌<◌, ◌≤◌, ◌⊎◌, false, true, cond, ltb, List, [], ◌∷◌, ◌++◌, length, get_or, take, drop, replicate, min, max, length-take, refl, sym, ap, ◌∙◌, subst, inl, inr, arith}
use Rattle.std.proofs.lemmas.Bool.{cases_lt}
use Rattle.std.proofs.lemmas.List.{get_or_past, get_or_append_left, get_or-replicate, length-replicate}
use Rattle.std.proofs.lemmas.List.FromFn.{fill_by_all, length-map-range_with_len, get_or-map-range_with_len}
use Rattle.rbd_pages.specs.Sheets.{Sheet, count_at, bytes_at}
use Rattle.rbd_parts.specs.Contents.{is_within, overwritten, window, zeroed}
use Rattle.rbd_pages.specs.Paging.{occurs, byte_on_pages, pages_for, AreApart, AreCounted, IsWritten, IsZeroed}
use Rattle.rbd_pages.specs.Sheaves.{AreFull, AreStocked, Exchanged, IsOnOwn, IsOwnPage, ArePagesPrepared, IsSame, Stock, pages_in, sheaves_for}
use Rattle.rbd_pages.specs.Listed.{Listed, IsContent, listed_bytes, pages_on, touched}
use Rattle.rbd_parts.proofs.ContentsLemmas.{overwritten-same, length_overwritten, get_or-overwritten_any, length-zeroed, get_or-zeroed}
use Rattle.rbd_pages.proofs.PagingLemmas.{bytes_on_within, bytes_on_past, framed_byte}
use Rattle.rbd_pages.proofs.SheavesLemmas.{flat_most, length-both, occurs-append}
use Rattle.rbd_pages.proofs.ListsLemmas.{changed_exchanged, counted_exchanged, exchanged_trans, framed_full, framed_list, full_take, list_prepared_refl, long_take, pages_in-take}

-- the bytes of a content are those of its pages, also past the last one
pub byte_of : (stock : Stock) (c : Listed) (i : ℕ) → IsContent stock c → get_or (listed_bytes stock c) i 0 ≡ byte_on_pages stock.sheets (pages_on stock c) i
byte_of stock c i content = elim (cases_lt i c.len) [
  | inl below ↦ get_or-map-range_with_len (byte_on_pages stock.sheets (pages_on stock c)) 0 c.len i i 0 below (omega arith)
  | inr past ↦
      get_or_past (listed_bytes stock c) i 0 (rw (length-map-range_with_len (byte_on_pages stock.sheets (pages_on stock c)) 0 c.len) past)
      ∙ sym (content.zeros i past)
]

pub length-bytes_in : (stock : Stock) (c : Listed) → length (listed_bytes stock c) ≡ c.len
length-bytes_in stock c = length-map-range_with_len (byte_on_pages stock.sheets (pages_on stock c)) 0 c.len

-- a list that has these bytes is the content
pub bytes_are : (stock : Stock) (c : Listed) (bytes : List ℕ) → length bytes ≡ c.len
    → ((i : ℕ) → get_or bytes i 0 ≡ byte_on_pages stock.sheets (pages_on stock c) i) → bytes ≡ listed_bytes stock c
bytes_are stock c bytes long same = fill_by_all (byte_on_pages stock.sheets (pages_on stock c)) bytes c.len 0 long (λ k h. same k)

pub bytes_same : (a b : Stock) (c d : Listed) → d.len ≡ c.len
    → ((i : ℕ) → byte_on_pages b.sheets (pages_on b d) i ≡ byte_on_pages a.sheets (pages_on a c) i)
    → IsContent a c → listed_bytes b d ≡ listed_bytes a c
bytes_same a b c d long same content =
    sym (bytes_are b d (listed_bytes a c) (length-bytes_in a c ∙ sym long) (λ i. byte_of a c i content ∙ sym (same i)))

-- ---- a refused change: the sheaves that were added are dropped again

prefix_byte : (b c : Stock) (n i : ℕ) (q : List ℕ)
    → ((s : ℕ) → 0 < occurs s (take n q) → IsSame b c s) → i / 4096 < length (pages_in b.sheaves (take n q))
    → byte_on_pages c.sheets (pages_in c.sheaves (take n q)) i ≡ byte_on_pages b.sheets (pages_in b.sheaves q) i
prefix_byte b c n i q same below =
    let frame = framed_list b c (take n q) same in
    let l = length-both (pages_in b.sheaves (take n q)) (pages_in b.sheaves (drop n q)) in
    let split = pages_in-take b.sheaves n q in
    ap (λ pages. byte_on_pages c.sheets pages i) frame.0
    ∙ ap (λ xs. get_or xs (i % 4096) 0)
    (framed_byte b.sheets c.sheets (pages_in b.sheaves (take n q)) (i / 4096) frame.1
    ∙ bytes_on_within b.sheets (pages_in b.sheaves (take n q)) (i / 4096) below
    ∙ ap (bytes_at b.sheets) (sym (get_or_append_left (pages_in b.sheaves (take n q)) (pages_in b.sheaves (drop n q)) 0 (i / 4096) below))
    ∙ sym (bytes_on_within b.sheets (pages_in b.sheaves (take n q) ++ pages_in b.sheaves (drop n q)) (i / 4096) (omega arith)))
    ∙ ap (λ pages. byte_on_pages b.sheets pages i) (sym split)

refused_byte : (a b c : Stock) (old : Listed) (q : List ℕ) (n i : ℕ) → IsContent a old → ArePagesPrepared a old.sheaves b q
    → n ≡ sheaves_for (pages_for old.len) → ((s : ℕ) → 0 < occurs s (take n q) → IsSame b c s)
    → byte_on_pages c.sheets (pages_in c.sheaves (take n q)) i ≡ byte_on_pages a.sheets (pages_on a old) i
refused_byte a b c old q n i content prepared e same =
    elim (cases_lt (i / 4096) (length (pages_in b.sheaves (take n q)))) [
      | inl below ↦ prefix_byte b c n i q same below ∙ prepared.bytes (i / 4096) (i % 4096)
      | inr past ↦
          let fits = content.fits in let longer = prepared.longer in let held = content.held in let more = prepared.more in
          let long = long_take b.sheaves n (pages_for old.len) q prepared.full (omega arith) e (omega arith) in
          let frame = ap length (framed_list b c (take n q) same).0 in
          ap (λ xs. get_or xs (i % 4096) 0) (bytes_on_past c.sheets (pages_in c.sheaves (take n q)) (i / 4096) (omega arith))
          ∙ sym (content.zeros i (omega arith))
    ]

pub refused_content : (a b c : Stock) (old new : Listed) (q : List ℕ) (n : ℕ) → IsContent a old → AreCounted a.sheaves old.sheaves
    → ArePagesPrepared a old.sheaves b q → n ≡ sheaves_for (pages_for old.len) → new.sheaves ≡ take n q → new.len ≡ old.len
    → Exchanged b q c new.sheaves → ((s : ℕ) → 0 < count_at c.sheaves s → IsSame b c s)
    → Exchanged a old.sheaves c new.sheaves × (IsContent c new × (listed_bytes c new ≡ listed_bytes a old))
refused_content a b c old new q n content counted prepared e is len exchanged kept =
    let all : Exchanged a old.sheaves c new.sheaves = exchanged_trans a b c old.sheaves q new.sheaves prepared.exchanged exchanged in
    let counted_c : AreCounted c.sheaves (take n q) = subst (AreCounted c.sheaves) is (counted_exchanged a c old.sheaves new.sheaves all counted) in
    let same : (s : ℕ) → 0 < occurs s (take n q) → IsSame b c s = λ s named. kept s (let most = counted_c.each s in omega arith) in
    let frame = framed_list b c (take n q) same in
    let byte : (i : ℕ) → byte_on_pages c.sheets (pages_on c new) i ≡ byte_on_pages a.sheets (pages_on a old) i =
    λ i. ap (λ list. byte_on_pages c.sheets (pages_in c.sheaves list) i) is ∙ refused_byte a b c old q n i content prepared e same in
    let fits = content.fits in let longer = prepared.longer in let held = content.held in let more = prepared.more in
    let long = long_take b.sheaves n (pages_for old.len) q prepared.full (omega arith) e (omega arith) in
    let split = pages_in-take b.sheaves n q in (
      all,
      (
        record {
          held = ap length is ∙ length-take n q ∙ (let short : min n (length q) ≡ sheaves_for (pages_for new.len) = rw len (omega arith) in short);
          full = subst (AreFull c.sheaves) (sym is) (framed_full b c (take n q) same (full_take b.sheaves n q prepared.full));
          fits =
              subst (λ list. pages_for new.len ≤ length (pages_in c.sheaves list)) (sym is)
              (subst (λ pages. pages_for new.len ≤ length pages) (sym frame.0) (rw len long));
          zeros = λ i past. byte i ∙ content.zeros i (let l = len in omega arith);
          apart =
              subst (λ list. AreApart (pages_in c.sheaves list)) (sym is)
              (subst AreApart (sym frame.0) (record {
                each = λ x.
                    let sum = occurs-append (pages_in b.sheaves (take n q)) (pages_in b.sheaves (drop n q)) x in
                    let whole = ap (occurs x) split in let once = prepared.apart.each x in omega arith;
              }));
          small = let small = content.small in let l = len in omega arith;
        },
        bytes_same a c old new len byte content,
      ),
    )

clamped : (at len from count end i v : ℕ) → from ≡ min at end → count ≡ min len (end - from) → (end ≤ i → v ≡ 0)
    → cond (is_within at len i) 0 v ≡ cond (is_within from count i) 0 v
clamped at len from count end i v f n past = elim (cases_lt i end) [
  | inl below ↦ grind arith
  | inr above ↦ let none = past above in grind arith
]

-- ---- a write

pub written_content : (a b : Stock) (after : List Sheet) (old new : Listed) (at : ℕ) (bytes : List ℕ) → IsContent a old → AreStocked b
    → ArePagesPrepared a old.sheaves b new.sheaves → length new.sheaves ≡ max (length old.sheaves) (sheaves_for (pages_for (at + length bytes)))
    → pages_for (at + length bytes) ≤ length (pages_in b.sheaves new.sheaves)
    → ((j : ℕ) → j < length bytes → IsOwnPage b new.sheaves ((at + j) / 4096) (get_or bytes j 0))
    → IsWritten (pages_in b.sheaves new.sheaves) at bytes b.sheets after → new.len ≡ max old.len (at + length bytes)
    → at + length bytes ≤ 33554432
    → Exchanged a old.sheaves (record { sheaves = b.sheaves; sheets = after }) new.sheaves
    × (IsContent (record { sheaves = b.sheaves; sheets = after }) new
    × (listed_bytes (record { sheaves = b.sheaves; sheets = after }) new ≡ overwritten (listed_bytes a old) at bytes))
written_content a b after old new at bytes content stocked prepared grown long own written len within =
    let c : Stock = record { sheaves = b.sheaves; sheets = after } in
    let byte : (i : ℕ) → byte_on_pages after (pages_in b.sheaves new.sheaves) i ≡ cond (is_within at (length bytes) i) (get_or bytes (i - at) 0) (byte_on_pages a.sheets (pages_on a old) i) =
    λ i. written.bytes_are i ∙ ap (cond (is_within at (length bytes) i) (get_or bytes (i - at) 0)) (prepared.bytes (i / 4096) (i % 4096)) in
    let fits = content.fits in
    let held = content.held in
    let longer = prepared.longer in
    let small = content.small in (
      exchanged_trans a b c old.sheaves new.sheaves new.sheaves prepared.exchanged
          (changed_exchanged b after new.sheaves at (length bytes) (λ j. get_or bytes j 0) stocked prepared.full own written.rest),
      (
        record {
          held = grown ∙ rw len (rw held (omega arith));
          full = prepared.full;
          fits = rw len (omega arith);
          zeros = λ i past.
              byte i
              ∙ (let outside : is_within at (length bytes) i ≡ false = grind arith in ap (λ t. cond t (get_or bytes (i - at) 0) (byte_on_pages a.sheets (pages_on a old) i)) outside)
              ∙ content.zeros i (omega arith);
          apart = prepared.apart;
          small = omega arith;
        },
        sym (bytes_are c new (overwritten (listed_bytes a old) at bytes)
            (length_overwritten (listed_bytes a old) at bytes ∙ ap (λ n. max n (at + length bytes)) (length-bytes_in a old) ∙ sym len)
            (λ i. get_or-overwritten_any (listed_bytes a old) at bytes i
            ∙ ap (cond (is_within at (length bytes) i) (get_or bytes (i - at) 0)) (byte_of a old i content) ∙ sym (byte i))),
      ),
    )

-- in terms of the code: c is what there is after the write
pub written_at : (a b c : Stock) (old new : Listed) (at : ℕ) (bytes : List ℕ) → IsContent a old → AreStocked b
    → ArePagesPrepared a old.sheaves b new.sheaves → length new.sheaves ≡ max (length old.sheaves) (sheaves_for (pages_for (at + length bytes)))
    → pages_for (at + length bytes) ≤ length (pages_in b.sheaves new.sheaves)
    → ((j : ℕ) → j < length bytes → IsOwnPage b new.sheaves ((at + j) / 4096) (get_or bytes j 0))
    → c.sheaves ≡ b.sheaves → IsWritten (pages_in b.sheaves new.sheaves) at bytes b.sheets c.sheets
    → new.len ≡ max old.len (at + length bytes) → at + length bytes ≤ 33554432
    → Exchanged a old.sheaves c new.sheaves × (IsContent c new × (listed_bytes c new ≡ overwritten (listed_bytes a old) at bytes))
written_at a b c old new at bytes content stocked prepared grown long own e written len within =
    subst (λ xs. Exchanged a old.sheaves (record { sheaves = xs; sheets = c.sheets }) new.sheaves
    × (IsContent (record { sheaves = xs; sheets = c.sheets }) new
    × (listed_bytes (record { sheaves = xs; sheets = c.sheets }) new ≡ overwritten (listed_bytes a old) at bytes))) (sym e)
    (written_content a b c.sheets old new at bytes content stocked prepared grown long own written len within)

-- a write on one page that can take it as it is
pub written_in_place : (a c : Stock) (old new : Listed) (at : ℕ) (bytes : List ℕ) → IsContent a old → AreStocked a
    → IsOnOwn a old.sheaves at (length bytes) → c.sheaves ≡ a.sheaves → IsWritten (pages_in a.sheaves old.sheaves) at bytes a.sheets c.sheets
    → new.sheaves ≡ old.sheaves → new.len ≡ max old.len (at + length bytes) → at + length bytes ≤ 33554432
    → Exchanged a old.sheaves c new.sheaves × (IsContent c new × (listed_bytes c new ≡ overwritten (listed_bytes a old) at bytes))
written_in_place a c old new at bytes content stocked on e written same len within =
    let most = flat_most a.sheaves old.sheaves content.full in
    let there = (on.own 0).page.there in
    let fits = on.fits in
    let some = on.some in
    written_at a a c old new at bytes content stocked
    (subst (λ xs. ArePagesPrepared a old.sheaves a xs) (sym same) (list_prepared_refl a old.sheaves content.apart content.full))
    (ap length same ∙ (let held : length old.sheaves ≡ max (length old.sheaves) (sheaves_for (pages_for (at + length bytes))) = omega arith in held))
    (subst (λ xs. pages_for (at + length bytes) ≤ length (pages_in a.sheaves xs)) (sym same) (omega arith))
    (λ j below. subst (λ xs. IsOwnPage a xs ((at + j) / 4096) (get_or bytes j 0)) (sym same)
    (subst (λ k. IsOwnPage a old.sheaves k (get_or bytes j 0)) (let here : at / 4096 ≡ (at + j) / 4096 = omega arith in here) (on.own (get_or bytes j 0))))
    e (subst (λ xs. IsWritten (pages_in a.sheaves xs) at bytes a.sheets c.sheets) (sym same) written) len within

-- what a write may add
pub written_used : (old new len at n : ℕ) → (0 < n) ⊎ (len < at)
    → new + min (pages_for len) (at / 4096) ≤ old + max (min (pages_for len) (at / 4096)) (pages_for (at + n))
    → new ≤ old + touched (min len at) (at + n)
written_used old new len at n some used =
    let apart : min len at < at + n = elim some [ inl more ↦ omega arith | inr past ↦ omega arith ] in
    let test : ltb (min len at) (at + n) ≡ true = grind arith in
    rw test (omega arith)

pub zeroed_content : (a b : Stock) (after : List Sheet) (old new : Listed) (at len from count : ℕ) → IsContent a old → AreStocked b
    → ArePagesPrepared a old.sheaves b new.sheaves → length new.sheaves ≡ max (length old.sheaves) (sheaves_for (pages_for (from + count)))
    → ((j : ℕ) → j < count → IsOwnPage b new.sheaves ((from + j) / 4096) 0)
    → IsZeroed (pages_in b.sheaves new.sheaves) from count b.sheets after → new.len ≡ old.len → from ≡ min at old.len
    → count ≡ min len (old.len - from)
    → Exchanged a old.sheaves (record { sheaves = b.sheaves; sheets = after }) new.sheaves
    × (IsContent (record { sheaves = b.sheaves; sheets = after }) new
    × (listed_bytes (record { sheaves = b.sheaves; sheets = after }) new ≡ zeroed (listed_bytes a old) at len))
zeroed_content a b after old new at len from count content stocked prepared grown own written same f n =
    let c : Stock = record { sheaves = b.sheaves; sheets = after } in
    let byte : (i : ℕ) → byte_on_pages after (pages_in b.sheaves new.sheaves) i ≡ cond (is_within from count i) 0 (byte_on_pages a.sheets (pages_on a old) i) =
    λ i. written.bytes_are i ∙ ap (cond (is_within from count i) 0) (prepared.bytes (i / 4096) (i % 4096)) in
    let fits = content.fits in
    let held = content.held in
    let longer = prepared.longer in
    let small = content.small in (
      exchanged_trans a b c old.sheaves new.sheaves new.sheaves prepared.exchanged
          (changed_exchanged b after new.sheaves from count (λ j. 0) stocked prepared.full own written.rest),
      (
        record {
          held = grown ∙ rw same (rw held (omega arith));
          full = prepared.full;
          fits = rw same (omega arith);
          zeros = λ i past. byte i ∙ (let none = content.zeros i (omega arith) in grind arith);
          apart = prepared.apart;
          small = omega arith;
        },
        sym (bytes_are c new (zeroed (listed_bytes a old) at len) (length-zeroed (listed_bytes a old) at len ∙ length-bytes_in a old ∙ sym same)
            (λ i. get_or-zeroed (listed_bytes a old) at len i ∙ ap (cond (is_within at len i) 0) (byte_of a old i content)
            ∙ clamped at len from count old.len i (byte_on_pages a.sheets (pages_on a old) i) f n (content.zeros i) ∙ sym (byte i))),
      ),
    )

pub zeroed_at : (a b c : Stock) (old new : Listed) (at len from count : ℕ) → IsContent a old → AreStocked b
    → ArePagesPrepared a old.sheaves b new.sheaves → length new.sheaves ≡ max (length old.sheaves) (sheaves_for (pages_for (from + count)))
    → ((j : ℕ) → j < count → IsOwnPage b new.sheaves ((from + j) / 4096) 0)
    → c.sheaves ≡ b.sheaves → IsZeroed (pages_in b.sheaves new.sheaves) from count b.sheets c.sheets → new.len ≡ old.len
    → from ≡ min at old.len → count ≡ min len (old.len - from)
    → Exchanged a old.sheaves c new.sheaves × (IsContent c new × (listed_bytes c new ≡ zeroed (listed_bytes a old) at len))
zeroed_at a b c old new at len from count content stocked prepared grown own e written same f n =
    subst (λ xs. Exchanged a old.sheaves (record { sheaves = xs; sheets = c.sheets }) new.sheaves
    × (IsContent (record { sheaves = xs; sheets = c.sheets }) new
    × (listed_bytes (record { sheaves = xs; sheets = c.sheets }) new ≡ zeroed (listed_bytes a old) at len))) (sym e)
    (zeroed_content a b c.sheets old new at len from count content stocked prepared grown own written same f n)

-- what making zero may add
pub zeroed_used : (old new end at len from count : ℕ) → from ≡ min at end → count ≡ min len (end - from) → 0 < count
    → new + min (pages_for end) (from / 4096) ≤ old + max (min (pages_for end) (from / 4096)) (pages_for (from + count))
    → new ≤ old + touched at (at + len)
zeroed_used old new end at len from count f n some used =
    let same : from ≡ at = omega arith in
    let test : ltb at (at + len) ≡ true = grind arith in
    rw test (omega arith)

-- ---- calls that change nothing, and reads

pub overwritten_none : (old bytes : List ℕ) (at : ℕ) → length bytes ≡ 0 → at ≤ length old → old ≡ overwritten old at bytes
overwritten_none old [] at none within = overwritten-same old at (length old) refl within
overwritten_none old (b ∷ bytes) at none within = absurd (let f : ⊥ = omega arith in f)

pub zeroed_none : (a : Stock) (c : Listed) (at len from count : ℕ) → IsContent a c → from ≡ min at c.len → count ≡ min len (c.len - from)
    → count ≡ 0 → listed_bytes a c ≡ zeroed (listed_bytes a c) at len
zeroed_none a c at len from count content f n none =
    sym (bytes_are a c (zeroed (listed_bytes a c) at len) (length-zeroed (listed_bytes a c) at len ∙ length-bytes_in a c)
    (λ i. get_or-zeroed (listed_bytes a c) at len i ∙ ap (cond (is_within at len i) 0) (byte_of a c i content)
    ∙ clamped at len from count c.len i (byte_on_pages a.sheets (pages_on a c) i) f n (content.zeros i)
    ∙ (let off : is_within from count i ≡ false = grind (arith, none) in ap (λ t. cond t 0 (byte_on_pages a.sheets (pages_on a c) i)) off)))

pub past_window : (a : Stock) (c : Listed) (at count : ℕ) → c.len ≤ at → replicate count 0 ≡ window (listed_bytes a c) at count
past_window a c at count past =
    fill_by_all (λ i. get_or (listed_bytes a c) (at + i) 0) (replicate count 0) count 0 (length-replicate count 0)
    (λ k h. get_or-replicate count k 0 0 h ∙ sym (get_or_past (listed_bytes a c) (at + k) 0 (let l = length-bytes_in a c in omega arith)))

pub read_window : (a : Stock) (c : Listed) (at count : ℕ) (into : List ℕ) → IsContent a c → length into ≡ count
    → ((j : ℕ) → j < count → get_or into j 0 ≡ byte_on_pages a.sheets (pages_on a c) (at + j)) → into ≡ window (listed_bytes a c) at count
read_window a c at count into content long read =
    fill_by_all (λ i. get_or (listed_bytes a c) (at + i) 0) into count 0 long (λ k h. read k h ∙ sym (byte_of a c (at + k) content))
