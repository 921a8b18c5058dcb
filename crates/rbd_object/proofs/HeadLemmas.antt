-- Heads that are changed, and kept beforehand.
use Rattle.std.proofs.Common.{◌≡◌, ℕ, ◌+◌, ◌-◌, ◌/◌, ◌%◌, ◌<◌, Bool, true, false, cond, List, [], ◌++◌, Option, Some, None, length, get_or, max, refl, sym, ap, ◌∙◌, subst, arith}
use Rattle.std.proofs.lemmas.List.{nil_from_length}
use Rattle.std.proofs.lemmas.List.FromFn.{fill_by_all}
use Rattle.rbd_parts.specs.Contents.{overwritten, is_within}
use Rattle.rbd_pages.specs.Paging.{occurs, byte_on_pages, AreApart, AreCounted}
use Rattle.rbd_pages.specs.Sheaves.{Exchanged, IsSame, Stock}
use Rattle.rbd_pages.specs.Listed.{Listed, IsContent, listed_bytes, pages_on}
use Rattle.rbd_object.specs.Shared.{IsHead, KeepsHead, bytes_of, sheaves_of}
use Rattle.rbd_pages.proofs.PagingLemmas.{bytes_on_past, framed_byte}
use Rattle.rbd_pages.proofs.SheavesLemmas.{occurs-append, same_refl, same_trans}
use Rattle.rbd_pages.proofs.ListsLemmas.{exchanged_refl, framed_full, framed_list}
use Rattle.rbd_pages.proofs.ListedLemmas.{bytes_same, length-bytes_in}

-- ---- a content whose sheaves stay the same is the same

pub framed : (a b : Stock) (c : Listed) → ((s : ℕ) → 0 < occurs s c.sheaves → IsSame a b s)
    → IsContent a c → IsContent b c × (listed_bytes b c ≡ listed_bytes a c)
framed a b c same content =
    let frame = framed_list a b c.sheaves same in
    let byte : (i : ℕ) → byte_on_pages b.sheets (pages_on b c) i ≡ byte_on_pages a.sheets (pages_on a c) i =
    λ i. ap (λ pages. byte_on_pages b.sheets pages i) frame.0
    ∙ ap (λ bytes. get_or bytes (i % 4096) 0) (framed_byte a.sheets b.sheets (pages_on a c) (i / 4096) frame.1) in (
      record {
        held = content.held;
        full = framed_full a b c.sheaves same content.full;
        fits = let l = ap length frame.0 in let fits = content.fits in omega arith;
        zeros = λ i past. byte i ∙ content.zeros i past;
        apart = subst AreApart (sym frame.0) content.apart;
        small = content.small;
      },
      bytes_same a b c c refl byte content,
    )

pub framed_head : (a b : Stock) (head : Option Listed) → ((s : ℕ) → 0 < occurs s (sheaves_of head) → IsSame a b s)
    → IsHead a head → IsHead b head × (bytes_of b head ≡ bytes_of a head)
framed_head a b None same is = (tt, refl)
framed_head a b (Some c) same is = let now = framed a b c same is in (now.0, ap (λ bytes. Some bytes) now.1)

-- ---- what another list's change leaves

pub counted_more : (a b : Stock) (p q : List ℕ) → Exchanged a [] b q → AreCounted a.sheaves p → AreCounted b.sheaves p
counted_more a b p q exchanged counted = record { each = λ s. let x = exchanged.counts s in let y = counted.each s in omega arith }

pub counted_both : (a b : Stock) (p q : List ℕ) → Exchanged a [] b q → AreCounted a.sheaves p → AreCounted b.sheaves (p ++ q)
counted_both a b p q exchanged counted = record {
  each = λ s. let x = exchanged.counts s in let y = counted.each s in let sum = occurs-append p q s in omega arith;
}

pub head_after : (a b : Stock) (head : Option Listed) (q : List ℕ) → AreCounted a.sheaves (sheaves_of head) → IsHead a head → Exchanged a [] b q
    → IsHead b head × (bytes_of b head ≡ bytes_of a head)
head_after a b head q counted is exchanged =
    framed_head a b head (λ s named. exchanged.others s (let most = counted.each s in omega arith)) is

choice_is : (a : Stock) (wanted : Bool) (head kept : Option Listed) → kept ≡ cond wanted head None → IsHead a head
    → IsHead a kept × (bytes_of a kept ≡ cond wanted (bytes_of a head) None)
choice_is a true head kept e is = (subst (IsHead a) (sym e) is, ap (bytes_of a) e)
choice_is a false head kept e is = (subst (IsHead a) (sym e) tt, ap (bytes_of a) e)

-- shared, and then changed
pub kept_change : (wanted : Bool) (a b c : Stock) (head after kept : Option Listed) → AreCounted a.sheaves (sheaves_of head) → IsHead a head
    → Exchanged a [] b (sheaves_of kept) → kept ≡ cond wanted head None → Exchanged b (sheaves_of head) c (sheaves_of after) → IsHead c after
    → KeepsHead wanted a head c after kept
kept_change wanted a b c head after kept counted is shared e changed after_is =
    let before = head_after a b head (sheaves_of kept) counted is shared in
    let choice = choice_is b wanted head kept e before.0 in
    let now = framed_head b c kept (λ s named. changed.others s (let x = shared.counts s in let most = counted.each s in omega arith)) choice.0 in
    record {
      exchanged = record {
        counts = λ s.
            let x = shared.counts s in let y = changed.counts s in let sum = occurs-append (sheaves_of after) (sheaves_of kept) s in omega arith;
        others = λ s held.
            let x = shared.counts s in same_trans a b c s (shared.others s (omega arith)) (changed.others s (omega arith));
      };
      head_is = after_is;
      kept_is = now.0;
      bytes = now.1 ∙ choice.1 ∙ ap (λ bytes. cond wanted bytes None) before.1;
    }

-- what was kept is counted
pub counted_kept : (wanted : Bool) (a c : Stock) (head after kept : Option Listed) → AreCounted a.sheaves (sheaves_of head)
    → KeepsHead wanted a head c after kept → AreCounted c.sheaves (sheaves_of kept)
counted_kept wanted a c head after kept counted is = record {
  each = λ s.
      let x = is.exchanged.counts s in let y = counted.each s in let sum = occurs-append (sheaves_of after) (sheaves_of kept) s in omega arith;
}

pub counted_after : (wanted : Bool) (a c : Stock) (head after kept : Option Listed) → AreCounted a.sheaves (sheaves_of head)
    → KeepsHead wanted a head c after kept → AreCounted c.sheaves (sheaves_of after)
counted_after wanted a c head after kept counted is = record {
  each = λ s.
      let x = is.exchanged.counts s in let y = counted.each s in let sum = occurs-append (sheaves_of after) (sheaves_of kept) s in omega arith;
}

-- what was held is kept after all, or let go
pub kept_if : (w wanted : Bool) (a b c : Stock) (head after held kept : Option Listed) → AreCounted a.sheaves (sheaves_of head)
    → KeepsHead w a head b after held → Exchanged b (sheaves_of held) c (sheaves_of kept) → IsHead c kept
    → bytes_of c kept ≡ cond wanted (bytes_of a head) None
    → KeepsHead wanted a head c after kept × (bytes_of c after ≡ bytes_of b after)
kept_if w wanted a b c head after held kept counted is exchanged kept_is bytes =
    let now = framed_head b c after
    (λ s named. exchanged.others s (let x = is.exchanged.counts s in let y = counted.each s in let sum = occurs-append (sheaves_of after) (sheaves_of held) s in omega arith))
    is.head_is in (
      record {
        exchanged = record {
          counts = λ s.
              let x = is.exchanged.counts s in let y = exchanged.counts s in
              let sum = occurs-append (sheaves_of after) (sheaves_of held) s in let all = occurs-append (sheaves_of after) (sheaves_of kept) s in omega arith;
          others = λ s more.
              let x = is.exchanged.counts s in let sum = occurs-append (sheaves_of after) (sheaves_of held) s in
              same_trans a b c s (is.exchanged.others s more) (exchanged.others s (omega arith));
        };
        head_is = now.0;
        kept_is = kept_is;
        bytes = bytes;
      },
      now.1,
    )

pub undone : (w : Bool) (a b c : Stock) (head after held : Option Listed) → AreCounted a.sheaves (sheaves_of head)
    → KeepsHead w a head b after held → Exchanged b (sheaves_of held) c [] → KeepsHead false a head c after None × (bytes_of c after ≡ bytes_of b after)
undone w a b c head after held counted is exchanged = kept_if w false a b c head after held None counted is exchanged tt refl

-- the head as it was takes the place of one that was changed in part
pub restored : (a b c : Stock) (head after held : Option Listed) → AreCounted a.sheaves (sheaves_of head)
    → KeepsHead true a head b after held → Exchanged b (sheaves_of after) c []
    → KeepsHead false a head c held None × (bytes_of c held ≡ bytes_of a head)
restored a b c head after held counted is exchanged =
    let now = framed_head b c held
    (λ s named. exchanged.others s (let x = is.exchanged.counts s in let y = counted.each s in let sum = occurs-append (sheaves_of after) (sheaves_of held) s in omega arith))
    is.kept_is in (
      record {
        exchanged = record {
          counts = λ s.
              let x = is.exchanged.counts s in let y = exchanged.counts s in
              let sum = occurs-append (sheaves_of after) (sheaves_of held) s in let all = occurs-append (sheaves_of held) [] s in omega arith;
          others = λ s more.
              let x = is.exchanged.counts s in let sum = occurs-append (sheaves_of after) (sheaves_of held) s in
              same_trans a b c s (is.exchanged.others s more) (exchanged.others s (omega arith));
        };
        head_is = now.0;
        kept_is = tt;
        bytes = refl;
      },
      now.1 ∙ is.bytes,
    )

-- nothing was done but what leaves this head alone
pub untouched : (a b : Stock) (head : Option Listed) → AreCounted a.sheaves (sheaves_of head) → IsHead a head → Exchanged a [] b []
    → KeepsHead false a head b head None × (bytes_of b head ≡ bytes_of a head)
untouched a b head counted is exchanged =
    let now = head_after a b head [] counted is exchanged in
    (kept_change false a b b head head None counted is exchanged refl (exchanged_refl b (sheaves_of head)) now.0, now.1)

-- ---- a head in place of another

pub replaced : (wanted : Bool) (a b c : Stock) (head next kept : Option Listed) → AreCounted a.sheaves (sheaves_of head) → IsHead a head
    → Exchanged a [] b (sheaves_of next) → Exchanged b (sheaves_of head ++ sheaves_of next) c (sheaves_of next ++ sheaves_of kept)
    → IsHead c next → IsHead c kept → bytes_of c kept ≡ cond wanted (bytes_of b head) None → KeepsHead wanted a head c next kept
replaced wanted a b c head next kept counted is made exchanged next_is kept_is bytes = record {
  exchanged = record {
    counts = λ s.
        let x = made.counts s in let y = exchanged.counts s in
        let old = occurs-append (sheaves_of head) (sheaves_of next) s in let sum = occurs-append (sheaves_of next) (sheaves_of kept) s in omega arith;
    others = λ s more.
        let x = made.counts s in let old = occurs-append (sheaves_of head) (sheaves_of next) s in
        same_trans a b c s (made.others s (omega arith)) (exchanged.others s (omega arith));
  };
  head_is = next_is;
  kept_is = kept_is;
  bytes = bytes ∙ ap (λ held. cond wanted held None) (head_after a b head (sheaves_of next) counted is made).1;
}

pub swapped : (a : Stock) (p q : List ℕ) → Exchanged a (p ++ q) a (q ++ p)
swapped a p q = record {
  counts = λ s. let x = occurs-append p q s in let y = occurs-append q p s in omega arith;
  others = λ s more. same_refl a s;
}

pub let_go_beside : (a b : Stock) (p q : List ℕ) → AreCounted a.sheaves (p ++ q) → Exchanged a p b [] → Exchanged a (p ++ q) b (q ++ [])
let_go_beside a b p q counted exchanged = record {
  counts = λ s.
      let x = occurs-append p q s in let y = occurs-append q [] s in let m = exchanged.counts s in omega arith;
  others = λ s more. let x = occurs-append p q s in exchanged.others s (omega arith);
}

pub beside_is : (a b : Stock) (p : List ℕ) (next : Option Listed) → AreCounted a.sheaves (p ++ sheaves_of next) → Exchanged a p b [] → IsHead a next
    → IsHead b next × (bytes_of b next ≡ bytes_of a next)
beside_is a b p next counted exchanged is =
    framed_head a b next (λ s named. exchanged.others s (let x = occurs-append p (sheaves_of next) s in let most = counted.each s in omega arith)) is

pub counted_first_of : (a : Stock) (p q : List ℕ) → AreCounted a.sheaves (p ++ q) → AreCounted a.sheaves p
counted_first_of a p q counted = record { each = λ s. let x = occurs-append p q s in let most = counted.each s in omega arith }

-- ---- a content without bytes

pub empty_content : (a : Stock) → IsContent a (record { sheaves = []; len = 0 })
empty_content a = record {
  held = refl;
  full = record { full = λ m below. absurd (let f : ⊥ = omega arith in f); last = λ m below. absurd (let f : ⊥ = omega arith in f) };
  fits = omega arith;
  zeros = λ i past. ap (λ bytes. get_or bytes (i % 4096) 0) (bytes_on_past a.sheets [] (i / 4096) (omega arith));
  apart = record { each = λ s. omega arith };
  small = omega arith;
}

pub no_sheaves : (a b : Stock) (old new : Listed) → IsContent b new → listed_bytes b new ≡ listed_bytes a old → old.len ≡ 0 → new.sheaves ≡ []
no_sheaves a b old new content same none =
    let long : new.len ≡ 0 = sym (length-bytes_in b new) ∙ ap length same ∙ length-bytes_in a old ∙ none in
    let held = content.held in
    nil_from_length new.sheaves (omega arith)

pub exchanged_refused : (a b : Stock) (old new : Listed) → old ≡ record { sheaves = []; len = 0 } → Exchanged a old.sheaves b new.sheaves
    → IsContent b new → listed_bytes b new ≡ listed_bytes a old → Exchanged a [] b []
exchanged_refused a b old new blank exchanged content same =
    subst (λ p. Exchanged a p b []) (ap (λ (c : Listed). c.sheaves) blank)
    (subst (Exchanged a old.sheaves b) (no_sheaves a b old new content same (ap (λ (c : Listed). c.len) blank)) exchanged)

pub filled_bytes : (a : Stock) (old : Listed) (bytes : List ℕ) → old ≡ record { sheaves = []; len = 0 } → overwritten (listed_bytes a old) 0 bytes ≡ bytes
filled_bytes a old bytes blank =
    ap (λ c. overwritten (listed_bytes a c) 0 bytes) blank
    ∙ sym (fill_by_all (λ i. cond (is_within 0 (length bytes) i) (get_or bytes (i - 0) 0) (get_or [] i 0)) bytes (max 0 (0 + length bytes)) 0
    (omega arith) (λ k h. grind arith))
