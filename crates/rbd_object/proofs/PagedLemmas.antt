-- The object on its pages.
use Rattle.std.proofs.Common.{◌≡◌, ℕ, ◌+◌, ◌<◌, ◌≤◌, Bool, true, false, cond, not, eqb, ltb, ◌||◌, ◌&&◌, List, [], ◌∷◌, ◌++◌, Option, Some, None, map, filter, length, find, max, min, option_to_list, refl, sym, ap, ◌∙◌, subst, arith}
use Rattle.std.proofs.lemmas.List.{nil_from_length}
use Rattle.std.specs.Prelude.{zero, suc, option_map, unwrap_or}
use Rattle.std.specs.FinMap.{get, retain_keys}
use Rattle.rbd_kinds.specs.declared.header.SnapContext.{SnapContext}
use Rattle.rbd_pages.specs.Sheaves.{AreStocked, IsSame, Stock, named_in}
use Rattle.rbd_pages.specs.Sheets.{Sheet, bytes_at, count_at, in_use}
use Rattle.rbd_pages.specs.Paging.{occurs, pages_for, AreCounted}
use Rattle.rbd_pages.specs.Places.{Grown}
use Rattle.rbd_pages.specs.Listed.{Listed, IsContent, listed_bytes, pages_on}
use Rattle.rbd_object.specs.Shared.{Stored, AreContents, AreNamed, AreShared, IsHead, KeepsHead, bytes_of, dead_named, dead_sheaves, is_live, kept_in, len_of, live_versions, named, sheaves_of, view_in}
use Rattle.rbd_object.specs.Paged.{AreCalls, Call, IsPaged, KeepsPlaces, Paged, most_pages, most_sheaves, paged_of}
use Rattle.rbd_object.specs.Changes.{pages_taken, sheaves_taken}
use Rattle.rbd_object.specs.declared.change.ObjectChange.{ObjectChange}
use Rattle.rbd_object.proofs.EachLemmas.{len_is}
use Rattle.rbd_object.proofs.VersionLemmas.{live_next}
use Rattle.rbd_object.proofs.KeptLemmas.{AreEmpty, get-live_versions, get_kept_by, is_listed-filter, kept_by-live, kept_empty}
use Rattle.std.specs.List.{list_any}
use Rattle.rbd_object.specs.Kept.{AreNewest, AreUsed, Kept, is_listed, is_needed, keep_each, kept_by, live_part, new_version}
use Rattle.rbd_object.specs.Versioned.{view}
use Rattle.rbd_object.specs.Mapped.{IsSound, Mapped, due_snaps, versioned, mapped_change, mapped_copy_up, mapped_trim, value_of}
use Rattle.rbd_object.proofs.HeadLemmas.{framed, framed_head}
use Rattle.rbd_pages.proofs.ListedLemmas.{length-bytes_in}
use Rattle.rbd_pages.proofs.SheavesLemmas.{counted_pages, occurs-append}
use Rattle.rbd_object.proofs.SoundLemmas.{changed_value, sound_blank, sound_step, sound_trimmed}

-- ---- versions whose pages keep their bytes

framed_versions : (a b : Stock) (versions : List Stored) → ((s : ℕ) → 0 < named s versions → IsSame a b s)
    → AreContents a versions → AreContents b versions × (map (kept_in b) versions ≡ map (kept_in a) versions)
framed_versions a b [] same are = (tt, refl)
framed_versions a b (v ∷ versions) same are =
    let first = framed a b v.content (λ s there. same s (omega arith)) are.0 in
    let rest = framed_versions a b versions (λ s there. same s (omega arith)) are.1 in (
      (first.0, rest.0),
      ap (λ bytes. record { snaps = v.snaps; bytes = bytes } ∷ map (kept_in b) versions) first.1
          ∙ ap (λ (xs : List Kept). kept_in a v ∷ xs) rest.1,
    )

pub head_counted : (a : Stock) (head : Option Listed) (versions : List Stored) → AreShared a head versions → AreCounted a.sheaves (sheaves_of head)
head_counted a head versions shared = record { each = λ s. let x = shared.counts s in omega arith }

pub versions_counted : (a : Stock) (head : Option Listed) (versions : List Stored) → AreShared a head versions → AreNamed a versions
versions_counted a head versions shared = record { each = λ s. let x = shared.counts s in omega arith }

-- ---- a change, with the version that keeps the head

abbrev pub stored_of : (snaps : List ℕ) → Option Listed → Option Stored
stored_of snaps kept = option_map (λ (c : Listed). record { snaps = snaps; content = c }) kept

named_added : (snaps : List ℕ) (kept : Option Listed) (versions : List Stored) (s : ℕ)
    → named s (option_to_list (stored_of snaps kept) ++ versions) ≡ occurs s (sheaves_of kept) + named s versions
named_added snaps None versions s = omega arith
named_added snaps (Some c) versions s = refl

contents_added : (a : Stock) (snaps : List ℕ) (kept : Option Listed) (versions : List Stored) → IsHead a kept → AreContents a versions
    → AreContents a (option_to_list (stored_of snaps kept) ++ versions)
contents_added a snaps None versions is are = are
contents_added a snaps (Some c) versions is are = (is, are)

kept_added : (a : Stock) (snaps : List ℕ) (kept : Option Listed) (versions : List Stored)
    → map (kept_in a) (option_to_list (stored_of snaps kept) ++ versions)
    ≡ option_to_list (option_map (λ bytes. record { snaps = snaps; bytes = bytes }) (bytes_of a kept)) ++ map (kept_in a) versions
kept_added a snaps None versions = refl
kept_added a snaps (Some c) versions = refl

-- whether a list has an item
abbrev pub has_any : List ℕ → Bool
has_any [] = false
has_any (s ∷ snaps) = true

-- the version is the one that the definition makes
made_version : (snaps : List ℕ) (wanted : Bool) (head kept : Option (List ℕ)) → wanted ≡ has_any snaps → kept ≡ cond wanted head None
    → option_map (λ (bytes : List ℕ). record { snaps = snaps; bytes = bytes }) kept ≡ new_version head snaps
made_version [] wanted None kept w k = ap (option_map (λ (bytes : List ℕ). record { snaps = []; bytes = bytes })) (k ∙ ap (λ t. cond t None None) w)
made_version [] wanted (Some x) kept w k = ap (option_map (λ (bytes : List ℕ). record { snaps = []; bytes = bytes })) (k ∙ ap (λ t. cond t (Some x) None) w)
made_version (s ∷ snaps) wanted None kept w k = ap (option_map (λ (bytes : List ℕ). record { snaps = s ∷ snaps; bytes = bytes })) (k ∙ ap (λ t. cond t None None) w)
made_version (s ∷ snaps) wanted (Some x) kept w k = ap (option_map (λ (bytes : List ℕ). record { snaps = s ∷ snaps; bytes = bytes })) (k ∙ ap (λ t. cond t (Some x) None) w)

-- what a change leaves of the rest: nothing but the head's pages moved
step_shared : (wanted : Bool) (a b : Stock) (head after kept : Option Listed) (snaps : List ℕ) (versions : List Stored)
    → AreShared a head versions → KeepsHead wanted a head b after kept
    → AreShared b after (option_to_list (stored_of snaps kept) ++ versions) × (map (kept_in b) versions ≡ map (kept_in a) versions)
step_shared wanted a b head after kept snaps versions shared is =
    let frame = framed_versions a b versions (λ s there. is.exchanged.others s (let x = shared.counts s in omega arith)) shared.contents in (
      record {
        counts = λ s.
            let x = shared.counts s in
            let y = is.exchanged.counts s in
            let sum = occurs-append (sheaves_of after) (sheaves_of kept) s in
            named_sum s x y sum;
        head_is = is.head_is;
        contents = contents_added b snaps kept versions is.kept_is frame.0;
      },
      frame.1,
    ) where
      named_sum : (s : ℕ) → count_at a.sheaves s ≡ occurs s (sheaves_of head) + named s versions
          → count_at b.sheaves s + occurs s (sheaves_of head) ≡ count_at a.sheaves s + occurs s (sheaves_of after ++ sheaves_of kept)
          → occurs s (sheaves_of after ++ sheaves_of kept) ≡ occurs s (sheaves_of after) + occurs s (sheaves_of kept)
          → count_at b.sheaves s ≡ occurs s (sheaves_of after) + named s (option_to_list (stored_of snaps kept) ++ versions)
      named_sum s x y sum = let added = named_added snaps kept versions s in omega arith

-- A change in the steps of the code.
pub step_paged : (wanted : Bool) (c : SnapContext) (o : Mapped) (a b : Stock) (head after kept : Option Listed) (seq next : ℕ) (snaps : List ℕ)
    (version : Option Stored) (versions room items : List Stored)
    → value_of (bytes_of a head) seq (map (kept_in a) versions) ≡ o
    → new_version o.head snaps ≡ new_version o.head (due_snaps c o.seq) → wanted ≡ has_any snaps
    → KeepsHead wanted a head b after kept → version ≡ stored_of snaps kept → room ≡ versions
    → items ≡ option_to_list version ++ room → next ≡ max seq c.seq → IsPaged a head seq versions
    → IsPaged b after next items
    × (value_of (bytes_of b after) next (map (kept_in b) items) ≡ mapped_change c (bytes_of b after) o)
step_paged wanted c o a b head after kept seq next snaps version versions room items is picked w k made same added n paged =
    let step = step_shared wanted a b head after kept snaps versions paged.shared k in
    let items_are : items ≡ option_to_list (stored_of snaps kept) ++ versions =
    added ∙ ap (λ v. option_to_list v ++ room) made ∙ ap (λ xs. option_to_list (stored_of snaps kept) ++ xs) same in
    let version_is = made_version snaps wanted (bytes_of a head) (bytes_of b kept) w k.bytes in
    let kept_items : map (kept_in b) items ≡ option_to_list (new_version (bytes_of a head) snaps) ++ map (kept_in a) versions =
    ap (map (kept_in b)) items_are ∙ kept_added b snaps kept versions
    ∙ ap (λ v. option_to_list v ++ map (kept_in b) versions) version_is
    ∙ ap (λ xs. option_to_list (new_version (bytes_of a head) snaps) ++ xs) step.1 in
    let due : new_version (bytes_of a head) snaps ≡ new_version (bytes_of a head) (due_snaps c seq) =
    subst (λ (x : Mapped). new_version x.head snaps ≡ new_version x.head (due_snaps c x.seq)) (sym is) picked in (
      record {
        shared = subst (AreShared b after) (sym items_are) step.0;
        sound =
            sound_step c o (bytes_of a head) seq next snaps (new_version (bytes_of a head) snaps) (map (kept_in a) versions) (map (kept_in a) versions)
            (map (kept_in b) items) is picked refl refl kept_items n paged.sound;
      },
      ap (value_of (bytes_of b after) next) kept_items
          ∙ changed_value c (bytes_of a head) (bytes_of b after) seq next (map (kept_in a) versions) (new_version (bytes_of a head) snaps) due n
          ∙ ap (mapped_change c (bytes_of b after)) is,
    )

-- a refused change
pub refused_paged : (a b : Stock) (head after : Option Listed) (seq : ℕ) (versions room : List Stored)
    → KeepsHead false a head b after None → bytes_of b after ≡ bytes_of a head → room ≡ versions → IsPaged a head seq versions
    → IsPaged b after seq room
    × (value_of (bytes_of b after) seq (map (kept_in b) room) ≡ value_of (bytes_of a head) seq (map (kept_in a) versions))
refused_paged a b head after seq versions room k bytes same paged =
    let step = step_shared false a b head after None [] versions paged.shared k in
    let kept_room : map (kept_in b) room ≡ map (kept_in a) versions = ap (map (kept_in b)) same ∙ step.1 in (
      record {
        shared = subst (AreShared b after) (sym same) step.0;
        sound = subst (IsSound seq) (sym kept_room) paged.sound;
      },
      ap (λ held. value_of held seq (map (kept_in b) room)) bytes ∙ ap (value_of (bytes_of a head) seq) kept_room,
    )

pub quiet_paged : (a b : Stock) (head after : Option Listed) (seq : ℕ) (versions : List Stored)
    → KeepsHead false a head b after None → IsPaged a head seq versions
    → IsPaged b after seq versions × (map (kept_in b) versions ≡ map (kept_in a) versions)
quiet_paged a b head after seq versions k paged =
    let step = step_shared false a b head after None [] versions paged.shared k in
    (record { shared = step.0; sound = subst (IsSound seq) (sym step.1) paged.sound }, step.1)

pub filled_paged : (a b : Stock) (head after : Option Listed) (seq : ℕ) (versions : List Stored) (bytes : List ℕ) (o : Mapped)
    → KeepsHead false a None b after None → head ≡ None → bytes_of b after ≡ Some bytes
    → value_of (bytes_of a head) seq (map (kept_in a) versions) ≡ o → IsPaged a head seq versions
    → IsPaged b after seq versions × (value_of (bytes_of b after) seq (map (kept_in b) versions) ≡ mapped_copy_up bytes o)
filled_paged a b head after seq versions bytes o k none filled is paged =
    let step = quiet_paged a b head after seq versions (subst (λ h. KeepsHead false a h b after None) (sym none) k) paged in (
      step.0,
      ap (λ held. value_of held seq (map (kept_in b) versions)) filled
          ∙ ap (value_of (Some bytes) seq) step.1
          ∙ ap (mapped_copy_up bytes) (ap (λ h. value_of (bytes_of a h) seq (map (kept_in a) versions)) (sym none) ∙ is),
    )

pub pages_step : (a b : Stock) (head : Option Listed) (seq : ℕ) (versions : List Stored) (o : Paged) (change : ObjectChange)
    → paged_of a head seq versions ≡ o → in_use b.sheets ≤ in_use a.sheets + pages_taken change (len_of head)
    → in_use b.sheets ≤ o.pages + pages_taken change (length (unwrap_or o.shown.head []))
pages_step a b head seq versions o change is few =
    subst (λ (x : Paged). in_use b.sheets ≤ x.pages + pages_taken change (length (unwrap_or x.shown.head []))) is
    (subst (λ n. in_use b.sheets ≤ in_use a.sheets + pages_taken change n) (len_is a head) few)

-- the same of the places
pub places_step : (a b : Stock) (head after : Option Listed) (seq next : ℕ) (versions items : List Stored) (o : Paged) (change : ObjectChange)
    → paged_of a head seq versions ≡ o → Grown (pages_taken change (len_of head)) (sheaves_taken change (len_of head)) a b
    → KeepsPlaces (pages_taken change (length (unwrap_or o.shown.head []))) (sheaves_taken change (length (unwrap_or o.shown.head []))) o (paged_of b after next items)
places_step a b head after seq next versions items o change is grown =
    subst (λ (x : Paged). KeepsPlaces (pages_taken change (length (unwrap_or x.shown.head []))) (sheaves_taken change (length (unwrap_or x.shown.head []))) x (paged_of b after next items)) is
    (subst (λ n. KeepsPlaces (pages_taken change n) (sheaves_taken change n) (paged_of a head seq versions) (paged_of b after next items)) (len_is a head)
    (record { page_places = grown.page_places; sheaf_places = grown.sheaf_places; sheaves = grown.sheaves_used }))

pub places_filled : (pages sheaves : ℕ) (a b : Stock) (head after : Option Listed) (seq : ℕ) (versions : List Stored) (o : Paged)
    → paged_of a head seq versions ≡ o → Grown pages sheaves a b → KeepsPlaces pages sheaves o (paged_of b after seq versions)
places_filled pages sheaves a b head after seq versions o is grown =
    subst (λ (x : Paged). KeepsPlaces pages sheaves x (paged_of b after seq versions)) is
    (record { page_places = grown.page_places; sheaf_places = grown.sheaf_places; sheaves = grown.sheaves_used })

pub wanted_is : (n : ℕ) (snaps : List ℕ) (empty : Bool) → empty ≡ eqb n 0 → n ≡ length snaps → not empty ≡ has_any snaps
wanted_is n [] empty e long = grind arith
wanted_is n (s ∷ snaps) empty e long = grind arith

-- ---- a trim

named_live : (live : List ℕ) (s : ℕ) (versions : List Stored)
    → named s versions ≡ dead_named live s versions + named s (live_versions live versions)
named_live live s [] = refl
named_live live s (v ∷ versions) = go (is_live live v) refl (named_live live s versions) where
  go : (test : Bool) → is_live live v ≡ test
      → named s versions ≡ dead_named live s versions + named s (live_versions live versions)
      → named s (v ∷ versions) ≡ dead_named live s (v ∷ versions) + named s (live_versions live (v ∷ versions))
  go true e rest =
      let next = ap (named s) (live_next live v versions true e) in
      let none : dead_sheaves live s v ≡ 0 = ap (λ t. cond t 0 (occurs s v.content.sheaves)) e in
      omega arith
  go false e rest =
      let next = ap (named s) (live_next live v versions false e) in
      let all : dead_sheaves live s v ≡ occurs s v.content.sheaves = ap (λ t. cond t 0 (occurs s v.content.sheaves)) e in
      omega arith

contents_live : (a : Stock) (live : List ℕ) (versions : List Stored) → AreContents a versions → AreContents a (live_versions live versions)
contents_live a live [] are = tt
contents_live a live (v ∷ versions) are = go (is_live live v) refl (contents_live a live versions are.1) where
  go : (test : Bool) → is_live live v ≡ test → AreContents a (live_versions live versions) → AreContents a (live_versions live (v ∷ versions))
  go true e rest = subst (AreContents a) (sym (live_next live v versions true e)) (are.0, rest)
  go false e rest = subst (AreContents a) (sym (live_next live v versions false e)) rest

dropped_snaps : (p : ℕ → Bool) (snaps : List ℕ) → list_any p snaps ≡ false → filter p snaps ≡ []
dropped_snaps p [] none = refl
dropped_snaps p (s ∷ snaps) none = go (p s) refl (dropped_snaps p snaps) where
  go : (test : Bool) → p s ≡ test → (list_any p snaps ≡ false → filter p snaps ≡ []) → filter p (s ∷ snaps) ≡ []
  go true e rest = let clash : true ≡ false = sym (ap (λ t. t || list_any p snaps) e) ∙ none in cc
  go false e rest = let here = rest (sym (ap (λ t. t || list_any p snaps) e) ∙ none) in grind arith

left_snaps : (p : ℕ → Bool) (snaps : List ℕ) (bytes : List ℕ) → list_any p snaps ≡ true → is_needed (record { snaps = filter p snaps; bytes = bytes }) ≡ true
left_snaps p [] bytes some = cc
left_snaps p (s ∷ snaps) bytes some = go (p s) refl (left_snaps p snaps bytes) where
  go : (test : Bool) → p s ≡ test → (list_any p snaps ≡ true → is_needed (record { snaps = filter p snaps; bytes = bytes }) ≡ true)
      → is_needed (record { snaps = filter p (s ∷ snaps); bytes = bytes }) ≡ true
  go true e rest = rw e refl
  go false e rest = let here = rest (sym (ap (λ t. t || list_any p snaps) e) ∙ some) in rw e here

kept_live : (a : Stock) (live : List ℕ) (versions : List Stored)
    → kept_by (map (kept_in a) (live_versions live versions)) ≡ kept_by (map (live_part live) (map (kept_in a) versions))
kept_live a live [] = refl
kept_live a live (v ∷ versions) = go (is_live live v) refl (kept_live a live versions) where
  go : (test : Bool) → is_live live v ≡ test
      → kept_by (map (kept_in a) (live_versions live versions)) ≡ kept_by (map (live_part live) (map (kept_in a) versions))
      → kept_by (map (kept_in a) (live_versions live (v ∷ versions))) ≡ kept_by (map (live_part live) (map (kept_in a) (v ∷ versions)))
  go true e rest =
      ap (λ xs. kept_by (map (kept_in a) xs)) (live_next live v versions true e)
      ∙ ap (keep_each (listed_bytes a v.content) (filter (is_listed live) v.snaps)) rest
  go false e rest =
      ap (λ xs. kept_by (map (kept_in a) xs)) (live_next live v versions false e)
      ∙ rest
      ∙ sym (ap (λ snaps. keep_each (listed_bytes a v.content) snaps (kept_by (map (live_part live) (map (kept_in a) versions)))) (dropped_snaps (is_listed live) v.snaps e))

used_live : (a : Stock) (live : List ℕ) (versions : List Stored) → AreUsed (map (kept_in a) (live_versions live versions))
used_live a live [] = refl
used_live a live (v ∷ versions) = go (is_live live v) refl (used_live a live versions) where
  go : (test : Bool) → is_live live v ≡ test → AreUsed (map (kept_in a) (live_versions live versions))
      → AreUsed (map (kept_in a) (live_versions live (v ∷ versions)))
  go true e rest =
      subst (λ xs. AreUsed (map (kept_in a) xs)) (sym (live_next live v versions true e))
      (let first = left_snaps (is_listed live) v.snaps (listed_bytes a v.content) e in rw first rest)
  go false e rest = subst (λ xs. AreUsed (map (kept_in a) xs)) (sym (live_next live v versions false e)) rest

abbrev no_bytes : Option (List ℕ)
no_bytes = None

same_none : (b : Bool) → cond b no_bytes no_bytes ≡ no_bytes
same_none true = refl
same_none false = refl

newest_live : (a : Stock) (live : List ℕ) (versions : List Stored) → AreNewest (map (kept_in a) versions)
    → AreNewest (map (kept_in a) (live_versions live versions))
newest_live a live [] newest = tt
newest_live a live (v ∷ versions) newest = go (is_live live v) refl (newest_live a live versions newest.1) where
  go : (test : Bool) → is_live live v ≡ test → AreNewest (map (kept_in a) (live_versions live versions))
      → AreNewest (map (kept_in a) (live_versions live (v ∷ versions)))
  go true e rest =
      subst (λ xs. AreNewest (map (kept_in a) xs)) (sym (live_next live v versions true e)) (
        λ snap listed.
            let both : (is_listed live snap && is_listed v.snaps snap) ≡ true = sym (is_listed-filter (is_listed live) v.snaps snap) ∙ listed in
            let mine : is_listed v.snaps snap ≡ true = grind arith in
            ap (λ k. get k snap) (kept_live a live versions)
            ∙ get-live_versions live (map (kept_in a) versions) snap
            ∙ ap (λ k. cond (is_listed live snap) k None) (newest.0 snap mine)
            ∙ same_none (is_listed live snap),
        rest,
      )
  go false e rest = subst (λ xs. AreNewest (map (kept_in a) xs)) (sym (live_next live v versions false e)) rest

pub trimmed_paged : (live : List ℕ) (a b : Stock) (head : Option Listed) (seq : ℕ) (versions items : List Stored) (o : Mapped)
    → IsPaged a head seq versions → ((s : ℕ) → count_at b.sheaves s + dead_named live s versions ≡ count_at a.sheaves s)
    → ((s : ℕ) → 0 < count_at b.sheaves s → IsSame a b s) → items ≡ live_versions live versions
    → value_of (bytes_of a head) seq (map (kept_in a) versions) ≡ o
    → IsPaged b head seq items × (value_of (bytes_of b head) seq (map (kept_in b) items) ≡ mapped_trim live o)
trimmed_paged live a b head seq versions items o paged counts kept is value =
    let count : (s : ℕ) → count_at b.sheaves s ≡ occurs s (sheaves_of head) + named s (live_versions live versions) =
    λ s. let x = paged.shared.counts s in let y = counts s in let z = named_live live s versions in omega arith in
    let head_now = framed_head a b head (λ s there. kept s (let x = count s in omega arith)) paged.shared.head_is in
    let frame = framed_versions a b (live_versions live versions) (λ s there. kept s (let x = count s in omega arith))
    (contents_live a live versions paged.shared.contents) in
    let maps : map (kept_in b) items ≡ map (kept_in a) (live_versions live versions) = ap (map (kept_in b)) is ∙ frame.1 in
    let trimmed : kept_by (map (kept_in a) (live_versions live versions)) ≡ retain_keys (kept_by (map (kept_in a) versions)) (is_listed live) =
    kept_live a live versions ∙ kept_by-live live (map (kept_in a) versions) in (
      record {
        shared = subst (AreShared b head) (sym is) (record { counts = count; head_is = head_now.0; contents = frame.0 });
        sound =
            subst (IsSound seq) (sym maps)
            (sound_trimmed live seq (map (kept_in a) versions) (map (kept_in a) (live_versions live versions)) trimmed (used_live a live versions)
            (newest_live a live versions paged.sound.newest) paged.sound);
      },
      ap (λ held. value_of held seq (map (kept_in b) items)) head_now.1
          ∙ ap (value_of (bytes_of a head) seq) maps
          ∙ ap (λ k. record { head = bytes_of a head; seq = seq; kept = k }) trimmed
          ∙ ap (mapped_trim live) value,
    )

-- ---- what is shown

find-map : {A B : Type 0} (f : A → B) (passes : B → Bool) (xs : List A) → find passes (map f xs) ≡ option_map f (find (λ x. passes (f x)) xs)
find-map f passes [] = refl
find-map f passes (x ∷ xs) = one (passes (f x)) (find-map f passes xs) where
  one : (test : Bool) → find passes (map f xs) ≡ option_map f (find (λ x. passes (f x)) xs)
      → cond test (Some (f x)) (find passes (map f xs)) ≡ option_map f (cond test (Some x) (find (λ x. passes (f x)) xs))
  one true rest = refl
  one false rest = rest

found_bytes : (a : Stock) (snap : ℕ) (versions : List Stored)
    → option_map (listed_bytes a) (option_map (λ (v : Stored). v.content) (find (λ (v : Stored). is_listed v.snaps snap) versions))
    ≡ get (kept_by (map (kept_in a) versions)) snap
found_bytes a snap versions =
    same (find (λ (v : Stored). is_listed v.snaps snap) versions)
    ∙ ap (option_map (λ (k : Kept). k.bytes)) (sym (find-map (kept_in a) (λ (k : Kept). is_listed k.snaps snap) versions))
    ∙ sym (get_kept_by (map (kept_in a) versions) snap)
  where
    same : (o : Option Stored) → option_map (listed_bytes a) (option_map (λ (v : Stored). v.content) o) ≡ option_map (λ (k : Kept). k.bytes) (option_map (kept_in a) o)
    same None = refl
    same (Some v) = refl

pub shown_is : (a : Stock) (head : Option Listed) (seq : ℕ) (versions : List Stored) (snap : Option ℕ) (o : Mapped) (found : Option Listed)
    → value_of (bytes_of a head) seq (map (kept_in a) versions) ≡ o → found ≡ view_in head seq versions snap
    → view (versioned o) snap ≡ bytes_of a found
shown_is a head seq versions None o found value is = ap (λ (x : Mapped). view (versioned x) None) (sym value) ∙ sym (ap (bytes_of a) is)
shown_is a head seq versions (Some snap) o found value is =
    ap (λ (x : Mapped). view (versioned x) (Some snap)) (sym value) ∙ go (ltb seq snap) refl ∙ sym (ap (bytes_of a) is) where
      go : (test : Bool) → ltb seq snap ≡ test → view (versioned (value_of (bytes_of a head) seq (map (kept_in a) versions))) (Some snap) ≡ bytes_of a (view_in head seq versions (Some snap))
      go true e = rw e refl
      go false e = rw e (sym (found_bytes a snap versions))

found_sound : (a : Stock) (snap : ℕ) (versions : List Stored) (c : Listed)
    → option_map (λ (v : Stored). v.content) (find (λ (v : Stored). is_listed v.snaps snap) versions) ≡ Some c
    → AreNamed a versions → AreContents a versions → AreCounted a.sheaves c.sheaves × IsContent a c
found_sound a snap [] c is names are = cc
found_sound a snap (v ∷ versions) c is names are =
    go (is_listed v.snaps snap) is
    (λ later. found_sound a snap versions c later (record { each = λ s. let most = names.each s in omega arith }) are.1) where
      go : (test : Bool)
          → option_map (λ (v : Stored). v.content) (cond test (Some v) (find (λ (v : Stored). is_listed v.snaps snap) versions)) ≡ Some c
          → (option_map (λ (v : Stored). v.content) (find (λ (v : Stored). is_listed v.snaps snap) versions) ≡ Some c → AreCounted a.sheaves c.sheaves × IsContent a c)
          → AreCounted a.sheaves c.sheaves × IsContent a c
      go true is rest =
          let same : v.content ≡ c = cc in
          (subst (λ (x : Listed). AreCounted a.sheaves x.sheaves) same (record { each = λ s. let most = names.each s in omega arith }), subst (IsContent a) same are.0)
      go false is rest = rest is

pub shown_sound : (a : Stock) (head : Option Listed) (seq : ℕ) (versions : List Stored) (snap : Option ℕ) (c : Listed)
    → Some c ≡ view_in head seq versions snap → IsPaged a head seq versions → AreCounted a.sheaves c.sheaves × IsContent a c
shown_sound a head seq versions None c is paged =
    (subst (λ h. AreCounted a.sheaves (sheaves_of h)) (sym is) (head_counted a head versions paged.shared), subst (IsHead a) (sym is) paged.shared.head_is)
shown_sound a head seq versions (Some snap) c is paged = go (ltb seq snap) refl is where
  go : (test : Bool) → ltb seq snap ≡ test → Some c ≡ view_in head seq versions (Some snap) → AreCounted a.sheaves c.sheaves × IsContent a c
  go true e is =
      let here : Some c ≡ head = is ∙ ap (λ t. cond t head (option_map (λ (v : Stored). v.content) (find (λ (v : Stored). is_listed v.snaps snap) versions))) e in
      (subst (λ h. AreCounted a.sheaves (sheaves_of h)) (sym here) (head_counted a head versions paged.shared), subst (IsHead a) (sym here) paged.shared.head_is)
  go false e is =
      found_sound a snap versions c
      (sym (is ∙ ap (λ t. cond t head (option_map (λ (v : Stored). v.content) (find (λ (v : Stored). is_listed v.snaps snap) versions))) e))
      (versions_counted a head versions paged.shared) paged.shared.contents

pub kept_view : (head : Option Listed) (seq : ℕ) (versions : List Stored) (snap : Option ℕ) (s : ℕ) → snap ≡ Some s → s ≤ seq
    → option_map (λ (v : Stored). v.content) (find (λ (v : Stored). is_listed v.snaps s) versions) ≡ view_in head seq versions snap
kept_view head seq versions snap s is below =
    rw is (let old : ltb seq s ≡ false = grind arith in
    ap (λ t. cond t head (option_map (λ (v : Stored). v.content) (find (λ (v : Stored). is_listed v.snaps s) versions))) (sym old))

-- ---- how many pages there are at least

abbrev lower : List ℕ → List ℕ
lower [] = []
lower (zero ∷ pages) = lower pages
lower (suc p ∷ pages) = p ∷ lower pages

length-lower : (pages : List ℕ) → length pages ≡ length (lower pages) + occurs 0 pages
length-lower [] = refl
length-lower (zero ∷ pages) = let rest = length-lower pages in grind arith
length-lower (suc p ∷ pages) = let rest = length-lower pages in grind arith

occurs-lower : (pages : List ℕ) (page : ℕ) → occurs page (lower pages) ≡ occurs (suc page) pages
occurs-lower [] page = refl
occurs-lower (zero ∷ pages) page = let rest = occurs-lower pages page in grind arith
occurs-lower (suc p ∷ pages) page = let rest = occurs-lower pages page in grind arith

at_most : (sheets : List Sheet) (pages : List ℕ) → ((page : ℕ) → occurs page pages ≤ min (count_at sheets page) 1) → length pages ≤ in_use sheets
at_most [] [] few = omega arith
at_most [] (p ∷ pages) few = let none = few p in grind arith
at_most (s ∷ sheets) pages few =
    let first = few 0 in
    let rest = at_most sheets (lower pages) (λ page. let later = few (suc page) in let same = occurs-lower pages page in omega arith) in
    let sum = length-lower pages in
    omega arith

-- the pages of what is shown
pub pages_least : (a : Stock) (head : Option Listed) (seq : ℕ) (versions : List Stored) (o : Mapped) (snap : Option ℕ) (bytes : List ℕ)
    → value_of (bytes_of a head) seq (map (kept_in a) versions) ≡ o → AreStocked a → IsPaged a head seq versions → view (versioned o) snap ≡ Some bytes
    → pages_for (length bytes) ≤ in_use a.sheets
pages_least a head seq versions o snap bytes value stocked paged some =
    go (view_in head seq versions snap) refl where
      go : (found : Option Listed) → found ≡ view_in head seq versions snap → pages_for (length bytes) ≤ in_use a.sheets
      go None is = let clash : Some bytes ≡ None = sym some ∙ shown_is a head seq versions snap o None value is in cc
      go (Some c) is =
          let same : bytes ≡ listed_bytes a c = let e : Some bytes ≡ Some (listed_bytes a c) = sym some ∙ shown_is a head seq versions snap o (Some c) value is in cc in
          let sound = shown_sound a head seq versions snap c is paged in
          let long : length bytes ≡ c.len = ap length same ∙ length-bytes_in a c in
          let fits : pages_for c.len ≤ length (pages_on a c) = sound.1.fits in
          let counted = counted_pages a c.sheaves stocked sound.1.apart in
          let most = at_most a.sheets (pages_on a c) (λ page. let x = counted.each page in let y = sound.1.apart.each page in omega arith) in
          subst (λ n. pages_for n ≤ in_use a.sheets) (sym long) (omega arith)

-- ---- no page where there is no byte

no_sheaves_in : (a : Stock) (c : Listed) → IsContent a c → listed_bytes a c ≡ [] → c.sheaves ≡ []
no_sheaves_in a c content none =
    let long : c.len ≡ 0 = sym (length-bytes_in a c) ∙ ap length none in
    let held = content.held in
    nil_from_length c.sheaves (omega arith)

unnamed : (a : Stock) (versions : List Stored) (s : ℕ) → AreContents a versions → AreEmpty (map (kept_in a) versions) → named s versions ≡ 0
unnamed a [] s are empty = refl
unnamed a (v ∷ versions) s are empty =
    let none = ap (occurs s) (no_sheaves_in a v.content are.0 empty.0) in
    let rest = unnamed a versions s are.1 empty.1 in
    omega arith

head_unnamed : (a : Stock) (head : Option Listed) (s : ℕ) → IsHead a head → ((bytes : List ℕ) → bytes_of a head ≡ Some bytes → bytes ≡ [])
    → occurs s (sheaves_of head) ≡ 0
head_unnamed a None s is empty = refl
head_unnamed a (Some c) s is empty = ap (occurs s) (no_sheaves_in a c is (empty (listed_bytes a c) refl))

named_nowhere : (sheaves : List Sheet) (x : ℕ) → ((s : ℕ) → bytes_at sheaves s ≡ []) → named_in x sheaves ≡ 0
named_nowhere [] x none = refl
named_nowhere (t ∷ sheaves) x none =
    let first = ap (occurs x) (none 0) in let rest = named_nowhere sheaves x (λ s. none (suc s)) in omega arith

unused : (sheets : List Sheet) → ((x : ℕ) → count_at sheets x ≡ 0) → in_use sheets ≡ 0
unused [] none = refl
unused (t ∷ sheets) none = let first = none 0 in let rest = unused sheets (λ x. none (suc x)) in omega arith

-- pages are named in sheaves
pub sheaf_of_pages : (sheaves sheets : List Sheet) → AreStocked (record { sheaves = sheaves; sheets = sheets }) → 0 < in_use sheets → 0 < length sheaves
sheaf_of_pages [] sheets stocked some = let none = unused sheets (λ x. stocked.counts x) in omega arith
sheaf_of_pages (s ∷ sheaves) sheets stocked some = omega arith

pub pages_none : (a : Stock) (head : Option Listed) (seq : ℕ) (versions : List Stored) (o : Mapped)
    → value_of (bytes_of a head) seq (map (kept_in a) versions) ≡ o → AreStocked a → IsPaged a head seq versions
    → ((snap : Option ℕ) (bytes : List ℕ) → view (versioned o) snap ≡ Some bytes → bytes ≡ []) → in_use a.sheets ≡ 0
pages_none a head seq versions o value stocked paged empty =
    let first : (bytes : List ℕ) → bytes_of a head ≡ Some bytes → bytes ≡ [] =
    λ bytes is. empty None bytes (ap (λ (x : Mapped). x.head) (sym value) ∙ is) in
    let kept : (snap : ℕ) (bytes : List ℕ) → get (kept_by (map (kept_in a) versions)) snap ≡ Some bytes → bytes ≡ [] =
    λ snap bytes is. empty (Some snap) bytes (ap (λ (x : Mapped). view (versioned x) (Some snap)) (sym value) ∙ seen snap bytes is (ltb seq snap) refl) in
    let all = kept_empty (map (kept_in a) versions) paged.sound.used paged.sound.newest kept in
    unused a.sheets (λ x.
    stocked.counts x
    ∙ named_nowhere a.sheaves x (λ s.
    stocked.free s
    (let count = paged.shared.counts s in
    let here = head_unnamed a head s paged.shared.head_is first in
    let rest = unnamed a versions s paged.shared.contents all in
    omega arith)))
  where
    seen : (snap : ℕ) (bytes : List ℕ) → get (kept_by (map (kept_in a) versions)) snap ≡ Some bytes → (test : Bool) → ltb seq snap ≡ test
        → view (versioned (value_of (bytes_of a head) seq (map (kept_in a) versions))) (Some snap) ≡ Some bytes
    seen snap bytes is true e = let clash : None ≡ Some bytes = sym (paged.sound.tidy.above snap (grind arith)) ∙ is in cc
    seen snap bytes is false e = rw e is

pub paged_blank : (stock : Stock) (versions : List Stored) → stock ≡ record { sheaves = []; sheets = [] } → versions ≡ []
    → IsPaged stock None 0 versions
paged_blank stock versions e f =
    subst (λ x. IsPaged x None 0 versions) (sym e)
    (subst (IsPaged (record { sheaves = []; sheets = [] }) None 0) (sym f) (record {
      shared = record { counts = λ s. omega arith; head_is = tt; contents = tt };
      sound = sound_blank [] refl;
    }))

-- ---- any run of calls

pub pages_were_in_use : (calls : List Call) (o : Paged) → AreCalls calls o → o.page_places ≤ most_pages calls
pages_were_in_use [] o made = let none = made.0 in omega arith
pages_were_in_use (call ∷ earlier) o made =
    let before = pages_were_in_use earlier call.before made.1 in
    let step = made.0 in
    let places = step.page_places in
    omega arith

pub sheaves_were_in_use : (calls : List Call) (o : Paged) → AreCalls calls o → o.sheaf_places ≤ most_sheaves calls
sheaves_were_in_use [] o made = let none = made.1 in omega arith
sheaves_were_in_use (call ∷ earlier) o made =
    let before = sheaves_were_in_use earlier call.before made.1 in
    let step = made.0 in
    let places = step.sheaf_places in
    omega arith
