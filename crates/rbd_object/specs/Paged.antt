-- The versioned object as a value, with the numbers of its pages, of its sheaves, and of places for both.
use Rattle.std.specs.Prelude.{◌≡◌, ℕ, ◌+◌, ◌≤◌, List, [], ◌∷◌, length, map, max, Option, refl}
use Rattle.std.specs.Coded.{Coded, code_by, coded×, coded_ℕ}
use Rattle.rbd_object.specs.Mapped.{Mapped, mapped_code, value_of, IsSound}
use Rattle.rbd_pages.specs.Sheaves.{Stock}
use Rattle.rbd_pages.specs.Sheets.{in_use}
use Rattle.rbd_pages.specs.Listed.{Listed}
use Rattle.rbd_object.specs.Shared.{Stored, AreShared, bytes_of, kept_in}

pub record Paged : Type 0 where
  pub shown : Mapped
  pub pages : ℕ
  pub sheaves : ℕ
  pub page_places : ℕ
  pub sheaf_places : ℕ

abbrev pub paged_code : Coded Paged
paged_code =
    code_by (Mapped × (ℕ × (ℕ × (ℕ × ℕ))))
    (coded× mapped_code (coded× coded_ℕ (coded× coded_ℕ (coded× coded_ℕ coded_ℕ))))
    (λ o. (o.shown, (o.pages, (o.sheaves, (o.page_places, o.sheaf_places)))))
    (λ p. record { shown = p.0; pages = p.1.0; sheaves = p.1.1.0; page_places = p.1.1.1.0; sheaf_places = p.1.1.1.1 })
    (λ _. refl)

-- the value of an object whose contents lie on these sheaves and pages, newest version first
abbrev pub paged_of : Stock → (head : Option Listed) → (seq : ℕ) → List Stored → Paged
paged_of stock head seq versions = record {
  shown = value_of (bytes_of stock head) seq (map (kept_in stock) versions);
  pages = in_use stock.sheets;
  sheaves = in_use stock.sheaves;
  page_places = length stock.sheets;
  sheaf_places = length stock.sheaves;
}

-- what holds at every moment
pub record IsPaged (stock : Stock) (head : Option Listed) (seq : ℕ) (versions : List Stored) : Type 0 where
  pub shared : AreShared stock head versions
  pub sound : IsSound seq (map (kept_in stock) versions)

-- A call took so many pages and sheaves at most. There are no more places behind it than before, or
-- than those that it took and those before it, which may have been in use at one time.
pub record KeepsPlaces (more_pages more_sheaves : ℕ) (old new : Paged) : Type 0 where
  pub page_places : new.page_places ≤ max old.page_places (old.pages + more_pages)
  pub sheaf_places : new.sheaf_places ≤ max old.sheaf_places (old.sheaves + more_sheaves)
  pub sheaves : new.sheaves ≤ old.sheaves + more_sheaves

-- ---- any run of calls

-- a call: the object before it, and how many pages and sheaves it may take
pub record Call : Type 0 where
  pub before : Paged
  pub more_pages : ℕ
  pub more_sheaves : ℕ

-- these calls, the latest first, made this object of a new one
abbrev pub AreCalls : List Call → (object : Paged) → Type 0
AreCalls [] object = (object.page_places ≡ 0) × (object.sheaf_places ≡ 0)
AreCalls (call ∷ earlier) object =
    KeepsPlaces call.more_pages call.more_sheaves call.before object × AreCalls earlier call.before

-- the most pages that one of these calls may have had in use at one time: those before it, and those
-- that it may take
abbrev pub most_pages : List Call → ℕ
most_pages [] = 0
most_pages (call ∷ earlier) = max (call.before.pages + call.more_pages) (most_pages earlier)

-- the most sheaves, as `most_pages` has it of pages
abbrev pub most_sheaves : List Call → ℕ
most_sheaves [] = 0
most_sheaves (call ∷ earlier) = max (call.before.sheaves + call.more_sheaves) (most_sheaves earlier)
