-- A content as a list of sheaves, whose pages others may name too.
use Rattle.std.specs.Prelude.{◌≡◌, ℕ, ◌-◌, ◌/◌, ◌≤◌, nat_lt, if◌then◌else◌, List, map, length}
use Rattle.std.specs.List.{range_with_len}
use Rattle.rbd_pages.specs.Paging.{byte_on_pages, pages_for, AreApart}
use Rattle.rbd_pages.specs.Sheaves.{AreFull, Stock, pages_in, sheaves_between, sheaves_for}
use Rattle.rbd_pages.specs.declared.page.TheConstants.{PAGE}
use Rattle.rbd_parts.specs.declared.parts.TheConstants.{LARGEST_OBJECT}

-- the sheaves of a content, in order, and how many bytes it has
pub record Listed : Type 0 where
  pub sheaves : List ℕ
  pub len : ℕ

-- the pages of a content, in order
abbrev pub pages_on : Stock → Listed → List ℕ
pages_on stock c = pages_in stock.sheaves c.sheaves

abbrev pub listed_bytes : Stock → Listed → List ℕ
listed_bytes stock c = map (byte_on_pages stock.sheets (pages_on stock c)) (range_with_len 0 c.len)

-- The list has the sheaves and the pages that the bytes take, no page twice, and no byte past the
-- length but zeros. Behind the last byte there may be pages that a refused change added, up to the
-- end of the last sheaf.
pub record IsContent (stock : Stock) (c : Listed) : Type 0 where
  pub held : length c.sheaves ≡ sheaves_for (pages_for c.len)
  pub full : AreFull stock.sheaves c.sheaves
  pub fits : pages_for c.len ≤ length (pages_on stock c)
  pub zeros : (i : ℕ) → c.len ≤ i → byte_on_pages stock.sheets (pages_on stock c) i ≡ 0
  pub apart : AreApart (pages_on stock c)
  pub small : c.len ≤ LARGEST_OBJECT

-- how many pages the bytes from `first` up to `end` touch
abbrev pub touched : (first end : ℕ) → ℕ
touched first end = if nat_lt first end then pages_for end - first / PAGE else 0

-- how many sheaves they touch
abbrev pub sheaves_touched : (first end : ℕ) → ℕ
sheaves_touched first end = if nat_lt first end then sheaves_between (first / PAGE) (pages_for end) else 0
