use Rattle.std.proofs.Common.{ℕ, ◌≡◌, ◌+◌, ◌-◌, ◌/◌, ◌<◌, ◌≤◌, length, max, get_or}
use Rattle.rbd_pages.specs.Sheaves.{IsOwnPage, ArePagesPrepared, pages_in, sheaves_between, sheaves_for}
use Rattle.rbd_pages.specs.Places.{Grown}
use Rattle.rbd_pages.specs.Sheets.{count_at, in_use}
use Rattle.rbd_pages.proofs.lists.prepare_each.Given as goal

-- the pages up to place `k` are ready
abbrev pub invariant-loop-k : goal.invariant-loop-k
invariant-loop-k l = record {
  prepared : ArePagesPrepared l.initial.sheaves l.initial.list.items l.sheaves l.list.items;
  many : length l.list.items ≡ max (length l.initial.list.items) (sheaves_for l.k);
  long : l.k ≤ length (pages_in l.sheaves.sheaves l.list.items);
  used : in_use l.sheaves.sheets + l.first ≤ in_use l.initial.sheaves.sheets + l.k;
  grown : Grown (l.k - l.first) (sheaves_between l.first l.k) l.initial.sheaves l.sheaves;
  last : (j : ℕ) → l.first ≤ j → j + 1 ≡ l.k → count_at l.sheaves.sheaves (get_or l.list.items (j / 128) 0) ≡ 1;
  ready : (j : ℕ) → j < l.len → (l.at + j) / 4096 < l.k → IsOwnPage l.sheaves l.list.items ((l.at + j) / 4096) (get_or l.bytes j 0);
  from : l.first ≤ l.k;
  up_to : l.k ≤ max l.first l.end;
}
