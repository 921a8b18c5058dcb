-- The notices of a site, oldest first.
use Rattle.std.specs.Prelude.{◌≡◌, ℕ, ◌+◌, ◌==◌, List, [], ◌∷◌, Option, find}
use Rattle.rbd_kinds.specs.declared.id.Instance.{Instance}
use Rattle.rbd_kinds.specs.declared.id.SiteId.{SiteId}
use Rattle.rbd_kinds.specs.declared.notice.Notice.{Notice}
use Rattle.rbd_kinds.specs.declared.notice.NoticeKind.{NoticeKind}

-- one notice for each receiver, in their order, numbered from a number on
abbrev pub notices : (number : ℕ) → SiteId → (image : ℕ) → (from : Instance) → (receivers : List Instance) → NoticeKind
    → List Notice
notices number site image from [] kind = []
notices number site image from (to ∷ receivers) kind =
    record { number = number; to = to; from = from; site = site; image = image; kind = kind }
    ∷ notices (number + 1) site image from receivers kind

-- the notice that has a number
abbrev pub notice_numbered : (number : ℕ) → List Notice → Option Notice
notice_numbered number mail = find (λ n. n.number == number) mail

-- numbered without gaps from a number on
abbrev pub AreNumberedFrom : (number : ℕ) → List Notice → Type 0
AreNumberedFrom number [] = Unit {0}
AreNumberedFrom number (n ∷ mail) = (n.number ≡ number) × AreNumberedFrom (number + 1) mail
