-- What replies show of headers: each is one that a site can have.
use Rattle.std.specs.Prelude.{◌<◌, ◌^◌, List, All}
use Rattle.rbd_flat.specs.declared.entry.Entry.{Entry}
use Rattle.rbd_flat.specs.declared.entry.Entry.TheVariants as entry
use Rattle.rbd_kinds.specs.Form.{IsHeaderInForm}
use Rattle.rbd_kinds.specs.declared.header.HeaderView.{HeaderView}
use Rattle.rbd_kinds.specs.declared.reply.Reply.{Reply}
use Rattle.rbd_kinds.specs.declared.reply.Reply.TheVariants as reply

-- The header is in form, as its layout is, and its size is a number that a script could say.
pub record IsShownInForm (h : HeaderView) : Type 0 where
  pub form : IsHeaderInForm h
  pub size : h.size < 2 ^ 63

abbrev pub ShowsInForm : Reply → Type 0
ShowsInForm (reply.Info h) = IsShownInForm h
ShowsInForm r = Unit {0}

abbrev pub IsEntryInForm : Entry → Type 0
IsEntryInForm (entry.Reply line r) = ShowsInForm r
IsEntryInForm e = Unit {0}

-- each header that a reply of a history shows is so
abbrev pub AreHeadersInForm : List Entry → Type 0
AreHeadersInForm history = All IsEntryInForm history
