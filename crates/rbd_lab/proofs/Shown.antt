-- What a world's history shows can be printed.
use Rattle.std.proofs.Common.{List}
use Rattle.std.proofs.lemmas.List.Elements.{All-weaker}
use Rattle.rbd_flat.specs.declared.entry.Entry.{Entry}
use Rattle.rbd_flat.specs.declared.entry.Entry.TheVariants as entry
use Rattle.rbd_kinds.specs.declared.reply.Reply.{Reply}
use Rattle.rbd_kinds.specs.declared.reply.Reply.TheVariants as reply
use Rattle.rbd_replies.specs.Shown.{AreHeadersInForm, IsEntryInForm, ShowsInForm}
use Rattle.rbd_text.specs.Replies.{IsShowable}
use Rattle.rbd_text.specs.Text.{AreShown, IsShownEntry}

reply_shown : (r : Reply) → ShowsInForm r → IsShowable r
reply_shown (reply.Info h) shows = (shows.form.layout, shows.size)
reply_shown _ shows = tt

entry_shown : (e : Entry) → IsEntryInForm e → IsShownEntry e
entry_shown (entry.Reply line r) shows = reply_shown r shows
entry_shown _ shows = tt

pub history_shown : (history : List Entry) → AreHeadersInForm history → AreShown history
history_shown = All-weaker IsEntryInForm IsShownEntry entry_shown
