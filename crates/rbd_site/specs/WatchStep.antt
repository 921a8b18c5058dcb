-- Who watches an image's header, and whom a notice goes to. A header that isn't there has no
-- watchers.
use Rattle.std.specs.Prelude.{ℕ, ◌+◌, List, [], ◌++◌, length, Option, Some, None}
use Rattle.rbd_kinds.specs.declared.header.HeaderView.{HeaderView}
use Rattle.rbd_kinds.specs.declared.header_op.HeaderOp.{HeaderOp}
use Rattle.rbd_kinds.specs.declared.header_op.HeaderOp.TheVariants.{Remove, Watch, Unwatch, Notify}
use Rattle.rbd_kinds.specs.declared.id.Instance.{Instance}
use Rattle.rbd_kinds.specs.declared.id.SiteId.{SiteId}
use Rattle.rbd_kinds.specs.declared.notice.Notice.{Notice}
use Rattle.rbd_watch.specs.Posting.{notices}
use Rattle.rbd_watch.specs.Watching.{registered, without}

-- the watchers after an operation of an instance on a header that is there: a header that is
-- removed takes them with it
abbrev pub there_watched : Instance → (watchers : List Instance) → HeaderOp → List Instance
there_watched me watchers Watch = registered me watchers
there_watched me watchers Unwatch = without me watchers
there_watched me watchers Remove = []
there_watched me watchers op = watchers

abbrev pub watchers_after : Instance → Option HeaderView → (watchers : List Instance) → HeaderOp → List Instance
watchers_after me (Some h) watchers op = there_watched me watchers op
watchers_after me None watchers op = watchers

-- whom a notice of an instance goes to, in order of registration: who watches, but the instance
abbrev pub receivers : Instance → Option HeaderView → (watchers : List Instance) → List Instance
receivers me (Some h) watchers = without me watchers
receivers me None watchers = []

-- the notices of both sites after an operation on a header: one more for each receiver
abbrev pub notified : SiteId → Instance → (image : ℕ) → (receivers : List Instance) → HeaderOp → List Notice
    → List Notice
notified site me image to (Notify kind) mail = mail ++ notices (length mail + 1) site image me to kind
notified site me image to op mail = mail
