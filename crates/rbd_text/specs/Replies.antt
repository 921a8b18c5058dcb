-- What replies print.
use Rattle.std.specs.Prelude.{ℕ, ◌+◌, ◌^◌, ◌<◌, suc, zero, max, List, [], ◌∷◌, ◌++◌, codes, decimal, Option, Some, None, length}
use Rattle.std.specs.List.{flat_map}
use Rattle.hex.specs.Hex.{encode_lower}
use Rattle.rbd_commands.specs.Refusal.{refusal_text}
use Rattle.rbd_kinds.specs.Striping.{IsLayout, object_of}
use Rattle.rbd_kinds.specs.declared.header.HeaderView.{HeaderView}
use Rattle.rbd_kinds.specs.declared.header.ParentLink.{ParentLink}
use Rattle.rbd_kinds.specs.declared.header.Role.{Role}
use Rattle.rbd_kinds.specs.declared.header.Role.TheVariants.{Plain, Primary, Secondary}
use Rattle.rbd_kinds.specs.declared.header.SnapStatus.{SnapStatus}
use Rattle.rbd_kinds.specs.declared.header.SnapStatus.TheVariants.{Unprotected, Unprotecting, Protected}
use Rattle.rbd_kinds.specs.declared.header.SnapView.{SnapView}
use Rattle.rbd_kinds.specs.declared.id.Instance.{Instance}
use Rattle.rbd_kinds.specs.declared.layout.Layout.{Layout}
use Rattle.rbd_kinds.specs.declared.reply.MirrorState.{MirrorState}
use Rattle.rbd_kinds.specs.declared.reply.MirrorState.TheVariants as state
use Rattle.rbd_kinds.specs.declared.reply.Reply.{Reply}
use Rattle.rbd_kinds.specs.declared.reply.Reply.TheVariants.{Done, Bytes, Names, Ids, Snaps, Info, Used, At, SplitBrain, Stuck, Status, Refused}
use Rattle.rbd_script.specs.declared.script.Declared.{Declared}
use Rattle.rbd_text.specs.Names.{instance_text}

-- one more than the greatest number that f gives below n, and 0 where there is none
unfoldable pub count_below : (ℕ → ℕ) → ℕ → ℕ
count_below f zero = 0
count_below f (suc n) = max (count_below f n) (f n + 1)

-- The number of objects of a size is one more than the greatest object number of a byte below the
-- size, and 0 for size 0.
abbrev pub objects_below : Layout → (size : ℕ) → ℕ
objects_below layout size = count_below (object_of layout) size

abbrev pub bytes_text : List ℕ → List ℕ
bytes_text [] = codes "ok"
bytes_text (byte ∷ bytes) = codes "ok " ++ encode_lower (byte ∷ bytes)

-- each after a space
abbrev pub names_text : List (List ℕ) → List ℕ
names_text names = codes "ok" ++ flat_map (λ name. codes " " ++ name) names

abbrev pub ids_text : List ℕ → List ℕ
ids_text ids = codes "ok" ++ flat_map (λ id. codes " " ++ decimal id) ids

abbrev pub status_word : SnapStatus → List ℕ
status_word Unprotected = codes "unprotected"
status_word Unprotecting = codes "unprotecting"
status_word Protected = codes "protected"

-- ` s1:4096:unprotected`
abbrev pub snap_text : SnapView → List ℕ
snap_text snap = codes " " ++ snap.name ++ codes ":" ++ decimal snap.size ++ codes ":" ++ status_word snap.status

abbrev pub snaps_text : List SnapView → List ℕ
snaps_text snaps = codes "ok" ++ flat_map snap_text snaps

-- `4194304/4194304/1`
abbrev pub layout_text : Layout → List ℕ
layout_text layout = decimal layout.object ++ codes "/" ++ decimal layout.unit ++ codes "/" ++ decimal layout.count

-- `1@1 overlap 5000`
abbrev pub parent_text : Option ParentLink → List ℕ
parent_text None = codes "none"
parent_text (Some link) = decimal link.image ++ codes "@" ++ decimal link.snap ++ codes " overlap "
    ++ decimal link.overlap

abbrev pub lock_text : List Declared → Option Instance → List ℕ
lock_text sessions None = codes "none"
lock_text sessions (Some owner) = instance_text sessions owner

abbrev pub role_word : Role → List ℕ
role_word Plain = codes "none"
role_word Primary = codes "primary"
role_word Secondary = codes "secondary"

-- `size 10000 objects 3 layout 4096/4096/1 snaps 1`
abbrev pub extent_text : HeaderView → List ℕ
extent_text view =
    codes "size " ++ decimal view.size ++ codes " objects " ++ decimal (objects_below view.layout view.size)
    ++ codes " layout " ++ layout_text view.layout ++ codes " snaps " ++ decimal (length view.snaps)

-- `parent 1@1 overlap 5000 lock c1.0 role none`
abbrev pub standing_text : List Declared → HeaderView → List ℕ
standing_text sessions view =
    codes "parent " ++ parent_text view.parent ++ codes " lock " ++ lock_text sessions view.owner ++ codes " role "
    ++ role_word view.role

abbrev pub info_text : List Declared → HeaderView → List ℕ
info_text sessions view = codes "ok " ++ extent_text view ++ codes " " ++ standing_text sessions view

abbrev pub used_text : (used of : ℕ) → List ℕ
used_text used of = codes "ok used " ++ decimal used ++ codes " of " ++ decimal of

abbrev pub stuck_text : List ℕ → List ℕ
stuck_text name = codes "stuck " ++ name

abbrev pub state_text : MirrorState → List ℕ
state_text state.Dash = codes "-"
state_text state.Following = codes "following"
state_text state.SplitBrain = codes "split-brain"
state_text (state.Stuck name) = stuck_text name
state_text state.Missing = codes "missing"

abbrev pub mirror_text : Role → (at : ℕ) → MirrorState → List ℕ
mirror_text role at state = codes "ok " ++ role_word role ++ codes " " ++ decimal at ++ codes " " ++ state_text state

abbrev pub reply_text : List Declared → Reply → List ℕ
reply_text sessions Done = codes "ok"
reply_text sessions (Bytes bytes) = bytes_text bytes
reply_text sessions (Names names) = names_text names
reply_text sessions (Ids ids) = ids_text ids
reply_text sessions (Snaps snaps) = snaps_text snaps
reply_text sessions (Info view) = info_text sessions view
reply_text sessions (Used used of) = used_text used of
reply_text sessions (At at) = codes "ok at " ++ decimal at
reply_text sessions (SplitBrain at) = codes "split-brain at " ++ decimal at
reply_text sessions (Stuck name) = stuck_text name
reply_text sessions (Status role at state) = mirror_text role at state
reply_text sessions (Refused refusal) = refusal_text refusal

-- the header that an Info tells has a layout within the limits and a size below 2^63
abbrev pub IsShowable : Reply → Type 0
IsShowable (Info view) = IsLayout view.layout × (view.size < 2 ^ 63)
IsShowable reply = Unit {0}
