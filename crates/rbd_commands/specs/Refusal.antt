use Rattle.std.specs.Prelude.{ℕ, List, ◌++◌, codes, decimal}
use Rattle.rbd_commands.specs.declared.refusal.Refusal.{Refusal}
use Rattle.rbd_commands.specs.declared.refusal.Refusal.TheVariants.{BadRange, NoImage, ImageExists, NoSnap, SnapExists, SnapProtected, NotProtected, HasChildren, HasSnaps, InUse, NonPrimary, Fenced, BadShape, NotMirrored, IsPrimary, NotDemoted, TooDeep, NotJournaled, NoParent}

abbrev pub number_of : Refusal → ℕ
number_of BadRange = 1
number_of NoImage = 2
number_of ImageExists = 3
number_of NoSnap = 4
number_of SnapExists = 5
number_of SnapProtected = 6
number_of NotProtected = 7
number_of HasChildren = 8
number_of HasSnaps = 9
number_of InUse = 10
number_of NonPrimary = 11
number_of Fenced = 12
number_of BadShape = 13
number_of NotMirrored = 14
number_of IsPrimary = 15
number_of NotDemoted = 16
number_of TooDeep = 17
number_of NotJournaled = 18
number_of NoParent = 19

-- ENOENT 2, EBUSY 16, EEXIST 17, EINVAL 22, EROFS 30, ENOTEMPTY 39, ESHUTDOWN 108
abbrev pub errno_of : Refusal → ℕ
errno_of BadRange = 22
errno_of NoImage = 2
errno_of ImageExists = 17
errno_of NoSnap = 2
errno_of SnapExists = 17
errno_of SnapProtected = 16
errno_of NotProtected = 22
errno_of HasChildren = 16
errno_of HasSnaps = 39
errno_of InUse = 16
errno_of NonPrimary = 30
errno_of Fenced = 108
errno_of BadShape = 22
errno_of NotMirrored = 22
errno_of IsPrimary = 22
errno_of NotDemoted = 16
errno_of TooDeep = 22
errno_of NotJournaled = 22
errno_of NoParent = 22

abbrev pub word_of : Refusal → List ℕ
word_of BadRange = codes "BadRange"
word_of NoImage = codes "NoImage"
word_of ImageExists = codes "ImageExists"
word_of NoSnap = codes "NoSnap"
word_of SnapExists = codes "SnapExists"
word_of SnapProtected = codes "SnapProtected"
word_of NotProtected = codes "NotProtected"
word_of HasChildren = codes "HasChildren"
word_of HasSnaps = codes "HasSnaps"
word_of InUse = codes "InUse"
word_of NonPrimary = codes "NonPrimary"
word_of Fenced = codes "Fenced"
word_of BadShape = codes "BadShape"
word_of NotMirrored = codes "NotMirrored"
word_of IsPrimary = codes "IsPrimary"
word_of NotDemoted = codes "NotDemoted"
word_of TooDeep = codes "TooDeep"
word_of NotJournaled = codes "NotJournaled"
word_of NoParent = codes "NoParent"

-- as it is printed
abbrev pub refusal_text : Refusal → List ℕ
refusal_text r = codes "error " ++ decimal (errno_of r) ++ codes " " ++ word_of r
