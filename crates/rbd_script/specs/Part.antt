-- The parts of forms.
use Rattle.std.specs.Prelude.{ℕ, Bool, true, false, if◌then◌else◌, List, [], ◌∷◌, Option, Some, None, Result, Ok, Err}
use Rattle.rbd_kinds.specs.declared.id.SiteId.{SiteId}
use Rattle.rbd_kinds.specs.declared.operation_kind.OpKind.{OpKind}
use Rattle.rbd_script.specs.declared.fault.LineCause.{LineCause}
use Rattle.rbd_script.specs.declared.fault.LineCause.TheVariants.{MissingPart, UnknownWord}
use Rattle.rbd_script.specs.declared.script.Declared.{Declared}
use Rattle.rbd_script.specs.declared.verb.Verb.{Verb}
use Rattle.rbd_script.specs.declared.snap.SnapVerb.{SnapVerb}
use Rattle.rbd_script.specs.declared.mirror.MirrorVerb.{MirrorVerb}
use Rattle.rbd_script.specs.declared.schedule.ScheduleVerb.{ScheduleVerb}
use Rattle.rbd_script.specs.Hex.{byte_of_digits, bytes_of_digits}
use Rattle.rbd_script.specs.Name.{name_of_token, snap_of_token, target_of}
use Rattle.rbd_script.specs.Number.{number_between}
use Rattle.rbd_script.specs.Session.{new_session_of, session_of_token}
use Rattle.rbd_script.specs.Token.{is}
use Rattle.rbd_script.specs.Verbs.{verb_of}
use Rattle.rbd_script.specs.Word.{kind_of_token, mirror_verb_of, schedule_verb_of, site_of_token, snap_verb_of}

pub data Part : Type 0 where
  -- places of one token
  Image : Part
  Snap : Part
  Target : Part
  Number : (most : ℕ) → Part
  Hex : Part
  Byte : Part
  Site : Part
  Kind : Part
  Session : (sessions : List Declared) → Part
  NewSession : (sessions : List Declared) → Part
  CommandWord : Part
  SnapWord : Part
  MirrorWord : Part
  ScheduleWord : Part
  -- `[TIMES]`, where it isn't there 1
  Times : Part
  -- `[WORD N]`
  Optional : (word : List ℕ) (most : ℕ) → Part
  -- `[WORD]`, the last of its form
  Flag : (word : List ℕ) → Part

-- what a part says
abbrev pub Value : Part → Type 0
Value Image = List ℕ
Value Snap = List ℕ × List ℕ
Value Target = List ℕ × Option (List ℕ)
Value (Number most) = ℕ
Value Hex = List ℕ
Value Byte = ℕ
Value Site = SiteId
Value Kind = OpKind
Value (Session sessions) = ℕ
Value (NewSession sessions) = List ℕ
Value CommandWord = Verb
Value SnapWord = SnapVerb
Value MirrorWord = MirrorVerb
Value ScheduleWord = ScheduleVerb
Value Times = ℕ
Value (Optional word most) = Option ℕ
Value (Flag word) = Bool

-- a value that the front of the tokens says, and the tokens that are left
abbrev pub Front : Type 0 → Type 0
Front A = Result (A × List (List ℕ)) LineCause

abbrev pub with_rest : {A : Type 0} → List (List ℕ) → Result A LineCause → Front A
with_rest tokens (Ok value) = Ok (value, tokens)
with_rest tokens (Err cause) = Err cause

-- one token
abbrev pub place : {A : Type 0} → (List ℕ → Result A LineCause) → List (List ℕ) → Front A
place value [] = Err MissingPart
place value (token ∷ tokens) = with_rest tokens (value token)

abbrev pub place_or : {A : Type 0} → A → (List ℕ → Result A LineCause) → List (List ℕ) → Front A
place_or absent value [] = Ok (absent, [])
place_or absent value (token ∷ tokens) = with_rest tokens (value token)

abbrev pub given_number : Front ℕ → Front (Option ℕ)
given_number (Ok (n, tokens)) = Ok (Some n, tokens)
given_number (Err cause) = Err cause

abbrev pub option : (word : List ℕ) → (List ℕ → Result ℕ LineCause) → List (List ℕ) → Front (Option ℕ)
option word value [] = Ok (None, [])
option word value (token ∷ tokens) = if is word token then given_number (place value tokens)
    else Ok (None, token ∷ tokens)

abbrev pub flag : (word : List ℕ) → List (List ℕ) → Front Bool
flag word [] = Ok (false, [])
flag word (token ∷ tokens) = if is word token then Ok (true, tokens) else Err UnknownWord

unfoldable pub part_of : (p : Part) → List (List ℕ) → Front (Value p)
part_of Image tokens = place name_of_token tokens
part_of Snap tokens = place snap_of_token tokens
part_of Target tokens = place target_of tokens
part_of (Number most) tokens = place (number_between 0 most) tokens
part_of Hex tokens = place bytes_of_digits tokens
part_of Byte tokens = place byte_of_digits tokens
part_of Site tokens = place site_of_token tokens
part_of Kind tokens = place kind_of_token tokens
part_of (Session sessions) tokens = place (session_of_token sessions) tokens
part_of (NewSession sessions) tokens = place (new_session_of sessions) tokens
part_of CommandWord tokens = place verb_of tokens
part_of SnapWord tokens = place snap_verb_of tokens
part_of MirrorWord tokens = place mirror_verb_of tokens
part_of ScheduleWord tokens = place schedule_verb_of tokens
part_of Times tokens = place_or 1 (number_between 1 1000000) tokens
part_of (Optional word most) tokens = option word (number_between 0 most) tokens
part_of (Flag word) tokens = flag word tokens
