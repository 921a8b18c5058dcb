-- What spells a command is read as it.
use Rattle.std.proofs.Common.{◌≡◌, ℕ, ◌<◌, ◌≤◌, ◌^◌, Bool, true, false, List, [], ◌∷◌, ◌++◌, Option, Some, None, Result, Ok, Err, refl, ◌∙◌, arith}
use Rattle.std.specs.Prelude.{codes, decimal, IfSome}
use Rattle.hex.specs.Hex.{encode_lower}
use Rattle.rbd_values.specs.Name.{IsAskedName}
use Rattle.rbd_commands.specs.declared.command.Command.{Command}
use Rattle.rbd_commands.specs.declared.command.Command.TheVariants as command
use Rattle.rbd_script.specs.declared.fault.LineCause.{LineCause}
use Rattle.rbd_script.specs.declared.fault.LineCause.TheVariants.{ExtraPart}
use Rattle.rbd_script.specs.declared.verb.Verb.{Verb}
use Rattle.rbd_script.specs.declared.verb.Verb.TheVariants as verb
use Rattle.rbd_script.specs.declared.verb.ImageVerb.{ImageVerb}
use Rattle.rbd_script.specs.declared.verb.ImageVerb.TheVariants as image
use Rattle.rbd_script.specs.declared.snap.SnapVerb.{SnapVerb}
use Rattle.rbd_script.specs.declared.snap.SnapVerb.TheVariants as snap
use Rattle.rbd_script.specs.declared.snap.OfSnap.TheVariants as of_snap
use Rattle.rbd_script.specs.declared.mirror.MirrorVerb.{MirrorVerb}
use Rattle.rbd_script.specs.declared.mirror.MirrorVerb.TheVariants as mirror
use Rattle.rbd_script.specs.declared.mirror.OfMirrored.TheVariants as of_mirror
use Rattle.rbd_script.specs.Command.{command_form, command_of_tokens, mirror_form, shape, shape_parts, snap_form}
use Rattle.rbd_script.specs.Form.{form}
use Rattle.rbd_script.specs.Number.{greatest, number_between}
use Rattle.rbd_script.specs.Part.{part_of}
use Rattle.rbd_script.specs.Part.Part.{Flag, Optional}
use Rattle.rbd_script.specs.Spelling.{flag_tokens, image_tokens, IsImageInRange, IsInRange, IsShape, option_tokens, shape_tokens, snap_token, spelling, target_token}
use Rattle.rbd_script.specs.Verbs.{image_command, image_said, image_word, verb_of, verb_word}
use Rattle.rbd_script.specs.Word.{mirror_verb_of, mirror_word, snap_verb_of, snap_word}
use Rattle.rbd_script.proofs.HexSpelling.{byte_read, hex_read}
use Rattle.rbd_script.proofs.TokenSpelling.{name_read, number_read, snap_read, target_read}

abbrev Tokens : Type 0
Tokens = List (List ℕ)

big : greatest < 2 ^ 64
big = omega arith

verb_first : (v : Verb) → verb_of (verb_word v) ≡ Ok v
unfolding verb_of
verb_first verb.Create = refl
verb_first (verb.Image image.Remove) = refl
verb_first v = refl

command_with : (v : Verb) (ts : Tokens) → command_of_tokens (verb_word v ∷ ts) ≡ command_form v ts
unfolding command_of_tokens part_of
command_with v ts = rw (verb_first v) refl

snap_first : (v : SnapVerb) → snap_verb_of (snap_word v) ≡ Ok v
unfolding snap_verb_of
snap_first (snap.Of of_snap.Create) = refl
snap_first (snap.Of of_snap.Remove) = refl
snap_first (snap.Of of_snap.Protect) = refl
snap_first (snap.Of of_snap.Unprotect) = refl
snap_first (snap.Of of_snap.Rollback) = refl
snap_first snap.List = refl

snap_with : (v : SnapVerb) (ts : Tokens) → command_of_tokens (codes "snap" ∷ snap_word v ∷ ts) ≡ snap_form v ts
unfolding part_of
snap_with v ts = command_with verb.Snap (snap_word v ∷ ts) ∙ rw (snap_first v) refl

mirror_first : (v : MirrorVerb) → mirror_verb_of (mirror_word v) ≡ Ok v
unfolding mirror_verb_of
mirror_first (mirror.Of of_mirror.Enable) = refl
mirror_first (mirror.Of of_mirror.Demote) = refl
mirror_first (mirror.Of of_mirror.Resync) = refl
mirror_first (mirror.Of of_mirror.Status) = refl
mirror_first (mirror.Of of_mirror.Follow) = refl
mirror_first mirror.Promote = refl

mirror_with : (v : MirrorVerb) (ts : Tokens) → command_of_tokens (codes "mirror" ∷ mirror_word v ∷ ts) ≡ mirror_form v ts
unfolding part_of
mirror_with v ts = command_with verb.Mirror (mirror_word v ∷ ts) ∙ rw (mirror_first v) refl

pub number_in : (most n : ℕ) → most < 2 ^ 64 → n ≤ most → number_between 0 most (decimal n) ≡ Ok n
number_in most n small le = number_read 0 most n (omega arith) le (omega arith)

-- `[object N] [unit N] [count N] [journal]`
journal_read : (said : Bool → Command) (j : Bool) → form (Flag (codes "journal") ∷ []) said (flag_tokens (codes "journal") j) ≡ Ok (said j)
unfolding form part_of
journal_read said true = refl
journal_read said false = refl

count_read : (said : Option ℕ → Bool → Command) (c : Option ℕ) (j : Bool) → IfSome c (λ n. n ≤ 4294967295)
    → form (Optional (codes "count") 4294967295 ∷ Flag (codes "journal") ∷ []) said (option_tokens (codes "count") c ++ flag_tokens (codes "journal") j) ≡ Ok (said c j)
unfolding form part_of
count_read said None true c_in = refl
count_read said None false c_in = refl
count_read said (Some n) j c_in = rw (number_in 4294967295 n (omega arith) c_in) (journal_read (said (Some n)) j)

unit_read : (said : Option ℕ → Option ℕ → Bool → Command) (u c : Option ℕ) (j : Bool) → IfSome u (λ n. n ≤ greatest) → IfSome c (λ n. n ≤ 4294967295)
    → form (Optional (codes "unit") greatest ∷ Optional (codes "count") 4294967295 ∷ Flag (codes "journal") ∷ []) said
    (option_tokens (codes "unit") u ++ (option_tokens (codes "count") c ++ flag_tokens (codes "journal") j)) ≡ Ok (said u c j)
unfolding form part_of
unit_read said None None true u_in c_in = count_read (said None) None true c_in
unit_read said None None false u_in c_in = count_read (said None) None false c_in
unit_read said None (Some n) j u_in c_in = count_read (said None) (Some n) j c_in
unit_read said (Some n) c j u_in c_in = rw (number_in greatest n big u_in) (count_read (said (Some n)) c j c_in)

shape_read : (said : Option ℕ → Option ℕ → Option ℕ → Bool → Command) (o u c : Option ℕ) (j : Bool) → IsShape (shape o u c j)
    → form shape_parts said (shape_tokens (shape o u c j)) ≡ Ok (said o u c j)
unfolding form part_of
shape_read said None None None true is = unit_read (said None) None None true is.unit is.count
shape_read said None None None false is = unit_read (said None) None None false is.unit is.count
shape_read said None None (Some n) j is = unit_read (said None) None (Some n) j is.unit is.count
shape_read said None (Some n) c j is = unit_read (said None) (Some n) c j is.unit is.count
shape_read said (Some n) u c j is = rw (number_in greatest n big is.object) (unit_read (said (Some n)) u c j is.unit is.count)

-- `WORD IMAGE`
word_read : (v : ImageVerb) (i : List ℕ) → IsAskedName i → command_of_tokens (image_word v ∷ i ∷ []) ≡ Ok (image_command v i)
unfolding form part_of
word_read v i is = command_with (verb.Image v) (i ∷ []) ∙ rw (name_read i is) refl

abbrev said_by : Option (ImageVerb × List ℕ) → Result Command LineCause
said_by None = Err ExtraPart
said_by (Some said) = Ok (image_command said.0 said.1)

image_read : (o : Option (ImageVerb × List ℕ)) → IsImageInRange o → command_of_tokens (image_tokens o) ≡ said_by o
image_read None is = absurd is
image_read (Some said) is = word_read said.0 said.1 is

pub spelled_is_read : (c : Command) → IsInRange c → command_of_tokens (spelling c) ≡ Ok c
unfolding form part_of
spelled_is_read (command.Create i size s) is =
    command_with verb.Create (i ∷ decimal size ∷ shape_tokens s)
    ∙ rw (name_read i is.0, number_in greatest size big is.1) (shape_read (λ object unit count journal. command.Create i size (shape object unit count journal)) s.object s.unit s.count s.journal is.2)
spelled_is_read (command.Clone parent snap i s) is =
    command_with verb.Clone (snap_token parent snap ∷ i ∷ shape_tokens s)
    ∙ rw (snap_read parent snap is.0.0 is.0.1, name_read i is.1) (shape_read (λ object unit count journal. command.Clone parent snap i (shape object unit count journal)) s.object s.unit s.count s.journal is.2)
spelled_is_read (command.Write i at bytes) is = command_with verb.Write (i ∷ decimal at ∷ encode_lower bytes ∷ []) ∙ rw (name_read i is.0, number_in greatest at big is.1, hex_read bytes is.2) refl
spelled_is_read (command.Fill i at len byte) is =
    command_with verb.Fill (i ∷ decimal at ∷ decimal len ∷ encode_lower (byte ∷ []) ∷ [])
    ∙ rw (name_read i is.0, number_in greatest at big is.1, number_in 1048576 len (omega arith) is.2, byte_read byte is.3) refl
spelled_is_read (command.Discard i at len) is = command_with verb.Discard (i ∷ decimal at ∷ decimal len ∷ []) ∙ rw (name_read i is.0, number_in greatest at big is.1, number_in greatest len big is.2) refl
spelled_is_read (command.Read i snap at len) is =
    command_with verb.Read (target_token i snap ∷ decimal at ∷ decimal len ∷ [])
    ∙ rw (target_read i snap is.0.0 is.0.1, number_in greatest at big is.1, number_in 65536 len (omega arith) is.2) refl
spelled_is_read (command.Resize i size) is = command_with verb.Resize (i ∷ decimal size ∷ []) ∙ rw (name_read i is.0, number_in greatest size big is.1) refl
spelled_is_read (command.Rename from to) is = command_with verb.Rename (from ∷ to ∷ []) ∙ rw (name_read from is.0, name_read to is.1) refl
spelled_is_read command.List is = command_with verb.List []
spelled_is_read (command.Children i snap) is = command_with verb.Children (snap_token i snap ∷ []) ∙ rw (snap_read i snap is.0 is.1) refl
spelled_is_read (command.Tell i bytes) is = command_with verb.Tell (i ∷ encode_lower bytes ∷ []) ∙ rw (name_read i is.0, hex_read bytes is.1) refl
spelled_is_read (command.SnapCreate i s) is = snap_with (snap.Of of_snap.Create) (snap_token i s ∷ []) ∙ rw (snap_read i s is.0 is.1) refl
spelled_is_read (command.SnapRemove i s) is = snap_with (snap.Of of_snap.Remove) (snap_token i s ∷ []) ∙ rw (snap_read i s is.0 is.1) refl
spelled_is_read (command.SnapProtect i s) is = snap_with (snap.Of of_snap.Protect) (snap_token i s ∷ []) ∙ rw (snap_read i s is.0 is.1) refl
spelled_is_read (command.SnapUnprotect i s) is = snap_with (snap.Of of_snap.Unprotect) (snap_token i s ∷ []) ∙ rw (snap_read i s is.0 is.1) refl
spelled_is_read (command.SnapRollback i s) is = snap_with (snap.Of of_snap.Rollback) (snap_token i s ∷ []) ∙ rw (snap_read i s is.0 is.1) refl
spelled_is_read (command.SnapList i) is = snap_with snap.List (i ∷ []) ∙ rw (name_read i is) refl
spelled_is_read (command.MirrorEnable i) is = mirror_with (mirror.Of of_mirror.Enable) (i ∷ []) ∙ rw (name_read i is) refl
spelled_is_read (command.MirrorDemote i) is = mirror_with (mirror.Of of_mirror.Demote) (i ∷ []) ∙ rw (name_read i is) refl
spelled_is_read (command.MirrorResync i) is = mirror_with (mirror.Of of_mirror.Resync) (i ∷ []) ∙ rw (name_read i is) refl
spelled_is_read (command.MirrorStatus i) is = mirror_with (mirror.Of of_mirror.Status) (i ∷ []) ∙ rw (name_read i is) refl
spelled_is_read (command.MirrorFollow i) is = mirror_with (mirror.Of of_mirror.Follow) (i ∷ []) ∙ rw (name_read i is) refl
spelled_is_read (command.MirrorPromote i true) is = mirror_with mirror.Promote (i ∷ codes "force" ∷ []) ∙ rw (name_read i is) refl
spelled_is_read (command.MirrorPromote i false) is = mirror_with mirror.Promote (i ∷ []) ∙ rw (name_read i is) refl
spelled_is_read c is = image_read (image_said c) is
