-- Scripts in which one session alone changes images, and in which each command has its reply.
use Rattle.std.specs.Prelude.{◌≡◌, ℕ, ◌==◌, ◌&&◌, Bool, true, false, List, All}
use Rattle.std.specs.List.{list_any}
use Rattle.rbd_commands.specs.declared.command.Command.{Command}
use Rattle.rbd_flat.specs.declared.entry.Entry.{Entry}
use Rattle.rbd_flat.specs.declared.entry.Entry.TheVariants as entry
use Rattle.rbd_catalog.specs.Profile.{begins_a_quiesce, drops_a_lock, has_none_of, joins_a_line, profile}
use Rattle.rbd_schedule.specs.Given.{commands_of}
use Rattle.rbd_schedule.specs.declared.given.Given.{Given}
use Rattle.rbd_script.specs.declared.script.Line.{Line}
use Rattle.rbd_script.specs.declared.script.Said.{Said}
use Rattle.rbd_script.specs.declared.script.Said.TheVariants as said
use Rattle.rbd_script.specs.declared.script.Script.{Script}
use Rattle.rbd_world.specs.World.{WorldView}

-- ---- the scripts

-- It takes the lock of its image, and keeps it: it joins the image's line, and lets no lock go. So
-- do a `write`, a `fill`, a `discard`, a `snap create`, a `snap rm`, a `resize`, a `snap rollback`,
-- an `rm` and a `quiesce`.
abbrev pub takes_the_lock : Command → Bool
takes_the_lock c = joins_a_line (profile c) && has_none_of drops_a_lock (profile c)

-- It holds the changes of its image back, as a `quiesce` does.
abbrev pub holds_back : Command → Bool
holds_back c = begins_a_quiesce (profile c).quiescing

-- The line leaves all changes to one session: no other session has a command that takes a lock, no
-- image is quiesced, and no session is stopped.
abbrev pub LeavesChangesTo : (changer : ℕ) → Said → Type 0
LeavesChangesTo changer (said.Command session beside command) = (takes_the_lock command ≡ true → session ≡ changer)
    × (holds_back command ≡ false)
LeavesChangesTo changer (said.Stop session) = ⊥
LeavesChangesTo changer s = Unit {0}

-- Each line does.
pub record HasOneChanger (script : Script) : Type 0 where
  pub changer : ℕ
  pub lines : All (λ (line : Line). LeavesChangesTo changer line.said) script.lines

-- ---- the replies

abbrev pub is_reply_of : (line : ℕ) → Entry → Bool
is_reply_of line (entry.Reply other reply) = line == other
is_reply_of line e = false

-- the history has the line's reply
abbrev pub is_replied : (line : ℕ) → List Entry → Bool
is_replied line history = list_any (is_reply_of line) history

-- Each command of the script has its reply.
abbrev pub AreAllReplied : {R : Type 0} → Script → WorldView R → Type 0
AreAllReplied script w = All (λ (c : Given). is_replied c.line w.history ≡ true) (commands_of script.lines)
