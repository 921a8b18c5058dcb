-- What is printed of a script.
use Rattle.std.specs.Prelude.{◌≡◌, ℕ, ◌+◌, List, count_by}
use Rattle.rbd_client.specs.Seen.{as_is}
use Rattle.rbd_plays.specs.OneChanger.{AreAllReplied, HasOneChanger}
use Rattle.rbd_flat.specs.declared.entry.Entry.{Entry}
use Rattle.rbd_generate.specs.Generated.{script_of}
use Rattle.rbd_generate.specs.Summary.{command_count, is_granted, is_unfinished, refuses, summary_text}
use Rattle.rbd_kinds.specs.declared.id.SiteId.{SiteId}
use Rattle.rbd_kinds.specs.declared.id.SiteId.TheVariants.{A, B}
use Rattle.rbd_machine.specs.Plan.{Standing}
use Rattle.rbd_replies.specs.Fenced.{AtEachOperation, IsStoppedByTheFence, IsTheOwners}
use Rattle.rbd_replies.specs.Logs.{IsOwnedLog}
use Rattle.rbd_replies.specs.Sent.{ComesOnce}
use Rattle.rbd_replies.specs.Worlds.{AreRepliesOf}
use Rattle.rbd_schedule.specs.Ends.{HasCalmed}
use Rattle.rbd_schedule.specs.Given.{given_in}
use Rattle.rbd_schedule.specs.InTurn.{AreInTurn}
use Rattle.rbd_schedule.specs.Playing.{IsPlay}
use Rattle.rbd_script.specs.declared.script.Script.{Script}
use Rattle.rbd_site.specs.declared.done.Done.{Done}
use Rattle.rbd_text.specs.Text.{replies_text, trace_text}
use Rattle.rbd_words.specs.declared.asked.Mode.{Mode}
use Rattle.rbd_words.specs.declared.asked.Mode.TheVariants.{Replies, Trace}
use Rattle.rbd_words.specs.declared.load.Load.{Load}
use Rattle.rbd_world.specs.World.{WorldView, site_in}

-- the replies alone, or the history and the logs before them
abbrev pub told_text : Mode → Script → (history : List Entry) → (a b : List Done) → List ℕ
told_text Replies script history a b = replies_text script history a b
told_text Trace script history a b = trace_text script history a b

abbrev pub text_of : Mode → Script → WorldView Standing → List ℕ
text_of mode script w = told_text mode script w.history (site_in A w.sites).log (site_in B w.sites).log

-- The script's schedule led to the world, from a new one on: to its history, its logs and its
-- replies. Each reply in this history is the flat-copy machine's, at its own place there. No
-- operation of a fenced instance changes anything; who changes an image that has a header has its
-- lock, and no lock is broken whose owner isn't fenced. So it is with each line of both logs: who
-- lost a lock let go of it, or was fenced. What a session had sent when it was stopped comes once.
-- The commands of a session that wait for each other come one after another. At the end nothing
-- goes on any more: each command that was begun has its reply, or is lost, or is held up at a lock,
-- or stands behind such a one; and where one session alone changes images (`HasOneChanger`), each
-- command has its reply.
pub record IsPlayed (script : Script) (world : WorldView Standing) : Type 0 where
  pub play : IsPlay as_is script world
  pub replies : AreRepliesOf play.told.run world.history
  pub fences : AtEachOperation IsStoppedByTheFence play.told.run
  pub locks : AtEachOperation (IsTheOwners play.told.homes) play.told.run
  pub owned : (s : SiteId) → IsOwnedLog (site_in s world.sites).log
  pub late : AtEachOperation (ComesOnce play.told.homes) play.told.run
  pub turns : (session : ℕ) → AreInTurn (given_in script.lines session) world.history
  pub ends : HasCalmed as_is script world
  pub over : HasOneChanger script → AreAllReplied script world

-- The text is told of some world to which the script was played.
pub record TellsAWorld (mode : Mode) (script : Script) (text : List ℕ) : Type 0 where
  pub world : WorldView Standing
  pub played : IsPlayed script world
  pub tells : text ≡ text_of mode script world

-- The commands that are ok, refused and unfinished are all commands, together.
abbrev pub AddsUp : Script → (history : List Entry) → Type 0
AddsUp script history =
    command_count script.lines
    ≡ count_by is_granted history + count_by refuses history + count_by (is_unfinished history) script.lines

-- The text sums up a world to which the generated script was played, and its counts add up.
pub record IsSummed (load : Load) (text : List ℕ) : Type 0 where
  pub world : WorldView Standing
  pub played : IsPlayed (script_of load) world
  pub adds_up : AddsUp (script_of load) world.history
  pub tells : text ≡ summary_text (script_of load) world.history
