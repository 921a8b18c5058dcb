-- How the lines of a schedule are written, and declarations of sessions.
use Rattle.std.specs.Prelude.{◌≡◌, ◌≢◌, ◌⊎◌, ℕ, ◌<◌, ◌≤◌, List, [], ◌∷◌, length, map, get_or, codes, decimal, IsTrue}
use Rattle.rbd_kinds.specs.declared.id.SiteId.{SiteId}
use Rattle.rbd_kinds.specs.declared.id.SiteId.TheVariants.{A, B}
use Rattle.rbd_kinds.specs.Operation.{op_word}
use Rattle.rbd_script.specs.declared.script.Declared.{Declared}
use Rattle.rbd_script.specs.declared.script.Said.{Said}
use Rattle.rbd_script.specs.declared.script.Said.TheVariants as said
use Rattle.rbd_script.specs.Number.{greatest}
use Rattle.rbd_script.specs.Session.{is_session_name}

abbrev pub site_word : SiteId → List ℕ
site_word A = codes "a"
site_word B = codes "b"

-- the name of a session, by its number
abbrev pub session_name : List Declared → ℕ → List ℕ
session_name sessions n = get_or (map (λ d. d.name) sessions) n []

-- A session is declared, and none before it has its name.
pub record IsSession (sessions : List Declared) (n : ℕ) : Type 0 where
  pub declared : n < length sessions
  pub first : (k : ℕ) → k < n → session_name sessions k ≢ session_name sessions n

-- `@poll NAME SLOT [TIMES]`, where one time may be left out
abbrev pub IsPoll : (name : List ℕ) (slot times : ℕ) → List (List ℕ) → Type 0
IsPoll name slot times tokens =
    (tokens ≡ codes "@poll" ∷ name ∷ decimal slot ∷ decimal times ∷ [])
    ⊎ ((tokens ≡ codes "@poll" ∷ name ∷ decimal slot ∷ []) × (times ≡ 1))

-- The tokens spell the line of a schedule, whose parts are in range. A session's command is no such
-- line.
abbrev pub SpellsEvent : List Declared → List (List ℕ) → Said → Type 0
SpellsEvent sessions tokens (said.Command session beside command) = ⊥
SpellsEvent sessions tokens (said.Poll session slot times) =
    IsPoll (session_name sessions session) slot times tokens × IsSession sessions session × (slot ≤ 64) × (1 ≤ times)
    × (times ≤ 1000000)
SpellsEvent sessions tokens (said.Until session slot kind) =
    (tokens ≡ codes "@until" ∷ session_name sessions session ∷ decimal slot ∷ op_word kind ∷ [])
    × IsSession sessions session × (slot ≤ 64)
SpellsEvent sessions tokens (said.Settle rounds) = (tokens ≡ codes "@settle" ∷ decimal rounds ∷ [])
    × (rounds ≤ greatest)
SpellsEvent sessions tokens (said.Deliver notice) = (tokens ≡ codes "@deliver" ∷ decimal notice ∷ [])
    × (notice ≤ greatest)
SpellsEvent sessions tokens (said.Lose notice) = (tokens ≡ codes "@lose" ∷ decimal notice ∷ []) × (notice ≤ greatest)
SpellsEvent sessions tokens (said.Expire session site image) =
    (tokens ≡ codes "@expire" ∷ session_name sessions session ∷ site_word site ∷ decimal image ∷ [])
    × IsSession sessions session × (image ≤ 4294967295)
SpellsEvent sessions tokens (said.Stop session) = (tokens ≡ codes "@stop" ∷ session_name sessions session ∷ [])
    × IsSession sessions session
SpellsEvent sessions tokens (said.Restart session) = (tokens ≡ codes "@restart" ∷ session_name sessions session ∷ [])
    × IsSession sessions session
SpellsEvent sessions tokens (said.Late session slot) =
    (tokens ≡ codes "@late" ∷ session_name sessions session ∷ decimal slot ∷ []) × IsSession sessions session
    × (slot ≤ 64)
SpellsEvent sessions tokens (said.Trim site image object) =
    (tokens ≡ codes "@trim" ∷ site_word site ∷ decimal image ∷ decimal object ∷ []) × (image ≤ 4294967295)
    × (object ≤ greatest)

-- Behind `client`, on the line of this number, the tokens declare one more session, whose name is a
-- new one.
pub record Declares (sessions : List Declared) (number : ℕ) (tokens : List (List ℕ)) (d : Declared) : Type 0 where
  pub spelled : tokens ≡ d.name ∷ site_word d.home ∷ []
  pub name : IsTrue (is_session_name d.name)
  pub is_new : (k : ℕ) → k < length sessions → session_name sessions k ≢ d.name
  pub few : length sessions < 32
  pub line : d.line ≡ number
