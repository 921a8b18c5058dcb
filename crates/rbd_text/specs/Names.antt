-- What sessions, their lives, sites and operations are called.
use Rattle.std.specs.Prelude.{ℕ, List, [], ◌++◌, codes, decimal, Option, Some, None, slice_get}
use Rattle.rbd_kinds.specs.declared.id.Instance.{Instance}
use Rattle.rbd_kinds.specs.declared.id.SiteId.{SiteId}
use Rattle.rbd_kinds.specs.declared.id.SiteId.TheVariants.{A, B}
use Rattle.rbd_script.specs.declared.script.Declared.{Declared}

abbrev pub declared_name : Option Declared → List ℕ
declared_name None = []
declared_name (Some declared) = declared.name

-- a session's name by its number, and nothing where no such session is declared
abbrev pub session_name : List Declared → ℕ → List ℕ
session_name sessions session = declared_name (slice_get sessions session)

-- one life of a session: `c1.0`
abbrev pub instance_text : List Declared → Instance → List ℕ
instance_text sessions instance = session_name sessions instance.session ++ codes "." ++ decimal instance.life

-- who did an operation
abbrev pub doer_text : List Declared → Option Instance → List ℕ
doer_text sessions None = codes "store"
doer_text sessions (Some instance) = instance_text sessions instance

abbrev pub site_letter : SiteId → List ℕ
site_letter A = codes "a"
site_letter B = codes "b"

-- an operation by its number in its site's log: `a1`
abbrev pub numbered : SiteId → ℕ → List ℕ
numbered site number = site_letter site ++ decimal number
