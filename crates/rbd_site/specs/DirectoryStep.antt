-- Operations on the directory: the answer, and the directory after it.
use Rattle.std.specs.Prelude.{ℕ, ◌+◌, Bool, if◌then◌else◌, Option, Some, None}
use Rattle.std.specs.FinMap as finmap
use Rattle.rbd_kinds.specs.declared.answer.Answer.{Answer}
use Rattle.rbd_kinds.specs.declared.answer.Answer.TheVariants as answer
use Rattle.rbd_kinds.specs.declared.directory_op.DirectoryOp.{DirectoryOp}
use Rattle.rbd_kinds.specs.declared.directory_op.DirectoryOp.TheVariants.{Find, Add, Remove, Rename, List as ListAll}
use Rattle.rbd_registry.specs.Directory.{Listing, id_of, is_full, added, freed, holds_id, renamed}
use Rattle.rbd_site.specs.Found.{done_where}

abbrev pub image_found : Option ℕ → Answer
image_found None = answer.Absent
image_found (Some image) = answer.Id image

abbrev pub name_added : (held : Option ℕ) → (full : Bool) → (next : ℕ) → Answer
name_added (Some image) full next = answer.Exists
name_added None full next = if full then answer.Full else answer.Id next

abbrev pub name_changed : (from to : Option ℕ) → Answer
name_changed None to = answer.Absent
name_changed (Some image) None = answer.Done
name_changed (Some image) (Some other) = answer.Exists

abbrev pub directory_answer : Listing → DirectoryOp → Answer
directory_answer d (Find name) = image_found (id_of d name)
directory_answer d (Add name) = name_added (id_of d name) (is_full d) (d.drawn + 1)
directory_answer d (Remove image) = done_where (holds_id image d)
directory_answer d (Rename from to) = name_changed (id_of d from) (id_of d to)
directory_answer d ListAll = answer.Names (finmap.keys d.names)

-- a change is made where it was done
abbrev pub where_added : Answer → (changed old : Listing) → Listing
where_added (answer.Id image) changed old = changed
where_added _ changed old = old

abbrev pub where_done : {T : Type 0} → Answer → (changed old : T) → T
where_done answer.Done changed old = changed
where_done _ changed old = old

abbrev pub directory_after : Listing → DirectoryOp → Listing
directory_after d (Find name) = d
directory_after d (Add name) = where_added (directory_answer d (Add name)) (added name d) d
directory_after d (Remove image) = if holds_id image d then freed image d else d
directory_after d (Rename from to) = where_done (directory_answer d (Rename from to))
    (renamed (id_of d from) from to d) d
directory_after d ListAll = d
