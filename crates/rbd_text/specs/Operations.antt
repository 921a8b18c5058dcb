-- The lines of an operation log.
use Rattle.std.specs.Prelude.{ℕ, List, [], ◌∷◌, ◌++◌, codes}
use Rattle.std.specs.List.{flat_map}
use Rattle.rbd_kinds.specs.Answer.{answer_word}
use Rattle.rbd_kinds.specs.Operation.{op_word}
use Rattle.rbd_kinds.specs.OperationKind.{kind_of}
use Rattle.rbd_kinds.specs.declared.id.SiteId.{SiteId}
use Rattle.rbd_script.specs.declared.script.Declared.{Declared}
use Rattle.rbd_site.specs.declared.done.Done.{Done}
use Rattle.rbd_site.specs.declared.done.DoneOp.{DoneOp}
use Rattle.rbd_site.specs.declared.done.DoneOp.TheVariants.{Op, Trim, Expire}
use Rattle.rbd_text.specs.Names.{doer_text, numbered}
use Rattle.rbd_text.specs.Objects.{object_name, header_name, data_name}

abbrev pub done_word : DoneOp → List ℕ
done_word (Op op) = op_word (kind_of op)
done_word (Trim image object) = codes "trim"
done_word (Expire image instance) = codes "expire"

abbrev pub done_object : DoneOp → List ℕ
done_object (Op op) = object_name op
done_object (Trim image object) = data_name image object
done_object (Expire image instance) = header_name image

-- `dir-add rbd_directory id`
abbrev pub operation_text : Done → List ℕ
operation_text done = done_word done.op ++ codes " " ++ done_object done.op ++ codes " " ++ answer_word done.answer

-- `o a1 c1.0 dir-add rbd_directory id`
abbrev pub done_line : List Declared → SiteId → Done → List ℕ
done_line sessions site done = codes "o " ++ numbered site done.number ++ codes " " ++ doer_text sessions done.instance
    ++ codes " " ++ operation_text done ++ 10 ∷ []

-- a site's log
abbrev pub log_text : List Declared → SiteId → List Done → List ℕ
log_text sessions site log = flat_map (done_line sessions site) log
