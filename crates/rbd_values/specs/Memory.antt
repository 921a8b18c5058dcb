use Rattle.std.specs.Prelude.{ℕ, List, codes}

-- as a refused growth of memory is told
abbrev pub no_memory_text : List ℕ
no_memory_text = codes "out of memory"
