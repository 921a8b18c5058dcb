-- Where nothing outside a run is in its way it is done, unless memory was refused.
use Rattle.std.proofs.Common.{◌≡◌, inl, inr, ℕ, ◌+◌, true, cond, drop, List, [], ◌∷◌, Some, None, Ok, refl, sym, ap, ◌∙◌, subst, arith}
use Rattle.std.proofs.lemmas.List.Elements.{All-head, All-tail}
use Rattle.std.specs.Prelude.{IfSome, Option, ◌⊎◌}
use Rattle.rbd_script.specs.declared.script.Line.{Line}
use Rattle.rbd_script.specs.declared.script.Script.{Script}
use Rattle.rbd_script.specs.Reading.{limit}
use Rattle.rbd_words.specs.declared.asked.Asked.{Asked}
use Rattle.rbd_words.specs.declared.asked.Asked.TheVariants.{Run, Generate}
use Rattle.rbd_words.specs.declared.asked.Mode.{Mode}
use Rattle.rbd_words.specs.declared.load.Load.{Load}
use Rattle.rbd_lab.specs.Run.{Devices, RunEndsBy, HasScript, IsComplaint, IsDoneOrRefused, IsLoadRun, IsScriptRun, IsUnhinderedBy, Prints}
use Rattle.rbd_lab.specs.Script.{AreBuilt, IsBuiltScript, if_built, is_said, judged, unbuilt_line, where_built}
use Rattle.rbd_lab.specs.declared.run.Status.{Status}
use Rattle.rbd_lab.specs.declared.run.Status.TheVariants.{Done, Usage, BadLine, ReadFault, WriteFault, NoMemory}

none_unbuilt : (lines : List Line) → AreBuilt lines → unbuilt_line lines ≡ None
none_unbuilt [] all = refl
none_unbuilt (line ∷ lines) all =
    ap (λ b. cond b (unbuilt_line lines) (Some line.number)) (All-head (λ (l : Line). is_said l.said ≡ true) line lines all)
    ∙ none_unbuilt lines (All-tail (λ (l : Line). is_said l.said ≡ true) line lines all)

-- a script of built forms is played
built_is_judged : (bytes : List ℕ) (script : Script) → IsBuiltScript bytes script → judged bytes ≡ Ok script
built_is_judged bytes script is = ap if_built is.reads ∙ ap (λ line. where_built line script) (none_unbuilt script.lines is.built)

no_complaint : (bytes text : List ℕ) (script : Script) → IsBuiltScript bytes script → IsComplaint bytes text → ⊥
no_complaint bytes text script is complaint = let two : Ok script ≡ _ = sym (built_is_judged bytes script is) ∙ complaint.faulty in cc

rises : (n m : ℕ) → m ≡ n + 1 → m ≡ n → ⊥
rises n m more same = absurd (omega arith)

module _ (old new : Devices) where
  -- a script was asked for
  script_done : (mode : Mode) (status : Status) → IsScriptRun mode status old new → HasScript old new → IsDoneOrRefused status
  script_done mode Done is free = inl refl
  script_done mode NoMemory is free = inr refl
  script_done mode Usage is free = absurd (is.usage refl)
  script_done mode ReadFault is free = absurd (rises old.read_faults new.read_faults (is.read_fault.0.0 refl) free.reads)
  script_done mode WriteFault is free = absurd (rises old.write_faults new.write_faults (is.write_fault.0.0 refl) free.writes)
  script_done mode BadLine is free =
      let told = subst (λ left. IfSome left (λ bytes. Prints (IsComplaint bytes) old.held new.held × (new.left ≡ Some (drop (limit + 1) bytes)))) free.shown (is.bad_line refl) in
      absurd (no_complaint free.bytes told.0.0 free.script free.is_script told.0.1)

  -- a load was
  load_done : (load : Load) (status : Status) → IsLoadRun load status old.held new.held old.write_faults new.write_faults → new.write_faults ≡ old.write_faults → IsDoneOrRefused status
  load_done load status is same = by is.ends
    where
      by : (status ≡ Done) ⊎ ((status ≡ WriteFault) ⊎ (status ≡ NoMemory)) → IsDoneOrRefused status
      by (inl done) = inl done
      by (inr (inl failed)) = absurd (rises old.write_faults new.write_faults (is.write_fault.0.0 failed) same)
      by (inr (inr refused)) = inr refused

pub ends_done : {S : Type 0} (asked : Option Asked) (status : Status) (source source' : S) (old new : Devices) → RunEndsBy asked status source source' old new → IsUnhinderedBy asked old new
    → IsDoneOrRefused status
ends_done (Some (Run mode)) status source source' old new is free = script_done old new mode status is free
ends_done (Some (Generate load)) status source source' old new is free = load_done old new load status is.0 free
ends_done None status source source' old new is free = absurd free
