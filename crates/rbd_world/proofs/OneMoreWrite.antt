-- A session that begins a command keeps its writes in order: the new one stands in no line.
use Rattle.std.proofs.Common.{◌≡◌, ◌≢◌, ◌⊎◌, inl, inr, ℕ, true, false, List, [], Some, None, sym, ap, ◌∙◌, subst}
use Rattle.std.proofs.lemmas.Bool.{true≢false}
use Rattle.std.specs.Prelude.{IsSome}
use Rattle.std.proofs.lemmas.Option.{same_Some}
use Rattle.rbd_commands.specs.declared.command.Command.{Command}
use Rattle.rbd_kinds.specs.declared.id.Instance.{Instance}
use Rattle.rbd_kinds.specs.declared.id.SiteId.{SiteId}
use Rattle.rbd_queue.specs.Line.{ahead, is_member}
use Rattle.rbd_machine.specs.Plan.{Standing}
use Rattle.rbd_machine.specs.declared.seat.Seat.{Seat}
use Rattle.rbd_catalog.specs.Plans.{IsPlanFor}
use Rattle.rbd_catalog.proofs.InLine.{changes_in_line}
use Rattle.rbd_catalog.specs.Profile.{changed_extent}
use Rattle.rbd_slots.specs.declared.running.Running.{Running}
use Rattle.rbd_slots.specs.Lines.{LinesView, lines_of}
use Rattle.rbd_slots.specs.Session.{SessionView, BeginsAt, IsSoundSession, running_at, running_in}
use Rattle.rbd_slots.proofs.Members.{not_found}
use Rattle.rbd_world.specs.InLine.{IsPastWithout}
use Rattle.rbd_world.specs.Order.{IsBeforeFinding, IsBehindFinding, AreWritesInOrder, IsWriterOf, found_before, has_found, has_written}
use Rattle.rbd_world.specs.Run.{Asked, Happening, asked_by, steps_of}
use Rattle.rbd_world.specs.Step.{AreSlotsBut}
use Rattle.rbd_world.proofs.Changed.{same_or_other}
use Rattle.rbd_world.proofs.FoundFirst.{found_has, never_found}

module _ {R : Type 0} (stands : R → Standing) (seat : Seat) (who : Instance) (slot line : ℕ) (command : Command) (run : List Happening) (c d : SessionView R) (r : Running R)
    (sound : IsSoundSession stands c) (free : running_at slot c ≡ None) (runs : running_at slot d ≡ Some r) (begins : BeginsAt stands IsPlanFor changed_extent seat line command r)
    (slots : AreSlotsBut slot c d) (lines : d.lines ≡ c.lines) (none : steps_of line run ≡ []) (asked : Asked) (asks : asked_by line run ≡ Some asked) (its : asked.command ≡ command)
    (old : AreWritesInOrder stands seat.home who run c) where
  data Where (x : ℕ) (q : Running R) : Type 0 where
    Other : running_at x c ≡ Some q → Where x q
    Here : x ≡ slot → q ≡ r → Where x q

  where_is : (x : ℕ) (q : Running R) → running_at x d ≡ Some q → Where x q
  where_is x q is = by (same_or_other x slot)
    where
      by : (x ≡ slot) ⊎ (x ≢ slot) → Where x q
      by (inl same) = Here same (same_Some q r (sym is ∙ ap (λ i. running_at i d) same ∙ runs))
      by (inr differ) = Other (sym (ap running_in (slots x differ)) ∙ is)

  unfound : (s : SiteId) (image : ℕ) → has_found r.line s image run ≡ false
  unfound s image = ap (λ l. has_found l s image run) begins.is_line ∙ never_found line s image run none

  outside : (s : SiteId) (image : ℕ) → is_member slot (lines_of d.lines s image) ≡ false
  outside s image =
      ap (λ (ls : LinesView). is_member slot (lines_of ls s image)) lines ∙ not_found slot (lines_of c.lines s image) (sound.others slot free s image)

  -- who found it before has found it
  not_first : (q : Running R) (other : ℕ) (s : SiteId) (image : ℕ) → q ≡ r → found_before q.line other s image run ≡ true → ⊥
  not_first q other s image same earlier =
      true≢false (sym (found_has q.line other s image run earlier) ∙ ap (λ (p : Running R). has_found p.line s image run) same ∙ unfound s image)

  newly : IsSome r.extent → IsBeforeFinding stands seat.home run r
  newly writes =
      record { changes = changes_in_line seat command (stands r.request) begins.stands_there (subst IsSome begins.extent writes); place = begins.place; unfound = unfound }

  pub begun_order : AreWritesInOrder stands seat.home who run d
  begun_order = record {
    extents = λ x q is asked_then asks_then. extents_of x q asked_then asks_then (where_is x q is);
    comes = λ x q is writes. comes_of x q writes (where_is x q is);
    in_line = λ x y q p is also writes other_writes s image earlier member. line_of x y q p writes other_writes s image earlier member (where_is x q is) (where_is y p also);
    past = λ x q is writes other writer s image number earlier written. past_of x q writes other writer s image number earlier written (where_is x q is);
  }
    where
      extents_of : (x : ℕ) (q : Running R) (asked_then : Asked) → asked_by q.line run ≡ Some asked_then → Where x q → q.extent ≡ changed_extent asked_then.command
      extents_of x q asked_then asks_then (Other there) = old.extents x q there asked_then asks_then
      extents_of x q asked_then asks_then (Here at same) =
          let same_asked : asked ≡ asked_then =
          same_Some asked asked_then (sym asks ∙ sym (ap (λ (p : Running R). asked_by p.line run) same ∙ ap (λ l. asked_by l run) begins.is_line) ∙ asks_then) in
          ap (λ (p : Running R). p.extent) same ∙ begins.extent ∙ ap changed_extent (sym its ∙ ap (λ (a : Asked). a.command) same_asked)

      comes_of : (x : ℕ) (q : Running R) → IsSome q.extent → Where x q → (IsBeforeFinding stands seat.home run q) ⊎ (IsBehindFinding stands run q)
      comes_of x q writes (Other there) = old.comes x q there writes
      comes_of x q writes (Here at same) =
          inl (subst (IsBeforeFinding stands seat.home run) (sym same) (newly (subst (λ (p : Running R). IsSome p.extent) same writes)))

      line_of : (x y : ℕ) (q p : Running R) → IsSome q.extent → IsSome p.extent → (s : SiteId) (image : ℕ) → found_before q.line p.line s image run ≡ true
          → is_member y (lines_of d.lines s image) ≡ true → Where x q → Where y p → is_member x (ahead y (lines_of d.lines s image)) ≡ true
      line_of x y q p writes other_writes s image earlier member (Here at same) other = absurd (not_first q p.line s image same earlier)
      line_of x y q p writes other_writes s image earlier member (Other one) (Here at same) =
          absurd (true≢false (sym member ∙ ap (λ n. is_member n (lines_of d.lines s image)) at ∙ outside s image))
      line_of x y q p writes other_writes s image earlier member (Other one) (Other two) =
          ap (λ (ls : LinesView). is_member x (ahead y (lines_of ls s image))) lines
          ∙ old.in_line x y q p one two writes other_writes s image earlier (sym (ap (λ (ls : LinesView). is_member y (lines_of ls s image)) lines) ∙ member)

      past_of : (x : ℕ) (q : Running R) → IsSome q.extent → (other : ℕ) → IsWriterOf who other run → (s : SiteId) (image number : ℕ) → found_before q.line other s image run ≡ true
          → has_written other s image number run ≡ true → Where x q → IsPastWithout x number (lines_of d.lines s image)
      past_of x q writes other writer s image number earlier written (Here at same) = absurd (not_first q other s image same earlier)
      past_of x q writes other writer s image number earlier written (Other one) =
          subst (λ (ls : LinesView). IsPastWithout x number (lines_of ls s image)) (sym lines) (old.past x q one writes other writer s image number earlier written)
