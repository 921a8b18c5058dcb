-- Behind its look-up a change of an extent stays in its line, and sets the state of each object,
-- and changes it, at its turn.
use Rattle.std.proofs.Common.{◌≡◌, ℕ, Bool, true, false, List, [], ◌∷◌, replicate, Option, Some, None, refl, ap, sym, subst}
use Rattle.std.proofs.lemmas.Bool.{true≢false}
use Rattle.std.specs.Prelude.{IsSome}
use Rattle.rbd_commands.specs.declared.command.Command.{Command}
use Rattle.rbd_commands.specs.declared.command.Command.TheVariants as command
use Rattle.rbd_kinds.specs.declared.sharing.Sharing.TheVariants as sharing
use Rattle.rbd_machine.specs.declared.seat.Seat.{Seat}
use Rattle.rbd_kinds.specs.declared.answer.Answer.{Answer}
use Rattle.rbd_kinds.specs.declared.answer.Answer.TheVariants as answer
use Rattle.rbd_kinds.specs.declared.header.HeaderView.{HeaderView}
use Rattle.rbd_kinds.specs.declared.id.SiteId.{SiteId}
use Rattle.rbd_commands.specs.declared.refusal.Refusal.{Refusal}
use Rattle.rbd_layout.specs.Pieces.{pieces_of}
use Rattle.rbd_layout.specs.declared.types.Piece.{Piece}
use Rattle.rbd_machine.specs.Plan.{Plan, Standing, without_labels}
use Rattle.rbd_machine.specs.Steps.{applied, holding, looked, looking, on_done, on_header, owned, unless}
use Rattle.rbd_meaning.specs.Range.{extent_at}
use Rattle.rbd_data.specs.Discard.{discard, zero, zero_in_turns}
use Rattle.rbd_header.specs.Header.{context_of}
use Rattle.rbd_kinds.specs.declared.header.SnapContext.{SnapContext}
use Rattle.rbd_kinds.specs.declared.layout.Extent.{Extent}
use Rattle.rbd_data.specs.Write.{put_plan, write, write_pieces, write_refuses}
use Rattle.rbd_pieces.specs.Zero.{emptying, is_inside, is_whole, removing, setting, zero_all, zero_by, zeroing}
use Rattle.rbd_machine.specs.Label.{Label}
use Rattle.rbd_catalog.specs.InLine.{ChangesInLine, KeepsTo, LabelsKeepTo}
use Rattle.rbd_catalog.specs.EachRequest.{stands_at}
use Rattle.rbd_catalog.specs.Plans.{IsPlanFor}
use Rattle.rbd_catalog.specs.Profile.{between, extent_beside, profile}

module _ (site : SiteId) (image : ℕ) (turn_at : Label → Option ℕ) where
  header_keeps : (turn : Option ℕ) (next : HeaderView → Plan) → ((h : HeaderView) → KeepsTo site image turn_at turn (next h)) → (a : Answer) → KeepsTo site image turn_at turn (on_header next a)
  header_keeps turn next keeps (answer.Header h) = keeps h
  header_keeps turn next keeps answer.Fenced = tt
  header_keeps turn next keeps _ = tt

  done_keeps : (turn : Option ℕ) (next : Plan) → KeepsTo site image turn_at turn next → (a : Answer) → KeepsTo site image turn_at turn (on_done next a)
  done_keeps turn next keeps answer.Done = keeps
  done_keeps turn next keeps answer.Fenced = tt
  done_keeps turn next keeps _ = tt

  unless_keeps : (turn : Option ℕ) (r : Option Refusal) (next : Plan) → KeepsTo site image turn_at turn next → KeepsTo site image turn_at turn (unless r next)
  unless_keeps turn None next keeps = keeps
  unless_keeps turn (Some r) next keeps = tt

  -- ---- pieces

  write_pieces_keep : (turn : Option ℕ) (h : HeaderView) (at : ℕ) (bytes : List ℕ) (pieces : List Piece) → KeepsTo site image turn_at turn (write_pieces site image h at bytes pieces (applied site image))
  write_pieces_keep turn h at bytes [] = tt
  write_pieces_keep turn h at bytes (p ∷ pieces) =
      let rest = write_pieces site image h at bytes pieces (applied site image) in
      ((refl, refl, refl), done_keeps (Some p.object) _ ((refl, refl, refl), done_keeps (Some p.object) rest (write_pieces_keep (Some p.object) h at bytes pieces)))

  pub put_keeps : (turn : Option ℕ) (at : ℕ) (bytes : List ℕ) (h : HeaderView) → KeepsTo site image turn_at turn (put_plan site at bytes image h)
  put_keeps turn at bytes h = write_pieces_keep turn h at bytes (pieces_of h.layout (extent_at at bytes))

  module _ (context : SnapContext) (p : Piece) (next : Plan) (keeps : KeepsTo site image turn_at (Some p.object) next) where
    zero_all_keeps : (inside : Bool) → KeepsTo site image turn_at (Some p.object) (zero_all site image context p inside next)
    zero_all_keeps true = ((refl, refl, refl), done_keeps (Some p.object) (emptying site image context p next) ((refl, refl, refl), done_keeps (Some p.object) next keeps))
    zero_all_keeps false = (
      (refl, refl, refl),
      done_keeps (Some p.object) (removing site image context p (setting site image context p 0 next)) (
        (refl, refl, refl),
        done_keeps (Some p.object) (setting site image context p 0 next) ((refl, refl, refl), done_keeps (Some p.object) next keeps),
      ),
    )

    zero_by_keeps : (whole inside : Bool) → KeepsTo site image turn_at (Some p.object) (zero_by site image context p whole inside next)
    zero_by_keeps true inside = zero_all_keeps inside
    zero_by_keeps false true = ((refl, refl, refl), done_keeps (Some p.object) (zeroing site image context p true next) ((refl, refl, refl), done_keeps (Some p.object) next keeps))
    zero_by_keeps false false = ((refl, refl, refl), done_keeps (Some p.object) next keeps)

  zero_pieces_keep : (turn : Option ℕ) (h : HeaderView) (pieces : List Piece) → KeepsTo site image turn_at turn (zero_in_turns site image h pieces (applied site image))
  zero_pieces_keep turn h [] = tt
  zero_pieces_keep turn h (p ∷ pieces) =
      zero_by_keeps (context_of h) p (zero_in_turns site image h pieces (applied site image)) (zero_pieces_keep (Some p.object) h pieces) (is_whole h p) (is_inside h p.object)

  pub zero_keeps : (turn : Option ℕ) (e : Extent) (h : HeaderView) → KeepsTo site image turn_at turn (zero site e image h)
  zero_keeps turn e h = zero_pieces_keep turn h (pieces_of h.layout e)

  -- ---- from the first look on

  pub look_keeps : (turn : Option ℕ) (refuses : HeaderView → Option Refusal) (act : (image : ℕ) → HeaderView → Plan) → ((i : ℕ) (h : HeaderView) (t : Option ℕ) → KeepsTo site i turn_at t (act i h))
      → KeepsTo site image turn_at turn (looking site refuses act image)
  look_keeps turn refuses act acts = (
    tt,
    header_keeps turn (looked site refuses act image)
        (λ h. unless_keeps turn (refuses h) (holding site refuses act image) (
          tt,
          header_keeps turn (owned refuses act image) (λ own. unless_keeps turn (refuses own) (act image own) (acts image own turn)),
        )),
  )

-- ---- a command that changes an extent goes beside others

-- one that never begins a part again keeps to its line from each of its labels
none_keep : (home : SiteId) (plan : Plan) (s : Standing) → s ≡ without_labels plan → (image : ℕ) → LabelsKeepTo home image (λ label. None) s.labels
none_keep home plan s is image label of = subst (λ (x : Standing). KeepsTo home image (λ l. None) None (x.labels label)) (sym is) (of, refl)

write_changes : (home : SiteId) (name : List ℕ) (at : ℕ) (bytes : List ℕ) (s : Standing) → s ≡ without_labels (write home name at bytes) → ChangesInLine home s
write_changes home name at bytes s is = record {
  name = name;
  sharing = sharing.Shared;
  shared = refl;
  refuses = write_refuses (extent_at at bytes);
  act = put_plan home at bytes;
  plan = ap (λ (x : Standing). x.plan) is;
  turn_at = λ label. None;
  keeps = λ image h turn. put_keeps home image (λ label. None) turn at bytes h;
  labels = λ image. none_keep home (write home name at bytes) s is image;
}

discard_changes : (home : SiteId) (name : List ℕ) (e : Extent) (s : Standing) → s ≡ without_labels (discard home name e) → ChangesInLine home s
discard_changes home name e s is = record {
  name = name;
  sharing = sharing.Discard;
  shared = refl;
  refuses = write_refuses e;
  act = zero home e;
  plan = ap (λ (x : Standing). x.plan) is;
  turn_at = λ label. None;
  keeps = λ image h turn. zero_keeps home image (λ label. None) turn e h;
  labels = λ image. none_keep home (discard home name e) s is image;
}

pub changes_in_line : (seat : Seat) (c : Command) (s : Standing) → IsPlanFor seat c s → IsSome (extent_beside (profile c)) → ChangesInLine seat.home s
changes_in_line seat (command.Write name at bytes) s is changes = write_changes seat.home name at bytes s (stands_at _ s is)
changes_in_line seat (command.Fill name at len byte) s is changes = write_changes seat.home name at (replicate len byte) s (stands_at _ s is)
changes_in_line seat (command.Discard name at len) s is changes = discard_changes seat.home name (between at len) s (stands_at _ s is)
changes_in_line seat _ s is changes = absurd (true≢false (sym changes))
