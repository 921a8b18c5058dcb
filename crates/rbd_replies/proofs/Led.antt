-- Each line's command was led where it is by a walk of its plan: once it has its reply or is lost,
-- and while its request is in a slot.
use Rattle.std.proofs.Common.{◌≡◌, inl, inr, ◌⊎◌, ℕ, ◌==◌, ◌||◌, cond, Bool, true, false, List, [], ◌∷◌, ◌++◌, Option, Some, None, refl, sym, ap, ◌∙◌, subst}
use Rattle.std.proofs.lemmas.Bool.{true≢false, eqb-true, ne_eqb}
use Rattle.std.proofs.lemmas.List.{append-nil}
use Rattle.std.proofs.lemmas.Option.{same_Some, none-some}
use Rattle.rbd_client.specs.Client.{ClientView}
use Rattle.rbd_kinds.specs.declared.id.Instance.{Instance}
use Rattle.rbd_kinds.specs.declared.id.SiteId.{SiteId}
use Rattle.rbd_kinds.specs.declared.operation.Op.{Op}
use Rattle.rbd_kinds.specs.declared.reply.Reply.{Reply}
use Rattle.rbd_machine.specs.Plan.{Plan, Standing}
use Rattle.rbd_machine.specs.Refused.{AreGiven}
use Rattle.rbd_machine.specs.Standalone.{TellAllStandalone}
use Rattle.rbd_slots.specs.declared.running.Occupant.{Occupant}
use Rattle.rbd_slots.specs.declared.running.Occupant.TheVariants as occupant
use Rattle.rbd_slots.specs.Session.{held_in, script_line}
use Rattle.rbd_world.specs.Run.{Asked, Doer, Itself, OnWay, House, AfterStop, Happening, Nothing, Waited, Began, Did, Refused, Trimmed, Expired, Heard, Stopped, Restarted, Operation, asked_by, is_line_among, is_for, step_of, steps_in, steps_of}
use Rattle.rbd_world.specs.Seats.{seat_at}
use Rattle.rbd_world.specs.Sound.{EndsNoLine, IsHeldRightly, IsLedTo, IsOpen, IsReplyMeant, IsRight, IsSoundWorld, has_ended, held_of, line_at}
use Rattle.rbd_world.specs.World.{WorldView, client_in, session_of_client}
use Rattle.rbd_world.proofs.Quiet.{IsQuiet, quiet_began, quiet_did, quiet_expired, quiet_heard, quiet_nothing, quiet_refused, quiet_restarted, quiet_stopped, quiet_trimmed, quiet_waited}
use Rattle.rbd_world.proofs.Runs.{unheard}
use Rattle.rbd_replies.proofs.OnWay.{EndsOnWay, ends_so}

-- a walk of its command's plan leads somewhere by all operations of the line's command itself
pub record IsLed (homes : ℕ → SiteId) (line : ℕ) (run : List Happening) (asked : Asked) : Type 0 where
  pub last : Plan
  pub led : IsLedTo (seat_at homes asked.who.session) asked.command (steps_of line run) last

-- ---- lines that have ended

module _ (homes : ℕ → SiteId) (line : ℕ) where
  by_walk : (begun asked : Asked) (run : List Happening) (last : Plan) → begun ≡ asked → IsLedTo (seat_at homes begun.who.session) begun.command (steps_of line run) last → IsLed homes line run asked
  by_walk begun asked run last same led = subst (IsLed homes line run) same (record { last = last; led = led })

  by_reply : (reply : Reply) (before run : List Happening) (asked : Asked) → IsReplyMeant homes line reply before run → asked_by line before ≡ Some asked → IsLed homes line run asked
  by_reply reply before run asked is asks = by_walk is.begun.asked asked run _ (same_Some is.begun.asked asked (sym is.begun.is ∙ asks)) is.ended

  -- a happening without a step of it
  still : (h : Happening) (run : List Happening) (asked : Asked) → steps_in line h ≡ [] → IsLed homes line run asked → IsLed homes line (h ∷ run) asked
  still h run asked none led = record {
    last = led.last;
    led = subst (λ steps. IsLedTo (seat_at homes asked.who.session) asked.command steps led.last) (sym (ap (λ steps. steps_of line run ++ steps) none ∙ append-nil (steps_of line run))) led.led;
  }

  -- a line is open at another line's happening alone
  another : (other : ℕ) (run : List Happening) → has_ended line run ≡ true → IsOpen other run → (other == line) ≡ false
  another other run ended begun = ne_eqb other line (λ same. true≢false (sym ended ∙ sym (ap (λ l. has_ended l run) same) ∙ begun.unended))

  for_another : (o : Operation) (doer : Doer) (run : List Happening) → has_ended line run ≡ true → EndsNoLine homes o doer run → is_for line doer ≡ false
  for_another o (Itself other) run ended begun = ap (λ b. b || false) (another other run ended begun)
  for_another o (OnWay other) run ended goes = another other run ended goes.begun
  for_another o House run ended goes = refl
  for_another o (AfterStop slot) run ended goes = refl

  abbrev LedIfEnded : List Happening → Asked → Type 0
  LedIfEnded run asked = has_ended line run ≡ true → asked_by line run ≡ Some asked → IsLed homes line run asked

  more : (h : Happening) (run : List Happening) (asked : Asked) → IsQuiet line h → LedIfEnded run asked → LedIfEnded (h ∷ run) asked
  more h run asked quiet rest ended asks =
      still h run asked quiet.steps (rest (sym (ap (λ b. b || has_ended line run) quiet.silent) ∙ ended) (sym (quiet.asked (asked_by line run)) ∙ asks))

  pub lost_led : (who : Instance) (wanted : List (Option (SiteId × Op))) (lost : List ℕ) (run : List Happening) (asked : Asked) → IsRight homes (Stopped who wanted lost ∷ run)
      → is_line_among line lost ≡ true → asked_by line run ≡ Some asked → IsLed homes line (Stopped who wanted lost ∷ run) asked
  lost_led who wanted lost run asked right among asks =
      let is = right.1.each line among in
      still (Stopped who wanted lost) run asked refl (by_walk is.begun.asked asked run is.plan (same_Some is.begun.asked asked (sym is.begun.is ∙ asks)) is.led)

  -- the happening of its end, or one behind it
  ended_by : (h : Happening) (run : List Happening) (asked : Asked) → IsRight homes (h ∷ run) → LedIfEnded run asked → LedIfEnded (h ∷ run) asked
  ended_by Nothing run asked right rest = more Nothing run asked (quiet_nothing line) rest
  ended_by Waited run asked right rest = more Waited run asked (quiet_waited line) rest
  ended_by (Trimmed s number image object) run asked right rest = more (Trimmed s number image object) run asked (quiet_trimmed line s number image object) rest
  ended_by (Expired s number image who) run asked right rest = more (Expired s number image who) run asked (quiet_expired line s number image who) rest
  ended_by (Heard notice) run asked right rest = more (Heard notice) run asked (quiet_heard line notice) rest
  ended_by (Restarted who) run asked right rest = more (Restarted who) run asked (quiet_restarted line who) rest
  ended_by (Began other slot) run asked right rest = λ ended asks. more (Began other slot) run asked (quiet_began line other slot (differ ended)) rest ended asks
    where
      differ : has_ended line run ≡ true → (other.line == line) ≡ false
      differ ended = ne_eqb other.line line (λ same. true≢false (sym ended ∙ (unheard homes line run right.2 (ap (λ l. asked_by l run) (sym same) ∙ right.1.new)).unended))
  ended_by (Did o None) run asked right rest = λ ended asks. more (Did o None) run asked (quiet_did line o None (for_another o o.by run ended right.1.1)) rest ended asks
  ended_by (Did o (Some reply)) run asked right rest = by (is_for line o.by) refl
    where
      here : (IsReplyMeant homes line reply run (Did o (Some reply) ∷ run)) ⊎ (EndsOnWay homes line reply o run o.by) → asked_by line run ≡ Some asked → IsLed homes line (Did o (Some reply) ∷ run) asked
      here (inl is) asks = by_reply reply run (Did o (Some reply) ∷ run) asked is asks
      here (inr way) asks =
          still (Did o (Some reply)) run asked (ap (λ b. cond b (step_of o ∷ []) []) way.apart)
          (by_walk way.is.begun.asked asked run way.is.plan (same_Some way.is.begun.asked asked (sym way.is.begun.is ∙ asks)) way.is.led)

      by : (b : Bool) → is_for line o.by ≡ b → LedIfEnded (Did o (Some reply) ∷ run) asked
      by true mine ended asks = here (ends_so homes line o reply run mine right.1.1) asks
      by false other ended asks = more (Did o (Some reply)) run asked (quiet_did line o (Some reply) other) rest ended asks
  ended_by (Refused s other reply) run asked right rest = by (other == line) refl
    where
      by : (b : Bool) → (other == line) ≡ b → LedIfEnded (Refused s other reply ∷ run) asked
      by true here ended asks =
          by_reply reply run (Refused s other reply ∷ run) asked (subst (λ l. IsReplyMeant homes l reply run (Refused s other reply ∷ run)) (eqb-true other line here) right.1) asks
      by false differ ended asks = more (Refused s other reply) run asked (quiet_refused line s other reply differ) rest ended asks
  ended_by (Stopped who wanted lost) run asked right rest = by (is_line_among line lost) refl
    where
      by : (b : Bool) → is_line_among line lost ≡ b → LedIfEnded (Stopped who wanted lost ∷ run) asked
      by true among ended asks = lost_led who wanted lost run asked right among asks
      by false other ended asks = more (Stopped who wanted lost) run asked (quiet_stopped line who wanted lost other) rest ended asks

  pub ended_led : (run : List Happening) (asked : Asked) → IsRight homes run → asked_by line run ≡ Some asked → has_ended line run ≡ true → IsLed homes line run asked
  ended_led [] asked right asks ended = absurd (true≢false (sym ended))
  ended_led (h ∷ run) asked right asks ended = ended_by h run asked right (λ before then. ended_led run asked right.2 then before) ended asks

-- ---- lines whose request is in a slot

module _ {R : Type 0} (stands : R → Standing) (homes : ℕ → SiteId) (session : ℕ) (who : Instance) (whose : who.session ≡ session) (run : List Happening) (asked : Asked) where
  led_as : (line : ℕ) (begun : IsOpen line run) → begun.asked.who ≡ who → (last : Plan) → IsLedTo (seat_at homes session) begun.asked.command (steps_of line run) last
      → asked_by line run ≡ Some asked → IsLed homes line run asked
  led_as line begun mine last led asks =
      by_walk homes line begun.asked asked run last (same_Some begun.asked asked (sym begun.is ∙ asks))
      (subst (λ n. IsLedTo (seat_at homes n) begun.asked.command (steps_of line run) last) (sym (ap (λ (i : Instance). i.session) mine ∙ whose)) led)

  held_led : (line : ℕ) (o : Option (Occupant R)) → script_line o ≡ Some line
      → IsHeldRightly stands (seat_at homes session) who run o → asked_by line run ≡ Some asked → IsLed homes line run asked
  held_led line None is held asks = absurd (none-some line is)
  held_led line (Some (occupant.Refused number refusal)) is held asks =
      let same : number ≡ line = same_Some number line is in
      subst (λ l. IsLed homes l run asked) same
      (led_as number held.begun held.mine held.start.plan
      (record { start = held.start; plan = held.plan; feds = []; walk = (held.none, refl); given = subst AreGiven (sym held.none) tt; standalone = subst TellAllStandalone (sym held.none) tt }) (ap (λ l. asked_by l run) same ∙ asks))
  held_led line (Some (occupant.Running r)) is held asks =
      let same : r.line ≡ line = same_Some r.line line is in
      subst (λ l. IsLed homes l run asked) same
      (led_as r.line held.begun held.mine (stands r.request).plan
      (record { start = held.start; plan = held.plan; feds = held.feds; walk = held.walk; given = held.given; standalone = held.standalone }) (ap (λ l. asked_by l run) same ∙ asks))

module _ {R : Type 0} (stands : R → Standing) (w : WorldView R) (sound : IsSoundWorld stands w) (session slot line : ℕ) (asked : Asked) where
  pub under_way_led : line_at session slot w.lives ≡ Some line → asked_by line sound.told.run ≡ Some asked → IsLed sound.told.homes line sound.told.run asked
  under_way_led is asks = by (client_in session w.lives) refl is
    where
      by : (o : Option (ClientView R)) → client_in session w.lives ≡ o → script_line (held_of slot (session_of_client o)) ≡ Some line → IsLed sound.told.homes line sound.told.run asked
      by None there none = absurd (none-some line none)
      by (Some c) there at_line =
          let living = sound.clients session c there in
          held_led stands sound.told.homes session c.session.instance living.whose sound.told.run asked line (held_in slot c.session.slots) at_line (living.held slot) asks

-- any line that was begun, since it is in a slot until it ends
pub begun_led : {R : Type 0} (stands : R → Standing) (w : WorldView R) (sound : IsSoundWorld stands w) (line : ℕ) (asked : Asked) → asked_by line sound.told.run ≡ Some asked
    → IsLed sound.told.homes line sound.told.run asked
begun_led stands w sound line asked asks = by (has_ended line sound.told.run) refl
  where
    by : (b : Bool) → has_ended line sound.told.run ≡ b → IsLed sound.told.homes line sound.told.run asked
    by true ended = ended_led sound.told.homes line sound.told.run asked sound.told.right asks ended
    by false unended =
        let there = sound.slots line (record { asked = asked; is = asks; unended = unended }) in
        under_way_led stands w sound there.session there.slot line asked there.is asks
