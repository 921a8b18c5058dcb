-- What a slot wanted at the last stop of its session stays so, whatever comes but another stop.
use Rattle.std.proofs.Common.{◌≡◌, ℕ, ◌==◌, ◌||◌, cond, Bool, true, false, List, ◌∷◌, Some, None, refl, sym, ap, ◌∙◌}
use Rattle.std.proofs.lemmas.Option.{none-some}
use Rattle.rbd_kinds.specs.declared.id.Instance.{Instance}
use Rattle.rbd_kinds.specs.declared.id.SiteId.{SiteId}
use Rattle.rbd_kinds.specs.declared.id.SiteId.TheVariants as site
use Rattle.rbd_kinds.specs.declared.operation.Op.{Op}
use Rattle.rbd_kinds.specs.declared.operation.Op.TheVariants as op
use Rattle.rbd_machine.specs.Knowledge.{Knowledge}
use Rattle.rbd_slots.specs.Session.{held_in}
use Rattle.rbd_world.specs.Late.{is_stopped_among, stops_in}
use Rattle.rbd_world.specs.Run.{Happening, Nothing, Waited, Began, Did, Refused, Trimmed, Expired, Heard, Stopped, Restarted, Sent, sent_of}
use Rattle.rbd_world.specs.Sound.{WasLeft}
use Rattle.rbd_world.proofs.Changed.{SendsNothing}

pub left_on : (homes : ℕ → SiteId) (slot : ℕ) (who : Instance) (s : SiteId) (o : Op) (k : Knowledge) (h : Happening) (run : List Happening) → stops_in who.session h ≡ false
    → WasLeft homes slot who s o k run → WasLeft homes slot who s o k (h ∷ run)
left_on homes slot who s o k h run stays was = record {
  wanted = was.wanted;
  lost = was.lost;
  until = was.until;
  since = h ∷ was.since;
  are = ap (λ r. h ∷ r) was.are;
  last = ap (λ b. b || is_stopped_among who.session was.since) stays ∙ was.last;
  by = was.by;
  left = was.left;
  recalls = was.recalls;
}

-- where nothing that a stopped life sent comes or goes, no session is stopped
pub stops_none : (h : Happening) → SendsNothing h → (m : ℕ) → stops_in m h ≡ false
stops_none (Stopped who wanted lost) sends m = by (who.session == m) refl
  where
    some : Sent
    some = record { instance = who; site = site.A; op = op.BlockAdd who }

    by : (b : Bool) → (who.session == m) ≡ b → b ≡ false
    by false is = refl
    by true is =
        let none = ap (λ b. cond b (sent_of who (held_in 0 wanted)) None) (sym is) ∙ sends m 0 None in
        let is_some = ap (λ b. cond b (sent_of who (held_in 0 wanted)) (Some some)) (sym is) ∙ sends m 0 (Some some) in
        absurd (none-some some (sym none ∙ is_some))
stops_none Nothing sends m = refl
stops_none Waited sends m = refl
stops_none (Began asked slot) sends m = refl
stops_none (Did o reply) sends m = refl
stops_none (Refused s line reply) sends m = refl
stops_none (Trimmed s number image object) sends m = refl
stops_none (Expired s number image who) sends m = refl
stops_none (Heard notice) sends m = refl
stops_none (Restarted who) sends m = refl
