-- Lines of a schedule, and declarations of sessions, are read of the tokens that spell them, and of
-- no others.
use Rattle.std.proofs.Common.{◌≡◌, inl, inr, ℕ, ◌<◌, ◌≤◌, ◌^◌, List, [], ◌∷◌, Ok, refl, sym, ap, ◌∙◌, subst, arith}
use Rattle.std.specs.Prelude.{codes, decimal}
use Rattle.rbd_kinds.specs.declared.id.SiteId.{SiteId}
use Rattle.rbd_kinds.specs.Operation.{op_word}
use Rattle.rbd_script.specs.declared.schedule.ScheduleVerb.{ScheduleVerb}
use Rattle.rbd_script.specs.declared.schedule.ScheduleVerb.TheVariants as schedule
use Rattle.rbd_script.specs.declared.script.Declared.{Declared}
use Rattle.rbd_script.specs.declared.script.Said.{Said}
use Rattle.rbd_script.specs.declared.script.Said.TheVariants as said
use Rattle.rbd_script.specs.EventSpelling.{Declares, IsPoll, session_name, site_word, SpellsEvent}
use Rattle.rbd_script.specs.Form.{form}
use Rattle.rbd_script.specs.Line.{declaration_of}
use Rattle.rbd_script.specs.Number.{greatest}
use Rattle.rbd_script.specs.Part.{part_of}
use Rattle.rbd_script.specs.Part.Part.{Kind, NewSession, Number, Session, Site, Times}
use Rattle.rbd_script.specs.Schedule.{schedule_form, schedule_of}
use Rattle.rbd_script.specs.Word.{all_schedule_verbs, schedule_verb_of, schedule_word, with_word}
use Rattle.rbd_script.proofs.CommandRead.{number_in}
use Rattle.rbd_script.proofs.CommandSaid.{found_word, known_ok, word_ok}
use Rattle.rbd_script.proofs.PartSpelling.{form_says, IsForm}
use Rattle.rbd_script.proofs.SessionSpelling.{kind_read, kind_said, new_session_read, new_session_said, session_read, session_said, site_read, site_said, times_said}
use Rattle.rbd_script.proofs.TokenSpelling.{number_read}

abbrev Tokens : Type 0
Tokens = List (List ℕ)

big : greatest < 2 ^ 64
big = omega arith

-- what spells a line is read as it
event_first : (v : ScheduleVerb) → schedule_verb_of (schedule_word v) ≡ Ok v
unfolding schedule_verb_of
event_first schedule.Poll = refl
event_first schedule.Until = refl
event_first schedule.Settle = refl
event_first schedule.Deliver = refl
event_first schedule.Lose = refl
event_first schedule.Expire = refl
event_first schedule.Stop = refl
event_first schedule.Restart = refl
event_first schedule.Late = refl
event_first schedule.Trim = refl

event_with : (sessions : List Declared) (v : ScheduleVerb) (ts : Tokens) → schedule_of sessions (schedule_word v ∷ ts) ≡ schedule_form sessions v ts
unfolding schedule_of part_of
event_with sessions v ts = rw (event_first v) refl

-- a line, and the tokens that it is told to have
abbrev IsRead : List Declared → Tokens → Said → Type 0
IsRead sessions ts s = schedule_of sessions ts ≡ Ok s

pub event_read : (sessions : List Declared) (ts : Tokens) (s : Said) → SpellsEvent sessions ts s → schedule_of sessions ts ≡ Ok s
unfolding form part_of
event_read sessions ts (said.Command session beside command) is = absurd is
event_read sessions ts (said.Poll session slot times) is =
    let name = session_name sessions session in
    let poll = said.Poll session slot times in
    elim is.0 [
      | inl told ↦
          subst (λ x. IsRead sessions x poll) (sym told)
          (event_with sessions schedule.Poll (name ∷ decimal slot ∷ decimal times ∷ [])
          ∙ rw (session_read sessions session is.1, number_in 64 slot (omega arith) is.2, number_read 1 1000000 times is.3 is.4 (omega arith)) refl)
      | inr told ↦
          subst (λ x. IsRead sessions x poll) (sym told.0)
          (event_with sessions schedule.Poll (name ∷ decimal slot ∷ [])
          ∙ rw (session_read sessions session is.1, number_in 64 slot (omega arith) is.2) (ap (λ n. Ok (said.Poll session slot n)) (sym told.1)))
    ]
event_read sessions ts (said.Until session slot kind) is =
    subst (λ x. IsRead sessions x (said.Until session slot kind)) (sym is.0)
    (event_with sessions schedule.Until (session_name sessions session ∷ decimal slot ∷ op_word kind ∷ [])
    ∙ rw (session_read sessions session is.1, number_in 64 slot (omega arith) is.2, kind_read kind) refl)
event_read sessions ts (said.Settle rounds) is =
    subst (λ x. IsRead sessions x (said.Settle rounds)) (sym is.0) (event_with sessions schedule.Settle (decimal rounds ∷ []) ∙ rw (number_in greatest rounds big is.1) refl)
event_read sessions ts (said.Deliver notice) is =
    subst (λ x. IsRead sessions x (said.Deliver notice)) (sym is.0) (event_with sessions schedule.Deliver (decimal notice ∷ []) ∙ rw (number_in greatest notice big is.1) refl)
event_read sessions ts (said.Lose notice) is =
    subst (λ x. IsRead sessions x (said.Lose notice)) (sym is.0) (event_with sessions schedule.Lose (decimal notice ∷ []) ∙ rw (number_in greatest notice big is.1) refl)
event_read sessions ts (said.Expire session site image) is =
    subst (λ x. IsRead sessions x (said.Expire session site image)) (sym is.0)
    (event_with sessions schedule.Expire (session_name sessions session ∷ site_word site ∷ decimal image ∷ [])
    ∙ rw (session_read sessions session is.1, site_read site, number_in 4294967295 image (omega arith) is.2) refl)
event_read sessions ts (said.Stop session) is =
    subst (λ x. IsRead sessions x (said.Stop session)) (sym is.0)
    (event_with sessions schedule.Stop (session_name sessions session ∷ []) ∙ rw (session_read sessions session is.1) refl)
event_read sessions ts (said.Restart session) is =
    subst (λ x. IsRead sessions x (said.Restart session)) (sym is.0)
    (event_with sessions schedule.Restart (session_name sessions session ∷ []) ∙ rw (session_read sessions session is.1) refl)
event_read sessions ts (said.Late session slot) is =
    subst (λ x. IsRead sessions x (said.Late session slot)) (sym is.0)
    (event_with sessions schedule.Late (session_name sessions session ∷ decimal slot ∷ [])
    ∙ rw (session_read sessions session is.1, number_in 64 slot (omega arith) is.2) refl)
event_read sessions ts (said.Trim site image object) is =
    subst (λ x. IsRead sessions x (said.Trim site image object)) (sym is.0)
    (event_with sessions schedule.Trim (site_word site ∷ decimal image ∷ decimal object ∷ [])
    ∙ rw (site_read site, number_in 4294967295 image (omega arith) is.1, number_in greatest object big is.2) refl)

-- what is read as a line spells it
poll_said : (sessions : List Declared) (ts : Tokens) (s : Said) → IsForm (Session sessions ∷ Number 64 ∷ Times ∷ []) said.Poll ts s → SpellsEvent sessions (codes "@poll" ∷ ts) s
poll_said sessions ts s f0 =
    let who = session_said sessions ts f0.1 f0.0 f0.2 in
    let f1 = f0.3 in
    let slot = f1.2 (omega arith) in
    let f2 = f1.3 in
    let times = times_said f1.1 f2.1 f2.0 f2.2 f2.3.0 in
    let front : (rest : Tokens) → f1.1 ≡ rest → codes "@poll" ∷ ts ≡ codes "@poll" ∷ session_name sessions f0.0 ∷ decimal f1.0 ∷ rest = λ rest end.
    ap (λ (x : Tokens). codes "@poll" ∷ x) (who.0 ∙ ap (λ (x : Tokens). session_name sessions f0.0 ∷ x) (slot.0 ∙ ap (λ (x : Tokens). decimal f1.0 ∷ x) end)) in
    let told : IsPoll (session_name sessions f0.0) f1.0 f2.0 (codes "@poll" ∷ ts) = elim times.0 [
      | inl given ↦ inl (front (decimal f2.0 ∷ []) given)
      | inr left ↦ inr (front [] left.0, left.1)
    ] in
    subst (λ (x : Said). SpellsEvent sessions (codes "@poll" ∷ ts) x) f2.3.1 (told, who.1, slot.1, times.1, times.2)

until_said : (sessions : List Declared) (ts : Tokens) (s : Said) → IsForm (Session sessions ∷ Number 64 ∷ Kind ∷ []) said.Until ts s → SpellsEvent sessions (codes "@until" ∷ ts) s
until_said sessions ts s f0 =
    let who = session_said sessions ts f0.1 f0.0 f0.2 in
    let f1 = f0.3 in
    let slot = f1.2 (omega arith) in
    let f2 = f1.3 in
    let kind = kind_said f1.1 f2.1 f2.0 f2.2 in
    subst (λ (x : Said). SpellsEvent sessions (codes "@until" ∷ ts) x) f2.3.1
    (ap (λ (x : Tokens). codes "@until" ∷ x) (who.0 ∙ ap (λ (x : Tokens). session_name sessions f0.0 ∷ x) (slot.0 ∙ ap (λ (x : Tokens). decimal f1.0 ∷ x) (kind ∙ ap (λ (x : Tokens). op_word f2.0 ∷ x) f2.3.0))), who.1, slot.1)

expire_said : (sessions : List Declared) (ts : Tokens) (s : Said) → IsForm (Session sessions ∷ Site ∷ Number 4294967295 ∷ []) said.Expire ts s → SpellsEvent sessions (codes "@expire" ∷ ts) s
expire_said sessions ts s f0 =
    let who = session_said sessions ts f0.1 f0.0 f0.2 in
    let f1 = f0.3 in
    let site = site_said f0.1 f1.1 f1.0 f1.2 in
    let f2 = f1.3 in
    let image = f2.2 (omega arith) in
    subst (λ (x : Said). SpellsEvent sessions (codes "@expire" ∷ ts) x) f2.3.1
    (ap (λ (x : Tokens). codes "@expire" ∷ x) (who.0 ∙ ap (λ (x : Tokens). session_name sessions f0.0 ∷ x) (site ∙ ap (λ (x : Tokens). site_word f1.0 ∷ x) (image.0 ∙ ap (λ (x : Tokens). decimal f2.0 ∷ x) f2.3.0))), who.1, image.1)

trim_said : (sessions : List Declared) (ts : Tokens) (s : Said) → IsForm (Site ∷ Number 4294967295 ∷ Number greatest ∷ []) said.Trim ts s → SpellsEvent sessions (codes "@trim" ∷ ts) s
trim_said sessions ts s f0 =
    let site = site_said ts f0.1 f0.0 f0.2 in
    let f1 = f0.3 in
    let image = f1.2 (omega arith) in
    let f2 = f1.3 in
    let object = f2.2 big in
    subst (λ (x : Said). SpellsEvent sessions (codes "@trim" ∷ ts) x) f2.3.1
    (ap (λ (x : Tokens). codes "@trim" ∷ x) (site ∙ ap (λ (x : Tokens). site_word f0.0 ∷ x) (image.0 ∙ ap (λ (x : Tokens). decimal f1.0 ∷ x) (object.0 ∙ ap (λ (x : Tokens). decimal f2.0 ∷ x) f2.3.0))), image.1, object.1)

late_said : (sessions : List Declared) (ts : Tokens) (s : Said) → IsForm (Session sessions ∷ Number 64 ∷ []) said.Late ts s → SpellsEvent sessions (codes "@late" ∷ ts) s
late_said sessions ts s f0 =
    let who = session_said sessions ts f0.1 f0.0 f0.2 in
    let f1 = f0.3 in
    let slot = f1.2 (omega arith) in
    subst (λ (x : Said). SpellsEvent sessions (codes "@late" ∷ ts) x) f1.3.1
    (ap (λ (x : Tokens). codes "@late" ∷ x) (who.0 ∙ ap (λ (x : Tokens). session_name sessions f0.0 ∷ x) (slot.0 ∙ ap (λ (x : Tokens). decimal f1.0 ∷ x) f1.3.0)), who.1, slot.1)

-- a word and a number
alone : (word : List ℕ) (event : ℕ → Said) (ts : Tokens) (s : Said) → IsForm (Number greatest ∷ []) event ts s → (n : ℕ) × (event n ≡ s) × (word ∷ ts ≡ word ∷ decimal n ∷ []) × (n ≤ greatest)
alone word event ts s f0 =
    let n = f0.2 big in
    (f0.0, f0.3.1, ap (λ (x : Tokens). word ∷ x) (n.0 ∙ ap (λ (x : Tokens). decimal f0.0 ∷ x) f0.3.0), n.1)

schedule_form_said : (sessions : List Declared) (v : ScheduleVerb) (ts : Tokens) (s : Said) → schedule_form sessions v ts ≡ Ok s → SpellsEvent sessions (schedule_word v ∷ ts) s
schedule_form_said sessions schedule.Poll ts s is = poll_said sessions ts s (form_says (Session sessions ∷ Number 64 ∷ Times ∷ []) said.Poll ts s is)
schedule_form_said sessions schedule.Until ts s is = until_said sessions ts s (form_says (Session sessions ∷ Number 64 ∷ Kind ∷ []) said.Until ts s is)
schedule_form_said sessions schedule.Settle ts s is =
    let a = alone (codes "@settle") said.Settle ts s (form_says (Number greatest ∷ []) said.Settle ts s is) in
    subst (λ (x : Said). SpellsEvent sessions (codes "@settle" ∷ ts) x) a.1 (a.2, a.3)
schedule_form_said sessions schedule.Deliver ts s is =
    let a = alone (codes "@deliver") said.Deliver ts s (form_says (Number greatest ∷ []) said.Deliver ts s is) in
    subst (λ (x : Said). SpellsEvent sessions (codes "@deliver" ∷ ts) x) a.1 (a.2, a.3)
schedule_form_said sessions schedule.Lose ts s is =
    let a = alone (codes "@lose") said.Lose ts s (form_says (Number greatest ∷ []) said.Lose ts s is) in
    subst (λ (x : Said). SpellsEvent sessions (codes "@lose" ∷ ts) x) a.1 (a.2, a.3)
schedule_form_said sessions schedule.Expire ts s is = expire_said sessions ts s (form_says (Session sessions ∷ Site ∷ Number 4294967295 ∷ []) said.Expire ts s is)
schedule_form_said sessions schedule.Stop ts s is =
    let f0 = form_says (Session sessions ∷ []) said.Stop ts s is in
    let who = session_said sessions ts f0.1 f0.0 f0.2 in
    subst (λ (x : Said). SpellsEvent sessions (codes "@stop" ∷ ts) x) f0.3.1
    (ap (λ (x : Tokens). codes "@stop" ∷ x) (who.0 ∙ ap (λ (x : Tokens). session_name sessions f0.0 ∷ x) f0.3.0), who.1)
schedule_form_said sessions schedule.Restart ts s is =
    let f0 = form_says (Session sessions ∷ []) said.Restart ts s is in
    let who = session_said sessions ts f0.1 f0.0 f0.2 in
    subst (λ (x : Said). SpellsEvent sessions (codes "@restart" ∷ ts) x) f0.3.1
    (ap (λ (x : Tokens). codes "@restart" ∷ x) (who.0 ∙ ap (λ (x : Tokens). session_name sessions f0.0 ∷ x) f0.3.0), who.1)
schedule_form_said sessions schedule.Late ts s is = late_said sessions ts s (form_says (Session sessions ∷ Number 64 ∷ []) said.Late ts s is)
schedule_form_said sessions schedule.Trim ts s is = trim_said sessions ts s (form_says (Site ∷ Number 4294967295 ∷ Number greatest ∷ []) said.Trim ts s is)

event_verb_said : (t : List ℕ) (v : ScheduleVerb) → schedule_verb_of t ≡ Ok v → t ≡ schedule_word v
unfolding schedule_verb_of
event_verb_said t v is = found_word schedule_word all_schedule_verbs t v (known_ok (with_word schedule_word all_schedule_verbs t) v is)

pub event_said : (sessions : List Declared) (ts : Tokens) (s : Said) → schedule_of sessions ts ≡ Ok s → SpellsEvent sessions ts s
unfolding schedule_of part_of
event_said sessions ts s is =
    let w = word_ok schedule_verb_of schedule_word (schedule_form sessions) ts s event_verb_said is in
    subst (λ (x : Tokens). SpellsEvent sessions x s) (sym w.2) (schedule_form_said sessions w.0 w.1 s w.3)

-- declarations of sessions
pub declaration_read : (sessions : List Declared) (number : ℕ) (ts : Tokens) (d : Declared) → Declares sessions number ts d → declaration_of sessions number ts ≡ Ok d
unfolding declaration_of form part_of
declaration_read sessions number ts d is =
    subst (λ (x : Tokens). declaration_of sessions number x ≡ Ok d) (sym is.spelled)
    (rw (new_session_read sessions d.name is.name is.is_new is.few, site_read d.home) (ap (λ n. Ok (record { line = n; name = d.name; home = d.home })) (sym is.line)))

pub declaration_said : (sessions : List Declared) (number : ℕ) (ts : Tokens) (d : Declared) → declaration_of sessions number ts ≡ Ok d → Declares sessions number ts d
unfolding declaration_of
declaration_said sessions number ts d is =
    let declared : List ℕ → SiteId → Declared = λ name home. record { line = number; name = name; home = home } in
    let f0 = form_says (NewSession sessions ∷ Site ∷ []) declared ts d is in
    let name = new_session_said sessions ts f0.1 f0.0 f0.2 in
    let f1 = f0.3 in
    let home = site_said f0.1 f1.1 f1.0 f1.2 in
    subst (Declares sessions number ts) f1.3.1 (record {
      spelled = name.0 ∙ ap (λ (x : Tokens). f0.0 ∷ x) (home ∙ ap (λ (x : Tokens). site_word f1.0 ∷ x) f1.3.0);
      name = name.1.0;
      is_new = name.1.1;
      few = name.1.2;
      line = refl;
    })
