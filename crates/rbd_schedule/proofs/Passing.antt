-- The notices that a session is past, as the world goes on.
use Rattle.std.proofs.Common.{◌≡◌, ℕ, ◌≤◌, ◌==◌, ◌&&◌, ◌||◌, ◌⊎◌, inl, inr, cond, nat_lt, not, Bool, true, false, List, [], ◌++◌, append-nil, Option, Some, None, refl, sym, ap, ◌∙◌, subst, arith}
use Rattle.std.proofs.lemmas.Bool.{and_left, and_right, eq-eqb, eqb-true, false≢true, lt-ltb, ltb-true, ne_eqb, or_cases, or_left, or_right}
use Rattle.std.proofs.lemmas.List.Folds.{find-append, list_any-append}
use Rattle.std.proofs.lemmas.Option.{none-some, same_Some}
use Rattle.std.specs.Option.{option_map, option_or}
use Rattle.std.proofs.Math.Bool.{or-false}
use Rattle.rbd_client.specs.Client.{ClientView}
use Rattle.rbd_kinds.specs.declared.header_op.HeaderOp.{HeaderOp}
use Rattle.rbd_kinds.specs.declared.header_op.HeaderOp.TheVariants as header
use Rattle.rbd_kinds.specs.declared.id.Instance.{Instance}
use Rattle.rbd_kinds.specs.declared.id.SiteId.{SiteId}
use Rattle.rbd_kinds.specs.declared.notice.Notice.{Notice}
use Rattle.rbd_kinds.specs.declared.operation.Op.{Op}
use Rattle.rbd_kinds.specs.declared.operation.Op.TheVariants as op
use Rattle.rbd_kinds.specs.Instances.{same_instance}
use Rattle.rbd_machine.specs.Plan.{Standing}
use Rattle.rbd_site.specs.Records.{Records}
use Rattle.rbd_site.specs.Step.{is_fenced, mail_after, mail_served}
use Rattle.rbd_site.specs.WatchStep.{notified}
use Rattle.rbd_watch.specs.Posting.{notice_numbered}
use Rattle.rbd_world.specs.declared.event.Call.{Call}
use Rattle.rbd_world.specs.declared.event.Event.{Event}
use Rattle.rbd_world.specs.declared.event.Event.TheVariants as event
use Rattle.rbd_world.specs.declared.event.Outcome.{Outcome}
use Rattle.rbd_world.specs.declared.sites.Sites.{Sites}
use Rattle.rbd_world.specs.Run.{Happening, Nothing, Waited, Began, Did, Refused, Trimmed, Expired, Heard, Stopped, Restarted, IsOfEvent, outcome_of}
use Rattle.rbd_world.specs.Sound.{IsSoundWorld}
use Rattle.rbd_world.specs.Step.{IsWorldStep, LivesOnIf, happening, latest_behind, mail_then, names_session, next_life, restarted, restarted_of}
use Rattle.rbd_world.specs.World.{LivesView, WorldView, client_in, lives_in, records_in, running_of}
use Rattle.rbd_world.proofs.Carried.{of_event}
use Rattle.rbd_schedule.specs.Notices.{hears, is_notice_due, is_to, was_heard}
use Rattle.rbd_schedule.specs.Playing.{IsPassed, is_past_life, is_dealt_with}

-- ---- what is posted stays

-- a list begins with what was there
abbrev pub StaysIn : (mail now : List Notice) → Type 0
StaysIn mail now = (more : List Notice) × (now ≡ mail ++ more)

stays_itself : (mail : List Notice) → StaysIn mail mail
stays_itself mail = ([], sym (append-nil mail))

notified_stays : (s : SiteId) (who : Instance) (image : ℕ) (to : List Instance) (o : HeaderOp) (mail : List Notice) → StaysIn mail (notified s who image to o mail)
notified_stays s who image to (header.Notify kind) mail = (_, refl)
notified_stays s who image to _ mail = stays_itself mail

served_stays : (s : SiteId) (r : Records) (who : Instance) (o : Op) (mail : List Notice) → StaysIn mail (mail_served s r who o mail)
served_stays s r who (op.Header image o) mail = notified_stays s who image _ o mail
served_stays s r who _ mail = stays_itself mail

mail_stays : (s : SiteId) (r : Records) (who : Instance) (o : Op) (mail : List Notice) → StaysIn mail (mail_after s r who o mail)
mail_stays s r who o mail = by (is_fenced r who)
  where
    by : (b : Bool) → StaysIn mail (cond b mail (mail_served s r who o mail))
    by true = stays_itself mail
    by false = served_stays s r who o mail

pub then_stays : (h : Happening) (sites : Sites) → StaysIn sites.mail (mail_then h sites)
then_stays (Did o reply) sites = mail_stays _ (records_in o.site sites) o.instance o.op sites.mail
then_stays _ sites = stays_itself sites.mail

pub numbered_stays : (number : ℕ) (mail now : List Notice) (n : Notice) → StaysIn mail now → notice_numbered number mail ≡ Some n → notice_numbered number now ≡ Some n
numbered_stays number mail now n (more, are) is =
    ap (notice_numbered number) are ∙ find-append (λ (x : Notice). x.number == number) mail more ∙ ap (λ o. option_or o (notice_numbered number more)) is

-- ---- what was heard

pub heard_then : {R : Type 0} (stands : R → Standing) (e : Event) (result : Outcome) (old new : WorldView R) → IsWorldStep stands e old result new
    → (number : ℕ) → was_heard number new.calls ≡ (was_heard number old.calls || hears number e result)
heard_then stands e result old new (is, does) number =
    ap (was_heard number) does.calls ∙ list_any-append (λ (c : Call). hears number c.event c.outcome) old.calls _
    ∙ ap (λ b. was_heard number old.calls || b) (or-false (hears number e (outcome_of (happening stands e old))) ∙ ap (hears number e) (sym is))

-- ---- lives follow one another

-- of the same session, and no earlier
record IsFrom (old new : Instance) : Type 0 where
  session : new.session ≡ old.session
  life : old.life ≤ new.life

from_itself : (i : Instance) → IsFrom i i
from_itself i = record { session = refl; life = omega arith }

restarted_from : {R : Type 0} (latest : Instance) (c : Option (ClientView R)) → IsFrom latest (latest_behind (restarted_of latest c) latest)
restarted_from latest (Some c) = from_itself latest
restarted_from latest None = by _
  where
    by : (b : Bool) → IsFrom latest (latest_behind (cond b (Restarted (next_life latest)) Nothing) latest)
    by true = record { session = refl; life = omega arith }
    by false = from_itself latest

-- a life begins by a restart alone
abbrev IsRestartOf : Event → Type 0
IsRestartOf (event.Restart session) = Unit {0}
IsRestartOf e = ⊥

begins_by : (e : Event) (who : Instance) → IsOfEvent e (Restarted who) → IsRestartOf e
begins_by (event.Submit session line c) who is = is
begins_by (event.Poll session slot) who is = is
begins_by (event.Deliver number) who is = is
begins_by (event.Expire session s image) who is = is
begins_by (event.Stop session) who is = is
begins_by (event.Late session slot) who is = is
begins_by (event.Restart session) who is = tt
begins_by (event.Trim s image object) who is = is

same_latest : (e : Event) (h : Happening) (latest : Instance) → IsOfEvent e h → (IsRestartOf e → ⊥) → latest_behind h latest ≡ latest
same_latest e (Restarted who) latest is other = absurd (other (begins_by e who is))
same_latest e Nothing latest is other = refl
same_latest e Waited latest is other = refl
same_latest e (Began asked slot) latest is other = refl
same_latest e (Did o reply) latest is other = refl
same_latest e (Refused s line reply) latest is other = refl
same_latest e (Trimmed s number image object) latest is other = refl
same_latest e (Expired s number image who) latest is other = refl
same_latest e (Heard notice) latest is other = refl
same_latest e (Stopped who wanted lost) latest is other = refl

module _ {R : Type 0} (stands : R → Standing) where
  -- the latest life behind an event that names its session
  named_from : (e : Event) (w : WorldView R) → IsSoundWorld stands w → (s : ℕ) (l : LivesView R) → lives_in s w.lives ≡ Some l → names_session e (happening stands e w) s ≡ true
      → IsFrom l.latest (latest_behind (happening stands e w) l.latest)
  named_from (event.Restart session) w sound s l is named =
      subst (λ o. IsFrom l.latest (latest_behind (restarted o) l.latest)) (sym (ap (λ n. lives_in n w.lives) (eqb-true session s named) ∙ is)) (restarted_from l.latest l.running)
  named_from (event.Submit session line c) w sound s l is named = stays (event.Submit session line c) w sound l (λ x. x)
    where
      stays : (e : Event) (w : WorldView R) → IsSoundWorld stands w → (l : LivesView R) → (IsRestartOf e → ⊥) → IsFrom l.latest (latest_behind (happening stands e w) l.latest)
      stays e w sound l other = subst (IsFrom l.latest) (sym (same_latest e (happening stands e w) l.latest (of_event stands e w sound) other)) (from_itself l.latest)
  named_from (event.Poll session slot) w sound s l is named =
      subst (IsFrom l.latest) (sym (same_latest (event.Poll session slot) _ l.latest (of_event stands (event.Poll session slot) w sound) (λ x. x))) (from_itself l.latest)
  named_from (event.Deliver number) w sound s l is named =
      subst (IsFrom l.latest) (sym (same_latest (event.Deliver number) _ l.latest (of_event stands (event.Deliver number) w sound) (λ x. x))) (from_itself l.latest)
  named_from (event.Expire session x image) w sound s l is named =
      subst (IsFrom l.latest) (sym (same_latest (event.Expire session x image) _ l.latest (of_event stands (event.Expire session x image) w sound) (λ x. x))) (from_itself l.latest)
  named_from (event.Stop session) w sound s l is named =
      subst (IsFrom l.latest) (sym (same_latest (event.Stop session) _ l.latest (of_event stands (event.Stop session) w sound) (λ x. x))) (from_itself l.latest)
  named_from (event.Late session slot) w sound s l is named =
      subst (IsFrom l.latest) (sym (same_latest (event.Late session slot) _ l.latest (of_event stands (event.Late session slot) w sound) (λ x. x))) (from_itself l.latest)
  named_from (event.Trim x image object) w sound s l is named =
      subst (IsFrom l.latest) (sym (same_latest (event.Trim x image object) _ l.latest (of_event stands (event.Trim x image object) w sound) (λ x. x))) (from_itself l.latest)

  -- The lives of a session were there, and the latest was no later.
  record CameFrom (s : ℕ) (old : WorldView R) (l : LivesView R) : Type 0 where
    before : LivesView R
    was : lives_in s old.lives ≡ Some before
    from : IsFrom before.latest l.latest

  came_from : (e : Event) (old new : WorldView R) (result : Outcome) → IsWorldStep stands e old result new → IsSoundWorld stands old → (s : ℕ) (l : LivesView R) → lives_in s new.lives ≡ Some l → CameFrom s old l
  came_from e old new result (is, does) sound s l there = by (names_session e (happening stands e old) s) refl
    where
      named : (a : Option (LivesView R)) → lives_in s old.lives ≡ a → names_session e (happening stands e old) s ≡ true → LivesOnIf stands e (happening stands e old) a (Some l) → CameFrom s old l
      named None was names on = absurd (none-some l (sym on))
      named (Some b) was names on = record { before = b; was = was; from = subst (IsFrom b.latest) (sym on.latest) (named_from e old sound s b was names) }

      by : (b : Bool) → names_session e (happening stands e old) s ≡ b → CameFrom s old l
      by true names = named (lives_in s old.lives) refl names (subst (LivesOnIf stands e (happening stands e old) (lives_in s old.lives)) there (does.named s names))
      by false other = record { before = l; was = sym (does.others s other) ∙ there; from = from_itself l.latest }

-- ---- what is settled stays so

past_stays : (to old new : Instance) → IsFrom old new → is_past_life to old ≡ true → is_past_life to new ≡ true
past_stays to old new from is = by (or_cases (not (to.session == old.session)) (nat_lt to.life old.life) is)
  where
    by : (not (to.session == old.session) ≡ true) ⊎ (nat_lt to.life old.life ≡ true) → is_past_life to new ≡ true
    by (inl other) = or_left (not (to.session == new.session)) (nat_lt to.life new.life) (ap (λ n. not (to.session == n)) from.session ∙ other)
    by (inr earlier) =
        let less = ltb-true to.life old.life earlier in
        let life = from.life in
        or_right (not (to.session == new.session)) (nat_lt to.life new.life) (lt-ltb to.life new.life (omega (arith, less, life)))

settled_stays : (heard heard' lost lost' : (number : ℕ) → Bool) (old new : Instance) (number : ℕ) (mail now : List Notice) → ((n : ℕ) → heard n ≡ true → heard' n ≡ true) → ((n : ℕ) → lost n ≡ true → lost' n ≡ true)
    → IsFrom old new → StaysIn mail now → is_dealt_with heard lost old number (notice_numbered number mail) ≡ true → is_dealt_with heard' lost' new number (notice_numbered number now) ≡ true
settled_stays heard heard' lost lost' old new number mail now more loses from stays is = by (notice_numbered number mail) refl is
  where
    one : (n : Notice) → (is_past_life n.to old ≡ true) ⊎ ((heard number || lost number) ≡ true) → (is_past_life n.to new || (heard' number || lost' number)) ≡ true
    one n (inl past) = or_left (is_past_life n.to new) (heard' number || lost' number) (past_stays n.to old new from past)
    one n (inr told) = or_right (is_past_life n.to new) (heard' number || lost' number) (two (or_cases (heard number) (lost number) told))
      where
        two : (heard number ≡ true) ⊎ (lost number ≡ true) → (heard' number || lost' number) ≡ true
        two (inl it) = or_left (heard' number) (lost' number) (more number it)
        two (inr it) = or_right (heard' number) (lost' number) (loses number it)

    by : (o : Option Notice) → notice_numbered number mail ≡ o → is_dealt_with heard lost old number o ≡ true → is_dealt_with heard' lost' new number (notice_numbered number now) ≡ true
    by None at is = absurd (false≢true is)
    by (Some n) at is =
        ap (is_dealt_with heard' lost' new number) (numbered_stays number mail now n stays at)
        ∙ one n (or_cases (is_past_life n.to old) (heard number || lost number) is)

module _ {R : Type 0} (stands : R → Standing) where
  -- by a step, where no fewer are lost
  pub passed_stays : (lost : (number : ℕ) → Bool) (e : Event) (result : Outcome) (old new : WorldView R) → IsWorldStep stands e old result new → IsSoundWorld stands old
      → (session number : ℕ) → IsPassed lost session number old → IsPassed lost session number new
  passed_stays lost e result old new step sound session number passed l there =
      let came = came_from stands e old new result step sound session l there in
      settled_stays (λ n. was_heard n old.calls) (λ n. was_heard n new.calls) lost lost came.before.latest l.latest number old.sites.mail new.sites.mail
      (λ n is. heard_then stands e result old new step n ∙ or_left (was_heard n old.calls) (hears n e result) is) (λ n is. is) came.from
      (subst (StaysIn old.sites.mail) (sym step.1.mail) (then_stays (happening stands e old) old.sites)) (passed came.before came.was)

  -- where more are lost
  pub passed_more : (lost lost' : (number : ℕ) → Bool) (w : WorldView R) (session number : ℕ) → ((n : ℕ) → lost n ≡ true → lost' n ≡ true) → IsPassed lost session number w → IsPassed lost' session number w
  passed_more lost lost' w session number more passed l there =
      settled_stays (λ n. was_heard n w.calls) (λ n. was_heard n w.calls) lost lost' l.latest l.latest number w.sites.mail w.sites.mail (λ n is. is) more (from_itself l.latest) (stays_itself w.sites.mail) (passed l there)

  -- ---- what is settled isn't due

  not_past : (to who : Instance) → same_instance who to ≡ true → is_past_life to who ≡ false
  not_past to who same = by (who.session == to.session) (who.life == to.life) refl refl same
    where
      by : (p q : Bool) → (who.session == to.session) ≡ p → (who.life == to.life) ≡ q → (p && q) ≡ true → is_past_life to who ≡ false
      by true true one two is =
          let life : who.life ≡ to.life = eqb-true who.life to.life two in
          ap (λ b. not b || nat_lt to.life who.life) (eq-eqb to.session who.session (sym (eqb-true who.session to.session one)))
          ∙ ap (λ n. nat_lt to.life n) life ∙ less to.life
        where
          less : (n : ℕ) → nat_lt n n ≡ false
          less n = go (nat_lt n n) refl
            where
              go : (b : Bool) → nat_lt n n ≡ b → nat_lt n n ≡ false
              go false at = at
              go true at = let no_less = ltb-true n n at in absurd (omega (arith, no_less))
      by true false one two is = absurd (false≢true is)
      by false q one two is = absurd (false≢true is)

  settled_not_due : (heard lost : (number : ℕ) → Bool) (c : ClientView R) (number : ℕ) (o : Option Notice) → is_dealt_with heard lost c.session.instance number o ≡ true
      → (is_to (Some c) o && (not (heard number) && not (lost number))) ≡ false
  settled_not_due heard lost c number None is = absurd (false≢true is)
  settled_not_due heard lost c number (Some n) is = by (same_instance c.session.instance n.to) refl (or_cases (is_past_life n.to c.session.instance) (heard number || lost number) is)
    where
      told : (p q : Bool) → (p || q) ≡ true → (not p && not q) ≡ false
      told true q is = refl
      told false true is = refl
      told false false is = absurd (false≢true is)

      by : (b : Bool) → same_instance c.session.instance n.to ≡ b → (is_past_life n.to c.session.instance ≡ true) ⊎ ((heard number || lost number) ≡ true)
          → (same_instance c.session.instance n.to && (not (heard number) && not (lost number))) ≡ false
      by false other x = and_left (same_instance c.session.instance n.to) (not (heard number) && not (lost number)) other
      by true same (inl past) = absurd (false≢true (sym (not_past n.to c.session.instance same) ∙ past))
      by true same (inr it) = and_right (same_instance c.session.instance n.to) (not (heard number) && not (lost number)) (told (heard number) (lost number) it)

  -- the client that runs is the latest life
  latest_runs : (w : WorldView R) → IsSoundWorld stands w → (session : ℕ) (c : ClientView R) → client_in session w.lives ≡ Some c → (l : LivesView R) → lives_in session w.lives ≡ Some l → c.session.instance ≡ l.latest
  latest_runs w sound session c runs l there = (sound.told.lives session l there).latest c (sym (ap running_of there) ∙ runs)

  pub passed_not_due : (lost : (number : ℕ) → Bool) (w : WorldView R) → IsSoundWorld stands w → (session number : ℕ) → IsPassed lost session number w → is_notice_due lost session number w ≡ false
  passed_not_due lost w sound session number passed = by (client_in session w.lives) refl
    where
      one : (c : ClientView R) → client_in session w.lives ≡ Some c → (o : Option (LivesView R)) → lives_in session w.lives ≡ o
          → (is_to (Some c) (notice_numbered number w.sites.mail) && (not (was_heard number w.calls) && not (lost number))) ≡ false
      one c runs None there = absurd (none-some c (sym (ap running_of there) ∙ runs))
      one c runs (Some l) there =
          settled_not_due (λ n. was_heard n w.calls) lost c number (notice_numbered number w.sites.mail)
          (subst (λ i. is_dealt_with (λ n. was_heard n w.calls) lost i number (notice_numbered number w.sites.mail) ≡ true) (sym (latest_runs w sound session c runs l there)) (passed l there))

      by : (o : Option (ClientView R)) → client_in session w.lives ≡ o → (is_to o (notice_numbered number w.sites.mail) && (not (was_heard number w.calls) && not (lost number))) ≡ false
      by None runs = refl
      by (Some c) runs = one c runs (lives_in session w.lives) refl

  -- what is settled for the life that runs, its session is past
  pub settled_passed : (lost : (number : ℕ) → Bool) (w : WorldView R) (who : Instance) (session number : ℕ) → IsSoundWorld stands w → option_map (λ (c : ClientView R). c.session.instance) (client_in session w.lives) ≡ Some who
      → is_dealt_with (λ n. was_heard n w.calls) lost who number (notice_numbered number w.sites.mail) ≡ true → IsPassed lost session number w
  settled_passed lost w who session number sound runs settled l there = by (client_in session w.lives) refl runs
    where
      by : (o : Option (ClientView R)) → client_in session w.lives ≡ o → option_map (λ (c : ClientView R). c.session.instance) o ≡ Some who
          → is_dealt_with (λ n. was_heard n w.calls) lost l.latest number (notice_numbered number w.sites.mail) ≡ true
      by None at is = absurd (none-some who is)
      by (Some c) at is =
          subst (λ i. is_dealt_with (λ n. was_heard n w.calls) lost i number (notice_numbered number w.sites.mail) ≡ true)
          (sym (same_Some c.session.instance who is) ∙ latest_runs w sound session c at l there) settled

  -- a notice to another session
  pub others_passed : (lost : (number : ℕ) → Bool) (w : WorldView R) → IsSoundWorld stands w → (session number : ℕ) (to : Instance) → option_map (λ (n : Notice). n.to) (notice_numbered number w.sites.mail) ≡ Some to
      → (session ≡ to.session → ⊥) → IsPassed lost session number w
  others_passed lost w sound session number to is other l there = by (notice_numbered number w.sites.mail) refl is
    where
      away : (n : Notice) → n.to ≡ to → (n.to.session == l.latest.session) ≡ false
      away n same =
          ne_eqb n.to.session l.latest.session
          (λ at. other (sym ((sound.told.lives session l there).whose) ∙ sym at ∙ ap (λ (i : Instance). i.session) same))

      by : (o : Option Notice) → notice_numbered number w.sites.mail ≡ o → option_map (λ (n : Notice). n.to) o ≡ Some to
          → is_dealt_with (λ n. was_heard n w.calls) lost l.latest number (notice_numbered number w.sites.mail) ≡ true
      by None at none = absurd (none-some to none)
      by (Some n) at some =
          ap (is_dealt_with (λ k. was_heard k w.calls) lost l.latest number) at
          ∙ or_left (is_past_life n.to l.latest) (was_heard number w.calls || lost number)
          (or_left (not (n.to.session == l.latest.session)) (nat_lt n.to.life l.latest.life) (ap not (away n (same_Some n.to to some))))
