-- A fresh life: what is plain of it makes it sound, and each new client is one.
use Rattle.std.proofs.Common.{◌≡◌, ℕ, zero, suc, ◌+◌, ◌<◌, ◌&&◌, ◌||◌, not, Bool, true, false, List, [], ◌∷◌, length, is_some, Some, None, refl, sym, ap, ◌∙◌, subst, arith}
use Rattle.std.specs.Prelude.{IfSome, IsFalse, nat_eq}
use Rattle.std.specs.List.Sorted.{IsStrictlySortedBy}
use Rattle.std.specs.Map.{lookup}
use Rattle.std.proofs.lemmas.Bool.{eq-eqb, true≢false}
use Rattle.std.proofs.lemmas.Map.Entries.{lookup_head}
use Rattle.std.proofs.lemmas.Option.{none-some}
use Rattle.rbd_client.specs.Client.{ClientView}
use Rattle.rbd_client.specs.Sound.{IsSoundClient, IsTelling, IsWellOnWay}
use Rattle.rbd_client.specs.declared.slot_state.SlotState.{SlotState}
use Rattle.rbd_kinds.proofs.Images.{at_itself}
use Rattle.rbd_kinds.specs.declared.id.Instance.{Instance}
use Rattle.rbd_kinds.specs.declared.id.SiteId.{SiteId}
use Rattle.rbd_kinds.specs.declared.id.SiteId.TheVariants as site
use Rattle.rbd_kinds.specs.declared.image_at.ImageAt.{ImageAt}
use Rattle.rbd_kinds.specs.Images.{key_of}
use Rattle.rbd_lock.specs.declared.lock_state.LockState.{LockState}
use Rattle.rbd_lock.specs.declared.noted.Noted.{Noted}
use Rattle.rbd_lock.specs.Locks.{AreImagesInOrder, AreNoted, IsSoundLocks, LocksView, is_blank, lock_state_at, noted_or, with_asked}
use Rattle.rbd_lock.specs.Places.{is_among}
use Rattle.rbd_lock.specs.States.{blank_state as unknown}
use Rattle.rbd_machine.specs.Plan.{Standing}
use Rattle.rbd_queue.specs.Line.{IsFairLine, LineView, member_of}
use Rattle.rbd_slots.specs.Lines.{AreUsed, IsUsed, LinesView, lines_of, members_or}
use Rattle.rbd_slots.specs.Session.{IsLowest, held_in, running_in}
use Rattle.rbd_world.specs.Step.{IsFresh}

-- ---- what it counts of locks

-- each key is that of an image
record IsKey (key : ℕ) : Type 0 where
  at : SiteId
  image : ℕ
  is : key_of at image ≡ key

next_key : (key : ℕ) (s : SiteId) (image : ℕ) → key_of s image ≡ key → IsKey (suc key)
next_key key site.A image is = record { at = site.B; image = image; is = omega (arith, is) }
next_key key site.B image is = record { at = site.A; image = image + 1; is = omega (arith, is) }

is_key : (key : ℕ) → IsKey key
is_key zero = record { at = site.A; image = 0; is = refl }
is_key (suc key) = let before = is_key key in next_key key before.at before.image before.is

-- of whose states all are blank, nobody noted anything
blank_of : (n : Noted) (asked : Bool) → with_asked asked n ≡ unknown → is_blank n ≡ true
blank_of n asked same =
    ap (λ b. not b && (not n.watched && not n.quiesced)) (ap (λ (x : LockState). x.owned) same)
    ∙ ap (λ b. not b && not n.quiesced) (ap (λ (x : LockState). x.watched) same)
    ∙ ap not (ap (λ (x : LockState). x.quiesced) same)

none_noted : (l : LocksView) → AreNoted l.entries → ((s : SiteId) (image : ℕ) → lock_state_at s image l ≡ unknown) → l.entries ≡ []
none_noted l few states = by l.entries refl
  where
    by : (entries : List (ℕ × Noted)) → l.entries ≡ entries → entries ≡ []
    by [] is = refl
    by (e ∷ rest) is = absurd (true≢false (sym blank ∙ told))
      where
        key : IsKey e.0
        key = is_key e.0

        found : lookup (nat_eq e.0) l.entries ≡ Some e.1
        found = ap (lookup (nat_eq e.0)) is ∙ lookup_head (nat_eq e.0) e rest (eq-eqb e.0 e.0 refl)

        blank : is_blank e.1 ≡ true
        blank =
            blank_of e.1 (is_among key.at key.image l.asked)
            (ap (λ o. with_asked (is_among key.at key.image l.asked) (noted_or o)) (sym (ap (λ k. lookup (nat_eq k) l.entries) key.is ∙ found)) ∙ states key.at key.image)

        told : is_blank e.1 ≡ false
        told = subst (λ o. IfSome o (λ n. IsFalse (is_blank n))) found (few e.0)

none_asked : (l : LocksView) → ((s : SiteId) (image : ℕ) → lock_state_at s image l ≡ unknown) → l.asked ≡ []
none_asked l states = by l.asked refl
  where
    by : (places : List ImageAt) → l.asked ≡ places → places ≡ []
    by [] is = refl
    by (p ∷ ps) is =
        absurd (true≢false (sym (ap (λ b. b || is_among p.site p.image ps) (at_itself p.site p.image))
        ∙ sym (ap (is_among p.site p.image) is) ∙ ap (λ (x : LockState). x.asked) (states p.site p.image)))

nothing_counted : (l : LocksView) → l.entries ≡ [] → l.asked ≡ [] → (s : SiteId) (image : ℕ) → lock_state_at s image l ≡ unknown
nothing_counted l noted asked s image =
    ap (λ places. with_asked (is_among s image places) (noted_or (lookup (nat_eq (key_of s image)) l.entries))) asked
    ∙ ap (λ entries. with_asked false (noted_or (lookup (nat_eq (key_of s image)) entries))) noted

sound_locks : (l : LocksView) → l.entries ≡ [] → l.asked ≡ [] → IsSoundLocks l
unfolding IsStrictlySortedBy
sound_locks l noted asked = record {
  owned = λ s image is. absurd (true≢false (sym is ∙ ap (is_among s image) asked));
  order = subst AreImagesInOrder (sym asked) tt;
  few = subst AreNoted (sym noted) (λ key. tt);
}

-- ---- its lines

-- a line that is held has a member, so where nobody is in any line none is held
none_held : (l : LinesView) → AreUsed l.entries → ((s : SiteId) (image : ℕ) → lines_of l s image ≡ []) → l.entries ≡ []
none_held l used none = by l.entries refl
  where
    by : (entries : List (ℕ × LineView)) → l.entries ≡ entries → entries ≡ []
    by [] is = refl
    by (e ∷ rest) is = absurd (omega (arith, some, empty))
      where
        key : IsKey e.0
        key = is_key e.0

        found : lookup (nat_eq e.0) l.entries ≡ Some e.1
        found = ap (lookup (nat_eq e.0)) is ∙ lookup_head (nat_eq e.0) e rest (eq-eqb e.0 e.0 refl)

        empty : length e.1.members ≡ 0
        empty = ap (λ o. length (members_or o)) (sym (ap (λ k. lookup (nat_eq k) l.entries) key.is ∙ found)) ∙ ap length (none key.at key.image)

        some : 0 < length e.1.members
        some = subst IsUsed found (used e.0)

-- ---- the client

module _ {R : Type 0} (who : Instance) (home : SiteId) (c : ClientView R) where
  pub fresh_locks : IsFresh who home c → (s : SiteId) (image : ℕ) → lock_state_at s image c.locks ≡ unknown
  fresh_locks fresh = nothing_counted c.locks fresh.noted fresh.asked

  pub fresh_lines : IsFresh who home c → (s : SiteId) (image : ℕ) → lines_of c.session.lines s image ≡ []
  fresh_lines fresh s image = ap (λ entries. members_or (lookup (nat_eq (key_of s image)) entries)) fresh.lines

  fair_none : IsFairLine []
  fair_none = record { apart = tt; each = tt; passing = tt }

  pub fresh_is_sound : (stands : R → Standing) → IsFresh who home c → IsSoundClient stands c
  fresh_is_sound stands fresh = record {
    session = record {
      slots = fresh.many.0;
      zero = fresh.slots 0;
      lowest = subst (λ n. IsLowest n c.session.slots) (sym fresh.lowest)
          (record { some = omega arith; most = omega arith; below = λ slot from to. absurd (omega (arith, from, to)); free = fresh.slots 1 });
      runs = λ slot r is. absurd (none-some r (sym (ap running_in (fresh.slots slot)) ∙ is));
      asks = λ slot r is. absurd (none-some r (sym (ap running_in (fresh.slots slot)) ∙ is));
      others = λ slot is s image. ap (member_of slot) (fresh_lines fresh s image);
      fair = λ s image. subst IsFairLine (sym (fresh_lines fresh s image)) fair_none;
      used = subst AreUsed (sym fresh.lines) (λ key. tt);
    };
    locks = sound_locks c.locks fresh.noted fresh.asked;
    slots = fresh.many.1;
    free = λ slot is. fresh.states slot;
    ways = λ slot. subst (λ (s : SlotState). IsWellOnWay stands slot s.way c.session c.locks) (sym (fresh.states slot)) tt;
    telling = subst IsTelling (sym fresh.release) tt;
  }

  first_free : (n : ℕ) → IsLowest n c.session.slots → held_in 1 c.session.slots ≡ None → n ≡ 1
  first_free n low none = by n refl
    where
      by : (k : ℕ) → n ≡ k → k ≡ 1
      by zero is = let some = low.some in absurd (omega (arith, some, is))
      by (suc zero) is = refl
      by (suc (suc k)) is = absurd (true≢false (sym (low.below 1 (omega arith) (omega (arith, is))) ∙ ap is_some none))

  -- a sound client without requests, of which nothing is counted
  pub is_fresh : (stands : R → Standing) → IsSoundClient stands c → c.session.instance ≡ who → c.session.home ≡ home → ((slot : ℕ) → held_in slot c.session.slots ≡ None)
      → ((s : SiteId) (image : ℕ) → lines_of c.session.lines s image ≡ []) → ((s : SiteId) (image : ℕ) → lock_state_at s image c.locks ≡ unknown) → c.release ≡ None → c.heard ≡ []
      → IsFresh who home c
  is_fresh stands sound instance at_home slots lines locks release heard = record {
    instance = instance;
    at_home = at_home;
    slots = slots;
    lowest = first_free c.session.lowest sound.session.lowest (slots 1);
    lines = none_held c.session.lines sound.session.used lines;
    states = λ slot. sound.free slot (slots slot);
    many = (sound.session.slots, sound.slots);
    noted = none_noted c.locks sound.locks.few locks;
    asked = none_asked c.locks locks;
    release = release;
    heard = heard;
  }
