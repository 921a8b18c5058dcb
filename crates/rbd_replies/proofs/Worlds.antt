-- Each reply in a world's history is the flat-copy machine's, at its place there; and events are
-- told one by one.
use Rattle.std.proofs.Common.{◌≡◌, ℕ, ◌||◌, true, false, List, [], ◌∷◌, ◌++◌, map, Option, Some, None, refl, sym, ap, subst, ◌∙◌, append_assoc, append-nil}
use Rattle.std.proofs.lemmas.Bool.{eq-eqb}
use Rattle.rbd_flat.specs.declared.effect.Effect.{Effect}
use Rattle.rbd_flat.specs.declared.entry.Cause.{Cause}
use Rattle.rbd_flat.specs.declared.entry.Entry.{Entry}
use Rattle.rbd_flat.specs.declared.entry.Entry.TheVariants as entry
use Rattle.rbd_kinds.specs.declared.id.Instance.{Instance}
use Rattle.rbd_kinds.specs.declared.id.SiteId.{SiteId}
use Rattle.rbd_kinds.specs.declared.reply.Reply.{Reply}
use Rattle.rbd_machine.specs.Plan.{Standing}
use Rattle.rbd_world.specs.Run.{Doer, Itself, OnWay, House, AfterStop, Happening, Nothing, Waited, Began, Did, Refused, Trimmed, Expired, Heard, Stopped, Restarted, Operation, cause_of, ending_entries, entries_of, entry_by, entry_of, entry_unfenced, fence_of, history_of, is_for, reply_entries}
use Rattle.rbd_world.specs.Sound.{EndsItsLine, HasRun, IsOpen, IsReplyMeant, IsRight}
use Rattle.rbd_world.specs.World.{WorldView}
use Rattle.rbd_world.specs.declared.event.Call.{Call}
use Rattle.rbd_replies.proofs.RepliesOf.{reply_at_places, reply_behind}
use Rattle.rbd_replies.specs.Worlds.{AreRepliesOf, AreSteps, BeginsWith, IsReplyBehind}

-- ---- each entry, with those in front of it

abbrev EachBehind : (List Entry → Entry → Type 0) → List Entry → Type 0
EachBehind P [] = Unit {0}
EachBehind P (e ∷ es) = P [] e × EachBehind (λ front x. P (e ∷ front) x) es

behind_all : (P : List Entry → Entry → Type 0) (one two : List Entry) → EachBehind P one → EachBehind (λ front x. P (one ++ front) x) two → EachBehind P (one ++ two)
behind_all P [] two each more = more
behind_all P (e ∷ one) two each more = (each.0, behind_all (λ front x. P (e ∷ front) x) one two each.1 more)

behind_weaker : (P Q : List Entry → Entry → Type 0) → ((front : List Entry) (e : Entry) → P front e → Q front e) → (es : List Entry) → EachBehind P es → EachBehind Q es
behind_weaker P Q then_so [] each = tt
behind_weaker P Q then_so (e ∷ es) each =
    (then_so [] e each.0, behind_weaker (λ front x. P (e ∷ front) x) (λ front x. Q (e ∷ front) x) (λ front x. then_so (e ∷ front) x) es each.1)

at_cut : (P : List Entry → Entry → Type 0) (front after : List Entry) (e : Entry) → EachBehind P (front ++ e ∷ after) → P front e
at_cut P [] after e each = each.0
at_cut P (x ∷ front) after e each = at_cut (λ more y. P (x ∷ more) y) front after e each.1

-- ---- replies

abbrev IsToldIn : List Happening → List Entry → Entry → Type 0
IsToldIn run entries (entry.Reply line reply) = IsReplyBehind run entries line reply
IsToldIn run entries e = Unit {0}

one_more : (h : Happening) (run : List Happening) (entries : List Entry) (e : Entry) → IsToldIn run entries e → IsToldIn (h ∷ run) entries e
one_more h run entries (entry.Reply line reply) told = record {
  gave = told.gave;
  before = told.before;
  later = h ∷ told.later;
  are = ap (λ r. h ∷ r) told.are;
  gives = told.gives;
  last = told.last;
  asked = told.asked;
  begun = told.begun;
  says = told.says;
}
one_more h run entries _ told = tt

unfenced_told : (run : List Happening) (entries : List Entry) (c : Cause) (s : SiteId) (number : ℕ) (effect : Option Effect) → IsToldIn run entries (entry_unfenced c s number effect)
unfenced_told run entries c s number None = tt
unfenced_told run entries c s number (Some e) = tt

operation_told : (run : List Happening) (entries : List Entry) (c : Cause) (s : SiteId) (number : ℕ) (fence : Option Instance) (effect : Option Effect)
    → IsToldIn run entries (entry_by c s number fence effect)
operation_told run entries c s number None effect = unfenced_told run entries c s number effect
operation_told run entries c s number (Some i) effect = tt

-- a command that is refused before any operation
refused_told : (homes : ℕ → SiteId) (s : SiteId) (line : ℕ) (r : Reply) (run : List Happening) → IsRight homes (Refused s line r ∷ run) → IsReplyMeant homes line r run (Refused s line r ∷ run)
    → IsReplyBehind (Refused s line r ∷ run) (history_of run ++ []) line r
refused_told homes s line r run right is = record {
  gave = Refused s line r;
  before = run;
  later = [];
  are = refl;
  gives = (refl, refl);
  last = sym (append_assoc (history_of run) [] (entry.Reply line r ∷ []));
  asked = is.begun.asked;
  begun = is.begun.is;
  says = reply_at_places homes line r run (Refused s line r ∷ run) is.begun.asked right refl is is.begun.is;
}

-- one that comes with an operation
told_with : (homes : ℕ → SiteId) (line : ℕ) (o : Operation) (r : Reply) (run : List Happening) → IsRight homes (Did o (Some r) ∷ run) → is_for line o.by ≡ true → IsOpen line run
    → ending_entries o.by (Some r) ≡ reply_entries line (Some r)
    → IsReplyBehind (Did o (Some r) ∷ run) (history_of run ++ entry_of o ∷ []) line r
told_with homes line o r run right mine begun ends = record {
  gave = Did o (Some r);
  before = run;
  later = [];
  are = refl;
  gives = (mine, refl);
  last = ap (λ es. history_of run ++ entry_of o ∷ es) ends ∙ sym (append_assoc (history_of run) (entry_of o ∷ []) (entry.Reply line r ∷ []));
  asked = begun.asked;
  begun = begun.is;
  says = reply_behind homes line o r run begun.asked right mine begun.is;
}

itself : (line : ℕ) → is_for line (Itself line) ≡ true
itself line = ap (λ b. b || false) (eq-eqb line line refl)

-- the entries of a happening, behind those of the run before
abbrev ToldHere : (h : Happening) (run : List Happening) → List Entry → Entry → Type 0
ToldHere h run front e = IsToldIn (h ∷ run) (history_of run ++ front) e

ending_told : (homes : ℕ → SiteId) (o : Operation) (r : Reply) (run : List Happening) → IsRight homes (Did o (Some r) ∷ run) → (doer : Doer) → o.by ≡ doer → EndsItsLine homes o r run doer
    → EachBehind (λ front e. ToldHere (Did o (Some r)) run (entry_of o ∷ front) e) (ending_entries doer (Some r))
ending_told homes o r run right (Itself line) is ends =
    (told_with homes line o r run right (ap (is_for line) is ∙ itself line) ends.begun (ap (λ d. ending_entries d (Some r)) is), tt)
ending_told homes o r run right (OnWay line) is ends =
    (told_with homes line o r run right (ap (is_for line) is ∙ eq-eqb line line refl) ends.begun (ap (λ d. ending_entries d (Some r)) is), tt)
ending_told homes o r run right House is ends = absurd ends
ending_told homes o r run right (AfterStop slot) is ends = absurd ends

no_ending : (P : List Entry → Entry → Type 0) (doer : Doer) → EachBehind P (ending_entries doer None)
no_ending P (Itself line) = tt
no_ending P (OnWay line) = tt
no_ending P House = tt
no_ending P (AfterStop slot) = tt

lost_told : (P : List Entry → Entry → Type 0) → ((front : List Entry) (line : ℕ) → P front (entry.Lost line)) → (lost : List ℕ) → EachBehind P (map entry.Lost lost)
lost_told P each [] = tt
lost_told P each (line ∷ lost) = (each [] line, lost_told (λ front e. P (entry.Lost line ∷ front) e) (λ front other. each (entry.Lost line ∷ front) other) lost)

told_here : (homes : ℕ → SiteId) (h : Happening) (run : List Happening) → IsRight homes (h ∷ run) → EachBehind (ToldHere h run) (entries_of h)
told_here homes (Began asked slot) run right = (tt, tt)
told_here homes (Did o None) run right = (
  operation_told (Did o None ∷ run) (history_of run ++ []) (cause_of o.instance o.by) o.site o.number (fence_of o.op o.answer) o.effect,
  no_ending (λ front e. ToldHere (Did o None) run (entry_of o ∷ front) e) o.by,
)
told_here homes (Did o (Some reply)) run right = (
  operation_told (Did o (Some reply) ∷ run) (history_of run ++ []) (cause_of o.instance o.by) o.site o.number (fence_of o.op o.answer) o.effect,
  ending_told homes o reply run right o.by refl right.1.1,
)
told_here homes (Refused s line reply) run right = (refused_told homes s line reply run right right.1, tt)
told_here homes Nothing run right = tt
told_here homes Waited run right = tt
told_here homes (Trimmed s number image object) run right = tt
told_here homes (Expired s number image who) run right = tt
told_here homes (Heard notice) run right = tt
told_here homes (Stopped who wanted lost) run right =
    (tt, lost_told (λ front e. ToldHere (Stopped who wanted lost) run (entry.Stop who.session ∷ front) e) (λ front line. tt) lost)
told_here homes (Restarted who) run right = tt

told_in_run : (homes : ℕ → SiteId) (run : List Happening) → IsRight homes run → EachBehind (IsToldIn run) (history_of run)
told_in_run homes [] right = tt
told_in_run homes (h ∷ run) right =
    behind_all (IsToldIn (h ∷ run)) (history_of run) (entries_of h)
    (behind_weaker (IsToldIn run) (IsToldIn (h ∷ run)) (one_more h run) (history_of run) (told_in_run homes run right.2))
    (told_here homes h run right)

pub replies_of_run : (homes : ℕ → SiteId) (run : List Happening) → IsRight homes run → AreRepliesOf run (history_of run)
replies_of_run homes run right entries after line reply is =
    at_cut (IsToldIn run) entries after (entry.Reply line reply) (subst (EachBehind (IsToldIn run)) is (told_in_run homes run right))

pub told_in_world : {R : Type 0} (w : WorldView R) (told : HasRun w) → AreRepliesOf told.run w.history
told_in_world w told = subst (AreRepliesOf told.run) (sym told.history) (replies_of_run told.homes told.run told.right)

-- ---- events

module _ {R : Type 0} (stands : R → Standing) where
  pub calls_are_events : (calls : List Call) (old new : WorldView R) → AreSteps stands calls old new → new.calls ≡ old.calls ++ calls
  calls_are_events [] old new same = ap (λ (w : WorldView R). w.calls) same ∙ sym (append-nil old.calls)
  calls_are_events (c ∷ calls) old new (next, (came, does), steps) =
      calls_are_events calls next new steps
      ∙ ap (λ some. some ++ calls) (does.calls ∙ ap (λ outcome. old.calls ++ record { event = c.event; outcome = outcome } ∷ []) (sym came))
      ∙ append_assoc old.calls (c ∷ []) calls

  pub history_begins_with : (calls : List Call) (old new : WorldView R) → AreSteps stands calls old new → BeginsWith old.history new.history
  history_begins_with [] old new same = record { more = []; are = ap (λ (w : WorldView R). w.history) same ∙ sym (append-nil old.history) }
  history_begins_with (c ∷ calls) old new (next, (came, does), steps) =
      let rest = history_begins_with calls next new steps in
      record {
        more = entries_of _ ++ rest.more;
        are = rest.are ∙ ap (λ some. some ++ rest.more) does.history ∙ append_assoc old.history (entries_of _) rest.more;
      }
