-- Plans that are refused by their last answer alone, step by step.
use Rattle.std.proofs.Common.{◌≡◌, ◌∙◌, ◌⊎◌, inl, inr, ℕ, List, [], ◌∷◌, ◌++◌, Bool, true, false, cond, Option, Some, None, refl, ap, sym, subst}
use Rattle.rbd_kinds.specs.declared.sharing.Sharing.{Sharing}
use Rattle.rbd_kinds.specs.declared.answer.Answer.{Answer}
use Rattle.rbd_kinds.specs.declared.answer.Answer.TheVariants as answer
use Rattle.rbd_kinds.specs.declared.directory_op.DirectoryOp.TheVariants as directory
use Rattle.rbd_kinds.specs.declared.header.HeaderView.{HeaderView}
use Rattle.rbd_kinds.specs.declared.header_op.HeaderOp.TheVariants as header
use Rattle.rbd_kinds.specs.declared.id.SiteId.{SiteId}
use Rattle.rbd_kinds.specs.declared.machine.Fed.{Fed}
use Rattle.rbd_kinds.specs.declared.machine.Fed.TheVariants as fed
use Rattle.rbd_kinds.specs.declared.operation.Op.{Op}
use Rattle.rbd_kinds.specs.declared.operation.Op.TheVariants as op
use Rattle.rbd_commands.specs.declared.refusal.Refusal.{Refusal}
use Rattle.rbd_commands.specs.declared.refusal.Refusal.TheVariants as refusal
use Rattle.rbd_kinds.specs.declared.reply.Reply.{Reply}
use Rattle.rbd_kinds.specs.declared.reply.Reply.TheVariants as reply
use Rattle.rbd_machine.specs.About.{IsOfOwn, image_of, owned_after, owned_behind}
use Rattle.rbd_machine.specs.Ancestors.{IsAmong}
use Rattle.rbd_machine.specs.Knowledge.{ImagePlace}
use Rattle.rbd_machine.specs.Path.{Answered, IsWalk}
use Rattle.rbd_machine.specs.Plan.{Plan, Ask, Await, Note, Return, Goto, IsLive, past_label}
use Rattle.rbd_machine.specs.Refused.{refusal_by, only_looks, IsGiven, AreGiven, IsRefusedBy, IsRefusedWith, MayRefuse}
use Rattle.rbd_machine.specs.Steps.{unless, on_id, on_header, change_plan, joining, looked, holding, owned}
use Rattle.rbd_machine.proofs.Settled.{settled_goto}
use Rattle.rbd_machine.proofs.Walked.{ended, jump_ends_otherwise}

-- whether something was changed, once an operation is done
abbrev pub changed_by : Bool → Op → Bool
changed_by changed o = cond (only_looks o) changed true

-- ---- whose answers refuse

module _ (refuses : HeaderView → Option Refusal) (late : Refusal → Type 0) where
  -- those of an own image
  pub own_refuses : (steps : List Answered) (x : Refusal) (by : IsRefusedBy refuses late steps x) (image : ℕ) → (by.last.answer ≡ answer.Fenced → ⊥) → image_of by.last.op ≡ Some image
      → IsAmong (record { site = by.last.site; image = image }) (owned_behind [] by.before)
  own_refuses steps x by image unfenced is = go by.own
    where
      go : MayRefuse (owned_behind [] by.before) by.last → IsAmong (record { site = by.last.site; image = image }) (owned_behind [] by.before)
      go (inl fenced) = absurd (unfenced fenced)
      go (inr own) = subst (IsOfOwn (owned_behind [] by.before) by.last.site) is own

  -- and no other's
  pub refused_behind_another : (images : List ImagePlace) (steps : List Answered) (x : Refusal) (site : SiteId) (image : ℕ) (a : Answer)
      → (a ≡ answer.Fenced → ⊥) → (IsAmong (record { site = site; image = image }) images → ⊥) → IsRefusedWith images refuses late steps x
      → IsRefusedWith images refuses late (record { site = site; op = op.Header image header.Get; answer = a } ∷ steps) x
  refused_behind_another images steps x site image a unfenced other by = record {
    before = record { site = site; op = op.Header image header.Get; answer = a } ∷ by.before;
    last = by.last;
    are = ap (λ s. record { site = site; op = op.Header image header.Get; answer = a } ∷ s) by.are;
    own = by.own;
    refused = by.refused;
    allowed = (refuses_not, by.allowed);
    unchanged = λ not_late. (refl, by.unchanged not_late);
  }
    where
      refuses_not : MayRefuse images (record { site = site; op = op.Header image header.Get; answer = a }) → refusal_by refuses (op.Header image header.Get) a ≡ None
      refuses_not (inl fenced) = absurd (unfenced fenced)
      refuses_not (inr own) = absurd (other own)

-- ---- plans

-- the one image that a request has as its own, once it found or made it
abbrev pub only_image : SiteId → (image : ℕ) → List ImagePlace
only_image site image = record { site = site; image = image } ∷ []

-- an answer that ends the request refused
pub record EndsRefused (refuses : HeaderView → Option Refusal) (late : Refusal → Type 0) (images : List ImagePlace) (changed : Bool) (site : SiteId) (o : Op) (a : Answer) (next : Plan) : Type 0 where
  pub why : Refusal
  pub own : MayRefuse images (record { site = site; op = o; answer = a })
  pub is : refusal_by refuses o a ≡ Some why
  pub ends : next ≡ Return (reply.Refused why)
  pub comes : changed ≡ true → late why

module _ (refuses : HeaderView → Option Refusal) (late : Refusal → Type 0) (grants : Reply → Type 0) where
  -- Each answer refuses it, or it goes on, and then the answer refuses nothing; where it isn't
  -- refused it grants a reply.
  abbrev pub IsRefusing : List ImagePlace → Bool → Plan → Type 0
  IsRefusing images changed (Ask site why o next) =
      (a : Answer) → IsGiven o a
      → EndsRefused refuses late images changed site o a (next a)
      ⊎ ((IsLive (next a) → MayRefuse images (record { site = site; op = o; answer = a }) → refusal_by refuses o a ≡ None) × IsRefusing (owned_after images site o a) (changed_by changed o) (next a))
  IsRefusing images changed (Await wait next) = IsRefusing images changed next
  IsRefusing images changed (Note site image event next) = IsRefusing images changed next
  IsRefusing images changed (Return r) = grants r
  IsRefusing images changed (Goto label) = Unit {0}

  -- one answer of these
  abbrev pub Answers : List ImagePlace → Bool → SiteId → (o : Op) → (a : Answer) → (next : Plan) → Type 0
  Answers images changed site o a next =
      EndsRefused refuses late images changed site o a next
      ⊎ ((IsLive next → MayRefuse images (record { site = site; op = o; answer = a }) → refusal_by refuses o a ≡ None) × IsRefusing (owned_after images site o a) (changed_by changed o) next)

  -- ---- where its walks end

  pub record RefusedFrom (images : List ImagePlace) (changed : Bool) (steps : List Answered) (x : Refusal) : Type 0 where
    pub by : IsRefusedWith images refuses late steps x
    pub comes : changed ≡ true → late x

  -- it grants the reply, or was refused
  abbrev pub EndsBy : List ImagePlace → Bool → List Answered → Reply → Type 0
  EndsBy images changed steps r = grants r ⊎ ((x : Refusal) × (r ≡ reply.Refused x) × RefusedFrom images changed steps x)

  one_more : (images : List ImagePlace) (changed : Bool) (site : SiteId) (o : Op) (a : Answer) (rest : List Answered) (x : Refusal)
      → (MayRefuse images (record { site = site; op = o; answer = a }) → refusal_by refuses o a ≡ None)
      → RefusedFrom (owned_after images site o a) (changed_by changed o) rest x → RefusedFrom images changed (record { site = site; op = o; answer = a } ∷ rest) x
  one_more images changed site o a rest x allowed from = record {
    by = record {
      before = record { site = site; op = o; answer = a } ∷ from.by.before;
      last = from.by.last;
      are = ap (λ s. record { site = site; op = o; answer = a } ∷ s) from.by.are;
      own = from.by.own;
      refused = from.by.refused;
      allowed = (allowed, from.by.allowed);
      unchanged = λ not_late. (looks not_late (only_looks o) refl, from.by.unchanged not_late);
    };
    comes = λ was. from.comes (still was (only_looks o));
  }
    where
      looks : (late x → ⊥) → (b : Bool) → only_looks o ≡ b → only_looks o ≡ true
      looks not_late true is = is
      looks not_late false is = absurd (not_late (from.comes (ap (λ b. cond b changed true) is)))

      still : changed ≡ true → (b : Bool) → cond b changed true ≡ true
      still was true = was
      still was false = refl

  -- a plan that has operations left hasn't ended
  is_live : (next : Plan) (feds : List Fed) (rest before : List Answered) (last : Answered) (r : Reply)
      → IsWalk Goto (past_label Goto next) feds rest (Return r) → rest ≡ before ++ last ∷ [] → IsLive next
  is_live (Ask site why o next) feds rest before last r walk are = tt
  is_live (Await wait next) feds rest before last r walk are = tt
  is_live (Note site image event next) feds rest before last r walk are = tt
  is_live (Return s) feds rest before last r walk are = none before (sym (ended s feds rest (Return r) walk).0 ∙ are)
    where
      none : (before : List Answered) → [] ≡ before ++ last ∷ [] → ⊥
      none [] same = cc
      none (step ∷ before) same = cc
  is_live (Goto label) feds rest before last r walk are = jump_ends_otherwise r label feds rest walk

  step_more : (images : List ImagePlace) (changed : Bool) (site : SiteId) (o : Op) (a : Answer) (next : Plan) (feds : List Fed) (rest : List Answered) (r : Reply)
      → (IsLive next → MayRefuse images (record { site = site; op = o; answer = a }) → refusal_by refuses o a ≡ None) → IsWalk Goto (past_label Goto next) feds rest (Return r)
      → EndsBy (owned_after images site o a) (changed_by changed o) rest r → EndsBy images changed (record { site = site; op = o; answer = a } ∷ rest) r
  step_more images changed site o a next feds rest r allowed walk (inl granted) = inl granted
  step_more images changed site o a next feds rest r allowed walk (inr (x, is, from)) =
      inr (x, is, one_more images changed site o a rest x (allowed (is_live next feds rest from.by.before from.by.last r walk from.by.are)) from)

  refusing_settled : (images : List ImagePlace) (changed : Bool) (plan : Plan) → IsRefusing images changed plan → IsRefusing images changed (past_label Goto plan)
  refusing_settled images changed plan is = subst (IsRefusing images changed) (sym (settled_goto plan)) is

  at_last : (images : List ImagePlace) (changed : Bool) (site : SiteId) (o : Op) (a : Answer) (next : Plan) (feds : List Fed) (rest : List Answered) (r : Reply)
      → EndsRefused refuses late images changed site o a next → IsWalk Goto (past_label Goto next) feds rest (Return r) → EndsBy images changed (record { site = site; op = o; answer = a } ∷ rest) r
  at_last images changed site o a next feds rest r is walk =
      let end = ended (reply.Refused is.why) feds rest (Return r) (subst (λ p. IsWalk Goto (past_label Goto p) feds rest (Return r)) is.ends walk) in
      let none : rest ≡ [] = end.0 in
      let same : Return r ≡ Return (reply.Refused is.why) = end.1 in
      inr (
        is.why,
        (let e : r ≡ reply.Refused is.why = cc in e),
        record {
          by = record {
            before = [];
            last = record { site = site; op = o; answer = a };
            are = ap (λ s. record { site = site; op = o; answer = a } ∷ s) none;
            own = is.own;
            refused = is.is;
            allowed = tt;
            unchanged = λ not_late. tt;
          };
          comes = is.comes;
        },
      )

  answered : (images : List ImagePlace) (changed : Bool) (site : SiteId) (o : Op) (a : Answer) (next : Plan) (feds : List Fed) (rest : List Answered) (r : Reply)
      → (IsRefusing (owned_after images site o a) (changed_by changed o) next → EndsBy (owned_after images site o a) (changed_by changed o) rest r) → IsWalk Goto (past_label Goto next) feds rest (Return r)
      → Answers images changed site o a next → EndsBy images changed (record { site = site; op = o; answer = a } ∷ rest) r
  answered images changed site o a next feds rest r on walk (inl is) = at_last images changed site o a next feds rest r is walk
  answered images changed site o a next feds rest r on walk (inr (allowed, goes_on)) = step_more images changed site o a next feds rest r allowed walk (on goes_on)

  pub ends_by : (feds : List Fed) (images : List ImagePlace) (changed : Bool) (plan : Plan) (steps : List Answered) (r : Reply)
      → IsRefusing images changed plan → AreGiven steps → IsWalk Goto plan feds steps (Return r) → EndsBy images changed steps r
  ends_by [] images changed (Return s) steps r is given walk = inl (let same : Return r ≡ Return s = walk.1 in subst grants (let e : s ≡ r = cc in e) is)
  ends_by [] images changed (Ask site why o next) steps r is given walk = let same = walk.1 in cc
  ends_by [] images changed (Await wait next) steps r is given walk = let same = walk.1 in cc
  ends_by [] images changed (Note site image event next) steps r is given walk = let same = walk.1 in cc
  ends_by [] images changed (Goto label) steps r is given walk = let same = walk.1 in cc
  ends_by (fed.Answer a ∷ more) images changed (Ask site why o next) steps r is given (first, walk) =
      let given' : AreGiven (record { site = site; op = o; answer = a } ∷ first.rest) = subst AreGiven first.is given in
      subst (λ s. EndsBy images changed s r) (sym first.is)
      (answered images changed site o a (next a) more first.rest r
      (λ goes_on. ends_by more (owned_after images site o a) (changed_by changed o) (past_label Goto (next a)) first.rest r (refusing_settled (owned_after images site o a) (changed_by changed o) (next a) goes_on) given'.1 walk) walk (is a given'.0))
  ends_by (fed.Passed ∷ more) images changed (Ask site why o next) steps r is given walk = absurd walk
  ends_by (fed.Passed ∷ more) images changed (Await wait next) steps r is given walk =
      ends_by more images changed (past_label Goto next) steps r (refusing_settled images changed next is) given walk
  ends_by (fed.Answer a ∷ more) images changed (Await wait next) steps r is given walk = absurd walk
  ends_by (fed.Passed ∷ more) images changed (Note site image event next) steps r is given walk =
      ends_by more images changed (past_label Goto next) steps r (refusing_settled images changed next is) given walk
  ends_by (fed.Answer a ∷ more) images changed (Note site image event next) steps r is given walk = absurd walk
  ends_by (f ∷ more) images changed (Return s) steps r is given walk = absurd walk
  ends_by (f ∷ more) images changed (Goto label) steps r is given walk = absurd walk

  -- ---- steps

  pub refusing_find : (site : SiteId) (name : List ℕ) (next : ℕ → Plan) → ((image : ℕ) → IsRefusing (only_image site image) false (next image)) → (a : Answer) → IsGiven (op.Directory (directory.Find name)) a
      → Answers [] false site (op.Directory (directory.Find name)) a (on_id next a)
  refusing_find site name next goes_on (answer.Id image) can = inr (λ live may. refl, goes_on image)
  refusing_find site name next goes_on answer.Absent can = inl (record { why = refusal.NoImage; own = inr tt; is = refl; ends = refl; comes = λ was. cc })
  refusing_find site name next goes_on answer.Fenced can = inl (record { why = refusal.Fenced; own = inl refl; is = refl; ends = refl; comes = λ was. cc })
  refusing_find site name next goes_on _ can = let no = can.can.word in cc

  pub refusing_look : (site : SiteId) (image : ℕ) (next : HeaderView → Plan)
      → ((h : HeaderView) → Answers (only_image site image) false site (op.Header image header.Get) (answer.Header h) (next h))
      → (a : Answer) → IsGiven (op.Header image header.Get) a → Answers (only_image site image) false site (op.Header image header.Get) a (on_header next a)
  refusing_look site image next goes_on (answer.Header h) can = goes_on h
  refusing_look site image next goes_on answer.Absent can = inl (record { why = refusal.NoImage; own = inr (inl refl); is = refl; ends = refl; comes = λ was. cc })
  refusing_look site image next goes_on answer.Fenced can = inl (record { why = refusal.Fenced; own = inl refl; is = refl; ends = refl; comes = λ was. cc })
  refusing_look site image next goes_on _ can = let no = can.can.word in cc

  pub refusing_header : (site : SiteId) (image : ℕ) (h : HeaderView) (r : Option Refusal) (next : Plan) → refuses h ≡ r → (refuses h ≡ None → IsRefusing (only_image site image) false next)
      → Answers (only_image site image) false site (op.Header image header.Get) (answer.Header h) (unless r next)
  refusing_header site image h None next is goes_on = inr (λ live may. is, goes_on is)
  refusing_header site image h (Some x) next is goes_on = inl (record { why = x; own = inr (inl refl); is = is; ends = refl; comes = λ was. cc })

  pub refusing_change : (site : SiteId) (name : List ℕ) (sharing : Sharing) (act : ℕ → HeaderView → Plan)
      → ((image : ℕ) (h : HeaderView) → refuses h ≡ None → IsRefusing (only_image site image) false (act image h)) → IsRefusing [] false (change_plan site name sharing refuses act)
  refusing_change site name sharing act acts =
      refusing_find site name (joining site sharing refuses act) (λ image.
      refusing_look site image (looked site refuses act image) (λ h.
      refusing_header site image h (refuses h) (holding site refuses act image) refl (λ may_wait.
      refusing_look site image (owned refuses act image) (λ own.
      refusing_header site image own (refuses own) (act image own) refl (λ may. acts image own may)))))
