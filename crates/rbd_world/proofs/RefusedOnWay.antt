-- A request that is refused on its way to the lock is refused as its look under the lock would be.
use Rattle.std.proofs.Common.{◌≡◌, ◌⊎◌, inl, inr, ℕ, Bool, true, false, cond, List, [], ◌∷◌, ◌++◌, Some, refl, sym, ap, ◌∙◌, subst}
use Rattle.std.proofs.lemmas.Bool.{true≢false}
use Rattle.std.proofs.lemmas.Option.{none-some, same_Some}
use Rattle.rbd_client.specs.Sound.{WaitsForLook}
use Rattle.rbd_commands.specs.declared.command.Command.{Command}
use Rattle.rbd_kinds.specs.declared.answer.Answer.{Answer}
use Rattle.rbd_kinds.specs.declared.answer.Answer.TheVariants as answer
use Rattle.rbd_kinds.specs.declared.directory_op.DirectoryOp.TheVariants as directory
use Rattle.rbd_kinds.specs.declared.children_op.ChildrenOp.TheVariants as children
use Rattle.rbd_kinds.specs.declared.data_op.DataOp.TheVariants as object
use Rattle.rbd_kinds.specs.declared.map_op.MapOp.TheVariants as map
use Rattle.rbd_kinds.specs.declared.journal_op.JournalOp.TheVariants as journal
use Rattle.rbd_kinds.specs.declared.header_op.HeaderOp.TheVariants as header
use Rattle.rbd_kinds.specs.declared.id.Instance.{Instance}
use Rattle.rbd_kinds.specs.declared.id.SiteId.{SiteId}
use Rattle.rbd_kinds.specs.declared.image_at.ImageAt.{ImageAt}
use Rattle.rbd_kinds.specs.declared.machine.Fed.TheVariants as fed
use Rattle.rbd_kinds.specs.declared.operation.Op.TheVariants as op
use Rattle.rbd_kinds.specs.declared.reply.Reply.{Reply}
use Rattle.rbd_catalog.specs.Profile.{joins_a_line, profile}
use Rattle.rbd_knowledge.proofs.NoReads.{changes_are_no_reads}
use Rattle.rbd_machine.specs.Answers.{CanGive, gives}
use Rattle.rbd_machine.specs.Knowledge.{same_site}
use Rattle.rbd_machine.specs.Label.{Label, Lock}
use Rattle.rbd_machine.specs.Path.{IsWalk, at_operation}
use Rattle.rbd_machine.specs.Plan.{Plan, Ask, Await, Note, Return, Goto, Standing, plan_after}
use Rattle.rbd_machine.specs.Refused.{IsGiven}
use Rattle.rbd_machine.specs.Steps.{EndsIt, not_there}
use Rattle.rbd_machine.specs.declared.reason.Reason.{Reason}
use Rattle.rbd_machine.specs.declared.seat.Seat.{Seat}
use Rattle.rbd_meaning.specs.Meant.{IsMeantBy}
use Rattle.rbd_lock.specs.Acquire.{asking, fencing, op_at_stage, op_of, rest_at}
use Rattle.rbd_lock.specs.Steps.{is_instance_among}
use Rattle.rbd_lock.specs.declared.acquire.Acquire.{Acquire}
use Rattle.rbd_lock.specs.declared.acquire.Stage.{Stage}
use Rattle.rbd_lock.specs.declared.acquire.Stage.TheVariants as stage
use Rattle.rbd_catalog.specs.Looking.{is_read}
use Rattle.rbd_catalog.specs.CommandsMeant.{command_is_meant}
use Rattle.rbd_catalog.proofs.Looks.{looks_refuse}
use Rattle.rbd_slots.specs.declared.running.Running.{Running}
use Rattle.rbd_slots.specs.Session.{SessionView, is_look_at, kind_asked, running_at}
use Rattle.rbd_world.specs.Run.{Happening, Operation, step_of, steps_of, way_of}
use Rattle.rbd_world.specs.Seats.{seat_at}
use Rattle.rbd_world.specs.Sound.{IsLedTo, IsRefusedOnWay, IsUnderWay, look_answered}
use Rattle.rbd_world.specs.Step.{reply_at, reply_on_way}
use Rattle.rbd_world.specs.Ways.{WasRefused}
use Rattle.rbd_world.proofs.BothSites.{this_or_other}
use Rattle.rbd_machine.specs.Standalone.{TellsStandalone}
use Rattle.rbd_world.proofs.Walks.{IsLed, given_more, led_on, standalone_more}

-- ---- what ends a way

record EndsSo (told : Answer) (reply : Reply) : Type 0 where
  tells : EndsIt told
  refuses : not_there told ≡ Return reply

ends_so : (told : Answer) (reply : Reply) → EndsIt told → reply_at (not_there told) ≡ Some reply → EndsSo told reply
ends_so answer.Absent reply tells is = record { tells = tt; refuses = ap Return (same_Some _ reply is) }
ends_so answer.Fenced reply tells is = record { tells = tt; refuses = ap Return (same_Some _ reply is) }
ends_so _ reply tells is = absurd tells

way_ends : (s : Stage) (site : SiteId) (image : ℕ) (told : Answer) (reply : Reply) → gives (op_at_stage s image) told ≡ true
    → reply_at (plan_after (rest_at s site image (Goto Lock)) (fed.Answer told)) ≡ Some reply → EndsSo told reply
way_ends stage.Watching site image answer.Done reply word is = absurd (none-some reply is)
way_ends stage.Watching site image answer.Absent reply word is = ends_so answer.Absent reply tt is
way_ends stage.Watching site image answer.Fenced reply word is = ends_so answer.Fenced reply tt is
way_ends stage.Watching site image _ reply word is = absurd (true≢false (sym word))
way_ends stage.Taking site image answer.Done reply word is = absurd (none-some reply is)
way_ends stage.Taking site image (answer.Held owner) reply word is = absurd (none-some reply is)
way_ends stage.Taking site image answer.Absent reply word is = ends_so answer.Absent reply tt is
way_ends stage.Taking site image answer.Fenced reply word is = ends_so answer.Fenced reply tt is
way_ends stage.Taking site image _ reply word is = absurd (true≢false (sym word))
way_ends (stage.Looking owner) site image (answer.Instances watchers) reply word is = by (is_instance_among watchers owner) is
  where
    by : (b : Bool) → reply_at (cond b (asking site image) (fencing site image owner)) ≡ Some reply → EndsSo (answer.Instances watchers) reply
    by true is = absurd (none-some reply is)
    by false is = absurd (none-some reply is)
way_ends (stage.Looking owner) site image answer.Absent reply word is = ends_so answer.Absent reply tt is
way_ends (stage.Looking owner) site image answer.Fenced reply word is = ends_so answer.Fenced reply tt is
way_ends (stage.Looking owner) site image _ reply word is = absurd (true≢false (sym word))
way_ends stage.Asking site image answer.Done reply word is = absurd (none-some reply is)
way_ends stage.Asking site image answer.Absent reply word is = ends_so answer.Absent reply tt is
way_ends stage.Asking site image answer.Fenced reply word is = ends_so answer.Fenced reply tt is
way_ends stage.Asking site image _ reply word is = absurd (true≢false (sym word))
way_ends (stage.Fencing owner) site image answer.Done reply word is = absurd (none-some reply is)
way_ends (stage.Fencing owner) site image answer.Fenced reply word is = ends_so answer.Fenced reply tt is
way_ends (stage.Fencing owner) site image _ reply word is = absurd (true≢false (sym word))
way_ends (stage.Breaking owner) site image answer.Done reply word is = absurd (none-some reply is)
way_ends (stage.Breaking owner) site image answer.Changed reply word is = absurd (none-some reply is)
way_ends (stage.Breaking owner) site image answer.Absent reply word is = ends_so answer.Absent reply tt is
way_ends (stage.Breaking owner) site image answer.Fenced reply word is = ends_so answer.Fenced reply tt is
way_ends (stage.Breaking owner) site image _ reply word is = absurd (true≢false (sym word))

-- a look can be told so too
look_can : (image : ℕ) (told : Answer) → EndsIt told → IsGiven (op.Header image header.Get) told
look_can image answer.Absent tells = record { can = record { word = refl; form = tt }; finds = refl }
look_can image answer.Fenced tells = record { can = record { word = refl; form = tt }; finds = refl }
look_can image _ tells = absurd tells

ends_there : (labels : Label → Plan) (p : Plan) (reply : Reply) → p ≡ Return reply → at_operation labels p ≡ Return reply
ends_there labels p reply is = ap (at_operation labels) is

-- ---- the look that stands behind the way

pub record LooksAt (site : SiteId) (p : Plan) : Type 0 where
  pub why : Reason
  pub image : ℕ
  pub next : Answer → Plan
  pub is : p ≡ Ask site why (op.Header image header.Get) next

pub looks_at : (site : SiteId) (p : Plan) → is_look_at site (kind_asked p) ≡ true → LooksAt site p
looks_at site (Ask s why (op.Header image header.Get) next) is = by (this_or_other site s)
  where
    by : (s ≡ site) ⊎ (same_site site s ≡ false) → LooksAt site (Ask s why (op.Header image header.Get) next)
    by (inl same) = record { why = why; image = image; next = next; is = ap (λ t. Ask t why (op.Header image header.Get) next) same }
    by (inr differ) = absurd (true≢false (sym is ∙ differ))
looks_at site (Ask s why (op.Header image _) next) is = absurd (true≢false (sym is))
looks_at site (Ask s why (op.Directory directory.List) next) is = absurd (true≢false (sym is))
looks_at site (Ask s why (op.Directory _) next) is = absurd (true≢false (sym is))
looks_at site (Ask s why (op.Children (children.List parent snap)) next) is = absurd (true≢false (sym is))
looks_at site (Ask s why (op.Children _) next) is = absurd (true≢false (sym is))
looks_at site (Ask s why (op.BlockAdd instance) next) is = absurd (true≢false (sym is))
looks_at site (Ask s why (op.Data i n (object.CopyUp bytes)) next) is = absurd (true≢false (sym is))
looks_at site (Ask s why (op.Data i n _) next) is = absurd (true≢false (sym is))
looks_at site (Ask s why (op.Map i (map.Resize count)) next) is = absurd (true≢false (sym is))
looks_at site (Ask s why (op.Map i _) next) is = absurd (true≢false (sym is))
looks_at site (Ask s why (op.Journal i journal.Tag) next) is = absurd (true≢false (sym is))
looks_at site (Ask s why (op.Journal i _) next) is = absurd (true≢false (sym is))
looks_at site (Await wait next) is = absurd (true≢false (sym is))
looks_at site (Note s image event next) is = absurd (true≢false (sym is))
looks_at site (Return reply) is = absurd (true≢false (sym is))
looks_at site (Goto label) is = absurd (true≢false (sym is))

-- what isn't there, or is fenced, tells no header
ends_alone : (a : Answer) → EndsIt a → TellsStandalone a
ends_alone answer.Absent ends = tt
ends_alone answer.Fenced ends = tt
ends_alone _ ends = absurd ends

-- who has a place in a line is no read
pub reads_not : {R : Type 0} (stands : R → Standing) (seat : Seat) (who : Instance) (run : List Happening) (r : Running R) (way : IsUnderWay stands seat who run r) (p : ImageAt) → r.place ≡ Some p
    → is_read way.begun.asked.command ≡ false
reads_not stands seat who run r way p place = by (joins_a_line (profile way.begun.asked.command)) refl
  where
    by : (b : Bool) → joins_a_line (profile way.begun.asked.command) ≡ b → is_read way.begun.asked.command ≡ false
    by true is = changes_are_no_reads way.begun.asked.command is
    by false is = absurd (none-some p (sym (way.calm is).1 ∙ place))

module _ {R : Type 0} (stands : R → Standing) (homes : ℕ → SiteId) (session slot : ℕ) (run : List Happening) (me : Instance) (whose : me.session ≡ session) (c : SessionView R) (r : Running R)
    (runs : running_at slot c ≡ Some r) (way : IsUnderWay stands (seat_at homes session) me run r) (a : Acquire) (waiting : WaitsForLook stands slot a.site a.image c)
    (o : Operation) (site_is : o.site ≡ a.site) (can : CanGive (op_of a) o.answer) (reply : Reply) (ends : reply_on_way a o.answer ≡ Some reply) where
  abbrev command_is : Command
  command_is = way.begun.asked.command

  same : waiting.request ≡ r
  same = same_Some waiting.request r (sym waiting.runs ∙ runs)

  ended : EndsSo o.answer reply
  ended = way_ends a.stage a.site a.image o.answer reply can.word ends

  wants_look : is_look_at a.site (kind_asked (stands r.request).plan) ≡ true
  wants_look = subst (λ (q : Running R). is_look_at a.site (kind_asked (stands q.request).plan) ≡ true) same waiting.wants

  look : LooksAt a.site (stands r.request).plan
  look = looks_at a.site (stands r.request).plan wants_look

  is_no_read : is_read command_is ≡ false
  is_no_read = reads_not stands (seat_at homes session) me run r way _ (ap (λ (q : Running R). q.place) (sym same) ∙ waiting.place)

  session_is : way.begun.asked.who.session ≡ session
  session_is = ap (λ (i : Instance). i.session) way.mine ∙ whose

  walks_there : IsWalk way.start.labels way.start.plan way.feds (steps_of r.line run) (Ask a.site look.why (op.Header look.image header.Get) look.next)
  walks_there = subst (IsWalk way.start.labels way.start.plan way.feds (steps_of r.line run)) look.is way.walk

  led : IsLed way.start.labels way.start.plan (steps_of r.line run ++ look_answered a.site look.image o.answer ∷ []) (at_operation way.start.labels (look.next o.answer))
  led = led_on way.start.labels way.start.plan (steps_of r.line run) a.site look.why (op.Header look.image header.Get) look.next o.answer (record { feds = way.feds; walk = walks_there })

  ends_look : at_operation way.start.labels (look.next o.answer) ≡ Return reply
  ends_look =
      ends_there way.start.labels (look.next o.answer) reply
      (looks_refuse (seat_at homes session) command_is way.start way.feds (steps_of r.line run) a.site look.why look.image look.next o.answer way.plan is_no_read walks_there ended.tells ∙ ended.refuses)

  meant_there : IsMeantBy (seat_at homes session) command_is (steps_of r.line run ++ look_answered a.site look.image o.answer ∷ []) reply
  meant_there =
      command_is_meant (seat_at homes session) command_is way.start led.feds (steps_of r.line run ++ look_answered a.site look.image o.answer ∷ []) reply way.plan
      (given_more (steps_of r.line run) a.site (op.Header look.image header.Get) o.answer way.given (look_can look.image o.answer ended.tells))
      (standalone_more (steps_of r.line run) a.site (op.Header look.image header.Get) o.answer way.standalone (ends_alone o.answer ended.tells))
      (subst (IsWalk way.start.labels way.start.plan led.feds (steps_of r.line run ++ look_answered a.site look.image o.answer ∷ [])) ends_look led.walk)

  pub refused_on_way : WasRefused o.site reply (way_of r.line run ++ step_of o ∷ []) → IsRefusedOnWay homes r.line reply o run
  refused_on_way over = record {
    begun = way.begun;
    tells = ended.tells;
    refuses = ended.refuses;
    plan = (stands r.request).plan;
    led =
        subst (λ i. IsLedTo (seat_at homes i) command_is (steps_of r.line run) (stands r.request).plan) (sym session_is)
        (record { start = way.start; plan = way.plan; feds = way.feds; walk = way.walk; given = way.given; standalone = way.standalone });
    wants = subst (λ s. is_look_at s (kind_asked (stands r.request).plan) ≡ true) (sym site_is) wants_look;
    image = look.image;
    meant =
        subst (λ i. IsMeantBy (seat_at homes i) command_is (steps_of r.line run ++ look_answered o.site look.image o.answer ∷ []) reply) (sym session_is)
        (subst (λ s. IsMeantBy (seat_at homes session) command_is (steps_of r.line run ++ look_answered s look.image o.answer ∷ []) reply) (sym site_is) meant_there);
    over = over;
  }
