-- Ids that were not drawn never had a header; and ids that are known to be drawn are new ones.
use Rattle.std.proofs.Common.{◌≡◌, ◌⊎◌, inl, inr, ℕ, ◌+◌, ◌<◌, ◌≤◌, cond, filter, not, Bool, true, false, List, [], ◌∷◌, Option, Some, None, refl, sym, ap, ◌∙◌, arith}
use Rattle.std.proofs.lemmas.Bool.{true≢false}
use Rattle.rbd_client.specs.declared.actor.Actor.{Actor}
use Rattle.rbd_client.specs.declared.actor.Actor.TheVariants as actor
use Rattle.rbd_knowledge.specs.ClientsKnowing.{known_at_stage, known_to, known_to_drop}
use Rattle.rbd_kinds.specs.declared.answer.Answer.{Answer}
use Rattle.rbd_kinds.specs.declared.answer.Answer.TheVariants as answer
use Rattle.rbd_kinds.specs.declared.data_op.DataOp.{DataOp}
use Rattle.rbd_kinds.specs.declared.data_op.DataOp.TheVariants as object
use Rattle.rbd_kinds.specs.declared.directory_op.DirectoryOp.{DirectoryOp}
use Rattle.rbd_kinds.specs.declared.directory_op.DirectoryOp.TheVariants as directory
use Rattle.rbd_kinds.specs.declared.header.HeaderView.{HeaderView}
use Rattle.rbd_kinds.specs.declared.header_op.HeaderOp.{HeaderOp}
use Rattle.rbd_kinds.specs.declared.header_op.HeaderOp.TheVariants as header
use Rattle.rbd_kinds.specs.declared.id.Instance.{Instance}
use Rattle.rbd_kinds.specs.declared.id.SiteId.{SiteId}
use Rattle.rbd_kinds.specs.declared.map_op.MapOp.{MapOp}
use Rattle.rbd_kinds.specs.declared.map_op.MapOp.TheVariants as states
use Rattle.rbd_kinds.specs.declared.operation.Op.{Op}
use Rattle.rbd_kinds.specs.declared.operation.Op.TheVariants as op
use Rattle.rbd_knowledge.specs.Knowing.{known_at_operation}
use Rattle.rbd_machine.specs.Knowledge.{Knowledge, Own, ImagePlace, first_told, header_told, is_at, is_drawn, learned, learned_of_directory, learned_of_header, learned_of_listing, learned_of_map, learned_of_object, looked_by, looked_under_lock, own_of, known_after_wait, same_site}
use Rattle.rbd_machine.specs.Plan.{Plan, Ask, Await, Note, Return, Goto}
use Rattle.rbd_machine.specs.Wait.{Wait}
use Rattle.rbd_machine.specs.Wait as wait
use Rattle.rbd_lock.specs.declared.acquire.Stage.{Stage}
use Rattle.rbd_lock.specs.declared.acquire.Stage.TheVariants as stage
use Rattle.rbd_lock.specs.declared.release.Stage.{Stage as ReleaseStage}
use Rattle.rbd_lock.specs.declared.release.Stage.TheVariants as releasing
use Rattle.rbd_interference.proofs.Less.{place_of}
use Rattle.rbd_registry.specs.Directory.{id_of, is_full}
use Rattle.rbd_site.specs.DirectoryStep.{name_added}
use Rattle.rbd_site.specs.Log.{expired, trimmed}
use Rattle.rbd_site.specs.Records.{Records}
use Rattle.rbd_site.specs.Step.{after, answer_to, is_fenced}
use Rattle.rbd_stands.proofs.EditSteps.{drawn_stays}
use Rattle.rbd_stands.proofs.DirectorySteps.{drawn_next}
use Rattle.rbd_world.specs.Run.{Happening, Nothing, Waited, Began, Did, Refused, Trimmed, Expired, Heard, Stopped, Restarted, records_after, records_behind}
use Rattle.rbd_world.specs.Past.{HadNoHeader}
use Rattle.rbd_world.specs.Sound.{IsRight}

-- ---- what wasn't drawn

-- ids are drawn upwards
drawn_grows : (s : SiteId) (r : Records) (h : Happening) → r.directory.drawn ≤ (records_behind s r h).directory.drawn
drawn_grows s r (Did o reply) = by (same_site o.site s)
  where
    by : (b : Bool) → r.directory.drawn ≤ (cond b (after r o.instance o.op) r).directory.drawn
    by true = drawn_stays r o.instance o.op r.directory.drawn (omega arith)
    by false = omega arith
drawn_grows s r (Trimmed site number image object) = by (same_site site s)
  where
    by : (b : Bool) → r.directory.drawn ≤ (cond b (trimmed image object r) r).directory.drawn
    by true = omega arith
    by false = omega arith
drawn_grows s r Nothing = omega arith
drawn_grows s r Waited = omega arith
drawn_grows s r (Began asked slot) = omega arith
drawn_grows s r (Refused t line reply) = omega arith
drawn_grows s r (Expired site number image who) = by (same_site site s)
  where
    by : (b : Bool) → r.directory.drawn ≤ (cond b (expired image who r) r).directory.drawn
    by true = omega arith
    by false = omega arith
drawn_grows s r (Heard notice) = omega arith
drawn_grows s r (Stopped who wanted lost) = omega arith
drawn_grows s r (Restarted who) = omega arith

-- an id past all that were drawn never had a header
pub never_born : (homes : ℕ → SiteId) (run : List Happening) → IsRight homes run → (s : SiteId) (image : ℕ) → (records_after s run).directory.drawn < image → HadNoHeader s image run
never_born homes [] right s image past = tt
never_born homes (h ∷ run) right s image past =
    let more = drawn_grows s (records_after s run) h in
    (((right.0 s).stands.fresh image past).header, never_born homes run right.2 s image (omega arith))

-- ---- a new id

-- ---- who knows that an id is drawn

-- a way and a release know of none
way_draws_none : (at : Stage) (there t : SiteId) (image : ℕ) → is_drawn (known_at_stage at there).drawn t image ≡ true → ⊥
way_draws_none (stage.Breaking owner) there t image drawn = true≢false (sym drawn)
way_draws_none _ there t image drawn = true≢false (sym drawn)

release_draws_none : (at : ReleaseStage) (there t : SiteId) (of image : ℕ) → is_drawn (known_to_drop at there of).drawn t image ≡ true → ⊥
release_draws_none releasing.Dropping there t of image drawn = true≢false (sym drawn)
release_draws_none releasing.Telling there t of image drawn = true≢false (sym drawn)

-- who acts in a slot knows of those that its request knows of
pub acted_drawn : (k : Knowledge) (m : Actor) (t : SiteId) (image : ℕ) → is_drawn (known_to k m).drawn t image ≡ true → is_drawn k.drawn t image ≡ true
acted_drawn k actor.Nobody t image drawn = absurd (true≢false (sym drawn))
acted_drawn k actor.Request t image drawn = drawn
acted_drawn k (actor.Way a) t image drawn = absurd (way_draws_none a.stage a.site t image drawn)
acted_drawn k (actor.Release x) t image drawn = absurd (release_draws_none x.stage x.site t x.image image drawn)

-- no wait teaches any
passed_drawn : (k : Knowledge) (w : Wait) (t : SiteId) (image : ℕ) → is_drawn (known_after_wait k w).drawn t image ≡ true → is_drawn k.drawn t image ≡ true
passed_drawn k (wait.Join site i sharing) t image drawn = drawn
passed_drawn k (wait.Hold site i) t image drawn = drawn
passed_drawn k (wait.Turn object) t image drawn = drawn
passed_drawn k (wait.Applied site i) t image drawn = drawn
passed_drawn k (wait.Leave site i) t image drawn = drawn

pub way_drawn : (plan : Plan) (k : Knowledge) (t : SiteId) (image : ℕ) → is_drawn (known_at_operation k plan).drawn t image ≡ true → is_drawn k.drawn t image ≡ true
way_drawn (Ask site why o next) k t image drawn = drawn
way_drawn (Await w next) k t image drawn = passed_drawn k w t image (way_drawn next (known_after_wait k w) t image drawn)
way_drawn (Note site i event next) k t image drawn = way_drawn next k t image drawn
way_drawn (Return reply) k t image drawn = drawn
way_drawn (Goto label) k t image drawn = drawn

-- those that are left were there
kept_drawn : (keeps : ImagePlace → Bool) (drawn : List ImagePlace) (t : SiteId) (image : ℕ) → is_drawn (filter keeps drawn) t image ≡ true → is_drawn drawn t image ≡ true
kept_drawn keeps [] t image is = is
kept_drawn keeps (d ∷ drawn) t image is = by (keeps d) (is_at t image d.site d.image) refl is (kept_drawn keeps drawn t image)
  where
    by : (kept here : Bool) → is_at t image d.site d.image ≡ here → is_drawn (cond kept (d ∷ filter keeps drawn) (filter keeps drawn)) t image ≡ true
        → (is_drawn (filter keeps drawn) t image ≡ true → is_drawn drawn t image ≡ true) → cond here true (is_drawn drawn t image) ≡ true
    by kept true at is rest = refl
    by true false at is rest = rest (sym (ap (λ b. cond b true (is_drawn (filter keeps drawn) t image)) at) ∙ is)
    by false false at is rest = rest is

-- an answer teaches one: the id that its own operation drew
pub record IsNew (s : SiteId) (o : Op) (a : Answer) (t : SiteId) (image : ℕ) : Type 0 where
  pub name : List ℕ
  pub here : s ≡ t
  pub adds : o ≡ op.Directory (directory.Add name)
  pub told : a ≡ answer.Id image

module _ (k : Knowledge) (s t : SiteId) (image : ℕ) where
  abbrev WasDrawn : Type 0
  WasDrawn = is_drawn k.drawn t image ≡ true

  looked_drawn : (i : ℕ) (h : HeaderView) (o : Option Own) → is_drawn (header_told s i (first_told h) (looked_under_lock o s i k)).drawn t image ≡ true → WasDrawn
  looked_drawn i h None drawn = drawn
  looked_drawn i h (Some o) drawn = by o.header drawn
    where
      by : (told : Option HeaderView) → is_drawn (header_told s i (first_told h) (looked_by told s i k)).drawn t image ≡ true → WasDrawn
      by None drawn = drawn
      by (Some v) drawn = drawn

  header_drawn : (i : ℕ) (o : HeaderOp) (a : Answer) → is_drawn (learned_of_header k s i o a).drawn t image ≡ true → WasDrawn
  header_drawn i header.Get (answer.Header h) drawn = looked_drawn i h (own_of k.owns s i) drawn
  header_drawn i (header.Create view) answer.Done drawn = kept_drawn (λ d. not (is_at s i d.site d.image)) k.drawn t image drawn
  header_drawn i (header.SetSize to) answer.Done drawn = drawn
  header_drawn i header.Remove answer.Done drawn = drawn
  header_drawn i (header.SnapAdd name) (answer.Snap snap) drawn = drawn
  header_drawn i (header.SnapRemove snap) answer.Done drawn = drawn
  header_drawn i header.Detach answer.Done drawn = drawn
  header_drawn i (header.SnapStatus snap status) answer.Done drawn = drawn
  header_drawn i (header.LockBreak owner) answer.Done drawn = drawn
  header_drawn i (header.LockBreak owner) answer.Changed drawn = drawn
  header_drawn i header.Get _ drawn = drawn
  header_drawn i (header.Create view) _ drawn = drawn
  header_drawn i (header.SetSize to) _ drawn = drawn
  header_drawn i header.Remove _ drawn = drawn
  header_drawn i (header.SnapAdd name) _ drawn = drawn
  header_drawn i (header.SnapRemove snap) _ drawn = drawn
  header_drawn i header.Detach _ drawn = drawn
  header_drawn i (header.SnapStatus snap status) _ drawn = drawn
  header_drawn i (header.LockBreak owner) _ drawn = drawn
  header_drawn i _ a drawn = drawn

  directory_drawn : (o : DirectoryOp) (a : Answer) → is_drawn (learned_of_directory k s o a).drawn t image ≡ true → WasDrawn ⊎ IsNew s (op.Directory o) a t image
  directory_drawn (directory.Add name) (answer.Id i) drawn = by (is_at t image s i) refl drawn
    where
      by : (b : Bool) → is_at t image s i ≡ b → cond b true (is_drawn k.drawn t image) ≡ true → WasDrawn ⊎ IsNew s (op.Directory (directory.Add name)) (answer.Id i) t image
      by true at drawn = let same = place_of t s image i at in inr (record { name = name; here = sym same.0; adds = refl; told = ap answer.Id (sym same.1) })
      by false at drawn = inl drawn
  directory_drawn (directory.Add name) _ drawn = inl drawn
  directory_drawn _ a drawn = inl drawn

  listing_drawn : (i : Instance) (a : Answer) → is_drawn (learned_of_listing k s i a).drawn t image ≡ true → WasDrawn
  listing_drawn i answer.Done drawn = drawn
  listing_drawn i _ drawn = drawn

  map_drawn : (i : ℕ) (o : MapOp) (a : Answer) → is_drawn (learned_of_map k s i o a).drawn t image ≡ true → WasDrawn
  map_drawn i (states.Resize count) answer.Done drawn = drawn
  map_drawn i (states.Get None) (answer.Bits bits) drawn = drawn
  map_drawn i (states.Put (Some snap) bits) answer.Done drawn = drawn
  map_drawn i (states.Set view object state) answer.Done drawn = drawn
  map_drawn i (states.Remove view) answer.Done drawn = drawn
  map_drawn i _ _ drawn = drawn

  object_drawn : (i n : ℕ) (o : DataOp) (a : Answer) → is_drawn (learned_of_object k s i n o a).drawn t image ≡ true → WasDrawn
  object_drawn i n (object.Write context must parts bytes) answer.Done drawn = drawn
  object_drawn i n (object.WriteFull context bytes) answer.Done drawn = drawn
  object_drawn i n (object.Read snap parts) a drawn = drawn
  object_drawn i n (object.CopyUp bytes) answer.Done drawn = drawn
  object_drawn i n (object.CopyUp bytes) answer.Exists drawn = drawn
  object_drawn i n (object.Zero context must parts) answer.Done drawn = drawn
  object_drawn i n (object.Empty context) answer.Done drawn = drawn
  object_drawn i n (object.Remove context) answer.Done drawn = drawn
  object_drawn i n _ _ drawn = drawn

  pub learned_drawn : (o : Op) (a : Answer) → is_drawn (learned k s o a).drawn t image ≡ true → WasDrawn ⊎ IsNew s o a t image
  learned_drawn (op.Directory o) a drawn = directory_drawn o a drawn
  learned_drawn (op.Header i o) a drawn = inl (header_drawn i o a drawn)
  learned_drawn (op.Data i n o) a drawn = inl (object_drawn i n o a drawn)
  learned_drawn (op.BlockAdd i) a drawn = inl (listing_drawn i a drawn)
  learned_drawn (op.Map i o) a drawn = inl (map_drawn i o a drawn)
  learned_drawn _ a drawn = inl drawn

-- and that id was drawn by nobody before
pub new_is_past : (r : Records) (me : Instance) (s t : SiteId) (o : Op) (image : ℕ) → IsNew s o (answer_to r me o) t image → r.directory.drawn < image
new_is_past r me s t o image new = by (is_fenced r me) (sym (ap (answer_to r me) new.adds) ∙ new.told)
  where
    by : (fenced : Bool) → cond fenced answer.Fenced (name_added (id_of r.directory new.name) (is_full r.directory) (r.directory.drawn + 1)) ≡ answer.Id image → r.directory.drawn < image
    by true is = cc
    by false is = let next = drawn_next (id_of r.directory new.name) (is_full r.directory) (r.directory.drawn + 1) image is in omega (arith, next)
