-- Who waits for nothing owns nothing.
use Rattle.std.proofs.Common.{◌≡◌, ℕ, List, true, false, Option, Some, None, option_map, refl, sym, ap, ◌∙◌}
use Rattle.std.specs.Prelude.{IsFalse, is_some}
use Rattle.std.proofs.lemmas.Bool.{true≢false}
use Rattle.std.proofs.lemmas.Option.{none-some}
use Rattle.rbd_kinds.specs.declared.answer.Answer.{Answer}
use Rattle.rbd_kinds.specs.declared.answer.Answer.TheVariants as answer
use Rattle.rbd_kinds.specs.declared.data_op.DataOp.{DataOp}
use Rattle.rbd_kinds.specs.declared.data_op.DataOp.TheVariants as object
use Rattle.rbd_kinds.specs.declared.directory_op.DirectoryOp.{DirectoryOp}
use Rattle.rbd_kinds.specs.declared.directory_op.DirectoryOp.TheVariants as directory
use Rattle.rbd_kinds.specs.declared.header.HeaderView.{HeaderView}
use Rattle.rbd_kinds.specs.declared.header_op.HeaderOp.{HeaderOp}
use Rattle.rbd_kinds.specs.declared.header_op.HeaderOp.TheVariants as header
use Rattle.rbd_kinds.specs.declared.id.Instance.{Instance}
use Rattle.rbd_kinds.specs.declared.id.SiteId.{SiteId}
use Rattle.rbd_kinds.specs.declared.machine.Fed.{Fed}
use Rattle.rbd_kinds.specs.declared.machine.Fed.TheVariants as fed
use Rattle.rbd_kinds.specs.declared.map_op.MapOp.{MapOp}
use Rattle.rbd_kinds.specs.declared.map_op.MapOp.TheVariants as states
use Rattle.rbd_kinds.specs.declared.operation.Op.{Op}
use Rattle.rbd_kinds.specs.declared.operation.Op.TheVariants as op
use Rattle.rbd_header.specs.Header.{detached, with_size, with_snap, without_snap, with_status}
use Rattle.rbd_machine.specs.Answers.{CanBeFed}
use Rattle.rbd_machine.specs.Knowledge.{ImageMaps, ImageObjects, Knowledge, Own, first_told, header_told, is_drawn, is_gone, learned, learned_of_directory, learned_of_header, learned_of_listing, learned_of_map, learned_of_object, learned_own, looked_under_lock, own_of, told_of}
use Rattle.rbd_machine.specs.Label.{Label}
use Rattle.rbd_machine.specs.Lawful.{IsLawful}
use Rattle.rbd_machine.specs.Path.{at_operation}
use Rattle.rbd_machine.specs.Permits.{Permits}
use Rattle.rbd_machine.specs.Plan.{Plan, Ask, Await, Note, Return, Goto, plan_after}
use Rattle.rbd_interference.specs.Ancestors.{DrewNoneOf}
use Rattle.rbd_interference.specs.Beside.{AreBeside, Breaks, BreaksNothing, Lowers, MayAct, SharesLock}
use Rattle.rbd_interference.specs.Truth.{header_of_own, AreBasedElsewhere}
use Rattle.rbd_site.specs.Records.{Records}
use Rattle.rbd_site.specs.Step.{is_fenced}
use Rattle.rbd_knowledge.specs.Calm.{IsCalm, OwnsNothing}
use Rattle.rbd_knowledge.specs.Knowing.{known_at_operation, known_behind}
use Rattle.rbd_knowledge.proofs.Owned.{own_told}

module _ (k : Knowledge) (none : OwnsNothing k) where
  told_nothing : (s : SiteId) (i : ℕ) (change : Option HeaderView → Option HeaderView) → OwnsNothing (header_told s i change k)
  told_nothing s i change = record { owns = λ site image. own_told s site i image change k.owns ∙ ap (option_map (told_of s i change)) (none.owns site image); gone = none.gone }

  -- a look at what it doesn't own
  got_nothing : (s : SiteId) (i : ℕ) (h : HeaderView) (o : Option Own) → own_of k.owns s i ≡ o → OwnsNothing (header_told s i (first_told h) (looked_under_lock o s i k))
  got_nothing s i h None is = told_nothing s i (first_told h)
  got_nothing s i h (Some o) is = absurd (none-some o (sym (none.owns s i) ∙ is))

  header_nothing : (s : SiteId) (i : ℕ) (o : HeaderOp) (a : Answer) → Permits k s (op.Header i o) → OwnsNothing (learned_of_header k s i o a)
  header_nothing s i header.Get (answer.Header h) permits = got_nothing s i h (own_of k.owns s i) refl
  header_nothing s i (header.Create view) answer.Done permits = record { owns = none.owns; gone = none.gone }
  header_nothing s i (header.SetSize to) answer.Done permits = told_nothing s i (option_map (with_size to))
  header_nothing s i header.Remove answer.Done permits = absurd (none-some _ (sym (none.owns s i) ∙ permits.is))
  header_nothing s i (header.SnapAdd name) (answer.Snap snap) permits = told_nothing s i (option_map (with_snap name))
  header_nothing s i (header.SnapRemove snap) answer.Done permits = told_nothing s i (option_map (without_snap snap))
  header_nothing s i header.Detach answer.Done permits = let told = told_nothing s i (option_map detached) in record { owns = told.owns; gone = told.gone }
  header_nothing s i (header.SnapStatus snap status) answer.Done permits = told_nothing s i (option_map (with_status snap status))
  header_nothing s i header.Get _ permits = none
  header_nothing s i (header.Create view) _ permits = none
  header_nothing s i (header.SetSize to) _ permits = none
  header_nothing s i header.Remove _ permits = none
  header_nothing s i (header.SnapAdd name) _ permits = none
  header_nothing s i (header.SnapRemove snap) _ permits = none
  header_nothing s i header.Detach _ permits = none
  header_nothing s i (header.SnapStatus snap status) _ permits = none
  header_nothing s i (header.LockBreak owner) answer.Done permits = record { owns = none.owns; gone = none.gone }
  header_nothing s i (header.LockBreak owner) answer.Changed permits = record { owns = none.owns; gone = none.gone }
  header_nothing s i (header.LockBreak owner) _ permits = none
  header_nothing s i _ a permits = none

  directory_nothing : (s : SiteId) (o : DirectoryOp) (a : Answer) → OwnsNothing (learned_of_directory k s o a)
  directory_nothing s (directory.Add name) (answer.Id image) = record { owns = none.owns; gone = none.gone }
  directory_nothing s (directory.Add name) _ = none
  directory_nothing s _ a = none

  listing_nothing : (s : SiteId) (i : Instance) (a : Answer) → OwnsNothing (learned_of_listing k s i a)
  listing_nothing s i answer.Done = record { owns = none.owns; gone = none.gone }
  listing_nothing s i _ = none

  -- whatever it knows of maps and of objects
  beside_nothing : (maps : List ImageMaps) (objects : List ImageObjects) → OwnsNothing (record k { maps = maps; objects = objects })
  beside_nothing maps objects = record { owns = none.owns; gone = none.gone }

  map_nothing : (s : SiteId) (i : ℕ) (o : MapOp) (a : Answer) → OwnsNothing (learned_of_map k s i o a)
  map_nothing s i (states.Resize count) answer.Done = beside_nothing _ _
  map_nothing s i (states.Get None) (answer.Bits bits) = beside_nothing _ _
  map_nothing s i (states.Put (Some snap) bits) answer.Done = beside_nothing _ _
  map_nothing s i (states.Set view object state) answer.Done = beside_nothing _ _
  map_nothing s i (states.Remove view) answer.Done = beside_nothing _ _
  map_nothing s i _ _ = none

  object_nothing : (s : SiteId) (i n : ℕ) (o : DataOp) (a : Answer) → OwnsNothing (learned_of_object k s i n o a)
  object_nothing s i n (object.Write context must parts bytes) answer.Done = beside_nothing _ _
  object_nothing s i n (object.WriteFull context bytes) answer.Done = beside_nothing _ _
  object_nothing s i n (object.Read snap parts) a = beside_nothing _ _
  object_nothing s i n (object.CopyUp bytes) answer.Done = beside_nothing _ _
  object_nothing s i n (object.CopyUp bytes) answer.Exists = beside_nothing _ _
  object_nothing s i n (object.Zero context must parts) answer.Done = beside_nothing _ _
  object_nothing s i n (object.Empty context) answer.Done = beside_nothing _ _
  object_nothing s i n (object.Remove context) answer.Done = beside_nothing _ _
  object_nothing s i n _ _ = none

  own_nothing : (s : SiteId) (o : Op) (a : Answer) → Permits k s o → OwnsNothing (learned_own k s o a)
  own_nothing s (op.Directory o) a permits = directory_nothing s o a
  own_nothing s (op.Header i o) a permits = header_nothing s i o a permits
  own_nothing s (op.Data i n o) a permits = object_nothing s i n o a
  own_nothing s (op.BlockAdd i) a permits = listing_nothing s i a
  own_nothing s (op.Map i o) a permits = map_nothing s i o a
  own_nothing s _ a permits = none

  learned_nothing : (s : SiteId) (o : Op) (a : Answer) → Permits k s o → OwnsNothing (learned k s o a)
  learned_nothing s o a permits = let own = own_nothing s o a permits in record { owns = own.owns; gone = own.gone }

-- no wait stands before its next operation
calm_way : (plan : Plan) (k : Knowledge) → IsCalm plan → OwnsNothing k → OwnsNothing (known_at_operation k plan)
calm_way (Ask site why op next) k calm none = none
calm_way (Await w next) k calm none = absurd calm
calm_way (Note site image event next) k calm none = absurd calm
calm_way (Return reply) k calm none = none
calm_way (Goto label) k calm none = none

pub calm_fed : (at : Label → Knowledge) (k : Knowledge) (plan : Plan) (f : Fed) → IsCalm plan → IsLawful at k plan → CanBeFed plan f → OwnsNothing k → OwnsNothing (known_behind k plan f)
calm_fed at k (Ask site why op next) (fed.Answer a) calm lawful can none = calm_way (next a) (learned k site op a) (calm a) (learned_nothing k none site op a lawful.0)
calm_fed at k (Ask site why op next) fed.Passed calm lawful can none = absurd can
calm_fed at k (Await w next) f calm lawful can none = absurd calm
calm_fed at k (Note site image event next) f calm lawful can none = absurd calm
calm_fed at k (Return reply) f calm lawful can none = absurd can
calm_fed at k (Goto label) f calm lawful can none = absurd can

module _ (labels : Label → Plan) (there : (label : Label) → IsCalm (labels label)) where
  calm_at : (plan : Plan) → IsCalm plan → IsCalm (at_operation labels plan)
  calm_at (Ask site why op next) calm = calm
  calm_at (Await w next) calm = absurd calm
  calm_at (Note site image event next) calm = absurd calm
  calm_at (Return reply) calm = calm
  calm_at (Goto label) calm = there label

  pub calm_stays : (plan : Plan) (f : Fed) → IsCalm plan → CanBeFed plan f → IsCalm (at_operation labels (plan_after plan f))
  calm_stays (Ask site why op next) (fed.Answer a) calm can = calm_at (next a) (calm a)
  calm_stays (Ask site why op next) fed.Passed calm can = absurd can
  calm_stays (Await w next) f calm can = absurd calm
  calm_stays (Note site image event next) f calm can = absurd calm
  calm_stays (Return reply) f calm can = absurd can
  calm_stays (Goto label) f calm can = absurd can

-- ---- beside others

module _ (site : SiteId) (r : Records) (me you : Instance) (k j : Knowledge) where
  pub calm_beside : OwnsNothing k → ((image : ℕ) → is_drawn k.drawn site image ≡ true → is_drawn j.drawn site image ≡ false)
      → ((image : ℕ) → is_gone j.gone site image ≡ true → is_drawn k.drawn site image ≡ false) → DrewNoneOf site k.seen j → DrewNoneOf site j.seen k
      → (IsFalse (is_fenced r you) → AreBasedElsewhere site k j) → (IsFalse (is_fenced r me) → AreBasedElsewhere site j k) → AreBeside site r me you k j
  calm_beside none apart gone unseen unseen_there unbased unbased_there = record {
    shared = λ free image mine others. absurd (true≢false (sym mine ∙ ap (λ q. is_some (header_of_own q)) (none.owns site image)));
    apart = apart;
    gone = λ image removed. absurd (true≢false (sym removed ∙ none.gone site image));
    gone_there = gone;
    removed = λ image removed. absurd (true≢false (sym removed ∙ none.gone site image));
    unseen = unseen;
    unseen_there = unseen_there;
    unbased = unbased;
    unbased_there = unbased_there;
  }

  calm_shares : (image : ℕ) → OwnsNothing k → SharesLock site image r me you k j
  calm_shares image none = λ free some told. absurd (true≢false (sym some ∙ ap is_some (none.owns site image)))

  calm_breaks : (image : ℕ) (broken : Type 0) → OwnsNothing k → BreaksNothing site image r me you k j broken
  calm_breaks image broken none = λ free mine others it. true≢false (sym mine ∙ ap (λ q. is_some (header_of_own q)) (none.owns site image))

  pub calm_acts : (o : Op) → OwnsNothing k → MayAct site r me you k j o
  calm_acts (op.Header image header.Get) none = calm_shares image none
  calm_acts (op.Header image header.LockDrop) none = λ lock. calm_shares image none
  calm_acts (op.Data image number o) none = calm_breaks image (Breaks o j site image number) none
  calm_acts (op.Map image (states.Set None number state)) none = calm_breaks image (Lowers state j site image number) none
  calm_acts (op.Map image (states.Set (Some snap) number state)) none = tt
  calm_acts (op.Map image o) none = tt
  calm_acts (op.Header image o) none = tt
  calm_acts _ none = tt

  shares_with_calm : (image : ℕ) → OwnsNothing j → SharesLock site image r me you k j
  shares_with_calm image none = λ free some told. absurd (true≢false (sym told ∙ ap (λ q. is_some (header_of_own q)) (none.owns site image)))

  breaks_calm : (image : ℕ) (broken : Type 0) → OwnsNothing j → BreaksNothing site image r me you k j broken
  breaks_calm image broken none = λ free mine others it. true≢false (sym others ∙ ap (λ q. is_some (header_of_own q)) (none.owns site image))

  pub acted_beside_calm : (o : Op) → OwnsNothing j → MayAct site r me you k j o
  acted_beside_calm (op.Header image header.Get) none = shares_with_calm image none
  acted_beside_calm (op.Header image header.LockDrop) none = λ lock. shares_with_calm image none
  acted_beside_calm (op.Data image number o) none = breaks_calm image (Breaks o j site image number) none
  acted_beside_calm (op.Map image (states.Set None number state)) none = breaks_calm image (Lowers state j site image number) none
  acted_beside_calm (op.Map image (states.Set (Some snap) number state)) none = tt
  acted_beside_calm (op.Map image o) none = tt
  acted_beside_calm (op.Header image o) none = tt
  acted_beside_calm _ none = tt
