-- What may be fed wants something, and where a plan may be fed what.
use Rattle.std.proofs.Common.{◌≡◌, ℕ, true, subst}
use Rattle.rbd_kinds.specs.declared.sharing.Sharing.{Sharing}
use Rattle.rbd_kinds.specs.declared.answer.Answer.{Answer}
use Rattle.rbd_kinds.specs.declared.answer.Answer.TheVariants as answer
use Rattle.rbd_kinds.specs.declared.data_op.DataOp.TheVariants as object
use Rattle.rbd_kinds.specs.declared.header_op.HeaderOp.TheVariants as header
use Rattle.rbd_kinds.specs.declared.id.SiteId.{SiteId}
use Rattle.rbd_kinds.specs.declared.machine.Fed.{Fed}
use Rattle.rbd_kinds.specs.declared.machine.Fed.TheVariants as fed
use Rattle.rbd_kinds.specs.declared.machine.Want.TheVariants as want
use Rattle.rbd_kinds.specs.declared.map_op.MapOp.TheVariants as states
use Rattle.rbd_kinds.specs.declared.operation.Op.{Op}
use Rattle.rbd_kinds.specs.declared.operation.Op.TheVariants as op
use Rattle.rbd_kinds.specs.AnswerForm.{IsInForm}
use Rattle.rbd_machine.specs.Answers.{CanGive, CanBeFed, IsHeaderToldInForm, is_plain}
use Rattle.rbd_machine.specs.Plan.{Plan, Ask, Await, Note, Return, Goto, IsLive, IsAsking, Asks, Wants}

pub fed_is_live : (plan : Plan) (f : Fed) → CanBeFed plan f → IsLive plan
fed_is_live (Ask site why op next) f can = tt
fed_is_live (Await wait next) f can = tt
fed_is_live (Note site image event next) f can = tt
fed_is_live (Return reply) f can = absurd can
fed_is_live (Goto label) f can = absurd can

-- what an operation can give may be fed where it is asked for
pub can_be_fed : (plan : Plan) (o : Op) (a : Answer) → IsAsking plan → Asks plan o → CanGive o a → CanBeFed plan (fed.Answer a)
can_be_fed (Ask site why wanted next) o a is asked can = subst (λ o. CanGive o a) asked can
can_be_fed (Await wait next) o a is asked can = absurd is
can_be_fed (Note site image event next) o a is asked can = absurd is
can_be_fed (Return reply) o a is asked can = absurd is
can_be_fed (Goto label) o a is asked can = absurd is

-- that it joined its line, where it wants that
pub can_join : (plan : Plan) (site : SiteId) (image : ℕ) (sharing : Sharing) → IsLive plan → Wants plan (want.Join site image sharing) → CanBeFed plan fed.Passed
can_join (Ask s why wanted next) site image sharing live wants = cc
can_join (Await wait next) site image sharing live wants = tt
can_join (Note s i event next) site image sharing live wants = tt
can_join (Return reply) site image sharing live wants = absurd live
can_join (Goto label) site image sharing live wants = absurd live

-- that it has the lock, where it wants that
pub can_hold : (plan : Plan) (site : SiteId) (image : ℕ) → IsLive plan → Wants plan (want.Hold site image) → CanBeFed plan fed.Passed
can_hold (Ask s why wanted next) site image live wants = cc
can_hold (Await wait next) site image live wants = tt
can_hold (Note s i event next) site image live wants = tt
can_hold (Return reply) site image live wants = absurd live
can_hold (Goto label) site image live wants = absurd live

-- a plain answer is in form where its header is
pub plain_in_form : (o : Op) (a : Answer) → is_plain o a ≡ true → IsHeaderToldInForm a → IsInForm o a
plain_in_form (op.Directory o) a plain told = tt
plain_in_form (op.Children o) a plain told = tt
plain_in_form (op.BlockAdd instance) a plain told = tt
plain_in_form (op.Header image header.Get) (answer.Header h) plain told = told
plain_in_form (op.Header image _) _ plain told = tt
plain_in_form (op.Data image number (object.Read snap parts)) (answer.Bytes bytes) plain told = cc
plain_in_form (op.Data image number _) _ plain told = tt
plain_in_form (op.Map image (states.Get snap)) (answer.Bits bits) plain told = cc
plain_in_form (op.Map image _) _ plain told = tt
plain_in_form (op.Journal image o) a plain told = cc
