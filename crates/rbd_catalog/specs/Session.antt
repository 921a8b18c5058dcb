-- Where the request of a session stands, and which answers it is ready for.
use Rattle.std.specs.Prelude.{List}
use Rattle.rbd_kinds.specs.declared.answer.Answer.{Answer}
use Rattle.rbd_machine.specs.Plan.{Standing, without_labels}
use Rattle.rbd_data.specs.Read as of_read
use Rattle.rbd_data.specs.Write as of_write
use Rattle.rbd_image.specs.Create.{rest_of_create}
use Rattle.rbd_image.specs.Listing.{rest_of_list, HasReply}
use Rattle.rbd_snap.specs.Snapping.{rest_of_snap, IsReady as IsSnapReady}
use Rattle.rbd_session.specs.Close.{rest_of_request}
use Rattle.rbd_data.specs.Discard as of_discard
use Rattle.rbd_image.specs.RemovalRequest as of_remove
use Rattle.rbd_image.specs.Resize as of_resize
use Rattle.rbd_snap.specs.Rolling as of_rollback
use Rattle.rbd_catalog.specs.declared.request.SessionRequest.{SessionRequest}
use Rattle.rbd_catalog.specs.declared.request.SessionRequest.TheVariants as request

-- ---- a request is the one that it holds

abbrev pub stands_of : SessionRequest → Standing
stands_of (request.Read r) = of_read.standing_of r
stands_of (request.Write w) = without_labels (of_write.rest_of_request w)
stands_of (request.Discard d) = without_labels (of_discard.rest_of_request d)
stands_of (request.Create r) = without_labels (rest_of_create r)
stands_of (request.Snap r) = without_labels (rest_of_snap r)
stands_of (request.List r) = without_labels (rest_of_list r)
stands_of (request.Resize r) = without_labels (of_resize.rest_of_resize r)
stands_of (request.Rollback r) = without_labels (of_rollback.rest_of_rollback_request r)
stands_of (request.Remove r) = without_labels (of_remove.rest_of_request r)
stands_of (request.Close r) = without_labels (rest_of_request r)

abbrev pub is_ready_of : SessionRequest → Answer → Type 0
is_ready_of (request.Read r) a = of_read.IsReady r a
is_ready_of (request.Write w) a = of_write.IsReady w a
is_ready_of (request.Discard d) a = of_discard.IsReady d a
is_ready_of (request.Create r) a = Unit {0}
is_ready_of (request.Snap r) a = IsSnapReady r a
is_ready_of (request.List r) a = HasReply r a
is_ready_of (request.Resize r) a = of_resize.IsReady r a
is_ready_of (request.Rollback r) a = of_rollback.IsReady r a
is_ready_of (request.Remove r) a = of_remove.IsReadyToGo r a
is_ready_of (request.Close r) a = Unit {0}
