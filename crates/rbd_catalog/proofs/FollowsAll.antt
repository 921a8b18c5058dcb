-- Each command follows its row.
use Rattle.std.proofs.Common.{◌≡◌, refl, sym, ◌∙◌, subst, true, false, Bool, cond, List, [], Option, Some, None}
use Rattle.rbd_commands.specs.declared.command.Command.{Command}
use Rattle.rbd_commands.specs.declared.command.Command.TheVariants as command
use Rattle.rbd_commands.specs.Quiescing.{quiescing_of}
use Rattle.rbd_commands.specs.declared.quiescing.Quiescing.{Quiescing}
use Rattle.rbd_kinds.specs.declared.id.SiteId.{SiteId}
use Rattle.rbd_layout.specs.Asked.{layout_of}
use Rattle.rbd_machine.specs.Plan.{Plan, Standing, without_labels}
use Rattle.rbd_machine.specs.declared.seat.Seat.{Seat}
use Rattle.rbd_meaning.specs.Straight.{Straight, straight_of}
use Rattle.rbd_data.specs.Read.{is_read}
use Rattle.rbd_catalog.specs.EachRequest.{HoldsOfEach, is_one_read, of_command, of_plan, same_some}
use Rattle.rbd_catalog.specs.Follows.{Follows, FollowsFrom, Outside}
use Rattle.rbd_catalog.specs.Plans.{IsPlanFor, create_at, planned, planned_straight}
use Rattle.rbd_catalog.specs.Profile.{Profile, profile, straight_row}
use Rattle.rbd_catalog.proofs.Walks.{close_follows, quiesce_follows, straight_follows}
use Rattle.rbd_catalog.proofs.ReadsRemoves.{read_follows, rm_follows}
use Rattle.rbd_catalog.proofs.Changes.{create_follows, discard_follows, fill_follows, info_follows, list_follows, rename_follows, rollback_follows, size_follows, snap_list_follows, snap_removal_follows, take_follows, used_follows, write_follows}

-- ---- all of them

from_plan : (p : Profile) (plan : Plan) (s : Standing) → planned plan ≡ Some s → Follows p Outside plan → FollowsFrom p s
from_plan p plan s is follows = of_plan (FollowsFrom p) plan s is (record { plan = follows; labels = λ label. refl })

from_row : (home : SiteId) (q : Quiescing) (o : Option Straight) (s : Standing) → planned_straight home o ≡ Some s → FollowsFrom (straight_row q o) s
from_row home q None s is = cc
from_row home q (Some row) s is = from_plan _ _ s is (straight_follows home q row)

pub command_follows : (seat : Seat) (c : Command) (s : Standing) → IsPlanFor seat c s → FollowsFrom (profile c) s
command_follows seat (command.Write image at bytes) s is = from_plan _ _ s is (write_follows seat.home image at bytes)
command_follows seat (command.Fill image at len byte) s is = from_plan _ _ s is (fill_follows seat.home image at len byte)
command_follows seat (command.Discard image at len) s is = from_plan _ _ s is (discard_follows seat.home image at len)
command_follows seat (command.Read image snap at len) s is =
    subst (FollowsFrom (profile (command.Read image snap at len))) (same_some _ s is) (record {
      plan = read_follows seat.home image snap at len (record { at = at; len = len });
      labels = λ label. read_follows seat.home image snap at len (record { at = at; len = len });
    })
command_follows seat (command.Create image size shape) s is = by shape.journal is
  where
    by : (b : Bool) → cond b None (planned (create_at seat.home image size (layout_of shape))) ≡ Some s → FollowsFrom (profile (command.Create image size shape)) s
    by true none = cc
    by false told = from_plan _ _ s told (create_follows seat.home image size shape)
command_follows seat command.List s is = from_plan _ _ s is (list_follows seat.home [])
command_follows seat (command.Info image) s is = from_plan _ _ s is (info_follows seat.home image)
command_follows seat (command.Used image) s is = from_plan _ _ s is (used_follows seat.home image)
command_follows seat (command.Rename from to) s is = from_plan _ _ s is (rename_follows seat.home from to)
command_follows seat (command.Resize image size) s is = from_plan _ _ s is (size_follows seat.home image size)
command_follows seat (command.Remove image) s is = from_plan _ _ s is (rm_follows seat.home seat.session image)
command_follows seat (command.SnapCreate image snap) s is = from_plan _ _ s is (take_follows seat.home image snap)
command_follows seat (command.SnapRemove image snap) s is = from_plan _ _ s is (snap_removal_follows seat.home image snap)
command_follows seat (command.SnapRollback image snap) s is = from_plan _ _ s is (rollback_follows seat.home image snap)
command_follows seat (command.SnapList image) s is = from_plan _ _ s is (snap_list_follows seat.home image)
command_follows seat (command.Close image) s is = from_plan _ _ s is (close_follows seat.home image)
command_follows seat (command.Quiesce image) s is = from_plan _ _ s is (quiesce_follows seat.home image)
command_follows seat c s is = from_row seat.home (quiescing_of c) (straight_of c) s is

-- ---- no other than a read goes to a label

abbrev BeginsOnce : Command → Standing → Type 0
BeginsOnce c s = is_read c ≡ false → s ≡ without_labels s.plan

each_begins_once : (seat : Seat) → HoldsOfEach seat BeginsOnce
each_begins_once seat = record {
  writes = λ c is other. refl;
  discards = λ c is other. refl;
  reads = λ c s is other. let no : false ≡ true = sym other ∙ is_one_read seat.home c s is in cc;
  creates = λ c plan is other. refl;
  lists = λ c is other. refl;
  snaps = λ c is other. refl;
  resizes = λ c is other. refl;
  rollbacks = λ c is other. refl;
  removes = λ c is other. refl;
  closes = λ c is other. refl;
}

pub begins_once : (seat : Seat) (c : Command) (s : Standing) → IsPlanFor seat c s → is_read c ≡ false → s ≡ without_labels s.plan
begins_once seat c s is other = of_command seat BeginsOnce (each_begins_once seat) c s is other
