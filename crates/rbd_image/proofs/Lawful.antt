-- The plans do what they may.
use Rattle.std.proofs.Common.{◌≡◌, ◌⊎◌, inl, inr, ℕ, List, true, false, cond, None, refl, ap, sym, subst, arith}
use Rattle.rbd_kinds.specs.declared.answer.Answer.{Answer}
use Rattle.rbd_kinds.specs.declared.answer.Answer.TheVariants as answer
use Rattle.rbd_commands.specs.declared.command.Command.{Command}
use Rattle.rbd_commands.specs.declared.command.Command.TheVariants as command
use Rattle.rbd_commands.specs.declared.command.Shape.{Shape}
use Rattle.rbd_kinds.specs.declared.directory_op.DirectoryOp.TheVariants as directory
use Rattle.rbd_kinds.specs.declared.header.HeaderView.{HeaderView}
use Rattle.rbd_kinds.specs.declared.header_op.HeaderOp.TheVariants as header
use Rattle.rbd_kinds.specs.declared.id.SiteId.{SiteId}
use Rattle.rbd_kinds.specs.declared.layout.Layout.{Layout}
use Rattle.rbd_kinds.specs.declared.map_op.MapOp.TheVariants as states
use Rattle.rbd_kinds.specs.declared.operation.Op.TheVariants as op
use Rattle.rbd_kinds.specs.declared.reply.Reply.{Reply}
use Rattle.rbd_kinds.specs.declared.reply.Reply.TheVariants as reply
use Rattle.rbd_kinds.specs.Form.{IsNewHeader}
use Rattle.rbd_kinds.specs.States.{HoldStates}
use Rattle.rbd_kinds.specs.Striping.{IsObjectCount}
use Rattle.rbd_kinds.proofs.Images.{at_itself}
use Rattle.rbd_header.specs.Header.{new_header}
use Rattle.rbd_layout.specs.Asked.{layout_of, KeepsLimits}
use Rattle.rbd_machine.specs.Knowledge.{Knowledge, MapsKnown, nothing_known, is_drawn, learned, with_drawn}
use Rattle.rbd_machine.specs.Label.{Label}
use Rattle.rbd_machine.specs.Lawful.{CanTell, IsLawful, IsLawfulRequest}
use Rattle.rbd_machine.specs.Plan.{Plan, Return, without_labels}
use Rattle.rbd_machine.specs.Steps.{on_bits}
use Rattle.rbd_machine.proofs.AtLeast.{jump_lawful}
use Rattle.rbd_machine.proofs.Lawful.{lawful_not_there, lawful_look, lawful_on_id, lawful_on_done, told_first}
use Rattle.rbd_meaning.specs.Count.{object_count}
use Rattle.rbd_meaning.specs.Listings.{shown_snaps, used_among}
use Rattle.rbd_pieces.proofs.Resized.{few_objects}
use Rattle.rbd_image.proofs.Decided.{limits_or_not}
use Rattle.rbd_image.specs.Create.{IsCreate, IsCreatePlan, on_drawn, making, mapping, drawing}
use Rattle.rbd_image.specs.Listing.{counting, measuring, on_names, on_renamed, rename, showing, show_header, show_used, listing_plan}

new_in_form : (layout : Layout) (size : ℕ) → KeepsLimits layout size → IsNewHeader (new_header layout size)
new_in_form layout size keeps = record {
  form = record {
    layout = keeps.is_layout;
    objects = keeps.objects;
    born = keeps.objects;
    overlap = tt;
    snaps = λ k s there. cc;
    few = omega arith;
    rising = tt;
    depth = omega arith;
  };
  generation = refl;
  seq = refl;
  snaps = refl;
  owner = refl;
}

-- an id was drawn
abbrev drawn_known : SiteId → (image : ℕ) → Knowledge
drawn_known site image = with_drawn site image nothing_known

-- and its map was made
abbrev mapped_known : SiteId → (objects image : ℕ) → Knowledge
mapped_known site objects image = learned (drawn_known site image) site (op.Map image (states.Resize objects)) answer.Done

drawn_by_it : (site : SiteId) (image : ℕ) → is_drawn (drawn_known site image).drawn site image ≡ true
drawn_by_it site image = ap (λ b. cond b true false) (at_itself site image)

module _ (at : Label → Knowledge) where
  lawful_on_drawn : (known : Answer → Knowledge) (next : ℕ → Plan) → ((image : ℕ) → IsLawful at (known (answer.Id image)) (next image)) → (a : Answer) → IsLawful at (known a) (on_drawn next a)
  lawful_on_drawn known next lawful (answer.Id image) = lawful image
  lawful_on_drawn known next lawful answer.Exists = tt
  lawful_on_drawn known next lawful answer.Full = tt
  lawful_on_drawn known next lawful a = lawful_not_there at (known a) a

  lawful_making : (site : SiteId) (layout : Layout) (size objects : ℕ) → KeepsLimits layout size → IsObjectCount layout size objects → (image : ℕ)
      → IsLawful at (mapped_known site objects image) (making site (new_header layout size) image)
  lawful_making site layout size objects keeps counted image = (
    record {
      drawn = drawn_by_it site image;
      new = new_in_form layout size keeps;
      no_parent = refl;
      no_journal = refl;
      mapped = record {
        count = objects;
        known = ap (λ (m : MapsKnown). m.count) (told_first site image _ (drawn_known site image).maps);
        room = counted.each;
      };
    },
    λ a can. lawful_on_done at (learned (mapped_known site objects image) site (op.Header image (header.Create (new_header layout size)))) (Return reply.Done) tt a,
  )

  lawful_mapping : (site : SiteId) (layout : Layout) (size objects : ℕ) → KeepsLimits layout size → IsObjectCount layout size objects → (image : ℕ)
      → IsLawful at (drawn_known site image) (mapping site objects (new_header layout size) image)
  lawful_mapping site layout size objects keeps counted image = (
    inl (record { drawn = drawn_by_it site image; few = few_objects layout size objects keeps.objects counted }),
    λ a can. lawful_on_done at (learned (drawn_known site image) site (op.Map image (states.Resize objects))) (making site (new_header layout size) image) (lawful_making site layout size objects keeps counted image) a,
  )

  lawful_drawing : (site : SiteId) (name : List ℕ) (layout : Layout) (size objects : ℕ) → KeepsLimits layout size → IsObjectCount layout size objects
      → IsLawful at nothing_known (drawing site name objects (new_header layout size))
  lawful_drawing site name layout size objects keeps counted =
      (tt, λ a can. lawful_on_drawn (learned nothing_known site (op.Directory (directory.Add name))) (mapping site objects (new_header layout size)) (lawful_mapping site layout size objects keeps counted) a)

  lawful_within : (site : SiteId) (name : List ℕ) (size : ℕ) (shape : Shape) (plan : Plan) → IsCreate site name size shape plan → KeepsLimits (layout_of shape) size → IsLawful at nothing_known plan
  lawful_within site name size shape plan is keeps = subst (IsLawful at nothing_known) (sym (is.within keeps)) (lawful_drawing site name (layout_of shape) size is.objects keeps (is.counted keeps))

  lawful_outside : (site : SiteId) (name : List ℕ) (size : ℕ) (shape : Shape) (plan : Plan) → IsCreate site name size shape plan → (KeepsLimits (layout_of shape) size → ⊥) → IsLawful at nothing_known plan
  lawful_outside site name size shape plan is passes = subst (IsLawful at nothing_known) (sym (is.outside passes)) tt

  -- ---- ls, info, snap ls

  lawful_on_names : (k : Knowledge) (next : List (List ℕ) → Plan) → ((names : List (List ℕ)) → IsLawful at k (next names)) → (a : Answer) → IsLawful at k (on_names next a)
  lawful_on_names k next lawful (answer.Names names) = lawful names
  lawful_on_names k next lawful a = lawful_not_there at k a

  lawful_show_header : (site : SiteId) (name : List ℕ) (shown : HeaderView → Reply) → IsLawful at nothing_known (show_header site name shown)
  lawful_show_header site name shown = (
    tt,
    λ found can. lawful_on_id at (learned nothing_known site (op.Directory (directory.Find name))) (showing site shown) (λ image.
        (tt, lawful_look at site image nothing_known (λ h. Return (shown h)) (λ h form standalone. tt))) found,
  )

  -- ---- du, rename

  pub lawful_on_bits : (k : Knowledge) (site : SiteId) (known : Answer → Knowledge) (image : ℕ) (next : List ℕ → Plan) → ((bits : List ℕ) → HoldStates bits → IsLawful at (known (answer.Bits bits)) (next bits))
      → (a : Answer) → CanTell k site (op.Map image (states.Get None)) a → IsLawful at (known a) (on_bits next a)
  lawful_on_bits k site known image next lawful (answer.Bits bits) can = lawful bits can.form
  lawful_on_bits k site known image next lawful a can = lawful_not_there at (known a) a

  lawful_counting : (site : SiteId) (image : ℕ) (k : Knowledge) (objects : ℕ) → IsLawful at k (counting site image objects)
  lawful_counting site image k objects =
      (tt, lawful_on_bits k site (learned k site (op.Map image (states.Get None))) image (λ bits. Return (reply.Used (used_among objects bits) objects)) (λ bits hold. tt))

  lawful_show_used : (site : SiteId) (name : List ℕ) → IsLawful at nothing_known (show_used site name)
  lawful_show_used site name = (
    tt,
    λ found can. lawful_on_id at (learned nothing_known site (op.Directory (directory.Find name))) (measuring site) (λ image. (
      tt,
      lawful_look at site image nothing_known (λ h. counting site image (object_count h.layout h.size)) (λ h form standalone.
          lawful_counting site image nothing_known (object_count h.layout h.size)),
    )) found,
  )

  lawful_on_renamed : (k : Knowledge) (a : Answer) → IsLawful at k (on_renamed a)
  lawful_on_renamed k answer.Done = tt
  lawful_on_renamed k answer.Exists = tt
  lawful_on_renamed k a = lawful_not_there at k a

  lawful_rename : (site : SiteId) (from to : List ℕ) → IsLawful at nothing_known (rename site from to)
  lawful_rename site from to = (tt, λ a can. lawful_on_renamed (learned nothing_known site (op.Directory (directory.Rename from to)) a) a)

  -- ---- all of these

  pub lawful_listing : (site : SiteId) (c : Command) → IsLawful at nothing_known (listing_plan site c)
  lawful_listing site command.List = (tt, λ a can. lawful_on_names nothing_known _ (λ names. tt) a)
  lawful_listing site (command.Info image) = lawful_show_header site image reply.Info
  lawful_listing site (command.SnapList image) = lawful_show_header site image shown_snaps
  lawful_listing site (command.Used image) = lawful_show_used site image
  lawful_listing site (command.Rename from to) = lawful_rename site from to
  lawful_listing site _ = tt

pub lawful_create : (site : SiteId) (c : Command) (plan : Plan) → IsCreatePlan site c plan → IsLawfulRequest (without_labels plan)
lawful_create site (command.Create name size shape) plan is = record { known_at = λ label. nothing_known; plan = go (limits_or_not (layout_of shape) size); labels = jump_lawful (λ label. nothing_known) }
  where
    go : KeepsLimits (layout_of shape) size ⊎ (KeepsLimits (layout_of shape) size → ⊥) → IsLawful (λ label. nothing_known) nothing_known plan
    go (inl keeps) = lawful_within (λ label. nothing_known) site name size shape plan is keeps
    go (inr passes) = lawful_outside (λ label. nothing_known) site name size shape plan is passes
lawful_create site _ plan is = absurd is
