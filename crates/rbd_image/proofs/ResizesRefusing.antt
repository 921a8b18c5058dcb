-- A size and a rollback are refused by their last answer alone, where the image has no parent.
use Rattle.std.proofs.Common.{◌≡◌, ◌⊎◌, inl, inr, ℕ, List, Bool, true, false, Option, None, refl, sym, subst}
use Rattle.rbd_kinds.specs.declared.answer.Answer.{Answer}
use Rattle.rbd_kinds.specs.declared.answer.Answer.TheVariants as answer
use Rattle.rbd_kinds.specs.declared.directory_op.DirectoryOp.TheVariants as directory
use Rattle.rbd_kinds.specs.declared.header.HeaderView.{HeaderView}
use Rattle.rbd_kinds.specs.declared.header.SnapContext.{SnapContext}
use Rattle.rbd_kinds.specs.declared.id.SiteId.{SiteId}
use Rattle.rbd_kinds.specs.declared.operation.Op.{Op}
use Rattle.rbd_kinds.specs.declared.operation.Op.TheVariants as op
use Rattle.rbd_kinds.specs.declared.reply.Reply.{Reply}
use Rattle.rbd_kinds.specs.declared.reply.Reply.TheVariants as reply
use Rattle.rbd_kinds.specs.Striping.{byte_at}
use Rattle.rbd_commands.specs.declared.refusal.Refusal.{Refusal}
use Rattle.rbd_commands.specs.declared.refusal.Refusal.TheVariants as refusal
use Rattle.rbd_layout.specs.declared.types.Piece.{Piece}
use Rattle.rbd_machine.specs.About.{owned_after}
use Rattle.rbd_machine.specs.Knowledge.{ImagePlace}
use Rattle.rbd_machine.specs.Objects.{data_read}
use Rattle.rbd_machine.specs.Plan.{Plan}
use Rattle.rbd_machine.specs.Refused.{by_fence, refusal_by, IsGiven}
use Rattle.rbd_machine.specs.Steps.{on_bits, on_done}
use Rattle.rbd_machine.proofs.Refused.{Answers, IsRefusing, changed_by, only_image}
use Rattle.rbd_pieces.specs.Gather.{on_bytes}
use Rattle.rbd_pieces.specs.Operations.{data_empty, data_remove, data_write_full, data_zero, header_set_size, map_get, map_resize, map_set}
use Rattle.rbd_pieces.specs.Zero.{is_below, is_inside}
use Rattle.rbd_image.proofs.Built.{Rules}

abbrev pub IsDone : Reply → Type 0
IsDone reply.Done = Unit {0}
IsDone _ = ⊥

-- no object of an image without a parent is inside its overlap
abbrev pub IsOutside : (inside : Bool) → Type 0
IsOutside true = ⊥
IsOutside false = Unit {0}

pub outside : (h : HeaderView) → h.parent ≡ None → (number : ℕ) → IsOutside (is_inside h number)
outside h none number = subst (λ parent. IsOutside (is_below parent (byte_at h.layout number 0))) (sym none) tt

-- what is done makes no image its own
owns_no_more : (images : List ImagePlace) (site : SiteId) (o : Op) → owned_after images site o answer.Done ≡ images
owns_no_more images site (op.Directory (directory.Find name)) = refl
owns_no_more images site (op.Directory (directory.Add name)) = refl
owns_no_more images site o = refl

module _ (refuses : HeaderView → Option Refusal) where
  -- it is done, or fenced
  pub record IsDoneOrFenced (o : Op) : Type 0 where
    pub passes : refusal_by refuses o answer.Done ≡ None
    pub only : (a : Answer) → IsGiven o a → (a ≡ answer.Done) ⊎ (a ≡ answer.Fenced)

  fine_set : (image number state : ℕ) → IsDoneOrFenced (map_set image number state)
  fine_set image number state = record { passes = refl; only = only }
    where
      only : (a : Answer) → IsGiven (map_set image number state) a → (a ≡ answer.Done) ⊎ (a ≡ answer.Fenced)
      only answer.Done given = inl refl
      only answer.Fenced given = inr refl
      only answer.Absent given = let no = given.finds in cc
      only _ given = let no = given.can.word in cc

  fine_zero : (image : ℕ) (context : SnapContext) (piece : Piece) → IsDoneOrFenced (data_zero image context false piece)
  fine_zero image context piece = record { passes = refl; only = only }
    where
      only : (a : Answer) → IsGiven (data_zero image context false piece) a → (a ≡ answer.Done) ⊎ (a ≡ answer.Fenced)
      only answer.Done given = inl refl
      only answer.Fenced given = inr refl
      only _ given = let no = given.can.word in cc

  fine_empty : (image : ℕ) (context : SnapContext) (number : ℕ) → IsDoneOrFenced (data_empty image context number)
  fine_empty image context number = record { passes = refl; only = only }
    where
      only : (a : Answer) → IsGiven (data_empty image context number) a → (a ≡ answer.Done) ⊎ (a ≡ answer.Fenced)
      only answer.Done given = inl refl
      only answer.Fenced given = inr refl
      only _ given = let no = given.can.word in cc

  fine_remove : (image : ℕ) (context : SnapContext) (number : ℕ) → IsDoneOrFenced (data_remove image context number)
  fine_remove image context number = record { passes = refl; only = only }
    where
      only : (a : Answer) → IsGiven (data_remove image context number) a → (a ≡ answer.Done) ⊎ (a ≡ answer.Fenced)
      only answer.Done given = inl refl
      only answer.Fenced given = inr refl
      only _ given = let no = given.can.word in cc

  fine_full : (image : ℕ) (context : SnapContext) (number : ℕ) (bytes : List ℕ) → IsDoneOrFenced (data_write_full image context number bytes)
  fine_full image context number bytes = record { passes = refl; only = only }
    where
      only : (a : Answer) → IsGiven (data_write_full image context number bytes) a → (a ≡ answer.Done) ⊎ (a ≡ answer.Fenced)
      only answer.Done given = inl refl
      only answer.Fenced given = inr refl
      only _ given = let no = given.can.word in cc

  fine_room : (image objects : ℕ) → IsDoneOrFenced (map_resize image objects)
  fine_room image objects = record { passes = refl; only = only }
    where
      only : (a : Answer) → IsGiven (map_resize image objects) a → (a ≡ answer.Done) ⊎ (a ≡ answer.Fenced)
      only answer.Done given = inl refl
      only answer.Fenced given = inr refl
      only _ given = let no = given.can.word in cc

  fine_size : (image to : ℕ) → IsDoneOrFenced (header_set_size image to)
  fine_size image to = record { passes = refl; only = only }
    where
      only : (a : Answer) → IsGiven (header_set_size image to) a → (a ≡ answer.Done) ⊎ (a ≡ answer.Fenced)
      only answer.Done given = inl refl
      only answer.Fenced given = inr refl
      only answer.Absent given = let no = given.finds in cc
      only _ given = let no = given.can.word in cc

  abbrev pub Refusing : SiteId → (image : ℕ) → Plan → Type 0
  Refusing site image p = (changed : Bool) → IsRefusing refuses by_fence IsDone (only_image site image) changed p

  refusing_done : (site : SiteId) (image : ℕ) (o : Op) (k : Plan) → IsDoneOrFenced o → Refusing site image k → (changed : Bool) (a : Answer) → IsGiven o a → Answers refuses by_fence IsDone (only_image site image) changed site o a (on_done k a)
  refusing_done site image o k fine refusing changed a given = go (fine.only a given)
    where
      go : (a ≡ answer.Done) ⊎ (a ≡ answer.Fenced) → Answers refuses by_fence IsDone (only_image site image) changed site o a (on_done k a)
      go (inl is) = subst (λ a. Answers refuses by_fence IsDone (only_image site image) changed site o a (on_done k a)) (sym is) (inr (λ live may. fine.passes, subst (λ images. IsRefusing refuses by_fence IsDone images (changed_by changed o) k) (sym (owns_no_more (only_image site image) site o)) (refusing (changed_by changed o))))
      go (inr is) = subst (λ a. Answers refuses by_fence IsDone (only_image site image) changed site o a (on_done k a)) (sym is) (inl (record { why = refusal.Fenced; own = inl refl; is = refl; ends = refl; comes = λ was. refl }))

  refusing_read : (site : SiteId) (image : ℕ) (snap : Option ℕ) (piece : Piece) (k : List ℕ → Plan) → ((bytes : List ℕ) → Refusing site image (k bytes)) → (changed : Bool) (a : Answer) → IsGiven (data_read image snap piece) a
      → Answers refuses by_fence IsDone (only_image site image) changed site (data_read image snap piece) a (on_bytes piece.parts k a)
  refusing_read site image snap piece k refusing changed (answer.Bytes bytes) given = inr (λ live may. refl, refusing bytes (changed_by changed (data_read image snap piece)))
  refusing_read site image snap piece k refusing changed answer.Absent given = inr (λ live may. refl, refusing _ (changed_by changed (data_read image snap piece)))
  refusing_read site image snap piece k refusing changed answer.Fenced given = inl (record { why = refusal.Fenced; own = inl refl; is = refl; ends = refl; comes = λ was. refl })
  refusing_read site image snap piece k refusing changed _ given = let no = given.can.word in cc

  refusing_bits : (site : SiteId) (image : ℕ) (k : List ℕ → Plan) → ((bits : List ℕ) → Refusing site image (k bits)) → (a : Answer) → IsGiven (map_get image) a → Answers refuses by_fence IsDone (only_image site image) false site (map_get image) a (on_bits k a)
  refusing_bits site image k refusing (answer.Bits bits) given = inr (λ live may. refl, refusing bits false)
  refusing_bits site image k refusing answer.Absent given = inl (record { why = refusal.NoImage; own = inr (inl refl); is = refl; ends = refl; comes = λ was. cc })
  refusing_bits site image k refusing answer.Fenced given = inl (record { why = refusal.Fenced; own = inl refl; is = refl; ends = refl; comes = λ was. cc })
  refusing_bits site image k refusing _ given = let no = given.can.word in cc

  pub refusing_rules : (site : SiteId) (image : ℕ) → Rules (λ k p. Refusing site image k) (λ k p. IsRefusing refuses by_fence IsDone (only_image site image) false k) IsDoneOrFenced IsOutside site image
  refusing_rules site image = record {
    done = λ o k p fine refusing changed. refusing_done site image o k fine refusing changed;
    read = λ snap piece k p refusing changed. refusing_read site image snap piece k refusing changed;
    bits = λ k p refusing. refusing_bits site image k refusing;
    first = λ k p refusing. refusing false;
    set = fine_set image;
    zero = fine_zero image;
    must = λ may context piece. absurd may;
    empty = fine_empty image;
    remove = fine_remove image;
    full = fine_full image;
    room = fine_room image;
    size = fine_size image;
  }
