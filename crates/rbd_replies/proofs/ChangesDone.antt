-- What `create`, `rename`, `snap create` and `snap rm` did, and that they did nothing else.
use Rattle.std.proofs.Common.{◌≡◌, ℕ, ◌+◌, List, [], ◌∷◌, Option, Some, None, option_map, map, refl, sym, ap, ◌∙◌}
use Rattle.rbd_flat.specs.Flat.{FlatImage, FlatSnap, image_at}
use Rattle.rbd_flat.specs.declared.effect.Effect.{Effect}
use Rattle.rbd_flat.specs.declared.effect.Effect.TheVariants as effect
use Rattle.rbd_kinds.specs.declared.answer.Answer.{Answer}
use Rattle.rbd_kinds.specs.declared.answer.Answer.TheVariants as answer
use Rattle.rbd_commands.specs.declared.command.Shape.{Shape}
use Rattle.rbd_kinds.specs.declared.directory_op.DirectoryOp.TheVariants as directory
use Rattle.rbd_kinds.specs.declared.header.HeaderView.{HeaderView}
use Rattle.rbd_kinds.specs.declared.header.Role.TheVariants.{Plain}
use Rattle.rbd_kinds.specs.declared.header.SnapView.{SnapView}
use Rattle.rbd_kinds.specs.declared.header_op.HeaderOp.{HeaderOp}
use Rattle.rbd_kinds.specs.declared.header_op.HeaderOp.TheVariants as header
use Rattle.rbd_kinds.specs.declared.id.SiteId.{SiteId}
use Rattle.rbd_kinds.specs.declared.map_op.MapOp.TheVariants as states
use Rattle.rbd_kinds.specs.declared.operation.Op.TheVariants as op
use Rattle.rbd_kinds.specs.Header.{snap_named}
use Rattle.rbd_header.specs.Header.{new_header}
use Rattle.rbd_layout.specs.Asked.{layout_of}
use Rattle.rbd_machine.specs.Path.{Answered, found, looked_at}
use Rattle.rbd_meaning.proofs.Allowed.{takes_one_more}
use Rattle.rbd_meaning.specs.Creates.{Makes}
use Rattle.rbd_meaning.specs.Listings.{renamed_to}
use Rattle.rbd_meaning.specs.Snaps.{RemovesOne, TakesOne, map_put, map_removed, map_told, snap_removed}
use Rattle.rbd_stands.specs.Image.{SnapLine, line_of_flat, line_of_snap}
use Rattle.rbd_stands.specs.Reading.{TellsFlatImage, flat_snap_named}
use Rattle.rbd_replies.proofs.PlacedRight.{ArePlacedRight}
use Rattle.rbd_replies.proofs.Places.{step_at}
use Rattle.rbd_replies.proofs.PlacesTaken.{change_first, none_taken, silent_first}
use Rattle.rbd_replies.proofs.PlacesTold.{effect_there, finding_is_silent, found_there, free_there, header_there, looking_is_silent, looks_there, renamed_there}
use Rattle.rbd_replies.specs.Changed.{Creates, FindsImage, RemovesSnap, Renames, TakesSnap}
use Rattle.rbd_replies.specs.Places.{Placed, effects_of, flat_at}

-- an operation on a header, with its answer
abbrev on_header : SiteId → (image : ℕ) → HeaderOp → Answer → Answered
on_header site image o a = record { site = site; op = op.Header image o; answer = a }

-- the map of a new image was made
abbrev map_made : SiteId → (image objects : ℕ) → Answered
map_made site image objects = record { site = site; op = op.Map image (states.Resize objects); answer = answer.Done }

-- ---- the snapshot that a header lists is the flat image's

pub record IsListedThere (flat : Option FlatImage) (snap : List ℕ) (id : ℕ) : Type 0 where
  pub i : FlatImage
  pub is : flat ≡ Some i
  pub gone : FlatSnap
  pub listed : flat_snap_named i.snaps snap ≡ Some gone
  pub same : id ≡ gone.id

listed_among : (o : Option FlatSnap) (p : Option SnapView) (listed : SnapView) → option_map line_of_flat o ≡ option_map line_of_snap p → p ≡ Some listed
    → (gone : FlatSnap) × (o ≡ Some gone) × (listed.id ≡ gone.id)
listed_among None None listed same is = absurd (cc)
listed_among None (Some s) listed same is = absurd (cc)
listed_among (Some gone) None listed same is = absurd (cc)
listed_among (Some gone) (Some s) listed same is =
    let that : s ≡ listed = cc in
    let line : line_of_flat gone ≡ line_of_snap s = cc in
    (gone, refl, ap (λ (v : SnapView). v.id) (sym that) ∙ ap (λ (l : SnapLine). l.id) (sym line))

pub listed_flat : (flat : Option FlatImage) (h : HeaderView) (snap : List ℕ) (listed : SnapView) → TellsFlatImage h flat → snap_named h.snaps snap ≡ Some listed
    → IsListedThere flat snap listed.id
listed_flat None h snap listed tells is = absurd tells
listed_flat (Some i) h snap listed tells is =
    let (gone, there, same) = listed_among (flat_snap_named i.snaps snap) (snap_named h.snaps snap) listed (tells.by_name snap) is in
    record { i = i; is = refl; gone = gone; listed = there; same = same }

-- ---- a name that a header doesn't list the flat image hasn't

record IsFreeThere (flat : Option FlatImage) (snap : List ℕ) : Type 0 where
  i : FlatImage
  is : flat ≡ Some i
  free : flat_snap_named i.snaps snap ≡ None

free_among : (o : Option FlatSnap) (p : Option SnapView) → option_map line_of_flat o ≡ option_map line_of_snap p → p ≡ None → o ≡ None
free_among None p same is = refl
free_among (Some s) None same is = absurd (cc)
free_among (Some s) (Some other) same is = absurd (cc)

free_flat : (flat : Option FlatImage) (h : HeaderView) (snap : List ℕ) → TellsFlatImage h flat → snap_named h.snaps snap ≡ None → IsFreeThere flat snap
free_flat None h snap tells is = absurd tells
free_flat (Some i) h snap tells is =
    record { i = i; is = refl; free = free_among (flat_snap_named i.snaps snap) (snap_named h.snaps snap) (tells.by_name snap) is }

-- ---- the commands

module _ (homes : ℕ → SiteId) where
  creates_at : (places : List Placed) → ArePlacedRight homes places → (site : SiteId) (name : List ℕ) (size image objects : ℕ) (shape : Shape)
      → map step_at places
      ≡ record { site = site; op = op.Directory (directory.Add name); answer = answer.Id image }
      ∷ map_made site image objects
      ∷ on_header site image (header.Create (new_header (layout_of shape) size)) answer.Done ∷ []
      → Creates name size places
  creates_at [] right site name size image objects shape are = absurd (cc)
  creates_at (p ∷ []) right site name size image objects shape are = absurd (cc)
  creates_at (p ∷ m ∷ []) right site name size image objects shape are = absurd (cc)
  creates_at (p ∷ m ∷ q ∷ places) (here, (mapped, (there, right))) site name size image objects shape are = record {
    first = p;
    mapped = m;
    second = q;
    are = ap (λ rest. p ∷ m ∷ q ∷ rest) none;
    image = image;
    free = free_there homes p here site name image cc;
    effects =
        change_first p (m ∷ q ∷ places) _ (effect_there homes p here (record { site = site; op = op.Directory (directory.Add name); answer = answer.Id image }) cc)
        ∙ ap (λ rest. effect.Name name image ∷ rest)
        (silent_first m (q ∷ places) (effect_there homes m mapped (map_made site image objects) cc)
        ∙ change_first q places (effect.Create image size Plain) (effect_there homes q there (on_header site image (header.Create (new_header (layout_of shape) size)) answer.Done) cc)
        ∙ ap (λ rest. effect.Create image size Plain ∷ effects_of rest) none);
  }
    where
      none : places ≡ []
      none = none_taken places cc

  pub create_creates : (places : List Placed) → ArePlacedRight homes places → (site : SiteId) (name : List ℕ) (size : ℕ) (shape : Shape)
      → Makes site name size shape (map step_at places) → Creates name size places
  create_creates places right site name size shape makes = creates_at places right site name size makes.made.image makes.made.objects shape makes.made.are

  pub rename_renames : (places : List Placed) → ArePlacedRight homes places → (site : SiteId) (from to : List ℕ) → map step_at places ≡ renamed_to site from to ∷ [] → Renames from to places
  rename_renames [] right site from to are = absurd (cc)
  rename_renames (p ∷ places) right site from to are =
      let is : step_at p ≡ renamed_to site from to = cc in
      let none : places ≡ [] = none_taken places cc in
      let there = renamed_there homes p right.0 site from to is in
      record {
        at_place = p;
        are = ap (λ rest. p ∷ rest) none;
        image = there.image;
        named = there.named;
        free = there.free;
        effects = change_first p places (effect.Rename from to) (effect_there homes p right.0 (renamed_to site from to) is) ∙ ap (λ rest. effect.Rename from to ∷ effects_of rest) none;
      }

  -- one change behind two looks
  record ChangesOne (site : SiteId) (name : List ℕ) (image : ℕ) (h : HeaderView) (e : Effect) (places : List Placed) : Type 0 where
    finds : FindsImage name places
    image_is : finds.image ≡ image
    header_is : finds.header ≡ h
    effects : effects_of places ≡ e ∷ []

  changes_at : (places : List Placed) → ArePlacedRight homes places → (site : SiteId) (name : List ℕ) (image : ℕ) (first own : HeaderView) (e : Effect) (behind : List Answered)
      → map step_at places ≡ found site name image ∷ looked_at site image first ∷ looked_at site image own ∷ behind
      → ((rest : List Placed) → ArePlacedRight homes rest → map step_at rest ≡ behind → effects_of rest ≡ e ∷ [])
      → ChangesOne site name image own e places
  changes_at [] right site name image first own e behind are does = absurd (cc)
  changes_at (p ∷ []) right site name image first own e behind are does = absurd (cc)
  changes_at (p ∷ q ∷ []) right site name image first own e behind are does = absurd (cc)
  changes_at (p ∷ q ∷ s ∷ places) (here, (there, (look, right))) site name image first own e behind are does = record {
    finds = record {
      found = p;
      first = q;
      own = s;
      rest = places;
      are = refl;
      image = image;
      named = found_there homes p here site name image cc;
      header = own;
      looked = looks_there s site image own cc;
      tells = header_there homes s look site image own cc;
    };
    image_is = refl;
    header_is = refl;
    effects =
        silent_first p (q ∷ s ∷ places) (finding_is_silent homes p here site name image cc)
        ∙ silent_first q (s ∷ places) (looking_is_silent homes q there site image first cc)
        ∙ silent_first s places (looking_is_silent homes s look site image own cc)
        ∙ does places right cc;
  }

  -- a snapshot is taken behind its map
  taken_behind : (places : List Placed) → ArePlacedRight homes places → (site : SiteId) (image next taken : ℕ) (bits snap : List ℕ)
      → map step_at places ≡ map_told site image bits ∷ map_put site image next bits ∷ on_header site image (header.SnapAdd snap) (answer.Snap taken) ∷ []
      → effects_of places ≡ effect.Snap image taken snap ∷ []
  taken_behind [] right site image next taken bits snap are = absurd (cc)
  taken_behind (p ∷ []) right site image next taken bits snap are = absurd (cc)
  taken_behind (p ∷ q ∷ []) right site image next taken bits snap are = absurd (cc)
  taken_behind (p ∷ q ∷ t ∷ places) (told, (put, (last, right))) site image next taken bits snap are =
      silent_first p (q ∷ t ∷ places) (effect_there homes p told (map_told site image bits) cc)
      ∙ silent_first q (t ∷ places) (effect_there homes q put (map_put site image next bits) cc)
      ∙ change_first t places (effect.Snap image taken snap) (effect_there homes t last (on_header site image (header.SnapAdd snap) (answer.Snap taken)) cc)
      ∙ ap (λ rest. effect.Snap image taken snap ∷ effects_of rest) (none_taken places cc)

  -- one is removed, and then its map
  removed_first : (places : List Placed) → ArePlacedRight homes places → (site : SiteId) (image snap : ℕ) (a : Answer)
      → map step_at places ≡ snap_removed site image snap ∷ map_removed site image snap a ∷ []
      → effects_of places ≡ effect.Unsnap image snap ∷ []
  removed_first [] right site image snap a are = absurd (cc)
  removed_first (p ∷ []) right site image snap a are = absurd (cc)
  removed_first (p ∷ q ∷ places) (removed, (last, right)) site image snap a are =
      change_first p (q ∷ places) (effect.Unsnap image snap) (effect_there homes p removed (snap_removed site image snap) cc)
      ∙ ap (λ rest. effect.Unsnap image snap ∷ rest)
      (silent_first q places (effect_there homes q last (map_removed site image snap a) cc) ∙ ap effects_of (none_taken places cc))

  pub snap_create_takes : (places : List Placed) → ArePlacedRight homes places → (site : SiteId) (name snap : List ℕ)
      → TakesOne site name snap (map step_at places) → TakesSnap name snap places
  snap_create_takes places right site name snap takes =
      let change = changes_at places right site name takes.image takes.first takes.own (effect.Snap takes.image takes.taken snap) _ takes.are
      (λ rest there are. taken_behind rest there site takes.image (takes.own.snap_seq + 1) takes.taken takes.bits snap are) in
      let there = free_flat (image_at (flat_at change.finds.own) change.finds.image) change.finds.header snap change.finds.tells
      (ap (λ (h : HeaderView). snap_named h.snaps snap) change.header_is ∙ (takes_one_more snap takes.own takes.may).0) in
      record {
        finds = change.finds;
        flat = there.i;
        is = there.is;
        free = there.free;
        taken = takes.taken;
        effects = change.effects ∙ ap (λ image. effect.Snap image takes.taken snap ∷ []) (sym change.image_is);
      }

  pub snap_remove_removes : (places : List Placed) → ArePlacedRight homes places → (site : SiteId) (name snap : List ℕ)
      → RemovesOne site name snap (map step_at places) → RemovesSnap name snap places
  snap_remove_removes places right site name snap removes =
      let change = changes_at places right site name removes.image removes.first removes.own (effect.Unsnap removes.image removes.listed.id) _ removes.are
      (λ rest there are. removed_first rest there site removes.image removes.listed.id removes.gone are) in
      let there = listed_flat (image_at (flat_at change.finds.own) change.finds.image) change.finds.header snap removes.listed change.finds.tells
      (ap (λ (h : HeaderView). snap_named h.snaps snap) change.header_is ∙ removes.is_listed) in
      record {
        finds = change.finds;
        flat = there.i;
        is = there.is;
        gone = there.gone;
        listed = there.listed;
        effects = change.effects ∙ ap (λ image. effect.Unsnap image removes.listed.id ∷ []) (sym change.image_is) ∙ ap (λ id. effect.Unsnap change.finds.image id ∷ []) there.same;
      }
