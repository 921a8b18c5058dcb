-- An `rm` that is done freed the name, where one was left, and then the image went: nothing else
-- that it did has an effect, since the image has no header any more.
use Rattle.std.proofs.Common.{◌≡◌, ℕ, ◌==◌, cond, Bool, true, false, List, [], ◌∷◌, ◌++◌, map, Option, Some, None, refl, sym, ap, ◌∙◌, subst, eq-eqb}
use Rattle.std.specs.Prelude.{IsFalse}
use Rattle.std.proofs.lemmas.Option.{none-some}
use Rattle.std.specs.FinMap as finmap
use Rattle.std.specs.List.{list_any}
use Rattle.rbd_flat.specs.declared.effect.Effect.TheVariants as effect
use Rattle.rbd_kinds.specs.declared.answer.Answer.{Answer}
use Rattle.rbd_kinds.specs.declared.answer.Answer.TheVariants as answer
use Rattle.rbd_kinds.specs.declared.directory_op.DirectoryOp.TheVariants as directory
use Rattle.rbd_kinds.specs.declared.header.HeaderView.{HeaderView}
use Rattle.rbd_kinds.specs.declared.header.ParentLink.{ParentLink}
use Rattle.rbd_kinds.specs.declared.header.SnapView.{SnapView}
use Rattle.rbd_kinds.specs.declared.header_op.HeaderOp.TheVariants as header
use Rattle.rbd_kinds.specs.declared.id.Instance.{Instance}
use Rattle.rbd_kinds.specs.declared.id.SiteId.{SiteId}
use Rattle.rbd_kinds.specs.declared.map_op.MapOp.TheVariants as states
use Rattle.rbd_kinds.specs.declared.operation.Op.{Op}
use Rattle.rbd_kinds.specs.declared.operation.Op.TheVariants as op
use Rattle.rbd_kinds.specs.declared.reply.Reply.{Reply}
use Rattle.rbd_kinds.proofs.Images.{same_site_itself}
use Rattle.rbd_machine.specs.Knowledge.{same_site}
use Rattle.rbd_machine.specs.Path.{Answered, found, looked_at}
use Rattle.rbd_meaning.specs.Removals.{AreRemovals, IsRemovedBy, RemovesImage, first_link, link_of, parent_in, removal, removing_journal, removing_map_of, removing_object, unlinking, used_objects, watchers_told}
use Rattle.rbd_meaning.specs.Snaps.{map_told}
use Rattle.rbd_meaning.proofs.Allowed.{no_snapshots_listed}
use Rattle.rbd_registry.specs.Directory.{Listing, holds_id}
use Rattle.rbd_site.specs.Found.{done_where}
use Rattle.rbd_site.specs.HeaderStep.{header_after}
use Rattle.rbd_site.specs.Step.{after, after_served, answer_served, is_fenced}
use Rattle.rbd_site.specs.declared.done.DoneOp.TheVariants as done
use Rattle.rbd_stands.proofs.Served.{is_served}
use Rattle.rbd_stands.specs.Effect.{effect_of, effect_of_op}
use Rattle.rbd_world.specs.Run.{Did, records_after}
use Rattle.rbd_replies.specs.Places.{Placed, effects_of, flat_at, with_effect}
use Rattle.rbd_replies.specs.Removed.{RemovesAll, is_named, removal_effects}
use Rattle.rbd_replies.proofs.PlacedRight.{ArePlacedRight, IsPlacedRight}
use Rattle.rbd_replies.proofs.Places.{step_at}
use Rattle.rbd_replies.proofs.PlacesTaken.{silent_first}
use Rattle.rbd_replies.proofs.PlacesTold.{effect_there, finding_is_silent, found_there, header_there, looking_is_silent, looks_there, records_at, served_there, unfenced_there}
use Rattle.rbd_replies.proofs.ReadKept.{none_later}
use Rattle.rbd_replies.proofs.ReadOrder.{AreBehind, AreOrdered, IsBehind, goes_on, one_more}
use Rattle.rbd_replies.proofs.ReadShown.{there_at}

-- ---- what is left of an image without a header goes without an effect

-- operations that have none where the image has no header
abbrev AreSilentThere : (image : ℕ) → List Op → Type 0
AreSilentThere image [] = Unit {0}
AreSilentThere image (o ∷ ops) = ((p : Placed) (a : Answer) → (records_at p).headers image ≡ None → effect_of (records_at p) (done.Op o) a ≡ None) × AreSilentThere image ops

silent_both : (image : ℕ) (one two : List Op) → AreSilentThere image one → AreSilentThere image two → AreSilentThere image (one ++ two)
silent_both image [] two none also = also
silent_both image (o ∷ one) two none also = (none.0, silent_both image one two none.1 also)

silent_objects : (image : ℕ) (objects : List ℕ) → AreSilentThere image (map (removing_object image) objects)
silent_objects image [] = tt
silent_objects image (n ∷ objects) = (λ p a headless. ap (λ there. effect_of_op there (removing_object image n) a) headless, silent_objects image objects)

silent_maps : (image : ℕ) (snaps : List SnapView) → AreSilentThere image (map (removing_map_of image) snaps)
silent_maps image [] = tt
silent_maps image (s ∷ snaps) = (λ p a headless. refl, silent_maps image snaps)

silent_journal : (image : ℕ) (journal : Bool) → AreSilentThere image (removing_journal image journal)
silent_journal image false = tt
silent_journal image true = (λ p a headless. refl, tt)

silent_link : (image : ℕ) (link : Option ParentLink) → link ≡ None → AreSilentThere image (unlinking image link)
silent_link image None none = tt
silent_link image (Some link) none = absurd (none-some link (sym none))

-- all but the name and the header
abbrev rest_of : (image : ℕ) → HeaderView → (bits : List ℕ) → List Op
rest_of image h bits =
    unlinking image (link_of h) ++ (map (removing_object image) (used_objects bits)
    ++ (op.Map image (states.Remove None) ∷ (map (removing_map_of image) h.snaps ++ removing_journal image h.journal)))

rest_is_silent : (image : ℕ) (h : HeaderView) (bits : List ℕ) → link_of h ≡ None → AreSilentThere image (rest_of image h bits)
rest_is_silent image h bits none =
    silent_both image (unlinking image (link_of h)) _ (silent_link image (link_of h) none)
    (silent_both image (map (removing_object image) (used_objects bits)) _ (silent_objects image (used_objects bits))
    (λ p a headless. refl, silent_both image (map (removing_map_of image) h.snaps) (removing_journal image h.journal) (silent_maps image h.snaps) (silent_journal image h.journal)))

-- no header of the image is there at each
abbrev AllHeadless : (image : ℕ) → List Placed → Type 0
AllHeadless image [] = Unit {0}
AllHeadless image (p ∷ places) = ((records_at p).headers image ≡ None) × AllHeadless image places

module _ (homes : ℕ → SiteId) (home : SiteId) (image : ℕ) where
  removed_silently : (ops : List Op) → AreSilentThere image ops → (places : List Placed) → ArePlacedRight homes places → AllHeadless image places → AreRemovals home ops (map step_at places)
      → effects_of places ≡ []
  removed_silently [] silent [] right headless are = refl
  removed_silently [] silent (p ∷ places) right headless are = absurd are
  removed_silently (o ∷ ops) silent [] right headless are = absurd are
  removed_silently (o ∷ ops) silent (p ∷ places) right headless (here, is, gone, are) =
      silent_first p places
      (effect_there homes p right.0 (step_at p) refl ∙ ap (λ (what : Op). effect_of (records_at p) (done.Op what) p.done.answer) is ∙ silent.0 p p.done.answer headless.0)
      ∙ removed_silently ops silent.1 places right.1 headless.1 are

  -- ---- behind the header's removal there is none

  removed_there : (q : Placed) → IsPlacedRight homes q → q.done.site ≡ home → q.done.op ≡ op.Header image header.Remove → q.done.answer ≡ answer.Done → (reply : Option Reply)
      → (records_after home (Did q.done reply ∷ q.before)).headers image ≡ None
  removed_there q right here is told reply =
      let r = records_after home q.before in
      let free : IsFalse (is_fenced (records_at q) q.done.instance) = unfenced_there homes q right (step_at q) refl (ap is_served told) in
      let free_here : is_fenced r q.done.instance ≡ false = subst (λ s. is_fenced (records_after s q.before) q.done.instance ≡ false) here free in
      ap (λ s. (cond (same_site s home) (after r q.done.instance q.done.op) r).headers image) here
      ∙ ap (λ b. (cond b (after r q.done.instance q.done.op) r).headers image) (same_site_itself home)
      ∙ ap (λ what. (after r q.done.instance what).headers image) is
      ∙ ap (λ b. (cond b r (after_served r q.done.instance (op.Header image header.Remove))).headers image) free_here
      ∙ ap (λ b. cond b (header_after q.done.instance (r.headers image) header.Remove) (r.headers image)) (eq-eqb image image refl)
      ∙ by (r.headers image)
    where
      by : (there : Option HeaderView) → header_after q.done.instance there header.Remove ≡ None
      by None = refl
      by (Some h) = refl

  headless_behind : (s q : Placed) (own : HeaderView) → (records_after home s.before).headers image ≡ Some own → IsBehind q.before s
      → ((reply : Option Reply) → (records_after home (Did q.done reply ∷ q.before)).headers image ≡ None)
      → (ops : List Op) (places : List Placed) → AreRemovals home ops (map step_at places) → ArePlacedRight homes places → AreBehind q places → AllHeadless image places
  headless_behind s q own was behind none ops [] are right ordered = tt
  headless_behind s q own was behind none [] (p ∷ places) are right ordered = absurd are
  headless_behind s q own was behind none (o ∷ ops) (p ∷ places) are right ordered = (
    subst (λ site. (records_after site p.before).headers image ≡ None) (sym are.0)
        (none_later homes home image p.before (Did q.done ordered.0.reply ∷ q.before) s.before ordered.0.goes
        (one_more (Did q.done ordered.0.reply) q.before s.before (goes_on q.before s behind)) right.0.right own was (none ordered.0.reply)),
    headless_behind s q own was behind none ops places are.3 right.1 ordered.1,
  )

-- ---- the name

-- where it went, one led to the image still
named_by : (d : Listing) (image : ℕ) (a : Answer) → done_where (holds_id image d) ≡ a → IsRemovedBy (op.Directory (directory.Remove image)) a
    → effect_of_op None (op.Directory (directory.Remove image)) a ≡ cond (holds_id image d) (Some (effect.NameFree image)) None
named_by d image a told gone = by (holds_id image d) told
  where
    by : (b : Bool) → done_where b ≡ a → effect_of_op None (op.Directory (directory.Remove image)) a ≡ cond b (Some (effect.NameFree image)) None
    by true is = ap (effect_of_op None (op.Directory (directory.Remove image))) (sym is)
    by false is = ap (effect_of_op None (op.Directory (directory.Remove image))) (sym is)

removed_is_served : (o : Op) (a : Answer) → IsRemovedBy o a → is_served a ≡ true
removed_is_served o answer.Done gone = refl
removed_is_served o answer.Absent gone = refl
removed_is_served o _ gone = absurd gone

-- the header was there
header_goes : (image : ℕ) (a : Answer) → IsRemovedBy (op.Header image header.Remove) a → a ≡ answer.Done
header_goes image answer.Done gone = refl
header_goes image answer.Absent gone = absurd (cc)
header_goes image _ gone = absurd gone

-- ---- all of it

alone_is_unlinked : (h : HeaderView) → h.parent ≡ None → h.snaps ≡ [] → link_of h ≡ None
alone_is_unlinked h no_parent none = ap (λ parent. first_link parent (parent_in h.snaps)) no_parent ∙ ap parent_in none

module _ (homes : ℕ → SiteId) (home : SiteId) (name : List ℕ) (session : ℕ) where
  -- what the last places did
  went_at : (image : ℕ) (own : HeaderView) (bits : List ℕ) (s : Placed) → (records_after home s.before).headers image ≡ Some own → link_of own ≡ None
      → (n : Placed) (places : List Placed) → ArePlacedRight homes (n ∷ places) → AreOrdered (n ∷ places) → AreBehind s (n ∷ places)
      → AreRemovals home (removal image own bits) (map step_at (n ∷ places)) → effects_of (n ∷ places) ≡ removal_effects image (is_named image (flat_at n))
  went_at image own bits s was alone n [] right ordered behind are = absurd are.3
  went_at image own bits s was alone n (q ∷ places) right ordered behind (naming, frees, freed, (here, is, gone, are)) =
      let at_name = records_at n in
      let removing : Op = op.Directory (directory.Remove image) in
      let told : done_where (holds_id image at_name.directory) ≡ n.done.answer =
      ap (λ (what : Op). answer_served at_name n.done.instance what) (sym frees) ∙ served_there homes n right.0 (step_at n) refl (removed_is_served removing n.done.answer freed) in
      let freeing : n.done.effect ≡ cond (holds_id image at_name.directory) (Some (effect.NameFree image)) None =
      effect_there homes n right.0 (step_at n) refl ∙ ap (λ (what : Op). effect_of at_name (done.Op what) n.done.answer) frees ∙ named_by at_name.directory image n.done.answer told freed in
      let named : holds_id image at_name.directory ≡ is_named image (flat_at n) = ap (λ names. list_any (λ e. e.1 == image) (finmap.entries names)) right.0.standing.stands.names in
      let gone_done : q.done.answer ≡ answer.Done = header_goes image q.done.answer gone in
      let going : q.done.effect ≡ Some (effect.Gone image) =
      effect_there homes q right.1.0 (step_at q) refl
      ∙ ap (λ (what : Op). effect_of (records_at q) (done.Op what) q.done.answer) is
      ∙ ap (λ a. effect_of_op ((records_at q).headers image) (op.Header image header.Remove) a) gone_done in
      let headless = headless_behind homes home image s q own was behind.1.0 (removed_there homes home image q right.1.0 here is gone_done) (rest_of image own bits) places are right.1.1 ordered.1.0 in
      let silent : effects_of places ≡ [] = removed_silently homes home image (rest_of image own bits) (rest_is_silent image own bits alone) places right.1.1 headless are in
      ap (λ e. with_effect e (with_effect q.done.effect (effects_of places))) freeing
      ∙ ap (λ e. with_effect (cond (holds_id image at_name.directory) (Some (effect.NameFree image)) None) (with_effect e (effects_of places))) going
      ∙ ap (λ rest. with_effect (cond (holds_id image at_name.directory) (Some (effect.NameFree image)) None) (effect.Gone image ∷ rest)) silent
      ∙ ap (λ b. with_effect (cond b (Some (effect.NameFree image)) None) (effect.Gone image ∷ [])) named
      ∙ by (is_named image (flat_at n))
    where
      by : (b : Bool) → with_effect (cond b (Some (effect.NameFree image)) None) (effect.Gone image ∷ []) ≡ removal_effects image b
      by true = refl
      by false = refl

  -- the first six places looked alone
  looked_first : (image : ℕ) (first own : HeaderView) (watchers others : List Instance) (bits : List ℕ) (removed : List Answered) → AreRemovals home (removal image own bits) removed → own.snaps ≡ []
      → (places : List Placed) → ArePlacedRight homes places → AreOrdered places
      → map step_at places ≡ found home name image ∷ looked_at home image first ∷ watchers_told home image watchers
      ∷ looked_at home image own ∷ watchers_told home image others ∷ map_told home image bits ∷ removed
      → RemovesAll name places
  looked_first image first own watchers others bits removed are_removed none [] right ordered are = absurd (cc)
  looked_first image first own watchers others bits removed are_removed none (a ∷ []) right ordered are = absurd (cc)
  looked_first image first own watchers others bits removed are_removed none (a ∷ b ∷ []) right ordered are = absurd (cc)
  looked_first image first own watchers others bits removed are_removed none (a ∷ b ∷ c ∷ []) right ordered are = absurd (cc)
  looked_first image first own watchers others bits removed are_removed none (a ∷ b ∷ c ∷ d ∷ []) right ordered are = absurd (cc)
  looked_first image first own watchers others bits removed are_removed none (a ∷ b ∷ c ∷ d ∷ e ∷ []) right ordered are = absurd (cc)
  looked_first image first own watchers others bits removed are_removed none (a ∷ b ∷ c ∷ d ∷ e ∷ f ∷ []) right ordered are =
      let nothing : [] ≡ removed = cc in
      absurd (subst (AreRemovals home (removal image own bits)) (sym nothing) are_removed)
  looked_first image first own watchers others bits removed are_removed none (a ∷ b ∷ c ∷ d ∷ e ∷ f ∷ n ∷ places) right ordered are =
      let a_is : step_at a ≡ found home name image = cc in
      let b_is : step_at b ≡ looked_at home image first = cc in
      let c_is : step_at c ≡ watchers_told home image watchers = cc in
      let d_is : step_at d ≡ looked_at home image own = cc in
      let e_is : step_at e ≡ watchers_told home image others = cc in
      let f_is : step_at f ≡ map_told home image bits = cc in
      let rest_is : removed ≡ map step_at (n ∷ places) = cc in
      let d_right = right.1.1.1.0 in
      let n_right = right.1.1.1.1.1.1 in
      let there : (records_at d).headers image ≡ Some own = there_at homes d d_right home image own d_is in
      let was : (records_after home d.before).headers image ≡ Some own = subst (λ s. (records_after s d.before).headers image ≡ Some own) (ap (λ (s : Answered). s.site) d_is) there in
      record {
        found = a;
        first = b;
        asked = c;
        own = d;
        again = e;
        told = f;
        naming = n;
        rest = places;
        are = refl;
        image = image;
        named = found_there homes a right.0 home name image a_is;
        header = own;
        looked = looks_there d home image own d_is;
        tells = header_there homes d d_right home image own d_is;
        no_snaps = none;
        effects =
            silent_first a (b ∷ c ∷ d ∷ e ∷ f ∷ n ∷ places) (finding_is_silent homes a right.0 home name image a_is)
            ∙ silent_first b (c ∷ d ∷ e ∷ f ∷ n ∷ places) (looking_is_silent homes b right.1.0 home image first b_is)
            ∙ silent_first c (d ∷ e ∷ f ∷ n ∷ places) (effect_there homes c right.1.1.0 (watchers_told home image watchers) c_is)
            ∙ silent_first d (e ∷ f ∷ n ∷ places) (looking_is_silent homes d d_right home image own d_is)
            ∙ silent_first e (f ∷ n ∷ places) (effect_there homes e right.1.1.1.1.0 (watchers_told home image others) e_is)
            ∙ silent_first f (n ∷ places) (effect_there homes f right.1.1.1.1.1.0 (map_told home image bits) f_is)
            ∙ went_at image own bits d was (alone_is_unlinked own (d_right.standing.standalone image own there).no_parent none) n places n_right ordered.1.1.1.1.1.1 ordered.1.1.1.0.1.1
            (subst (AreRemovals home (removal image own bits)) rest_is are_removed);
      }

  pub remove_removes : (places : List Placed) → ArePlacedRight homes places → AreOrdered places → RemovesImage home session name (map step_at places) → RemovesAll name places
  remove_removes places right ordered removes =
      looked_first removes.image removes.first removes.own removes.watchers removes.others removes.bits removes.removed removes.are_removed
      (no_snapshots_listed removes.own removes.may) places right ordered removes.are
