-- What is known of a fence: whose it is, and that it is forgotten once it was used.
use Rattle.std.proofs.Common.{◌≡◌, ◌≢◌, ℕ, ◌&&◌, cond, Bool, true, false, ◌∷◌, Option, Some, None, refl, sym, ap, ◌∙◌}
use Rattle.std.specs.Prelude.{IsFalse}
use Rattle.std.proofs.lemmas.Bool.{true≢false, and_parts}
use Rattle.std.proofs.lemmas.Option.{none-some}
use Rattle.rbd_kinds.specs.declared.header.HeaderView.{HeaderView}
use Rattle.rbd_kinds.specs.declared.id.Instance.{Instance}
use Rattle.rbd_kinds.specs.declared.id.SiteId.{SiteId}
use Rattle.rbd_kinds.specs.Instances.{same_instance}
use Rattle.rbd_kinds.specs.declared.sharing.Sharing.{Sharing}
use Rattle.rbd_kinds.specs.Sharing.{is_alone}
use Rattle.rbd_kinds.proofs.Images.{same_site_itself}
use Rattle.rbd_kinds.proofs.Instances.{same_instance_is, same_instance_itself}
use Rattle.rbd_machine.specs.Knowledge.{Knowledge, Own, Fence, own_of, is_fence_of, is_fenced_by, same_site, unfenced, with_fence, without_fence}
use Rattle.rbd_machine.specs.Permits.{HoldsUnlooked}

abbrev pub fence : SiteId → Instance → Fence
fence site i = record { site = site; instance = i }

pub fence_of_itself : (site : SiteId) (i : Instance) → is_fence_of site i (fence site i) ≡ true
fence_of_itself site i = ap (λ b. b && same_instance i i) (same_site_itself site) ∙ same_instance_itself i

pub fence_is_known : (k : Knowledge) (site : SiteId) (i : Instance) → is_fenced_by (with_fence site i k).fenced site i ≡ true
fence_is_known k site i = ap (λ b. cond b true (is_fenced_by k.fenced site i)) (fence_of_itself site i)

unknown : (k : Knowledge) (site there : SiteId) (i other : Instance) → is_fence_of there other (fence site i) ≡ false
    → is_fenced_by (with_fence site i k).fenced there other ≡ is_fenced_by k.fenced there other
unknown k site there i other differ = ap (λ b. cond b true (is_fenced_by k.fenced there other)) differ

pub fence_is_of_no_other : (k : Knowledge) (site there : SiteId) (i other : Instance) → other ≢ i
    → is_fenced_by (with_fence site i k).fenced there other ≡ is_fenced_by k.fenced there other
fence_is_of_no_other k site there i other differ = unknown k site there i other (by (is_fence_of there other (fence site i)) refl)
  where
    by : (b : Bool) → is_fence_of there other (fence site i) ≡ b → b ≡ false
    by false is = refl
    by true is = absurd (differ (sym (same_instance_is i other (and_parts (same_site site there) (same_instance i other) is).1)))

pub fence_is_not_elsewhere : (k : Knowledge) (site there : SiteId) (i other : Instance) → IsFalse (same_site site there)
    → is_fenced_by (with_fence site i k).fenced there other ≡ is_fenced_by k.fenced there other
fence_is_not_elsewhere k site there i other differ = unknown k site there i other (ap (λ b. b && same_instance i other) differ)

pub fence_is_forgotten : (k : Knowledge) (site : SiteId) (i : Instance) → without_fence site i (with_fence site i k) ≡ k
fence_is_forgotten k site i = ap (λ b. record k { fenced = cond b k.fenced (fence site i ∷ unfenced site i k.fenced) }) (fence_of_itself site i)

-- ---- locks that are given up

abbrev alone_in : Option Own → Bool
alone_in None = false
alone_in (Some o) = is_alone o.sharing

abbrev header_in : Option Own → Option HeaderView
header_in None = None
header_in (Some o) = o.header

module _ (k : Knowledge) (site : SiteId) (image : ℕ) (holds : HoldsUnlooked k site image) where
  pub held_by_somebody : own_of k.owns site image ≡ None → ⊥
  held_by_somebody none = true≢false (ap alone_in (sym holds.is ∙ none))

  pub held_alone : (sharing : Sharing) (header : Option HeaderView) → is_alone sharing ≡ false → own_of k.owns site image ≡ Some (record { site = site; image = image; sharing = sharing; header = header }) → ⊥
  held_alone sharing header shared is = true≢false (ap alone_in (sym holds.is ∙ is) ∙ shared)

  pub held_unlooked : (sharing : Sharing) (h : HeaderView) → own_of k.owns site image ≡ Some (record { site = site; image = image; sharing = sharing; header = Some h }) → ⊥
  held_unlooked sharing h is = none-some h (ap header_in (sym holds.is ∙ is))
