-- What a site keeps: its directory, the children of its snapshots, its blocklist, the header of
-- each image with who watches it, its object maps, and the data objects of each image by number.
use Rattle.std.specs.Prelude.{ℕ, ◌==◌, nat_eq, if◌then◌else◌, List, [], Option, Some, None}
use Rattle.std.specs.Option.{option_eq}
use Rattle.rbd_kinds.specs.declared.header.HeaderView.{HeaderView}
use Rattle.rbd_kinds.specs.declared.id.Instance.{Instance}
use Rattle.std.specs.FinSet as finset
use Rattle.rbd_fence.specs.Instances.{instance_cmp}
use Rattle.rbd_registry.specs.Children.{entry_cmp}
use Rattle.rbd_registry.specs.Directory.{Listing, nothing_listed}
use Rattle.rbd_object.specs.Mapped.{Mapped, mapped_blank}

pub record Records : Type 0 where
  pub directory : Listing
  pub children : finset.FinSet entry_cmp
  pub blocklist : finset.FinSet instance_cmp
  pub headers : (image : ℕ) → Option HeaderView
  pub watchers : (image : ℕ) → List Instance
  -- the states that a map lists of its objects: of the head's map (None), and of a snapshot's
  pub maps : (image : ℕ) (view : Option ℕ) → Option (List ℕ)
  pub objects : (image number : ℕ) → Option Mapped

abbrev pub no_records : Records
no_records = record {
  directory = nothing_listed;
  children = finset.empty;
  blocklist = finset.empty;
  headers = λ image. None;
  watchers = λ image. [];
  maps = λ image view. None;
  objects = λ image number. None;
}

-- f with another value at one place
abbrev pub put : {T : Type 0} → (ℕ → T) → (place : ℕ) → T → ℕ → T
put f place value n = if n == place then value else f n

-- maps with another one of an image's head or of a snapshot
abbrev pub put_map : {T : Type 0} → ((image : ℕ) (view : Option ℕ) → T) → (image : ℕ) (view : Option ℕ) → T
    → (image : ℕ) (view : Option ℕ) → T
put_map maps image view map = put maps image (λ v. if option_eq nat_eq v view then map else maps image v)

-- an object that nothing was done to is blank
abbrev pub or_blank : Option Mapped → Mapped
or_blank None = mapped_blank
or_blank (Some o) = o

abbrev pub object_at : Records → (image number : ℕ) → Mapped
object_at r image number = or_blank (r.objects image number)

abbrev pub with_directory : Listing → Records → Records
with_directory listing r = record r { directory = listing }

abbrev pub with_children : finset.FinSet entry_cmp → Records → Records
with_children entries r = record r { children = entries }

abbrev pub with_blocklist : finset.FinSet instance_cmp → Records → Records
with_blocklist instances r = record r { blocklist = instances }

abbrev pub with_watchers : (image : ℕ) → List Instance → Records → Records
with_watchers image watchers r = record r { watchers = put r.watchers image watchers }

abbrev pub with_header : (image : ℕ) → Option HeaderView → Records → Records
with_header image header r = record r { headers = put r.headers image header }

abbrev pub with_map : (image : ℕ) (view : Option ℕ) → Option (List ℕ) → Records → Records
with_map image view map r = record r { maps = put_map r.maps image view map }

abbrev pub with_object : (image number : ℕ) → Option Mapped → Records → Records
with_object image number object r = record r { objects = put r.objects image (put (r.objects image) number object) }
