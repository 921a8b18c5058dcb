-- What the maps of a site hold, as its records.
use Rattle.std.specs.Prelude.{ℕ, List, [], Option, unwrap_or}
use Rattle.std.specs.Option.{option_cmp}
use Rattle.std.specs.Ordering.{nat_cmp, ordering_then}
use Rattle.std.specs.declared.cmp.Ordering.{Ordering}
use Rattle.std.specs.BTreeMap.{BTreeMap, get}
use Rattle.rbd_kinds.specs.declared.header.HeaderView.{HeaderView}
use Rattle.rbd_kinds.specs.declared.id.Instance.{Instance}
use Rattle.rbd_object.specs.Mapped.{Mapped}
use Rattle.rbd_site.specs.declared.map_key.MapKey.{MapKey}
use Rattle.rbd_site.specs.declared.object_key.ObjectKey.{ObjectKey}
use Rattle.rbd_site.specs.declared.store.Store.{Store}
use Rattle.rbd_site.specs.Records.{Records}

-- objects are kept by image, and then by number
abbrev pub key_cmp : ObjectKey → ObjectKey → Ordering
key_cmp a b = ordering_then (nat_cmp a.image b.image) (nat_cmp a.number b.number)

abbrev pub key : (image number : ℕ) → ObjectKey
key image number = record { image = image; number = number }

-- object maps by image, the head's before those of the snapshots
abbrev pub map_key_cmp : MapKey → MapKey → Ordering
map_key_cmp a b = ordering_then (nat_cmp a.image b.image) (option_cmp nat_cmp a.snap b.snap)

abbrev pub map_key : (image : ℕ) (view : Option ℕ) → MapKey
map_key image view = record { image = image; snap = view }

abbrev pub header_in : BTreeMap ℕ HeaderView → (image : ℕ) → Option HeaderView
header_in headers image = get nat_cmp headers image

-- an image that nobody watches has no list
abbrev pub watchers_in : BTreeMap ℕ (List Instance) → (image : ℕ) → List Instance
watchers_in watchers image = unwrap_or (get nat_cmp watchers image) []

abbrev pub object_in : BTreeMap ObjectKey Mapped → (image number : ℕ) → Option Mapped
object_in objects image number = get key_cmp objects (key image number)

abbrev pub map_in : BTreeMap MapKey (List ℕ) → (image : ℕ) (view : Option ℕ) → Option (List ℕ)
map_in maps image view = get map_key_cmp maps (map_key image view)

-- the records that a store keeps
abbrev pub kept : Store → Records
kept s = record {
  directory = s.directory;
  children = s.children;
  blocklist = s.blocklist;
  headers = header_in s.headers;
  watchers = watchers_in s.watchers;
  maps = map_in s.maps;
  objects = object_in s.objects;
}
