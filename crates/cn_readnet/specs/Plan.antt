-- The plan that a text stands for, or its first fault.
-- Of a table its keys are read in the order that stands here, and after them a key that isn't
-- listed is a fault.
use Rattle.std.specs.Prelude.{ℕ, ℤ, pos, Bool, true, if◌then◌else◌, codes, List, [], ◌∷◌, ◌++◌, Option, Some, None, ok_or, Result, Ok, Err}
use Rattle.std.specs.Ordering.{int_eq}
use Rattle.toml.specs.Data.{Data, Members, get_member, as_array, as_bool}
use Rattle.cn_base.specs.Entry.{EntryValue}
use Rattle.cn_net.specs.declared.device.Own.{Own}
use Rattle.cn_net.specs.declared.device.Policy.{Policy}
use Rattle.cn_net.specs.declared.draft.DeviceDraft.{DeviceDraft}
use Rattle.cn_net.specs.declared.draft.LinkDraft.{LinkDraft}
use Rattle.cn_net.specs.declared.draft.PeerDraft.{PeerDraft}
use Rattle.cn_text.specs.declared.answer.TextAnswer.{TextAnswer}
use Rattle.cn_text.specs.declared.answer.TextAnswer.TheVariants.{Key, Shape, Value, Version}
use Rattle.cn_table.specs.Document.{document_of}
use Rattle.cn_lists.specs.Steps.{◌>>=◌}
use Rattle.cn_table.specs.Tables.{front_of, needed, text_of, integer_of, table_of, name_in, name_at, name_if_at, address_at, prefix_at, path_at, origin_at, number_at, array_at, each, only}
use Rattle.cn_readnet.specs.Atoms.{own_of, entry_of}
use Rattle.cn_readnet.specs.declared.plan.NetText.{NetText}
use Rattle.cn_readnet.specs.declared.record.RowDraft.{RowDraft}
use Rattle.cn_readnet.specs.declared.selection.NameSelection.{NameSelection}
use Rattle.cn_readnet.specs.declared.selection.NameSelection.TheVariants.{Must, Emulate}

-- ---- devices

-- a prefix that a device originates
unfoldable pub own_in : List ℕ → Data → Result Own TextAnswer
own_in path d = do
  text ← text_of path d
  ok_or (own_of text) (Value path)

-- what a device originates, nothing where the key is absent
unfoldable pub own_at : List ℕ → Members → Result (List Own) TextAnswer
own_at front ms = do
  items ← array_at front (codes "own") ms
  each own_in (front ++ codes "own") 0 items

-- an entry of a prefix list
unfoldable pub entry_in : List ℕ → Data → Result EntryValue TextAnswer
entry_in path d = do
  text ← text_of path d
  ok_or (entry_of text) (Value path)

-- a prefix list, which an absent key isn't: an empty one denies all, and none permits all
abbrev pub list_in : List ℕ → Option Data → Result (Option (List EntryValue)) TextAnswer
list_in path None = Ok None
list_in path (Some d) = do
  items ← ok_or (as_array d) (Shape path)
  entries ← each entry_in path 0 items
  Ok (Some entries)

unfoldable pub list_at : List ℕ → List ℕ → Members → Result (Option (List EntryValue)) TextAnswer
list_at front key ms = list_in (front ++ key) (get_member key ms)

-- how many more copies of its AS number than one a device puts in front, none where the key is
-- absent
abbrev pub prepend_if : Option Data → List ℕ → Members → Result ℕ TextAnswer
prepend_if None front ms = Ok 0
prepend_if (Some d) front ms = number_at 0 254 front (codes "prepend") ms

unfoldable pub prepend_at : List ℕ → Members → Result ℕ TextAnswer
prepend_at front ms = prepend_if (get_member (codes "prepend") ms) front ms

-- what a device accepts from a peer, what it tells it, and how long it makes its paths
unfoldable pub policy_in : List ℕ → Members → Result Policy TextAnswer
policy_in front ms = do
  heard ← list_at front (codes "import") ms
  told ← list_at front (codes "export") ms
  prepend ← prepend_at front ms
  Ok (record { import = heard; export = told; prepend = prepend })

abbrev pub peer_keys : List (List ℕ)
peer_keys = codes "name" ∷ codes "import" ∷ codes "export" ∷ codes "prepend" ∷ []

unfoldable pub only_peer_keys : List ℕ → Members → Result (Unit {0}) TextAnswer
only_peer_keys front ms = only front peer_keys ms

-- a peer, by its name, and the policy for it
unfoldable pub peer_in : List ℕ → Members → Result PeerDraft TextAnswer
peer_in front ms = do
  name ← name_at front (codes "name") ms
  policy ← policy_in front ms
  no_more ← only_peer_keys front ms
  Ok (record { name = name; policy = policy })

unfoldable pub peer_of : List ℕ → Data → Result PeerDraft TextAnswer
peer_of path d = do
  ms ← table_of path d
  peer_in (front_of path) ms

-- the peers of a device that have a policy, none where the key is absent
unfoldable pub peers_at : List ℕ → Members → Result (List PeerDraft) TextAnswer
peers_at front ms = do
  items ← array_at front (codes "peer") ms
  each peer_of (front ++ codes "peer") 0 items

abbrev pub device_keys : List (List ℕ)
device_keys =
    codes "name" ∷ codes "layer" ∷ codes "asn" ∷ codes "id" ∷ codes "own" ∷ codes "peer" ∷ []

-- a device: its AS number is not 0 (RFC 7607), and its BGP Identifier is written as an address
unfoldable pub device_in : List ℕ → Members → Result DeviceDraft TextAnswer
device_in front ms = do
  name ← name_at front (codes "name") ms
  layer ← number_at 0 255 front (codes "layer") ms
  asn ← number_at 1 4294967295 front (codes "asn") ms
  id ← address_at front (codes "id") ms
  own ← own_at front ms
  peers ← peers_at front ms
  no_more ← only front device_keys ms
  Ok (record {
    name = name;
    layer = layer;
    id = record { 0 = id };
    body = record { asn = record { 0 = asn }; own = own; peers = peers };
  })

unfoldable pub device_of : List ℕ → Data → Result DeviceDraft TextAnswer
device_of path d = do
  ms ← table_of path d
  device_in (front_of path) ms

-- ---- links

-- whether a link is up, which it is where the key is absent
abbrev pub up_in : List ℕ → Option Data → Result Bool TextAnswer
up_in path None = Ok true
up_in path (Some d) = ok_or (as_bool d) (Shape path)

unfoldable pub up_at : List ℕ → Members → Result Bool TextAnswer
up_at front ms = up_in (front ++ codes "up") (get_member (codes "up") ms)

abbrev pub link_keys : List (List ℕ)
link_keys = codes "a" ∷ codes "b" ∷ codes "up" ∷ []

-- a link, by the names of its ends
unfoldable pub link_in : List ℕ → Members → Result LinkDraft TextAnswer
link_in front ms = do
  a ← name_at front (codes "a") ms
  b ← name_at front (codes "b") ms
  up ← up_at front ms
  no_more ← only front link_keys ms
  Ok (record { a = a; b = b; up = up })

unfoldable pub link_of : List ℕ → Data → Result LinkDraft TextAnswer
link_of path d = do
  ms ← table_of path d
  link_in (front_of path) ms

-- ---- records

abbrev pub record_keys : List (List ℕ)
record_keys = codes "device" ∷ codes "prefix" ∷ codes "path" ∷ codes "origin" ∷ codes "from" ∷ []

-- what a device holds for a prefix, which is its own where no sender is named
unfoldable pub record_in : List ℕ → Members → Result RowDraft TextAnswer
record_in front ms = do
  device ← name_at front (codes "device") ms
  prefix ← prefix_at front (codes "prefix") ms
  path ← path_at front (codes "path") ms
  origin ← origin_at front (codes "origin") ms
  from ← name_if_at front (codes "from") ms
  no_more ← only front record_keys ms
  Ok (record { device = device; prefix = prefix; path = path; origin = origin; from = from })

unfoldable pub record_of : List ℕ → Data → Result RowDraft TextAnswer
record_of path d = do
  ms ← table_of path d
  record_in (front_of path) ms

-- ---- the plan

-- the version is 1
abbrev pub is_version : ℤ → Result (Unit {0}) TextAnswer
is_version z = if int_eq z (pos 1) then Ok tt else Err (Version z)

unfoldable pub version_at : Members → Result (Unit {0}) TextAnswer
version_at ms = do
  d ← needed [] (codes "version") ms
  z ← integer_of (codes "version") d
  is_version z

-- the names that an array of strings holds
unfoldable pub names_in : List ℕ → Data → Result (List (List ℕ)) TextAnswer
names_in path d = do
  items ← ok_or (as_array d) (Shape path)
  each name_in path 0 items

-- `emulate` isn't there, whatever it would hold
abbrev pub alone : Option Data → Result (Unit {0}) TextAnswer
alone None = Ok tt
alone (Some d) = Err (Key (codes "emulate"))

-- `must` is read whole before `emulate` is looked for
unfoldable pub must_in : Data → Option Data → Result NameSelection TextAnswer
must_in must emulate = do
  names ← names_in (codes "must") must
  only_must ← alone emulate
  Ok (Must names)

unfoldable pub emulate_in : Data → Result NameSelection TextAnswer
emulate_in emulate = do
  names ← names_in (codes "emulate") emulate
  Ok (Emulate names)

-- the names by which devices are selected: exactly one of `must` and `emulate` is there
abbrev pub selection_in : Option Data → Option Data → Result NameSelection TextAnswer
selection_in (Some must) emulate = must_in must emulate
selection_in None (Some emulate) = emulate_in emulate
selection_in None None = Err (Key (codes "must"))

unfoldable pub selection_at : Members → Result NameSelection TextAnswer
selection_at ms = selection_in (get_member (codes "must") ms) (get_member (codes "emulate") ms)

-- the devices, none where the key is absent
unfoldable pub devices_at : Members → Result (List DeviceDraft) TextAnswer
devices_at ms = do
  items ← array_at [] (codes "device") ms
  each device_of (codes "device") 0 items

-- the links, none where the key is absent
unfoldable pub links_at : Members → Result (List LinkDraft) TextAnswer
links_at ms = do
  items ← array_at [] (codes "link") ms
  each link_of (codes "link") 0 items

-- the records, none where the key is absent
unfoldable pub records_at : Members → Result (List RowDraft) TextAnswer
records_at ms = do
  items ← array_at [] (codes "record") ms
  each record_of (codes "record") 0 items

abbrev pub plan_keys : List (List ℕ)
plan_keys =
    codes "version" ∷ codes "must" ∷ codes "emulate" ∷ codes "device" ∷ codes "link"
    ∷ codes "record" ∷ []

-- the top table has the keys of a plan alone
unfoldable pub only_plan_keys : Members → Result (Unit {0}) TextAnswer
only_plan_keys ms = only [] plan_keys ms

unfoldable pub plan_in : Members → Result NetText TextAnswer
plan_in ms = do
  version ← version_at ms
  selection ← selection_at ms
  devices ← devices_at ms
  links ← links_at ms
  rows ← records_at ms
  no_more ← only_plan_keys ms
  Ok (record {
    draft = record { devices = devices; links = links };
    selection = selection;
    rows = rows;
  })

-- the plan that bytes stand for, by the table that they are as TOML
unfoldable pub plan_of : List ℕ → Result NetText TextAnswer
plan_of bytes = do
  ms ← document_of bytes
  plan_in ms
