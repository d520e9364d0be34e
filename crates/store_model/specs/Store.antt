-- The one-thread store.
use Rattle.std.specs.{Prelude.ℕ, Prelude.◌+◌, Prelude.◌*◌, Prelude.◌/◌, Prelude.◌^◌, Prelude.◌&&◌, Prelude.◌||◌, Prelude.Bool, Prelude.true, Prelude.false, Prelude.not, Prelude.List, Prelude.[], Prelude.◌∷◌, Prelude.◌==◌, Prelude.nat_le, Prelude.nat_lt, Prelude.length, Prelude.replicate, Prelude.get_or, Prelude.Option, Option.option_map_or, List.list_any, Ordering.nat_cmp}
use Rattle.std.specs.FinMap as map
use Rattle.key_attributes.specs.{declared.Attributes.Attributes, Checks.persistence, Checks.location}
use Rattle.policy_rules.specs.declared.narrowing.Label.{Label}
use Rattle.store_model.specs.{declared.limits.Limits.Limits, declared.limits.Limits.TheVariants.Whole, declared.limits.Limits.TheVariants.PerRange}

-- a key that is alive: its creation number, attributes and bytes, and the caller that created it (0 where it was found)
pub record Key : Type 0 where
  pub number : ℕ
  pub attributes : Attributes
  pub bytes : List ℕ
  pub creator : ℕ

abbrev pub KeyMap : Type 0
KeyMap = map.FinMap nat_cmp Key

-- what never changes: the seed, the labels of the rules in their order, the locations with a driver, and the limits
pub record Settings : Type 0 where
  pub seed : List ℕ
  pub labels : List Label
  pub locations : List ℕ
  pub limits : Limits

-- the store, which all callers share: its keys by their identifiers, how many volatile keys each caller has made, by
-- the caller's number (0 is nobody's), the calls so far, how many keys were found at opening, and what never changes
pub record Store : Type 0 where
  pub keys : KeyMap
  pub made : List ℕ
  pub calls : ℕ
  pub found : ℕ
  pub settings : Settings

-- how many callers there are
abbrev pub caller_count : ℕ
caller_count = 16

-- a key that was found at opening
pub record OpenedKey : Type 0 where
  pub attributes : Attributes
  pub bytes : List ℕ

-- keys that were found, numbered in their order from a number on
abbrev pub found_from : ℕ → List OpenedKey → KeyMap
found_from n [] = map.empty
found_from n (key ∷ keys) =
    map.insert (found_from (n + 1) keys) key.attributes.id.0 (record { number = n; attributes = key.attributes; bytes = key.bytes; creator = 0 })

-- before any call, with the keys that were found
abbrev pub start_of : Settings → List OpenedKey → Store
start_of settings found = record { keys = found_from 0 found; made = replicate (caller_count + 1) 0; calls = 0; found = length found; settings = settings }

-- how many volatile keys a caller has made
abbrev pub made_of : Store → ℕ → ℕ
made_of store caller = get_or store.made caller 0

-- whether a driver of the secure element's location is there
abbrev pub has_secure_element : Store → Bool
has_secure_element store = list_any (λ location. location == 1) store.settings.locations

abbrev pub is_volatile : Attributes → Bool
is_volatile a = persistence a.lifetime.0 == 0

-- a key that the secure element holds
abbrev pub is_opaque : Attributes → Bool
is_opaque a = location a.lifetime.0 == 1

abbrev pub is_persistent_key : Option Key → Bool
is_persistent_key found = option_map_or (λ key. not (is_volatile key.attributes)) found false

abbrev pub is_opaque_key : Option Key → Bool
is_opaque_key found = option_map_or (λ key. is_opaque key.attributes) found false

-- the identifiers of a caller's volatile keys
abbrev pub first_volatile : ℕ → ℕ
first_volatile caller = 0x40000000 + caller * 2 ^ 20

-- the identifier of the next volatile key of a caller
abbrev pub next_volatile : Store → ℕ → ℕ
next_volatile store caller = first_volatile caller + made_of store caller

abbrev pub is_volatile_of : ℕ → ℕ → Bool
is_volatile_of caller id = id / 2 ^ 20 == 1024 + caller

-- how many volatile keys of a caller are alive
abbrev pub live_volatile : KeyMap → ℕ → ℕ
live_volatile keys caller = map.len (map.retain_keys keys (is_volatile_of caller))

-- how many persistent keys there are: their identifiers are below every volatile key's
abbrev pub is_low : ℕ → Bool
is_low id = nat_lt id 0x40000000

abbrev pub count_persistent : KeyMap → ℕ
count_persistent keys = map.len (map.retain_keys keys is_low)

-- how many of them have identifiers of a range
abbrev pub is_in_range : (range id : ℕ) → Bool
is_in_range range id = is_low id && (id / 2 ^ 26 == range)

abbrev pub count_in_range : KeyMap → (range : ℕ) → ℕ
count_in_range keys range = map.len (map.retain_keys keys (is_in_range range))

-- how many persistent keys a store has room for, and a range where the limits are by range
abbrev pub persistent_limit : ℕ
persistent_limit = 2048

abbrev pub range_limit : ℕ
range_limit = 128

abbrev pub is_per_range : Limits → Bool
is_per_range Whole = false
is_per_range PerRange = true

-- whether a store has no room for a persistent key of this identifier
abbrev pub lacks_room : Store → ℕ → Bool
lacks_room store id = nat_le persistent_limit (count_persistent store.keys)
    || (is_per_range store.settings.limits && nat_le range_limit (count_in_range store.keys (id / 2 ^ 26)))
