-- Worked examples of identifiers: caller 1 has owner 1, caller 2 has owner 2, and every other one owner 0.
use Rattle.owner_space.proofs.Common.{Owners, inside, inside_created, outside}
use Rattle.owner_space.specs.Owners.{owners_in}
use Rattle.std.specs.Prelude.{[], refl, ◌∷◌, ◌≡◌}

abbrev owners : Owners
owners = owners_in (1 ∷ 2 ∷ [])

-- each owner has a key 7 of its own
seventh_of_1 : inside owners 1 7 ≡ 0x04000007
seventh_of_1 = refl

seventh_of_2 : inside owners 2 7 ≡ 0x08000007
seventh_of_2 = refl

seventh_told : outside 0x08000007 ≡ 7
seventh_told = refl

-- 0 is no key, for every owner
none : inside owners 2 0 ≡ 0
none = refl

-- a volatile key of caller 1 is its owner's alone
volatile_of_1 : inside owners 1 0x40100000 ≡ 0x40100000
volatile_of_1 = refl

volatile_of_another : inside owners 2 0x40100000 ≡ 0x7fffffff
volatile_of_another = refl

volatile_told : outside 0x40100000 ≡ 0x40100000
volatile_told = refl

-- there is no caller 17
past_callers : inside owners 0 0x41100000 ≡ 0x7fffffff
past_callers = refl

-- 3ffffff is the last identifier that an owner can state
last_stated : inside_created 15 0x03ffffff ≡ 0x3fffffff
last_stated = refl

past_stated : inside_created 1 0x04000000 ≡ 0x7fffffff
past_stated = refl

-- no key is created under the identifier of a volatile one
volatile_stated : inside_created 1 0x40100000 ≡ 0x7fffffff
volatile_stated = refl
