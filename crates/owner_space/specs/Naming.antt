-- What the sessions of a script ask of the store, and what they are told, by how they name keys.
use Rattle.std.specs.Prelude.{ℕ, List, Option, None, Some}
use Rattle.store_model.specs.{Call.Reply, Requests.Request}
use Rattle.owner_space.specs.{declared.names.Names.Names, declared.names.Names.TheVariants.Unowned, declared.names.Names.TheVariants.Owned, Owners.owners_in, Owners.request_inside, Owners.reply_outside}

-- how sessions name keys that have these owners, or none
abbrev pub names_by : Option (List ℕ) → Names
names_by None = Unowned
names_by (Some owners) = Owned owners

-- what is asked of the store where a caller asks for this
abbrev pub asked : Names → (caller : ℕ) → Request → Request
asked Unowned caller request = request
asked (Owned map) caller request = request_inside (owners_in map) caller request

-- what a caller is told where the store replies this
abbrev pub told : Names → Reply → Reply
told Unowned reply = reply
told (Owned map) reply = reply_outside reply
