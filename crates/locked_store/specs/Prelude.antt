-- The words of this crate that others cite, a line or two for each file that says them.
pub use Rattle.locked_store.specs.Standing.{caller_of}
pub use Rattle.locked_store.specs.Worlds.{World, world_of}
pub use Rattle.locked_store.specs.Shared.{lock_of, opened_of, world}
pub use Rattle.locked_store.specs.Turning.{CreatesKey, DecidesAfter, DecidesBefore, GoesOn, HasNoFilling, HasRoomForLease, IsAt, IsEntered, IsLater, IsLegal, IsOwn, IsRanked, IsStartOf, LeavesAllKeys, ReadsKey, ToldBy, filling_pair, lease_pair, without_pair}
pub use Rattle.locked_store.specs.Elements.{IsLooked}
pub use Rattle.locked_store.specs.Closed.{IsClosed}
pub use Rattle.locked_store.specs.Opening.{FindsKeysIn, IsFileNotOpened, IsNotOpened, IsOpenedOn}
