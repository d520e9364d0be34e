-- What several proofs of this crate cite of its words, and of other crates'.
pub use Rattle.driver_dispatch.specs.{Calls.IsSomeKey, Held.HeldKey, Held.HeldKeys, Held.held_key, Held.no_keys, Held.with_held_key, Held.with_key_or_same, Held.without_key}
pub use Rattle.soft_driver.specs.{Room.HasHandleAt, Room.IsGapFor, Room.IsKeyRoom, Room.LacksHandle, Room.Lies, Room.key_held, Room.keys_of, Sizes.IsSized, declared.held.Held.Held}
pub use Rattle.std.proofs.{lemmas.Bool.Decides.nat_tests, lemmas.Cmp.nat_cmp_total}
