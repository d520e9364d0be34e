-- What several proofs of this crate cite of its words, and of other crates'.
pub use Rattle.key_attributes.specs.declared.Attributes.{Attributes}
pub use Rattle.key_cells.proofs.{Bodies.of_one_key, Moves.doubt_after, Moves.moves_after_settled, Moves.moves_none, Moves.moves_settled, Moves.settled_alike, Moves.settled_open, Moves.some_image, Counts.count_same, Counts.has_id_open, Free.free_set_after, Free.not_free_as, Free.open_not_free, Free.stays_free_both, Free.stays_free_set}
pub use Rattle.key_cells.specs.Prelude.{Absent, body, cell_count, cell_state, cells_by, cells_of, Content, content_at, content_of, creation_of_state, CreationFailed, Doubtful, Finds, Fits, FitsCell, found_in, gate, has_id, HasKey, HasOneEach, HoldsId, HoldsKey, is_open, IsDamaged, IsFirstWithoutKey, IsFoundIn, IsFull, IsOpened, IsSure, Moves, MovesEither, opened_gate, Present, settled, settled_content, settled_state, settled_states, Shows}
unfoldable pub use Rattle.key_cells.specs.Prelude.{body_of}
pub use Rattle.key_cells.specs.{declared.state.CellState.CellState, declared.state.CellState.TheVariants.Free, declared.state.CellState.TheVariants.Open, declared.state.CellState.TheVariants.Shut, declared.state.CellState.TheVariants.Unsure, Contents.StaysFree, Contents.StaysFreeBut}
pub use Rattle.persistent_keys.specs.Files.{AreFound, Doubt, FitsKeys, IsDoubted, IsDoubtedIn, IsFiled, IsOf, IsPut, Keys, Leads, StandsForKeys, Stored, TellsCell, stored}
pub use Rattle.std.proofs.{lemmas.Bool.cases_eq, lemmas.Bool.eqb-true, lemmas.List.get_or-map, lemmas.List.get_or-replicate, lemmas.List.get_or-set_other, lemmas.List.get_or-set_same, lemmas.List.length-map, lemmas.List.length-set, lemmas.List.map-set}
pub use Rattle.std.proofs.Common.{Err, IfSome, List, None, Option, Some, [], ap, arith, cond, eq-eqb, false, inl, inr, length, ne_eqb, refl, set, subst, suc, sym, true, zero, ℕ, ⊎_elim, ◌+◌, ◌<◌, ◌==◌, ◌∙◌, ◌∷◌, ◌≡◌, ◌≢◌, ◌≤◌, ◌⊎◌}
