-- The words of this crate that others cite, a line or two for each file that says them.
pub use Rattle.key_cells.specs.Layout.{body, cell_count, cells_by, cells_of, closed, gate, opened_gate, place, store_size}
unfoldable pub use Rattle.key_cells.specs.Layout.{zeros}
pub use Rattle.key_record.specs.Record.{FitsRecord}
pub use Rattle.key_cells.specs.Body.{HoldsId, HoldsKey, IsKeyOf, IsPersistent}
unfoldable pub use Rattle.key_cells.specs.Body.{body_of}
pub use Rattle.key_cells.specs.Contents.{Absent, Content, CreationFailed, Doubtful, Fits, FitsCell, HasNoKey, HasZeros, IsFirstWithKey, IsFirstWithoutKey, IsFull, IsSure, Moves, MovesEither, Present, Shows, Sound, StandsForContents, cell_state, content_at, creation_of_state, has_id, is_open, settled, settled_content, settled_state, settled_states}
pub use Rattle.key_cells.specs.Image.{HasKey, IsDamaged, IsFirstDamaged, IsNoStore, IsOpenable, Opens}
pub use Rattle.key_cells.specs.Opening.{Finds, HasOneEach, IsFoundIn, IsNamed, IsNumbered, content_of, found_in}
pub use Rattle.key_cells.specs.Directory.{has_id_by, is_of_range}
pub use Rattle.key_cells.specs.Opened.{Calm, IsOpened, IsOpenedFile, IsOpeningRefused}
