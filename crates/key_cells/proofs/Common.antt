-- What several proofs of this crate cite of its words, and of other crates'.
pub use Rattle.disk_face.proofs.{Images.written_torn, Moments.after_all_push, Moments.promise_begins, Moments.promise_goes_on, Moments.within_both, Moments.within_more, Moments.within_none, Moments.within_one}
pub use Rattle.disk_face.specs.{Disk.Elapses, Disk.Follows, Disk.GivesRange, Disk.GrowsByZeros, Disk.HoldsAround, Disk.HoldsWritten, Disk.LeavesWhatIsRead, Disk.NoNewImage, Disk.StillTells, Disk.Torn, Moments.AfterStep, Moments.LeavesWritten, Moments.Within, Moments.after_all, Moments.written}
pub use Rattle.key_attributes.specs.declared.Attributes.{Attributes}
pub use Rattle.key_cells.specs.{Body.HasKeyUpTo, Body.HoldsId, Body.HoldsKey, Body.HoldsNoKey, Body.IsKeyOf, Body.IsPersistent, Body.front_of, Causes.IsOpenFaultOf, Causes.IsDisk, Causes.IsRefusal, declared.reading.OpenFault.TheVariants.DamagedCell, declared.reading.OpenFault.TheVariants.Disk, declared.reading.OpenFault.TheVariants.NotAStore, declared.layout.TheConstants.HEADER}
unfoldable pub use Rattle.key_cells.specs.Body.{body_of}
pub use Rattle.key_cells.specs.Contents.{Absent, cell_state, Content, content_at, creation_of_state, Doubtful, Fits, FitsCell, FitsEither, Frame, has_id, HasNoKey, HasZeros, is_open, IsFirstWithoutKey, IsSure, KeepsContents, Moves, Present, settled, settled_content, settled_state, settled_states, Shows, Sound, SoundBy, store_frame, StandsForContents, StaysFree, StaysFreeBut}
pub use Rattle.key_cells.specs.{History.AddsEntry, History.AddsEntryOf, History.AddsFailedCreation, History.CellEntry, History.Change, History.Created, History.CreationFailed, History.Destroyed, History.DestructionFailed, History.NotReached, History.Nothing, History.StandsForHistory, History.contents_after, History.changed, History.entry_done, declared.state.CellState.CellState}
pub use Rattle.key_cells.specs.{Image.HasHeader, Image.HasKey, Image.HasNoOpenCell, Image.HoldsSameKeys, Image.HasZerosWhereClosed, Image.IsDamaged, Image.IsFirstDamaged, Image.IsOpen, Image.IsStoreFile, Image.IsStoreOf, Image.Opens, Image.SparesStore, Image.TellsLayout, Inspected.AreFirstKeys, Inspected.HasKeyOf, Inspected.IsInspectFaultOf, Inspected.KeepsKey, declared.cells.Cells.Cells}
unfoldable pub use Rattle.key_cells.specs.Image.{identifier_in}
pub use Rattle.key_cells.specs.Layout.{HasSize, body, cell_count, cells_by, cells_of, closed, gate, layout_by, layout_of, no_more, older_cell_count, older_size, opened_gate, part, place, store_name, store_size}
unfoldable pub use Rattle.key_cells.specs.Layout.{header, zeros}
pub use Rattle.key_cells.specs.Opening.{AreFreeFrom, Clearing, ClearsOn, content_in, content_of, frame_of, Finds, found_in, GivesBlock, GivesPart, HasOneEach, is_opened, IsBadCell, IsBlank, IsFoundIn, IsImageDirectory, IsNamed, IsNumbered, IsSettled, Reads, ReadsBelow, ReadsCell, ReadsKey, Spares, WithinSpares}
unfoldable pub use Rattle.key_cells.specs.Opening.{contents_of}
pub use Rattle.key_cells.specs.{declared.state.CellState.TheVariants.Free, declared.state.CellState.TheVariants.Open, declared.state.CellState.TheVariants.Shut, declared.state.CellState.TheVariants.Unsure, Opened.Calm, Opened.HoldsSinceSync, Opened.IsBlankSinceSync, Opened.IsOpened, Opened.IsOpeningRefused, Opened.SparesSinceSync, Opened.WritesItsOwn}
pub use Rattle.key_record.specs.Record.{IsKept, IsLength, IsNoLength, IsNoRecord, IsRecord, spelling}
pub use Rattle.std.proofs.{lemmas.Bool.cases_eq, lemmas.Bool.cases_lt, lemmas.Bool.eq-eqb, lemmas.Bool.eqb-true, lemmas.Bool.Decides.Decides-eqb, lemmas.List.Sums.count_by_more_no, lemmas.List.Sums.count_by_more_yes, lemmas.List.Sums.sum_by-cons, lemmas.Result.IfErr-weaker, lemmas.Result.IfOk-weaker, lemmas.Result.on_err_weaker, lemmas.Result.on_ok_weaker, lemmas.Slice.Eq.slice_eq-Decides}
pub use Rattle.std.proofs.Common.{Bool, zero, suc, MatchOption, Err, IfErr, IfSome, List, None, Ok, OnErr, OnOk, Option, Result, Some, [], ap, append_assoc, arith, cond, count_by, drop, false, get_or, inl, inr, is_some, length, map, refl, replicate, set, subst, sym, take, true, ℕ, ⊎_elim, ◌*◌, ◌++◌, ◌+◌, ◌-◌, ◌<◌, ◌==◌, ◌^◌, ◌∙◌, ◌∷◌, ◌≡◌, ◌≢◌, ◌≤◌, ◌⊎◌}
pub use Rattle.std.proofs.lemmas.List.{drop-drop, drop-replicate, drop-take, drop_at, ext_get_or, get_or-map, get_or-replicate, get_or-set_other, get_or-set_same, get_or-take, get_or_append_left, get_or_push, get_or_read, length-append, length-drop, length-map, length-replicate, length-set, length-take, map-set, nil_from_length, set-get_or, set-set, take-append-drop, take-map, take-replicate, take-set-le, take-take, take_all, take_at, take_more, take_more_set}
pub use Rattle.secret_bytes.specs.Buffer.{Buffer, buffer_of, bytes_of}
pub use Rattle.std.proofs.lemmas.List.FromFn.{get_or-map-range_with_len, sum_by-map-range_with_len_more}
