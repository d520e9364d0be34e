-- What several proofs of this crate cite of its words, and of other crates'.
pub use Rattle.key_index.specs.{declared.index.Entry.Entry, Index.AreHalvings, Index.IsAlone, Index.IsGap, Index.IsIndexOf, Index.IsSorted, Index.entries_of, Index.entry_at}
pub use Rattle.std.proofs.{lemmas.List.Sorted.IsPermutation-insert, lemmas.List.Sorted.IsPermutation-remove, lemmas.List.Sorted.IsPermutation-sym, lemmas.List.Sorted.sum_by-IsPermutation, lemmas.Bool.cases_eq, lemmas.Bool.cases_lt, lemmas.Bool.eq-eqb, lemmas.Bool.ne_eqb, lemmas.List.get_or_default}
pub use Rattle.std.specs.{List.Sorted.IsPermutation, List.AllWithin, List.remove}
pub use Rattle.std.proofs.Common.{Bool, List, MatchOption, None, Option, Some, [], add-zero, ap, arith, cond, eqb-true, false, get_or, length, refl, suc, sym, true, zero-add, ℕ, ⊎_elim, ◌&&◌, ◌*◌, ◌+◌, ◌-◌, ◌/◌, ◌<◌, ◌==◌, ◌^◌, ◌∙◌, ◌∷◌, ◌≡◌, ◌≢◌, ◌≤◌}
