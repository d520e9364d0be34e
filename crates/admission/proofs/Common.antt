-- What several proofs of this crate cite of its words, and of other crates'.
pub use Rattle.admission.specs.{Apply.Narrows, Apply.after_rules, Apply.is_one_of, Words.label_named, Words.labels_in, Words.labels_named}
pub use Rattle.policy_rules.specs.declared.narrowing.Label.{Label}
pub use Rattle.std.proofs.Common.{Bool, Err, IfOk, List, None, Ok, Option, Result, Some, [], ap, append-nil, append_assoc, arith, cond, drop, eqb, false, filter, length, map, not, refl, rules, subst, sym, true, ℕ, ◌&&◌, ◌++◌, ◌<◌, ◌==◌, ◌∙◌, ◌∷◌, ◌≡◌}
