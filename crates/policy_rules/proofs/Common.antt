-- What several proofs of this crate cite of its words, and of other crates'.
pub use Rattle.alg_encoding.proofs.Readings.{is_wildcard-minimum, minimum_of-concrete}
pub use Rattle.alg_encoding.specs.Encoding.{same_length}
unfoldable pub use Rattle.alg_encoding.specs.Encoding.{base_of, entry_of, is_concrete, is_same_algorithm, is_wildcard, minimum_of, tag_length_of}
pub use Rattle.key_attributes.specs.declared.Attributes.{Attributes}
pub use Rattle.policy_rules.specs.Policy.{HasOneAlgorithm, IsFilled, IsWithin, MayUseBoth, PermitsBoth, allows, chain_of, copy_of, has_usage, longer_of, may_use, meet_of, reaches, with_implied, with_meets}
unfoldable pub use Rattle.policy_rules.specs.Policy.{meet_algorithm, permits_algorithm}
pub use Rattle.policy_rules.specs.declared.narrowing.Label.TheVariants.{Aes256, NoCopy, NoEcb, NoExport}
pub use Rattle.std.proofs.Common.{Bool, IfSome, List, None, Option, Some, [], ap, arith, bit_and, cond, eqb, false, inl, inr, is_some, ltb, not, refl, subst, sym, true, ℕ, ◌&&◌, ◌+◌, ◌<◌, ◌||◌, ◌↔◌, ◌∙◌, ◌∷◌, ◌≡◌, ◌≤◌}
pub use Rattle.std.proofs.lemmas.Bool.{and_from, and_parts, both_ways, cases_Bool, cond_both, eq-eqb, eqb-true, false_from_ne_true, le-leb, leb-true, ltb-false, ltb-true, ne_eqb, not-false, not_from_true, or_left, or_parts, or_right, true_from_ne_false}
