-- The place at which a text is cut.
use Rattle.std.proofs.Common.{[], Bool, List, None, Option, Some, arith, length, take, drop, false, ap, ℕ, ◌+◌, ◌∙◌, ◌∷◌, ◌≡◌}
use Rattle.std.specs.{List.position_or_len, List.slice_split, Option.unwrap_or, Option.MatchOption}
use Rattle.std.proofs.{lemmas.Bool.false_from_ne_true, lemmas.List.Elements.All-from_get_or, lemmas.List.Sums.position_or_len_is, lemmas.List.Splits.slice_split_first, lemmas.List.Splits.slice_split_none}
use Rattle.memchr.specs.Find.{IsFirstByte}

pub first_place : (p : ℕ → Bool) (xs : List ℕ) (r : Option ℕ) → IsFirstByte p xs r → position_or_len p xs ≡ unwrap_or r (length xs)
first_place p xs None first = position_or_len_is p xs (length xs) 0 (omega arith) (λ k l. false_from_ne_true _ (first k (omega arith) l)) (λ l. absurd (omega arith))
first_place p xs (Some i) first =
    position_or_len_is p xs i 0 (omega (arith, first.0.high)) (λ k l. false_from_ne_true _ (first.0.before k (omega arith) l)) (λ l. first.1)

-- the parts of a text by the place of the first cut
pub parts_at : (p : ℕ → Bool) (xs : List ℕ) (r : Option ℕ) → IsFirstByte p xs r →
    MatchOption r (slice_split p xs ≡ xs ∷ []) (λ i. slice_split p xs ≡ take i xs ∷ slice_split p (drop (i + 1) xs))
parts_at p xs None first = slice_split_none p xs (All-from_get_or (λ x. p x ≡ false) xs 0 (λ k l. false_from_ne_true _ (first k (omega arith) l)))
parts_at p xs (Some i) first =
    let e : position_or_len p xs ≡ i = first_place p xs (Some i) first in
    slice_split_first p xs 0 (omega (arith, first.0.high))
    ∙ ap (λ j. take j xs ∷ slice_split p (drop (j + 1) xs)) e
