-- The number whose decimal text is given.
use Rattle.std.proofs.Common.{Bool, Err, List, None, Ok, Result, Some, ap, arith, bytes_eq, false, find, inl, inr, not, refl, subst, suc, sym, true, zero, ℕ, ◌+◌, ◌<◌, ◌^◌, ◌∙◌, ◌≡◌, ◌≤◌, ◌⊎◌}
use Rattle.command_words.proofs.Common.{bytes_eq-Decides, decimal, decimal_injective, false_from_ne_true, not-false, number_to, parse-decimal, range_with_len}
use Rattle.std.specs.Str.Parse.{ParsesUnsigned}
use Rattle.std.proofs.Math.Nat.{eq-or-lt_of_le}

find_none : (p : ℕ → Bool) (a n : ℕ) → ((m : ℕ) → a ≤ m → m < a + n → p m ≡ false) → find p (range_with_len a n) ≡ None
find_none p a zero h = refl
find_none p a (suc n) h = rw (h a (omega arith) (omega arith)) (find_none p (a + 1) n (λ m k l. h m (omega arith) (omega arith)))

find_only : (p : ℕ → Bool) (a n m : ℕ) → a ≤ m → m < a + n → p m ≡ true → ((k : ℕ) → a ≤ k → k < m → p k ≡ false) → find p (range_with_len a n) ≡ Some m
find_only p a zero m low high passes others = absurd (omega arith)
find_only p a (suc n) m low high passes others = let both : (a ≡ m) ⊎ (a < m) = eq-or-lt_of_le low in elim both [
  | inl e ↦ rw e (rw passes refl)
  | inr l ↦ rw (others a (omega arith) l) (find_only p (a + 1) n m (omega arith) (omega arith) passes (λ k i j. others k (omega arith) j))
]

-- a number in range whose text it is
pub written : (most n : ℕ) (text : List ℕ) → 1 ≤ n → n ≤ most → most < 2 ^ 32 → decimal n ≡ text → number_to most text ≡ Some n
unfolding number_to
written most n text low high fits e =
    find_only (λ m. bytes_eq (decimal m) text) 1 most n low (omega arith) ((bytes_eq-Decides (decimal n) text).1 e)
    (λ k i j. false_from_ne_true _ (λ t. let same : k ≡ n = decimal_injective k n (omega arith) (omega arith) ((bytes_eq-Decides (decimal k) text).0 t ∙ sym e) in absurd (omega arith)))

-- no number in range has this text
pub not_written : (most : ℕ) (text : List ℕ) → ((n : ℕ) → 1 ≤ n → n ≤ most → decimal n ≡ text → ⊥) → number_to most text ≡ None
unfolding number_to
not_written most text h = find_none (λ m. bytes_eq (decimal m) text) 1 most (λ m i j. false_from_ne_true _ (λ t. h m i (omega arith) ((bytes_eq-Decides (decimal m) text).0 t)))

-- what reads as no number is none
pub unread : {E : Type 0} (most : ℕ) (text : List ℕ) (e : E) (r : Result ℕ E) → most < 2 ^ 32 → ParsesUnsigned 32 10 text r → r ≡ Err e → number_to most text ≡ None
unread {E} most text e r fits parses is = not_written most text
    (λ n low high same. let read : r ≡ Ok n = parse-decimal {E = E} 32 n text r (omega arith) (omega arith) (sym same) parses in absurd (cc (read, is)))

-- where a number was read, no other is written
pub read_other : {E : Type 0} (most m : ℕ) (text : List ℕ) (r : Result ℕ E) → most < 2 ^ 32 → ParsesUnsigned 32 10 text r → r ≡ Ok m →
    (1 ≤ m → m ≤ most → decimal m ≡ text → ⊥) → number_to most text ≡ None
read_other {E} most m text r fits parses is other = not_written most text
    (λ n low high same. let read : r ≡ Ok n = parse-decimal {E = E} 32 n text r (omega arith) (omega arith) (sym same) parses in
    let e : n ≡ m = cc (read, is) in other (subst (λ k. 1 ≤ k) e low) (subst (λ k. k ≤ most) e high) (subst (λ k. decimal k ≡ text) e same))

-- texts that a test found the same, or found different
pub same_texts : (x y : List ℕ) (differ : Bool) → differ ≡ not (bytes_eq x y) → differ ≡ false → x ≡ y
same_texts x y differ e f = (bytes_eq-Decides x y).0 (not-false _ (sym e ∙ f))

pub other_texts : (x y : List ℕ) (differ : Bool) → differ ≡ not (bytes_eq x y) → differ ≡ true → x ≡ y → ⊥
other_texts x y differ e f same = let t : bytes_eq x y ≡ true = (bytes_eq-Decides x y).1 same in let u : true ≡ false = sym f ∙ e ∙ ap not t in cc
