-- Lists of bytes, as what each place reads as.
use Rattle.std.proofs.Common.{List, [], arith, drop, inl, inr, length, nat_lt, slice_index, suc, take, true, zero, ℕ, ◌++◌, ◌+◌, ◌<◌, ◌∷◌, ◌≡◌}
use Rattle.crypto_specs.proofs.Common.{and_parts, AreBytes, cases_lt, get_or-drop, get_or-take, get_or_default, get_or_past, length-take, list_all, ltb-true, xor_bytes, xor_lt}

-- every byte that a list reads as is below 256, also past its end
pub record HasBytes (s : List ℕ) : Type 0 where
  pub at : (i : ℕ) → slice_index s i < 256

pub bytes_of_all : (s : List ℕ) → AreBytes s → HasBytes s
bytes_of_all s h = record { at = λ i. elim (cases_lt i (length s)) [ inl l ↦ h i 0 l | inr g ↦ rw (get_or_past s i 0 g) (omega arith) ] }

pub all_of_bytes : (xs : List ℕ) → HasBytes xs → AreBytes xs
all_of_bytes xs h k d l = rw (get_or_default xs k d 0 l) (h.at k)

pub take_bytes : (n : ℕ) (xs : List ℕ) → HasBytes xs → HasBytes (take n xs)
take_bytes n xs h = record {
  at = λ i. elim (cases_lt i n) [
    | inl l ↦ rw (get_or-take n xs i 0 l) (h.at i)
    | inr g ↦ rw (get_or_past (take n xs) i 0 (omega (arith, length-take n xs))) (omega arith)
  ];
}

pub drop_bytes : (n : ℕ) (xs : List ℕ) → HasBytes xs → HasBytes (drop n xs)
drop_bytes n xs h = record { at = λ i. rw (get_or-drop n xs i 0) (h.at (n + i)) }

pub rest_bytes : (x : ℕ) (xs : List ℕ) → HasBytes (x ∷ xs) → HasBytes xs
rest_bytes x xs h = record { at = λ i. h.at (suc i) }

pub none_bytes : HasBytes []
none_bytes = record { at = λ i. omega arith }

pub more_bytes : {x : ℕ} {xs : List ℕ} → x < 256 → HasBytes xs → HasBytes (x ∷ xs)
more_bytes {x} {xs} h t = record { at = each }
  where
    each : (i : ℕ) → slice_index (x ∷ xs) i < 256
    each zero = h
    each (suc i) = t.at i

pub joined_bytes : (xs ys : List ℕ) → HasBytes xs → HasBytes ys → HasBytes (xs ++ ys)
joined_bytes [] ys h k = k
joined_bytes (x ∷ xs) ys h k = more_bytes (h.at 0) (joined_bytes xs ys (record { at = λ i. h.at (suc i) }) k)

pub xored_bytes : (xs ys : List ℕ) → HasBytes xs → HasBytes ys → HasBytes (xor_bytes xs ys)
xored_bytes [] ys h k = none_bytes
xored_bytes (x ∷ xs) [] h k = none_bytes
xored_bytes (x ∷ xs) (y ∷ ys) h k = more_bytes (xor_lt 8 x y (h.at 0) (k.at 0)) (xored_bytes xs ys (rest_bytes x xs h) (rest_bytes y ys k))

-- a list whose bytes are tried one by one
pub tried_bytes : (xs : List ℕ) → list_all (λ b. nat_lt b 256) xs ≡ true → AreBytes xs
tried_bytes xs h = all_of_bytes xs (each xs h)
  where
    each : (xs : List ℕ) → list_all (λ b. nat_lt b 256) xs ≡ true → HasBytes xs
    each [] h = none_bytes
    each (x ∷ xs) h = let two = and_parts (nat_lt x 256) (list_all (λ b. nat_lt b 256) xs) h in more_bytes (ltb-true x 256 two.0) (each xs two.1)
