-- Blocks joined, of one length and of any.
use Rattle.std.proofs.{Common.List, Common.[], Common.ap, Common.append_assoc, Common.ap₂, Common.arith, Common.drop, Common.length, Common.min, Common.suc, Common.sym, Common.take, Common.zero, Common.ℕ, Common.◌*◌, Common.◌++◌, Common.◌+◌, Common.◌∙◌, Common.◌≡◌, Common.◌≤◌, Math.Seq.drop-append-add}
use Rattle.derivation_states.proofs.Common.{append-nil, drop-take, length-append, length-take, mul-suc, take-append-le, take-take, take_min}

-- the blocks 1 to m
abbrev pub joined : (ℕ → List ℕ) → ℕ → List ℕ
joined f zero = []
joined f (suc i) = joined f i ++ f (suc i)

-- what has no bytes at first, and grows by the blocks
pub joined_is : (f g : ℕ → List ℕ) → g 0 ≡ [] → ((i : ℕ) → g (suc i) ≡ g i ++ f (suc i)) → (m : ℕ) → g m ≡ joined f m
joined_is f g none more zero = none
joined_is f g none more (suc i) = more i ∙ ap (λ (l : List ℕ). l ++ f (suc i)) (joined_is f g none more i)

joined_add : (f : ℕ → List ℕ) (i k : ℕ) → joined f (i + k) ≡ joined f i ++ joined (λ j. f (i + j)) k
joined_add f i zero = let e : i + zero ≡ i = omega arith in ap (joined f) e ∙ sym (append-nil (joined f i))
joined_add f i (suc k) =
    let e : i + suc k ≡ suc (i + k) = omega arith in
    ap (joined f) e ∙ ap₂ (λ (a b : List ℕ). a ++ b) (joined_add f i k) (ap f (sym e)) ∙ append_assoc (joined f i) (joined (λ j. f (i + j)) k) (f (i + suc k))

-- the front of more blocks begins with that of fewer ones, whether there are so many bytes or not
pub front_begins : (f : ℕ → List ℕ) (n m i k : ℕ) → take (length (take n (joined f i))) (take (n + m) (joined f (i + k))) ≡ take n (joined f i)
front_begins f n m i k =
    let x : List ℕ = joined f i in
    let all : List ℕ = x ++ joined (λ j. f (i + j)) k in
    let some : ℕ = min n (length x) in
    ap₂ (λ (j : ℕ) (l : List ℕ). take j (take (n + m) l)) (length-take n x) (joined_add f i k)
    ∙ take-take some (n + m) all (omega arith) ∙ take-append-le some x (joined (λ j. f (i + j)) k) (omega arith) ∙ take_min n x

module _ (f : ℕ → List ℕ) (h : ℕ) (long : (i : ℕ) → length (f (suc i)) ≡ h) where
  pub length-joined : (m : ℕ) → length (joined f m) ≡ h * m
  length-joined zero = omega arith
  length-joined (suc i) = omega (arith, length-append (joined f i) (f (suc i)), length-joined i, long i, mul-suc h i)

  -- more blocks leave the front
  more : (n m k : ℕ) → n ≤ h * m → take n (joined f (m + k)) ≡ take n (joined f m)
  more n m k l = ap (take n) (joined_add f m k) ∙ take-append-le n (joined f m) (joined (λ j. f (m + j)) k) (omega (arith, length-joined m))

  -- enough blocks, one way or the other
  pub front : (n m k : ℕ) → n ≤ h * m → n ≤ h * k → take n (joined f m) ≡ take n (joined f k)
  front n m k lm lk =
      let e : m + k ≡ k + m = omega arith in
      sym (more n m k lm) ∙ ap (λ (i : ℕ). take n (joined f i)) e ∙ more n k m lk

  -- some bytes of block i + 1
  pub piece : (t i used n : ℕ) → t ≡ h * i + used → drop t (take (t + n) (joined f (suc i))) ≡ take n (drop used (f (suc i)))
  piece t i used n place =
      let block : List ℕ = f (suc i) in
      let before : List ℕ = joined f i in
      let start : t ≡ length before + used = omega (arith, length-joined i) in
      drop-take t n (before ++ block) ∙ ap (λ (k : ℕ). take n (drop k (before ++ block))) start
      ∙ ap (take n) (drop-append-add before block used)
