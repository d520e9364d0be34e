-- Numbers read digit by digit.
use Rattle.std.proofs.Common.{List, None, Option, Some, add-one, ap, arith, cond, drop, drop-cons, get_or, le-ltb, length, lt-ltb, nat_lt, option_and_then, refl, sym, ℕ, ◌*◌, ◌+◌, ◌<◌, ◌^◌, ◌∙◌, ◌≡◌, ◌≤◌}
use Rattle.std.proofs.{lemmas.Bool.cond-false, lemmas.Bool.cond-true, lemmas.Bool.or_from, lemmas.Grind.pow_more, lemmas.List.at_drop_all, Math.Nat.mul-le-mul_left, Math.Nat.pow-le-pow_right}
use Rattle.script_lang.specs.Numbers.{digit_in, number, number_from}

pub at_digit : (base v i c : ℕ) (o : Option ℕ) (cs : List ℕ) → i < length cs → get_or cs i 0 ≡ c → o ≡ digit_in base c →
    number_from base v (drop i cs) ≡ option_and_then (λ d. number_from base (v * base + d) (drop (i + 1) cs)) o
unfolding number_from
at_digit base v i c o cs h e f = rw (f, drop-cons cs i 0, e, add-one) refl

pub at_end : (base v i : ℕ) (cs : List ℕ) → length cs ≤ i → number_from base v (drop i cs) ≡ Some v
unfolding number_from
at_end base v i cs h = at_drop_all (number_from base v) cs i h

abbrev pub if_below : ℕ → ℕ → Option ℕ
if_below limit n = cond (nat_lt n limit) (Some n) None

pub number_is : (base most limit : ℕ) (text : List ℕ) (o : Option ℕ) → 1 ≤ length text → length text ≤ most → o ≡ number_from base 0 text →
    number base most limit text ≡ option_and_then (if_below limit) o
number_is base most limit text o h k e =
    ap (λ b. cond b None (option_and_then (if_below limit) (number_from base 0 text))) (or_from _ _ (le-ltb (length text) 1 h) (le-ltb most (length text) k)) ∙ ap (option_and_then (if_below limit)) (sym e)

pub found : (limit n : ℕ) → n < limit → if_below limit n ≡ Some n
found limit n h = cond-true (nat_lt n limit) (Some n) None (lt-ltb n limit h)

pub not_found : (limit n : ℕ) → limit ≤ n → if_below limit n ≡ None
not_found limit n h = cond-false (nat_lt n limit) (Some n) None (le-ltb n limit h)

-- the digits before place i spell v
pub record IsReadSoFar (base i v : ℕ) (cs : List ℕ) : Type 0 where
  pub read : number_from base v (drop i cs) ≡ number_from base 0 cs
  pub below : v < 16 ^ i

pub below_next : (base i v d : ℕ) → base ≤ 16 → d < base → v < 16 ^ i → v * base + d < 16 ^ (i + 1)
below_next base i v d b h k = let whole : 16 ^ (i + 1) ≡ 16 ^ i * 16 = pow_more 16 i in let most : v * base ≤ v * 16 = mul-le-mul_left v b in omega arith

pub fits : (i v : ℕ) → i ≤ 8 → v < 16 ^ i → v < 2 ^ 32
fits i v h k = let most : 16 ^ i ≤ 16 ^ 8 = pow-le-pow_right (omega arith) h in omega arith
