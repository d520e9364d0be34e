-- The hex text of a number reads back to it.
use Rattle.std.proofs.Common.{Bool, List, None, Some, [], ap, arith, cond, eq-eqb, eqb, false, length, nat_lt, option_and_then, refl, suc, sym, true, zero, ℕ, ◌%◌, ◌*◌, ◌+◌, ◌/◌, ◌<◌, ◌^◌, ◌∙◌, ◌∷◌, ◌≡◌, ◌≤◌}
use Rattle.std.proofs.{lemmas.Bool.cond-true, lemmas.Bool.lt-ltb, lemmas.Fmt.digits_is_IsNumeral, lemmas.Fmt.decimal_is_IsNumeral, lemmas.Fmt.length-decimal-le, lemmas.Grind.pow_more, Math.Nat.pow-le-pow_right}
use Rattle.std.specs.{Char.digit_value, Fmt.decimal, Fmt.digit_glyph, Fmt.digits_onto, Str.Parse.AllDigits, Str.Parse.digits_value_after}
unfoldable use Rattle.std.specs.Fmt.{digits}
use Rattle.script_lang.specs.Numbers.{number, number_from}
use Rattle.psa_names.proofs.Digits.{found, number_is}

pub digits_read : (base v : ℕ) (cs : List ℕ) → AllDigits base cs → number_from base v cs ≡ Some (digits_value_after base v cs)
unfolding number_from
digits_read base v [] h = refl
digits_read base v (c ∷ cs) h =
    ap (option_and_then (λ d. number_from base (v * base + d) cs)) (cond-true (nat_lt (digit_value c) base) (Some (digit_value c)) None (lt-ltb (digit_value c) base h.0))
    ∙ digits_read base (v * base + digit_value c) cs h.1

onto_case : (k i n : ℕ) (acc : List ℕ) (b : Bool) → eqb (n / 16) 0 ≡ b →
    ((n / 16 ≡ 0 → ⊥) → length (digits_onto k 16 false (n / 16) (digit_glyph false (n % 16) ∷ acc)) ≤ i + length (digit_glyph false (n % 16) ∷ acc)) →
    length (cond b (digit_glyph false (n % 16) ∷ acc) (digits_onto k 16 false (n / 16) (digit_glyph false (n % 16) ∷ acc))) ≤ suc i + length acc
onto_case k i n acc true e more = omega arith
onto_case k i n acc false e more = omega (arith, more (λ z. let clash : true ≡ false = sym (eq-eqb (n / 16) 0 z) ∙ e in absurd (cc)))

suc-is : (i : ℕ) → suc i ≡ i + 1
suc-is i = omega arith

onto_length : (k i n : ℕ) (acc : List ℕ) → i ≤ k → n < 16 ^ i → 0 < n → length (digits_onto k 16 false n acc) ≤ i + length acc
onto_length zero i n acc h below some = omega arith
onto_length (suc k) zero n acc h below some = absurd (omega arith)
onto_length (suc k) (suc i) n acc h below some =
    let whole : 16 ^ suc i ≡ 16 ^ i * 16 = ap (λ e. 16 ^ e) (suc-is i) ∙ pow_more 16 i in
    onto_case k i n acc (eqb (n / 16) 0) refl (λ more. onto_length k i (n / 16) (digit_glyph false (n % 16) ∷ acc) (omega arith) (omega arith) (omega (arith, more)))

hex_length : (most n : ℕ) → 1 ≤ most → most ≤ 64 → n < 16 ^ most → length (digits 16 false n) ≤ most
unfolding digits
hex_length most zero one h below = omega arith
hex_length most (suc n) one h below = omega (arith, onto_length 64 most (suc n) [] h below (omega arith))

numeral_reads : (base most limit n : ℕ) (cs : List ℕ) → 1 ≤ length cs → length cs ≤ most → AllDigits base cs → digits_value_after base 0 cs ≡ n → n < limit →
    number base most limit cs ≡ Some n
numeral_reads base most limit n cs one few all is below =
    number_is base most limit cs (Some n) one few (sym (digits_read base 0 cs all ∙ ap Some is)) ∙ found limit n below

pub hex_reads : (most limit n : ℕ) → 1 ≤ most → most ≤ 64 → n < 16 ^ most → n < limit → number 16 most limit (digits 16 false n) ≡ Some n
hex_reads most limit n one h below fits =
    let all : 16 ^ most ≤ 16 ^ 64 = pow-le-pow_right (omega arith) h in
    let numeral = digits_is_IsNumeral 16 false (omega arith) (omega arith) n (omega arith) in
    numeral_reads 16 most limit n (digits 16 false n) numeral.0.0 (hex_length most n one h below) numeral.0.1 numeral.1 fits

pub decimal_reads : (n : ℕ) → n < 100 → number 10 2 100 (decimal n) ≡ Some n
decimal_reads n below =
    let numeral = decimal_is_IsNumeral n (omega arith) in
    numeral_reads 10 2 100 n (decimal n) numeral.0.0 (length-decimal-le 2 n (omega arith) (omega arith) (omega arith)) numeral.0.1 numeral.1 below
