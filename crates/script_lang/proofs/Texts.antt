-- Numbers, sessions, names, keys and values: what is read of a text is what the grammar says of it.
use Rattle.std.proofs.Common.{Bool, Err, List, None, Ok, Option, Result, Some, inl, inr, le-ltb, [], ap, arith, cond, eq-eqb, eqb-true, false, get_or, le-leb, leb-true, length, lt-ltb, ltb-false, ltb-true, nat_le, nat_lt, ne_eqb, ok_or, option_and_then, option_map, refl, subst, suc, sym, true, zero, ℕ, ◌&&◌, ◌*◌, ◌+◌, ◌-◌, ◌<◌, ◌==◌, ◌^◌, ◌||◌, ◌∙◌, ◌∷◌, ◌≡◌, ◌≤◌}
use Rattle.script_lang.proofs.Common.{AllPass-from_list_all, and_from, and_parts, BadHandle, BadKey, BadValue, begins_with, both_ways, BytesForm, cond-true, cond_some, decimal, decode_of, digit_in, eqb-false, Field, field_value, FieldValue, Form, form_of, form_value, from_least, Given, handle_at, is_letter, is_name, is_name_byte, IsBadFixed, IsForm, IsKeyWord, IsLetter, IsName, IsNameByte, IsNumber, IsOneTo, IsOwner, key_at, KeyWord, Line, list_all-from_AllPass, LongForm, nat_tests, none-some, number, number_from, option_and_then_some, or_parts, owner_of, Places, same_Some, session_of, ShortForm, UnknownName, WordForm}
use Rattle.std.specs.{Bool.Decides, Result.result_ok, Char.digit_value, Str.Parse.AllDigits, Str.Parse.digits_value, Str.Parse.digits_value_after}
use Rattle.std.proofs.{lemmas.Fmt.decimal_is_IsNumeral, lemmas.Fmt.length-decimal-le, lemmas.Fmt.first_decimal, lemmas.Fmt.decimal-digits_value, lemmas.Fmt.decimal_digit, lemmas.Str.Parse.IsNumeralModel}
use Rattle.script_lang.proofs.{Digits.if_below, Digits.number_is, Digits.found, Ends.Ends, Ends.asked, Ends.fails, Ends.reads}
use Rattle.script_lang.specs.declared.commands.Kind.TheVariants as kind
use Rattle.script_lang.specs.declared.fields.FieldValue.TheVariants.{Short, Word, Long, Bytes}

-- numbers

from_some : (base front : ℕ) (cs : List ℕ) (n : ℕ) → number_from base front cs ≡ Some n → AllDigits base cs × (digits_value_after base front cs ≡ n)
unfolding number_from
from_some base front [] n e = (tt, same_Some front n e)
from_some base front (c ∷ cs) n e = option_and_then_some (λ d. number_from base (front * base + d) cs) (digit_in base c) n e (λ d is more.
    let t = cond_some (nat_lt (digit_value c) base) (digit_value c) d is in
    let h = from_some base (front * base + d) cs n more in
    ((ltb-true _ _ t.0, h.0), ap (λ d. digits_value_after base (front * base + d) cs) t.1 ∙ h.1))

from_digits : (base front : ℕ) (cs : List ℕ) → AllDigits base cs → number_from base front cs ≡ Some (digits_value_after base front cs)
unfolding number_from
from_digits base front [] h = refl
from_digits base front (c ∷ cs) h = rw (lt-ltb (digit_value c) base h.0) (from_digits base (front * base + digit_value c) cs h.1)

pub number_means : (base most limit : ℕ) (text : List ℕ) (n : ℕ) → number base most limit text ≡ Some n → IsNumber base most limit text n
number_means base most limit text n e = go (nat_lt (length text) 1 || nat_lt most (length text)) refl e
  where
    go : (b : Bool) → (nat_lt (length text) 1 || nat_lt most (length text)) ≡ b →
        cond b None (option_and_then (if_below limit) (number_from base 0 text)) ≡ Some n → IsNumber base most limit text n
    go true t f = absurd (none-some n f)
    go false t f = option_and_then_some (if_below limit) (number_from base 0 text) n f (λ m is below.
        let d = from_some base 0 text m is in
        let b = cond_some (nat_lt m limit) m n below in
        let r = or_parts _ _ t in
        ((ltb-false _ _ r.0, d.0), ltb-false _ _ r.1, d.1 ∙ b.1, subst (λ k. k < limit) b.1 (ltb-true _ _ b.0)))

pub number_again : (base most limit : ℕ) (text : List ℕ) (n : ℕ) → IsNumber base most limit text n → number base most limit text ≡ Some n
number_again base most limit text n h =
    number_is base most limit text (Some n) (omega (arith, h.0.0)) h.1 (sym (from_digits base 0 text h.0.1 ∙ ap Some h.2))
    ∙ found limit n h.3

-- a least number

from_least_means : (least n : ℕ) (o : Option ℕ) → from_least least o ≡ Some n → (o ≡ Some n) × (least ≤ n)
from_least_means least n o e = option_and_then_some _ o n e (λ m is low.
    let b = cond_some (nat_le least m) m n low in (is ∙ ap Some b.1, subst (λ k. least ≤ k) b.1 (leb-true _ _ b.0)))

from_least_again : (least n : ℕ) → least ≤ n → from_least least (Some n) ≡ Some n
from_least_again least n h = cond-true (nat_le least n) (Some n) None (le-leb least n h)

-- sessions

own : IsNumeralModel (AllDigits 10) (digits_value 10)
own = record { to = λ ds h. h; from = λ ds h. h; same = λ ds h. refl }

not_zero_first : (word : List ℕ) → begins_with 48 word ≡ false → get_or word 0 0 ≡ 48 → length word ≡ 1
not_zero_first [] h e = absurd (omega arith)
not_zero_first (c ∷ cs) h e = absurd (eqb-false c 48 h e)

pub session_means : (word : List ℕ) (s : ℕ) → session_of word ≡ Some s → IsOneTo 16 word s
unfolding session_of
session_means word s e = go (begins_with 48 word) refl e
  where
    go : (b : Bool) → begins_with 48 word ≡ b → cond b None (from_least 1 (number 10 2 17 word)) ≡ Some s → IsOneTo 16 word s
    go true t f = absurd (none-some s f)
    go false t f =
        let h = from_least_means 1 s (number 10 2 17 word) f in
        let n = number_means 10 2 17 word s h.0 in
        let fits : digits_value 10 word < 2 ^ 64 = omega (arith, n.2, n.3) in
        (sym (decimal-digits_value own word n.0.1 n.0.0 (not_zero_first word t) fits) ∙ ap decimal n.2, h.1, omega (arith, n.3))

first_is_not_zero : (word : List ℕ) → 48 < get_or word 0 0 → begins_with 48 word ≡ false
first_is_not_zero [] h = refl
first_is_not_zero (c ∷ cs) h = ne_eqb c 48 (λ e. absurd (omega arith))

pub session_again : (word : List ℕ) (s : ℕ) → IsOneTo 16 word s → session_of word ≡ Some s
unfolding session_of
session_again word s h =
    let fits : s < 2 ^ 64 = omega (arith, h.2) in
    let numeral = decimal_is_IsNumeral s fits in
    let n : number 10 2 17 (decimal s) ≡ Some s = number_again 10 2 17 (decimal s) s (numeral.0, length-decimal-le 2 s (omega arith) (omega (arith, h.2)) fits, numeral.1, omega (arith, h.2)) in
    rw (h.0, first_is_not_zero (decimal s) (first_decimal s (omega (arith, h.1)) fits), n) (from_least_again 1 s h.1)

-- owners

-- a numeral that may begin with 0 only where it has one digit
only_zero : (word : List ℕ) → (begins_with 48 word && nat_lt 1 (length word)) ≡ false → get_or word 0 0 ≡ 48 → length word ≡ 1
only_zero [] h e = absurd (omega arith)
only_zero (c ∷ cs) h e =
    let none : nat_lt 1 (length (c ∷ cs)) ≡ false = sym (ap (λ b. b && nat_lt 1 (length (c ∷ cs))) (eq-eqb c 48 e)) ∙ h in
    omega (arith, ltb-false 1 (length (c ∷ cs)) none)

pub owner_means : (word : List ℕ) (n : ℕ) → owner_of word ≡ Some n → IsOwner word n
unfolding owner_of
owner_means word n e = go (begins_with 48 word && nat_lt 1 (length word)) refl e
  where
    go : (b : Bool) → (begins_with 48 word && nat_lt 1 (length word)) ≡ b → cond b None (number 10 2 16 word) ≡ Some n → IsOwner word n
    go true t f = absurd (none-some n f)
    go false t f =
        let m = number_means 10 2 16 word n f in
        let fits : digits_value 10 word < 2 ^ 64 = omega (arith, m.2, m.3) in
        (sym (decimal-digits_value own word m.0.1 m.0.0 (only_zero word t) fits) ∙ ap decimal m.2, omega (arith, m.3))

no_zeros_before : (n : ℕ) → n < 2 ^ 64 → (begins_with 48 (decimal n) && nat_lt 1 (length (decimal n))) ≡ false
no_zeros_before zero fits =
    ap (λ b. begins_with 48 (decimal 0) && b) (le-ltb 1 (length (decimal 0)) (length-decimal-le 1 0 (omega arith) (omega arith) fits)) ∙ neither (begins_with 48 (decimal 0))
  where
    neither : (b : Bool) → (b && false) ≡ false
    neither true = refl
    neither false = refl
no_zeros_before (suc m) fits = rw (first_is_not_zero (decimal (suc m)) (first_decimal (suc m) (omega arith) fits)) refl

pub owner_again : (word : List ℕ) (n : ℕ) → IsOwner word n → owner_of word ≡ Some n
unfolding owner_of
owner_again word n h =
    let fits : n < 2 ^ 64 = omega (arith, h.1) in
    let numeral = decimal_is_IsNumeral n fits in
    let same : number 10 2 16 (decimal n) ≡ Some n = number_again 10 2 16 (decimal n) n (numeral.0, length-decimal-le 2 n (omega arith) (omega (arith, h.1)) fits, numeral.1, omega (arith, h.1)) in
    rw (h.0, no_zeros_before n fits) same

-- names

letter : (c : ℕ) → Decides (is_letter c) (IsLetter c)
letter c = (λ e. grind (arith, nat_tests), λ h. grind (arith, nat_tests))

name_byte : (c : ℕ) → Decides (is_name_byte c) (IsNameByte c)
name_byte c = (λ e. grind (arith, nat_tests), λ h. grind (arith, nat_tests))

pub name_means : (word : List ℕ) → is_name word ≡ true → IsName word
unfolding is_name
name_means [] e = cc
name_means (c ∷ cs) e =
    let h = and_parts _ _ e in
    let k = and_parts _ _ h.0 in
    ((letter c).0 k.0, leb-true _ _ k.1, λ i d l. (name_byte (get_or cs i d)).0 (AllPass-from_list_all is_name_byte cs h.1 i d l))

pub name_again : (word : List ℕ) → IsName word → is_name word ≡ true
unfolding is_name
name_again [] h = absurd h
name_again (c ∷ cs) h =
    rw ((letter c).1 h.0, le-leb (length cs) 15 h.1) (list_all-from_AllPass is_name_byte cs (λ i d l. (name_byte (get_or cs i d)).1 (h.2 i d l)))

-- keys

abbrev pub given : ℕ → KeyWord
given n = Given (record { 0 = n })

pub key_ends : (places : Places) (word : List ℕ) → Ends (IsKeyWord places word) (IsBadFixed places kind.Key word) (key_at places word)
unfolding key_at
key_ends places [] = fails (inl (refl, λ names key is. is))
key_ends places (c ∷ cs) = go (c == 35) (c == 36 && is_name cs) refl refl
  where
    none : number 16 8 (2 ^ 32) cs ≡ None → c ≡ 35 → (names : Places) (key : KeyWord) → IsKeyWord names (c ∷ cs) key → ⊥
    none e hash names (Given id) is = none-some id.0 (sym e ∙ number_again 16 8 (2 ^ 32) cs id.0 is.1)
    none e hash names (Line place) is = absurd (omega (arith, hash, is.0))

    neither : (c == 35) ≡ false → (c == 36 && is_name cs) ≡ false → (names : Places) (key : KeyWord) → IsKeyWord names (c ∷ cs) key → ⊥
    neither t u names (Given id) is = eqb-false c 35 t is.0
    neither t u names (Line place) is = both_ways _ u (and_from _ _ (eq-eqb c 36 is.0) (name_again cs is.1))

    by_number : (o : Option ℕ) → number 16 8 (2 ^ 32) cs ≡ o → c ≡ 35 → Ends (IsKeyWord places (c ∷ cs)) (IsBadFixed places kind.Key (c ∷ cs)) (ok_or (option_map given o) BadKey)
    by_number None e hash = fails (inl (refl, none e hash))
    by_number (Some n) e hash = reads (hash, number_means 16 8 (2 ^ 32) cs n e)

    by_name : (o : Option ℕ) → places cs ≡ o → (c ≡ 36) × IsName cs → Ends (IsKeyWord places (c ∷ cs)) (IsBadFixed places kind.Key (c ∷ cs)) (ok_or (option_map Line o) UnknownName)
    by_name None e is = fails (inr (refl, (cs, ap (λ d. d ∷ cs) is.0, is.1, e)))
    by_name (Some place) e is = reads (is.0, is.1, e)

    go : (b d : Bool) → (c == 35) ≡ b → (c == 36 && is_name cs) ≡ d → Ends (IsKeyWord places (c ∷ cs)) (IsBadFixed places kind.Key (c ∷ cs))
        (cond b (ok_or (option_map given (number 16 8 (2 ^ 32) cs)) BadKey) (cond d (ok_or (option_map Line (places cs)) UnknownName) (Err BadKey)))
    go true d t u = by_number (number 16 8 (2 ^ 32) cs) refl (eqb-true c 35 t)
    go false true t u = let k = and_parts _ _ u in by_name (places cs) refl (eqb-true c 36 k.0, name_means cs k.1)
    go false false t u = fails (inl (refl, neither t u))

pub key_again : (places : Places) (word : List ℕ) (key : KeyWord) → IsKeyWord places word key → key_at places word ≡ Ok key
unfolding key_at
key_again places [] key h = absurd h
key_again places (c ∷ cs) (Given id) h = rw (h.0, number_again 16 8 (2 ^ 32) cs id.0 h.1) refl
key_again places (c ∷ cs) (Line place) h = rw (h.0, name_again cs h.1, h.2) refl

-- handles

one_digit : (word : List ℕ) (h : ℕ) → IsOneTo 4 word h → word ≡ (48 + h) ∷ []
one_digit word h is = is.0 ∙ decimal_digit h (omega (arith, is.2))

pub handle_ends : (word : List ℕ) → Ends (IsOneTo 4 word) (λ e. (e ≡ BadHandle) × ((h : ℕ) → IsOneTo 4 word h → ⊥)) (handle_at word)
handle_ends [] = fails (refl, λ h is. let e = one_digit [] h is in cc)
handle_ends (c ∷ []) = go (nat_le 49 c && nat_le c 52) refl
  where
    go : (b : Bool) → (nat_le 49 c && nat_le c 52) ≡ b → Ends (IsOneTo 4 (c ∷ [])) (λ e. (e ≡ BadHandle) × ((h : ℕ) → IsOneTo 4 (c ∷ []) h → ⊥)) (cond b (Ok (c - 48)) (Err BadHandle))
    go true t =
        let k = and_parts _ _ t in let low = leb-true 49 c k.0 in let high = leb-true c 52 k.1 in let same : 48 + (c - 48) ≡ c = omega arith in
        reads (sym (decimal_digit (c - 48) (omega arith) ∙ ap (λ d. d ∷ []) same), omega arith, omega arith)
    go false t = fails (
      refl,
      λ h is. let e = one_digit (c ∷ []) h is in let same : c ≡ 48 + h = cc in let low = is.1 in let high = is.2 in
          both_ways _ t (and_from _ _ (le-leb 49 c (omega arith)) (le-leb c 52 (omega arith))),
    )
handle_ends (c ∷ d ∷ cs) = fails (refl, λ h is. let e = one_digit (c ∷ d ∷ cs) h is in cc)

pub handle_again : (word : List ℕ) (h : ℕ) → IsOneTo 4 word h → handle_at word ≡ Ok h
handle_again word h is =
    let low = is.1 in let high = is.2 in let same : 48 + h - 48 ≡ h = omega arith in
    rw (one_digit word h is, le-leb 49 (48 + h) (omega arith), le-leb (48 + h) 52 (omega arith)) (ap Ok same)

-- values

mapped : {X Y : Type 0} (f : X → Y) (o : Option X) (y : Y) → option_map f o ≡ Some y → (x : X) × (o ≡ Some x) × (f x ≡ y)
mapped f (Some x) y e = (x, refl, same_Some (f x) y e)
mapped f None y e = absurd (none-some y e)

form_means : (form : Form) (text : List ℕ) (v : FieldValue) → form_value form text ≡ Some v → IsForm form text v
form_means (ShortForm base most least limit) text v e =
    let m = mapped Short (from_least least (number base most limit text)) v e in
    let l = from_least_means least m.0 (number base most limit text) m.1 in
    subst (IsForm (ShortForm base most least limit) text) m.2 (number_means base most limit text m.0 l.0, l.1)
form_means WordForm text v e =
    let m = mapped Word (number 16 8 (2 ^ 32) text) v e in
    subst (IsForm WordForm text) m.2 (number_means 16 8 (2 ^ 32) text m.0 m.1)
form_means LongForm text v e =
    let m = mapped Long (number 10 20 (2 ^ 64) text) v e in
    subst (IsForm LongForm text) m.2 (number_means 10 20 (2 ^ 64) text m.0 m.1)
form_means BytesForm text v e = go (nat_lt 32768 (length text)) refl e
  where
    decoded : {E : Type 0} (r : Result (List ℕ) E) (bytes : List ℕ) → result_ok r ≡ Some bytes → r ≡ Ok bytes
    decoded (Ok x) bytes f = ap Ok (same_Some x bytes f)
    decoded (Err d) bytes f = absurd (none-some bytes f)

    go : (b : Bool) → nat_lt 32768 (length text) ≡ b → cond b None (option_map Bytes (result_ok (decode_of text))) ≡ Some v → IsForm BytesForm text v
    go true t f = absurd (none-some v f)
    go false t f =
        let m = mapped Bytes (result_ok (decode_of text)) v f in
        subst (IsForm BytesForm text) m.2 (ltb-false _ _ t, decoded (decode_of text) m.0 m.1)

form_again : (form : Form) (text : List ℕ) (v : FieldValue) → IsForm form text v → form_value form text ≡ Some v
form_again (ShortForm base most least limit) text (Short n) h = rw (number_again base most limit text n h.0) (ap (option_map Short) (from_least_again least n h.1))
form_again WordForm text (Word n) h = ap (option_map Word) (number_again 16 8 (2 ^ 32) text n h)
form_again LongForm text (Long n) h = ap (option_map Long) (number_again 10 20 (2 ^ 64) text n h)
form_again BytesForm text (Bytes b) h = rw (le-ltb 32768 (length text) h.0, h.1) refl
form_again form text v h = absurd h

pub value_ends : (f : Field) (text : List ℕ) → Ends (IsForm (form_of f) text) (λ e. (e ≡ BadValue) × ((v : FieldValue) → IsForm (form_of f) text v → ⊥)) (field_value f text)
unfolding field_value
value_ends f text = asked (form_value (form_of f) text) BadValue (form_means (form_of f) text) (form_again (form_of f) text)

pub value_again : (f : Field) (text : List ℕ) (v : FieldValue) → IsForm (form_of f) text v → field_value f text ≡ Ok v
unfolding field_value
value_again f text v h = ap (λ o. ok_or o BadValue) (form_again (form_of f) text v h)
