-- Usages: texts with commas between them, and the flags that they name.
use Rattle.std.proofs.Common.{Bool, List, None, Option, Some, [], ap, arith, bit_and, bit_or, cond, drop, eq-eqb, eqb, eqb-true, false, filter, length, length-drop, map, nat_eq, nat_lt, not, option_and_then, refl, sym, take, true, ℕ, ◌&&◌, ◌*◌, ◌++◌, ◌+◌, ◌-◌, ◌<◌, ◌^◌, ◌∙◌, ◌∷◌, ◌≡◌, ◌≤◌}
use Rattle.std.proofs.{lemmas.Bool.and_from, lemmas.Bool.and_parts, lemmas.Grind.bit_length, lemmas.Nat.and_le_r, lemmas.Nat.and_mask, lemmas.Nat.Bits.and_pow, lemmas.Nat.Bits.bit_at-lt, lemmas.Nat.Bits.bit_at-zero, lemmas.Nat.Bits.bit_at_and, lemmas.Nat.Bits.bit_at_or, lemmas.Nat.Bits.same_from_bits, lemmas.List.take_all, lemmas.Option.cond_some, lemmas.Option.none-some, lemmas.Option.same_Some}
use Rattle.std.specs.{Fmt.digits, Int.Bits.and_zero_r, Int.bit_at, List.join_with_byte, List.list_all, List.slice_split, Option.option_or}
use Rattle.memchr.specs.Find.{IsFirstByte, is_byte}
use Rattle.script_lang.specs.Numbers.{digit_in, number, number_from}
use Rattle.psa_names.specs.{Algorithms.gives, Names.number_named, Tables.NameTable, Tables.usages, Usages.flag_texts, Usages.states_flag, Usages.names_of, Usages.read_flag, Usages.read_usage, Usages.unnamed, Usages.usage_text, Usages.with_flags}
use Rattle.psa_names.proofs.{HexText.hex_reads, Places.parts_at, ReadBack.gives-true, ReadBack.hex_is_read}

abbrev pub is_comma : ℕ → Bool
is_comma c = nat_eq c 44

-- ---- a text cut at its first comma

pub flags_cut : (usage comma : ℕ) (text : List ℕ) (o : Option ℕ) → IsFirstByte (is_byte 44) text (Some comma) → o ≡ read_flag (take comma text) →
    with_flags usage (slice_split is_comma text) ≡ option_and_then (λ flag. with_flags (bit_or usage flag) (slice_split is_comma (drop (comma + 1) text))) o
unfolding with_flags
flags_cut usage comma text o first is =
    ap (with_flags usage) (parts_at is_comma text (Some comma) first)
    ∙ ap (option_and_then (λ flag. with_flags (bit_or usage flag) (slice_split is_comma (drop (comma + 1) text)))) (sym is)

pub flags_end : (usage : ℕ) (text : List ℕ) (o : Option ℕ) → IsFirstByte (is_byte 44) text None → o ≡ read_flag text →
    with_flags usage (slice_split is_comma text) ≡ option_and_then (λ flag. Some (bit_or usage flag)) o
unfolding with_flags
flags_end usage text o first is =
    ap (with_flags usage) (parts_at is_comma text None first) ∙ ap (option_and_then (λ flag. Some (bit_or usage flag))) (sym is)

-- the flags before the rest of a text are in the usage
pub record IsReadSoFar (usage : ℕ) (rest text : List ℕ) : Type 0 where
  pub read : with_flags usage (slice_split is_comma rest) ≡ with_flags 0 (slice_split is_comma text)
  pub short : length rest ≤ length text

-- ---- the parts of joined texts

abbrev pub lacks_comma : List ℕ → Bool
lacks_comma text = list_all (λ c. not (is_comma c)) text

not_comma : (b : Bool) → not b ≡ true → b ≡ false
not_comma true h = sym h
not_comma false h = refl

split_front : (x ys : List ℕ) → lacks_comma x ≡ true → slice_split is_comma (x ++ (44 ∷ ys)) ≡ x ∷ slice_split is_comma ys
split_front [] ys h = refl
split_front (c ∷ cs) ys h =
    let parts = and_parts (not (is_comma c)) (lacks_comma cs) h in
    rw (not_comma (is_comma c) parts.0, split_front cs ys parts.1) refl

split_whole : (x : List ℕ) → lacks_comma x ≡ true → slice_split is_comma x ≡ x ∷ []
split_whole [] h = refl
split_whole (c ∷ cs) h =
    let parts = and_parts (not (is_comma c)) (lacks_comma cs) h in
    rw (not_comma (is_comma c) parts.0, split_whole cs parts.1) refl

split_joined : (x : List ℕ) (xs : List (List ℕ)) → list_all lacks_comma (x ∷ xs) ≡ true → slice_split is_comma (join_with_byte 44 (x ∷ xs)) ≡ x ∷ xs
split_joined x [] h = split_whole x (and_parts (lacks_comma x) true h).0
split_joined x (y ∷ ys) h =
    let parts = and_parts (lacks_comma x) (list_all lacks_comma (y ∷ ys)) h in
    split_front x (join_with_byte 44 (y ∷ ys)) parts.0 ∙ ap (λ l. x ∷ l) (split_joined y ys parts.1)

-- digits have no comma among them

digit_lacks : (v n c : ℕ) (cs : List ℕ) (b : Bool) → eqb c 44 ≡ b → option_and_then (λ d. number_from 16 (v * 16 + d) cs) (digit_in 16 c) ≡ Some n → not b ≡ true
digit_lacks v n c cs true e h =
    let bad : digit_in 16 c ≡ None = ap (digit_in 16) (eqb-true c 44 e) in
    absurd (none-some n (ap (option_and_then (λ d. number_from 16 (v * 16 + d) cs)) (sym bad) ∙ h))
digit_lacks v n c cs false e h = refl

rest_lacks : (v n : ℕ) (cs : List ℕ) (o : Option ℕ) → ((w : ℕ) → number_from 16 w cs ≡ Some n → lacks_comma cs ≡ true) →
    option_and_then (λ d. number_from 16 (v * 16 + d) cs) o ≡ Some n → lacks_comma cs ≡ true
rest_lacks v n cs None more h = absurd (none-some n h)
rest_lacks v n cs (Some d) more h = more (v * 16 + d) h

digits_lack : (v n : ℕ) (cs : List ℕ) → number_from 16 v cs ≡ Some n → lacks_comma cs ≡ true
unfolding number_from
digits_lack v n [] h = refl
digits_lack v n (c ∷ cs) h = and_from _ _ (digit_lacks v n c cs (eqb c 44) refl h) (rest_lacks v n cs (digit_in 16 c) (λ w. digits_lack w n cs) h)

sized : (b : Bool) (n : ℕ) (o : Option ℕ) (limit : ℕ) → cond b None (option_and_then (λ m. cond (nat_lt m limit) (Some m) None) o) ≡ Some n → o ≡ Some n
sized true n o limit h = absurd (none-some n h)
sized false n None limit h = absurd (none-some n h)
sized false n (Some m) limit h = ap Some (cond_some (nat_lt m limit) m n h).1

number_lacks : (most limit n : ℕ) (text : List ℕ) → number 16 most limit text ≡ Some n → lacks_comma text ≡ true
number_lacks most limit n text h = digits_lack 0 n text (sized _ n (number_from 16 0 text) limit h)

or_zero : (n : ℕ) → bit_or n 0 ≡ n
or_zero n = same_from_bits _ _ (λ i. let o = bit_at_or n 0 i in let z = bit_at-zero i in omega arith)

zero_or : (n : ℕ) → bit_or 0 n ≡ n
zero_or n = same_from_bits _ _ (λ i. let o = bit_at_or 0 n i in let z = bit_at-zero i in omega arith)

pub number_is_usage : (n : ℕ) (text : List ℕ) → number 16 8 (2 ^ 32) text ≡ Some n → read_usage text ≡ Some n
unfolding read_usage with_flags read_flag
number_is_usage n text h =
    ap (with_flags 0) (split_whole text (number_lacks 8 (2 ^ 32) n text h))
    ∙ ap (λ o. option_and_then (λ flag. Some (bit_or 0 flag)) (option_or o (number_named usages text))) h
    ∙ ap Some (zero_or n)

-- ---- the flags of a usage

and_or_both : (n x y : ℕ) → bit_or (bit_and n x) (bit_and n y) ≡ bit_and n (bit_or x y)
and_or_both n x y = same_from_bits _ _ (λ i.
    let l = bit_at_or (bit_and n x) (bit_and n y) i in
    let nx = bit_at_and n x i in
    let ny = bit_at_and n y i in
    let r = bit_at_and n (bit_or x y) i in
    let o = bit_at_or x y i in
    omega arith)

abbrev is_power : ℕ → Bool
is_power flag = eqb flag (2 ^ (bit_length 128 flag - 1))

flag_whole : (bit power whole : ℕ) → bit < 2 → (bit ≡ 0 → ⊥) → whole ≡ bit * power → whole ≡ power
flag_whole bit power whole low some is = let one : bit ≡ 1 = omega (arith, some) in is ∙ ap (λ b. b * power) one ∙ omega arith

flag_there : (n flag : ℕ) (b : Bool) → is_power flag ≡ true → eqb (bit_and n flag) 0 ≡ b → bit_and n flag ≡ cond (not b) flag 0
flag_there n flag true one e = eqb-true (bit_and n flag) 0 e
flag_there n flag false one e =
    let k : ℕ = bit_length 128 flag - 1 in
    let power : flag ≡ 2 ^ k = eqb-true flag (2 ^ k) one in
    let is : bit_and n flag ≡ bit_at n k * 2 ^ k = ap (bit_and n) power ∙ and_pow n k in
    flag_whole (bit_at n k) (2 ^ k) (bit_and n flag) (bit_at-lt n k)
    (λ z. let t : true ≡ false = sym (eq-eqb (bit_and n flag) 0 (is ∙ ap (λ b. b * 2 ^ k) z ∙ omega arith)) ∙ e in cc) is
    ∙ sym power

-- whether a row's name reads as its number, which is one bit
abbrev is_flag : ℕ × List ℕ → Bool
is_flag r = gives (read_flag r.1) r.0 && is_power r.0

abbrev all_bits : ℕ → NameTable → ℕ
all_bits x [] = x
all_bits x (r ∷ rs) = all_bits (bit_or x r.0) rs

with_one : (n x : ℕ) (r : ℕ × List ℕ) (rest tail : List (List ℕ)) (b : Bool) → read_flag r.1 ≡ Some r.0 → bit_and n r.0 ≡ cond (not b) r.0 0 →
    with_flags (bit_and n x) (cond (not b) (r.1 ∷ rest) rest ++ tail) ≡ with_flags (bit_and n (bit_or x r.0)) (rest ++ tail)
unfolding with_flags
with_one n x r rest tail false reads is =
    ap (option_and_then (λ flag. with_flags (bit_or (bit_and n x) flag) (rest ++ tail))) reads
    ∙ ap (λ y. with_flags y (rest ++ tail)) (ap (bit_or (bit_and n x)) (sym is) ∙ and_or_both n x r.0)
with_one n x r rest tail true reads is =
    ap (λ y. with_flags y (rest ++ tail)) (sym (or_zero (bit_and n x)) ∙ ap (bit_or (bit_and n x)) (sym is) ∙ and_or_both n x r.0)

names_step : (n : ℕ) (r : ℕ × List ℕ) (rs : NameTable) (b : Bool) →
    map (λ (q : ℕ × List ℕ). q.1) (cond b (r ∷ filter (λ (q : ℕ × List ℕ). states_flag n q.0) rs) (filter (λ (q : ℕ × List ℕ). states_flag n q.0) rs))
    ≡ cond b (r.1 ∷ names_of rs n) (names_of rs n)
names_step n r rs true = refl
names_step n r rs false = refl

with_names : (n x : ℕ) (rows : NameTable) (tail : List (List ℕ)) → list_all is_flag rows ≡ true →
    with_flags (bit_and n x) (names_of rows n ++ tail) ≡ with_flags (bit_and n (all_bits x rows)) tail
with_names n x [] tail h = refl
with_names n x (r ∷ rs) tail h =
    let parts = and_parts (is_flag r) (list_all is_flag rs) h in
    let one = and_parts (gives (read_flag r.1) r.0) (is_power r.0) parts.0 in
    ap (λ l. with_flags (bit_and n x) (l ++ tail)) (names_step n r rs (states_flag n r.0))
    ∙ with_one n x r (names_of rs n) tail (eqb (bit_and n r.0) 0) (gives-true (read_flag r.1) r.0 one.0) (flag_there n r.0 (eqb (bit_and n r.0) 0) one.1 refl)
    ∙ with_names n (bit_or x r.0) rs tail parts.1

with_rest : (x rest : ℕ) (b : Bool) → eqb rest 0 ≡ b → rest < 2 ^ 32 → with_flags x (cond b [] (digits 16 false rest ∷ [])) ≡ Some (bit_or x rest)
unfolding with_flags read_flag
with_rest x rest true e fits = ap Some (sym (or_zero x) ∙ ap (bit_or x) (sym (eqb-true rest 0 e)))
with_rest x rest false e fits = ap (option_and_then (λ flag. Some (bit_or x flag))) (hex_is_read usages 8 (2 ^ 32) rest (omega arith) (omega arith) fits fits)

flags_known : list_all is_flag usages ≡ true
unfolding usages read_flag number_from
flags_known = refl

flags_named : bit_or (all_bits 0 usages) 0xffff00f8 ≡ 2 ^ 32 - 1
unfolding usages
flags_named = refl

unnamed_fits : (n : ℕ) → unnamed n < 2 ^ 32
unnamed_fits n = omega (arith, and_le_r n 0xffff00f8)

with_all : (n : ℕ) → n < 2 ^ 32 → with_flags 0 (flag_texts n) ≡ Some n
with_all n h =
    ap (λ x. with_flags x (flag_texts n)) (sym (and_zero_r n))
    ∙ with_names n 0 usages (cond (eqb (unnamed n) 0) [] (digits 16 false (unnamed n) ∷ [])) flags_known
    ∙ with_rest (bit_and n (all_bits 0 usages)) (unnamed n) (eqb (unnamed n) 0) refl (unnamed_fits n)
    ∙ ap Some (and_or_both n (all_bits 0 usages) 0xffff00f8 ∙ ap (bit_and n) flags_named ∙ and_mask n 32 ∙ omega arith)

-- ---- what is written has no comma within a part

one_lacks : (b : Bool) (x : List ℕ) (xs tail : List (List ℕ)) → lacks_comma x ≡ true → list_all lacks_comma (xs ++ tail) ≡ true →
    list_all lacks_comma (cond b (x ∷ xs) xs ++ tail) ≡ true
one_lacks true x xs tail h t = and_from _ _ h t
one_lacks false x xs tail h t = t

names_lack : (n : ℕ) (rows : NameTable) (tail : List (List ℕ)) → list_all (λ (r : ℕ × List ℕ). lacks_comma r.1) rows ≡ true → list_all lacks_comma tail ≡ true →
    list_all lacks_comma (names_of rows n ++ tail) ≡ true
names_lack n [] tail h t = t
names_lack n (r ∷ rs) tail h t =
    let parts = and_parts (lacks_comma r.1) (list_all (λ (q : ℕ × List ℕ). lacks_comma q.1) rs) h in
    ap (λ l. list_all lacks_comma (l ++ tail)) (names_step n r rs (states_flag n r.0))
    ∙ one_lacks (states_flag n r.0) r.1 (names_of rs n) tail parts.0 (names_lack n rs tail parts.1 t)

usages_lack : list_all (λ (r : ℕ × List ℕ). lacks_comma r.1) usages ≡ true
unfolding usages
usages_lack = refl

hex_lacks : (rest : ℕ) (b : Bool) → rest < 2 ^ 32 → list_all lacks_comma (cond b [] (digits 16 false rest ∷ [])) ≡ true
hex_lacks rest true h = refl
hex_lacks rest false h = and_from _ _ (number_lacks 8 (2 ^ 32) rest (digits 16 false rest) (hex_reads 8 (2 ^ 32) rest (omega arith) (omega arith) h h)) refl

texts_lack : (n : ℕ) → list_all lacks_comma (flag_texts n) ≡ true
texts_lack n =
    names_lack n usages (cond (eqb (unnamed n) 0) [] (digits 16 false (unnamed n) ∷ [])) usages_lack (hex_lacks (unnamed n) (eqb (unnamed n) 0) (unnamed_fits n))

-- ---- a usage

joined_read : (n : ℕ) (texts : List (List ℕ)) → (n ≡ 0 → ⊥) → list_all lacks_comma texts ≡ true → with_flags 0 texts ≡ Some n →
    read_usage (join_with_byte 44 texts) ≡ Some n
unfolding read_usage with_flags
joined_read n [] some lack is = absurd (some (sym (same_Some 0 n is)))
joined_read n (x ∷ xs) some lack is = ap (with_flags 0) (split_joined x xs lack) ∙ is

zero_read : number 16 8 (2 ^ 32) (48 ∷ []) ≡ Some 0
unfolding number_from
zero_read = refl

usage_case : (n : ℕ) (b : Bool) → eqb n 0 ≡ b → n < 2 ^ 32 → read_usage (cond b (48 ∷ []) (join_with_byte 44 (flag_texts n))) ≡ Some n
usage_case n true e h = number_is_usage 0 (48 ∷ []) zero_read ∙ ap Some (sym (eqb-true n 0 e))
usage_case n false e h = joined_read n (flag_texts n) (λ z. let t : true ≡ false = sym (eq-eqb n 0 z) ∙ e in cc) (texts_lack n) (with_all n h)

pub usage_is_read : (n : ℕ) → n < 2 ^ 32 → read_usage (usage_text n) ≡ Some n
unfolding usage_text
usage_is_read n h = usage_case n (eqb n 0) refl h

-- what is left of a text from a place on
pub rest_from : (i : ℕ) (text : List ℕ) → take (length text - i) (drop i text) ≡ drop i text
rest_from i text = take_all (length text - i) (drop i text) (omega (arith, length-drop i text))
