-- Algorithms: a name, and the tag behind it.
use Rattle.std.proofs.Common.{Bool, List, None, Option, Some, [], ap, arith, codes, cond, decimal, drop, eqb, eqb-true, false, find, leb-true, length, map, nat_eq, nat_le, nat_lt, not, option_and_then, refl, subst, sym, take, true, ℕ, ◌&&◌, ◌*◌, ◌++◌, ◌+◌, ◌<◌, ◌^◌, ◌||◌, ◌∙◌, ◌∷◌, ◌≡◌}
use Rattle.std.proofs.{lemmas.Bool.and_parts, lemmas.Bool.ne_eqb, lemmas.Option.cond_some, lemmas.Option.none-some, lemmas.Option.same_Some}
use Rattle.std.specs.{Fmt.digits, List.list_all, List.position_or_len, Option.is_none, Option.option_map, Option.option_or, Option.unwrap_or}
use Rattle.alg_encoding.proofs.Made.{permitted-bounds}
use Rattle.alg_encoding.specs.{Encoding.at_least_of, Encoding.base_of, Encoding.lengths_of, Encoding.truncated_of, Table.has_length, Table.permits_length}
use Rattle.script_lang.specs.Numbers.{digit_in, number, number_from}
use Rattle.psa_names.specs.{Algorithms.algorithm_name, Algorithms.algorithm_named, Algorithms.algorithm_text, Algorithms.gives, Algorithms.length_behind, Algorithms.tagged, Algorithms.name_length, Algorithms.read_algorithm, Algorithms.read_tag, Algorithms.stated_tag, Algorithms.tag_of, Algorithms.tag_text, Names.number_named, Rows.name_row, Tables.algorithms, declared.algorithms.Tag.Tag, declared.names.Name.Name}
use Rattle.psa_names.specs.declared.algorithms.Tag.TheVariants.{Whole, Cut, AtLeast}
use Rattle.psa_names.proofs.{Found.find_facts, Found.found_row, HexText.decimal_reads, HexText.hex_reads, ReadBack.gives-true}

-- ---- what the program writes

abbrev pub text_by : ℕ → Option (ℕ × List ℕ) → List ℕ
text_by n found = unwrap_or (option_and_then (λ (r : ℕ × List ℕ). option_map (λ tag. r.1 ++ tag_text tag) (tag_of r.0 n)) found) (digits 16 false n)

pub text_found : (n base : ℕ) (names : List Name) (found : Option Name) → map name_row names ≡ algorithms → base ≡ base_of n →
    found ≡ find (λ m. nat_eq (base_of m.number) base) names → text_by n (option_map name_row found) ≡ algorithm_text n
unfolding algorithm_text algorithm_name
text_found n base names found rows same is =
    ap (λ o. text_by n (option_map name_row o)) is
    ∙ ap (text_by n) (found_row (λ r. nat_eq (base_of r.0) base) names ∙ ap (find (λ r. nat_eq (base_of r.0) base)) rows)
    ∙ ap (λ b. text_by n (find (λ r. nat_eq (base_of r.0) b) algorithms)) same

pub text_tagged : (n base whole : ℕ) (names : List Name) (name : Name) (tag : Option Tag) → map name_row names ≡ algorithms → base ≡ base_of n →
    Some name ≡ find (λ m. nat_eq (base_of m.number) base) names → whole ≡ name.number → tag ≡ tag_of whole n →
    unwrap_or (option_map (λ t. name.text.now ++ tag_text t) tag) (digits 16 false n) ≡ algorithm_text n
text_tagged n base whole names name tag rows same is number tagged =
    ap (λ o. unwrap_or (option_map (λ t. name.text.now ++ tag_text t) o) (digits 16 false n)) (tagged ∙ ap (λ w. tag_of w n) number)
    ∙ text_found n base names (Some name) rows same is

-- ---- a name is no number, and ends before the tag

more_than_none : (base v : ℕ) (cs ys : List ℕ) (o : Option ℕ) → ((w : ℕ) → number_from base w cs ≡ None → number_from base w (cs ++ ys) ≡ None) →
    option_and_then (λ d. number_from base (v * base + d) cs) o ≡ None → option_and_then (λ d. number_from base (v * base + d) (cs ++ ys)) o ≡ None
more_than_none base v cs ys None more h = refl
more_than_none base v cs ys (Some d) more h = more (v * base + d) h

none_before : (base v : ℕ) (xs ys : List ℕ) → number_from base v xs ≡ None → number_from base v (xs ++ ys) ≡ None
unfolding number_from
none_before base v [] ys h = absurd (none-some v (sym h))
none_before base v (c ∷ cs) ys h = more_than_none base v cs ys (digit_in base c) (λ w. none_before base w cs ys) h

none_either : (b : Bool) (o : Option ℕ) → cond b o o ≡ o
none_either true o = refl
none_either false o = refl

not_number : (base most limit : ℕ) (text : List ℕ) → number_from base 0 text ≡ None → number base most limit text ≡ None
not_number base most limit text h =
    ap (λ o. cond (nat_lt (length text) 1 || nat_lt most (length text)) None (option_and_then (λ n. cond (nat_lt n limit) (Some n) None) o)) h ∙ none_either _ None

abbrev is_mark : ℕ → Bool
is_mark c = nat_eq c 47 || nat_eq c 62

abbrev BeginsMarked : List ℕ → Type 0
BeginsMarked [] = Unit {0}
BeginsMarked (c ∷ cs) = is_mark c ≡ true

lacks : (b : Bool) → not b ≡ true → b ≡ false
lacks true h = sym h
lacks false h = refl

ends_at : (xs ys : List ℕ) → list_all (λ c. not (is_mark c)) xs ≡ true → BeginsMarked ys → position_or_len is_mark (xs ++ ys) ≡ length xs
ends_at [] [] h m = refl
ends_at [] (y ∷ ys) h m = rw m refl
ends_at (x ∷ xs) ys h m =
    let parts = and_parts (not (is_mark x)) (list_all (λ c. not (is_mark c)) xs) h in
    let e = ends_at xs ys parts.1 m in
    rw (lacks (is_mark x) parts.0, e) (omega arith)

take_front : (xs ys : List ℕ) → take (length xs) (xs ++ ys) ≡ xs
take_front [] ys = refl
take_front (x ∷ xs) ys = ap (λ l. x ∷ l) (take_front xs ys)

drop_front : (xs ys : List ℕ) → drop (length xs) (xs ++ ys) ≡ ys
drop_front [] ys = refl
drop_front (x ∷ xs) ys = drop_front xs ys

-- ---- a tag reads back

abbrev IsShort : Tag → Type 0
IsShort Whole = Unit {0}
IsShort (Cut length) = length < 100
IsShort (AtLeast length) = length < 100

tag_behind : (c : ℕ) (cs : List ℕ) → read_tag (c ∷ cs) ≡ option_or (option_map Cut (length_behind (codes "/") (c ∷ cs))) (option_map AtLeast (length_behind (codes ">=") (c ∷ cs)))
unfolding read_tag
tag_behind c cs =
    ap (λ b. cond b (Some Whole) (option_or (option_map Cut (length_behind (codes "/") (c ∷ cs))) (option_map AtLeast (length_behind (codes ">=") (c ∷ cs)))))
    (ne_eqb (length (c ∷ cs)) 0 (λ e. absurd (omega arith)))

cut_is_read : (ds : List ℕ) → length_behind (codes "/") (47 ∷ ds) ≡ number 10 2 100 ds
unfolding length_behind
cut_is_read ds = refl

least_is_read : (ds : List ℕ) → length_behind (codes ">=") (62 ∷ 61 ∷ ds) ≡ number 10 2 100 ds
unfolding length_behind
least_is_read ds = refl

no_cut : (ds : List ℕ) → length_behind (codes "/") (62 ∷ ds) ≡ None
unfolding length_behind
no_cut ds = refl

tag_is_read : (tag : Tag) → IsShort tag → read_tag (tag_text tag) ≡ Some tag
unfolding read_tag
tag_is_read Whole h = refl
tag_is_read (Cut l) h =
    tag_behind 47 (decimal l)
    ∙ ap (λ o. option_or (option_map Cut o) (option_map AtLeast (length_behind (codes ">=") (47 ∷ decimal l)))) (cut_is_read (decimal l) ∙ decimal_reads l h)
tag_is_read (AtLeast l) h =
    tag_behind 62 (61 ∷ decimal l)
    ∙ ap (λ o. option_or (option_map Cut o) (option_map AtLeast (length_behind (codes ">=") (62 ∷ 61 ∷ decimal l)))) (no_cut (61 ∷ decimal l))
    ∙ ap (option_map AtLeast) (least_is_read (decimal l) ∙ decimal_reads l h)

begins_marked : (tag : Tag) → BeginsMarked (tag_text tag)
begins_marked Whole = tt
begins_marked (Cut l) = refl
begins_marked (AtLeast l) = refl

tag_is_short : (tag : Tag) (whole n : ℕ) → tagged tag whole ≡ Some n → IsShort tag
unfolding truncated_of at_least_of
tag_is_short Whole whole n h = tt
tag_is_short (Cut l) whole n h = omega (arith, (permitted-bounds whole l (cond_some (permits_length (lengths_of whole) l) _ n h).0).1)
tag_is_short (AtLeast l) whole n h =
    let parts = and_parts (has_length (lengths_of whole) && nat_le 1 l) (nat_le l 63) (cond_some (has_length (lengths_of whole) && nat_le 1 l && nat_le l 63) _ n h).0 in
    omega (arith, leb-true l 63 parts.1)

made_case : (same made : Bool) (whole n : ℕ) (stated tag : Tag) → eqb whole n ≡ same → gives (tagged stated whole) n ≡ made →
    cond same (Some Whole) (cond made (Some stated) None) ≡ Some tag → tagged tag whole ≡ Some n
made_case true made whole n stated tag e f h = subst (λ t. tagged t whole ≡ Some n) (same_Some Whole tag h) (ap Some (eqb-true whole n e))
made_case false true whole n stated tag e f h = subst (λ t. tagged t whole ≡ Some n) (same_Some stated tag h) (gives-true (tagged stated whole) n f)
made_case false false whole n stated tag e f h = absurd (none-some tag h)

tag_makes : (whole n : ℕ) (tag : Tag) → tag_of whole n ≡ Some tag → tagged tag whole ≡ Some n
unfolding tag_of
tag_makes whole n tag h = made_case (eqb whole n) (gives (tagged (stated_tag n) whole) n) whole n (stated_tag n) tag refl refl h

-- ---- an algorithm reads back

-- whether a row's name reads as its number, is no number, and has no mark in it
abbrev is_known : ℕ × List ℕ → Bool
is_known r = gives (number_named algorithms r.1) r.0 && is_none (number_from 16 0 r.1) && list_all (λ c. not (is_mark c)) r.1

all_known : list_all is_known algorithms ≡ true
unfolding algorithms number_from
all_known = refl

is_none-true : (o : Option ℕ) → is_none o ≡ true → o ≡ None
is_none-true None h = refl
is_none-true (Some n) h = absurd (cc)

abbrev name_and_tag : ℕ → List ℕ → Option ℕ
name_and_tag k text = option_and_then (λ whole. option_and_then (λ tag. tagged tag whole) (read_tag (drop k text))) (number_named algorithms (take k text))

name_is_read : (r : ℕ × List ℕ) (tag : Tag) (n : ℕ) → is_known r ≡ true → tagged tag r.0 ≡ Some n → read_algorithm (r.1 ++ tag_text tag) ≡ Some n
unfolding read_algorithm algorithm_named
name_is_read r tag n known made =
    let text : List ℕ = r.1 ++ tag_text tag in
    let parts = and_parts (gives (number_named algorithms r.1) r.0 && is_none (number_from 16 0 r.1)) (list_all (λ c. not (is_mark c)) r.1) known in
    let front = and_parts (gives (number_named algorithms r.1) r.0) (is_none (number_from 16 0 r.1)) parts.0 in
    let none : number_from 16 0 text ≡ None = none_before 16 0 r.1 (tag_text tag) (is_none-true (number_from 16 0 r.1) front.1) in
    ap (λ o. option_or o (name_and_tag (name_length text) text)) (not_number 16 8 (2 ^ 32) text none)
    ∙ ap (λ k. name_and_tag k text) (ends_at r.1 (tag_text tag) parts.1 (begins_marked tag))
    ∙ ap (λ name. option_and_then (λ whole. option_and_then (λ t. tagged t whole) (read_tag (drop (length r.1) text))) (number_named algorithms name)) (take_front r.1 (tag_text tag))
    ∙ ap (λ rest. option_and_then (λ whole. option_and_then (λ t. tagged t whole) (read_tag rest)) (number_named algorithms r.1)) (drop_front r.1 (tag_text tag))
    ∙ ap (λ o. option_and_then (λ whole. option_and_then (λ t. tagged t whole) (read_tag (tag_text tag))) o) (gives-true (number_named algorithms r.1) r.0 front.0)
    ∙ ap (option_and_then (λ t. tagged t r.0)) (tag_is_read tag (tag_is_short tag r.0 n made))
    ∙ made

hex_is_algorithm : (n : ℕ) → n < 2 ^ 32 → read_algorithm (digits 16 false n) ≡ Some n
unfolding read_algorithm
hex_is_algorithm n h = ap (λ o. option_or o (algorithm_named (digits 16 false n))) (hex_reads 8 (2 ^ 32) n (omega arith) (omega arith) h h)

by_tag : (r : ℕ × List ℕ) (n : ℕ) (o : Option Tag) → is_known r ≡ true → n < 2 ^ 32 → tag_of r.0 n ≡ o →
    read_algorithm (unwrap_or (option_map (λ tag. r.1 ++ tag_text tag) o) (digits 16 false n)) ≡ Some n
by_tag r n None known h is = hex_is_algorithm n h
by_tag r n (Some tag) known h is = name_is_read r tag n known (tag_makes r.0 n tag is)

by_row : (n : ℕ) (o : Option (ℕ × List ℕ)) → n < 2 ^ 32 → find (λ r. eqb (base_of r.0) (base_of n)) algorithms ≡ o → read_algorithm (text_by n o) ≡ Some n
by_row n None h is = hex_is_algorithm n h
by_row n (Some r) h is = by_tag r n (tag_of r.0 n) (find_facts (λ r. eqb (base_of r.0) (base_of n)) is_known algorithms r all_known is).1 h refl

pub algorithm_is_read : (n : ℕ) → n < 2 ^ 32 → read_algorithm (algorithm_text n) ≡ Some n
unfolding algorithm_text algorithm_name
algorithm_is_read n h = by_row n (find (λ r. eqb (base_of r.0) (base_of n)) algorithms) h refl
