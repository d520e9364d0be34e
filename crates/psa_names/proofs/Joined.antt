-- Texts that are written one after the other, with commas between them.
use Rattle.std.proofs.Common.{Bool, List, [], append_assoc, ap, bit_and, cond, eq-eqb, eqb, false, filter, get_or, length, map, not, refl, subst, sym, take, true, ℕ, ◌++◌, ◌+◌, ◌<◌, ◌∙◌, ◌∷◌, ◌≡◌, ◌≤◌}
use Rattle.std.proofs.lemmas.List.Elements.{filter_more}
use Rattle.std.proofs.{lemmas.Bool.ne_eqb, lemmas.List.append-nil, lemmas.List.map-append, lemmas.List.take_all}
use Rattle.std.specs.{Fmt.digits, List.join_with_byte}
use Rattle.psa_names.specs.{Rows.name_row, Tables.usages, Usages.flag_texts, Usages.states_flag, Usages.names_of, Usages.unnamed, declared.names.Name.Name}

abbrev pub are_none : List (List ℕ) → Bool
are_none [] = true
are_none (x ∷ xs) = false

pub record IsJoined (text : List ℕ) (is_first : Bool) (parts : List (List ℕ)) : Type 0 where
  pub joined : text ≡ join_with_byte 44 parts
  pub first : is_first ≡ are_none parts

join_more : (xs : List (List ℕ)) (x : List ℕ) → join_with_byte 44 (xs ++ (x ∷ [])) ≡ join_with_byte 44 xs ++ cond (are_none xs) x (44 ∷ x)
join_more [] x = refl
join_more (y ∷ []) x = refl
join_more (y ∷ z ∷ zs) x = ap (λ t. y ++ (44 ∷ t)) (join_more (z ∷ zs) x) ∙ sym (append_assoc y (44 ∷ join_with_byte 44 (z ∷ zs)) (44 ∷ x))

none_after : (xs : List (List ℕ)) (x : List ℕ) → are_none (xs ++ (x ∷ [])) ≡ false
none_after [] x = refl
none_after (y ∷ ys) x = refl

pub joined_more : (text next : List ℕ) (is_first : Bool) (xs : List (List ℕ)) (x : List ℕ) → IsJoined text is_first xs → next ≡ text ++ cond is_first x (44 ∷ x) →
    IsJoined next false (xs ++ (x ∷ []))
joined_more text next is_first xs x so is = record {
  joined = is ∙ ap (λ b. text ++ cond b x (44 ∷ x)) so.first ∙ ap (λ t. t ++ cond (are_none xs) x (44 ∷ x)) so.joined ∙ sym (join_more xs x);
  first = sym (none_after xs x);
}

-- the names of a usage's flags, from the program's table
abbrev pub texts_in : ℕ → List Name → List (List ℕ)
texts_in usage names = map (λ (n : Name). n.text.now) (filter (λ (n : Name). states_flag usage n.number) names)

texts_step : (usage : ℕ) (n : Name) (ns : List Name) (b : Bool) → texts_in usage ns ≡ names_of (map name_row ns) usage →
    map (λ (n : Name). n.text.now) (cond b (n ∷ filter (λ (n : Name). states_flag usage n.number) ns) (filter (λ (n : Name). states_flag usage n.number) ns))
    ≡ map (λ (r : ℕ × List ℕ). r.1) (cond b (name_row n ∷ filter (λ (r : ℕ × List ℕ). states_flag usage r.0) (map name_row ns)) (filter (λ (r : ℕ × List ℕ). states_flag usage r.0) (map name_row ns)))
texts_step usage n ns true h = ap (λ l. n.text.now ∷ l) h
texts_step usage n ns false h = h

pub texts_are_names : (usage : ℕ) (names : List Name) → texts_in usage names ≡ names_of (map name_row names) usage
texts_are_names usage [] = refl
texts_are_names usage (n ∷ ns) = texts_step usage n ns (states_flag usage n.number) (texts_are_names usage ns)

one_text : (b : Bool) (n : Name) → map (λ (m : Name). m.text.now) (cond b (n ∷ []) []) ≡ cond b (n.text.now ∷ []) []
one_text true n = refl
one_text false n = refl

texts_more : (usage i : ℕ) (names : List Name) (d : Name) → i < length names →
    texts_in usage (take (i + 1) names) ≡ texts_in usage (take i names) ++ cond (states_flag usage (get_or names i d).number) ((get_or names i d).text.now ∷ []) []
texts_more usage i names d h =
    ap (map (λ (m : Name). m.text.now)) (filter_more (λ (m : Name). states_flag usage m.number) names i d h)
    ∙ map-append (λ (m : Name). m.text.now) _ _
    ∙ ap (λ l. texts_in usage (take i names) ++ l) (one_text (states_flag usage (get_or names i d).number) (get_or names i d))

flag_is : (usage flag : ℕ) (b : Bool) → eqb (bit_and usage flag) 0 ≡ b → states_flag usage flag ≡ not b
flag_is usage flag b e = ap not e

-- one more row of the table, whose flag is there
pub with_name : (text next : List ℕ) (is_first : Bool) (usage i : ℕ) (names : List Name) (d : Name) → i < length names → (bit_and usage (get_or names i d).number ≡ 0 → ⊥) →
    IsJoined text is_first (texts_in usage (take i names)) → next ≡ text ++ cond is_first (get_or names i d).text.now (44 ∷ (get_or names i d).text.now) →
    IsJoined next false (texts_in usage (take (i + 1) names))
with_name text next is_first usage i names d h there so is =
    let name = get_or names i d in
    let more = texts_more usage i names d h ∙ ap (λ b. texts_in usage (take i names) ++ cond b (name.text.now ∷ []) []) (flag_is usage name.number false (ne_eqb _ 0 there)) in
    subst (IsJoined next false) (sym more) (joined_more text next is_first (texts_in usage (take i names)) name.text.now so is)

-- or isn't
pub without_name : (text : List ℕ) (is_first : Bool) (usage i : ℕ) (names : List Name) (d : Name) → i < length names → bit_and usage (get_or names i d).number ≡ 0 →
    IsJoined text is_first (texts_in usage (take i names)) → IsJoined text is_first (texts_in usage (take (i + 1) names))
without_name text is_first usage i names d h none so =
    let name = get_or names i d in
    let more = texts_more usage i names d h ∙ ap (λ b. texts_in usage (take i names) ++ cond b (name.text.now ∷ []) []) (flag_is usage name.number true (eq-eqb _ 0 none)) ∙ append-nil _ in
    subst (IsJoined text is_first) (sym more) so

pub joined_at : (text other : List ℕ) (is_first other_first : Bool) (parts : List (List ℕ)) → text ≡ other → is_first ≡ other_first →
    IsJoined other other_first parts → IsJoined text is_first parts
joined_at text other is_first other_first parts e f so = record { joined = e ∙ so.joined; first = f ∙ so.first }

all_names : (usage i : ℕ) (names : List Name) → map name_row names ≡ usages → length names ≤ i → texts_in usage (take i names) ≡ names_of usages usage
all_names usage i names rows h = ap (texts_in usage) (take_all i names h) ∙ texts_are_names usage names ∙ ap (λ l. names_of l usage) rows

-- the bits without a name, where there are some
pub with_hex : (text out hex : List ℕ) (is_first : Bool) (usage i : ℕ) (names : List Name) → map name_row names ≡ usages → length names ≤ i →
    IsJoined text is_first (texts_in usage (take i names)) → (unnamed usage ≡ 0 → ⊥) → hex ≡ digits 16 false (unnamed usage) → out ≡ text ++ cond is_first hex (44 ∷ hex) →
    out ≡ join_with_byte 44 (flag_texts usage)
with_hex text out hex is_first usage i names rows h so some is e =
    let joined = joined_more text out is_first (texts_in usage (take i names)) hex so e in
    joined.joined
    ∙ ap (λ l. join_with_byte 44 (l ++ (hex ∷ []))) (all_names usage i names rows h)
    ∙ ap (λ x. join_with_byte 44 (names_of usages usage ++ (x ∷ []))) is
    ∙ ap (λ b. join_with_byte 44 (names_of usages usage ++ cond b [] (digits 16 false (unnamed usage) ∷ []))) (sym (ne_eqb (unnamed usage) 0 some))

pub without_hex : (text : List ℕ) (is_first : Bool) (usage i : ℕ) (names : List Name) → map name_row names ≡ usages → length names ≤ i →
    IsJoined text is_first (texts_in usage (take i names)) → unnamed usage ≡ 0 → text ≡ join_with_byte 44 (flag_texts usage)
without_hex text is_first usage i names rows h so none =
    so.joined
    ∙ ap (join_with_byte 44) (all_names usage i names rows h ∙ sym (append-nil (names_of usages usage)))
    ∙ ap (λ b. join_with_byte 44 (names_of usages usage ++ cond b [] (digits 16 false (unnamed usage) ∷ []))) (sym (eq-eqb (unnamed usage) 0 none))
