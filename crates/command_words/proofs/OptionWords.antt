-- What is an option's word to the grammar is one to `clap`.

use Rattle.std.proofs.Common.{rules, Bool, List, None, Option, Some, [], ap, bytes_eq, cond, false, find, option_map, refl, subst, sym, true, ℕ, ◌∙◌, ◌∷◌, ◌≡◌}
use Rattle.command_words.proofs.Common.{after_first, all_options, before_first, bytes_eq-Decides, false_from_ne_true, is_equals, list_any, long_of, long_of_rest, none-some, option_id, option_in, option_name, option_named, Rules, RunOption, same_Some, Seed, Workers}

found_passes : {X : Type 0} (p : X → Bool) (xs : List X) (x : X) → find p xs ≡ Some x → p x ≡ true
found_passes p [] x e = absurd (none-some x e)
found_passes {X} p (y ∷ ys) x e = go (p y) refl e (found_passes p ys x)
  where
    go : (b : Bool) → p y ≡ b → cond b (Some y) (find p ys) ≡ Some x → (find p ys ≡ Some x → p x ≡ true) → p x ≡ true
    go true t f more = subst (λ z. p z ≡ true) (same_Some y x f) t
    go false t f more = more f

named : (name : List ℕ) (option : RunOption) → option_named name ≡ Some option → option_name option ≡ name
named name option e = (bytes_eq-Decides (option_name option) name).0 (found_passes (λ o. bytes_eq (option_name o) name) all_options option e)

front : (byte : ℕ) (rest : List ℕ) → is_equals byte ≡ false → before_first is_equals (byte ∷ rest) ≡ byte ∷ before_first is_equals rest
front byte rest t = search rules

-- a word whose part before `=` begins with a byte
record Behind (byte : ℕ) (name word : List ℕ) : Type 0 where
  more : List ℕ
  whole : word ≡ byte ∷ more
  before : before_first is_equals more ≡ name

behind : (byte : ℕ) (name word : List ℕ) → before_first is_equals word ≡ byte ∷ name → Behind byte name word
behind byte name [] e = absurd (cc)
behind byte name (c ∷ cs) e = go (is_equals c) refl
  where
    go : (b : Bool) → is_equals c ≡ b → Behind byte name (c ∷ cs)
    go true t = let bad : [] ≡ byte ∷ name = rw t at e in absurd (cc)
    go false t =
        let parts : c ∷ before_first is_equals cs ≡ byte ∷ name = sym (front c cs t) ∙ e in
        record { more = cs; whole = ap (λ d. d ∷ cs) (cc); before = cc }

name_is : (option : RunOption) → option_name option ≡ 45 ∷ 45 ∷ option_id option
name_is Workers = refl
name_is Seed = refl
name_is Rules = refl

is_named : (option : RunOption) → option_id option ≡ [] → ⊥
is_named Workers e = cc
is_named Seed e = cc
is_named Rules e = cc

with_value : (option : RunOption) (rest : List ℕ) → before_first is_equals rest ≡ option_id option → list_any is_equals rest ≡ true →
    long_of_rest rest ≡ Some (option_id option, Some (after_first is_equals rest))
with_value option [] e t = absurd (is_named option (sym e))
with_value option (c ∷ cs) e t = rw (e, t) refl

after_hyphens : (rest : List ℕ) → after_first is_equals rest ≡ after_first is_equals (45 ∷ 45 ∷ rest)
after_hyphens rest = search rules

long_word : (option : RunOption) (word : List ℕ) → before_first is_equals word ≡ option_name option → list_any is_equals word ≡ true →
    long_of word ≡ Some (option_id option, Some (after_first is_equals word))
long_word option word e t =
    let one = behind 45 (45 ∷ option_id option) word (e ∙ name_is option) in
    let two = behind 45 (option_id option) one.more one.before in
    let is : word ≡ 45 ∷ 45 ∷ two.more = one.whole ∙ ap (λ w. 45 ∷ w) two.whole in
    let some : list_any is_equals two.more ≡ true = ap (list_any is_equals) (sym is) ∙ t in
    subst (λ w. long_of w ≡ Some (option_id option, Some (after_first is_equals w))) (sym is) (with_value option two.more two.before some ∙ ap (λ v. Some (option_id option, Some v)) (after_hyphens two.more))

name_alone : (option : RunOption) → long_of (option_name option) ≡ Some (option_id option, None)
name_alone Workers = refl
name_alone Seed = refl
name_alone Rules = refl

pub mapped : {X Y : Type 0} (f : X → Y) (o : Option X) (y : Y) → option_map f o ≡ Some y → (x : X) × (o ≡ Some x) × (f x ≡ y)
mapped f None y e = absurd (none-some y e)
mapped f (Some x) y e = (x, refl, same_Some (f x) y e)

pub long_of_option : (word : List ℕ) (option : RunOption) (value : Option (List ℕ)) → option_in word ≡ Some (option, value) → long_of word ≡ Some (option_id option, value)
long_of_option word option value e = go (list_any is_equals word) refl
  where
    go : (b : Bool) → list_any is_equals word ≡ b → long_of word ≡ Some (option_id option, value)
    go true t =
        let found : option_map (λ o. (o, Some (after_first is_equals word))) (option_named (before_first is_equals word)) ≡ Some (option, value) = rw t at e in
        let part = mapped (λ o. (o, Some (after_first is_equals word))) (option_named (before_first is_equals word)) (option, value) found in
        let name : option_name part.0 ≡ before_first is_equals word = named (before_first is_equals word) part.0 part.1 in
        long_word part.0 word (sym name) t ∙ ap (λ p. Some (option_id p.0, p.1)) part.2
    go false t =
        let found : option_map (λ o. (o, None)) (option_named word) ≡ Some (option, value) = rw t at e in
        let part = mapped (λ o. (o, None)) (option_named word) (option, value) found in
        ap long_of (sym (named word part.0 part.1)) ∙ name_alone part.0 ∙ ap (λ p. Some (option_id p.0, p.1)) part.2

-- such a word isn't `--` alone
pub not_dashes : (word : List ℕ) (option : RunOption) (value : Option (List ℕ)) → option_in word ≡ Some (option, value) → bytes_eq word (45 ∷ 45 ∷ []) ≡ false
not_dashes word option value e = false_from_ne_true _ (λ t. none-some _ (ap option_in (sym ((bytes_eq-Decides word (45 ∷ 45 ∷ [])).0 t)) ∙ e))
