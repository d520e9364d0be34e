-- Good values don't begin with a hyphen.
use Rattle.std.proofs.Common.{rules, Bool, Err, List, None, Option, Some, [], ap, arith, bytes_eq, cond, false, ne_eqb, get_or, refl, replicate, sym, true, ℕ, ◌<◌, ◌==◌, ◌^◌, ◌∙◌, ◌∷◌, ◌≡◌}
use Rattle.command_words.proofs.Common.{decimal, first_decimal, Label, label_named, label_word, labels_in, labels_named, long_of, none-some, number_to, onto_first, option_and_then_some, Rules, run_options, RunOption, RunOptions, Seed, seed_in, short_of, slice_split, strip_byte, Texts, value_or, Workers}
use Rattle.std.specs.Result.{result_ok}
use Rattle.hex.specs.{Hex.decode_pairs, declared.error.FromHexError.TheVariants.OddLength, declared.error.FromHexError.TheVariants.InvalidStringLength}
use Rattle.policy_rules.specs.declared.narrowing.Label.TheVariants.{NoExport, NoCopy, NoEcb, Aes256}
use Rattle.command_words.proofs.{Numbers.not_written, Settings.text_at}

-- a text that begins with no hyphen
abbrev pub IsBare : List ℕ → Type 0
IsBare text = strip_byte 45 text ≡ None

-- what is read of a text, where that is nothing behind a hyphen
pub record TakesNoHyphen {X : Type 0} (read : List ℕ → Option X) : Type 0 where
  pub none : (rest : List ℕ) → read (45 ∷ rest) ≡ None

-- what such a reading takes is bare
pub bare : {X : Type 0} (read : List ℕ → Option X) (text : List ℕ) (x : X) → TakesNoHyphen read → read text ≡ Some x → IsBare text
bare read [] x takes e = refl
bare {X} read (c ∷ cs) x takes e = rw (ne_eqb c 45 (λ same. none-some x (sym (takes.none cs) ∙ ap (λ d. read (d ∷ cs)) (sym same) ∙ e))) refl

pub no_number : (most : ℕ) → most < 2 ^ 32 → TakesNoHyphen (number_to most)
no_number most fits = record {
  none = λ rest. not_written most (45 ∷ rest) (λ n low high e.
      let first : 48 < get_or (decimal n) 0 0 = first_decimal n (omega arith) (omega arith) in
      let bad : 48 < 45 = rw e at first in absurd (omega arith));
}

pub no_seed : TakesNoHyphen seed_in
unfolding decode_pairs
no_seed = record { none = λ rest. sized rest _ _ }
  where
    pairs : (rest : List ℕ) → result_ok (decode_pairs 0 (45 ∷ rest)) ≡ None
    pairs [] = refl
    pairs (low ∷ rest) = refl

    sized : (rest : List ℕ) (odd full : Bool) → result_ok (cond odd (Err OddLength) (cond full (decode_pairs 0 (45 ∷ rest)) (Err InvalidStringLength))) ≡ None
    sized rest true full = refl
    sized rest false true = pairs rest
    sized rest false false = refl

no_word : (given : List Label) → TakesNoHyphen (label_named given)
no_word given = record { none = λ rest. go given rest }
  where
    other : (label : Label) (rest : List ℕ) → bytes_eq (label_word label) (45 ∷ rest) ≡ false
    other NoExport rest = refl
    other NoCopy rest = refl
    other NoEcb rest = refl
    other Aes256 rest = refl

    go : (given : List Label) (rest : List ℕ) → label_named given (45 ∷ rest) ≡ None
    go [] rest = refl
    go (label ∷ given) rest = rw (other label rest) (go given rest)

pub no_labels : (given : List Label) → TakesNoHyphen (labels_in given)
no_labels given = record { none = λ rest. go (slice_split (λ byte. byte == 44) rest) }
  where
    go : (parts : List (List ℕ)) → labels_named given (onto_first 45 parts) ≡ None
    go [] = rw ((no_word given).none []) refl
    go (part ∷ parts) = rw ((no_word given).none part) refl

-- so each value that the words of a run give is bare
abbrev pub AreBare : Texts → Type 0
AreBare texts = (option : RunOption) (value : List ℕ) → text_at texts option ≡ Some value → IsBare value

bare_value : {X : Type 0} (default : X) (read : List ℕ → Option X) (text : Option (List ℕ)) (value : List ℕ) (x : X) → TakesNoHyphen read → value_or default read text ≡ Some x → text ≡ Some value → IsBare value
bare_value default read text value x takes e is = bare read value x takes (ap (value_or default read) (sym is) ∙ e)

pub are_bare : (given : List Label) (texts : Texts) (options : RunOptions) → run_options given texts ≡ Some options → AreBare texts
are_bare given texts options e =
    let numbers : TakesNoHyphen (number_to 16) = no_number 16 (omega arith) in
    option_and_then_some _ _ _ e (λ workers w e2. option_and_then_some _ _ _ e2 (λ seed s e3. option_and_then_some _ _ _ e3 (λ labels l e4. λ option value.
    elim option as (λ o. text_at texts o ≡ Some value → IsBare value) [
      | Workers ↦ λ is. bare_value 1 (number_to 16) texts.workers value workers numbers w is
      | Seed ↦ λ is. bare_value (replicate 32 0) seed_in texts.seed value seed no_seed s is
      | Rules ↦ λ is. bare_value [] (labels_in given) texts.rules value labels (no_labels given) l is
    ])))

-- to `clap` a bare word is neither `--` nor an option's
pub record IsNoOption (word : List ℕ) : Type 0 where
  pub dashes : bytes_eq word (45 ∷ 45 ∷ []) ≡ false
  pub long : long_of word ≡ None
  pub short : short_of word ≡ None

pub no_option : (word : List ℕ) → IsBare word → IsNoOption word
no_option word bare = search rules
