-- How many random bytes a draw gives.
use Rattle.std.proofs.{Common.List, Common.arith, Common.length, Common.refl, Common.suc, Common.zero, Common.ℕ, Common.◌*◌, Common.◌+◌, Common.◌≡◌, Common.◌≤◌, lemmas.List.length-append, lemmas.List.length-take-le}
use Rattle.store_model.proofs.Common.{bytes_of_words, random_bytes, random_word, words_used}
use Rattle.std.specs.Int.{w32, to_le_bytes}

length-words : (seed : List ℕ) (stream place n : ℕ) → length (bytes_of_words seed stream place n) ≡ 4 * n
unfolding bytes_of_words
length-words seed stream place zero = refl
length-words seed stream place (suc n) =
    let before = length-words seed stream place n in
    let word : length (to_le_bytes w32 (random_word seed stream (place + n))) ≡ 4 = refl in
    let both = length-append (bytes_of_words seed stream place n) (to_le_bytes w32 (random_word seed stream (place + n))) in
    omega arith

enough : (n : ℕ) → n ≤ 4 * words_used n
enough n = omega arith

pub length-random : (seed : List ℕ) (stream place n : ℕ) → length (random_bytes seed stream place n) ≡ n
length-random seed stream place n =
    let words = length-words seed stream place (words_used n) in
    length-take-le n (bytes_of_words seed stream place (words_used n)) (omega (arith, words, enough n))
