-- What a finish gives.
use Rattle.std.proofs.lemmas.Grind.{common_steps}
use Rattle.cipher_states.proofs.Common.{After, Bool, Bytes, CbcDecrypt, CbcEncrypt, CbcPkcs7, CipherWork, InError, Inactive, InvalidPadding, List, Mode, None, Option, Some, Success, [], ap, arith, bytes_or_empty, cond, deciphered, drop, drop_at, due_bytes, enciphered, ends, false, given, is_ciphertext_length, is_some, last_length, last_part, length, mode_of, next_chain, not, option_map, pkcs7_padded, pkcs7_unpadded, plain_or_zeros, processed, refl, spoiled, sym, take, take-append-drop, takes_whole_blocks, true, whole_text, ℕ, ◌%◌, ◌*◌, ◌++◌, ◌-◌, ◌/◌, ◌<◌, ◌==◌, ◌||◌, ◌∙◌, ◌≡◌}
use Rattle.cipher_states.proofs.{WayLaws.processed_parts, WayLaws.length-processed, TextPlaces.whole_front, Dues.due_under}
use Rattle.cipher_modes.proofs.PaddedTexts.{unpadded_behind}

-- ---- by mode, direction, key, initialisation vector and text

abbrev part_at : Mode → List ℕ → Option (List ℕ) → After CipherWork
part_at m due (Some text) = ends (record (given (drop (length due) text)) { needed = last_length m })
part_at m due None = record { operation = InError; reply = spoiled InvalidPadding (last_length m); drawn = 0 }

abbrev whole_at : Mode → Bool → (key iv text : List ℕ) → Option (List ℕ)
whole_at m encrypts key iv text = cond encrypts (Some (enciphered m key iv text)) (deciphered m key iv text)

abbrev pub end_at : Mode → Bool → (key iv text : List ℕ) → After CipherWork
end_at m encrypts key iv text = part_at m (due_under m encrypts key iv text) (whole_at m encrypts key iv text)

abbrev pub is_whole_at : Mode → Bool → ℕ → Bool
is_whole_at m encrypts n = cond encrypts (not (takes_whole_blocks m) || n % 16 == 0) (is_ciphertext_length m n)

pub end_is : (w : CipherWork) → last_part w (whole_text w) ≡ end_at (mode_of w.alg) w.encrypts w.key (bytes_or_empty w.iv) w.text
end_is w = refl

-- ---- without padding nothing is left

pub nothing_left : (m : Mode) (encrypts : Bool) (key iv text : List ℕ) → last_length m ≡ 0 → is_whole_at m encrypts (length text) ≡ true
    → end_at m encrypts key iv text ≡ ends (record { status = Success; output = Bytes []; needed = 0 })
nothing_left m encrypts key iv text e h = grind (arith, common_steps)

-- ---- the last block, with its padding

pub pkcs7_mode : (m : Mode) → 0 < last_length m → m ≡ CbcPkcs7
pkcs7_mode CbcPkcs7 h = refl
pkcs7_mode m h = absurd (omega arith)

-- whole blocks stay as they are
padded_behind : (front last : List ℕ) → length front % 16 ≡ 0 → pkcs7_padded (front ++ last) ≡ front ++ pkcs7_padded last
unfolding pkcs7_padded
padded_behind front last whole = grind (arith, common_steps)

pub padded_end : (key iv chain text last : List ℕ) → length iv ≡ 16 → last ≡ drop (due_bytes false (length text)) text → chain ≡ next_chain CbcEncrypt key iv (take (due_bytes false (length text)) text)
    → end_at CbcPkcs7 true key iv text ≡ ends (record (given (processed CbcEncrypt key chain (pkcs7_padded last))) { needed = 16 })
padded_end key iv chain text last v el ec =
    let d : ℕ = due_bytes false (length text) in
    let front : List ℕ = take d text in
    let whole : length front % 16 ≡ 0 = whole_front false text in
    let parts : pkcs7_padded text ≡ front ++ pkcs7_padded last =
    ap pkcs7_padded (sym (take-append-drop d text)) ∙ padded_behind front (drop d text) whole ∙ ap (λ (l : List ℕ). front ++ pkcs7_padded l) (sym el) in
    let due : List ℕ = processed CbcEncrypt key iv front in
    let rest : List ℕ = processed CbcEncrypt key chain (pkcs7_padded last) in
    let all : processed CbcEncrypt key iv (pkcs7_padded text) ≡ due ++ rest =
    ap (processed CbcEncrypt key iv) parts ∙ processed_parts CbcEncrypt key iv chain front (pkcs7_padded last) whole (λ _. v) (λ _. ec) in
    ap (λ (l : List ℕ). ends {W = CipherWork} (record (given (drop (length due) l)) { needed = 16 })) all
    ∙ ap (λ (l : List ℕ). ends {W = CipherWork} (record (given l) { needed = 16 })) (drop_at due rest (length due) refl)

-- ---- and without it

-- a text, or none where no padding ends it
abbrev pub unpadded_end : Option (List ℕ) → After CipherWork
unpadded_end o = record { operation = cond (is_some o) Inactive InError; reply = plain_or_zeros 16 o; drawn = 0 }

behind_due : (due : List ℕ) (o : Option (List ℕ)) → part_at CbcPkcs7 due (option_map (λ m. due ++ m) o) ≡ unpadded_end o
behind_due due (Some text) = ap (λ (l : List ℕ). ends {W = CipherWork} (record (given l) { needed = 16 })) (drop_at due text (length due) refl)
behind_due due None = refl

pub unpadded_is : (key iv chain text last : List ℕ) → length iv ≡ 16 → length last ≡ 16 → last ≡ drop (due_bytes true (length text)) text → chain ≡ next_chain CbcDecrypt key iv (take (due_bytes true (length text)) text)
    → length chain ≡ 16 → end_at CbcPkcs7 false key iv text ≡ unpadded_end (pkcs7_unpadded (processed CbcDecrypt key chain last))
unpadded_is key iv chain text last v long el ec chain_long =
    let d : ℕ = due_bytes true (length text) in
    let front : List ℕ = take d text in
    let whole : length front % 16 ≡ 0 = whole_front true text in
    let due : List ℕ = processed CbcDecrypt key iv front in
    let block : List ℕ = processed CbcDecrypt key chain last in
    let block_long : length block ≡ 16 = length-processed CbcDecrypt key chain last (λ _. chain_long) (ap (λ (n : ℕ). n % 16) long) ∙ long in
    let all : processed CbcDecrypt key iv text ≡ due ++ block =
    ap (processed CbcDecrypt key iv) (sym (take-append-drop d text) ∙ ap (λ (l : List ℕ). front ++ l) (sym el)) ∙ processed_parts CbcDecrypt key iv chain front last whole (λ _. v) (λ _. ec) in
    ap (part_at CbcPkcs7 due) (ap pkcs7_unpadded all ∙ unpadded_behind due block block_long) ∙ behind_due due (pkcs7_unpadded block)
