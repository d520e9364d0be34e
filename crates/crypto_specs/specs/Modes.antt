-- Modes of operation (SP 800-38A) of a block cipher, a function e from a block to a block: lists of 16 bytes.
use Rattle.std.specs.Prelude.{ℕ, zero, suc, ◌+◌, ◌-◌, ◌/◌, ◌%◌, ◌^◌, List, [], ◌∷◌, ◌++◌, length, take, drop, replicate, map, bit_xor, slice_index, cond, nat_le, ◌&&◌, bytes_eq, Some, None, Option}
use Rattle.std.specs.{List.flat_map, Int.w128, Int.from_be_bytes, Int.to_be_bytes}
use Rattle.crypto_specs.specs.Bytes.{xor_bytes}

-- how many blocks cover n bytes
abbrev pub block_count : ℕ → ℕ
block_count n = (n + 15) / 16

-- the first n blocks of a text
unfoldable pub blocks : ℕ → List ℕ → List (List ℕ)
blocks zero text = []
blocks (suc n) text = take 16 text ∷ blocks n (drop 16 text)

-- blocks one after another
abbrev pub joined : List (List ℕ) → List ℕ
joined bs = flat_map (λ b. b) bs

-- the number of a block, first byte highest, and the block of a number
unfoldable pub block_number : List ℕ → ℕ
block_number b = from_be_bytes w128 b

unfoldable pub number_block : ℕ → List ℕ
number_block n = to_be_bytes w128 n

-- ECB (6.1): each block by itself
abbrev pub ecb_blocks : (List ℕ → List ℕ) → List (List ℕ) → List (List ℕ)
ecb_blocks e bs = map e bs

-- CBC encryption (6.2): each block is xored with the cipher block before it, the first with the iv
unfoldable pub cbc_blocks : (List ℕ → List ℕ) → List ℕ → List (List ℕ) → List (List ℕ)
cbc_blocks e iv [] = []
cbc_blocks e iv (b ∷ bs) = let c = e (xor_bytes b iv) in c ∷ cbc_blocks e c bs

-- CBC decryption (6.2): each block deciphered is xored with the cipher block before it
unfoldable pub cbc_plain_blocks : (List ℕ → List ℕ) → List ℕ → List (List ℕ) → List (List ℕ)
cbc_plain_blocks d iv [] = []
cbc_plain_blocks d iv (c ∷ cs) = xor_bytes (d c) iv ∷ cbc_plain_blocks d c cs

-- ECB and CBC of a text of whole blocks
unfoldable pub ecb_encrypt : (List ℕ → List ℕ) → List ℕ → List ℕ
ecb_encrypt e text = joined (ecb_blocks e (blocks (length text / 16) text))

unfoldable pub ecb_decrypt : (List ℕ → List ℕ) → List ℕ → List ℕ
ecb_decrypt d text = joined (ecb_blocks d (blocks (length text / 16) text))

unfoldable pub cbc_encrypt : (List ℕ → List ℕ) → List ℕ → List ℕ → List ℕ
cbc_encrypt e iv text = joined (cbc_blocks e iv (blocks (length text / 16) text))

unfoldable pub cbc_decrypt : (List ℕ → List ℕ) → List ℕ → List ℕ → List ℕ
cbc_decrypt d iv text = joined (cbc_plain_blocks d iv (blocks (length text / 16) text))

-- counter block n (6.5 and B.1): the iv plus n, modulo 2 ^ 128
unfoldable pub counter_block : List ℕ → ℕ → List ℕ
counter_block iv n = number_block ((block_number iv + n) % 2 ^ 128)

-- the first n blocks of the key stream
unfoldable pub key_stream : (List ℕ → List ℕ) → List ℕ → ℕ → List ℕ
key_stream e iv zero = []
key_stream e iv (suc n) = key_stream e iv n ++ e (counter_block iv n)

-- CTR (6.5): the text xored with the front of the key stream
unfoldable pub ctr_xor : (List ℕ → List ℕ) → List ℕ → List ℕ → List ℕ
ctr_xor e iv text = xor_bytes text (key_stream e iv (block_count (length text)))

-- byte j of the key stream
unfoldable pub stream_byte : (List ℕ → List ℕ) → List ℕ → ℕ → ℕ
stream_byte e iv j = slice_index (e (counter_block iv (j / 16))) (j % 16)

-- a text that begins at byte j of the key stream, xored with it
unfoldable pub xor_stream : (List ℕ → List ℕ) → List ℕ → ℕ → List ℕ → List ℕ
xor_stream e iv j [] = []
xor_stream e iv j (x ∷ xs) = bit_xor x (stream_byte e iv j) ∷ xor_stream e iv (suc j) xs

-- the pieces of a text xored one after another, each from where the one before it ended
abbrev pub ctr_pieces : (List ℕ → List ℕ) → List ℕ → ℕ → List (List ℕ) → List ℕ
ctr_pieces e iv j [] = []
ctr_pieces e iv j (p ∷ ps) = xor_stream e iv j p ++ ctr_pieces e iv (j + length p) ps

-- a message filled to whole blocks by p bytes of value p, where p is 1 to 16 (PKCS#7: RFC 5652, 6.3)
unfoldable pub pkcs7_padded : List ℕ → List ℕ
pkcs7_padded message = let p : ℕ = 16 - length message % 16 in message ++ replicate p p

-- the message without its padding, or none where no padding ends it
unfoldable pub pkcs7_unpadded : List ℕ → Option (List ℕ)
pkcs7_unpadded text =
    let p : ℕ = slice_index text (length text - 1) in
    let n : ℕ = length text - p in
    cond (nat_le 1 p && nat_le p 16 && bytes_eq (drop n text) (replicate p p)) (Some (take n text)) None
