-- The output that is due, by the mode and the direction.
use Rattle.cipher_states.proofs.Common.{Bool, CbcNoPadding, Ctr, List, Mode, Way, Whole, aes_encrypt, ap, ap₂, block_number, bytes_or_empty, cases_Bool, chains, cipher_due, cond, ctr_xor, drop, drop_at, due_bytes, due_deciphered, due_enciphered, false, inl, inr, is_stream, keeps_last, length, length-append, length-text_xor, mode_of, next_chain, processed, refl, rules, subst, sym, take, take-append-drop, take-append-le, take-take, take_at, text_xor, text_xor-append, true, way_of, with_text, ℕ, ◌++◌, ◌∙◌, ◌≡◌, ◌≤◌}
use Rattle.aead_streams.proofs.ModeStreams.{aes_keeps_length, ctr_is, ctr_further}
use Rattle.multipart.specs.Dues.{DueGrows}
use Rattle.cipher_states.proofs.{TextPlaces.due-within, TextPlaces.due-more, TextPlaces.whole_front, WayLaws.processed_grows, WayLaws.processed_parts}

-- what is due, by the mode
abbrev pub due_under : Mode → Bool → (key iv text : List ℕ) → List ℕ
due_under mode encrypts key iv text = cond encrypts (due_enciphered mode key iv text) (due_deciphered mode key iv text)

pub stream_due : (mode : Mode) (encrypts : Bool) (key iv text : List ℕ) → is_stream mode ≡ true → due_under mode encrypts key iv text ≡ ctr_xor (aes_encrypt key) iv text
stream_due Ctr true key iv text e = refl
stream_due Ctr false key iv text e = refl
stream_due mode encrypts key iv text e = cc

pub blocks_due : (mode : Mode) (encrypts : Bool) (key iv text : List ℕ) → is_stream mode ≡ false
    → due_under mode encrypts key iv text ≡ processed (way_of mode encrypts) key iv (take (due_bytes (keeps_last mode encrypts) (length text)) text)
blocks_due Ctr encrypts key iv text e = cc
blocks_due CbcNoPadding true key iv text e = refl
blocks_due mode true key iv text e = refl
blocks_due mode false key iv text e = refl

-- ---- what a further piece makes due

length-ctr : (key iv text : List ℕ) → length (ctr_xor (aes_encrypt key) iv text) ≡ length text
length-ctr key iv text = ap length (ctr_is (aes_encrypt key) (aes_keeps_length key) iv text) ∙ length-text_xor (aes_encrypt key) Whole (block_number iv) 0 text

pub stream_fresh : (mode : Mode) (encrypts : Bool) (key iv text piece : List ℕ) → is_stream mode ≡ true
    → drop (length (due_under mode encrypts key iv text)) (due_under mode encrypts key iv (text ++ piece)) ≡ text_xor (aes_encrypt key) Whole (block_number iv) (length text) piece
stream_fresh mode encrypts key iv text piece e =
    ap₂ (λ (n : ℕ) (l : List ℕ). drop n l) (ap length (stream_due mode encrypts key iv text e) ∙ length-ctr key iv text) (stream_due mode encrypts key iv (text ++ piece) e)
    ∙ ctr_further (aes_encrypt key) (aes_keeps_length key) iv text piece

-- by a way and a place that are known to be the mode's
module _ (mode : Mode) (encrypts : Bool) (way : Way) (keeps : Bool) (other : is_stream mode ≡ false) (ew : way ≡ way_of mode encrypts) (ek : keeps ≡ keeps_last mode encrypts) (key iv : List ℕ) where
  due_by : (text : List ℕ) → due_under mode encrypts key iv text ≡ processed way key iv (take (due_bytes keeps (length text)) text)
  due_by text = search rules

  pub blocks_fresh : (chain text piece out : List ℕ) → take (due_bytes keeps (length (text ++ piece))) (text ++ piece) ≡ take (due_bytes keeps (length text)) text ++ out
      → (chains way ≡ true → length iv ≡ 16) → (chains way ≡ true → chain ≡ next_chain way key iv (take (due_bytes keeps (length text)) text))
      → drop (length (due_under mode encrypts key iv text)) (due_under mode encrypts key iv (text ++ piece)) ≡ processed way key chain out
  blocks_fresh chain text piece out front v c =
      let front_text : List ℕ = take (due_bytes keeps (length text)) text in
      ap₂ (λ (l m : List ℕ). drop (length l) m) (due_by text)
      (due_by (text ++ piece) ∙ ap (processed way key iv) front ∙ processed_parts way key iv chain front_text out (whole_front keeps text) v c)
      ∙ drop_at (processed way key iv front_text) (processed way key chain out) _ refl

-- ---- more text only adds to what is due

stream_grows : (mode : Mode) (encrypts : Bool) (key iv text piece : List ℕ) → is_stream mode ≡ true
    → take (length (due_under mode encrypts key iv text)) (due_under mode encrypts key iv (text ++ piece)) ≡ due_under mode encrypts key iv text
stream_grows mode encrypts key iv text piece e =
    let x : List ℕ = text_xor (aes_encrypt key) Whole (block_number iv) 0 text in
    let is : due_under mode encrypts key iv text ≡ x = stream_due mode encrypts key iv text e ∙ ctr_is (aes_encrypt key) (aes_keeps_length key) iv text in
    ap₂ (λ (l m : List ℕ). take (length l) m) is
    (stream_due mode encrypts key iv (text ++ piece) e ∙ ctr_is (aes_encrypt key) (aes_keeps_length key) iv (text ++ piece) ∙ text_xor-append (aes_encrypt key) Whole (block_number iv) text piece 0)
    ∙ take_at x _ _ refl ∙ sym is

blocks_grow : (mode : Mode) (encrypts : Bool) (key iv text piece : List ℕ) → is_stream mode ≡ false
    → take (length (due_under mode encrypts key iv text)) (due_under mode encrypts key iv (text ++ piece)) ≡ due_under mode encrypts key iv text
blocks_grow mode encrypts key iv text piece e =
    let way : Way = way_of mode encrypts in
    let keeps : Bool = keeps_last mode encrypts in
    let d : ℕ = due_bytes keeps (length text) in
    let f : ℕ = due_bytes keeps (length (text ++ piece)) in
    let within : d ≤ length text = due-within keeps (length text) in
    let more : d ≤ f = subst (λ (n : ℕ). d ≤ due_bytes keeps n) (sym (length-append text piece)) (due-more keeps (length text) (length piece)) in
    let all : List ℕ = take f (text ++ piece) in
    let front : take d all ≡ take d text = take-take d f (text ++ piece) more ∙ take-append-le d text piece within in
    let split : all ≡ take d text ++ drop d all = sym (take-append-drop d all) ∙ ap (λ (l : List ℕ). l ++ drop d all) front in
    let is : due_under mode encrypts key iv text ≡ processed way key iv (take d text) = blocks_due mode encrypts key iv text e in
    ap₂ (λ (l m : List ℕ). take (length l) m) is
    (blocks_due mode encrypts key iv (text ++ piece) e ∙ ap (processed way key iv) split ∙ processed_grows way key iv (take d text) (drop d all) (whole_front keeps text))
    ∙ take_at (processed way key iv (take d text)) _ _ refl ∙ sym is

pub due_grows : DueGrows cipher_due with_text
due_grows w input = elim (cases_Bool (is_stream (mode_of w.alg))) [
  | inl e ↦ stream_grows (mode_of w.alg) w.encrypts w.key (bytes_or_empty w.iv) w.text input e
  | inr e ↦ blocks_grow (mode_of w.alg) w.encrypts w.key (bytes_or_empty w.iv) w.text input e
]
