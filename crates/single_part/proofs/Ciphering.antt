-- What a cipher writes to a buffer.
use Rattle.std.proofs.{Common.Err, Common.List, Common.None, Common.Ok, Common.Option, Common.Result, Common.Some, Common.[], Common.ap, Common.arith, Common.drop, Common.length, Common.refl, Common.replicate, Common.subst, Common.sym, Common.take, Common.ℕ, Common.◌++◌, Common.◌+◌, Common.◌-◌, Common.◌∙◌, Common.◌≡◌, Common.◌≤◌, lemmas.Slice.drop-append-drop}
use Rattle.single_part.proofs.Common.{AnswersOrSpoils, append-nil, buffer_after, buffer_bytes, deciphered, decrypt_rows, decrypted_reply, drop_all, enciphered, enciphered_length, encrypt_rows, first_row, given, iv_length, length-append, length-drop, length-take, Mode, plain_or_zeros, refusal, Reply, reply_unless, Status, take-append_seam, take-take, unless, unless-ok}

-- a refusal of the table
pub refused_or_spoilt : (o : Option Status) (reply : Reply) (r : Result ℕ Status) (s t : Status) → r ≡ Err s → s ≡ t → o ≡ Some t → AnswersOrSpoils r (reply_unless o reply)
refused_or_spoilt o reply r s t e f h =
    let same : reply_unless o reply ≡ refusal t = ap (λ (x : Option Status). reply_unless x reply) h in
    subst (λ x. AnswersOrSpoils x (reply_unless o reply)) (sym (e ∙ ap Err f)) (ap (λ (x : Reply). x.status) same, ap (λ (x : Reply). x.output) same)

-- a buffer whose front alone is written

pub front_written : (old : List ℕ) (n : ℕ) (reply : Reply) → reply.needed ≡ n → n ≤ length old → buffer_after (take n old) reply ++ drop n old ≡ buffer_after old reply
front_written old n reply e h =
    let written : List ℕ = buffer_bytes reply.output in
    let zeros : List ℕ = replicate (reply.needed - length written) 0 in
    let past : drop reply.needed (take n old) ≡ [] = drop_all reply.needed (take n old) (omega (arith, length-take n old)) in
    ap (λ (l : List ℕ). written ++ zeros ++ l ++ drop n old) past ∙ ap (λ (l : List ℕ). l ++ drop n old) (append-nil (written ++ zeros))
    ∙ ap (λ k. written ++ zeros ++ drop k old) (sym e)

needed_is : (n : ℕ) (o : Option (List ℕ)) → (plain_or_zeros n o).needed ≡ n
needed_is n None = refl
needed_is n (Some text) = refl

-- a decryption that no row refuses
module _ (mode : Mode) (key bytes input iv cipher : List ℕ) (room needed : ℕ) (passed : Ok needed ≡ unless (first_row (decrypt_rows mode (length input) room)) (length input - iv_length mode))
    (vector : iv ≡ take (iv_length mode) input) (rest : cipher ≡ drop (iv_length mode) input) (same : bytes ≡ key) where
  pub decrypted_is : plain_or_zeros (length cipher) (deciphered mode bytes iv cipher) ≡ decrypted_reply mode key input room
  decrypted_is =
      (λ i. plain_or_zeros ((ap length rest ∙ length-drop (iv_length mode) input) i) (deciphered mode (same i) (vector i) (rest i)))
      ∙ ap (λ o. reply_unless o (plain_or_zeros (length input - iv_length mode) (deciphered mode key (take (iv_length mode) input) (drop (iv_length mode) input)))) (sym (unless-ok _ (length input - iv_length mode) needed (sym passed)).0)

  pub decrypted_buffer : (old new : List ℕ) → room ≡ length old → needed ≤ room → new ≡ buffer_after (take needed old) (plain_or_zeros (length cipher) (deciphered mode bytes iv cipher)) →
      new ++ drop needed old ≡ buffer_after old (decrypted_reply mode key input room)
  decrypted_buffer old new size fits h =
      ap (λ l. l ++ drop needed old) h
      ∙ front_written old needed (plain_or_zeros (length cipher) (deciphered mode bytes iv cipher))
      (needed_is (length cipher) (deciphered mode bytes iv cipher) ∙ ap length rest ∙ length-drop (iv_length mode) input ∙ (unless-ok _ (length input - iv_length mode) needed (sym passed)).1) (omega (arith, fits, size))
      ∙ ap (buffer_after old) decrypted_is

-- an encryption that no row refuses

-- the room for the vector
pub vector_fits : (mode : Mode) (n needed room k : ℕ) → Ok needed ≡ unless (first_row (encrypt_rows mode n room)) (iv_length mode + enciphered_length mode n) → needed ≤ room → k ≡ iv_length mode → (k ≤ needed) × (k ≤ room)
vector_fits mode n needed room k passed fits e =
    let count = (unless-ok _ (iv_length mode + enciphered_length mode n) needed (sym passed)).1 in
    (omega (arith, count, e), omega (arith, count, e, fits))

-- what is written are the drawn vector and the ciphertext behind it
pub sealed_is : (mode : Mode) (aes key iv input old new : List ℕ) (k needed : ℕ) → aes ≡ key → k ≡ iv_length mode → length iv ≡ k → k ≤ needed →
    new ≡ take (iv_length mode) (take needed (iv ++ drop k old)) ++ enciphered mode aes (take (iv_length mode) (take needed (iv ++ drop k old))) input →
    new ≡ iv ++ enciphered mode key iv input
sealed_is mode aes key iv input old new k needed own size long fits h =
    let front : take (iv_length mode) (take needed (iv ++ drop k old)) ≡ iv =
    take-take (iv_length mode) needed (iv ++ drop k old) (omega arith)
    ∙ ap (λ n. take n (iv ++ drop k old)) (sym (long ∙ size)) ∙ take-append_seam iv (drop k old) in
    h ∙ (λ i. front i ++ enciphered mode (own i) (front i) input)

pub sealed_buffer : (old drawn new sealed : List ℕ) (k needed : ℕ) → k ≤ needed → length drawn ≡ k → new ≡ sealed → length sealed ≡ needed →
    new ++ drop needed (drawn ++ drop k old) ≡ buffer_after old (given sealed)
sealed_buffer old drawn new sealed k needed fits long e size =
    let none : 0 ≡ length sealed - length sealed = omega arith in
    (λ i. e i ++ drop-append-drop k old drawn needed fits long i)
    ∙ ap (λ (l : List ℕ). l ++ drop needed old) (sym (append-nil sealed))
    ∙ (λ i. sealed ++ replicate (none i) 0 ++ drop (sym size i) old)

-- the part of a buffer behind another
pub part_length : (old drawn : List ℕ) (k needed : ℕ) → length drawn ≡ k → k ≤ length old → needed ≤ length old → length (take needed (drawn ++ drop k old)) ≡ needed
part_length old drawn k needed long fits room = omega (arith, length-take needed (drawn ++ drop k old), length-append drawn (drop k old), length-drop k old)
