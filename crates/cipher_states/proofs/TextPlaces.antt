-- What a BlockText stands for, at its start and after a further piece.
use Rattle.std.proofs.lemmas.Grind.{common_steps}
use Rattle.cipher_states.proofs.Common.{BlockText, Bool, CbcDecrypt, CbcEncrypt, HoldsBlockText, List, Way, [], ap, append-nil, append_assoc, ap₂, arith, blocks, cbc_blocks, cbc_encrypt, chains, drop, drop_at, due_bytes, false, length, length-append, length-take-le, next_chain, refl, sym, take, take-append-drop, take_at, true, ℕ, ◌%◌, ◌++◌, ◌+◌, ◌∙◌, ◌≡◌, ◌≤◌}
use Rattle.cipher_states.proofs.WayLaws.{next_chain_parts}

-- ---- how much is due

pub due-whole : (keeps : Bool) (n : ℕ) → due_bytes keeps n % 16 ≡ 0
due-whole true n = omega arith
due-whole false n = omega arith

pub due-within : (keeps : Bool) (n : ℕ) → due_bytes keeps n ≤ n
due-within true n = omega arith
due-within false n = omega arith

pub due-more : (keeps : Bool) (n m : ℕ) → due_bytes keeps n ≤ due_bytes keeps (n + m)
due-more true n m = omega arith
due-more false n m = omega arith

due-zero : (keeps : Bool) → due_bytes keeps 0 ≡ 0
due-zero true = refl
due-zero false = refl

pub whole_front : (keeps : Bool) (text : List ℕ) → length (take (due_bytes keeps (length text)) text) % 16 ≡ 0
whole_front keeps text = ap (λ (n : ℕ). n % 16) (length-take-le (due_bytes keeps (length text)) text (due-within keeps (length text))) ∙ due-whole keeps (length text)

-- of a further piece, by what is kept
pub due-further : (keeps : Bool) (n used more : ℕ) → due_bytes keeps n + used ≡ n → due_bytes keeps (n + more) ≡ due_bytes keeps n + due_bytes keeps (used + more)
due-further true n used more e = omega arith
due-further false n used more e = omega arith

-- ---- the start

first_chain : (way : Way) (key iv : List ℕ) → next_chain way key iv [] ≡ iv
unfolding cbc_encrypt cbc_blocks blocks
first_chain CbcEncrypt key iv = append-nil iv
first_chain CbcDecrypt key iv = append-nil iv
first_chain way key iv = refl

pub fresh_text : (t : BlockText) (key iv : List ℕ) → t.used ≡ 0 → length t.chain ≡ 16 → (chains t.way ≡ true → t.chain ≡ iv) → HoldsBlockText t key iv []
fresh_text t key iv u long e =
    let none : due_bytes t.keeps_last 0 ≡ 0 = due-zero t.keeps_last in
    record {
      used = omega arith;
      kept = ap (λ (n : ℕ). take n t.kept) u ∙ sym (ap (λ (n : ℕ). drop n []) none);
      vector = λ c. ap length (sym (e c)) ∙ long;
      chain = λ c. e c ∙ sym (ap (λ (n : ℕ). next_chain t.way key iv (take n [])) none ∙ first_chain t.way key iv);
    }

-- ---- a further piece

module _ (s : BlockText) (key iv text piece : List ℕ) (h : HoldsBlockText s key iv text) where
  -- what was due, what was kept and the piece
  parts : text ++ piece ≡ take (due_bytes s.keeps_last (length text)) text ++ (take s.used s.kept ++ piece)
  parts =
      let d : ℕ = due_bytes s.keeps_last (length text) in
      ap (λ (l : List ℕ). l ++ piece) (sym (take-append-drop d text)) ∙ append_assoc (take d text) (drop d text) piece
      ∙ ap (λ (l : List ℕ). take d text ++ (l ++ piece)) (sym h.kept)

  pub further_count : due_bytes s.keeps_last (length (text ++ piece)) ≡ due_bytes s.keeps_last (length text) + due_bytes s.keeps_last (s.used + length piece)
  further_count = ap (due_bytes s.keeps_last) (length-append text piece) ∙ due-further s.keeps_last (length text) s.used (length piece) h.used

  -- what becomes due, and what is kept then
  module _ (out rest : List ℕ) (size : length out ≡ due_bytes s.keeps_last (s.used + length piece)) (cut : out ++ rest ≡ take s.used s.kept ++ piece) where
    front_length : length (take (due_bytes s.keeps_last (length text)) text ++ out) ≡ due_bytes s.keeps_last (length (text ++ piece))
    front_length = grind (arith, common_steps)

    whole : text ++ piece ≡ (take (due_bytes s.keeps_last (length text)) text ++ out) ++ rest
    whole =
        let d : ℕ = due_bytes s.keeps_last (length text) in
        parts ∙ ap (λ (l : List ℕ). take d text ++ l) (sym cut) ∙ sym (append_assoc (take d text) out rest)

    pub further_front : take (due_bytes s.keeps_last (length (text ++ piece))) (text ++ piece) ≡ take (due_bytes s.keeps_last (length text)) text ++ out
    further_front = ap (take (due_bytes s.keeps_last (length (text ++ piece)))) whole ∙ take_at (take (due_bytes s.keeps_last (length text)) text ++ out) rest _ front_length

    further_rest : drop (due_bytes s.keeps_last (length (text ++ piece))) (text ++ piece) ≡ rest
    further_rest = ap (drop (due_bytes s.keeps_last (length (text ++ piece)))) whole ∙ drop_at (take (due_bytes s.keeps_last (length text)) text ++ out) rest _ front_length

  pub grown_text : (t : BlockText) (out : List ℕ) → length out ≡ due_bytes s.keeps_last (s.used + length piece) → out ++ take t.used t.kept ≡ take s.used s.kept ++ piece
      → length out + t.used ≡ s.used + length piece → t.way ≡ s.way → t.keeps_last ≡ s.keeps_last → (chains s.way ≡ true → t.chain ≡ next_chain s.way key s.chain out) → HoldsBlockText t key iv (text ++ piece)
  grown_text t out size cut count ew ek ec =
      let d : ℕ = due_bytes s.keeps_last (length text) in
      let front : take (due_bytes s.keeps_last (length (text ++ piece))) (text ++ piece) ≡ take d text ++ out = further_front out (take t.used t.kept) size cut in
      record {
        used = ap (λ (k : Bool). due_bytes k (length (text ++ piece)) + t.used) ek ∙ omega (arith, further_count, h.used, length-append text piece);
        kept = sym (further_rest out (take t.used t.kept) size cut) ∙ ap (λ (k : Bool). drop (due_bytes k (length (text ++ piece))) (text ++ piece)) (sym ek);
        vector = λ c. h.vector (ap chains (sym ew) ∙ c);
        chain = λ c.
            let chained : chains s.way ≡ true = ap chains (sym ew) ∙ c in
            ec chained ∙ sym (next_chain_parts s.way key iv s.chain (take d text) out (whole_front s.keeps_last text) h.vector chained (h.chain chained))
            ∙ ap (next_chain s.way key iv) (sym front)
            ∙ ap₂ (λ (way : Way) (k : Bool). next_chain way key iv (take (due_bytes k (length (text ++ piece))) (text ++ piece))) (sym ew) (sym ek);
      }
