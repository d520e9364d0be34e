-- A text that begins.
use Rattle.cipher_states.proofs.Common.{Bool, CipherWork, Ctr, EcbNoPadding, IsAt, List, Mode, RunningCipher, RunsBlocks, RunsMode, Whole, [], aes_encrypt, block_number, bytes_or_empty, cases_Bool, chains, false, inl, inr, is_stream, iv_length, keeps_last, length, mode_of, not, not-true, subst, sym, true, way_of, ℕ, ◌&&◌, ◌==◌, ◌||◌, ◌∙◌, ◌≡◌}
use Rattle.cipher_states.proofs.RunningTexts.{by_stream, by_blocks}
use Rattle.std.proofs.Math.Bool.{or-false}

-- from the initialisation vector, where the mode has one
pub begun : (m : Mode) (s : RunningCipher) (w : CipherWork) (iv : List ℕ) → w.text ≡ [] → (is_stream m ≡ true → iv ≡ bytes_or_empty w.iv)
    → (chains (way_of m w.encrypts) ≡ true → iv ≡ bytes_or_empty w.iv) → ((e : List ℕ → List ℕ) → IsAt s.stream e Whole (block_number iv) 0)
    → ((key given : List ℕ) → (chains (way_of m w.encrypts) ≡ true → iv ≡ given) → RunsBlocks s.blocks (way_of m w.encrypts) (keeps_last m w.encrypts) key given []) → RunsMode m s w
begun m s w iv empty stream_iv chain_iv stream blocks = elim (cases_Bool (is_stream m)) [
  | inl e ↦
      let P : List ℕ → Type 0 = λ (v : List ℕ). IsAt s.stream (aes_encrypt w.key) Whole (block_number v) 0 in
      let Q : List ℕ → Type 0 = λ (t : List ℕ). IsAt s.stream (aes_encrypt w.key) Whole (block_number (bytes_or_empty w.iv)) (length t) in
      by_stream m s.stream s.blocks w e (subst Q (sym empty) (subst P (stream_iv e) (stream (aes_encrypt w.key))))
  | inr e ↦
      let Q : List ℕ → Type 0 = λ (t : List ℕ). RunsBlocks s.blocks (way_of m w.encrypts) (keeps_last m w.encrypts) w.key (bytes_or_empty w.iv) t in
      by_blocks m s.stream s.blocks w e (subst Q (sym empty) (blocks w.key (bytes_or_empty w.iv) chain_iv))
]

-- a mode without an initialisation vector
pub no_stream : (m : Mode) → (iv_length m == 0) ≡ true → is_stream m ≡ true → ⊥
no_stream Ctr e f = cc
no_stream m e f = cc

pub no_chain : (m : Mode) (encrypts : Bool) → (iv_length m == 0) ≡ true → chains (way_of m encrypts) ≡ true → ⊥
no_chain EcbNoPadding true e f = cc
no_chain EcbNoPadding false e f = cc
no_chain m encrypts e f = cc

-- while the vector is missing no text may come
pub not_ready : (none given : Bool) → (not none && not given) ≡ true → (given || none) ≡ false
not_ready true given e = cc
not_ready false given e = or-false given ∙ not-true given e

-- what a BlockText of a mode stands for from an initialisation vector on
abbrev pub BlocksFrom : Mode → Bool → RunningCipher → List ℕ → Type 0
BlocksFrom m encrypts s iv =
    (key given : List ℕ) → (chains (way_of m encrypts) ≡ true → iv ≡ given) → RunsBlocks s.blocks (way_of m encrypts) (keeps_last m encrypts) key given []

pub begun_work : (m : Mode) (encrypts : Bool) (s : RunningCipher) (w : CipherWork) (iv : List ℕ) → m ≡ mode_of w.alg → encrypts ≡ w.encrypts → w.text ≡ []
    → (is_stream (mode_of w.alg) ≡ true → iv ≡ bytes_or_empty w.iv) → (chains (way_of (mode_of w.alg) w.encrypts) ≡ true → iv ≡ bytes_or_empty w.iv)
    → ((e : List ℕ → List ℕ) → IsAt s.stream e Whole (block_number iv) 0) → BlocksFrom m encrypts s iv → RunsMode (mode_of w.alg) s w
begun_work m encrypts s w iv em ee empty stream_iv chain_iv stream blocks =
    let P : Mode → Type 0 = λ (n : Mode). BlocksFrom n encrypts s iv in
    let Q : Bool → Type 0 = λ (b : Bool). BlocksFrom (mode_of w.alg) b s iv in
    begun (mode_of w.alg) s w iv empty stream_iv chain_iv stream (subst Q ee (subst P em blocks))
