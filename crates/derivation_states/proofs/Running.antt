-- The current block's next byte.
use Rattle.std.proofs.Common.{List, None, Option, Some, [], ap, ap₂, arith, drop, is_some, length, refl, suc, sym, take, true, zero, ℕ, ◌*◌, ◌++◌, ◌+◌, ◌-◌, ◌<◌, ◌∙◌, ◌≡◌, ◌≤◌}
use Rattle.derivation_states.proofs.Common.{block_at, DerivationWork, digest_length, ForSome, drop-take, take-take, HasSecret, HoldsInputs, Inputs, IsRunning, KeyDerivation, mul-suc, NamesDerivation, next_derived, nil_from_length, number_or_zero, OutputState, without}
use Rattle.hash_ops.specs.{declared.Hash.Hash, declared.Hash.TheVariants.Sha224}
use Rattle.hash_ops.proofs.Digests.{length-hash_of}
use Rattle.derivation_states.proofs.{Blocks.HasBlocks, Derived.next_piece, Derived.next_derived_add, Derived.length-next_derived}

some_digest : (which : Hash) → 1 ≤ digest_length which
some_digest Sha224 = omega arith
some_digest which = omega arith

some_turns : (cost given : Option ℕ) → cost ≡ given → is_some given ≡ true → ForSome cost (λ turns. 1 ≤ turns) → 1 ≤ number_or_zero given
some_turns cost (Some n) e s h = h n e
some_turns cost None e s h = cc

has_blocks : (k : KeyDerivation) (i : Inputs) (w : DerivationWork) → NamesDerivation w.alg k → HoldsInputs i w → is_some w.secret ≡ true → HasBlocks w (digest_length k.hash)
has_blocks k i w kdf inputs secret = record {
  some = some_digest k.hash;
  digest = λ m. ap (λ (f : List ℕ → List ℕ). length (f m)) (sym kdf.hash.digest) ∙ length-hash_of k.hash m;
  turns = λ e. some_turns i.cost w.cost inputs.cost (inputs.costed e secret) i.some_turns;
}

-- a block that has bytes left isn't block 0, and its next ones are the next of all
placed : (h : ℕ) (o : OutputState) (w : DerivationWork) (k : ℕ) → digest_length o.kdf.hash ≡ h → HasBlocks w h → IsRunning o w → o.used < o.length → o.used + k ≤ o.length → (n : ℕ) → o.number ≡ n → next_derived w k ≡ take k (drop o.used o.block)
placed h o w k eh blocks running left within zero e = absurd (omega (arith, running.none e))
placed h o w k eh blocks running left within (suc i) e =
    let whole : o.length ≡ h = running.whole (omega arith) ∙ eh in
    let before : digest_length o.kdf.hash * o.number ≡ h * i + h = ap₂ (λ (a b : ℕ). a * b) eh e ∙ mul-suc h i in
    let block : take o.length o.block ≡ block_at w (suc i) = running.block ∙ ap (block_at w) e in
    let rest : o.used + (o.length - o.used) ≡ o.length = omega arith in
    next_piece w h blocks i o.used k (omega (arith, running.place)) (omega arith)
    ∙ ap (λ (l : List ℕ). take k (drop o.used l)) (sym block)
    ∙ ap (λ (m : ℕ). take k (drop o.used (take m o.block))) (sym rest)
    ∙ ap (take k) (drop-take o.used (o.length - o.used) o.block)
    ∙ take-take k (o.length - o.used) (drop o.used o.block) (omega arith)

pub piece_taken : (i : Inputs) (o : OutputState) (w : DerivationWork) (k : ℕ) → HoldsInputs i w → IsRunning o w → is_some w.secret ≡ true → o.used < o.length → o.used + k ≤ o.length → next_derived w k ≡ take k (drop o.used o.block)
piece_taken i o w k inputs running secret left within = placed (digest_length o.kdf.hash) o w k refl (has_blocks o.kdf i w running.kdf inputs secret) running left within o.number refl

module _ (i : Inputs) (o : OutputState) (w : DerivationWork) (r : HasSecret i o w) where
  pub ready_blocks : HasBlocks w (digest_length o.kdf.hash)
  ready_blocks = has_blocks o.kdf i w r.output.running.kdf r.inputs r.secret

  pub length-given : (n : ℕ) → length (next_derived w n) ≡ n
  length-given n = length-next_derived w (digest_length o.kdf.hash) ready_blocks n

  pub none_taken : next_derived w 0 ≡ []
  none_taken = nil_from_length (next_derived w 0) (length-given 0)

  -- so many bytes, and then some more
  pub some_more : (n k : ℕ) (front piece : List ℕ) → front ≡ next_derived w n → next_derived (without w n) k ≡ piece → front ++ piece ≡ next_derived w (n + k)
  some_more n k front piece before next = ap₂ (λ (xs ys : List ℕ). xs ++ ys) before (sym next) ∙ sym (next_derived_add w (digest_length o.kdf.hash) ready_blocks n k)

pub without_twice : (w : DerivationWork) (n k : ℕ) → without (without w n) k ≡ without w (n + k)
without_twice w n k =
    let taken : w.taken + n + k ≡ w.taken + (n + k) = omega arith in
    let capacity : w.capacity - n - k ≡ w.capacity - (n + k) = omega arith in
    ap₂ (λ (t c : ℕ). let v : DerivationWork = record w { taken = t; capacity = c } in v) taken capacity

pub without_none : (w : DerivationWork) → w ≡ without w 0
without_none w =
    let taken : w.taken ≡ w.taken + 0 = omega arith in
    let capacity : w.capacity ≡ w.capacity - 0 = omega arith in
    ap₂ (λ (t c : ℕ). let v : DerivationWork = record w { taken = t; capacity = c } in v) taken capacity
