-- A new stream stands at its first word.
use Rattle.random_streams.proofs.{Common.ChaCha, Common.IsSoundGenerator, Common.List, Common.ap, Common.ap₂, Common.arith, Common.key_of, Common.length, Common.of_seed, Common.stream_of, Common.sym, Common.ℕ, Common.◌∙◌, Common.◌≡◌, SeedWords.AreBytes, SeedWords.seed_of-key_of}

abbrev pub first_of : List ℕ → ℕ → ChaCha
first_of seed caller = record { key = key_of seed; stream = caller; word_pos = 0 }

pub made : (g after : ChaCha) (seed : List ℕ) (caller number : ℕ) → g ≡ of_seed seed → number ≡ caller → after ≡ record g { stream = number } → after ≡ first_of seed caller
made g after seed caller number eg en ea = ea ∙ ap₂ (λ (g : ChaCha) (n : ℕ). record g { stream = n }) eg en

pub first_sound : (seed : List ℕ) (caller : ℕ) → length seed ≡ 32 → AreBytes seed → IsSoundGenerator (first_of seed caller)
first_sound seed caller long all = record { key = ap key_of (sym (seed_of-key_of seed long all)); place = omega arith }

pub first_stream : (seed : List ℕ) (caller : ℕ) → length seed ≡ 32 → AreBytes seed → stream_of (first_of seed caller) ≡ record { seed = seed; caller = caller; place = 0 }
first_stream seed caller long all = ap (λ (s : List ℕ). record { seed = s; caller = caller; place = 0 }) (seed_of-key_of seed long all)
