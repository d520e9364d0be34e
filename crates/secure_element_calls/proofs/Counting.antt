-- How often a device has computed.
use Rattle.std.proofs.Common.{arith, inl, inr, ℕ, ◌<◌, ◌≡◌}
use Rattle.secure_element_calls.proofs.Common.{cases_eq, one_more, Rose}

-- one more call, after none or after some
pub rose_again : (n start before now : ℕ) → (n ≡ 0 → before ≡ start) → (0 < n → Rose start before) → now ≡ one_more before → Rose start now
rose_again n start before now none some e = elim (cases_eq n 0) [
  | inl zero ↦ let same : before ≡ start = none zero in omega arith
  | inr more ↦ let rose : Rose start before = some (omega arith) in omega arith
]
