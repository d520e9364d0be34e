-- What a search among rising handles finds.
use Rattle.std.proofs.{Common.Err, Common.IfErr, Common.IfOk, Common.IsErr, Common.List, Common.Ok, Common.Result, Common.[], Common.arith, Common.length, Common.refl, Common.sym, Common.ℕ, lemmas.Cmp.ranked}
use Rattle.soft_driver.proofs.Common.{HasHandleAt, Held, IsGapFor, LacksHandle, nat_tests}
use Rattle.std.specs.{List.Sorted.IsBinarySearchResult, List.Sorted.IsNonDecreasingBy, List.Sorted.IsSearchInRange, Ordering.nat_cmp, Ordering.ordering_index}

module _ (held : List Held) (rising : IsNonDecreasingBy (λ h. h.handle) held) (handle : ℕ) where
  rises : IsNonDecreasingBy (λ h. ordering_index (nat_cmp h.handle handle)) held
  rises = λ i j d le within. let one = rising i j d le within in grind (arith, nat_tests)

  pub searched : (r : Result ℕ ℕ) → IsSearchInRange r (length held) → IsBinarySearchResult (λ h. nat_cmp h.handle handle) held r →
      record { found : IfOk r (HasHandleAt held handle); gap : IfErr r (IsGapFor held handle) }
  searched (Ok at) within equal = record { found = record { within = within; named = λ d. ranked _ handle _ (sym (equal d)) }; gap = tt }
  searched (Err at) within parted = record {
    found = tt;
    gap = record {
      within = within;
      lower = λ k d lt. ranked _ handle _ (sym ((parted rises).0 k d (omega arith) lt));
      higher = λ k d le lt. ranked _ handle _ (sym ((parted rises).1 k d le lt));
    };
  }

-- the search for a handle that no key has ends at a gap
pub is_gap : (held : List Held) (handle : ℕ) (r : Result ℕ ℕ) → LacksHandle held handle → IfOk r (HasHandleAt held handle) → IsErr r
is_gap held handle (Ok at) lacks found = absurd (lacks at (record { handle = 0; key_type = record { 0 = 0 }; length = 0; buffer = [] }) found.within (found.named _))
is_gap held handle (Err at) lacks found = refl
