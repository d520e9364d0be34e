-- A search by halves in a sorted row.
use Rattle.key_index.proofs.Common.{AllWithin, AreHalvings, Entry, IsSorted, List, arith, entry_at, get_or, get_or_default, length, suc, ℕ, ◌*◌, ◌+◌, ◌-◌, ◌/◌, ◌<◌, ◌^◌, ◌≡◌, ◌≤◌}
use Rattle.std.proofs.Math.Nat.{mul-le-mul_left, mul_assoc, pow-suc, le-mul_of_pos_right}

-- so many steps were made, and so many of n things are left
pub record LeavesFew (n before now left : ℕ) : Type 0 where
  pub steps : ℕ
  pub added : now ≡ before + steps
  pub within : 2 ^ steps * left ≤ n
  pub few : 2 ^ steps ≤ 2 * n + 1

-- what is between two places is still to be searched
pub record IsSearched (id : ℕ) (entries : List Entry) (before now low high : ℕ) : Type 0 where
  pub ordered : low ≤ high
  pub within : high ≤ length entries
  pub below : AllWithin (λ (e : Entry). e.id < id) entries 0 low
  pub above : AllWithin (λ (e : Entry). id < e.id) entries high (length entries)
  pub few : LeavesFew (length entries) before now (high - low)

pub halved : (n before now left less : ℕ) → LeavesFew n before now left → 0 < left → 2 * less ≤ left → LeavesFew n before (now + 1) less
halved n before now left less few some half =
    let twice : 2 ^ suc few.steps ≡ 2 ^ few.steps * 2 = pow-suc 2 few.steps in
    let at_most : 2 ^ few.steps * (2 * less) ≤ 2 ^ few.steps * left = mul-le-mul_left (2 ^ few.steps) half in
    let more : 2 ^ few.steps ≤ 2 ^ few.steps * left = le-mul_of_pos_right (2 ^ few.steps) some in
    record {
      steps = suc few.steps;
      added = omega (arith, few.added);
      within = rw (twice, mul_assoc (2 ^ few.steps) 2 less) (omega (arith, few.within, at_most));
      few = rw twice (omega (arith, few.within, more));
    }

-- the rest of a search is after a lower identifier in its middle
pub goes_up : (id : ℕ) (entries : List Entry) (before now low high : ℕ) → IsSorted entries → IsSearched id entries before now low high → low < high
    → (entry_at entries (low + (high - low) / 2)).id < id → IsSearched id entries before (now + 1) (low + (high - low) / 2 + 1) high
goes_up id entries before now low high sorted s some less =
    let middle = low + (high - low) / 2 in
    let inside : middle < length entries = omega (arith, some, s.within) in record {
      ordered = omega (arith, some);
      within = s.within;
      below = λ k d least below.
          let up : (get_or entries k d).id ≤ (get_or entries middle d).id = sorted k middle d (omega (arith, below)) inside in
          let less' : (get_or entries middle d).id < id = rw (get_or_default entries middle d (record { id = 0; place = 0 }) inside) less in
          omega (arith, up, less');
      above = s.above;
      few = halved (length entries) before now (high - low) (high - (middle + 1)) s.few (omega (arith, some)) (omega (arith, some));
    }

-- and before a greater one
pub goes_down : (id : ℕ) (entries : List Entry) (before now low high : ℕ) → IsSorted entries → IsSearched id entries before now low high → low < high
    → id < (entry_at entries (low + (high - low) / 2)).id → IsSearched id entries before (now + 1) low (low + (high - low) / 2)
goes_down id entries before now low high sorted s some more =
    let middle = low + (high - low) / 2 in
    let inside : middle < length entries = omega (arith, some, s.within) in record {
      ordered = omega (arith, some);
      within = omega (arith, inside);
      below = s.below;
      above = λ k d least below.
          let up : (get_or entries middle d).id ≤ (get_or entries k d).id = sorted middle k d least below in
          let more' : id < (get_or entries middle d).id = rw (get_or_default entries middle d (record { id = 0; place = 0 }) inside) more in
          omega (arith, up, more');
      few = halved (length entries) before now (high - low) (middle - low) s.few (omega (arith, some)) (omega (arith, some));
    }

pub found_at : (id : ℕ) (entries : List Entry) (before now low high : ℕ) → IsSearched id entries before now low high → low < high → AreHalvings (length entries) before (now + 1)
found_at id entries before now low high s some =
    let few = halved (length entries) before now (high - low) 0 s.few (omega (arith, some)) (omega arith) in
    record { steps = few.steps; added = few.added; few = few.few }
