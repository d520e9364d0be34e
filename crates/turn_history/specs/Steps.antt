-- What each step tells the pass that makes it: of the step, the pass before, the number found and the pass after.
use Rattle.std.specs.Prelude.{◌≡◌, ◌≢◌, ℕ, ◌^◌, ◌<◌, ◌≤◌, false, List, [], ◌∷◌, All, length, Option, Some, None}
use Rattle.atomic_table.specs.Table.{Step}
use Rattle.turn_history.specs.{declared.pass.Account.Account, declared.pass.View.View, History.entries_of, History.StartsWith, Holdings.Holding, Holdings.held_by, Views.Mine, Views.OwnCalls, Views.after_turn, Views.in_its_turn_at, Views.with_ticket}

abbrev pub TableStep : Type 0 → Type 0
TableStep V = Step (Option V)

module _ {V E B : Type 0} where
  abbrev pub drawn : TableStep V → Mine V E B → ℕ → Mine V E B → Type 0
  drawn st m n m' = m' ≡ (with_ticket m.0 n, m.1)

  -- the value x that the pass v finds in its turn, in which it is w
  pub record Found (by : E → ℕ) (stands : V → List E → List Holding → Type 0) (base : V → B) (v : View E B) (x : V) (w : View E B) : Type 0 where
    pub prefix : StartsWith w.seen v.seen
    pub own_calls : OwnCalls by w
    pub stood : stands x (entries_of w.seen) w.holdings
    pub own_holding : held_by w.holdings v.number ≡ v.holding
    pub based : v.base ≡ Some (base x)
    pub few : length w.seen < 2 ^ 62
    pub inside : v.number ≤ length w.holdings

  abbrev pub looked : (E → ℕ) → (V → List E → List Holding → Type 0) → (V → B) → TableStep V → Mine V E B → ℕ → Mine V E B → Type 0
  looked by stands base st m n m' =
      (m.0.ticket ≡ Some n → (x : V) × (turns : List (Option E)) × (holdings : List Holding) × (m'.0 ≡ in_its_turn_at m.0 turns holdings) × (m'.1 ≡ (0, Some x) ∷ m.1) × Found by stands base m.0 x m'.0)
      × (m.0.ticket ≢ Some n → m' ≡ m)

  abbrev pub ended : (E → ℕ) → Option E → Holding → TableStep V → Mine V E B → ℕ → Mine V E B → Type 0
  ended by e own st m n m' = (m' ≡ (after_turn m.0 e own, [])) × OwnCalls by m'.0

  -- the turns that have ended are seen
  abbrev pub fronted : (E → ℕ) → TableStep V → Mine V E B → ℕ → Mine V E B → Type 0
  fronted by st m n m' = (m' ≡ (record m.0 { seen = m'.0.seen }, m.1)) × (length m'.0.seen ≡ n) × StartsWith m'.0.seen m.0.seen × OwnCalls by m'.0

  -- what each of those that the pass took in had seen begins one list of turns; the pass forgets them
  abbrev pub compared : (E → ℕ) → TableStep V → Mine V E B → ℕ → Mine V E B → Type 0
  compared by st m n m' = (m' ≡ (record m.0 { accounts = [] }, m.1)) × ((turns : List (Option E)) × All (λ (a : Account E). StartsWith turns a.seen) m.0.accounts) × OwnCalls by m'.0

  abbrev pub came : TableStep V → Mine V E B → ℕ → Mine V E B → Type 0
  came st m n m' = (m'.0.number ≡ 0) × (m'.0.accounts ≡ []) × (m'.0.weight ≡ 0) × (m'.0.in_turn ≡ false) × (m'.0.ticket ≡ None) × (m'.0.next_number ≡ 0)
