-- The rule of the lock: what is true of its table and of all passes between any two steps.
use Rattle.std.specs.Prelude.{◌≡◌, ◌⊎◌, ℕ, ◌+◌, ◌^◌, ◌<◌, ◌≤◌, true, false, List, [], ◌∷◌, All, length, Option, Some}
use mathlib.Core.Option.{some, none}
use lib.ListN.{get_elem?}
use Rattle.atomic_table.specs.Table.{State}
use Rattle.turn_history.specs.{declared.pass.Account.Account, declared.pass.View.View, History.entries_of, History.calls_by, History.StartsWith, Holdings.Holding, Holdings.held_by}

abbrev pub total : {A : Type 0} → (A → ℕ) → List A → ℕ
total f [] = 0
total f (x ∷ xs) = f x + total f xs

-- what is so far, beside the views
pub record LockState (E B : Type 0) : Type 0 where
  -- the turns that have ended
  pub turns : List (Option E)
  -- what each pass has out of the value
  pub holdings : List Holding
  -- how many tickets were drawn
  pub tickets : ℕ
  -- how many passes were made, and the seat that makes them
  pub made : ℕ
  pub maker : ℕ
  -- the seat of the pass n, and the seat that drew the ticket t
  pub seat : ℕ → ℕ
  pub holder : ℕ → ℕ
  pub base : B

-- what the pass `number` on the seat j knows of one that it took in
pub record Remembers {E : Type 0} (by : E → ℕ) (turns : List (Option E)) (seat : ℕ → ℕ) (made j number : ℕ) (a : Account E) : Type 0 where
  pub seen : StartsWith turns a.seen
  pub called : 0 < a.number → (seat a.number ≡ j) × (number ≡ 0) × (a.number ≤ made) × (calls_by by a.number (entries_of turns) ≡ a.calls)

module _ {E B : Type 0} (by : E → ℕ) where
  -- what the view v on the seat j knows is so
  pub record Knows (r : LockState E B) (j : ℕ) (v : View E B) : Type 0 where
    pub seen : StartsWith r.turns v.seen
    pub based : (b : B) → v.base ≡ Some b → b ≡ r.base
    pub numbered : 0 < v.number → (r.seat v.number ≡ j) × (v.number ≤ r.made) × (0 < v.weight) × (v.base ≡ Some r.base)
    pub called : 0 < v.number → (calls_by by v.number (entries_of r.turns) ≡ v.calls) × (calls_by by v.number (entries_of v.seen) ≡ v.calls)
    pub has : 0 < v.number → held_by r.holdings v.number ≡ v.holding
    pub waits : (t : ℕ) → v.ticket ≡ Some t → (length r.turns ≤ t) × (t < r.tickets) × (r.holder t ≡ j) × (0 < v.number)
    pub in_its_turn : v.in_turn ≡ true → (v.ticket ≡ Some (length r.turns)) × (v.seen ≡ r.turns) × (v.holdings ≡ r.holdings)
    pub makes : 0 < v.next_number → (v.next_number ≡ r.made + 1) × (r.maker ≡ j)
    pub accounts : All (Remembers by r.turns r.seat r.made j v.number) v.accounts

module _ {V E B : Type 0} (by : E → ℕ) (stands : V → List E → List Holding → Type 0) (base : V → B) where
  -- the value is in its slot, and no pass is in its turn
  pub record Home (r : LockState E B) (s : State (Option V) (View E B)) : Type 0 where
    pub value : V
    pub at_home : s.homes ≡ some (Some value) ∷ []
    pub stood : stands value (entries_of r.turns) r.holdings
    pub same_base : base value ≡ r.base
    pub nobody : (j : ℕ) (v : View E B) → get_elem? s.views j ≡ some v → v.in_turn ≡ false

  -- the value is out with the pass whose turn it is
  pub record Away (s : State (Option V) (View E B)) : Type 0 where
    pub away : s.homes ≡ none ∷ []
    pub who : ℕ
    pub view : View E B
    pub there : get_elem? s.views who ≡ some view
    pub turns_now : view.in_turn ≡ true

  -- the pass n has nothing out of the value, or there is such a pass
  abbrev pub Owned : LockState E B → List (View E B) → ℕ → Type 0
  Owned r views n = (held_by r.holdings n ≡ []) ⊎ ((v : View E B) × (get_elem? views (r.seat n) ≡ some v) × (v.number ≡ n))

  pub record Kept (opening : B) (passes : ℕ) (s : State (Option V) (View E B)) : Type 0 where
    pub course : LockState E B
    pub words : s.words ≡ length course.turns ∷ course.tickets ∷ []
    pub order : length course.turns ≤ course.tickets
    -- the turns taken and those that are left: no word wraps
    pub fuel : course.tickets + total (λ (v : View E B). v.turns_left) s.views ≤ 2 ^ 62
    pub weighs : total (λ (v : View E B). v.weight) s.views ≡ passes
    pub sized : (length course.holdings ≡ passes) × (course.made ≤ passes)
    pub based : course.base ≡ opening
    pub signed : All (λ (e : E). (0 < by e) × (by e ≤ course.made)) (entries_of course.turns)
    pub owned : (n : ℕ) → 0 < n → Owned course s.views n
    pub each : (j : ℕ) (v : View E B) → get_elem? s.views j ≡ some v → Knows by course j v
    pub place : Home course s ⊎ Away s
