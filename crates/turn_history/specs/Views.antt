-- What passes know, and how a step changes it.
use Rattle.std.specs.Prelude.{◌≡◌, ℕ, ◌+◌, ◌-◌, ◌*◌, ◌<◌, true, false, cond, nat_lt, List, [], ◌∷◌, ◌++◌, length, Option, Some, None}
use Rattle.atomic_table.specs.Table.{Me}
use Rattle.turn_history.specs.{declared.pass.Account.Account, declared.pass.View.View, History.entries_of, History.calls_by, History.option_list, Holdings.Holding}

-- a view, and the slot that is out with it
abbrev pub Mine : Type 0 → Type 0 → Type 0 → Type 0
Mine V E B = Me (Option V) (View E B)

-- the turns that a new pass has, 2 to the power 58, so that those of sixteen are far fewer than a word counts
abbrev pub TURNS : ℕ
TURNS = 288230376151711744

abbrev pub account : {E : Type 0} → ℕ → List (Option E) → List E → Account E
account n seen calls = record { number = n; seen = seen; calls = calls }

abbrev pub longer : {E : Type 0} → List (Option E) → List (Option E) → List (Option E)
longer a b = cond (nat_lt (length a) (length b)) b a

module _ {E B : Type 0} where
  -- the view that makes the passes: so many are left to make, and the next has this number
  abbrev pub maker_of : B → ℕ → ℕ → View E B
  maker_of b count next = record { number = 0; base = Some b; seen = []; calls = []; holding = []; ticket = None; in_turn = false; holdings = []; turns_left = count * TURNS; weight = count; next_number = next; accounts = [] }

  abbrev pub first_view : B → ℕ → View E B
  first_view b passes = maker_of b passes 1

  abbrev pub after_making : View E B → View E B
  after_making v = record v { turns_left = v.turns_left - TURNS; weight = v.weight - 1; next_number = v.next_number + 1 }

  abbrev pub made_pass : View E B → View E B
  made_pass v = record v { number = v.next_number; calls = []; holding = []; ticket = None; in_turn = false; holdings = []; turns_left = TURNS; weight = 1; next_number = 0; accounts = [] }

  -- the pass n of a new lock: it has seen nothing
  abbrev pub new_pass : B → ℕ → View E B
  new_pass b n = record { number = n; base = Some b; seen = []; calls = []; holding = []; ticket = None; in_turn = false; holdings = []; turns_left = TURNS; weight = 1; next_number = 0; accounts = [] }

  -- it has seen the same, makes no call, and has no turn
  abbrev pub watcher : View E B → View E B
  watcher v = record v { number = 0; calls = []; holding = []; ticket = None; in_turn = false; holdings = []; turns_left = 0; weight = 0; next_number = 0; accounts = [] }

  -- a pass that another took in
  abbrev pub spent : View E B
  spent = record { number = 0; base = None; seen = []; calls = []; holding = []; ticket = None; in_turn = false; holdings = []; turns_left = 0; weight = 0; next_number = 0; accounts = [] }

  -- in no turn, and waiting for none
  abbrev pub IsOutside : {V : Type 0} → Mine V E B → Type 0
  IsOutside m = (m.0.ticket ≡ None) × (m.0.in_turn ≡ false) × (m.1 ≡ [])

  -- it is no watcher, is outside, and has a turn left
  abbrev pub CanEnter : {V : Type 0} → Mine V E B → Type 0
  CanEnter m = IsOutside m × (0 < m.0.number) × (0 < m.0.turns_left)

  abbrev pub IsInTurn : {V : Type 0} → Mine V E B → Type 0
  IsInTurn m = (m.0.in_turn ≡ true) × (m.1 ≡ (0, None) ∷ []) × (0 < m.0.number)

  abbrev pub with_ticket : View E B → ℕ → View E B
  with_ticket v t = record v { ticket = Some t; turns_left = v.turns_left - 1 }

  abbrev pub in_its_turn_at : View E B → List (Option E) → List Holding → View E B
  in_its_turn_at v turns holdings = record v { in_turn = true; seen = turns; holdings = holdings }

  -- v in the turn that w has begun
  abbrev pub entered : View E B → View E B → View E B
  entered v w = record v { ticket = w.ticket; in_turn = true; seen = w.seen; holdings = w.holdings; turns_left = v.turns_left - 1 }

  -- its turn has ended, with the entry or without one, and it has `own` out of the value
  abbrev pub after_turn : View E B → Option E → Holding → View E B
  after_turn v e own = record v { ticket = None; in_turn = false; seen = v.seen ++ e ∷ []; calls = v.calls ++ option_list e; holding = own }

  -- its calls are exactly its entries in what it has seen
  abbrev pub OwnCalls : (E → ℕ) → View E B → Type 0
  OwnCalls by v = 0 < v.number → calls_by by v.number (entries_of v.seen) ≡ v.calls

  abbrev pub account_of : View E B → Account E
  account_of v = account v.number v.seen v.calls

  -- v has taken w in, and remembers what both had seen
  abbrev pub merged : View E B → View E B → View E B
  merged v w = record v { seen = longer v.seen w.seen; turns_left = v.turns_left + w.turns_left; weight = v.weight + w.weight; accounts = v.accounts ++ account 0 v.seen [] ∷ account 0 w.seen [] ∷ [] }

  -- v has taken w in: it has seen the longer history and has the turns of both
  abbrev pub joined : View E B → View E B → View E B
  joined v w = record v { seen = longer v.seen w.seen; turns_left = v.turns_left + w.turns_left; weight = v.weight + w.weight; accounts = [] }

  -- v has taken in the account of w
  abbrev pub gathering : View E B → View E B → View E B
  gathering v w = record v { turns_left = v.turns_left + w.turns_left; weight = v.weight + w.weight; accounts = v.accounts ++ account_of w ∷ [] }
