-- Tables of refusals of which no row holds.

-- whether a row of a table holds
use Rattle.std.proofs.Common.{Bool, None, Option, Some, [], cond, false, not, refl, subst, suc, true, zero, ℕ, ◌&&◌, ◌∷◌, ◌≡◌}
use Rattle.store_model.proofs.Common.{Rows, Status, first_row, is_of_fault}

abbrev pub holds_at : Rows → ℕ → Bool
holds_at [] n = false
holds_at (row ∷ rows) zero = row.0
holds_at (row ∷ rows) (suc n) = holds_at rows n

passed : (b : Bool) (s : Status) (o : Option Status) → cond b (Some s) o ≡ None → (b ≡ false) × (o ≡ None)
passed true s o h = cc
passed false s o h = (refl, h)

pub none_holds : (rows : Rows) (n : ℕ) → first_row rows ≡ None → holds_at rows n ≡ false
none_holds [] n h = refl
none_holds (row ∷ rows) zero h = (passed row.0 row.1 (first_row rows) h).0
none_holds (row ∷ rows) (suc n) h = none_holds rows n (passed row.0 row.1 (first_row rows) h).1

-- what holds of the status of each row that holds
abbrev pub AllRows : (Status → Type 0) → Rows → Type 0
AllRows P [] = Unit {0}
AllRows P (row ∷ rows) = (row.0 ≡ true → P row.1) × AllRows P rows

one_or_later : (P : Status → Type 0) (b : Bool) (s : Status) (o : Option Status) → (b ≡ true → P s) → ((status : Status) → o ≡ Some status → P status) → (status : Status) → cond b (Some s) o ≡ Some status → P status
one_or_later P true s o here later status e = let same : s ≡ status = cc in subst P same (here refl)
one_or_later P false s o here later status e = later status e

-- holds of the table's refusal
pub refused_by : (P : Status → Type 0) (rows : Rows) → AllRows P rows → (status : Status) → first_row rows ≡ Some status → P status
refused_by P [] all status e = cc
refused_by P (row ∷ rows) all status e = one_or_later P row.0 row.1 (first_row rows) all.0 (refused_by P rows all.1) status e

-- STATUSES OF FAILED DEVICES

-- a status that no failed device gives
abbrev pub NoFault : Status → Type 0
NoFault status = is_of_fault status ≡ false

-- whether no row has the status of a failed device
abbrev pub has_no_fault : Rows → Bool
has_no_fault [] = true
has_no_fault (row ∷ rows) = not (is_of_fault row.1) && has_no_fault rows

both : (b c : Bool) → (not b && c) ≡ true → (b ≡ false) × (c ≡ true)
both true c h = cc
both false c h = (refl, h)

no_fault_rows : (rows : Rows) → has_no_fault rows ≡ true → AllRows NoFault rows
no_fault_rows [] h = tt
no_fault_rows (row ∷ rows) h = let one = both (is_of_fault row.1) (has_no_fault rows) h in (λ on. one.0, no_fault_rows rows one.1)

-- a refusal, where there is one, isn't that of a failed device
abbrev pub RefusesPlainly : Option Status → Type 0
RefusesPlainly o = (status : Status) → o ≡ Some status → NoFault status

pub refuses_plainly : (rows : Rows) → has_no_fault rows ≡ true → RefusesPlainly (first_row rows)
refuses_plainly rows h = refused_by NoFault rows (no_fault_rows rows h)
