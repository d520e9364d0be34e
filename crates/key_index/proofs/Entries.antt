-- What is found in a sorted row of entries.
use Rattle.key_index.proofs.Common.{Bool, Entry, IsAlone, IsGap, IsSorted, List, [], ap, arith, cases_lt, cond, entries_of, entry_at, eq-eqb, eqb-true, false, length, ne_eqb, refl, remove, suc, true, zero-add, ℕ, ⊎_elim, ◌&&◌, ◌+◌, ◌<◌, ◌==◌, ◌∙◌, ◌∷◌, ◌≡◌, ◌≢◌, ◌≤◌}
use Rattle.std.proofs.{lemmas.List.Edits.get_or-remove_above, lemmas.List.Edits.get_or-remove_below, lemmas.List.Edits.length-remove, lemmas.List.Sums.get_or-le-sum_by, lemmas.List.Sums.sum_by-cons}

abbrev no_entry : Entry
no_entry = record { id = 0; place = 0 }

-- whether an entry is that of a place by an identifier, as a number
abbrev pub one_of : ℕ → ℕ → Entry → ℕ
one_of id place e = cond (e.id == id && (e.place == place)) 1 0

has_none : (id place : ℕ) (entries : List Entry) → ((k : ℕ) → k < length entries → (entry_at entries k).id ≢ id) → entries_of id place entries ≡ 0
has_none id place [] none = refl
has_none id place (e ∷ entries) none =
    sum_by-cons (one_of id place) e entries
    ∙ ap (λ b. cond (b && (e.place == place)) 1 0 + entries_of id place entries) (ne_eqb e.id id (none 0 (omega arith)))
    ∙ zero-add (entries_of id place entries)
    ∙ has_none id place entries (λ k within. none (suc k) (omega (arith, within)))

pub gap_has_none : (id position place : ℕ) (entries : List Entry) → IsGap id entries position → entries_of id place entries ≡ 0
gap_has_none id position place entries gap = has_none id place entries (λ k within same.
    ⊎_elim
    (λ (before : k < position). let less : (entry_at entries k).id < id = gap.1.0 k no_entry (omega arith) before in omega (arith, less, same))
    (λ (after : position ≤ k). let more : id < (entry_at entries k).id = gap.1.1 k no_entry after within in omega (arith, more, same))
    (cases_lt k position))

pub found_is_there : (id position : ℕ) (entries : List Entry) → position < length entries → (entry_at entries position).id ≡ id → 1 ≤ entries_of id (entry_at entries position).place entries
found_is_there id position entries within same =
    let e = entry_at entries position in
    let here : one_of id e.place e ≡ 1 = rw (eq-eqb e.id id same, eq-eqb e.place e.place refl) refl in
    let some : one_of id e.place e ≤ entries_of id e.place entries = get_or-le-sum_by (one_of id e.place) entries position no_entry within in
    omega (arith, here, some)

pub is_one : (b : Bool) → 1 ≤ cond b 1 0 → b ≡ true
is_one true one = refl
is_one false one = absurd (omega (arith, one))

-- the entry that is found for an identifier which stands there once
pub found_is_alone : (id place position : ℕ) (entries : List Entry) → IsAlone id place entries → position < length entries → (entry_at entries position).id ≡ id → entry_at entries position ≡ record { id = id; place = place }
found_is_alone id place position entries alone within same =
    let e = entry_at entries position in
    let at_place : e.place ≡ place = eqb-true _ _ (is_one (e.place == place) (rw (alone e.place) at (found_is_there id position entries within same))) in
    ap (λ n. record { id = n; place = e.place }) same ∙ ap (λ n. record { id = id; place = n }) at_place

pub sorted-remove : (entries : List Entry) (position : ℕ) → IsSorted entries → position < length entries → IsSorted (remove entries position)
sorted-remove entries position sorted within i j d least below =
    let fewer : length (remove entries position) + 1 ≡ length entries = length-remove entries position within in
    ⊎_elim
    (λ (i_before : i < position).
    ⊎_elim
    (λ (j_before : j < position). rw (get_or-remove_below entries position d i i_before within, get_or-remove_below entries position d j j_before within) (sorted i j d least (omega (arith, within, j_before))))
    (λ (j_after : position ≤ j). rw (get_or-remove_below entries position d i i_before within, get_or-remove_above entries position d j j_after within) (sorted i (j + 1) d (omega (arith, least)) (omega (arith, fewer, below))))
    (cases_lt j position))
    (λ (i_after : position ≤ i).
    rw (get_or-remove_above entries position d i i_after within, get_or-remove_above entries position d j (omega (arith, i_after, least)) within) (sorted (i + 1) (j + 1) d (omega (arith, least)) (omega (arith, fewer, below))))
    (cases_lt i position)
