-- What the changes of an index make of what it is the index of.
use Rattle.key_index.proofs.Common.{Bool, Entry, IsIndexOf, IsPermutation, IsPermutation-sym, List, MatchOption, None, Option, Some, add-zero, ap, arith, cases_eq, cond, entries_of, eq-eqb, false, ne_eqb, refl, sum_by-IsPermutation, sym, true, zero-add, ℕ, ⊎_elim, ◌&&◌, ◌+◌, ◌==◌, ◌∙◌, ◌∷◌, ◌≡◌, ◌≢◌, ◌≤◌}
use Rattle.std.proofs.lemmas.List.Sums.{sum_by-cons}
use Rattle.key_index.proofs.Entries.{is_one, one_of}

entries_of-moved : (id i : ℕ) (e : Entry) (entries more : List Entry) → IsPermutation (e ∷ entries) more → entries_of id i more ≡ one_of id i e + entries_of id i entries
entries_of-moved id i e entries more moved = sum_by-IsPermutation (one_of id i) (e ∷ entries) more moved ∙ sum_by-cons (one_of id i) e entries

other_place : (id k : ℕ) (e : Entry) → k ≢ e.place → one_of id k e ≡ 0
other_place id k e other = rw (ne_eqb e.place k (λ same. other (sym same))) (by_test (e.id == id)) where
  by_test : (b : Bool) → cond {A = ℕ} (b && false) 1 0 ≡ 0
  by_test true = refl
  by_test false = refl

this_place : (id : ℕ) (e : Entry) → one_of id e.place e ≡ cond (e.id == id) 1 0
this_place id e = rw (eq-eqb e.place e.place refl) (by_test (e.id == id)) where
  by_test : (b : Bool) → cond {A = ℕ} (b && true) 1 0 ≡ cond b 1 0
  by_test true = refl
  by_test false = refl

-- an index tells no more than which place has a key of which identifier
pub index_same : (has has' : ℕ → ℕ → Bool) (entries : List Entry) → ((id k : ℕ) → has' id k ≡ has id k) → IsIndexOf has entries → IsIndexOf has' entries
index_same has has' entries same index id k = index id k ∙ ap (λ b. cond b 1 0) (sym (same id k))

-- a place gets a key
pub index_gains : (has has' : ℕ → ℕ → Bool) (e : Entry) (entries more : List Entry) → ((id : ℕ) → has id e.place ≡ false) → ((id : ℕ) → has' id e.place ≡ (e.id == id)) → ((id k : ℕ) → k ≢ e.place → has' id k ≡ has id k)
    → IsPermutation (e ∷ entries) more → IsIndexOf has entries → IsIndexOf has' more
index_gains has has' e entries more before after others moved index id k = entries_of-moved id k e entries more moved ∙ ⊎_elim here there (cases_eq k e.place) where
  here : k ≡ e.place → one_of id k e + entries_of id k entries ≡ cond (has' id k) 1 0
  here same = rw same
      (ap (λ n. one_of id e.place e + n) (index id e.place ∙ ap (λ b. cond b 1 0) (before id))
      ∙ add-zero (one_of id e.place e)
      ∙ this_place id e
      ∙ ap (λ b. cond b 1 0) (sym (after id)))

  there : k ≢ e.place → one_of id k e + entries_of id k entries ≡ cond (has' id k) 1 0
  there other =
      ap (λ n. n + entries_of id k entries) (other_place id k e other)
      ∙ zero-add (entries_of id k entries)
      ∙ index id k
      ∙ ap (λ b. cond b 1 0) (sym (others id k other))

-- a place loses its key
pub index_loses : (has has' : ℕ → ℕ → Bool) (e : Entry) (entries fewer : List Entry) → ((id : ℕ) → has id e.place ≡ (e.id == id)) → ((id : ℕ) → has' id e.place ≡ false) → ((id k : ℕ) → k ≢ e.place → has' id k ≡ has id k)
    → IsPermutation entries (e ∷ fewer) → IsIndexOf has entries → IsIndexOf has' fewer
index_loses has has' e entries fewer before after others moved index id k = ⊎_elim here there (cases_eq k e.place) where
  back : entries_of id k entries ≡ one_of id k e + entries_of id k fewer
  back = entries_of-moved id k e fewer entries (IsPermutation-sym entries (e ∷ fewer) moved)

  here : k ≡ e.place → entries_of id k fewer ≡ cond (has' id k) 1 0
  here same =
      let both : one_of id k e + entries_of id k fewer ≡ one_of id k e = sym back ∙ index id k ∙ ap (λ b. cond b 1 0) (ap (has id) same ∙ before id) ∙ sym (ap (λ n. one_of id n e) same ∙ this_place id e) in
      let none : entries_of id k fewer ≡ 0 = omega (arith, both) in
      none ∙ ap (λ b. cond b 1 0) (sym (ap (has' id) same ∙ after id))

  there : k ≢ e.place → entries_of id k fewer ≡ cond (has' id k) 1 0
  there other =
      sym (zero-add (entries_of id k fewer))
      ∙ ap (λ n. n + entries_of id k fewer) (sym (other_place id k e other))
      ∙ sym back
      ∙ index id k
      ∙ ap (λ b. cond b 1 0) (sym (others id k other))

-- what an index tells of a key
pub index_finds : (has : ℕ → ℕ → Bool) (id : ℕ) (entries : List Entry) (found : Option ℕ) → IsIndexOf has entries → MatchOption found ((i : ℕ) → entries_of id i entries ≡ 0) (λ i. 1 ≤ entries_of id i entries)
    → MatchOption found ((i : ℕ) → has id i ≡ false) (λ i. has id i ≡ true)
index_finds has id entries (Some i) index some = is_one (has id i) (rw (index id i) at some)
index_finds has id entries None index none = λ i. is_none (has id i) (sym (index id i) ∙ none i) where
  is_none : (b : Bool) → cond {A = ℕ} b 1 0 ≡ 0 → b ≡ false
  is_none true zero = absurd (omega (arith, zero))
  is_none false zero = refl
