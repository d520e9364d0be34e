-- What the body of a key's cell has in its parts.
use Rattle.key_cells.proofs.Common.{Attributes, HasKeyUpTo, HoldsKey, HoldsNoKey, IsKept, IsKeyOf, IsLength, IsNoLength, IsNoRecord, IsPersistent, IsRecord, List, None, Ok, Option, Some, ap, arith, body_of, drop, drop-drop, drop-replicate, drop-take, drop_at, front_of, length, length-drop, length-replicate, length-take, refl, replicate, spelling, subst, sym, take, take-append-drop, take_all, take_at, written, ℕ, ⊎_elim, ◌*◌, ◌++◌, ◌+◌, ◌-◌, ◌<◌, ◌^◌, ◌∙◌, ◌≡◌, ◌≤◌}
use Rattle.std.specs.Int.{w16, w32, from_le_bytes}
use Rattle.std.proofs.lemmas.Nat.{from_le_bytes-to_le_bytes_2, from_le_bytes-to_le_bytes_4}
use Rattle.psa_status.specs.{declared.Status.Status, Rows.first_row, Rows.unless}
use Rattle.key_attributes.specs.Checks.{size_rows}

-- the parts of the body of a key's cell
pub record Parts (a : Attributes) (key body : List ℕ) : Type 0 where
  pub front : take 15 body ≡ front_of a.id.0
  pub id : from_le_bytes w32 (take 4 (drop 3 body)) ≡ a.id.0
  pub head : take 36 (drop 15 body) ≡ take 36 (spelling a key)
  pub size : from_le_bytes w32 (take 4 (drop 32 (take 36 (drop 15 body)))) ≡ length key
  pub record_is : take (36 + length key) (drop 15 body) ≡ spelling a key
  pub key_is : take (length key) (drop 51 body) ≡ key
  pub rest : drop (51 + length key) body ≡ replicate (1036 - length key) 0

length-spelling : (a : Attributes) (key : List ℕ) → length (spelling a key) ≡ 36 + length key
length-spelling a key = omega arith

pub parts_of_body : (a : Attributes) (key : List ℕ) → IsKeyOf a key → Parts a key (body_of a key)
unfolding body_of
parts_of_body a key is = record {
  front = refl;
  id = from_le_bytes-to_le_bytes_4 a.id.0 (omega (arith, is.named.1));
  head = refl;
  size = from_le_bytes-to_le_bytes_4 (length key) (omega (arith, is.kept.short));
  record_is = take_at (spelling a key) zeros (36 + length key) (length-spelling a key);
  key_is = take_at key zeros (length key) refl;
  rest = sym (drop-drop (length key) 51 (front_of a.id.0 ++ spelling a key ++ zeros)) ∙ drop_at key zeros (length key) refl;
}
  where
    zeros : List ℕ
    zeros = replicate (1036 - length key) 0

pub parts_of : (a : Attributes) (key body : List ℕ) → HoldsKey a key body → Parts a key body
parts_of a key body h = subst (λ (b : List ℕ). Parts a key b) (sym h.spelled) (parts_of_body a key h.is_key)

-- in a cell its body stands behind one byte
in_cell : (n : ℕ) (cell : List ℕ) → drop n (drop 1 cell) ≡ drop (1 + n) cell
in_cell n cell = drop-drop n 1 cell

-- the key's bytes in the record's
key_cut : (cell : List ℕ) (total : ℕ) → 36 ≤ total → drop 36 (take total (drop 16 cell)) ≡ take (16 + total - 52) (drop 52 cell)
key_cut cell total more =
    ap (λ (n : ℕ). drop 36 (take n (drop 16 cell))) (omega arith)
    ∙ (drop-take 36 (16 + total - 52) (drop 16 cell) ∙ ap (take (16 + total - 52)) (drop-drop 36 16 cell))

-- the parts of a cell, joined
body_joined : (cell : List ℕ) (total id : ℕ) (b : Attributes) (key : List ℕ) → length cell ≡ 1088 → 1088 - (16 + total) ≡ 1036 - length key → take 15 (drop 1 cell) ≡ front_of id → take total (drop 16 cell) ≡ spelling b key
    → drop (16 + total) cell ≡ replicate (length (drop (16 + total) cell)) 0 → drop 1 cell ≡ body_of (record b { id = record { 0 = id } }) key
unfolding body_of
body_joined cell total id b key size count front spelled zeros =
    let back : drop 16 cell ≡ spelling b key ++ drop (16 + total) cell =
    sym (take-append-drop total (drop 16 cell)) ∙ (ap (λ (l : List ℕ). l ++ drop total (drop 16 cell)) spelled ∙ ap (λ (l : List ℕ). spelling b key ++ l) (drop-drop total 16 cell)) in
    let rest : drop (16 + total) cell ≡ replicate (1036 - length key) 0 = zeros ∙ ap (λ (n : ℕ). replicate n 0) (omega (arith, length-drop (16 + total) cell, size, count)) in
    sym (take-append-drop 15 (drop 1 cell))
    ∙ (ap (λ (l : List ℕ). l ++ drop 15 (drop 1 cell)) front
    ∙ ap (λ (l : List ℕ). front_of id ++ l) (in_cell 15 cell ∙ (back ∙ ap (λ (l : List ℕ). spelling b key ++ l) rest)))

module _ (cell : List ℕ) (id : ℕ) (id_is : id ≡ from_le_bytes w32 (take 4 (drop 4 cell))) where
  same_id : (a : Attributes) (key : List ℕ) → HoldsKey a key (drop 1 cell) → id ≡ a.id.0
  same_id a key h = id_is ∙ (ap (λ (l : List ℕ). from_le_bytes w32 (take 4 l)) (sym (in_cell 3 cell)) ∙ (parts_of a key (drop 1 cell) h).id)

  pub no_id : (IsPersistent id → ⊥) → HoldsNoKey (drop 1 cell)
  no_id none a key h = none (subst (λ (n : ℕ). IsPersistent n) (sym (same_id a key h)) h.is_key.named)

  pub no_front : (take 15 (drop 1 cell) ≡ front_of id → ⊥) → HoldsNoKey (drop 1 cell)
  no_front none a key h = none ((parts_of a key (drop 1 cell) h).front ∙ ap front_of (sym (same_id a key h)))

module _ (cell head : List ℕ) (head_is : head ≡ take 36 (drop 16 cell)) where
  same_size : (a : Attributes) (key : List ℕ) → HoldsKey a key (drop 1 cell) → from_le_bytes w32 (take 4 (drop 32 head)) ≡ length key
  same_size a key h = ap (λ (l : List ℕ). from_le_bytes w32 (take 4 (drop 32 l))) (head_is ∙ ap (take 36) (sym (in_cell 15 cell))) ∙ (parts_of a key (drop 1 cell) h).size

  pub no_size : IsNoLength (from_le_bytes w32 (take 4 (drop 32 head))) → HoldsNoKey (drop 1 cell)
  no_size none a key h = ⊎_elim (λ zero. absurd (omega (arith, h.is_key.kept.some, same_size a key h, zero))) (λ more. absurd (omega (arith, h.is_key.kept.short, same_size a key h))) none

  module _ (total : ℕ) (total_is : IsLength (from_le_bytes w32 (take 4 (drop 32 head))) total) where
    same_total : (a : Attributes) (key : List ℕ) → HoldsKey a key (drop 1 cell) → total ≡ 36 + length key
    same_total a key h = total_is.total ∙ ap (λ (n : ℕ). 36 + n) (same_size a key h)

    same_record : (a : Attributes) (key : List ℕ) → HoldsKey a key (drop 1 cell) → take total (drop 16 cell) ≡ spelling a key
    same_record a key h = ap (λ (n : ℕ). take n (drop 16 cell)) (same_total a key h) ∙ (ap (take (36 + length key)) (sym (in_cell 15 cell)) ∙ (parts_of a key (drop 1 cell) h).record_is)

    pub no_record : IsNoRecord (take total (drop 16 cell)) → HoldsNoKey (drop 1 cell)
    no_record none a key h = none a key h.is_key.kept (same_record a key h)

    pub no_rest : length cell ≡ 1088 → (drop (16 + total) cell ≡ replicate (length (drop (16 + total) cell)) 0 → ⊥) → HoldsNoKey (drop 1 cell)
    no_rest size none a key h =
        let at : drop (16 + total) cell ≡ drop (51 + length key) (drop 1 cell) = ap (λ (n : ℕ). drop n cell) (omega (arith, same_total a key h)) ∙ sym (in_cell (51 + length key) cell) in
        let is : drop (16 + total) cell ≡ replicate (1036 - length key) 0 = at ∙ (parts_of a key (drop 1 cell) h).rest in
        none (is ∙ ap (λ (n : ℕ). replicate n 0) (sym (ap length is ∙ length-replicate {A = ℕ} (1036 - length key) 0)))

    -- all parts are those of a key
    pub key_found : (id start : ℕ) (b : Attributes) → length cell ≡ 1088 → IsPersistent id → take 15 (drop 1 cell) ≡ front_of id
        → IsRecord b start (take total (drop 16 cell)) → drop (16 + total) cell ≡ replicate (length (drop (16 + total) cell)) 0
        → HasKeyUpTo (record b { id = record { 0 = id } }) (16 + total) cell
    key_found id start b size named front r zeros = record {
      above = omega (arith, total_is.total);
      below = omega (arith, total_is.total, total_is.short);
      holds = subst (λ (k : List ℕ). HoldsKey (record b { id = record { 0 = id } }) k (drop 1 cell)) (key_cut cell total more) (record {
        is_key = record {
          kept = record {
            lifetime = r.kept.lifetime;
            size = r.kept.size;
            some = r.kept.some;
            short = r.kept.short;
            usage = r.kept.usage;
            fits = record { key_type = r.kept.fits.key_type; usage = r.kept.fits.usage; alg = r.kept.fits.alg; alg2 = r.kept.fits.alg2 };
          };
          named = named;
        };
        spelled = body_joined cell total id b (drop 36 (take total (drop 16 cell))) size count front r.spelled zeros;
      });
    }
      where
        more : 36 ≤ total
        more = omega (arith, total_is.total)

        count : 1088 - (16 + total) ≡ 1036 - length (drop 36 (take total (drop 16 cell)))
        count = omega (arith, total_is.total, total_is.short, size, length-drop 36 (take total (drop 16 cell)), length-take total (drop 16 cell), length-drop 16 cell)

-- a body that was put together
pub body_made : (a : Attributes) (key front : List ℕ) (long : ℕ) (out first second : List ℕ) → length key ≤ 1024
    → front ≡ front_of a.id.0 → take long out ≡ spelling a key → long ≡ 36 + length key
    → first ≡ written (replicate 1087 0) 0 front → second ≡ written first 15 (take long out) → second ≡ body_of a key
unfolding body_of
body_made a key front long out first second short front_is record_is long_is first_is second_is =
    let begin : first ≡ front_of a.id.0 ++ replicate 1072 0 = first_is ∙ ap (λ (f : List ℕ). written (replicate 1087 0) 0 f) front_is in
    let rest : drop (15 + length (spelling a key)) (front_of a.id.0 ++ replicate 1072 0) ≡ replicate (1036 - length key) 0 =
    ap (λ (n : ℕ). drop (15 + n) (front_of a.id.0 ++ replicate 1072 0)) (length-spelling a key)
    ∙ (sym (drop-drop (36 + length key) 15 (front_of a.id.0 ++ replicate 1072 0)) ∙ (drop-replicate (36 + length key) 1072 0 ∙ ap (λ (n : ℕ). replicate n 0) (omega arith))) in
    second_is ∙ (ap (λ (f : List ℕ). written f 15 (take long out)) begin
    ∙ (ap (λ (b : List ℕ). written (front_of a.id.0 ++ replicate 1072 0) 15 b) record_is
    ∙ ap (λ (r : List ℕ). front_of a.id.0 ++ spelling a key ++ r) rest))

-- attributes are what their fields are
abbrev attributes_with : ℕ → ℕ → ℕ → ℕ → ℕ → ℕ → ℕ → Attributes
attributes_with lifetime id key_type bits usage alg alg2 = record {
  lifetime = record { 0 = lifetime };
  id = record { 0 = id };
  key_type = record { 0 = key_type };
  bits = bits;
  policy = record { usage = record { 0 = usage }; alg = record { 0 = alg }; alg2 = record { 0 = alg2 } };
}

pub same_attributes : (a b : Attributes) → a.lifetime.0 ≡ b.lifetime.0 → a.id.0 ≡ b.id.0 → a.key_type.0 ≡ b.key_type.0 → a.bits ≡ b.bits → a.policy.usage.0 ≡ b.policy.usage.0 → a.policy.alg.0 ≡ b.policy.alg.0 → a.policy.alg2.0 ≡ b.policy.alg2.0 → a ≡ b
same_attributes a b lifetime id key_type bits usage alg alg2 =
    let made : attributes_with a.lifetime.0 a.id.0 a.key_type.0 a.bits a.policy.usage.0 a.policy.alg.0 a.policy.alg2.0 ≡ attributes_with b.lifetime.0 b.id.0 b.key_type.0 b.bits b.policy.usage.0 b.policy.alg.0 b.policy.alg2.0 =
    rw (lifetime, id, key_type, bits, usage, alg, alg2) refl in
    made

given : (refusal : Option Status) (value answer : ℕ) → unless refusal value ≡ Ok answer → value ≡ answer
given None value answer is = cc
given (Some status) value answer is = cc

-- the numbers in a record
pub record Numbers (a : Attributes) (head : List ℕ) : Type 0 where
  pub key_type : from_le_bytes w16 (take 2 (drop 16 head)) ≡ a.key_type.0
  pub bits : from_le_bytes w16 (take 2 (drop 18 head)) ≡ a.bits
  pub usage : from_le_bytes w32 (take 4 (drop 20 head)) ≡ a.policy.usage.0
  pub alg : from_le_bytes w32 (take 4 (drop 24 head)) ≡ a.policy.alg.0
  pub alg2 : from_le_bytes w32 (take 4 (drop 28 head)) ≡ a.policy.alg2.0

numbers : (a : Attributes) (key : List ℕ) → IsKept a key → Numbers a (take 36 (spelling a key))
numbers a key kept = record {
  key_type = from_le_bytes-to_le_bytes_2 a.key_type.0 kept.fits.key_type;
  bits = from_le_bytes-to_le_bytes_2 a.bits (bits_fit a key kept);
  usage = from_le_bytes-to_le_bytes_4 a.policy.usage.0 kept.fits.usage;
  alg = from_le_bytes-to_le_bytes_4 a.policy.alg.0 kept.fits.alg;
  alg2 = from_le_bytes-to_le_bytes_4 a.policy.alg2.0 kept.fits.alg2;
}
  where
    bits_fit : (a : Attributes) (key : List ℕ) → IsKept a key → a.bits < 2 ^ 16
    bits_fit a key kept = omega (arith, kept.short, given (first_row (size_rows a.key_type.0 (length key))) (8 * length key) a.bits kept.size)

-- a body is of one key
pub of_one_key : (a b : Attributes) (key other body : List ℕ) → HoldsKey a key body → HoldsKey b other body → (a ≡ b) × (key ≡ other)
of_one_key a b key other body h k =
    let p : Parts a key body = parts_of a key body h in
    let q : Parts b other body = parts_of b other body k in
    let m : Numbers a (take 36 (drop 15 body)) = subst (λ (l : List ℕ). Numbers a l) (sym p.head) (numbers a key h.is_key.kept) in
    let n : Numbers b (take 36 (drop 15 body)) = subst (λ (l : List ℕ). Numbers b l) (sym q.head) (numbers b other k.is_key.kept) in
    let size : length key ≡ length other = sym p.size ∙ q.size in (
      same_attributes a b (h.is_key.kept.lifetime ∙ sym k.is_key.kept.lifetime) (sym p.id ∙ q.id) (sym m.key_type ∙ n.key_type) (sym m.bits ∙ n.bits) (sym m.usage ∙ n.usage) (sym m.alg ∙ n.alg) (sym m.alg2 ∙ n.alg2),
      sym p.key_is ∙ (ap (λ (j : ℕ). take j (drop 51 body)) size ∙ q.key_is),
    )

-- what is left of a cell
pub tail_of : (cell : List ℕ) (n : ℕ) → length cell ≡ 1088 → take (1088 - n) (drop n cell) ≡ drop n cell
tail_of cell n size = take_all (1088 - n) (drop n cell) (omega (arith, length-drop n cell, size))

pub record_at : (cell : List ℕ) (n : ℕ) → take (16 + n - 16) (drop 16 cell) ≡ take n (drop 16 cell)
record_at cell n = ap (λ (k : ℕ). take k (drop 16 cell)) (omega arith)
