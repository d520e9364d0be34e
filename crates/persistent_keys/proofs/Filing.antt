-- A filed store after a change of its cells.
use Rattle.persistent_keys.proofs.Common.{[], Absent, ap, arith, Attributes, cases_eq, cell_state, CellState, cond, Content, content_at, count_same, Doubt, Doubtful, eq-eqb, false, Free, get_or-map, get_or-set_other, get_or-set_same, has_id, HoldsId, HoldsKey, is_open, IsDoubted, IsDoubtedIn, IsFiled, IsOf, IsPut, Keys, length, length-set, List, ne_eqb, None, of_one_key, Open, Option, Present, refl, set, settled, settled_alike, settled_content, settled_open, settled_state, settled_states, Some, Stored, stored, subst, sym, TellsCell, true, ℕ, ⊎_elim, ◌<◌, ◌∙◌, ◌∷◌, ◌≡◌, ◌≢◌, cell_count}
use Rattle.persistent_keys.proofs.Fitting.{tells_open}

-- what is in doubt is in doubt there too
abbrev pub IsWider : Doubt → Doubt → Type 0
IsWider doubt doubt' = (a : Attributes) (bytes : List ℕ) → IsDoubted doubt a bytes → IsDoubted doubt' a bytes

pub no_doubt : (doubt : Doubt) → IsWider [] doubt
no_doubt doubt a bytes d = absurd d

pub same_doubt : (doubt : Doubt) → IsWider doubt doubt
same_doubt doubt a bytes d = d

has_settled : (id : ℕ) (state : CellState) → has_id id (settled_state state) ≡ has_id id state
has_settled id state = settled_alike (has_id id) refl refl state

-- what is in doubt is gone
tells_sure : (keys : Keys) (doubt doubt' : Doubt) (state : CellState) (content : Content) → TellsCell keys doubt state content → TellsCell keys doubt' state (settled_content content)
tells_sure keys doubt doubt' (Open id creation) (Present body) t = t
tells_sure keys doubt doubt' (Open id creation) content t = absurd t
tells_sure keys doubt doubt' state (Present body) t = absurd t
tells_sure keys doubt doubt' state content t = tt

of_settled : (id : ℕ) (content : Content) → IsOf id (settled_content content) → IsOf id content
of_settled id (Doubtful body) is = absurd is
of_settled id content is = is

-- another state that is as good once nothing is in doubt
closed_alike : (keys : Keys) (doubt : Doubt) (state state' : CellState) (content : Content) → is_open state ≡ false → is_open state' ≡ false → TellsCell keys doubt state content → TellsCell keys doubt state' content
closed_alike keys doubt state state' content shut shut' t = to state' content shut' (from state content shut t)
  where
    from : (state : CellState) (content : Content) → is_open state ≡ false → TellsCell keys doubt state content → TellsCell keys doubt Free content
    from (Open id creation) content shut t = cc
    from state Absent shut t = t
    from state content shut t = t

    to : (state : CellState) (content : Content) → is_open state ≡ false → TellsCell keys doubt Free content → TellsCell keys doubt state content
    to (Open id creation) content shut t = cc
    to state Absent shut t = t
    to state content shut t = t

tells_alike : (keys : Keys) (doubt : Doubt) (state state' : CellState) (content : Content) → settled_state state' ≡ settled_state state → TellsCell keys doubt state content → TellsCell keys doubt state' content
tells_alike keys doubt (Open id creation) (Open id' creation') content same t = subst (λ (s : CellState). TellsCell keys doubt s content) (sym same) t
tells_alike keys doubt (Open id creation) state' content same t = cc
tells_alike keys doubt state (Open id creation) content same t = cc
tells_alike keys doubt state state' content same t = closed_alike keys doubt state state' content refl refl t

-- other keys, where the cell's own is the same
tells_moved : (keys keys' : Keys) (doubt doubt' : Doubt) (state : CellState) (content : Content) → ((id : ℕ) → has_id id state ≡ true → keys' id ≡ keys id) → IsWider doubt doubt' → TellsCell keys doubt state content → TellsCell keys' doubt' state content
tells_moved keys keys' doubt doubt' (Open id creation) (Present body) same wider t = (t.0, t.1, t.2, t.3, same id (eq-eqb id id refl) ∙ t.4)
tells_moved keys keys' doubt doubt' (Open id creation) content same wider t = absurd t
tells_moved keys keys' doubt doubt' state Absent same wider t = tt
tells_moved keys keys' doubt doubt' state (Present body) same wider t = absurd t
tells_moved keys keys' doubt doubt' state (Doubtful body) same wider t = (t.0, t.1, t.2, wider t.0 t.1 t.3)

has_no_id : (id : ℕ) (state : CellState) → is_open state ≡ false → has_id id state ≡ false
has_no_id id (Open own creation) shut = cc
has_no_id id state shut = refl

settled_state_at : (states : List CellState) (cell : ℕ) → length states ≡ cell_count → cell < cell_count → cell_state (settled_states states) cell ≡ settled_state (cell_state states cell)
settled_state_at states cell sized lt = get_or-map settled_state states cell Free Free (omega (arith, sized))

pub settled_twice : (states : List CellState) → settled_states (settled_states states) ≡ settled_states states
settled_twice [] = refl
settled_twice (Open id creation ∷ states) = ap (λ (l : List CellState). Open id creation ∷ l) (settled_twice states)
settled_twice (state ∷ states) = ap (λ (l : List CellState). Free ∷ l) (settled_twice states)

-- nothing is in doubt any more
pub settles : (keys : Keys) (doubt doubt' : Doubt) (states : List CellState) (contents : List Content) → length contents ≡ cell_count → IsFiled keys doubt states contents → IsFiled keys doubt' states (settled contents)
settles keys doubt doubt' states contents count f = record {
  sized = f.sized;
  each = λ cell lt. rw (get_or-map settled_content contents cell Absent Absent (omega (arith, count))) (tells_sure keys doubt doubt' (cell_state states cell) (content_at contents cell) (f.each cell lt));
  found = f.found;
  apart = λ id cell other lt lt' is is'. f.apart id cell other lt lt' (was id cell lt is) (was id other lt' is');
}
  where
    was : (id cell : ℕ) → cell < cell_count → IsOf id (content_at (settled contents) cell) → IsOf id (content_at contents cell)
    was id cell lt is = of_settled id (content_at contents cell) (subst (λ (c : Content). IsOf id c) (get_or-map settled_content contents cell Absent Absent (omega (arith, count))) is)

-- a directory that is as good once nothing is in doubt: a cell that has a key has it there
alike_at : (states states' : List CellState) (cell : ℕ) → length states ≡ cell_count → cell < cell_count → settled_states states' ≡ settled_states states → settled_state (cell_state states' cell) ≡ settled_state (cell_state states cell)
alike_at states states' cell sized lt same =
    sym (settled_state_at states' cell (count_same states states' cell_count same sized) lt) ∙ (ap (λ (l : List CellState). cell_state l cell) same ∙ settled_state_at states cell sized lt)

pub still_has : (states states' : List CellState) (id cell : ℕ) → length states ≡ cell_count → cell < cell_count → settled_states states' ≡ settled_states states → has_id id (cell_state states cell) ≡ true → has_id id (cell_state states' cell) ≡ true
still_has states states' id cell sized lt same has =
    sym (has_settled id (cell_state states' cell)) ∙ (ap (has_id id) (alike_at states states' cell sized lt same) ∙ (has_settled id (cell_state states cell) ∙ has))

pub resettles : (keys : Keys) (doubt : Doubt) (states states' : List CellState) (contents : List Content) → settled_states states' ≡ settled_states states → IsFiled keys doubt states contents → IsFiled keys doubt states' contents
resettles keys doubt states states' contents same f = record {
  sized = count_same states states' cell_count same f.sized;
  each = λ cell lt. tells_alike keys doubt (cell_state states cell) (cell_state states' cell) (content_at contents cell) (alike_at states states' cell f.sized lt same) (f.each cell lt);
  found = λ id key is. let c = f.found id key is in (c.0, c.1, still_has states states' id c.0 f.sized c.1 same c.2);
  apart = f.apart;
}

-- the same keys, and more in doubt
pub refiled : (keys keys' : Keys) (doubt doubt' : Doubt) (states : List CellState) (contents : List Content) → ((id : ℕ) → keys' id ≡ keys id) → IsWider doubt doubt' → IsFiled keys doubt states contents → IsFiled keys' doubt' states contents
refiled keys keys' doubt doubt' states contents same wider f = record {
  sized = f.sized;
  each = λ cell lt. tells_moved keys keys' doubt doubt' (cell_state states cell) (content_at contents cell) (λ id has. same id) wider (f.each cell lt);
  found = λ id key is. f.found id key (sym (same id) ∙ is);
  apart = f.apart;
}

-- an identifier is that of one state
pub one : (keys : Keys) (doubt : Doubt) (states : List CellState) (contents : List Content) → IsFiled keys doubt states contents → (id cell other : ℕ) → cell < cell_count → other < cell_count → has_id id (cell_state states cell) ≡ true → has_id id (cell_state states other) ≡ true → cell ≡ other
one keys doubt states contents f id cell other lt lt' has has' = f.apart id cell other lt lt' (of_open cell lt has) (of_open other lt' has')
  where
    of_open : (k : ℕ) → k < cell_count → has_id id (cell_state states k) ≡ true → IsOf id (content_at contents k)
    of_open k less h =
        let o = tells_open keys doubt (cell_state states k) (content_at contents k) id h (f.each k less) in
        subst (λ (c : Content). IsOf id c) (sym o.5) (o.2, o.3, o.6, o.7)

-- one cell changes
each_set : (keys : Keys) (doubt : Doubt) (states : List CellState) (contents : List Content) (cell : ℕ) (state : CellState) (content : Content) → length states ≡ cell_count → length contents ≡ cell_count → cell < cell_count → TellsCell keys doubt state content
    → ((other : ℕ) → other < cell_count → other ≢ cell → TellsCell keys doubt (cell_state states other) (content_at contents other))
    → (other : ℕ) → other < cell_count → TellsCell keys doubt (cell_state (set states cell state) other) (content_at (set contents cell content) other)
each_set keys doubt states contents cell state content sized count lt here else other less = ⊎_elim
    (λ is. rw is (rw (get_or-set_same states cell state Free (omega (arith, sized)), get_or-set_same contents cell content Absent (omega (arith, count))) here))
    (λ differs. rw (get_or-set_other states cell other state Free differs, get_or-set_other contents cell other content Absent differs) (else other less differs))
    (cases_eq other cell)

tells_shut : (keys : Keys) (doubt : Doubt) (state : CellState) (body : List ℕ) → is_open state ≡ false → IsDoubtedIn doubt body → TellsCell keys doubt state (Doubtful body)
tells_shut keys doubt (Open id creation) body shut d = cc
tells_shut keys doubt state body shut d = d

-- the content of one cell changes to one of an identifier that no other cell has
apart_set : (contents : List Content) (cell : ℕ) (content : Content) → length contents ≡ cell_count → cell < cell_count
    → ((id a b : ℕ) → a < cell_count → b < cell_count → IsOf id (content_at contents a) → IsOf id (content_at contents b) → a ≡ b)
    → ((id other : ℕ) → other < cell_count → other ≢ cell → IsOf id content → IsOf id (content_at contents other) → ⊥)
    → (id a b : ℕ) → a < cell_count → b < cell_count → IsOf id (content_at (set contents cell content) a) → IsOf id (content_at (set contents cell content) b) → a ≡ b
apart_set contents cell content count lt apart alone id a b la lb is is' =
    ⊎_elim
    (λ e. ⊎_elim (λ e'. e ∙ sym e') (λ ne'. absurd (alone id b lb ne' (here a e is) (there b ne' is'))) (cases_eq b cell))
    (λ ne. ⊎_elim (λ e'. absurd (alone id a la ne (here b e' is') (there a ne is))) (λ ne'. apart id a b la lb (there a ne is) (there b ne' is')) (cases_eq b cell))
    (cases_eq a cell)
  where
    here : (k : ℕ) → k ≡ cell → IsOf id (content_at (set contents cell content) k) → IsOf id content
    here k e is = subst (λ (c : Content). IsOf id c) (get_or-set_same contents cell content Absent (omega (arith, count))) (subst (λ (j : ℕ). IsOf id (content_at (set contents cell content) j)) e is)

    there : (k : ℕ) → k ≢ cell → IsOf id (content_at (set contents cell content) k) → IsOf id (content_at contents k)
    there k ne is = subst (λ (c : Content). IsOf id c) (get_or-set_other contents cell k content Absent ne) is

-- two bodies of one key have one identifier
pub one_id : (id other : ℕ) (body : List ℕ) → HoldsId id body → HoldsId other body → id ≡ other
one_id id other body h k = sym h.3 ∙ (ap (λ (a : Attributes). a.id.0) (of_one_key h.0 k.0 h.1 k.1 body h.2 k.2).0 ∙ k.3)

-- no cell has a key of this identifier, for sure or in doubt
abbrev pub HasNone : ℕ → List Content → Type 0
HasNone id contents = (cell : ℕ) → cell < cell_count → IsOf id (content_at contents cell) → ⊥

-- once nothing is in doubt, a key that the file hasn't is in no cell
pub none_settled : (keys : Keys) (doubt : Doubt) (states : List CellState) (contents : List Content) (id : ℕ) → length contents ≡ cell_count → keys id ≡ None → IsFiled keys doubt states (settled contents) → HasNone id (settled contents)
none_settled keys doubt states contents id count none f cell lt is =
    by (cell_state states cell) (content_at contents cell) (subst (λ (c : Content). TellsCell keys doubt (cell_state states cell) c) at (f.each cell lt)) (subst (λ (c : Content). IsOf id c) at is)
  where
    at : content_at (settled contents) cell ≡ settled_content (content_at contents cell)
    at = get_or-map settled_content contents cell Absent Absent (omega (arith, count))

    by : (state : CellState) (content : Content) → TellsCell keys doubt state (settled_content content) → IsOf id (settled_content content) → ⊥
    by (Open own creation) (Present body) t is =
        let same : own ≡ id = one_id own id body (t.0, t.1, t.2, t.3) is in
        let z : None ≡ Some (stored creation t.0 t.1) = sym none ∙ (ap keys (sym same) ∙ t.4) in cc
    by state (Present body) t is = t
    by state content t is = is

-- a key is in doubt in a cell that has none
pub doubts : (keys : Keys) (doubt : Doubt) (states : List CellState) (contents : List Content) (cell id : ℕ) (body : List ℕ) → length contents ≡ cell_count → cell < cell_count → is_open (cell_state states cell) ≡ false → HoldsId id body → IsDoubtedIn doubt body → HasNone id contents
    → IsFiled keys doubt states contents → IsFiled keys doubt states (set contents cell (Doubtful body))
doubts keys doubt states contents cell id body count lt shut holds d none f = record {
  sized = f.sized;
  each = λ other less. ⊎_elim
      (λ is. rw is (rw (get_or-set_same contents cell (Doubtful body) Absent (omega (arith, count))) (tells_shut keys doubt (cell_state states cell) body shut d)))
      (λ differs. rw (get_or-set_other contents cell other (Doubtful body) Absent differs) (f.each other less))
      (cases_eq other cell);
  found = f.found;
  apart = apart_set contents cell (Doubtful body) count lt f.apart (λ q other less differs is is'. none other less (subst (λ (n : ℕ). IsOf n (content_at contents other)) (one_id q id body is holds) is'));
}

-- a key is put into a cell that has none
pub adds : (keys keys' : Keys) (doubt : Doubt) (states : List CellState) (contents : List Content) (cell creation : ℕ) (a : Attributes) (bytes body : List ℕ) → length contents ≡ cell_count → cell < cell_count → is_open (cell_state states cell) ≡ false → HoldsKey a bytes body → keys a.id.0 ≡ None → HasNone a.id.0 contents
    → IsPut keys keys' a.id.0 (Some (stored creation a bytes)) → IsFiled keys doubt states contents → IsFiled keys' doubt (set states cell (Open a.id.0 creation)) (set contents cell (Present body))
adds keys keys' doubt states contents cell creation a bytes body count lt shut holds none none_there put f = record {
  sized = length-set states cell (Open id creation) ∙ f.sized;
  each = each_set keys' doubt states contents cell (Open id creation) (Present body) f.sized count lt (a, bytes, holds, refl, hit)
      (λ other less differs. tells_moved keys keys' doubt doubt (cell_state states other) (content_at contents other) (λ q has. miss q (λ e. not_there other less (ap (λ i. has_id i (cell_state states other)) (sym e) ∙ has))) (same_doubt doubt) (f.each other less));
  found = λ q key is. ⊎_elim
      (λ e. (cell, lt, ap (has_id q) at_cell ∙ eq-eqb id q (sym e)))
      (λ ne. let c = f.found q key (sym (miss q ne) ∙ is) in (c.0, c.1, ap (has_id q) (at_other c.0 (λ e. closed q (ap (λ k. has_id q (cell_state states k)) (sym e) ∙ c.2))) ∙ c.2))
      (cases_eq q id);
  apart = apart_set contents cell (Present body) count lt f.apart (λ q other less differs is is'. none_there other less (subst (λ (n : ℕ). IsOf n (content_at contents other)) (one_id q id body is (a, bytes, holds, refl)) is'));
}
  where
    id : ℕ
    id = a.id.0

    at_cell : cell_state (set states cell (Open id creation)) cell ≡ Open id creation
    at_cell = get_or-set_same states cell (Open id creation) Free (omega (arith, f.sized))

    at_other : (other : ℕ) → other ≢ cell → cell_state (set states cell (Open id creation)) other ≡ cell_state states other
    at_other other differs = get_or-set_other states cell other (Open id creation) Free differs

    hit : keys' id ≡ Some (stored creation a bytes)
    hit = put id ∙ ap (λ t. cond t (Some (stored creation a bytes)) (keys id)) (eq-eqb id id refl)

    miss : (q : ℕ) → q ≢ id → keys' q ≡ keys q
    miss q ne = put q ∙ ap (λ t. cond t (Some (stored creation a bytes)) (keys q)) (ne_eqb q id ne)

    closed : (q : ℕ) → has_id q (cell_state states cell) ≡ true → ⊥
    closed q has = let z : false ≡ true = sym (has_no_id q (cell_state states cell) shut) ∙ has in cc

    not_there : (other : ℕ) → other < cell_count → has_id id (cell_state states other) ≡ true → ⊥
    not_there other less has = let o = tells_open keys doubt (cell_state states other) (content_at contents other) id has (f.each other less) in let z : None ≡ Some (stored o.0 o.2 o.3) = sym none ∙ o.8 in cc

-- the key of a cell is taken away, or in doubt there
pub removes : (keys keys' : Keys) (doubt doubt' : Doubt) (states : List CellState) (contents : List Content) (cell id : ℕ) (state : CellState) (content : Content) → length contents ≡ cell_count → cell < cell_count → has_id id (cell_state states cell) ≡ true → is_open state ≡ false
    → TellsCell keys' doubt' state content → ((q : ℕ) → IsOf q content → IsOf q (content_at contents cell)) → IsWider doubt doubt' → IsPut keys keys' id None → IsFiled keys doubt states contents → IsFiled keys' doubt' (set states cell state) (set contents cell content)
removes keys keys' doubt doubt' states contents cell id state content count lt has shut here same_of wider put f = record {
  sized = length-set states cell state ∙ f.sized;
  each = each_set keys' doubt' states contents cell state content f.sized count lt here
      (λ other less differs. tells_moved keys keys' doubt doubt' (cell_state states other) (content_at contents other) (λ q is. miss q (λ e. differs (one keys doubt states contents f id other cell less lt (ap (λ i. has_id i (cell_state states other)) (sym e) ∙ is) has))) wider (f.each other less));
  found = λ q key is. let ne = not_id q key is in let c = f.found q key (sym (miss q ne) ∙ is) in
      (c.0, c.1, ap (has_id q) (at_other c.0 (λ e. ne (same_id q (ap (λ k. has_id q (cell_state states k)) (sym e) ∙ c.2)))) ∙ c.2);
  apart = apart_set contents cell content count lt f.apart (λ q other less differs is is'. differs (f.apart q other cell less lt is' (same_of q is)));
}
  where
    miss : (q : ℕ) → q ≢ id → keys' q ≡ keys q
    miss q ne = put q ∙ ap (λ t. cond t None (keys q)) (ne_eqb q id ne)

    not_id : (q : ℕ) (key : Stored) → keys' q ≡ Some key → q ≢ id
    not_id q key is e = let z : None ≡ Some key = sym (put q ∙ ap (λ t. cond t None (keys q)) (eq-eqb q id e)) ∙ is in cc

    same_id : (q : ℕ) → has_id q (cell_state states cell) ≡ true → q ≡ id
    same_id q is = let a = tells_open keys doubt (cell_state states cell) (content_at contents cell) q is (f.each cell lt) in let b = tells_open keys doubt (cell_state states cell) (content_at contents cell) id has (f.each cell lt) in
        let z : Open q a.0 ≡ Open id b.0 = sym a.4 ∙ b.4 in cc

    at_other : (other : ℕ) → other ≢ cell → cell_state (set states cell state) other ≡ cell_state states other
    at_other other differs = get_or-set_other states cell other state Free differs

-- a cell that has no key has none of this identifier, and where each has none, neither has the file
pub no_key : (keys : Keys) (doubt : Doubt) (states : List CellState) (contents : List Content) (id : ℕ) → ((cell : ℕ) → cell < length states → has_id id (cell_state states cell) ≡ false) → IsFiled keys doubt states contents → keys id ≡ None
no_key keys doubt states contents id none f = go (keys id) refl
  where
    go : (o : Option Stored) → keys id ≡ o → o ≡ None
    go None e = refl
    go (Some key) e = let c = f.found id key e in let z : false ≡ true = sym (none c.0 (omega (arith, f.sized, c.1))) ∙ c.2 in cc

pub settled_shut : (states : List CellState) (cell : ℕ) → length states ≡ cell_count → cell < cell_count → is_open (cell_state states cell) ≡ false → is_open (cell_state (settled_states states) cell) ≡ false
settled_shut states cell sized lt shut = ap is_open (settled_state_at states cell sized lt) ∙ (settled_open (cell_state states cell) ∙ shut)
