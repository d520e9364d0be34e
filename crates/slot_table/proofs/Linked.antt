-- What joins of links make of the row that they link.
use Rattle.slot_table.proofs.Common.{AreLinksOf, AreNeighbours, Bool, IsLinked, List, None, Some, [], ap, arith, cases_eq, cases_lt, cond, eq-eqb, false, find, get_or-replicate, get_or-set_other, get_or-set_same, get_or_past, links_joined, length, length-append, length-replicate, length-set, link_at, linked_slots, ne_eqb, newer_than, older_than, recency_without, refl, replicate, set, suc, sym, times, true, zero, zero-add, ℕ, ⊎_elim, ◌++◌, ◌+◌, ◌-◌, ◌<◌, ◌∙◌, ◌∷◌, ◌≡◌, ◌≢◌, ◌≤◌}
use Rattle.slot_table.proofs.Times.{length-without, times-append, times-other, without_none}
unfoldable use Rattle.slot_table.specs.Links.{slots_from}
use Rattle.slot_table.specs.declared.recency.Link.{Link}

abbrev no_link : Link
no_link = record { older = 0; newer = 0 }

-- a write of one side of a link leaves the other as it is
newer-set_older : (links : List Link) (j k older : ℕ) → j < length links → newer_than (set links j (record (link_at links j) { older = older })) k ≡ newer_than links k
newer-set_older links j k older within =
    ⊎_elim
    (λ (same : k ≡ j).
    ap (newer_than (set links j (record (link_at links j) { older = older }))) same
    ∙ ap (λ (l : Link). l.newer) (get_or-set_same links j (record (link_at links j) { older = older }) no_link within)
    ∙ ap (newer_than links) (sym same))
    (λ (other : k ≢ j). ap (λ (l : Link). l.newer) (get_or-set_other links j k (record (link_at links j) { older = older }) no_link other))
    (cases_eq k j)

older-set_newer : (links : List Link) (i k newer : ℕ) → i < length links → older_than (set links i (record (link_at links i) { newer = newer })) k ≡ older_than links k
older-set_newer links i k newer within =
    ⊎_elim
    (λ (same : k ≡ i).
    ap (older_than (set links i (record (link_at links i) { newer = newer }))) same
    ∙ ap (λ (l : Link). l.older) (get_or-set_same links i (record (link_at links i) { newer = newer }) no_link within)
    ∙ ap (older_than links) (sym same))
    (λ (other : k ≢ i). ap (λ (l : Link). l.older) (get_or-set_other links i k (record (link_at links i) { newer = newer }) no_link other))
    (cases_eq k i)

-- what is read of links that were joined
pub record Joined (links : List Link) (i j : ℕ) (more : List Link) : Type 0 where
  pub newer : newer_than more i ≡ j
  pub newer_other : (k : ℕ) → k ≢ i → newer_than more k ≡ newer_than links k
  pub older : older_than more j ≡ i
  pub older_other : (k : ℕ) → k ≢ j → older_than more k ≡ older_than links k
  pub sized : length more ≡ length links

join_reads : (links : List Link) (i j : ℕ) → i < length links → j < length links → Joined links i j (links_joined links i j)
join_reads links i j i_in j_in =
    let link : Link = record (link_at links i) { newer = j } in
    let first : List Link = set links i link in
    let long : length first ≡ length links = length-set links i link in
    let j_in' : j < length first = omega (arith, long, j_in) in
    let last : Link = record (link_at first j) { older = i } in record {
      newer = newer-set_older first j i i j_in' ∙ ap (λ (l : Link). l.newer) (get_or-set_same links i link no_link i_in);
      newer_other = λ k other. newer-set_older first j k i j_in' ∙ ap (λ (l : Link). l.newer) (get_or-set_other links i k link no_link other);
      older = ap (λ (l : Link). l.older) (get_or-set_same first j last no_link j_in');
      older_other = λ k other. ap (λ (l : Link). l.older) (get_or-set_other first j k last no_link other) ∙ older-set_newer links i k j i_in;
      sized = length-set first j last ∙ long;
    }

-- what stands next to a slot of a row leads back to it
back_from_newer : (links : List Link) (i : ℕ) (row : List ℕ) → IsLinked links i row → older_than links (newer_than links i) ≡ i
back_from_newer links i [] linked = ap (older_than links) linked.0 ∙ linked.1
back_from_newer links i (j ∷ row) linked = ap (older_than links) linked.0.0 ∙ linked.0.1

back_from_both : (links : List Link) (i slot : ℕ) (row : List ℕ) → IsLinked links i row → 0 < times slot row → (newer_than links (older_than links slot) ≡ slot) × (older_than links (newer_than links slot) ≡ slot)
back_from_both links i slot [] linked some = absurd (omega (arith, some))
back_from_both links i slot (j ∷ row) linked some =
    ⊎_elim
    (λ (same : slot ≡ j). rw same (ap (newer_than links) linked.0.1 ∙ linked.0.0, back_from_newer links j row linked.1))
    (λ (other : slot ≢ j). back_from_both links j slot row linked.1 (rw (ne_eqb j slot (λ e. other (sym e)), zero-add (times slot row)) at some))
    (cases_eq slot j)

back_from_ends : (links : List Link) (i : ℕ) (row : List ℕ) → IsLinked links i row → newer_than links (older_than links 384) ≡ 384
back_from_ends links i [] linked = ap (newer_than links) linked.1 ∙ linked.0
back_from_ends links i (j ∷ row) linked = back_from_ends links j row linked.1

-- a row without a number begins with another, and its rest is without it
other_first : (i j : ℕ) (row : List ℕ) → times i (j ∷ row) ≡ 0 → j ≢ i
other_first i j row none same = let more : 1 + times i row ≡ 0 = rw (eq-eqb j i same) at none in omega (arith, more)

none_after : (i j : ℕ) (row : List ℕ) → times i (j ∷ row) ≡ 0 → times i row ≡ 0
none_after i j row none = omega (arith, none)

-- a slot's neighbours are joined, and it is out of the row
module _ (links more : List Link) (slot : ℕ) (join : Joined links (older_than links slot) (newer_than links slot) more)
    (back : (newer_than links (older_than links slot) ≡ slot) × (older_than links (newer_than links slot) ≡ slot)) where
  stay_neighbours : (i j : ℕ) → AreNeighbours links i j → i ≢ slot → j ≢ slot → AreNeighbours more i j
  stay_neighbours i j are i_other j_other = (
    join.newer_other i (λ same. j_other (sym are.0 ∙ ap (newer_than links) same ∙ back.0)) ∙ are.0,
    join.older_other j (λ same. i_other (sym are.1 ∙ ap (older_than links) same ∙ back.1)) ∙ are.1,
  )

  stays_linked : (i : ℕ) (row : List ℕ) → IsLinked links i row → i ≢ slot → 384 ≢ slot → times slot row ≡ 0 → IsLinked more i row
  stays_linked i [] linked other ends none = stay_neighbours i 384 linked other ends
  stays_linked i (j ∷ row) linked other ends none =
      let next = other_first slot j row none in
      (stay_neighbours i j linked.0 other next, stays_linked j row linked.1 next ends (none_after slot j row none))

  around : AreNeighbours more (older_than links slot) (newer_than links slot)
  around = (join.newer, join.older)

  skips : (i : ℕ) (row : List ℕ) → AreNeighbours links i slot → IsLinked links slot row → 384 ≢ slot → times slot row ≡ 0 → IsLinked more i row
  skips i [] are linked ends none = rw (are.1, linked.0) at around
  skips i (j ∷ row) are linked ends none =
      ((rw (are.1, linked.0.0) at around), stays_linked j row linked.1 (other_first slot j row none) ends (none_after slot j row none))

  is_unlinked : (i : ℕ) (row : List ℕ) → IsLinked links i row → i ≢ slot → 384 ≢ slot → times slot row ≡ 1 → IsLinked more i (recency_without slot row)
  is_unlinked i [] linked other ends once = absurd (omega (arith, once))
  is_unlinked i (j ∷ row) linked other ends once =
      ⊎_elim
      (λ (same : j ≡ slot).
      let one : 1 + times slot row ≡ 1 = rw (eq-eqb j slot same) at once in
      let none : times slot row ≡ 0 = omega (arith, one) in
      let there : AreNeighbours links i slot × IsLinked links slot row = rw same at linked in
      rw (eq-eqb j slot same, without_none slot row none) (skips i row there.0 there.1 ends none))
      (λ (next : j ≢ slot). rw (ne_eqb j slot next) (stay_neighbours i j linked.0 other next, is_unlinked j row linked.1 next ends (rw (ne_eqb j slot next, zero-add (times slot row)) at once)))
      (cases_eq j slot)

-- a slot is joined to the newest and to the ends, and is at the end of the row
module _ (links first more : List Link) (slot : ℕ) (join : Joined links (older_than links 384) slot first) (close : Joined first slot 384 more)
    (back : newer_than links (older_than links 384) ≡ 384) (ends : slot ≢ 384) where
  is_appended : (i : ℕ) (row : List ℕ) → IsLinked links i row → i ≢ slot → times slot row ≡ 0 → times 384 row ≡ 0 → IsLinked more i (row ++ slot ∷ [])
  is_appended i [] linked other none apart = (
    (close.newer_other i other ∙ (rw linked.1 at join.newer), close.older_other slot ends ∙ join.older ∙ linked.1),
    (close.newer, close.older),
  )
  is_appended i (j ∷ row) linked other none apart =
      let j_other = other_first slot j row none in
      let j_apart = other_first 384 j row apart in (
        (
          close.newer_other i other ∙ join.newer_other i (λ same. j_apart (sym linked.0.0 ∙ ap (newer_than links) same ∙ back)) ∙ linked.0.0,
          close.older_other j j_apart ∙ join.older_other j j_other ∙ linked.0.1,
        ),
        is_appended j row linked.1 j_other (none_after slot j row none) (none_after 384 j row apart),
      )

-- the slots from one on are the row that is linked to it
from_linked : (links : List Link) (i most : ℕ) (row : List ℕ) → IsLinked links i row → times 384 row ≡ 0 → length row ≤ most → slots_from links (newer_than links i) most ≡ row
unfolding slots_from
from_linked links i zero [] linked apart short = refl
from_linked links i (suc most) [] linked apart short = rw (linked.0) refl
from_linked links i zero (j ∷ row) linked apart short = absurd (omega (arith, short))
from_linked links i (suc most) (j ∷ row) linked apart short =
    rw (linked.0.0, ne_eqb j 384 (other_first 384 j row apart)) (ap (λ js. j ∷ js) (from_linked links j most row linked.1 (none_after 384 j row apart) (omega (arith, short))))

newer_stays : (links more : List Link) (i j : ℕ) → Joined links i j more → ((k : ℕ) → newer_than links k ≤ 384) → j ≤ 384 → (k : ℕ) → newer_than more k ≤ 384
newer_stays links more i j join within j_in k =
    ⊎_elim (λ (same : k ≡ i). rw (same, join.newer) j_in) (λ (other : k ≢ i). rw (join.newer_other k other) (within k)) (cases_eq k i)

older_stays : (links more : List Link) (i j : ℕ) → Joined links i j more → ((k : ℕ) → older_than links k ≤ 384) → i ≤ 384 → (k : ℕ) → older_than more k ≤ 384
older_stays links more i j join within i_in k =
    ⊎_elim (λ (same : k ≡ j). rw (same, join.older) i_in) (λ (other : k ≢ j). rw (join.older_other k other) (within k)) (cases_eq k j)

pub row_is : (row : List ℕ) (links : List Link) → AreLinksOf row links → linked_slots links ≡ row
row_is row links are = from_linked links 384 384 row are.linked are.apart are.short

pub own_row : (row : List ℕ) (links : List Link) → AreLinksOf row links → AreLinksOf (linked_slots links) links
own_row row links are = rw (row_is row links are) are

pub slot_within : (row : List ℕ) (links : List Link) (slot : ℕ) → AreLinksOf row links → times slot row ≡ 1 → slot < 384
slot_within row links slot are once =
    let back = back_from_both links 384 slot row are.linked (omega (arith, once)) in
    let at_most : slot ≤ 384 = rw back.0 at (are.newer_within (older_than links slot)) in
    ⊎_elim
    (λ (same : slot ≡ 384). let none : times slot row ≡ 0 = rw same are.apart in absurd (omega (arith, once, none)))
    (λ (other : slot ≢ 384). omega (arith, at_most, other))
    (cases_eq slot 384)

pub links_without : (row : List ℕ) (links : List Link) (slot : ℕ) → AreLinksOf row links → times slot row ≡ 1 → AreLinksOf (recency_without slot row) (links_joined links (older_than links slot) (newer_than links slot))
links_without row links slot are once =
    let i = older_than links slot in
    let j = newer_than links slot in
    let within = slot_within row links slot are once in
    let ends : 384 ≢ slot = λ same. omega (arith, within, same) in
    let i_in = are.older_within slot in
    let j_in = are.newer_within slot in
    let join = join_reads links i j (omega (arith, i_in, are.sized)) (omega (arith, j_in, are.sized)) in
    let back = back_from_both links 384 slot row are.linked (omega (arith, once)) in record {
      sized = join.sized ∙ are.sized;
      newer_within = newer_stays links (links_joined links i j) i j join are.newer_within j_in;
      older_within = older_stays links (links_joined links i j) i j join are.older_within i_in;
      linked = is_unlinked links (links_joined links i j) slot join back 384 row are.linked ends ends once;
      apart = times-other 384 slot row ends ∙ are.apart;
      short = omega (arith, are.short, length-without slot row);
    }

pub links_with : (row : List ℕ) (links : List Link) (slot : ℕ) → AreLinksOf row links → slot < 384 → length row < 384 → times slot row ≡ 0 → AreLinksOf (row ++ slot ∷ []) (links_joined (links_joined links (older_than links 384) slot) slot 384)
links_with row links slot are within room none =
    let newest = older_than links 384 in
    let newest_in = are.older_within 384 in
    let first = links_joined links newest slot in
    let join = join_reads links newest slot (omega (arith, newest_in, are.sized)) (omega (arith, within, are.sized)) in
    let close = join_reads first slot 384 (omega (arith, within, are.sized, join.sized)) (omega (arith, are.sized, join.sized)) in
    let ends : slot ≢ 384 = λ same. omega (arith, within, same) in
    let apart : times 384 (slot ∷ []) ≡ 0 = rw (ne_eqb slot 384 ends) refl in record {
      sized = close.sized ∙ join.sized ∙ are.sized;
      newer_within = newer_stays first (links_joined first slot 384) slot 384 close (newer_stays links first newest slot join are.newer_within (omega (arith, within))) (omega arith);
      older_within = older_stays first (links_joined first slot 384) slot 384 close (older_stays links first newest slot join are.older_within newest_in) (omega (arith, within));
      linked = is_appended links first (links_joined first slot 384) slot join close (back_from_ends links 384 row are.linked) ends 384 row are.linked (λ same. ends (sym same)) none are.apart;
      apart = times-append 384 row (slot ∷ []) ∙ omega (arith, are.apart, apart);
      short = omega (arith, room, length-append row (slot ∷ []));
    }

pub links_start : (n : ℕ) → n ≡ 385 → AreLinksOf [] (replicate n (record { older = 384; newer = 384 }))
links_start n is = record {
  sized = length-replicate n ends ∙ is;
  newer_within = within (λ l. l.newer) (omega arith) (omega arith);
  older_within = within (λ l. l.older) (omega arith) (omega arith);
  linked = (ap (λ (l : Link). l.newer) (here 384 (omega (arith, is))), ap (λ (l : Link). l.older) (here 384 (omega (arith, is))));
  apart = refl;
  short = omega arith;
} where
  ends : Link
  ends = record { older = 384; newer = 384 }

  here : (k : ℕ) → k < n → link_at (replicate n ends) k ≡ ends
  here k below = get_or-replicate n k ends no_link below

  within : (side : Link → ℕ) → side ends ≤ 384 → side no_link ≤ 384 → (k : ℕ) → side (link_at (replicate n ends) k) ≤ 384
  within side full none k = ⊎_elim
      (λ below. rw (here k below) full)
      (λ past. rw (get_or_past (replicate n ends) k no_link (omega (arith, length-replicate n ends, past))) none)
      (cases_lt k n)

-- a look along the links has come to a slot after so many, and goes on there
abbrev pub IsAt : List Link → (ℕ → Bool) → ℕ → ℕ → Type 0
IsAt links p i done = find p (slots_from links i (384 - done)) ≡ find p (linked_slots links)

looks_on : (links : List Link) (p : ℕ → Bool) (i done : ℕ) → IsAt links p i done → done < 384 → i ≢ 384 → cond (p i) (Some i) (find p (slots_from links (newer_than links i) (384 - (done + 1)))) ≡ find p (linked_slots links)
unfolding slots_from
looks_on links p i done at some other = sym (at_slot (384 - done) (omega (arith, some))) ∙ at where
  at_slot : (left : ℕ) → left ≡ 384 - (done + 1) + 1 → find p (slots_from links i left) ≡ cond (p i) (Some i) (find p (slots_from links (newer_than links i) (384 - (done + 1))))
  at_slot zero is = absurd (omega (arith, is))
  at_slot (suc left) is =
      let same : left ≡ 384 - (done + 1) = omega (arith, is) in
      rw (ne_eqb i 384 other, same) refl

pub finds_here : (links : List Link) (p : ℕ → Bool) (i done : ℕ) → IsAt links p i done → done < 384 → i ≢ 384 → p i ≡ true → Some i ≡ find p (linked_slots links)
finds_here links p i done at some other is = rw is at (looks_on links p i done at some other)

pub finds_later : (links : List Link) (p : ℕ → Bool) (i done : ℕ) → IsAt links p i done → done < 384 → i ≢ 384 → p i ≡ false → IsAt links p (newer_than links i) (done + 1)
finds_later links p i done at some other is = rw is at (looks_on links p i done at some other)

pub finds_none_at_ends : (links : List Link) (p : ℕ → Bool) (i done : ℕ) → IsAt links p i done → i ≡ 384 → None ≡ find p (linked_slots links)
unfolding slots_from
finds_none_at_ends links p i done at ends = sym (ap (find p) (at_ends (384 - done))) ∙ at where
  at_ends : (left : ℕ) → slots_from links i left ≡ []
  at_ends zero = refl
  at_ends (suc left) = rw (eq-eqb i 384 ends) refl

pub finds_none_after_all : (links : List Link) (p : ℕ → Bool) (i done : ℕ) → IsAt links p i done → 384 ≤ done → None ≡ find p (linked_slots links)
unfolding slots_from
finds_none_after_all links p i done at all = sym (ap (find p) (after_all (384 - done) (omega (arith, all)))) ∙ at where
  after_all : (left : ℕ) → left ≡ 0 → slots_from links i left ≡ []
  after_all zero is = refl
  after_all (suc left) is = absurd (omega (arith, is))
