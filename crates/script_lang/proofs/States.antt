-- What is known of the sessions, from line to line.
use Rattle.std.proofs.Common.{All, Bool, IfSome, List, None, Option, Some, [], ap, ap₂, arith, nat_lt, replicate, unwrap_or, ◌-◌, ◌||◌, cond, eqb-true, false, get_or, length, length-append, refl, slice_get, slice_set, subst, suc, sym, true, zero, ℕ, ◌++◌, ◌+◌, ◌<◌, ◌==◌, ◌∙◌, ◌∷◌, ◌≡◌, ◌≢◌, ◌≤◌}
use Rattle.script_lang.proofs.Common.{AreCounted, count_by-le-length, eqb-false, given_place, IfSome_then, IsNew, length-filter, lines_of, nothing_read, Places, places_in, places_of, read_of, ScriptCall, ScriptLine, slice_get_read, with_call, has_begun, stated_in, with_owner}
use Rattle.std.proofs.{Math.ListN.length-set, lemmas.List.Elements.filter-append}
use Rattle.script_lang.specs.declared.sessions.SessionNames.{SessionNames}

pointwise : {A B : Type 0} (f g : A → B) → ((x : A) → f x ≡ g x) → f ≡ g
pointwise f g h = λ i x. h x i

all_at : {X : Type 0} (P : X → Type 0) (xs : List X) (i : ℕ) → All P xs → IfSome (slice_get xs i) P
all_at P [] i h = tt
all_at P (x ∷ xs) zero h = h 0 x (omega arith)
all_at P (x ∷ xs) (suc i) h = all_at P xs i (λ k d l. h (suc k) d (omega arith))

set_same : {X : Type 0} (xs : List X) (i : ℕ) (y : X) → i < length xs → slice_get (slice_set xs i y) i ≡ Some y
set_same [] i y h = absurd (omega arith)
set_same (x ∷ xs) zero y h = refl
set_same (x ∷ xs) (suc i) y h = set_same xs i y (omega arith)

set_other : {X : Type 0} (xs : List X) (i j : ℕ) (y : X) → j ≢ i → slice_get (slice_set xs i y) j ≡ slice_get xs j
set_other [] i j y h = refl
set_other (x ∷ xs) zero zero y h = absurd (h refl)
set_other (x ∷ xs) zero (suc j) y h = refl
set_other (x ∷ xs) (suc i) zero y h = refl
set_other (x ∷ xs) (suc i) (suc j) y h = set_other xs i j y (λ e. h (ap suc e))

pub places_found : (lines : List ScriptLine) (xs : List SessionNames) (owners : Option (List ℕ)) (i : ℕ) (x : SessionNames) → i < length xs → x ≡ get_or xs i x → places_of x ≡ (read_of lines xs owners).places i
places_found lines xs owners i x h e = sym (ap places_in (slice_get_read xs (length xs) i x refl h e))

-- the count that a session keeps
pub count_found : (lines : List ScriptLine) (xs : List SessionNames) (i : ℕ) (x : SessionNames) → AreCounted lines xs → slice_get xs i ≡ Some x → x.calls ≡ length (lines_of i lines)
count_found lines xs i x counted e = subst (λ o. IfSome o (λ session. session.calls ≡ length (lines_of i lines))) e (counted.counts i)

-- whether a session has stated its owner, or has a call
pub begun_found : (lines : List ScriptLine) (xs : List SessionNames) (owners : Option (List ℕ)) (i : ℕ) (x : SessionNames) → AreCounted lines xs → slice_get xs i ≡ Some x →
    (x.stated || nat_lt 0 x.calls) ≡ has_begun (read_of lines xs owners) i
begun_found lines xs owners i x counted e = ap₂ (λ b n. b || nat_lt 0 n) (sym (ap stated_in e)) (count_found lines xs i x counted e)

pub count_fits : (lines : List ScriptLine) (i : ℕ) → length (lines_of i lines) ≤ length lines
count_fits lines i = omega (arith, length-filter (λ (line : ScriptLine). line.session == i) lines, count_by-le-length (λ (line : ScriptLine). line.session == i) lines)

-- sessions of which nothing was read
pub new_read : (xs : List SessionNames) → All IsNew xs → read_of [] xs None ≡ nothing_read
new_read xs h =
    ap₂ (λ (p : ℕ → Places) (t : ℕ → Bool). record { lines = []; places = p; owners = None; stated = t })
    (pointwise (λ s. places_in (slice_get xs s)) (λ s. λ name. None) (λ s. pointwise (places_in (slice_get xs s)) (λ name. None) (λ name. new_place (slice_get xs s) name (all_at IsNew xs s h))))
    (pointwise (λ s. stated_in (slice_get xs s)) (λ s. false) (λ s. new_statement (slice_get xs s) (all_at IsNew xs s h)))
  where
    new_statement : (o : Option SessionNames) → IfSome o IsNew → stated_in o ≡ false
    new_statement None h = refl
    new_statement (Some x) h = h.stated

    new_place : (o : Option SessionNames) (name : List ℕ) → IfSome o IsNew → places_in o name ≡ None
    new_place None name h = refl
    new_place (Some x) name h = h.places name

pub new_counted : (xs : List SessionNames) → length xs ≡ 17 → All IsNew xs → AreCounted [] xs
new_counted xs e h = record {
  seventeen = e;
  counts = λ s. IfSome_then (slice_get xs s) (all_at IsNew xs s h) (λ x n. n.calls);
}

one_more : (b : Bool) (line : ScriptLine) → length (cond b (line ∷ []) []) ≡ cond b 1 0
one_more true line = refl
one_more false line = refl

calls_more : (s : ℕ) (lines : List ScriptLine) (line : ScriptLine) → length (lines_of s (lines ++ line ∷ [])) ≡ length (lines_of s lines) + cond (line.session == s) 1 0
calls_more s lines line =
    rw (filter-append (λ (l : ScriptLine). l.session == s) lines (line ∷ []), length-append (lines_of s lines)) (ap (λ n. length (lines_of s lines) + n) (one_more (line.session == s) line))

-- one more call of a session
pub record IsMore (lines : List ScriptLine) (xs : List SessionNames) (i : ℕ) (old new : SessionNames) (name : Option (List ℕ)) : Type 0 where
  pub counted : AreCounted lines xs
  pub within : i < length xs
  pub old_is : slice_get xs i ≡ Some old
  pub calls : new.calls ≡ old.calls
  pub stated : new.stated ≡ old.stated
  pub places : (n : List ℕ) → places_of new n ≡ given_place (places_of old) name old.calls n

abbrev pub counted_on : SessionNames → SessionNames
counted_on new = record { calls = new.calls + 1; names = new.names; stated = new.stated }

same_names : (new : SessionNames) (n : List ℕ) → places_of (counted_on new) n ≡ places_of new n
unfolding places_of
same_names new n = refl

places_turn : (lines : List ScriptLine) (xs : List SessionNames) (i : ℕ) (old new : SessionNames) (name : Option (List ℕ)) → IsMore lines xs i old new name →
    (s : ℕ) (n : List ℕ) (b : Bool) → (s == i) ≡ b →
    places_in (slice_get (slice_set xs i (counted_on new)) s) n ≡ cond b (given_place (places_in (slice_get xs s)) name (length (lines_of i lines))) (places_in (slice_get xs s)) n
places_turn lines xs i old new name m s n true t =
    let e = eqb-true s i t in
    rw (e, set_same xs i (counted_on new) m.within, m.old_is)
    (same_names new n ∙ m.places n ∙ ap (λ k. given_place (places_of old) name k n) (count_found lines xs i old m.counted m.old_is))
places_turn lines xs i old new name m s n false t =
    ap (λ o. places_in o n) (set_other xs i s (counted_on new) (eqb-false s i t))

-- what else is known of a session stays, where the session at one place is another
kept_at : (f : Option SessionNames → Bool) (xs : List SessionNames) (i : ℕ) (old new : SessionNames) → i < length xs → slice_get xs i ≡ Some old → f (Some new) ≡ f (Some old) →
    (s : ℕ) (b : Bool) → (s == i) ≡ b → f (slice_get (slice_set xs i new) s) ≡ f (slice_get xs s)
kept_at f xs i old new within old_is same s true t = let e = eqb-true s i t in rw (e, set_same xs i new within, old_is) same
kept_at f xs i old new within old_is same s false t = ap f (set_other xs i s new (eqb-false s i t))

pub more_read : (lines : List ScriptLine) (xs : List SessionNames) (owners : Option (List ℕ)) (i : ℕ) (old new : SessionNames) (name : Option (List ℕ)) (call : ScriptCall) → IsMore lines xs i old new name →
    read_of (lines ++ record { session = i; call = call } ∷ []) (slice_set xs i (counted_on new)) owners ≡ with_call (read_of lines xs owners) i name call
more_read lines xs owners i old new name call m =
    let now : ℕ → Places = λ s. places_in (slice_get (slice_set xs i (counted_on new)) s) in
    let after : ℕ → Places = (with_call (read_of lines xs owners) i name call).places in
    ap₂ (λ (p : ℕ → Places) (t : ℕ → Bool). record { lines = lines ++ record { session = i; call = call } ∷ []; places = p; owners = owners; stated = t })
    (pointwise now after (λ s. pointwise (now s) (after s) (λ n. places_turn lines xs i old new name m s n (s == i) refl)))
    (pointwise (λ s. stated_in (slice_get (slice_set xs i (counted_on new)) s)) (λ s. stated_in (slice_get xs s)) (λ s. kept_at stated_in xs i old (counted_on new) m.within m.old_is m.stated s (s == i) refl))

counts_turn : (lines : List ScriptLine) (xs : List SessionNames) (i : ℕ) (old new : SessionNames) (name : Option (List ℕ)) (call : ScriptCall) → IsMore lines xs i old new name →
    (s : ℕ) (b : Bool) → (i == s) ≡ b → IfSome (slice_get (slice_set xs i (counted_on new)) s) (λ session. session.calls ≡ length (lines_of s lines) + cond b 1 0)
counts_turn lines xs i old new name call m s true t =
    let e : s ≡ i = sym (eqb-true i s t) in
    rw (e, set_same xs i (counted_on new) m.within) (ap (λ k. k + 1) (m.calls ∙ count_found lines xs i old m.counted m.old_is))
counts_turn lines xs i old new name call m s false t =
    rw (set_other xs i s (counted_on new) (λ e. eqb-false i s t (sym e)))
    (IfSome_then (slice_get xs s) (m.counted.counts s) (λ x h. omega (arith, h)))

pub more_counted : (lines : List ScriptLine) (xs : List SessionNames) (i : ℕ) (old new : SessionNames) (name : Option (List ℕ)) (call : ScriptCall) → IsMore lines xs i old new name →
    AreCounted (lines ++ record { session = i; call = call } ∷ []) (slice_set xs i (counted_on new))
more_counted lines xs i old new name call m = record {
  seventeen = length-set xs i (counted_on new) ∙ m.counted.seventeen;
  counts = λ s. IfSome_then (slice_get (slice_set xs i (counted_on new)) s) (counts_turn lines xs i old new name call m s (i == s) refl) (λ x h. h ∙ sym (calls_more s lines (record { session = i; call = call })));
}

pub is_more : (lines : List ScriptLine) (xs : List SessionNames) (i : ℕ) (old new : SessionNames) (name : Option (List ℕ)) → AreCounted lines xs → i ≤ 16 → old ≡ get_or xs i old →
    new.calls ≡ old.calls → new.stated ≡ old.stated → ((n : List ℕ) → places_of new n ≡ given_place (places_of old) name old.calls n) → IsMore lines xs i old new name
is_more lines xs i old new name counted fits at calls stated places =
    let within : i < length xs = omega (arith, counted.seventeen) in
    record { counted = counted; within = within; old_is = slice_get_read xs (length xs) i old refl within at; calls = calls; stated = stated; places = places }

-- a session that states its owner

abbrev pub stating : SessionNames → SessionNames
stating x = record { calls = x.calls; names = x.names; stated = true }

same_places : (x : SessionNames) (n : List ℕ) → places_of (stating x) n ≡ places_of x n
unfolding places_of
same_places x n = refl

pub owner_read : (lines : List ScriptLine) (xs : List SessionNames) (owners : Option (List ℕ)) (i owner : ℕ) (x : SessionNames) → i < length xs → slice_get xs i ≡ Some x →
    read_of lines (slice_set xs i (stating x)) (Some (slice_set (unwrap_or owners (replicate 16 0)) (i - 1) owner)) ≡ with_owner (read_of lines xs owners) i owner
owner_read lines xs owners i owner x within at =
    let now : ℕ → Places = λ s. places_in (slice_get (slice_set xs i (stating x)) s) in
    let told : ℕ → Bool = λ s. stated_in (slice_get (slice_set xs i (stating x)) s) in
    ap₂ (λ (p : ℕ → Places) (t : ℕ → Bool). record { lines = lines; places = p; owners = Some (slice_set (unwrap_or owners (replicate 16 0)) (i - 1) owner); stated = t })
    (pointwise now (λ s. places_in (slice_get xs s)) (λ s. pointwise (now s) (places_in (slice_get xs s)) (λ n. places_same s n (s == i) refl)))
    (pointwise told (λ s. s == i || stated_in (slice_get xs s)) (λ s. stated_turn s (s == i) refl))
  where
    places_same : (s : ℕ) (n : List ℕ) (b : Bool) → (s == i) ≡ b → places_in (slice_get (slice_set xs i (stating x)) s) n ≡ places_in (slice_get xs s) n
    places_same s n true t = let e = eqb-true s i t in rw (e, set_same xs i (stating x) within, at) (same_places x n)
    places_same s n false t = ap (λ o. places_in o n) (set_other xs i s (stating x) (eqb-false s i t))

    stated_turn : (s : ℕ) (b : Bool) → (s == i) ≡ b → stated_in (slice_get (slice_set xs i (stating x)) s) ≡ (b || stated_in (slice_get xs s))
    stated_turn s true t = let e = eqb-true s i t in rw (e, set_same xs i (stating x) within) refl
    stated_turn s false t = ap stated_in (set_other xs i s (stating x) (eqb-false s i t))

pub owner_counted : (lines : List ScriptLine) (xs : List SessionNames) (i : ℕ) (x : SessionNames) → AreCounted lines xs → i < length xs → slice_get xs i ≡ Some x → AreCounted lines (slice_set xs i (stating x))
owner_counted lines xs i x counted within at = record {
  seventeen = length-set xs i (stating x) ∙ counted.seventeen;
  counts = λ s. count_same s (s == i) refl;
}
  where
    count_same : (s : ℕ) (b : Bool) → (s == i) ≡ b → IfSome (slice_get (slice_set xs i (stating x)) s) (λ session. session.calls ≡ length (lines_of s lines))
    count_same s true t = let e = eqb-true s i t in rw (e, set_same xs i (stating x) within) (count_found lines xs i x counted at)
    count_same s false t = rw (set_other xs i s (stating x) (eqb-false s i t)) (counted.counts s)
