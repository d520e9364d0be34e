-- The numbers of the sessions that are dealt to a worker.
use Rattle.session_host.proofs.Common.{Names, All, All-push, All-set, All-weaker, AreDealt, AreKept, AreTaken, AreTurnsIn, Bool, Caller, HasAnswered, HasMade, HasSeated, HasSeen, HaveOwn, IfSome, IsFrom, IsNewCaller, List, None, Replies, ReplyForm, Session, Worker, World, [], ap, append-nil, append_assoc, arith, cond, dealt, entries_of, eq-eqb, eqb_tells, false, get_or, get_or-map, get_or-set_other, get_or-set_same, get_or_append_left, get_or_push, inl, inr, length, length-append, length-set, map-append, ne_eqb, numbers_of, refl, set, subst, suc, sym, take, take_more, true, vec_capacity, zero, ℕ, ◌%◌, ◌++◌, ◌+◌, ◌-◌, ◌<◌, ◌==◌, ◌∙◌, ◌∷◌, ◌≡◌, ◌≢◌, ◌≤◌}
use Rattle.session_host.proofs.Told.{no_turns}
use Rattle.session_host.specs.Workers as working

abbrev AreApart : List ℕ → Type 0
AreApart l = (i k : ℕ) → i < length l → k < length l → get_or l i 0 ≡ get_or l k 0 → i ≡ k

-- one more number, which is none of those
apart_more : (l : List ℕ) (x : ℕ) → AreApart l → ((i : ℕ) → i < length l → get_or l i 0 ≢ x) → AreApart (l ++ x ∷ [])
apart_more l x apart other i k lt le same = elim (eqb_tells i (length l)) [
  | inl a ↦ elim (eqb_tells k (length l)) [
    | inl b ↦ a.1 ∙ sym b.1
    | inr b ↦
        let low : k < length l = (let n = length-append l (x ∷ []) in let ne = b.1 in omega arith) in
        absurd (other k low (sym (get_or_append_left l (x ∷ []) 0 k low) ∙ (sym same ∙ get_or_push l x 0 i (sym a.1))))
  ]
  | inr a ↦
      let here : i < length l = (let n = length-append l (x ∷ []) in let ne = a.1 in omega arith) in
      elim (eqb_tells k (length l)) [
        | inl b ↦ absurd (other i here (sym (get_or_append_left l (x ∷ []) 0 i here) ∙ (same ∙ get_or_push l x 0 k (sym b.1))))
        | inr b ↦
            let low : k < length l = (let n = length-append l (x ∷ []) in let ne = b.1 in omega arith) in
            apart i k here low (sym (get_or_append_left l (x ∷ []) 0 i here) ∙ (same ∙ get_or_append_left l (x ∷ []) 0 k low))
      ]
]

-- ALL NUMBERS OF A WORKER

above_more : (l : List ℕ) (x least : ℕ) (b : Bool) → ((i : ℕ) → i < length l → x < get_or l i 0) → (i : ℕ) → i < length (l ++ cond b (x ∷ []) []) → x ≤ get_or (l ++ cond b (x ∷ []) []) i 0
above_more l x least true above i lt = elim (eqb_tells i (length l)) [
  | inl a ↦ let e : get_or (l ++ x ∷ []) i 0 ≡ x = get_or_push l x 0 i (sym a.1) in omega arith
  | inr a ↦
      let here : i < length l = (let n = length-append l (x ∷ []) in let ne = a.1 in omega arith) in
      let e = get_or_append_left l (x ∷ []) 0 i here in let f = above i here in omega arith
]
above_more l x least false above i lt =
    let same : l ++ [] ≡ l = append-nil l in
    let here : i < length l = (let e = ap length same in omega arith) in
    let e : get_or (l ++ []) i 0 ≡ get_or l i 0 = ap (λ m. get_or m i 0) same in let f = above i here in omega arith

-- each is above those that are still to come
pub dealt_above : (n r j : ℕ) → j ≤ 16 → (i : ℕ) → i < length (dealt n r j) → 17 ≤ get_or (dealt n r j) i 0 + j
dealt_above n r zero le i lt = absurd (omega arith)
dealt_above n r (suc j) le i lt =
    let a = above_more (dealt n r j) (16 - j) 0 ((16 - j) % n == r) (λ k here. let d = dealt_above n r j (omega arith) k here in omega arith) i lt in omega arith

apart_cond : (l : List ℕ) (x : ℕ) (b : Bool) → AreApart l → ((i : ℕ) → i < length l → get_or l i 0 ≢ x) → AreApart (l ++ cond b (x ∷ []) [])
apart_cond l x true apart other = apart_more l x apart other
apart_cond l x false apart other = subst AreApart (sym (append-nil l)) apart

pub dealt_apart : (n r j : ℕ) → j ≤ 16 → AreApart (dealt n r j)
dealt_apart n r zero le = λ i k lt. absurd (omega arith)
dealt_apart n r (suc j) le =
    apart_cond (dealt n r j) (16 - j) ((16 - j) % n == r) (dealt_apart n r j (omega arith)) (λ i here same. let d = dealt_above n r j (omega arith) i here in omega arith)

length_cond : (x : ℕ) (b : Bool) → length (cond b (x ∷ []) []) ≤ 1
length_cond x true = omega arith
length_cond x false = omega arith

pub dealt_few : (n r j : ℕ) → length (dealt n r j) ≤ j
dealt_few n r zero = omega arith
dealt_few n r (suc j) =
    let a = dealt_few n r j in let b = length_cond (16 - j) ((16 - j) % n == r) in let c = length-append (dealt n r j) (cond ((16 - j) % n == r) ((16 - j) ∷ []) []) in omega arith

-- WORKERS

module _ {D A C : Type 0} where
  names_more : (old new : List (Session D A C)) (s : Session D A C) → new ≡ old ++ s ∷ [] → numbers_of new ≡ numbers_of old ++ s.caller.number ∷ []
  names_more old new s is = ap numbers_of is ∙ map-append (λ (s : Session D A C). s.caller.number) old (s ∷ [])

  -- one more session is dealt
  pub dealt_one : (j : ℕ) (workers : List (Worker D A C)) (t : Worker D A C) (s : Session D A C) → HaveOwn j workers → (16 - j) % length workers < length workers →
      ((d : Worker D A C) → HasSeated (get_or workers ((16 - j) % length workers) d) t s) → s.caller.number ≡ 16 - j → HaveOwn (j + 1) (set workers ((16 - j) % length workers) t)
  dealt_one j workers t s own within seated number i d lt =
      let r : ℕ = (16 - j) % length workers in
      let count : length (set workers r t) ≡ length workers = length-set workers r t in
      let one : j + 1 ≡ suc j = omega arith in
      subst (λ n. numbers_of (get_or (set workers r t) i d).sessions.items ≡ dealt n i (j + 1)) (sym count)
      (subst (λ k. numbers_of (get_or (set workers r t) i d).sessions.items ≡ dealt (length workers) i k) (sym one)
      (elim (eqb_tells i r) [
        | inl here ↦
            ap (λ (x : Worker D A C). numbers_of x.sessions.items) (ap (λ k. get_or (set workers r t) k d) here.1 ∙ get_or-set_same workers r t d within)
            ∙ (names_more (get_or workers r d).sessions.items t.sessions.items s (seated d).sessions
            ∙ (ap (λ l. l ++ s.caller.number ∷ []) (own r d within ∙ ap (λ k. dealt (length workers) k j) (sym here.1))
            ∙ (ap (λ n. dealt (length workers) i j ++ n ∷ []) number
            ∙ ap (λ b. dealt (length workers) i j ++ cond b ((16 - j) ∷ []) []) (sym (eq-eqb r i (sym here.1))))))
        | inr other ↦
            ap (λ (x : Worker D A C). numbers_of x.sessions.items) (get_or-set_other workers r i t d other.1)
            ∙ (own i d (omega (arith, lt, count))
            ∙ (sym (append-nil (dealt (length workers) i j))
            ∙ ap (λ b. dealt (length workers) i j ++ cond b ((16 - j) ∷ []) []) (sym (ne_eqb r i (λ same. other.1 (sym same))))))
      ]))

-- a session that has made no call
pub record IsFreshSession {D A C : Type 0} (w : World D A C) (names : Names) (form : ReplyForm) (s : Session D A C) : Type 0 where
  pub number : ℕ
  pub caller : IsNewCaller w number s.caller
  pub replies : AreKept s.replies []
  pub session : s.replies.session ≡ s.caller.number
  pub form_is : s.replies.form ≡ form
  pub given : s.given.items ≡ []

-- so many sessions are dealt, none of which has made a call
pub record IsDealing {D A C : Type 0} (w : World D A C) (names : Names) (form : ReplyForm) (j : ℕ) (workers : List (Worker D A C)) : Type 0 where
  pub own : HaveOwn j workers
  pub fresh : (i : ℕ) (d : Worker D A C) → i < length workers → All (IsFreshSession w names form) (get_or workers i d).sessions.items
  pub space : (i : ℕ) (d : Worker D A C) → i < length workers → 16 ≤ vec_capacity (get_or workers i d).sessions
  pub buffer : (i : ℕ) (d : Worker D A C) → i < length workers → 16448 ≤ length (get_or workers i d).buffer.items
  pub last : (i : ℕ) (d : Worker D A C) → i < length workers → (get_or workers i d).last ≡ None

-- a new caller has made no call
pub none_made : {D A C : Type 0} (w : World D A C) (names : Names) (n : ℕ) (c : Caller D A C) → IsNewCaller w n c → HasMade w names [] c
none_made w names n c new = record {
  ready = new.ready;
  spent = let s = new.spent in omega arith;
  turns = [];
  made = subst (λ s. AreTurnsIn w names (entries_of s) c.number [] []) (sym new.unseen) (no_turns w names c.number);
}

pub same_long : {D A C : Type 0} (sessions : List (Session D A C)) → length (numbers_of sessions) ≡ length sessions
same_long [] = refl
same_long (s ∷ sessions) = ap suc (same_long sessions)

module _ {D A C : Type 0} (w : World D A C) (names : Names) (form : ReplyForm) where
  pub dealing_one : (j : ℕ) (workers : List (Worker D A C)) (t : Worker D A C) (s : Session D A C) → IsDealing w names form j workers → (16 - j) % length workers < length workers →
      ((d : Worker D A C) → HasSeated (get_or workers ((16 - j) % length workers) d) t s) → IsFreshSession w names form s → s.caller.number ≡ 16 - j → IsDealing w names form (j + 1) (set workers ((16 - j) % length workers) t)
  dealing_one j workers t s h within seated f number =
      let r : ℕ = (16 - j) % length workers in let was = seated t in record {
        own = dealt_one j workers t s h.own within seated number;
        fresh = All-set (λ x. All (IsFreshSession w names form) x.sessions.items) workers r t (subst (All (IsFreshSession w names form)) (sym was.sessions) (All-push (IsFreshSession w names form) (get_or workers r t).sessions.items s (h.fresh r t within) f)) h.fresh;
        space = All-set (λ x. 16 ≤ vec_capacity x.sessions) workers r t (let a = was.space in let b = h.space r t within in omega arith) h.space;
        buffer = All-set (λ x. 16448 ≤ length x.buffer.items) workers r t (let a = ap (λ b. length b.items) was.buffer in let b = h.buffer r t within in omega arith) h.buffer;
        last = All-set (λ x. x.last ≡ None) workers r t (was.last ∙ h.last r t within) h.last;
      }

  none_answered : (s : Session D A C) → IsFreshSession w names form s → HasAnswered w names [] s
  unfolding none_made
  none_answered s f = record {
    replies = record {
      replied = [];
      kept = f.replies;
      session = f.session;
      replies = record { made = none_made w names f.number s.caller f.caller; printed = refl };
    };
    given = f.given;
  }

  apart_by_numbers : (sessions : List (Session D A C)) (l : List ℕ) → numbers_of sessions ≡ l → AreApart l → working.AreApart sessions
  apart_by_numbers sessions l is apart = λ i j d li lj same.
      let long : length l ≡ length sessions = sym (ap length is) ∙ same_long sessions in
      let at = λ (k : ℕ) (lt : k < length sessions). ap (λ m. get_or m k 0) (sym is) ∙ get_or-map (λ s. s.caller.number) sessions k d 0 lt in
      apart i j (omega arith) (omega arith) (at i li ∙ (same ∙ sym (at j lj)))

  -- all are dealt
  pub all_dealt : (workers : List (Worker D A C)) → IsDealing w names form 16 workers → AreDealt w names form workers
  all_dealt workers h = record {
    own = h.own;
    forms = λ i d lt. All-weaker (IsFreshSession w names form) (λ s. s.replies.form ≡ form) (λ s f. f.form_is) (get_or workers i d).sessions.items (h.fresh i d lt);
    begun = λ i d lt. record {
      room = h.buffer i d lt;
      apart = apart_by_numbers (get_or workers i d).sessions.items (dealt (length workers) i 16) (h.own i d lt) (dealt_apart (length workers) i 16 (omega arith));
      answered = All-weaker (IsFreshSession w names form) (HasAnswered w names []) none_answered (get_or workers i d).sessions.items (h.fresh i d lt);
      last = subst (λ o. IfSome o (λ k. k < length (get_or workers i d).sessions.items)) (sym (h.last i d lt)) tt;
      order = λ all. subst (HasSeen [] (get_or workers i d).sessions.items) (sym (h.last i d lt)) refl;
    };
  }

-- SESSIONS THAT ARE TAKEN BACK

pub snoc_parts : {X : Type 0} (xs ys : List X) (x y : X) → xs ++ x ∷ [] ≡ ys ++ y ∷ [] → (xs ≡ ys) × (x ≡ y)
snoc_parts [] [] x y e = (refl, head_is x y [] [] e)
  where
    head_is : {X : Type 0} (a b : X) (more less : List X) → a ∷ more ≡ b ∷ less → a ≡ b
    head_is a b more less e = cc
snoc_parts [] (y ∷ ys) x z e = absurd (let n = ap length e ∙ length-append (y ∷ ys) (z ∷ []) in let m : length (x ∷ []) ≡ 1 = refl in omega arith)
snoc_parts (x ∷ xs) [] y z e = absurd (let n = sym (length-append (x ∷ xs) (y ∷ [])) ∙ ap length e in let m : length (z ∷ []) ≡ 1 = refl in omega arith)
snoc_parts (x ∷ xs) (y ∷ ys) a b e =
    let heads : x ≡ y = cc in let tails : xs ++ a ∷ [] ≡ ys ++ b ∷ [] = cc in
    let r = snoc_parts xs ys a b tails in ((λ i. heads i ∷ r.0 i), r.1)

get_middle : {X : Type 0} (xs more : List X) (x d : X) → get_or (xs ++ x ∷ more) (length xs) d ≡ x
get_middle [] more x d = refl
get_middle (y ∷ xs) more x d = get_middle xs more x d

module _ {D A C : Type 0} where
  -- all sessions but those of the last so many numbers were taken, each from the end of its worker's list
  pub record IsTaking (left : ℕ) (old now : List (Worker D A C)) (callers : List (Caller D A C)) (replies : List Replies) : Type 0 where
    pub count : length now ≡ length old
    pub own : HaveOwn left now
    pub fronts : (i : ℕ) (d : Worker D A C) → i < length old → (rest : List (Session D A C)) × ((get_or old i d).sessions.items ≡ (get_or now i d).sessions.items ++ rest)
    pub taken : AreTaken (16 - left) old callers replies

  last_is : (m : ℕ) (now : List (Worker D A C)) → HaveOwn (suc m) now → (16 - m) % length now < length now → (d : Worker D A C) →
      numbers_of (get_or now ((16 - m) % length now) d).sessions.items ≡ dealt (length now) ((16 - m) % length now) m ++ (16 - m) ∷ []
  last_is m now own within d =
      let r : ℕ = (16 - m) % length now in
      own r d within ∙ ap (λ b. dealt (length now) r m ++ cond b ((16 - m) ∷ []) []) (eq-eqb r r refl)

  -- the next session is there
  pub is_there : (m : ℕ) (now : List (Worker D A C)) (items : List (Session D A C)) → HaveOwn (suc m) now → (16 - m) % length now < length now → (d : Worker D A C) →
      (get_or now ((16 - m) % length now) d).sessions.items ≡ items → items ≡ [] → ⊥
  is_there m now items own within d is none =
      let e : numbers_of {D = D} {A = A} {C = C} [] ≡ dealt (length now) ((16 - m) % length now) m ++ (16 - m) ∷ [] = sym (ap numbers_of (is ∙ none)) ∙ last_is m now own within d in
      let n = ap length e ∙ length-append (dealt (length now) ((16 - m) % length now) m) ((16 - m) ∷ []) in
      let z : length (numbers_of {D = D} {A = A} {C = C} []) ≡ 0 = refl in omega arith

  pub one_taken : (m : ℕ) (old now : List (Worker D A C)) (callers : List (Caller D A C)) (replies : List Replies) (t : Worker D A C) (s : Session D A C) → m < 16 → IsTaking (suc m) old now callers replies →
      (16 - m) % length now < length now → ((d : Worker D A C) → (get_or now ((16 - m) % length now) d).sessions.items ≡ t.sessions.items ++ s ∷ []) →
      IsTaking m old (set now ((16 - m) % length now) t) (callers ++ s.caller ∷ []) (replies ++ s.replies ∷ [])
  one_taken m old now callers replies t s few i within parts =
      let n : ℕ = length now in let r : ℕ = (16 - m) % n in
      let both = snoc_parts (numbers_of t.sessions.items) (dealt n r m) s.caller.number (16 - m) (sym (names_more t.sessions.items (get_or now r (get_or now r t)).sessions.items s (parts (get_or now r t))) ∙ last_is m now i.own within (get_or now r t)) in
      let there : r < length old = (let c = i.count in omega arith) in
      record {
        count = length-set now r t ∙ i.count;
        own = λ k d lt.
            subst (λ c. numbers_of (get_or (set now r t) k d).sessions.items ≡ dealt c k m) (sym (length-set now r t))
            (elim (eqb_tells k r) [
              | inl here ↦ ap (λ j. numbers_of (get_or (set now r t) j d).sessions.items) here.1 ∙ (ap (λ (x : Worker D A C). numbers_of x.sessions.items) (get_or-set_same now r t d within) ∙ (both.0 ∙ ap (λ j. dealt n j m) (sym here.1)))
              | inr other ↦
                  ap (λ (x : Worker D A C). numbers_of x.sessions.items) (get_or-set_other now r k t d other.1)
                  ∙ (i.own k d (let c = length-set now r t in omega arith)
                  ∙ (ap (λ b. dealt n k m ++ cond b ((16 - m) ∷ []) []) (ne_eqb r k (λ same. other.1 (sym same))) ∙ append-nil (dealt n k m)))
            ]);
        fronts = λ k d lt. elim (eqb_tells k r) [
          | inl here ↦
              let f = i.fronts k d lt in (
                s ∷ f.0,
                f.1 ∙ (ap (λ l. l ++ f.0) (ap (λ j. (get_or now j d).sessions.items) here.1 ∙ parts d) ∙ (append_assoc t.sessions.items (s ∷ []) f.0
                    ∙ ap (λ (x : Worker D A C). x.sessions.items ++ s ∷ f.0) (sym (ap (λ j. get_or (set now r t) j d) here.1 ∙ get_or-set_same now r t d within)))),
              )
          | inr other ↦ let f = i.fronts k d lt in (f.0, f.1 ∙ ap (λ (x : Worker D A C). x.sessions.items ++ f.0) (sym (get_or-set_other now r k t d other.1)))
        ];
        taken = record {
          callers_are = length-append callers (s.caller ∷ []) ∙ (let c = i.taken.callers_are in omega arith);
          replies_are = length-append replies (s.replies ∷ []) ∙ (let c = i.taken.replies_are in omega arith);
          each = λ k c y lt. elim (eqb_tells k (length callers)) [
            | inl last ↦
                let place : k ≡ 15 - m = (let e = last.1 in let f = i.taken.callers_are in omega arith) in
                let kc : get_or (callers ++ s.caller ∷ []) k c ≡ s.caller = get_or_push callers s.caller c k (sym last.1) in
                let kr : get_or (replies ++ s.replies ∷ []) k y ≡ s.replies = get_or_push replies s.replies y k (let e = last.1 in let f = i.taken.callers_are in let g = i.taken.replies_are in omega arith) in
                let whole = λ (d : Worker D A C). (let f = i.fronts r d there in f.1 ∙ (ap (λ l. l ++ f.0) (parts d) ∙ append_assoc t.sessions.items (s ∷ []) f.0)) in
                subst (λ z. IsFrom old (k + 1) z (get_or (replies ++ s.replies ∷ []) k y)) (sym kc)
                (subst (λ z. IsFrom old (k + 1) s.caller z) (sym kr) (record {
                  worker = r;
                  place = length t.sessions.items;
                  there = there;
                  within = λ d. (let e = ap length (whole d) ∙ length-append t.sessions.items (s ∷ (i.fronts r d there).0) in omega arith);
                  number_is = both.1 ∙ (omega arith);
                  caller_is = λ d x. ap (λ z. z.caller) (ap (λ l. get_or l (length t.sessions.items) x) (whole d) ∙ get_middle t.sessions.items (i.fronts r d there).0 s x);
                  replies_are = λ d x. ap (λ z. z.replies) (ap (λ l. get_or l (length t.sessions.items) x) (whole d) ∙ get_middle t.sessions.items (i.fronts r d there).0 s x);
                }))
            | inr other ↦
                let low : k < length callers = (let f = i.taken.callers_are in let ne = other.1 in omega arith) in
                let lowr : k < length replies = (let f = i.taken.callers_are in let g = i.taken.replies_are in omega arith) in
                subst (λ z. IsFrom old (k + 1) z (get_or (replies ++ s.replies ∷ []) k y)) (sym (get_or_append_left callers (s.caller ∷ []) c k low))
                (subst (λ z. IsFrom old (k + 1) (get_or callers k c) z) (sym (get_or_append_left replies (s.replies ∷ []) y k lowr)) (i.taken.each k c y (let f = i.taken.callers_are in omega arith)))
          ];
        };
      }

pub none_left : {D A C : Type 0} (sessions : List (Session D A C)) → numbers_of sessions ≡ [] → sessions ≡ []
none_left [] e = refl
none_left (s ∷ sessions) e = absurd (empty_not s.caller.number (numbers_of sessions) e)
  where
    empty_not : (x : ℕ) (xs : List ℕ) → x ∷ xs ≡ [] → ⊥
    empty_not x xs f = cc

pub last_of : {X : Type 0} (xs rest : List X) (n : ℕ) (x : X) → n < length xs → take (n + 1) xs ≡ rest ++ x ∷ [] → (take n xs ≡ rest) × (get_or xs n x ≡ x)
last_of xs rest n x lt e = snoc_parts (take n xs) rest (get_or xs n x) x (sym (take_more xs n x lt) ∙ e)
