-- From what threads have worked to what sixteen callers have made.
use Rattle.session_host.proofs.Common.{Names, All, AreAllKept, AreCalledIn, AreCallers, AreDealt, AreKept, AreStaff, AreTaken, Caller, HasMade, HasReplies, HasSeen, HasWorked, HaveKept, HaveMade, HaveOwn, HaveRun, HaveSeen, IsFrom, IsOfSession, IsOurs, List, None, Option, Replies, ReplyForm, ReplyLine, ScriptLine, Session, Some, Worker, World, [], all_replies, ap, ap₂, arith, cond, dealt, entries_of, flat_map, get_or, get_or_default, inl, inr, is_success, length, length-append, refl, subst, suc, sum_by-append, sum_by-cons, sym, take, text_in, true, zero, ℕ, ◌++◌, ◌+◌, ◌-◌, ◌<◌, ◌∙◌, ◌∷◌, ◌≡◌, ◌≤◌}
use Rattle.std.proofs.lemmas.Grind.{flat_map-append}
use Rattle.session_host.proofs.Dealt.{none_made}

-- some element of a list that has one
pub some_of : {X : Type 0} (xs : List X) → 0 < length xs → X
some_of [] some = absurd (omega arith)
some_of (x ∷ xs) some = x

-- new callers have made no call
pub have_made_none : {D A C : Type 0} (w : World D A C) (names : Names) (lines : List ScriptLine) (callers : List (Caller D A C)) → AreStaff w callers → HaveMade w names lines callers
have_made_none {D} {A} {C} w names lines callers staff =
    let each = λ (k : ℕ) (d : Caller D A C) (within : k < 16). staff.each k d (omega (arith, within, staff.sixteen)) in record {
      are = record { sixteen = staff.sixteen; numbers = λ k d within. (each k d within).number_is };
      each = λ k d within. (0, none_made w names (k + 1) (get_or callers k d) (each k d within));
    }

at_each : {X Y : Type 0} (P : ℕ → X → Y → Type 0) (x : X) (xs : List X) (y : Y) (ys : List Y) → P 0 x y →
    ((k : ℕ) (a : X) (b : Y) → k < length xs → P (suc k) (get_or xs k a) (get_or ys k b)) → (k : ℕ) (a : X) (b : Y) → k < length (x ∷ xs) → P k (get_or (x ∷ xs) k a) (get_or (y ∷ ys) k b)
at_each P x xs y ys first rest zero a b lt = first
at_each P x xs y ys first rest (suc k) a b lt = rest k a b (omega (arith, lt))

-- where there is something for each element of a list, there is a list of it
choose : {X Y : Type 0} (P : ℕ → X → Y → Type 0) (xs : List X) → ((k : ℕ) → k < length xs → (x : X) → (y : Y) × P k (get_or xs k x) y) →
    (ys : List Y) × (length ys ≡ length xs) × ((k : ℕ) (x : X) (y : Y) → k < length xs → P k (get_or xs k x) (get_or ys k y))
choose P [] some = ([], refl, λ k x y lt. absurd (omega (arith, lt)))
choose P (x ∷ xs) some =
    let first = some 0 (omega arith) x in
    let rest = choose (λ k. P (suc k)) xs (λ k lt a. some (suc k) (omega (arith, lt)) a) in
    (first.0 ∷ rest.0, ap suc rest.1, at_each P x xs first.0 rest.0 first.1 rest.2)

-- the replies of sessions, kept one by one in one form, are all kept in it
all_kept : (form : ReplyForm) (kept : List Replies) (told : List (List ReplyLine)) → length told ≡ length kept →
    ((k : ℕ) (x : Replies) (y : List ReplyLine) → k < length kept → AreKept (get_or kept k x) (get_or told k y) × ((get_or kept k x).form ≡ form)) → AreAllKept form kept (all_replies told)
all_kept form [] [] same each = record { count = refl; successes = refl; text = refl }
all_kept form [] (t ∷ ts) same each = absurd (omega (arith, same))
all_kept form (k ∷ ks) [] same each = absurd (omega (arith, same))
all_kept form (k ∷ ks) (t ∷ ts) same each =
    let first = each 0 k t (omega arith) in
    let rest = all_kept form ks ts (omega (arith, same)) (λ i x y lt. each (suc i) x y (omega (arith, lt))) in
    let one = λ (line : ReplyLine). cond (is_success line) 1 0 in record {
      count = let a = sum_by-cons (λ (k : Replies). k.count) k ks in let b = first.0.count in let c = rest.count in let d = length-append t (all_replies ts) in omega (arith, a, b, c, d);
      successes = let a = sum_by-cons (λ (k : Replies). k.successes) k ks in let b = first.0.successes in let c = rest.successes in let d = sum_by-append one t (all_replies ts) in omega (arith, a, b, c, d);
      text = ap₂ (λ a b. a ++ b) (first.0.text ∙ ap (λ f. flat_map (text_in f) t) first.1) rest.text ∙ sym (flat_map-append (text_in form) t (all_replies ts));
    }

module _ {D A C : Type 0} (w : World D A C) (names : Names) (lines : List ScriptLine) (old new : List (Worker D A C))
    (form : ReplyForm) (begun : AreDealt w names form old) (as_many : length new ≡ length old)
    (worked : (k : ℕ) (d : Worker D A C) → k < length old → HasWorked w names lines (get_or old k d) (get_or new k d)) where
  -- each worker has its sessions still
  pub own_after : HaveOwn 16 new
  own_after i d within =
      let there : i < length old = omega arith in
      (worked i d there).numbers ∙ (begun.own i d there ∙ ap (λ n. dealt n i 16) (sym as_many))

  module _ (callers : List (Caller D A C)) (replies : List Replies) (taken : AreTaken 16 new callers replies) where
    -- a session's replies are these lines, and are kept so
    record IsKeptAs (c : Caller D A C) (k : ℕ) (kept : Replies) (told : List ReplyLine) : Type 0 where
      replied_as : HasReplies w names lines (get_or callers k c) told
      kept_as : AreKept kept told
      form_is : kept.form ≡ form

    a_reply : Replies
    a_reply = some_of replies (let n = taken.replies_are in omega arith)

    from : (k : ℕ) (c : Caller D A C) → k < 16 → IsFrom new (k + 1) (get_or callers k c) (get_or replies k a_reply)
    from k c within = taken.each k c a_reply within

    -- what holds of each session of each worker holds of each caller
    each_caller : (P : Caller D A C → Type 0) → ((i : ℕ) (t : Worker D A C) → i < length new → All (λ (s : Session D A C). P s.caller) (get_or new i t).sessions.items) → (k : ℕ) (c : Caller D A C) → k < 16 → P (get_or callers k c)
    each_caller P all k c within =
        let f = from k c within in
        let t : Worker D A C = some_of new (let l = f.there in omega arith) in
        let s : Session D A C = some_of (get_or new f.worker t).sessions.items (let l = f.within t in omega arith) in
        subst P (f.caller_is t s) (all f.worker t f.there f.place s (f.within t))

    are_callers : AreCallers callers
    are_callers = record { sixteen = taken.callers_are; numbers = λ k c within. (from k c within).number_is }

    pub have_made : HaveMade w names lines callers
    have_made = record {
      are = are_callers;
      each = each_caller (λ c. (n : ℕ) × HasMade w names (take n lines) c) (λ i t there. (worked i t (omega (arith, there, as_many))).made);
    }

    module _ (whole : (k : ℕ) (t : Worker D A C) → k < length new → (get_or new k t).whole ≡ true) where
      run_of : (i : ℕ) (t : Worker D A C) → i < length new → HaveRun w names lines (get_or new i t)
      run_of i t there = (worked i t (omega (arith, there, as_many))).whole (whole i t there)

      -- what is kept of a session's replies
      of_session : (c : Caller D A C) (k : ℕ) → k < 16 → (r : Replies) → (told : List ReplyLine) × IsKeptAs c k (get_or replies k r) told
      of_session c k within r =
          let f = taken.each k c r within in
          let t : Worker D A C = some_of new (let l = f.there in omega arith) in
          let s : Session D A C = some_of (get_or new f.worker t).sessions.items (let l = f.within t in omega arith) in
          let own : Session D A C = get_or (get_or new f.worker t).sessions.items f.place s in
          let a = ((run_of f.worker t f.there).answered f.place s (f.within t)).replies in
          let there : f.worker < length old = (let l = f.there in omega (arith, as_many)) in
          let has_form : own.replies.form ≡ form = (worked f.worker t there).forms form (begun.forms f.worker t there) f.place s (f.within t) in (
            a.replied,
            record {
              replied_as = subst (λ z. HasReplies w names lines z a.replied) (f.caller_is t s) a.replies;
              kept_as = subst (λ z. AreKept z a.replied) (f.replies_are t s) a.kept;
              form_is = subst (λ (z : Replies). z.form ≡ form) (f.replies_are t s) has_form;
            },
          )

      pub have_kept : HaveKept w names lines callers form replies
      have_kept =
          let c : Caller D A C = some_of callers (let n = taken.callers_are in omega arith) in
          let few : (k : ℕ) → k < length replies → k < 16 = λ k lt. (let n = taken.replies_are in omega (arith, lt)) in
          let all = choose (IsKeptAs c) replies (λ k lt r. of_session c k (few k lt) r) in
          let told : List (List ReplyLine) = all.0 in record {
            told = told;
            answered = record {
              sixteen = all.1 ∙ taken.replies_are;
              replied = λ k d r within.
                  let lt : k < length replies = (let n = taken.replies_are in omega (arith, within)) in
                  let there : k < length callers = (let n = taken.callers_are in omega (arith, within)) in
                  subst (λ (x : Caller D A C). HasReplies w names lines x (get_or told k r)) (get_or_default callers k c d there) (all.2 k a_reply r lt).replied_as;
            };
            all = all_kept form replies told all.1 (λ k x y lt. let h = all.2 k x y lt in (h.kept_as, h.form_is));
            sixteen = taken.replies_are;
          }

      -- ONE WORKER

      module _ (one : length new ≡ 1) (sessions : All IsOfSession lines) where
        abbrev c : Caller D A C
        c = some_of callers (let n = taken.callers_are in omega arith)

        abbrev t : Worker D A C
        t = some_of new (omega (arith, one))

        only : Worker D A C
        only = get_or new 0 t

        run : HaveRun w names lines only
        unfolding only
        run = run_of 0 t (omega (arith, one))

        -- each caller is of one of its sessions
        here : (k : ℕ) → k < 16 → (place : ℕ) × (place < length only.sessions.items) × ((s : Session D A C) → (get_or only.sessions.items place s).caller ≡ get_or callers k c)
        unfolding only
        here k within =
            let f = from k c within in
            let first : f.worker ≡ 0 = (let l = f.there in omega (arith, one)) in (
              f.place,
              subst (λ i. f.place < length (get_or new i t).sessions.items) first (f.within t),
              λ s. subst (λ i. (get_or (get_or new i t).sessions.items f.place s).caller ≡ get_or callers k c) first (f.caller_is t s),
            )

        ours : All (IsOurs only.sessions.items) lines
        ours k d within =
            let own : IsOfSession (get_or lines k d) = sessions k d within in
            let number : ℕ = (get_or lines k d).session in
            let h = here (number - 1) (omega (arith, own.0, own.1)) in
            let is : number - 1 + 1 ≡ number = (let l = own.0 in omega arith) in
            (h.0, h.1, λ s. ap (λ (x : Caller D A C). x.number) (h.2 s) ∙ ((from (number - 1) c (omega (arith, own.0, own.1))).number_is ∙ is))

        seen_by : (last : Option ℕ) → HasSeen lines only.sessions.items last → HaveSeen lines callers
        seen_by None none = inl none
        seen_by (Some last) there =
            let s : Session D A C = get_or only.sessions.items last (some_of only.sessions.items (let l = there.0 in omega arith)) in
            let ready = (run.answered last s there.0).replies.replies.made.ready in
            let x : Session D A C = get_or only.sessions.items last s in
            let low : 1 ≤ x.caller.number = subst (λ n. 1 ≤ n) ready.number ready.at.first in
            let high : x.caller.number ≤ 16 = ready.last in
            let k : ℕ = x.caller.number - 1 in
            let within : k < 16 = omega (arith, low, high) in
            let h = here k within in
            let number : (get_or callers k c).number ≡ x.caller.number = (from k c within).number_is ∙ (let e : k + 1 ≡ x.caller.number = omega arith in e) in
            let place : h.0 ≡ last = run.apart h.0 last s h.1 there.0 (ap (λ (y : Caller D A C). y.number) (h.2 s) ∙ number) in
            let same : x.caller ≡ get_or callers k c = subst (λ p. (get_or only.sessions.items p s).caller ≡ get_or callers k c) place (h.2 s) in
            let there_too : k < length callers = (let n = taken.callers_are in omega (arith, within)) in
            inr (k, there_too, λ d. subst (λ (y : Caller D A C). AreCalledIn lines (entries_of y.pass.me.0.seen)) (same ∙ get_or_default callers k c d there_too) (there.1 s))

        pub have_seen : HaveSeen lines callers
        have_seen = seen_by only.last (run.order ours)
