-- The sessions of a thread, as a line is run.
use Rattle.session_host.proofs.Common.{All, AreApart, AreCalledIn, AreKept, ChangesAt, Err, GoesFurther, HasAnswered, HasLearned, HasMade, HasSeen, HasWorked, HaveForm, HaveRun, IfOk, IfSome, IsOurs, List, MatchResult, Memory, Names, None, Ok, Option, ReplyForm, ReplyLine, Result, ScriptLine, Session, Some, StartsWith, Worker, World, [], ap, ap₂, arith, count_by-le-length, entries_of, eqb_tells, false, get_or, get_or-set_other, get_or-set_same, get_or_append_left, get_or_default, get_or_push, inl, inr, length, length-append, length-filter, length-set, lines_of, map, numbers_of, refl, set, subst, suc, sym, take, take_more, ℕ, ◌++◌, ◌+◌, ◌-◌, ◌<◌, ◌==◌, ◌^◌, ◌∙◌, ◌∷◌, ◌≡◌, ◌≢◌, ◌≤◌, ◌⊎◌}
use Rattle.std.proofs.lemmas.Bool.{both_ways}
use Rattle.session_host.proofs.{Order.within_more, Order.within_whole, Told.answered_other, History.calls_length, History.numbered_length, Meeting.item_of, Meeting.learned}

map_same : {X : Type 0} (f : X → ℕ) (xs ys : List X) → length ys ≡ length xs → ((k : ℕ) (d : X) → k < length xs → f (get_or ys k d) ≡ f (get_or xs k d)) → map f ys ≡ map f xs
map_same f [] [] e h = refl
map_same f [] (y ∷ ys) e h = absurd (omega (arith, e))
map_same f (x ∷ xs) [] e h = absurd (omega (arith, e))
map_same f (x ∷ xs) (y ∷ ys) e h = ap₂ (λ a b. a ∷ b) (h 0 x (omega arith)) (map_same f xs ys (omega (arith, e)) (λ k d lt. h (suc k) d (omega arith)))

module _ {D A C : Type 0} (w : World D A C) (names : Names) (lines : List ScriptLine) where
  pub few_replies : (s : Session D A C) → HasAnswered w names lines s → length lines < 20000 → (told : List ReplyLine) × AreKept s.replies told × (length told < 2 ^ 32 - 1)
  few_replies s h few = (
    h.replies.replied,
    h.replies.kept,
    let own = λ (l : ScriptLine). l.session == s.caller.number in let made = h.replies.replies.made in
        let a = ap length h.replies.replies.printed ∙ (numbered_length 1 made.turns ∙ sym (calls_length names [] (lines_of s.caller.number lines) made.turns made.made.calls)) in
        omega (arith, a, length-filter own lines, count_by-le-length own lines),
  )

  -- A LINE OF NO SESSION HERE

  pub ran_none : (line : ScriptLine) (t : Worker D A C) → HaveRun w names lines t → All (λ s. s.caller.number ≢ line.session) t.sessions.items → HaveRun w names (lines ++ line ∷ []) t
  ran_none line t h none = record {
    room = h.room;
    apart = h.apart;
    answered = λ k d lt. answered_other w names lines line (get_or t.sessions.items k d) (λ e. none k d lt (sym e)) (h.answered k d lt);
    last = h.last;
    order = λ all.
        let long = length-append lines (line ∷ []) in
        let ours : IsOurs t.sessions.items line = subst (IsOurs t.sessions.items) (get_or_push lines line line (length lines) refl) (all (length lines) line (omega (arith, long))) in
        let d : Session D A C = item_of t.sessions.items ours.0 ours.1 in
        absurd (none ours.0 d ours.1 (ours.2 d));
  }

  -- A LINE OF A SESSION HERE

  module _ (line : ScriptLine) (t : Worker D A C) (met : List (Session D A C)) (place : ℕ) (before after : Session D A C)
      (h : HaveRun w names lines t) (inside : place < length t.sessions.items) (ours : (d : Session D A C) → (get_or t.sessions.items place d).caller.number ≡ line.session)
      (l : ChangesAt place (HasLearned w) t.sessions.items met) (here : before ≡ get_or met place before) where
    abbrev pub old : List (Session D A C)
    old = t.sessions.items

    abbrev pub now : List (Session D A C)
    now = set met place after

    within : place < length met
    within = let a = l.as_many in omega arith

    long : length now ≡ length old
    long = length-set met place after ∙ l.as_many

    learned_here : HasLearned w (get_or old place before) before
    learned_here = subst (HasLearned w (get_or old place before)) (sym here) (l.here before)

    pub answered_here : HasAnswered w names lines before
    answered_here = learned w names lines (get_or old place before) before learned_here (h.answered place before inside)

    module _ (number : after.caller.number ≡ before.caller.number) where
      same_number : (k : ℕ) (d : Session D A C) → (get_or now k d).caller.number ≡ (get_or old k d).caller.number
      same_number k d = elim (eqb_tells k place) [
        | inl a ↦ subst (λ j. (get_or now j d).caller.number ≡ (get_or old j d).caller.number) (sym a.1)
            (ap (λ s. s.caller.number) (get_or-set_same met place after d within) ∙ (number ∙ (learned_here.number ∙ ap (λ s. s.caller.number) (get_or_default old place before d inside))))
        | inr a ↦ ap (λ s. s.caller.number) (get_or-set_other met place k after d a.1 ∙ l.others k d a.1)
      ]

      pub same_numbers : numbers_of now ≡ numbers_of old
      same_numbers = map_same (λ s. s.caller.number) old now long (λ k d lt. same_number k d)

      -- what holds of the sessions beside, and of the one whose line was run, holds of all
      each : (P : Session D A C → Type 0) → P after → ((k : ℕ) (d : Session D A C) → k < length old → k ≢ place → P (get_or old k d)) → All P now
      each P p others k d lt = elim (eqb_tells k place) [
        | inl a ↦ subst (λ j. P (get_or now j d)) (sym a.1) (subst P (sym (get_or-set_same met place after d within)) p)
        | inr a ↦ subst P (sym (get_or-set_other met place k after d a.1 ∙ l.others k d a.1)) (others k d (let e = long in omega arith) a.1)
      ]

      pub same_form : after.replies.form ≡ before.replies.form → (form : ReplyForm) → HaveForm form old → HaveForm form now
      same_form same form had = each (λ s. s.replies.form ≡ form) (same ∙ (ap (λ r. r.form) learned_here.replies ∙ had place before inside)) (λ k d lt ne. had k d lt)

      beside : (k : ℕ) (d : Session D A C) → k < length old → k ≢ place → HasAnswered w names (lines ++ line ∷ []) (get_or old k d)
      beside k d lt ne = answered_other w names lines line (get_or old k d) (λ e. ne (h.apart k place d lt inside (sym e ∙ sym (ours d)))) (h.answered k d lt)

      ours_before : (x : ScriptLine) → IsOurs now x → IsOurs old x
      ours_before x o = (o.0, (let a = o.1 in let e = long in omega arith), λ d. sym (same_number o.0 d) ∙ o.2 d)

      seen_before : (o : Option ℕ) → HasSeen lines old o → IfSome o (λ last. (d : Session D A C) → StartsWith (entries_of (get_or met place d).caller.pass.me.0.seen) (entries_of (get_or old last d).caller.pass.me.0.seen)) →
          AreCalledIn lines (entries_of before.caller.pass.me.0.seen)
      seen_before None e starts = subst (λ ls. AreCalledIn ls (entries_of before.caller.pass.me.0.seen)) (sym e) tt
      seen_before (Some last) seen starts =
          subst (λ s. AreCalledIn lines (entries_of s.caller.pass.me.0.seen)) (sym here)
          (within_whole lines (entries_of (get_or met place before).caller.pass.me.0.seen) (entries_of (get_or old last before).caller.pass.me.0.seen) (starts before) (seen.1 before))

      module _ (starts : IfSome t.last (λ last. (d : Session D A C) → StartsWith (entries_of (get_or met place d).caller.pass.me.0.seen) (entries_of (get_or old last d).caller.pass.me.0.seen)))
          (u : Worker D A C) (items : u.sessions.items ≡ now) (last : u.last ≡ Some place) (room : 16448 ≤ length u.buffer.items) where
        ran_here : HasAnswered w names (lines ++ line ∷ []) after → GoesFurther line.session before.caller after.caller → HaveRun w names (lines ++ line ∷ []) u
        ran_here answered further = record {
          room = room;
          apart = subst AreApart (sym items) (λ i j d li lj e. h.apart i j d (let a = long in omega arith) (let a = long in omega arith) (sym (same_number i d) ∙ (e ∙ same_number j d)));
          answered = subst (All (HasAnswered w names (lines ++ line ∷ []))) (sym items) (each (HasAnswered w names (lines ++ line ∷ [])) answered beside);
          last = subst (λ o. IfSome o (λ k. k < length u.sessions.items)) (sym last) (let a = ap length items in let b = long in omega arith);
          order = λ all. subst (λ o. HasSeen (lines ++ line ∷ []) u.sessions.items o) (sym last)
              (subst (λ x. HasSeen (lines ++ line ∷ []) x (Some place)) (sym items) (
                (let b = long in omega arith),
                λ d. subst (λ s. AreCalledIn (lines ++ line ∷ []) (entries_of s.caller.pass.me.0.seen)) (sym (get_or-set_same met place after d within))
                    (within_more lines line (entries_of before.caller.pass.me.0.seen) further.before (entries_of after.caller.pass.me.0.seen) further.entry further.since further.seen further.by
                    (seen_before t.last (h.order (λ k d lt. let a = length-append lines (line ∷ []) in ours_before (get_or lines k d)
                    (subst (IsOurs now) (get_or_append_left lines (line ∷ []) d k lt) (subst (λ x. IsOurs x (get_or (lines ++ line ∷ []) k d)) items (all k d (omega (arith, a))))))) starts)),
              ));
        }

        stopped_here : HasMade w names lines after.caller ⊎ HasMade w names (lines ++ line ∷ []) after.caller → All (λ s. HasMade w names lines s.caller ⊎ HasMade w names (lines ++ line ∷ []) s.caller) u.sessions.items
        stopped_here made =
            let P = λ (s : Session D A C). HasMade w names lines s.caller ⊎ HasMade w names (lines ++ line ∷ []) s.caller in
            subst (All P) (sym items) (each P made (λ k d lt ne. inr (beside k d lt ne).replies.replies.made))

        pub ran_line : (r : Result (Unit {0}) Memory) → MatchResult r (λ done. HasAnswered w names (lines ++ line ∷ []) after) (λ full. HasMade w names lines after.caller ⊎ HasMade w names (lines ++ line ∷ []) after.caller) →
            IfOk r (λ done. GoesFurther line.session before.caller after.caller) →
            MatchResult r (λ done. HaveRun w names (lines ++ line ∷ []) u) (λ full. All (λ s. HasMade w names lines s.caller ⊎ HasMade w names (lines ++ line ∷ []) s.caller) u.sessions.items)
        ran_line (Ok done) answered further = ran_here answered further
        ran_line (Err full) made further = stopped_here made

-- AFTER SOME LINES OF A SCRIPT

module _ {D A C : Type 0} (w : World D A C) (names : Names) (lines : List ScriptLine) (i : ℕ) (line : ScriptLine) (lt : i < length lines) (is : line ≡ get_or lines i line) where
  one_more : take i lines ++ line ∷ [] ≡ take (i + 1) lines
  one_more = ap (λ l. take i lines ++ l ∷ []) is ∙ sym (take_more lines i line lt)

  pub ran_next : (t : Worker D A C) → HaveRun w names (take i lines ++ line ∷ []) t → HaveRun w names (take (i + 1) lines) t
  ran_next t h = subst (λ ls. HaveRun w names ls t) one_more h

  pub stopped : (before after : Worker D A C) → numbers_of after.sessions.items ≡ numbers_of before.sessions.items → ((form : ReplyForm) → HaveForm form before.sessions.items → HaveForm form after.sessions.items) →
      All (λ s. HasMade w names (take i lines) s.caller ⊎ HasMade w names (take i lines ++ line ∷ []) s.caller) after.sessions.items → after.whole ≡ false → HasWorked w names lines before after
  stopped before after numbers form made whole = record {
    numbers = numbers;
    forms = form;
    made = λ k d within. elim (made k d within) [
      | inl a ↦ (i, a)
      | inr b ↦ (i + 1, subst (λ ls. HasMade w names ls (get_or after.sessions.items k d).caller) one_more b)
    ];
    whole = λ e. absurd (both_ways after.whole whole e);
  }
