-- From what callers know, and from what a closed service says, to the one order of a script's calls.
use Rattle.session_host.proofs.Common.{Names, All, All-head, All-nil, All-tail, AreCalledIn, AreTurnsIn, Caller, Entry, HasMade, HaveAnswered, HaveSeen, IsInLineOrder, IsOfSession, IsTurnIn, List, ReplyLine, ScriptLine, Service, StartsWith, Turn, World, [], all_replies, ap, append-nil, append_assoc, arith, caller_of, calls_by, choose, cond, entries_of, eqb, eqb_tells, failure_marked, failure_of, failure_told, failures_of, failures_to, false, flat_map, get_or, get_or_default, inl, inr, leb_tells, length, length-map, lines_of, map, map-append, ne_eqb, numbered, ranked_call, refl, replies_to, subst, suc, sym, take, zero, ℕ, ◌++◌, ◌+◌, ◌-◌, ◌<◌, ◌∙◌, ◌∷◌, ◌≡◌, ◌≤◌, ◌⊎◌, IsStartOf}
use Rattle.session_host.proofs.{History.calls_length, Places.as_many, Places.map_of_calls, Order.in_line_order, Order.within_whole, Told.no_turns, Told.own_calls, Told.turns_later}

-- SESSIONS THAT THERE ARE, AND OTHERS

IsOther : ℕ → Type 0
IsOther session = (session ≡ 0) ⊎ (16 < session)

which : (session : ℕ) → ((1 ≤ session) × (session ≤ 16)) ⊎ IsOther session
unfolding IsOther
which session = elim (leb_tells session 16) [
  | inl low ↦ elim (eqb_tells session 0) [
    | inl none ↦ inr (inl none.1)
    | inr some ↦ inl (let ne = some.1 in omega arith, low.1)
  ]
  | inr high ↦ inr (inr high.1)
]

apart : (session number : ℕ) → IsOther session → 1 ≤ number → number ≤ 16 → eqb number session ≡ false
unfolding IsOther
apart session number (inl none) low high = ne_eqb number session (λ same. absurd (omega arith))
apart session number (inr above) low high = ne_eqb number session (λ same. absurd (omega arith))

no_lines : (session : ℕ) (lines : List ScriptLine) → IsOther session → All IsOfSession lines → lines_of session lines ≡ []
no_lines session [] other all = refl
no_lines session (line ∷ lines) other all =
    let own : IsOfSession line = All-head IsOfSession line lines all in
    ap (λ b. cond b (line ∷ lines_of session lines) (lines_of session lines)) (apart session line.session other own.0 own.1)
    ∙ no_lines session lines other (All-tail IsOfSession line lines all)

abbrev IsSigned : Entry → Type 0
IsSigned e = (0 < e.caller) × (e.caller ≤ 16)

no_entries : (session : ℕ) (history : List Entry) → IsOther session → All IsSigned history → calls_by caller_of session history ≡ []
no_entries session [] other all = refl
no_entries session (e ∷ history) other all =
    let own : IsSigned e = All-head IsSigned e history all in
    ap (λ b. choose b e (calls_by caller_of session history)) (apart session e.caller other (let l = own.0 in omega arith) own.1)
    ∙ no_entries session history other (All-tail IsSigned e history all)

-- WHAT STANDS BY SESSION

-- lists by session, one behind the other, where `upto n` is that of the first n sessions
by_session : {X Y : Type 0} (own : X → List Y) (of : ℕ → List Y) (upto : ℕ → List Y) → ((n : ℕ) → upto (suc n) ≡ upto n ++ of (suc n)) → (n : ℕ) (xs : List X) →
    ((i : ℕ) (x : X) → i < length xs → own (get_or xs i x) ≡ of (n + i + 1)) →
    upto n ++ flat_map own xs ≡ upto (n + length xs)
by_session {X} own of upto one n [] h =
    let m : n ≡ n + length {A = X} [] = omega arith in
    append-nil (upto n) ∙ ap upto m
by_session own of upto one n (x ∷ xs) h =
    let here : n + 0 + 1 ≡ suc n = omega arith in
    let first : own x ≡ of (suc n) = h 0 x (omega arith) ∙ ap of here in
    let all : suc n + length xs ≡ n + length (x ∷ xs) = omega arith in
    sym (append_assoc (upto n) (own x) (flat_map own xs))
    ∙ ap (λ l. (upto n ++ l) ++ flat_map own xs) first
    ∙ ap (λ l. l ++ flat_map own xs) (sym (one n))
    ∙ by_session own of upto one (suc n) xs (λ i y below. h (suc i) y (omega (arith, below)) ∙ ap of (let e : n + suc i + 1 ≡ suc n + i + 1 = omega arith in e))
    ∙ ap upto all

-- the failures of which a session's reply lines tell
lines_tell : (n : ℕ) (turns : List Turn) → map failure_of (numbered n turns) ≡ map (λ t. failure_told t.reply.status) turns
lines_tell n [] = refl
lines_tell n (t ∷ turns) = ap (λ fs. failure_told t.reply.status ∷ fs) (lines_tell (n + 1) turns)

module _ {D A C : Type 0} (w : World D A C) (names : Names) (start : Service) (is : IsStartOf w start) (history : List Entry) where
  turns_tell : (turns : List Turn) → All (IsTurnIn w names history) turns → map (λ t. failure_told t.reply.status) turns ≡ map (λ t. failure_marked t.entry.mark) turns
  turns_tell [] all = refl
  turns_tell (t ∷ turns) all = λ i. (All-head (IsTurnIn w names history) t turns all).reply.failure start is i ∷ turns_tell turns (All-tail (IsTurnIn w names history) t turns all) i

  map_again : {X Y Z : Type 0} (f : Y → Z) (g : X → Y) (xs : List X) → map (λ x. f (g x)) xs ≡ map f (map g xs)
  map_again f g [] = refl
  map_again f g (x ∷ xs) = ap (λ l. f (g x) ∷ l) (map_again f g xs)

  session_tells : (session : ℕ) (lines : List ScriptLine) (turns : List Turn) → AreTurnsIn w names history session lines turns → map failure_of (numbered 1 turns) ≡ failures_of session history
  session_tells session lines turns are =
      lines_tell 1 turns
      ∙ (turns_tell turns are.each
      ∙ (map_again (λ (p : ℕ × Entry). failure_marked p.1.mark) ranked_call turns
      ∙ (ap (map (λ (p : ℕ × Entry). failure_marked p.1.mark)) are.placed
      ∙ map_of_calls (λ (p : ℕ × Entry). failure_marked p.1.mark) (λ rank e. (rank, e)) session 0 history)))

  -- reply lines tell of the failures that the history's marks are of
  pub replies_tell : (lines : ℕ → List ScriptLine) (turns : ℕ → List Turn) → ((session : ℕ) → AreTurnsIn w names history session (lines session) (turns session)) → (n : ℕ) →
      map failure_of (replies_to n turns) ≡ failures_to n history
  replies_tell lines turns are zero = refl
  replies_tell lines turns are (suc n) =
      map-append failure_of (replies_to n turns) (numbered 1 (turns (suc n)))
      ∙ (λ i. replies_tell lines turns are n i ++ session_tells (suc n) (lines (suc n)) (turns (suc n)) (are (suc n)) i)

-- THE ONE ORDER

module _ {D A C : Type 0} (w : World D A C) (names : Names) (lines : List ScriptLine) (callers : List (Caller D A C)) (history : List Entry)
    (sixteen : length callers ≡ 16)
    (numbers : (k : ℕ) (d : Caller D A C) → k < 16 → (get_or callers k d).number ≡ k + 1)
    (sessions : All IsOfSession lines)
    (signed : All IsSigned history)
    (seen : All (λ (c : Caller D A C). StartsWith history (entries_of c.pass.me.0.seen)) callers)
    (called : All (λ (c : Caller D A C). calls_by caller_of c.pass.me.0.number history ≡ c.pass.me.0.calls) callers) where
  -- a caller's entries in the history are those that it has seen
  same_calls : (ran : List ScriptLine) (k : ℕ) (d : Caller D A C) → k < 16 → HasMade w names ran (get_or callers k d) →
      calls_by caller_of (get_or callers k d).number history ≡ calls_by caller_of (get_or callers k d).number (entries_of (get_or callers k d).pass.me.0.seen)
  same_calls ran k d within made =
      let c : Caller D A C = get_or callers k d in
      let there : calls_by caller_of c.pass.me.0.number history ≡ c.pass.me.0.calls = called k d (omega (arith, within, sixteen)) in
      subst (λ n. calls_by caller_of n history ≡ c.pass.me.0.calls) made.ready.number there ∙ sym (own_calls w names c made.ready)

  -- a caller's turns are its session's in the history
  by_caller : (session : ℕ) (ran : List ScriptLine) (k : ℕ) (d : Caller D A C) → k < 16 → k + 1 ≡ session → (m : HasMade w names ran (get_or callers k d)) → AreTurnsIn w names history session (lines_of session ran) m.turns
  by_caller session ran k d within is m =
      let c : Caller D A C = get_or callers k d in
      subst (λ s. AreTurnsIn w names history s (lines_of s ran) m.turns) (numbers k d within ∙ is)
      (turns_later w names c.number history (entries_of c.pass.me.0.seen) (lines_of c.number ran) m.turns (seen k d (omega (arith, within, sixteen))) (same_calls ran k d within m) m.made)

  by_none : (session : ℕ) (ran : List ScriptLine) → IsOther session → All IsOfSession ran → AreTurnsIn w names history session (lines_of session ran) []
  by_none session ran other all =
      subst (λ ls. AreTurnsIn w names history session ls []) (sym (no_lines session ran other all))
      (turns_later w names session history [] [] [] (history, refl) (no_entries session history other signed) (no_turns w names session))

  -- each session's calls are those of the first so many lines
  pub first_calls : ((k : ℕ) (d : Caller D A C) → k < 16 → (n : ℕ) × HasMade w names (take n lines) (get_or callers k d)) → (d : Caller D A C) → (session : ℕ) →
      (n : ℕ) × (turns : List Turn) × AreTurnsIn w names history session (lines_of session (take n lines)) turns
  first_calls made d session = elim (which session) [
    | inl own ↦
        let k : ℕ = session - 1 in let within : k < 16 = omega (arith, own.0, own.1) in let m = made k d within in
        (m.0, m.1.turns, by_caller session (take m.0 lines) k d within (let l = own.0 in omega arith) m.1)
    | inr other ↦ (0, [], by_none session [] other (All-nil IsOfSession))
  ]

  -- where all lines were run, a session's turns, and the reply lines that are printed of them
  pub record HasTurns (told : List (List ReplyLine)) (session : ℕ) : Type 0 where
    pub turns : List Turn
    pub own : AreTurnsIn w names history session (lines_of session lines) turns
    pub printed : (k : ℕ) (r : List ReplyLine) → k < 16 → k + 1 ≡ session → get_or told k r ≡ numbered 1 turns

  pub turns_of_session : (told : List (List ReplyLine)) (d : Caller D A C) (r : List ReplyLine) → HaveAnswered w names lines callers told → (session : ℕ) → HasTurns told session
  unfolding IsOther
  turns_of_session told d r h session = elim (which session) [
    | inl own ↦
        let k : ℕ = session - 1 in let within : k < 16 = omega (arith, own.0, own.1) in let is : k + 1 ≡ session = (let l = own.0 in omega arith) in
        let replied = h.replied k d r within in record {
          turns = replied.made.turns;
          own = by_caller session lines k d within is replied.made;
          printed = λ j s below same.
              let at : j ≡ k = omega (arith, is, same) in
              subst (λ i. get_or told i s ≡ numbered 1 replied.made.turns) (sym at)
              (sym (get_or_default told k r s (let n = h.sixteen in omega (arith, within))) ∙ replied.printed);
        }
    | inr other ↦ record {
      turns = [];
      own = by_none session lines other sessions;
      printed = λ k r below same. absurd (outside session other k below same);
    }
  ]
    where
      outside : (session : ℕ) → IsOther session → (k : ℕ) → k < 16 → k + 1 ≡ session → ⊥
      outside session (inl none) k below same = absurd (omega (arith, none, same))
      outside session (inr above) k below same = absurd (omega (arith, below, same, above))

  module _ (told : List (List ReplyLine)) (d : Caller D A C) (r : List ReplyLine) (h : HaveAnswered w names lines callers told) where
    abbrev pub turns : (session : ℕ) → List Turn
    turns session = (turns_of_session told d r h session).turns

    pub own_turns : (session : ℕ) → AreTurnsIn w names history session (lines_of session lines) (turns session)
    own_turns session = (turns_of_session told d r h session).own

    -- these are the replies of the one order
    pub replies_are : all_replies told ≡ replies_to 16 turns
    replies_are =
        by_session (λ (x : List ReplyLine). x) (λ n. numbered 1 (turns n)) (λ n. replies_to n turns) (λ n. refl) 0 told (λ i x below.
        let within : i < 16 = omega (arith, below, h.sixteen) in
        (turns_of_session told d r h (0 + i + 1)).printed i x within (let e : i + 1 ≡ 0 + i + 1 = omega arith in e))
        ∙ ap (λ n. replies_to n turns) (let e : 0 + length told ≡ 16 = omega (arith, h.sixteen) in e)

    pub counts_agree : (n : ℕ) → length (lines_of n lines) ≡ length (calls_by caller_of n history)
    counts_agree n =
        let own = own_turns n in
        calls_length names [] (lines_of n lines) (turns n) own.calls
        ∙ (sym (length-map (turns n) ranked_call)
        ∙ (ap length own.placed ∙ as_many (λ rank e. (rank, e)) n 0 history))

    -- one worker makes the calls in the order of the lines
    pub line_order : HaveSeen lines callers → IsInLineOrder lines history
    line_order (inl none) = in_line_order lines history (subst (λ ls. AreCalledIn ls history) (sym none) tt) counts_agree
    line_order (inr there) =
        in_line_order lines history (within_whole lines history (entries_of (get_or callers there.0 d).pass.me.0.seen) (seen there.0 d there.1) (there.2 d)) counts_agree
