-- The turns of the replay, and those that are told.
use Rattle.session_host.proofs.Common.{All, All-cons, Names, told, All-head, All-nil, All-tail, AreCalls, ArePrintedAlike, AreTurnsIn, Bool, Entry, IsTurnIn, List, ScriptLine, Service, StartsWith, ToldBy, Turn, World, [], ap, append-nil, append_assoc, arith, begins_through, cond, eqb, false, id_given, is_some, known_told, length, length-append, map, numbered, of_calls, outcome_of, ranked_call, refl, replay, subst, sym, told_front, true, turns_from, turns_of, two_beginnings, ℕ, ◌++◌, ◌+◌, ◌∙◌, ◌∷◌, ◌≡◌, ◌≤◌, IsStartOf}
use Rattle.std.proofs.{lemmas.Bool.false≢true, Common.⊎_elim}
use Rattle.store_core.proofs.Histories.{replay_push}

-- a turn of the replay: its reply is what is told of that to its entry there
record IsReplayed (names : Names) (start : Service) (h : List Entry) (t : Turn) : Type 0 where
  before : List Entry
  placed : StartsWith h (before ++ t.entry ∷ [])
  rank : t.rank ≡ length before
  reply : t.reply ≡ told names (outcome_of (replay start before) t.entry).reply

all_chosen : (P : Turn → Type 0) (b : Bool) (t : Turn) (ts : List Turn) → P t → All P ts → All P (cond b (t ∷ ts) ts)
all_chosen P true t ts p all = All-cons P t ts p all
all_chosen P false t ts p all = all

-- each turn of the replay of what is left of a history is such a one
all_replayed : (names : Names) (start : Service) (session n : ℕ) (before rest : List Entry) → n ≡ length before → All (IsReplayed names start (before ++ rest)) (turns_of session (turns_from names n (replay start before) rest))
all_replayed names start session n before [] is = All-nil (IsReplayed names start (before ++ []))
all_replayed names start session n before (e ∷ rest) is =
    let whole : before ++ e ∷ rest ≡ (before ++ e ∷ []) ++ rest = sym (append_assoc before (e ∷ []) rest) in
    let P = IsReplayed names start (before ++ e ∷ rest) in
    let later = subst (λ s. All P (turns_of session (turns_from names (n + 1) s rest))) (replay_push start before e)
    (subst (λ h. All (IsReplayed names start h) (turns_of session (turns_from names (n + 1) (replay start (before ++ e ∷ [])) rest))) (sym whole)
    (all_replayed names start session (n + 1) (before ++ e ∷ []) rest (let l = length-append before (e ∷ []) in omega (arith, l, is)))) in
    all_chosen P (eqb e.caller session) (record { entry = e; rank = n; reply = told names (outcome_of (replay start before) e).reply }) _
    (record { before = before; placed = (rest, whole); rank = is; reply = refl }) later

-- and they stand where the session's calls do
place_chosen : (b : Bool) (t : Turn) (ts : List Turn) (ps : List (ℕ × Entry)) → map ranked_call ts ≡ ps → map ranked_call (cond b (t ∷ ts) ts) ≡ cond b ((t.rank, t.entry) ∷ ps) ps
place_chosen true t ts ps is = ap (λ l. (t.rank, t.entry) ∷ l) is
place_chosen false t ts ps is = is

replayed_places : (names : Names) (session n : ℕ) (service : Service) (h : List Entry) → map ranked_call (turns_of session (turns_from names n service h)) ≡ of_calls (λ rank e. (rank, e)) session n h
replayed_places names session n service [] = refl
replayed_places names session n service (e ∷ h) =
    let next : Service = (outcome_of service e).service in
    place_chosen (eqb e.caller session) (record { entry = e; rank = n; reply = told names (outcome_of service e).reply }) (turns_of session (turns_from names (n + 1) next h)) (of_calls (λ rank e. (rank, e)) session (n + 1) h)
    (replayed_places names session (n + 1) next h)

same_length : {A : Type 0} (xs ys : List A) → StartsWith ys xs → length ys ≤ length xs → ys ≡ xs
same_length xs ys s le = by s.0 s.1
  where
    by : (more : List _) → ys ≡ xs ++ more → ys ≡ xs
    by [] e = e ∙ append-nil xs
    by (x ∷ more) e = let a = ap length e in let b = length-append xs (x ∷ more) in absurd (omega (arith, a, b, le))

module _ {D A C : Type 0} (w : World D A C) (names : Names) (start : Service) (is : IsStartOf w start) (history : List Entry) (known : ToldBy w start history) (tells : is_some (w.devices.keys w.opened.devices.value) ≡ true) where
  alike : (t u : Turn) → t.rank ≡ u.rank → t.entry ≡ u.entry → IsTurnIn w names history t → IsReplayed names start history u → ArePrintedAlike t.reply u.reply
  alike t u rank entry mine theirs =
      let long : length mine.before ≡ length theirs.before = sym mine.rank ∙ (rank ∙ theirs.rank) in
      let front = λ (b : List Entry) (e : Entry) (s : StartsWith history (b ++ e ∷ [])). begins_through history (b ++ e ∷ []) b s (e ∷ [], refl) in
      let same : mine.before ≡ theirs.before = same_length theirs.before mine.before
      (two_beginnings history theirs.before mine.before (front theirs.before u.entry theirs.placed) (front mine.before t.entry mine.placed) (omega (arith, long))) (omega (arith, long)) in
      let first = told_front (w.disk.contents w.opened.file.value.cells.disk) start history (mine.before ++ t.entry ∷ []) mine.placed known in
      let reply = known_told mine.reply.replied start is first in
      let own : ArePrintedAlike t.reply (told names (outcome_of (replay start mine.before) t.entry).reply) =
      ⊎_elim (λ (same : reply.0 ≡ _). subst (λ r. ArePrintedAlike t.reply (told names r)) same reply.2) (λ silent. absurd (false≢true (sym silent.0 ∙ tells))) reply.1 in
      let theirs_is : told names (outcome_of (replay start mine.before) t.entry).reply ≡ u.reply = (λ i. told names (outcome_of (replay start (same i)) (entry i)).reply) ∙ sym theirs.reply in
      subst (ArePrintedAlike t.reply) theirs_is own

  -- so are turns that stand in the same places
  printed_alike : (n : ℕ) (ts us : List Turn) → map ranked_call ts ≡ map ranked_call us → All (IsTurnIn w names history) ts → All (IsReplayed names start history) us → numbered n ts ≡ numbered n us
  printed_alike n [] [] same mine theirs = refl
  printed_alike n [] (u ∷ us) same mine theirs = cc
  printed_alike n (t ∷ ts) [] same mine theirs = cc
  printed_alike n (t ∷ ts) (u ∷ us) same mine theirs =
      let first : (t.rank, t.entry) ≡ (u.rank, u.entry) = cc in
      let rank : t.rank ≡ u.rank = ap (λ (p : ℕ × Entry). p.0) first in let entry : t.entry ≡ u.entry = ap (λ (p : ℕ × Entry). p.1) first in
      let a = alike t u rank entry (All-head (IsTurnIn w names history) t ts mine) (All-head (IsReplayed names start history) u us theirs) in
      let rest = printed_alike (n + 1) ts us (let r : map ranked_call ts ≡ map ranked_call us = cc in r) (All-tail (IsTurnIn w names history) t ts mine) (All-tail (IsReplayed names start history) u us theirs) in
      λ i. record { session = (entry i).caller; number = n; rank = rank i; status = a.status i; bytes = a.bytes i } ∷ rest i

  calls_alike : (ids : List ℕ) (lines : List ScriptLine) (ts us : List Turn) → map ranked_call ts ≡ map ranked_call us → All (IsTurnIn w names history) ts → All (IsReplayed names start history) us →
      AreCalls names ids lines ts → AreCalls names ids lines us
  calls_alike ids [] [] [] same mine theirs calls = tt
  calls_alike ids [] [] (u ∷ us) same mine theirs calls = cc
  calls_alike ids [] (t ∷ ts) us same mine theirs calls = absurd calls
  calls_alike ids (l ∷ lines) [] us same mine theirs calls = absurd calls
  calls_alike ids (l ∷ lines) (t ∷ ts) [] same mine theirs calls = cc
  calls_alike ids (l ∷ lines) (t ∷ ts) (u ∷ us) same mine theirs calls =
      let first : (t.rank, t.entry) ≡ (u.rank, u.entry) = cc in
      let rank : t.rank ≡ u.rank = ap (λ (p : ℕ × Entry). p.0) first in let entry : t.entry ≡ u.entry = ap (λ (p : ℕ × Entry). p.1) first in
      let a = alike t u rank entry (All-head (IsTurnIn w names history) t ts mine) (All-head (IsReplayed names start history) u us theirs) in
      let rest : map ranked_call ts ≡ map ranked_call us = cc in (
        ap (λ (e : Entry). e.caller) (sym entry) ∙ calls.0,
        ap (λ (e : Entry). e.call) (sym entry) ∙ calls.1,
        calls_alike (ids ++ id_given u.reply.output ∷ []) lines ts us rest (All-tail (IsTurnIn w names history) t ts mine) (All-tail (IsReplayed names start history) u us theirs)
            (subst (λ id. AreCalls names (ids ++ id ∷ []) lines ts) a.id calls.2),
      )

  pub replayed : (session : ℕ) (lines : List ScriptLine) (turns : List Turn) → AreTurnsIn w names history session lines turns →
      AreCalls names [] lines (turns_of session (turns_from names 0 start history)) × (numbered 1 turns ≡ numbered 1 (turns_of session (turns_from names 0 start history)))
  replayed session lines turns are =
      let us : List Turn = turns_of session (turns_from names 0 start history) in
      let same : map ranked_call turns ≡ map ranked_call us = are.placed ∙ sym (replayed_places names session 0 start history) in
      let theirs = all_replayed names start session 0 [] history refl in
      (calls_alike [] lines turns us same are.each theirs are.calls, printed_alike 1 turns us same are.each theirs)
