-- The lines of a script, one at a time.
use Rattle.std.proofs.Common.{List, Ok, Result, [], ap, subst, sym, ℕ, ◌+◌, ◌∙◌, ◌∷◌, ◌≡◌}
use Rattle.script_lang.proofs.Common.{Fails, LineError, Read, Reason, ScriptFails, ScriptFault, Said, fault_at, or_bad_line, line_words, lines_at, said_by, words_at}
use Rattle.script_lang.specs.declared.faults.LineError.TheVariants as errors

pub lines_turn : (n : ℕ) (read next : Read) (texts : List (List ℕ)) (text : List ℕ) (rest : List (List ℕ)) →
    texts ≡ text ∷ rest → words_at read (line_words text) ≡ Ok next → lines_at n read texts ≡ lines_at (n + 1) next rest
unfolding lines_at
lines_turn n read next texts text rest e h = ap (lines_at n read) e ∙ ap (λ r. or_bad_line r n (λ next. lines_at (n + 1) next rest)) h

pub lines_end : (n : ℕ) (read : Read) (texts : List (List ℕ)) → texts ≡ [] → lines_at n read texts ≡ Ok (said_by read)
unfolding lines_at
lines_end n read texts e = ap (lines_at n read) e

fault_first : (e : LineError) (n : ℕ) (r : Result Read Reason) (f : Read → Result Said ScriptFault) → Fails e r → ScriptFails (fault_at n e) (or_bad_line r n f)
fault_first errors.Memory n r f h = tt
fault_first (errors.Bad x) n r f h = ap (λ s. or_bad_line s n f) h

pub lines_fail : (e : LineError) (n : ℕ) (read : Read) (texts : List (List ℕ)) (text : List ℕ) (rest : List (List ℕ)) →
    texts ≡ text ∷ rest → Fails e (words_at read (line_words text)) → ScriptFails (fault_at n e) (lines_at n read texts)
unfolding lines_at
lines_fail e n read texts text rest is h =
    subst (λ ts. ScriptFails (fault_at n e) (lines_at n read ts)) (sym is) (fault_first e n (words_at read (line_words text)) (λ next. lines_at (n + 1) next rest) h)
