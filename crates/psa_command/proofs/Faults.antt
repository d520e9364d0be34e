-- Why the calls of a script can't be read.
use Rattle.std.proofs.Common.{Bool, Err, IfSome, List, None, Ok, Option, Result, Some, [], ap, arith, cond, false, length, length-append, nat_lt, refl, subst, sym, true, ℕ, ◌+◌, ◌<◌, ◌∙◌, ◌∷◌, ◌≡◌, ◌≤◌}
use Rattle.std.proofs.lemmas.Option.{IfSome_then}
use Rattle.psa_command.proofs.Common.{Consumes, Exit, Read, Script, ScriptFails, ScriptFault, Said, or_bad_line, line_words, lines_at, nat_tests, nothing_read, script_of, text_lines, words_at}
use Rattle.script_lang.specs.declared.faults.Reason.{Reason}
use Rattle.script_lang.specs.declared.faults.ScriptFault.TheVariants as faults

pub too_long : (text : List ℕ) → 4194304 < length text → script_of text ≡ Err faults.TooLong
unfolding script_of
too_long text h = let t : nat_lt 4194304 (length text) ≡ true = grind (arith, nat_tests) in rw t refl

-- a source of more than 4 MiB
pub long_source : (old new : Option (List ℕ)) → ((bytes : List ℕ) × (length bytes ≡ 4194305) × Consumes old new bytes) → IfSome old (λ text. script_of text ≡ Err faults.TooLong)
long_source None new h = tt
long_source (Some text) None h = absurd h.2
long_source (Some text) (Some rest) h = too_long text (omega (arith, h.1, ap length h.2, length-append h.0 rest))

-- a text within 4 MiB isn't refused as too long

abbrev too_long_read : Result Said ScriptFault
too_long_read = Err faults.TooLong

goes_not : (r : Result Read Reason) (n : ℕ) (f : Read → Result Said ScriptFault) → ((next : Read) → f next ≡ too_long_read → ⊥) → or_bad_line r n f ≡ too_long_read → ⊥
goes_not (Ok next) n f h e = h next e
goes_not (Err r) n f h e = cc

no_line_is : (n : ℕ) (read : Read) (texts : List (List ℕ)) → lines_at n read texts ≡ too_long_read → ⊥
unfolding lines_at
no_line_is n read [] e = cc
no_line_is n read (text ∷ texts) e = goes_not (words_at read (line_words text)) n (λ next. lines_at (n + 1) next texts) (λ next. no_line_is (n + 1) next texts) e

short_turn : (text : List ℕ) (b d : Bool) → nat_lt 4194304 (length text) ≡ b → length text ≤ 4194304 →
    cond b (Err faults.TooLong) (cond d (Err faults.TooManyLines) (lines_at 1 nothing_read (text_lines text))) ≡ too_long_read → ⊥
short_turn text true d t short e = grind (arith, nat_tests)
short_turn text false true t short e = cc
short_turn text false false t short e = no_line_is 1 nothing_read (text_lines text) e

pub short_enough : (text : List ℕ) → length text ≤ 4194304 → script_of text ≡ Err faults.TooLong → ⊥
unfolding script_of
short_enough text short e = short_turn text (nat_lt 4194304 (length text)) (nat_lt 20000 (length (text_lines text))) refl short e

-- the source's text isn't a script

same_fault : (f g : ScriptFault) → Script f ≡ Script g → f ≡ g
same_fault f g e = cc

-- of two failed readings that are the same the ends are the same
pub same_end : {T : Type 0} {e f : Exit} → ◌≡◌ {A = Result T Exit} (Err e) (Err f) → e ≡ f
same_end h = cc

pub not_too_long : (text read : List ℕ) (fault : ScriptFault) → length text ≤ 4194304 → read ≡ text → ScriptFails fault (script_of read) → Script fault ≡ Script faults.TooLong → ⊥
not_too_long text read fault short same fails e =
    short_enough read (subst (λ t. length t ≤ 4194304) (sym same) short) (subst (λ f. ScriptFails f (script_of read)) (same_fault fault faults.TooLong e) fails)

pub fault_told : (old : Option (List ℕ)) (f g : ScriptFault) → IfSome old (λ text. script_of text ≡ Err f) → Script f ≡ Script g → IfSome old (λ text. script_of text ≡ Err g)
fault_told old f g h e = IfSome_then old h (λ text k. k ∙ ap Err (same_fault f g e))
