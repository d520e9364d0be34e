-- The command that matches ask for, as their getters tell it.
use Rattle.command_words.proofs.Common.{Generate, Label, Row, Text, asked_of, first_value, first_value-rows, none-some, number_to, rows_of, same_Some, subcommand_name_of, subcommand_rows_of, List, None, Option, Some, ap, ap₂, codes, option_and_then, option_map, sym, ◌∙◌, ◌≡◌}
use Rattle.clap.specs.{declared.parser.matches.ArgMatches.ArgMatches, declared.parser.matches.Found.Found}

-- the subcommand that was met, by its name and its rows
pub record Met (matches : ArgMatches) (name : Text) (rows : List Row) : Type 0 where
  pub named : Some name ≡ subcommand_name_of matches
  pub kept : Some rows ≡ option_map (λ p. p.1) (subcommand_rows_of matches)

abbrev pair_of : {X : Type 0} → (X → Text) → (X → List Row) → Option X → Option (Text × List Row)
pair_of named found = option_map (λ x. (named x, found x))

both : {X : Type 0} (named : X → Text) (found : X → List Row) (met : Option X) (name : Text) (rows : List Row) → Some name ≡ option_map named met →
    Some rows ≡ option_map (λ p. p.1) (pair_of named found met) → pair_of named found met ≡ Some (name, rows)
both named found None name rows e f = absurd (none-some name (sym e))
both named found (Some x) name rows e f = ap₂ (λ n r. Some (n, r)) (sym (same_Some name (named x) e)) (sym (same_Some rows (found x) f))

subcommand_is : (matches : ArgMatches) (name : Text) (rows : List Row) → Met matches name rows → subcommand_rows_of matches ≡ Some (name, rows)
subcommand_is matches name rows met = both _ _ _ name rows met.named met.kept

pub asks : (given : List Label) (matches : ArgMatches) (known name : Text) (rows : List Row) → Met matches name rows → name ≡ known →
    asked_of given (Some (known, rows)) ≡ asked_of given (subcommand_rows_of matches)
asks given matches known name rows met is = ap (λ n. asked_of given (Some (n, rows))) (sym is) ∙ sym (ap (asked_of given) (subcommand_is matches name rows met))

pub asks_count : (given : List Label) (found : Found) (text : Option Text) → text ≡ first_value found (codes "count") →
    option_map (λ count. Generate count) (option_and_then (number_to 20000) text) ≡ asked_of given (Some (codes "generate", rows_of found))
asks_count given found text e = ap (λ t. option_map (λ count. Generate count) (option_and_then (number_to 20000) t)) (e ∙ first_value-rows found (codes "count"))
