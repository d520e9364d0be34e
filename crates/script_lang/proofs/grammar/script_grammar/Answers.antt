use Rattle.script_lang.proofs.{Again.script_again, Again.fault_again, Ends.failure_is, Ends.read_is, Meant.script_ends}
use Rattle.script_lang.proofs.grammar.script_grammar.Goals as goal

pub returns : goal.returns
returns c = record {
  said = λ text. read_is (script_ends text);
  said_again = script_again;
  fault = λ text. failure_is (script_ends text);
  fault_again = fault_again;
}
