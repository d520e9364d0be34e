use Rattle.psa_names.proofs.Digits.{IsReadSoFar}
use Rattle.psa_names.proofs.numbers.number_of.Given as goal

abbrev pub invariant-loop-c : goal.invariant-loop-c
invariant-loop-c l = IsReadSoFar l.base l.c-index l.value l.text
