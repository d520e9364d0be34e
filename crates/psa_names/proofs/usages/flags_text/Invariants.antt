use Rattle.std.proofs.Common.{take}
use Rattle.psa_names.proofs.Joined.{IsJoined, texts_in}
use Rattle.psa_names.proofs.usages.flags_text.Given as goal

abbrev pub invariant-loop-name : goal.invariant-loop-name
invariant-loop-name l = IsJoined l.out.items l.is_first (texts_in l.usage (take l.name-index l.names))
