use Rattle.std.proofs.Common.{Err, ap}
use Rattle.script_lang.specs.declared.faults.ScriptFault.TheVariants.{TooLong}
use Rattle.psa_command.proofs.Faults.{long_source, same_end, not_too_long, fault_told}
use Rattle.psa_command.proofs.reading.read_calls.Goals as goal

pub returns-in-Err-TooLong-clause-script : goal.returns-in-Err-TooLong-clause-script
returns-in-Err-TooLong-clause-script g c = λ f e.
    fault_told (g.S.Source.left c.args.source.now) TooLong f
    (long_source (g.S.Source.left c.args.source.now) (g.S.Source.left c.read_text.new.source) (c.in-Err-TooLong.ensures.long (ap Err c.in-Err-TooLong.field-0-is))) (same_end e)

pub returns-in_default-clause-long : goal.returns-in_default-clause-long
returns-in_default-clause-long g c = λ e.
    absurd (not_too_long c.in-Ok.text.items c.deref.result.now c.in-Err.fault c.in-Ok.ensures.text.0 c.deref.ensures.value c.in-Err.ensures.value (same_end e))
