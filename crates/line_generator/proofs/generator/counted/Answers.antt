use Rattle.std.proofs.Common.{refl, rules, ◌%◌, ◌+◌}
use Rattle.line_generator.proofs.Ranges.{mapped_more}
use Rattle.line_generator.proofs.generator.counted.Goals as goal

pub loop-t-preserved : goal.loop-t-preserved
loop-t-preserved c =
    mapped_more (λ t. (c.args.first + t) % 256) c.loop-t.t c.loop-t.bytes.items _ ((c.args.first + c.loop-t.t) % 256) c.loop-t.invariant refl (search rules)
