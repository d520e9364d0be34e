use Rattle.std.proofs.Common.{arith}
use Rattle.memchr.specs.Find.{is_byte}
use Rattle.script_lang.proofs.Near.{found, nowhere}
use Rattle.script_lang.proofs.pieces.near_place.Goals as goal

pub returns-in-Some : goal.returns-in-Some
returns-in-Some c = found (is_byte c.args.byte) c.args.text.now c.min-near.result (omega arith) (λ k low high. c.loop-place.invariant k low (omega arith)) c.in-Some.place c.in-Some.ensures

pub returns-in-None : goal.returns-in-None
returns-in-None c = nowhere (is_byte c.args.byte) c.args.text.now c.min-near.result (omega arith) (λ k low high. c.loop-place.invariant k low (omega arith)) c.in-None.ensures
