use Rattle.std.proofs.Common.{arith, refl}
use Rattle.store_bench.proofs.file_turns.one_byte_key.Goals as goal

pub returns : goal.returns
returns c = λ byte. record {
  kept = record {
    lifetime = refl;
    size = refl;
    some = omega arith;
    short = omega arith;
    usage = refl;
    fits = record { key_type = omega arith; usage = omega arith; alg = omega arith; alg2 = omega arith };
  };
  named = (c.requires.some, c.requires.persistent);
}
