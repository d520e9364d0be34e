use Rattle.aead_streams.proofs.Common.{arith, increased}
use Rattle.aead_streams.proofs.counter_width.CounterWidth.next.Goals as goal

pub returns-in-Low32 : goal.returns-in-Low32
unfolding increased
returns-in-Low32 c = rw c.in-Low32.is (omega arith)
