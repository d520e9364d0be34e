use Rattle.aead_streams.proofs.{Common.arith, Common.refl, StreamPlaces.started}
use Rattle.aead_streams.proofs.key_stream.KeyStream.new.Goals as goal

pub returns : goal.returns
returns c = λ e. started _ e c.args.width c.args.start refl refl (omega arith) refl
