use Rattle.std.proofs.Common.{length}
use Rattle.stream_adapters.proofs.Images.{torn}
use Rattle.stream_adapters.proofs.adapters.FileDiskDisk.write_at.Goals as goal

pub returns-clause-crash : goal.returns-clause-crash
returns-clause-crash c = torn c.args.place (length c.args.bytes.now)
