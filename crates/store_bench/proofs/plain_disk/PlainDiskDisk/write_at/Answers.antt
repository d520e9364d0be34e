use Rattle.std.proofs.Common.{refl}
use Rattle.store_bench.proofs.plain_disk.PlainDiskDisk.write_at.Goals as goal

pub returns-clause-crash : goal.returns-clause-crash
returns-clause-crash c = λ image left. (image, tt, record { front = refl; back = refl; same_length = refl })
