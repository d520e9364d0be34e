use Rattle.std.proofs.{Common.List, Common.arith, Common.length, Common.ℕ, lemmas.List.take_all}
use Rattle.disk_face.specs.Disk.{Grown}
use Rattle.store_bench.proofs.plain_disk.PlainDiskDisk.extend.Goals as goal

grown : (size : ℕ) (image : List ℕ) → Grown size image image
grown size image = record { front = take_all (length image) image (omega arith); no_longer = omega arith }

pub returns-in-Ok-clause-crash : goal.returns-in-Ok-clause-crash
returns-in-Ok-clause-crash c = λ image left. (image, tt, grown c.args.length image)

pub returns-in-Err-clause-crash : goal.returns-in-Err-clause-crash
returns-in-Err-clause-crash c = λ image left. (image, tt, grown c.args.length image)
