use Rattle.stream_adapters.proofs.Images.{grown}
use Rattle.stream_adapters.proofs.adapters.FileDiskDisk.extend.Goals as goal

pub returns-in_err-counted-clause-crash : goal.returns-in_err-counted-clause-crash
returns-in_err-counted-clause-crash c = grown c.args.length

pub returns-clause-crash : goal.returns-clause-crash
returns-clause-crash c = grown c.args.length
