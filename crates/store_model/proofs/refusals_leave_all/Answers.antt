use Rattle.store_model.proofs.LeftAll.{leaves_all, leaves_buffers, unready_stay, setups_stay}
use Rattle.store_model.proofs.refusals_leave_all.Goals as goal

pub returns : goal.returns
returns c = record { refusals = leaves_all; buffers = leaves_buffers; unready = unready_stay; setups = setups_stay }
