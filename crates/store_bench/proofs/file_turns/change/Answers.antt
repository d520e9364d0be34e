use Rattle.store_bench.proofs.file_turns.change.Goals as goal

pub create-requires-clause-key : goal.create-requires-clause-key
create-requires-clause-key c = c.one_byte_key-key.ensures 0xa5
