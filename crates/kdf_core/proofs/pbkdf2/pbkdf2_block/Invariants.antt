use Rattle.kdf_core.proofs.{Common.block_length, Common.drop, Common.hash_of, Common.length, Common.pbkdf2_block, Common.replicate, Common.take, Common.◌-◌, Common.◌≡◌, Turns.summed}
use Rattle.kdf_core.proofs.pbkdf2.pbkdf2_block.Given as goal

abbrev pub invariant-turns : goal.invariant-turns
invariant-turns l = record {
  sum : summed (hash_of l.fn.which) (block_length l.fn.which) l.password (take l.length l.turn) (take l.length l.out) (l.cost - l.i) ≡ pbkdf2_block (hash_of l.fn.which) (block_length l.fn.which) l.password l.salt l.cost l.n;
  rest : drop l.length l.out ≡ drop l.length l.fn.out;
  zeros : drop l.length l.turn ≡ replicate (64 - l.length) 0;
  long : length l.out ≡ 64;
}
