use Rattle.std.proofs.Common.{◌%◌, ◌*◌, ◌+◌, ◌<◌, ◌^◌, ◌≡◌, ◌≤◌}
use Rattle.secure_element_calls.proofs.{Common.HoldsHandle, Common.Rose, Common.block_number, Streams.done_to}
use Rattle.secure_element_calls.proofs.counters.xor_text.Given as goal

abbrev pub invariant-pieces : goal.invariant-pieces
invariant-pieces g l = record {
  counter : l.counter ≡ (block_number l.iv + 16 * l.n) % 2 ^ 128;
  text : HoldsHandle (g.A.Devices.keys l.fn.devices) l.handle (λ key. l.text ≡ done_to key.bytes (block_number l.iv) (256 * l.n) l.fn.text);
  same : g.A.Devices.keys l.devices ≡ g.A.Devices.keys l.fn.devices;
  locations : g.A.Devices.locations l.devices ≡ g.A.Devices.locations l.fn.devices;
  unasked : l.n ≡ 0 → g.A.Devices.served l.devices ≡ g.A.Devices.served l.fn.devices;
  asked : 0 < l.n → Rose (g.A.Devices.served l.fn.devices) (g.A.Devices.served l.devices);
  later : g.A.Devices.faults l.fn.devices ≤ g.A.Devices.faults l.devices;
}
