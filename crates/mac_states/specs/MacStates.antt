-- What a MAC in several parts stands for.
use Rattle.std.specs.Prelude.{◌≡◌, ℕ, List, length, IfSome}
use Rattle.hash_ops.specs.declared.Hash.{Hash}
use Rattle.hmac_ops.specs.{States.HoldsHmac, States.IsWipedHmac, declared.state.HmacState.HmacState}
use Rattle.cmac_ops.specs.{States.HoldsCmac, States.IsWipedCmac, declared.state.CmacState.CmacState}
use Rattle.store_model.specs.Prelude.{tag_bytes, whole_mac, Operation, MacWork}
use Rattle.key_policy.specs.{declared.algorithms.MacKind.TheVariants.Hmac, declared.algorithms.MacKind.TheVariants.Cmac, Names.whole_mac_by}
use Rattle.multipart.specs.States.{StandsForOptional}
use Rattle.mac_states.specs.{declared.running_mac.Code.Code, declared.running_mac.RunningMac.RunningMac, declared.mac_state.MacState.MacState}
use Rattle.mac_states.specs.declared.running_mac.Code.TheVariants as code

-- the algorithm is HMAC, and that runs
pub record IsHmac (hmac : HmacState) (work : MacWork) : Type 0 where
  pub which : Hash
  pub whole : (key message : List ℕ) → whole_mac_by (Hmac which) key message ≡ whole_mac work.alg key message
  pub message : HoldsHmac hmac which work.key work.message

-- the algorithm is CMAC, and that runs
pub record IsCmac (cmac : CmacState) (work : MacWork) : Type 0 where
  pub whole : (key message : List ℕ) → whole_mac_by Cmac key message ≡ whole_mac work.alg key message
  pub message : HoldsCmac cmac work.key work.message

abbrev pub RunsCode : Code → MacWork → Type 0
RunsCode (code.Hmac hmac) work = IsHmac hmac work
RunsCode (code.Cmac cmac) work = IsCmac cmac work

-- hashers are those of the empty message; CMAC's key and buffers are zeros
abbrev pub IsClearCode : Code → Type 0
IsClearCode (code.Hmac hmac) = IsWipedHmac hmac
IsClearCode (code.Cmac cmac) = IsWipedCmac cmac

-- the MAC of the algorithm runs, and has taken in the message
pub record HoldsMac (s : RunningMac) (work : MacWork) : Type 0 where
  pub tag : s.length ≡ tag_bytes work.alg
  pub verifies : s.verifies ≡ work.verifies
  pub total : s.total.bytes ≡ length work.message
  pub message : RunsCode s.code work

-- nothing of a key and a message is left
pub record IsClearRunningMac (s : RunningMac) : Type 0 where
  pub total : s.total.bytes ≡ 0
  pub code : IsClearCode s.code

abbrev pub IsClearMac : MacState → Type 0
IsClearMac s = IfSome s.state.work IsClearRunningMac

-- the state stands for this operation
abbrev pub IsMacOperation : MacState → Operation MacWork → Type 0
IsMacOperation s op = StandsForOptional IsClearRunningMac HoldsMac s.state op
