use Rattle.operation_handles.proofs.{Common.IsDerivationOperation, Common.key_given, Common.on_active, Common.subst, KeyInputs.taken}
use Rattle.operation_handles.proofs.handle.OperationHandle.input_key.Goals as goal

pub returns-clause-state : goal.returns-clause-state
returns-clause-state c = λ operation w key h derives number.
    taken c.args.self.now c.keep.new.self c.key_derivation_input_key.new.self operation w key c.args.step c.args.lease c.keep.ensures.states c.keep.ensures.lease number derives
    (c.requires.takes operation h)
    (λ own is. subst (λ bytes. IsDerivationOperation c.key_derivation_input_key.new.self (on_active own (λ v. key_given v c.args.step bytes)).operation) c.as_slice.ensures (c.key_derivation_input_key.ensures.state own is)) h
