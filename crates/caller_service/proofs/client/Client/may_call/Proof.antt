-- The field says only that a proof that the caller may call exists. An entailment is a proposition, so the proof may be opened in front of the walk.
use seplogic.Bi.Basic.{Entails-prop}
use mathlib.Core.Logic.{∥∥₁_elim}
use base.Logic.{via, mono_r}
use denote.Triple.Entry.{on_entry}
use borrow.Fn.Kinds.{sig_of}
use contract.Monad.{fact_mono}
use Rattle.caller_service.specs.Replies.{MayCall}
use Rattle.caller_service.proofs.client.Client.may_call.Statement.{statement}
use Rattle.caller_service.proofs.client.Client.may_call.Lts as lts
use Rattle.caller_service.proofs.client.Client.may_call.Reads as reads
use Rattle.caller_service.proofs.client.Client.may_call.Tie as tie

pub may_call_spec : {M : Type 1} → statement M
may_call_spec {M} =
    tie.close (λ D A C G R LD LA LC LG LR d dk a ak c ck g gk r rk da dc dg w mD mA mC mG mR nA nC nG 𝓤 𝓛 𝓣 y.
    ∥∥₁_elim y.0.3.0.now.may_call (Entails-prop 𝓤.op _ _) (λ may.
    via 𝓤 _ (mono_r 𝓤 (on_entry 𝓛 (sig_of 7 (lts.ps D A C G R LD LA LC LG LR d dk a ak c ck g gk r rk da dc dg) (lts.r D A C G R LD LA LC LG LR d dk a ak c ck g gk r rk da dc dg)) y.0.0 y.0.1 y.0.3 y.0.4) (fact_mono 𝓤 _ (MayCall {d = d} {a = a} {c = c} y.0.3.0.now.service.now y.0.3.0.now.caller) (λ _. may)))
    (lts.spec D A C G R LD LA LC LG LR d dk a ak c ck g gk r rk da dc dg (λ κs x. MayCall {d = d} {a = a} {c = c} x.0.now.service.now x.0.now.caller) (reads.Post D A C G R LD LA LC LG LR d dk a ak c ck g gk r rk da dc dg) (λ x. x.requires) 𝓤 𝓛 𝓣 y)))
