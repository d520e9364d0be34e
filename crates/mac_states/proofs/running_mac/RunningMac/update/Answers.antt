use Rattle.std.proofs.Common.{arith, length-append, subst}
use Rattle.mac_states.specs.MacStates.{IsCmac, RunsCode}
use Rattle.mac_states.proofs.running_mac.RunningMac.update.Goals as goal

pub returns-in-Cmac-clause-holds : goal.returns-in-Cmac-clause-holds
returns-in-Cmac-clause-holds c = λ w h.
    let one : IsCmac c.in-Cmac.cmac w = subst (λ code. RunsCode code w) c.in-Cmac.is h.message in
    record {
      tag = h.tag;
      verifies = h.verifies;
      total = omega (arith, length-append w.message c.args.input.now, h.total, c.in_ok-add.ensures.sum);
      message = record { whole = one.whole; message = c.update-in-Cmac.ensures.holds w.key w.message one.message };
    }
