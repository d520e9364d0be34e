use Rattle.std.proofs.Common.{ap}
use Rattle.secure_element_calls.proofs.{Common.algorithm_asked, Holding.holds_as, Holding.is_aes}
use Rattle.secure_element_calls.proofs.filling.fill.Goals as goal

pub encrypt-written-requires-clause-aes : goal.encrypt-written-requires-clause-aes
encrypt-written-requires-clause-aes g c κs lives =
    holds_as (g.A.Devices.keys c.args.devices.now) c.args.handle _ _ c.requires.fits (λ key fits. is_aes c.args.call.now key.key_type (ap algorithm_asked c.in-CtrEncrypt.is) fits)

pub decrypt-written-requires-clause-aes : goal.decrypt-written-requires-clause-aes
decrypt-written-requires-clause-aes g c κs lives =
    holds_as (g.A.Devices.keys c.args.devices.now) c.args.handle _ _ c.requires.fits (λ key fits. is_aes c.args.call.now key.key_type (ap algorithm_asked c.in-CtrDecrypt.is) fits)
