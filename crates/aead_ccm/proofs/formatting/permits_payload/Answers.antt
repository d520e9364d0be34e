use Rattle.aead_ccm.proofs.{Common.◌*◌, Common.◌-◌, Payloads.fits}
use Rattle.aead_ccm.proofs.formatting.permits_payload.Goals as goal

pub returns-else-nonce-eq7 : goal.returns-else-nonce-eq7
returns-else-nonce-eq7 c = fits c.args.payload (8 * (15 - c.args.nonce))
