-- The modes of the cipher algorithms as the model's.
use Rattle.store_model.specs.Ciphers as model
use Rattle.key_policy.specs.{declared.modes.Mode.Mode, declared.modes.Mode.TheVariants.Ctr, declared.modes.Mode.TheVariants.CbcNoPadding, declared.modes.Mode.TheVariants.CbcPkcs7, declared.modes.Mode.TheVariants.EcbNoPadding}

abbrev pub model_mode : Mode → model.Mode
model_mode Ctr = model.Ctr
model_mode CbcNoPadding = model.CbcNoPadding
model_mode CbcPkcs7 = model.CbcPkcs7
model_mode EcbNoPadding = model.EcbNoPadding
