use Rattle.secure_element_calls.proofs.Replying.{asks, replies_are}
use Rattle.secure_element_calls.proofs.laws.replies_are_the_models.Goals as goal

pub returns : goal.returns
returns c = record { replies = replies_are; asks = asks }
