use Rattle.line_generator.proofs.Orders.{replies_alike, summaries_alike}
use Rattle.line_generator.proofs.laws.orders_answer_alike.Goals as goal

pub returns-clause-replies : goal.returns-clause-replies
returns-clause-replies c = replies_alike

pub returns-clause-summary : goal.returns-clause-summary
returns-clause-summary c = summaries_alike
