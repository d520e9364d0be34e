-- The words of this crate that its code and its proofs cite, a line for each file that says them.
pub use Rattle.callers.specs.Budget.{begins_operation, is_counted}
pub use Rattle.callers.specs.Called.{GivesSome, HasService, IsAnswered, IsCalled, IsReplied, KnowsBefore, KnowsReply, Legal, MayCompute, MayReply, TellsFailure}
pub use Rattle.callers.specs.Failures.{failure_in, failure_marked, failure_told}
pub use Rattle.callers.specs.HandleCalls.{FailsDerivation, IsAsked, MayTakeKey, stepped_at, with_secret, without_bytes, rekeyed}
pub use Rattle.callers.specs.Handles.{AreIdle, AreOperations, ArePairs, HoldsLease, IsChanged, busy, leases_of, operation_at, pairs_of, with_operation_at}
pub use Rattle.callers.specs.Parts.{IsBack, IsCreated, IsGivenBack, KnowsAlive, MayGoBack, SameButPass, drawn_by, drawn_for}
pub use Rattle.callers.specs.Ready.{IsOwnPart, IsReady}
pub use Rattle.callers.specs.Retired.{IsRetired, IsRetiring, MakesNoCall}
pub use Rattle.callers.specs.Served.{HasCounted, IsOverBudget, IsServed, IsServedUnwritten}
