-- The callers of a service as it is opened.
use Rattle.std.specs.Prelude.{◌≡◌, ℕ, ◌+◌, ◌<◌, List, [], length, get_or}
use Rattle.callers.specs.{Ready.IsReady, declared.caller.Caller.Caller}
use Rattle.locked_store.specs.Prelude.{World}

module _ {D A C : Type 0} (w : World D A C) where
  -- the caller of this number, which has seen and made no call
  pub record IsNewCaller (number : ℕ) (c : Caller D A C) : Type 0 where
    pub ready : IsReady w 0 c
    pub number_is : c.number ≡ number
    pub spent : c.spent ≡ 0
    pub unseen : c.pass.me.0.seen ≡ []
    pub uncalled : c.pass.me.0.calls ≡ []

  -- sixteen callers, by their numbers from 1 on
  pub record AreStaff (callers : List (Caller D A C)) : Type 0 where
    pub sixteen : length callers ≡ 16
    pub each : (k : ℕ) (d : Caller D A C) → k < length callers → IsNewCaller (k + 1) (get_or callers k d)
