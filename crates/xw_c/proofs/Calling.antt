-- A call on an open session.
use Rattle.std.proofs.Common.{◌≡◌, ℕ, Option, Some, subst}
use Rattle.xw_c.specs.OpenSession.{Shown}
use Rattle.xw_c.specs.Status.{code_of}
use Rattle.xw_c.specs.declared.status.Status.{Status}
use Rattle.xw_c.specs.Calls.{Calls}

-- the session that was taken out is lent to the call, and put back
pub calls_open : (Does : Shown → Status → Shown → Type 0) (before : Option Shown) (old lent new : Shown) (status : Status) (code : ℕ) (after : Option Shown)
    → Some old ≡ before → lent ≡ old → code ≡ code_of status → after ≡ Some new → Does lent status new → Calls Does before code after
calls_open Does before old lent new status code after taken is_lent coded left does =
    subst (λ (b : Option Shown). Calls Does b code after) taken (status, new, coded, left, subst (λ (shown : Shown). Does shown status new) is_lent does)
