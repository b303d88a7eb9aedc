-- What a call on a handle does, in terms of the session that the handle has before and after.
use Rattle.std.specs.Prelude.{◌≡◌, ◌++◌, ℕ, List, [], take, drop, length, Option, None, Some}
use Rattle.xw_c.specs.OpenSession.{Shown, IsOpened, IsUnopened}
use Rattle.xw_c.specs.Status.{code_of}
use Rattle.xw_c.specs.declared.status.Status.{Status}
use Rattle.xw_c.specs.declared.status.Status.TheVariants.{Accepted, Closed, Open}

-- A call on an open session does this to its session, and returns the code of its status. A call without an open
-- session returns Closed and does nothing.
abbrev pub Calls : (Shown → Status → Shown → Type 0) → Option Shown → ℕ → Option Shown → Type 0
Calls Does None code after = (code ≡ code_of Closed) × (after ≡ None)
Calls Does (Some old) code after = (status : Status) × (new : Shown) × (code ≡ code_of status) × (after ≡ Some new) × Does old status new

-- a session is opened over this list on the puzzle of these bytes, or none is opened, and the code says why
abbrev pub IsBegun : List ℕ → List ℕ → ℕ → Option Shown → Type 0
IsBegun list bytes code (Some session) = (code ≡ code_of Accepted) × IsOpened list bytes session
IsBegun list bytes code None = (status : Status) × (code ≡ code_of status) × IsUnopened list bytes status

-- a session is opened where there is none; otherwise the code is Open, and the session stays
abbrev pub Opens : List ℕ → List ℕ → Option Shown → ℕ → Option Shown → Type 0
Opens list bytes None code after = IsBegun list bytes code after
Opens list bytes (Some session) code after = (code ≡ code_of Open) × (after ≡ Some session)

-- the answer to the last call; none without a session
abbrev pub answer_of : Option Shown → List ℕ
answer_of None = []
answer_of (Some session) = session.answer

-- the bytes of a buffer after a text was copied to it, or as much of the text as fits
abbrev pub copied : List ℕ → List ℕ → List ℕ
copied text room = take (length room) text ++ drop (length text) room
