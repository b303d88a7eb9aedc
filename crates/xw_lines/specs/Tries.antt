-- Which calls of the system were made again.
use Rattle.std.specs.Prelude.{◌≡◌, ◌⊎◌, ◌++◌, ◌∷◌, Bool, true, false, List, [], Result, Ok, Err, OnOk}
use Rattle.std_io.specs.IoError.{error_kind}
use Rattle.std_io.specs.declared.io.error.Error.{Error}
use Rattle.std_io.specs.declared.io.kind.ErrorKind.{ErrorKind}
use Rattle.std_io.specs.declared.io.kind.ErrorKind.TheVariants.{Interrupted}
use Rattle.xw_lines.specs.declared.tries.Calls.{Calls, Start, After'}
use Rattle.xw_lines.specs.declared.tries.Tries.{Tries}

-- a signal interrupted the call
abbrev pub is_interruption : ErrorKind → Bool
is_interruption Interrupted = true
is_interruption _ = false

abbrev pub is_interrupted : {T : Type 0} → Result T Error → Bool
is_interrupted (Ok x) = false
is_interrupted (Err error) = is_interruption (error_kind error)

-- whether each call was interrupted, the last one first
abbrev pub made : Calls → List Bool
made Start = []
made (After' marker before interrupted) = interrupted ∷ made before

abbrev pub calls : Tries → List Bool
calls tries = made tries.made.value

-- each of these calls was interrupted
abbrev pub AreInterrupted : List Bool → Type 0
AreInterrupted [] = Unit {0}
AreInterrupted (call ∷ calls) = (call ≡ true) × AreInterrupted calls

-- Calls were made between two moments. All but the last were interrupted, and the last one was not if the result is `Ok`.
pub record AreRetries {T E : Type 0} (result : Result T E) (old new : List Bool) : Type 0 where
  pub interrupted : List Bool
  pub all : AreInterrupted interrupted
  pub last : List Bool
  pub calls : new ≡ last ++ interrupted ++ old
  pub end : (last ≡ false ∷ []) ⊎ ((last ≡ []) × OnOk result ⊥)
