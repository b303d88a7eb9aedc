-- Calls that are made again.
use Rattle.std.proofs.Common.{rules, ◌≡◌, ◌++◌, ◌∷◌, ◌∙◌, ℕ, ap, inl, Bool, true, false, List, [], Option, Result, Ok, Err}
use Rattle.std.specs.Io.KnownBytes.{Keeps, WriteAppends}
use Rattle.std_io.specs.declared.io.error.Error.{Error}
use Rattle.xw_lines.specs.Tries.{is_interrupted, AreInterrupted, AreRetries}

-- the calls since some moment, all of them interrupted
abbrev pub Waits : List Bool → List Bool → Type 0
Waits old mid = (calls : List Bool) × AreInterrupted calls × (mid ≡ calls ++ old)

-- one more was interrupted
pub waits_on : (last : Bool) (old mid new : List Bool) → last ≡ true → new ≡ last ∷ mid → Waits old mid → Waits old new
waits_on last old mid new is noted waits = (last ∷ waits.0, (is, waits.1), noted ∙ ap (λ calls. last ∷ calls) waits.2)

-- the last was not interrupted
pub ended : {T E : Type 0} (result : Result T E) (last : Bool) (old mid new : List Bool) → last ≡ false → new ≡ last ∷ mid → Waits old mid → AreRetries result old new
ended result last old mid new is noted waits =
    record { interrupted = waits.0; all = waits.1; last = last ∷ []; calls = noted ∙ ap (λ calls. last ∷ calls) waits.2; end = inl (ap (λ call. call ∷ []) is) }

-- a write that was interrupted leaves the writer as it was
pub keeps_on : (taken : Result ℕ Error) (initial old new : Option (List ℕ)) (bytes : List ℕ) → is_interrupted taken ≡ true → Keeps initial old → WriteAppends old new taken bytes → Keeps initial new
keeps_on (Ok count) initial old new bytes is kept writes = search rules
keeps_on (Err error) initial old new bytes is kept writes = search rules
