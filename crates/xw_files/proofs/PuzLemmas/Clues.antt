-- Reading clues one after another.
use Rattle.std.proofs.Common.{◌≡◌, ℕ, suc, ◌+◌, List, [], ◌∷◌, ◌++◌, refl, sym, ap, append_assoc, Ok, Err}
use Rattle.std.specs.Prelude.{Result}
use Rattle.xw_files.specs.Steps.{◌>>=◌}
use Rattle.xw_files.specs.Puz.Reading.{text_at, clues_at}
use Rattle.xw_files.specs.declared.fault.TextName.TheVariants.{Clue}
use Rattle.xw_files.specs.declared.fault.ReadFault.{ReadFault}

-- the clues read so far, followed by those that are read next
abbrev pub with_front : List (List ℕ) → Result (List (List ℕ) × List ℕ) ReadFault → Result (List (List ℕ) × List ℕ) ReadFault
with_front front read = read >>= λ x. Ok (front ++ x.0, x.1)

pub with_front-none : (read : Result (List (List ℕ) × List ℕ) ReadFault) → with_front [] read ≡ read
with_front-none (Ok x) = refl
with_front-none (Err e) = refl

front-more : (front : List (List ℕ)) (clue : List ℕ) (read : Result (List (List ℕ) × List ℕ) ReadFault)
    → with_front front (read >>= λ others. Ok (clue ∷ others.0, others.1)) ≡ with_front (front ++ clue ∷ []) read
front-more front clue (Ok x) = ap (λ (xs : List (List ℕ)). Ok (xs, x.1)) (sym (append_assoc front (clue ∷ []) x.0))
front-more front clue (Err e) = refl

-- reading one clue, and then the others
pub clues-more : (front : List (List ℕ)) (k left less : ℕ) (bytes clue rest : List ℕ) → left ≡ suc less → text_at (Clue k) bytes ≡ Ok (clue, rest)
    → with_front front (clues_at k left bytes) ≡ with_front (front ++ clue ∷ []) (clues_at (k + 1) less rest)
clues-more front k left less bytes clue rest n t = rw (n, t) (front-more front clue (clues_at (k + 1) less rest))

-- a clue without a NUL
pub clues-stop : (front : List (List ℕ)) (k left less : ℕ) (bytes : List ℕ) (fault : ReadFault) → left ≡ suc less → text_at (Clue k) bytes ≡ Err fault
    → with_front front (clues_at k left bytes) ≡ Err fault
clues-stop front k left less bytes fault n t = rw (n, t) refl
