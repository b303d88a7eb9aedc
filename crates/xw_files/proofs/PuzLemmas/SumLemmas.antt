-- Checksums of consecutive parts.
use Rattle.std.proofs.Common.{◌≡◌, ℕ, List, [], ◌∷◌, ◌++◌}
use Rattle.std.proofs.lemmas.Grind.{fold-append}
use Rattle.xw_files.specs.Puz.Sums.{summed, sum_from, counted}

pub sum_from-append : (start : ℕ) (xs ys : List ℕ) → sum_from start (xs ++ ys) ≡ sum_from (sum_from start xs) ys
sum_from-append start xs ys = fold-append summed start xs ys

pub sum_from-counted : (start : ℕ) (byte : ℕ) (bytes : List ℕ) → sum_from start (counted (byte ∷ bytes)) ≡ summed (sum_from start (byte ∷ bytes)) 0
sum_from-counted start byte bytes = fold-append summed start (byte ∷ bytes) (0 ∷ [])

pub ruleset sum_steps = (sum_from-append, sum_from-counted)
