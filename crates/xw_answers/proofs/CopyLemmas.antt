-- Letters copied part by part.
use Rattle.std.proofs.Common.{◌≡◌, ℕ, ◌+◌, ◌≤◌, List, ◌++◌, length, take, drop, sym, ◌∙◌, ap, arith}
use Rattle.std.proofs.Math.Seq.{take-add}
use Rattle.std.proofs.lemmas.List.{take_all, take-take}

-- the letters up to an index are copied, and then the next ones
pub more_copied : (before after letters : List ℕ) (at count : ℕ) → take at before ≡ take at letters → take (at + count) after ≡ take at before ++ take count (drop at letters)
    → take (at + count) after ≡ take (at + count) letters
more_copied before after letters at count front part = part ∙ ap (λ xs. xs ++ take count (drop at letters)) front ∙ sym (take-add at count letters)

-- the same where they are the last letters, and some of them were copied before
pub last_copied : (before after letters : List ℕ) (at done count : ℕ) → length after ≡ length letters → at + count ≡ length letters → at ≤ done → take done before ≡ take done letters
    → take (at + count) after ≡ take at before ++ take count (drop at letters) → after ≡ letters
last_copied before after letters at done count long ends some front part =
    let first : take at before ≡ take at letters = sym (take-take at done before some) ∙ ap (take at) front ∙ take-take at done letters some in
    sym (take_all (at + count) after (omega arith)) ∙ more_copied before after letters at count first part ∙ take_all (at + count) letters (omega arith)
