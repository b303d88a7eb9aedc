-- Parts written one after another.
use Rattle.std.proofs.Common.{◌≡◌, ℕ, List, [], ◌∷◌, ◌++◌, refl, ap, ◌∙◌, append_assoc}
use Rattle.xw_files.specs.Puz.Spelling.{with_nuls, ended}

with_nuls-then : (texts : List (List ℕ)) (tail : List ℕ) → with_nuls texts [] ++ tail ≡ with_nuls texts tail
with_nuls-then [] tail = refl
with_nuls-then (text ∷ texts) tail = append_assoc text (0 ∷ with_nuls texts []) tail ∙ ap (λ more. text ++ 0 ∷ more) (with_nuls-then texts tail)

ended-then : (old text more : List ℕ) → (old ++ ended text) ++ more ≡ old ++ (text ++ 0 ∷ more)
ended-then old text more = append_assoc old (ended text) more ∙ ap (λ xs. old ++ xs) (append_assoc text (0 ∷ []) more)

pub texts-pushed : (old title author copyright notes rest : List ℕ) (clues : List (List ℕ))
    → (((((old ++ ended title) ++ ended author) ++ ended copyright) ++ with_nuls clues []) ++ ended notes) ++ rest ≡ old ++ (title ++ 0 ∷ (author ++ 0 ∷ (copyright ++ 0 ∷ with_nuls clues (notes ++ 0 ∷ rest))))
texts-pushed old title author copyright notes rest clues =
    ended-then ((((old ++ ended title) ++ ended author) ++ ended copyright) ++ with_nuls clues []) notes rest
    ∙ append_assoc (((old ++ ended title) ++ ended author) ++ ended copyright) (with_nuls clues []) (notes ++ 0 ∷ rest)
    ∙ ap (λ more. (((old ++ ended title) ++ ended author) ++ ended copyright) ++ more) (with_nuls-then clues (notes ++ 0 ∷ rest))
    ∙ ended-then ((old ++ ended title) ++ ended author) copyright (with_nuls clues (notes ++ 0 ∷ rest))
    ∙ ended-then (old ++ ended title) author (copyright ++ 0 ∷ with_nuls clues (notes ++ 0 ∷ rest))
    ∙ ended-then old title (author ++ 0 ∷ (copyright ++ 0 ∷ with_nuls clues (notes ++ 0 ∷ rest)))
