-- A light of which a net has no word is dead, if the net has all that is feasible.
use Rattle.std.proofs.Common.{◌≡◌, ℕ, Bool, true, false, List, sym, subst}
use Rattle.std.proofs.Math.Logic.{∥∥₁_elim}
use Rattle.std.proofs.lemmas.Bool.{both_ways}
use mathlib.Core.HLevel.{⊥_prop}
use Rattle.xw_words.specs.Dictionary.{Dictionary}
use Rattle.xw_feas.specs.Board.{Board, light_at}
use Rattle.xw_feas.specs.Feasible.{IsFeasibleWord}
use Rattle.xw_feas.specs.Choices.{CoversSupported}
use Rattle.xw_feas.proofs.AnswersLemmas.{feasible_base}
use Rattle.xw_feas.proofs.Support.{number_of_base}

-- the flags cover all that is feasible, and none of the light is set
pub covered_dead : (board : Board) (dictionary : Dictionary) (word_stands letter_stands : ℕ → ℕ → Bool) (light : ℕ) → CoversSupported board dictionary word_stands letter_stands
    → ((choice : ℕ) → word_stands light choice ≡ false) → (word : List ℕ) → ¬ IsFeasibleWord board dictionary light word
covered_dead board dictionary word_stands letter_stands light covers none word feasible = ∥∥₁_elim feasible ⊥_prop (λ found.
    let base = feasible_base board dictionary light word found.0 found.1 found.2 in
    let number = number_of_base board dictionary (light_at board light) word base.1 in
    both_ways (word_stands light number.0) (none number.0)
    ((covers found.0 found.1).words light number.0 base.0 number.1 (subst (λ w. found.0.words light w ≡ true) (sym number.2) found.2)))
