-- The facts that engines keep are propositions (two proofs of one are equal), so ghost fields can
-- hold them.
use Rattle.std.specs.Prelude.{◌≡◌, ℕ, ◌<◌, Bool, true, false, List, [], length, filter, slice_index_or, Some, None, IsTrue, ◌↔◌}
use mathlib.Core.HLevel.{Π_prop, ×_prop, ⊥_prop}
use mathlib.Core.Logic.{∥∥₁_prop, ↔_prop}
use mathlib.Core.Path.{refl}
use mathlib.Core.Bool.{Bool-set}
use Rattle.xw_feas.specs.Board.{Board, board_of}
use Rattle.xw_words.specs.Dictionary.{Entry, Dictionary, known_words, AreWords, IsDictionary}
use Rattle.xw_grid.specs.declared.cell.Direction.{Direction}
use Rattle.xw_grid.specs.declared.cell.Direction.TheVariants.{Across, Down}
use Rattle.xw_grid.specs.declared.cell.Square.{Square}
use Rattle.xw_grid.specs.declared.cell.Square.TheVariants.{Block, Open}
use Rattle.xw_grid.specs.declared.lights.Light.{Light}
use Rattle.xw_grid.specs.EditLaws.{SameShape}
use Rattle.xw_grid.specs.Grid.{Grid, IsSquare, IsGrid}
use Rattle.xw_feas.specs.State.{State}
use Rattle.xw_feas.specs.WellFormed.{IsLaidOut, IsWellFormed}
use Rattle.xw_feas.specs.Choices.{IsExact, is_base_at, choice_at}
use Rattle.xw_feas.specs.Feasible.{IsFeasibleWord, IsFeasibleLetter, Answers, AreAnswers, answers_word, answers_letter, base_words_at}
use Rattle.xw_letters.specs.Letter.{alphabet, IsLetter}
use Rattle.std.specs.Coded.{Coded, Coded-set, coded_ℕ, coded_bool, coded_list, coded×, code_by, le_prop}

words_prop : (board : Board) (dictionary : Dictionary) (word_stands : ℕ → ℕ → Bool) → IsProp ((light choice : ℕ) → light < length board.lights → IsTrue (word_stands light choice) ↔ (IsTrue (is_base_at board dictionary light choice) × IsFeasibleWord board dictionary light (choice_at board dictionary light choice)))
words_prop board dictionary word_stands = Π_prop (λ light. Π_prop (λ choice. Π_prop (λ below. ↔_prop (Bool-set _ _) (×_prop (Bool-set _ _) ∥∥₁_prop))))

letters_prop : (board : Board) (dictionary : Dictionary) (letter_stands : ℕ → ℕ → Bool) → IsProp ((cell letter : ℕ) → IsTrue (letter_stands cell letter) ↔ IsFeasibleLetter board dictionary cell letter)
letters_prop board dictionary letter_stands = Π_prop (λ cell. Π_prop (λ letter. ↔_prop (Bool-set _ _) ∥∥₁_prop))

pub IsExact-prop : (board : Board) (dictionary : Dictionary) (word_stands letter_stands : ℕ → ℕ → Bool) → IsProp (IsExact board dictionary word_stands letter_stands)
IsExact-prop board dictionary word_stands letter_stands x y =
    λ i. record { words = words_prop board dictionary word_stands x.words y.words i; letters = letters_prop board dictionary letter_stands x.letters y.letters i }

answered_words_prop : (board : Board) (dictionary : Dictionary) (answers : Answers) → IsProp ((light : ℕ) (word : List ℕ) → IsTrue (answers_word answers light word) ↔ IsFeasibleWord board dictionary light word)
answered_words_prop board dictionary answers = Π_prop (λ light. Π_prop (λ word. ↔_prop (Bool-set _ _) ∥∥₁_prop))

answered_letters_prop : (board : Board) (dictionary : Dictionary) (answers : Answers) → IsProp ((cell letter : ℕ) → IsTrue (answers_letter answers cell letter) ↔ IsFeasibleLetter board dictionary cell letter)
answered_letters_prop board dictionary answers = Π_prop (λ cell. Π_prop (λ letter. ↔_prop (Bool-set _ _) ∥∥₁_prop))

words_in_order_prop : (board : Board) (dictionary : Dictionary) (answers : Answers) → IsProp ((light : ℕ) → slice_index_or answers.words light [] ≡ filter (answers_word answers light) (base_words_at board dictionary light))
words_in_order_prop board dictionary answers = Π_prop (λ light. Coded-set (coded_list (coded_list coded_ℕ)) _ _)

letters_in_order_prop : (answers : Answers) → IsProp ((cell : ℕ) → slice_index_or answers.letters cell [] ≡ filter (answers_letter answers cell) alphabet)
letters_in_order_prop answers = Π_prop (λ cell. Coded-set (coded_list coded_ℕ) _ _)

pub AreAnswers-prop : (board : Board) (dictionary : Dictionary) (answers : Answers) → IsProp (AreAnswers board dictionary answers)
AreAnswers-prop board dictionary answers x y = λ i. record {
  lights = Coded-set coded_ℕ _ _ x.lights y.lights i;
  cells = Coded-set coded_ℕ _ _ x.cells y.cells i;
  words = answered_words_prop board dictionary answers x.words y.words i;
  letters = answered_letters_prop board dictionary answers x.letters y.letters i;
  words_in_order = words_in_order_prop board dictionary answers x.words_in_order y.words_in_order i;
  letters_in_order = letters_in_order_prop answers x.letters_in_order y.letters_in_order i;
}

coded_entry : Coded Entry
coded_entry = code_by (List ℕ × (Bool × (Bool × (ℕ × Bool))))
    (coded× (coded_list coded_ℕ) (coded× coded_bool (coded× coded_bool (coded× coded_ℕ coded_bool))))
    (λ entry. (entry.word, (entry.active, (entry.struck, (entry.grade, entry.regraded)))))
    (λ parts. record { word = parts.0; active = parts.1.0; struck = parts.1.1.0; grade = parts.1.1.1.0; regraded = parts.1.1.1.1 })
    (λ _. refl)

letter_prop : (letter : ℕ) → IsProp (IsLetter letter)
letter_prop letter = ×_prop le_prop le_prop

square_prop : (square : Square) → IsProp (IsSquare square)
square_prop Block = λ x y i. tt
square_prop (Open None) = λ x y i. tt
square_prop (Open (Some letter)) = letter_prop letter

IsGrid-prop : (grid : Grid) → IsProp (IsGrid grid)
IsGrid-prop grid x y = λ i. record {
  wide = ×_prop le_prop le_prop x.wide y.wide i;
  high = ×_prop le_prop le_prop x.high y.high i;
  squares = Coded-set coded_ℕ _ _ x.squares y.squares i;
  letters = Π_prop (λ k. Π_prop (λ d. Π_prop (λ below. square_prop _))) x.letters y.letters i;
  right = Coded-set coded_ℕ _ _ x.right y.right i;
  below = Coded-set coded_ℕ _ _ x.below y.below i;
  turned = Π_prop (λ _. Coded-set coded_ℕ _ _) x.turned y.turned i;
}

AreWords-prop : (len : ℕ) (entries : List Entry) → IsProp (AreWords len entries)
AreWords-prop len entries x y = λ i. record {
  long = Π_prop (λ k. Π_prop (λ d. Π_prop (λ below. Coded-set coded_ℕ _ _))) x.long y.long i;
  letters = Π_prop (λ k. Π_prop (λ d. Π_prop (λ below. Π_prop (λ j. Π_prop (λ e. Π_prop (λ under. letter_prop _)))))) x.letters y.letters i;
  distinct = Π_prop (λ j. Π_prop (λ k. Π_prop (λ d. Π_prop (λ before. Π_prop (λ below. Π_prop (λ same. ⊥_prop)))))) x.distinct y.distinct i;
  graded = Π_prop (λ k. Π_prop (λ d. Π_prop (λ below. le_prop))) x.graded y.graded i;
  few = le_prop x.few y.few i;
}

IsDictionary-prop : (dictionary : Dictionary) → IsProp (IsDictionary dictionary)
IsDictionary-prop dictionary x y = λ i. record {
  lengths = Coded-set coded_ℕ _ _ x.lengths y.lengths i;
  words = Π_prop (λ len. AreWords-prop len (known_words dictionary len)) x.words y.words i;
  none_shorter = Π_prop (λ len. Π_prop (λ short. Coded-set (coded_list coded_entry) _ _)) x.none_shorter y.none_shorter i;
  least = le_prop x.least y.least i;
  left = Π_prop (λ len. Π_prop (λ k. Π_prop (λ d. Π_prop (λ below. Bool-set _ _)))) x.left y.left i;
}

IsLaidOut-prop : (board : Board) → IsProp (IsLaidOut board)
IsLaidOut-prop board x y = λ i. record {
  entries = Coded-set coded_ℕ _ _ x.entries y.entries i;
  several = Π_prop (λ light. Π_prop (λ below. le_prop)) x.several y.several i;
  short = Π_prop (λ light. le_prop) x.short y.short i;
  cells_open = Π_prop (λ light. Π_prop (λ k. Π_prop (λ below. Bool-set _ _))) x.cells_open y.cells_open i;
  distinct = Π_prop (λ light. Π_prop (λ j. Π_prop (λ k. Π_prop (λ below. Π_prop (λ under. Π_prop (λ same. Coded-set coded_ℕ _ _)))))) x.distinct y.distinct i;
  cross_once = Π_prop (λ light. Π_prop (λ other. Π_prop (λ i. Π_prop (λ j. Π_prop (λ k. Π_prop (λ l. Π_prop (λ apart. Π_prop (λ below_i. Π_prop (λ below_k. Π_prop (λ below_j. Π_prop (λ below_l. Π_prop (λ here. Π_prop (λ there. Coded-set coded_ℕ _ _))))))))))))) x.cross_once y.cross_once i;
  letters = Π_prop (λ cell. Π_prop (λ letter. Π_prop (λ entered. letter_prop letter))) x.letters y.letters i;
}

pub IsWellFormed-prop : (state : State) → IsProp (IsWellFormed state)
IsWellFormed-prop state x y = λ i. record {
  grid = IsGrid-prop state.grid x.grid y.grid i;
  board = IsLaidOut-prop (board_of state.grid) x.board y.board i;
  dictionary = IsDictionary-prop state.words x.dictionary y.dictionary i;
}

-- a direction as a flag, and a light as the tuple of its fields
abbrev is_across : Direction → Bool
is_across Across = true
is_across Down = false

abbrev direction_of : Bool → Direction
direction_of true = Across
direction_of false = Down

direction_again : (direction : Direction) → direction_of (is_across direction) ≡ direction
direction_again Across = refl
direction_again Down = refl

abbrev coded_direction : Coded Direction
coded_direction = code_by Bool coded_bool is_across direction_of direction_again

abbrev coded_light : Coded Light
coded_light = code_by ((ℕ × Direction) × ((ℕ × ℕ) × ℕ)) (coded× (coded× coded_ℕ coded_direction) (coded× (coded× coded_ℕ coded_ℕ) coded_ℕ))
    (λ light. ((light.name.number, light.name.direction), ((light.start.row, light.start.col), light.size)))
    (λ parts. record { name = record { number = parts.0.0; direction = parts.0.1 }; start = record { row = parts.1.0.0; col = parts.1.0.1 }; size = parts.1.1 }) (λ light. refl)

pub SameShape-prop : (one other : Grid) → IsProp (SameShape one other)
SameShape-prop one other x y = λ i. record {
  lights = Coded-set (coded_list coded_light) _ _ x.lights y.lights i;
  opens = Π_prop (λ cell. Coded-set coded_bool _ _) x.opens y.opens i;
  cells = Coded-set coded_ℕ _ _ x.cells y.cells i;
}
