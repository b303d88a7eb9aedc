-- What follows once a rule accepts an edit.
use Rattle.std.proofs.Common.{◌≡◌, ℕ, List, [], length, map, set, refl, sym, ◌∙◌, ap}
use Rattle.std.proofs.lemmas.List.{length-map}
use Rattle.std.specs.Prelude.{Option, Result, Ok, Err, IsOk}
use Rattle.xw_words.specs.declared.fault.WordFault.{WordFault}
use Rattle.xw_words.specs.declared.bank.Added.TheVariants.{Returned}
use Rattle.xw_letters.specs.Letter.{folded}
use Rattle.xw_words.specs.Dictionary.{Dictionary, Entry, known_words, with_row, entry_at, returned, with_struck, add_answer, after_add, strike_answer, after_strike, capped, with_least}
use Rattle.xw_words.proofs.DictionaryLemmas.{after_set, row-with_least, length-limited}
use Rattle.xw_grid.specs.declared.fault.GridFault.{GridFault}
use Rattle.xw_grid.specs.Grid.{Grid}
use Rattle.xw_feas.specs.declared.edit.Refusal.{Refusal}
use Rattle.xw_feas.specs.State.{State, Action, letter_set, cell_cleared, word_placed, list_written, block_toggled, bar_toggled, symmetry_chosen, word_added, word_struck, least_chosen, after, grid_after, with_grid, with_words, by_fault, add_word, strike_word, answered}
use Rattle.xw_feas.specs.Shape.{SameCounts}

-- an edit of the grid that is not refused
pub fault_taken : (result : Result Grid GridFault) → IsOk (by_fault result) → IsOk result
fault_taken (Ok grid) ok = ok
fault_taken (Err fault) ok = cc

pub by_fault-Ok : (result : Result Grid GridFault) (new : Grid) → by_fault result ≡ Ok new → result ≡ Ok new
by_fault-Ok (Ok grid) new h = cc
by_fault-Ok (Err fault) new h = cc

-- ---- the two parts of a state

pub with_grid-Ok : (state next : State) (result : Result Grid Refusal) → with_grid state result ≡ Ok next → (result ≡ Ok next.grid) × (next.words ≡ state.words)
with_grid-Ok state next (Ok grid) h =
    let is : record state { grid = grid } ≡ next = cc in
    (ap (λ (s : State). Ok s.grid) is, sym (ap (λ (s : State). s.words) is))
with_grid-Ok state next (Err refusal) h = cc

pub with_words-Ok : (state next : State) (result : Result Dictionary WordFault) → with_words state result ≡ Ok next → (result ≡ Ok next.words) × (next.grid ≡ state.grid)
with_words-Ok state next (Ok words) h =
    let is : record state { words = words } ≡ next = cc in
    (ap (λ (s : State). Ok s.words) is, sym (ap (λ (s : State). s.grid) is))
with_words-Ok state next (Err fault) h = cc

pub grid_of_after : (state next : State) (action : Action) → after state action ≡ Ok next → grid_after state.grid action ≡ Ok next.grid
grid_of_after state next (letter_set cell letter) h = (with_grid-Ok state next (grid_after state.grid (letter_set cell letter)) h).0
grid_of_after state next (cell_cleared cell) h = (with_grid-Ok state next (grid_after state.grid (cell_cleared cell)) h).0
grid_of_after state next (word_placed name bytes) h = (with_grid-Ok state next (grid_after state.grid (word_placed name bytes)) h).0
grid_of_after state next (list_written list) h = (with_grid-Ok state next (grid_after state.grid (list_written list)) h).0
grid_of_after state next (block_toggled cell) h = (with_grid-Ok state next (grid_after state.grid (block_toggled cell)) h).0
grid_of_after state next (bar_toggled cell side) h = (with_grid-Ok state next (grid_after state.grid (bar_toggled cell side)) h).0
grid_of_after state next (symmetry_chosen kind) h = (with_grid-Ok state next (grid_after state.grid (symmetry_chosen kind)) h).0
grid_of_after state next (word_added word grade) h = ap Ok (sym (with_words-Ok state next (add_word state.words word grade) h).1)
grid_of_after state next (word_struck word) h = ap Ok (sym (with_words-Ok state next (strike_word state.words word) h).1)
grid_of_after state next (least_chosen grade) h =
    let is : record state { words = with_least grade state.words } ≡ next = cc in
    ap (λ (s : State). Ok s.grid) is

-- ---- a word that comes back or is struck, by its index

abbrev ok_with : State → Dictionary → Result State Refusal
ok_with state words = Ok (record state { words = words })

pub returned_made : (state : State) (bytes : List ℕ) (grade : Option ℕ) (index : ℕ) → add_answer state.words bytes ≡ Ok (Returned index)
    → after state (word_added bytes grade) ≡ Ok (record state { words = with_row state.words (length bytes) (set (known_words state.words (length bytes)) index (returned state.words.least grade (entry_at (known_words state.words (length bytes)) index))) })
returned_made state bytes grade index h =
    ap (λ answer. with_words state (answered (after_add state.words (map folded bytes) grade) answer)) h
    ∙ ap (λ n. ok_with state (with_row state.words n (set (known_words state.words n) index (returned state.words.least grade (entry_at (known_words state.words n) index))))) (length-map bytes folded)

pub struck_made : (state : State) (bytes : List ℕ) (index : ℕ) → strike_answer state.words bytes ≡ Ok index
    → after state (word_struck bytes) ≡ Ok (record state { words = with_row state.words (length bytes) (with_struck (known_words state.words (length bytes)) index) })
struck_made state bytes index h =
    ap (λ answer. with_words state (answered (after_strike state.words (map folded bytes)) answer)) h
    ∙ ap (λ n. ok_with state (with_row state.words n (with_struck (known_words state.words n) index))) (length-map bytes folded)

-- other words of one length, as many as before
pub row_counts : (words : Dictionary) (len : ℕ) (entries : List Entry) → length entries ≡ length (known_words words len) → SameCounts words (with_row words len entries)
row_counts words len entries same k = after_set (λ (es : List Entry). length es ≡ length (known_words words k)) words.rows len entries k [] (λ e. same ∙ ap (λ n. length (known_words words n)) (sym e)) refl

pub least_counts : (grade : ℕ) (words : Dictionary) → SameCounts words (with_least grade words)
least_counts grade words len = ap length (row-with_least grade words len) ∙ length-limited (capped grade) (known_words words len)
