-- Properties that placing words does not change.
use Rattle.std.proofs.Common.{◌≡◌, ℕ, ◌<◌, ◌≤◌, true, [], length, get_or, sym, ◌∙◌, arith, inl, inr}
use Rattle.std.proofs.lemmas.Bool.{cases_order}
use Rattle.std.proofs.lemmas.List.{get_or-map, length-map}
use Rattle.xw_words.specs.Dictionary.{Entry, Dictionary, IsDictionary, no_entry, known_words}
use Rattle.xw_feas.specs.WellFormed.{IsLaidOut}
use Rattle.xw_feas.specs.Board.{Board, is_open, light_at}
use Rattle.xw_feas.specs.Known.{spellings}

-- lights are runs of open cells, and two lights share at most one cell
pub record IsShaped (board : Board) : Type 0 where
  pub entries : length board.entries ≡ length board.open_cells
  pub short : (light : ℕ) → length (light_at board light) ≤ 255
  pub cells_open : (light k : ℕ) → k < length (light_at board light) → is_open board (get_or (light_at board light) k 0) ≡ true
  pub distinct : (light j k : ℕ) → j < length (light_at board light) → k < length (light_at board light) → get_or (light_at board light) j 0 ≡ get_or (light_at board light) k 0 → j ≡ k
  pub cross_once : (light other i j k l : ℕ) → (light ≡ other → ⊥) → i < length (light_at board light) → k < length (light_at board light) → j < length (light_at board other) → l < length (light_at board other) → get_or (light_at board light) i 0 ≡ get_or (light_at board other) j 0 → get_or (light_at board light) k 0 ≡ get_or (light_at board other) l 0 → i ≡ k

-- no word is known twice, and the number of words of each length is bounded
pub record HasDistinctWords (dictionary : Dictionary) : Type 0 where
  pub distinct : (len j k : ℕ) → j < length (spellings dictionary len) → k < length (spellings dictionary len) → get_or (spellings dictionary len) j [] ≡ get_or (spellings dictionary len) k [] → j ≡ k
  pub few : (len : ℕ) → length (spellings dictionary len) ≤ 1048576

pub shaped : (board : Board) → IsLaidOut board → IsShaped board
shaped board laid = record { entries = laid.entries; short = laid.short; cells_open = laid.cells_open; distinct = laid.distinct; cross_once = laid.cross_once }

pub distinct_words : (dictionary : Dictionary) → IsDictionary dictionary → HasDistinctWords dictionary
distinct_words dictionary is = record {
  distinct = λ len j k below_j below_k e.
      let known = known_words dictionary len in
      let long = length-map known (λ (w : Entry). w.word) in
      let at : (i : ℕ) → i < length known → get_or (spellings dictionary len) i [] ≡ (get_or known i no_entry).word = λ i below. get_or-map (λ (w : Entry). w.word) known i no_entry [] below in
      let in_j : j < length known = omega (arith, long, below_j) in
      let in_k : k < length known = omega (arith, long, below_k) in
      let same = sym (at j in_j) ∙ e ∙ at k in_k in
      elim (cases_order j k) [
        | inl here ↦ here
        | inr apart ↦ elim apart [
          | inl before ↦ absurd ((is.words len).distinct j k no_entry before in_k same)
          | inr later ↦ absurd ((is.words len).distinct k j no_entry later in_j (sym same))
        ]
      ];
  few = λ len. let long = length-map (known_words dictionary len) (λ (w : Entry). w.word) in omega (arith, long, (is.words len).few);
}
