-- Lights that have the same letters, and the words of a light.
use Rattle.std.proofs.Common.{◌≡◌, ◌≢◌, ℕ, suc, ◌<◌, ◌≤◌, Bool, true, false, cond, ◌&&◌, List, [], ◌∷◌, map, length, get_or, refl, sym, ◌∙◌, ap, subst, arith, inl, inr}
use Rattle.std.specs.Prelude.{filter, Contains, bytes_eq, unwrap_or}
use Rattle.std.proofs.lemmas.Bool.{and_parts, false≢true, cases_lt, false_from_ne_true, ne_eqb}
use Rattle.std.proofs.lemmas.List.{get_or_past, get_or-map, length-map}
use Rattle.std.proofs.lemmas.Slice.Eq.{bytes_eq-Decides}
use Rattle.xw_feas.specs.Board.{Board, entry, agrees, light_at, is_wholly_entered, spelled}
use Rattle.xw_words.specs.Dictionary.{Entry, Dictionary, known_words}
use Rattle.xw_feas.specs.Feasible.{base_words, base_words_at}
use Rattle.xw_search.specs.Position.{Position}
use Rattle.xw_search.proofs.Shaped.{IsShaped}
use Rattle.xw_search.specs.FeasibleWords.{feasible_words}
use Rattle.xw_search.specs.Listing.{IsActive}
use Rattle.xw_search.specs.Lights.{lacks_words}
use Rattle.xw_search.proofs.BelowLemmas.{Among, Among-filtered, Contains-among}
use Rattle.xw_search.proofs.PlacingLemmas.{agrees-length}

-- the base words of a light that is not wholly entered are active and agree with its entries
known_word : (dictionary : Dictionary) (test : Entry → Bool) (words : List Entry) (word : List ℕ) → Among word (map (λ (known : Entry). known.word) words) → (known : Entry) × Among known words × (known.word ≡ word)
known_word dictionary test [] word h = absurd h
known_word dictionary test (known ∷ words) word (inl e) = (known, inl refl, e)
known_word dictionary test (known ∷ words) word (inr h) = let found = known_word dictionary test words word h in (found.0, inr found.1, found.2)

pub open_base : (board : Board) (dictionary : Dictionary) (light : ℕ) (word : List ℕ) → light < length board.lights → is_wholly_entered board (light_at board light) ≡ false → Among word (base_words_at board dictionary light) → IsActive dictionary word × (agrees board (light_at board light) word ≡ true)
open_base board dictionary light word below not_entered among =
    let test : Entry → Bool = λ known. known.active && agrees board (light_at board light) known.word in
    let words = known_words dictionary (length (light_at board light)) in
    let here : base_words_at board dictionary light ≡ map (λ (known : Entry). known.word) (filter test words) = get_or-map (base_words board dictionary) board.lights light [] [] below ∙ ap (λ b. cond b (spelled board (light_at board light) ∷ []) (map (λ (known : Entry). known.word) (filter test words))) not_entered in
    let found = known_word dictionary test (filter test words) word (subst (Among word) here among) in
    let known = Among-filtered test words found.0 found.1 in
    let parts = and_parts found.0.active (agrees board (light_at board light) found.0.word) known.1 in
    let fits : agrees board (light_at board light) word ≡ true = ap (agrees board (light_at board light)) (sym found.2) ∙ parts.1 in
    let long : length word ≡ length (light_at board light) = agrees-length board (light_at board light) word fits in
    let there : Contains (known_words dictionary (length word)) found.0 = subst (λ n. Contains (known_words dictionary n) found.0) (sym long) (Contains-among found.0 words known.0) in
    ((found.0, (there, found.2, parts.0)), fits)

-- the cells of a light are on the board
pub cells_within : (board : Board) → IsShaped board → (light k : ℕ) → k < length (light_at board light) → get_or (light_at board light) k 0 < length board.entries
cells_within board laid light k below =
    elim (cases_lt (get_or (light_at board light) k 0) (length board.open_cells)) [
      | inl within ↦ omega (arith, laid.entries)
      | inr past ↦ absurd (false≢true (sym (get_or_past board.open_cells (get_or (light_at board light) k 0) false past) ∙ laid.cells_open light k below))
    ]

pub lacks_words-some : (state : Position) (light count : ℕ) → count ≡ length (feasible_words state light) → (count ≡ 0 → ⊥) → lacks_words state light ≡ false
lacks_words-some state light count e some = ne_eqb (length (feasible_words state light)) 0 (λ none. some (e ∙ none))

-- comparing two lists of cells letter by letter
pub spelled_letter : (board : Board) (cells : List ℕ) (k : ℕ) → k < length cells → get_or (spelled board cells) k 0 ≡ unwrap_or (entry board (get_or cells k 0)) 65
spelled_letter board cells k below = get_or-map (λ cell. unwrap_or (entry board cell) 65) cells k 0 0 below

pub differ-at : (board : Board) (cells others : List ℕ) (k : ℕ) → length cells ≡ length others → k < length cells → (unwrap_or (entry board (get_or cells k 0)) 65 ≡ unwrap_or (entry board (get_or others k 0)) 65 → ⊥) → bytes_eq (spelled board cells) (spelled board others) ≡ false
differ-at board cells others k long below differ = false_from_ne_true _ (λ h.
    let same = (bytes_eq-Decides (spelled board cells) (spelled board others)).0 h in
    differ (sym (spelled_letter board cells k below) ∙ ap (λ w. get_or w k 0) same ∙ spelled_letter board others k (omega arith)))

pub differ-length : (board : Board) (cells others : List ℕ) → (length cells ≡ length others → ⊥) → bytes_eq (spelled board cells) (spelled board others) ≡ false
differ-length board cells others differ = false_from_ne_true _ (λ h.
    let same = (bytes_eq-Decides (spelled board cells) (spelled board others)).0 h in
    differ (sym (length-map cells (λ cell. unwrap_or (entry board cell) 65)) ∙ ap length same ∙ length-map others (λ cell. unwrap_or (entry board cell) 65)))

same_letters : (board : Board) (cells others : List ℕ) → length cells ≡ length others → ((k : ℕ) → k < length cells → unwrap_or (entry board (get_or cells k 0)) 65 ≡ unwrap_or (entry board (get_or others k 0)) 65) → spelled board cells ≡ spelled board others
same_letters board [] [] long h = refl
same_letters board [] (other ∷ others) long h = absurd (omega arith)
same_letters board (cell ∷ cells) [] long h = absurd (omega arith)
same_letters board (cell ∷ cells) (other ∷ others) long h = rw (h 0 (omega arith), same_letters board cells others (omega arith) (λ k below. h (suc k) (omega arith))) refl

pub same-all : (board : Board) (cells others : List ℕ) (n : ℕ) → length cells ≡ length others → length cells ≤ n → ((k : ℕ) → k < n → unwrap_or (entry board (get_or cells k 0)) 65 ≡ unwrap_or (entry board (get_or others k 0)) 65) → bytes_eq (spelled board cells) (spelled board others) ≡ true
same-all board cells others n long all h = (bytes_eq-Decides (spelled board cells) (spelled board others)).1 (same_letters board cells others long (λ k below. h k (omega arith)))
