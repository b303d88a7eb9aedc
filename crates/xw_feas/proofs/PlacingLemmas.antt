-- Placing a word of letters in a light.
use Rattle.std.proofs.Common.{◌≡◌, ◌≢◌, ℕ, suc, ◌+◌, ◌-◌, ◌<◌, ◌≤◌, Bool, true, false, cond, List, [], ◌∷◌, map, length, get_or, Some, None, refl, sym, ◌∙◌, ap, arith}
use Rattle.std.specs.Prelude.{Result, Ok, Err, All, position, nat_le, not}
use Rattle.std.proofs.lemmas.Bool.{or_left, eq-eqb, ne_eqb, leb-true}
use Rattle.xw_text.proofs.Position.{position_is_none}
use Rattle.xw_letters.specs.Letter.{IsLetter, folded}
use Rattle.xw_letters.proofs.LetterSetLemmas.{letter_is_capital}
use Rattle.xw_words.specs.declared.fault.WordFault.TheVariants as words
use Rattle.xw_words.specs.Word.{is_bad_letter}
use Rattle.xw_words.specs.Dictionary.{IsDictionary, known_words, entry_at, no_entry}
use Rattle.xw_grid.specs.Grid.{Grid}
use Rattle.xw_grid.specs.declared.cell.LightName.{LightName}
use Rattle.xw_grid.specs.declared.lights.Light.{Light}
use Rattle.xw_grid.specs.Light.{lights_of, cells_of, index_named, no_light}
use Rattle.xw_feas.specs.declared.edit.Refusal.{Refusal}
use Rattle.xw_feas.specs.declared.edit.Refusal.TheVariants as refusals
use Rattle.xw_feas.specs.State.{State, grid_after, placed_in, spelled_in, place_word, with_letters, light_of, known_count, known_placed}
use Rattle.xw_feas.proofs.LightsLemmas.{found_by_name}

good_letter : (code : ℕ) → IsLetter code → is_bad_letter code ≡ false
good_letter code is = ap not (or_left _ _ (letter_is_capital code is))

good_letters : (word : List ℕ) → All IsLetter word → position is_bad_letter word ≡ None
good_letters word letters = position_is_none is_bad_letter word 0 (λ k below. good_letter (get_or word k 0) (letters k 0 below))

pub folded_letter : (code : ℕ) → IsLetter code → folded code ≡ code
folded_letter code is = ap (λ b. cond b (code - 32) code) (not_above (nat_le 97 code) refl) where
  not_above : (b : Bool) → nat_le 97 code ≡ b → nat_le 97 code ≡ false
  not_above false e = e
  not_above true e = let above : 97 ≤ code = leb-true 97 code e in absurd (omega (arith, is.1))

folded_letters : (word : List ℕ) → All IsLetter word → map folded word ≡ word
folded_letters [] letters = refl
folded_letters (letter ∷ word) letters = rw (folded_letter letter (letters 0 0 (omega arith)), folded_letters word (λ k d below. letters (suc k) d (omega arith))) refl

-- the grid after the word that bytes spell was placed in a light
pub bytes_placed : (grid : Grid) (name : LightName) (light : ℕ) (bytes : List ℕ) → index_named (lights_of grid) name ≡ Some light → position is_bad_letter bytes ≡ None → length bytes ≡ (get_or (lights_of grid) light no_light).size
    → place_word grid name bytes ≡ Ok (with_letters grid (cells_of (get_or (lights_of grid) light no_light)) (map folded bytes))
bytes_placed grid name light bytes named letters long =
    let found = get_or (lights_of grid) light no_light in
    ap (λ index. placed_in grid index bytes) named
    ∙ ap (λ bad. spelled_in grid found bad bytes) letters
    ∙ ap (λ b. cond {A = Result Grid Refusal} b (Ok (with_letters grid (cells_of found) (map folded bytes))) (Err refusals.PlaceLength)) (eq-eqb (length bytes) found.size long)

-- the same by the name of the light
pub bytes_accepted : (grid : Grid) (light : ℕ) (bytes : List ℕ) → light < length (lights_of grid) → position is_bad_letter bytes ≡ None → length bytes ≡ (get_or (lights_of grid) light no_light).size
    → place_word grid (get_or (lights_of grid) light no_light).name bytes ≡ Ok (with_letters grid (cells_of (get_or (lights_of grid) light no_light)) (map folded bytes))
bytes_accepted grid light bytes in_grid letters long = bytes_placed grid (get_or (lights_of grid) light no_light).name light bytes (found_by_name grid light no_light in_grid) letters long

-- why a word cannot be placed
pub no_light_refused : (lights : List Light) (name : LightName) (bytes : List ℕ) → index_named lights name ≡ None → (grid : Grid) → lights ≡ lights_of grid → place_word grid name bytes ≡ Err refusals.NoLight
no_light_refused lights name bytes none grid are = ap (λ ls. placed_in grid (index_named ls name) bytes) (sym are) ∙ ap (λ index. placed_in grid index bytes) none

pub letter_refused : (lights : List Light) (name : LightName) (bytes : List ℕ) (light at : ℕ) → index_named lights name ≡ Some light → position is_bad_letter bytes ≡ Some at → (grid : Grid) → lights ≡ lights_of grid
    → place_word grid name bytes ≡ Err (refusals.Word (words.BadLetter (at + 1)))
letter_refused lights name bytes light at named bad grid are =
    ap (λ ls. placed_in grid (index_named ls name) bytes) (sym are)
    ∙ ap (λ index. placed_in grid index bytes) named
    ∙ ap (λ bad. spelled_in grid (get_or (lights_of grid) light no_light) bad bytes) bad

pub length_refused : (lights : List Light) (name : LightName) (bytes : List ℕ) (light : ℕ) → index_named lights name ≡ Some light → position is_bad_letter bytes ≡ None → length bytes ≢ (get_or lights light no_light).size → (grid : Grid) → lights ≡ lights_of grid
    → place_word grid name bytes ≡ Err refusals.PlaceLength
length_refused lights name bytes light named letters other grid are =
    let found = get_or (lights_of grid) light no_light in
    ap (λ ls. placed_in grid (index_named ls name) bytes) (sym are)
    ∙ ap (λ index. placed_in grid index bytes) named
    ∙ ap (λ bad. spelled_in grid found bad bytes) letters
    ∙ ap (λ b. cond {A = Result Grid Refusal} b (Ok (with_letters grid (cells_of found) (map folded bytes))) (Err refusals.PlaceLength)) (ne_eqb (length bytes) found.size (λ e. other (e ∙ ap (λ ls. (get_or ls light no_light).size) (sym are))))

-- the grid after a word of letters was placed in a light
pub word_accepted : (grid : Grid) (light : ℕ) (word : List ℕ) → light < length (lights_of grid) → All IsLetter word → length word ≡ (get_or (lights_of grid) light no_light).size
    → place_word grid (get_or (lights_of grid) light no_light).name word ≡ Ok (with_letters grid (cells_of (get_or (lights_of grid) light no_light)) word)
word_accepted grid light word in_grid letters long =
    bytes_accepted grid light word in_grid (good_letters word letters) long
    ∙ ap (λ w. Ok (with_letters grid (cells_of (get_or (lights_of grid) light no_light)) w)) (folded_letters word letters)

-- the letters of a known word of the length of a light
pub known_letters : (state : State) (light index : ℕ) → IsDictionary state.words → index < known_count state light → All IsLetter (entry_at (known_words state.words (light_of state light).size) index).word
known_letters state light index is within = (is.words (light_of state light).size).letters index no_entry within

pub known_length : (state : State) (light index : ℕ) → IsDictionary state.words → index < known_count state light → length (entry_at (known_words state.words (light_of state light).size) index).word ≡ (light_of state light).size
known_length state light index is within = (is.words (light_of state light).size).long index no_entry within

-- the grid after a known word was placed in a light
pub known_accepted : (state : State) (light index : ℕ) → IsDictionary state.words → light < length (lights_of state.grid) → index < known_count state light
    → grid_after state.grid (known_placed state light index) ≡ Ok (with_letters state.grid (cells_of (light_of state light)) (entry_at (known_words state.words (light_of state light).size) index).word)
known_accepted state light index is in_grid within =
    word_accepted state.grid light _ in_grid (known_letters state light index is within) (known_length state light index is within)
