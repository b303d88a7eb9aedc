-- Entered lights of a fill have feasible words.
use Rattle.std.proofs.Common.{◌≡◌, ℕ, ◌<◌, Bool, true, false, cond, ◌&&◌, List, [], ◌∷◌, map, length, refl, sym, ◌∙◌, ap, subst, arith, inl}
use Rattle.std.specs.Prelude.{filter}
use Rattle.std.proofs.lemmas.Bool.{and_from, ne_eqb}
use Rattle.std.proofs.lemmas.List.{get_or-map}
use Rattle.xw_feas.specs.Board.{Board, agrees, light_at, is_wholly_entered, spelled}
use Rattle.xw_words.specs.Dictionary.{Entry, Dictionary, known_words}
use Rattle.xw_feas.specs.Feasible.{base_words, base_words_at}
use Rattle.xw_search.specs.Position.{Position}
use Rattle.xw_search.specs.Listing.{IsActive}
use Rattle.xw_search.specs.FeasibleWords.{feasible_words}
use Rattle.xw_search.specs.Lights.{lacks_words}
use Rattle.xw_search.proofs.BelowLemmas.{Among, Among-contained, Contains-among, Among-filter, Among-map}
use Rattle.xw_search.proofs.PlacingLemmas.{agrees-length}

-- ---- Every fill gives a supported family.

-- an active word that agrees is a base word
pub active_base : (board : Board) (dictionary : Dictionary) (light : ℕ) (word : List ℕ) → light < length board.lights → is_wholly_entered board (light_at board light) ≡ false → IsActive dictionary word → agrees board (light_at board light) word ≡ true → Among word (base_words_at board dictionary light)
active_base board dictionary light word below not_entered active fits =
    let test : Entry → Bool = λ known. known.active && agrees board (light_at board light) known.word in
    let words = known_words dictionary (length (light_at board light)) in
    let here : base_words_at board dictionary light ≡ map (λ (known : Entry). known.word) (filter test words) = get_or-map (base_words board dictionary) board.lights light [] [] below ∙ ap (λ b. cond b (spelled board (light_at board light) ∷ []) (map (λ (known : Entry). known.word) (filter test words))) not_entered in
    let is : Entry = active.0 in
    let known : Among is words = subst (λ n. Among is (known_words dictionary n)) (agrees-length board (light_at board light) word fits) (Among-contained is (known_words dictionary (length word)) active.1.0) in
    let passes : test is ≡ true = and_from _ _ active.1.2 (ap (agrees board (light_at board light)) active.1.1 ∙ fits) in
    let among : Among is.word (map (λ (w : Entry). w.word) (filter test words)) = Among-map (λ (w : Entry). w.word) is (filter test words) (Among-filter test words is known passes) in
    subst (Among word) (sym here) (subst (λ w. Among w (map (λ (w : Entry). w.word) (filter test words))) active.1.1 among)

pub entered_base : (board : Board) (dictionary : Dictionary) (light : ℕ) → light < length board.lights → is_wholly_entered board (light_at board light) ≡ true → Among (spelled board (light_at board light)) (base_words_at board dictionary light)
entered_base board dictionary light below entered =
    let test : Entry → Bool = λ known. known.active && agrees board (light_at board light) known.word in
    let here : base_words_at board dictionary light ≡ spelled board (light_at board light) ∷ [] = get_or-map (base_words board dictionary) board.lights light [] [] below ∙ ap (λ b. cond b (spelled board (light_at board light) ∷ []) (map (λ (known : Entry). known.word) (filter test (known_words dictionary (length (light_at board light)))))) entered in
    subst (Among (spelled board (light_at board light))) (sym here) (inl refl)

-- ---- If a fill exists, one is found.

pub has_words : (position : Position) (light : ℕ) (word : List ℕ) → Among word (feasible_words position light) → lacks_words position light ≡ false
has_words position light word among =
    let found = Contains-among word (feasible_words position light) among in
    ne_eqb (length (feasible_words position light)) 0 (λ e. absurd (let below : found.0 < length (feasible_words position light) = found.1 in omega arith))
