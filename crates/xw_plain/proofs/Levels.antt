-- The levels of a search, and the letters and words that lead from one to the next.
use Rattle.std.proofs.Common.{◌≡◌, ℕ, ◌<◌, Bool, true, false, ◌==◌, List, [], ◌∷◌, ◌++◌, map, length, get_or, if◌then◌else◌, Option, Some, None, refl, sym, ◌∙◌, ap, subst, inl, inr}
use Rattle.std.specs.Prelude.{All, Ok, IfSome, IfNone, bytes_eq}
use Rattle.std.specs.List.{list_any}
use Rattle.std.proofs.lemmas.Bool.{cases_eq, eq-eqb, ne_eqb, false≢true, or_left}
use Rattle.std.proofs.lemmas.List.{map_push, nil_from_length, same_from_push}
use Rattle.std.proofs.lemmas.Slice.Eq.{bytes_eq-Decides}
use Rattle.xw_grid.specs.EditLaws.{SameShape}
use Rattle.xw_grid.specs.Grid.{Grid}
use Rattle.xw_feas.specs.Board.{board_of}
use Rattle.xw_words.specs.Dictionary.{Dictionary, capped, known_words, with_least}
use Rattle.xw_words.proofs.DictionaryLemmas.{length-limited, row-with_least}
use Rattle.xw_feas.specs.Shape.{SameCounts}
use Rattle.xw_feas.specs.State.{State, Action, after}
use Rattle.xw_grid.specs.Light.{lights_of}
use Rattle.xw_feas.specs.Feasible.{Answers, AreAnswers, answers_word}
use Rattle.xw_feas.specs.Queries.{words_of}
use Rattle.xw_feas.specs.Trying.{IsDeadLight, IsTried}
use Rattle.xw_feas.proofs.Elements.{all_pushed}
use Rattle.xw_feas.proofs.ShapeLemmas.{SameShape-itself, SameShape-then}

-- ---- grids of the same shape

-- the levels after the grid was exchanged for one of the same shape
pub alike_then : (levels : List Grid) (before now : Grid) → SameShape before now → All (λ level. SameShape level before) levels → All (λ level. SameShape level now) levels
alike_then levels before now shape all = λ k d below. SameShape-then (get_or levels k d) before now (all k d below) shape

-- the levels after a copy of the grid was pushed, if there was room for it
pub alike_pushed : (levels items : List Grid) (level now : Grid) (pushed : Bool) → items ≡ (if pushed then levels ++ level ∷ [] else levels) → level ≡ now → All (λ level. SameShape level now) levels → All (λ level. SameShape level now) items
alike_pushed levels items level now pushed are same all =
    all_pushed (λ level. SameShape level now) levels items level pushed are (subst (λ grid. SameShape grid now) (sym same) (SameShape-itself now)) all

-- the levels without the last one, to which the engine went back
pub taken_levels : (items rest : List Grid) (grid : Grid) (words : Dictionary) (now : State) → items ≡ rest ++ grid ∷ [] → now ≡ record { grid = grid; words = words }
    → map (λ grid. record { grid = grid; words = words }) items ≡ map (λ grid. record { grid = grid; words = now.words }) rest ++ now ∷ []
taken_levels items rest grid words now are is =
    ap (map (λ grid. record { grid = grid; words = words })) are
    ∙ map_push (λ grid. record { grid = grid; words = words }) rest grid
    ∙ ap (λ (state : State). map (λ grid. record { grid = grid; words = state.words }) rest ++ state ∷ []) (sym is)

-- ---- another least grade

-- as many words of each length are known
pub counts_kept : (words : Dictionary) (least : ℕ) → SameCounts words (with_least least words)
counts_kept words least len = ap length (row-with_least least words len) ∙ length-limited (capped least) (known_words words len)

-- ---- dead lights

-- a light without words in the answers is dead
pub dead_from : (state : State) (answers : Answers) (light : ℕ) → AreAnswers (board_of state.grid) state.words answers → light < length (lights_of state.grid) → length (words_of answers light) ≡ 0 → IsDeadLight state light
dead_from state answers light exact within none = record {
  within = within;
  dead = λ word feasible. false≢true (sym (ap (list_any (bytes_eq word)) (nil_from_length (words_of answers light) none)) ∙ (exact.words light word).1 feasible);
}

-- and a light with some is not
pub alive_from : (state : State) (answers : Answers) (light : ℕ) → AreAnswers (board_of state.grid) state.words answers → (length (words_of answers light) ≡ 0 → ⊥) → IsDeadLight state light → ⊥
alive_from state answers light exact some dead = split (words_of answers light) refl where
  split : (words : List (List ℕ)) → words_of answers light ≡ words → ⊥
  split [] are = some (ap length are)
  split (word ∷ words) are =
      let told : answers_word answers light word ≡ true = ap (list_any (bytes_eq word)) are ∙ or_left (bytes_eq word word) (list_any (bytes_eq word) words) ((bytes_eq-Decides word word).1 refl) in
      dead.dead word ((exact.words light word).0 told)

-- ---- a placement that is tried

-- it stands, or a watched light is dead where it leads, and the level was taken back
pub tried_level : (before there now : State) (action : Action) (watched : List Bool) (dead : Option ℕ) (levels left : List State) → after before action ≡ Ok there → IfSome dead (λ light. get_or watched light false ≡ true) → IfSome dead (IsDeadLight there) → IfSome dead (λ light. levels ++ before ∷ [] ≡ left ++ now ∷ [])
    → IfNone dead ((light : ℕ) → get_or watched light false ≡ true → IsDeadLight there light → ⊥) → IfNone dead (now ≡ there) → IsTried before action watched dead now
tried_level before there now action watched None levels left made watch dies back alive same =
    record { made = made ∙ ap Ok (sym same); alive = λ light watch dead. absurd (alive light watch (subst (λ state. IsDeadLight state light) same dead)) }
tried_level before there now action watched (Some light) levels left made watch dies back alive same =
    (sym (same_from_push levels left before now back).1, record { is_watched = watch; there = there; made = made; dead = dies })

pub none_then : {A B : Type 0} (dead : Option ℕ) → IfNone dead A → (A → B) → IfNone dead B
none_then None is f = f is
none_then (Some light) is f = is

pub is_zero : (n : ℕ) → (n == 0) ≡ true → n ≡ 0
is_zero n told = elim (cases_eq n 0) [
  | inl e ↦ e
  | inr ne ↦ absurd (false≢true (sym (ne_eqb n 0 ne) ∙ told))
]

pub not_zero : (n : ℕ) → (n == 0) ≡ false → n ≡ 0 → ⊥
not_zero n told is = false≢true (sym told ∙ eq-eqb n 0 is)
