-- States that can share a snapshot.
use Rattle.std.proofs.Common.{◌≡◌, ℕ, suc, List, [], ◌∷◌, map, length, get_or, refl, sym, ◌∙◌, ap, arith}
use Rattle.std.proofs.lemmas.Simd.{map-map}
use Rattle.xw_words.specs.Dictionary.{Dictionary, Entry, no_entry, known_words, capped, AreLeft, limited, all_limited, with_least}
use Rattle.xw_words.proofs.DictionaryLemmas.{length-limited, row-with_least}
use Rattle.xw_feas.specs.Shape.{SameCounts}
use Rattle.xw_feas.specs.Snapshot.{IsTwin, CanSave}
use Rattle.xw_feas.specs.State.{State}
use Rattle.xw_feas.specs.WellFormed.{IsWellFormed}
use Rattle.xw_feas.proofs.ShapeLemmas.{SameShape-then}

-- ---- dictionaries with another least grade

-- the least grade that is chosen last counts
limited-again : (grade other : ℕ) (entries : List Entry) → all_limited grade (all_limited other entries) ≡ all_limited grade entries
limited-again grade other entries = map-map (limited grade) (limited other) entries

rows-again : (grade other : ℕ) (rows : List (List Entry)) → map (all_limited grade) (map (all_limited other) rows) ≡ map (all_limited grade) rows
rows-again grade other [] = refl
rows-again grade other (entries ∷ rows) = ap (λ first. first ∷ map (all_limited grade) (map (all_limited other) rows)) (limited-again grade other entries) ∙ ap (λ rest. all_limited grade entries ∷ rest) (rows-again grade other rows)

pub with_least-again : (words : Dictionary) (grade other : ℕ) → with_least grade (with_least other words) ≡ with_least grade words
with_least-again words grade other = ap (λ rows. record { rows = rows; least = capped grade }) (rows-again (capped grade) (capped other) words.rows)

-- the least grade chosen again
limited-same : (least : ℕ) (entries : List Entry) → AreLeft least entries → all_limited least entries ≡ entries
limited-same least [] are = refl
limited-same least (entry ∷ entries) are =
    let here : limited least entry ≡ entry = ap (λ active. record { word = entry.word; active = active; struck = entry.struck; grade = entry.grade; regraded = entry.regraded }) (sym (are 0 no_entry (omega arith))) in
    ap (λ first. first ∷ all_limited least entries) here ∙ ap (λ rest. entry ∷ rest) (limited-same least entries (λ k d below. are (suc k) d (omega (arith, below))))

rows-same : (least : ℕ) (rows : List (List Entry)) → ((len : ℕ) → AreLeft least (get_or rows len [])) → map (all_limited least) rows ≡ rows
rows-same least [] are = refl
rows-same least (entries ∷ rows) are = ap (λ first. first ∷ map (all_limited least) rows) (limited-same least entries (are 0)) ∙ ap (λ rest. entries ∷ rest) (rows-same least rows (λ len. are (suc len)))

pub with_least-same : (state : State) → IsWellFormed state → with_least state.words.least state.words ≡ state.words
with_least-same state formed =
    let within = formed.dictionary.least in
    let is : capped state.words.least ≡ state.words.least = omega (arith, within) in
    ap (λ least. record { rows = map (all_limited least) state.words.rows; least = least }) is
    ∙ ap (λ rows. record { rows = rows; least = state.words.least }) (rows-same state.words.least state.words.rows formed.dictionary.left)

-- ---- twins

pub IsTwin-itself : (state : State) → IsTwin state state
IsTwin-itself state = record { shape = record { lights = refl; opens = λ cell. refl; cells = refl }; words = refl }

pub IsTwin-then : (first second third : State) → IsTwin first second → IsTwin second third → IsTwin first third
IsTwin-then first second third a b = record { shape = SameShape-then first.grid second.grid third.grid a.shape b.shape; words = b.words ∙ a.words }

pub IsTwin-turned : (first second : State) → IsTwin first second → IsTwin second first
IsTwin-turned first second twin = record {
  shape = record { lights = sym twin.shape.lights; opens = λ cell. sym (twin.shape.opens cell); cells = sym twin.shape.cells };
  words = sym twin.words;
}

-- ---- states that a snapshot can save

pub CanSave-twin : (old new : State) → IsTwin old new → CanSave old new
CanSave-twin old new twin = record { shape = twin.shape; words = λ grade. ap (with_least grade) twin.words }

pub CanSave-itself : (state : State) → CanSave state state
CanSave-itself state = CanSave-twin state state (IsTwin-itself state)

pub CanSave-then : (first second third : State) → CanSave first second → CanSave second third → CanSave first third
CanSave-then first second third a b = record { shape = SameShape-then first.grid second.grid third.grid a.shape b.shape; words = λ grade. b.words grade ∙ a.words grade }

-- the state with another least grade, and back
pub CanSave-least : (state : State) (grade : ℕ) → CanSave state (record state { words = with_least grade state.words })
CanSave-least state grade = record { shape = (IsTwin-itself state).shape; words = λ other. with_least-again state.words other grade }

-- the known words of each length are as many
pub saved_counts : (old new : State) → CanSave old new → SameCounts old.words new.words
saved_counts old new can len =
    sym (length-limited (capped 0) (known_words new.words len))
    ∙ ap length (sym (row-with_least 0 new.words len))
    ∙ ap (λ (words : Dictionary). length (known_words words len)) (can.words 0)
    ∙ ap length (row-with_least 0 old.words len)
    ∙ length-limited (capped 0) (known_words old.words len)

-- the dictionary of a saved state, from that of a state that it can be exchanged with
pub saved_again : (saved now : State) (least : ℕ) → IsWellFormed saved → least ≡ saved.words.least → CanSave saved now → with_least least now.words ≡ saved.words
saved_again saved now least formed same can = can.words least ∙ ap (λ n. with_least n saved.words) same ∙ with_least-same saved formed
