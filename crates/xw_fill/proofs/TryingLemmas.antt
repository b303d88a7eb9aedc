-- What a letter or a word that was tried led to.
use Rattle.std.proofs.Common.{◌≡◌, ℕ, Bool, true, List, [], ◌∷◌, ◌++◌, get_or, map, ap, sym, ◌∙◌, subst, refl}
use Rattle.std.specs.Prelude.{Option, Some, None, Ok}
use Rattle.std.proofs.lemmas.Bool.{or_left}
use Rattle.std.proofs.lemmas.List.{get_or-map}
use Rattle.xw_words.specs.Dictionary.{Entry, known_words, entry_at, no_entry}
use Rattle.xw_feas.specs.State.{State, after, known_placed, light_of}
use Rattle.xw_feas.specs.WellFormed.{IsWellFormed}
use Rattle.xw_feas.specs.Board.{board_of}
use Rattle.xw_feas.specs.Feasible.{IsFeasibleWord}
use Rattle.xw_feas.specs.Trying.{MayTryWord}
use Rattle.xw_search.specs.Below.{any_below}
use Rattle.xw_search.specs.Position.{position_of}
use Rattle.xw_search.specs.Lights.{lacks_words, is_repeat, light_count}
use Rattle.xw_fill.specs.Search.{is_dead}
use Rattle.xw_fill.specs.Words.{spellings_at}
use Rattle.xw_search.specs.Progress.{IsDead}
use Rattle.xw_search.specs.Stack.{StayAlive, HasTried}
use Rattle.xw_fill.specs.Inner.Stepping.{HasDied}
use Rattle.xw_fill.specs.Inner.Tries.{CanBeMade, IsMade}
use Rattle.xw_fill.specs.declared.tries.Try.{Try}
use Rattle.xw_search.proofs.BelowLemmas.{any_below-from}
use Rattle.xw_search.proofs.FeasibleWordsLemmas.{is_feasible_word-gives}
use Rattle.xw_search.proofs.StateLemmas.{in_grid_light, light_size}
use Rattle.xw_fill.proofs.StateLemmas.{known_within, placing_known}

-- ---- words

-- a word that can be made may be tried
pub word_may : (state : State) (tried : Try) → CanBeMade tried state → MayTryWord state tried.light tried.index
word_may state tried can =
    let in_grid = in_grid_light state.grid tried.light can.light_in in
    let found = light_of state tried.light in
    let size = light_size state.grid tried.light found in_grid refl in
    let known = known_words state.words found.size in
    let there = known_within state tried.light tried.index can.light_in can.index_in in
    let word : (entry_at known tried.index).word ≡ get_or (spellings_at (position_of state) tried.light) tried.index [] =
    sym (get_or-map (λ (w : Entry). w.word) known tried.index no_entry [] there) ∙ ap (λ n. get_or (map (λ (w : Entry). w.word) (known_words state.words n)) tried.index []) (sym size) in
    record {
      within = in_grid;
      known = there;
      not_entered = can.not_entered;
      feasible = subst (IsFeasibleWord (board_of state.grid) state.words tried.light) (sym word) ∣ is_feasible_word-gives (position_of state) tried.light _ can.feasible ∣₁;
    }

-- a known word that was placed makes the try
pub word_makes : (tried : Try) (before now : State) → IsWellFormed before → CanBeMade tried before → after before (known_placed before tried.light tried.index) ≡ Ok now → IsMade tried before now
word_makes tried before now formed can made =
    let both = placing_known before now tried.light tried.index formed can.light_in can.index_in made in
    record { light = can.light_in; placed = both.0; entries = both.1 }

-- a position with a dead light is dead
light_kills : (watched : ℕ → Bool) (state : State) (light : ℕ) → IsDead watched (position_of state) light → is_dead (position_of state) ≡ true
unfolding is_dead
light_kills watched state light dead =
    let position = position_of state in
    or_left (any_below (lacks_words position) (light_count position)) (any_below (is_repeat position) (light_count position)) (any_below-from (lacks_words position) (light_count position) light dead.0 dead.2)

-- the word of a try was placed
pub try_placed : (watched : ℕ → Bool) (tried : Try) (before after : State) (tries tries_after : List Try) (dead : Option ℕ) → dead ≡ None → HasTried IsMade watched tried before tries after tries_after dead
    → (tries_after ≡ tries ++ tried ∷ []) × IsMade tried before after × StayAlive watched before after
try_placed watched tried before after tries tries_after dead none has = subst (λ d. HasTried IsMade watched tried before tries after tries_after d) none has

-- a light died where it leads
pub try_died : (watched : ℕ → Bool) (tried : Try) (before after : State) (tries tries_after : List Try) (dead : Option ℕ) (light : ℕ) (since : List (Option ℕ)) → dead ≡ Some light → HasTried IsMade watched tried before tries after tries_after dead
    → HasDied tried before tries after tries_after since since
try_died watched tried before after tries tries_after dead light since some has =
    let killed : HasTried IsMade watched tried before tries after tries_after (Some light) = subst (λ d. HasTried IsMade watched tried before tries after tries_after d) some has in
    record { same = killed.1; kept = killed.0; notes = refl; there = killed.2.0; made = killed.2.1; dead = light_kills watched killed.2.0 light killed.2.2 }
