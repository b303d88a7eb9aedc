-- What a letter or a word that was tried led to.
use Rattle.std.proofs.Common.{◌≡◌, ℕ, ◌<◌, Bool, true, false, List, [], ◌∷◌, ◌++◌, filter, length, ap, sym, ◌∙◌, subst, refl, inl, inr, ◌==◌, arith}
use Rattle.std.specs.Prelude.{Option, Some, None, Result, Ok, Err, IfOk}
use Rattle.std.proofs.lemmas.Bool.{cases_Bool, false_from_ne_true, true≢false}
use Rattle.std.proofs.Math.Logic.{∥∥₁_elim}
use mathlib.Core.Bool.{Bool-set}
use Rattle.xw_feas.specs.State.{State, Action, after}
use Rattle.xw_feas.specs.Feasible.{base_words_at}
use Rattle.xw_feas.specs.Trying.{IsDeadLight, IsSurvived, IsTried}
use Rattle.xw_feas.proofs.BoardLemmas.{length-lights}
use Rattle.xw_search.specs.Position.{position_of}
use Rattle.xw_search.specs.Lights.{lacks_words, light_count}
use Rattle.xw_search.specs.FeasibleWords.{is_feasible_word, feasible_words}
use Rattle.xw_search.specs.NamedFill.{flags}
use Rattle.xw_search.specs.Progress.{IsLetterEntered, IsTried as ProgressIsTried}
use Rattle.xw_search.specs.Stack.{StayAlive, HasLed, HasTried}
use Rattle.xw_search.specs.declared.frame.Frame.{Frame}
use Rattle.xw_search.proofs.FeasibleWordsLemmas.{is_feasible_word-gives, feasible-from}
use Rattle.xw_search.proofs.FillLemmas.{has_words}
use Rattle.xw_search.proofs.StateLemmas.{in_grid_light}

-- ---- dead lights

filter_none : (p : List ℕ → Bool) → ((word : List ℕ) → p word ≡ false) → (words : List (List ℕ)) → filter p words ≡ []
filter_none p none [] = refl
filter_none p none (word ∷ words) = rw (none word) (filter_none p none words)

-- a dead light lacks words
pub dead_lacks : (state : State) (light : ℕ) → IsDeadLight state light → lacks_words (position_of state) light ≡ true
unfolding feasible_words
dead_lacks state light dead =
    let position = position_of state in
    ap (λ (words : List (List ℕ)). length words == 0) (filter_none (is_feasible_word position light)
    (λ word. false_from_ne_true (is_feasible_word position light word) (λ h. dead.dead word ∣ is_feasible_word-gives position light word h ∣₁))
    (base_words_at position.board position.words light))

-- a light that lacks words is dead
lacks_dead : (state : State) (light : ℕ) → light < light_count (position_of state) → lacks_words (position_of state) light ≡ true → IsDeadLight state light
lacks_dead state light within lacks = record {
  within = in_grid_light state.grid light within;
  dead = λ word feasible.
      let has : lacks_words (position_of state) light ≡ false = ∥∥₁_elim feasible (Bool-set _ _) (λ found. has_words (position_of state) light word (feasible-from (position_of state) light word found.0 found.1 found.2)) in
      true≢false (sym lacks ∙ has);
}

-- no watched light died
survived_alive : (before now : State) (action : Action) (watched : List Bool) → IsSurvived before action watched now → light_count (position_of now) ≡ light_count (position_of before) → StayAlive (flags watched) before now
survived_alive before now action watched survived count alive light within watch = elim (cases_Bool (lacks_words (position_of now) light)) [
  | inl lacks ↦
      let dead = survived.alive light watch (lacks_dead now light within lacks) in
      absurd (true≢false (sym (dead_lacks before light dead) ∙ alive light (subst (λ n. light < n) count within) watch))
  | inr has ↦ has
]

-- ---- what the engine answers

-- what a try led to, from what the edit leads to
tried_led : (before now : State) (action : Action) (watched : List Bool) (leads : State → Type 0) → ((there : State) → after before action ≡ Ok there → leads there) → ((there : State) → leads there → light_count (position_of there) ≡ light_count (position_of before))
    → (dead : Option ℕ) → IsTried before action watched dead now → HasLed leads (flags watched) before now dead
tried_led before now action watched leads then counts None survived =
    let there = then now survived.made in
    (there, survived_alive before now action watched survived (counts now there))
tried_led before now action watched leads then counts (Some light) tried =
    let killed = tried.1 in
    (tried.0, (killed.there, then killed.there killed.made, (omega (arith, killed.dead.within, length-lights killed.there.grid), killed.is_watched, dead_lacks killed.there light killed.dead)))

pub tried_ok : {Fault : Type 0} (before now : State) (action : Action) (watched : List Bool) (leads : State → Type 0) → ((there : State) → after before action ≡ Ok there → leads there) → ((there : State) → leads there → light_count (position_of there) ≡ light_count (position_of before))
    → (result : Result (Option ℕ) Fault) → IfOk result (λ dead. IsTried before action watched dead now) → IfOk result (HasLed leads (flags watched) before now)
tried_ok before now action watched leads then counts (Ok dead) tried = tried_led before now action watched leads then counts dead tried
tried_ok before now action watched leads then counts (Err failed) tried = tt

-- ---- letters

-- the letter of a frame was placed
pub frame_placed : (watched : ℕ → Bool) (frame : Frame) (before after : State) (frames frames_after : List Frame) (dead : Option ℕ) → dead ≡ None → HasTried IsLetterEntered watched frame before frames after frames_after dead
    → (frames_after ≡ frames ++ frame ∷ []) × IsLetterEntered frame before after × StayAlive watched before after
frame_placed watched frame before after frames frames_after dead none tried = subst (λ d. HasTried IsLetterEntered watched frame before frames after frames_after d) none tried

-- a watched light died where it leads
pub frame_refuted : (watched : ℕ → Bool) (frame : Frame) (before after : State) (frames frames_after : List Frame) (dead : Option ℕ) (light : ℕ) → dead ≡ Some light → HasTried IsLetterEntered watched frame before frames after frames_after dead
    → ProgressIsTried watched frame false before frames after frames_after
frame_refuted watched frame before after frames frames_after dead light some tried =
    let killed : HasTried IsLetterEntered watched frame before frames after frames_after (Some light) = subst (λ d. HasTried IsLetterEntered watched frame before frames after frames_after d) some tried in
    (killed.0, killed.1, (killed.2.0, killed.2.1, inl (light, killed.2.2)))
