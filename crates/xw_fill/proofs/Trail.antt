-- The tries under way lead from the start of a search to the current position, and the placements so far are part of
-- those due.
use Rattle.std.proofs.Common.{◌≡◌, ℕ, zero, suc, ◌+◌, ◌<◌, ◌≤◌, Bool, true, false, cond, ◌||◌, List, [], ◌∷◌, ◌++◌, length, get_or, Option, Some, refl, sym, ◌∙◌, ap, subst, arith}
use Rattle.std.specs.Prelude.{filter, All}
use Rattle.std.specs.List.{list_any}
use Rattle.std.proofs.lemmas.Bool.{true≢false, or_from, or_left}
use Rattle.std.proofs.lemmas.List.Folds.{list_any-append}
use Rattle.xw_feas.specs.Board.{light_at, agrees}
use Rattle.xw_feas.specs.State.{State}
use Rattle.xw_search.proofs.Shaped.{IsShaped, HasDistinctWords}
use Rattle.xw_fill.specs.Words.{spellings_at, words_before, words_left}
use Rattle.xw_search.specs.Position.{Position, position_of, placed}
use Rattle.xw_search.specs.FeasibleWords.{is_feasible_word, feasible_words}
use Rattle.xw_fill.specs.Inner.EnteredSince.{noted, AreEntered, StayNoted}
use Rattle.xw_search.specs.Lights.{light_count, is_entered}
use Rattle.xw_fill.specs.Search.{is_dead, chosen, found_in, due_of, due_in, end_of, end_in, unentered_count}
use Rattle.xw_search.specs.Stack.{first_or, LeadThrough}
use Rattle.xw_fill.specs.Inner.Tries.{word_of, IsMade}
use Rattle.xw_fill.specs.declared.tries.Try.{Try}
use Rattle.xw_search.proofs.BelowLemmas.{Among-contained}
use Rattle.xw_search.proofs.FeasibleWordsLemmas.{is_feasible_word-gives}
use Rattle.xw_fill.proofs.SearchLemmas.{chosen-Some, placed-laid, placed-fewer}
use Rattle.xw_search.proofs.LightLemmas.{open_base}
use Rattle.xw_fill.proofs.WordsLemmas.{feasible_known_words, words_before-more, words_parted}

-- ---- going through the words of a light

due_of-append : (found : List ℕ → Bool) (due : List ℕ → ℕ) (xs ys : List (List ℕ)) → list_any found xs ≡ false → due_of found due (xs ++ ys) ≡ due_of found due xs + due_of found due ys
due_of-append found due [] ys none = omega arith
due_of-append found due (x ∷ xs) ys none = split (λ h. due_of-append found due xs ys h) (found x) refl none where
  split : (list_any found xs ≡ false → due_of found due (xs ++ ys) ≡ due_of found due xs + due_of found due ys) → (b : Bool) → found x ≡ b → (b || list_any found xs) ≡ false
      → 1 + due x + cond b 0 (due_of found due (xs ++ ys)) ≡ (1 + due x + cond b 0 (due_of found due xs)) + due_of found due ys
  split rest true e h = absurd (true≢false h)
  split rest false e h = let more = rest h in omega arith

end_of-append : (found : List ℕ → Bool) (end : List ℕ → Position) (position : Position) (xs ys : List (List ℕ)) → list_any found xs ≡ false → end_of found end position (xs ++ ys) ≡ end_of found end position ys
end_of-append found end position [] ys none = refl
end_of-append found end position (x ∷ xs) ys none = split (λ h. end_of-append found end position xs ys h) (found x) refl none where
  split : (list_any found xs ≡ false → end_of found end position (xs ++ ys) ≡ end_of found end position ys) → (b : Bool) → found x ≡ b → (b || list_any found xs) ≡ false → cond b (end x) (end_of found end position (xs ++ ys)) ≡ end_of found end position ys
  split rest true e h = absurd (true≢false h)
  split rest false e h = rest h

abbrev pub found_after : ℕ → Position → ℕ → List ℕ → Bool
found_after fuel position light word = found_in fuel (placed position light word)

abbrev pub due_after : ℕ → Position → ℕ → List ℕ → ℕ
due_after fuel position light word = due_in fuel (placed position light word)

abbrev pub end_after : ℕ → Position → ℕ → List ℕ → Position
end_after fuel position light word = end_in fuel (placed position light word)

-- the words of the chosen light before an index have been tried, and none led to a fill
pub record IsUnderWay (fuel : ℕ) (position : Position) (light from : ℕ) : Type 0 where
  pub alive : is_dead position ≡ false
  pub chosen_is : chosen position ≡ Some light
  pub failed : list_any (found_after fuel position light) (words_before position light from) ≡ false

-- the placements that this took
abbrev pub spent_on : ℕ → Position → ℕ → ℕ → ℕ
spent_on fuel position light from = due_of (found_after fuel position light) (due_after fuel position light) (words_before position light from)

-- properties of every position of a search
pub record IsSound (position : Position) : Type 0 where
  pub board : IsShaped position.board
  pub dictionary : HasDistinctWords position.words

pub IsSound-placed : (position : Position) (light : ℕ) (word : List ℕ) → IsSound position → IsSound (placed position light word)
IsSound-placed position light word sound = record { board = placed-laid position light word sound.board; dictionary = sound.dictionary }

found_chosen : (fuel : ℕ) (position : Position) (light : ℕ) → is_dead position ≡ false → chosen position ≡ Some light → found_in (suc fuel) position ≡ list_any (found_after fuel position light) (feasible_words position light)
unfolding found_in
found_chosen fuel position light alive is = rw (alive, is) refl

due_chosen : (fuel : ℕ) (position : Position) (light : ℕ) → is_dead position ≡ false → chosen position ≡ Some light → due_in (suc fuel) position ≡ due_of (found_after fuel position light) (due_after fuel position light) (feasible_words position light)
unfolding due_in
due_chosen fuel position light alive is = rw (alive, is) refl

end_chosen : (fuel : ℕ) (position : Position) (light : ℕ) → chosen position ≡ Some light → end_in (suc fuel) position ≡ end_of (found_after fuel position light) (end_after fuel position light) position (feasible_words position light)
unfolding end_in
end_chosen fuel position light is = rw is refl

-- all words have been tried
pub way-spent : (fuel : ℕ) (position : Position) (light from : ℕ) → IsSound position → IsUnderWay fuel position light from → words_before position light from ≡ filter (is_feasible_word position light) (spellings_at position light) → (found_in (suc fuel) position ≡ false) × (due_in (suc fuel) position ≡ spent_on fuel position light from)
way-spent fuel position light from sound way all =
    let is = chosen-Some position light way.chosen_is in
    let same : feasible_words position light ≡ words_before position light from = feasible_known_words position light sound.dictionary is.0 is.1 ∙ sym all in (
      found_chosen fuel position light way.alive way.chosen_is ∙ ap (list_any (found_after fuel position light)) same ∙ way.failed,
      due_chosen fuel position light way.alive way.chosen_is ∙ ap (due_of (found_after fuel position light) (due_after fuel position light)) same,
    )

-- ---- one try

pub record IsTried (fuel : ℕ) (position : Position) (tried : Try) : Type 0 where
  pub way : IsUnderWay fuel position tried.light tried.index
  pub within : tried.index < length (spellings_at position tried.light)
  pub feasible : is_feasible_word position tried.light (word_of position tried) ≡ true

abbrev pub after_try : Position → Try → Position
after_try position tried = placed position tried.light (word_of position tried)

abbrev pub cost_of : ℕ → Position → Try → ℕ
cost_of fuel position tried = spent_on fuel position tried.light tried.index + 1

tried_parted : (fuel : ℕ) (position : Position) (tried : Try) → IsSound position → IsTried fuel position tried → feasible_words position tried.light ≡ words_before position tried.light tried.index ++ (word_of position tried ∷ words_left position tried.light (tried.index + 1))
tried_parted fuel position tried sound t =
    let is = chosen-Some position tried.light t.way.chosen_is in
    words_parted position tried.light tried.index sound.dictionary is.0 is.1 t.within t.feasible

tried_agrees : (fuel : ℕ) (position : Position) (tried : Try) → IsTried fuel position tried → agrees position.board (light_at position.board tried.light) (word_of position tried) ≡ true
tried_agrees fuel position tried t =
    let is = chosen-Some position tried.light t.way.chosen_is in
    let feasible = is_feasible_word-gives position tried.light (word_of position tried) t.feasible in
    (open_base position.board position.words tried.light (word_of position tried) is.0 is.1 (Among-contained (word_of position tried) _ (feasible.1.words_are_base tried.light (word_of position tried) feasible.2))).1

-- a try that leads to a fill
tried-found : (fuel : ℕ) (position : Position) (tried : Try) → IsSound position → IsTried fuel position tried → found_in fuel (after_try position tried) ≡ true
    → (found_in (suc fuel) position ≡ true) × (due_in (suc fuel) position ≡ cost_of fuel position tried + due_in fuel (after_try position tried)) × (end_in (suc fuel) position ≡ end_in fuel (after_try position tried))
tried-found fuel position tried sound t h =
    let found = found_after fuel position tried.light in
    let due = due_after fuel position tried.light in
    let end = end_after fuel position tried.light in
    let before = words_before position tried.light tried.index in
    let rest = words_left position tried.light (tried.index + 1) in
    let parted = tried_parted fuel position tried sound t in
    let here : due_of found due (word_of position tried ∷ rest) ≡ 1 + due (word_of position tried) + 0 = ap (λ b. 1 + due (word_of position tried) + cond b 0 (due_of found due rest)) h in
    let split = due_of-append found due before (word_of position tried ∷ rest) t.way.failed in
    let all : due_in (suc fuel) position ≡ due_of found due (before ++ (word_of position tried ∷ rest)) = due_chosen fuel position tried.light t.way.alive t.way.chosen_is ∙ ap (due_of found due) parted in (
      found_chosen fuel position tried.light t.way.alive t.way.chosen_is ∙ ap (list_any found) parted ∙ list_any-append found before (word_of position tried ∷ rest) ∙ ap (λ b. b || list_any found (word_of position tried ∷ rest)) t.way.failed ∙ or_left _ _ h,
      omega (arith, all, split, here),
      end_chosen fuel position tried.light t.way.chosen_is ∙ ap (end_of found end position) parted ∙ end_of-append found end position before (word_of position tried ∷ rest) t.way.failed ∙ ap (λ b. cond b (end (word_of position tried)) (end_of found end position rest)) h,
    )

-- the placements due after a try are part of those due before it
tried-due : (fuel : ℕ) (position : Position) (tried : Try) → IsSound position → IsTried fuel position tried → cost_of fuel position tried + due_in fuel (after_try position tried) ≤ due_in (suc fuel) position
tried-due fuel position tried sound t =
    let found = found_after fuel position tried.light in
    let due = due_after fuel position tried.light in
    let before = words_before position tried.light tried.index in
    let rest = words_left position tried.light (tried.index + 1) in
    let split = due_of-append found due before (word_of position tried ∷ rest) t.way.failed in
    let all : due_in (suc fuel) position ≡ due_of found due (before ++ (word_of position tried ∷ rest)) = due_chosen fuel position tried.light t.way.alive t.way.chosen_is ∙ ap (due_of found due) (tried_parted fuel position tried sound t) in
    let here : due_of found due (word_of position tried ∷ rest) ≡ 1 + due (word_of position tried) + cond (found (word_of position tried)) 0 (due_of found due rest) = refl in
    omega (arith, all, split, here)

-- after a failed try, the words from the next index on are left
pub tried-failed : (fuel : ℕ) (position : Position) (tried : Try) → IsTried fuel position tried → found_in fuel (after_try position tried) ≡ false
    → IsUnderWay fuel position tried.light (tried.index + 1) × (spent_on fuel position tried.light (tried.index + 1) ≡ cost_of fuel position tried + due_in fuel (after_try position tried))
tried-failed fuel position tried t h =
    let found = found_after fuel position tried.light in
    let due = due_after fuel position tried.light in
    let before = words_before position tried.light tried.index in
    let more = words_before-more position tried.light tried.index t.within t.feasible in
    let split = due_of-append found due before (word_of position tried ∷ []) t.way.failed in
    let all : spent_on fuel position tried.light (tried.index + 1) ≡ due_of found due (before ++ word_of position tried ∷ []) = ap (due_of found due) more in
    let here : due_of found due (word_of position tried ∷ []) ≡ 1 + due (word_of position tried) + 0 = ap (λ b. 1 + due (word_of position tried) + cond b 0 0) h in (
      record {
        alive = t.way.alive;
        chosen_is = t.way.chosen_is;
        failed = ap (list_any found) more ∙ list_any-append found before (word_of position tried ∷ []) ∙ ap (λ b. b || list_any found (word_of position tried ∷ [])) t.way.failed ∙ or_from _ _ h refl;
      },
      omega (arith, all, split, here),
    )

-- a feasible word agrees with the entries of its light
pub feasible_agrees : (position : Position) (light : ℕ) (word : List ℕ) → light < light_count position → is_entered position light ≡ false → is_feasible_word position light word ≡ true → agrees position.board (light_at position.board light) word ≡ true
feasible_agrees position light word in_grid not_entered h =
    let feasible = is_feasible_word-gives position light word h in
    (open_base position.board position.words light word in_grid not_entered (Among-contained word _ (feasible.1.words_are_base light word feasible.2))).1

-- ---- the tries under way, in order

abbrev pub Trail : ℕ → Position → List Try → ℕ → ℕ → Position → Type 0
Trail fuel start [] cost left current = (cost ≡ 0) × (left ≡ fuel) × (current ≡ start)
Trail zero start (tried ∷ tries) cost left current = ⊥
Trail (suc fuel) start (tried ∷ tries) cost left current = (rest : ℕ) × IsTried fuel start tried × (cost ≡ cost_of fuel start tried + rest) × Trail fuel (after_try start tried) tries rest left current

-- the position after tries
abbrev pub after_tries : Position → List Try → Position
after_tries start [] = start
after_tries start (tried ∷ tries) = after_tries (after_try start tried) tries

pub trail-at : (tries : List Try) (fuel : ℕ) (start : Position) (cost left : ℕ) (current : Position) → Trail fuel start tries cost left current → current ≡ after_tries start tries
trail-at [] fuel start cost left current t = t.2
trail-at (tried ∷ tries) zero start cost left current t = absurd t
trail-at (tried ∷ tries) (suc fuel) start cost left current t = trail-at tries fuel (after_try start tried) t.0 left current t.3

-- the levels of an engine lead there too
pub made_through : (tries : List Try) (levels : List State) (now : State) → LeadThrough IsMade tries levels now → position_of now ≡ after_tries (position_of (first_or levels now)) tries
made_through [] [] now lead = refl
made_through [] (state ∷ levels) now lead = absurd lead
made_through (tried ∷ tries) [] now lead = absurd lead
made_through (tried ∷ tries) (state ∷ levels) now lead = made_through tries levels now lead.1 ∙ ap (λ position. after_tries position tries) lead.0.placed

pub trail-found : (tries : List Try) (fuel : ℕ) (start : Position) (cost left : ℕ) (current : Position) → IsSound start → Trail fuel start tries cost left current → found_in left current ≡ true
    → (found_in fuel start ≡ true) × (due_in fuel start ≡ cost + due_in left current) × (end_in fuel start ≡ end_in left current)
trail-found [] fuel start cost left current sound t h = (rw (← t.1, ← t.2) h, let same : due_in fuel start ≡ due_in left current = rw (← t.1, ← t.2) refl in omega (arith, t.0), rw (← t.1, ← t.2) refl)
trail-found (tried ∷ tries) zero start cost left current sound t h = absurd t
trail-found (tried ∷ tries) (suc fuel) start cost left current sound t h =
    let further = trail-found tries fuel (after_try start tried) t.0 left current (IsSound-placed start tried.light (word_of start tried) sound) t.3 h in
    let here = tried-found fuel start tried sound t.1 further.0 in
    (here.0, omega (arith, here.1, further.1, t.2), here.2 ∙ further.2)

pub trail-due : (tries : List Try) (fuel : ℕ) (start : Position) (cost left : ℕ) (current : Position) → IsSound start → Trail fuel start tries cost left current → cost + due_in left current ≤ due_in fuel start
trail-due [] fuel start cost left current sound t = let same : due_in fuel start ≡ due_in left current = rw (← t.1, ← t.2) refl in omega (arith, t.0)
trail-due (tried ∷ tries) zero start cost left current sound t = absurd t
trail-due (tried ∷ tries) (suc fuel) start cost left current sound t =
    let further = trail-due tries fuel (after_try start tried) t.0 left current (IsSound-placed start tried.light (word_of start tried) sound) t.3 in
    let here = tried-due fuel start tried sound t.1 in
    omega (arith, t.2)

pub trail-more : (tries : List Try) (fuel : ℕ) (start : Position) (cost left : ℕ) (current : Position) (tried : Try) → Trail fuel start tries cost (suc left) current → IsTried left current tried → Trail fuel start (tries ++ tried ∷ []) (cost + cost_of left current tried) left (after_try current tried)
trail-more [] zero start cost left current tried t is = absurd (omega (arith, t.1))
trail-more [] (suc fuel) start cost left current tried t is =
    let same : left ≡ fuel = omega (arith, t.1) in
    rw (← same, ← t.2) (0, is, omega (arith, t.0), (refl, refl, refl))
trail-more (first ∷ tries) zero start cost left current tried t is = absurd t
trail-more (first ∷ tries) (suc fuel) start cost left current tried t is =
    (t.0 + cost_of left current tried, t.1, omega (arith, t.2), trail-more tries fuel (after_try start first) t.0 left current tried t.3 is)

-- the position before the last try
pub record IsLast (fuel : ℕ) (start : Position) (tries : List Try) (tried : Try) (cost left : ℕ) (current : Position) : Type 0 where
  pub before : Position
  pub paid : ℕ
  pub trail : Trail fuel start tries paid (suc left) before
  pub is : IsTried left before tried
  pub cost_is : cost ≡ paid + cost_of left before tried
  pub current_is : current ≡ after_try before tried

pub trail-last : (tries : List Try) (fuel : ℕ) (start : Position) (cost left : ℕ) (current : Position) (tried : Try) → Trail fuel start (tries ++ tried ∷ []) cost left current → IsLast fuel start tries tried cost left current
trail-last [] zero start cost left current tried t = absurd t
trail-last [] (suc fuel) start cost left current tried t =
    let rest = t.3 in
    let same : left ≡ fuel = rest.1 in
    record { before = start; paid = 0; trail = (refl, ap suc same, refl); is = rw same t.1; cost_is = rw same (omega (arith, t.2, rest.0)); current_is = rest.2 }
trail-last (first ∷ tries) zero start cost left current tried t = absurd t
trail-last (first ∷ tries) (suc fuel) start cost left current tried t =
    let further = trail-last tries fuel (after_try start first) t.0 left current tried t.3 in
    record {
      before = further.before;
      paid = cost_of fuel start first + further.paid;
      trail = (further.paid, t.1, refl, further.trail);
      is = further.is;
      cost_is = omega (arith, t.2, further.cost_is);
      current_is = further.current_is;
    }

pub trail-sound : (tries : List Try) (fuel : ℕ) (start : Position) (cost left : ℕ) (current : Position) → IsSound start → Trail fuel start tries cost left current → IsSound current
trail-sound [] fuel start cost left current sound t = rw t.2 sound
trail-sound (tried ∷ tries) zero start cost left current sound t = absurd t
trail-sound (tried ∷ tries) (suc fuel) start cost left current sound t = trail-sound tries fuel (after_try start tried) t.0 left current (IsSound-placed start tried.light (word_of start tried) sound) t.3

pub trail-lights : (tries : List Try) (fuel : ℕ) (start : Position) (cost left : ℕ) (current : Position) → Trail fuel start tries cost left current → (light_count current ≡ light_count start) × All (λ tried. tried.light < light_count start) tries
trail-lights [] fuel start cost left current t = (ap light_count t.2, λ k d below. absurd (omega arith))
trail-lights (tried ∷ tries) zero start cost left current t = absurd t
trail-lights (tried ∷ tries) (suc fuel) start cost left current t =
    let further = trail-lights tries fuel (after_try start tried) t.0 left current t.3 in
    let here = chosen-Some start tried.light t.1.way.chosen_is in
    (further.0, λ k. elim k as (λ n. (d : Try) → n < length (tried ∷ tries) → (get_or (tried ∷ tries) n d).light < light_count start) [ zero ↦ λ d below. here.0 | suc j ↦ λ d below. further.1 j d (omega arith) ])

-- a try leaves fewer lights to enter
pub tried-fewer : (fuel : ℕ) (position : Position) (tried : Try) → IsSound position → IsTried fuel position tried → unentered_count (after_try position tried) < unentered_count position
tried-fewer fuel position tried sound t =
    let is = chosen-Some position tried.light t.way.chosen_is in
    placed-fewer position tried.light (word_of position tried) sound.board (tried_agrees fuel position tried t) is.0 is.1

pub trail-enough : (tries : List Try) (fuel : ℕ) (start : Position) (cost left : ℕ) (current : Position) → IsSound start → unentered_count start ≤ fuel → Trail fuel start tries cost left current → unentered_count current ≤ left
trail-enough [] fuel start cost left current sound enough t = let same : unentered_count current ≡ unentered_count start = ap unentered_count t.2 in omega (arith, t.1)
trail-enough (tried ∷ tries) zero start cost left current sound enough t = absurd t
trail-enough (tried ∷ tries) (suc fuel) start cost left current sound enough t =
    let fewer = tried-fewer fuel start tried sound t.1 in
    trail-enough tries fuel (after_try start tried) t.0 left current (IsSound-placed start tried.light (word_of start tried) sound) (omega arith) t.3

-- ---- notes along the tries

-- at each position along the tries, the wholly entered lights are those with a note from its placements or fewer
abbrev pub AreNotedAlong : Position → List Try → List (Option ℕ) → ℕ → Type 0
AreNotedAlong start [] since placements = AreEntered start (noted since (suc placements))
AreNotedAlong start (tried ∷ tries) since placements = AreEntered start (noted since (suc placements)) × AreNotedAlong (after_try start tried) tries since (suc placements)

pub noted-last : (tries : List Try) (fuel : ℕ) (start : Position) (cost left : ℕ) (current : Position) (since : List (Option ℕ)) (placements : ℕ) → Trail fuel start tries cost left current → AreNotedAlong start tries since placements → AreEntered current (noted since (suc (length tries + placements)))
noted-last [] fuel start cost left current since placements t along = let same : placements ≡ 0 + placements = omega arith in rw t.2 (subst (λ n. AreEntered start (noted since (suc n))) same along)
noted-last (tried ∷ tries) zero start cost left current since placements t along = absurd t
noted-last (tried ∷ tries) (suc fuel) start cost left current since placements t along =
    let last = noted-last tries fuel (after_try start tried) t.0 left current since (suc placements) t.3 along.1 in
    let same : length tries + suc placements ≡ suc (length tries) + placements = omega arith in
    subst (λ n. AreEntered current (noted since (suc n))) same last

pub noted-back : (tries : List Try) (start : Position) (tried : Try) (since : List (Option ℕ)) (placements : ℕ) → AreNotedAlong start (tries ++ tried ∷ []) since placements → AreNotedAlong start tries since placements
noted-back [] start tried since placements along = along.0
noted-back (first ∷ tries) start tried since placements along = (along.0, noted-back tries (after_try start first) tried since (suc placements) along.1)

pub noted-more : (tries : List Try) (fuel : ℕ) (start : Position) (cost left : ℕ) (current : Position) (tried : Try) (before after : List (Option ℕ)) (placements : ℕ) → Trail fuel start tries cost left current → AreNotedAlong start tries before placements
    → StayNoted (suc (length tries + placements)) before after → AreEntered (after_try current tried) (noted after (suc (suc (length tries + placements)))) → AreNotedAlong start (tries ++ tried ∷ []) after placements
noted-more [] fuel start cost left current tried before after placements t along stay last = let same : 0 + placements ≡ placements = omega arith in (λ light below. stay light (suc placements) (omega arith) ∙ along light below, rw (← t.2) (subst (λ n. AreEntered (after_try current tried) (noted after (suc (suc n)))) same last))
noted-more (first ∷ tries) zero start cost left current tried before after placements t along stay last = absurd t
noted-more (first ∷ tries) (suc fuel) start cost left current tried before after placements t along stay last =
    let same : suc (length tries) + placements ≡ length tries + suc placements = omega arith in (
      λ light below. stay light (suc placements) (omega arith) ∙ along.0 light below,
      noted-more tries fuel (after_try start first) t.0 left current tried before after (suc placements) t.3 along.1
          (subst (λ n. StayNoted (suc n) before after) same stay) (subst (λ n. AreEntered (after_try current tried) (noted after (suc (suc n)))) same last),
    )
