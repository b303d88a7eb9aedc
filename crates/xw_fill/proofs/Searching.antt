-- The invariant of a search for a fill, and how each step keeps it.
use Rattle.std.proofs.Common.{◌≡◌, ℕ, zero, suc, ◌+◌, ◌<◌, ◌≤◌, Bool, true, false, cond, List, [], ◌∷◌, ◌++◌, length, get_or, Option, Some, None, refl, sym, ◌∙◌, ap, subst, arith}
use Rattle.std.specs.Prelude.{Result, Ok, Err, MatchResult, IsErrAnd, IfOk, OnErr}
use Rattle.std.specs.Option.{option_to_list}
use Rattle.std.specs.List.{list_any}
use Rattle.std.proofs.lemmas.Bool.{false≢true}
use Rattle.std.proofs.lemmas.List.{nil_from_length}
use Rattle.xw_feas.specs.Board.{board_of, light_at}
use Rattle.xw_feas.specs.State.{State}
use Rattle.xw_search.proofs.Shaped.{shaped, distinct_words}
use Rattle.xw_search.proofs.StateLemmas.{same_state}
use Rattle.xw_feas.specs.WellFormed.{IsWellFormed}
use Rattle.xw_search.specs.Position.{Position, position_of, filled_in, DiffersInEntries}
use Rattle.xw_search.specs.FeasibleWords.{is_feasible_word}
use Rattle.xw_search.specs.Lights.{light_count, is_entered}
use Rattle.xw_fill.specs.Search.{is_dead, chosen, found_in, due_of, due_in, end_in, unentered_count, found, due, end}
use Rattle.xw_search.specs.Stack.{first_or, LeadThrough}
use Rattle.xw_fill.specs.Inner.Tries.{IsMade}
use Rattle.xw_fill.specs.Filling.{outlook, next_of, IsFilling, HasFill, UnlessFilled}
use Rattle.xw_fill.specs.declared.tries.Try.{Try}
use Rattle.xw_search.specs.declared.filling.Filling.{Filling}
use Rattle.xw_search.specs.declared.filling.Filling.TheVariants.{Filled, NoFill, Limit}
use Rattle.xw_fill.specs.declared.search.Next.{Next}
use Rattle.xw_fill.specs.declared.search.Next.TheVariants.{Done, Spent, Words}
use Rattle.xw_fill.proofs.FillLemmas.{fill_is_found, found_is_fill, reached-start}
use Rattle.xw_fill.proofs.SearchLemmas.{chosen-Some, chosen-counted}
use Rattle.xw_fill.specs.Words.{spellings_at, words_before, IsNextWord, HasNoMore}
use Rattle.xw_fill.proofs.WordsLemmas.{next_before, no_more_before}
use Rattle.xw_fill.proofs.Trail.{IsSound, IsUnderWay, spent_on, found_after, due_after, IsTried, after_try, cost_of, Trail, trail-found, trail-due, trail-more, trail-last, trail-sound, trail-enough, trail-lights, trail-at, after_tries, made_through, tried-failed, way-spent}

-- what is known at the current position, and the placements spent on it
abbrev pub IsAt : ℕ → Position → ℕ → Next → Type 0
IsAt left current spent Done = (is_dead current ≡ false) × (chosen current ≡ None) × (spent ≡ 0)
IsAt left current spent Spent = (found_in left current ≡ false) × (spent ≡ due_in left current)
IsAt zero current spent (Words light from) = ⊥
IsAt (suc left) current spent (Words light from) = IsUnderWay left current light from × (spent ≡ spent_on left current light from)

-- the search reached this position from the start by these tries, with this many placements in total
pub record IsSearching (start : Position) (tries : List Try) (used : ℕ) (current : Position) (next : Next) : Type 0 where
  pub cost : ℕ
  pub left : ℕ
  pub spent : ℕ
  pub trail : Trail (unentered_count start) start tries cost left current
  pub at : IsAt left current spent next
  pub used_is : used ≡ cost + spent

pub IsSound-formed : (state : State) → IsWellFormed state → IsSound (position_of state)
IsSound-formed state formed = record { board = shaped (board_of state.grid) formed.board; dictionary = distinct_words state.words formed.dictionary }

-- at a new position
IsAt-outlook : (left : ℕ) (current : Position) → unentered_count current ≤ left → IsAt left current 0 (outlook current)
unfolding found_in due_in
IsAt-outlook left current enough = split left (is_dead current) refl (chosen current) refl enough where
  split : (n : ℕ) → (b : Bool) → is_dead current ≡ b → (o : Option ℕ) → chosen current ≡ o → unentered_count current ≤ n → IsAt n current 0 (cond b Spent (next_of o))
  split zero true dead o is e = (rw dead refl, refl)
  split (suc n) true dead o is e = (rw dead refl, rw dead refl)
  split n false alive None is e = (alive, is, refl)
  split zero false alive (Some light) is e = let counted = chosen-counted current light is in absurd (omega arith)
  split (suc n) false alive (Some light) is e = (record { alive = alive; chosen_is = is; failed = refl }, refl)

pub searching-start : (start : Position) → IsSearching start [] 0 start (outlook start)
searching-start start = record {
  cost = 0;
  left = unentered_count start;
  spent = 0;
  trail = (refl, refl, refl);
  at = IsAt-outlook (unentered_count start) start (omega arith);
  used_is = omega arith;
}

-- undoing a try
pub searching-back : (start current : Position) (tries : List Try) (tried : Try) (used : ℕ) → IsSearching start (tries ++ tried ∷ []) used current Spent → IsSearching start tries used (after_tries start tries) (Words tried.light (tried.index + 1))
searching-back start current tries tried used s =
    let last = trail-last tries (unentered_count start) start s.cost s.left current tried s.trail in
    let failed = tried-failed s.left last.before tried last.is (ap (found_in s.left) (sym last.current_is) ∙ s.at.0) in
    let spent : due_in s.left current ≡ due_in s.left (after_try last.before tried) = ap (due_in s.left) last.current_is in
    subst (λ position. IsSearching start tries used position (Words tried.light (tried.index + 1))) (trail-at tries (unentered_count start) start last.paid (suc s.left) last.before last.trail) (record {
      cost = last.paid;
      left = suc s.left;
      spent = spent_on s.left last.before tried.light (tried.index + 1);
      trail = last.trail;
      at = (failed.0, refl);
      used_is = omega (arith, s.used_is, last.cost_is, failed.1, s.at.1);
    })

-- the levels of the engine lead to the same position
pub searching-returned : (start current : Position) (tries : List Try) (tried : Try) (used : ℕ) (before now : State) (levels : List State) → IsSearching start (tries ++ tried ∷ []) used current Spent → LeadThrough IsMade tries levels now → first_or levels now ≡ before → position_of before ≡ start
    → IsSearching start tries used (position_of now) (Words tried.light (tried.index + 1))
searching-returned start current tries tried used before now levels s lead began start_is =
    let here : position_of now ≡ after_tries start tries = made_through tries levels now lead ∙ ap (λ state. after_tries (position_of state) tries) began ∙ ap (λ position. after_tries position tries) start_is in
    subst (λ position. IsSearching start tries used position (Words tried.light (tried.index + 1))) (sym here) (searching-back start current tries tried used s)

-- no word is left to try
pub searching-spent : (start current : Position) (tries : List Try) (used light from : ℕ) → IsSound start → IsSearching start tries used current (Words light from) → HasNoMore current light from → IsSearching start tries used current Spent
searching-spent start current tries used light from sound s all = split s.left s.trail s.at where
  split : (left : ℕ) → Trail (unentered_count start) start tries s.cost left current → IsAt left current s.spent (Words light from) → IsSearching start tries used current Spent
  split zero trail at = absurd at
  split (suc left) trail at =
      let over = way-spent left current light from (trail-sound tries (unentered_count start) start s.cost (suc left) current sound trail) at.0 (no_more_before current light from all) in
      record { cost = s.cost; left = suc left; spent = s.spent; trail = trail; at = (over.0, omega (arith, at.1, over.1)); used_is = s.used_is }

-- the light whose words are tried is in the grid and not wholly entered
pub searching-open : (start current : Position) (tries : List Try) (used light from : ℕ) → IsSearching start tries used current (Words light from) → (light < light_count current) × (is_entered current light ≡ false)
searching-open start current tries used light from s = split s.left s.at where
  split : (left : ℕ) → IsAt left current s.spent (Words light from) → (light < light_count current) × (is_entered current light ≡ false)
  split zero at = absurd at
  split (suc left) at = chosen-Some current light at.0.chosen_is

-- the position is not dead
pub searching-alive : (start current : Position) (tries : List Try) (used light from : ℕ) → IsSearching start tries used current (Words light from) → is_dead current ≡ false
searching-alive start current tries used light from s = split s.left s.at where
  split : (left : ℕ) → IsAt left current s.spent (Words light from) → is_dead current ≡ false
  split zero at = absurd at
  split (suc left) at = at.0.alive

-- the next word makes a valid try
next_try : (left : ℕ) (current : Position) (light from index : ℕ) (tried : Try) → IsUnderWay left current light from → IsNextWord current light from index → tried.light ≡ light → tried.index ≡ index → IsTried left current tried × (spent_on left current tried.light tried.index ≡ spent_on left current light from)
next_try left current light from index tried way next is at = (
  record {
    way = record { alive = way.alive; chosen_is = way.chosen_is ∙ ap Some (sym is); failed = ap (λ l. list_any (found_after left current l) (words_before current l tried.index)) is ∙ ap (λ p. list_any (found_after left current light) (words_before current light p)) at ∙ ap (list_any (found_after left current light)) (next_before current light from index next) ∙ way.failed };
    within = rw (is, at) next.within;
    feasible = ap (λ l. is_feasible_word current l (get_or (spellings_at current l) tried.index [])) is ∙ ap (λ p. is_feasible_word current light (get_or (spellings_at current light) p [])) at ∙ next.feasible;
  },
  ap (λ l. spent_on left current l tried.index) is ∙ ap (λ p. spent_on left current light p) at ∙ ap (due_of (found_after left current light) (due_after left current light)) (next_before current light from index next),
)

pub searching-placed : (start current : Position) (tries : List Try) (used light from index : ℕ) (tried : Try) → IsSound start → IsSearching start tries used current (Words light from) → IsNextWord current light from index → tried.light ≡ light → tried.index ≡ index
    → IsSearching start (tries ++ tried ∷ []) (used + 1) (after_try current tried) (outlook (after_try current tried))
searching-placed start current tries used light from index tried sound s next is at = split s.left s.trail s.at where
  split : (left : ℕ) → Trail (unentered_count start) start tries s.cost left current → IsAt left current s.spent (Words light from) → IsSearching start (tries ++ tried ∷ []) (used + 1) (after_try current tried) (outlook (after_try current tried))
  split zero trail here = absurd here
  split (suc left) trail here =
      let made = next_try left current light from index tried here.0 next is at in
      let more = trail-more tries (unentered_count start) start s.cost left current tried trail made.0 in
      record {
        cost = s.cost + cost_of left current tried;
        left = left;
        spent = 0;
        trail = more;
        at = IsAt-outlook left (after_try current tried) (trail-enough (tries ++ tried ∷ []) (unentered_count start) start (s.cost + cost_of left current tried) left (after_try current tried) sound (omega arith) more);
        used_is = omega (arith, s.used_is, here.1, made.1);
      }

-- a try that leads to a dead position
pub searching-failed : (start current : Position) (tries : List Try) (used light from index : ℕ) (tried : Try) (there : Position) → IsSound start → IsSearching start tries used current (Words light from) → IsNextWord current light from index → tried.light ≡ light → tried.index ≡ index
    → there ≡ after_try current tried → is_dead there ≡ true
    → IsSearching start tries (used + 1) current (Words light (index + 1))
searching-failed start current tries used light from index tried there sound s next is at there_is dead =
    let placed = searching-placed start current tries used light from index tried sound s next is at in
    let spent : outlook (after_try current tried) ≡ Spent = ap outlook (sym there_is) ∙ ap (λ b. cond b Spent (next_of (chosen there))) dead in
    let failed = searching-back start (after_try current tried) tries tried (used + 1) (subst (IsSearching start (tries ++ tried ∷ []) (used + 1) (after_try current tried)) spent placed) in
    subst (λ n. IsSearching start tries (used + 1) current (Words light (n + 1))) at
    (subst (λ l. IsSearching start tries (used + 1) current (Words l (tried.index + 1))) is
    (subst (λ position. IsSearching start tries (used + 1) position (Words tried.light (tried.index + 1))) (sym (trail-at tries (unentered_count start) start s.cost s.left current s.trail)) failed))

-- if the limit is reached and a word is left, more placements are due than the limit allows
pub searching-limit : (start current : Position) (tries : List Try) (used light from index : ℕ) (tried : Try) → IsSound start → IsSearching start tries used current (Words light from) → IsNextWord current light from index → tried.light ≡ light → tried.index ≡ index → used < due start
searching-limit start current tries used light from index tried sound s next is at = split s.left s.trail s.at where
  split : (left : ℕ) → Trail (unentered_count start) start tries s.cost left current → IsAt left current s.spent (Words light from) → used < due start
  split zero trail here = absurd here
  split (suc left) trail here =
      let made = next_try left current light from index tried here.0 next is at in
      let more = trail-more tries (unentered_count start) start s.cost left current tried trail made.0 in
      let all = trail-due (tries ++ tried ∷ []) (unentered_count start) start (s.cost + cost_of left current tried) left (after_try current tried) sound more in
      omega (arith, s.used_is, here.1, made.1)

pub searching-count : (start current : Position) (tries : List Try) (used : ℕ) (next : Next) → IsSearching start tries used current next → light_count current ≡ light_count start
searching-count start current tries used next s = (trail-lights tries (unentered_count start) start s.cost s.left current s.trail).0

-- ---- the end of the search

-- what an answer means for the positions before and after
abbrev pub IsOutcome : ℕ → Position → Position → Filling → Type 0
IsOutcome limit start now Filled = (due start ≤ limit) × (found start ≡ true) × (now ≡ end start)
IsOutcome limit start now NoFill = (due start ≤ limit) × (found start ≡ false) × (now ≡ start)
IsOutcome limit start now Limit = (limit < due start) × (now ≡ start)

-- the same for the states
pub outcome_filling : (limit : ℕ) (before now : State) (filling : Filling) → DiffersInEntries before now → IsOutcome limit (position_of before) (position_of now) filling → IsFilling limit before now filling
outcome_filling limit before now Filled differs h = (h.0, h.1, differs ∙ ap (λ position. filled_in before position.board.entries) h.2)
outcome_filling limit before now NoFill differs h = (h.0, h.1, same_state before now differs h.2)
outcome_filling limit before now Limit differs h = (h.0, same_state before now differs h.1)

due_none : (left : ℕ) (position : Position) → is_dead position ≡ false → chosen position ≡ None → (found_in left position ≡ true) × (due_in left position ≡ 0) × (end_in left position ≡ position)
unfolding found_in due_in end_in
due_none zero position alive is = (rw (alive, is) refl, refl, refl)
due_none (suc left) position alive is = (rw (alive, is) refl, rw (alive, is) refl, rw is refl)

pub searching-done : (start current : Position) (tries : List Try) (used limit : ℕ) → IsSound start → IsSearching start tries used current Done → used ≤ limit → IsOutcome limit start current Filled
searching-done start current tries used limit sound s few =
    let here = due_none s.left current s.at.0 s.at.1 in
    let all = trail-found tries (unentered_count start) start s.cost s.left current sound s.trail here.0 in
    (omega (arith, s.used_is, s.at.2, all.1, here.1), all.0, sym (all.2 ∙ here.2))

pub searching-none : (start current : Position) (used limit : ℕ) → IsSearching start [] used current Spent → used ≤ limit → IsOutcome limit start current NoFill
searching-none start current used limit s few =
    let same : current ≡ start = s.trail.2 in
    let full : s.left ≡ unentered_count start = s.trail.1 in
    let none : found start ≡ false = ap (λ p. found_in (unentered_count start) p) (sym same) ∙ ap (λ n. found_in n current) (sym full) ∙ s.at.0 in
    let paid : due start ≡ due_in s.left current = ap (λ p. due_in (unentered_count start) p) (sym same) ∙ ap (λ n. due_in n current) (sym full) in
    (omega (arith, s.used_is, s.at.1, paid, s.trail.0), none, same)

-- the same in terms of fills
pub filling-fill : (limit : ℕ) (before now : State) (filling : Filling) → IsWellFormed before → IsFilling limit before now filling → HasFill before now filling
filling-fill limit before now Filled formed h =
    let start = position_of before in
    let is = found_is_fill (unentered_count start) start start.board.entries (shaped start.board formed.board) (reached-start start formed.board.letters) h.1 in
    (is.0, is.2, h.2 ∙ ap (λ position. filled_in before position.board.entries) is.1)
filling-fill limit before now NoFill formed h = λ entries fill. false≢true (sym h.1 ∙ fill_is_found (unentered_count (position_of before)) (position_of before) entries (shaped (board_of before.grid) formed.board) (omega arith) fill)
filling-fill limit before now Limit formed h = tt

-- an answer that leaves the state as it was
pub unless_filled : {A : Type 0} (limit : ℕ) (before after : State) (filling : Filling) → IsFilling limit before after filling → (after ≡ before → A) → UnlessFilled filling A
unless_filled limit before after Filled is then = tt
unless_filled limit before after NoFill is then = then is.2
unless_filled limit before after Limit is then = then is.1

-- ---- the terms of the code

pub on_err : {T E P : Type 0} (result : Result T E) → P → OnErr result P
on_err (Ok x) is = tt
on_err (Err e) is = is

-- a property of a value that was returned, with its error type changed
pub made : {T E D : Type 0} (r : Result T E) (m : Result T D) (x : T) (P : E → D → Type 0) (Q : T → Type 0) → MatchResult r (λ y. m ≡ Ok y) (λ e. IsErrAnd m (P e)) → m ≡ Ok x → IfOk r Q → Q x
made (Ok y) m x P Q cases is q = let same : y ≡ x = cc in subst Q same q
made (Err e) m x P Q cases is q = absurd (subst (λ r. IsErrAnd r (P e)) is cases)

pub searching-popped : (start current : Position) (tries rest : List Try) (popped : Option Try) (tried : Try) (used : ℕ) (next : Next) → IsSearching start tries used current next → next ≡ Spent → tries ≡ rest ++ option_to_list popped → popped ≡ Some tried → IsSearching start (rest ++ tried ∷ []) used current Spent
searching-popped start current tries rest popped tried used next s is items some =
    subst (λ n. IsSearching start (rest ++ tried ∷ []) used current n) is (subst (λ ts. IsSearching start ts used current next) (items ∙ ap (λ o. rest ++ option_to_list o) some) s)

pub searching-empty : (start current : Position) (tries rest : List Try) (popped : Option Try) (used : ℕ) (next : Next) → IsSearching start tries used current next → next ≡ Spent → tries ≡ rest ++ option_to_list popped → popped ≡ None → length tries ≡ 0 → IsSearching start [] used current Spent
searching-empty start current tries rest popped used next s is items none long =
    subst (λ n. IsSearching start [] used current n) is (subst (λ ts. IsSearching start ts used current next) (nil_from_length tries long) s)

-- the index of the last try is in the dictionary
pub last-index : (start current : Position) (tries : List Try) (tried : Try) (used : ℕ) → IsSound start → IsSearching start (tries ++ tried ∷ []) used current Spent → tried.index < 1048576
last-index start current tries tried used sound s =
    let last = trail-last tries (unentered_count start) start s.cost s.left current tried s.trail in
    let before_sound = trail-sound tries (unentered_count start) start last.paid (suc s.left) last.before sound last.trail in
    let few = before_sound.dictionary.few (length (light_at last.before.board tried.light)) in
    let within = last.is.within in
    omega arith

-- the try of this word in this light
abbrev try_at : ℕ → ℕ → Try
try_at light index = record { light = light; index = index }

pub due-more : (start current : Position) (tries : List Try) (used light from index : ℕ) → IsSound start → IsSearching start tries used current (Words light from) → IsNextWord current light from index → used < due start
due-more start current tries used light from index sound s next =
    searching-limit start current tries used light from index (try_at light index) sound s next refl refl
