-- The search does not depend on the bound on placements, the chosen light is the first with the fewest words, and the
-- answer is unique.
use Rattle.std.proofs.Common.{◌≡◌, ℕ, zero, suc, ◌+◌, ◌-◌, ◌<◌, ◌≤◌, Bool, true, false, cond, not, ◌&&◌, List, [], ◌∷◌, length, Option, Some, None, refl, sym, ◌∙◌, ap, subst, arith, inl, inr}
use Rattle.std.specs.Prelude.{nat_lt, Result, Ok, Err, IfOk, OnErr}
use Rattle.std.specs.List.{list_any}
use Rattle.std.proofs.lemmas.Bool.{cases_eq, true≢false, false≢true, ltb-true, ltb-false}
use Rattle.xw_feas.specs.State.{State}
use Rattle.xw_search.specs.Position.{Position, position_of, placed, filled_in}
use Rattle.xw_fill.specs.Filling.{IsFilling}
use Rattle.xw_search.specs.declared.filling.Filling.{Filling}
use Rattle.xw_search.specs.declared.filling.Filling.TheVariants.{Filled, NoFill, Limit}
use Rattle.xw_search.proofs.Shaped.{IsShaped}
use Rattle.xw_search.specs.FeasibleWords.{feasible_words}
use Rattle.xw_search.specs.Lights.{light_count, is_entered}
use Rattle.xw_fill.specs.Search.{is_dead, with_fewer, chosen_below, chosen, found_by, found_in, due_of, due_by, due_in, end_of, end_by, end_in, unentered_count, found, due, end}
use Rattle.xw_fill.specs.Laws.{IsSearched, IsChoice, AnswerIsOne, EndIsOne}
use Rattle.xw_search.proofs.StateLemmas.{DiffersInEntries-itself}
use Rattle.xw_search.proofs.BelowLemmas.{Among}
use Rattle.xw_fill.proofs.SearchLemmas.{chosen-Some, chosen-counted, chosen_below-None, open_feasible, placed-laid, placed-fewer}

list_any-same : (f g : List ℕ → Bool) (words : List (List ℕ)) → ((word : List ℕ) → Among word words → f word ≡ g word) → list_any f words ≡ list_any g words
list_any-same f g [] same = refl
list_any-same f g (word ∷ words) same = rw (same word (inl refl), list_any-same f g words (λ w among. same w (inr among))) refl

due_of-same : (f g : List ℕ → Bool) (d e : List ℕ → ℕ) (words : List (List ℕ)) → ((word : List ℕ) → Among word words → (f word ≡ g word) × (d word ≡ e word)) → due_of f d words ≡ due_of g e words
due_of-same f g d e [] same = refl
due_of-same f g d e (word ∷ words) same = let here = same word (inl refl) in rw (here.0, here.1, due_of-same f g d e words (λ w among. same w (inr among))) refl

end_of-same : (f g : List ℕ → Bool) (d e : List ℕ → Position) (position : Position) (words : List (List ℕ)) → ((word : List ℕ) → Among word words → (f word ≡ g word) × (d word ≡ e word)) → end_of f d position words ≡ end_of g e position words
end_of-same f g d e position [] same = refl
end_of-same f g d e position (word ∷ words) same = let here = same word (inl refl) in rw (here.0, here.1, end_of-same f g d e position words (λ w among. same w (inr among))) refl

-- two bounds give the same result
pub record AreSame (position : Position) (m n : ℕ) : Type 0 where
  pub found_same : found_in m position ≡ found_in n position
  pub due_same : due_in m position ≡ due_in n position
  pub end_same : end_in m position ≡ end_in n position

AreSame-refl : (position : Position) (m n : ℕ) → m ≡ n → AreSame position m n
AreSame-refl position m n e = record { found_same = ap (λ k. found_in k position) e; due_same = ap (λ k. due_in k position) e; end_same = ap (λ k. end_in k position) e }

AreSame-then : (position : Position) (k m n : ℕ) → AreSame position k m → AreSame position m n → AreSame position k n
AreSame-then position k m n a b = record { found_same = a.found_same ∙ b.found_same; due_same = a.due_same ∙ b.due_same; end_same = a.end_same ∙ b.end_same }

-- two bounds give the same result at every position after one placement
abbrev AfterOne : Position → (Position → ℕ) → (Position → ℕ) → Type 0
AfterOne position m n = (light : ℕ) → chosen position ≡ Some light → (word : List ℕ) → Among word (feasible_words position light) → AreSame (placed position light word) (m (placed position light word)) (n (placed position light word))

found_by-same : (position : Position) (m n : Position → ℕ) → AfterOne position m n → (o : Option ℕ) → chosen position ≡ o → (found_by (λ p. found_in (m p) p) position o ≡ found_by (λ p. found_in (n p) p) position o) × (due_by (λ p. found_in (m p) p) (λ p. due_in (m p) p) position o ≡ due_by (λ p. found_in (n p) p) (λ p. due_in (n p) p) position o) × (end_by (λ p. found_in (m p) p) (λ p. end_in (m p) p) position o ≡ end_by (λ p. found_in (n p) p) (λ p. end_in (n p) p) position o)
found_by-same position m n same None e = (refl, refl, refl)
found_by-same position m n same (Some light) e = (
  list_any-same _ _ (feasible_words position light) (λ word among. (same light e word among).found_same),
  due_of-same _ _ _ _ (feasible_words position light) (λ word among. let is = same light e word among in (is.found_same, is.due_same)),
  end_of-same _ _ _ _ position (feasible_words position light) (λ word among. let is = same light e word among in (is.found_same, is.end_same)),
)

-- a placement leaves fewer lights to enter
after_fewer : (position : Position) → IsShaped position.board → (light : ℕ) → chosen position ≡ Some light → (word : List ℕ) → Among word (feasible_words position light) → unentered_count (placed position light word) < unentered_count position
after_fewer position laid light e word among =
    let is = chosen-Some position light e in
    placed-fewer position light word laid (open_feasible position light word is.0 is.1 among).1 is.0 is.1

none_chosen : (position : Position) → unentered_count position ≡ 0 → chosen position ≡ None
none_chosen position none = split (chosen position) refl where
  split : (o : Option ℕ) → chosen position ≡ o → o ≡ None
  split None e = refl
  split (Some light) e = let counted = chosen-counted position light e in absurd (omega arith)

-- a bound that is already large enough may grow by one
one_more : (n : ℕ) (position : Position) → IsShaped position.board → unentered_count position ≤ n → AreSame position (suc n) n
unfolding found_in due_in end_in
one_more zero position laid enough =
    let none = none_chosen position (omega arith) in
    record { found_same = rw none refl; due_same = dead_or_none (is_dead position) (chosen position) none; end_same = rw none refl } where
      dead_or_none : (b : Bool) (o : Option ℕ) → o ≡ None → cond b 0 (due_by (found_in 0) (due_in 0) position o) ≡ 0
      dead_or_none true o e = refl
      dead_or_none false o e = rw e refl
one_more (suc n) position laid enough =
    let same = found_by-same position (λ p. suc n) (λ p. n) (λ light e word among. let fewer = after_fewer position laid light e word among in one_more n (placed position light word) (placed-laid position light word laid) (omega arith)) (chosen position) refl in
    record {
      found_same = ap (λ b. not (is_dead position) && b) same.0;
      due_same = ap (λ d. cond (is_dead position) 0 d) same.1;
      end_same = same.2;
    }

enough_is : (d : ℕ) (position : Position) → IsShaped position.board → AreSame position (unentered_count position + d) (unentered_count position)
enough_is zero position laid = AreSame-refl position _ _ add-zero' where
  add-zero' : unentered_count position + 0 ≡ unentered_count position
  add-zero' = omega arith
enough_is (suc d) position laid =
    AreSame-then position (unentered_count position + suc d) (suc (unentered_count position + d)) (unentered_count position)
    (AreSame-refl position _ _ (step (unentered_count position)))
    (AreSame-then position (suc (unentered_count position + d)) (unentered_count position + d) (unentered_count position) (one_more (unentered_count position + d) position laid (omega arith)) (enough_is d position laid)) where
      step : (m : ℕ) → m + suc d ≡ suc (m + d)
      step m = omega arith

enough_at : (n : ℕ) (position : Position) → IsShaped position.board → unentered_count position ≤ n → AreSame position n (unentered_count position)
enough_at n position laid enough =
    let up : n ≡ unentered_count position + (n - unentered_count position) = omega arith in
    AreSame-then position n _ (unentered_count position) (AreSame-refl position n (unentered_count position + (n - unentered_count position)) up) (enough_is (n - unentered_count position) position laid)

pub search_is : (position : Position) → IsShaped position.board → IsSearched position
unfolding found_in due_in end_in
search_is position laid = split (unentered_count position) refl where
  split : (n : ℕ) → unentered_count position ≡ n → IsSearched position
  split zero none =
      let empty = none_chosen position none in
      record {
        found_is = ap (λ k. found_in k position) none ∙ rw empty refl;
        due_is = ap (λ k. due_in k position) none ∙ dead_or_none (is_dead position) (chosen position) empty;
        end_is = ap (λ k. end_in k position) none ∙ rw empty refl;
      } where
        dead_or_none : (b : Bool) (o : Option ℕ) → o ≡ None → 0 ≡ cond b 0 (due_by found due position o)
        dead_or_none true o e = refl
        dead_or_none false o e = rw e refl
  split (suc n) some =
      let same = found_by-same position (λ p. n) unentered_count (λ light e word among. let fewer = after_fewer position laid light e word among in enough_at n (placed position light word) (placed-laid position light word laid) (omega arith)) (chosen position) refl in
      record {
        found_is = ap (λ k. found_in k position) some ∙ ap (λ b. not (is_dead position) && b) same.0;
        due_is = ap (λ k. due_in k position) some ∙ ap (λ d. cond (is_dead position) 0 d) same.1;
        end_is = ap (λ k. end_in k position) some ∙ same.2;
      }

-- ---- the chosen light

-- the same among the first n lights
pub record IsChosenBelow (position : Position) (n light : ℕ) : Type 0 where
  pub in_grid : light < n
  pub not_entered : is_entered position light ≡ false
  pub fewest : (other : ℕ) → other < n → is_entered position other ≡ false → length (feasible_words position light) ≤ length (feasible_words position other)
  pub first : (other : ℕ) → other < light → is_entered position other ≡ false → length (feasible_words position light) < length (feasible_words position other)

chosen_below-is : (position : Position) (n light : ℕ) → chosen_below position n ≡ Some light → IsChosenBelow position n light
chosen_below-is position zero light h = cc
chosen_below-is position (suc n) light h = split (λ other. chosen_below-is position n other) (is_entered position n) refl (chosen_below position n) refl h where
  split : ((other : ℕ) → chosen_below position n ≡ Some other → IsChosenBelow position n other) → (b : Bool) → is_entered position n ≡ b → (o : Option ℕ) → chosen_below position n ≡ o → cond b o (Some (with_fewer position o n)) ≡ Some light → IsChosenBelow position (suc n) light
  split before true e o at g =
      let is = before light (at ∙ g) in
      record {
        in_grid = omega (arith, is.in_grid);
        not_entered = is.not_entered;
        fewest = λ other below open_other. elim (cases_eq other n) [
          | inl here ↦ absurd (true≢false (sym e ∙ ap (is_entered position) (sym here) ∙ open_other))
          | inr ne ↦ is.fewest other (omega arith) open_other
        ];
        first = is.first;
      }
  split before false e None at g =
      let same : n ≡ light = cc in
      subst (IsChosenBelow position (suc n)) same (record {
        in_grid = omega arith;
        not_entered = e;
        fewest = λ other below open_other. elim (cases_eq other n) [
          | inl here ↦ let alike : length (feasible_words position n) ≡ length (feasible_words position other) = ap (λ l. length (feasible_words position l)) (sym here) in omega arith
          | inr ne ↦ absurd (true≢false (sym (chosen_below-None position n at other (omega arith)) ∙ open_other))
        ];
        first = λ other below open_other. absurd (true≢false (sym (chosen_below-None position n at other below) ∙ open_other));
      })
  split before false e (Some best) at g = with_best (nat_lt (length (feasible_words position n)) (length (feasible_words position best))) refl g where
    with_best : (t : Bool) → nat_lt (length (feasible_words position n)) (length (feasible_words position best)) ≡ t → Some (cond t n best) ≡ Some light → IsChosenBelow position (suc n) light
    with_best true less k =
        let same : n ≡ light = cc in
        let is = before best at in
        let fewer = ltb-true (length (feasible_words position n)) (length (feasible_words position best)) less in
        subst (IsChosenBelow position (suc n)) same (record {
          in_grid = omega arith;
          not_entered = e;
          fewest = λ other below open_other. elim (cases_eq other n) [
            | inl here ↦ let alike : length (feasible_words position n) ≡ length (feasible_words position other) = ap (λ l. length (feasible_words position l)) (sym here) in omega arith
            | inr ne ↦ let more = is.fewest other (omega arith) open_other in omega arith
          ];
          first = λ other below open_other. let more = is.fewest other below open_other in omega arith;
        })
    with_best false more k =
        let same : best ≡ light = cc in
        let is = before best at in
        let least = ltb-false (length (feasible_words position n)) (length (feasible_words position best)) more in
        subst (IsChosenBelow position (suc n)) same (record {
          in_grid = omega (arith, is.in_grid);
          not_entered = is.not_entered;
          fewest = λ other below open_other. elim (cases_eq other n) [
            | inl here ↦ let alike : length (feasible_words position n) ≡ length (feasible_words position other) = ap (λ l. length (feasible_words position l)) (sym here) in omega arith
            | inr ne ↦ is.fewest other (omega arith) open_other
          ];
          first = is.first;
        })

pub choice_is : (position : Position) → IsChoice position (chosen position)
unfolding chosen
choice_is position = split (chosen_below position (light_count position)) refl where
  split : (o : Option ℕ) → chosen_below position (light_count position) ≡ o → IsChoice position o
  split None e = chosen_below-None position (light_count position) e
  split (Some light) e = let is = chosen_below-is position (light_count position) light e in record { in_grid = is.in_grid; not_entered = is.not_entered; fewest = is.fewest; first = is.first }

-- ---- the answer

limit_not : (limit : ℕ) (before other : State) → position_of before ≡ position_of other → due (position_of before) ≤ limit → limit < due (position_of other) → ⊥
limit_not limit before other same few many =
    let alike : due (position_of before) ≡ due (position_of other) = ap due same in
    omega arith

found_not : (before other : State) → position_of before ≡ position_of other → found (position_of before) ≡ true → found (position_of other) ≡ false → ⊥
found_not before other same is not_there = true≢false (sym is ∙ ap found same ∙ not_there)

pub answer_is_one : AnswerIsOne
answer_is_one limit before other now other_now Filled Filled same a b = refl
answer_is_one limit before other now other_now NoFill NoFill same a b = refl
answer_is_one limit before other now other_now Limit Limit same a b = refl
answer_is_one limit before other now other_now Filled NoFill same a b = absurd (found_not before other same a.1 b.1)
answer_is_one limit before other now other_now NoFill Filled same a b = absurd (found_not other before (sym same) b.1 a.1)
answer_is_one limit before other now other_now Filled Limit same a b = absurd (limit_not limit before other same a.0 b.0)
answer_is_one limit before other now other_now NoFill Limit same a b = absurd (limit_not limit before other same a.0 b.0)
answer_is_one limit before other now other_now Limit Filled same a b = absurd (limit_not limit other before (sym same) b.0 a.0)
answer_is_one limit before other now other_now Limit NoFill same a b = absurd (limit_not limit other before (sym same) b.0 a.0)

pub end_is_one : EndIsOne
end_is_one limit before now other_now Filled a b = a.2 ∙ sym b.2
end_is_one limit before now other_now NoFill a b = a.2 ∙ sym b.2
end_is_one limit before now other_now Limit a b = a.1 ∙ sym b.1

-- ---- a search without a placement

words_idle : (found : List ℕ → Bool) (due : List ℕ → ℕ) (words : List (List ℕ)) → list_any found words ≡ true → due_of found due words ≡ 0 → ⊥
words_idle found due [] some none = false≢true some
words_idle found due (word ∷ words) some none = omega (arith, none)

choice_idle : (position : Position) (dead : Bool) (choice : Option ℕ) → (not dead && found_by found position choice) ≡ true → cond dead 0 (due_by found due position choice) ≡ 0 → end_by found end position choice ≡ position
choice_idle position true choice some none = absurd (false≢true some)
choice_idle position false None some none = refl
choice_idle position false (Some light) some none = absurd (words_idle (λ word. found (placed position light word)) (λ word. due (placed position light word)) (feasible_words position light) some none)

-- a search that may make no placement leaves the state as it was
filling_idle : (limit : ℕ) (before after : State) (filling : Filling) → IsShaped (position_of before).board → limit ≡ 0 → IsFilling limit before after filling → after ≡ before
filling_idle limit before after Filled shaped none is =
    let position = position_of before in
    let searched = search_is position shaped in
    let ends = searched.end_is ∙ choice_idle position (is_dead position) (chosen position) (sym searched.found_is ∙ is.1) (sym searched.due_is ∙ omega (arith, is.0, none)) in
    is.2 ∙ ap (λ (p : Position). filled_in before p.board.entries) ends ∙ sym (DiffersInEntries-itself before)
filling_idle limit before after NoFill shaped none is = is.2
filling_idle limit before after Limit shaped none is = is.1

pub idle_ok : {Fault : Type 0} (limit : ℕ) (before after : State) (result : Result Filling Fault) → IsShaped (position_of before).board → limit ≡ 0 → IfOk result (IsFilling limit before after) → OnErr result (after ≡ before) → after ≡ before
idle_ok limit before after (Ok filling) shaped none is same = filling_idle limit before after filling shaped none is
idle_ok limit before after (Err fault) shaped none is same = same
