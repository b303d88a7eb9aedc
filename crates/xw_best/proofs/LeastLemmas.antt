-- Lemmas on the least grade of an active word.
use Rattle.std.proofs.Common.{◌≡◌, ℕ, ◌+◌, ◌<◌, ◌≤◌, Bool, true, not, leb, List, [], length, Some, None, min, sym, ◌∙◌, ap, subst, arith, inl, inr}
use Rattle.std.specs.Prelude.{Contains}
use Rattle.std.specs.Str.{bytes_eq}
use Rattle.std.proofs.lemmas.Bool.{cases_lt, and_parts, and_from, le-leb, leb-true, false≢true}
use Rattle.std.proofs.lemmas.List.{get_or-map, length-map}
use Rattle.std.proofs.lemmas.List.Quantifiers.{position-Some}
use Rattle.std.proofs.lemmas.Slice.Eq.{bytes_eq-Decides}
use Rattle.xw_words.specs.Dictionary.{Dictionary, Entry, no_entry, known_words, entry_at, index_of_word, best_grade, capped, is_left, limited, all_limited, with_least}
use Rattle.xw_words.proofs.DictionaryLemmas.{length-limited, row-with_least}
use Rattle.xw_feas.specs.State.{State}
use Rattle.xw_feas.specs.WellFormed.{IsWellFormed}
use Rattle.xw_feas.proofs.SnapshotLemmas.{with_least-again, with_least-same}
use Rattle.xw_search.specs.Position.{position_of}
use Rattle.xw_search.specs.Lights.{light_count, is_entered, spelling}
use Rattle.xw_search.specs.Listing.{IsActive}
use Rattle.xw_best.specs.Best.{at_least}
use Rattle.xw_best.specs.Inner.Climbing.{DiffersInLeast, IsActiveAt}
use Rattle.xw_search.proofs.Shaped.{HasDistinctWords}
use Rattle.xw_search.proofs.ListingLemmas.{no_index}

-- the least grade is a grade
pub least_within : (state : State) → IsWellFormed state → state.words.least ≤ best_grade
least_within state formed = formed.dictionary.least

-- ---- active words

left_parts : (least : ℕ) (entry : Entry) → is_left least entry ≡ true → (not entry.struck ≡ true) × (least ≤ entry.grade)
left_parts least entry h =
    let parts = and_parts (not entry.struck) (leb least entry.grade) h in
    (parts.0, leb-true least entry.grade parts.1)

-- the index of a word that is active at a grade
known_at : (words : Dictionary) (word : List ℕ) (grade : ℕ) → IsActive (with_least grade words) word → (k : ℕ) × (k < length (known_words words (length word))) × ((entry_at (known_words words (length word)) k).word ≡ word) × (is_left (capped grade) (entry_at (known_words words (length word)) k) ≡ true)
known_at words word grade active =
    let entries = known_words words (length word) in
    let known : Entry = active.0 in
    let there = subst (λ (es : List Entry). Contains es known) (row-with_least grade words (length word)) active.1.0 in
    let below : there.0 < length entries = omega (arith, there.1, length-limited (capped grade) entries) in
    let is : limited (capped grade) (entry_at entries there.0) ≡ known = sym (get_or-map (limited (capped grade)) entries there.0 no_entry known below) ∙ there.2 in
    (there.0, below, ap (λ (e : Entry). e.word) is ∙ active.1.1, ap (λ (e : Entry). e.active) is ∙ active.1.2)

-- a word at an index is active at a grade
active_at : (words : Dictionary) (word : List ℕ) (grade k : ℕ) → k < length (known_words words (length word)) → (entry_at (known_words words (length word)) k).word ≡ word → is_left (capped grade) (entry_at (known_words words (length word)) k) ≡ true → IsActive (with_least grade words) word
active_at words word grade k below spells left =
    let entries = known_words words (length word) in
    let known = limited (capped grade) (entry_at entries k) in
    let there : Contains (all_limited (capped grade) entries) known = (k, omega (arith, below, length-limited (capped grade) entries), get_or-map (limited (capped grade)) entries k no_entry known below) in
    (known, (subst (λ (es : List Entry). Contains es known) (sym (row-with_least grade words (length word))) there, spells, left))

-- a word of a grade or better is one of each lower grade or better
pub active_down : (words : Dictionary) (grade lower : ℕ) (word : List ℕ) → lower ≤ grade → IsActive (with_least grade words) word → IsActive (with_least lower words) word
active_down words grade lower word below active =
    let at = known_at words word grade active in
    let parts = left_parts (capped grade) (entry_at (known_words words (length word)) at.0) at.3 in
    active_at words word lower at.0 at.1 at.2 (and_from _ _ parts.0 (le-leb (capped lower) (entry_at (known_words words (length word)) at.0).grade (omega (arith, below, parts.1))))

-- ---- states

pub at_least-again : (state : State) (grade other : ℕ) → at_least (at_least state other) grade ≡ at_least state grade
at_least-again state grade other = ap (λ words. record state { words = words }) (with_least-again state.words grade other)

pub at_least-same : (state : State) → IsWellFormed state → at_least state state.words.least ≡ state
at_least-same state formed = ap (λ words. record state { words = words }) (with_least-same state formed)

pub differs_once : (state : State) (grade : ℕ) → DiffersInLeast state (at_least state grade)
differs_once state grade other = at_least-again state other grade

pub differs_then : (one two three : State) → DiffersInLeast one two → DiffersInLeast two three → DiffersInLeast one three
differs_then one two three first second grade = second grade ∙ first grade

-- the same lights
pub differs_lights : (before after : State) → DiffersInLeast before after → light_count (position_of after) ≡ light_count (position_of before)
differs_lights before after differs = ap (λ (state : State). light_count (position_of state)) (differs 0)

-- ---- the grade of a word

-- a word that is not known is active at no grade
pub graded-none : (words : Dictionary) (word : List ℕ) (grade : ℕ) → index_of_word words word ≡ None → IsActive (with_least grade words) word → ⊥
graded-none words word grade none active =
    let at = known_at words word grade active in
    false≢true (sym (no_index (λ (e : Entry). bytes_eq e.word word) (known_words words (length word)) no_entry 0 none at.0 (omega arith) at.1) ∙ (bytes_eq-Decides _ word).1 at.2)

-- the word at an index is the one that was looked for
graded-index : (words : Dictionary) (word : List ℕ) (index k : ℕ) → HasDistinctWords words → index_of_word words word ≡ Some index → k < length (known_words words (length word)) → (entry_at (known_words words (length word)) k).word ≡ word → k ≡ index
graded-index words word index k distinct found below spells =
    let known = known_words words (length word) in
    let long = length-map known (λ (e : Entry). e.word) in
    let there = position-Some (λ (e : Entry). bytes_eq e.word word) known index no_entry found in
    let same : (entry_at known index).word ≡ word = (bytes_eq-Decides _ word).0 there.1 in
    distinct.distinct (length word) k index (omega (arith, long, below)) (omega (arith, long, there.0))
    (get_or-map (λ (e : Entry). e.word) known k no_entry [] below ∙ spells ∙ sym same ∙ sym (get_or-map (λ (e : Entry). e.word) known index no_entry [] there.0))

-- a known word that is active at a grade has this grade or a better one
pub graded-some : (words : Dictionary) (word : List ℕ) (index grade : ℕ) → HasDistinctWords words → index_of_word words word ≡ Some index → grade ≤ best_grade → IsActive (with_least grade words) word → grade ≤ (entry_at (known_words words (length word)) index).grade
graded-some words word index grade distinct found within active =
    let at = known_at words word grade active in
    let here = graded-index words word index at.0 distinct found at.1 at.2 in
    let parts = left_parts (capped grade) (entry_at (known_words words (length word)) at.0) at.3 in
    subst (λ k. grade ≤ (entry_at (known_words words (length word)) k).grade) here (omega (arith, within, parts.1))

-- a word that is active at some grade is active at its own and each lower one
pub graded-reached : (words : Dictionary) (word : List ℕ) (index grade other : ℕ) → HasDistinctWords words → index_of_word words word ≡ Some index → IsActive (with_least other words) word → grade ≤ (entry_at (known_words words (length word)) index).grade → IsActive (with_least grade words) word
graded-reached words word index grade other distinct found active below =
    let at = known_at words word other active in
    let here = graded-index words word index at.0 distinct found at.1 at.2 in
    let parts = left_parts (capped other) (entry_at (known_words words (length word)) at.0) at.3 in
    let within = subst (λ k. grade ≤ (entry_at (known_words words (length word)) k).grade) (sym here) below in
    active_at words word grade at.0 at.1 at.2 (and_from _ _ parts.0 (le-leb (capped grade) (entry_at (known_words words (length word)) at.0).grade (omega (arith, within))))

-- ---- the worst grade of some lights

-- each flagged light before some light that is wholly entered spells a word of this grade or better
abbrev pub AreActiveBelow : ℕ → (ℕ → Bool) → State → ℕ → Type 0
AreActiveBelow n flagged state grade = (light : ℕ) → light < n → flagged light ≡ true → is_entered (position_of state) light ≡ true → IsActiveAt state grade (spelling (position_of state) light)

-- the worst of the grades of some words is this
pub record IsWorst (n : ℕ) (flagged : ℕ → Bool) (state : State) (worst : ℕ) : Type 0 where
  pub within : worst ≤ best_grade
  pub active : (grade : ℕ) → grade ≤ best_grade → AreActiveBelow n flagged state grade → grade ≤ worst
  pub reached : (grade other : ℕ) → AreActiveBelow n flagged state other → grade ≤ worst → AreActiveBelow n flagged state grade

pub worst_none : (flagged : ℕ → Bool) (state : State) → IsWorst 0 flagged state best_grade
worst_none flagged state = record {
  within = omega arith;
  active = λ grade within are. within;
  reached = λ grade other are below light before. absurd (omega (arith, before));
}

-- one more light that does not count
pub worst_same : (n : ℕ) (flagged : ℕ → Bool) (state : State) (worst : ℕ) → (flagged n ≡ true → is_entered (position_of state) n ≡ true → ⊥) → IsWorst n flagged state worst → IsWorst (n + 1) flagged state worst
worst_same n flagged state worst never is = record {
  within = is.within;
  active = λ grade within are. is.active grade within (λ light before. are light (omega (arith, before)));
  reached = λ grade other are below light before flag entered. elim (cases_lt light n) [
    | inl earlier ↦ is.reached grade other (λ light before. are light (omega (arith, before))) below light earlier flag entered
    | inr not_earlier ↦
        let here : light ≡ n = omega (arith, before, not_earlier) in
        absurd (never (subst (λ l. flagged l ≡ true) here flag) (subst (λ l. is_entered (position_of state) l ≡ true) here entered))
  ];
}

-- one more light that counts
pub worst_more : (n : ℕ) (flagged : ℕ → Bool) (state : State) (worst grade_here : ℕ) → flagged n ≡ true → is_entered (position_of state) n ≡ true
    → ((grade : ℕ) → grade ≤ best_grade → IsActiveAt state grade (spelling (position_of state) n) → grade ≤ grade_here)
    → ((grade other : ℕ) → IsActiveAt state other (spelling (position_of state) n) → grade ≤ grade_here → IsActiveAt state grade (spelling (position_of state) n))
    → IsWorst n flagged state worst → IsWorst (n + 1) flagged state (min worst grade_here)
worst_more n flagged state worst grade_here flag_here entered_here most reached is = record {
  within = omega (arith, is.within);
  active = λ grade within are.
      let before = is.active grade within (λ light before. are light (omega (arith, before))) in
      let here = most grade within (are n (omega arith) flag_here entered_here) in
      omega (arith, before, here);
  reached = λ grade other are below light before flag entered. elim (cases_lt light n) [
    | inl earlier ↦ is.reached grade other (λ light before. are light (omega (arith, before))) (omega (arith, below)) light earlier flag entered
    | inr not_earlier ↦
        let here : light ≡ n = omega (arith, before, not_earlier) in
        subst (λ l. IsActiveAt state grade (spelling (position_of state) l)) (sym here) (reached grade other (are n (omega arith) flag_here entered_here) (omega (arith, below)))
  ];
}
