-- The words known at the start stay the first ones.
use Rattle.std.proofs.Common.{◌≡◌, ℕ, ◌<◌, ◌≤◌, ◌||◌, Bool, List, [], ◌∷◌, length, map, set, true, false, refl, sym, ◌∙◌, ap, subst, inl, inr, length-set, arith}
use Rattle.std.specs.Prelude.{Option, Some, None, is_some, nat_lt, Result, Ok, Err}
use Rattle.std.proofs.Math.Nat.{max-eq_right}
use Rattle.std.proofs.lemmas.Bool.{cases_eq, cases_lt}
use Rattle.std.proofs.lemmas.Bool.Decides.{nat_tests}
use Rattle.std.proofs.lemmas.List.{get_or_append_left, get_or-set_same, get_or-set_other, get_or-map, get_or_past, length-map, length-append}
use Rattle.xw_words.specs.declared.fault.WordFault.{WordFault}
use Rattle.xw_words.specs.declared.bank.Added.{Added}
use Rattle.xw_words.specs.declared.bank.Added.TheVariants.{New, Returned}
use Rattle.xw_words.specs.Dictionary.{Dictionary, Entry, known_words, no_entry, entry_at, with_row, new_entry, returned, with_added, struck, with_struck, after_add, after_strike, limited, all_limited, with_least, capped}
use Rattle.xw_feas.specs.State.{answered}
use Rattle.xw_session_laws.specs.Replay.{fresh, IsSince, ComeFirst}

-- the same word; if its grade was never chosen since the start, it is the same grade
pub record IsLater (entry next : Entry) : Type 0 where
  pub word : next.word ≡ entry.word
  pub regraded : next.regraded ≡ false → entry.regraded ≡ false
  pub grade : next.regraded ≡ false → entry.grade ≡ next.grade

still_since : (begun entry next : Entry) → IsSince begun entry → IsLater entry next → IsSince begun next
still_since begun entry next since later =
    (since.0 ∙ ap (λ word. fresh word begun.grade) (sym later.word), λ none. since.1 (later.regraded none) ∙ later.grade none)

itself : (entry : Entry) → IsLater entry entry
itself entry = record { word = refl; regraded = λ none. none; grade = λ none. refl }

-- other words may follow, and each word stays or is later
pub record AreLater (entries next : List Entry) : Type 0 where
  pub many : length entries ≤ length next
  pub each : (index : ℕ) → index < length entries → IsLater (entry_at entries index) (entry_at next index)

pub still_first : (begun entries next : List Entry) → ComeFirst begun entries → AreLater entries next → ComeFirst begun next
still_first begun entries next first later = record {
  few = omega (arith, first.few, later.many);
  since = λ index within. still_since (entry_at begun index) (entry_at entries index) (entry_at next index) (first.since index within) (later.each index (omega (arith, within, first.few)));
}

-- ---- one change

set_later : (entries : List Entry) (index : ℕ) (next : Entry) → IsLater (entry_at entries index) next → AreLater entries (set entries index next)
set_later entries index next later = record {
  many = omega (arith, length-set entries index next);
  each = λ k within. elim (cases_eq k index) [
    | inl here ↦
        let there : index < length entries = omega (arith, within, here) in
        subst (IsLater (entry_at entries k)) (sym (ap (entry_at (set entries index next)) here ∙ get_or-set_same entries index next no_entry there)) (subst (λ i. IsLater (entry_at entries i) next) (sym here) later)
    | inr other ↦ subst (IsLater (entry_at entries k)) (sym (get_or-set_other entries index k next no_entry other)) (itself (entry_at entries k))
  ];
}

neither : (a b : Bool) → (a || b) ≡ false → (a ≡ false) × (b ≡ false)
neither false b e = (refl, e)
neither true b e = cc

not_chosen : (least grade : ℕ) (given : Option ℕ) → (is_some given || nat_lt grade least) ≡ false → (given ≡ None) × (least ≤ grade)
not_chosen least grade None e = (refl, grind (arith, nat_tests, e))
not_chosen least grade (Some number) e = cc

returned_later : (least : ℕ) (given : Option ℕ) (entry : Entry) → IsLater entry (returned least given entry)
returned_later least given entry = record {
  word = refl;
  regraded = λ none. (neither entry.regraded _ none).0;
  grade = λ none.
      let same = not_chosen least entry.grade given (neither entry.regraded _ none).1 in
      sym (ap (λ found. (returned least found entry).grade) same.0 ∙ max-eq_right same.1);
}

struck_later : (entry : Entry) → IsLater entry (struck entry)
struck_later entry = record { word = refl; regraded = λ none. none; grade = λ none. refl }

limited_later : (least : ℕ) (entry : Entry) → IsLater entry (limited least entry)
limited_later least entry = record { word = refl; regraded = λ none. none; grade = λ none. refl }

added_later : (least : ℕ) (entries : List Entry) (word : List ℕ) (given : Option ℕ) (added : Added) → AreLater entries (with_added least entries word given added)
added_later least entries word given (New index) = record {
  many = omega (arith, length-append entries (new_entry least word given ∷ []));
  each = λ k within. subst (IsLater (entry_at entries k)) (sym (get_or_append_left entries (new_entry least word given ∷ []) no_entry k within)) (itself (entry_at entries k));
}
added_later least entries word given (Returned index) = set_later entries index (returned least given (entry_at entries index)) (returned_later least given (entry_at entries index))

all_later : (least : ℕ) (entries : List Entry) → AreLater entries (all_limited least entries)
all_later least entries = record {
  many = omega (arith, length-map entries (limited least));
  each = λ k within. subst (IsLater (entry_at entries k)) (sym (get_or-map (limited least) entries k no_entry no_entry within)) (limited_later least (entry_at entries k));
}

-- ---- a dictionary

abbrev pub AllComeFirst : Dictionary → Dictionary → Type 0
AllComeFirst begun words = (count : ℕ) → ComeFirst (known_words begun count) (known_words words count)

module _ (begun words : Dictionary) (first : AllComeFirst begun words) where
  row_kept : (long : ℕ) (entries : List Entry) → ComeFirst (known_words begun long) entries → AllComeFirst begun (with_row words long entries)
  row_kept long entries good count =
      elim (cases_eq count long) [
        | inl here ↦
            elim (cases_lt long (length words.rows)) [
              | inl within ↦
                  subst (ComeFirst (known_words begun count)) (sym (ap (known_words (with_row words long entries)) here ∙ get_or-set_same words.rows long entries [] within)) (subst (λ n. ComeFirst (known_words begun n) entries) (sym here) good)
              | inr past ↦
                  let beyond : length (set words.rows long entries) ≤ count = omega (arith, past, here, length-set words.rows long entries) in
                  subst (ComeFirst (known_words begun count)) (get_or_past words.rows count [] (omega (arith, past, here)) ∙ sym (get_or_past (set words.rows long entries) count [] beyond)) (first count)
            ]
        | inr other ↦ subst (ComeFirst (known_words begun count)) (sym (get_or-set_other words.rows long count entries [] other)) (first count)
      ]

  module _ (word : List ℕ) where
    abbrev these : List Entry
    these = known_words words (length word)

    pub added_kept : (given : Option ℕ) (answer : Result Added WordFault) (next : Dictionary) → answered (after_add words word given) answer ≡ Ok next → AllComeFirst begun next
    added_kept given (Ok added) next e =
        let same : after_add words word given added ≡ next = cc in
        subst (AllComeFirst begun) same (row_kept (length word) (with_added words.least these word given added) (still_first (known_words begun (length word)) these _ (first (length word)) (added_later words.least these word given added)))
    added_kept given (Err fault) next e = cc

    pub struck_kept : (answer : Result ℕ WordFault) (next : Dictionary) → answered (after_strike words word) answer ≡ Ok next → AllComeFirst begun next
    struck_kept (Ok index) next e =
        let same : after_strike words word index ≡ next = cc in
        subst (AllComeFirst begun) same
        (row_kept (length word) (with_struck these index) (still_first (known_words begun (length word)) these _ (first (length word)) (set_later these index (struck (entry_at these index)) (struck_later (entry_at these index)))))
    struck_kept (Err fault) next e = cc

  pub limited_kept : (number : ℕ) → AllComeFirst begun (with_least number words)
  limited_kept number count =
      let same : known_words (with_least number words) count ≡ all_limited (capped number) (known_words words count) =
      elim (cases_lt count (length words.rows)) [
        | inl within ↦ get_or-map (all_limited (capped number)) words.rows count [] [] within
        | inr past ↦
            let beyond : length (map (all_limited (capped number)) words.rows) ≤ count = omega (arith, past, length-map words.rows (all_limited (capped number))) in
            get_or_past (map (all_limited (capped number)) words.rows) count [] beyond ∙ ap (all_limited (capped number)) (sym (get_or_past words.rows count [] past))
      ] in
      subst (ComeFirst (known_words begun count)) (sym same) (still_first (known_words begun count) (known_words words count) _ (first count) (all_later (capped number) (known_words words count)))
