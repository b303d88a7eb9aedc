-- The first text that has no NUL after it.
use Rattle.std.proofs.Common.{◌≡◌, ℕ, zero, suc, ◌+◌, ◌*◌, ◌<◌, ◌≤◌, Bool, true, false, cond, List, [], ◌∷◌, ◌++◌, length, take, drop, nat_eq, nat_lt, refl, sym, ap, ◌∙◌, subst, arith, inl, inr, Ok, Err}
use Rattle.std.specs.Prelude.{Result, count_by}
use Rattle.std.proofs.lemmas.Bool.Decides.{nat_tests}
use Rattle.std.proofs.lemmas.List.{drop-drop}
use Rattle.std.proofs.lemmas.List.Sums.{sum_by-cons, sum_by-append}
use Rattle.xw_files.specs.Steps.{◌>>=◌}
use Rattle.xw_files.specs.declared.puz.header.Header.{Header}
use Rattle.xw_files.specs.declared.fault.Piece.TheVariants as part
use Rattle.xw_files.specs.declared.fault.TextName.{TextName}
use Rattle.xw_files.specs.declared.fault.TextName.TheVariants.{Title, Author, Copyright, Clue, Notes}
use Rattle.xw_files.specs.declared.fault.ReadFault.{ReadFault}
use Rattle.xw_files.specs.declared.fault.ReadFault.TheVariants.{Short, NoNul}
use Rattle.xw_files.specs.Puz.Reading.{Fields, cell_count, header_at, text_at, clues_at, texts_at, fields_at}
use Rattle.xw_files.specs.Puz.Spelling.{HasNoNul, AllHaveNoNul, with_nuls}
use Rattle.xw_files.specs.Puz.Faults.{width_in, height_in, cells_in, clue_count_in, nuls_in, LacksNul, text_location, IsLess, IsFirstFault}
use Rattle.xw_files.proofs.StepLemmas.{bind_ok, avoided}
use Rattle.xw_files.proofs.PuzLemmas.Comparisons.{not-same}
use Rattle.xw_files.proofs.PuzLemmas.Texts.{text_at-takes}
use Rattle.xw_files.proofs.PuzLemmas.Taken.{tested, clues_at-takes, texts_at-takes}
use Rattle.xw_files.proofs.PuzLemmas.Ranks.{err_is, bind_err, caught, Clear, Never, NotSooner, NoSooner, more, only_6, only_7, first_among, first_alone}
use Rattle.xw_files.proofs.PuzLemmas.HeaderFaults.{header_first, header_clear}

-- ---- NULs are counted

abbrev nuls : List ℕ → ℕ
nuls bytes = count_by (λ byte. nat_eq byte 0) bytes

nuls-cons : (b : ℕ) (bytes : List ℕ) → nuls (b ∷ bytes) ≡ cond (nat_eq b 0) 1 0 + nuls bytes
nuls-cons b bytes = sum_by-cons (λ byte. cond (nat_eq byte 0) 1 0) b bytes

nuls-none : (text : List ℕ) → HasNoNul text → nuls text ≡ 0
nuls-none [] h = refl
nuls-none (b ∷ text) h =
    let rest = nuls-none text h.1 in
    let full : nat_eq b 0 ≡ false = not-same b 0 h.0 in
    nuls-cons b text ∙ rw (full, rest) refl

-- a text and its NUL
nuls-text : (text rest : List ℕ) → HasNoNul text → nuls (text ++ 0 ∷ rest) ≡ 1 + nuls rest
nuls-text text rest h = sum_by-append (λ byte. cond (nat_eq byte 0) 1 0) text (0 ∷ rest) ∙ (let end = nuls-cons 0 rest in let none = nuls-none text h in omega (arith, end, none))

nuls-texts : (texts : List (List ℕ)) (rest : List ℕ) → AllHaveNoNul texts → nuls (with_nuls texts rest) ≡ length texts + nuls rest
nuls-texts [] rest h = omega arith
nuls-texts (text ∷ texts) rest h =
    let more = nuls-texts texts rest h.1 in
    nuls-text text (with_nuls texts rest) h.0 ∙ omega (arith, more)

-- ---- where reading stops

stops : (which : TextName) (is_nul : Bool) (b : ℕ) (bytes : List ℕ) (read : Result (List ℕ × List ℕ) ReadFault) (fault : ReadFault) → nat_eq b 0 ≡ is_nul
    → ((f : ReadFault) → read ≡ Err f → (NoNul which ≡ f) × (nuls bytes ≡ 0))
    → cond {A = Result (List ℕ × List ℕ) ReadFault} is_nul (Ok ([], bytes)) (read >>= λ x. Ok (b ∷ x.0, x.1)) ≡ Err fault → (NoNul which ≡ fault) × (nuls (b ∷ bytes) ≡ 0)
stops which true b bytes read fault n ih e = cc
stops which false b bytes (Ok x) fault n ih e = cc
stops which false b bytes (Err f) fault n ih e =
    let is = ih f refl in
    (is.0 ∙ err_is f fault e, nuls-cons b bytes ∙ rw (n, is.1) refl)

text_at-stops : (which : TextName) (bytes : List ℕ) (fault : ReadFault) → text_at which bytes ≡ Err fault → (NoNul which ≡ fault) × (nuls bytes ≡ 0)
text_at-stops which [] fault e = (err_is (NoNul which) fault e, refl)
text_at-stops which (b ∷ bytes) fault e = stops which (nat_eq b 0) b bytes (text_at which bytes) fault refl (λ f h. text_at-stops which bytes f h) e

clues_at-stops : (k count : ℕ) (bytes : List ℕ) (fault : ReadFault) → clues_at k count bytes ≡ Err fault → (j : ℕ) × (NoNul (Clue j) ≡ fault) × (k ≤ j) × (j < k + count) × (nuls bytes + k ≡ j)
clues_at-stops k zero bytes fault e = cc
clues_at-stops k (suc count) bytes fault e = elim (bind_err (text_at (Clue k) bytes) _ fault e) [
  | inl first ↦ let here = text_at-stops (Clue k) bytes fault first in (k, here.0, omega arith, omega arith, omega (arith, here.1))
  | inr clue ↦ elim (bind_err (clues_at (k + 1) count clue.0.1) _ fault clue.2) [
    | inl later ↦
        let there = clues_at-stops (k + 1) count clue.0.1 fault later in
        let is = text_at-takes (Clue k) bytes clue.0.0 clue.0.1 clue.1 in
        let count = ap nuls is.1 ∙ nuls-text clue.0.0 clue.0.1 is.0 in
        (there.0, there.1, omega (arith, there.2), omega (arith, there.3), omega (arith, there.4, count))
    | inr all ↦ cc
  ]
]

-- the number of NULs before the one of this text
abbrev Stops : ℕ → ℕ → TextName → Type 0
Stops clues nuls Title = nuls ≡ 0
Stops clues nuls Author = nuls ≡ 1
Stops clues nuls Copyright = nuls ≡ 2
Stops clues nuls (Clue k) = (1 ≤ k) × (k ≤ clues) × (nuls ≡ 2 + k)
Stops clues nuls Notes = nuls ≡ 3 + clues

texts_at-stops : (header : Header) (solution state bytes : List ℕ) (fault : ReadFault) → texts_at header solution state bytes ≡ Err fault → (text : TextName) × (NoNul text ≡ fault) × Stops header.clue_count (nuls bytes) text
texts_at-stops header solution state bytes fault e = elim (bind_err (text_at Title bytes) _ fault e) [
  | inl stop ↦ let s = text_at-stops Title bytes fault stop in (Title, s.0, s.1)
  | inr title ↦
      let t = text_at-takes Title bytes title.0.0 title.0.1 title.1 in
      let t_nuls = ap nuls t.1 ∙ nuls-text title.0.0 title.0.1 t.0 in
      elim (bind_err (text_at Author title.0.1) _ fault title.2) [
        | inl stop ↦ let s = text_at-stops Author title.0.1 fault stop in (Author, s.0, omega (arith, t_nuls, s.1))
        | inr author ↦
            let a = text_at-takes Author title.0.1 author.0.0 author.0.1 author.1 in
            let a_nuls = ap nuls a.1 ∙ nuls-text author.0.0 author.0.1 a.0 in
            elim (bind_err (text_at Copyright author.0.1) _ fault author.2) [
              | inl stop ↦ let s = text_at-stops Copyright author.0.1 fault stop in (Copyright, s.0, omega (arith, t_nuls, a_nuls, s.1))
              | inr copyright ↦
                  let c = text_at-takes Copyright author.0.1 copyright.0.0 copyright.0.1 copyright.1 in
                  let c_nuls = ap nuls c.1 ∙ nuls-text copyright.0.0 copyright.0.1 c.0 in
                  elim (bind_err (clues_at 1 header.clue_count copyright.0.1) _ fault copyright.2) [
                    | inl stop ↦
                        let s = clues_at-stops 1 header.clue_count copyright.0.1 fault stop in
                        (Clue s.0, s.1, (s.2, omega (arith, s.3), omega (arith, t_nuls, a_nuls, c_nuls, s.4)))
                    | inr clues ↦
                        let k = clues_at-takes 1 header.clue_count copyright.0.1 clues.0.0 clues.0.1 clues.1 in
                        let k_nuls = ap nuls k.2 ∙ nuls-texts clues.0.0 clues.0.1 k.0 in
                        elim (bind_err (text_at Notes clues.0.1) _ fault clues.2) [
                          | inl stop ↦ let s = text_at-stops Notes clues.0.1 fault stop in (Notes, s.0, omega (arith, t_nuls, a_nuls, c_nuls, k_nuls, k.1, s.1))
                          | inr all ↦ cc
                        ]
                  ]
            ]
      ]
]

-- ---- a text without its NUL is the first

stops-lacks : (clues nuls : ℕ) (text : TextName) → Stops clues nuls text → LacksNul clues nuls text
stops-lacks clues nuls (Clue k) s = (s.0, s.1, omega (arith, s.2))
stops-lacks clues nuls other s = omega (arith, s)

stops-first : (clues nuls : ℕ) (text earlier : TextName) → Stops clues nuls text → IsLess (text_location earlier) (text_location text) → LacksNul clues nuls earlier → ⊥
stops-first clues nuls (Clue k) (Clue j) s less lacks = grind (arith, s, less, lacks)
stops-first clues nuls text earlier s less lacks = grind (arith, s, less, lacks)

enough : (clues nuls : ℕ) (text : TextName) → 3 + clues + 1 ≤ nuls → LacksNul clues nuls text → ⊥
enough clues nuls (Clue k) many lacks = absurd (omega (arith, many, lacks.1, lacks.2))
enough clues nuls other many lacks = absurd (omega (arith, many, lacks))

-- ---- the boards and the texts of a file

-- what a header says by offsets
pub record Told (bytes : List ℕ) (header : Header) : Type 0 where
  pub width : header.width ≡ width_in bytes
  pub height : header.height ≡ height_in bytes
  pub cells : cell_count header ≡ cells_in bytes
  pub clue_count : header.clue_count ≡ clue_count_in bytes

pub told : (bytes : List ℕ) (header : Header) → header_at bytes ≡ Ok header → Told bytes header
told bytes header e =
    let is = sym (tested bytes header e).is in
    record {
      width = ap (λ (h : Header). h.width) is;
      height = ap (λ (h : Header). h.height) is;
      cells = ap cell_count is;
      clue_count = ap (λ (h : Header). h.clue_count) is;
    }

-- what follows the boards
behind_boards : (cells : ℕ) (bytes : List ℕ) → drop cells (drop cells (drop 52 bytes)) ≡ drop (52 + 2 * cells) bytes
behind_boards cells bytes =
    let twice : 52 + (cells + cells) ≡ 52 + 2 * cells = omega arith in
    drop-drop cells cells (drop 52 bytes) ∙ drop-drop (cells + cells) 52 bytes ∙ ap (λ n. drop n bytes) twice

same-nuls : (bytes : List ℕ) (header : Header) → header_at bytes ≡ Ok header → let cells = cell_count header in nuls (drop cells (drop cells (drop 52 bytes))) ≡ nuls_in bytes
same-nuls bytes header e = ap nuls (behind_boards (cell_count header) bytes) ∙ ap (λ n. nuls (drop (52 + 2 * n) bytes)) (told bytes header e).cells

boards_clear : (bytes : List ℕ) (header : Header) → header_at bytes ≡ Ok header → nat_lt (length bytes) (52 + 2 * cell_count header) ≡ false → Clear bytes 7
boards_clear bytes header e long =
    let cells = (told bytes header e).cells in
    more bytes 6 (header_clear bytes header e) (only_6 (Never bytes) (λ short. absurd (grind (arith, nat_tests, long, cells, short))))

no_sooner : (bytes : List ℕ) (text : TextName) → Stops (clue_count_in bytes) (nuls_in bytes) text → NoSooner bytes (NoNul text)
no_sooner bytes text stop = only_7 (NotSooner bytes (NoNul text)) (λ other less lacks. stops-first (clue_count_in bytes) (nuls_in bytes) text other stop less lacks)

text_first : (bytes : List ℕ) (text : TextName) → Clear bytes 7 → Stops (clue_count_in bytes) (nuls_in bytes) text → IsFirstFault bytes (NoNul text)
text_first bytes text clear stop = first_among bytes (NoNul text) (stops-lacks (clue_count_in bytes) (nuls_in bytes) text stop) clear (no_sooner bytes text stop)

pub fields_first : (bytes : List ℕ) (fault : ReadFault) → fields_at bytes ≡ Err fault → IsFirstFault bytes fault
fields_first bytes fault e = elim (bind_err (header_at bytes) _ fault e) [
  | inl stop ↦ header_first bytes fault stop
  | inr header ↦ elim (caught (nat_lt (length bytes) (52 + 2 * cell_count header.0)) _ _ fault header.2) [
    | inl short ↦
        let cells = (told bytes header.0 header.1).cells in
        subst (IsFirstFault bytes) short.1 (first_alone bytes (Short part.Boards) refl (grind (arith, nat_tests, short.0, cells)) (header_clear bytes header.0 header.1))
    | inr long ↦
        let clear = boards_clear bytes header.0 header.1 long.0 in
        let cells = cell_count header.0 in
        let body = drop 52 bytes in
        let stop = texts_at-stops header.0 (take cells body) (take cells (drop cells body)) (drop cells (drop cells body)) fault long.1 in
        let count = subst (λ n. Stops n (nuls (drop cells (drop cells body))) stop.0) (told bytes header.0 header.1).clue_count stop.2 in
        let stops = subst (λ n. Stops (clue_count_in bytes) n stop.0) (same-nuls bytes header.0 header.1) count in
        subst (IsFirstFault bytes) stop.1 (text_first bytes stop.0 clear stops)
  ]
]

-- fields that are read leave no such fault
pub fields_clear : (bytes : List ℕ) (fields : Fields) → fields_at bytes ≡ Ok fields → Clear bytes 8
fields_clear bytes fields e =
    let head = bind_ok (header_at bytes) _ fields e in
    let long = avoided (nat_lt (length bytes) (52 + 2 * cell_count head.0)) _ _ fields head.2 in
    let cells = cell_count head.0 in
    let body = drop 52 bytes in
    let texts = texts_at-takes head.0 (take cells body) (take cells (drop cells body)) (drop cells (drop cells body)) fields long.1 in
    let last = nuls-text fields.notes fields.rest texts.notes in
    let clues = nuls-texts fields.clues (fields.notes ++ 0 ∷ fields.rest) texts.clues in
    let behind = with_nuls fields.clues (fields.notes ++ 0 ∷ fields.rest) in
    let third = nuls-text fields.copyright behind texts.copyright in
    let second = nuls-text fields.author (fields.copyright ++ 0 ∷ behind) texts.author in
    let all = ap nuls texts.spelled ∙ nuls-text fields.title (fields.author ++ 0 ∷ (fields.copyright ++ 0 ∷ behind)) texts.title in
    let same = same-nuls bytes head.0 head.1 in
    let count = (told bytes head.0 head.1).clue_count in
    let many : 3 + clue_count_in bytes + 1 ≤ nuls_in bytes = omega (arith, last, clues, third, second, all, same, count, texts.clue_count) in
    more bytes 7 (boards_clear bytes head.0 head.1 long.0) (only_7 (Never bytes) (λ text lacks. enough (clue_count_in bytes) (nuls_in bytes) text many lacks))
