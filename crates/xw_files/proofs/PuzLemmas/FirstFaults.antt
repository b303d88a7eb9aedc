-- The fault of a file is the first that holds of its bytes.
use Rattle.std.proofs.Common.{◌≡◌, ◌≢◌, ℕ, ◌*◌, List, length, nat_eq, refl, sym, ap, ◌∙◌, subst, inl, inr, Ok, Err}
use Rattle.std.specs.Prelude.{◌⊎◌, Result, Option, Some, None, IfOk, IfErr}
use Rattle.xw_grid.specs.declared.cell.Cell.{Cell}
use Rattle.xw_grid.specs.Grid.{Grid}
use Rattle.xw_grid.specs.Light.{lights_of}
use Rattle.xw_grid.specs.declared.puzzle.Puzzle.{Puzzle}
use Rattle.xw_grid.specs.Puzzle.{PuzzleShown, puzzle_view}
use Rattle.xw_files.specs.Steps.{GivesOrLacksMemory}
use Rattle.xw_files.specs.declared.fault.SumName.{SumName}
use Rattle.xw_files.specs.declared.fault.ReadFault.{ReadFault}
use Rattle.xw_files.specs.declared.fault.ReadFault.TheVariants as faults
use Rattle.xw_files.specs.Puz.Reading.{Fields, fields_at}
use Rattle.xw_files.specs.Puz.Sums.{sum_from, sums_of, wrong_sum}
use Rattle.xw_files.specs.Puz.Sections.{Section, AreBytes, AreSections, gext_in, circles_by}
use Rattle.xw_files.specs.Puz.Board.{no_wrong, grid_at, clues_in, puzzle_of, puzzle_at}
use Rattle.xw_files.specs.Puz.Faults.{cells_in, AreFields, IsGext, HasNoFault, IsFirstFault}
use Rattle.xw_files.specs.Puz.Laws.{FirstFaultIsFound}
use Rattle.xw_files.proofs.StepLemmas.{bind_ok, passed}
use Rattle.xw_files.proofs.PuzLemmas.Cuts.{gext-is, cut-of}
use Rattle.xw_files.proofs.PuzLemmas.SumsAndSquares.{same_from}
use Rattle.xw_files.proofs.PuzLemmas.Related.{rest-bytes, nothing_wrong}
use Rattle.xw_files.proofs.PuzLemmas.Ranks.{err_is, bind_err, refused, Clear, Never, more, only_11, only_12, none_later, first_alone}
use Rattle.xw_files.proofs.PuzLemmas.TextFaults.{fields_first, fields_clear}
use Rattle.xw_files.proofs.PuzLemmas.SumFaults.{one_fields, some_is, other_from, sum_first, sums_clear}
use Rattle.xw_files.proofs.PuzLemmas.CellFaults.{fielded, cell_first, Gridded, gridded, cells_clear, count_first, count_clear}

-- ---- the section of circles

module _ (bytes : List ℕ) (fields : Fields) (section : Section) (small : AreBytes bytes) (are : AreFields bytes fields) where
  gext_is : gext_in fields.rest ≡ Some section → IsGext bytes section
  gext_is e =
      let rest = rest-bytes fields are.reserved (subst AreBytes are.cut small) in
      let cut = cut-of fields.rest rest in
      record { fields = fields; are = are; sections = cut.sections; tail = cut.tail; cut = cut.are; first = sym (gext-is fields.rest cut.tail cut.sections rest cut.are) ∙ e }

  gext_read : IsGext bytes section → gext_in fields.rest ≡ Some section
  gext_read is =
      let rest = rest-bytes fields are.reserved (subst AreBytes are.cut small) in
      let cut : AreSections fields.rest is.sections is.tail = subst (λ (f : Fields). AreSections f.rest is.sections is.tail) (one_fields bytes is.fields fields is.are are) is.cut in
      gext-is fields.rest is.tail is.sections rest cut ∙ is.first

made-size : (bytes : List ℕ) (grid : Grid) → Gridded bytes grid → grid.width * grid.height ≡ cells_in bytes
made-size bytes grid made = ap (λ (g : Grid). g.width * g.height) made.is

-- the length of the one section of circles
size_clear : (bytes : List ℕ) (fields : Fields) (section : Section) → AreBytes bytes → AreFields bytes fields → gext_in fields.rest ≡ Some section → length section.body ≡ cells_in bytes → Clear bytes 11 → Clear bytes 12
size_clear bytes fields section small are e long clear = more bytes 11 clear (only_11 (Never bytes) (λ has.
    has.2 (subst (λ (s : Section). length s.body ≡ cells_in bytes) (some_is section has.0 (sym e ∙ gext_read bytes fields has.0 small are has.1)) long)))

circles_first : (bytes : List ℕ) (fields : Fields) (grid : Grid) (gext : Option Section) (fault : ReadFault) → AreBytes bytes → AreFields bytes fields → Gridded bytes grid → Clear bytes 11 → gext_in fields.rest ≡ gext → circles_by grid gext ≡ Err fault
    → IsFirstFault bytes fault
circles_first bytes fields grid None fault small are made clear at e = cc
circles_first bytes fields grid (Some section) fault small are made clear at e =
    let is = gext_is bytes fields section small are at in
    let size = made-size bytes grid made in
    elim (refused (nat_eq (length section.body) (grid.width * grid.height)) _ _ fault e) [
      | inl short ↦
          let differ : length section.body ≢ cells_in bytes = subst (λ n. length section.body ≢ n) size (other_from _ _ short.0) in
          subst (IsFirstFault bytes) short.1 (first_alone bytes faults.GextSize refl (section, is, differ) clear)
      | inr long ↦ elim (refused (nat_eq (sum_from 0 section.body) section.sum) _ _ fault long.1) [
        | inl wrong ↦
            let other = other_from (sum_from 0 section.body) section.sum wrong.0 in
            let clear_12 = size_clear bytes fields section small are at (same_from _ _ long.0 ∙ size) clear in
            subst (IsFirstFault bytes) wrong.1 (first_alone bytes faults.GextSum refl (section, is, λ e. other (sym e)) clear_12)
        | inr right ↦ cc
      ]
    ]

circles_fine : (grid : Grid) (section : Section) (circles : List Cell) → circles_by grid (Some section) ≡ Ok circles → (length section.body ≡ grid.width * grid.height) × (section.sum ≡ sum_from 0 section.body)
circles_fine grid section circles e =
    let long = passed (nat_eq (length section.body) (grid.width * grid.height)) _ _ circles e in
    let summed = passed (nat_eq (sum_from 0 section.body) section.sum) _ _ circles long.1 in
    (same_from _ _ long.0, sym (same_from _ _ summed.0))

circles_clear : (bytes : List ℕ) (fields : Fields) (grid : Grid) (circles : List Cell) → AreBytes bytes → AreFields bytes fields → Gridded bytes grid → Clear bytes 11 → circles_by grid (gext_in fields.rest) ≡ Ok circles → Clear bytes 13
circles_clear bytes fields grid circles small are made clear e =
    let Fine : Section → Type 0 = λ section. (length section.body ≡ grid.width * grid.height) × (section.sum ≡ sum_from 0 section.body) in
    let fine : (section : Section) → IsGext bytes section → Fine section = λ section is. circles_fine grid section circles (ap (circles_by grid) (sym (gext_read bytes fields section small are is)) ∙ e) in
    let clear_12 = more bytes 11 clear (only_11 (Never bytes) (λ has. has.2 ((fine has.0 has.1).0 ∙ made-size bytes grid made))) in
    more bytes 12 clear_12 (only_12 (Never bytes) (λ has. has.2 (fine has.0 has.1).1))

-- ---- the whole

wrong_is : (o : Option SumName) (fault : ReadFault) → no_wrong o ≡ Err fault → (sum : SumName) × (o ≡ Some sum) × (faults.BadSum sum ≡ fault)
wrong_is None fault e = cc
wrong_is (Some sum) fault e = (sum, refl, err_is (faults.BadSum sum) fault e)

-- where fields are read
module _ (bytes : List ℕ) (fields : Fields) (small : AreBytes bytes) (read : fields_at bytes ≡ Ok fields) where
  clear_of_sums : (x : Unit {0}) → no_wrong (wrong_sum fields.header (sums_of fields)) ≡ Ok x → Clear bytes 9
  clear_of_sums x e = sums_clear bytes fields (fielded bytes fields small read).are (fields_clear bytes fields read) (nothing_wrong _ x e)

  grid_of_fields : (grid : Grid) → grid_at fields ≡ Ok grid → Gridded bytes grid
  grid_of_fields grid e = gridded bytes fields grid (fielded bytes fields small read) e

  puzzle_first : (fault : ReadFault) → puzzle_of fields ≡ Err fault → IsFirstFault bytes fault
  puzzle_first fault e =
      let says = fielded bytes fields small read in
      elim (bind_err (no_wrong (wrong_sum fields.header (sums_of fields))) _ fault e) [
        | inl stop ↦
            let wrong = wrong_is _ fault stop in
            subst (IsFirstFault bytes) wrong.2 (sum_first bytes fields wrong.0 says.are (fields_clear bytes fields read) wrong.1)
        | inr sums ↦
            let clear_9 = clear_of_sums sums.0 sums.1 in
            elim (bind_err (grid_at fields) _ fault sums.2) [
              | inl stop ↦ cell_first bytes fields fault says clear_9 stop
              | inr grid ↦
                  let made = grid_of_fields grid.0 grid.1 in
                  let clear_10 = cells_clear bytes fields grid.0 says made clear_9 in
                  elim (bind_err (clues_in (lights_of grid.0) fields) _ fault grid.2) [
                    | inl stop ↦ elim (refused (nat_eq fields.header.clue_count (length (lights_of grid.0))) _ _ fault stop) [
                      | inl other ↦
                          let differ = subst (λ n. n ≢ length (lights_of grid.0)) says.clue_count (other_from _ _ other.0) in
                          subst (IsFirstFault bytes) other.1 (count_first bytes grid.0 made clear_10 differ)
                      | inr same ↦ cc
                    ]
                    | inr clues ↦
                        let counted = passed (nat_eq fields.header.clue_count (length (lights_of grid.0))) _ _ clues.0 clues.1 in
                        let clear_11 = count_clear bytes grid.0 made clear_10 (sym says.clue_count ∙ same_from _ _ counted.0) in
                        elim (bind_err (circles_by grid.0 (gext_in fields.rest)) _ fault clues.2) [
                          | inl stop ↦ circles_first bytes fields grid.0 (gext_in fields.rest) fault small says.are made clear_11 refl stop
                          | inr circles ↦ cc
                        ]
                  ]
            ]
      ]

  puzzle_clear : (puzzle : PuzzleShown) → puzzle_of fields ≡ Ok puzzle → Clear bytes 13
  puzzle_clear puzzle e =
      let says = fielded bytes fields small read in
      let sums = bind_ok (no_wrong (wrong_sum fields.header (sums_of fields))) _ puzzle e in
      let grid = bind_ok (grid_at fields) _ puzzle sums.2 in
      let made = grid_of_fields grid.0 grid.1 in
      let clues = bind_ok (clues_in (lights_of grid.0) fields) _ puzzle grid.2 in
      let counted = passed (nat_eq fields.header.clue_count (length (lights_of grid.0))) _ _ clues.0 clues.1 in
      let circles = bind_ok (circles_by grid.0 (gext_in fields.rest)) _ puzzle clues.2 in
      let clear_10 = cells_clear bytes fields grid.0 says made (clear_of_sums sums.0 sums.1) in
      let clear_11 = count_clear bytes grid.0 made clear_10 (sym says.clue_count ∙ same_from _ _ counted.0) in
      circles_clear bytes fields grid.0 circles.0 small says.are made clear_11 circles.1

pub first_fault : FirstFaultIsFound
first_fault bytes fault small e = elim (bind_err (fields_at bytes) puzzle_of fault e) [
  | inl stop ↦ fields_first bytes fault stop
  | inr fields ↦ puzzle_first bytes fields.0 small fields.1 fault fields.2
]

pub no_fault : (bytes : List ℕ) (puzzle : PuzzleShown) → AreBytes bytes → puzzle_at bytes ≡ Ok puzzle → HasNoFault bytes
no_fault bytes puzzle small e = let fields = bind_ok (fields_at bytes) puzzle_of puzzle e in none_later bytes (puzzle_clear bytes fields.0 small fields.1 puzzle fields.2)

-- the fault that a reader returns is the first one
pub gives-first : (bytes : List ℕ) (result : Result Puzzle ReadFault) → AreBytes bytes → GivesOrLacksMemory puzzle_view result (puzzle_at bytes) → IfErr result (λ fault. (fault ≡ faults.Memory) ⊎ IsFirstFault bytes fault)
gives-first bytes (Ok puzzle) small e = tt
gives-first bytes (Err faults.Memory) small e = inl refl
gives-first bytes (Err other) small e = inr (first_fault bytes other small (e (λ m. cc)))

pub gives-none : (bytes : List ℕ) (result : Result Puzzle ReadFault) → AreBytes bytes → GivesOrLacksMemory puzzle_view result (puzzle_at bytes) → IfOk result (λ _. HasNoFault bytes)
gives-none bytes (Ok puzzle) small e = no_fault bytes (puzzle_view puzzle) small e
gives-none bytes (Err fault) small e = tt
