-- The fields of a file that was written are read back.
use Rattle.std.proofs.Common.{◌≡◌, ℕ, ◌+◌, ◌*◌, ◌≤◌, List, [], ◌∷◌, ◌++◌, length, take, drop, nat_lt, false, refl, arith, rules, Ok, length-append}
use Rattle.std.proofs.Math.Seq.{take-append_seam, drop-append_seam}
use Rattle.xw_files.specs.Puz.Reading.{Fields, cell_count, clues_at, texts_at, boards_at, fields_at}
use Rattle.xw_files.specs.Puz.Spelling.{FitsFile, AllHaveNoNul, with_nuls, file_bytes, header_bytes}
use Rattle.xw_files.specs.declared.puz.header.Header.{Header}
use Rattle.xw_files.specs.declared.fault.TextName.TheVariants.{Title, Author, Copyright, Clue, Notes}
use Rattle.xw_files.proofs.PuzLemmas.Texts.{text_at-again}
use Rattle.xw_files.proofs.PuzLemmas.Headers.{header_at-again}

clues_at-again : (clues : List (List ℕ)) (k : ℕ) (tail : List ℕ) → AllHaveNoNul clues → clues_at k (length clues) (with_nuls clues tail) ≡ Ok (clues, tail)
clues_at-again [] k tail h = refl
clues_at-again (clue ∷ clues) k tail h = rw (text_at-again (Clue k) clue (with_nuls clues tail) h.0, clues_at-again clues (k + 1) tail h.1) refl

texts_at-again : (fields : Fields) → FitsFile fields
    → texts_at fields.header fields.solution fields.state (fields.title ++ 0 ∷ (fields.author ++ 0 ∷ (fields.copyright ++ 0 ∷ with_nuls fields.clues (fields.notes ++ 0 ∷ fields.rest)))) ≡ Ok fields
texts_at-again fields fits =
    rw (
      text_at-again Title fields.title _ fits.title,
      text_at-again Author fields.author _ fits.author,
      text_at-again Copyright fields.copyright _ fits.copyright,
      ← fits.clue_count,
      clues_at-again fields.clues 1 (fields.notes ++ 0 ∷ fields.rest) fits.clues,
      text_at-again Notes fields.notes fields.rest fits.notes,
    ) refl

front : (text more : List ℕ) (count : ℕ) → length text ≡ count → take count (text ++ more) ≡ text
front text more count e = rw (← e) (take-append_seam text more)

behind : (text more : List ℕ) (count : ℕ) → length text ≡ count → drop count (text ++ more) ≡ more
behind text more count e = rw (← e) (drop-append_seam text more)

pub header-length : (header : Header) (reserved : List ℕ) → length header.masked ≡ 8 → length reserved ≡ 16 → length (header_bytes header reserved) ≡ 52
header-length header reserved m r = simp (length-append) (omega arith)

long : (n limit : ℕ) → limit ≤ n → nat_lt n limit ≡ false
long n limit h = search rules

abbrev texts : Fields → List ℕ
texts fields = fields.title ++ 0 ∷ (fields.author ++ 0 ∷ (fields.copyright ++ 0 ∷ with_nuls fields.clues (fields.notes ++ 0 ∷ fields.rest)))

boards_at-again : (fields : Fields) → FitsFile fields → boards_at fields.header (fields.solution ++ (fields.state ++ texts fields)) ≡ Ok fields
boards_at-again fields fits =
    let cells = cell_count fields.header in
    rw (
      behind fields.solution (fields.state ++ texts fields) cells fits.solution,
      behind fields.state (texts fields) cells fits.state,
      front fields.solution (fields.state ++ texts fields) cells fits.solution,
      front fields.state (texts fields) cells fits.state,
    )
    (texts_at-again fields fits)

pub fields_at-again : (fields : Fields) (reserved : List ℕ) → FitsFile fields → length reserved ≡ 16 → fields_at (file_bytes fields reserved) ≡ Ok fields
fields_at-again fields reserved fits r =
    let cells = cell_count fields.header in
    let boards : List ℕ = fields.solution ++ (fields.state ++ texts fields) in
    let size = header-length fields.header reserved fits.header.masked r in
    let enough : 52 + 2 * cells ≤ length (header_bytes fields.header reserved ++ boards) =
    omega (arith, size, length-append (header_bytes fields.header reserved) boards, length-append fields.solution (fields.state ++ texts fields), length-append fields.state (texts fields), fits.solution, fits.state) in
    rw (header_at-again fields.header reserved boards fits.header r, long _ _ enough, behind (header_bytes fields.header reserved) boards 52 size)
    (boards_at-again fields fits)
