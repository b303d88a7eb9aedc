-- The puzzle on which a session opens, by the bytes that are given.
use Rattle.std.proofs.Common.{◌≡◌, refl, arith, ℕ, false, List, [], ◌∷◌, length, eqb, true≢false}
use Rattle.xw_grid.specs.Puzzle.{PuzzleShown}
use Rattle.xw_files.specs.Formats.{IsRead}
use Rattle.xw_files.specs.declared.kind.Kind.{Kind}
use Rattle.xw_session.specs.Opening.{empty_puzzle}
use Rattle.xw_c.specs.OpenSession.{HasPuzzle}

-- no bytes are the empty puzzle
pub has_empty : (bytes : List ℕ) (puzzle : PuzzleShown) → length bytes ≡ 0 → puzzle ≡ empty_puzzle → HasPuzzle bytes puzzle
has_empty [] puzzle none is = is
has_empty (byte ∷ bytes) puzzle none is = absurd (omega (arith, none))

-- bytes are the puzzle that they mean
pub has_read : (bytes : List ℕ) (puzzle : PuzzleShown) → eqb (length bytes) 0 ≡ false → (kind : Kind) × IsRead kind bytes puzzle → HasPuzzle bytes puzzle
has_read [] puzzle some read = absurd (true≢false some)
has_read (byte ∷ bytes) puzzle some read = read
