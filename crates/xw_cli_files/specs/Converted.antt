-- What `xw convert` does.
use Rattle.std.specs.Prelude.{◌⊎◌, ℕ, List}
use Rattle.xw_grid.specs.Puzzle.{PuzzleShown}
use Rattle.xw_files.specs.declared.kind.Kind.{Kind}
use Rattle.xw_desk.specs.declared.failure.Failure.{Failure}
use Rattle.xw_desk.specs.Desk.{Moment}
use Rattle.xw_desk.specs.Files.{IsFound, IsTextTold, IsUnread}
use Rattle.xw_cli_files.specs.Put.{IsNotPutOver, IsPutOver}

-- The first file was read, and the second was replaced by the puzzle that the bytes of the first mean. At last it is
-- reported that the puzzle was written as text.
pub record IsConverted (from_name to_name : List ℕ) (old new : Moment) : Type 0 where
  pub kind : Kind
  pub puzzle : PuzzleShown
  pub mid : Moment
  pub found : IsFound from_name kind puzzle old mid
  pub written : Moment
  pub writes : IsPutOver to_name puzzle mid written
  pub text : IsTextTold to_name written new

-- The first file was read, and its puzzle was not written to the second.
pub record IsNotWritten (from_name to_name : List ℕ) (failure : Failure) (old new : Moment) : Type 0 where
  pub kind : Kind
  pub puzzle : PuzzleShown
  pub mid : Moment
  pub found : IsFound from_name kind puzzle old mid
  pub unwritten : IsNotPutOver to_name puzzle failure mid new

-- why the puzzle of a file is not written to another
abbrev pub IsUnconverted : List ℕ → List ℕ → Failure → Moment → Moment → Type 0
IsUnconverted from_name to_name failure old new = IsUnread from_name failure old new ⊎ IsNotWritten from_name to_name failure old new
