use Rattle.std.proofs.Common.{refl}
use Rattle.xw_grid.specs.Puzzle.{puzzle_view}
use Rattle.xw_cli_files.proofs.convert.convert.Goals as goal

pub returns : goal.returns
returns g c = (
  refl,
  record {
    kind = c.in_ok-puzzle.field-0-0;
    puzzle = puzzle_view c.in_ok-puzzle.puzzle;
    mid = c.read_puzzle.new.self;
    found = c.in_ok-puzzle.ensures.ok;
    written = c.put_puzzle.new.desk;
    writes = c.in_ok-put_puzzle.ensures.ok;
    text = c.tell_text.ensures c.in_ok-note.ensures.note;
  },
)
