use Rattle.xw_text.proofs.LineLemmas.{lines_of-with_lfs}
use Rattle.xw_text.proofs.lines.lines_are_pieces_between_line_feeds.Goals as goal

pub returns : goal.returns
returns c = lines_of-with_lfs
