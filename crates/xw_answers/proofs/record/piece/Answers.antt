use Rattle.xw_answers.proofs.Recording.{piece_of_rest}
use Rattle.xw_answers.proofs.record.piece.Goals as goal

pub returns : goal.returns
returns c = piece_of_rest c.args.text.now c.args.before c.min.result c.min.ensures
