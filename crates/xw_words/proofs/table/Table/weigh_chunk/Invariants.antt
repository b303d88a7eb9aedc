use Rattle.xw_words.proofs.table.Table.weigh_chunk.Given as goal

abbrev pub decreases-loop-left : goal.decreases-loop-left
decreases-loop-left l = l.left
