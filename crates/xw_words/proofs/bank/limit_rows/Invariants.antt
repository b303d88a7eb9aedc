use Rattle.std.proofs.Common.{◌≡◌, ◌++◌, map, take, drop}
use Rattle.xw_words.specs.Bank.{limited_row}
use Rattle.xw_words.proofs.bank.limit_rows.Given as goal

-- the rows so far are limited, and the others are unchanged
abbrev pub invariant-loop-index : goal.invariant-loop-index
invariant-loop-index l = l.rows ≡ map (limited_row l.least) (take l.index l.initial.rows) ++ drop l.index l.initial.rows
