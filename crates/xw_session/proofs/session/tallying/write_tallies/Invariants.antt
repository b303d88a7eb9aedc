use Rattle.std.proofs.Common.{◌≡◌, ◌++◌, ℕ, List}
use Rattle.std.specs.Prelude.{flat_map}
use Rattle.xw_letters.specs.LetterSet.{letters_in}
use Rattle.xw_session.specs.Tally.{tally_line}
use Rattle.xw_session.proofs.session.tallying.write_tallies.Given as goal

-- the first letters are written, and the iterator has the others
abbrev pub invariant-loop-letter : goal.invariant-loop-letter
invariant-loop-letter g l = (sent : List ℕ) × record {
  transcript : g.W.Sink.transcript l.sink ≡ g.W.Sink.transcript l.initial.sink ++ sent;
  left : flat_map (tally_line (g.E.Feasible.state l.engine) l.cell) (letters_in l.fn.letters) ≡ sent ++ flat_map (tally_line (g.E.Feasible.state l.engine) l.cell) l.letter-iterator;
  quiet : g.W.Sink.failures l.sink ≡ g.W.Sink.failures l.initial.sink;
}
