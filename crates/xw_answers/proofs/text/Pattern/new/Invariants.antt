use Rattle.std.proofs.Common.{◌≡◌, map}
use Rattle.std.specs.List.{range_with_len}
use Rattle.arrayvec.specs.ArrayVec.{array_vec_len}
use Rattle.xw_grid.specs.Grid.{entry}
use Rattle.xw_grid.specs.Light.{step}
use Rattle.xw_answers.specs.Text.{letter_or_dot}
use Rattle.xw_answers.proofs.text.Pattern.new.Given as goal

-- the letters of the first cells are copied
abbrev pub invariant-loop-k : goal.invariant-loop-k
invariant-loop-k l = record {
  long : array_vec_len l.bytes ≡ l.k;
  is : l.bytes.items ≡ map (λ k. letter_or_dot (entry l.grid (step l.light.name.direction l.light.start k))) (range_with_len 0 l.k);
}
