use Rattle.std.proofs.Common.{◌≡◌, ◌≤◌, ◌<◌, ◌-◌, ℕ, take, get_or}
use Rattle.std.specs.Prelude.{Option}
use Rattle.xw_words.specs.Columns.{is_listed}
use Rattle.xw_words.proofs.Sieving.{is_among_first}
use Rattle.xw_words.proofs.sieve.list_letters.Given as goal

abbrev pub invariant-loop-index : goal.invariant-loop-index
invariant-loop-index l = record {
  within : l.next ≤ 26;
  few : l.count ≤ l.next;
  places : (k : ℕ) → k < l.count → get_or l.list k 0 < 26;
  lists : (letter : Option ℕ) → is_listed (take l.count l.list) letter ≡ is_among_first l.letters l.next letter;
}

abbrev pub decreases-loop-index : goal.decreases-loop-index
decreases-loop-index l = 26 - l.next
