use Rattle.std.proofs.Common.{◌≡◌, ◌≤◌, length}
use Rattle.xw_words.specs.Index.{word_in, IsIndex}
use Rattle.xw_words.proofs.index.Index.link_all.Given as goal

-- the words so far are linked
abbrev pub invariant-loop-word_index : goal.invariant-loop-word_index
invariant-loop-word_index l = record {
  index : IsIndex (word_in l.len l.letters) l.word_index l.self;
  room : l.initial.self.room ≤ l.self.room;
  heads : length l.self.heads ≡ length l.initial.self.heads;
}
