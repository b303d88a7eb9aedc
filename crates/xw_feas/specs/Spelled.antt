-- The letters of a feasible word.
use Rattle.std.specs.Prelude.{ℕ, List}
use Rattle.xw_feas.specs.declared.word_iter.Spelled.{Spelled}
use Rattle.xw_feas.specs.declared.word_iter.Spelled.TheVariants.{Listed, Entered}

-- the letters of a known word, or of the word entered in a light
abbrev pub spelling : Spelled → List ℕ
spelling (Listed letters) = letters.now
spelling (Entered entries) = entries
