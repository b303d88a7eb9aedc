-- States that can share a snapshot, and those that can be exchanged with one.
use Rattle.std.specs.Prelude.{◌≡◌, ℕ}
use Rattle.xw_words.specs.Dictionary.{with_least}
use Rattle.xw_grid.specs.EditLaws.{SameShape}
use Rattle.xw_feas.specs.State.{State}

-- the states differ only in what editing letters changes: they have the same lights, open cells and dictionary
pub record IsTwin (old new : State) : Type 0 where
  pub shape : SameShape old.grid new.grid
  pub words : new.words ≡ old.words

-- a snapshot of one state can save the other: they have the same lights and open cells, and with the same least grade
-- they would have the same dictionary
pub record CanSave (old new : State) : Type 0 where
  pub shape : SameShape old.grid new.grid
  pub words : (grade : ℕ) → with_least grade new.words ≡ with_least grade old.words
