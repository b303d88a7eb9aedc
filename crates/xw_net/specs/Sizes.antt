-- The lengths of a net's arrays.
use Rattle.std.specs.Prelude.{ℕ, List, [], ◌∷◌, ◌++◌, length, Option, Some, None}
use Rattle.xw_net.specs.declared.net.Net.{Net}
use Rattle.xw_net.specs.declared.room.Spare.{Spare}
use Rattle.xw_net.specs.Worklist.{ListOfLights}

-- the lengths of the spare arrays of bit rows; 0 if there are none
abbrev pub rows_waiting : Option Spare → List ℕ
rows_waiting None = 0 ∷ 0 ∷ []
rows_waiting (Some spare) = length spare.rows.items ∷ length spare.base.items ∷ []

-- the lengths of the other spare arrays; 0 if there are none
abbrev pub lists_waiting : Option Spare → List ℕ
lists_waiting None = 0 ∷ 0 ∷ 0 ∷ []
lists_waiting (Some spare) = length spare.entered.items ∷ length spare.queue_marks.items ∷ length spare.chain_marks.items ∷ []

-- the lengths of the arrays of a list of lights: the lights that wait, the marks, and two for the order in which lights
-- are taken, which have an element for each light that there is room for
abbrev pub list_sizes : ListOfLights → List ℕ
list_sizes list = length list.lights ∷ length list.marks ∷ list.room ∷ list.room ∷ []

-- the lengths of the arrays of bit rows
abbrev pub row_lists : Net → List ℕ
row_lists net = length net.rows.items ∷ length net.base.items ∷ rows_waiting net.spare

-- the lengths of the other arrays
abbrev pub other_lists : Net → List ℕ
other_lists net =
    length net.entered.items ∷ length net.letters.items ∷ length net.held.items ∷ length net.restart.items
    ∷ length net.pending.items ∷ list_sizes net.queue ++ list_sizes net.chain ++ lists_waiting net.spare
