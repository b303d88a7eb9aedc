use Rattle.std.proofs.Common.{◌≡◌, Bool, true, false, List, ℕ, [], rules}
use Rattle.std.specs.Prelude.{Result, Ok, Err, IfOk}
use Rattle.xw_cli_files.specs.WordLists.{AreNotes}
use Rattle.xw_cli_files.proofs.lists.notes_of.Goals as goal

-- no bytes are no notes
no_notes : (due : Bool) (notes : List ℕ) → notes ≡ [] → AreNotes due notes
no_notes true notes none = tt
no_notes false notes none = none

-- any bytes are notes if these are due
notes_due : {T E : Type 0} (bytes : T → List ℕ) (result : Result T E) (due : Bool) → due ≡ true → IfOk result (λ notes. AreNotes due (bytes notes))
notes_due bytes (Ok notes) true is = tt
notes_due bytes (Ok notes) false is = cc
notes_due bytes (Err fault) due is = tt

pub returns-then-not-is_due : goal.returns-then-not-is_due
returns-then-not-is_due c =
    let none : c.new.result.bytes.items ≡ [] = search rules in
    no_notes c.args.is_due c.new.result.bytes.items none

pub returns : goal.returns
returns c =
    let is : c.args.is_due ≡ true = search rules in
    notes_due (λ notes. notes.bytes.items) c.format.result c.args.is_due is
