-- The lines of `help`.
use Rattle.std.specs.Prelude.{ℕ, List, ◌++◌, flat_map}
use Rattle.xw_commands.specs.declared.query.TheConstants.{QUERIES}
use Rattle.xw_commands.specs.declared.change.TheConstants.{CHANGES}
use Rattle.xw_commands.specs.declared.search.TheConstants.{SEARCHES}
use Rattle.xw_commands.specs.Query.{query_form}
use Rattle.xw_commands.specs.Change.{change_form}
use Rattle.xw_commands.specs.Search.{search_form}
use Rattle.xw_answers.specs.Text.{word_line}

-- the form of each of these names on a line
abbrev pub form_lines : {N : Type 0} → (N → List ℕ) → List N → List ℕ
form_lines form names = flat_map (λ name. word_line (form name)) names

-- the forms of the changes, and then of the searches
abbrev pub changing_forms : List ℕ
changing_forms = form_lines change_form CHANGES ++ form_lines search_form SEARCHES

-- the forms of all commands: the queries come first
abbrev pub all_forms : List ℕ
all_forms = form_lines query_form QUERIES ++ changing_forms
