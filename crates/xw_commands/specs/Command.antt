-- The command of a line.
use Rattle.std.specs.Prelude.{ℕ, ◌==◌, nat_lt, List, length, slice_index, Option, Some, None, Result, Ok, Err, if◌then◌else◌}
use Rattle.xw_commands.specs.declared.command.Command.{Command}
use Rattle.xw_commands.specs.declared.command.Command.TheVariants.{Ask, Change, Search}
use Rattle.xw_commands.specs.declared.query.Query.{Query}
use Rattle.xw_commands.specs.declared.change.Change.{Change as DeclaredChange}
use Rattle.xw_commands.specs.declared.search.Search.{Search as DeclaredSearch}
use Rattle.xw_commands.specs.declared.query.QueryName.{QueryName}
use Rattle.xw_commands.specs.declared.query.TheConstants.{QUERIES}
use Rattle.xw_commands.specs.declared.change.ChangeName.{ChangeName}
use Rattle.xw_commands.specs.declared.change.TheConstants.{CHANGES}
use Rattle.xw_commands.specs.declared.search.SearchName.{SearchName}
use Rattle.xw_commands.specs.declared.search.TheConstants.{SEARCHES}
use Rattle.xw_commands.specs.declared.command.SyntaxFault.{SyntaxFault}
use Rattle.xw_commands.specs.declared.command.SyntaxFault.TheVariants as faults
use Rattle.xw_commands.specs.Line.{without_cr, first_word}
use Rattle.xw_commands.specs.Reading.{Reading, ◌>>=◌, given, fault, lookup, is_ended}
use Rattle.xw_commands.specs.Names.{by_name}
use Rattle.xw_commands.specs.Query.{query_word, query_form, queries}
use Rattle.xw_commands.specs.Change.{change_word, change_form, changes}
use Rattle.xw_commands.specs.Search.{search_word, search_form, searches}

-- the reading of a command from what the three tables have of its word
abbrev pub reading_of : Option (Reading Query) → Option (Reading DeclaredChange) → Option (Reading DeclaredSearch) → Reading Command
reading_of (Some query) change search = do given (Ask (← query))
reading_of None (Some change) search = do given (Change (← change))
reading_of None None (Some search) = do given (Search (← search))
reading_of None None None = fault faults.Command

-- the reading of the command with this word
abbrev pub command_named : List ℕ → Reading Command
command_named word = reading_of (lookup queries word) (lookup changes word) (lookup searches word)

-- the command, if no word of its line is left
abbrev pub whole : Result (Command × List ℕ) SyntaxFault → Result (Option Command) SyntaxFault
whole (Ok found) = if is_ended found.1 then Ok (Some found.0) else Err faults.Arguments
whole (Err f) = Err f

-- The command of a line that is split into its first word and the rest. A line whose first word begins with # is a
-- comment.
abbrev pub command_in : Option (List ℕ × List ℕ) → Result (Option Command) SyntaxFault
command_in None = Ok None
command_in (Some found) = if slice_index found.0 0 == 35 then Ok None else whole (command_named found.0 found.1)

-- the command of a line without its LF, or its fault; None for a blank line and for a comment
abbrev pub command_of : List ℕ → Result (Option Command) SyntaxFault
command_of line = if nat_lt 4096 (length line) then Err faults.LineTooLong else command_in (first_word (without_cr line))

-- ---- forms

-- the form of the name that the three tables have
abbrev pub form_of : Option QueryName → Option ChangeName → Option SearchName → Option (List ℕ)
form_of (Some query) change search = Some (query_form query)
form_of None (Some change) search = Some (change_form change)
form_of None None (Some search) = Some (search_form search)
form_of None None None = None

-- the form of the command with this word
abbrev pub form_named : List ℕ → Option (List ℕ)
form_named word = form_of (lookup (by_name query_word QUERIES) word) (lookup (by_name change_word CHANGES) word) (lookup (by_name search_word SEARCHES) word)
