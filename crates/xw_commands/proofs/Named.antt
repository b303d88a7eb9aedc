-- The reading of a command that one of the three tables names.
use Rattle.std.proofs.Common.{◌≡◌, ℕ, List, Some, None, refl, sym, ◌∙◌, ap}
use Rattle.std.specs.Prelude.{Option, Result, Err}
use Rattle.xw_commands.specs.declared.query.Query.{Query}
use Rattle.xw_commands.specs.declared.query.QueryName.{QueryName}
use Rattle.xw_commands.specs.declared.query.TheConstants.{QUERIES}
use Rattle.xw_commands.specs.declared.change.Change.{Change}
use Rattle.xw_commands.specs.declared.change.ChangeName.{ChangeName}
use Rattle.xw_commands.specs.declared.change.TheConstants.{CHANGES}
use Rattle.xw_commands.specs.declared.search.Search.{Search}
use Rattle.xw_commands.specs.declared.search.SearchName.{SearchName}
use Rattle.xw_commands.specs.declared.search.TheConstants.{SEARCHES}
use Rattle.xw_commands.specs.declared.command.Command.TheVariants as commands
use Rattle.xw_commands.specs.declared.command.SyntaxFault.{SyntaxFault}
use Rattle.xw_commands.specs.declared.command.SyntaxFault.TheVariants as faults
use Rattle.xw_commands.specs.Names.{by_name}
use Rattle.xw_commands.specs.Reading.{Reading, given, then_others, lookup, reading_if_any}
use Rattle.xw_commands.specs.Query.{query_word, queries, query_named}
use Rattle.xw_commands.specs.Change.{change_word, changes, change_named}
use Rattle.xw_commands.specs.Search.{search_word, searches, search_named}
use Rattle.xw_commands.specs.Command.{command_named, reading_of}
use Rattle.xw_commands.proofs.Naming.{own_word, no_row, same_row}

module _ (word rest : List ℕ) where
  pub asked : (name : QueryName) (found : Result (Query × List ℕ) SyntaxFault) → lookup (by_name query_word QUERIES) word ≡ Some name → query_named (query_word name) rest ≡ found
      → command_named word rest ≡ then_others found (λ query. given (commands.Ask query))
  asked name found is read =
      let row = same_row query_word QUERIES queries word name refl is in
      let reads : row.0 rest ≡ found = ap (λ (r : Option (Reading Query)). reading_if_any r rest) (sym row.1) ∙ ap (λ word. query_named word rest) (own_word query_word QUERIES word name is) ∙ read in
      ap (λ query. reading_of query (lookup changes word) (lookup searches word) rest) row.1 ∙ ap (λ found. then_others found (λ query. given (commands.Ask query))) reads

  pub changed : (name : ChangeName) (found : Result (Change × List ℕ) SyntaxFault) → lookup (by_name query_word QUERIES) word ≡ None → lookup (by_name change_word CHANGES) word ≡ Some name
      → change_named (change_word name) rest ≡ found → command_named word rest ≡ then_others found (λ change. given (commands.Change change))
  changed name found no_query is read =
      let row = same_row change_word CHANGES changes word name refl is in
      let reads : row.0 rest ≡ found = ap (λ (r : Option (Reading Change)). reading_if_any r rest) (sym row.1) ∙ ap (λ word. change_named word rest) (own_word change_word CHANGES word name is) ∙ read in
      ap (λ query. reading_of query (lookup changes word) (lookup searches word) rest) (no_row query_word QUERIES queries word refl no_query)
      ∙ ap (λ change. reading_of None change (lookup searches word) rest) row.1 ∙ ap (λ found. then_others found (λ change. given (commands.Change change))) reads

  module _ (no_query : lookup (by_name query_word QUERIES) word ≡ None) (no_change : lookup (by_name change_word CHANGES) word ≡ None) where
    neither : command_named word rest ≡ reading_of None None (lookup searches word) rest
    neither =
        ap (λ query. reading_of query (lookup changes word) (lookup searches word) rest) (no_row query_word QUERIES queries word refl no_query)
        ∙ ap (λ change. reading_of None change (lookup searches word) rest) (no_row change_word CHANGES changes word refl no_change)

    pub searched : (name : SearchName) (found : Result (Search × List ℕ) SyntaxFault) → lookup (by_name search_word SEARCHES) word ≡ Some name → search_named (search_word name) rest ≡ found
        → command_named word rest ≡ then_others found (λ search. given (commands.Search search))
    searched name found is read =
        let row = same_row search_word SEARCHES searches word name refl is in
        let reads : row.0 rest ≡ found = ap (λ (r : Option (Reading Search)). reading_if_any r rest) (sym row.1) ∙ ap (λ word. search_named word rest) (own_word search_word SEARCHES word name is) ∙ read in
        neither ∙ ap (λ search. reading_of None None search rest) row.1 ∙ ap (λ found. then_others found (λ search. given (commands.Search search))) reads

    pub unknown : lookup (by_name search_word SEARCHES) word ≡ None → command_named word rest ≡ Err faults.Command
    unknown none = neither ∙ ap (λ search. reading_of None None search rest) (no_row search_word SEARCHES searches word refl none)
