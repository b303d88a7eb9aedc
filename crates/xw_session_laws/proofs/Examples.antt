-- Examples of a record and of a journal, computed from the definitions.
use Rattle.std.specs.Prelude.{◌≡◌, true, false, List, [], ◌∷◌, ◌++◌, codes, map, replicate, Some, None, Ok, refl}
use Rattle.std.specs.Fmt.{digits}
use Rattle.xw_words.specs.Dictionary.{Dictionary, Entry, no_words, with_row}
use Rattle.xw_grid.specs.declared.cell.Square.TheVariants.{Open}
use Rattle.xw_grid.specs.declared.cell.Symmetry.TheVariants as kinds
use Rattle.xw_grid.specs.Edit.{blank}
use Rattle.xw_grid.specs.Clue.{no_clues}
use Rattle.xw_session.specs.State.{SessionState}
use Rattle.xw_session.specs.Reply.{Reply}
use Rattle.xw_answers.specs.Text.{accepted, refused}
use Rattle.xw_answers.specs.declared.refusal.CommandRefusal.TheVariants as refusals
use Rattle.xw_commands.specs.declared.command.SyntaxFault.TheVariants as faults
use Rattle.xw_answers.specs.Record.{known_counts}
use Rattle.xw_session.specs.Record.{record_commands, record_lines}
use Rattle.xw_lines.specs.Cut.{lines_of}
use Rattle.xw_lines.specs.declared.outcome.Step.TheVariants.{Accepted, Refused}
use Rattle.xw_journal.specs.File.{form_of, kept_lines}
use Rattle.xw_journal.specs.Journal.{journal_text, taken}
use Rattle.xw_journal.specs.declared.file.Form.TheVariants.{Begun, Named, Whole, Cut}
use Rattle.xw_journal.specs.declared.journal.Written.TheVariants.{Line}
use Rattle.xw_session_laws.specs.Replay.{replayed, replayed_lines}
use Rattle.xw_session_laws.specs.Journals.{IsJournaled, without_flushes}

abbrev words_of_two : List Entry → Dictionary
words_of_two entries = with_row no_words 2 entries

abbrev first_word : Entry
first_word = record { word = codes "AS"; active = true; struck = false; grade = 70; regraded = false }

-- it came back with another grade, and was struck again
abbrev first_struck : Entry
first_struck = record { word = codes "AS"; active = false; struck = true; grade = 90; regraded = true }

abbrev second_word : Entry
second_word = record { word = codes "AT"; active = true; struck = false; grade = 100; regraded = false }

-- it is left out for its grade
abbrev third_word : Entry
third_word = record { word = codes "IT"; active = false; struck = false; grade = 35; regraded = false }

-- a session that knows one word
abbrev at_first : SessionState
at_first = record {
  engine = record { grid = blank 3 3; words = words_of_two (first_word ∷ []) };
  texts = record { title = codes "gone"; author = []; copyright = []; notes = [] };
  clues = no_clues;
  circles = [];
  is_watched = false;
  begun = known_counts (words_of_two (first_word ∷ []));
}

-- a session with two more words, one of them left out, the first word struck, two cells with a bar between them, a circle
-- and a clue
abbrev later : SessionState
later = record {
  engine = record {
    grid = record { width = 2; height = 1; squares = Open (Some 65) ∷ Open None ∷ []; right = true ∷ false ∷ []; below = false ∷ false ∷ []; symmetry = kinds.Half };
    words = record (words_of_two (first_struck ∷ second_word ∷ third_word ∷ [])) { least = 40 };
  };
  texts = record { title = []; author = codes "one"; copyright = []; notes = [] };
  clues = record { across = (record { row = 1; col = 1 }, codes "First") ∷ []; down = [] };
  circles = record { row = 1; col = 2 } ∷ [];
  is_watched = true;
  begun = known_counts (words_of_two (first_word ∷ []));
}

made_again : replayed at_first (record_commands later) ≡ Some later
made_again = refl

lines : record_lines later ≡ codes "add AT\nadd IT 35\nstrike AS\nadd AS 90\nstrike AS\nleast 40\nsize 2 1\ncircle 1 2\nbar 1 1 right\nsym half\nset 1 1 A\ntext title \ntext author one\ntext copyright \ntext notes \ntext clue 1 1 across First\nwatch on\n"
unfolding digits
lines = refl

-- ---- a journal

-- three open cells, which one word of the dictionary fits
abbrev before_fill : SessionState
before_fill = record {
  engine = record { grid = record { width = 3; height = 1; squares = Open None ∷ Open (Some 65) ∷ Open None ∷ []; right = replicate 3 false; below = replicate 3 false; symmetry = kinds.None }; words = no_words };
  texts = record { title = []; author = []; copyright = []; notes = [] };
  clues = no_clues;
  circles = [];
  is_watched = false;
  begun = known_counts no_words;
}

abbrev after_fill : SessionState
after_fill = record before_fill { engine = record before_fill.engine { grid = record before_fill.engine.grid { squares = Open (Some 67) ∷ Open (Some 65) ∷ Open (Some 84) ∷ [] } } }

-- a search is journaled as the letters that it entered, in one group
fill_journaled : journal_text before_fill.engine.grid (codes "fill 9") Accepted after_fill.engine.grid ≡ codes "# xw begin\nset 1 1 C\nset 1 3 T\n# xw end\n"
unfolding digits
fill_journaled = refl

-- they lead to the grid after the search
fill_made_again : replayed_lines before_fill (lines_of (codes "# xw begin\nset 1 1 C\nset 1 3 T\n# xw end\n")) ≡ Some after_fill
fill_made_again = refl

-- any other change is journaled as its line, and nothing else is
circle_journaled : journal_text before_fill.engine.grid (codes " circle 1 1 ") Accepted before_fill.engine.grid ≡ codes " circle 1 1 \n"
circle_journaled = refl

query_journaled : journal_text before_fill.engine.grid (codes "show") Accepted before_fill.engine.grid ≡ []
query_journaled = refl

refusal_journaled : journal_text before_fill.engine.grid (codes "circle 9 9") Refused before_fill.engine.grid ≡ []
refusal_journaled = refl

-- a search that enters nothing writes nothing
no_fill_journaled : journal_text before_fill.engine.grid (codes "fill 9") Accepted before_fill.engine.grid ≡ []
no_fill_journaled = refl

-- of a file that was cut, the whole lines count, and groups only if they have an end
cut_line_dropped : kept_lines (codes "# xw session 1\nset 1 1 C\nset 1 ") ≡ codes "# xw session 1" ∷ codes "set 1 1 C" ∷ []
cut_line_dropped = refl

cut_group_dropped : kept_lines (codes "# xw session 1\nwatch on\n# xw begin\nset 1 1 C\nset 1 3 T\n") ≡ codes "# xw session 1" ∷ codes "watch on" ∷ []
cut_group_dropped = refl

whole_group_kept : kept_lines (codes "# xw session 1\n# xw begin\nset 1 1 C\n# xw end\nset 1") ≡ codes "# xw session 1" ∷ codes "# xw begin" ∷ codes "set 1 1 C" ∷ codes "# xw end" ∷ []
whole_group_kept = refl

-- a file without the first line has all its lines
all_lines_kept : kept_lines (codes "watch on\nset 1 1 C") ≡ codes "watch on" ∷ codes "set 1 1 C" ∷ []
all_lines_kept = refl

-- what files are to a journal
forms : map form_of ([] ∷ codes "# xw se" ∷ codes "# xw session 1\nset" ∷ codes "watch on\n" ∷ codes "watch on" ∷ []) ≡ Begun ∷ Begun ∷ Named ∷ Whole ∷ Cut ∷ []
forms = refl

-- the flush after a line is no byte of the journal
flush_left_out : without_flushes (taken Line (codes "watch on\n") ++ taken Line (codes "watch off\n")) ≡ codes "watch on\nwatch off\n"
flush_left_out = refl

-- a session that is told to watch, and then refuses a line, may have this journal
abbrev watching : SessionState
watching = record before_fill { is_watched = true }

session_journaled : IsJournaled before_fill (codes "watch on" ∷ codes "lights 1" ∷ []) (codes "watch on\n") watching
session_journaled =
    let told : Reply = record { lines = []; state = watching } in (
      Accepted,
      accepted,
      watching,
      [],
      (Ok told, (Ok told, refl, refl), refl, refl, refl),
      (Refused, refused (refusals.Syntax faults.Arguments), watching, [], (refl, refl, refl), (refl, refl), refl),
      refl,
    )
