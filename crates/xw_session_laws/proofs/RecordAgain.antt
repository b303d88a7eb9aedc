-- The sections of a record, executed one after another.
use Rattle.std.proofs.Common.{◌≡◌, ℕ, ◌*◌, false, List, [], ◌++◌, map, drop, flat_map, replicate, Some, None, refl, ◌∙◌, ap}
use Rattle.std.specs.Prelude.{Option}
use Rattle.std.specs.Option.{option_and_then}
use Rattle.std.proofs.lemmas.List.{length-replicate}
use Rattle.xw_words.specs.Dictionary.{Dictionary}
use Rattle.xw_grid.specs.declared.cell.Direction.TheVariants.{Across, Down}
use Rattle.xw_grid.specs.declared.cell.Side.TheVariants.{Right, Below}
use Rattle.xw_grid.specs.declared.cell.Square.{Square}
use Rattle.xw_grid.specs.declared.cell.Square.TheVariants.{Open}
use Rattle.xw_grid.specs.declared.cell.Symmetry.TheVariants as kinds
use Rattle.xw_grid.specs.Grid.{Grid}
use Rattle.xw_grid.specs.Edit.{blank}
use Rattle.xw_grid.specs.Clue.{no_clues}
use Rattle.xw_commands.specs.declared.change.Change.{Change}
use Rattle.xw_commands.specs.declared.command.Field.TheVariants as fields
use Rattle.xw_commands.specs.declared.command.TextField.{TextField}
use Rattle.xw_commands.specs.declared.command.TextField.TheVariants.{Title, Author, Copyright, Notes}
use Rattle.xw_answers.specs.declared.record.Part.TheVariants as parts
use Rattle.xw_session.specs.declared.session.recording.Section.TheVariants as sections
use Rattle.xw_session.specs.State.{SessionState, with_text_in}
use Rattle.xw_session.specs.Put.{text_of_field}
use Rattle.xw_answers.specs.Record.{word_commands}
use Rattle.xw_session.specs.Record.{section_commands, record_sections, record_commands}
use Rattle.xw_session_laws.specs.Replay.{replayed, bared, with_grid, with_words, BeganWith}
use Rattle.xw_session_laws.proofs.Replaying.{replayed_both, text_again, size_again, symmetry_again}
use Rattle.xw_session_laws.proofs.WordsAgain.{words_again}
use Rattle.xw_session_laws.proofs.CellsAgain.{blocks_again, letters_again}
use Rattle.xw_session_laws.proofs.CirclesAgain.{circles_again}
use Rattle.xw_session_laws.proofs.InOrder.{all_circles}
use Rattle.xw_session_laws.proofs.BarsAgain.{right_again, below_again}
use Rattle.xw_session_laws.proofs.CluesAgain.{with_clues, clues_again}

section_then : (state mid : SessionState) (front rest : List Change) (last : Option SessionState) → replayed state front ≡ Some mid → replayed mid rest ≡ last → replayed state (front ++ rest) ≡ last
section_then state mid front rest last e f = replayed_both state front rest ∙ ap (option_and_then (λ mid. replayed mid rest)) e ∙ f

module _ (words : Dictionary) (made state : SessionState) (is : BeganWith words made) (begins : state.engine.words ≡ words) where
  abbrev grid : Grid
  grid = made.engine.grid

  abbrev free : List Square
  free = replicate (grid.width * grid.height) (Open None)

  -- the states after the sections
  abbrev worded : SessionState
  worded = with_words state made.engine.words

  abbrev sized : SessionState
  sized = record worded { engine = record { grid = blank grid.width grid.height; words = made.engine.words }; clues = no_clues; circles = [] }

  abbrev circled : SessionState
  circled = record sized { circles = made.circles }

  abbrev blocked : SessionState
  blocked = with_grid circled (record grid { squares = map bared grid.squares; symmetry = kinds.None })

  abbrev turned : SessionState
  turned = with_grid circled (record grid { squares = map bared grid.squares })

  abbrev lettered : SessionState
  lettered = with_grid circled grid

  abbrev with_text : SessionState → TextField → SessionState
  with_text now name = record now { texts = with_text_in now.texts name (text_of_field made.texts name) }

  abbrev titled : SessionState
  titled = with_text lettered Title

  abbrev authored : SessionState
  authored = with_text titled Author

  abbrev copyrighted : SessionState
  copyrighted = with_text authored Copyright

  abbrev noted : SessionState
  noted = with_text copyrighted Notes

  abbrev clued_across : SessionState
  clued_across = record noted { clues = with_clues noted.clues Across made.clues.across }

  abbrev clued : SessionState
  clued = record noted { clues = made.clues }

  abbrev whole : SessionState
  whole = record made { begun = state.begun }

  -- the commands of the sections after the first `count`
  abbrev after_sections : ℕ → List Change
  after_sections count = flat_map (section_commands made) (drop count record_sections)

  words_done : replayed state (section_commands made sections.Words) ≡ Some worded
  words_done =
      ap (λ counts. replayed state (word_commands counts made.engine.words)) is.begun
      ∙ words_again state words made.engine.words is.dictionary is.known.lengths is.least begins is.first

  circles_done : replayed sized (section_commands made (sections.Cells parts.Circles)) ≡ Some circled
  circles_done = circles_again sized grid is.grid made.circles made.clues ∙ ap (λ circles. Some (record sized { circles = circles })) (all_circles grid made.circles is.circles)

  symmetry_done : replayed blocked (section_commands made sections.Symmetry) ≡ Some turned
  symmetry_done = symmetry_again blocked grid.symmetry is.grid.turned

  text_done : (now : SessionState) (name : TextField) → replayed now (section_commands made (sections.Text name)) ≡ Some (with_text now name)
  text_done now name = text_again now (fields.Text name) (text_of_field made.texts name) refl (is.texts name)

  -- the commands of a record are all accepted and rebuild the session
  pub commands_again : replayed state (record_commands made) ≡ Some whole
  commands_again =
      section_then state worded (section_commands made sections.Words) (after_sections 1) _ words_done
      (section_then worded sized (section_commands made sections.Size) (after_sections 2) _ (size_again worded made is.grid)
      (section_then sized circled (section_commands made (sections.Cells parts.Circles)) (after_sections 3) _ circles_done
      (section_then circled _ (section_commands made (sections.Cells (parts.Bars Right))) (after_sections 4) _
      (right_again circled grid is.grid is.bars free (replicate (grid.width * grid.height) false) (length-replicate (grid.width * grid.height) false) made.clues made.circles)
      (section_then _ _ (section_commands made (sections.Cells (parts.Bars Below))) (after_sections 5) _ (below_again circled grid is.grid is.bars free grid.right is.grid.right made.clues made.circles)
      (section_then _ blocked (section_commands made (sections.Cells parts.Blocks)) (after_sections 6) _ (blocks_again circled grid is.grid made.clues made.circles)
      (section_then blocked turned (section_commands made sections.Symmetry) (after_sections 7) _ symmetry_done
      (section_then turned lettered (section_commands made (sections.Cells parts.Letters)) (after_sections 8) _ (letters_again circled grid is.grid made.clues made.circles)
      (section_then lettered titled (section_commands made (sections.Text Title)) (after_sections 9) _ (text_done lettered Title)
      (section_then titled authored (section_commands made (sections.Text Author)) (after_sections 10) _ (text_done titled Author)
      (section_then authored copyrighted (section_commands made (sections.Text Copyright)) (after_sections 11) _ (text_done authored Copyright)
      (section_then copyrighted noted (section_commands made (sections.Text Notes)) (after_sections 12) _ (text_done copyrighted Notes)
      (section_then noted clued_across (section_commands made (sections.Cells (parts.Clues Across))) (after_sections 13) _ (clues_again noted grid is.grid made.clues Across (is.clues Across) made.circles refl)
      (section_then clued_across clued (section_commands made (sections.Cells (parts.Clues Down))) (after_sections 14) _ (clues_again clued_across grid is.grid made.clues Down (is.clues Down) made.circles refl)
      (section_then clued whole (section_commands made sections.Watch) (after_sections 15) _ refl refl))))))))))))))
