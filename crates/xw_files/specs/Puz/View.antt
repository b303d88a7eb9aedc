-- The fields and sections of the code, seen as lists.
use Rattle.std.specs.Prelude.{map}
use Rattle.xw_files.specs.Puz.Reading as read
use Rattle.xw_files.specs.Puz.Sections as sections
use Rattle.xw_files.specs.declared.puz.sections.Section.{Section}
use Rattle.xw_files.specs.declared.puz.fields.Fields.{Fields}

abbrev pub view : Fields → read.Fields
view fields = record {
  header = fields.header;
  solution = fields.solution.now;
  state = fields.state.now;
  title = fields.title.now;
  author = fields.author.now;
  copyright = fields.copyright.now;
  clues = map (λ clue. clue.now) fields.clues.items;
  notes = fields.notes.now;
  rest = fields.rest.now;
}

abbrev pub section_view : Section → sections.Section
section_view section = record { name = section.name.now; sum = section.sum; body = section.body.now }
