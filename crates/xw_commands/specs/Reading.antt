-- Reading the arguments of a command one after another.
use Rattle.std.specs.Prelude.{◌≡◌, ℕ, zero, suc, Bool, ◌==◌, List, [], ◌∷◌, length, Option, Some, None, Result, Ok, Err, bytes_eq, unwrap_or, if◌then◌else◌}
use Rattle.xw_grid.specs.declared.cell.Direction.{Direction}
use Rattle.xw_grid.specs.declared.cell.Side.{Side}
use Rattle.xw_grid.specs.declared.cell.Symmetry.{Symmetry}
use Rattle.xw_commands.specs.declared.command.CellArg.{CellArg}
use Rattle.xw_commands.specs.declared.command.LightArg.{LightArg}
use Rattle.xw_commands.specs.declared.command.TextField.{TextField}
use Rattle.xw_commands.specs.declared.command.Field.{Field}
use Rattle.xw_commands.specs.declared.command.Field.TheVariants as fields
use Rattle.xw_commands.specs.declared.command.SyntaxFault.{SyntaxFault}
use Rattle.xw_commands.specs.declared.command.SyntaxFault.TheVariants as faults
use Rattle.xw_commands.specs.Names.{directions, sides, symmetries, switches, text_fields}
use Rattle.xw_commands.specs.Line.{first_word, trimmed, trimmed_start, number_in, grade_in, byte_in}

-- a function from the rest of a line to a value and the new rest, or to a fault
abbrev pub Reading : Type 0 → Type 0
Reading A = List ℕ → Result (A × List ℕ) SyntaxFault

-- the code's result, seen through view, and the rest that it leaves equal the specified ones
abbrev pub Reads : {X A : Type 0} → (X → A) → Result X SyntaxFault → List ℕ → Result (A × List ℕ) SyntaxFault → Type 0
Reads view (Ok x) left reading = reading ≡ Ok (view x, left)
Reads view (Err fault) left reading = reading ≡ Err fault

-- nothing is read
abbrev pub HasFault : {A : Type 0} → Result (A × List ℕ) SyntaxFault → Type 0
HasFault (Ok found) = ⊥
HasFault (Err fault) = Unit {0}

-- the second reading runs on the value and the rest of the first
abbrev pub then_others : {A B : Type 0} → Result (A × List ℕ) SyntaxFault → (A → Reading B) → Result (B × List ℕ) SyntaxFault
then_others (Ok found) others = others found.0 found.1
then_others (Err fault) others = Err fault

infixl 10 ◌>>=◌
abbrev pub ◌>>=◌ : {A B : Type 0} → Reading A → (A → Reading B) → Reading B
◌>>=◌ read others rest = then_others (read rest) others

-- reads nothing and returns this value
abbrev pub given : {A : Type 0} → A → Reading A
given x rest = Ok (x, rest)

abbrev pub fault : {A : Type 0} → SyntaxFault → Reading A
fault f rest = Err f

abbrev pub wanted : {A : Type 0} → Option A → Reading A
wanted None = fault faults.Arguments
wanted (Some x) = given x

-- ---- words, numbers, text_fields

abbrev pub next_word : Option (List ℕ × List ℕ) → Result (List ℕ × List ℕ) SyntaxFault
next_word None = Err faults.Arguments
next_word (Some found) = Ok found

abbrev pub word : Reading (List ℕ)
word rest = next_word (first_word rest)

-- a number of 1 to 18 decimal digits
abbrev pub number : Reading ℕ
number = do wanted (number_in (← word))

-- a one-byte word
abbrev pub byte : Reading ℕ
byte = do wanted (byte_in (← word))

-- the whole rest, without spaces and tabs at its ends
abbrev pub text : Reading (List ℕ)
text rest = Ok (trimmed rest, [])

-- no word is left
abbrev pub is_ended : List ℕ → Bool
is_ended rest = length (trimmed_start rest) == 0

-- a word, if another word follows
abbrev pub word_if_any : Reading (Option (List ℕ))
word_if_any rest = if is_ended rest then given None rest else (do given (Some (← word))) rest

-- a number, if another word follows
abbrev pub number_if_any : Reading (Option ℕ)
number_if_any rest = if is_ended rest then given None rest else (do given (Some (← number))) rest

-- a number, if another word follows, and otherwise 0
abbrev pub number_or_zero : Reading ℕ
number_or_zero = do given (unwrap_or (← number_if_any) 0)

-- a grade, 0 to 100
abbrev pub grade : Reading ℕ
grade = do wanted (grade_in (← number))

-- a grade, if another word follows
abbrev pub grade_if_any : Reading (Option ℕ)
grade_if_any rest = if is_ended rest then given None rest else (do given (Some (← grade))) rest

-- ---- key words

-- the value of the table's first row with this name
abbrev pub lookup : {A : Type 0} → List (List ℕ × A) → List ℕ → Option A
lookup [] name = None
lookup (row ∷ rows) name = if bytes_eq name row.0 then Some row.1 else lookup rows name

abbrev pub reading_if_any : {A : Type 0} → Option (Reading A) → Reading A
reading_if_any None = fault faults.Command
reading_if_any (Some reading) = reading

-- the reading that the table has for this name
abbrev pub reading_in : {A : Type 0} → List (List ℕ × Reading A) → List ℕ → Reading A
reading_in table name = reading_if_any (lookup table name)

abbrev pub key_word : {A : Type 0} → List (List ℕ × A) → Reading A
key_word table = do wanted (lookup table (← word))

abbrev pub direction : Reading Direction
direction = key_word directions

abbrev pub side : Reading Side
side = key_word sides

abbrev pub symmetry : Reading Symmetry
symmetry = key_word symmetries

abbrev pub switch : Reading Bool
switch = key_word switches

-- ---- cells and lights

abbrev pub spot : Reading CellArg
spot = do
  row ← number
  col ← number
  given (record { row = row; col = col })

abbrev pub named : Reading LightArg
named = do
  count ← number
  way ← direction
  given (record { number = count; direction = way })

-- ---- lists of lights

-- the first light, the lights after it, and what follows them; none if the text does not begin with a light
abbrev pub before_others : List ℕ → (List ℕ → List LightArg × List ℕ) → Result (LightArg × List ℕ) SyntaxFault → List LightArg × List ℕ
before_others rest others (Ok found) = (found.0 ∷ (others found.1).0, (others found.1).1)
before_others rest others (Err fault) = ([], rest)

-- the lights that a text begins with, at most this many, and what follows them
abbrev pub first_lights : ℕ → List ℕ → List LightArg × List ℕ
first_lights zero rest = ([], rest)
first_lights (suc most) rest = before_others rest (first_lights most) (named rest)

-- all lights that a text begins with, and what follows them; a light has at least one byte
abbrev pub lights_first : List ℕ → List LightArg × List ℕ
lights_first rest = first_lights (length rest) rest

-- as many lights as come next
abbrev pub lights : Reading (List LightArg)
lights rest = Ok (lights_first rest)

-- ---- text_fields by their names

-- the name of a text field, or None for `clue`
abbrev pub text_name : Reading (Option TextField)
text_name = key_word text_fields

abbrev pub clue_field : Reading Field
clue_field = do
  start ← spot
  way ← direction
  given (fields.Clue start way)

abbrev pub field_named : Option TextField → Reading Field
field_named (Some name) = given (fields.Text name)
field_named None = clue_field

abbrev pub field : Reading Field
field = text_name >>= field_named
