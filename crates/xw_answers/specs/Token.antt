-- The words of lines.
use Rattle.std.specs.Prelude.{ℕ, List, decimal}
use Rattle.xw_letters.specs.LetterSet.{letters_in}
use Rattle.xw_answers.specs.declared.answer_line.Token.{Token}
use Rattle.xw_answers.specs.declared.answer_line.Token.TheVariants as tokens
use Rattle.xw_answers.specs.Text.{letters_or_dash, two_decimals}
use Rattle.xw_answers.specs.Escape.{escaped_text}

abbrev pub token_bytes : Token → List ℕ
token_bytes (tokens.Name name) = name.now
token_bytes (tokens.Bytes bytes) = bytes.now
token_bytes (tokens.Number number) = decimal number
token_bytes (tokens.Hundredths number) = two_decimals number
token_bytes (tokens.Letters letters) = letters.now
token_bytes (tokens.Entries entries) = entries.now
token_bytes (tokens.Set set) = letters_or_dash (letters_in set)
token_bytes (tokens.Text text) = escaped_text text.now
