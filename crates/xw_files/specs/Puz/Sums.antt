-- The checksums of a `.puz` file.
use Rattle.std.specs.Prelude.{◌≡◌, ℕ, ◌+◌, ◌*◌, ◌/◌, ◌%◌, ◌^◌, ◌==◌, List, [], ◌∷◌, ◌++◌, fold, flat_map, bit_xor, Option, Some, None, if◌then◌else◌}
use Rattle.xw_files.specs.declared.fault.SumName.{SumName}
use Rattle.xw_files.specs.declared.fault.SumName.TheVariants.{Cib, File, Masked}
use Rattle.xw_files.specs.declared.puz.header.Header.{Header}
use Rattle.xw_files.specs.declared.puz.sums.Sums.{Sums}
use Rattle.xw_files.specs.Puz.Reading.{Fields}
use Rattle.xw_files.specs.Puz.Spelling.{cib_bytes}

-- the 16-bit value rotated right by one bit
abbrev pub rotated : ℕ → ℕ
rotated sum = sum / 2 + 2 ^ 15 * (sum % 2)

-- the checksum after one more byte
abbrev pub summed : ℕ → ℕ → ℕ
summed sum byte = (rotated sum + byte) % 2 ^ 16

-- the checksum of bytes, from a start value
abbrev pub sum_from : ℕ → List ℕ → ℕ
sum_from start bytes = fold summed start bytes

-- the bytes that a text adds to a checksum: itself and its NUL, or nothing if it is empty
abbrev pub counted : List ℕ → List ℕ
counted [] = []
counted (byte ∷ bytes) = (byte ∷ bytes) ++ 0 ∷ []

-- the bytes covered by the text checksum
abbrev pub text_bytes : Fields → List ℕ
text_bytes fields = counted fields.title ++ (counted fields.author ++ (counted fields.copyright ++ (flat_map (λ clue. clue) fields.clues ++ counted fields.notes)))

abbrev pub cib_sum : Fields → ℕ
cib_sum fields = sum_from 0 (cib_bytes fields.header)

-- the checksums of the fields of a file
abbrev pub sums_of : Fields → Sums
sums_of fields = record {
  cib = cib_sum fields;
  solution = sum_from 0 fields.solution;
  state = sum_from 0 fields.state;
  text = sum_from 0 (text_bytes fields);
  file = sum_from (cib_sum fields) (fields.solution ++ (fields.state ++ text_bytes fields));
}

-- the masked bytes: the low bytes of four checksums, then their high bytes, each XORed with a letter of "ICHEATED"
abbrev pub masked_of : Sums → List ℕ
masked_of sums =
    bit_xor 73 (sums.cib % 256) ∷ bit_xor 67 (sums.solution % 256) ∷ bit_xor 72 (sums.state % 256) ∷ bit_xor 69 (sums.text % 256)
    ∷ bit_xor 65 (sums.cib / 256 % 256) ∷ bit_xor 84 (sums.solution / 256 % 256) ∷ bit_xor 69 (sums.state / 256 % 256) ∷ bit_xor 68 (sums.text / 256 % 256) ∷ []

-- the first masked byte that differs from the computed one, counting from k
abbrev pub wrong_masked : ℕ → List ℕ → List ℕ → Option SumName
wrong_masked k [] computed = None
wrong_masked k (byte ∷ bytes) [] = None
wrong_masked k (byte ∷ bytes) (other ∷ others) = if byte == other then wrong_masked (k + 1) bytes others else Some (Masked k)

-- the first checksum of the header that differs from the computed one
abbrev pub wrong_sum : Header → Sums → Option SumName
wrong_sum header sums =
    if header.cib_sum == sums.cib then
    if header.file_sum == sums.file then wrong_masked 1 header.masked (masked_of sums)
    else Some File
    else Some Cib

-- the header has these checksums
pub record HasSums (header : Header) (sums : Sums) : Type 0 where
  pub cib : header.cib_sum ≡ sums.cib
  pub file : header.file_sum ≡ sums.file
  pub masked : header.masked ≡ masked_of sums
