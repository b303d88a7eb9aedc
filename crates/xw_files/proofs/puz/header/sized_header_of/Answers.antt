use Rattle.std.proofs.Common.{◌≡◌, refl, subst, inl, inr}
use Rattle.byteorder.specs.Endian.{little_number}
use Rattle.xw_files.specs.Puz.Reading.{sized_header_at}
use Rattle.xw_files.proofs.PuzLemmas.Comparisons.{not-same}
use Rattle.xw_files.proofs.PuzLemmas.Texts.{range_from-drop}
use Rattle.xw_files.proofs.puz.header.sized_header_of.Goals as goal

pub returns-then-width-eq0 : goal.returns-then-width-eq0
unfolding sized_header_at
returns-then-width-eq0 c = elim c.then-width-eq0.either [
  | inl width ↦ rw width refl
  | inr height ↦ rw (not-same _ 0 height.0, height.1) refl
]

pub returns : goal.returns
unfolding sized_header_at
returns c =
    let cib = subst (λ xs. c.read_u16-2.result ≡ little_number 2 xs) (range_from-drop c.args.bytes.now 14) c.read_u16-2.ensures in
    let clues = subst (λ xs. c.read_u16-3.result ≡ little_number 2 xs) (range_from-drop c.args.bytes.now 46) c.read_u16-3.ensures in
    let bitmask = subst (λ xs. c.read_u16-4.result ≡ little_number 2 xs) (range_from-drop c.args.bytes.now 48) c.read_u16-4.ensures in
    rw (not-same _ 0 c.if-width-eq0.false, not-same _ 0 c.if-height-eq0.false, c.read_u16.ensures, cib, clues, bitmask, c.copy_from_slice.ensures.after) refl
