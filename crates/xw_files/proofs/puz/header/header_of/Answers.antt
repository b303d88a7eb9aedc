use Rattle.std.proofs.Common.{◌≡◌, true, false, length, nat_eq, refl, sym, subst, ◌∙◌}
use Rattle.std.specs.Cmp.Lexicographic.{pointwise}
use Rattle.byteorder.specs.Endian.{little_number}
use Rattle.xw_files.specs.Puz.Reading.{header_at, part_at}
use Rattle.xw_files.proofs.PuzLemmas.Comparisons.{below, not-below, not-same, not-false, not-true}
use Rattle.xw_files.proofs.PuzLemmas.Texts.{range_from-drop}
use Rattle.xw_files.proofs.puz.header.header_of.Goals as goal

pub returns-then-bytes-lt-HEADER_LENGTH : goal.returns-then-bytes-lt-HEADER_LENGTH
unfolding header_at
returns-then-bytes-lt-HEADER_LENGTH c = rw (below (length c.args.bytes.now) 52 c.if-bytes-lt-HEADER_LENGTH.true) refl

pub returns-then-not-has_magic : goal.returns-then-not-has_magic
unfolding header_at
returns-then-not-has_magic c = rw (not-below (length c.args.bytes.now) 52 c.if-bytes-lt-HEADER_LENGTH.false, sym c.if-not-has_magic.ensures) refl

pub returns-then-ne : goal.returns-then-ne
unfolding header_at
returns-then-ne c =
    let version = subst (λ xs. pointwise nat_eq (part_at 24 4 c.args.bytes.now) xs ≡ false) c.as_slice.ensures (not-true (pointwise nat_eq (part_at 24 4 c.args.bytes.now) c.as_slice.result.now) c.if-ne.ensures) in
    rw (not-below (length c.args.bytes.now) 52 c.if-bytes-lt-HEADER_LENGTH.false, sym c.if-not-has_magic.ensures, version) refl

pub returns-then-read_u16-ne0 : goal.returns-then-read_u16-ne0
unfolding header_at
returns-then-read_u16-ne0 c =
    let version = subst (λ xs. pointwise nat_eq (part_at 24 4 c.args.bytes.now) xs ≡ true) c.as_slice.ensures (not-false (pointwise nat_eq (part_at 24 4 c.args.bytes.now) c.as_slice.result.now) c.if-ne.ensures) in
    let number = subst (λ xs. c.read_u16.result ≡ little_number 2 xs) (range_from-drop c.args.bytes.now 50) c.read_u16.ensures in
    let scrambled = subst (λ n. nat_eq n 0 ≡ false) number (not-same c.read_u16.result 0 c.if-read_u16-ne0.true) in
    rw (not-below (length c.args.bytes.now) 52 c.if-bytes-lt-HEADER_LENGTH.false, sym c.if-not-has_magic.ensures, version, scrambled) refl

pub returns : goal.returns
unfolding header_at
returns c =
    let version = subst (λ xs. pointwise nat_eq (part_at 24 4 c.args.bytes.now) xs ≡ true) c.as_slice.ensures (not-false (pointwise nat_eq (part_at 24 4 c.args.bytes.now) c.as_slice.result.now) c.if-ne.ensures) in
    let number = subst (λ xs. c.read_u16.result ≡ little_number 2 xs) (range_from-drop c.args.bytes.now 50) c.read_u16.ensures in
    rw (not-below (length c.args.bytes.now) 52 c.if-bytes-lt-HEADER_LENGTH.false, sym c.if-not-has_magic.ensures, version, sym number ∙ c.if-read_u16-ne0.false) c.sized_header_of.ensures
