use Rattle.std.proofs.Common.{◌≡◌, ◌+◌, ◌*◌, ◌<◌, ◌≤◌, ◌⊎◌, ℕ, List, Some, length, get_or, slice_get, refl, sym, ap, ◌∙◌, subst, arith}
use Rattle.std.proofs.lemmas.List.{get_or_default}
use Rattle.std.proofs.lemmas.Option.{slice_get_read}
use Rattle.xw_letters.specs.LetterSet.{has}
use Rattle.xw_words.specs.Dictionary.{Entry}
use Rattle.xw_bits.specs.Bits.{RowOfBits}
use Rattle.xw_feas.specs.Board.{light_at}
use Rattle.xw_net.specs.Marks.{cell_at}
use Rattle.xw_net.specs.Nets.{bits_at, bits_for, marks_of, letter_stands}
use Rattle.xw_net.specs.Seen.{AreFound, IsSeenAt}
use Rattle.xw_net.specs.declared.net.Net.{Net}
use Rattle.xw_net.proofs.Levels.FoundLetters.{word_found, found_supported, seen_stay}
use Rattle.xw_net.proofs.Stripping.DroppedLetters.{words_struck, held_struck}
use Rattle.xw_net.proofs.Stripping.HeldWords.{same_holding}
use Rattle.xw_net.proofs.Stripping.StepsKeepInvariant.{same_stays}
use Rattle.xw_net.proofs.net.Net.keep_found.Goals as goal

-- what was found, by the position of the light
found_at : (net : Net) (entries : ℕ → List Entry) (light position alive found len at : ℕ) (row : RowOfBits) (long : ℕ) → slice_get net.rows.items light ≡ Some row → len ≡ long → at ≡ position
    → AreFound row.bits (entries len) at alive found → AreFound (bits_for net light) (entries long) position alive found
found_at net entries light position alive found len at row long row_is long_is at_is letters =
    subst (λ bits. AreFound bits (entries long) position alive found) (sym (ap bits_at row_is))
    (subst (λ n. AreFound row.bits (entries n) position alive found) long_is (subst (λ n. AreFound row.bits (entries len) n alive found) at_is letters))

stood_there : (net : Net) (cell letter : ℕ) → letter_stands net cell letter ≡ has (get_or net.letters.items cell 0) letter
unfolding letter_stands
stood_there net cell letter = refl

pub returns-clause-seen : goal.returns-clause-seen
returns-clause-seen g c =
    let board = c.args.board.now in
    let entries = g.R.Rows.entries c.args.rows.now in
    let here = c.args.here in
    let there = c.requires.there in
    let k = c.found_letters-found.ensures in
    let new = c.found_letters-found.new.seen in
    seen_stay board entries c.requires.apart here.light here.position there.position c.args.seen.now new k.len
    (subst (λ s. (index : ℕ) → (index < 26 * s) ⊎ (26 * s + 26 ≤ index) → get_or new index 0 ≡ get_or c.args.seen.now index 0) there.slot k.others)
    (subst (λ s. IsSeenAt (entries (length (light_at board here.light))) here.position s new) there.slot
    (subst (λ n. IsSeenAt (entries n) here.position here.slot new) there.len k.seen)) c.requires.seen

pub returns-clause-check : goal.returns-clause-check
returns-clause-check g c =
    let k = c.keep_listed.ensures in
    record {
      fewer = k.fewer;
      waits = k.waits;
      holding = λ dictionary setting. same_holding c.args.board.now dictionary (marks_of c.args.self.now) (marks_of c.keep_listed.new.self) (held_struck c.args.self.now c.keep_listed.new.self k.same);
      pending = k.pending;
    }

pub returns-clause-held : goal.returns-clause-held
returns-clause-held g c dictionary setting letter stands =
    let board = c.args.board.now in
    let entries = g.R.Rows.entries c.args.rows.now in
    let here = c.args.here in
    let there = c.requires.there in
    let old = c.args.self.now in
    let new = c.keep_listed.new.self in
    let k = c.keep_listed.ensures in
    let row_is = slice_get_read old.rows.items (length old.rows.items) here.light c.index.result.now refl (omega (arith, there.position.0, c.requires.net.shaped.rows)) c.index.ensures in
    let letters = found_at old entries here.light here.position c.index-alive.result.now c.found_letters-found.result here.len here.position c.index.result.now (length (light_at board here.light)) row_is there.len refl c.found_letters-found.ensures.found in
    same_stays board dictionary setting.apart (marks_of old) (marks_of new) (words_struck old new k.same) (held_struck old new k.same) here.light here.position letter
    (found_supported board entries dictionary setting old c.requires.net.bits here.light here.position there.position c.index-alive.result.now c.found_letters-found.result letters letter (k.listed letter stands))

pub returns-clause-kept : goal.returns-clause-kept
returns-clause-kept g c ticks dictionary measure setting in_set under =
    let board = c.args.board.now in
    let entries = g.R.Rows.entries c.args.rows.now in
    let here = c.args.here in
    let there = c.requires.there in
    let old = c.args.self.now in
    let k = c.keep_listed.ensures in
    let alive = c.index-alive.result.now in
    let row_is = slice_get_read old.rows.items (length old.rows.items) here.light c.index.result.now refl (omega (arith, there.position.0, c.requires.net.shaped.rows)) c.index.ensures in
    let letters = found_at old entries here.light here.position alive c.found_letters-found.result here.len here.position c.index.result.now (length (light_at board here.light)) row_is there.len refl c.found_letters-found.ensures.found in
    let at = cell_at board here.light here.position in
    let alive_is : alive ≡ get_or old.letters.items at 0 =
    c.index-alive.ensures ∙ get_or_default old.letters.items here.cell alive 0 (omega (arith, there.in_board, c.requires.net.shaped.letters)) ∙ ap (λ n. get_or old.letters.items n 0) there.cell in
    k.kept dictionary measure ticks setting.apart in_set
    (λ letter choice stands stood has_it. word_found board entries dictionary setting old c.requires.net.bits here.light here.position there.position alive c.found_letters-found.result letters c.requires.open letter choice
    (ap (λ s. has s letter) alive_is ∙ sym (stood_there old at letter) ∙ stands) stood has_it) under
