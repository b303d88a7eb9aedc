use Rattle.std.proofs.Common.{◌≡◌, ℕ, ◌+◌, ◌-◌, Bool, true, false, not, ◌&&◌, eqb, get_or, refl, sym, ap, ◌∙◌, arith}
use Rattle.std.proofs.lemmas.Bool.{both_ways, and_parts, eq-eqb}
use Rattle.std.proofs.lemmas.List.{get_or_default}
use Rattle.xw_letters.specs.LetterSet.{has}
use Rattle.xw_net.specs.Marks.{cell_at, puts}
use Rattle.xw_net.specs.Nets.{letter_stands, word_stands}
use Rattle.xw_net.specs.declared.net.Net.{Net}
use Rattle.xw_net.proofs.Stripping.DroppedSets.{still_under}
use Rattle.xw_net.proofs.Stripping.StruckRows.{set_letter}
use Rattle.xw_net.proofs.net.Net.keep_listed.Goals as goal

-- the set of a cell as the letters that stand there
stood_there : (net : Net) (cell letter : ℕ) → letter_stands net cell letter ≡ has (get_or net.letters.items cell 0) letter
unfolding letter_stands
stood_there net cell letter = refl

-- a letter goes where it stood and is not listed
listed_if_left : (alive listed gone here : Bool) → gone ≡ (alive && not listed) → here ≡ true → (alive && not (here && gone)) ≡ true → listed ≡ true
listed_if_left true true gone here goes at is = refl
listed_if_left true false gone here goes at is = absurd (both_ways (not (here && gone)) (ap (λ b. not (b && gone)) at ∙ ap not goes) is)
listed_if_left false listed gone here goes at is = absurd (both_ways false refl is)

listed_if_stays : (alive listed gone : Bool) → gone ≡ (alive && not listed) → gone ≡ false → alive ≡ true → listed ≡ true
listed_if_stays alive true gone goes stays is = refl
listed_if_stays true false gone goes stays is = absurd (both_ways gone stays goes)
listed_if_stays false false gone goes stays is = is

unlisted_if_gone : (alive listed gone : Bool) → gone ≡ (alive && not listed) → gone ≡ true → listed ≡ false
unlisted_if_gone alive false gone goes is = refl
unlisted_if_gone true true gone goes is = absurd (both_ways gone goes is)
unlisted_if_gone false true gone goes is = absurd (both_ways gone goes is)

pub drop_letters-requires-clause-stood : goal.drop_letters-requires-clause-stood
drop_letters-requires-clause-stood c letter goes =
    let net = c.args.self.now in
    let cell = c.args.here.cell in
    let alive_is = c.index.ensures ∙ get_or_default net.letters.items cell c.index.result.now 0 (omega (arith, c.requires.there.in_board, c.requires.shaped.letters)) in
    stood_there net cell letter ∙ ap (λ s. has s letter) (sym alive_is) ∙ (and_parts (has c.index.result.now letter) (not (has c.args.listed letter)) (sym (c.without-gone.ensures.rest letter) ∙ goes)).0

pub returns-in-Some-clause-listed : goal.returns-in-Some-clause-listed
returns-in-Some-clause-listed c letter alive =
    let old = c.args.self.now in
    let here = c.args.here in
    let there = c.requires.there in
    let at = cell_at c.args.board.now here.light here.position in
    let alive_is = c.index.ensures ∙ get_or_default old.letters.items here.cell c.index.result.now 0 (omega (arith, there.in_board, c.requires.shaped.letters)) in
    let stood : letter_stands old at letter ≡ has c.index.result.now letter = stood_there old at letter ∙ ap (λ n. has (get_or old.letters.items n 0) letter) (sym there.cell) ∙ ap (λ s. has s letter) (sym alive_is) in
    listed_if_left (letter_stands old at letter) (has c.args.listed letter) (has c.without-gone.result letter) (eqb at at)
    (c.without-gone.ensures.rest letter ∙ ap (λ b. b && not (has c.args.listed letter)) (sym stood))
    (eq-eqb at at refl)
    (sym (c.drop_letters.ensures.letters at letter) ∙ alive)

pub returns-in-Some-clause-kept : goal.returns-in-Some-clause-kept
returns-in-Some-clause-kept c dictionary measure ticks apart in_set has_it under =
    let old = c.args.self.now in
    let new = c.drop_letters.new.self in
    let board = c.args.board.now in
    let e = c.drop_letters.ensures in
    let here = c.args.here in
    let there = c.requires.there in
    let stood : (letter : ℕ) → has c.without-gone.result letter ≡ true → letter_stands old (cell_at c.args.board.now here.light here.position) letter ≡ true = λ letter goes.
    ap (λ n. letter_stands old n letter) (sym there.cell) ∙ drop_letters-requires-clause-stood c.before letter goes in
    let none : (letter k : ℕ) → has c.without-gone.result letter ≡ true → word_stands old here.light k ≡ true → puts c.args.board.now dictionary here.light here.position letter k ≡ true → ⊥ = λ letter k goes stands has_letter.
    both_ways (has c.args.listed letter)
    (unlisted_if_gone (has c.index.result.now letter) (has c.args.listed letter) (has c.without-gone.result letter) (c.without-gone.ensures.rest letter) goes)
    (has_it letter k (stood letter goes) stands has_letter) in
    still_under board dictionary apart old new here.light here.position (has c.without-gone.result) there.position e.same e.letters e.leaves stood none (65 + c.in-Some.field-0) c.in-Some.ensures.set.2 measure ticks
    in_set under

pub returns-in_default-clause-listed : goal.returns-in_default-clause-listed
returns-in_default-clause-listed c letter alive =
    let old = c.args.self.now in
    let here = c.args.here in
    let there = c.requires.there in
    let at = cell_at c.args.board.now here.light here.position in
    let alive_is = c.index.ensures ∙ get_or_default old.letters.items here.cell c.index.result.now 0 (omega (arith, there.in_board, c.requires.shaped.letters)) in
    let stood : letter_stands old at letter ≡ has c.index.result.now letter = stood_there old at letter ∙ ap (λ n. has (get_or old.letters.items n 0) letter) (sym there.cell) ∙ ap (λ s. has s letter) (sym alive_is) in
    let small = set_letter (get_or old.letters.items at 0) letter (sym (stood_there old at letter) ∙ alive) in
    let back : 65 + (letter - 65) ≡ letter = omega (arith, small.0) in
    listed_if_stays (has c.index.result.now letter) (has c.args.listed letter) (has c.without-gone.result letter) (c.without-gone.ensures.rest letter)
    (ap (has c.without-gone.result) (sym back) ∙ c.in_default.ensures.none (letter - 65) (omega arith)) (sym stood ∙ alive)
