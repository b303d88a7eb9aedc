use Rattle.std.proofs.Common.{◌≡◌, ◌<◌, ◌+◌, ◌-◌, ◌*◌, ℕ, Bool, List, true, false, not, ◌&&◌, eqb, length, get_or, refl, sym, ap, ◌∙◌, subst, inl, inr, arith}
use Rattle.std.proofs.lemmas.Bool.{cases_lt, both_ways, eq-eqb}
use Rattle.std.proofs.lemmas.List.{get_or_default}
use Rattle.xw_letters.specs.LetterSet.{has}
use Rattle.xw_words.specs.Dictionary.{Dictionary}
use Rattle.xw_net.specs.Inner.Lost.{IsLost}
use Rattle.xw_net.specs.Marks.{IsSetting, IsHeld, Stays, cell_at}
use Rattle.xw_net.specs.Due.{IsUnderway, and_light}
use Rattle.xw_net.specs.Nets.{HasBits, marks_of, bits_at, bits_for, word_stands, letter_stands, queued_in}
use Rattle.xw_net.proofs.Stripping.StruckRows.{set_letter}
use Rattle.xw_net.proofs.Stripping.LeftByStripping.{left_left, left_same}
use Rattle.xw_net.specs.declared.net.Net.{Net}
use Rattle.std.proofs.lemmas.Option.{slice_get_read}
use Rattle.xw_net.proofs.Stripping.KeptSupports.{held_in_row}
use Rattle.xw_net.proofs.BaseRows.ClearRows.{none_set}
use Rattle.xw_net.proofs.Stripping.DroppedSets.{no_words, still_held, alive_before, still_holding, still_under, pends_at}
use Rattle.xw_net.proofs.net.Net.keep_position.Goals as goal

-- each letter at the start is among those the loop visits
in_set : (net : Net) (cell set letter : ℕ) → set ≡ get_or net.letters.items cell 0 → letter_stands net cell letter ≡ true → has set letter ≡ true
unfolding letter_stands
in_set net cell set letter is stands = ap (λ s. has s letter) is ∙ stands

lost_for : (row row' : List Bool) (word word' : ℕ) → row' ≡ row → word' ≡ word → IsLost row word → IsLost row' word'
lost_for row row' word word' rows words lost lt = ap (λ r. get_or r word' false) rows ∙ ap (λ k. get_or row k false) words ∙ lost (omega (arith, lt, words, ap (λ (r : List Bool). length r) rows))

stood_there : (net : Net) (cell letter : ℕ) → letter_stands net cell letter ≡ true → has (get_or net.letters.items cell 0) letter ≡ true
unfolding letter_stands
stood_there net cell letter stands = stands

set_there : (net : Net) (cell letter : ℕ) → letter_stands net cell letter ≡ has (get_or net.letters.items cell 0) letter
unfolding letter_stands
set_there net cell letter = refl

-- no letter stands in a cell that loses all that stood there
all_gone : (stood here gone : Bool) → stood ≡ gone → here ≡ true → (stood && not (here && gone)) ≡ false
all_gone false here gone is at = refl
all_gone true here gone is at = ap (λ b. not (b && gone)) at ∙ ap not (sym is)

pub keep_letter-requires-clause-net : goal.keep_letter-requires-clause-net
keep_letter-requires-clause-net g c =
    record {
      shaped = c.loop-number.invariant.shaped;
      bits = subst (λ e. HasBits c.args.board.now e c.loop-number.self) (sym c.loop-number.invariant.same) c.loop-number.invariant.bits;
    }

pub keep_letter-requires-clause-stands : goal.keep_letter-requires-clause-stands
keep_letter-requires-clause-stands g c =
    c.loop-number.invariant.left c.at.result (omega (arith, c.at.ensures, c.in-Some-next_lost.ensures.set.0)) (ap (has c.index-alive.result.now) c.at.ensures ∙ c.in-Some-next_lost.ensures.set.2)

pub keep_letter-requires-clause-open : goal.keep_letter-requires-clause-open
keep_letter-requires-clause-open g c =
    ap (λ (flags : List Bool). get_or flags c.position_of-here.result.light false) c.loop-number.invariant.entered ∙ ap (λ n. get_or c.args.self.now.entered.items n false) c.position_of-here.ensures.light ∙ c.requires.open

pub keep_letter-requires-clause-lost : goal.keep_letter-requires-clause-lost
keep_letter-requires-clause-lost g c =
    let net = c.loop-number.self in
    let row = c.index-in-loop-number.result.now.bits in
    let there = c.position_of-here.ensures in
    let number = c.in-Some-next_lost.number in
    let letter : c.at.result - 65 ≡ c.in-Some-next_lost.number = omega (arith, c.at.ensures) in
    let row_is = slice_get_read net.rows.items (length net.rows.items) c.args.light c.index-in-loop-number.result.now refl (omega (arith, c.requires.position.0, c.loop-number.invariant.shaped.rows)) c.index-in-loop-number.ensures in
    let rows_are : bits_for c.loop-number.self c.position_of-here.result.light ≡ c.index-in-loop-number.result.now.bits = ap (bits_for net) there.light ∙ ap bits_at row_is in
    let held_are : get_or c.loop-number.self.held.items (26 * c.position_of-here.result.slot + (c.at.result - 65)) 0 ≡ get_or c.deref.result.now (26 * c.position_of-here.result.slot + c.in-Some-next_lost.number) 0 =
    ap (λ k. get_or net.held.items (26 * c.position_of-here.result.slot + k) 0) letter ∙ ap (λ h. get_or h (26 * c.position_of-here.result.slot + number) 0) (sym c.deref.ensures.value) in
    lost_for row _ _ _ rows_are held_are c.in-Some-next_lost.ensures.lost

pub loop-number-preserved : goal.loop-number-preserved
loop-number-preserved g c =
    let inv = c.loop-number.invariant in
    let k = c.keep_letter in
    let board = c.args.board.now in
    let here = c.position_of-here.result in
    let there = c.position_of-here.ensures in
    let old = c.loop-number.self in
    let new = k.new.self in
    let set = c.index-alive.result.now in
    let set_is : c.index-alive.result.now ≡ get_or c.args.self.now.letters.items (cell_at c.args.board.now c.args.light c.args.position) 0 =
    c.index-alive.ensures ∙ get_or_default c.args.self.now.letters.items c.position_of-here.result.cell c.index-alive.result.now 0 (omega (arith, c.position_of-here.ensures.in_board, c.requires.net.shaped.letters))
    ∙ ap (λ n. get_or c.args.self.now.letters.items n 0) c.position_of-here.ensures.cell in
    let move = λ (dictionary : Dictionary) (setting : IsSetting c.args.board.now (g.R.Rows.entries c.args.rows.now) dictionary). subst (λ e. IsSetting c.args.board.now e dictionary) (sym inv.same) setting in
    let row_is = slice_get_read old.rows.items (length old.rows.items) c.args.light c.index-in-loop-number.result.now refl (omega (arith, c.requires.position.0, inv.shaped.rows)) c.index-in-loop-number.ensures in
    let stays : (dictionary : Dictionary) → IsSetting c.args.board.now (g.R.Rows.entries c.args.rows.now) dictionary → Stays c.args.board.now dictionary c.args.light (marks_of c.loop-number.self) (marks_of c.keep_letter.new.self) =
    λ dictionary setting. subst (λ n. Stays c.args.board.now dictionary n (marks_of c.loop-number.self) (marks_of c.keep_letter.new.self)) there.light (k.ensures.stays dictionary (move dictionary setting)) in
    record {
      within = omega (arith, c.in-Some-next_lost.ensures.set.1);
      alive = λ cell letter alive. inv.alive cell letter (k.ensures.alive cell letter alive);
      entered = k.ensures.entered ∙ inv.entered;
      left = λ letter past has. k.ensures.others letter (λ e. absurd (omega (arith, e, past, c.at.ensures))) (inv.left letter (omega (arith, past, c.in-Some-next_lost.ensures.set.0)) has);
      same = k.ensures.entries ∙ inv.same;
      risen = omega (arith, inv.risen, k.ensures.risen);
      rest = left_left inv.rest k.ensures.step.rest;
      shaped = k.ensures.step.shaped;
      bits = subst (λ e. HasBits c.args.board.now e c.keep_letter.new.self) inv.same k.ensures.step.bits;
      fewer = omega (arith, inv.fewer, k.ensures.check.fewer);
      waits = λ other w. k.ensures.check.waits other (inv.waits other w);
      held = λ dictionary setting letter lt alive.
          elim (cases_lt letter (65 + c.loop-number.from)) [
            | inl before ↦ stays dictionary setting c.args.position letter c.requires.position (inv.held dictionary setting letter before) alive
            | inr from ↦ elim (cases_lt letter (65 + c.in-Some-next_lost.number)) [
              | inl passed ↦
                  let is_held : IsHeld c.args.board.now dictionary (marks_of c.loop-number.self) c.args.light c.args.position letter =
                  held_in_row c.args.board.now (g.R.Rows.entries c.args.rows.now) dictionary setting c.loop-number.self inv.bits c.args.light c.args.position c.requires.position
                  c.index-in-loop-number.result.now.bits c.deref.result.now c.position_of-here.result.slot set c.loop-number.from c.in-Some-next_lost.number
                  (ap bits_at row_is) c.deref.ensures.value there.slot c.in-Some-next_lost.ensures.passed letter from passed
                  (in_set c.args.self.now (cell_at c.args.board.now c.args.light c.args.position) set letter set_is (inv.alive (cell_at board c.args.light c.args.position) letter (k.ensures.alive (cell_at board c.args.light c.args.position) letter alive))) in
                  stays dictionary setting c.args.position letter c.requires.position (λ _. is_held) alive
              | inr on ↦
                  let is : c.at.result ≡ letter = omega (arith, c.at.ensures, lt, on) in
                  let cell : here.cell ≡ cell_at board c.args.light c.args.position = there.there.cell ∙ ap (λ n. cell_at board n here.position) there.light ∙ ap (cell_at board c.args.light) there.position in
                  let alive_there : letter_stands c.keep_letter.new.self c.position_of-here.result.cell c.at.result ≡ true =
                  ap (λ x. letter_stands new x c.at.result) cell ∙ ap (letter_stands new (cell_at board c.args.light c.args.position)) is ∙ alive in
                  subst (λ d. IsHeld c.args.board.now dictionary (marks_of c.keep_letter.new.self) c.args.light c.args.position d) is
                  (subst (λ n. IsHeld c.args.board.now dictionary (marks_of c.keep_letter.new.self) c.args.light n c.at.result) there.position
                  (subst (λ n. IsHeld c.args.board.now dictionary (marks_of c.keep_letter.new.self) n c.position_of-here.result.position c.at.result) there.light (k.ensures.held dictionary (move dictionary setting) alive_there)))
            ]
          ];
      stays = λ dictionary setting position letter at stood alive. stays dictionary setting position letter at (inv.stays dictionary setting position letter at stood) alive;
      pending = λ slot letter pends. elim (k.ensures.check.pending slot letter pends) [ inl before ↦ inv.pending slot letter before | inr at ↦ inr at ];
      holding = λ dictionary setting holding. k.ensures.check.holding dictionary (move dictionary setting) (inv.holding dictionary setting holding);
      kept = λ dictionary measure setting in_set under.
          subst (λ n. measure.member n ≡ true → IsUnderway c.args.board.now dictionary measure (marks_of c.loop-number.self) (and_light (queued_in c.loop-number.self) n) (g.R.Rows.ticks c.loop-number.rows)
          → IsUnderway c.args.board.now dictionary measure (marks_of c.keep_letter.new.self) (and_light (queued_in c.keep_letter.new.self) n) (g.R.Rows.ticks c.keep_letter.new.rows)) there.light
          (k.ensures.kept dictionary measure (move dictionary setting)) in_set (inv.kept dictionary measure setting in_set under);
    }

pub returns-clause-held : goal.returns-clause-held
returns-clause-held g c dictionary setting letter alive =
    let set = c.index-alive.result.now in
    let set_is : c.index-alive.result.now ≡ get_or c.args.self.now.letters.items (cell_at c.args.board.now c.args.light c.args.position) 0 =
    c.index-alive.ensures ∙ get_or_default c.args.self.now.letters.items c.position_of-here.result.cell c.index-alive.result.now 0 (omega (arith, c.position_of-here.ensures.in_board, c.requires.net.shaped.letters))
    ∙ ap (λ n. get_or c.args.self.now.letters.items n 0) c.position_of-here.ensures.cell in
    let cell = cell_at c.args.board.now c.args.light c.args.position in
    let row_is = slice_get_read c.loop-number.self.rows.items (length c.loop-number.self.rows.items) c.args.light c.index-in-loop-number.result.now refl (omega (arith, c.requires.position.0, c.loop-number.invariant.shaped.rows)) c.index-in-loop-number.ensures in
    elim (cases_lt letter (65 + c.loop-number.from)) [
      | inl before ↦ c.loop-number.invariant.held dictionary setting letter before alive
      | inr past ↦
          held_in_row c.args.board.now (g.R.Rows.entries c.args.rows.now) dictionary setting c.loop-number.self c.loop-number.invariant.bits c.args.light c.args.position c.requires.position
          c.index-in-loop-number.result.now.bits c.deref.result.now c.position_of-here.result.slot set c.loop-number.from 26
          (ap bits_at row_is) c.deref.ensures.value c.position_of-here.ensures.slot c.in_default-next_lost.ensures.none letter past
          (omega (arith, (set_letter (get_or c.loop-number.self.letters.items cell 0) letter (stood_there c.loop-number.self cell letter alive)).1))
          (in_set c.args.self.now (cell_at c.args.board.now c.args.light c.args.position) set letter set_is (c.loop-number.invariant.alive cell letter alive))
    ]

pub loop-number-init : goal.loop-number-init
unfolding letter_stands
loop-number-init g c = record {
  within = omega arith;
  alive = λ cell letter alive. alive;
  entered = refl;
  left = λ letter past is. ap (λ s. has s letter)
      (sym (c.index-alive.ensures ∙ get_or_default c.args.self.now.letters.items c.position_of-here.result.cell c.index-alive.result.now 0 (omega (arith, c.position_of-here.ensures.in_board, c.requires.net.shaped.letters)))) ∙ is;
  same = refl;
  risen = omega arith;
  rest = left_same _;
  shaped = c.requires.net.shaped;
  bits = c.requires.net.bits;
  fewer = omega arith;
  waits = λ other w. w;
  held = λ dictionary setting letter lt alive. absurd (omega (arith, lt, (set_letter (get_or c.args.self.now.letters.items (cell_at c.args.board.now c.args.light c.args.position) 0) letter alive).0));
  stays = λ dictionary setting position letter at stood alive. stood alive;
  pending = λ slot letter pends. inl pends;
  holding = λ dictionary setting holding. holding;
  kept = λ dictionary measure setting in_set under. under;
}

pub drop_letters-requires-clause-stood : goal.drop_letters-requires-clause-stood
unfolding letter_stands
drop_letters-requires-clause-stood g c letter alive =
    let sets = c.args.self.now.letters.items in
    let within : c.position_of-here.result.cell < length sets = omega (arith, c.position_of-here.ensures.in_board, c.requires.net.shaped.letters) in
    ap (λ s. has s letter) (sym (c.index-alive.ensures ∙ get_or_default sets c.position_of-here.result.cell c.index-alive.result.now 0 within)) ∙ alive

pub drop_letters-requires-clause-some : goal.drop_letters-requires-clause-some
drop_letters-requires-clause-some g c = (65 + c.in-Some.field-0, c.in-Some.ensures.set.2)

pub returns-then-count-eq0-clause-stays : goal.returns-then-count-eq0-clause-stays
returns-then-count-eq0-clause-stays g c dictionary setting position letter here stood alive =
    let e = c.drop_letters.ensures in
    let old = c.args.self.now in
    let new = c.drop_letters.new.self in
    let at = c.position_of-here.result in
    let position_is = c.position_of-here.ensures.there.position in
    let gone = has c.index-alive.result.now in
    still_held c.args.board.now dictionary setting.apart old new at.light at.position gone position_is e.same e.letters e.leaves c.args.light position letter
    (stood (alive_before c.args.board.now dictionary setting.apart old new at.light at.position gone position_is e.same e.letters e.leaves (cell_at c.args.board.now c.args.light position) letter alive))

pub returns-then-count-eq0-clause-held : goal.returns-then-count-eq0-clause-held
returns-then-count-eq0-clause-held g c dictionary setting letter alive =
    let old = c.args.self.now in
    let there = c.position_of-here.ensures in
    let here = c.position_of-here.result in
    let at = cell_at c.args.board.now c.args.light c.args.position in
    let alive_is = c.index-alive.ensures ∙ get_or_default old.letters.items here.cell c.index-alive.result.now 0 (omega (arith, there.in_board, c.requires.net.shaped.letters)) in
    let stood : letter_stands old at letter ≡ has c.index-alive.result.now letter = set_there old at letter ∙ ap (λ n. has (get_or old.letters.items n 0) letter) (sym there.cell) ∙ ap (λ s. has s letter) (sym alive_is) in
    absurd (both_ways (letter_stands c.drop_letters.new.self at letter)
    (c.drop_letters.ensures.letters at letter
    ∙ all_gone (letter_stands old at letter) (eqb at (cell_at c.args.board.now here.light here.position)) (has c.index-alive.result.now letter) stood
    (eq-eqb at (cell_at c.args.board.now here.light here.position) (sym there.cell ∙ there.there.cell))) alive)

pub returns-then-count-eq0-clause-kept : goal.returns-then-count-eq0-clause-kept
returns-then-count-eq0-clause-kept g c dictionary measure setting =
    let e = c.drop_letters.ensures in
    let old = c.args.self.now in
    let new = c.drop_letters.new.self in
    let here = c.position_of-here.result in
    let here_is = c.position_of-here.ensures.there in
    let light_is = c.position_of-here.ensures.light in
    let gone = has c.index-alive.result.now in
    let within : c.args.light < length old.rows.items = omega (arith, c.requires.position.0, c.requires.net.shaped.rows) in
    let row_is = slice_get_read old.rows.items (length old.rows.items) c.args.light c.index.result.now refl within c.index.ensures in
    let clear : (k : ℕ) → get_or (bits_for old c.args.light) k false ≡ false = λ k.
    ap (λ b. get_or b k false) (ap bits_at row_is) ∙ none_set c.index.result.now.bits (sym c.count.ensures ∙ c.if-count-eq0.true) k in
    let none : (k : ℕ) → word_stands old here.light k ≡ false = λ k. ap (λ n. word_stands old n k) light_is ∙ no_words old c.args.light c.requires.open clear k in
    let stood : (letter : ℕ) → has c.index-alive.result.now letter ≡ true → letter_stands old (cell_at c.args.board.now here.light here.position) letter ≡ true = λ letter goes.
    ap (λ n. letter_stands old n letter) (sym here_is.cell) ∙ drop_letters-requires-clause-stood g c.before letter goes in
    let some = drop_letters-requires-clause-some g c.before in
    subst (λ n. measure.member n ≡ true → IsUnderway c.args.board.now dictionary measure (marks_of c.args.self.now) (and_light (queued_in c.args.self.now) n) (g.R.Rows.ticks c.args.rows.now)
    → IsUnderway c.args.board.now dictionary measure (marks_of c.drop_letters.new.self) (and_light (queued_in c.drop_letters.new.self) n) (g.R.Rows.ticks c.args.rows.now)) light_is
    (still_under c.args.board.now dictionary setting.apart old new here.light here.position gone here_is.position e.same e.letters e.leaves stood
    (λ letter k goes stands has_it. both_ways (word_stands old here.light k) (none k) stands) some.0 some.1 measure (g.R.Rows.ticks c.args.rows.now))

pub returns-then-count-eq0-clause-check : goal.returns-then-count-eq0-clause-check
returns-then-count-eq0-clause-check g c = record {
  fewer = c.drop_letters.ensures.fewer;
  waits = c.drop_letters.ensures.waits;
  holding = λ dictionary setting. let e = c.drop_letters.ensures in
      still_holding c.args.board.now dictionary setting.apart c.args.self.now c.drop_letters.new.self c.position_of-here.result.light c.position_of-here.result.position (has c.index-alive.result.now) c.position_of-here.ensures.there.position e.same e.letters e.leaves;
  pending = λ slot letter pends.
      pends_at c.args.board.now (marks_of c.args.self.now) (marks_of c.drop_letters.new.self) c.position_of-here.result.light c.position_of-here.result.position
      (has c.index-alive.result.now) c.drop_letters.ensures.leaves slot letter pends;
}
