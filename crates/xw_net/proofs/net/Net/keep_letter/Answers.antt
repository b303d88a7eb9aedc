use Rattle.std.proofs.Common.{◌≡◌, ◌-◌, Bool, true, false, not, ◌&&◌, eqb, get_or, refl, sym, ap, ◌∙◌, inl, inr, arith}
use Rattle.std.proofs.lemmas.Bool.{and_parts, and_from, ne_eqb}
use Rattle.xw_net.specs.Marks.{cell_at}
use Rattle.xw_net.specs.Nets.{marks_of, letter_stands}
use Rattle.xw_net.proofs.Stripping.StruckRows.{set_letter}
use Rattle.xw_net.proofs.Stripping.HeldWords.{same_holding}
use Rattle.xw_net.proofs.Stripping.DroppedLetters.{held_struck}
use Rattle.xw_net.proofs.Stripping.FoundSupports.{IsSearched, letters_same, found_held, found_stays, found_kept, found_check, none_stays, none_kept}
use Rattle.xw_net.proofs.net.Net.keep_letter.Goals as goal
use Rattle.xw_net.proofs.net.Net.keep_letter.Goals.{After-hold_another}

not_both : (b : Bool) → not (b && false) ≡ true
not_both true = refl
not_both false = refl

-- the search for another word that supports the letter
searched : (g : _) (c : After-hold_another g)
    → IsSearched c.args.board.now (g.R.Rows.entries c.args.rows.now) c.args.self.now c.hold_another.new.self c.args.here.light c.args.here.position c.args.letter
    (g.R.Rows.ticks c.hold_another.new.rows - g.R.Rows.ticks c.args.rows.now) c.hold_another.result
searched g c =
    let there = c.requires.there in
    record {
      bits = c.requires.net.bits;
      position = there.position;
      letter = c.requires.letter;
      stood = rw (← there.cell) c.requires.stands;
      no_entry = c.requires.open;
      in_held = omega (arith, there.slot, there.in_slots, c.requires.net.shaped.held, c.requires.letter);
      rest = c.hold_another.ensures.same;
      finds = λ few. rw (← there.len, ← there.slot) (c.hold_another.ensures.finds few);
    }

pub drop_letter-requires-clause-stood : goal.drop_letter-requires-clause-stood
drop_letter-requires-clause-stood g c =
    letters_same (searched g (goal.at.drop_letter-requires-clause-stood g c).After-hold_another) c.args.here.cell c.args.letter ∙ c.requires.stands

pub returns-else-not-hold_another-clause-held : goal.returns-else-not-hold_another-clause-held
returns-else-not-hold_another-clause-held g c dictionary setting alive =
    found_held (searched g (goal.at.returns-else-not-hold_another-clause-held g c).After-hold_another) dictionary setting c.if-not-hold_another.false

pub returns-then-not-hold_another-clause-alive : goal.returns-then-not-hold_another-clause-alive
returns-then-not-hold_another-clause-alive g c cell other alive =
    let at = cell_at c.args.board.now c.args.here.light c.args.here.position in
    let here = (and_parts (letter_stands c.hold_another.new.self cell other) (not (eqb cell at && eqb other c.args.letter)) (sym (c.drop_letter.ensures.drops.letters cell other) ∙ alive)).0 in
    sym (letters_same (searched g (goal.at.returns-then-not-hold_another-clause-alive g c).After-hold_another) cell other) ∙ here

pub returns-else-not-hold_another-clause-alive : goal.returns-else-not-hold_another-clause-alive
returns-else-not-hold_another-clause-alive g c cell other alive =
    sym (letters_same (searched g (goal.at.returns-else-not-hold_another-clause-alive g c).After-hold_another) cell other) ∙ alive

pub returns-then-not-hold_another-clause-stays : goal.returns-then-not-hold_another-clause-stays
returns-then-not-hold_another-clause-stays g c dictionary setting r d here stood alive =
    let alive_before = returns-then-not-hold_another-clause-alive g c (cell_at c.args.board.now c.args.here.light r) d alive in
    none_stays (searched g (goal.at.returns-then-not-hold_another-clause-stays g c).After-hold_another) dictionary setting c.if-not-hold_another.true c.drop_letter.new.self c.drop_letter.ensures.same
    c.args.here.light r d (stood alive_before)

pub returns-else-not-hold_another-clause-stays : goal.returns-else-not-hold_another-clause-stays
unfolding letter_stands
returns-else-not-hold_another-clause-stays g c dictionary setting r d here stood alive =
    let cell = cell_at c.args.board.now c.args.here.light r in
    let alive_before = returns-else-not-hold_another-clause-alive g c cell d alive in
    found_stays (searched g (goal.at.returns-else-not-hold_another-clause-stays g c).After-hold_another) dictionary setting c.if-not-hold_another.false
    c.args.here.light r d here (set_letter (get_or c.args.self.now.letters.items cell 0) d alive_before) (stood alive_before)

pub returns-then-not-hold_another-clause-kept : goal.returns-then-not-hold_another-clause-kept
returns-then-not-hold_another-clause-kept g c dictionary measure setting in_set under =
    none_kept (searched g (goal.at.returns-then-not-hold_another-clause-kept g c).After-hold_another) dictionary setting
    measure (g.R.Rows.ticks c.args.rows.now) (g.R.Rows.ticks c.hold_another.new.rows) refl in_set under c.if-not-hold_another.true
    c.drop_letter.new.self c.drop_letter.ensures.same c.drop_letter.ensures.drops

pub returns-else-not-hold_another-clause-kept : goal.returns-else-not-hold_another-clause-kept
returns-else-not-hold_another-clause-kept g c dictionary measure setting in_set under =
    found_kept (searched g (goal.at.returns-else-not-hold_another-clause-kept g c).After-hold_another) dictionary setting
    measure (g.R.Rows.ticks c.args.rows.now) (g.R.Rows.ticks c.hold_another.new.rows) refl in_set under c.if-not-hold_another.false

pub returns-then-not-hold_another-clause-others : goal.returns-then-not-hold_another-clause-others
returns-then-not-hold_another-clause-others g c other apart stood =
    let at = cell_at c.args.board.now c.args.here.light c.args.here.position in
    let cell = c.args.here.cell in
    let stood_after = letters_same (searched g (goal.at.returns-then-not-hold_another-clause-others g c).After-hold_another) cell other ∙ stood in
    c.drop_letter.ensures.drops.letters cell other
    ∙ and_from (letter_stands c.hold_another.new.self cell other) (not (eqb cell at && eqb other c.args.letter)) stood_after
    (ap (λ b. not (eqb cell at && b)) (ne_eqb other c.args.letter apart) ∙ not_both (eqb cell at))

pub returns-else-not-hold_another-clause-others : goal.returns-else-not-hold_another-clause-others
returns-else-not-hold_another-clause-others g c other apart stood =
    letters_same (searched g (goal.at.returns-else-not-hold_another-clause-others g c).After-hold_another) c.args.here.cell other ∙ stood

pub returns-then-not-hold_another-clause-check : goal.returns-then-not-hold_another-clause-check
returns-then-not-hold_another-clause-check g c =
    let k = found_check (searched g (goal.at.returns-then-not-hold_another-clause-check g c).After-hold_another) in
    let last = c.drop_letter.new.self in
    let held = held_struck c.hold_another.new.self last c.drop_letter.ensures.same in
    record {
      fewer = omega (arith, k.fewer, c.drop_letter.ensures.fewer);
      waits = λ other waits. c.drop_letter.ensures.waits other (k.waits other waits);
      holding = λ dictionary setting holding. same_holding c.args.board.now dictionary (marks_of c.hold_another.new.self) (marks_of last) held (k.holding dictionary setting holding);
      pending = λ slot other pends. elim (c.drop_letter.ensures.drops.pending_new slot other pends) [
        | inl before ↦ k.pending slot other before
        | inr at ↦ inr (at.1.0, at.1.1, at.1.2.position_there, at.1.3)
      ];
    }

pub returns-else-not-hold_another-clause-check : goal.returns-else-not-hold_another-clause-check
returns-else-not-hold_another-clause-check g c = found_check (searched g (goal.at.returns-else-not-hold_another-clause-check g c).After-hold_another)
