use Rattle.std.proofs.Common.{◌≡◌, ℕ, suc, ◌<◌, ◌+◌, [], List, Bool, eqb, length, get_or, take, count_by, sym, ap, ◌∙◌, arith}
use Rattle.std.proofs.lemmas.List.{get_or_read, take_all}
use Rattle.xw_feas.specs.AnswersOf.{items_where}
use Rattle.xw_feas.specs.Board.{board_of, light_at}
use Rattle.xw_feas.specs.Choices.{choices}
use Rattle.xw_feas.proofs.AnswersLemmas.{rows_at, rows_short}
use Rattle.xw_feas.proofs.BoardLemmas.{length-lights}
use Rattle.xw_plain.proofs.Tallies.{count_none, count_more}
use Rattle.xw_plain.proofs.searching.PlainSearchable.tally.Goals as goal

pub index-row-requires : goal.index-row-requires
index-row-requires c = omega (arith, c.args.self.now.rows.lights, c.requires.light, length-lights c.args.self.now.position.grid)

pub loop-choice-init : goal.loop-choice-init
loop-choice-init c =
    let engine = c.args.self.now in
    record {
      tally = sym (count_none (λ word. eqb (get_or word c.args.position 0) c.args.letter) [] (choices (board_of engine.position.grid) engine.position.bank.words (light_at (board_of engine.position.grid) c.args.light)));
      small = omega arith;
    }

pub count_choice-total-requires-clause-choice : goal.count_choice-total-requires-clause-choice
count_choice-total-requires-clause-choice c =
    let engine = c.args.self.now in
    let light = c.args.light in
    let in_board : light < length (board_of engine.position.grid).lights = omega (arith, c.requires.light, length-lights engine.position.grid) in
    let below : light < length engine.words.items = omega (arith, engine.rows.lights, in_board) in
    let row_is = get_or_read engine.words.items light c.index-row.result.now below c.index-row.ensures [] in
    omega (arith, c.loop-choice-test.true, c.len-choice-end.ensures, ap (λ (flags : List Bool). length flags) row_is, rows_short (board_of engine.position.grid) engine.position.bank.words engine.words.items engine.letters.items engine.rows light in_board)

pub loop-choice-preserved : goal.loop-choice-preserved
loop-choice-preserved c =
    let engine = c.args.self.now in
    let light = c.args.light in
    let k = c.loop-choice.choice in
    let flags : List Bool = get_or engine.words.items c.args.light [] in
    let items : List (List ℕ) = choices (board_of engine.position.grid) engine.position.bank.words (light_at (board_of engine.position.grid) c.args.light) in
    let in_board : light < length (board_of engine.position.grid).lights = omega (arith, c.requires.light, length-lights engine.position.grid) in
    let below : light < length engine.words.items = omega (arith, engine.rows.lights, in_board) in
    let row_is = get_or_read engine.words.items light c.index-row.result.now below c.index-row.ensures [] in
    let in_flags : k < length flags = omega (arith, c.loop-choice-test.true, c.len-choice-end.ensures, ap (λ (flags : List Bool). length flags) row_is) in
    let in_items : k < length items = omega (arith, in_flags, rows_short (board_of engine.position.grid) engine.position.bank.words engine.words.items engine.letters.items engine.rows light in_board) in
    let next : c.loop-choice.choice + 1 ≡ suc c.loop-choice.choice = omega arith in
    let more = count_more (λ word. eqb (get_or word c.args.position 0) c.args.letter) [] flags items k in_flags in_items in
    record {
      tally = omega (
        arith,
        c.loop-choice.invariant.tally,
        c.count_choice-total.ensures.count,
        more,
        ap (λ n. count_by (λ word. eqb (get_or word c.args.position 0) c.args.letter) (items_where (take n (get_or c.args.self.now.words.items c.args.light [])) (choices (board_of c.args.self.now.position.grid) c.args.self.now.position.bank.words (light_at (board_of c.args.self.now.position.grid) c.args.light)))) next,
      );
      small = omega (arith, c.loop-choice.invariant.small, c.count_choice-total.ensures.small);
    }

pub returns : goal.returns
returns c =
    let engine = c.args.self.now in
    let light = c.args.light in
    let in_board : light < length (board_of engine.position.grid).lights = omega (arith, c.requires.light, length-lights engine.position.grid) in
    let below : light < length engine.words.items = omega (arith, engine.rows.lights, in_board) in
    let row_is = get_or_read engine.words.items light c.index-row.result.now below c.index-row.ensures [] in
    c.loop-choice.invariant.tally
    ∙ ap (λ (flags : List Bool). count_by (λ word. eqb (get_or word c.args.position 0) c.args.letter) (items_where flags (choices (board_of c.args.self.now.position.grid) c.args.self.now.position.bank.words (light_at (board_of c.args.self.now.position.grid) c.args.light))))
    (take_all c.loop-choice.choice (get_or c.args.self.now.words.items c.args.light []) (omega (arith, c.loop-choice-test.false, c.len-choice-end.ensures, ap (λ (flags : List Bool). length flags) row_is)))
    ∙ ap (λ (words : List (List ℕ)). count_by (λ word. eqb (get_or word c.args.position 0) c.args.letter) words) (sym (rows_at (board_of engine.position.grid) engine.position.bank.words engine.words.items engine.letters.items light in_board))
