use Rattle.std.proofs.Common.{◌≡◌, ℕ, ◌<◌, length, get_or, [], true, false, sym, ap, ◌∙◌, arith}
use Rattle.std.proofs.lemmas.List.{get_or_read, length-map}
use Rattle.xw_feas.proofs.BoardLemmas.{length-lights}
use Rattle.xw_feas.specs.Board.{board_of, light_at, is_wholly_entered}
use Rattle.xw_words.specs.Dictionary.{Entry, known_words}
use Rattle.xw_feas.specs.Known.{spellings}
use Rattle.xw_feas.specs.Flags.{flag_at}
use Rattle.xw_feas.specs.AnswersOf.{answers_of}
use Rattle.xw_feas.proofs.QueryLemmas.{entered_is, listed_is, next-entered, next-none_entered, next-listed, next-none_listed}
use Rattle.xw_plain.proofs.plain.PlainFeasible.next_word_at.Goals as goal
use Rattle.xw_plain.proofs.plain.PlainFeasible.next_word_at.Goals.{else-from-eq0-via-then-from-eq0+else-at, else-from-eq0-via-else-from-eq0}

pub returns-then-at : goal.returns-then-at
returns-then-at c =
    let engine = c.args.self.now in
    let board = board_of engine.position.grid in
    let light = c.args.light in
    let in_board : light < length board.lights = omega (arith, c.requires, length-lights engine.position.grid) in
    let at : c.light-cells.result ≡ light_at board light = c.light-cells.ensures.cells ∙ ap (λ b. light_at b light) c.new-board.ensures in
    let row = c.index-row.result.now in
    let below : light < length engine.words.items = omega (arith, engine.rows.lights, c.requires, length-lights engine.position.grid) in
    let row_is : row ≡ get_or engine.words.items light [] = get_or_read engine.words.items light row below c.index-row.ensures [] in
    let entered : is_wholly_entered board (light_at board light) ≡ true = ap (is_wholly_entered board) (sym at) ∙ ap (λ b. is_wholly_entered b c.light-cells.result) (sym c.new-board.ensures) ∙ sym c.has_all_entries.ensures ∙ c.if-has_all_entries.true in
    let known : c.known-known.result ≡ length (spellings engine.position.bank.words (length (light_at board light))) = c.known-known.ensures ∙ ap (λ n. length (known_words engine.position.bank.words n)) (c.len.ensures ∙ ap length at) ∙ sym (length-map (known_words engine.position.bank.words (length (light_at board light))) (λ (word : Entry). word.word)) in
    let stands : flag_at engine.words.items light c.known-known.result ≡ true = ap (λ r. get_or r c.known-known.result false) (sym row_is) ∙ sym c.at.ensures ∙ c.if-at.true in
    next-entered board engine.position.bank.words (answers_of board engine.position.bank.words engine.words.items engine.letters.items) light c.args.from entered c.if-from-eq0.true
    (sym (entered_is board engine.position.bank.words engine.words.items engine.letters.items engine.exact engine.answered light c.known-known.result in_board known entered) ∙ stands)

pub returns-then-has_all_entries : goal.returns-then-has_all_entries
returns-then-has_all_entries c =
    let engine = c.args.self.now in
    let board = board_of engine.position.grid in
    let light = c.args.light in
    let in_board : light < length board.lights = omega (arith, c.requires, length-lights engine.position.grid) in
    let at : c.light-cells.result ≡ light_at board light = c.light-cells.ensures.cells ∙ ap (λ b. light_at b light) c.new-board.ensures in
    let row = c.index-row.result.now in
    let below : light < length engine.words.items = omega (arith, engine.rows.lights, c.requires, length-lights engine.position.grid) in
    let row_is : row ≡ get_or engine.words.items light [] = get_or_read engine.words.items light row below c.index-row.ensures [] in
    let entered : is_wholly_entered board (light_at board light) ≡ true = ap (is_wholly_entered board) (sym at) ∙ ap (λ b. is_wholly_entered b c.light-cells.result) (sym c.new-board.ensures) ∙ sym c.has_all_entries.ensures ∙ c.if-has_all_entries.true in
    let known : c.known-known.result ≡ length (spellings engine.position.bank.words (length (light_at board light))) = c.known-known.ensures ∙ ap (λ n. length (known_words engine.position.bank.words n)) (c.len.ensures ∙ ap length at) ∙ sym (length-map (known_words engine.position.bank.words (length (light_at board light))) (λ (word : Entry). word.word)) in
    next-none_entered board engine.position.bank.words (answers_of board engine.position.bank.words engine.words.items engine.letters.items) light c.args.from entered
    (λ start. sym (entered_is board engine.position.bank.words engine.words.items engine.letters.items engine.exact engine.answered light c.known-known.result in_board known entered)
    ∙ elim c.else-from-eq0.branch [
      | else-from-eq0-via-then-from-eq0+else-at w ↦ ap (λ r. get_or r c.known-known.result false) (sym row_is) ∙ sym w.at.ensures ∙ w.if-at.false
      | else-from-eq0-via-else-from-eq0 w ↦ absurd (w.if-from-eq0.false start)
    ])

pub returns-then-at-2 : goal.returns-then-at-2
returns-then-at-2 c =
    let engine = c.args.self.now in
    let board = board_of engine.position.grid in
    let light = c.args.light in
    let in_board : light < length board.lights = omega (arith, c.requires, length-lights engine.position.grid) in
    let at : c.light-cells.result ≡ light_at board light = c.light-cells.ensures.cells ∙ ap (λ b. light_at b light) c.new-board.ensures in
    let row = c.index-row.result.now in
    let below : light < length engine.words.items = omega (arith, engine.rows.lights, c.requires, length-lights engine.position.grid) in
    let row_is : row ≡ get_or engine.words.items light [] = get_or_read engine.words.items light row below c.index-row.ensures [] in
    let open_light : is_wholly_entered board (light_at board light) ≡ false = ap (is_wholly_entered board) (sym at) ∙ ap (λ b. is_wholly_entered b c.light-cells.result) (sym c.new-board.ensures) ∙ sym c.has_all_entries.ensures ∙ c.if-has_all_entries.false in
    let known : c.known-known.result ≡ length (known_words engine.position.bank.words (length (light_at board light))) = c.known-known.ensures ∙ ap (λ n. length (known_words engine.position.bank.words n)) (c.len.ensures ∙ ap length at) in
    let test : (k : ℕ) → k < length (known_words engine.position.bank.words (length (light_at board light))) → get_or row k false ≡ _ = λ k under. ap (λ r. get_or r k false) row_is ∙ listed_is board engine.position.bank.words engine.words.items engine.letters.items engine.exact engine.answered light k in_board under open_light in
    let under : c.loop-index.index < length (known_words engine.position.bank.words (length (light_at board light))) = omega (arith, known, c.loop-index-test.true) in
    next-listed board engine.position.bank.words (answers_of board engine.position.bank.words engine.words.items engine.letters.items) light c.args.from c.loop-index.index open_light c.loop-index.auto.index under
    (sym (test c.loop-index.index under) ∙ sym c.at-in-loop-index.ensures ∙ c.if-at-2.true)
    (λ k low high. sym (test k (omega arith)) ∙ c.loop-index.invariant k low high)

pub returns : goal.returns
returns c =
    let engine = c.args.self.now in
    let board = board_of engine.position.grid in
    let light = c.args.light in
    let in_board : light < length board.lights = omega (arith, c.requires, length-lights engine.position.grid) in
    let at : c.light-cells.result ≡ light_at board light = c.light-cells.ensures.cells ∙ ap (λ b. light_at b light) c.new-board.ensures in
    let row = c.index-row.result.now in
    let below : light < length engine.words.items = omega (arith, engine.rows.lights, c.requires, length-lights engine.position.grid) in
    let row_is : row ≡ get_or engine.words.items light [] = get_or_read engine.words.items light row below c.index-row.ensures [] in
    let open_light : is_wholly_entered board (light_at board light) ≡ false = ap (is_wholly_entered board) (sym at) ∙ ap (λ b. is_wholly_entered b c.light-cells.result) (sym c.new-board.ensures) ∙ sym c.has_all_entries.ensures ∙ c.if-has_all_entries.false in
    let known : c.known-known.result ≡ length (known_words engine.position.bank.words (length (light_at board light))) = c.known-known.ensures ∙ ap (λ n. length (known_words engine.position.bank.words n)) (c.len.ensures ∙ ap length at) in
    let test : (k : ℕ) → k < length (known_words engine.position.bank.words (length (light_at board light))) → get_or row k false ≡ _ = λ k under. ap (λ r. get_or r k false) row_is ∙ listed_is board engine.position.bank.words engine.words.items engine.letters.items engine.exact engine.answered light k in_board under open_light in
    next-none_listed board engine.position.bank.words (answers_of board engine.position.bank.words engine.words.items engine.letters.items) light c.args.from open_light
    (λ k low high. sym (test k high) ∙ c.loop-index.invariant k low (omega (arith, known, c.loop-index-test.false)))

pub light-cells-requires : goal.light-cells-requires
light-cells-requires c = omega (arith, c.requires, length-lights c.args.self.now.position.grid, ap (λ b. length b.lights) c.new-board.ensures)

pub index-row-requires : goal.index-row-requires
index-row-requires c = omega (arith, c.args.self.now.rows.lights, c.requires, length-lights c.args.self.now.position.grid)

pub at-requires : goal.at-requires
at-requires c =
    let engine = c.args.self.now in
    let board = board_of engine.position.grid in
    let light = c.args.light in
    let in_board : light < length board.lights = omega (arith, c.requires, length-lights engine.position.grid) in
    let at : c.light-cells.result ≡ light_at board light = c.light-cells.ensures.cells ∙ ap (λ b. light_at b light) c.new-board.ensures in
    let row = c.index-row.result.now in
    let below : light < length engine.words.items = omega (arith, engine.rows.lights, c.requires, length-lights engine.position.grid) in
    let row_is : row ≡ get_or engine.words.items light [] = get_or_read engine.words.items light row below c.index-row.ensures [] in
    let known : c.known-known.result ≡ length (spellings engine.position.bank.words (length (light_at board light))) = c.known-known.ensures ∙ ap (λ n. length (known_words engine.position.bank.words n)) (c.len.ensures ∙ ap length at) ∙ sym (length-map (known_words engine.position.bank.words (length (light_at board light))) (λ (word : Entry). word.word)) in
    omega (arith, known, ap length row_is, engine.rows.choices light in_board)
