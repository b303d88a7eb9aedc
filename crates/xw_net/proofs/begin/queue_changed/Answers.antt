use Rattle.std.proofs.Common.{◌≡◌, ◌<◌, ℕ, true, false, length, get_or, refl, sym, ap, subst, ◌∙◌, arith}
use Rattle.std.specs.Prelude.{Option, Some, None, is_some, List, Bool}
use Rattle.std.proofs.lemmas.Bool.{both_ways}
use Rattle.std.proofs.lemmas.List.{get_or_default}
use Rattle.xw_bits.specs.Bits.{RowOfBits}
use Rattle.xw_feas.specs.Board.{light_at}
use Rattle.xw_net.specs.Begin.{has_changed, MayConcern, IsConcerned}
use Rattle.xw_net.specs.Room.{no_row}
use Rattle.xw_net.specs.Spread.{bits_in}
use Rattle.xw_net.proofs.Nets.RowRoom.{bits_are}
use Rattle.xw_net.proofs.Lists.ListsOfLights.{adds_none, adds_as, adds_insert, adds_start, adds_next, adds_end}
use Rattle.xw_net.proofs.begin.queue_changed.Goals as goal

none_concerned : (word : Option (ℕ × ℕ)) (len : ℕ) (base words : List Bool) → is_some word ≡ false → has_changed word len base words ≡ true → ⊥
none_concerned None len base words none is = both_ways false refl is
none_concerned (Some word) len base words none is = both_ways true none refl

pub loop-light-init : goal.loop-light-init
loop-light-init c = adds_start (MayConcern c.args.board.now c.args.word c.args.base.now c.args.words.now) c.args.queue.now

row_bits : (rows : List RowOfBits) (light : ℕ) (row : RowOfBits) → row ≡ get_or rows light row → light < length rows → row.bits ≡ bits_in rows light
row_bits rows light row is lt = ap (λ (r : RowOfBits). r.bits) (is ∙ get_or_default rows light row no_row lt) ∙ sym (bits_are rows light)

changed_same : (word : Option (ℕ × ℕ)) (len other : ℕ) (base base' words words' : List Bool) → len ≡ other → base ≡ base' → words ≡ words' → has_changed word len base words ≡ has_changed word other base' words'
changed_same word len other base base' words words' a b d =
    ap (λ n. has_changed word n base words) a ∙ ap (λ bits. has_changed word other bits words) b ∙ ap (has_changed word other base') d

pub loop-light-preserved : goal.loop-light-preserved
loop-light-preserved c =
    let inv = c.loop-light.invariant in
    let in_board : c.loop-light.light < length c.args.board.now.lights = omega (arith, c.loop-light-test.true, c.light_count-light-end.ensures) in
    let is : has_changed c.args.word (length (light_at c.args.board.now c.loop-light.light)) (bits_in c.args.base.now c.loop-light.light) (bits_in c.args.words.now c.loop-light.light) ≡ true =
    sym (c.has_changed_word.ensures
    ∙ changed_same c.args.word _ _ _ _ _ _ (c.len-len.ensures ∙ ap length c.light.ensures.cells)
    (row_bits c.args.base.now c.loop-light.light c.index-base-light.result c.index-base-light.is (omega (arith, in_board, c.requires.base))) (row_bits c.args.words.now c.loop-light.light c.index-words-light.result c.index-words-light.is (omega (arith, in_board, c.requires.words)))) ∙ c.if-not-has_changed_word.false in
    adds_next (MayConcern c.args.board.now c.args.word c.args.base.now c.args.words.now) c.loop-light.light c.args.queue.now c.loop-light.queue c.insert.new.self inv
    (adds_as (λ other. other ≡ c.loop-light.light) (λ other. (other ≡ c.loop-light.light) × MayConcern c.args.board.now c.args.word c.args.base.now c.args.words.now other) c.loop-light.queue c.insert.new.self
    (λ other e. (e, subst (MayConcern c.args.board.now c.args.word c.args.base.now c.args.words.now) (sym e) is)) (λ other is. is.0)
    (adds_insert c.loop-light.queue c.insert.new.self c.loop-light.light (omega (arith, in_board, c.requires.queue, inv.grows.size)) c.insert.ensures.marks c.insert.ensures.grows))

pub loop-light-preserved-then-not-has_changed_word : goal.loop-light-preserved-then-not-has_changed_word
loop-light-preserved-then-not-has_changed_word c =
    let in_board : c.loop-light.light < length c.args.board.now.lights = omega (arith, c.loop-light-test.true, c.light_count-light-end.ensures) in
    adds_next (MayConcern c.args.board.now c.args.word c.args.base.now c.args.words.now) c.loop-light.light c.args.queue.now c.loop-light.queue c.loop-light.queue c.loop-light.invariant
    (adds_none (λ other. (other ≡ c.loop-light.light) × MayConcern c.args.board.now c.args.word c.args.base.now c.args.words.now other) c.loop-light.queue (λ other is.
    both_ways c.has_changed_word.result c.if-not-has_changed_word.true ((c.has_changed_word.ensures
    ∙ changed_same c.args.word _ _ _ _ _ _ (c.len-len.ensures ∙ ap length c.light.ensures.cells)
    (row_bits c.args.base.now c.loop-light.light c.index-base-light.result c.index-base-light.is (omega (arith, in_board, c.requires.base))) (row_bits c.args.words.now c.loop-light.light c.index-words-light.result c.index-words-light.is (omega (arith, in_board, c.requires.words)))) ∙ subst (MayConcern c.args.board.now c.args.word c.args.base.now c.args.words.now) is.0 is.1)))

pub returns : goal.returns
returns c =
    adds_end (MayConcern c.args.board.now c.args.word c.args.base.now c.args.words.now) c.loop-light.light (length c.args.board.now.lights) c.args.queue.now c.loop-light.queue
    (omega (arith, c.loop-light-test.false, c.loop-light.auto.light-end, c.light_count-light-end.ensures)) c.loop-light.invariant

pub returns-then-is_none : goal.returns-then-is_none
returns-then-is_none c =
    adds_none (IsConcerned c.args.board.now c.args.word c.args.base.now c.args.words.now) c.args.queue.now
    (λ light is. none_concerned c.args.word (length (light_at c.args.board.now light)) _ _ c.if-is_none.ensures is.1)
