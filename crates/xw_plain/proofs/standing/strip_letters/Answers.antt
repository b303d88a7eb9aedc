use Rattle.std.proofs.Common.{◌≡◌, ◌<◌, length, get_or, sym, arith}
use Rattle.std.proofs.lemmas.List.{get_or_default}
use Rattle.xw_plain.proofs.Strip.{KeepsLettersBelow-more}
use Rattle.xw_plain.proofs.standing.strip_letters.Goals as goal

pub loop-position-preserved : goal.loop-position-preserved
loop-position-preserved c =
    let cell = c.at-cell.result in
    let long = c.loop-position.invariant.long in
    let under : c.loop-position.position < length c.args.cells.now = omega arith in
    let inside = c.requires.in_board c.loop-position.position 0 under in
    let below : cell < length c.loop-position.letters = omega (arith, c.at-cell.ensures) in
    let before = c.index-letters-cell.result in
    let at : get_or c.loop-position.letters cell before ≡ get_or c.loop-position.letters cell 0 = get_or_default c.loop-position.letters cell before 0 below in
    KeepsLettersBelow-more _ _ _ _ _ c.loop-position.removed c.loop-position.position cell c.keep_common-lacks_words.new.set c.letters_seen-seen.result c.keep_common-lacks_words.result
    c.loop-position.invariant below (sym c.at-cell.ensures)
    (λ letter. rw (← at) (c.keep_common-lacks_words.ensures.flags letter)) c.letters_seen-seen.ensures.each c.letters_seen-seen.ensures.no_other
    (rw (← at) c.keep_common-lacks_words.ensures.fewer)
    (λ e. rw (← at) (c.keep_common-lacks_words.ensures.same e))
