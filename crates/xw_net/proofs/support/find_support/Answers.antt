use Rattle.std.proofs.Common.{◌≡◌, ℕ, ◌+◌, ◌-◌, ◌*◌, ◌/◌, ◌<◌, Bool, List, true, false, not, ◌&&◌, eqb, get_or, length, set, refl, ap, ◌∙◌, inl, inr, arith}
use Rattle.std.proofs.Math.Nat.{min-eq_left}
use Rattle.std.proofs.lemmas.Bool.{cases_lt, both_ways, and_parts}
use Rattle.std.proofs.lemmas.List.{get_or_default, get_or_past, length-set}
use Rattle.xw_words.specs.Columns.{has_letter}
use Rattle.xw_words.specs.Dictionary.{Entry}
use Rattle.xw_letters.specs.LetterSet.{has}
use Rattle.xw_feas.specs.Flags.{set_has}
use Rattle.xw_net.specs.Support.{Held, index_for, search_from, supports}
use Rattle.xw_net.specs.Support.Finds.{moves}
use Rattle.xw_net.proofs.Stripping.SearchStarts.{search_is, without_letter}
use Rattle.xw_net.proofs.support.find_support.Goals as goal

-- a word that supports a letter is in the row
in_row : (row : List Bool) (words : List Entry) (position letter word : ℕ) → supports row words position letter word ≡ true → word < length row
unfolding supports
in_row row words position letter word is =
    elim (cases_lt word (length row)) [
      | inl lt ↦ lt
      | inr le ↦ absurd (both_ways (get_or row word false) (get_or_past row word false le) (and_parts (get_or row word false) (has_letter words position letter word) is).0)
    ]

pub returns-in-Some-clause-finds : goal.returns-in-Some-clause-finds
returns-in-Some-clause-finds g c few =
    let indices = c.args.held.now in
    let sets = c.args.restart.now in
    let slot = c.args.here.slot in
    let letter = c.args.letter in
    let row = c.args.row.now.bits in
    let old : Held = record { indices = indices; restart = sets } in
    let at : 26 * slot + (c.byte.result - 65) ≡ 26 * slot + (letter - 65) = ap (λ b. 26 * slot + (b - 65)) c.byte.ensures.code in
    let index : get_or indices (26 * slot + (c.byte.result - 65)) 0 ≡ index_for old slot letter = ap (λ k. get_or indices k 0) at in
    let set_is : c.index-restart-here.result ≡ get_or sets slot 0 = c.index-restart-here.is ∙ get_or_default sets slot c.index-restart-here.result 0 c.requires.restart in
    let has_is : c.has.result ≡ set_has sets slot letter = c.has.ensures ∙ ap (λ s. has s letter) set_is in
    let from_is : search_from old slot letter (length row) ≡ c.search_start-from.result =
    search_is old slot letter (length row) c.search_start-from.result
    (λ lt never. c.search_start-from.ensures.known (omega (arith, index, lt)) (has_is ∙ never) ∙ ap (λ k. k / 64) index)
    (λ le. c.search_start-from.ensures.past (omega (arith, index, le)))
    (λ again. c.search_start-from.ensures.start (has_is ∙ again)) in
    let word = c.in-Some.word in
    let fits : c.min.result ≡ c.in-Some.word =
    c.min.ensures ∙ min-eq_left (omega (arith, few, in_row row (g.R.Rows.entries c.args.rows.now c.args.here.len) c.args.here.position letter word c.in-Some.ensures.found.1)) in
    let removed : (other : ℕ) → has c.remove.new.self other ≡ (set_has c.args.restart.now c.args.here.slot other && not (eqb other c.args.letter)) =
    λ other. c.remove.ensures.removed other ∙ ap (λ s. has s other && not (eqb other c.args.letter)) (get_or_default c.args.restart.now c.args.here.slot c.index-restart-here-in-Some.result 0 c.requires.restart) in
    moves word refl
    c.requires.lost
    (omega (arith, from_is, c.in-Some.ensures.found.0))
    c.in-Some.ensures.found.1
    (λ other low high. c.in-Some.ensures.first other (omega (arith, from_is, low)) high)
    (ap (λ k. set indices k c.min.result) at ∙ ap (set indices (26 * slot + (letter - 65))) fits)
    (length-set sets slot c.remove.new.self)
    (without_letter sets slot c.remove.new.self letter c.requires.restart removed)
    (omega (arith, from_is, c.in-Some.ensures.cost, c.in-Some.ensures.found.0))
