use Rattle.std.proofs.Common.{◌+◌, ◌*◌, ◌<◌, length, get_or, set, sym, ap, ◌∙◌, inl, inr, arith}
use Rattle.std.proofs.lemmas.Bool.{cases_eq}
use Rattle.std.proofs.lemmas.List.{get_or-set_same, get_or-set_other}
use Rattle.xw_words.specs.Columns.{has_letter}
use Rattle.xw_feas.proofs.Support.{set_flag_within}
use Rattle.xw_net.proofs.Levels.FoundLetters.{seen_has}
use Rattle.xw_net.proofs.Stripping.FoundSupports.{supports-parts}
use Rattle.xw_net.proofs.seen.look_for.Goals as goal

pub overflow_cast-seen-in-Some : goal.overflow_cast-seen-in-Some
overflow_cast-seen-in-Some g c =
    let words = g.R.Rows.entries c.args.rows.now c.args.here.len in
    let parts = supports-parts c.args.row.now.bits words c.args.here.position c.at.result c.in-Some.word c.in-Some.ensures.found.1 in
    omega (arith, set_flag_within c.args.row.now.bits c.in-Some.word parts.0, c.requires.few)

pub returns-in-Some-clause-seen : goal.returns-in-Some-clause-seen
returns-in-Some-clause-seen g c k below known =
    let words = g.R.Rows.entries c.args.rows.now c.args.here.len in
    let place = 26 * c.args.here.slot in
    let at = place + c.args.number in
    let word = c.in-Some.word in
    let parts = supports-parts c.args.row.now.bits words c.args.here.position c.at.result word c.in-Some.ensures.found.1 in
    let inside : at < length c.args.seen.now = omega (arith, c.requires.slot, c.requires.number) in
    elim (cases_eq k c.args.number) [
      | inl e ↦
          ap (λ n. has_letter words c.args.here.position (65 + n) (get_or (set c.args.seen.now at word) (place + n) 0)) e
          ∙ ap (has_letter words c.args.here.position (65 + c.args.number)) (get_or-set_same c.args.seen.now at word 0 inside)
          ∙ ap (λ letter. has_letter words c.args.here.position letter word) (sym c.at.ensures) ∙ parts.1
      | inr apart ↦
          let same = get_or-set_other c.args.seen.now at (place + k) word 0 (λ e. absurd (apart (omega (arith, e)))) in
          ap (has_letter words c.args.here.position (65 + k)) same ∙ c.requires.seen k below (omega (arith, known, same))
    ]

pub returns-then-is_in-clause-found : goal.returns-then-is_in-clause-found
returns-then-is_in-clause-found g c is =
    let here = c.args.here in
    seen_has c.args.row.now.bits (g.R.Rows.entries c.args.rows.now here.len) here.position here.slot c.args.number c.args.seen.now c.requires.number c.requires.row c.requires.seen (c.is_in.ensures.there c.if-is_in.true)
