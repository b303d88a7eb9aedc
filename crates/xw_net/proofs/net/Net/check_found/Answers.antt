use Rattle.std.proofs.Common.{◌<◌, false, length, sym, ◌∙◌, subst, arith}
use Rattle.std.proofs.lemmas.List.{get_or_default}
use Rattle.xw_net.specs.Marks.{IsSetting, known}
use Rattle.xw_net.specs.Marks.IsHeld.{by_entered}
use Rattle.xw_net.proofs.Stripping.WordsByNumber.{entered_is, bits_known}
use Rattle.xw_net.proofs.net.Net.check_found.Goals as goal

pub returns-then-index-clause-held : goal.returns-then-index-clause-held
returns-then-index-clause-held g c dictionary setting position letter here alive =
    let old = c.args.self.now in
    let i = c.args.light in
    let within : i < length old.entered.items = omega (arith, c.requires.light, c.requires.net.shaped.entered) in
    by_entered (entered_is old i (known c.args.board.now dictionary i) (bits_known c.args.board.now (g.R.Rows.entries c.args.rows.now) dictionary setting old c.requires.net.bits i c.requires.light)
    ∙ sym (get_or_default old.entered.items i c.index.result.now false within) ∙ sym c.index.ensures ∙ c.if-index.true)

pub returns-then-is_narrow-clause-held : goal.returns-then-is_narrow-clause-held
returns-then-is_narrow-clause-held g c dictionary setting = c.pass_light.ensures.held dictionary (subst (λ entries. IsSetting c.args.board.now entries dictionary) c.requires.words setting)

pub returns-then-is_narrow-clause-kept : goal.returns-then-is_narrow-clause-kept
returns-then-is_narrow-clause-kept g c ticks dictionary measure setting in_set under =
    c.pass_light.ensures.kept ticks dictionary measure (subst (λ entries. IsSetting c.args.board.now entries dictionary) c.requires.words setting) in_set under
