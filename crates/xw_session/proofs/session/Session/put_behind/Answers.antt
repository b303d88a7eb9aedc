use Rattle.std.proofs.Common.{◌≡◌, eqb, length, false, ap, sym, ◌∙◌}
use Rattle.xw_commands.specs.declared.command.TextMode.TheVariants.{Behind}
use Rattle.xw_session.specs.declared.session.putting.Target.TheVariants as targets
use Rattle.xw_session.specs.Put.{with_piece}
use Rattle.xw_answers.proofs.Escapes.{spells_some}
use Rattle.xw_session.proofs.TextMode.{put_behind}
use Rattle.xw_session.proofs.session.Session.put_behind.Goals as goal

pub returns-in_ok-append_text-in-Text-clause-ok : goal.returns-in_ok-append_text-in-Text-clause-ok
returns-in_ok-append_text-in-Text-clause-ok g c = λ piece e.
    let some : eqb (length c.args.spelling.now) 0 ≡ false = sym c.is_empty.ensures ∙ c.if-is_empty.false in
    c.in_ok-append_text-in-Text.ensures.ok piece e
    ∙ put_behind c.args.self.now (targets.Text c.in-Text.field) piece (spells_some c.args.spelling.now piece e some)
    ∙ ap (λ target. with_piece c.args.self.now Behind target piece) (sym c.in-Text.is)

pub returns-in_ok-append_clue-in-Clue-clause-ok : goal.returns-in_ok-append_clue-in-Clue-clause-ok
returns-in_ok-append_clue-in-Clue-clause-ok g c = λ piece e.
    let some : eqb (length c.args.spelling.now) 0 ≡ false = sym c.is_empty.ensures ∙ c.if-is_empty.false in
    c.in_ok-append_clue-in-Clue.ensures.ok piece e
    ∙ put_behind c.args.self.now (targets.Clue c.in-Clue.cell c.in-Clue.direction) piece (spells_some c.args.spelling.now piece e some)
    ∙ ap (λ target. with_piece c.args.self.now Behind target piece) (sym c.in-Clue.is)
