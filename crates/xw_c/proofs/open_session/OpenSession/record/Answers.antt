use Rattle.std.proofs.Common.{◌≡◌, ◌∙◌, ap, inl, refl}
use Rattle.xw_session.specs.Record.{record_lines}
use Rattle.xw_c.specs.OpenSession.{Shown}
use Rattle.xw_c.proofs.open_session.OpenSession.record.Goals as goal

pub returns-in-Ok : goal.returns-in-Ok
returns-in-Ok c =
    let same : c.self.inside.session ≡ c.args.self.now.state = ap (λ (shown : Shown). shown.state) c.self.view_is in
    (inl (refl, c.in-Ok.ensures ∙ ap record_lines same), same)
