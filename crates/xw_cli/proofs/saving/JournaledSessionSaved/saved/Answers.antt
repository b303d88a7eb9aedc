use Rattle.std.proofs.Common.{◌≡◌, subst, IfOk}
use Rattle.xw_cli.specs.SessionFiles.{file_of}
use Rattle.xw_cli.proofs.saving.JournaledSessionSaved.saved.Goals as goal

pub returns : goal.returns
returns g c = subst (λ state. IfOk c.saved.result (λ bytes. bytes.items ≡ file_of state)) c.session.ensures c.saved.ensures
