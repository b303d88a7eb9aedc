use Rattle.std.proofs.Common.{ap, sym}
use Rattle.std.specs.Prelude.{slice_get}
use Rattle.std.specs.Option.{option_and_then}
use Rattle.xw_grid.specs.Light.{lights_of}
use Rattle.xw_session.specs.Reply.{name_of_light}
use Rattle.xw_answers.proofs.LightTexts.{no_such_number}
use Rattle.xw_session.proofs.session.changing.light_in.Goals as goal

pub returns-in-None : goal.returns-in-None
returns-in-None c = sym (ap (option_and_then (slice_get (lights_of c.args.grid.now))) (no_such_number c.args.grid.now (name_of_light c.args.named) c.well_formed-2.ensures c.in-None.ensures.none))
