use Rattle.std.proofs.Common.{inl, refl, sym, subst}
use Rattle.xw_session.specs.Opening.{puzzle_of}
use Rattle.xw_cli.specs.Performed.{IsPut}
use Rattle.xw_cli.proofs.end.put_unsaved.Goals as goal

pub returns-in_default : goal.returns-in_default
returns-in_default g c = record {
  mid = c.tell-status.new.self;
  unsaved = c.tell-status.ensures;
  puts = inl (subst (λ file. IsPut file (puzzle_of c.args.session.now) c.tell-status.new.self c.tell-status.new.self) (sym c.in_default.is) refl);
}
