use Rattle.std.proofs.Common.{refl, sym, ◌∙◌, subst}
use Rattle.xw_feas.specs.declared.effect.Effect.{Effect}
use Rattle.xw_feas.specs.declared.pending.InPlace.{InPlace}
use Rattle.xw_feas.specs.Effect.{IsToldBy, IsCommitted}
use Rattle.xw_feas.specs.EngineState.{state_of}
use Rattle.xw_feas.specs.Pending.{in_place_action, IsInPlace}
use Rattle.xw_feas.specs.Shape.{fault_at}
use Rattle.xw_feas.specs.State.{entered}
use Rattle.xw_feas.proofs.EffectLemmas.{written_committed}
use Rattle.xw_feas.proofs.ShapeLemmas.{SameShape-itself}
use Rattle.xw_feas.proofs.engine_state.EngineState.commit.Goals as goal

pub returns-then-keeps : goal.returns-then-keeps
returns-then-keeps c =
    let old = c.args.self.now in
    record {
      made = c.keeps.ensures c.if-keeps.true c.requires;
      lights = refl;
      shape = SameShape-itself old.grid;
      counts = λ len. refl;
      told = subst (λ (effect : Effect). IsToldBy (state_of old) (state_of old) old.lights c.note_nothing.new.self (in_place_action (state_of old) c.args.edit.now) effect) (sym c.note_nothing.ensures.effect) (record { layout = refl; words = refl });
    }

pub enter-requires : goal.enter-requires
enter-requires c = subst (IsInPlace (state_of c.args.self.now)) c.in-Enter.is c.requires

pub returns-in-Enter : goal.returns-in-Enter
returns-in-Enter c =
    let old = c.args.self.now in
    subst (λ (edit : InPlace). IsCommitted old c.enter.new.self (in_place_action (state_of old) edit)) (sym c.in-Enter.is)
    (written_committed old c.enter.new.self (entered c.in-Enter.cell c.in-Enter.letter) c.enter.ensures.made c.enter.ensures.lights c.enter.ensures.words c.enter.ensures.shape c.enter.ensures.effect c.enter.ensures.told)
