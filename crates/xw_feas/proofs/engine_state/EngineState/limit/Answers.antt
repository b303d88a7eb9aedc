use Rattle.std.proofs.Common.{refl, ap, sym, ◌∙◌, subst, ltb}
use Rattle.std.specs.Prelude.{Ok}
use Rattle.xw_words.specs.Dictionary.{Dictionary, capped}
use Rattle.xw_feas.specs.Shape.{SameCounts}
use Rattle.xw_feas.specs.State.{State}
use Rattle.xw_feas.proofs.JudgeLemmas.{least_counts}
use Rattle.xw_feas.proofs.ShapeLemmas.{SameShape-itself}
use Rattle.xw_feas.proofs.engine_state.EngineState.limit.Goals as goal

pub returns : goal.returns
returns c =
    let old = c.args.self.now in
    let words = c.limit_in.ensures.words in
    record {
      made = ap (λ (words : Dictionary). let state : State = record { grid = old.grid; words = words } in Ok state) (sym words);
      lights = refl;
      shape = SameShape-itself old.grid;
      counts = subst (SameCounts old.bank.words) (sym words) (least_counts c.args.grade old.bank.words);
      told = record {
        cells = refl;
        lights = old.light_list;
        word = refl;
        turned = c.turned_lengths-self.ensures;
        back = ap (λ least. ltb least c.least-before.result) (c.least.ensures.least ∙ ap (λ (words : Dictionary). words.least) words) ∙ ap (ltb (capped c.args.grade)) c.least-before.ensures.least;
        altered = refl;
      };
    }
