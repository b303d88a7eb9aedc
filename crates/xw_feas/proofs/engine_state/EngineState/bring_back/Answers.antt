use Rattle.std.proofs.Common.{◌≡◌, ◌<◌, List, length, Some, refl, ap, sym, ◌∙◌, subst, length-set}
use Rattle.std.specs.Prelude.{Result, Ok, slice_set}
use Rattle.xw_words.specs.Dictionary.{Dictionary, Entry, known_words, with_row, entry_at, returned}
use Rattle.xw_words.proofs.DictionaryLemmas.{returned_within}
use Rattle.xw_feas.specs.declared.edit.Refusal.{Refusal}
use Rattle.xw_feas.specs.EngineState.{state_of}
use Rattle.xw_feas.specs.Shape.{SameCounts}
use Rattle.xw_feas.specs.State.{State}
use Rattle.xw_feas.specs.Written.{index_added}
use Rattle.xw_feas.proofs.JudgeLemmas.{returned_made, row_counts}
use Rattle.xw_feas.proofs.ShapeLemmas.{SameShape-itself}
use Rattle.xw_feas.proofs.engine_state.EngineState.bring_back.Goals as goal

pub return_at-requires : goal.return_at-requires
return_at-requires c = returned_within c.args.self.now.bank.words c.args.word.now c.args.index c.requires

pub returns : goal.returns
returns c =
    let old = c.args.self.now in
    let len = length c.args.word.now in
    let entries : List Entry = slice_set (known_words old.bank.words len) c.args.index (returned old.bank.words.least c.args.grade (entry_at (known_words old.bank.words len) c.args.index)) in
    let words : c.return_at.new.self.words ≡ with_row old.bank.words len entries = c.return_at.ensures.words in
    record {
      made = returned_made (state_of old) c.args.word.now c.args.grade c.args.index c.requires ∙ ap (λ (words : Dictionary). let state : State = record { grid = old.grid; words = words } in Ok state) (sym words);
      lights = refl;
      shape = SameShape-itself old.grid;
      counts = subst (SameCounts old.bank.words) (sym words) (row_counts old.bank.words len entries (length-set (known_words old.bank.words len) c.args.index (returned old.bank.words.least c.args.grade (entry_at (known_words old.bank.words len) c.args.index))));
      told = record {
        cells = refl;
        lights = old.light_list;
        word = sym (ap (index_added len) c.requires);
        turned = λ n. refl;
        back = refl;
        altered = refl;
      };
    }
