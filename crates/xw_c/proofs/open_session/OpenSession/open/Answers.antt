use Rattle.std.proofs.Common.{◌∙◌, ap}
use Rattle.xw_words.specs.Dictionary.{Dictionary}
use Rattle.xw_session.specs.Opening.{opened_on}
use Rattle.xw_c.proofs.open_session.OpenSession.open.Goals as goal

pub returns-clause-ok : goal.returns-clause-ok
returns-clause-ok c =
    let on = c.in_ok-session.ensures.ok in
    record {
      puzzle = on.0;
      has_puzzle = on.1;
      state = on.2 ∙ ap (λ (words : Dictionary). opened_on words on.0) c.in_ok-bank.ensures.ok;
      answer = c.new.ensures.items;
    }
