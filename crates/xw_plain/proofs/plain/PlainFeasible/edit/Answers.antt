use Rattle.std.proofs.Common.{refl, ap, ◌∙◌}
use Rattle.xw_feas.specs.Board.{board_of}
use Rattle.xw_feas.specs.Changes.{changed_sets, spelled_out}
use Rattle.xw_feas.proofs.AnswersLemmas.{sets_at}
use Rattle.xw_feas.proofs.ChangesLemmas.{changes_told}
use Rattle.xw_feas.specs.AnswersOf.{answers_of}
use Rattle.xw_plain.proofs.plain.PlainFeasible.edit.Goals as goal

pub returns : goal.returns
returns c =
    let old = c.args.self.now in
    let new = c.apply.new.self in (
      (
        refl,
        (λ _. tt),
        (
          record {
            state = c.in_ok-apply.ensures.made;
            changes =
                ap spelled_out (c.changed.ensures ∙ ap (λ before. changed_sets new.position.grid before new.letters.items 0) c.in_ok-apply.ensures.letters)
                ∙ changes_told new.position.grid old.letters.items new.letters.items (answers_of (board_of old.position.grid) old.position.bank.words old.words.items old.letters.items) (answers_of (board_of new.position.grid) new.position.bank.words new.words.items new.letters.items)
                (λ index. sets_at (board_of old.position.grid) old.position.bank.words old.words.items old.letters.items index) (λ index. sets_at (board_of new.position.grid) new.position.bank.words new.words.items new.letters.items index);
          },
          c.in_ok-apply.ensures.placed,
        ),
      ),
      record { edited = tt },
    )
