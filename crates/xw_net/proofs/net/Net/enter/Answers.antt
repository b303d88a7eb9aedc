use Rattle.std.proofs.Common.{◌≡◌, ◌&&◌, refl, sym, ap, ◌∙◌, subst, inl, inr, arith}
use Rattle.xw_net.specs.Entered.{IsThroughNew}
use Rattle.xw_net.specs.Worklist.{ListOfLights, is_marked, Adds}
use Rattle.xw_net.specs.declared.net.Net.{Net}
use Rattle.std.specs.Vec.{with_items}
use Rattle.std.proofs.lemmas.List.{with_items_is}
use Rattle.xw_feas.specs.Feasible.{may_stand}
use Rattle.xw_feas.specs.Flags.{set_has}
use Rattle.xw_net.proofs.Levels.WaysBack.{way_queue}
use Rattle.xw_net.proofs.net.Net.enter.Goals as goal

pub returns-in_err-narrow_queued-clause-back : goal.returns-in_err-narrow_queued-clause-back
returns-in_err-narrow_queued-clause-back g c before way =
    c.narrow_queued.ensures.back before (way_queue c.args.level.now c.args.self.now (record c.args.self.now { queue = c.mark_entered.new.list }) before refl way)

pub returns-clause-back : goal.returns-clause-back
returns-clause-back g c before way =
    let back = c.narrow_queued.ensures.back before (way_queue c.args.level.now c.args.self.now (record c.args.self.now { queue = c.mark_entered.new.list }) before refl way) in
    record {
      rows = back.rows;
      base = back.base;
      letters = back.letters;
      entered = back.entered;
      as_many_letters = back.as_many_letters;
      as_many_flags = back.as_many_flags;
      held = back.held;
      restart = back.restart;
    }

pub returns-clause-entered : goal.returns-clause-entered
returns-clause-entered g c =
    let old = c.args.self.now in
    let marked : Net = record old { queue = c.mark_entered.new.list } in
    let mid = c.narrow_queued.new.self in
    let k = c.narrow_queued.ensures in
    let board = c.args.board.now in
    let grid = c.args.search.grid.now in
    let written = c.args.search.written.now in
    let entries = g.R.Rows.entries c.args.rows.now in
    let new : Net = record mid { letters = with_items mid.letters c.narrow_entered.new.letters } in
    let queue : mid.queue ≡ c.mark_entered.new.list = ap (λ (n : Net). n.queue) k.rest in
    let letters_were : c.deref_mut.result.now ≡ old.letters.items = c.deref_mut.ensures.value ∙ ap (λ (n : Net). n.letters.items) k.rest in
    let letters_are : new.letters.items ≡ c.narrow_entered.new.letters = with_items_is mid.letters c.narrow_entered.new.letters (omega (arith, c.narrow_entered.ensures.len, c.deref_mut.ensures.len)) in
    record {
      queue = subst (Adds (IsThroughNew grid board written) old.queue) (sym queue) c.mark_entered.ensures;
      on = λ light lt marked.
          let is = c.in_ok-narrow_queued.ensures.on light lt (ap (λ (l : ListOfLights). is_marked l.marks light) (sym queue) ∙ marked) in
          record { filled = is.filled; only = is.only; narrowed = record { base = is.narrowed.base; rows = is.narrowed.rows; flag = is.narrowed.flag } };
      off = λ light none.
          let is = k.off light (ap (λ (l : ListOfLights). is_marked l.marks light) (sym queue) ∙ none) in
          record { rows = is.rows; base = is.base; flag = is.flag };
      letters = λ cell. elim (c.narrow_entered.ensures.narrowed cell) [
        | inl narrowed ↦ inl (λ letter. ap (λ l. set_has l cell letter) letters_are ∙ narrowed letter ∙ ap (λ l. set_has l cell letter && may_stand board cell letter) letters_were)
        | inr same ↦ inr (same.0, λ letter. ap (λ l. set_has l cell letter) letters_are ∙ same.1 letter ∙ ap (λ l. set_has l cell letter) letters_were)
      ];
      rest = ap (λ (n : Net). record n { letters = new.letters }) k.rest ∙ ap (λ (q : ListOfLights). record old { rows = mid.rows; base = mid.base; entered = mid.entered; letters = new.letters; queue = q }) (sym queue);
    }

pub returns-in_err-narrow_queued-clause-rest : goal.returns-in_err-narrow_queued-clause-rest
returns-in_err-narrow_queued-clause-rest g c =
    let mid = c.narrow_queued.new.self in
    c.narrow_queued.ensures.rest
    ∙ ap (λ (q : ListOfLights). record c.args.self.now { rows = mid.rows; base = mid.base; entered = mid.entered; queue = q }) (sym (ap (λ (n : Net). n.queue) c.narrow_queued.ensures.rest))
    ∙ ap (λ l. record c.args.self.now { rows = mid.rows; base = mid.base; entered = mid.entered; letters = l; queue = mid.queue }) (sym (ap (λ (n : Net). n.letters) c.narrow_queued.ensures.rest))

pub returns-clause-rest : goal.returns-clause-rest
returns-clause-rest g c =
    let mid = c.narrow_queued.new.self in
    let letters = with_items mid.letters c.narrow_entered.new.letters in
    ap (λ (n : Net). record n { letters = letters }) c.narrow_queued.ensures.rest
    ∙ ap (λ (q : ListOfLights). record c.args.self.now { rows = mid.rows; base = mid.base; entered = mid.entered; letters = letters; queue = q }) (sym (ap (λ (n : Net). n.queue) c.narrow_queued.ensures.rest))
