use Rattle.std.proofs.Common.{◌∙◌, map, subst, sym, ap}
use Rattle.xw_search.specs.Writing.{entries_of}
use Rattle.xw_fill.specs.Reason.{no_entries}
use Rattle.xw_fill.specs.Sparing.{emptied, IsListOf}
use Rattle.xw_fill.proofs.EntryLemmas.{list_sorted, list_emptied}
use Rattle.xw_fill.proofs.why.Room.new.Goals as goal

pub returns-clause-ok : goal.returns-clause-ok
returns-clause-ok g c =
    let state = g.E.Feasible.state c.args.engine.now in
    let sorted = list_sorted state (entries_of state) c.in_ok-entered.entered.items c.sort_by_distance.new.list.items c.sort_by_distance.ensures c.in_ok-entered.ensures.ok in
    record {
      entered = sorted;
      emptied = subst (IsListOf state (no_entries (entries_of state))) (sym (c.in_ok-emptied.ensures.ok ∙ ap (map emptied) c.deref.ensures.value)) (list_emptied state c.sort_by_distance.new.list.items sorted);
      long = c.in_ok-reason.ensures.ok;
    }
