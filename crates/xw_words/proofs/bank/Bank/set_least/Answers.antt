use Rattle.std.proofs.Common.{◌≡◌, map, ap, ◌∙◌, arith}
use Rattle.std.specs.Vec.{with_items}
use Rattle.std.proofs.lemmas.List.{with_items_is}
use Rattle.xw_words.specs.Bank.{limited_row}
use Rattle.xw_words.proofs.DictionaryLemmas.{words_of-limited, room-limited, IsKept-limited}
use Rattle.xw_words.proofs.bank.Bank.set_least.Goals as goal

pub invariant_of-self : goal.invariant_of-self
invariant_of-self c =
    let rows = c.self.inside.rows in
    let now : (with_items rows c.limit_rows.new.rows).items ≡ map (limited_row c.min-self-inside.result) rows.items =
    with_items_is rows c.limit_rows.new.rows (omega (arith, c.limit_rows.auto.rows, c.deref_mut.ensures.len)) ∙ c.limit_rows.ensures ∙ ap (map (limited_row c.min-self-inside.result)) c.deref_mut.ensures.value in
    rw now (rw c.min-self-inside.ensures (IsKept-limited rows.items c.self.inside.least c.args.least c.self.invariant))

pub returns-clause-words : goal.returns-clause-words
returns-clause-words c =
    let rows = c.self.inside.rows in
    let now : (with_items rows c.limit_rows.new.rows).items ≡ map (limited_row c.min-self-inside.result) rows.items =
    with_items_is rows c.limit_rows.new.rows (omega (arith, c.limit_rows.auto.rows, c.deref_mut.ensures.len)) ∙ c.limit_rows.ensures ∙ ap (map (limited_row c.min-self-inside.result)) c.deref_mut.ensures.value in
    rw (← c.self.view_is) (rw now (rw c.min-self-inside.ensures (words_of-limited rows.items c.self.inside.least c.args.least)))

pub returns-clause-room : goal.returns-clause-room
returns-clause-room c =
    let rows = c.self.inside.rows in
    let now : (with_items rows c.limit_rows.new.rows).items ≡ map (limited_row c.min-self-inside.result) rows.items =
    with_items_is rows c.limit_rows.new.rows (omega (arith, c.limit_rows.auto.rows, c.deref_mut.ensures.len)) ∙ c.limit_rows.ensures ∙ ap (map (limited_row c.min-self-inside.result)) c.deref_mut.ensures.value in
    rw (← c.self.view_is) (rw now (room-limited rows.items c.min-self-inside.result))
