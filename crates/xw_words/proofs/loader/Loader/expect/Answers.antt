use Rattle.std.proofs.Common.{arith}
use Rattle.xw_words.proofs.LoaderLemmas.{AreKept-same, words_in-same, table_len}
use Rattle.xw_words.proofs.loader.Loader.expect.Goals as goal

pub expect-requires : goal.expect-requires
expect-requires c =
    omega (arith, c.requires.low, table_len c.self.inside.tables.items c.args.len c.index_mut-table.result.now c.index_mut-table.result.now c.index_mut-table.ensures.value c.self.invariant c.requires.high)

pub invariant_of-self : goal.invariant_of-self
invariant_of-self c =
    AreKept-same c.self.inside.tables.items c.args.len c.index_mut-table.result.now c.expect.new.self c.index_mut-table.ensures.value c.self.invariant c.requires.low c.requires.high c.expect.ensures.word_len c.expect.ensures.entries

pub returns : goal.returns
returns c =
    rw (← c.self.view_is) (words_in-same c.self.inside.tables.items c.args.len c.index_mut-table.result.now c.expect.new.self c.index_mut-table.ensures.value c.expect.ensures.entries)
