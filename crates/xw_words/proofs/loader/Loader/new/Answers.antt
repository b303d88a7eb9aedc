use Rattle.std.proofs.Common.{◌≡◌, length, vec_len, arith}
use Rattle.xw_words.proofs.LoaderLemmas.{AreKept-none, words_in-none}
use Rattle.xw_words.proofs.loader.Loader.new.Goals as goal

pub invariant_of-result : goal.invariant_of-result
invariant_of-result c =
    let tables = c.make_tables.new.tables in
    let long : length tables.items ≡ vec_len tables = omega arith in
    AreKept-none tables.items (omega (arith, long, c.in_ok-make_tables.ensures.many)) c.in_ok-make_tables.ensures.empty c.in_ok-make_tables.ensures.lens

pub returns : goal.returns
returns c = words_in-none c.make_tables.new.tables.items c.in_ok-make_tables.ensures.empty
