use Rattle.std.proofs.Common.{length, sym, subst, List, ℕ}
use Rattle.xw_words.specs.Index.{word_in, IsFirstIndex}
use Rattle.xw_words.proofs.TableLemmas.{first_index, other_length}
use Rattle.xw_words.proofs.table.Table.find.Goals as goal

pub returns-then-word-self : goal.returns-then-word-self
returns-then-word-self c =
    let r = c.self.inside in
    rw (← c.self.view_is) (sym (other_length r.word_len r.letters.items r.active.bits r.regraded.bits r.marks.items c.args.word.now c.self.invariant.letters c.if-word-self.true))

pub returns : goal.returns
returns c =
    let r = c.self.inside in
    let P : ℕ → List ℕ → Type 0 = λ len letters. IsFirstIndex (word_in len letters) (length r.index.earlier) c.args.word.now c.find.result in
    let counted : P r.word_len c.deref.result.now = subst (λ n. P n c.deref.result.now) c.if-word-self.false c.find.ensures in
    let is : P r.word_len r.letters.items = subst (P r.word_len) c.deref.ensures.value counted in
    rw (← c.self.view_is) (first_index r.word_len r.letters.items r.active.bits r.regraded.bits r.marks.items (length r.index.earlier) c.args.word.now c.find.result c.self.invariant.index.long is)
