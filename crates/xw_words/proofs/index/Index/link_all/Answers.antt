use Rattle.std.proofs.Common.{◌+◌, length, refl, ap, ◌∙◌, subst, arith, length-set}
use Rattle.xw_words.specs.Index.{word_in, bucket_of, IsLinked}
use Rattle.xw_words.proofs.IndexLemmas.{linked}
use Rattle.xw_words.proofs.index.Index.link_all.Goals as goal

pub loop-word_index-preserved : goal.loop-word_index-preserved
loop-word_index-preserved c =
    let words = word_in c.args.len c.args.letters.now in
    let old = c.loop-word_index.self in
    let n = c.loop-word_index.word_index in
    let put : IsLinked old (words n) c.insert.new.self = subst (λ w. IsLinked old w c.insert.new.self) c.word_at.ensures c.insert.ensures.linked in
    record {
      index = linked words words n old c.insert.new.self (words n) c.loop-word_index.invariant.index put (λ k lt. refl) refl (λ k lt. c.requires.distinct k n lt (omega arith));
      room = omega (arith, c.loop-word_index.invariant.room, c.insert.ensures.room);
      heads = ap length put.heads ∙ length-set old.heads (bucket_of (length old.heads) (words n)) (length old.earlier + 1) ∙ c.loop-word_index.invariant.heads;
    }
