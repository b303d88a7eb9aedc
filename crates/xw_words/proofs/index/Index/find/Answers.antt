use Rattle.std.proofs.Common.{◌-◌, ◌<◌, length, get_or, sym, ap, ◌∙◌, subst, arith}
use Rattle.std.specs.Str.{bytes_eq}
use Rattle.std.proofs.lemmas.List.{get_or_read}
use Rattle.std.proofs.lemmas.Bool.{both_ways}
use Rattle.std.proofs.lemmas.Slice.Eq.{bytes_eq-Decides}
use Rattle.xw_words.specs.Index.{Index, word_in}
use Rattle.xw_words.proofs.IndexLemmas.{IsReached, reached_next, found}
use Rattle.xw_words.proofs.index.Index.find.Goals as goal

pub returns-then-eq : goal.returns-then-eq
returns-then-eq c =
    let words = word_in (length c.args.word.now) c.args.letters.now in
    let link = c.loop-link.link in
    found words (length c.args.self.now.earlier) c.args.self.now c.args.word.now c.requires.index link c.loop-link.invariant (omega arith)
    (ap (λ w. bytes_eq w c.args.word.now) (sym c.word_at.ensures) ∙ sym c.eq.ensures ∙ c.if-eq.true)

pub loop-link-preserved : goal.loop-link-preserved
loop-link-preserved c =
    let words = word_in (length c.args.word.now) c.args.letters.now in
    let link = c.loop-link.link in
    let n = length c.args.self.now.earlier in
    let next = reached_next words n c.args.self.now c.args.word.now c.requires.index link c.loop-link.invariant (omega arith)
    (λ same. both_ways c.eq.result c.if-eq.false (c.eq.ensures ∙ ap (λ w. bytes_eq w c.args.word.now) c.word_at.ensures ∙ (bytes_eq-Decides (words (link - 1)) c.args.word.now).1 same)) in
    let viewed = ap (λ (index : Index). index.earlier) c.self.view_is in
    let within : link - 1 < length c.self.inside.earlier.items = omega (arith, c.loop-link.invariant.within, ap length viewed) in
    let read = get_or_read c.self.inside.earlier.items (link - 1) c.index-in-loop-link.result.now within c.index-in-loop-link.ensures 0 in
    subst (IsReached words (length c.args.self.now.heads) n c.args.word.now) (sym (read ∙ ap (λ l. get_or l (link - 1) 0) viewed)) next
