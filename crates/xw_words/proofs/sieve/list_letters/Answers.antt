use Rattle.std.proofs.Common.{◌<◌, length, get_or, set, ap, ◌∙◌, inl, inr, arith}
use Rattle.std.proofs.lemmas.Bool.{cases_eq}
use Rattle.std.proofs.lemmas.List.{get_or-set_same, get_or-set_other}
use Rattle.xw_words.proofs.Sieving.{listed_next, among_all}
use Rattle.xw_words.proofs.sieve.list_letters.Goals as goal

pub loop-index-preserved : goal.loop-index-preserved
loop-index-preserved c =
    let inv = c.loop-index.invariant in
    let found = c.in-Some.ensures.set in
    let index = c.in-Some.index in
    let list = c.loop-index.list in
    let count = c.loop-index.count in
    let room : c.loop-index.count < length c.loop-index.list = omega (arith, found.0, found.1) in
    record {
      within = omega (arith, found.1);
      few = omega (arith, found.0);
      places = λ k lt. elim (cases_eq k c.loop-index.count) [
        | inl last ↦ omega (arith, found.1, ap (λ n. get_or (set list count index) n 0) last, get_or-set_same list count index 0 room)
        | inr before ↦ omega (arith, get_or-set_other list count k index 0 before, inv.places k (omega (arith, lt, before)))
      ];
      lists = λ letter. listed_next list count c.args.letters c.loop-index.next index letter room found.0 found.2 c.in-Some.ensures.first (inv.lists letter);
    }

pub returns-clause-lists : goal.returns-clause-lists
returns-clause-lists c letter = c.loop-index.invariant.lists letter ∙ among_all c.args.letters c.loop-index.next c.in_default.ensures.none letter
