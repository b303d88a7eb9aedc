use Rattle.std.proofs.Common.{◌≡◌, ◌+◌, ◌/◌, Bool, List, count_by, sym, ap, subst, ◌∙◌, arith}
use Rattle.std.specs.Prelude.{IfSome}
use Rattle.std.proofs.lemmas.List.{with_items_is}
use Rattle.xw_bits.specs.Bits.{bits_of, words_have}
use Rattle.xw_bits.specs.Summary.{IsSummary}
use Rattle.xw_bits.proofs.Summaries.{written}
use Rattle.xw_bits.proofs.BitRowLemmas.{same_len, same_words, view_bits}
use Rattle.xw_bits.proofs.bit_row.BitRow.copy_from.Goals as goal

pub copy_marked-requires-clause-same : goal.copy_marked-requires-clause-same
copy_marked-requires-clause-same c =
    let same = same_len c.self.inside c.other.inside c.self.view_is c.other.view_is c.requires in
    omega (arith, c.deref_mut.ensures.len, c.deref.ensures.len, same_words c.self.inside c.other.inside c.self.invariant c.other.invariant same)

pub copy_marked-requires-clause-same_summary : goal.copy_marked-requires-clause-same_summary
copy_marked-requires-clause-same_summary c =
    let same = same_len c.self.inside c.other.inside c.self.view_is c.other.view_is c.requires in
    omega (arith, c.deref_mut-2.ensures.len, c.deref-2.ensures.len, c.self.invariant.summary_len, c.other.invariant.summary_len, ap (λ n. (n + 4095) / 4096) same)

pub copy_marked-requires-clause-summary : goal.copy_marked-requires-clause-summary
copy_marked-requires-clause-summary c =
    subst (λ ws. IsSummary ws c.deref_mut-2.result.now) (sym c.deref_mut.ensures.value) (subst (λ ss. IsSummary c.self.inside.words.items ss) (sym c.deref_mut-2.ensures.value) c.self.invariant.summary)

pub copy_marked-requires-clause-other : goal.copy_marked-requires-clause-other
copy_marked-requires-clause-other c =
    subst (λ ws. IsSummary ws c.deref-2.result.now) (sym c.deref.ensures.value) (subst (λ ss. IsSummary c.other.inside.words.items ss) (sym c.deref-2.ensures.value) c.other.invariant.summary)

pub copy_marked-requires-clause-small : goal.copy_marked-requires-clause-small
copy_marked-requires-clause-small c = omega (arith, c.deref_mut.ensures.len, c.self.invariant.words_len, c.self.invariant.small)

pub copy_marked-requires-clause-few : goal.copy_marked-requires-clause-few
copy_marked-requires-clause-few c = omega (arith, c.deref_mut-2.ensures.len, c.self.invariant.summary_len, c.self.invariant.small)

pub invariant_of-self : goal.invariant_of-self
invariant_of-self c =
    let r = c.self.inside in
    let same = same_len c.self.inside c.other.inside c.self.view_is c.other.view_is c.requires in
    let are = with_items_is r.words c.copy_marked.new.words (omega (arith, c.copy_marked.auto.words, c.deref_mut.ensures.len)) ∙ c.copy_marked.ensures.words ∙ c.deref.ensures.value in
    record {
      small = c.self.invariant.small;
      words_len = c.self.invariant.words_len;
      nothing_past = λ i le. ap (λ ws. words_have ws i) are ∙ c.other.invariant.nothing_past i (omega (arith, le, same));
      summary_len = c.self.invariant.summary_len;
      summary = written r.words r.summary c.copy_marked.new.words c.copy_marked.new.summary (omega (arith, c.copy_marked.auto.words, c.deref_mut.ensures.len)) (omega (arith, c.copy_marked.auto.summary, c.deref_mut-2.ensures.len))
          (subst (λ ws. IsSummary ws c.copy_marked.new.summary) (sym (c.copy_marked.ensures.words ∙ c.deref.ensures.value))
          (subst (λ ss. IsSummary c.other.inside.words.items ss) (sym (c.copy_marked.ensures.summary ∙ c.deref-2.ensures.value)) c.other.invariant.summary));
      within = c.self.invariant.within;
      words_room = c.self.invariant.words_room;
      summary_room = c.self.invariant.summary_room;
      counted = subst (λ (bits : List Bool). IfSome c.other.inside.counted (λ count. count ≡ count_by (λ bit. bit) bits))
          (sym (ap (λ ws. bits_of ws c.self.inside.len) are ∙ ap (bits_of c.other.inside.words.items) same)) c.other.invariant.counted;
    }

pub returns-clause-bits : goal.returns-clause-bits
returns-clause-bits c =
    let r = c.self.inside in
    let same = same_len c.self.inside c.other.inside c.self.view_is c.other.view_is c.requires in
    ap (λ ws. bits_of ws r.len) (with_items_is r.words c.copy_marked.new.words (omega (arith, c.copy_marked.auto.words, c.deref_mut.ensures.len)) ∙ c.copy_marked.ensures.words ∙ c.deref.ensures.value)
    ∙ ap (bits_of c.other.inside.words.items) same
    ∙ view_bits c.other.inside c.other.view_is
