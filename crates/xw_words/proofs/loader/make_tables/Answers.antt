use Rattle.std.proofs.Common.{◌≡◌, ℕ, List, [], ◌∷◌, ◌++◌, length, map, replicate, get_or, ap, ◌∙◌, inl, inr, arith}
use Rattle.std.proofs.lemmas.Bool.{cases_lt}
use Rattle.std.proofs.lemmas.List.{map-append, replicate-append-replicate, get_or_append_left}
use Rattle.std.proofs.Math.Seq.{get_or-append_seam}
use Rattle.xw_words.specs.Dictionary.{Entry}
use Rattle.xw_words.specs.Table.{Table}
use Rattle.xw_words.specs.Loader.{no_table}
use Rattle.xw_words.proofs.loader.make_tables.Goals as goal

pub loop-len-preserved : goal.loop-len-preserved
loop-len-preserved c =
    let table = c.new.result in
    let tables = c.loop-len.tables.items in
    let len = c.loop-len.len in
    let entries : Table → List Entry = λ t. t.entries in
    let word_len : Table → ℕ = λ t. t.word_len in
    let many : length tables ≡ len = omega (arith, c.loop-len.invariant.made) in
    record {
      made = omega (arith, c.in_ok-push.ensures.len, c.loop-len.invariant.made);
      empty =
          ap (map entries) c.in_ok-push.ensures.items ∙ map-append entries tables (table ∷ []) ∙ ap (λ rows. rows ++ table.entries ∷ []) c.loop-len.invariant.empty
          ∙ ap (λ row. replicate len [] ++ row ∷ []) c.new.ensures.entries ∙ replicate-append-replicate len 1 [];
      word_lens = λ k lt. ap (λ ts. word_len (get_or ts k no_table)) c.in_ok-push.ensures.items ∙ elim (cases_lt k len) [
        | inl before ↦ ap word_len (get_or_append_left tables (table ∷ []) no_table k (omega (arith, before, many))) ∙ c.loop-len.invariant.word_lens k before
        | inr past ↦
            let last : k ≡ length tables = omega (arith, lt, past, many) in
            let same : len ≡ k = omega (arith, lt, past) in
            ap (λ n. word_len (get_or (tables ++ table ∷ []) n no_table)) last ∙ ap word_len (get_or-append_seam tables table [] no_table) ∙ c.new.ensures.word_len ∙ same
      ];
    }
