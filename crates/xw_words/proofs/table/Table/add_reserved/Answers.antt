use Rattle.std.proofs.Common.{◌≡◌, ℕ, ◌+◌, ◌*◌, ◌<◌, true, false, List, [], ◌∷◌, ◌++◌, length, sym, ap, ◌∙◌, subst, arith, length-append, length-set}
use Rattle.std.specs.Prelude.{None}
use Rattle.std.proofs.lemmas.List.{length_push}
use Rattle.xw_words.specs.Row.{entry_of, entries_of}
use Rattle.xw_words.specs.Table.{Table}
use Rattle.xw_words.specs.Dictionary.{Entry, index_in, new_entry}
use Rattle.xw_words.specs.Index.{Index, bucket_of, word_in, IsIndex}
use Rattle.xw_words.proofs.RowLemmas.{length-entries_of, entries_of-push}
use Rattle.xw_words.proofs.TableLemmas.{index_pushed}
use Rattle.xw_words.proofs.table.Table.add_reserved.Goals as goal

pub invariant_of-self : goal.invariant_of-self
invariant_of-self c =
    let r = c.self.inside in
    let kept = c.self.invariant in
    let word = c.args.word.now in
    let flags = r.active.bits in
    let some : length flags < r.reserved = omega (arith, c.requires.room, length-entries_of r.word_len r.letters.items r.active.bits r.regraded.bits r.marks.items, ap (λ (table : Table). length table.entries) c.self.view_is, ap (λ (table : Table). table.reserved) c.self.view_is) in
    let fits : length word ≡ r.word_len = c.requires.length ∙ sym (ap (λ (table : Table). table.word_len) c.self.view_is) in
    let unknown : index_in (entries_of r.word_len r.letters.items flags r.regraded.bits r.marks.items) word ≡ None = ap (λ (table : Table). index_in table.entries word) c.self.view_is ∙ c.requires.unknown in
    let longer : length c.push.new.self.bits ≡ length flags + 1 = ap length c.push.ensures.bits ∙ length_push flags true in
    let indexed = index_pushed r.word_len r.letters.items word flags r.regraded.bits r.marks.items r.index c.insert.new.self kept.index c.insert.ensures.linked kept.letters fits unknown in
    let heads : length c.insert.new.self.heads ≡ length r.index.heads = ap length c.insert.ensures.linked.heads ∙ length-set r.index.heads (bucket_of (length r.index.heads) word) (length r.index.earlier + 1) in
    let I : List ℕ → ℕ → Index → Type 0 = λ letters n index. IsIndex (word_in r.word_len letters) n index in
    record {
      short = kept.short;
      long = kept.long;
      letters = ap length c.append.ensures.items ∙ length-append r.letters.items word ∙ (let e : length r.letters.items + length word ≡ (length flags + 1) * r.word_len = omega (arith, kept.letters, fits) in e) ∙ ap (λ n. n * r.word_len) (sym longer);
      marks = ap length c.push-2.ensures.items ∙ length_push r.marks.items c.new.result ∙ ap (λ n. n + 1) kept.marks ∙ sym longer;
      regraded = kept.regraded;
      regraded_whole = kept.regraded_whole;
      regraded_past = λ i le. kept.regraded_past i (omega (arith, le, longer));
      few = omega (arith, longer, some, kept.reserved_few);
      within = omega (arith, longer, some);
      reserved_few = kept.reserved_few;
      index = subst (λ letters. I letters (length c.push.new.self.bits) c.insert.new.self) (sym c.append.ensures.items) (subst (λ n. I (r.letters.items ++ word) n c.insert.new.self) (sym longer) indexed);
      index_heads = λ some. omega (arith, kept.index_heads some, heads);
      index_room = omega (arith, kept.index_room, c.insert.ensures.room);
      letters_room = omega (arith, kept.letters_room, c.append.ensures.capacity);
      marks_room = omega (arith, kept.marks_room, c.push-2.ensures.room);
      active_room = omega (arith, kept.active_room, c.push.ensures.room);
    }

pub returns-clause-entries : goal.returns-clause-entries
returns-clause-entries c =
    let r = c.self.inside in
    let kept = c.self.invariant in
    let len = r.word_len in
    let word = c.args.word.now in
    let new = c.new.result in
    let letters = c.append.new.letters.items in
    let flags = c.push.new.self.bits in
    let marks = c.push-2.new.self.items in
    let fits : length word ≡ len = c.requires.length ∙ sym (ap (λ (table : Table). table.word_len) c.self.view_is) in
    let known : List Entry = entries_of len r.letters.items r.active.bits r.regraded.bits r.marks.items in
    let alive : entry_of word true false new ≡ entry_of word true false (record { grade = new.grade; struck = false }) =
    ap (λ struck. entry_of word true false (record { grade = new.grade; struck = struck })) c.new.ensures.struck in
    let graded : entry_of word true false (record { grade = new.grade; struck = false }) ≡ new_entry c.args.least word c.args.grade =
    ap (λ grade. entry_of word true false (record { grade = grade; struck = false })) (c.new.ensures.grade ∙ c.grade_or-grade.ensures.grade) in
    ap (λ ls. entries_of len ls flags r.regraded.bits marks) c.append.ensures.items
    ∙ ap (λ fs. entries_of len (r.letters.items ++ word) fs r.regraded.bits marks) c.push.ensures.bits
    ∙ ap (entries_of len (r.letters.items ++ word) (r.active.bits ++ true ∷ []) r.regraded.bits) c.push-2.ensures.items
    ∙ entries_of-push len r.letters.items word r.active.bits r.regraded.bits r.marks.items true new kept.letters kept.marks fits kept.regraded_past
    ∙ ap (λ entry. known ++ entry ∷ []) (alive ∙ graded)
    ∙ ap (λ (table : Table). table.entries ++ new_entry c.args.least word c.args.grade ∷ []) c.self.view_is

pub returns-clause-few : goal.returns-clause-few
returns-clause-few c =
    let r = c.self.inside in
    omega (arith, c.requires.room, c.self.invariant.reserved_few, ap (λ (table : Table). table.reserved) c.self.view_is)

pub returns-clause-long : goal.returns-clause-long
returns-clause-long c =
    let r = c.self.inside in
    let some : length r.active.bits < r.reserved = omega (arith, c.requires.room, length-entries_of r.word_len r.letters.items r.active.bits r.regraded.bits r.marks.items, ap (λ (table : Table). length table.entries) c.self.view_is, ap (λ (table : Table). table.reserved) c.self.view_is) in
    omega (arith, c.self.invariant.long (omega (arith, some)), c.requires.length, ap (λ (table : Table). table.word_len) c.self.view_is)
