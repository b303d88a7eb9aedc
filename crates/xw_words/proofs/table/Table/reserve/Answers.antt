use Rattle.std.proofs.Common.{◌≡◌, ℕ, List, ◌*◌, ◌%◌, ◌<◌, ◌≤◌, false, length, get_or, refl, sym, ap, ◌∙◌, subst, arith, vec_capacity}
use Rattle.xw_words.specs.Row.{entries_of}
use Rattle.xw_words.specs.Table.{Table, IsKeptTable}
use Rattle.xw_words.specs.Index.{Index, word_in, IsIndex}
use Rattle.xw_words.specs.declared.table.Table.TheInside.{Inside}
use Rattle.xw_words.proofs.RowLemmas.{length-entries_of, entries_of-longer}
use Rattle.xw_words.proofs.table.Table.reserve.Goals as goal

-- a table with the same words, and room for as many as are reserved
module _ (r s : Inside) (kept : IsKeptTable r) (len : s.word_len ≡ r.word_len) (letters : s.letters.items ≡ r.letters.items) (bits : s.active.bits ≡ r.active.bits) (whole : length s.regraded.bits % 64 ≡ 0) (regraded : (i : ℕ) → get_or s.regraded.bits i false ≡ get_or r.regraded.bits i false) (marks : s.marks.items ≡ r.marks.items) (index : IsIndex (word_in r.word_len r.letters.items) (length r.active.bits) s.index) where
  same_index : IsIndex (word_in s.word_len s.letters.items) (length s.active.bits) s.index
  same_index =
      subst (λ n. IsIndex (word_in n s.letters.items) (length s.active.bits) s.index) (sym len)
      (subst (λ ls. IsIndex (word_in r.word_len ls) (length s.active.bits) s.index) (sym letters)
      (subst (λ fs. IsIndex (word_in r.word_len r.letters.items) (length fs) s.index) (sym bits) index))

  still_kept : (0 < s.reserved → 2 ≤ r.word_len) → length r.active.bits ≤ s.reserved → s.reserved ≤ 1048576
      → s.reserved * r.word_len ≤ vec_capacity s.letters → s.reserved ≤ s.marks.room → s.reserved ≤ s.active.room → s.reserved ≤ length s.regraded.bits → (0 < s.reserved → 0 < length s.index.heads) → s.reserved ≤ s.index.room → IsKeptTable s
  still_kept long within reserved_few letters_room marks_room active_room regraded_long index_heads index_room = record {
    short = omega (arith, kept.short, len);
    letters = ap length letters ∙ kept.letters ∙ ap (λ n. length r.active.bits * n) (sym len) ∙ ap (λ fs. length fs * s.word_len) (sym bits);
    marks = ap length marks ∙ kept.marks ∙ sym (ap length bits);
    regraded = regraded_long;
    regraded_whole = whole;
    regraded_past = λ i le. regraded i ∙ kept.regraded_past i (omega (arith, le, ap length bits));
    few = omega (arith, kept.few, ap length bits);
    within = omega (arith, within, ap length bits);
    reserved_few = reserved_few;
    long = λ some. let e = long some in omega (arith, e, len);
    index = same_index;
    index_heads = index_heads;
    index_room = index_room;
    letters_room = omega (arith, letters_room, ap (λ n. s.reserved * n) len);
    marks_room = marks_room;
    active_room = active_room;
  }

reserved_index : (r : Inside) (letters : List ℕ) (index : Index) → IsKeptTable r → letters ≡ r.letters.items → IsIndex (word_in r.word_len letters) (length r.index.earlier) index → IsIndex (word_in r.word_len r.letters.items) (length r.active.bits) index
reserved_index r letters index kept same is =
    subst (λ n. IsIndex (word_in r.word_len r.letters.items) n index) kept.index.long (subst (λ ls. IsIndex (word_in r.word_len ls) (length r.index.earlier) index) same is)

pub invariant_of-self-in_err-reserve_words : goal.invariant_of-self-in_err-reserve_words
invariant_of-self-in_err-reserve_words c =
    let r = c.self.inside in
    let kept = c.self.invariant in
    still_kept r _ kept refl c.reserve_words.ensures.items c.reserve_words.ensures.bits c.reserve_words.ensures.regraded_whole c.reserve_words.ensures.regraded_bits c.reserve_words.ensures.marks_stay (reserved_index r c.deref.result.now c.reserve.new.self kept c.deref.ensures.value c.reserve.ensures.index)
    kept.long kept.within kept.reserved_few (omega (arith, kept.letters_room, c.reserve_words.ensures.capacity)) (omega (arith, kept.marks_room, c.reserve_words.ensures.marks_room_stays)) (omega (arith, kept.active_room, c.reserve_words.ensures.room_stays)) (omega (arith, kept.regraded, ap length c.in_err-reserve_words.ensures.regraded_stays))
    (λ some. omega (arith, kept.index_heads some, c.reserve.ensures.heads_stay)) (omega (arith, kept.index_room, c.reserve.ensures.room_stays))

pub invariant_of-self-2 : goal.invariant_of-self-2
invariant_of-self-2 c =
    let r = c.self.inside in
    let kept = c.self.invariant in
    let known = length-entries_of r.word_len r.letters.items r.active.bits r.regraded.bits r.marks.items in
    still_kept r _ kept refl c.reserve_words.ensures.items c.reserve_words.ensures.bits c.reserve_words.ensures.regraded_whole c.reserve_words.ensures.regraded_bits c.reserve_words.ensures.marks_stay (reserved_index r c.deref.result.now c.reserve.new.self kept c.deref.ensures.value c.reserve.ensures.index)
    (λ _. omega (arith, c.requires.long, ap (λ (table : Table). table.word_len) c.self.view_is)) (omega (arith, c.requires.more, known, ap (λ (table : Table). length table.entries) c.self.view_is)) c.requires.few
    c.in_ok-reserve_words.ensures.letters_room c.in_ok-reserve_words.ensures.marks_room c.in_ok-reserve_words.ensures.room c.in_ok-reserve_words.ensures.regraded_long
    (λ _. c.in_ok-reserve.ensures.heads) c.in_ok-reserve.ensures.room

pub returns-clause-entries : goal.returns-clause-entries
returns-clause-entries c =
    let r = c.self.inside in
    let len = r.word_len in
    let flags = c.reserve_words.new.active.bits in
    let marks = c.reserve_words.new.marks.items in
    entries_of-longer len c.reserve_words.new.letters.items flags r.regraded.bits c.reserve_words.new.regraded.bits marks c.reserve_words.ensures.regraded_bits
    ∙ ap (λ ls. entries_of len ls flags r.regraded.bits marks) c.reserve_words.ensures.items
    ∙ ap (λ fs. entries_of len r.letters.items fs r.regraded.bits marks) c.reserve_words.ensures.bits
    ∙ ap (entries_of len r.letters.items r.active.bits r.regraded.bits) c.reserve_words.ensures.marks_stay
    ∙ ap (λ (table : Table). table.entries) c.self.view_is
