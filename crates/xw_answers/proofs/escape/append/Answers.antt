use Rattle.std.proofs.Common.{◌≡◌, ◌+◌, ◌<◌, ◌++◌, [], ◌∷◌, Some, length, is_ok, drop, get_or, ap, sym, ◌∙◌, append-nil, add-one, drop-cons, arith}
use Rattle.std.proofs.lemmas.Bool.{cond-true}
use Rattle.xw_answers.proofs.Escapes.{grown}
use Rattle.xw_answers.proofs.escape.append.Goals as goal
use Rattle.xw_answers.proofs.escape.append.Goals.{in-Some, in_default}

pub loop-byte-preserved : goal.loop-byte-preserved
loop-byte-preserved c = record {
  room = elim c.match-added.branch [
    | in-Some w ↦ rw w.text-is (omega (arith, c.loop-byte.invariant.room, w.push.ensures.upper_bound, w.push.ensures.capacity))
    | in_default w ↦ rw w.text-is (omega (arith, c.loop-byte.invariant.room))
  ];
  text = λ piece e.
      let spelling = c.args.spelling.now in
      let i = c.loop-byte.byte-index in
      let kept = c.loop-byte.invariant.text piece e in
      let inside : i < length spelling = omega arith in
      let next : drop i spelling ≡ get_or spelling i 0 ∷ drop (i + 1) spelling = rw add-one (drop-cons spelling i 0 inside) in
      let items = c.loop-byte.text.items in
      let more = grown c.loop-byte.is_within (get_or spelling i 0) (drop i spelling) (drop (i + 1) spelling) kept.0 items c.args.text.now.items piece in
      rw c.begins_escape-is_within.ensures (elim c.match-added.branch [
        | in-Some w ↦
            let found = more (w.in-Some.byte ∷ []) next kept.1 kept.2 (λ a is. let same : Some (w.in-Some.byte ∷ []) ≡ Some a = sym w.in-Some.ensures ∙ is in cc) in
            let grew : c.match-added.text.items ≡ items ++ w.in-Some.byte ∷ [] =
            ap (λ (t : _). t.items) w.text-is ∙ w.push.ensures.items
            ∙ cond-true (is_ok w.push.result) (items ++ w.in-Some.byte ∷ []) items (w.push.ensures.succeeds (omega (arith, c.loop-byte.invariant.room))) in
            (found.0, found.1, found.2 ∙ ap (λ xs. xs ++ found.0) (sym grew))
        | in_default w ↦
            let found = more [] next kept.1 kept.2 w.in_default.ensures in
            let same : c.match-added.text.items ≡ items ++ [] = ap (λ (t : _). t.items) w.text-is ∙ sym (append-nil items) in
            (found.0, found.1, found.2 ∙ ap (λ xs. xs ++ found.0) (sym same))
      ]);
}
