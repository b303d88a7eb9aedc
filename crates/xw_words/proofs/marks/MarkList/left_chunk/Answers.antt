use Rattle.std.proofs.Common.{◌≡◌, ◌+◌, ◌*◌, ◌-◌, ◌<◌, get_or, length, take, drop, sym, ap, ◌∙◌, arith}
use Rattle.std.proofs.Math.ListN.{get_or-map}
use Rattle.std.proofs.lemmas.List.{length-map, get_or-take, get_or-drop}
use lib.Lanes.{chunk}
use Rattle.std.proofs.lemmas.Simd.{get_or-chunk}
use Rattle.xw_words.specs.Marks.{MarkList, no_marks, marks_in, are_left}
use Rattle.xw_words.proofs.marks.MarkList.left_chunk.Goals as goal

pub overflow_mul-first : goal.overflow_mul-first
overflow_mul-first c =
    let known : length c.args.self.now.items ≡ length c.self.inside.bytes.items = sym (ap (λ (list : MarkList). length list.items) c.self.view_is) ∙ length-map c.self.inside.bytes.items marks_in in
    omega (arith, c.requires, known, c.len-known.ensures, c.len-known.type_inv)

pub returns-then-known-first-ge64 : goal.returns-then-known-first-ge64
returns-then-known-first-ge64 c k lt within =
    let first = 64 * c.args.chunk in
    let least = c.args.least in
    let bytes = c.deref.result.now in
    let rest = length bytes - first in
    let here : k < rest = omega (arith, lt, c.if-known-first-ge64.true, c.len-known.ensures, c.deref.ensures.len) in
    let read : get_or (chunk 0 64 (take rest (drop first bytes))) k 0 ≡ get_or bytes (first + k) 0 =
    get_or-chunk 0 64 (take rest (drop first bytes)) k 0 lt ∙ ap (λ i. get_or (take rest (drop first bytes)) i 0) (let e : 0 + k ≡ k = omega arith in e) ∙ get_or-take rest (drop first bytes) k 0 here ∙ get_or-drop first bytes k 0 in
    c.left_bits.ensures k lt
    ∙ ap (λ byte. are_left least (marks_in byte)) (read ∙ ap (λ bytes. get_or bytes (first + k) 0) c.deref.ensures.value)
    ∙ ap (are_left least) (sym (get_or-map marks_in c.self.inside.bytes.items (first + k) 0))
    ∙ ap (λ (list : MarkList). are_left least (get_or list.items (first + k) no_marks)) c.self.view_is
