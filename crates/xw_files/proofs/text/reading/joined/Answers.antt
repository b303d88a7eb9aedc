use Rattle.std.proofs.Common.{◌++◌, ◌∷◌, List, ℕ, sym, ap, ◌∙◌}
use Rattle.std.specs.List.{flat_map, join_with_byte}
use Rattle.xw_files.proofs.TextLemmas.Lines.{joined_is}
use Rattle.xw_files.proofs.text.reading.joined.Goals as goal

pub loop-line-init : goal.loop-line-init
loop-line-init c =
    ap (λ (text : List ℕ). text ++ flat_map (λ line. 10 ∷ line) c.next.new.self) (c.in_ok-extend_from_slice.ensures.items ∙ ap (λ (text : List ℕ). text ++ c.in-Some.first.now) c.new-text.ensures.items)
    ∙ joined_is c.in-Some.first.now c.next.new.self ∙ ap (join_with_byte 10) (sym c.in-Some.ensures)
