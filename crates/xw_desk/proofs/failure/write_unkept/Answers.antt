use Rattle.std.proofs.Common.{◌≡◌, ◌∙◌, ◌++◌, ap, sym, subst, codes, ℕ, Bool, List, append_assoc}
use Rattle.std.proofs.lemmas.Bool.{ne_eqb}
use Rattle.std.specs.Fmt.{WritesOnOk}
use Rattle.std.specs.Prelude.{if◌then◌else◌, decimal}
use Rattle.xw_disk.specs.Kept.{kept_name}
use Rattle.xw_desk.proofs.failure.write_unkept.Goals as goal

pub returns-then-number-eq1 : goal.returns-then-number-eq1
returns-then-number-eq1 g c =
    let named : c.args.file.now ++ codes "~" ≡ kept_name c.args.file.now c.args.number = sym (ap (kept_name c.args.file.now) c.if-number-eq1.true) in
    let flat : codes "xw: " ++ c.args.file.now ++ codes "~: cannot write" ≡ codes "xw: " ++ (c.args.file.now ++ codes "~") ++ codes ": cannot write" = simp append_assoc in
    subst (λ (text : List ℕ). WritesOnOk g.W.Write.write_str_gives c.args.f.now c.write.result text c.write.new.self)
    (flat ∙ ap (λ (name : List ℕ). codes "xw: " ++ name ++ codes ": cannot write") named) c.write.ensures.writes

pub returns : goal.returns
returns g c =
    let named : c.args.file.now ++ codes "~" ++ decimal c.args.number ≡ kept_name c.args.file.now c.args.number =
    sym (ap (λ (b : Bool). if b then c.args.file.now ++ codes "~" else c.args.file.now ++ codes "~" ++ decimal c.args.number) (ne_eqb c.args.number 1 c.if-number-eq1.false)) in
    let flat : codes "xw: " ++ (c.args.file.now ++ (codes "~" ++ (decimal c.args.number ++ codes ": cannot write"))) ≡ codes "xw: " ++ (c.args.file.now ++ codes "~" ++ decimal c.args.number) ++ codes ": cannot write" = simp append_assoc in
    subst (λ (text : List ℕ). WritesOnOk g.W.Write.write_str_gives c.args.f.now c.write-2.result text c.write-2.new.self)
    (flat ∙ ap (λ (name : List ℕ). codes "xw: " ++ name ++ codes ": cannot write") named) c.write-2.ensures.writes
