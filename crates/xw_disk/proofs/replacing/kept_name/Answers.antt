use Rattle.std.proofs.Common.{◌≡◌, ◌∙◌, ◌++◌, ap, sym, Bool, append_assoc}
use Rattle.std.proofs.lemmas.Bool.{ne_eqb}
use Rattle.std.specs.Prelude.{if◌then◌else◌, codes, decimal}
use Rattle.xw_disk.proofs.replacing.kept_name.Goals as goal

pub returns : goal.returns
returns c =
    let flat : c.in_ok-name.name.bytes.items ≡ c.args.file.now ++ codes "~" ++ decimal c.args.number = c.in_ok-name.ensures.ok ∙ simp append_assoc in
    flat ∙ sym (ap (λ (b : Bool). if b then c.args.file.now ++ codes "~" else c.args.file.now ++ codes "~" ++ decimal c.args.number) (ne_eqb c.args.number 1 c.if-number-eq1.false))
