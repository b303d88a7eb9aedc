use Rattle.std.proofs.Common.{◌≡◌, ◌∙◌, ◌++◌, Bool, true, List, ℕ, codes, sym, ap, append_assoc, if◌then◌else◌}
use Rattle.std.specs.Prelude.{Result, Ok, Err, IfOk}
use Rattle.std.specs.Str.{bytes_eq}
use Rattle.xw_desk.specs.Locations.{location_text}
use Rattle.xw_desk.specs.Sentences.{line_of, located_line, said_at, unfilled_line}
use Rattle.xw_desk.specs.declared.location.Location.{Location}
use Rattle.xw_desk.proofs.sentences.located_line.Goals as goal

-- the line for an empty cell
unfilled : {T E : Type 0} (bytes : T → List ℕ) (result : Result T E) (name : List ℕ) (location : Location) (text flat : List ℕ) → bytes_eq name (codes "NotFilled") ≡ true → text ≡ flat → flat ≡ unfilled_line location
    → IfOk result (λ line. bytes line ≡ text) → IfOk result (λ line. bytes line ≡ located_line name location)
unfilled bytes (Ok line) name location text flat is made told same = same ∙ made ∙ told ∙ sym (ap (λ (b : Bool). if b then unfilled_line location else line_of (said_at location name)) is)
unfilled bytes (Err fault) name location text flat is made told same = tt

pub returns-then-eq : goal.returns-then-eq
returns-then-eq c =
    let flat : List ℕ = codes "xw: the grid has empty cells, the first at " ++ location_text c.args.location ++ codes "; nothing was written\n" ++ c.unkept_line-unkept.result.now in
    let told : flat ≡ unfilled_line c.args.location =
    ap (λ (more : List ℕ). codes "xw: the grid has empty cells, the first at " ++ location_text c.args.location ++ codes "; nothing was written\n" ++ more) c.unkept_line-unkept.ensures in
    unfilled (λ line. line.bytes.items) c.format.result c.args.name.now c.args.location _ flat (sym c.eq.ensures ∙ c.if-eq.true) (simp append_assoc) told c.format.ensures.ok
