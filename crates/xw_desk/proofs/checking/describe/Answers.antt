use Rattle.std.proofs.Common.{◌≡◌, ◌∙◌, append_assoc, length}
use Rattle.xw_grid.specs.Light.{lights_of}
use Rattle.xw_desk.specs.Checked.{described, format_name, size_line}
use Rattle.xw_desk.proofs.checking.describe.Goals as goal

pub returns-clause-line : goal.returns-clause-line
returns-clause-line c =
    let line : c.in_ok-format.field-0.bytes.items ≡ size_line c.format_name-kind.result.now c.width-width.result c.height-height.result c.in_ok-count.count = c.in_ok-format.ensures.ok ∙ simp append_assoc in
    let format : c.format_name-kind.result.now ≡ format_name c.args.kind = c.format_name-kind.ensures in
    let width : c.width-width.result ≡ c.args.grid.now.width = c.width-width.ensures.width in
    let height : c.height-height.result ≡ c.args.grid.now.height = c.height-height.ensures.height in
    let lights : c.in_ok-count.count ≡ length (lights_of c.args.grid.now) = c.in_ok-count.ensures.ok in
    let described_so : size_line c.format_name-kind.result.now c.width-width.result c.height-height.result c.in_ok-count.count ≡ described c.args.kind c.args.grid.now = cc in
    line ∙ described_so
