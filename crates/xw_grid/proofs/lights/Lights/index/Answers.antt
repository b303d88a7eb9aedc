use Rattle.std.proofs.Common.{◌≡◌, rules, sym, ap, ◌∙◌}
use Rattle.std.specs.Prelude.{slice_get}
use Rattle.std.proofs.lemmas.List.Sorted.{IsPartitionPoint-from_clause}
use Rattle.xw_grid.specs.Light.{name_before, same_name, index_named}
use Rattle.xw_grid.specs.LightTable.{is_such}
use Rattle.xw_grid.proofs.LookupLemmas.{lights_are_good, named_parted, named_there, named_nowhere}
use Rattle.xw_grid.proofs.lights.Lights.index.Goals as goal

pub returns-then-is_at : goal.returns-then-is_at
returns-then-is_at c =
    let lights = c.deref.result.now in
    let name = c.args.name in
    let index = c.partition_point-index.result in
    let same : lights ≡ c.args.self.now = c.deref.ensures.value ∙ c.self.view_is in
    let good = lights_are_good c.self.invariant.grid lights (c.deref.ensures.value ∙ c.self.invariant.whole) in
    let parted = IsPartitionPoint-from_clause (λ light. name_before light.name name) lights index c.partition_point-index.ensures.partitioned (named_parted lights name good) (λ a r f' k. search rules) in
    named_there lights name index good parted (ap (λ ls. is_such (λ light. same_name light.name name) (slice_get ls index)) same ∙ sym c.is_at.ensures ∙ c.if-is_at.true)
    ∙ ap (λ ls. index_named ls name) same

pub returns-else-is_at : goal.returns-else-is_at
returns-else-is_at c =
    let lights = c.deref.result.now in
    let name = c.args.name in
    let index = c.partition_point-index.result in
    let same : lights ≡ c.args.self.now = c.deref.ensures.value ∙ c.self.view_is in
    let good = lights_are_good c.self.invariant.grid lights (c.deref.ensures.value ∙ c.self.invariant.whole) in
    let parted = IsPartitionPoint-from_clause (λ light. name_before light.name name) lights index c.partition_point-index.ensures.partitioned (named_parted lights name good) (λ a r f' k. search rules) in
    named_nowhere lights name index good parted (ap (λ ls. is_such (λ light. same_name light.name name) (slice_get ls index)) same ∙ sym c.is_at.ensures ∙ c.if-is_at.false)
    ∙ ap (λ ls. index_named ls name) same
