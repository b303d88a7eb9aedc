-- Lights by name: no two lights of a grid have the same name.
use Rattle.std.proofs.Common.{◌≡◌, ℕ, ◌<◌, true, List, length, get_or, eqb, refl, sym, ap, ◌∙◌, arith, inl, inr, Some}
use Rattle.std.proofs.lemmas.Bool.{cases_order, cases_eq, cases_Bool, and_parts, eq-eqb, ne_eqb, false≢true}
use Rattle.std.proofs.lemmas.List.Quantifiers.{position-Some}
use Rattle.xw_text.proofs.Position.{position_is_some}
use Rattle.xw_grid.specs.declared.cell.LightName.{LightName}
use Rattle.xw_grid.specs.declared.cell.Direction.{Direction}
use Rattle.xw_grid.specs.declared.cell.Direction.TheVariants.{Across, Down}
use Rattle.xw_grid.specs.declared.lights.Light.{Light}
use Rattle.xw_grid.specs.Grid.{Grid}
use Rattle.xw_grid.specs.Light.{lights_of, same_name, same_direction, index_named, no_light}
use Rattle.xw_grid.specs.LightLaws.{IsBefore}
use Rattle.xw_grid.proofs.OrderLemmas.{lights_are_ordered}
use Rattle.xw_grid.proofs.LightTableLemmas.{direction_is}

not_before_itself : (a b : LightName) → a ≡ b → IsBefore a b → ⊥
not_before_itself a b same (inl less) = let e : a.number ≡ b.number = ap (λ (name : LightName). name.number) same in absurd (omega arith)
not_before_itself a b same (inr (number, across, down)) =
    let e : Across ≡ Down = sym across ∙ ap (λ (name : LightName). name.direction) same ∙ down in
    cc

-- lights with the same name have the same index
pub names_apart : (grid : Grid) (a b : ℕ) (d : Light) → a < length (lights_of grid) → b < length (lights_of grid) → (get_or (lights_of grid) a d).name ≡ (get_or (lights_of grid) b d).name → a ≡ b
names_apart grid a b d below below' same = elim (cases_order a b) [
  | inl is ↦ is
  | inr (inl before) ↦ absurd (not_before_itself (get_or (lights_of grid) a d).name (get_or (lights_of grid) b d).name same (lights_are_ordered grid a b d before below'))
  | inr (inr after) ↦ absurd (not_before_itself (get_or (lights_of grid) b d).name (get_or (lights_of grid) a d).name (sym same) (lights_are_ordered grid b a d after below))
]

same_name_itself : (a : LightName) → same_name a a ≡ true
same_name_itself a = by_direction a.direction where
  by_direction : (d : Direction) → same_name (record { number = a.number; direction = d }) (record { number = a.number; direction = d }) ≡ true
  by_direction Across = rw (eq-eqb a.number a.number refl) refl
  by_direction Down = rw (eq-eqb a.number a.number refl) refl

names_same : (a b : LightName) → same_name a b ≡ true → a ≡ b
names_same a b h =
    let parts = and_parts (eqb a.number b.number) (same_direction a.direction b.direction) h in
    let direction = direction_is a.direction b.direction parts.1 in
    let number : a.number ≡ b.number = elim (cases_eq a.number b.number) [ inl same ↦ same | inr differ ↦ absurd (false≢true (sym (ne_eqb a.number b.number differ) ∙ parts.0)) ] in
    λ i. record { number = number i; direction = direction i }

-- a light is found by its name
pub found_by_name : (grid : Grid) (index : ℕ) (d : Light) → index < length (lights_of grid) → index_named (lights_of grid) (get_or (lights_of grid) index d).name ≡ Some index
found_by_name grid index d below =
    let name = (get_or (lights_of grid) index d).name in
    position_is_some (λ (light : Light). same_name light.name name) (lights_of grid) index d below
    (λ k before. elim (cases_Bool (same_name (get_or (lights_of grid) k d).name name)) [
      | inl same ↦ absurd (let e = names_apart grid k index d (omega arith) below (names_same (get_or (lights_of grid) k d).name name same) in omega arith)
      | inr differ ↦ differ
    ])
    (same_name_itself name)

-- a light that was found by a name has that name
pub named_within : (lights : List Light) (name : LightName) (index : ℕ) → index_named lights name ≡ Some index → index < length lights
named_within lights name index found = (position-Some (λ (light : Light). same_name light.name name) lights index no_light found).0

pub named_is : (lights : List Light) (name : LightName) (index : ℕ) → index_named lights name ≡ Some index → (get_or lights index no_light).name ≡ name
named_is lights name index found = names_same (get_or lights index no_light).name name (position-Some (λ (light : Light). same_name light.name name) lights index no_light found).1
