-- The written cells that were empty, one after another.
use Rattle.std.proofs.Common.{◌≡◌, ◌⊎◌, ℕ, ◌+◌, ◌<◌, ◌≤◌, true, false, List, Some, None, length, get_or, refl, sym, ap, ◌∙◌, inl, inr, arith}
use Rattle.std.specs.Prelude.{Option, is_some}
use Rattle.std.proofs.lemmas.Bool.{cases_eq, both_ways}
use Rattle.std.proofs.lemmas.List.{get_or_default}
use Rattle.xw_grid.specs.declared.cell.Cell.{Cell}
use Rattle.xw_grid.specs.Grid.{Grid, index_of}
use Rattle.xw_net.specs.Entered.{IsNew}

-- the cell is one of the first written cells, and was empty
pub record IsNewBelow (grid : Grid) (written : List (Cell × Option ℕ)) (count cell : ℕ) : Type 0 where
  pub listed : Cell
  pub index : ℕ
  pub below : index < count
  pub within : index < length written
  pub at : get_or written index (listed, None) ≡ (listed, None)
  pub is_cell : index_of grid listed ≡ cell

pub none_from : (o : Option ℕ) → is_some o ≡ false → o ≡ None
none_from None is = refl
none_from (Some letter) is = let never : true ≡ false = is in cc

module _ (grid : Grid) (written : List (Cell × Option ℕ)) where
  pub new_none : (cell : ℕ) → ¬ IsNewBelow grid written 0 cell
  new_none cell new = let below = new.below in omega (arith, below)

  pub new_from : (count cell : ℕ) → IsNewBelow grid written count cell → IsNew grid written cell
  new_from count cell new = (new.listed, (new.index, new.within, new.at), new.is_cell)

  pub new_to : (count cell : ℕ) → length written ≤ count → IsNew grid written cell → IsNewBelow grid written count cell
  new_to count cell most new = record {
    listed = new.0;
    index = new.1.0;
    below = let lt = new.1.1 in omega (arith, lt, most);
    within = new.1.1;
    at = new.1.2;
    is_cell = new.2;
  }

  module _ (count : ℕ) (inside : count < length written) where
    pub new_more : (cell : ℕ) → IsNewBelow grid written count cell → IsNewBelow grid written (count + 1) cell
    new_more cell new = record {
      listed = new.listed;
      index = new.index;
      below = let lt = new.below in omega (arith, lt);
      within = new.within;
      at = new.at;
      is_cell = new.is_cell;
    }

    pub new_split : (default : Cell × Option ℕ) (cell : ℕ) → IsNewBelow grid written (count + 1) cell → IsNewBelow grid written count cell ⊎ (index_of grid (get_or written count default).0 ≡ cell)
    new_split default cell new = elim (cases_eq new.index count) [
      | inl e ↦ inr (ap (λ (x : Cell × Option ℕ). index_of grid x.0) (get_or_default written count default (new.listed, None) inside ∙ ap (λ n. get_or written n (new.listed, None)) (sym e) ∙ new.at) ∙ new.is_cell)
      | inr apart ↦ inl (record {
        listed = new.listed;
        index = new.index;
        below = let lt = new.below in omega (arith, lt, apart);
        within = new.within;
        at = new.at;
        is_cell = new.is_cell;
      })
    ]

    -- a cell that had a letter is not new
    pub new_before : (default : Cell × Option ℕ) (cell : ℕ) → is_some (get_or written count default).1 ≡ true → IsNewBelow grid written (count + 1) cell → IsNewBelow grid written count cell
    new_before default cell had new = elim (cases_eq new.index count) [
      | inl e ↦ absurd (both_ways (is_some (get_or written count default).1)
          (ap (λ (x : Cell × Option ℕ). is_some x.1) (get_or_default written count default (new.listed, None) inside ∙ ap (λ n. get_or written n (new.listed, None)) (sym e) ∙ new.at)) had)
      | inr apart ↦ record {
        listed = new.listed;
        index = new.index;
        below = let lt = new.below in omega (arith, lt, apart);
        within = new.within;
        at = new.at;
        is_cell = new.is_cell;
      }
    ]

    -- a cell that had none is
    pub new_here : (default other : Cell × Option ℕ) → is_some (get_or written count other).1 ≡ false → IsNewBelow grid written (count + 1) (index_of grid (get_or written count default).0)
    new_here default other none =
        let here = get_or written count default in
        let empty : here.1 ≡ None = ap (λ (x : Cell × Option ℕ). x.1) (get_or_default written count default other inside) ∙ none_from (get_or written count other).1 none in
        record {
          listed = here.0;
          index = count;
          below = omega arith;
          within = inside;
          at = get_or_default written count (here.0, None) default inside ∙ ap (λ (o : Option ℕ). (here.0, o)) empty;
          is_cell = refl;
        }
