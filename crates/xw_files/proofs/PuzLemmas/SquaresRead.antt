-- Reading the squares of a board byte by byte.
use Rattle.std.proofs.Common.{◌≡◌, ℕ, suc, ◌+◌, ◌<◌, ◌≤◌, List, [], ◌∷◌, ◌++◌, length, get_or, drop, drop-cons, refl, ap, arith, Ok, Err}
use Rattle.std.specs.Prelude.{Some, None}
use Rattle.std.proofs.lemmas.List.{append-nil, drop_all}
use Rattle.xw_grid.specs.Grid.{cell_in}
use Rattle.xw_grid.specs.declared.cell.Square.{Square}
use Rattle.xw_files.specs.declared.fault.ReadFault.TheVariants as faults
use Rattle.xw_files.specs.Puz.Board.{square_of, squares_at}
use Rattle.xw_files.proofs.PuzLemmas.Fronts.{after, after-more}

module _ (width i : ℕ) (bytes : List ℕ) (front : List Square) where
  pub squares-more : (square : Square) → i < length bytes → square_of (get_or bytes i 0) ≡ Some square → after front (squares_at width i (drop i bytes)) ≡ after (front ++ square ∷ []) (squares_at width (i + 1) (drop (i + 1) bytes))
  squares-more square within found =
      let cons : drop i bytes ≡ get_or bytes i 0 ∷ drop (i + 1) bytes = (let plus : suc i ≡ i + 1 = omega arith in let e = drop-cons bytes i 0 within in rw plus at e) in
      rw (cons, found) (after-more front square (squares_at width (i + 1) (drop (i + 1) bytes)))

  pub squares-bad : i < length bytes → square_of (get_or bytes i 0) ≡ None → after front (squares_at width i (drop i bytes)) ≡ Err (faults.BadCell (cell_in width i))
  squares-bad within none = let cons = drop-cons bytes i 0 within in rw (cons, none) refl

  pub squares-end : length bytes ≤ i → after front (squares_at width i (drop i bytes)) ≡ Ok front
  squares-end past = let none = drop_all i bytes past in rw none (ap (λ all. Ok all) (append-nil front))
