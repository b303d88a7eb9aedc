-- The order of the faults, rank by rank.
use Rattle.std.proofs.Common.{◌≡◌, ℕ, suc, ◌<◌, ◌≤◌, Bool, true, false, cond, List, refl, sym, ap, arith, inl, inr, Ok, Err}
use Rattle.std.specs.Prelude.{◌⊎◌, Result}
use Rattle.std.proofs.lemmas.Bool.{cases_lt, cases_order}
use Rattle.xw_grid.specs.declared.cell.Cell.{Cell}
use Rattle.xw_files.specs.Steps.{◌>>=◌}
use Rattle.xw_files.specs.declared.fault.Piece.TheVariants as part
use Rattle.xw_files.specs.declared.fault.TextName.{TextName}
use Rattle.xw_files.specs.declared.fault.TextName.TheVariants.{Title, Author, Copyright, Clue, Notes}
use Rattle.xw_files.specs.declared.fault.SumName.{SumName}
use Rattle.xw_files.specs.declared.fault.SumName.TheVariants.{Cib, File, Masked}
use Rattle.xw_files.specs.declared.fault.ReadFault.{ReadFault}
use Rattle.xw_files.specs.declared.fault.ReadFault.TheVariants.{Short, Magic, Version, Scrambled, Size, NoNul, BadSum, BadCell, ClueCount, GextSize, GextSum}
use Rattle.xw_files.specs.Puz.Faults.{HasFault, rank, text_location, sum_location, location, IsLess, ComesBefore, IsFirstFault}
use Rattle.xw_files.specs.Puz.Laws.{FirstFaultIsOne}

-- ---- where a chain stops

pub err_is : {A : Type 0} (f g : ReadFault) → let l : Result A ReadFault = Err f in let r : Result A ReadFault = Err g in l ≡ r → f ≡ g
err_is f g e = cc

-- a chain that stops stopped at its first step or after it
pub bind_err : {A B : Type 0} (r : Result A ReadFault) (f : A → Result B ReadFault) (fault : ReadFault) → (r >>= f) ≡ Err fault → (r ≡ Err fault) ⊎ ((x : A) × (r ≡ Ok x) × (f x ≡ Err fault))
bind_err (Ok x) f fault e = inr (x, refl, e)
bind_err (Err g) f fault e = inl (ap (λ h. Err h) (err_is g fault e))

-- a test that had to hold
pub refused : {A : Type 0} (b : Bool) (r : Result A ReadFault) (f fault : ReadFault) → cond b r (Err f) ≡ Err fault → ((b ≡ false) × (f ≡ fault)) ⊎ ((b ≡ true) × (r ≡ Err fault))
refused true r f fault e = inr (refl, e)
refused false r f fault e = inl (refl, err_is f fault e)

-- a test that must not hold
pub caught : {A : Type 0} (b : Bool) (r : Result A ReadFault) (f fault : ReadFault) → cond b (Err f) r ≡ Err fault → ((b ≡ true) × (f ≡ fault)) ⊎ ((b ≡ false) × (r ≡ Err fault))
caught true r f fault e = inl (refl, err_is f fault e)
caught false r f fault e = inr (refl, e)

-- ---- ranks

-- no fault of a lower rank holds
abbrev pub Clear : List ℕ → ℕ → Type 0
Clear bytes n = (earlier : ReadFault) → rank earlier < n → HasFault bytes earlier → ⊥

-- this fault does not hold
abbrev pub Never : List ℕ → ReadFault → Type 0
Never bytes fault = HasFault bytes fault → ⊥

pub more : (bytes : List ℕ) (n : ℕ) → Clear bytes n → ((fault : ReadFault) → rank fault ≡ n → Never bytes fault) → Clear bytes (suc n)
more bytes n clear none earlier below has = elim (cases_lt (rank earlier) n) [
  | inl less ↦ clear earlier less has
  | inr same ↦ none earlier (omega (arith, below, same)) has
]

pub clear_1 : (bytes : List ℕ) → Clear bytes 1
clear_1 bytes (Short part.Header) below has = absurd (omega (arith, below))
clear_1 bytes other below has = absurd (omega (arith, below))

-- A fact about each fault of a rank, from the faults that have that rank.
module _ (P : ReadFault → Type 0) where
  pub only_1 : P (Short part.Header) → (fault : ReadFault) → rank fault ≡ 1 → P fault
  only_1 p (Short part.Header) e = p
  only_1 p other e = absurd (omega (arith, e))

  pub only_2 : P Magic → (fault : ReadFault) → rank fault ≡ 2 → P fault
  only_2 p Magic e = p
  only_2 p (Short part.Boards) e = absurd (omega (arith, e))
  only_2 p other e = absurd (omega (arith, e))

  pub only_3 : P Version → (fault : ReadFault) → rank fault ≡ 3 → P fault
  only_3 p Version e = p
  only_3 p (Short part.Boards) e = absurd (omega (arith, e))
  only_3 p other e = absurd (omega (arith, e))

  pub only_4 : P Scrambled → (fault : ReadFault) → rank fault ≡ 4 → P fault
  only_4 p Scrambled e = p
  only_4 p (Short part.Boards) e = absurd (omega (arith, e))
  only_4 p other e = absurd (omega (arith, e))

  pub only_5 : P Size → (fault : ReadFault) → rank fault ≡ 5 → P fault
  only_5 p Size e = p
  only_5 p (Short part.Boards) e = absurd (omega (arith, e))
  only_5 p other e = absurd (omega (arith, e))

  pub only_6 : P (Short part.Boards) → (fault : ReadFault) → rank fault ≡ 6 → P fault
  only_6 p (Short part.Boards) e = p
  only_6 p other e = absurd (omega (arith, e))

  pub only_7 : ((text : TextName) → P (NoNul text)) → (fault : ReadFault) → rank fault ≡ 7 → P fault
  only_7 p (NoNul text) e = p text
  only_7 p (Short part.Boards) e = absurd (omega (arith, e))
  only_7 p other e = absurd (omega (arith, e))

  pub only_8 : ((sum : SumName) → P (BadSum sum)) → (fault : ReadFault) → rank fault ≡ 8 → P fault
  only_8 p (BadSum sum) e = p sum
  only_8 p (Short part.Boards) e = absurd (omega (arith, e))
  only_8 p other e = absurd (omega (arith, e))

  pub only_9 : ((cell : Cell) → P (BadCell cell)) → (fault : ReadFault) → rank fault ≡ 9 → P fault
  only_9 p (BadCell cell) e = p cell
  only_9 p (Short part.Boards) e = absurd (omega (arith, e))
  only_9 p other e = absurd (omega (arith, e))

  pub only_10 : P ClueCount → (fault : ReadFault) → rank fault ≡ 10 → P fault
  only_10 p ClueCount e = p
  only_10 p (Short part.Boards) e = absurd (omega (arith, e))
  only_10 p other e = absurd (omega (arith, e))

  pub only_11 : P GextSize → (fault : ReadFault) → rank fault ≡ 11 → P fault
  only_11 p GextSize e = p
  only_11 p (Short part.Boards) e = absurd (omega (arith, e))
  only_11 p other e = absurd (omega (arith, e))

  pub only_12 : P GextSum → (fault : ReadFault) → rank fault ≡ 12 → P fault
  only_12 p GextSum e = p
  only_12 p (Short part.Boards) e = absurd (omega (arith, e))
  only_12 p other e = absurd (omega (arith, e))

-- what has no rank of its own holds of nothing
beyond : (bytes : List ℕ) (fault : ReadFault) → 13 ≤ rank fault → HasFault bytes fault → ⊥
beyond bytes (Short part.Boards) past has = absurd (omega (arith, past))
beyond bytes other past has = first_of (omega (arith, past), assumption has)

pub none_later : (bytes : List ℕ) → Clear bytes 13 → (fault : ReadFault) → HasFault bytes fault → ⊥
none_later bytes clear fault has = elim (cases_lt (rank fault) 13) [
  | inl less ↦ clear fault less has
  | inr past ↦ beyond bytes fault past has
]

-- ---- the first fault

-- this fault does not hold, or does not come before another of its rank
abbrev pub NotSooner : List ℕ → ReadFault → ReadFault → Type 0
NotSooner bytes fault earlier = IsLess (location earlier) (location fault) → Never bytes earlier

abbrev pub NoSooner : List ℕ → ReadFault → Type 0
NoSooner bytes fault = (earlier : ReadFault) → rank earlier ≡ rank fault → NotSooner bytes fault earlier

pub first_among : (bytes : List ℕ) (fault : ReadFault) → HasFault bytes fault → Clear bytes (rank fault) → NoSooner bytes fault → IsFirstFault bytes fault
first_among bytes fault holds clear none = (
  holds,
  λ earlier before has. elim before [
    | inl above ↦ clear earlier above has
    | inr beside ↦ none earlier beside.0 beside.1 has
  ],
)

not-less : (p : ℕ × ℕ) → IsLess p (0, 0) → ⊥
not-less p less = elim less [
  | inl h ↦ absurd (omega (arith, h))
  | inr h ↦ absurd (omega (arith, h.1))
]

-- a fault that is alone in its rank
pub first_alone : (bytes : List ℕ) (fault : ReadFault) → location fault ≡ (0, 0) → HasFault bytes fault → Clear bytes (rank fault) → IsFirstFault bytes fault
first_alone bytes fault at holds clear = first_among bytes fault holds clear (λ earlier same less _. not-less (location earlier) (rw at at less))

-- ---- one fault is the first

abbrev IsAt : ReadFault → ReadFault → Type 0
IsAt fault other = (rank fault ≡ rank other) × ((location fault).0 ≡ (location other).0) × ((location fault).1 ≡ (location other).1)

ordered : (fault other : ReadFault) → IsAt fault other ⊎ (ComesBefore fault other ⊎ ComesBefore other fault)
ordered fault other = elim (cases_order (rank fault) (rank other)) [
  | inr ranks ↦ elim ranks [
    | inl less ↦ inr (inl (inl less))
    | inr more ↦ inr (inr (inl more))
  ]
  | inl level ↦ elim (cases_order (location fault).0 (location other).0) [
    | inr locations ↦ elim locations [
      | inl less ↦ inr (inl (inr (level, inl less)))
      | inr more ↦ inr (inr (inr (sym level, inl more)))
    ]
    | inl first ↦ elim (cases_order (location fault).1 (location other).1) [
      | inr locations ↦ elim locations [
        | inl less ↦ inr (inl (inr (level, inr (first, less))))
        | inr more ↦ inr (inr (inr (sym level, inr (sym first, more))))
      ]
      | inl second ↦ inl (level, first, second)
    ]
  ]
]

same_text : (text other : TextName) → (text_location text).0 ≡ (text_location other).0 → (text_location text).1 ≡ (text_location other).1 → text ≡ other
same_text Title Title p q = refl
same_text Author Author p q = refl
same_text Copyright Copyright p q = refl
same_text (Clue k) (Clue j) p q = ap (λ n. Clue n) q
same_text Notes Notes p q = refl
same_text text other p q = absurd (omega (arith, p))

same_sum : (sum other : SumName) → (sum_location sum).0 ≡ (sum_location other).0 → (sum_location sum).1 ≡ (sum_location other).1 → sum ≡ other
same_sum Cib Cib p q = refl
same_sum File File p q = refl
same_sum (Masked k) (Masked j) p q = ap (λ n. Masked n) q
same_sum sum other p q = absurd (omega (arith, p))

same_cell : (cell other : Cell) → cell.row ≡ other.row → cell.col ≡ other.col → cell ≡ other
same_cell cell other p q = λ i. record { row = p i; col = q i }

abbrev Is : ReadFault → ReadFault → Type 0
Is fault other = ((location fault).0 ≡ (location other).0) → ((location fault).1 ≡ (location other).1) → fault ≡ other

-- faults of one rank at one location are the same
at-one-location : (bytes : List ℕ) (fault other : ReadFault) → HasFault bytes fault → rank other ≡ rank fault → Is fault other
at-one-location bytes (Short part.Header) other has e = only_1 (Is (Short part.Header)) (λ p q. refl) other e
at-one-location bytes Magic other has e = only_2 (Is Magic) (λ p q. refl) other e
at-one-location bytes Version other has e = only_3 (Is Version) (λ p q. refl) other e
at-one-location bytes Scrambled other has e = only_4 (Is Scrambled) (λ p q. refl) other e
at-one-location bytes Size other has e = only_5 (Is Size) (λ p q. refl) other e
at-one-location bytes (Short part.Boards) other has e = only_6 (Is (Short part.Boards)) (λ p q. refl) other e
at-one-location bytes (NoNul text) other has e = only_7 (Is (NoNul text)) (λ t p q. ap (λ x. NoNul x) (same_text text t p q)) other e
at-one-location bytes (BadSum sum) other has e = only_8 (Is (BadSum sum)) (λ s p q. ap (λ x. BadSum x) (same_sum sum s p q)) other e
at-one-location bytes (BadCell cell) other has e = only_9 (Is (BadCell cell)) (λ c p q. ap (λ x. BadCell x) (same_cell cell c p q)) other e
at-one-location bytes ClueCount other has e = only_10 (Is ClueCount) (λ p q. refl) other e
at-one-location bytes GextSize other has e = only_11 (Is GextSize) (λ p q. refl) other e
at-one-location bytes GextSum other has e = only_12 (Is GextSum) (λ p q. refl) other e
at-one-location bytes fault other has e = absurd has

pub one_first : FirstFaultIsOne
one_first bytes fault other first also = elim (ordered fault other) [
  | inl same ↦ at-one-location bytes fault other first.0 (sym same.0) same.1 same.2
  | inr order ↦ elim order [
    | inl before ↦ absurd (also.1 fault before first.0)
    | inr after ↦ absurd (first.1 other after also.0)
  ]
]
