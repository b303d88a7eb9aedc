-- Lemmas about unions of families, about lists of edits that do not allocate, and about lists of
-- cells.
use Rattle.std.proofs.Common.{◌≡◌, ℕ, ◌+◌, Bool, true, false, ◌||◌, List, [], ◌∷◌, map, refl, ap, sym, ◌∙◌, subst, inl, inr, ◌⊎◌, arith}
use Rattle.std.specs.Prelude.{Option, Some, None, Result, Ok, Err, IsTrue, ◌↔◌}
use Rattle.xw_words.specs.Dictionary.{Dictionary}
use Rattle.xw_grid.specs.declared.cell.Cell.{Cell}
use Rattle.xw_grid.specs.declared.fault.GridFault.{GridFault}
use Rattle.xw_grid.specs.Grid.{Grid}
use Rattle.xw_grid.specs.Edit.{set_entry}
use Rattle.xw_feas.specs.declared.edit.Refusal.{Refusal}
use Rattle.xw_feas.specs.Board.{Board}
use Rattle.xw_feas.specs.Feasible.{Family, IsSupported}
use Rattle.xw_feas.specs.Laws.{together, next_of, WantNothing, write_at, write_of, IsRefusedInTurn}
use Rattle.xw_feas.specs.State.{State, Action, list_written, after, want_of, with_grid, by_fault, then_write, write_list, IsRefused, IsAfter, done, accepted, skipped}

-- ---- unions of families

one_of : (a b : Bool) → IsTrue (a || b) → IsTrue a ⊎ IsTrue b
one_of true b h = inl h
one_of false b h = inr h

first_of : (a b : Bool) → IsTrue a → IsTrue (a || b)
first_of true b h = h
first_of false b h = cc

second_of : (a b : Bool) → IsTrue b → IsTrue (a || b)
second_of true b h = cc
second_of false b h = h

pub together_supported : (board : Board) (dictionary : Dictionary) (one other : Family) → IsSupported board dictionary one → IsSupported board dictionary other → IsSupported board dictionary (together one other)
together_supported board dictionary one other first second = record {
  words_are_base = λ light word h. elim (one_of (one.words light word) (other.words light word) h) [
    | inl h ↦ first.words_are_base light word h
    | inr h ↦ second.words_are_base light word h
  ];
  words_have_letters = λ light word h k within. elim (one_of (one.words light word) (other.words light word) h) [
    | inl h ↦ first_of (one.letters _ _) (other.letters _ _) (first.words_have_letters light word h k within)
    | inr h ↦ second_of (one.letters _ _) (other.letters _ _) (second.words_have_letters light word h k within)
  ];
  letters_agree = λ cell letter h. elim (one_of (one.letters cell letter) (other.letters cell letter) h) [
    | inl h ↦ first.letters_agree cell letter h
    | inr h ↦ second.letters_agree cell letter h
  ];
  letters_have_words = λ cell letter h light k lit within at. elim (one_of (one.letters cell letter) (other.letters cell letter) h) [
    | inl h ↦ let found = first.letters_have_words cell letter h light k lit within at in (found.0, first_of (one.words light found.0) (other.words light found.0) found.1, found.2)
    | inr h ↦ let found = second.letters_have_words cell letter h light k lit within at in (found.0, second_of (one.words light found.0) (other.words light found.0) found.1, found.2)
  ];
}

-- ---- lists of edits that do not allocate

-- an edit that does not allocate is refused only by a rule
refused_by_rule : (state : State) (action : Action) (refusal : Refusal) → want_of state action ≡ None → IsRefused state action refusal → after state action ≡ Err refusal
refused_by_rule state action refusal none (inl h) = h
refused_by_rule state action refusal none (inr h) = let bad : None ≡ Some refusal = sym none ∙ h.1 in cc

-- the refusals and the state after a list of edits that do not allocate
abbrev leads_to : State → List Action → ℕ × State
leads_to state [] = (0, state)
leads_to state (action ∷ actions) = elim (after state action) as (λ _. ℕ × State) [
  | Ok next ↦ leads_to next actions
  | Err refusal ↦ ((leads_to state actions).0 + 1, (leads_to state actions).1)
]

leads_to-IsAfter : (state last : State) (actions : List Action) (refused : ℕ) → WantNothing state actions → IsAfter state actions refused last → leads_to state actions ≡ (refused, last)
leads_to-IsAfter _ _ _ _ want (done state) = refl
leads_to-IsAfter _ _ _ _ want (accepted state next last action actions refused ok rest) = rw (leads_to, ok) (leads_to-IsAfter next last actions refused (subst (λ r. WantNothing (next_of state r) actions) ok want.1) rest)
leads_to-IsAfter _ _ _ _ want (skipped state last action actions refusal refused stays rest) =
    let err = refused_by_rule state action refusal want.0 stays in
    let then = leads_to-IsAfter state last actions refused (subst (λ r. WantNothing (next_of state r) actions) err want.1) rest in
    rw (leads_to, err, then) refl

pub one_end : (state one other : State) (actions : List Action) (m n : ℕ) → WantNothing state actions → IsAfter state actions m one → IsAfter state actions n other → (m ≡ n) × (one ≡ other)
one_end state one other actions m n want first second =
    let same : (m, one) ≡ (n, other) = sym (leads_to-IsAfter state one actions m want first) ∙ leads_to-IsAfter state other actions n want second in
    (ap (λ (p : ℕ × State). p.0) same, ap (λ (p : ℕ × State). p.1) same)

-- ---- lists of cells

written_as : (state : State) (cell : Cell) (letter : Option ℕ) → after state (write_at cell letter) ≡ with_grid state (by_fault (set_entry state.grid cell letter))
written_as state cell (Some letter) = refl
written_as state cell None = refl

want_nothing : (state : State) (list : List (Cell × Option ℕ)) → WantNothing state (map write_of list)
want_nothing state [] = tt
want_nothing state (written ∷ list) = (by_letter written.0 written.1, want_nothing (next_of state (after state (write_of written))) list) where
  by_letter : (cell : Cell) (letter : Option ℕ) → want_of state (write_at cell letter) ≡ None
  by_letter cell (Some letter) = refl
  by_letter cell None = refl

other_grid : (state : State) (grid : Grid) (result : Result Grid Refusal) → with_grid (record state { grid = grid }) result ≡ with_grid state result
other_grid state grid (Ok next) = refl
other_grid state grid (Err refusal) = refl

-- the first cell of a list, if it can be written
first_written : (state : State) (written : Cell × Option ℕ) (grid : Grid) → set_entry state.grid written.0 written.1 ≡ Ok grid → after state (write_of written) ≡ Ok (record state { grid = grid })
first_written state written grid is = written_as state written.0 written.1 ∙ ap (λ r. with_grid state (by_fault r)) is

first_refused : (state : State) (written : Cell × Option ℕ) (fault : GridFault) → set_entry state.grid written.0 written.1 ≡ Err fault → after state (write_of written) ≡ with_grid state (by_fault (Err fault))
first_refused state written fault is = written_as state written.0 written.1 ∙ ap (λ r. with_grid state (by_fault r)) is

in_turn : (list : List (Cell × Option ℕ)) (state next : State) → with_grid state (by_fault (write_list list state.grid)) ≡ Ok next → IsAfter state (map write_of list) 0 next
in_turn [] state next h = let is : state ≡ next = cc in subst (λ s. IsAfter state [] 0 s) is (done state)
in_turn (written ∷ list) state next h = by_first (set_entry state.grid written.0 written.1) refl (λ grid. in_turn list (record state { grid = grid }) next) h where
  by_first : (first : Result Grid GridFault) → set_entry state.grid written.0 written.1 ≡ first
      → ((grid : Grid) → with_grid (record state { grid = grid }) (by_fault (write_list list grid)) ≡ Ok next → IsAfter (record state { grid = grid }) (map write_of list) 0 next)
      → with_grid state (by_fault (then_write (write_list list) first)) ≡ Ok next → IsAfter state (write_of written ∷ map write_of list) 0 next
  by_first (Ok grid) is later h =
      accepted state (record state { grid = grid }) next (write_of written) (map write_of list) 0 (first_written state written grid is)
      (later grid (other_grid state grid (by_fault (write_list list grid)) ∙ h))
  by_first (Err fault) is later h = cc

all_at_once : (list : List (Cell × Option ℕ)) (state next : State) → leads_to state (map write_of list) ≡ (0, next) → with_grid state (by_fault (write_list list state.grid)) ≡ Ok next
all_at_once [] state next h = ap (λ (p : ℕ × State). Ok p.1) h
all_at_once (written ∷ list) state next h = by_first (set_entry state.grid written.0 written.1) refl (λ grid. all_at_once list (record state { grid = grid }) next) where
  by_first : (first : Result Grid GridFault) → set_entry state.grid written.0 written.1 ≡ first
      → ((grid : Grid) → leads_to (record state { grid = grid }) (map write_of list) ≡ (0, next) → with_grid (record state { grid = grid }) (by_fault (write_list list grid)) ≡ Ok next)
      → with_grid state (by_fault (then_write (write_list list) first)) ≡ Ok next
  by_first (Ok grid) is later =
      let led : leads_to (record state { grid = grid }) (map write_of list) ≡ (0, next) = rw (leads_to, first_written state written grid is) at h in
      sym (other_grid state grid (by_fault (write_list list grid))) ∙ later grid led
  by_first (Err fault) is later =
      let led : ((leads_to state (map write_of list)).0 + 1, (leads_to state (map write_of list)).1) ≡ (0, next) = rw (leads_to, first_refused state written fault is) at h in
      absurd (omega (arith, ap (λ (p : ℕ × State). p.0) led))

pub written_in_turn : (state next : State) (list : List (Cell × Option ℕ)) → (after state (list_written list) ≡ Ok next) ↔ IsAfter state (map write_of list) 0 next
written_in_turn state next list = (in_turn list state next, λ led. all_at_once list state next (leads_to-IsAfter state next (map write_of list) 0 (want_nothing state list) led))

pub refused_in_turn : (state : State) (list : List (Cell × Option ℕ)) (refusal : Refusal) → after state (list_written list) ≡ Err refusal → IsRefusedInTurn state list refusal
refused_in_turn state [] refusal h = cc
refused_in_turn state (written ∷ list) refusal h = by_first (set_entry state.grid written.0 written.1) refl (λ grid. refused_in_turn (record state { grid = grid }) list refusal) h where
  by_first : (first : Result Grid GridFault) → set_entry state.grid written.0 written.1 ≡ first
      → ((grid : Grid) → after (record state { grid = grid }) (list_written list) ≡ Err refusal → IsRefusedInTurn (record state { grid = grid }) list refusal)
      → with_grid state (by_fault (then_write (write_list list) first)) ≡ Err refusal → IsRefusedInTurn state (written ∷ list) refusal
  by_first (Ok grid) is rest h =
      let later = rest grid (other_grid state grid (by_fault (write_list list grid)) ∙ h) in
      record {
        front = written ∷ later.front;
        written = later.written;
        rest = later.rest;
        parts = ap (λ l. written ∷ l) later.parts;
        next = later.next;
        before = accepted state (record state { grid = grid }) later.next (write_of written) (map write_of later.front) 0 (first_written state written grid is) later.before;
        here = later.here;
      }
  by_first (Err fault) is rest h = record {
    front = [];
    written = written;
    rest = list;
    parts = refl;
    next = state;
    before = done state;
    here = first_refused state written fault is ∙ h;
  }
