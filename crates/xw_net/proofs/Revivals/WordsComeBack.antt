-- Putting words back, light by light.
use Rattle.std.proofs.Common.{◌≡◌, ℕ, ◌<◌, Bool, true, false, List, length, get_or, set, refl, subst, sym, ap, ◌∙◌, inl, inr}
use Rattle.std.proofs.lemmas.Bool.{cases_eq, cases_Bool, both_ways}
use Rattle.std.proofs.lemmas.List.{get_or-set_same, get_or-set_other, length-set}
use Rattle.xw_bits.specs.Bits.{RowOfBits}
use Rattle.xw_letters.specs.Letter.{is_capital}
use Rattle.xw_feas.specs.Board.{Board, light_at, is_wholly_entered}
use Rattle.xw_feas.specs.Flags.{set_has}
use Rattle.xw_net.specs.Marks.{slot_at}
use Rattle.xw_net.specs.Spread.{bits_in, Lit, IsLit, none_waits}
use Rattle.xw_net.specs.Worklist.{ListOfLights, is_marked, is_waiting, Grows}

module _ (board : Board) (base : List RowOfBits) (start : Lit) where
  -- at the start the marked lights are on the list
  pub lit_start : (marked waiting : ℕ → Bool) → ((light : ℕ) → marked light ≡ waiting light) → IsLit board base start start marked waiting
  lit_start marked waiting seeds = record {
    rows_on = λ i lt m quiet. absurd (both_ways (waiting i) quiet (sym (seeds i) ∙ m));
    rows_off = λ i m. refl;
    entered_on = λ i lt m quiet. absurd (both_ways (waiting i) quiet (sym (seeds i) ∙ m));
    entered_off = λ i m. refl;
    restart_on = λ i q l here m quiet capital. absurd (both_ways (waiting i) quiet (sym (seeds i) ∙ m));
    restart_off = λ slot none. refl;
    queued_on = λ i lt m quiet. absurd (both_ways (waiting i) quiet (sym (seeds i) ∙ m));
    queued_off = λ i m. refl;
    rows_long = refl;
    bits_long = λ i. refl;
    entered_long = refl;
    restart_long = refl;
    queued_long = refl;
  }

  -- more lights are marked, and put on the list
  pub lit_grows : (now : Lit) (chain chain' : ListOfLights) → Grows chain chain'
      → IsLit board base start now (is_marked chain.marks) (is_waiting chain.lights) → IsLit board base start now (is_marked chain'.marks) (is_waiting chain'.lights)
  lit_grows now chain chain' grows lit = record {
    rows_on = λ i lt m quiet. let before = grows.fresh i m quiet in lit.rows_on i lt before.0 before.1;
    rows_off = λ i m. lit.rows_off i (unmarked i m);
    entered_on = λ i lt m quiet. let before = grows.fresh i m quiet in lit.entered_on i lt before.0 before.1;
    entered_off = λ i m. lit.entered_off i (unmarked i m);
    restart_on = λ i q l here m quiet capital. let before = grows.fresh i m quiet in lit.restart_on i q l here before.0 before.1 capital;
    restart_off = λ slot none. lit.restart_off slot (λ i q here at. unmarked i (none i q here at));
    queued_on = λ i lt m quiet. let before = grows.fresh i m quiet in lit.queued_on i lt before.0 before.1;
    queued_off = λ i m. lit.queued_off i (unmarked i m);
    rows_long = lit.rows_long;
    bits_long = lit.bits_long;
    entered_long = lit.entered_long;
    restart_long = lit.restart_long;
    queued_long = lit.queued_long;
  }
    where
      unmarked : (i : ℕ) → is_marked chain'.marks i ≡ false → is_marked chain.marks i ≡ false
      unmarked i h = elim (cases_Bool (is_marked chain.marks i)) [
        | inl m ↦ absurd (both_ways (is_marked chain'.marks i) h (grows.more i m))
        | inr m ↦ m
      ]

  -- the words of a marked light come back
  pub lit_bring : (now : Lit) (rows : List RowOfBits) (restart : List ℕ) (marked waiting left : ℕ → Bool) (o : ℕ) → marked o ≡ true
      → ((i : ℕ) → (i ≡ o → ⊥) → left i ≡ false → waiting i ≡ false)
      → o < length board.lights → o < length now.entered → o < length now.queued
      → length rows ≡ length now.rows → length (bits_in now.rows o) ≡ length (bits_in base o)
      → bits_in rows o ≡ bits_in base o → ((i : ℕ) → (i ≡ o → ⊥) → bits_in rows i ≡ bits_in now.rows i)
      → length restart ≡ length now.restart
      → ((position letter : ℕ) → position < length (light_at board o) → is_capital letter ≡ true → set_has restart (slot_at board o position) letter ≡ true)
      → ((slot : ℕ) → ((position : ℕ) → position < length (light_at board o) → slot_at board o position ≡ slot → ⊥) → get_or restart slot 0 ≡ get_or now.restart slot 0)
      → ((slot letter : ℕ) → is_capital letter ≡ true → set_has now.restart slot letter ≡ true → set_has restart slot letter ≡ true)
      → IsLit board base start now marked waiting
      → IsLit board base start (record { rows = rows; entered = set now.entered o (is_wholly_entered board (light_at board o)); restart = restart; queued = set now.queued o true }) marked left
  lit_bring now rows restart marked waiting left o on quieter in_board in_entered in_queued rows_long bits_long rows_here rows_there restart_long restart_on restart_off restart_more lit = record {
    rows_on = λ i lt m quiet. elim (cases_eq i o) [
      | inl e ↦ subst (λ n. bits_in rows n ≡ bits_in base n) (sym e) rows_here
      | inr n ↦ rows_there i n ∙ lit.rows_on i lt m (quieter i n quiet)
    ];
    rows_off = λ i m. rows_there i (other i m) ∙ lit.rows_off i m;
    entered_on = λ i lt m quiet. elim (cases_eq i o) [
      | inl e ↦ subst (λ n. get_or (set now.entered o (is_wholly_entered board (light_at board o))) n false ≡ is_wholly_entered board (light_at board n)) (sym e) (get_or-set_same now.entered o (is_wholly_entered board (light_at board o)) false in_entered)
      | inr n ↦ get_or-set_other now.entered o i (is_wholly_entered board (light_at board o)) false n ∙ lit.entered_on i lt m (quieter i n quiet)
    ];
    entered_off = λ i m. get_or-set_other now.entered o i (is_wholly_entered board (light_at board o)) false (other i m) ∙ lit.entered_off i m;
    restart_on = λ i q l here m quiet capital. elim (cases_eq i o) [
      | inl e ↦
          let Here : ℕ → Type 0 = λ n. q < length (light_at board n) in
          ap (λ n. set_has restart (slot_at board n q) l) e ∙ restart_on q l (subst Here e here.1) capital
      | inr n ↦ restart_more (slot_at board i q) l capital (lit.restart_on i q l here m (quieter i n quiet) capital)
    ];
    restart_off = λ slot none.
        restart_off slot (λ q lt at. both_ways (marked o) (none o q (in_board, lt) at) on)
        ∙ lit.restart_off slot none;
    queued_on = λ i lt m quiet. elim (cases_eq i o) [
      | inl e ↦ ap (λ n. get_or (set now.queued o true) n false) e ∙ get_or-set_same now.queued o true false in_queued
      | inr n ↦ get_or-set_other now.queued o i true false n ∙ lit.queued_on i lt m (quieter i n quiet)
    ];
    queued_off = λ i m. get_or-set_other now.queued o i true false (other i m) ∙ lit.queued_off i m;
    rows_long = rows_long ∙ lit.rows_long;
    bits_long = λ i. elim (cases_eq i o) [
      | inl e ↦ subst (λ n. length (bits_in rows n) ≡ length (bits_in start.rows n)) (sym e) (ap length rows_here ∙ sym bits_long ∙ lit.bits_long o)
      | inr n ↦ ap length (rows_there i n) ∙ lit.bits_long i
    ];
    entered_long = length-set now.entered o (is_wholly_entered board (light_at board o)) ∙ lit.entered_long;
    restart_long = restart_long ∙ lit.restart_long;
    queued_long = length-set now.queued o true ∙ lit.queued_long;
  }
    where
      other : (i : ℕ) → marked i ≡ false → i ≡ o → ⊥
      other i h e = both_ways (marked i) h (ap marked e ∙ on)

  -- at the end no light is on the list
  pub lit_end : (now : Lit) (marked waiting : ℕ → Bool) → ((light : ℕ) → waiting light ≡ false) → IsLit board base start now marked waiting → IsLit board base start now marked none_waits
  lit_end now marked waiting none lit = record {
    rows_on = λ i lt m quiet. lit.rows_on i lt m (none i);
    rows_off = lit.rows_off;
    entered_on = λ i lt m quiet. lit.entered_on i lt m (none i);
    entered_off = lit.entered_off;
    restart_on = λ i q l here m quiet capital. lit.restart_on i q l here m (none i) capital;
    restart_off = lit.restart_off;
    queued_on = λ i lt m quiet. lit.queued_on i lt m (none i);
    queued_off = lit.queued_off;
    rows_long = lit.rows_long;
    bits_long = lit.bits_long;
    entered_long = lit.entered_long;
    restart_long = lit.restart_long;
    queued_long = lit.queued_long;
  }
