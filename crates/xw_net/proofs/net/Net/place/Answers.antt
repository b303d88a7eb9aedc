use Rattle.std.proofs.Common.{◌≡◌, ℕ, ◌∙◌, true, false, not, eqb, [], ◌∷◌, ◌++◌, get_or, sym, ap, refl, subst, inl, inr}
use Rattle.std.specs.Prelude.{Option, is_some, Some, None, Ok, Result, IfNone}
use Rattle.std.specs.declared.alloc.AllocError.{AllocError}
use Rattle.std.proofs.lemmas.Bool.{cases_Bool, both_ways, not_from_true, not_from_false, eq-eqb, eqb-true}
use Rattle.xw_bits.proofs.Summaries.{if_some}
use Rattle.xw_net.specs.Entered.{IsUnchanged}
use Rattle.xw_feas.specs.Passes.{Passes}
use Rattle.xw_net.specs.Nets.{word_stands, queued_in}
use Rattle.xw_net.specs.Worklist.{is_marked, is_waiting}
use Rattle.xw_net.specs.Spread.{bits_in}
use Rattle.xw_net.specs.declared.net.Net.{Net}
use Rattle.xw_net.proofs.Levels.PlacedLetters.{fills_entered, dies_entered, emptied_dies}
use Rattle.xw_net.proofs.net.Net.place.Goals as goal

pub strip_trying-requires-clause-queue : goal.strip_trying-requires-clause-queue
unfolding queued_in is_marked
strip_trying-requires-clause-queue g c light marked = elim (cases_Bool (is_waiting c.enter.new.self.queue.lights light)) [
  | inl waits ↦ waits
  | inr none ↦ absurd (both_ways (is_marked c.args.self.now.queue.marks light) (c.requires.quiet.queued light) ((c.in_ok-enter.ensures.entered.queue.grows.fresh light marked none).0))
]

none_of : (o : Option ℕ) → is_some o ≡ false → o ≡ None
none_of None is = refl
none_of (Some light) is = let never : true ≡ false = is in cc

abbrev the_result : Option ℕ → Result (Option ℕ) AllocError
the_result o = Ok o

is_empty : (o : Option ℕ) {X : Type 0} → IfNone o X → the_result o ≡ Ok None → X
is_empty None found is = found
is_empty (Some light) found is = cc

pub returns-then-is_some-clause-dies : goal.returns-then-is_some-clause-dies
returns-then-is_some-clause-dies g c =
    let e = c.enter.ensures in
    if_some c.in_ok-dead.dead (dies_entered c.args.search.grid.now c.args.board.now (g.R.Rows.entries c.args.rows.now) (g.R.Rows.entries c.enter.new.rows) e.entries c.args.search.written.now c.args.self.now c.enter.new.self e.sized e.room c.in_ok-enter.ensures.entered) c.in_ok-dead.ensures.dies

pub returns-clause-filled : goal.returns-clause-filled
returns-clause-filled g c _ =
    let e = c.enter.ensures in
    fills_entered c.args.search.grid.now c.args.board.now (g.R.Rows.entries c.args.rows.now) (g.R.Rows.entries c.enter.new.rows) e.entries c.args.search.written.now c.args.self.now c.enter.new.self e.sized e.room c.in_ok-enter.ensures.entered c.strip_trying.new.self
    (c.strip_trying.ensures.filled (c.in_ok-dead.was ∙ ap (λ o. Ok o) (none_of c.in_ok-dead.dead (sym c.is_some.ensures ∙ c.if-is_some.false))))

pub returns-clause-dies : goal.returns-clause-dies
returns-clause-dies g c =
    let e = c.enter.ensures in
    if_some c.dead_through_new.result (λ light found. emptied_dies c.args.search.grid.now c.args.board.now (g.R.Rows.entries c.args.rows.now) c.args.search.written.now c.args.self.now c.strip_trying.new.self light
    (fills_entered c.args.search.grid.now c.args.board.now (g.R.Rows.entries c.args.rows.now) (g.R.Rows.entries c.enter.new.rows) e.entries c.args.search.written.now c.args.self.now c.enter.new.self e.sized e.room c.in_ok-enter.ensures.entered c.strip_trying.new.self
    (c.strip_trying.ensures.filled (c.in_ok-dead.was ∙ ap (λ o. Ok o) (none_of c.in_ok-dead.dead (sym c.is_some.ensures ∙ c.if-is_some.false))))) found.2) c.dead_through_new.ensures.some

is_apart : (other light : ℕ) → (other ≡ light → ⊥) → not (eqb other light) ≡ true
is_apart other light apart = elim (cases_Bool (eqb other light)) [
  | inl same ↦ absurd (apart (eqb-true other light same))
  | inr other_one ↦ not_from_false (eqb other light) other_one
]

same_word : (old new : Net) (light choice : ℕ) → IsUnchanged light old new → word_stands new light choice ≡ word_stands old light choice
unfolding word_stands
same_word old new light choice stays =
    ap (λ bits. get_or (bits ++ get_or new.entered.items light false ∷ []) choice false) stays.rows
    ∙ ap (λ flag. get_or (bits_in old.rows.items light ++ flag ∷ []) choice false) stays.flag

pub returns-clause-alive : goal.returns-clause-alive
unfolding word_stands is_marked queued_in
returns-clause-alive g c is light watched emptied =
    let old = c.args.self.now in
    let entered = c.enter.new.self in
    let e = c.in_ok-enter.ensures.entered in
    let empty = c.strip_trying.ensures.alive (c.in_ok-dead.was ∙ ap (λ o. Ok o) (none_of c.in_ok-dead.dead (sym c.is_some.ensures ∙ c.if-is_some.false))) light watched emptied in
    elim (cases_Bool (is_marked entered.queue.marks light)) [
      | inl marked ↦ absurd (both_ways (not (eqb light light)) (not_from_true (eqb light light) (eq-eqb light light refl)) (e.queue.only (λ other. not (eqb other light)) (λ other was. absurd (both_ways (is_marked old.queue.marks other) (c.requires.quiet.queued other) was))
          (λ other through. is_apart other light (λ same. is_empty c.dead_through_new.result c.dead_through_new.ensures.none is through.0 light through.1 (subst (λ n. Passes c.args.board.now through.0 n) same (through.2.1.0, (through.2.0, through.2.1.1, through.2.2))) watched emptied)) light marked))
      | inr off ↦ λ choice. sym (same_word old entered light choice (e.off light off)) ∙ empty choice
    ]
