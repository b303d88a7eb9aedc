-- A net that was stripped until no light is queued has exactly what is feasible.
use Rattle.std.proofs.Common.{◌≡◌, ℕ, true, false, List, [], length, sym, ap, ◌∙◌, subst, arith}
use Rattle.std.specs.Prelude.{vec_items}
use Rattle.std.proofs.lemmas.Bool.{false_from_ne_true, both_ways}
use Rattle.xw_words.specs.Dictionary.{Dictionary, Entry, known_words}
use Rattle.xw_feas.specs.Board.{Board, light_at}
use Rattle.xw_net.specs.Brought.{HasBase, IsBase}
use Rattle.xw_net.specs.Filled.{IsUnstripped, IsFilled}
use Rattle.xw_net.specs.Marks.{IsHolding, IsReady, IsSetting, IsSettledNet, IsSlot}
use Rattle.xw_net.specs.Nets.{IsShaped, HasBits, IsQueue, marks_of, pending_in, queued_in}
use Rattle.xw_net.specs.Room.{row_at}
use Rattle.xw_net.specs.Steps.{IsStep, IsStrippable}
use Rattle.xw_net.specs.Worklist.{ListOfLights, is_marked, is_waiting}
use Rattle.xw_net.specs.declared.net.Net.{Net}
use Rattle.xw_net.proofs.Lists.ListsOfLights.{waiting-none}
use Rattle.xw_net.proofs.Stripping.EndOfStripping.{settled_net, settled_exact}
use Rattle.xw_net.proofs.Stripping.LeftByStripping.{left_chained}

-- taking a light leaves a net that can be stripped
pub taken_strippable : (board : Board) (entries known : ℕ → List Entry) (net : Net) (queue : ListOfLights) → queue ≡ record net.queue { lights = queue.lights } → known ≡ entries → IsShaped board net → HasBits board entries net
    → IsStrippable board known (record net { queue = queue })
taken_strippable board entries known net queue rest same shaped bits = record {
  shaped = record {
    few_cells = shaped.few_cells;
    rows = shaped.rows;
    entered = shaped.entered;
    letters = shaped.letters;
    held = shaped.held;
    restart = shaped.restart;
    pending = shaped.pending;
    queue = ap length (ap (λ (list : ListOfLights). list.marks) rest) ∙ shaped.queue;
  };
  bits = subst (λ entries. HasBits board entries net) (sym same) bits;
}

-- taking a light from an empty list changes nothing
pub taken_none : (net : Net) (queue : ListOfLights) → net.queue.lights ≡ [] → queue.lights ≡ [] → queue ≡ record net.queue { lights = queue.lights } → record net { queue = queue } ≡ net
taken_none net queue none left rest =
    ap (λ (queue : ListOfLights). record net { queue = queue }) (rest ∙ ap (λ (lights : List ℕ). record net.queue { lights = lights }) (left ∙ sym none))

module _ (board : Board) (entries : ℕ → List Entry) (dictionary : Dictionary) (setting : IsSetting board entries dictionary) (old last : Net) (from : IsUnstripped board dictionary old) (step : IsStep board entries old last)
    (ready : IsReady board dictionary (marks_of last)) (queue : IsQueue last) (none : last.queue.lights ≡ []) where
  none_queued : (light : ℕ) → queued_in last light ≡ false
  none_queued light = false_from_ne_true (queued_in last light) (λ is. both_ways (is_waiting last.queue.lights light) (waiting-none last.queue.lights light none) (queue light is))

  settled : IsSettledNet board dictionary (marks_of last)
  settled = settled_net board dictionary (marks_of last) ready (λ light lt. none_queued light)

  none_pending : ((slot letter : ℕ) → pending_in last slot letter ≡ true → IsSlot board slot) → (slot letter : ℕ) → pending_in last slot letter ≡ false
  none_pending at slot letter =
      false_from_ne_true (pending_in last slot letter) (λ pends.
      let there = at slot letter pends in
      both_ways (pending_in last slot letter) (ap (λ s. pending_in last s letter) (sym there.3) ∙ settled.none_pending there.0 there.1 letter there.2) pends)

  pub stripped_filled : IsHolding board dictionary (marks_of last) → ((slot letter : ℕ) → pending_in last slot letter ≡ true → IsSlot board slot) → IsFilled board dictionary last
  stripped_filled holding at =
      let base = ap (λ v. vec_items v) step.rest.base in
      record {
        whole = record {
          shaped = step.shaped;
          chained = left_chained board old last step.rest from.whole.chained;
          bits = λ light lt. step.bits light lt ∙ ap length (setting.read (length (light_at board light)));
          base = subst (HasBase board (known_words dictionary)) (sym base) from.whole.base;
          room = λ light lt. omega (arith, from.whole.room light lt, step.rest.rows light);
          base_room = λ light lt. omega (arith, from.whole.base_room light lt, ap (λ rows. (row_at rows light).room) base);
        };
        is_base = subst (IsBase board dictionary) (sym base) from.is_base;
        settled = settled;
        holding = holding;
        exact = settled_exact board entries dictionary setting (marks_of last) settled;
        pending = none_pending at;
        quiet = record {
          queue = none;
          queued = none_queued;
          taken = ap (λ list. list.lights) step.rest.chain ∙ from.taken;
          marked = λ light. ap (λ list. is_marked list.marks light) step.rest.chain ∙ from.marked light;
        };
      }
