-- A letter that no word of a light has is removed from a cell of the light.
use Rattle.std.proofs.Common.{◌≡◌, ℕ, ◌-◌, ◌/◌, ◌≤◌, Bool, true, false, not, ◌&&◌, cond, eqb, ltb, refl, sym, ap, ◌∙◌, inl, inr}
use Rattle.std.proofs.lemmas.Bool.{both_ways, false_from_ne_true, and_parts, or_cases, or_left, or_right, lt-ltb, le-ltb}
use Rattle.xw_letters.specs.Letter.{IsLetter}
use Rattle.xw_words.specs.Dictionary.{Dictionary}
use Rattle.xw_feas.specs.Board.{Board}
use Rattle.xw_net.specs.Marks.{Marks, IsPositionIn, cell_at, AreSlotsApart}
use Rattle.xw_net.specs.Due.{Measure, IsUnderway, and_light, chunks}
use Rattle.xw_net.specs.Nets.{word_stands, held_in, restart_in}
use Rattle.xw_net.specs.Steps.{IsStruckFrom}
use Rattle.xw_net.specs.declared.net.Net.{Net}
use Rattle.xw_net.proofs.Costs.DueTicks.{IsFrom}
use Rattle.xw_net.proofs.Stripping.StepsKeepInvariant.{IsDropped, same_stays, drops_sound, drops_paid}

-- the chunk from which the next search starts
pub from_of : ℕ → ℕ → Bool → ℕ
from_of n h again = cond (ltb h n && not again) (h / 64) 0

pub from_is : (n h : ℕ) (again : Bool) → IsFrom n h again (from_of n h again)
unfolding from_of
from_is n h again = (
  (λ lt never. ap (λ b. cond (b && not again) (h / 64) 0) (lt-ltb h n lt) ∙ ap (λ b. cond (true && not b) (h / 64) 0) never),
  (λ le. ap (λ b. cond (b && not again) (h / 64) 0) (le-ltb h n le)),
  (λ is. ap (λ b. cond (ltb h n && not b) (h / 64) 0) is ∙ off (ltb h n)),
) where
  off : (b : Bool) → cond (b && false) (h / 64) 0 ≡ 0
  off true = refl
  off false = refl

module _ (board : Board) (dictionary : Dictionary) (apart : AreSlotsApart board) where
  module _ (old new : Marks) (i q b from : ℕ) (position : IsPositionIn board i q) (letter : IsLetter b) (dropped : IsDropped board dictionary old new i q b from) where
    free_before : (j : ℕ) → and_light new.queued i j ≡ false → and_light old.queued i j ≡ false
    free_before j off = false_from_ne_true (and_light old.queued i j) (λ h.
        both_ways (and_light new.queued i j) off
        (elim (or_cases (old.queued j) (eqb j i) h) [
          | inl waits ↦ or_left (new.queued j) (eqb j i) (dropped.drops.queued_more j waits)
          | inr same ↦ or_right (new.queued j) (eqb j i) same
        ]))

    alive_before : (y d : ℕ) → new.letters y d ≡ true → old.letters y d ≡ true
    alive_before y d alive = (and_parts (old.letters y d) (not (eqb y (cell_at board i q) && eqb d b)) (sym (dropped.drops.letters y d) ∙ alive)).0

    pub dropped_under : (measure : Measure) (ticks ticks' : ℕ) → measure.member i ≡ true → ticks' - ticks ≤ chunks board dictionary i - from
        → IsUnderway board dictionary measure old (and_light old.queued i) ticks → IsUnderway board dictionary measure new (and_light new.queued i) ticks'
    dropped_under measure ticks ticks' in_set cost under = record {
      kept = record {
        sound = drops_sound board dictionary apart old new i q b position letter from dropped under.kept.sound;
        held = λ j r d here off alive. same_stays board dictionary apart old new dropped.words dropped.held j r d (under.kept.held j r d here (free_before j off) (alive_before (cell_at board j r) d alive));
      };
      paid = drops_paid board dictionary apart old new i q b position letter from dropped measure ticks ticks' under.kept.sound under.paid in_set cost;
    }

-- only letters, pending letters and the queue changed, in two steps
pub struck_struck : (a b c : Net) → IsStruckFrom a b → IsStruckFrom b c → IsStruckFrom a c
struck_struck a b c first second = second ∙ ap (λ (net : Net). record net { letters = c.letters; pending = c.pending; queue = c.queue }) first

module _ (old new : Net) (same : IsStruckFrom old new) where
  pub words_struck : (j k : ℕ) → word_stands new j k ≡ word_stands old j k
  unfolding word_stands
  words_struck j k = ap (λ (net : Net). word_stands net j k) same

  pub held_struck : (s d : ℕ) → held_in new s d ≡ held_in old s d
  unfolding held_in
  held_struck s d = ap (λ (net : Net). held_in net s d) same

  pub restart_struck : (s d : ℕ) → restart_in new s d ≡ restart_in old s d
  unfolding restart_in
  restart_struck s d = ap (λ (net : Net). restart_in net s d) same
