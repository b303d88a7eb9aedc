-- What holds of a net after a cell lost letters that no word of a light has.
use Rattle.std.proofs.Common.{◌≡◌, ◌⊎◌, ℕ, zero, suc, ◌+◌, ◌*◌, Bool, true, false, not, ◌&&◌, ◌||◌, eqb, List, [], ◌∷◌, ◌++◌, get_or, refl, sym, ap, ◌∙◌, inl, inr}
use Rattle.std.proofs.lemmas.Bool.{and_parts, or_cases, eqb-true}
use Rattle.xw_letters.specs.Letter.{IsLetter}
use Rattle.xw_words.specs.Dictionary.{Dictionary}
use Rattle.xw_feas.specs.Board.{Board, light_at}
use Rattle.xw_net.specs.Marks.{Marks, side_of, IsPositionIn, IsSlot, IsHeld, IsHolding, LeavesPending, AreSlotsApart, cell_at, puts}
use Rattle.xw_net.specs.Marks.LeavesPending.{crossed, alone}
use Rattle.xw_net.specs.Due.{Measure, IsUnderway, and_light}
use Rattle.xw_net.specs.Nets.{marks_of, bits_for, word_stands, letter_stands, pending_in, queued_in}
use Rattle.xw_net.specs.declared.net.Net.{Net}
use Rattle.xw_net.proofs.Stripping.RemovedLetters.{crossed_drops, alone_drops}
use Rattle.xw_net.proofs.Stripping.DroppedAtOnce.{dropped_all}
use Rattle.xw_net.proofs.Stripping.DroppedLetters.{words_struck, held_struck, restart_struck}
use Rattle.xw_net.proofs.Stripping.HeldWords.{same_holding}
use Rattle.xw_net.proofs.Stripping.StepsKeepInvariant.{same_stays}
use Rattle.xw_net.proofs.Stripping.StruckRows.{set_letter}

or_none : (b : Bool) → (b || false) ≡ b
or_none true = refl
or_none false = refl

-- a row of clear bits and no entered word
all_clear : (bits : List Bool) → ((i : ℕ) → get_or bits i false ≡ false) → (choice : ℕ) → get_or (bits ++ false ∷ []) choice false ≡ false
all_clear [] clear zero = refl
all_clear [] clear (suc choice) = refl
all_clear (bit ∷ bits) clear zero = clear 0
all_clear (bit ∷ bits) clear (suc choice) = all_clear bits (λ i. clear (suc i)) choice

pub no_words : (net : Net) (light : ℕ) → get_or net.entered.items light false ≡ false → ((i : ℕ) → get_or (bits_for net light) i false ≡ false) → (choice : ℕ) → word_stands net light choice ≡ false
unfolding word_stands
no_words net light unentered clear choice = ap (λ flag. get_or (bits_for net light ++ flag ∷ []) choice false) unentered ∙ all_clear (bits_for net light) clear choice

module _ (board : Board) (dictionary : Dictionary) (apart : AreSlotsApart board) (old new : Net) (i q : ℕ) (gone : ℕ → Bool) (position : IsPositionIn board i q)
    (same : new ≡ record old { letters = new.letters; pending = new.pending; queue = new.queue })
    (letters : (cell letter : ℕ) → letter_stands new cell letter ≡ (letter_stands old cell letter && not (eqb cell (cell_at board i q) && gone letter)))
    (leaves : LeavesPending board i q gone (marks_of old) (marks_of new)) where
  pub still_held : (j r d : ℕ) → IsHeld board dictionary (marks_of old) j r d → IsHeld board dictionary (marks_of new) j r d
  still_held j r d = same_stays board dictionary apart (marks_of old) (marks_of new) (words_struck old new same) (held_struck old new same) j r d

  pub alive_before : (cell letter : ℕ) → letter_stands new cell letter ≡ true → letter_stands old cell letter ≡ true
  alive_before cell letter alive = (and_parts (letter_stands old cell letter) (not (eqb cell (cell_at board i q) && gone letter)) (sym (letters cell letter) ∙ alive)).0

  pub still_holding : IsHolding board dictionary (marks_of old) → IsHolding board dictionary (marks_of new)
  still_holding = same_holding board dictionary (marks_of old) (marks_of new) (held_struck old new same)

  module _ (stood : (letter : ℕ) → gone letter ≡ true → letter_stands old (cell_at board i q) letter ≡ true)
      (none_has : (letter k : ℕ) → gone letter ≡ true → word_stands old i k ≡ true → puts board dictionary i q letter k ≡ true → ⊥) where
    are_letters : (letter : ℕ) → gone letter ≡ true → IsLetter letter
    unfolding letter_stands
    are_letters letter goes = set_letter (get_or old.letters.items (cell_at board i q) 0) letter (stood letter goes)

    pub still_under : (first : ℕ) → gone first ≡ true → (measure : Measure) (ticks : ℕ) → measure.member i ≡ true
        → IsUnderway board dictionary measure (marks_of old) (and_light (queued_in old) i) ticks → IsUnderway board dictionary measure (marks_of new) (and_light (queued_in new) i) ticks
    still_under first goes measure ticks in_set under = go leaves where
      go : LeavesPending board i q gone (marks_of old) (marks_of new) → IsUnderway board dictionary measure (marks_of new) (and_light (queued_in new) i) ticks
      go (crossed other crossing only pending queued) =
          dropped_all board dictionary apart i q position (marks_of old) gone
          (λ s. eqb s (2 * cell_at board i q + side_of (light_at board other))) (λ j. eqb j other)
          (λ b from to ls ps qs. crossed_drops board i q b position from to ls other crossing only ps qs)
          stood none_has are_letters measure ticks in_set (marks_of new) (words_struck old new same) (held_struck old new same) (restart_struck old new same) letters pending queued first goes under
      go (alone none_crosses pending queued) =
          dropped_all board dictionary apart i q position (marks_of old) gone
          (λ s. false) (λ j. false)
          (λ b from to ls ps qs. alone_drops board i q b position from to ls none_crosses (λ s d. ps s d ∙ or_none (from.pending s d)) (λ j. qs j ∙ or_none (from.queued j)))
          stood none_has are_letters measure ticks in_set (marks_of new) (words_struck old new same) (held_struck old new same) (restart_struck old new same) letters
          (λ s d. pending s d ∙ sym (or_none (pending_in old s d))) (λ j. queued j ∙ sym (or_none (queued_in old j))) first goes under

-- a letter that became pending is pending at a slot of the board
pub pends_at : (board : Board) (old new : Marks) (i q : ℕ) (gone : ℕ → Bool) → LeavesPending board i q gone old new → (slot letter : ℕ) → new.pending slot letter ≡ true → (old.pending slot letter ≡ true) ⊎ IsSlot board slot
pends_at board old new i q gone (crossed other crossing only pending queued) slot letter pends =
    elim (or_cases (old.pending slot letter) (eqb slot (2 * cell_at board i q + side_of (light_at board other)) && gone letter) (sym (pending slot letter) ∙ pends)) [
      | inl before ↦ inl before
      | inr both ↦
          let is = eqb-true slot (2 * cell_at board i q + side_of (light_at board other)) (and_parts (eqb slot (2 * cell_at board i q + side_of (light_at board other))) (gone letter) both).0 in
          inr (other, crossing.position, (crossing.in_board, crossing.below), ap (λ n. 2 * n + side_of (light_at board other)) crossing.meets ∙ sym is)
    ]
pends_at board old new i q gone (alone none pending queued) slot letter pends = inl (sym (pending slot letter) ∙ pends)
