-- Each held known word has its letter, through every search.
use Rattle.std.proofs.Common.{◌≡◌, ℕ, ◌<◌, true, ap, ◌∙◌, sym, subst, inl, inr, arith}
use Rattle.std.proofs.lemmas.Bool.{cases_eq}
use Rattle.xw_letters.specs.Letter.{is_capital}
use Rattle.xw_words.specs.Dictionary.{Dictionary}
use Rattle.xw_letters.proofs.LetterSetLemmas.{capital_is_letter}
use Rattle.xw_feas.specs.Board.{Board}
use Rattle.xw_net.specs.Marks.{Marks, IsPositionIn, slot_at, AreSlotsApart, known, puts, IsHolding}
use Rattle.xw_net.proofs.Stripping.StepsKeepInvariant.{IsHung}

module _ (board : Board) (dictionary : Dictionary) (marks new : Marks) where
  held_same : (light position letter : ℕ) → new.held (slot_at board light position) letter ≡ marks.held (slot_at board light position) letter → IsHolding board dictionary marks → IsPositionIn board light position → is_capital letter ≡ true
      → new.held (slot_at board light position) letter < known board dictionary light → puts board dictionary light position letter (new.held (slot_at board light position) letter) ≡ true
  held_same light position letter same holding here capital lt = ap (puts board dictionary light position letter) same ∙ holding light position letter here capital (omega (arith, same, lt))

  -- the held words are unchanged
  pub same_holding : ((slot letter : ℕ) → new.held slot letter ≡ marks.held slot letter) → IsHolding board dictionary marks → IsHolding board dictionary new
  same_holding same holding light position letter here capital lt = held_same light position letter (same (slot_at board light position) letter) holding here capital lt

  -- a word that has the letter becomes the held one
  pub hung_holding : AreSlotsApart board → (i q b word : ℕ) → IsPositionIn board i q → IsHung board dictionary marks new i q b word → puts board dictionary i q b word ≡ true → IsHolding board dictionary marks → IsHolding board dictionary new
  hung_holding apart i q b word position hung has holding light r letter here capital lt =
      let other = λ (n : (slot_at board light r ≡ slot_at board i q) × (letter ≡ b) → ⊥).
      held_same light r letter (hung.held_rest (slot_at board light r) letter (capital_is_letter letter capital) n) holding here capital lt in
      elim (cases_eq (slot_at board light r) (slot_at board i q)) [
        | inl meets ↦ elim (cases_eq letter b) [
          | inl is ↦
              let at = apart light r i q here position meets in
              let P : ℕ → ℕ → ℕ → Type 0 = λ l p d. puts board dictionary l p d (new.held (slot_at board l p) d) ≡ true in
              subst (λ l. P l r letter) (sym at.0) (subst (λ p. P i p letter) (sym at.1) (subst (P i q) (sym is) (ap (puts board dictionary i q b) hung.held_here ∙ has)))
          | inr n ↦ other (λ both. n both.1)
        ]
        | inr n ↦ other (λ both. n both.0)
      ]
