-- From the vectors of a net to its marks.
use Rattle.std.proofs.Common.{◌≡◌, ℕ, zero, suc, ◌+◌, ◌-◌, ◌*◌, ◌<◌, Bool, true, false, eqb, List, [], ◌∷◌, ◌++◌, length, get_or, count_by, refl, sym, ap, ◌∙◌}
use Rattle.std.specs.Prelude.{not}
use Rattle.std.proofs.lemmas.Bool.{or_cases, and_parts, eqb-true, both_ways, false_from_ne_true}
use Rattle.xw_bits.specs.Bits.{RowOfBits}
use Rattle.xw_words.specs.Dictionary.{Dictionary, known_words}
use Rattle.xw_letters.specs.LetterSet.{has}
use Rattle.xw_feas.specs.Board.{Board, light_at, is_wholly_entered}
use Rattle.xw_feas.specs.Choices.{is_base_at}
use Rattle.xw_feas.specs.Feasible.{may_stand}
use Rattle.xw_feas.specs.Flags.{set_has}
use Rattle.xw_net.specs.declared.net.Net.{Net}
use Rattle.xw_net.specs.Base.{base_bits}
use Rattle.xw_net.specs.Nets.{marks_of, word_stands, letter_stands, held_in, restart_in, pending_in, queued_in}
use Rattle.xw_net.specs.Spread.{none_waits, is_barren, barren_positions, bits_in, Lit, lit, IsLit, IsSpread}
use Rattle.xw_net.specs.Worklist.{ListOfLights}
use Rattle.xw_net.specs.Brought.{IsBase, IsBrought}
use Rattle.xw_net.proofs.BaseRows.ClearRows.{none_set}

-- no flag is set if no bit is and the last flag is not
none_flag : (bits : List Bool) → ((i : ℕ) → get_or bits i false ≡ false) → (choice : ℕ) → get_or (bits ++ false ∷ []) choice false ≡ false
none_flag [] none zero = refl
none_flag [] none (suc i) = refl
none_flag (b ∷ bits) none zero = none zero
none_flag (b ∷ bits) none (suc i) = none_flag bits (λ k. none (suc k)) i

not_true : (b : Bool) → not b ≡ true → b ≡ false
not_true true h = cc
not_true false h = refl

-- what it means that a light is barren
barren_none : (board : Board) (base : List RowOfBits) (light : ℕ) → is_barren board base light ≡ true
    → (count_by (λ bit. bit) (bits_in base light) ≡ 0) × (is_wholly_entered board (light_at board light) ≡ false)
barren_none board base light h =
    let both = and_parts (eqb (count_by (λ bit. bit) (bits_in base light)) 0) (not (is_wholly_entered board (light_at board light))) h in
    (eqb-true (count_by (λ bit. bit) (bits_in base light)) 0 both.0, not_true (is_wholly_entered board (light_at board light)) both.1)

-- the arrays of a net that a revival changes
abbrev pub lit_of : Net → Lit
lit_of net = lit net.rows.items net.entered.items net.restart.items net.queue

pub lit_same : (rows rows' : List RowOfBits) (entered entered' : List Bool) (restart restart' : List ℕ) (queue : ListOfLights)
    → rows ≡ rows' → entered ≡ entered' → restart ≡ restart' → lit rows entered restart queue ≡ lit rows' entered' restart' queue
lit_same rows rows' entered entered' restart restart' queue a b c = cc

module _ (board : Board) (dictionary : Dictionary) (base : List RowOfBits) (old new : Net) (chain : ℕ → Bool)
    (is_base : IsBase board dictionary base) (in_board : (light : ℕ) → chain light ≡ true → light < length board.lights)
    (lit : IsLit board base (lit_of old) (lit_of new) chain none_waits)
    (spread : IsSpread board (set_has old.letters.items) (set_has new.letters.items) chain none_waits (barren_positions board base))
    (held : new.held.items ≡ old.held.items) (pending : new.pending.items ≡ old.pending.items) where
  -- a light with a base word is not barren
  has_word : (light choice : ℕ) → light < length board.lights → is_base_at board dictionary light choice ≡ true → is_barren board base light ≡ false
  has_word light choice lt is =
      false_from_ne_true (is_barren board base light) (λ barren.
      let none = barren_none board base light barren in
      both_ways (is_base_at board dictionary light choice)
      (ap (λ bs. get_or (bs ++ is_wholly_entered board (light_at board light) ∷ []) choice false) (sym (is_base light lt))
      ∙ ap (λ e. get_or (bits_in base light ++ e ∷ []) choice false) none.1
      ∙ none_flag (bits_in base light) (none_set (bits_in base light) none.0) choice)
      is)

  pub brought_from : IsBrought board dictionary (marks_of old) (marks_of new) chain
  unfolding word_stands letter_stands held_in restart_in pending_in queued_in
  brought_from = record {
    lights = in_board;
    words_on = λ light choice on.
        ap (λ bs. get_or (bs ++ get_or new.entered.items light false ∷ []) choice false) (lit.rows_on light (in_board light on) on refl ∙ is_base light (in_board light on))
        ∙ ap (λ e. get_or (base_bits board (light_at board light) (known_words dictionary (length (light_at board light))) ++ e ∷ []) choice false) (lit.entered_on light (in_board light on) on refl);
    words_off = λ light choice off.
        ap (λ bs. get_or (bs ++ get_or new.entered.items light false ∷ []) choice false) (lit.rows_off light off)
        ∙ ap (λ e. get_or (bits_in old.rows.items light ++ e ∷ []) choice false) (lit.entered_off light off);
    letters_on = λ light position choice here on is. spread.on light position here on refl (has_word light choice (in_board light on) is);
    letters_off = spread.reaches;
    letters_from = λ cell letter stands. or_cases (set_has old.letters.items cell letter) (may_stand board cell letter) (spread.from cell letter stands);
    letters_stay = spread.stay;
    held = λ slot letter. ap (λ hs. get_or hs (26 * slot + (letter - 65)) 0) held;
    restart_on = λ light position letter here on capital. lit.restart_on light position letter here on refl capital;
    restart_off = λ slot letter none. ap (λ s. has s letter) (lit.restart_off slot none);
    pending = λ slot letter. ap (λ ps. set_has ps slot letter) pending;
    queued_on = λ light on. lit.queued_on light (in_board light on) on refl;
    queued_off = λ light off. lit.queued_off light off;
  }
