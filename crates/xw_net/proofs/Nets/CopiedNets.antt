-- A copy of a net is settled for the same states.
use Rattle.std.proofs.Common.{◌≡◌, ℕ, ◌+◌, ◌-◌, ◌*◌, ◌<◌, ◌≤◌, Bool, false, List, [], ◌∷◌, ◌++◌, length, get_or, refl, sym, ap, ◌∙◌, subst, inl, inr, arith}
use Rattle.std.specs.Prelude.{vec_len}
use Rattle.std.specs.Coded.{Coded-set, coded_ℕ, coded_bool, coded_list, le_prop}
use Rattle.std.proofs.Math.Logic.{∥∥₁_elim}
use Rattle.std.proofs.lemmas.Bool.{cases_lt, false_from_ne_true}
use Rattle.std.proofs.lemmas.List.FromFn.{fill_by_all}
use mathlib.Core.HLevel.{Π_prop}
use mathlib.Core.Bool.{Bool-set}
use Rattle.xw_bits.specs.Bits.{RowOfBits}
use Rattle.xw_words.specs.Dictionary.{Dictionary, IsDictionary, known_words}
use Rattle.xw_grid.specs.declared.lights.Light.{Light}
use Rattle.xw_grid.specs.Grid.{Grid, IsGrid}
use Rattle.xw_grid.specs.Light.{lights_of}
use Rattle.xw_feas.specs.Board.{board_of, light_at}
use Rattle.xw_feas.specs.Choices.{IsExact}
use Rattle.xw_feas.specs.Flags.{set_has}
use Rattle.xw_feas.specs.State.{State}
use Rattle.xw_feas.proofs.BoardLemmas.{length-lights, length-open_cells}
use Rattle.xw_feas.proofs.FormedLemmas.{length-light_at}
use Rattle.xw_net.specs.Inner.Blank.{IsBlank}
use Rattle.xw_net.specs.Copy.{IsReusable, CanCopy, IsCopy, AreRowsCopied}
use Rattle.xw_net.specs.Brought.{IsBase}
use Rattle.xw_net.specs.Filled.{IsWholeNet, IsQuiet, IsFilled}
use Rattle.xw_net.specs.Fit.{IsAtRest}
use Rattle.xw_net.specs.Marks.{IsHolding, IsSettledNet}
use Rattle.xw_net.specs.Net.{row_flags, flags_of, sets_of, known_counts, IsSettledFor}
use Rattle.xw_net.specs.Nets.{marks_of, bits_for, word_stands, letter_stands, held_in, restart_in, pending_in, queued_in}
use Rattle.xw_net.specs.Room.{counts_of, HaveBits, HasRoom}
use Rattle.xw_net.specs.Spread.{bits_in}
use Rattle.xw_net.specs.Worklist.{is_marked}
use Rattle.xw_net.specs.declared.net.Net.{Net}
use Rattle.xw_net.proofs.Nets.NetsAtRest.{whole_rest, rest_prop}
use Rattle.xw_net.proofs.Nets.BlankNets.{blank_fresh}
use Rattle.xw_net.proofs.Nets.SizesAtRest.{rest_shaped, rest_chained, rest_room, rest_bits, rest_base}
use Rattle.xw_net.proofs.Nets.RowRoom.{bits_are}
use Rattle.xw_net.proofs.Nets.SettledNets.{whole_room, filled_settled, flags_are, length-flags}

-- ---- nets that can be copied

-- the rows of a grid's net have a bit for each known word
have_bits : (grid : Grid) (dictionary : Dictionary) (rows : List RowOfBits)
    → ((light : ℕ) → light < length (board_of grid).lights → length (bits_in rows light) ≡ length (known_words dictionary (length (light_at (board_of grid) light)))) → HaveBits (lights_of grid) (known_counts dictionary) rows
have_bits grid dictionary rows have light lt =
    ap length (sym (bits_are rows light)) ∙ have light (omega (arith, lt, length-lights grid)) ∙ ap (known_counts dictionary) (length-light_at grid light lt)

whole_reusable : (grid : Grid) (dictionary : Dictionary) (net : Net) → IsWholeNet (board_of grid) (known_words dictionary) net → IsQuiet net → ((slot letter : ℕ) → pending_in net slot letter ≡ false)
    → ((light choice : ℕ) → length (lights_of grid) ≤ light → word_stands net light choice ≡ false) → IsReusable (lights_of grid) (known_counts dictionary) (length grid.squares) net
whole_reusable grid dictionary net whole quiet pending past = record {
  rest = subst (λ cells. IsAtRest (lights_of grid) cells net) (whole.shaped.letters ∙ length-open_cells grid) (whole_rest grid dictionary net whole quiet);
  whole = record { rows = have_bits grid dictionary net.rows.items whole.bits; base = have_bits grid dictionary net.base.items whole.base.bits };
  room = whole_room grid dictionary net whole quiet;
  pending = pending;
  past = past;
}

filled_reusable : (grid : Grid) (dictionary : Dictionary) (net : Net) → IsFilled (board_of grid) dictionary net → IsReusable (lights_of grid) (known_counts dictionary) (length grid.squares) net
filled_reusable grid dictionary net filled =
    whole_reusable grid dictionary net filled.whole filled.quiet filled.pending
    (λ light choice beyond. false_from_ne_true (word_stands net light choice) (λ stands. let lt = filled.settled.ready.sound.within.lights light choice stands in omega (arith, lt, beyond, length-lights grid)))

-- a blank net can be copied into
pub blank_reusable : (grid : Grid) → IsGrid grid → (dictionary : Dictionary) → IsDictionary dictionary → (net : Net) → IsBlank (lights_of grid) (counts_of (known_words dictionary)) (length grid.squares) net
    → HasRoom (lights_of grid) (counts_of (known_words dictionary)) net → IsReusable (lights_of grid) (known_counts dictionary) (length grid.squares) net
blank_reusable grid is_grid dictionary is_dictionary net blank room =
    let fresh = blank_fresh grid is_grid dictionary is_dictionary net blank room in
    whole_reusable grid dictionary net fresh.whole fresh.quiet fresh.pending (λ light choice beyond. fresh.past light choice (omega (arith, beyond, length-lights grid)))

reusable_prop : (lights : List Light) (counts : ℕ → ℕ) (cells : ℕ) (net : Net) → IsProp (IsReusable lights counts cells net)
reusable_prop lights counts cells net x y = λ i. record {
  rest = rest_prop lights cells net x.rest y.rest i;
  whole = record {
    rows = Π_prop (λ light. Π_prop (λ lt. Coded-set coded_ℕ _ _)) x.whole.rows y.whole.rows i;
    base = Π_prop (λ light. Π_prop (λ lt. Coded-set coded_ℕ _ _)) x.whole.base y.whole.base i;
  };
  room = record {
    rows = Π_prop (λ light. Π_prop (λ lt. le_prop)) x.room.rows y.room.rows i;
    base = Π_prop (λ light. Π_prop (λ lt. le_prop)) x.room.base y.room.base i;
  };
  pending = Π_prop (λ slot. Π_prop (λ letter. Bool-set (pending_in net slot letter) false)) x.pending y.pending i;
  past = Π_prop (λ light. Π_prop (λ choice. Π_prop (λ beyond. Bool-set (word_stands net light choice) false))) x.past y.past i;
}

-- a settled net can be copied, and copied into
pub settled_reusable : (state : State) (net : Net) → ∥ IsSettledFor state net ∥₁ → IsReusable (lights_of state.grid) (known_counts state.words) (length state.grid.squares) net
settled_reusable state net settled =
    ∥∥₁_elim settled (reusable_prop (lights_of state.grid) (known_counts state.words) (length state.grid.squares) net)
    (λ settled. filled_reusable state.grid state.words net settled.filled)

-- ---- the copy

-- the same fact about equal lists
pub rows_are : {count many : ℕ} {rows from old before new now : List RowOfBits} → count ≡ many → rows ≡ from → old ≡ before → new ≡ now → AreRowsCopied count rows old new → AreRowsCopied many from before now
rows_are {count} {many} {rows} {from} {old} {before} {new} {now} a b c d is =
    subst (λ n. AreRowsCopied n from before now) a (subst (λ rs. AreRowsCopied count rs before now) b (subst (λ rs. AreRowsCopied count rows rs now) c (subst (λ rs. AreRowsCopied count rows old rs) d is)))

-- the arrays of a net after another was copied into it
pub record IsCopied (lights : List Light) (net old new : Net) : Type 0 where
  pub rows : AreRowsCopied (length lights) net.rows.items old.rows.items new.rows.items
  pub base : AreRowsCopied (length lights) net.base.items old.base.items new.base.items
  pub entered : (light : ℕ) → light < length lights → get_or new.entered.items light false ≡ get_or net.entered.items light false
  pub entered_left : (light : ℕ) → length lights ≤ light → get_or new.entered.items light false ≡ get_or old.entered.items light false
  pub entered_long : length new.entered.items ≡ length old.entered.items
  pub letters : new.letters.items ≡ net.letters.items
  pub held : new.held.items ≡ net.held.items
  pub restart : new.restart.items ≡ net.restart.items
  pub rest : new ≡ record old { rows = new.rows; base = new.base; entered = new.entered; letters = new.letters; held = new.held; restart = new.restart }

module _ (lights : List Light) (net old new : Net) (can : CanCopy lights net old) (copied : IsCopied lights net old new) where
  bits_same : (light : ℕ) → light < length lights → bits_in new.rows.items light ≡ bits_in net.rows.items light
  bits_same light lt = bits_are new.rows.items light ∙ copied.rows.done light lt ∙ sym (bits_are net.rows.items light)

  base_same : (light : ℕ) → light < length lights → bits_in new.base.items light ≡ bits_in net.base.items light
  base_same light lt = bits_are new.base.items light ∙ copied.base.done light lt ∙ sym (bits_are net.base.items light)

  row_same : (light : ℕ) → light < length lights → row_flags new light ≡ row_flags net light
  row_same light lt =
      ap (λ (bits : List Bool). bits ++ get_or new.entered.items light false ∷ []) (bits_same light lt)
      ∙ ap (λ (flag : Bool). bits_for net light ++ flag ∷ []) (copied.entered light lt)

  words_past : (light choice : ℕ) → length lights ≤ light → word_stands new light choice ≡ false
  unfolding word_stands
  words_past light choice beyond =
      ap (λ (bits : List Bool). get_or (bits ++ get_or new.entered.items light false ∷ []) choice false) (bits_are new.rows.items light ∙ copied.rows.left light beyond ∙ sym (bits_are old.rows.items light))
      ∙ ap (λ (flag : Bool). get_or (bits_for old light ++ flag ∷ []) choice false) (copied.entered_left light beyond)
      ∙ can.to.past light choice beyond

  words_same : (light choice : ℕ) → word_stands new light choice ≡ word_stands net light choice
  unfolding word_stands
  words_same light choice = elim (cases_lt light (length lights)) [
    | inl lt ↦ ap (λ (flags : List Bool). get_or flags choice false) (row_same light lt)
    | inr beyond ↦ words_past light choice beyond ∙ sym (can.from.past light choice beyond)
  ]

  none_pending : (slot letter : ℕ) → pending_in new slot letter ≡ false
  unfolding pending_in
  none_pending slot letter = ap (λ (net : Net). pending_in net slot letter) copied.rest ∙ can.to.pending slot letter

  none_queued : (light : ℕ) → queued_in new light ≡ false
  unfolding queued_in is_marked
  none_queued light = ap (λ (net : Net). queued_in net light) copied.rest ∙ can.to.rest.is_queued light

  marks_same : marks_of new ≡ marks_of net
  unfolding letter_stands held_in restart_in queued_in is_marked
  marks_same = λ t. record {
    words = λ light choice. words_same light choice t;
    letters = λ cell letter. ap (λ (sets : List ℕ). letters_at sets cell letter) copied.letters t;
    held = λ slot letter. ap (λ (held : List ℕ). get_or held (26 * slot + (letter - 65)) 0) copied.held t;
    restart = λ slot letter. ap (λ (sets : List ℕ). letters_at sets slot letter) copied.restart t;
    pending = λ slot letter. (none_pending slot letter ∙ sym (can.from.pending slot letter)) t;
    queued = λ light. (none_queued light ∙ sym (can.from.rest.is_queued light)) t;
  } where
    letters_at : List ℕ → ℕ → ℕ → Bool
    letters_at sets cell letter = set_has sets cell letter

  rest_new : IsAtRest lights can.cells new
  unfolding queued_in is_marked
  rest_new =
      let one = can.from.rest in
      let other = can.to.rest in
      record {
        few_cells = one.few_cells;
        rows = omega (arith, other.rows, copied.rows.long, old.rows.ok.0, new.rows.ok.0);
        base = omega (arith, other.base, copied.base.long, old.base.ok.0, new.base.ok.0);
        entered = omega (arith, other.entered, copied.entered_long, old.entered.ok.0, new.entered.ok.0);
        letters = omega (arith, one.letters, ap length copied.letters, net.letters.ok.0, new.letters.ok.0);
        held = omega (arith, one.held, ap length copied.held, net.held.ok.0, new.held.ok.0);
        restart = omega (arith, one.restart, ap length copied.restart, net.restart.ok.0, new.restart.ok.0);
        pending = ap (λ (net : Net). vec_len net.pending) copied.rest ∙ other.pending;
        queue = ap (λ (net : Net). net.queue.lights) copied.rest ∙ other.queue;
        queued_long = omega (arith, other.queued_long, ap (λ (net : Net). length net.queue.marks) copied.rest);
        is_queued = none_queued;
        taken = ap (λ (net : Net). net.chain.lights) copied.rest ∙ other.taken;
        marked_long = omega (arith, other.marked_long, ap (λ (net : Net). length net.chain.marks) copied.rest);
        is_marked = λ light. ap (λ (net : Net). is_marked net.chain.marks light) copied.rest ∙ other.is_marked light;
      }

  flags_same : flags_of lights new ≡ flags_of lights net
  unfolding flags_of
  flags_same =
      fill_by_all (row_flags net) (flags_of lights new) (length lights) [] (length-flags lights new) (λ light lt. flags_are lights new light lt ∙ row_same light lt)

  sets_same : sets_of new ≡ sets_of net
  unfolding sets_of
  sets_same = copied.letters

module _ (state : State) (net old new : Net) (can : CanCopy (lights_of state.grid) net old) (copied : IsCopied (lights_of state.grid) net old new) (filled : IsFilled (board_of state.grid) state.words net) where
  rest : IsAtRest (lights_of state.grid) can.cells new
  rest = rest_new (lights_of state.grid) net old new can copied

  many : can.cells ≡ length state.grid.squares
  many = sym can.from.rest.letters ∙ filled.whole.shaped.letters ∙ length-open_cells state.grid

  words_known : HaveBits (lights_of state.grid) (known_counts state.words) net.rows.items
  words_known = have_bits state.grid state.words net.rows.items filled.whole.bits

  base_known : HaveBits (lights_of state.grid) (known_counts state.words) net.base.items
  base_known = have_bits state.grid state.words net.base.items filled.whole.base.bits

  in_lights : (light : ℕ) → light < length (board_of state.grid).lights → light < length (lights_of state.grid)
  in_lights light lt = omega (arith, lt, length-lights state.grid)

  filled_new : IsFilled (board_of state.grid) state.words new
  unfolding queued_in is_marked
  filled_new =
      let grid = state.grid in
      let entries = known_words state.words in
      let same = marks_same (lights_of state.grid) net old new can copied in
      record {
        whole = record {
          shaped = rest_shaped grid (lights_of grid) can.cells new refl many rest;
          chained = rest_chained grid (lights_of grid) can.cells new refl many rest;
          bits = rest_bits grid (lights_of grid) can.cells new refl many rest entries (λ light lt. ap length (copied.rows.done light lt) ∙ words_known light lt);
          base = rest_base grid (lights_of grid) can.cells new refl many rest entries (λ light lt. ap length (copied.base.done light lt) ∙ base_known light lt);
          room = rest_room grid (lights_of grid) can.cells new refl many rest entries new.rows.items
              (λ light lt. omega (arith, words_known light lt, can.from.whole.rows light lt, can.to.room.rows light lt, copied.rows.room light));
          base_room = rest_room grid (lights_of grid) can.cells new refl many rest entries new.base.items
              (λ light lt. omega (arith, base_known light lt, can.from.whole.base light lt, can.to.room.base light lt, copied.base.room light));
        };
        is_base = λ light lt. base_same (lights_of grid) net old new can copied light (in_lights light lt) ∙ filled.is_base light lt;
        settled = subst (IsSettledNet (board_of grid) state.words) (sym same) filled.settled;
        holding = subst (IsHolding (board_of grid) state.words) (sym same) filled.holding;
        exact = subst (λ marks. IsExact (board_of grid) state.words marks.words marks.letters) (sym same) filled.exact;
        pending = none_pending (lights_of grid) net old new can copied;
        quiet = record { queue = rest.queue; queued = rest.is_queued; taken = rest.taken; marked = rest.is_marked };
      }

copied_settled : (state : State) (lights : List Light) (net old new : Net) → lights_of state.grid ≡ lights → CanCopy lights net old → IsCopied lights net old new → IsSettledFor state net → IsSettledFor state new
copied_settled state lights net old new are can copied settled =
    let goes : (ls : List Light) → Type 0 = λ ls. CanCopy ls net old → IsCopied ls net old new → IsSettledFor state new in
    subst goes are (λ can copied. filled_settled state.grid state.words new (filled_new state net old new can copied settled.filled)) can copied

pub copied_is_copy : (lights : List Light) (net old new : Net) → CanCopy lights net old → IsCopied lights net old new → IsCopy lights net new
copied_is_copy lights net old new can copied = record {
  flags = flags_same lights net old new can copied;
  sets = sets_same lights net old new can copied;
  settled = λ state are settled. copied_settled state lights net old new are can copied settled;
}
