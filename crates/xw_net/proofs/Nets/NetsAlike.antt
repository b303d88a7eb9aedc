-- A net with more room is settled for the same states.
use Rattle.std.proofs.Common.{◌≡◌, ℕ, Bool, false, List, [], ◌∷◌, ◌++◌, Some, None, length, get_or, map, sym, ap, ◌∙◌, subst, arith}
use Rattle.std.specs.Prelude.{Option, vec_len}
use Rattle.std.specs.List.{range_with_len}
use Rattle.xw_bits.specs.Bits.{RowOfBits}
use Rattle.xw_words.specs.Dictionary.{Dictionary}
use Rattle.xw_grid.specs.declared.lights.Light.{Light}
use Rattle.xw_feas.specs.Board.{Board}
use Rattle.xw_feas.specs.Choices.{IsExact}
use Rattle.xw_feas.specs.Flags.{flag_at, set_has}
use Rattle.xw_feas.specs.Standing.{HasRows}
use Rattle.xw_net.specs.Marks.{IsHolding, IsSettledNet}
use Rattle.xw_net.specs.Room.{AreRoomier, IsRoomier}
use Rattle.xw_net.specs.Nets.{marks_of, bits_for, word_stands, letter_stands, held_in, restart_in, pending_in, queued_in, IsShaped, IsChained}
use Rattle.xw_net.specs.Spread.{bits_in}
use Rattle.xw_net.specs.Worklist.{is_marked, IsRoomierList}
use Rattle.xw_net.specs.Filled.{IsQuiet, IsFilled}
use Rattle.xw_net.specs.Net.{row_flags, flags_of, sets_of, HasRoomIn, IsAlike}
use Rattle.xw_net.specs.declared.net.Net.{Net}
use Rattle.xw_net.specs.declared.room.Spare.{Spare}
use Rattle.xw_net.proofs.Nets.RowRoom.{bits_are}

-- the rows have the same bits
bits_same : (old new : List RowOfBits) → AreRoomier old new → (light : ℕ) → bits_in new light ≡ bits_in old light
bits_same old new more light = bits_are new light ∙ more.bits light ∙ sym (bits_are old light)

-- the net has at least as much room, and perhaps other spare arrays
record IsLarger (old new : Net) : Type 0 where
  rows : AreRoomier old.rows.items new.rows.items
  base : AreRoomier old.base.items new.base.items
  queue : IsRoomierList old.queue new.queue
  chain : IsRoomierList old.chain new.chain
  rest : new ≡ record old { rows = new.rows; base = new.base; queue = new.queue; chain = new.chain; spare = new.spare }

module _ (old new : Net) (larger : IsLarger old new) where
  words_same : (light choice : ℕ) → word_stands new light choice ≡ word_stands old light choice
  unfolding word_stands
  words_same light choice =
      ap (λ (bits : List Bool). get_or (bits ++ get_or new.entered.items light false ∷ []) choice false) (bits_same old.rows.items new.rows.items larger.rows light)
      ∙ ap (λ (net : Net). get_or (bits_for old light ++ get_or net.entered.items light false ∷ []) choice false) larger.rest

  marks_same : marks_of new ≡ marks_of old
  unfolding letter_stands held_in restart_in pending_in queued_in
  marks_same = λ t. record {
    words = λ light choice. words_same light choice t;
    letters = λ cell letter. ap (λ (net : Net). letter_stands net cell letter) larger.rest t;
    held = λ slot letter. ap (λ (net : Net). held_in net slot letter) larger.rest t;
    restart = λ slot letter. ap (λ (net : Net). restart_in net slot letter) larger.rest t;
    pending = λ slot letter. ap (λ (net : Net). pending_in net slot letter) larger.rest t;
    queued = λ light. ap (λ marks. get_or marks light false) larger.queue.marks t;
  }

  shaped : (board : Board) → IsShaped board old → IsShaped board new
  shaped board is = record {
    few_cells = is.few_cells;
    rows = omega (arith, is.rows, larger.rows.long, old.rows.ok.0, new.rows.ok.0);
    entered = omega (arith, is.entered, ap (λ (net : Net). vec_len net.entered) larger.rest);
    letters = ap (λ (net : Net). vec_len net.letters) larger.rest ∙ is.letters;
    held = ap (λ (net : Net). vec_len net.held) larger.rest ∙ is.held;
    restart = ap (λ (net : Net). vec_len net.restart) larger.rest ∙ is.restart;
    pending = ap (λ (net : Net). vec_len net.pending) larger.rest ∙ is.pending;
    queue = ap length larger.queue.marks ∙ is.queue;
  }

  chained : (board : Board) → IsChained board old → IsChained board new
  chained board is = record {
    base = omega (arith, is.base, larger.base.long, old.base.ok.0, new.base.ok.0);
    chain = ap length larger.chain.marks ∙ is.chain;
  }

  quiet : IsQuiet old → IsQuiet new
  unfolding queued_in
  quiet is = record {
    queue = larger.queue.lights ∙ is.queue;
    queued = λ light. ap (λ marks. get_or marks light false) larger.queue.marks ∙ is.queued light;
    taken = larger.chain.lights ∙ is.taken;
    marked = λ light. ap (λ marks. is_marked marks light) larger.chain.marks ∙ is.marked light;
  }

  filled : (board : Board) (dictionary : Dictionary) → IsFilled board dictionary old → IsFilled board dictionary new
  unfolding pending_in
  filled board dictionary is = record {
    whole = record {
      shaped = shaped board is.whole.shaped;
      chained = chained board is.whole.chained;
      bits = λ light lt. ap length (bits_same old.rows.items new.rows.items larger.rows light) ∙ is.whole.bits light lt;
      base = record {
        rows = omega (arith, is.whole.base.rows, larger.base.long);
        bits = λ light lt. ap length (bits_same old.base.items new.base.items larger.base light) ∙ is.whole.base.bits light lt;
      };
      room = λ light lt. omega (arith, is.whole.room light lt, larger.rows.room light);
      base_room = λ light lt. omega (arith, is.whole.base_room light lt, larger.base.room light);
    };
    is_base = λ light lt. bits_same old.base.items new.base.items larger.base light ∙ is.is_base light lt;
    settled = subst (IsSettledNet board dictionary) (sym marks_same) is.settled;
    holding = subst (IsHolding board dictionary) (sym marks_same) is.holding;
    exact = subst (λ marks. IsExact board dictionary marks.words marks.letters) (sym marks_same) is.exact;
    pending = λ slot letter. ap (λ (net : Net). pending_in net slot letter) larger.rest ∙ is.pending slot letter;
    quiet = quiet is.quiet;
  }

  flags_same : (lights : List Light) → flags_of lights new ≡ flags_of lights old
  unfolding flags_of
  flags_same lights = λ t. map (λ light. row_same light t) (range_with_len 0 (length lights)) where
    row_same : (light : ℕ) → row_flags new light ≡ row_flags old light
    row_same light =
        ap (λ (bits : List Bool). bits ++ get_or new.entered.items light false ∷ []) (bits_same old.rows.items new.rows.items larger.rows light)
        ∙ ap (λ (net : Net). bits_for old light ++ get_or net.entered.items light false ∷ []) larger.rest

  sets_same : sets_of new ≡ sets_of old
  unfolding sets_of
  sets_same = ap (λ (net : Net). net.letters.items) larger.rest

  room_same : (lights : List Light) (counts : ℕ → ℕ) (spare : Option Spare) → HasRoomIn lights counts old spare → HasRoomIn lights counts new spare
  room_same lights counts None has = record {
    rows = λ light lt. omega (arith, has.rows light lt, larger.rows.room light);
    base = λ light lt. omega (arith, has.base light lt, larger.base.room light);
  }
  room_same lights counts (Some spare) has = record {
    arrays = has.arrays;
    queue = omega (arith, has.queue, larger.queue.room);
    chain = omega (arith, has.chain, larger.chain.room);
  }

  alike : IsAlike old new
  alike = record {
    flags = flags_same;
    sets = sets_same;
    settled = λ layout dictionary is. record {
      rows = subst (λ sets. HasRows layout.board dictionary (flags_of layout.lights new) sets) (sym sets_same) (subst (λ flags. HasRows layout.board dictionary flags (sets_of old)) (sym (flags_same layout.lights)) is.rows);
      exact = subst (λ sets. IsExact layout.board dictionary (flag_at (flags_of layout.lights new)) (set_has sets)) (sym sets_same)
          (subst (λ flags. IsExact layout.board dictionary (flag_at flags) (set_has (sets_of old))) (sym (flags_same layout.lights)) is.exact);
      filled = filled layout.board dictionary is.filled;
    };
    room = λ spare lights counts has. subst (HasRoomIn lights counts new) (sym spare) (room_same lights counts old.spare has);
  }

larger_of : (old new : Net) (spare : Option Spare) → IsRoomier old new → IsLarger old (record new { spare = spare })
larger_of old new spare more = record {
  rows = more.rows;
  base = more.base;
  queue = more.queue;
  chain = more.chain;
  rest = ap (λ (net : Net). record net { spare = spare }) more.rest;
}

-- reserving keeps a net alike, with whatever spare arrays
pub roomier_alike : (old new : Net) (spare : Option Spare) → IsRoomier old new → IsAlike old (record new { spare = spare })
roomier_alike old new spare more = alike old (record new { spare = spare }) (larger_of old new spare more)

pub roomier_filled : (old new : Net) → IsRoomier old new → (board : Board) (dictionary : Dictionary) → IsFilled board dictionary old → IsFilled board dictionary new
roomier_filled old new more = filled old new (larger_of old new new.spare more)
