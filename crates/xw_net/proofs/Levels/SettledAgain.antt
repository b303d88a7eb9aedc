-- A net that a search took back is settled again.
use Rattle.std.proofs.Common.{◌≡◌, ℕ, ◌+◌, ◌-◌, ◌*◌, ◌<◌, Bool, false, List, [], ◌∷◌, ◌++◌, map, length, get_or, replicate, sym, ap, ◌∙◌, subst, arith}
use Rattle.std.specs.Prelude.{vec_len}
use Rattle.std.specs.List.{range_with_len}
use Rattle.std.proofs.lemmas.List.{length-replicate}
use Rattle.std.proofs.Math.Logic.{∥∥₁_elim, ∥∥₁_map, ∥∥₁_prop}
use Rattle.xw_bits.specs.Bits.{RowOfBits}
use Rattle.xw_words.specs.Dictionary.{Dictionary, Entry, known_words}
use Rattle.xw_grid.specs.declared.lights.Light.{Light}
use Rattle.xw_grid.specs.EditLaws.{SameShape}
use Rattle.xw_grid.specs.Light.{lights_of}
use Rattle.xw_feas.specs.Board.{Board, board_of, light_at}
use Rattle.xw_feas.specs.Choices.{IsExact}
use Rattle.xw_feas.specs.Flags.{flag_at, set_has}
use Rattle.xw_feas.specs.Standing.{HasRows}
use Rattle.xw_feas.specs.State.{State}
use Rattle.xw_feas.proofs.BoardLemmas.{length-lights, length-open_cells}
use Rattle.xw_feas.proofs.FormedLemmas.{length-light_at}
use Rattle.xw_net.specs.Filled.{IsFilled, IsQuiet, HasRowRoom}
use Rattle.xw_net.specs.Layout.{Layout, layout_of}
use Rattle.xw_net.specs.Level.{LeadBack, IsWay, IsLike, IsAsLong, IsBack, IsBackFrom}
use Rattle.xw_net.specs.Marks.{IsHolding, IsSettledNet}
use Rattle.xw_net.specs.Net.{row_flags, flags_of, sets_of, IsSettledOn, IsSettledFor}
use Rattle.xw_net.specs.Nets.{marks_of, bits_for, word_stands, letter_stands, held_in, restart_in, pending_in, queued_in}
use Rattle.xw_net.specs.Room.{size_at, IsRoomier}
use Rattle.xw_net.specs.Spread.{bits_in}
use Rattle.xw_net.specs.Update.{IsSized, KeepsRoom}
use Rattle.xw_net.specs.Worklist.{ListOfLights, is_marked}
use Rattle.xw_net.specs.declared.level.KeptRow.{KeptRow}
use Rattle.xw_net.specs.declared.level.Level.{Level}
use Rattle.xw_net.specs.declared.net.Net.{Net}
use Rattle.xw_net.proofs.Lists.QuietNets.{all_false}
use Rattle.xw_net.proofs.Nets.RowRoom.{bits_are}

-- ---- a net like a settled one

-- the arrays that ways back do not keep have the sizes for a board, there is room for the words, and no work is left
pub record IsHalted (board : Board) (dictionary : Dictionary) (net : Net) : Type 0 where
  pub pending_long : vec_len net.pending ≡ 2 * length board.open_cells
  pub queue_long : length net.queue.marks ≡ length board.lights
  pub chain_long : length net.chain.marks ≡ length board.lights
  pub room : HasRowRoom board (known_words dictionary) net.rows.items
  pub base_room : HasRowRoom board (known_words dictionary) net.base.items
  pub pending : (slot letter : ℕ) → pending_in net slot letter ≡ false
  pub quiet : IsQuiet net

-- a net like another one has its words
pub words_like : (old new : Net) → IsLike new old → (light choice : ℕ) → word_stands new light choice ≡ word_stands old light choice
unfolding word_stands
words_like old new like light choice =
    ap (λ (bits : List Bool). get_or (bits ++ get_or new.entered.items light false ∷ []) choice false) (like.rows light)
    ∙ ap (λ (flags : List Bool). get_or (bits_for old light ++ get_or flags light false ∷ []) choice false) like.entered

module _ (old new : Net) (as_long : IsAsLong old new) where
  marks_like : ((slot letter : ℕ) → pending_in new slot letter ≡ pending_in old slot letter) → ((light : ℕ) → queued_in new light ≡ queued_in old light) → marks_of new ≡ marks_of old
  unfolding letter_stands held_in restart_in
  marks_like pending queued = λ t. record {
    words = λ light choice. words_like old new as_long.like light choice t;
    letters = λ cell letter. set_has (as_long.like.letters t) cell letter;
    held = λ slot letter. ap (λ (held : List ℕ). held_at held slot letter) as_long.like.held t;
    restart = λ slot letter. set_has (as_long.like.restart t) slot letter;
    pending = λ slot letter. pending slot letter t;
    queued = λ light. queued light t;
  } where
    held_at : List ℕ → ℕ → ℕ → ℕ
    held_at held slot letter = get_or held (26 * slot + (letter - 65)) 0

  flags_like : (lights : List Light) → flags_of lights new ≡ flags_of lights old
  unfolding flags_of
  flags_like lights = λ t. map (λ light. row_like light t) (range_with_len 0 (length lights)) where
    row_like : (light : ℕ) → row_flags new light ≡ row_flags old light
    row_like light =
        ap (λ (bits : List Bool). bits ++ get_or new.entered.items light false ∷ []) (as_long.like.rows light)
        ∙ ap (λ (flags : List Bool). bits_for old light ++ get_or flags light false ∷ []) as_long.like.entered

  sets_like : sets_of new ≡ sets_of old
  unfolding sets_of
  sets_like = as_long.like.letters

  -- such a net without work is filled like the other one
  pub filled_again : (board : Board) (dictionary : Dictionary) → IsHalted board dictionary new → IsFilled board dictionary old → IsFilled board dictionary new
  filled_again board dictionary halted is =
      let like = as_long.like in
      let shaped = is.whole.shaped in
      let same = marks_like (λ slot letter. halted.pending slot letter ∙ sym (is.pending slot letter)) (λ light. halted.quiet.queued light ∙ sym (is.quiet.queued light)) in
      record {
        whole = record {
          shaped = record {
            few_cells = shaped.few_cells;
            rows = omega (arith, shaped.rows, as_long.rows, old.rows.ok.0, new.rows.ok.0);
            entered = omega (arith, shaped.entered, as_long.flags);
            letters = as_long.letters ∙ shaped.letters;
            held = omega (arith, shaped.held, ap length like.held, old.held.ok.0, new.held.ok.0);
            restart = omega (arith, shaped.restart, ap length like.restart, old.restart.ok.0, new.restart.ok.0);
            pending = halted.pending_long;
            queue = halted.queue_long;
          };
          chained = record { base = omega (arith, is.whole.chained.base, as_long.base, old.base.ok.0, new.base.ok.0); chain = halted.chain_long };
          bits = λ light lt. ap length (like.rows light) ∙ is.whole.bits light lt;
          base = record {
            rows = omega (arith, is.whole.base.rows, as_long.base);
            bits = λ light lt. ap length (like.base light) ∙ is.whole.base.bits light lt;
          };
          room = halted.room;
          base_room = halted.base_room;
        };
        is_base = λ light lt. like.base light ∙ is.is_base light lt;
        settled = subst (IsSettledNet board dictionary) (sym same) is.settled;
        holding = subst (IsHolding board dictionary) (sym same) is.holding;
        exact = subst (λ marks. IsExact board dictionary marks.words marks.letters) (sym same) is.exact;
        pending = halted.pending;
        quiet = halted.quiet;
      }

  -- a net like a settled one, without work, is settled for the same layout and dictionary
  pub settled_again : (layout : Layout) (dictionary : Dictionary) → IsHalted layout.board dictionary new → IsSettledOn layout dictionary old → IsSettledOn layout dictionary new
  settled_again layout dictionary halted is = record {
    rows = subst (λ sets. HasRows layout.board dictionary (flags_of layout.lights new) sets) (sym sets_like)
        (subst (λ flags. HasRows layout.board dictionary flags (sets_of old)) (sym (flags_like layout.lights)) is.rows);
    exact = subst (λ sets. IsExact layout.board dictionary (flag_at (flags_of layout.lights new)) (set_has sets)) (sym sets_like)
        (subst (λ flags. IsExact layout.board dictionary (flag_at flags) (set_has (sets_of old))) (sym (flags_like layout.lights)) is.exact);
    filled = filled_again layout.board dictionary halted is.filled;
  }

-- ---- going back

-- what `Net::undo` does to a net, besides giving back what a level keeps
pub record IsUndone (old new : Net) : Type 0 where
  pub room : KeepsRoom old new
  pub many : length new.rows.items ≡ length old.rows.items
  pub many_base : length new.base.items ≡ length old.base.items
  pub rest : new ≡ record old { rows = new.rows; base = new.base; letters = new.letters; entered = new.entered }

-- nothing is pending, and no light is queued
pub record IsIdle (net : Net) : Type 0 where
  pub pending : (slot letter : ℕ) → pending_in net slot letter ≡ false
  pub lights : net.queue.lights ≡ []
  pub queued : (light : ℕ) → queued_in net light ≡ false

-- what `Net::halt` does to a net
pub record IsHaltedFrom (old new : Net) : Type 0 where
  pub rest : new ≡ record old { queue = new.queue; pending = new.pending }
  pub long : vec_len new.pending ≡ vec_len old.pending
  pub pending : (slot letter : ℕ) → pending_in new slot letter ≡ false
  pub lights : new.queue.lights ≡ []
  pub marks : new.queue.marks ≡ replicate (length old.queue.marks) false

halted_idle : (old new : Net) → IsHaltedFrom old new → IsIdle new
unfolding queued_in
halted_idle old new halted = record {
  pending = halted.pending;
  lights = halted.lights;
  queued = λ light. ap (λ (marks : List Bool). get_or marks light false) halted.marks ∙ all_false (length old.queue.marks) light;
}

halted_sized : (board : Board) (entries : ℕ → List Entry) (old new : Net) → IsHaltedFrom old new → IsSized board entries old → IsSized board entries new
halted_sized board entries old new halted sized = subst (IsSized board entries) (sym halted.rest) (record {
  shaped = record {
    few_cells = sized.shaped.few_cells;
    rows = sized.shaped.rows;
    entered = sized.shaped.entered;
    letters = sized.shaped.letters;
    held = sized.shaped.held;
    restart = sized.shaped.restart;
    pending = halted.long ∙ sized.shaped.pending;
    queue = ap length halted.marks ∙ length-replicate (length old.queue.marks) false ∙ sized.shaped.queue;
  };
  chained = record { base = sized.chained.base; chain = sized.chained.chain };
  bits = sized.bits;
  base = sized.base;
})

-- the queue is empty, and the chain is that of a quiet net
undone_quiet : (old new : Net) → IsUndone old new → IsIdle old → old.chain.lights ≡ [] → ((light : ℕ) → is_marked old.chain.marks light ≡ false) → IsQuiet new
unfolding queued_in
undone_quiet old new undone idle taken marked = record {
  queue = ap (λ (net : Net). net.queue.lights) undone.rest ∙ idle.lights;
  queued = λ light. ap (λ (net : Net). get_or net.queue.marks light false) undone.rest ∙ idle.queued light;
  taken = ap (λ (net : Net). net.chain.lights) undone.rest ∙ taken;
  marked = λ light. ap (λ (net : Net). is_marked net.chain.marks light) undone.rest ∙ marked light;
}

undone_pending : (old new : Net) → IsUndone old new → IsIdle old → (slot letter : ℕ) → pending_in new slot letter ≡ false
unfolding pending_in
undone_pending old new undone idle slot letter = ap (λ (net : Net). set_has net.pending.items slot letter) undone.rest ∙ idle.pending slot letter

-- the net has the sizes of the one before
back_long : (level : Level) (before old new : Net) → IsWay level old before → IsLike new before → IsUndone old new → IsAsLong before new
back_long level before old new way like undone = record {
  like = like;
  rows = undone.many ∙ way.rows.many;
  base = undone.many_base ∙ way.base.many;
  letters = omega (arith, ap length like.letters, before.letters.ok.0, new.letters.ok.0);
  flags = omega (arith, ap length like.entered, before.entered.ok.0, new.entered.ok.0);
}

-- letters were entered in a net that was settled, perhaps not to the end, and were taken back
pub placed_back : (level : Level) (board : Board) (entries : ℕ → List Entry) (before placed old new : Net) → IsWay level old before → IsSized board entries before → IsSized board entries placed → KeepsRoom before placed → placed.chain ≡ before.chain
    → IsHaltedFrom placed old → IsLike new before → IsUndone old new → IsBack before new
placed_back level board entries before placed old new way was sized room chain halted like undone = record { as_long = long; settled = λ state settled. ∥∥₁_map settled (again state) } where
  long : IsAsLong before new
  long = back_long level before old new way like undone

  more : KeepsRoom before old
  more = subst (KeepsRoom before) (sym halted.rest) (record { rows = room.rows; base = room.base })

  chain_is : old.chain ≡ before.chain
  chain_is = ap (λ (net : Net). net.chain) halted.rest ∙ chain

  sized_old : IsSized board entries old
  sized_old = halted_sized board entries placed old halted sized

  again : (state : State) → IsSettledFor state before → IsSettledFor state new
  again state settled =
      let whole = settled.filled.whole in
      settled_again before new long (layout_of state.grid) state.words (record {
        pending_long = omega (arith, ap (λ (net : Net). vec_len net.pending) undone.rest, sized_old.shaped.pending, was.shaped.letters, whole.shaped.letters);
        queue_long = omega (arith, ap (λ (net : Net). length net.queue.marks) undone.rest, sized_old.shaped.queue, was.shaped.queue, whole.shaped.queue);
        chain_long = ap (λ (net : Net). length net.chain.marks) undone.rest ∙ ap (λ (list : ListOfLights). length list.marks) chain_is ∙ whole.chained.chain;
        room = λ light lt. omega (arith, whole.room light lt, more.rows light, undone.room.rows light);
        base_room = λ light lt. omega (arith, whole.base_room light lt, more.base light, undone.room.base light);
        pending = undone_pending old new undone (halted_idle placed old halted);
        quiet = undone_quiet old new undone (halted_idle placed old halted) (ap (λ (list : ListOfLights). list.lights) chain_is ∙ settled.filled.quiet.taken)
            (λ light. ap (λ (list : ListOfLights). is_marked list.marks light) chain_is ∙ settled.filled.quiet.marked light);
      }) settled

-- a settled net was taken back
pub settled_back : (level : Level) (now : State) (before old new : Net) → IsWay level old before → ∥ IsSettledFor now old ∥₁ → IsLike new before → IsUndone old new → IsBackFrom now before new
settled_back level now before old new way is like undone = record { as_long = long; settled = λ state shape words settled. ∥∥₁_elim is ∥∥₁_prop (λ is. ∥∥₁_map settled (again state shape words is)) } where
  long : IsAsLong before new
  long = back_long level before old new way like undone

  again : (state : State) → SameShape state.grid now.grid → state.words ≡ now.words → IsSettledFor now old → IsSettledFor state before → IsSettledFor state new
  again state shape words is settled =
      let whole = is.filled.whole in
      let idle : IsIdle old = record { pending = is.filled.pending; lights = is.filled.quiet.queue; queued = is.filled.quiet.queued } in
      let lights : length (board_of now.grid).lights ≡ length (board_of state.grid).lights = length-lights now.grid ∙ ap length shape.lights ∙ sym (length-lights state.grid) in
      let known : (light : ℕ) → light < length (board_of state.grid).lights → length (known_words state.words (length (light_at (board_of state.grid) light))) ≡ length (known_words now.words (length (light_at (board_of now.grid) light))) =
      λ light lt.
      let in_state : light < length (lights_of state.grid) = omega (arith, lt, length-lights state.grid) in
      let in_now : light < length (lights_of now.grid) = omega (arith, in_state, ap length shape.lights) in
      ap (λ n. length (known_words state.words n)) (length-light_at state.grid light in_state ∙ ap (λ ls. size_at ls light) (sym shape.lights) ∙ sym (length-light_at now.grid light in_now))
      ∙ ap (λ (words : Dictionary). length (known_words words (length (light_at (board_of now.grid) light)))) words in
      settled_again before new long (layout_of state.grid) state.words (record {
        pending_long = omega (arith, ap (λ (net : Net). vec_len net.pending) undone.rest, whole.shaped.pending, length-open_cells now.grid, length-open_cells state.grid, shape.cells);
        queue_long = omega (arith, ap (λ (net : Net). length net.queue.marks) undone.rest, whole.shaped.queue, lights);
        chain_long = ap (λ (net : Net). length net.chain.marks) undone.rest ∙ whole.chained.chain ∙ lights;
        room = λ light lt. omega (arith, whole.room light (omega (arith, lt, lights)), known light lt, undone.room.rows light);
        base_room = λ light lt. omega (arith, whole.base_room light (omega (arith, lt, lights)), known light lt, undone.room.base light);
        pending = undone_pending old new undone idle;
        quiet = undone_quiet old new undone idle is.filled.quiet.taken is.filled.quiet.marked;
      }) settled

-- ---- ways back from nets that are alike

lead_again : (kept : List KeptRow) (rows new before : List RowOfBits) → ((light : ℕ) → bits_in new light ≡ bits_in rows light) → length new ≡ length rows → LeadBack kept rows before → LeadBack kept new before
lead_again kept rows new before same many back = record {
  many = many ∙ back.many;
  long = λ light. ap length (same light) ∙ back.long light;
  right = back.right;
  others = λ light unkept. same light ∙ back.others light unkept;
}

-- a way back from a net leads back from one like it
pub way_again : (level : Level) (old new before : Net) → IsWay level old before → IsAsLong old new → IsWay level new before
way_again level old new before way as_long = record {
  rows = lead_again level.rows.items old.rows.items new.rows.items before.rows.items as_long.like.rows as_long.rows way.rows;
  base = lead_again level.base.items old.base.items new.base.items before.base.items as_long.like.base as_long.base way.base;
  letters = way.letters;
  entered = way.entered;
  as_many_letters = as_long.letters ∙ way.as_many_letters;
  as_many_flags = as_long.flags ∙ way.as_many_flags;
  held = as_long.like.held ∙ way.held;
  restart = as_long.like.restart ∙ way.restart;
}

-- a net with more room is like the other one
pub roomier_long : (old new : Net) → IsRoomier old new → IsAsLong old new
roomier_long old new more = record {
  like = record {
    rows = λ light. bits_are new.rows.items light ∙ more.rows.bits light ∙ sym (bits_are old.rows.items light);
    base = λ light. bits_are new.base.items light ∙ more.base.bits light ∙ sym (bits_are old.base.items light);
    letters = ap (λ (net : Net). net.letters.items) more.rest;
    entered = ap (λ (net : Net). net.entered.items) more.rest;
    held = ap (λ (net : Net). net.held.items) more.rest;
    restart = ap (λ (net : Net). net.restart.items) more.rest;
  };
  rows = more.rows.long;
  base = more.base.long;
  letters = ap (λ (net : Net). vec_len net.letters) more.rest;
  flags = ap (λ (net : Net). vec_len net.entered) more.rest;
}
