-- Commands of a record, executed one after another.
use Rattle.std.proofs.Common.{◌≡◌, ℕ, ◌+◌, ◌*◌, ◌%◌, ◌-◌, ◌<◌, ◌≤◌, zero, suc, Bool, true, false, not, ◌&&◌, ◌||◌, eqb, List, [], ◌∷◌, ◌++◌, length, map, take, drop, Some, None, refl, sym, ◌∙◌, ap, append-nil, le-leb, arith}
use Rattle.std.specs.Prelude.{Option, Ok, Err, nat_eq, nat_le, if◌then◌else◌}
use Rattle.std.specs.BTreeMap.{insert_entry}
use Rattle.std.specs.declared.cmp.Ordering.{Ordering}
use Rattle.std.specs.declared.cmp.Ordering.TheVariants.{Less, Equal, Greater}
use Rattle.std.specs.Ordering.{is_eq, match_ordering}
use Rattle.std.specs.Option.{option_and_then}
use Rattle.std.specs.List.{range_with_len}
use Rattle.std.proofs.Math.Nat.{div-add-mod}
use Rattle.std.proofs.Math.Seq.{take-add}
use Rattle.std.proofs.lemmas.List.{take-append-drop, take_all, length-take, length-append}
use Rattle.std.proofs.lemmas.List.Folds.{list_any-append}
use Rattle.std.proofs.lemmas.Nat.{mod_below}
use Rattle.std.proofs.lemmas.Bool.{eq-eqb}
use Rattle.xw_grid.specs.declared.cell.Cell.{Cell}
use Rattle.xw_grid.specs.declared.cell.Direction.{Direction}
use Rattle.xw_grid.specs.declared.cell.Direction.TheVariants.{Across, Down}
use Rattle.xw_grid.specs.declared.cell.Symmetry.{Symmetry}
use Rattle.xw_grid.specs.declared.cell.Symmetry.TheVariants as kinds
use Rattle.xw_grid.specs.declared.fault.GridFault.TheVariants.{Size, NotSquare}
use Rattle.xw_grid.specs.Grid.{Grid, IsGrid, cell_cmp}
use Rattle.xw_grid.specs.Edit.{blank}
use Rattle.xw_grid.specs.Clue.{Texts, ClueMap, no_clues, clue_at, with_clue}
use Rattle.xw_grid.proofs.ClueLemmas.{same_at}
use Rattle.xw_grid.proofs.GridLemmas.{same_cell_itself}
use Rattle.xw_grid.proofs.KeptLemmas.{clues_are_kept}
use Rattle.xw_feas.specs.State.{with_grid, by_fault}
use Rattle.xw_commands.specs.declared.change.Change.{Change}
use Rattle.xw_commands.specs.declared.change.Change.TheVariants as changes
use Rattle.xw_session.specs.declared.session.recording.Section.TheVariants as sections
use Rattle.xw_commands.specs.declared.change.Change.TheVariants.{Put}
use Rattle.xw_commands.specs.declared.command.Field.{Field}
use Rattle.xw_commands.specs.declared.command.TextMode.{TextMode}
use Rattle.xw_commands.specs.declared.command.TextMode.TheVariants.{Instead, Behind}
use Rattle.xw_commands.specs.declared.command.TextField.TheVariants.{Title, Author, Copyright, Notes}
use Rattle.xw_session.specs.declared.session.putting.Target.{Target}
use Rattle.xw_session.specs.declared.session.putting.Target.TheVariants as targets
use Rattle.xw_session.specs.State.{SessionState}
use Rattle.xw_answers.specs.Escape.{escaped_text, has_nul}
use Rattle.xw_session.specs.Put.{target_of, has_target, with_text_at, with_piece}
use Rattle.xw_session.specs.Reply.{put, changed, resized, moved}
use Rattle.xw_answers.specs.Record.{piece_at, further_pieces, more_command, text_commands}
use Rattle.xw_session.specs.Record.{section_commands}
use Rattle.xw_session_laws.specs.Replay.{state_left, replayed}
use Rattle.xw_answers.proofs.Escapes.{reads_back}
use Rattle.xw_session.proofs.TextMode.{last_of_three}

-- ---- one after another

one_and_others : (left : Option SessionState) (front rest : List Change)
    → ((next : SessionState) → replayed next (front ++ rest) ≡ option_and_then (λ mid. replayed mid rest) (replayed next front))
    → option_and_then (λ next. replayed next (front ++ rest)) left ≡ option_and_then (λ mid. replayed mid rest) (option_and_then (λ next. replayed next front) left)
one_and_others None front rest others = refl
one_and_others (Some next) front rest others = others next

-- commands after other commands
pub replayed_both : (state : SessionState) (front rest : List Change) → replayed state (front ++ rest) ≡ option_and_then (λ mid. replayed mid rest) (replayed state front)
replayed_both state [] rest = refl
replayed_both state (command ∷ front) rest = one_and_others (state_left (changed state command)) front rest (λ next. replayed_both next front rest)

pub next_done : (state next : SessionState) (command : Change) (commands : List Change) → state_left (changed state command) ≡ Some next → replayed state (command ∷ commands) ≡ replayed next commands
next_done state next command commands e = ap (option_and_then (λ next. replayed next commands)) e

-- ---- texts

or_parts : (a b : Bool) → (a || b) ≡ false → (a ≡ false) × (b ≡ false)
or_parts false b e = (refl, e)
or_parts true b e = cc

nul_parts : (text : List ℕ) (n : ℕ) → has_nul text ≡ false → (has_nul (take n text) ≡ false) × (has_nul (drop n text) ≡ false)
nul_parts text n none =
    or_parts (has_nul (take n text)) (has_nul (drop n text)) (sym (list_any-append (nat_eq 0) (take n text) (drop n text)) ∙ ap has_nul (take-append-drop n text) ∙ none)

plain_piece : (text : List ℕ) (before : ℕ) → has_nul text ≡ false → has_nul (piece_at text before) ≡ false
plain_piece text before none = (nul_parts (drop (2000 * before) text) 2000 (nul_parts text (2000 * before) none).1).0

put_again : (state : SessionState) (putting : TextMode) (field : Field) (piece : List ℕ) → has_target state.engine.grid (target_of field) ≡ true → has_nul piece ≡ false
    → state_left (changed state (Put putting field (escaped_text piece))) ≡ Some (with_piece state putting (target_of field) piece)
put_again state putting field piece targeted plain =
    ap (λ found. state_left (put state putting field found)) (reads_back piece)
    ∙ ap state_left (last_of_three (has_target state.engine.grid (target_of field)) (has_nul piece) _ _ _ targeted plain)

-- the first bytes of a text, with one more piece
one_piece_more : (text : List ℕ) (k : ℕ) → take (2000 * (k + 1)) text ++ piece_at text (k + 1) ≡ take (2000 * (k + 1 + 1)) text
one_piece_more text k =
    let more : 2000 * (k + 1) + 2000 ≡ 2000 * (k + 1 + 1) = omega arith in
    sym (take-add (2000 * (k + 1)) 2000 text) ∙ ap (λ n. take n text) more

-- a text in a field that grows by appended pieces
module _ (state : SessionState) (field : Field) (text : List ℕ) (plain : has_nul text ≡ false)
    (targeted : (front : List ℕ) → has_target (with_text_at state (target_of field) front).engine.grid (target_of field) ≡ true)
    (behind : (front piece : List ℕ) → 0 < length front → with_piece (with_text_at state (target_of field) front) Behind (target_of field) piece ≡ with_text_at state (target_of field) (front ++ piece)) where
  further_again : (k n : ℕ) → 0 < length text
      → replayed (with_text_at state (target_of field) (take (2000 * (k + 1)) text)) (map (more_command field text) (range_with_len k n))
      ≡ Some (with_text_at state (target_of field) (take (2000 * (k + 1 + n)) text))
  further_again k zero some =
      let same : 2000 * (k + 1) ≡ 2000 * (k + 1 + 0) = omega arith in
      ap (λ n. Some (with_text_at state (target_of field) (take n text))) same
  further_again k (suc n) some =
      let front = take (2000 * (k + 1)) text in
      let there : 0 < length front = omega (arith, length-take (2000 * (k + 1)) text, some) in
      let grown = behind front (piece_at text (k + 1)) there ∙ ap (with_text_at state (target_of field)) (one_piece_more text k) in
      let last : 2000 * (k + 1 + 1 + n) ≡ 2000 * (k + 1 + suc n) = omega arith in
      next_done (with_text_at state (target_of field) front) (with_text_at state (target_of field) (take (2000 * (k + 1 + 1)) text)) (Put Behind field (escaped_text (piece_at text (k + 1)))) (map (more_command field text) (range_with_len (k + 1) n))
      (put_again (with_text_at state (target_of field) front) Behind field (piece_at text (k + 1)) (targeted front) (plain_piece text (k + 1) plain) ∙ ap Some grown)
      ∙ further_again (k + 1) n some
      ∙ ap (λ n. Some (with_text_at state (target_of field) (take n text))) last

  whole_again : 0 < length text → replayed (with_text_at state (target_of field) (take 2000 text)) (map (more_command field text) (range_with_len 0 (further_pieces text))) ≡ Some (with_text_at state (target_of field) text)
  whole_again some =
      let count = further_pieces text in
      let parts = div-add-mod (length text - 1) 2000 in
      let small : (length text - 1) % 2000 < 2000 = mod_below (length text - 1) 2000 (omega arith) in
      let enough : length text ≤ 2000 * (0 + 1 + count) = omega (arith, parts, small, some) in
      further_again 0 count some ∙ ap (λ xs. Some (with_text_at state (target_of field) xs)) (take_all (2000 * (0 + 1 + count)) text enough)

-- ---- appending to a field

-- the entry of a key that was set last stays
inserted_twice : (texts : Texts) (cell : Cell) (first last : List ℕ) → cell_cmp cell cell ≡ Equal → insert_entry cell_cmp (insert_entry cell_cmp texts cell first) cell last ≡ insert_entry cell_cmp texts cell last
inserted_twice [] cell first last same = ap (λ o. match_ordering o ((cell, last) ∷ (cell, first) ∷ []) ((cell, last) ∷ []) ((cell, first) ∷ (cell, last) ∷ [])) same
inserted_twice (e ∷ texts) cell first last same =
    elim (cell_cmp cell e.0) as (λ o. cell_cmp cell e.0 ≡ o
    → insert_entry cell_cmp (match_ordering o ((cell, first) ∷ e ∷ texts) ((e.0, first) ∷ texts) (e ∷ insert_entry cell_cmp texts cell first)) cell last
    ≡ match_ordering o ((cell, last) ∷ e ∷ texts) ((e.0, last) ∷ texts) (e ∷ insert_entry cell_cmp texts cell last)) [
      | Less ↦ λ o. rw same refl
      | Equal ↦ λ o. rw o refl
      | Greater ↦ λ o. rw o (ap (λ es. e ∷ es) (inserted_twice texts cell first last same))
    ] refl

is_equal : (o : Ordering) → is_eq o ≡ true → o ≡ Equal
is_equal Less e = cc
is_equal Equal e = refl
is_equal Greater e = cc

pub same_order : (cell : Cell) → cell_cmp cell cell ≡ Equal
same_order cell = is_equal (cell_cmp cell cell) (same_at cell cell ∙ same_cell_itself cell)

kept_at : (clues : ClueMap) (cell : Cell) (direction : Direction) (text : List ℕ) → clue_at (with_clue clues cell direction text) cell direction ≡ text
kept_at clues cell Across text = clues_are_kept clues cell cell Across Across text ∙ ap (λ b. if b then text else clue_at clues cell Across) (same_cell_itself cell)
kept_at clues cell Down text = clues_are_kept clues cell cell Down Down text ∙ ap (λ b. if b then text else clue_at clues cell Down) (same_cell_itself cell)

set_twice : (clues : ClueMap) (cell : Cell) (direction : Direction) (first last : List ℕ) → 0 < length first → 0 < length last
    → with_clue (with_clue clues cell direction first) cell direction last ≡ with_clue clues cell direction last
set_twice clues cell direction [] last some more = absurd (omega (arith, some))
set_twice clues cell direction (byte ∷ bytes) [] some more = absurd (omega (arith, more))
set_twice clues cell Across (byte ∷ bytes) (next ∷ others) some more = ap (λ (texts : Texts). record clues { across = texts }) (inserted_twice clues.across cell (byte ∷ bytes) (next ∷ others) (same_order cell))
set_twice clues cell Down (byte ∷ bytes) (next ∷ others) some more = ap (λ (texts : Texts). record clues { down = texts }) (inserted_twice clues.down cell (byte ∷ bytes) (next ∷ others) (same_order cell))

grown : (state : SessionState) (target : Target) (front piece : List ℕ) → 0 < length front → with_piece (with_text_at state target front) Behind target piece ≡ with_text_at state target (front ++ piece)
grown state target front [] some = ap (with_text_at state target) (sym (append-nil front))
grown state (targets.Text Title) front (byte ∷ bytes) some = refl
grown state (targets.Text Author) front (byte ∷ bytes) some = refl
grown state (targets.Text Copyright) front (byte ∷ bytes) some = refl
grown state (targets.Text Notes) front (byte ∷ bytes) some = refl
grown state (targets.Clue cell direction) front (byte ∷ bytes) some =
    let set : ClueMap → SessionState = λ clues. record state { clues = clues } in
    ap (λ text. set (with_clue (with_clue state.clues cell direction front) cell direction (text ++ byte ∷ bytes))) (kept_at state.clues cell direction front)
    ∙ ap set (set_twice state.clues cell direction front (front ++ byte ∷ bytes) some (omega (arith, some, length-append front (byte ∷ bytes))))

still_targeted : (state : SessionState) (target : Target) (front : List ℕ) → has_target state.engine.grid target ≡ true → has_target (with_text_at state target front).engine.grid target ≡ true
still_targeted state (targets.Text name) front targeted = refl
still_targeted state (targets.Clue cell direction) front targeted = targeted

pub text_again : (state : SessionState) (field : Field) (text : List ℕ) → has_target state.engine.grid (target_of field) ≡ true → has_nul text ≡ false
    → replayed state (text_commands field text) ≡ Some (with_text_at state (target_of field) text)
text_again state field [] targeted plain = next_done state (with_text_at state (target_of field) []) (Put Instead field []) [] (put_again state Instead field [] targeted refl)
text_again state field (byte ∷ bytes) targeted plain =
    let text = byte ∷ bytes in
    next_done state (with_text_at state (target_of field) (take 2000 text)) (Put Instead field (escaped_text (piece_at text 0))) (map (more_command field text) (range_with_len 0 (further_pieces text)))
    (put_again state Instead field (piece_at text 0) targeted (plain_piece text 0 plain))
    ∙ whole_again state field text plain (λ front. still_targeted state (target_of field) front targeted) (grown state (target_of field)) (omega arith)

-- ---- size, symmetry and watch

sized : (state : SessionState) (grid : Grid) (a b c d : Bool) → a ≡ true → b ≡ true → c ≡ true → d ≡ true
    → state_left (resized state (if (a && b) && (c && d) then Ok grid else Err Size)) ≡ Some (record state { engine = record { grid = grid; words = state.engine.words }; clues = no_clues; circles = [] })
sized state grid true true true true p q r s = refl
sized state grid true true true false p q r s = cc
sized state grid true true false d p q r s = cc
sized state grid true false c d p q r s = cc
sized state grid false b c d p q r s = cc

only : (state next : SessionState) (command : Change) → state_left (changed state command) ≡ Some next → replayed state (command ∷ []) ≡ Some next
only state next command e = next_done state next command [] e

pub size_again : (state made : SessionState) → IsGrid made.engine.grid → replayed state (section_commands made sections.Size)
    ≡ Some (record state { engine = record { grid = blank made.engine.grid.width made.engine.grid.height; words = state.engine.words }; clues = no_clues; circles = [] })
size_again state made is =
    let grid = made.engine.grid in
    only state _ (changes.Size grid.width grid.height) (sized state (blank grid.width grid.height) (nat_le 1 grid.width) (nat_le grid.width 255) (nat_le 1 grid.height) (nat_le grid.height 255)
    (le-leb 1 grid.width is.wide.0) (le-leb grid.width 255 is.wide.1) (le-leb 1 grid.height is.high.0) (le-leb grid.height 255 is.high.1))

turned : (state : SessionState) (test : Bool) (grid : Grid) → test ≡ true → state_left (moved state (with_grid state.engine (by_fault (if not test then Err NotSquare else Ok grid)))) ≡ Some (record state { engine = record state.engine { grid = grid } })
turned state true grid e = refl
turned state false grid e = cc

pub symmetry_again : (state : SessionState) (kind : Symmetry) → (kind ≡ kinds.Quarter → state.engine.grid.width ≡ state.engine.grid.height)
    → replayed state (changes.Symmetry kind ∷ []) ≡ Some (record state { engine = record state.engine { grid = record state.engine.grid { symmetry = kind } } })
symmetry_again state kinds.None square = refl
symmetry_again state kinds.Half square = refl
symmetry_again state kinds.LeftRight square = refl
symmetry_again state kinds.UpDown square = refl
symmetry_again state kinds.Quarter square =
    only state _ (changes.Symmetry kinds.Quarter) (turned state (eqb state.engine.grid.width state.engine.grid.height) (record state.engine.grid { symmetry = kinds.Quarter }) (eq-eqb state.engine.grid.width state.engine.grid.height (square refl)))
