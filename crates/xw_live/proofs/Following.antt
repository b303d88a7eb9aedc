-- A net follows an edit that a position tells of.
use Rattle.std.proofs.Common.{◌≡◌, ℕ, ◌+◌, ◌≤◌, true, false, List, length, refl, sym, ◌∙◌, ap, subst}
use Rattle.std.specs.Prelude.{Ok, is_some}
use Rattle.std.proofs.lemmas.Bool.{false≢true}
use Rattle.xw_words.specs.Dictionary.{Dictionary, known_words}
use Rattle.xw_grid.specs.declared.lights.Light.{Light}
use Rattle.xw_grid.specs.EditLaws.{SameShape}
use Rattle.xw_feas.specs.declared.engine_state.EngineState.{EngineState}
use Rattle.xw_feas.specs.declared.effect.Effect.{Effect}
use Rattle.xw_feas.specs.declared.effect.Effect.TheVariants.{Nothing, Cells, List as EffectList, Shape, Word, Least}
use Rattle.xw_feas.specs.Layout.{Layout, layout_of}
use Rattle.xw_feas.specs.EngineState.{state_of}
use Rattle.xw_feas.specs.Shape.{SameCounts}
use Rattle.xw_feas.specs.State.{State, Action, after}
use Rattle.xw_feas.specs.declared.notes.Notes.{Notes}
use Rattle.xw_feas.specs.Effect.{Tells, KeepsAnswers, IsToldBy, fields_by, fields_of, is_idle_by}
use Rattle.xw_feas.specs.Written.{Fields}
use Rattle.xw_net.specs.Change.{IsChange}
use Rattle.xw_net.specs.Fit.{lacking, HasRoomBetween}
use Rattle.xw_net.specs.Net.{sets_of, known_counts, IsSettledOn, IsAlike}
use Rattle.xw_net.specs.Room.{HasRoom}
use Rattle.xw_net.specs.declared.net.Net.{Net}
use Rattle.xw_net.proofs.Edits.ChangeFacts.{change_made}
use Rattle.xw_net.proofs.Edits.ListedCells.{edit_in_grid}
use Rattle.xw_live.specs.Engine.{CanFollow, IsKept}
use Rattle.xw_live.proofs.Keeping.{kept_from, kept_cells, settled_alike, stood_near, near_same, room_without, room_of_lights}

-- an answer may have changed
pub something_told : (before now : State) (lights : List Light) (notes : Notes) (action : Action) (effect : Effect) → is_idle_by effect ≡ false → IsToldBy before now lights notes action effect → Tells before action (fields_by lights notes effect)
something_told before now lights notes action Nothing some is = absurd (false≢true (sym some))
something_told before now lights notes action Cells some is = is
something_told before now lights notes action (EffectList count) some is = is
something_told before now lights notes action (Shape lights') some is = is
something_told before now lights notes action (Word len index) some is = is
something_told before now lights notes action (Least back) some is = is

pub nothing_told : (before now : State) (lights : List Light) (notes : Notes) (action : Action) (effect : Effect) → is_idle_by effect ≡ true → IsToldBy before now lights notes action effect → KeepsAnswers before now
nothing_told before now lights notes action Nothing none is = is
nothing_told before now lights notes action Cells none is = absurd (false≢true none)
nothing_told before now lights notes action (EffectList count) none is = absurd (false≢true none)
nothing_told before now lights notes action (Shape lights') none is = absurd (false≢true none)
nothing_told before now lights notes action (Word len index) none is = absurd (false≢true none)
nothing_told before now lights notes action (Least back) none is = absurd (false≢true none)

pub alike_itself : (net : Net) → IsAlike net net
alike_itself net = record { flags = λ lights. refl; sets = refl; settled = λ layout dictionary is. is; room = λ same lights counts room. room }

module _ (was now : EngineState) (action : Action) (net : Net) (kept : IsKept (state_of was) net) (made : after (state_of was) action ≡ Ok (state_of now)) where
  -- a change that is told describes the edit
  pub change_told : (told : Fields) → Tells (state_of was) action told → IsChange (state_of was) (state_of now) action told
  change_told told tells = change_made (state_of was) (state_of now) action told made tells.turned tells.back was.formed now.formed tells.cells tells.lights tells.word

  -- an alike net can be told of it, if it has room for what the edit leaves
  pub can_follow : (told : Fields) (new : Net) → Tells (state_of was) action told → IsAlike net new → length now.grid.squares ≡ length was.grid.squares
      → ((len : ℕ) → (known_counts was.bank.words len ≤ known_counts now.bank.words len) × (known_counts now.bank.words len ≤ known_counts was.bank.words len + lacking told.word len))
      → HasRoomBetween was.lights now.lights (known_counts now.bank.words) new new.spare → CanFollow now told new
  can_follow told new tells alike cells near room = record {
    inside = edit_in_grid (state_of was) (state_of now) action told.cells was.formed.grid made tells.cells;
    cells = ap length alike.sets ∙ kept_cells (state_of was) net kept ∙ sym cells;
    stood = stood_near (state_of was) new told.before tells.lights (settled_alike (state_of was) net new alike kept.settled) (known_counts now.bank.words) told.word near;
    room = subst (λ (before : List Light). HasRoomBetween before now.lights (known_counts now.bank.words) new new.spare) (was.light_list ∙ sym tells.lights) room;
  }

  -- the same net can be told of an edit in its place
  pub can_follow_same : (told : Fields) → Tells (state_of was) action told → now.lights ≡ was.lights → length now.grid.squares ≡ length was.grid.squares → SameCounts was.bank.words now.bank.words → CanFollow now told net
  can_follow_same told tells lights cells counts =
      can_follow told net tells (alike_itself net) cells (near_same was.bank.words now.bank.words told.word counts)
      (room_without was.lights now.lights (known_counts now.bank.words) net net.spare kept.none_waits lights
      (subst (λ (counts : ℕ → ℕ). HasRoom now.lights counts net) (λ i len. sym (counts len) i) (room_of_lights (state_of was) net now.lights (lights ∙ was.light_list) kept.settled)))

  -- no answer changes if nothing is told
  pub kept_unchanged : (new : Net) → IsAlike net new → is_some new.spare ≡ false → KeepsAnswers (state_of was) (state_of now) → IsKept (state_of now) new
  kept_unchanged new alike none_waits keeps =
      kept_from (state_of now) new
      (subst (λ (words : Dictionary). ∥ IsSettledOn (layout_of now.grid) words new ∥₁) (sym keeps.words) (subst (λ (layout : Layout). ∥ IsSettledOn layout was.bank.words new ∥₁) (sym keeps.layout) (settled_alike (state_of was) net new alike kept.settled)))
      none_waits

  -- the letters of before the edit
  pub same_cells_kept : (new last : Net) (before : List ℕ) → IsAlike net new → before ≡ sets_of new → length now.grid.squares ≡ length was.grid.squares → IsKept (state_of now) last → length before ≡ length (sets_of last)
  same_cells_kept new last before alike is cells now_kept = ap length (is ∙ alike.sets) ∙ kept_cells (state_of was) net kept ∙ sym cells ∙ sym (kept_cells (state_of now) last now_kept)

  -- the same for letters that are written
  pub entries_change : now.notes.effect ≡ Cells → Tells (state_of was) action (fields_by now.lights now.notes Cells) → IsChange (state_of was) (state_of now) action (fields_of now.lights now.notes)
  entries_change wrote tells = subst (λ (effect : Effect). IsChange (state_of was) (state_of now) action (fields_by now.lights now.notes effect)) (sym wrote) (change_told (fields_by now.lights now.notes Cells) tells)

  pub entries_follow : now.notes.effect ≡ Cells → Tells (state_of was) action (fields_by now.lights now.notes Cells) → SameShape was.grid now.grid → now.bank.words ≡ was.bank.words → CanFollow now (fields_of now.lights now.notes) net
  entries_follow wrote tells shape words =
      subst (λ (effect : Effect). CanFollow now (fields_by now.lights now.notes effect) net) (sym wrote)
      (can_follow_same (fields_by now.lights now.notes Cells) tells (now.light_list ∙ shape.lights ∙ sym was.light_list) shape.cells (λ len. ap (λ (words : Dictionary). length (known_words words len)) words))

  pub entries_cells : SameShape was.grid now.grid → (last : Net) (before : List ℕ) → before ≡ sets_of net → IsKept (state_of now) last → length before ≡ length (sets_of last)
  entries_cells shape last before is now_kept = same_cells_kept net last before (alike_itself net) is shape.cells now_kept
