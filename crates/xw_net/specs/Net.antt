-- A net as its callers see it. Besides these definitions, the public contracts of `Net` cite those of `Change.antt` (what a
-- net is told of an edit), `Update.antt` (what settling does), `Region.antt` and `Cost.antt` (what it may cost),
-- `Settling.antt` (how a caller meets its conditions), and the sizes and copies of nets in `Nets.antt`, `Room.antt`,
-- `Fit.antt`, `Copy.antt`, `Tally.antt` and `Sizes.antt`. The other files are for inner functions and proofs.
use Rattle.std.specs.Prelude.{◌≡◌, ℕ, ◌+◌, ◌≤◌, Bool, true, false, List, [], ◌∷◌, ◌++◌, map, drop, length, slice_index_or, position, Option, Some, None, option_map, IsTrue}
use Rattle.std.specs.List.{range_with_len}
use Rattle.xw_words.specs.Dictionary.{Dictionary, known_words}
use Rattle.xw_grid.specs.declared.lights.Light.{Light}
use Rattle.xw_grid.specs.Grid.{Grid}
use Rattle.xw_grid.specs.Light.{lights_of}
use Rattle.xw_feas.specs.Board.{Board, board_of, light_at}
use Rattle.xw_feas.specs.Choices.{IsExact}
use Rattle.xw_feas.specs.Flags.{flag_at, set_has}
use Rattle.xw_feas.specs.Standing.{HasRows}
use Rattle.xw_feas.specs.State.{State, Action}
use Rattle.xw_net.specs.Region.{IsRegion}
use Rattle.xw_net.specs.Nets.{bits_for, queued_in}
use Rattle.xw_net.specs.Fit.{lacking}
use Rattle.xw_net.specs.Room.{HasRoom, HasSpare}
use Rattle.xw_net.specs.Filled.{IsUnstripped, IsFilled}
use Rattle.xw_net.specs.declared.net.Net.{Net}
use Rattle.xw_net.specs.declared.room.Spare.{Spare}
use Rattle.xw_net.specs.Layout.{Layout, layout_of}

-- a flag for each known word of the light's length, and one for the word that its letters spell
abbrev pub row_flags : Net → ℕ → List Bool
row_flags net light = bits_for net light ++ slice_index_or net.entered.items light false ∷ []

-- the flags of each light
unfoldable pub flags_of : List Light → Net → List (List Bool)
flags_of lights net = map (row_flags net) (range_with_len 0 (length lights))

-- the set of letters of each cell
unfoldable pub sets_of : Net → List ℕ
sets_of net = net.letters.items

-- the flags of one light
abbrev pub flags_at : List Light → Net → ℕ → List Bool
flags_at lights net light = slice_index_or (flags_of lights net) light []

-- The net is settled for a layout and a dictionary: it has exactly the feasible words and letters (`exact`), and its other
-- arrays are as the next update needs them (`filled`).
pub record IsSettledOn (layout : Layout) (dictionary : Dictionary) (net : Net) : Type 0 where
  pub rows : HasRows layout.board dictionary (flags_of layout.lights net) (sets_of net)
  pub exact : IsExact layout.board dictionary (flag_at (flags_of layout.lights net)) (set_has (sets_of net))
  pub filled : IsFilled layout.board dictionary net

-- the net is settled for the grid and the dictionary of a state: what holds before `Net::revive` and after `Net::strip`
abbrev pub IsSettledFor : State → Net → Type 0
IsSettledFor state net = IsSettledOn (layout_of state.grid) state.words net

-- The net is revived after an edit: what holds between `Net::revive` and `Net::strip`. It has all that is feasible, and
-- perhaps more. Every light where something may have to be removed is queued, and all queued lights are in the edit's
-- region.
pub record IsRevivedFor (before now : State) (action : Action) (net : Net) : Type 0 where
  pub unstripped : IsUnstripped (board_of now.grid) now.words net
  pub queued : (member : List ℕ → Bool) → IsRegion before now action member → (light : ℕ) → queued_in net light ≡ true → IsTrue (member (light_at (board_of now.grid) light))

-- there is room for these lights and numbers of known words: in the spare arrays, or in the net's
-- own if there are none
abbrev pub HasRoomIn : List Light → (ℕ → ℕ) → Net → Option Spare → Type 0
HasRoomIn lights counts net None = HasRoom lights counts net
HasRoomIn lights counts net (Some spare) = HasSpare lights counts net spare

-- there is room for these lights and numbers of known words
abbrev pub HasRoomFor : List Light → (ℕ → ℕ) → Net → Type 0
HasRoomFor lights counts net = HasRoomIn lights counts net net.spare

-- the number of known words of a length
abbrev pub known_counts : Dictionary → ℕ → ℕ
known_counts dictionary len = length (known_words dictionary len)

-- the net is settled for some grid with these lights
pub record StandsFor (lights : List Light) (net : Net) : Type 0 where
  pub state : State
  pub are_lights : lights_of state.grid ≡ lights
  pub settled : ∥ IsSettledFor state net ∥₁

-- the net is settled for some grid with this board, and for a dictionary
pub record IsSettledOver (board : Board) (dictionary : Dictionary) (net : Net) : Type 0 where
  pub grid : Grid
  pub is_board : board_of grid ≡ board
  pub settled : ∥ IsSettledFor (record { grid = grid; words = dictionary }) net ∥₁

-- the net is settled for some grid with these lights and some dictionary, and since then no word has
-- become known, except perhaps the changed one
pub record StoodFor (lights : List Light) (word : Option (ℕ × ℕ)) (counts : ℕ → ℕ) (net : Net) : Type 0 where
  pub stands : StandsFor lights net
  pub near : (len : ℕ) → (known_counts stands.state.words len ≤ counts len) × (counts len ≤ known_counts stands.state.words len + lacking word len)

-- the first set flag from an index on
abbrev pub first_from : List Bool → ℕ → Option ℕ
first_from flags from = option_map (λ index. from + index) (position (λ flag. flag) (drop from flags))

-- The new net has the answers of the old one, and is settled for every layout and dictionary for which
-- the old one was. If it has the same spare arrays, it has at least the old one's room.
pub record IsAlike (old new : Net) : Type 0 where
  pub flags : (lights : List Light) → flags_of lights new ≡ flags_of lights old
  pub sets : sets_of new ≡ sets_of old
  pub settled : (layout : Layout) (dictionary : Dictionary) → IsSettledOn layout dictionary old → IsSettledOn layout dictionary new
  pub room : new.spare ≡ old.spare → (lights : List Light) (counts : ℕ → ℕ) → HasRoomFor lights counts old → HasRoomFor lights counts new
