-- An empty net.
use Rattle.std.specs.Prelude.{◌≡◌, ℕ, ◌-◌, ◌*◌, ◌^◌, false, List, length, replicate, None}
use Rattle.xw_grid.specs.declared.lights.Light.{Light}
use Rattle.xw_net.specs.Room.{AreFalse}
use Rattle.xw_net.specs.Worklist.{IsIdle}
use Rattle.xw_net.specs.declared.net.Net.{Net}

-- a net with no words and no letters, for these lights, numbers of known words by length, and
-- number of cells
pub record IsBlank (lights : List Light) (counts : ℕ → ℕ) (cells : ℕ) (net : Net) : Type 0 where
  pub rows : AreFalse lights counts net.rows.items
  pub base : AreFalse lights counts net.base.items
  pub entered : net.entered.items ≡ replicate (length lights) false
  pub letters : net.letters.items ≡ replicate cells 0
  -- no support is held: the value is not the index of any word
  pub held : net.held.items ≡ replicate (52 * cells) (2 ^ 32 - 1)
  pub restart : net.restart.items ≡ replicate (2 * cells) 0
  pub pending : net.pending.items ≡ replicate (2 * cells) 0
  pub queue : IsIdle (length lights) net.queue
  pub chain : IsIdle (length lights) net.chain
  pub spare : net.spare ≡ None
