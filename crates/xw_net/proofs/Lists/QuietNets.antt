-- A net in which no light is queued or marked.
use Rattle.std.proofs.Common.{◌≡◌, ℕ, false, get_or, sym, ◌∙◌, inl, inr, arith}
use Rattle.std.specs.Prelude.{replicate}
use Rattle.std.proofs.lemmas.Bool.{cases_lt, both_ways}
use Rattle.std.proofs.lemmas.List.{get_or-replicate, get_or_past, length-replicate}
use Rattle.xw_net.specs.Nets.{queued_in, IsQueue}
use Rattle.xw_net.specs.Worklist.{HasSeeds}
use Rattle.xw_net.specs.Filled.{IsQuiet}
use Rattle.xw_net.specs.declared.net.Net.{Net}
use Rattle.xw_net.proofs.Lists.ListsOfLights.{waiting-none}

-- a list of false flags is false everywhere, also past the end
pub all_false : (n i : ℕ) → get_or (replicate n false) i false ≡ false
all_false n i = elim (cases_lt i n) [
  | inl lt ↦ get_or-replicate n i false false lt
  | inr le ↦ get_or_past (replicate n false) i false (omega (arith, length-replicate n false))
]

module _ (net : Net) (quiet : IsQuiet net) where
  pub quiet_queue : IsQueue net
  quiet_queue light waits = absurd (both_ways (queued_in net light) (quiet.queued light) waits)

  pub quiet_seeds : HasSeeds net.chain
  quiet_seeds light = quiet.marked light ∙ sym (waiting-none net.chain.lights light quiet.taken)
