-- What is owned behind an address.
use base.Fml.{Fml, ftrue}
use denote.RattleType.{RattleType}
use denote.RawPtr.{Ptr}
use Rattle.std.specs.Prelude.{Option, None, Some}
use Rattle.std.specs.contracts.impls.GlobalAllocator.TheImpl.{ghosts}
use Rattle.std_alloc.specs.Box.Ownership.{box_owns}

-- a box of the C library's heap that has this value, or nothing
unfoldable pub held : (R : RattleType) → Ptr → Option R.Denot → Fml
held R address None = ftrue
held R address (Some value) = box_owns (ghosts.dealloc_token (record { memory = record { seal = tt } })) R address value
