-- Lists of waiting lights, each on the list at most once.
use Rattle.std.specs.Prelude.{◌≡◌, ℕ, ◌+◌, ◌<◌, ◌≤◌, Bool, true, false, not, ◌==◌, nat_eq, List, [], length, replicate, slice_index, slice_index_or, count_by}
use Rattle.std.specs.List.{list_any, IsDistinct}
use Rattle.xw_feas.specs.Board.{Board}

-- a list of lights
pub record ListOfLights : Type 0 where
  -- for each light whether it is marked: it is marked when it is put on the list, and stays so until it is released
  pub marks : List Bool
  -- the lights that wait on the list
  pub lights : List ℕ
  -- how many lights the list has room for
  pub room : ℕ

-- whether a light is marked
unfoldable pub is_marked : List Bool → ℕ → Bool
is_marked marks light = slice_index_or marks light false

-- whether a light waits
unfoldable pub is_waiting : List ℕ → ℕ → Bool
is_waiting lights light = list_any (λ other. other == light) lights

-- the number of lights that are not marked
abbrev pub unmarked : List Bool → ℕ
unmarked marks = count_by (λ mark. not mark) marks

-- each light waits at most once, only marked lights wait, and there is room for all lights
pub record IsWorklist (marks : List Bool) (lights : List ℕ) (room : ℕ) : Type 0 where
  pub marked : (light : ℕ) → is_waiting lights light ≡ true → is_marked marks light ≡ true
  pub once : IsDistinct nat_eq lights
  pub roomy : length marks ≤ room

-- the place of each light that waits is noted
abbrev pub ArePlaced : List ℕ → List ℕ → Type 0
ArePlaced lights places = (i : ℕ) → i < length lights → slice_index places (slice_index lights i) ≡ i

-- the invariant of a list, with a noted place for each light that it has room for
pub record IsKeptList (marks : List Bool) (lights places : List ℕ) (capacity : ℕ) : Type 0 where
  pub list : IsWorklist marks lights (length places)
  pub placed : ArePlaced lights places
  pub held : length places ≤ capacity

-- the light at an index was taken, and the last one moved there
pub record IsTakenFrom (old new : List ℕ) (from : ℕ) : Type 0 where
  pub less : length new + 1 ≡ length old
  pub there : from < length new → slice_index new from ≡ slice_index old (length new)
  pub others : (k : ℕ) → k < length new → (k ≡ from → ⊥) → slice_index new k ≡ slice_index old k

-- the list is for this number of lights; none is marked, and none waits
pub record IsIdle (count : ℕ) (list : ListOfLights) : Type 0 where
  pub marks : list.marks ≡ replicate count false
  pub lights : list.lights ≡ []
  pub room : count ≤ list.room

-- the list is unchanged, except that it may have more room
pub record IsRoomierList (old new : ListOfLights) : Type 0 where
  pub marks : new.marks ≡ old.marks
  pub lights : new.lights ≡ old.lights
  pub room : old.room ≤ new.room

-- the list has a mark for each light of the board
abbrev pub HasLights : Board → ListOfLights → Type 0
HasLights board list = length board.lights ≤ length list.marks

-- exactly the marked lights wait
abbrev pub HasSeeds : ListOfLights → Type 0
HasSeeds list = (light : ℕ) → is_marked list.marks light ≡ is_waiting list.lights light

-- some lights were marked, and each of them was put on the list
pub record Grows (old new : ListOfLights) : Type 0 where
  pub size : length new.marks ≡ length old.marks
  pub more : (light : ℕ) → is_marked old.marks light ≡ true → is_marked new.marks light ≡ true
  pub fresh : (light : ℕ) → is_marked new.marks light ≡ true → is_waiting new.lights light ≡ false → (is_marked old.marks light ≡ true) × (is_waiting old.lights light ≡ false)
  pub waits : ((light : ℕ) → is_waiting old.lights light ≡ true → is_marked old.marks light ≡ true) → (light : ℕ) → is_waiting new.lights light ≡ true → is_marked new.marks light ≡ true
  pub left : length new.lights + unmarked new.marks ≡ length old.lights + unmarked old.marks

-- all of these lights are marked
abbrev pub MarksAll : (ℕ → Type 0) → ListOfLights → Type 0
MarksAll these list = (light : ℕ) → these light → is_marked list.marks light ≡ true

-- each light that was newly marked is one of these
abbrev pub MarksOnly : (ℕ → Type 0) → ListOfLights → ListOfLights → Type 0
MarksOnly these old new =
    (member : ℕ → Bool) → ((light : ℕ) → is_marked old.marks light ≡ true → member light ≡ true) → ((light : ℕ) → these light → member light ≡ true) → (light : ℕ) → is_marked new.marks light ≡ true → member light ≡ true

-- exactly these lights were put on the list, except those that were marked
pub record Adds (these : ℕ → Type 0) (old new : ListOfLights) : Type 0 where
  pub grows : Grows old new
  pub all : MarksAll these new
  pub only : MarksOnly these old new
