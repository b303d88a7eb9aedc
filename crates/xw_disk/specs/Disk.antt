-- What a disk was asked, and what it answered.
use Rattle.std.specs.Prelude.{◌≡◌, ℕ, ◌==◌, Bool, true, false, cond, List, [], ◌∷◌, ◌++◌, Result, Ok, Err, refl}
use Rattle.std.specs.Coded.{Coded, code_by, coded×, coded_ℕ, coded_list}
use Rattle.xw_disk.specs.declared.disk.DiskFault.{DiskFault}
use Rattle.xw_disk.specs.declared.disk.DiskFault.TheVariants.{Memory, Unreadable, Unwritable, InUse, Replaced}
use Rattle.xw_disk.specs.declared.disk.Standing.{Standing}
use Rattle.xw_disk.specs.declared.disk.Standing.TheVariants.{Nothing, AsRead, Other}
use Rattle.xw_disk.specs.declared.disk.Start.{Start}
use Rattle.xw_disk.specs.declared.disk.Start.TheVariants.{Anew, Cut, Put}

pub data Event : Type 0 where
  -- the file with this name was read: its bytes, or why it was not
  read : List ℕ → Result (List ℕ) DiskFault → Event
  -- whether the file with this name could be replaced, though no file was changed
  try_ : List ℕ → Result (Unit {0}) DiskFault → Event
  -- the file with this name was to have these bytes, and whether it was replaced
  replace : List ℕ → List ℕ → Result (Unit {0}) DiskFault → Event
  -- these bytes of the file with this name were to be kept beside it, under the name with this number, and whether they
  -- were
  keep : List ℕ → List ℕ → ℕ → Result (Unit {0}) DiskFault → Event
  -- what the file with this name was, before it was written over
  stands : List ℕ → Standing → Event
  -- these bytes, which the file with this name did not get, were to be left in a new file: its name, or why there is none
  leave : List ℕ → List ℕ → Result (List ℕ) DiskFault → Event
  -- the journal with this name was opened: its bytes, or why it was not
  open_ : List ℕ → Result (List ℕ) DiskFault → Event
  -- the journal with this name was to begin with these bytes, and whether each flush of it is synced to the device
  begin : List ℕ → List ℕ → Bool → Result (Unit {0}) DiskFault → Event
  -- the journal with this name took these bytes, with a mark for each flush
  take_lines : List ℕ → List ℕ → Event
  -- whether the name still led to the journal that was opened by it, as this program left it
  find : List ℕ → Result (Unit {0}) DiskFault → Event
  -- the journal with this name was to have these bytes at its end
  end : List ℕ → List ℕ → Result (Unit {0}) DiskFault → Event

-- the bytes with which a journal begins
abbrev pub started : Start → List ℕ
started (Anew bytes) = bytes.now
started (Cut bytes) = bytes.now
started (Put first others) = first.now ++ others.now

-- ---- how the logic stores an event

abbrev fault_number : DiskFault → ℕ
fault_number Memory = 1
fault_number Unreadable = 2
fault_number Unwritable = 3
fault_number InUse = 4
fault_number Replaced = 5

abbrev fault_at : ℕ → DiskFault
fault_at n = cond (n == 1) Memory (cond (n == 2) Unreadable (cond (n == 3) Unwritable (cond (n == 4) InUse Replaced)))

abbrev done_at : ℕ → Result (Unit {0}) DiskFault
done_at n = cond (n == 0) (Ok tt) (Err (fault_at n))

abbrev bytes_at : List ℕ → ℕ → Result (List ℕ) DiskFault
bytes_at bytes n = cond (n == 0) (Ok bytes) (Err (fault_at n))

abbrev standing_number : Standing → ℕ
standing_number Nothing = 0
standing_number AsRead = 1
standing_number Other = 2

abbrev standing_at : ℕ → Standing
standing_at n = cond (n == 0) Nothing (cond (n == 1) AsRead Other)

abbrev number_at : List ℕ → ℕ
number_at [] = 0
number_at (number ∷ rest) = number

abbrev flag_list : Bool → List ℕ
flag_list false = []
flag_list true = 1 ∷ []

abbrev flag_at : List ℕ → Bool
flag_at [] = false
flag_at (x ∷ xs) = true

abbrev Parts : Type 0
Parts = ℕ × (List ℕ × (List ℕ × (List ℕ × ℕ)))

abbrev to_parts : Event → Parts
to_parts (read name (Ok bytes)) = (0, (name, (bytes, ([], 0))))
to_parts (read name (Err fault)) = (0, (name, ([], ([], fault_number fault))))
to_parts (replace name bytes (Ok done)) = (1, (name, (bytes, ([], 0))))
to_parts (replace name bytes (Err fault)) = (1, (name, (bytes, ([], fault_number fault))))
to_parts (keep name bytes number (Ok done)) = (2, (name, (bytes, (number ∷ [], 0))))
to_parts (keep name bytes number (Err fault)) = (2, (name, (bytes, (number ∷ [], fault_number fault))))
to_parts (stands name standing) = (7, (name, ([], ([], standing_number standing))))
to_parts (leave name bytes (Ok place)) = (8, (name, (bytes, (place, 0))))
to_parts (leave name bytes (Err fault)) = (8, (name, (bytes, ([], fault_number fault))))
to_parts (find name (Ok done)) = (9, (name, ([], ([], 0))))
to_parts (find name (Err fault)) = (9, (name, ([], ([], fault_number fault))))
to_parts (try_ name (Ok done)) = (10, (name, ([], ([], 0))))
to_parts (try_ name (Err fault)) = (10, (name, ([], ([], fault_number fault))))
to_parts (open_ name (Ok bytes)) = (3, (name, (bytes, ([], 0))))
to_parts (open_ name (Err fault)) = (3, (name, ([], ([], fault_number fault))))
to_parts (begin name bytes is_synced (Ok done)) = (4, (name, (bytes, (flag_list is_synced, 0))))
to_parts (begin name bytes is_synced (Err fault)) = (4, (name, (bytes, (flag_list is_synced, fault_number fault))))
to_parts (take_lines name bytes) = (5, (name, (bytes, ([], 0))))
to_parts (end name bytes (Ok done)) = (6, (name, (bytes, ([], 0))))
to_parts (end name bytes (Err fault)) = (6, (name, (bytes, ([], fault_number fault))))

abbrev from_parts : Parts → Event
from_parts p =
    cond (p.0 == 0) (read p.1.0 (bytes_at p.1.1.0 p.1.1.1.1)) (cond (p.0 == 1) (replace p.1.0 p.1.1.0 (done_at p.1.1.1.1))
    (cond (p.0 == 2) (keep p.1.0 p.1.1.0 (number_at p.1.1.1.0) (done_at p.1.1.1.1)) (cond (p.0 == 3) (open_ p.1.0 (bytes_at p.1.1.0 p.1.1.1.1))
    (cond (p.0 == 4) (begin p.1.0 p.1.1.0 (flag_at p.1.1.1.0) (done_at p.1.1.1.1)) (cond (p.0 == 5) (take_lines p.1.0 p.1.1.0)
    (cond (p.0 == 7) (stands p.1.0 (standing_at p.1.1.1.1)) (cond (p.0 == 8) (leave p.1.0 p.1.1.0 (bytes_at p.1.1.1.0 p.1.1.1.1))
    (cond (p.0 == 9) (find p.1.0 (done_at p.1.1.1.1)) (cond (p.0 == 10) (try_ p.1.0 (done_at p.1.1.1.1)) (end p.1.0 p.1.1.0 (done_at p.1.1.1.1)))))))))))

pub from_parts-to_parts : (e : Event) → from_parts (to_parts e) ≡ e
from_parts-to_parts (read name (Ok bytes)) = refl
from_parts-to_parts (read name (Err Memory)) = refl
from_parts-to_parts (read name (Err Unreadable)) = refl
from_parts-to_parts (read name (Err Unwritable)) = refl
from_parts-to_parts (read name (Err InUse)) = refl
from_parts-to_parts (read name (Err Replaced)) = refl
from_parts-to_parts (replace name bytes (Ok tt)) = refl
from_parts-to_parts (replace name bytes (Err Memory)) = refl
from_parts-to_parts (replace name bytes (Err Unreadable)) = refl
from_parts-to_parts (replace name bytes (Err Unwritable)) = refl
from_parts-to_parts (replace name bytes (Err InUse)) = refl
from_parts-to_parts (replace name bytes (Err Replaced)) = refl
from_parts-to_parts (keep name bytes number (Ok tt)) = refl
from_parts-to_parts (stands name Nothing) = refl
from_parts-to_parts (stands name AsRead) = refl
from_parts-to_parts (stands name Other) = refl
from_parts-to_parts (leave name bytes (Ok place)) = refl
from_parts-to_parts (leave name bytes (Err Memory)) = refl
from_parts-to_parts (leave name bytes (Err Unreadable)) = refl
from_parts-to_parts (leave name bytes (Err Unwritable)) = refl
from_parts-to_parts (leave name bytes (Err InUse)) = refl
from_parts-to_parts (leave name bytes (Err Replaced)) = refl
from_parts-to_parts (find name (Ok tt)) = refl
from_parts-to_parts (find name (Err Memory)) = refl
from_parts-to_parts (find name (Err Unreadable)) = refl
from_parts-to_parts (find name (Err Unwritable)) = refl
from_parts-to_parts (find name (Err InUse)) = refl
from_parts-to_parts (find name (Err Replaced)) = refl
from_parts-to_parts (try_ name (Ok tt)) = refl
from_parts-to_parts (try_ name (Err Memory)) = refl
from_parts-to_parts (try_ name (Err Unreadable)) = refl
from_parts-to_parts (try_ name (Err Unwritable)) = refl
from_parts-to_parts (try_ name (Err InUse)) = refl
from_parts-to_parts (try_ name (Err Replaced)) = refl
from_parts-to_parts (keep name bytes number (Err Memory)) = refl
from_parts-to_parts (keep name bytes number (Err Unreadable)) = refl
from_parts-to_parts (keep name bytes number (Err Unwritable)) = refl
from_parts-to_parts (keep name bytes number (Err InUse)) = refl
from_parts-to_parts (keep name bytes number (Err Replaced)) = refl
from_parts-to_parts (open_ name (Ok bytes)) = refl
from_parts-to_parts (open_ name (Err Memory)) = refl
from_parts-to_parts (open_ name (Err Unreadable)) = refl
from_parts-to_parts (open_ name (Err Unwritable)) = refl
from_parts-to_parts (open_ name (Err InUse)) = refl
from_parts-to_parts (open_ name (Err Replaced)) = refl
from_parts-to_parts (begin name bytes false (Ok tt)) = refl
from_parts-to_parts (begin name bytes true (Ok tt)) = refl
from_parts-to_parts (begin name bytes false (Err Memory)) = refl
from_parts-to_parts (begin name bytes true (Err Memory)) = refl
from_parts-to_parts (begin name bytes false (Err Unreadable)) = refl
from_parts-to_parts (begin name bytes true (Err Unreadable)) = refl
from_parts-to_parts (begin name bytes false (Err Unwritable)) = refl
from_parts-to_parts (begin name bytes true (Err Unwritable)) = refl
from_parts-to_parts (begin name bytes false (Err InUse)) = refl
from_parts-to_parts (begin name bytes true (Err InUse)) = refl
from_parts-to_parts (begin name bytes false (Err Replaced)) = refl
from_parts-to_parts (begin name bytes true (Err Replaced)) = refl
from_parts-to_parts (take_lines name bytes) = refl
from_parts-to_parts (end name bytes (Ok tt)) = refl
from_parts-to_parts (end name bytes (Err Memory)) = refl
from_parts-to_parts (end name bytes (Err Unreadable)) = refl
from_parts-to_parts (end name bytes (Err Unwritable)) = refl
from_parts-to_parts (end name bytes (Err InUse)) = refl
from_parts-to_parts (end name bytes (Err Replaced)) = refl

abbrev pub events_code : Coded (List Event)
events_code = coded_list (code_by Parts (coded× coded_ℕ (coded× (coded_list coded_ℕ) (coded× (coded_list coded_ℕ) (coded× (coded_list coded_ℕ) coded_ℕ)))) to_parts from_parts from_parts-to_parts)
