-- Which file of a call a name stands for.
use Rattle.std.specs.Prelude.{◌≡◌, ℕ, true, false, bytes_eq, codes, List}
use Rattle.xw_disk.specs.declared.disk.CallFile.{CallFile}
use Rattle.xw_disk.specs.declared.disk.CallFile.TheVariants.{Named, Kept, Input}

-- the file with this name
abbrev pub IsNamed : List ℕ → CallFile → Type 0
IsNamed name (Named file) = file.now ≡ name
IsNamed name other = ⊥

-- the file that the one with this name is kept as
abbrev pub IsKeptAs : List ℕ → CallFile → Type 0
IsKeptAs name (Kept file) = file.now ≡ name
IsKeptAs name other = ⊥

-- the file that is read by this name; the name `-` stands for standard input
abbrev pub IsSource : List ℕ → CallFile → Type 0
IsSource name Input = bytes_eq name (codes "-") ≡ true
IsSource name (Named file) = (bytes_eq name (codes "-") ≡ false) × (file.now ≡ name)
IsSource name other = ⊥
