-- The word list of a session: what is read, what is reported, and which failure ends it.
use Rattle.std.specs.Prelude.{◌≡◌, ◌⊎◌, ◌-◌, ◌++◌, ◌&&◌, ℕ, nat_lt, Bool, true, false, List, Option, Some, None, Ok, codes, count_by, decimal, length, []}
use Rattle.std.specs.Borrow.{Bor}
use Rattle.xw_text.specs.Lines.{is_line_feed}
use Rattle.xw_words.specs.Dictionary.{Dictionary, no_words}
use Rattle.xw_words.specs.WordList.{IsTooLong, listed_in, results_of, words_among}
use Rattle.xw_disk.specs.Disk.{read}
use Rattle.xw_desk.specs.declared.failure.Failure.{Failure}
use Rattle.xw_desk.specs.declared.failure.Failure.TheVariants as failures
use Rattle.xw_desk.specs.Desk.{Asks, Moment, Reports, ReportsIf}
use Rattle.xw_desk.specs.Files.{IsFileFault, IsUnreadFile}

-- the report of a word list: how many lines were added and how many skipped
abbrev pub counts_line : List ℕ → ℕ → ℕ → List ℕ
counts_line name added skipped = codes "xw: " ++ name ++ codes ": " ++ decimal added ++ codes " added, " ++ decimal skipped ++ codes " skipped\n"

-- how many words the bytes of a word list have
abbrev pub added_in : List ℕ → ℕ
added_in bytes = length (words_among (results_of bytes))

-- the report of a word list with these bytes
abbrev pub loaded_line : List ℕ → List ℕ → List ℕ
loaded_line name bytes = counts_line name (added_in bytes) (length (results_of bytes) - added_in bytes)

-- whether the bytes of a word list have more than 1,000,000 line feeds
abbrev pub is_long : List ℕ → Bool
is_long bytes = nat_lt 1000000 (count_by is_line_feed bytes)

-- The notes on a word list, if they are due. What they say is shown by run cases.
abbrev pub AreNotes : Bool → List ℕ → Type 0
AreNotes true notes = Unit {0}
AreNotes false notes = notes ≡ []

-- the counts of a word list were written with its notes, if these are due
abbrev pub IsLoadedTold : List ℕ → List ℕ → Moment → Moment → Type 0
IsLoadedTold name bytes old new = (notes : List ℕ) × AreNotes old.explains notes × Reports (loaded_line name bytes ++ notes) old new

-- the report that a word list is loading
abbrev pub loading_line : List ℕ → List ℕ
loading_line name = codes "xw: " ++ name ++ codes ": loading\n"

-- on a terminal, it is reported that a word list with these bytes is loading, if the list is long
abbrev pub IsLoadingTold : List ℕ → List ℕ → Moment → Moment → Type 0
IsLoadingTold name bytes old new = ReportsIf (old.is_terminal && is_long bytes) (loading_line name) old new

-- the bytes are a word list with too many words of some length, and the failure says so of this file
abbrev pub IsOverfull : List ℕ → List ℕ → Failure → Type 0
IsOverfull name bytes failure = IsTooLong (listed_in bytes) × IsFileFault name (codes "Full") None failure

-- The file with this name was read, and the dictionary is the one that its bytes list. A terminal is told before that a
-- long list is loading, and then the counts of its lines are reported.
pub record IsLoaded (name : List ℕ) (words : Dictionary) (old new : Moment) : Type 0 where
  pub bytes : List ℕ
  pub read_at : Moment
  pub asks : Asks (read name (Ok bytes)) old read_at
  pub listed : words ≡ listed_in bytes
  pub mid : Moment
  pub loading : IsLoadingTold name bytes read_at mid
  pub told : IsLoadedTold name bytes mid new

-- The file with this name was read, and its bytes have too many words, or an allocation failed. A terminal may have been
-- told that it is loading.
pub record IsBadList (name : List ℕ) (failure : Failure) (old new : Moment) : Type 0 where
  pub bytes : List ℕ
  pub mid : Moment
  pub asks : Asks (read name (Ok bytes)) old mid
  pub why : (failure ≡ failures.Memory) ⊎ IsOverfull name bytes failure
  pub told : (new ≡ mid) ⊎ IsLoadingTold name bytes mid new

-- why the word list with this name is not loaded
abbrev pub IsUnloaded : List ℕ → Failure → Moment → Moment → Type 0
IsUnloaded name failure old new = IsUnreadFile name failure old new ⊎ IsBadList name failure old new

-- the dictionary that a session begins with: an empty one, or the one that the bytes of the named file list
abbrev pub HasWords : Option (Bor (List ℕ)) → Dictionary → Moment → Moment → Type 0
HasWords None words old new = (words ≡ no_words) × (new ≡ old)
HasWords (Some file) words old new = IsLoaded file.now words old new

-- why the dictionary of a session is not made
abbrev pub HasNoWords : Option (Bor (List ℕ)) → Failure → Moment → Moment → Type 0
HasNoWords None failure old new = (failure ≡ failures.Memory) × (new ≡ old)
HasNoWords (Some file) failure old new = IsUnloaded file.now failure old new
