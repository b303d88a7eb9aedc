-- What is reported of a file whose commands are replayed.
use Rattle.std.specs.Prelude.{◌-◌, ◌++◌, ℕ, bytes_eq, drop, Bool, true, false, List, codes, flat_map, if◌then◌else◌, length}
use Rattle.xw_text.specs.Lines.{lines_of}

-- the report of lines that do not count because they were cut
abbrev pub cut_line : List ℕ → List ℕ
cut_line name = codes "xw: " ++ name ++ codes ": an incomplete last command is ignored\n"

-- whether a report ends with the reason `Known`
abbrev pub ends_in_known : List ℕ → Bool
ends_in_known line = bytes_eq (drop (length line - 7) line) (codes ": Known")

-- what follows a report, without its LF, if failures are explained
abbrev pub after_report : List ℕ → List ℕ
after_report line = if ends_in_known line then codes "\nxw: the list has this word\n" else codes "\n"

-- the reports of a replay; if failures are explained, a sentence follows each report of a word that the list has
abbrev pub explained_reports : Bool → List ℕ → List ℕ
explained_reports false reports = reports
explained_reports true reports = flat_map (λ line. line ++ after_report line) (lines_of reports)
