-- Text that was written line by line is split into these lines.
use Rattle.std.proofs.Common.{◌≡◌, ℕ, suc, ◌+◌, ◌-◌, true, false, eqb, ltb, List, [], ◌∷◌, ◌++◌, length, map, get_or, take, drop, refl, sym, ap, subst, ◌∙◌, inl, inr, append_assoc, length-append, arith}
use Rattle.std.specs.Prelude.{filter, slice_get}
use Rattle.std.specs.List.{flat_map, AllByRecursion, list_any, list_all}
use Rattle.std.proofs.lemmas.Bool.{or_parts, and_parts, and_right, false≢true, cond-false, lt-ltb, not-true, ne_eqb}
use Rattle.std.proofs.lemmas.List.{take_at, drop_at, get_or_past}
use Rattle.std.proofs.lemmas.Option.{slice_get_cases, get_or_from_slice_get}
use Rattle.std.proofs.lemmas.List.Elements.{filter-append}
use Rattle.bstr.specs.Text.{line_len, lines_of, no_cr, without_terminator}
use Rattle.bstr.proofs.lemmas.LineLemmas.{lines-step}
use Rattle.xw_files.specs.declared.fault.Tag.{Tag}
use Rattle.xw_files.specs.declared.fault.Tag.TheVariants as tags
use Rattle.xw_files.specs.Text.Lines.{is_blank, trim_back, trimmed, is_some_line, shown, cut}
use Rattle.xw_files.specs.Text.Tag.{header, name_of, is_tag_line}
use Rattle.xw_files.specs.Text.Shape.{Lines, is_nul}
use Rattle.xw_files.specs.Text.Written.{is_line_end, is_blank_at, is_spelled, is_clue, line, tag_line, tag}
use Rattle.xw_files.proofs.TextLemmas.Lines.{trim_front-none, trim_back-none}
use Rattle.xw_files.proofs.TextLemmas.Alls.{all_at}

-- the text has no byte that ends a line, and no NUL
abbrev pub NoEnds : List ℕ → Type 0
NoEnds text = AllByRecursion (λ byte. is_line_end byte ≡ false) text

line_len_is : (raw rest : List ℕ) → NoEnds raw → line_len (raw ++ 10 ∷ rest) ≡ length raw + 1
unfolding line_len
line_len_is [] rest none = refl
line_len_is (byte ∷ raw) rest none =
    let longer : suc (length raw + 1) ≡ length (byte ∷ raw) + 1 = omega arith in
    let no_feed : eqb byte 10 ≡ false = (or_parts _ _ (or_parts _ _ none.0).0).1 in
    cond-false _ _ _ no_feed ∙ ap suc (line_len_is raw rest none.1) ∙ longer

first_line : (raw rest : List ℕ) → NoEnds raw → lines_of (raw ++ 10 ∷ rest) ≡ (raw ++ 10 ∷ []) ∷ lines_of rest
first_line raw rest none =
    let bytes = raw ++ 10 ∷ rest in
    let whole : bytes ≡ (raw ++ 10 ∷ []) ++ rest = sym (append_assoc raw (10 ∷ []) rest) in
    let size : length (raw ++ 10 ∷ []) ≡ length raw + 1 = length-append raw (10 ∷ []) in
    let front : take (length raw + 1) bytes ≡ raw ++ 10 ∷ [] = ap (take (length raw + 1)) whole ∙ take_at (raw ++ 10 ∷ []) rest (length raw + 1) size in
    let back : drop (length raw + 1) bytes ≡ rest = ap (drop (length raw + 1)) whole ∙ drop_at (raw ++ 10 ∷ []) rest (length raw + 1) size in
    lines-step bytes (omega (arith, length-append raw (10 ∷ rest))) ∙ ap (λ (k : ℕ). take k bytes ∷ lines_of (drop k bytes)) (line_len_is raw rest none)
    ∙ ap (λ (t : List ℕ). t ∷ lines_of (drop (length raw + 1) bytes)) front ∙ ap (λ (t : List ℕ). (raw ++ 10 ∷ []) ∷ lines_of t) back

last_is : (raw : List ℕ) → get_or (raw ++ 10 ∷ []) (length raw) 0 ≡ 10
last_is [] = refl
last_is (byte ∷ raw) = last_is raw

keeps : (raw : List ℕ) → NoEnds raw → no_cr raw ≡ raw
keeps [] none = refl
keeps (byte ∷ raw) none =
    let k = length (byte ∷ raw) - 1 in
    let last : eqb (get_or (byte ∷ raw) k 0) 13 ≡ false = (or_parts _ _ (all_at (λ other. is_line_end other ≡ false) (byte ∷ raw) none k 0 (omega arith))).1 in
    cond-false _ _ _ (and_right _ _ last)

unended : (raw : List ℕ) → NoEnds raw → without_terminator (raw ++ 10 ∷ []) ≡ raw
unended raw none =
    let ended = raw ++ 10 ∷ [] in
    let size : length ended ≡ length raw + 1 = length-append raw (10 ∷ []) in
    let index : length ended - 1 ≡ length raw = omega (arith, size) in
    let some : ltb 0 (length ended) ≡ true = lt-ltb 0 (length ended) (omega (arith, size)) in
    rw (some, index, last_is raw, take_at raw (10 ∷ []) (length raw) refl) (keeps raw none)

pub cut_line : (raw rest : List ℕ) → NoEnds raw → cut (raw ++ 10 ∷ rest) ≡ raw ∷ cut rest
cut_line raw rest none = ap (map without_terminator) (first_line raw rest none) ∙ ap (λ (t : List ℕ). t ∷ cut rest) (unended raw none)

-- ---- bytes that split into given lines, whatever follows

pub record Shows (bytes : List ℕ) (lines : Lines) : Type 0 where
  pub shows : (rest : List ℕ) → shown (cut (bytes ++ rest)) ≡ lines ++ shown (cut rest)
  pub clean : AllByRecursion (λ byte. is_nul byte ≡ false) bytes

clean_append : (a b : List ℕ) → AllByRecursion (λ byte. is_nul byte ≡ false) a → AllByRecursion (λ byte. is_nul byte ≡ false) b → AllByRecursion (λ byte. is_nul byte ≡ false) (a ++ b)
clean_append [] b p q = q
clean_append (byte ∷ a) b p q = (p.0, clean_append a b p.1 q)

pub shows_then : (a b : List ℕ) (x y : Lines) → Shows a x → Shows b y → Shows (a ++ b) (x ++ y)
shows_then a b x y p q = record {
  shows = λ rest. ap (λ (t : List ℕ). shown (cut t)) (append_assoc a b rest) ∙ p.shows (b ++ rest) ∙ ap (λ (t : Lines). x ++ t) (q.shows rest) ∙ sym (append_assoc x y (shown (cut rest)));
  clean = clean_append a b p.clean q.clean;
}

clean_from : (raw : List ℕ) → NoEnds raw → AllByRecursion (λ byte. is_nul byte ≡ false) raw
clean_from [] none = tt
clean_from (byte ∷ raw) none = ((or_parts _ _ (or_parts _ _ none.0).0).0, clean_from raw none.1)

pub raw_shows : (raw : List ℕ) (lines : Lines) → NoEnds raw → filter is_some_line (trimmed raw ∷ []) ≡ lines → Shows (raw ++ 10 ∷ []) lines
raw_shows raw lines none is = record {
  shows = λ rest.
      ap (λ (t : List ℕ). shown (cut t)) (append_assoc raw (10 ∷ []) rest) ∙ ap shown (cut_line raw rest none)
      ∙ filter-append is_some_line (trimmed raw ∷ []) (map trimmed (cut rest)) ∙ ap (λ (t : Lines). t ++ shown (cut rest)) is;
  clean = clean_append raw (10 ∷ []) (clean_from raw none) (refl, tt);
}

no_ends : (text : List ℕ) → list_any is_line_end text ≡ false → NoEnds text
no_ends [] none = tt
no_ends (byte ∷ text) none = let parts = or_parts _ _ none in (parts.0, no_ends text parts.1)

pub header_shows : Shows (tag_line header) (header ∷ [])
header_shows = raw_shows header (header ∷ []) (no_ends header refl) refl

pub tag_shows : (which : Tag) → Shows (tag which) (name_of which ∷ [])
tag_shows tags.Title = raw_shows (name_of tags.Title) (name_of tags.Title ∷ []) (no_ends (name_of tags.Title) refl) refl
tag_shows tags.Author = raw_shows (name_of tags.Author) (name_of tags.Author ∷ []) (no_ends (name_of tags.Author) refl) refl
tag_shows tags.Copyright = raw_shows (name_of tags.Copyright) (name_of tags.Copyright ∷ []) (no_ends (name_of tags.Copyright) refl) refl
tag_shows tags.Size = raw_shows (name_of tags.Size) (name_of tags.Size ∷ []) (no_ends (name_of tags.Size) refl) refl
tag_shows tags.Grid = raw_shows (name_of tags.Grid) (name_of tags.Grid ∷ []) (no_ends (name_of tags.Grid) refl) refl
tag_shows tags.Across = raw_shows (name_of tags.Across) (name_of tags.Across ∷ []) (no_ends (name_of tags.Across) refl) refl
tag_shows tags.Down = raw_shows (name_of tags.Down) (name_of tags.Down ∷ []) (no_ends (name_of tags.Down) refl) refl
tag_shows tags.Notepad = raw_shows (name_of tags.Notepad) (name_of tags.Notepad ∷ []) (no_ends (name_of tags.Notepad) refl) refl

-- ---- lines of text

pub record IsSpelled (text : List ℕ) : Type 0 where
  pub ends : NoEnds text
  pub front : is_blank (get_or text 0 0) ≡ false
  pub back : is_blank (get_or text (length text - 1) 0) ≡ false
  pub plain : is_tag_line text ≡ false

blank_at : (text : List ℕ) (k : ℕ) → is_blank_at (slice_get text k) ≡ false → is_blank (get_or text k 0) ≡ false
blank_at text k other =
    elim (slice_get_cases text k).1 [
      | inl found ↦ rw (get_or_from_slice_get text k found.0 0 found.2) (rw found.2 at other)
      | inr past ↦ rw (get_or_past text k 0 past.0) refl
    ]

pub spelled_text : (text : List ℕ) → is_spelled text ≡ true → IsSpelled text
unfolding is_spelled
spelled_text text is =
    let outer = and_parts _ _ is in
    let middle = and_parts _ _ outer.0 in
    let inner = and_parts _ _ middle.0 in
    record { ends = no_ends text (not-true _ inner.0); front = blank_at text 0 (not-true _ inner.1); back = blank_at text (length text - 1) (not-true _ middle.1); plain = not-true _ outer.1 }

trimmed_is : (text : List ℕ) → IsSpelled text → trimmed (9 ∷ text) ≡ text
trimmed_is [] is = refl
trimmed_is (byte ∷ text) is = ap trim_back (trim_front-none (byte ∷ text) is.front) ∙ trim_back-none (byte ∷ text) (omega arith) is.back

-- a text as lines: none if it is empty
abbrev pub shown_text : List ℕ → Lines
shown_text [] = []
shown_text (byte ∷ text) = (byte ∷ text) ∷ []

one_shown : (text : List ℕ) → filter is_some_line (text ∷ []) ≡ shown_text text
one_shown [] = refl
one_shown (byte ∷ text) = rw (ne_eqb (suc (length text)) 0 (λ e. omega arith)) refl

pub line_shows : (text : List ℕ) → IsSpelled text → Shows (line text) (shown_text text)
line_shows text is = raw_shows (9 ∷ text) (shown_text text) (refl, is.ends) (ap (λ (t : List ℕ). filter is_some_line (t ∷ [])) (trimmed_is text is) ∙ one_shown text)

clue_parts : (text : List ℕ) → is_clue text ≡ true → IsSpelled text × (shown_text text ≡ text ∷ [])
unfolding is_clue
clue_parts [] is = absurd (false≢true (and_parts false (is_spelled []) is).0)
clue_parts (byte ∷ text) is = (spelled_text (byte ∷ text) (and_parts _ _ is).1, refl)

-- the lines of clues split into these clues
pub clues_show : (texts : Lines) → list_all is_clue texts ≡ true → Shows (flat_map line texts) texts
clues_show [] all = record { shows = λ rest. refl; clean = tt }
clues_show (text ∷ texts) all =
    let parts = and_parts _ _ all in
    let clue = clue_parts text parts.0 in
    subst (λ (t : Lines). Shows (line text ++ flat_map line texts) (t ++ texts)) clue.1 (shows_then (line text) (flat_map line texts) (shown_text text) texts (line_shows text clue.0) (clues_show texts parts.1))

pub all_plain : (texts : Lines) → list_all is_clue texts ≡ true → AllByRecursion (λ text. is_tag_line text ≡ false) texts
all_plain [] all = tt
all_plain (text ∷ texts) all = let parts = and_parts _ _ all in ((clue_parts text parts.0).0.plain, all_plain texts parts.1)
