-- Buffered lines that are written when the buffer is full.
use Rattle.std.proofs.Common.{◌≡◌, ℕ, ◌+◌, ◌<◌, ◌≤◌, List, [], ◌∷◌, ◌++◌, length, take, drop, get_or, refl, sym, ◌∙◌, ap, append_assoc, append-nil, subst, add-one, drop-cons, suc}
use Rattle.std.proofs.lemmas.List.{take-append-drop, take_all, take_more, get_or_default}
use Rattle.std.proofs.lemmas.Grind.{flat_map-append}
use Rattle.std.specs.Prelude.{Result, Ok, Err, flat_map}
use Rattle.xw_lines.specs.Device.{Begins, HasFailed}
use Rattle.xw_lines.specs.Sends.{Sends, Gathers}
use Rattle.xw_lines.proofs.SendsLemmas.{sends-then}
use Rattle.xw_lines.proofs.Texts.{begins-longer, begins-after, append-split_at}

module _ {S : Type 0} (transcript : S → List ℕ) (failures : S → ℕ) where
  -- the buffer was written, and then the text
  pub gathers-sent : {T E : Type 0} (old mid new : S) (before text : List ℕ) (result : Result T E) → (transcript mid ≡ transcript old ++ before) × (failures mid ≡ failures old)
      → Sends transcript failures mid new result text → Gathers transcript failures old new before [] result text
  gathers-sent {T = T} {E = E} old mid new before text (Ok x) sent s =
      let both = sends-then transcript failures {T = T} {E = E} old mid new before text (Ok x) sent s in
      (before ++ text, record { transcript = both.0; parts = sym (append-nil (before ++ text)); quiet = both.1 })
  gathers-sent {T = T} {E = E} old mid new before text (Err e) sent s = sends-then transcript failures {T = T} {E = E} old mid new before text (Err e) sent s

  -- the lines of items are buffered one after another: some of the text is written, some is buffered, and the items
  -- left are neither
  pub next_gathered : {X : Type 0} (text : X → List ℕ) (old mid new : S) (sent out whole before after : List ℕ) (left rest : List X) (item : X)
      → transcript mid ≡ transcript old ++ sent → whole ≡ (sent ++ before) ++ flat_map text left → left ≡ item ∷ rest
      → transcript new ≡ transcript mid ++ out → before ++ text item ≡ out ++ after
      → (transcript new ≡ transcript old ++ (sent ++ out)) × (whole ≡ ((sent ++ out) ++ after) ++ flat_map text rest)
  next_gathered text old mid new sent out whole before after left rest item m w l n parts = (
    n ∙ ap (λ xs. xs ++ out) m ∙ append_assoc (transcript old) sent out,
    w ∙ ap (λ items. (sent ++ before) ++ flat_map text items) l
        ∙ sym (append_assoc (sent ++ before) (text item) (flat_map text rest))
        ∙ ap (λ xs. xs ++ flat_map text rest) (append_assoc sent before (text item) ∙ ap (λ xs. sent ++ xs) parts ∙ sym (append_assoc sent out after)),
  )

  pub next_gathered_stops : {X : Type 0} (text : X → List ℕ) (old mid new : S) (sent whole before : List ℕ) (left rest : List X) (item : X)
      → transcript mid ≡ transcript old ++ sent → failures mid ≡ failures old → whole ≡ (sent ++ before) ++ flat_map text left → left ≡ item ∷ rest
      → Begins (transcript mid) (transcript new) (before ++ text item) × HasFailed (failures mid) (failures new)
      → Begins (transcript old) (transcript new) whole × HasFailed (failures old) (failures new)
  next_gathered_stops text old mid new sent whole before left rest item m f w l s =
      let parts : whole ≡ sent ++ ((before ++ text item) ++ flat_map text rest) =
      w ∙ ap (λ items. (sent ++ before) ++ flat_map text items) l
      ∙ append_assoc sent before (text item ++ flat_map text rest)
      ∙ ap (λ xs. sent ++ xs) (sym (append_assoc before (text item) (flat_map text rest))) in
      let begins = begins-after (transcript old) (transcript mid) (transcript new) sent _ m (begins-longer (transcript mid) (transcript new) (before ++ text item) (flat_map text rest) s.0) in
      let failed : HasFailed (failures old) (failures new) = rw (← f) s.1 in
      (subst (λ xs. Begins (transcript old) (transcript new) xs) (sym parts) begins, failed)

  -- no item is left, and the buffer is written
  pub gathered_all : {X T E : Type 0} (text : X → List ℕ) (old mid new : S) (result : Result T E) (sent whole before : List ℕ) (left : List X)
      → transcript mid ≡ transcript old ++ sent → failures mid ≡ failures old → whole ≡ (sent ++ before) ++ flat_map text left → left ≡ []
      → Sends transcript failures mid new result before → Sends transcript failures old new result whole
  gathered_all text old mid new result sent whole before left m f w l s =
      let parts : whole ≡ sent ++ before = w ∙ ap (λ items. (sent ++ before) ++ flat_map text items) l ∙ append-nil (sent ++ before) in
      subst (λ xs. Sends transcript failures old new result xs) (sym parts) (sends-then transcript failures old mid new sent before result (m, f) s)

  -- a text was buffered, and then another
  pub gathers-then : {T E : Type 0} (F : Type 0) (old mid new : S) (before between after front rest : List ℕ) (result : Result T E)
      → Gathers {T = Unit {0}} {E = F} transcript failures old mid before between (Ok (tt {0})) front → Gathers transcript failures mid new between after result rest
      → Gathers transcript failures old new before after result (front ++ rest)
  gathers-then F old mid new before between after front rest (Ok y) first second = (
    first.0 ++ second.0,
    record {
      transcript = second.1.transcript ∙ ap (λ xs. xs ++ second.0) first.1.transcript ∙ append_assoc (transcript old) first.0 second.0;
      parts = sym (append_assoc before front rest) ∙ ap (λ xs. xs ++ rest) first.1.parts ∙ append_assoc first.0 between rest ∙ ap (λ xs. first.0 ++ xs) second.1.parts ∙ sym (append_assoc first.0 second.0 after);
      quiet = second.1.quiet ∙ first.1.quiet;
    },
  )
  gathers-then F old mid new before between after front rest (Err e) first second =
      let begins = begins-after (transcript old) (transcript mid) (transcript new) first.0 (between ++ rest) first.1.transcript second.0 in
      let parts : first.0 ++ (between ++ rest) ≡ before ++ (front ++ rest) =
      sym (append_assoc first.0 between rest) ∙ ap (λ xs. xs ++ rest) (sym first.1.parts) ∙ append_assoc before front rest in
      let failed : HasFailed (failures old) (failures new) = rw (← first.1.quiet) second.1 in
      (subst (λ xs. Begins (transcript old) (transcript new) xs) parts begins, failed)

  -- the writer failed within the front of a text
  pub gathers-stops : (old new : S) (before front rest : List ℕ) → Begins (transcript old) (transcript new) (before ++ front) × HasFailed (failures old) (failures new)
      → Begins (transcript old) (transcript new) (before ++ (front ++ rest)) × HasFailed (failures old) (failures new)
  gathers-stops old new before front rest s = (
    subst (λ xs. Begins (transcript old) (transcript new) xs) (append_assoc before front rest) (begins-longer (transcript old) (transcript new) (before ++ front) rest s.0),
    s.1,
  )

  -- a text was buffered from an empty buffer on, and the buffer is written
  pub gathers-end : {T E : Type 0} (F : Type 0) (old mid new : S) (after text : List ℕ) (result : Result T E)
      → Gathers {T = Unit {0}} {E = F} transcript failures old mid [] after (Ok (tt {0})) text → Sends transcript failures mid new result after → Sends transcript failures old new result text
  gathers-end F old mid new after text result first s =
      subst (λ xs. Sends transcript failures old new result xs) (sym first.1.parts) (sends-then transcript failures old mid new first.0 after result (first.1.transcript, first.1.quiet) s)

  -- nothing is buffered
  pub gathers-nothing : (E : Type 0) (old : S) (before : List ℕ) → Gathers {T = Unit {0}} {E = E} transcript failures old old before before (Ok (tt {0})) []
  gathers-nothing E old before = ([], record { transcript = sym (append-nil (transcript old)); parts = append-nil before; quiet = refl })

  -- room was made, and a text is buffered
  pub gathers-pushed : (F : Type 0) (old mid : S) (before between after text : List ℕ) → Gathers {T = Unit {0}} {E = F} transcript failures old mid before between (Ok (tt {0})) [] → after ≡ between ++ text
      → Gathers {T = Unit {0}} {E = F} transcript failures old mid before after (Ok (tt {0})) text
  gathers-pushed F old mid before between after text room pushed = (
    room.0,
    record {
      transcript = room.1.transcript;
      parts = ap (λ xs. xs ++ text) (sym (append-nil before) ∙ room.1.parts) ∙ append_assoc room.0 between text ∙ ap (λ xs. room.0 ++ xs) (sym pushed);
      quiet = room.1.quiet;
    },
  )

  -- the writer failed within a text after another
  pub stops-in : (old mid new : S) (before between front text rest whole : List ℕ) → whole ≡ front ++ (text ++ rest)
      → Gathers {T = Unit {0}} {E = Unit {0}} transcript failures old mid before between (Ok (tt {0})) front
      → Begins (transcript mid) (transcript new) (between ++ text) × HasFailed (failures mid) (failures new)
      → Begins (transcript old) (transcript new) (before ++ whole) × HasFailed (failures old) (failures new)
  stops-in old mid new before between front text rest whole is first s =
      let both = gathers-then {T = Unit {0}} {E = Unit {0}} (Unit {0}) old mid new before between between front text (Err (tt {0})) first s in
      let longer = gathers-stops old new before (front ++ text) rest both in
      let same : (front ++ text) ++ rest ≡ whole = append_assoc front text rest ∙ sym is in
      (subst (λ xs. Begins (transcript old) (transcript new) (before ++ xs)) same longer.0, longer.1)

  -- the texts of the first items were buffered, and that of one more
  module _ {X : Type 0} (text : X → List ℕ) (items : List X) (at : ℕ) (item : X) (h : at < length items) (is : item ≡ get_or items at item) where
    pub item_gathered : (old mid new : S) (before between after : List ℕ) → Gathers {T = Unit {0}} {E = Unit {0}} transcript failures old mid before between (Ok (tt {0})) (flat_map text (take at items))
        → Gathers {T = Unit {0}} {E = Unit {0}} transcript failures mid new between after (Ok (tt {0})) (text item) → Gathers {T = Unit {0}} {E = Unit {0}} transcript failures old new before after (Ok (tt {0})) (flat_map text (take (at + 1) items))
    item_gathered old mid new before between after first second =
        let more : take (at + 1) items ≡ take at items ++ item ∷ [] = take_more items at item h ∙ ap (λ x. take at items ++ x ∷ []) (sym is) in
        let whole : flat_map text (take at items) ++ text item ≡ flat_map text (take (at + 1) items) =
        sym (ap (flat_map text) more ∙ flat_map-append text (take at items) (item ∷ []) ∙ ap (λ ys. flat_map text (take at items) ++ ys) (append-nil (text item))) in
        subst (λ xs. Gathers {T = Unit {0}} {E = Unit {0}} transcript failures old new before after (Ok (tt {0})) xs) whole
        (gathers-then {T = Unit {0}} {E = Unit {0}} (Unit {0}) old mid new before between after (flat_map text (take at items)) (text item) (Ok (tt {0})) first second)

    -- the buffer was empty, and the writer failed within the next text
    pub item_stops : (old mid new : S) (between : List ℕ) → Gathers {T = Unit {0}} {E = Unit {0}} transcript failures old mid [] between (Ok (tt {0})) (flat_map text (take at items))
        → Begins (transcript mid) (transcript new) (between ++ text item) × HasFailed (failures mid) (failures new)
        → Begins (transcript old) (transcript new) (flat_map text items) × HasFailed (failures old) (failures new)
    item_stops old mid new between first s =
        let next : drop at items ≡ item ∷ drop (at + 1) items = rw add-one (drop-cons items at item h ∙ ap (λ x. x ∷ drop (suc at) items) (sym is)) in
        let whole : flat_map text items ≡ flat_map text (take at items) ++ (text item ++ flat_map text (drop (at + 1) items)) =
        ap (flat_map text) (sym (take-append-drop at items) ∙ ap (λ xs. take at items ++ xs) next) ∙ flat_map-append text (take at items) (item ∷ drop (at + 1) items) in
        stops-in old mid new [] between (flat_map text (take at items)) (text item) (flat_map text (drop (at + 1) items)) _ whole first s

  -- the texts of all items were buffered from an empty buffer on, and it is written
  pub items_end : {X T E : Type 0} (text : X → List ℕ) (items : List X) (old mid new : S) (after : List ℕ) (at : ℕ) (result : Result T E) → length items ≤ at
      → Gathers {T = Unit {0}} {E = Unit {0}} transcript failures old mid [] after (Ok (tt {0})) (flat_map text (take at items)) → Sends transcript failures mid new result after
      → Sends transcript failures old new result (flat_map text items)
  items_end text items old mid new after at result past first s =
      subst (λ xs. Sends transcript failures old new result (flat_map text xs)) (take_all at items past) (gathers-end (Unit {0}) old mid new after (flat_map text (take at items)) result first s)

  -- one more letter of a word
  module _ (letters : List ℕ) (at byte item : ℕ) (h : at < length letters) (is : item ≡ get_or letters at item) (same : byte ≡ item) where
    there : byte ≡ get_or letters at 0
    there = same ∙ is ∙ get_or_default letters at item 0 h

    pub letter_gathered : (old mid new : S) (before between after : List ℕ) → Gathers {T = Unit {0}} {E = Unit {0}} transcript failures old mid before between (Ok (tt {0})) (take at letters)
        → Gathers {T = Unit {0}} {E = Unit {0}} transcript failures mid new between after (Ok (tt {0})) (byte ∷ []) → Gathers {T = Unit {0}} {E = Unit {0}} transcript failures old new before after (Ok (tt {0})) (take (at + 1) letters)
    letter_gathered old mid new before between after first second =
        let more : take at letters ++ byte ∷ [] ≡ take (at + 1) letters = ap (λ x. take at letters ++ x ∷ []) there ∙ sym (take_more letters at 0 h) in
        subst (λ text. Gathers {T = Unit {0}} {E = Unit {0}} transcript failures old new before after (Ok (tt {0})) text) more
        (gathers-then {T = Unit {0}} {E = Unit {0}} (Unit {0}) old mid new before between after (take at letters) (byte ∷ []) (Ok (tt {0})) first second)

    pub letter_stops : (old mid new : S) (before between : List ℕ) → Gathers {T = Unit {0}} {E = Unit {0}} transcript failures old mid before between (Ok (tt {0})) (take at letters)
        → Begins (transcript mid) (transcript new) (between ++ byte ∷ []) × HasFailed (failures mid) (failures new)
        → Begins (transcript old) (transcript new) (before ++ letters) × HasFailed (failures old) (failures new)
    letter_stops old mid new before between first s =
        let whole : letters ≡ take at letters ++ (byte ∷ drop (at + 1) letters) = sym (append-split_at [] letters at h) ∙ ap (λ x. take at letters ++ x ∷ drop (at + 1) letters) (sym there) in
        stops-in old mid new before between (take at letters) (byte ∷ []) (drop (at + 1) letters) letters whole first s
