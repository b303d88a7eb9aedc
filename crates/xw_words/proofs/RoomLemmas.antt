-- Lemmas about the room of a dictionary.
use Rattle.std.proofs.Common.{◌≡◌, ◌≢◌, ℕ, ◌<◌, true, false, eqb, List, length, refl, ap, ◌∙◌, arith, map, get_or, set}
use Rattle.std.specs.Prelude.{Result, Ok, Err, OnOk, OnErr}
use Rattle.std.proofs.lemmas.Bool.Decides.{nat_tests}
use Rattle.std.proofs.lemmas.List.{get_or-set_other, map-set}
use Rattle.std.proofs.Math.Seq.{map-set_same}
use Rattle.xw_words.specs.Bank.{KeepsRoom, KeepsOtherRoom, bank_of}
use Rattle.xw_words.specs.Row.{Row}
use Rattle.xw_words.proofs.DictionaryLemmas.{room_set}

-- the room of other lengths stays when one row changes
pub KeepsOtherRoom-set : (rows : List Row) (least len : ℕ) (new : Row) → KeepsOtherRoom len (bank_of rows least) (bank_of (set rows len new) least)
KeepsOtherRoom-set rows least len new = λ other apart there.
    ap (λ rooms. get_or rooms other false) (map-set (λ (r : Row). r.room) rows len new)
    ∙ get_or-set_other (map (λ (r : Row). r.room) rows) len other new.room false apart
    ∙ there

-- all room stays if the changed row keeps its room
pub KeepsRoom-same : (rows : List Row) (least len : ℕ) (old new : Row) → old ≡ get_or rows len old → new.room ≡ old.room → KeepsRoom (bank_of rows least) (bank_of (set rows len new) least)
KeepsRoom-same rows least len old new was same = λ other there.
    ap (λ rooms. get_or rooms other false) (map-set_same (λ (r : Row). r.room) rows len new old (same ∙ ap (λ r. r.room) was)) ∙ there

-- all room stays if the changed row now has room
pub KeepsRoom-made : (rows : List Row) (least len : ℕ) (new : Row) → len < length rows → new.room ≡ true → KeepsRoom (bank_of rows least) (bank_of (set rows len new) least)
KeepsRoom-made rows least len new within made = λ other there.
    elim (eqb other len) as (λ b. eqb other len ≡ b → get_or (map (λ (r : Row). r.room) (set rows len new)) other false ≡ true) [
      | true ↦ λ same.
          let is : other ≡ len = grind (arith, nat_tests) in
          ap (λ n. get_or (map (λ (r : Row). r.room) (set rows len new)) n false) is ∙ room_set rows len new within ∙ made
      | false ↦ λ apart.
          let apart' : other ≢ len = grind (arith, nat_tests) in
          KeepsOtherRoom-set rows least len new other apart' there
    ] refl

-- the same for a call that may fail
pub KeepsRoom-at_err : (rows : List Row) (least len : ℕ) (old new : Row) (T F : Type 0) (answer : Result T F) → old ≡ get_or rows len old → OnErr answer (new.room ≡ old.room) → OnErr answer (KeepsRoom (bank_of rows least) (bank_of (set rows len new) least))
KeepsRoom-at_err rows least len old new T F (Ok value) was same = tt
KeepsRoom-at_err rows least len old new T F (Err fault) was same = KeepsRoom-same rows least len old new was same

-- the same for a call that reserves room unless it fails
pub KeepsRoom-reserved : (rows : List Row) (least len : ℕ) (old new : Row) (T F : Type 0) (answer : Result T F) → len < length rows → old ≡ get_or rows len old → OnOk answer (new.room ≡ true) → OnErr answer (new.room ≡ old.room) → KeepsRoom (bank_of rows least) (bank_of (set rows len new) least)
KeepsRoom-reserved rows least len old new T F (Ok value) within was made same = KeepsRoom-made rows least len new within made
KeepsRoom-reserved rows least len old new T F (Err fault) within was made same = KeepsRoom-same rows least len old new was same

pub room_reserved : (rows : List Row) (len : ℕ) (new : Row) (T F : Type 0) (answer : Result T F) → len < length rows → OnOk answer (new.room ≡ true) → OnOk answer (get_or (map (λ row. row.room) (set rows len new)) len false ≡ true)
room_reserved rows len new T F (Ok value) within made = room_set rows len new within ∙ made
room_reserved rows len new T F (Err fault) within made = tt
