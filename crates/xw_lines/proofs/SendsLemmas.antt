-- Texts written one after another.
use Rattle.std.proofs.Common.{◌≡◌, ℕ, List, ◌++◌, sym, ◌∙◌, ap, append_assoc}
use Rattle.std.specs.Prelude.{Result, Ok, Err}
use Rattle.xw_lines.specs.Device.{Begins, HasFailed}
use Rattle.xw_lines.specs.Sends.{Sends}
use Rattle.std.proofs.Common.{◌+◌, ◌-◌, zero, refl, ◌<◌, ◌≤◌, arith, [], append-nil, ◌∷◌, length, take, drop, get_or, flat_map, subst, add-one, drop-cons, suc}
use Rattle.std.proofs.lemmas.List.{take-append-drop, take_more, take_all, get_or_default}
use Rattle.std.proofs.lemmas.Grind.{flat_map-append}
use Rattle.xw_lines.proofs.Texts.{begins-longer, begins-after}

-- taking one of the items that are due
pub take_due : {X : Type 0} (due : ℕ) (left rest : List X) (item : X) → (due ≡ 0 → ⊥) → left ≡ item ∷ rest → take due left ≡ item ∷ take (due - 1) rest
take_due zero left rest item some is = absurd (some refl)
take_due (suc n) left rest item some is = let less : suc n - 1 ≡ n = omega arith in rw less (ap (take (suc n)) is)

module _ {S : Type 0} (transcript : S → List ℕ) (failures : S → ℕ) where
  -- the front of a text was written, and then the rest
  pub sends-then : {T E : Type 0} (old mid new : S) (front rest : List ℕ) (result : Result T E) → (transcript mid ≡ transcript old ++ front) × (failures mid ≡ failures old) → Sends transcript failures mid new result rest → Sends transcript failures old new result (front ++ rest)
  sends-then old mid new front rest (Ok x) sent s = (s.0 ∙ ap (λ xs. xs ++ rest) sent.0 ∙ append_assoc (transcript old) front rest, s.1 ∙ sent.1)
  sends-then old mid new front rest (Err e) sent s =
      let failed : HasFailed (failures old) (failures new) = rw (← sent.1) s.1 in
      (begins-after (transcript old) (transcript mid) (transcript new) front rest sent.0 s.0, failed)

  -- a prefix of the front is a prefix of the text
  pub stops-within : (old new : S) (front rest : List ℕ) → Begins (transcript old) (transcript new) front × HasFailed (failures old) (failures new) → Begins (transcript old) (transcript new) (front ++ rest) × HasFailed (failures old) (failures new)
  stops-within old new front rest s = (begins-longer (transcript old) (transcript new) front rest s.0, s.1)

  -- the texts of the first items were written, and a prefix of the next one
  pub stops-in-each : {X : Type 0} (text : X → List ℕ) (items : List X) (old mid new : S) (at : ℕ) (item : X) → at < length items → item ≡ get_or items at item
      → (transcript mid ≡ transcript old ++ flat_map text (take at items)) × (failures mid ≡ failures old)
      → Begins (transcript mid) (transcript new) (text item) × HasFailed (failures mid) (failures new)
      → Begins (transcript old) (transcript new) (flat_map text items) × HasFailed (failures old) (failures new)
  stops-in-each text items old mid new at item h is sent s =
      let next : drop at items ≡ item ∷ drop (at + 1) items = rw add-one (drop-cons items at item h ∙ ap (λ x. x ∷ drop (suc at) items) (sym is)) in
      let parts : flat_map text items ≡ flat_map text (take at items) ++ (text item ++ flat_map text (drop (at + 1) items)) =
      ap (flat_map text) (sym (take-append-drop at items) ∙ ap (λ xs. take at items ++ xs) next)
      ∙ flat_map-append text (take at items) (item ∷ drop (at + 1) items) in
      let whole = begins-after (transcript old) (transcript mid) (transcript new) _ _ sent.0 (begins-longer (transcript mid) (transcript new) (text item) (flat_map text (drop (at + 1) items)) s.0) in
      let failed : HasFailed (failures old) (failures new) = rw (← sent.1) s.1 in
      (subst (λ xs. Begins (transcript old) (transcript new) xs) (sym parts) whole, failed)

  -- the texts of some items were written, and a prefix of the next one
  pub next_stops : {X : Type 0} (text : X → List ℕ) (old mid new : S) (sent whole : List ℕ) (left rest : List X) (item : X)
      → transcript mid ≡ transcript old ++ sent → failures mid ≡ failures old → whole ≡ sent ++ flat_map text left → left ≡ item ∷ rest
      → Begins (transcript mid) (transcript new) (text item) × HasFailed (failures mid) (failures new)
      → Begins (transcript old) (transcript new) whole × HasFailed (failures old) (failures new)
  next_stops text old mid new sent whole left rest item m f w l s =
      let parts : whole ≡ sent ++ (text item ++ flat_map text rest) = w ∙ ap (λ items. sent ++ flat_map text items) l in
      let begins = begins-after (transcript old) (transcript mid) (transcript new) sent _ m (begins-longer (transcript mid) (transcript new) (text item) (flat_map text rest) s.0) in
      let failed : HasFailed (failures old) (failures new) = rw (← f) s.1 in
      (subst (λ xs. Begins (transcript old) (transcript new) xs) (sym parts) begins, failed)

  -- the text of one more item was written
  pub each_sent : {X : Type 0} (text : X → List ℕ) (items : List X) (old mid new : S) (at : ℕ) (d : X) → at < length items
      → transcript mid ≡ transcript old ++ flat_map text (take at items) → transcript new ≡ transcript mid ++ text (get_or items at d)
      → transcript new ≡ transcript old ++ flat_map text (take (at + 1) items)
  each_sent text items old mid new at d h m s =
      let parts : flat_map text (take (at + 1) items) ≡ flat_map text (take at items) ++ text (get_or items at d) =
      ap (flat_map text) (take_more items at d h) ∙ flat_map-append text (take at items) (get_or items at d ∷ []) ∙ ap (λ ys. flat_map text (take at items) ++ ys) (append-nil (text (get_or items at d))) in
      s ∙ ap (λ xs. xs ++ text (get_or items at d)) m ∙ append_assoc (transcript old) _ _ ∙ ap (λ xs. transcript old ++ xs) (sym parts)

  pub each_stops : {X : Type 0} (text : X → List ℕ) (items : List X) (old mid new : S) (at : ℕ) (d : X) → at < length items
      → (transcript mid ≡ transcript old ++ flat_map text (take at items)) × (failures mid ≡ failures old)
      → Begins (transcript mid) (transcript new) (text (get_or items at d)) × HasFailed (failures mid) (failures new)
      → Begins (transcript old) (transcript new) (flat_map text items) × HasFailed (failures old) (failures new)
  each_stops text items old mid new at d h sent s =
      stops-in-each text items old mid new at (get_or items at d) h (get_or_default items at d (get_or items at d) h) sent s

  pub each_all : {X : Type 0} (text : X → List ℕ) (items : List X) (old new : S) (at : ℕ) → length items ≤ at
      → (transcript new ≡ transcript old ++ flat_map text (take at items)) × (failures new ≡ failures old)
      → (transcript new ≡ transcript old ++ flat_map text items) × (failures new ≡ failures old)
  each_all text items old new at h m = (m.0 ∙ ap (λ xs. transcript old ++ flat_map text xs) (take_all at items h), m.1)
