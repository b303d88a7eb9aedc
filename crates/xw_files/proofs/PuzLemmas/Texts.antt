-- NUL-terminated texts.
use Rattle.std.proofs.Common.{◌≡◌, ◌≢◌, ℕ, zero, suc, ◌+◌, ◌-◌, ◌<◌, List, [], ◌∷◌, ◌++◌, length, take, drop, get_or, nat_eq, Bool, true, false, cond, refl, ap, arith, add-one, rules, Ok, Err}
use Rattle.std.specs.Prelude.{Result}
use Rattle.std.proofs.lemmas.Grind.{common_steps}
use Rattle.xw_files.specs.Puz.Spelling.{HasNoNul}
use Rattle.xw_files.specs.Steps.{◌>>=◌}
use Rattle.xw_files.specs.Puz.Reading.{text_at}
use Rattle.xw_files.specs.declared.fault.TextName.{TextName}
use Rattle.xw_files.specs.declared.fault.ReadFault.{ReadFault}
use Rattle.xw_files.specs.declared.fault.ReadFault.TheVariants.{NoNul}

no_nul : (b : ℕ) → b ≢ 0 → nat_eq b 0 ≡ false
no_nul b h = search rules

-- the text ends at the first NUL
pub text_at-found : (which : TextName) (bytes : List ℕ) (end : ℕ) → end < length bytes → get_or bytes end 0 ≡ 0 → ((k : ℕ) → k < end → get_or bytes k 0 ≡ 0 → ⊥)
    → text_at which bytes ≡ Ok (take end bytes, drop (end + 1) bytes)
text_at-found which [] end h z before = absurd (omega arith)
text_at-found which (b ∷ bytes) zero h z before = rw z refl
text_at-found which (b ∷ bytes) (suc end) h z before =
    let full : nat_eq b 0 ≡ false = no_nul b (before 0 (omega arith)) in
    let rest = text_at-found which bytes end (omega arith) z (λ k l. before (suc k) (omega arith)) in
    rw (full, rest, add-one, add-one) refl

-- without a NUL there is no text
pub text_at-none : (which : TextName) (bytes : List ℕ) → ((k : ℕ) → k < length bytes → get_or bytes k 0 ≡ 0 → ⊥) → text_at which bytes ≡ Err (NoNul which)
text_at-none which [] before = refl
text_at-none which (b ∷ bytes) before =
    let full : nat_eq b 0 ≡ false = no_nul b (before 0 (omega arith)) in
    let rest = text_at-none which bytes (λ k l. before (suc k) (omega arith)) in
    rw (full, rest) refl

-- the rest from an index on, as `&bytes[at..]` gives it
pub range_from-drop : (bytes : List ℕ) (at : ℕ) → take (length bytes - at) (drop at bytes) ≡ drop at bytes
range_from-drop bytes at = grind (arith, common_steps)

pub text_at-again : (which : TextName) (text rest : List ℕ) → HasNoNul text → text_at which (text ++ 0 ∷ rest) ≡ Ok (text, rest)
text_at-again which [] rest h = refl
text_at-again which (b ∷ text) rest h =
    let full : nat_eq b 0 ≡ false = no_nul b h.0 in
    rw (full, text_at-again which text rest h.1) refl

ok_pair : (p q : List ℕ × List ℕ) → let R : Type 0 = Result (List ℕ × List ℕ) ReadFault in let l : R = Ok p in let r : R = Ok q in l ≡ r → p ≡ q
ok_pair p q e = cc

-- one more byte in front of a text
step-found : (which : TextName) (is_nul : Bool) (b : ℕ) (bytes text rest : List ℕ) (read : Result (List ℕ × List ℕ) ReadFault)
    → nat_eq b 0 ≡ is_nul
    → ((t r : List ℕ) → read ≡ Ok (t, r) → HasNoNul t × (bytes ≡ t ++ 0 ∷ r))
    → cond {A = Result (List ℕ × List ℕ) ReadFault} is_nul (Ok ([], bytes)) (read >>= λ x. Ok (b ∷ x.0, x.1)) ≡ Ok (text, rest) → HasNoNul text × (b ∷ bytes ≡ text ++ 0 ∷ rest)
step-found which true b bytes text rest read n ih e =
    let zero-is : b ≡ 0 = search (rules, n) in
    let p = ok_pair ([], bytes) (text, rest) e in
    let t : [] ≡ text = ap (λ (q : List ℕ × List ℕ). q.0) p in
    let r : bytes ≡ rest = ap (λ (q : List ℕ × List ℕ). q.1) p in
    rw (← t) (tt, rw (zero-is, r) refl)
step-found which false b bytes text rest (Ok x) n ih e =
    let p = ok_pair (b ∷ x.0, x.1) (text, rest) e in
    let t : b ∷ x.0 ≡ text = ap (λ (q : List ℕ × List ℕ). q.0) p in
    let r : x.1 ≡ rest = ap (λ (q : List ℕ × List ℕ). q.1) p in
    let is = ih x.0 x.1 refl in
    let not_nul : b ≢ 0 = λ z. (let bad : nat_eq b 0 ≡ true = rw z refl in cc) in
    rw (← t, ← r) ((not_nul, is.0), ap (λ xs. b ∷ xs) is.1)
step-found which false b bytes text rest (Err f) n ih e = cc

pub text_at-takes : (which : TextName) (bytes text rest : List ℕ) → text_at which bytes ≡ Ok (text, rest) → HasNoNul text × (bytes ≡ text ++ 0 ∷ rest)
text_at-takes which [] text rest e = cc
text_at-takes which (b ∷ bytes) text rest e = step-found which (nat_eq b 0) b bytes text rest (text_at which bytes) refl (λ t r h. text_at-takes which bytes t r h) e
