-- Lists that are read in parts: the part that was read, followed by what is read next.
use Rattle.std.proofs.Common.{◌≡◌, List, [], ◌∷◌, ◌++◌, refl, sym, ap, append_assoc, Ok, Err}
use Rattle.std.specs.Prelude.{Result}
use Rattle.xw_files.specs.Steps.{◌>>=◌}
use Rattle.xw_files.specs.declared.fault.ReadFault.{ReadFault}

abbrev pub after : {A : Type 0} → List A → Result (List A) ReadFault → Result (List A) ReadFault
after front read = read >>= λ xs. Ok (front ++ xs)

pub after-none : {A : Type 0} (read : Result (List A) ReadFault) → after [] read ≡ read
after-none (Ok xs) = refl
after-none (Err fault) = refl

pub after-more : {A : Type 0} (front : List A) (x : A) (read : Result (List A) ReadFault) → after front (read >>= λ others. Ok (x ∷ others)) ≡ after (front ++ x ∷ []) read
after-more front x (Ok xs) = ap (λ all. Ok all) (sym (append_assoc front (x ∷ []) xs))
after-more front x (Err fault) = refl
