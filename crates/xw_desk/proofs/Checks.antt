-- How several files are checked one after another.
use Rattle.std.proofs.Common.{◌≡◌, ◌⊎◌, ◌∙◌, ◌++◌, ◌<◌, ◌+◌, inl, inr, refl, sym, ap, subst, suc, ℕ, true, false, List, [], ◌∷◌, Result, Ok, Err, IfOk, drop, get_or, length, map, take}
use Rattle.std.specs.Prelude.{fold, IfErr}
use Rattle.std.proofs.Math.Seq.{drop-cons}
use Rattle.std.proofs.lemmas.List.{map-append, take-append-drop, take_more}
use Rattle.std.specs.Borrow.{Bor}
use Rattle.xw_desk.specs.declared.failure.Failure.{Failure}
use Rattle.xw_desk.specs.declared.failure.Failure.TheVariants as failures
use Rattle.xw_desk.specs.declared.failure.ExitStatus.{ExitStatus}
use Rattle.xw_desk.specs.declared.failure.ExitStatus.TheVariants.{Accepted}
use Rattle.xw_desk.specs.Checked.{AreAllChecked, AreChecked, EndsCheck, IsCheckedInTurn, IsCheckOf, IsUnchecked, IsUncheckedAmong, ends_call, greater}
use Rattle.xw_desk.specs.Desk.{Moment}
use Rattle.xw_desk.specs.Files.{IsUnread}

-- one file more
pub checked_more : (names : List (List ℕ)) (statuses : List ExitStatus) (name : List ℕ) (status : ExitStatus) (old mid new : Moment) → AreChecked names statuses old mid → IsCheckedInTurn name status mid new
    → AreChecked (names ++ name ∷ []) (statuses ++ status ∷ []) old new
checked_more [] [] name status old mid new same turn = (new, subst (λ (m : Moment). IsCheckedInTurn name status m new) same turn, refl)
checked_more [] (s ∷ ss) name status old mid new bad turn = absurd bad
checked_more (n ∷ ns) [] name status old mid new bad turn = absurd bad
checked_more (n ∷ ns) (s ∷ ss) name status old mid new (after, first, rest) turn = (after, first, checked_more ns ss name status after mid new rest turn)

abbrev names_of : List (Bor (List ℕ)) → List (List ℕ)
names_of files = map (λ file. file.now) files

-- the file at i is checked after those before it
pub checked_at : (files : List (Bor (List ℕ))) (i : ℕ) (d : Bor (List ℕ)) (statuses : List ExitStatus) (status : ExitStatus) (old mid new : Moment) → i < length files
    → AreChecked (names_of (take i files)) statuses old mid → IsCheckedInTurn (get_or files i d).now status mid new → AreChecked (names_of (take (i + 1) files)) (statuses ++ status ∷ []) old new
checked_at files i d statuses status old mid new within before turn =
    let names : names_of (take (i + 1) files) ≡ names_of (take i files) ++ (get_or files i d).now ∷ [] = ap names_of (take_more files i d within) ∙ map-append (λ file. file.now) (take i files) (get_or files i d ∷ []) in
    subst (λ (ns : List (List ℕ)). AreChecked ns (statuses ++ status ∷ []) old new) (sym names) (checked_more (names_of (take i files)) statuses (get_or files i d).now status old mid new before turn)

-- the call ends at the file at i
pub ended_at : (files : List (Bor (List ℕ))) (i : ℕ) (d : Bor (List ℕ)) (statuses : List ExitStatus) (failure : Failure) (old mid new : Moment) → i < length files
    → AreChecked (names_of (take i files)) statuses old mid → EndsCheck (get_or files i d).now failure mid new → IsUncheckedAmong (names_of files) failure old new
ended_at files i d statuses failure old mid new within checked ends =
    let parts : names_of files ≡ names_of (take i files) ++ names_of (drop i files) = ap names_of (sym (take-append-drop i files)) ∙ map-append (λ file. file.now) (take i files) (drop i files) in
    let rest : names_of (drop i files) ≡ (get_or files i d).now ∷ names_of (drop (suc i) files) = ap names_of (drop-cons files i d within) in
    record {
      before = names_of (take i files);
      name = (get_or files i d).now;
      after = names_of (drop (suc i) files);
      are = parts ∙ ap (λ (ns : List (List ℕ)). names_of (take i files) ++ ns) rest;
      statuses = statuses;
      mid = mid;
      checked = checked;
      ends = ends;
    }

-- several files
pub all_checked : (names : List (List ℕ)) (result : Result ExitStatus Failure) (old new : Moment) → IfOk result (λ status. (statuses : List ExitStatus) × (status ≡ fold greater Accepted statuses) × AreChecked names statuses old new)
    → IfErr result (λ failure. IsUncheckedAmong names failure old new) → AreAllChecked names result old new
all_checked names (Ok status) old new checked ended = checked
all_checked names (Err failure) old new checked ended = ended

-- a call with no file, or with more than one
pub several : (files : List (Bor (List ℕ))) (result : Result ExitStatus Failure) (old new : Moment) → (length files ≡ 1 → ⊥) → AreAllChecked (names_of files) result old new → IsCheckOf (names_of files) result old new
several [] result old new not all = all
several (file ∷ []) result old new not all = absurd (not refl)
several (one ∷ other ∷ files) result old new not all = all

ends_with : (failure : Failure) (P Q : Type 0) → ends_call failure ≡ false → ((failure ≡ failures.Memory) × P) ⊎ ((failure ≡ failures.Output) × Q) → ⊥
ends_with failure P Q goes_on (inl (memory, p)) = cc
ends_with failure P Q goes_on (inr (output, q)) = cc

-- a file that is not checked, with a failure that does not end the call, was not read
pub not_read : (name : List ℕ) (failure : Failure) (old new : Moment) → ends_call failure ≡ false → IsUnchecked true name failure old new → IsUnread name failure old new
not_read name failure old new goes_on (inl unread) = unread
not_read name failure old new goes_on (inr shown) = absurd (ends_with failure _ _ goes_on shown.why)
