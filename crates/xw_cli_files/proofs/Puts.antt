-- From what each step does when a puzzle is written to a file to what the whole does.
use Rattle.std.proofs.Common.{◌≡◌, ◌⊎◌, inl, inr, sym, subst, ℕ, List, Result, Ok, Err, IfErr, OnOk}
use Rattle.xw_grid.specs.Puzzle.{PuzzleShown}
use Rattle.xw_disk.specs.Disk.{read, replace, stands}
use Rattle.xw_disk.specs.declared.disk.Standing.{Standing}
use Rattle.xw_desk.specs.declared.failure.Failure.{Failure}
use Rattle.xw_desk.specs.declared.failure.Failure.TheVariants.{Memory}
use Rattle.xw_desk.specs.Desk.{Asks, Moment}
use Rattle.xw_desk.specs.Files.{AreBytesFor, IsUnreplaced}
use Rattle.xw_cli_files.specs.Put.{IsLostUnkept, IsNotKeptFirst, IsNotPutOver, IsPutOver, IsUnkept, KeepsFirst, KeepsFirstAs, ReadsAndKeeps, UnkeptRead}

pub read_kept : {T X : Type 0} (result : Result T X) (P : List ℕ → List ℕ → Moment → Moment → Type 0) (name bytes items : List ℕ) (old mid new : Moment) → bytes ≡ items → Asks (read name (Ok items)) old mid
    → OnOk result (P name bytes mid new) → OnOk result (ReadsAndKeeps P name old new)
read_kept (Ok done) P name bytes items old mid new is reads keeps =
    record { bytes = bytes; mid = mid; reads = subst (λ (b : List ℕ). Asks (read name (Ok b)) old mid) (sym is) reads; keeps = keeps }
read_kept (Err failure) P name bytes items old mid new is reads keeps = tt

pub session_unkept : {T : Type 0} (result : Result T Failure) (name bytes items : List ℕ) (old mid new : Moment) → bytes ≡ items → Asks (read name (Ok items)) old mid → IfErr result (λ failure. IsUnkept name bytes failure mid new)
    → IfErr result (λ failure. UnkeptRead name failure old new)
session_unkept (Ok done) name bytes items old mid new is reads why = tt
session_unkept (Err failure) name bytes items old mid new is reads why =
    inr (record { bytes = bytes; mid = mid; reads = subst (λ (b : List ℕ). Asks (read name (Ok b)) old mid) (sym is) reads; why = inl why })

pub lost_unkept : {T : Type 0} (result : Result T Failure) (name bytes items : List ℕ) (old mid new : Moment) → bytes ≡ items → Asks (read name (Ok items)) old mid
    → IfErr result (λ failure. ((failure ≡ Memory) × (new ≡ mid)) ⊎ IsLostUnkept name bytes failure mid new) → IfErr result (λ failure. UnkeptRead name failure old new)
lost_unkept (Ok done) name bytes items old mid new is reads why = tt
lost_unkept (Err failure) name bytes items old mid new is reads why =
    inr (record { bytes = bytes; mid = mid; reads = subst (λ (b : List ℕ). Asks (read name (Ok b)) old mid) (sym is) reads; why = inr why })

pub kept_first : {T X : Type 0} (result : Result T X) (name : List ℕ) (standing : Standing) (old mid new : Moment) → Asks (stands name standing) old mid → OnOk result (KeepsFirstAs standing name mid new) → OnOk result (KeepsFirst name old new)
kept_first (Ok done) name standing old mid new asks keeps = record { standing = standing; mid = mid; asks = asks; keeps = keeps }
kept_first (Err failure) name standing old mid new asks keeps = tt

pub not_kept_first : {T : Type 0} (result : Result T Failure) (name : List ℕ) (standing : Standing) (old mid new : Moment) → Asks (stands name standing) old mid → IfErr result (λ failure. UnkeptRead name failure mid new)
    → IfErr result (λ failure. IsNotKeptFirst name failure old new)
not_kept_first (Ok done) name standing old mid new asks why = tt
not_kept_first (Err failure) name standing old mid new asks why = inr (record { standing = standing; mid = mid; asks = asks; why = why })

pub put_over : {T X : Type 0} (result : Result T X) (name : List ℕ) (puzzle : PuzzleShown) (bytes items : List ℕ) (old mid new : Moment) → bytes ≡ items → AreBytesFor name puzzle items → KeepsFirst name old mid
    → OnOk result (Asks (replace name bytes (Ok tt)) mid new) → OnOk result (IsPutOver name puzzle old new)
put_over (Ok done) name puzzle bytes items old mid new is are keeps asks =
    record { bytes = bytes; are = subst (λ (b : List ℕ). AreBytesFor name puzzle b) (sym is) are; mid = mid; keeps = keeps; asks = asks }
put_over (Err failure) name puzzle bytes items old mid new is are keeps asks = tt

pub put_in_vain : {T : Type 0} (result : Result T Failure) (name : List ℕ) (puzzle : PuzzleShown) (bytes items : List ℕ) (old mid new : Moment) → bytes ≡ items → AreBytesFor name puzzle items → KeepsFirst name old mid
    → IfErr result (λ failure. IsUnreplaced name bytes failure mid new) → IfErr result (λ failure. IsNotPutOver name puzzle failure old new)
put_in_vain (Ok done) name puzzle bytes items old mid new is are keeps why = tt
put_in_vain (Err failure) name puzzle bytes items old mid new is are keeps why =
    inr (inr (record { bytes = bytes; are = subst (λ (b : List ℕ). AreBytesFor name puzzle b) (sym is) are; mid = mid; keeps = keeps; unreplaced = why }))
