-- From what each step with a file does to what the whole does.
use Rattle.std.proofs.Common.{◌≡◌, ◌∙◌, ◌++◌, append_assoc, inl, inr, refl, sym, ap, subst, ℕ, Bool, true, List, ◌∷◌, Result, Ok, Err, IfOk, IfErr, OnOk}
use Rattle.std.specs.Prelude.{flat_map}
use Rattle.xw_words.specs.Dictionary.{Dictionary}
use Rattle.xw_words.specs.WordList.{listed_in}
use Rattle.xw_text.specs.Lines.{lines_of}
use Rattle.xw_disk.specs.Disk.{leave, read, replace, stands}
use Rattle.xw_disk.specs.declared.disk.DiskFault.{DiskFault}
use Rattle.xw_disk.specs.declared.disk.Standing.{Standing}
use Rattle.xw_arguments.specs.declared.arguments.SessionFiles.{SessionFiles}
use Rattle.xw_desk.specs.declared.failure.Failure.{Failure}
use Rattle.xw_desk.specs.declared.failure.Failure.TheVariants.{Memory}
use Rattle.xw_desk.specs.Desk.{Asks, Moment, Reports}
use Rattle.xw_desk.specs.Files.{IsUnreplaced}
use Rattle.xw_cli_files.specs.Keeping.{Copies, KeepsOld, old_line}
use Rattle.xw_cli_files.specs.ReplayReports.{after_report, explained_reports}
use Rattle.xw_cli_files.specs.Saved.{IsNotOver, IsOver, KeepsAs, Leaves, UnkeptAs, left_line}
use Rattle.xw_cli_files.specs.WordLists.{IsLoaded, IsLoadedTold, IsLoadingTold}

-- ---- the word list

pub loaded : {T X : Type 0} (words : T → Dictionary) (result : Result T X) (name bytes items : List ℕ) (old read_at mid new : Moment) → bytes ≡ items → Asks (read name (Ok items)) old read_at → IsLoadingTold name bytes read_at mid
    → IfOk result (λ bank. words bank ≡ listed_in bytes) → OnOk result (IsLoadedTold name bytes mid new) → IfOk result (λ bank. IsLoaded name (words bank) old new)
loaded words (Ok bank) name bytes items old read_at mid new is asks loading listed told =
    record { bytes = bytes; read_at = read_at; asks = subst (λ (b : List ℕ). Asks (read name (Ok b)) old read_at) (sym is) asks; listed = listed; mid = mid; loading = loading; told = told }
loaded words (Err failure) name bytes items old read_at mid new is asks loading listed told = tt

-- ---- the reports of a replay

-- one more report, with what follows it
pub explained_so_far : (line reports rest after text more : List ℕ) → text ++ explained_reports true rest ≡ explained_reports true reports → lines_of rest ≡ line ∷ lines_of after → more ≡ after_report line
    → ((text ++ line) ++ more) ++ explained_reports true after ≡ explained_reports true reports
explained_so_far line reports rest after text more so_far lines is =
    let placed : ((text ++ line) ++ more) ++ explained_reports true after ≡ text ++ ((line ++ more) ++ explained_reports true after) = simp append_assoc in
    placed ∙ ap (λ (m : List ℕ). text ++ ((line ++ m) ++ explained_reports true after)) is
    ∙ ap (λ (ls : List (List ℕ)). text ++ flat_map (λ l. l ++ after_report l) ls) (sym lines) ∙ so_far

-- ---- a session that replaces a file

pub over : {T X : Type 0} (result : Result T X) (name : List ℕ) (standing : Standing) (is_loss : Bool) (bytes : List ℕ) (old asked mid new : Moment) → Asks (stands name standing) old asked → KeepsAs standing is_loss name bytes asked mid
    → OnOk result (Asks (replace name bytes (Ok tt)) mid new) → OnOk result (IsOver name is_loss bytes old new)
over (Ok done) name standing is_loss bytes old asked mid new asks keeps replaces =
    record { mid = mid; keeps = record { standing = standing; mid = asked; asks = asks; keeps = keeps }; asks = replaces }
over (Err failure) name standing is_loss bytes old asked mid new asks keeps replaces = tt

pub kept_in_vain : {T : Type 0} (result : Result T Failure) (files : SessionFiles) (name : List ℕ) (standing : Standing) (is_loss : Bool) (bytes : List ℕ) (old asked mid new : Moment) → Asks (stands name standing) old asked
    → KeepsAs standing is_loss name bytes asked mid → IfErr result (λ failure. IsUnreplaced name bytes failure mid new) → IfErr result (λ failure. IsNotOver files name is_loss bytes failure old new)
kept_in_vain (Ok done) files name standing is_loss bytes old asked mid new asks keeps why = tt
kept_in_vain (Err failure) files name standing is_loss bytes old asked mid new asks keeps why =
    inr (inr (record { mid = mid; keeps = record { standing = standing; mid = asked; asks = asks; keeps = keeps }; unreplaced = why }))

pub not_kept_over : (files : SessionFiles) (name : List ℕ) (standing : Standing) (is_loss : Bool) (bytes : List ℕ) (failure : Failure) (old asked new : Moment) → Asks (stands name standing) old asked → UnkeptAs standing is_loss name failure asked new
    → IsNotOver files name is_loss bytes failure old new
not_kept_over files name standing is_loss bytes failure old asked new asks why = inr (inl (record { standing = standing; mid = asked; asks = asks; why = why }))

-- ---- a session that is left in another file

pub left_told : (name bytes place shown : List ℕ) (first : Failure) (old mid new : Moment) → shown ≡ place → Asks (leave name bytes (Ok place)) old mid → Reports (left_line name shown) mid new → Leaves name bytes first first old new
left_told name bytes place shown first old mid new is asks told =
    inr (record { place = Ok place; mid = mid; asks = asks; told = inl (refl, subst (λ (p : List ℕ). Reports (left_line name p) mid new) is told) })

pub left_untold : (name bytes place : List ℕ) (first failure : Failure) (old mid new : Moment) → Asks (leave name bytes (Ok place)) old mid → failure ≡ Memory → new ≡ mid → Leaves name bytes first failure old new
left_untold name bytes place first failure old mid new asks memory untold = inr (record { place = Ok place; mid = mid; asks = asks; told = inr (memory, untold) })

pub left_nowhere : (name bytes : List ℕ) (fault : DiskFault) (first : Failure) (old new : Moment) → Asks (leave name bytes (Err fault)) old new → Leaves name bytes first first old new
left_nowhere name bytes fault first old new asks = inr (record { place = Err fault; mid = new; asks = asks; told = (refl, refl) })

-- ---- an old file that is kept

-- the old file is kept, and this is reported
pub kept : {T X : Type 0} (result : Result T X) (is_refused : Bool) (name written : List ℕ) (number : ℕ) (old mid new : Moment) → Copies name number (Ok tt) old mid → OnOk result (Reports (old_line is_refused name number) mid new)
    → OnOk result (KeepsOld is_refused name written old new)
kept (Ok done) is_refused name written number old mid new copies told = inr (record { number = number; mid = mid; copies = copies; told = told })
kept (Err failure) is_refused name written number old mid new copies told = tt
