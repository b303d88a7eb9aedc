use Rattle.std.proofs.Common.{◌≡◌, ◌++◌, ◌-◌, ap, ℕ, Bool, List, arith, length, subst}
use Rattle.xw_words.specs.WordList.{results_of}
use Rattle.xw_desk.specs.Desk.{Moment, Reports}
use Rattle.xw_cli_files.specs.WordLists.{AreNotes, added_in, counts_line}
use Rattle.xw_cli_files.proofs.word_list.dictionary_of.Goals as goal

-- counts and notes that are written are written with other names for them
told_as : (old new : Moment) (name : List ℕ) (added added' skipped skipped' : ℕ) (notes notes' : List ℕ) → added ≡ added' → skipped ≡ skipped' → notes ≡ notes'
    → Reports (counts_line name added skipped ++ notes) old new → Reports (counts_line name added' skipped' ++ notes') old new
told_as old new name added added' skipped skipped' notes notes' a s n reports =
    subst (λ (k : ℕ). Reports (counts_line name k skipped' ++ notes') old new) a
    (subst (λ (k : ℕ). Reports (counts_line name added k ++ notes') old new) s
    (subst (λ (t : List ℕ). Reports (counts_line name added skipped ++ t) old new) n reports))

pub returns-in-Ok-clause-told : goal.returns-in-Ok-clause-told
returns-in-Ok-clause-told g c =
    let notes = c.in_ok-notes.notes.bytes.items in
    let bytes = c.args.bytes.now in
    let added : c.in-Ok.loaded.added ≡ added_in bytes = c.in-Ok.ensures.added in
    let skipped : c.in-Ok.loaded.skipped ≡ length (results_of bytes) - added_in bytes = omega (arith, c.in-Ok.ensures.added, c.in-Ok.ensures.lines) in
    let told = told_as c.args.desk.now c.tell_loaded.new.desk c.args.file.now c.in-Ok.loaded.added (added_in bytes) c.in-Ok.loaded.skipped (length (results_of bytes) - added_in bytes)
    c.as_str.result.now notes added skipped c.as_str.ensures.value c.in_ok-tell_loaded-in-Ok.ensures.told in
    (notes, subst (λ (due : Bool). AreNotes due notes) (ap (λ (moment : Moment). moment.explains) c.desk.view_is) c.in_ok-notes.ensures, told)
